use Rattle.std.proofs.Common.{◌≡◌, ◌-◌, List, Option, map, length, ap, sym, subst, refl, ◌∙◌, ◌++◌, Some, slice_get}
use Rattle.wcontext.specs.Lists.{prefix_of}
use Rattle.std.specs.Prelude.{IfSome}
use Rattle.wsyntax.specs.declared.ValType.{ValType}
use Rattle.wsyntax.specs.Types.{FuncType}
use Rattle.wcheck.specs.Runs.{types_in, last_types}
use Rattle.wcheck.specs.Heights.{all_of}
use Rattle.wcheck.proofs.Topmost.{last_of_prefix, ends_in_none, ends_in_shared}
use Rattle.wcheck.proofs.FrameOperands.{all_items}
use Rattle.wcheck.proofs.operand_stack.OperandStack.ends_in_run.Goals as goal

pub returns-in_default-clause-last : goal.returns-in_default-clause-last
returns-in_default-clause-last c = ends_in_none (all_of c.args.self.now) (prefix_of c.args.self.now.types c.args.prefix)

pub returns-in_default-last-clause-last : goal.returns-in_default-last-clause-last
returns-in_default-last-clause-last c = ends_in_none (all_of c.args.self.now) (prefix_of c.args.self.now.types c.args.prefix)

pub returns-then-not-is_run-clause-last : goal.returns-then-not-is_run-clause-last
returns-then-not-is_run-clause-last c = ends_in_none (all_of c.args.self.now) (prefix_of c.args.self.now.types c.args.prefix)

pub returns-clause-last : goal.returns-clause-last
returns-clause-last c =
    let types = c.self.inside.context.now.context.types in
    let run = c.in-Some-last.run'.now in
    let last = last_of_prefix types types c.self.inside.entries.items c.self.inside.runs.items (all_of c.args.self.now) c.in-Some.entry.now run (sym (all_items (types_in c.self.inside.entries.items (map (prefix_of c.self.inside.context.now.context.types) c.self.inside.runs.items)) c.self.inside.context.now.context.types c.self.inside.base c.self.inside.unreachable c.args.self.now c.self.view_is)) (c.in-Some.ensures.value ∙ ap (λ z. slice_get z (length z - 1)) c.deref.ensures.value) (sym c.is_run.ensures ∙ c.if-not-is_run.false) (c.in-Some-last.ensures.value ∙ ap (λ z. slice_get z (length z - 1)) c.deref-2.ensures.value) refl in
    subst (λ (z : List FuncType). IfSome c.shared_end.result (λ n. (x : List (Option ValType)) × ((all_of c.args.self.now) ≡ x ++ map Some (last_types n (prefix_of z c.args.prefix))))) (ap (λ z. z.types) c.self.view_is) (ends_in_shared (all_of c.args.self.now) (prefix_of types c.args.prefix) (prefix_of types run) c.shared_end.result last c.shared_end.ensures.second c.shared_end.ensures.same)
