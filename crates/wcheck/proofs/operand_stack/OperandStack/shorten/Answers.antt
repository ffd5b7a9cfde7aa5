use Rattle.std.proofs.Common.{ℕ, ◌≡◌, ◌<◌, ◌≤◌, ◌-◌, Bool, List, Option, Some, length, map, take, get_or, slice_get, suc, ap, sym, refl, subst, ◌∙◌, arith}
use Rattle.std.proofs.lemmas.Option.{slice_get-get_or}
use Rattle.wsyntax.specs.declared.ValType.{ValType}
use Rattle.wsyntax.specs.Types.{FuncType}
use Rattle.wcontext.specs.Lists.{prefix_of}
use Rattle.wcheck.specs.declared.entry.StackEntry.{StackEntry}
use Rattle.wcheck.specs.Heights.{Stacked, stacked, all_of}
use Rattle.wcheck.specs.Runs.{types_in, run_at, IsCounted}
use Rattle.wcheck.proofs.Shortened.{nonempty, one_less, one_less_counted, there_is, is_counted, cut_less, cut_counted, run_less, run_less_counted, last_run_written, last_run_cut, last_run_gone}
use Rattle.wcheck.proofs.LastItems.{split_at_last}
use Rattle.wcheck.proofs.Topmost.{last_single, last_in_run}
use Rattle.wcheck.proofs.FrameOperands.{all_items, frame_size, short_above, short_below, short_enough}
use Rattle.wcheck.proofs.operand_stack.OperandStack.shorten.Goals as goal

there : (xs : List StackEntry) (rs : List (List ValType)) (v : List (Option ValType)) (by : ℕ) → types_in xs rs ≡ v → 0 < by → by ≤ length v → 0 < length xs
there xs rs v by w lt le = nonempty xs rs v w (omega (arith, lt, le))

by_fits : (by : ℕ) (xs : List (Option ValType)) (types : List FuncType) (b : ℕ) (d : Bool) (s : Stacked) → stacked xs types b d ≡ s → by ≤ length s.above.known → by ≤ length xs
by_fits by xs types b d s w le = omega (arith, le, frame_size xs types b d s w)

last_is : (xs : List StackEntry) (n : ℕ) (x : StackEntry) → n ≡ length xs → 0 < length xs → x ≡ get_or xs (n - 1) x → Some x ≡ slice_get xs (length xs - 1)
last_is xs n x c lt e =
    ap Some (e ∙ ap (λ k. get_or xs (k - 1) x) c) ∙ sym (slice_get-get_or xs (length xs - 1) x (omega (arith, lt)))

pub overflow_sub-last : goal.overflow_sub-last
overflow_sub-last c =
    omega (arith, c.len-last.ensures, c.self.inside.entries.ok.0, there c.self.inside.entries.items (map (prefix_of c.self.inside.context.now.context.types) c.self.inside.runs.items) (types_in c.self.inside.entries.items (map (prefix_of c.self.inside.context.now.context.types) c.self.inside.runs.items)) c.args.by refl c.requires.some (by_fits c.args.by (types_in c.self.inside.entries.items (map (prefix_of c.self.inside.context.now.context.types) c.self.inside.runs.items)) c.self.inside.context.now.context.types c.self.inside.base c.self.inside.unreachable c.args.self.now c.self.view_is c.requires.there))

pub index-entry-requires : goal.index-entry-requires
index-entry-requires c =
    omega (arith, c.len-last.ensures, c.self.inside.entries.ok.0, there c.self.inside.entries.items (map (prefix_of c.self.inside.context.now.context.types) c.self.inside.runs.items) (types_in c.self.inside.entries.items (map (prefix_of c.self.inside.context.now.context.types) c.self.inside.runs.items)) c.args.by refl c.requires.some (by_fits c.args.by (types_in c.self.inside.entries.items (map (prefix_of c.self.inside.context.now.context.types) c.self.inside.runs.items)) c.self.inside.context.now.context.types c.self.inside.base c.self.inside.unreachable c.args.self.now c.self.view_is c.requires.there))

pub invariant_of-self : goal.invariant_of-self
invariant_of-self c =
    (subst (λ z. IsCounted z (map (prefix_of c.self.inside.context.now.context.types) c.self.inside.runs.items) c.self.inside.run_surplus) (sym c.truncate.ensures.items) (one_less_counted c.self.inside.entries.items (map (prefix_of c.self.inside.context.now.context.types) c.self.inside.runs.items) c.index-entry.result.now (types_in c.self.inside.entries.items (map (prefix_of c.self.inside.context.now.context.types) c.self.inside.runs.items)) (c.len-last.result - 1) refl (split_at_last c.self.inside.entries.items c.len-last.result (c.len-last.result - 1) c.index-entry.result.now (c.len-last.ensures ∙ c.self.inside.entries.ok.0) refl (there c.self.inside.entries.items (map (prefix_of c.self.inside.context.now.context.types) c.self.inside.runs.items) (types_in c.self.inside.entries.items (map (prefix_of c.self.inside.context.now.context.types) c.self.inside.runs.items)) c.args.by refl c.requires.some (by_fits c.args.by (types_in c.self.inside.entries.items (map (prefix_of c.self.inside.context.now.context.types) c.self.inside.runs.items)) c.self.inside.context.now.context.types c.self.inside.base c.self.inside.unreachable c.args.self.now c.self.view_is c.requires.there)) c.index-entry.ensures) c.self.inside.run_surplus (ap (λ z. run_at c.index-entry.result.now (map (prefix_of c.self.inside.context.now.context.types) z)) (sym c.deref.ensures.value) ∙ c.in-None.ensures.found) c.self.invariant.0), short_enough (types_in c.self.inside.entries.items (map (prefix_of c.self.inside.context.now.context.types) c.self.inside.runs.items)) _ c.self.inside.context.now.context.types c.self.inside.base c.self.inside.unreachable c.args.self.now c.self.view_is 1 (ap (λ z. types_in z (map (prefix_of c.self.inside.context.now.context.types) c.self.inside.runs.items)) c.truncate.ensures.items ∙ one_less c.self.inside.entries.items (map (prefix_of c.self.inside.context.now.context.types) c.self.inside.runs.items) c.index-entry.result.now (types_in c.self.inside.entries.items (map (prefix_of c.self.inside.context.now.context.types) c.self.inside.runs.items)) (c.len-last.result - 1) refl (split_at_last c.self.inside.entries.items c.len-last.result (c.len-last.result - 1) c.index-entry.result.now (c.len-last.ensures ∙ c.self.inside.entries.ok.0) refl (there c.self.inside.entries.items (map (prefix_of c.self.inside.context.now.context.types) c.self.inside.runs.items) (types_in c.self.inside.entries.items (map (prefix_of c.self.inside.context.now.context.types) c.self.inside.runs.items)) c.args.by refl c.requires.some (by_fits c.args.by (types_in c.self.inside.entries.items (map (prefix_of c.self.inside.context.now.context.types) c.self.inside.runs.items)) c.self.inside.context.now.context.types c.self.inside.base c.self.inside.unreachable c.args.self.now c.self.view_is c.requires.there)) c.index-entry.ensures) (ap (λ z. run_at c.index-entry.result.now (map (prefix_of c.self.inside.context.now.context.types) z)) (sym c.deref.ensures.value) ∙ c.in-None.ensures.found)) (omega (arith, c.requires.some, c.requires.there)) c.self.invariant.1)

pub returns-in-None-clause-above : goal.returns-in-None-clause-above
returns-in-None-clause-above c =
    (1, omega arith, omega (arith, c.requires.some), short_above (types_in c.self.inside.entries.items (map (prefix_of c.self.inside.context.now.context.types) c.self.inside.runs.items)) _ c.self.inside.context.now.context.types c.self.inside.base c.self.inside.unreachable c.args.self.now c.self.view_is 1 (ap (λ z. types_in z (map (prefix_of c.self.inside.context.now.context.types) c.self.inside.runs.items)) c.truncate.ensures.items ∙ one_less c.self.inside.entries.items (map (prefix_of c.self.inside.context.now.context.types) c.self.inside.runs.items) c.index-entry.result.now (types_in c.self.inside.entries.items (map (prefix_of c.self.inside.context.now.context.types) c.self.inside.runs.items)) (c.len-last.result - 1) refl (split_at_last c.self.inside.entries.items c.len-last.result (c.len-last.result - 1) c.index-entry.result.now (c.len-last.ensures ∙ c.self.inside.entries.ok.0) refl (there c.self.inside.entries.items (map (prefix_of c.self.inside.context.now.context.types) c.self.inside.runs.items) (types_in c.self.inside.entries.items (map (prefix_of c.self.inside.context.now.context.types) c.self.inside.runs.items)) c.args.by refl c.requires.some (by_fits c.args.by (types_in c.self.inside.entries.items (map (prefix_of c.self.inside.context.now.context.types) c.self.inside.runs.items)) c.self.inside.context.now.context.types c.self.inside.base c.self.inside.unreachable c.args.self.now c.self.view_is c.requires.there)) c.index-entry.ensures) (ap (λ z. run_at c.index-entry.result.now (map (prefix_of c.self.inside.context.now.context.types) z)) (sym c.deref.ensures.value) ∙ c.in-None.ensures.found)) (omega (arith, c.requires.some, c.requires.there)) c.self.invariant.1)

pub returns-in-None-clause-below : goal.returns-in-None-clause-below
returns-in-None-clause-below c = short_below (types_in c.self.inside.entries.items (map (prefix_of c.self.inside.context.now.context.types) c.self.inside.runs.items)) _ c.self.inside.context.now.context.types c.self.inside.base c.self.inside.unreachable c.args.self.now c.self.view_is 1 (ap (λ z. types_in z (map (prefix_of c.self.inside.context.now.context.types) c.self.inside.runs.items)) c.truncate.ensures.items ∙ one_less c.self.inside.entries.items (map (prefix_of c.self.inside.context.now.context.types) c.self.inside.runs.items) c.index-entry.result.now (types_in c.self.inside.entries.items (map (prefix_of c.self.inside.context.now.context.types) c.self.inside.runs.items)) (c.len-last.result - 1) refl (split_at_last c.self.inside.entries.items c.len-last.result (c.len-last.result - 1) c.index-entry.result.now (c.len-last.ensures ∙ c.self.inside.entries.ok.0) refl (there c.self.inside.entries.items (map (prefix_of c.self.inside.context.now.context.types) c.self.inside.runs.items) (types_in c.self.inside.entries.items (map (prefix_of c.self.inside.context.now.context.types) c.self.inside.runs.items)) c.args.by refl c.requires.some (by_fits c.args.by (types_in c.self.inside.entries.items (map (prefix_of c.self.inside.context.now.context.types) c.self.inside.runs.items)) c.self.inside.context.now.context.types c.self.inside.base c.self.inside.unreachable c.args.self.now c.self.view_is c.requires.there)) c.index-entry.ensures) (ap (λ z. run_at c.index-entry.result.now (map (prefix_of c.self.inside.context.now.context.types) z)) (sym c.deref.ensures.value) ∙ c.in-None.ensures.found)) (omega (arith, c.requires.some, c.requires.there)) c.self.invariant.1

pub overflow_sub-self : goal.overflow_sub-self
overflow_sub-self c =
    omega (arith, c.if-by-types.true, is_counted c.self.inside.entries.items (map (prefix_of c.self.inside.context.now.context.types) c.self.inside.runs.items) c.index-entry.result.now (types_in c.self.inside.entries.items (map (prefix_of c.self.inside.context.now.context.types) c.self.inside.runs.items)) (c.len-last.result - 1) refl (split_at_last c.self.inside.entries.items c.len-last.result (c.len-last.result - 1) c.index-entry.result.now (c.len-last.ensures ∙ c.self.inside.entries.ok.0) refl (there c.self.inside.entries.items (map (prefix_of c.self.inside.context.now.context.types) c.self.inside.runs.items) (types_in c.self.inside.entries.items (map (prefix_of c.self.inside.context.now.context.types) c.self.inside.runs.items)) c.args.by refl c.requires.some (by_fits c.args.by (types_in c.self.inside.entries.items (map (prefix_of c.self.inside.context.now.context.types) c.self.inside.runs.items)) c.self.inside.context.now.context.types c.self.inside.base c.self.inside.unreachable c.args.self.now c.self.view_is c.requires.there)) c.index-entry.ensures) c.self.inside.run_surplus c.in-Some.types.now (ap (λ z. run_at c.index-entry.result.now (map (prefix_of c.self.inside.context.now.context.types) z)) (sym c.deref.ensures.value) ∙ c.in-Some.ensures.found) c.self.invariant.0)

pub invariant_of-self-then-by-types : goal.invariant_of-self-then-by-types
invariant_of-self-then-by-types c =
    (subst (λ z. IsCounted c.self.inside.entries.items z (c.self.inside.run_surplus - c.args.by)) (sym (last_run_written c.self.inside.context.now.context.types c.self.inside.runs.items c.len-top.result (c.len-top.result - 1) _ (take (length c.in-Some.types.now - c.args.by) c.in-Some.types.now) (last_run_cut c.self.inside.context.now.context.types c.self.inside.runs.items c.len-top.result (c.len-top.result - 1) (length c.in-Some.types.now - c.args.by) c.index_mut.result.now c.index-entry.result.now c.in-Some.types.now (ap (λ z. run_at c.index-entry.result.now (map (prefix_of c.self.inside.context.now.context.types) z)) (sym c.deref.ensures.value) ∙ c.in-Some.ensures.found) (c.len-top.ensures ∙ c.self.inside.runs.ok.0) refl c.index_mut.ensures.value (omega arith)) (c.len-top.ensures ∙ c.self.inside.runs.ok.0) refl (there_is c.self.inside.entries.items (map (prefix_of c.self.inside.context.now.context.types) c.self.inside.runs.items) c.index-entry.result.now (types_in c.self.inside.entries.items (map (prefix_of c.self.inside.context.now.context.types) c.self.inside.runs.items)) (c.len-last.result - 1) refl (split_at_last c.self.inside.entries.items c.len-last.result (c.len-last.result - 1) c.index-entry.result.now (c.len-last.ensures ∙ c.self.inside.entries.ok.0) refl (there c.self.inside.entries.items (map (prefix_of c.self.inside.context.now.context.types) c.self.inside.runs.items) (types_in c.self.inside.entries.items (map (prefix_of c.self.inside.context.now.context.types) c.self.inside.runs.items)) c.args.by refl c.requires.some (by_fits c.args.by (types_in c.self.inside.entries.items (map (prefix_of c.self.inside.context.now.context.types) c.self.inside.runs.items)) c.self.inside.context.now.context.types c.self.inside.base c.self.inside.unreachable c.args.self.now c.self.view_is c.requires.there)) c.index-entry.ensures) c.in-Some.types.now (ap (λ z. run_at c.index-entry.result.now (map (prefix_of c.self.inside.context.now.context.types) z)) (sym c.deref.ensures.value) ∙ c.in-Some.ensures.found)))) (cut_counted c.self.inside.entries.items (map (prefix_of c.self.inside.context.now.context.types) c.self.inside.runs.items) c.index-entry.result.now (types_in c.self.inside.entries.items (map (prefix_of c.self.inside.context.now.context.types) c.self.inside.runs.items)) (c.len-last.result - 1) refl (split_at_last c.self.inside.entries.items c.len-last.result (c.len-last.result - 1) c.index-entry.result.now (c.len-last.ensures ∙ c.self.inside.entries.ok.0) refl (there c.self.inside.entries.items (map (prefix_of c.self.inside.context.now.context.types) c.self.inside.runs.items) (types_in c.self.inside.entries.items (map (prefix_of c.self.inside.context.now.context.types) c.self.inside.runs.items)) c.args.by refl c.requires.some (by_fits c.args.by (types_in c.self.inside.entries.items (map (prefix_of c.self.inside.context.now.context.types) c.self.inside.runs.items)) c.self.inside.context.now.context.types c.self.inside.base c.self.inside.unreachable c.args.self.now c.self.view_is c.requires.there)) c.index-entry.ensures) c.self.inside.run_surplus c.in-Some.types.now c.args.by (length c.in-Some.types.now - c.args.by) (ap (λ z. run_at c.index-entry.result.now (map (prefix_of c.self.inside.context.now.context.types) z)) (sym c.deref.ensures.value) ∙ c.in-Some.ensures.found) c.if-by-types.true refl c.self.invariant.0), short_enough (types_in c.self.inside.entries.items (map (prefix_of c.self.inside.context.now.context.types) c.self.inside.runs.items)) _ c.self.inside.context.now.context.types c.self.inside.base c.self.inside.unreachable c.args.self.now c.self.view_is c.args.by (ap (types_in c.self.inside.entries.items) (last_run_written c.self.inside.context.now.context.types c.self.inside.runs.items c.len-top.result (c.len-top.result - 1) _ (take (length c.in-Some.types.now - c.args.by) c.in-Some.types.now) (last_run_cut c.self.inside.context.now.context.types c.self.inside.runs.items c.len-top.result (c.len-top.result - 1) (length c.in-Some.types.now - c.args.by) c.index_mut.result.now c.index-entry.result.now c.in-Some.types.now (ap (λ z. run_at c.index-entry.result.now (map (prefix_of c.self.inside.context.now.context.types) z)) (sym c.deref.ensures.value) ∙ c.in-Some.ensures.found) (c.len-top.ensures ∙ c.self.inside.runs.ok.0) refl c.index_mut.ensures.value (omega arith)) (c.len-top.ensures ∙ c.self.inside.runs.ok.0) refl (there_is c.self.inside.entries.items (map (prefix_of c.self.inside.context.now.context.types) c.self.inside.runs.items) c.index-entry.result.now (types_in c.self.inside.entries.items (map (prefix_of c.self.inside.context.now.context.types) c.self.inside.runs.items)) (c.len-last.result - 1) refl (split_at_last c.self.inside.entries.items c.len-last.result (c.len-last.result - 1) c.index-entry.result.now (c.len-last.ensures ∙ c.self.inside.entries.ok.0) refl (there c.self.inside.entries.items (map (prefix_of c.self.inside.context.now.context.types) c.self.inside.runs.items) (types_in c.self.inside.entries.items (map (prefix_of c.self.inside.context.now.context.types) c.self.inside.runs.items)) c.args.by refl c.requires.some (by_fits c.args.by (types_in c.self.inside.entries.items (map (prefix_of c.self.inside.context.now.context.types) c.self.inside.runs.items)) c.self.inside.context.now.context.types c.self.inside.base c.self.inside.unreachable c.args.self.now c.self.view_is c.requires.there)) c.index-entry.ensures) c.in-Some.types.now (ap (λ z. run_at c.index-entry.result.now (map (prefix_of c.self.inside.context.now.context.types) z)) (sym c.deref.ensures.value) ∙ c.in-Some.ensures.found))) ∙ cut_less c.self.inside.entries.items (map (prefix_of c.self.inside.context.now.context.types) c.self.inside.runs.items) c.index-entry.result.now (types_in c.self.inside.entries.items (map (prefix_of c.self.inside.context.now.context.types) c.self.inside.runs.items)) (c.len-last.result - 1) refl (split_at_last c.self.inside.entries.items c.len-last.result (c.len-last.result - 1) c.index-entry.result.now (c.len-last.ensures ∙ c.self.inside.entries.ok.0) refl (there c.self.inside.entries.items (map (prefix_of c.self.inside.context.now.context.types) c.self.inside.runs.items) (types_in c.self.inside.entries.items (map (prefix_of c.self.inside.context.now.context.types) c.self.inside.runs.items)) c.args.by refl c.requires.some (by_fits c.args.by (types_in c.self.inside.entries.items (map (prefix_of c.self.inside.context.now.context.types) c.self.inside.runs.items)) c.self.inside.context.now.context.types c.self.inside.base c.self.inside.unreachable c.args.self.now c.self.view_is c.requires.there)) c.index-entry.ensures) c.in-Some.types.now c.args.by (length c.in-Some.types.now - c.args.by) (ap (λ z. run_at c.index-entry.result.now (map (prefix_of c.self.inside.context.now.context.types) z)) (sym c.deref.ensures.value) ∙ c.in-Some.ensures.found) c.if-by-types.true refl) c.requires.there c.self.invariant.1)

pub returns-then-by-types-clause-above : goal.returns-then-by-types-clause-above
returns-then-by-types-clause-above c =
    (c.args.by, c.requires.some, omega arith, short_above (types_in c.self.inside.entries.items (map (prefix_of c.self.inside.context.now.context.types) c.self.inside.runs.items)) _ c.self.inside.context.now.context.types c.self.inside.base c.self.inside.unreachable c.args.self.now c.self.view_is c.args.by (ap (types_in c.self.inside.entries.items) (last_run_written c.self.inside.context.now.context.types c.self.inside.runs.items c.len-top.result (c.len-top.result - 1) _ (take (length c.in-Some.types.now - c.args.by) c.in-Some.types.now) (last_run_cut c.self.inside.context.now.context.types c.self.inside.runs.items c.len-top.result (c.len-top.result - 1) (length c.in-Some.types.now - c.args.by) c.index_mut.result.now c.index-entry.result.now c.in-Some.types.now (ap (λ z. run_at c.index-entry.result.now (map (prefix_of c.self.inside.context.now.context.types) z)) (sym c.deref.ensures.value) ∙ c.in-Some.ensures.found) (c.len-top.ensures ∙ c.self.inside.runs.ok.0) refl c.index_mut.ensures.value (omega arith)) (c.len-top.ensures ∙ c.self.inside.runs.ok.0) refl (there_is c.self.inside.entries.items (map (prefix_of c.self.inside.context.now.context.types) c.self.inside.runs.items) c.index-entry.result.now (types_in c.self.inside.entries.items (map (prefix_of c.self.inside.context.now.context.types) c.self.inside.runs.items)) (c.len-last.result - 1) refl (split_at_last c.self.inside.entries.items c.len-last.result (c.len-last.result - 1) c.index-entry.result.now (c.len-last.ensures ∙ c.self.inside.entries.ok.0) refl (there c.self.inside.entries.items (map (prefix_of c.self.inside.context.now.context.types) c.self.inside.runs.items) (types_in c.self.inside.entries.items (map (prefix_of c.self.inside.context.now.context.types) c.self.inside.runs.items)) c.args.by refl c.requires.some (by_fits c.args.by (types_in c.self.inside.entries.items (map (prefix_of c.self.inside.context.now.context.types) c.self.inside.runs.items)) c.self.inside.context.now.context.types c.self.inside.base c.self.inside.unreachable c.args.self.now c.self.view_is c.requires.there)) c.index-entry.ensures) c.in-Some.types.now (ap (λ z. run_at c.index-entry.result.now (map (prefix_of c.self.inside.context.now.context.types) z)) (sym c.deref.ensures.value) ∙ c.in-Some.ensures.found))) ∙ cut_less c.self.inside.entries.items (map (prefix_of c.self.inside.context.now.context.types) c.self.inside.runs.items) c.index-entry.result.now (types_in c.self.inside.entries.items (map (prefix_of c.self.inside.context.now.context.types) c.self.inside.runs.items)) (c.len-last.result - 1) refl (split_at_last c.self.inside.entries.items c.len-last.result (c.len-last.result - 1) c.index-entry.result.now (c.len-last.ensures ∙ c.self.inside.entries.ok.0) refl (there c.self.inside.entries.items (map (prefix_of c.self.inside.context.now.context.types) c.self.inside.runs.items) (types_in c.self.inside.entries.items (map (prefix_of c.self.inside.context.now.context.types) c.self.inside.runs.items)) c.args.by refl c.requires.some (by_fits c.args.by (types_in c.self.inside.entries.items (map (prefix_of c.self.inside.context.now.context.types) c.self.inside.runs.items)) c.self.inside.context.now.context.types c.self.inside.base c.self.inside.unreachable c.args.self.now c.self.view_is c.requires.there)) c.index-entry.ensures) c.in-Some.types.now c.args.by (length c.in-Some.types.now - c.args.by) (ap (λ z. run_at c.index-entry.result.now (map (prefix_of c.self.inside.context.now.context.types) z)) (sym c.deref.ensures.value) ∙ c.in-Some.ensures.found) c.if-by-types.true refl) c.requires.there c.self.invariant.1)

pub returns-then-by-types-clause-below : goal.returns-then-by-types-clause-below
returns-then-by-types-clause-below c = short_below (types_in c.self.inside.entries.items (map (prefix_of c.self.inside.context.now.context.types) c.self.inside.runs.items)) _ c.self.inside.context.now.context.types c.self.inside.base c.self.inside.unreachable c.args.self.now c.self.view_is c.args.by (ap (types_in c.self.inside.entries.items) (last_run_written c.self.inside.context.now.context.types c.self.inside.runs.items c.len-top.result (c.len-top.result - 1) _ (take (length c.in-Some.types.now - c.args.by) c.in-Some.types.now) (last_run_cut c.self.inside.context.now.context.types c.self.inside.runs.items c.len-top.result (c.len-top.result - 1) (length c.in-Some.types.now - c.args.by) c.index_mut.result.now c.index-entry.result.now c.in-Some.types.now (ap (λ z. run_at c.index-entry.result.now (map (prefix_of c.self.inside.context.now.context.types) z)) (sym c.deref.ensures.value) ∙ c.in-Some.ensures.found) (c.len-top.ensures ∙ c.self.inside.runs.ok.0) refl c.index_mut.ensures.value (omega arith)) (c.len-top.ensures ∙ c.self.inside.runs.ok.0) refl (there_is c.self.inside.entries.items (map (prefix_of c.self.inside.context.now.context.types) c.self.inside.runs.items) c.index-entry.result.now (types_in c.self.inside.entries.items (map (prefix_of c.self.inside.context.now.context.types) c.self.inside.runs.items)) (c.len-last.result - 1) refl (split_at_last c.self.inside.entries.items c.len-last.result (c.len-last.result - 1) c.index-entry.result.now (c.len-last.ensures ∙ c.self.inside.entries.ok.0) refl (there c.self.inside.entries.items (map (prefix_of c.self.inside.context.now.context.types) c.self.inside.runs.items) (types_in c.self.inside.entries.items (map (prefix_of c.self.inside.context.now.context.types) c.self.inside.runs.items)) c.args.by refl c.requires.some (by_fits c.args.by (types_in c.self.inside.entries.items (map (prefix_of c.self.inside.context.now.context.types) c.self.inside.runs.items)) c.self.inside.context.now.context.types c.self.inside.base c.self.inside.unreachable c.args.self.now c.self.view_is c.requires.there)) c.index-entry.ensures) c.in-Some.types.now (ap (λ z. run_at c.index-entry.result.now (map (prefix_of c.self.inside.context.now.context.types) z)) (sym c.deref.ensures.value) ∙ c.in-Some.ensures.found))) ∙ cut_less c.self.inside.entries.items (map (prefix_of c.self.inside.context.now.context.types) c.self.inside.runs.items) c.index-entry.result.now (types_in c.self.inside.entries.items (map (prefix_of c.self.inside.context.now.context.types) c.self.inside.runs.items)) (c.len-last.result - 1) refl (split_at_last c.self.inside.entries.items c.len-last.result (c.len-last.result - 1) c.index-entry.result.now (c.len-last.ensures ∙ c.self.inside.entries.ok.0) refl (there c.self.inside.entries.items (map (prefix_of c.self.inside.context.now.context.types) c.self.inside.runs.items) (types_in c.self.inside.entries.items (map (prefix_of c.self.inside.context.now.context.types) c.self.inside.runs.items)) c.args.by refl c.requires.some (by_fits c.args.by (types_in c.self.inside.entries.items (map (prefix_of c.self.inside.context.now.context.types) c.self.inside.runs.items)) c.self.inside.context.now.context.types c.self.inside.base c.self.inside.unreachable c.args.self.now c.self.view_is c.requires.there)) c.index-entry.ensures) c.in-Some.types.now c.args.by (length c.in-Some.types.now - c.args.by) (ap (λ z. run_at c.index-entry.result.now (map (prefix_of c.self.inside.context.now.context.types) z)) (sym c.deref.ensures.value) ∙ c.in-Some.ensures.found) c.if-by-types.true refl) c.requires.there c.self.invariant.1

pub overflow_sub-self-else-by-types : goal.overflow_sub-self-else-by-types
overflow_sub-self-else-by-types c =
    omega (arith, c.saturating_sub.ensures, is_counted c.self.inside.entries.items (map (prefix_of c.self.inside.context.now.context.types) c.self.inside.runs.items) c.index-entry.result.now (types_in c.self.inside.entries.items (map (prefix_of c.self.inside.context.now.context.types) c.self.inside.runs.items)) (c.len-last.result - 1) refl (split_at_last c.self.inside.entries.items c.len-last.result (c.len-last.result - 1) c.index-entry.result.now (c.len-last.ensures ∙ c.self.inside.entries.ok.0) refl (there c.self.inside.entries.items (map (prefix_of c.self.inside.context.now.context.types) c.self.inside.runs.items) (types_in c.self.inside.entries.items (map (prefix_of c.self.inside.context.now.context.types) c.self.inside.runs.items)) c.args.by refl c.requires.some (by_fits c.args.by (types_in c.self.inside.entries.items (map (prefix_of c.self.inside.context.now.context.types) c.self.inside.runs.items)) c.self.inside.context.now.context.types c.self.inside.base c.self.inside.unreachable c.args.self.now c.self.view_is c.requires.there)) c.index-entry.ensures) c.self.inside.run_surplus c.in-Some.types.now (ap (λ z. run_at c.index-entry.result.now (map (prefix_of c.self.inside.context.now.context.types) z)) (sym c.deref.ensures.value) ∙ c.in-Some.ensures.found) c.self.invariant.0)

pub invariant_of-self-else-by-types : goal.invariant_of-self-else-by-types
invariant_of-self-else-by-types c = (
  subst (λ z. IsCounted z (map (prefix_of c.self.inside.context.now.context.types) c.truncate-else-by-types-2.new.self.items) (c.self.inside.run_surplus - c.saturating_sub.result)) (sym c.truncate-else-by-types.ensures.items) (subst (λ z. IsCounted (take (c.len-last.result - 1) c.self.inside.entries.items) z (c.self.inside.run_surplus - c.saturating_sub.result)) (sym (last_run_gone c.self.inside.context.now.context.types c.self.inside.runs.items c.truncate-else-by-types-2.new.self.items c.len-top.result (c.len-top.result - 1) (c.len-top.ensures ∙ c.self.inside.runs.ok.0) refl c.truncate-else-by-types-2.ensures.items)) (subst (λ k. IsCounted (take (c.len-last.result - 1) c.self.inside.entries.items) (take (length (map (prefix_of c.self.inside.context.now.context.types) c.self.inside.runs.items) - 1) (map (prefix_of c.self.inside.context.now.context.types) c.self.inside.runs.items)) (c.self.inside.run_surplus - k)) (sym c.saturating_sub.ensures) (run_less_counted c.self.inside.entries.items (map (prefix_of c.self.inside.context.now.context.types) c.self.inside.runs.items) c.index-entry.result.now (types_in c.self.inside.entries.items (map (prefix_of c.self.inside.context.now.context.types) c.self.inside.runs.items)) (c.len-last.result - 1) refl (split_at_last c.self.inside.entries.items c.len-last.result (c.len-last.result - 1) c.index-entry.result.now (c.len-last.ensures ∙ c.self.inside.entries.ok.0) refl (there c.self.inside.entries.items (map (prefix_of c.self.inside.context.now.context.types) c.self.inside.runs.items) (types_in c.self.inside.entries.items (map (prefix_of c.self.inside.context.now.context.types) c.self.inside.runs.items)) c.args.by refl c.requires.some (by_fits c.args.by (types_in c.self.inside.entries.items (map (prefix_of c.self.inside.context.now.context.types) c.self.inside.runs.items)) c.self.inside.context.now.context.types c.self.inside.base c.self.inside.unreachable c.args.self.now c.self.view_is c.requires.there)) c.index-entry.ensures) c.self.inside.run_surplus c.in-Some.types.now (ap (λ z. run_at c.index-entry.result.now (map (prefix_of c.self.inside.context.now.context.types) z)) (sym c.deref.ensures.value) ∙ c.in-Some.ensures.found) c.self.invariant.0))),
  short_enough (types_in c.self.inside.entries.items (map (prefix_of c.self.inside.context.now.context.types) c.self.inside.runs.items)) _ c.self.inside.context.now.context.types c.self.inside.base c.self.inside.unreachable c.args.self.now c.self.view_is (suc (length c.in-Some.types.now - 1)) (ap (λ z. types_in z (map (prefix_of c.self.inside.context.now.context.types) c.truncate-else-by-types-2.new.self.items)) c.truncate-else-by-types.ensures.items
      ∙ ap (types_in (take (c.len-last.result - 1) c.self.inside.entries.items)) (last_run_gone c.self.inside.context.now.context.types c.self.inside.runs.items c.truncate-else-by-types-2.new.self.items c.len-top.result (c.len-top.result - 1) (c.len-top.ensures ∙ c.self.inside.runs.ok.0) refl c.truncate-else-by-types-2.ensures.items)
      ∙ run_less c.self.inside.entries.items (map (prefix_of c.self.inside.context.now.context.types) c.self.inside.runs.items) c.index-entry.result.now (types_in c.self.inside.entries.items (map (prefix_of c.self.inside.context.now.context.types) c.self.inside.runs.items)) (c.len-last.result - 1) refl (split_at_last c.self.inside.entries.items c.len-last.result (c.len-last.result - 1) c.index-entry.result.now (c.len-last.ensures ∙ c.self.inside.entries.ok.0) refl (there c.self.inside.entries.items (map (prefix_of c.self.inside.context.now.context.types) c.self.inside.runs.items) (types_in c.self.inside.entries.items (map (prefix_of c.self.inside.context.now.context.types) c.self.inside.runs.items)) c.args.by refl c.requires.some (by_fits c.args.by (types_in c.self.inside.entries.items (map (prefix_of c.self.inside.context.now.context.types) c.self.inside.runs.items)) c.self.inside.context.now.context.types c.self.inside.base c.self.inside.unreachable c.args.self.now c.self.view_is c.requires.there)) c.index-entry.ensures) c.in-Some.types.now (suc (length c.in-Some.types.now - 1)) (ap (λ z. run_at c.index-entry.result.now (map (prefix_of c.self.inside.context.now.context.types) z)) (sym c.deref.ensures.value) ∙ c.in-Some.ensures.found) refl) (omega (arith, c.if-by-types.false, c.requires.some, c.requires.there)) c.self.invariant.1,
)

pub returns-else-by-types-clause-above : goal.returns-else-by-types-clause-above
returns-else-by-types-clause-above c = (
  (suc (length c.in-Some.types.now - 1)),
  omega arith,
  omega (arith, c.if-by-types.false, c.requires.some),
  short_above (types_in c.self.inside.entries.items (map (prefix_of c.self.inside.context.now.context.types) c.self.inside.runs.items)) _ c.self.inside.context.now.context.types c.self.inside.base c.self.inside.unreachable c.args.self.now c.self.view_is (suc (length c.in-Some.types.now - 1)) (ap (λ z. types_in z (map (prefix_of c.self.inside.context.now.context.types) c.truncate-else-by-types-2.new.self.items)) c.truncate-else-by-types.ensures.items
      ∙ ap (types_in (take (c.len-last.result - 1) c.self.inside.entries.items)) (last_run_gone c.self.inside.context.now.context.types c.self.inside.runs.items c.truncate-else-by-types-2.new.self.items c.len-top.result (c.len-top.result - 1) (c.len-top.ensures ∙ c.self.inside.runs.ok.0) refl c.truncate-else-by-types-2.ensures.items)
      ∙ run_less c.self.inside.entries.items (map (prefix_of c.self.inside.context.now.context.types) c.self.inside.runs.items) c.index-entry.result.now (types_in c.self.inside.entries.items (map (prefix_of c.self.inside.context.now.context.types) c.self.inside.runs.items)) (c.len-last.result - 1) refl (split_at_last c.self.inside.entries.items c.len-last.result (c.len-last.result - 1) c.index-entry.result.now (c.len-last.ensures ∙ c.self.inside.entries.ok.0) refl (there c.self.inside.entries.items (map (prefix_of c.self.inside.context.now.context.types) c.self.inside.runs.items) (types_in c.self.inside.entries.items (map (prefix_of c.self.inside.context.now.context.types) c.self.inside.runs.items)) c.args.by refl c.requires.some (by_fits c.args.by (types_in c.self.inside.entries.items (map (prefix_of c.self.inside.context.now.context.types) c.self.inside.runs.items)) c.self.inside.context.now.context.types c.self.inside.base c.self.inside.unreachable c.args.self.now c.self.view_is c.requires.there)) c.index-entry.ensures) c.in-Some.types.now (suc (length c.in-Some.types.now - 1)) (ap (λ z. run_at c.index-entry.result.now (map (prefix_of c.self.inside.context.now.context.types) z)) (sym c.deref.ensures.value) ∙ c.in-Some.ensures.found) refl) (omega (arith, c.if-by-types.false, c.requires.some, c.requires.there)) c.self.invariant.1,
)

pub returns-else-by-types-clause-below : goal.returns-else-by-types-clause-below
returns-else-by-types-clause-below c = short_below (types_in c.self.inside.entries.items (map (prefix_of c.self.inside.context.now.context.types) c.self.inside.runs.items)) _ c.self.inside.context.now.context.types c.self.inside.base c.self.inside.unreachable c.args.self.now c.self.view_is (suc (length c.in-Some.types.now - 1)) (ap (λ z. types_in z (map (prefix_of c.self.inside.context.now.context.types) c.truncate-else-by-types-2.new.self.items)) c.truncate-else-by-types.ensures.items
    ∙ ap (types_in (take (c.len-last.result - 1) c.self.inside.entries.items)) (last_run_gone c.self.inside.context.now.context.types c.self.inside.runs.items c.truncate-else-by-types-2.new.self.items c.len-top.result (c.len-top.result - 1) (c.len-top.ensures ∙ c.self.inside.runs.ok.0) refl c.truncate-else-by-types-2.ensures.items)
    ∙ run_less c.self.inside.entries.items (map (prefix_of c.self.inside.context.now.context.types) c.self.inside.runs.items) c.index-entry.result.now (types_in c.self.inside.entries.items (map (prefix_of c.self.inside.context.now.context.types) c.self.inside.runs.items)) (c.len-last.result - 1) refl (split_at_last c.self.inside.entries.items c.len-last.result (c.len-last.result - 1) c.index-entry.result.now (c.len-last.ensures ∙ c.self.inside.entries.ok.0) refl (there c.self.inside.entries.items (map (prefix_of c.self.inside.context.now.context.types) c.self.inside.runs.items) (types_in c.self.inside.entries.items (map (prefix_of c.self.inside.context.now.context.types) c.self.inside.runs.items)) c.args.by refl c.requires.some (by_fits c.args.by (types_in c.self.inside.entries.items (map (prefix_of c.self.inside.context.now.context.types) c.self.inside.runs.items)) c.self.inside.context.now.context.types c.self.inside.base c.self.inside.unreachable c.args.self.now c.self.view_is c.requires.there)) c.index-entry.ensures) c.in-Some.types.now (suc (length c.in-Some.types.now - 1)) (ap (λ z. run_at c.index-entry.result.now (map (prefix_of c.self.inside.context.now.context.types) z)) (sym c.deref.ensures.value) ∙ c.in-Some.ensures.found) refl) (omega (arith, c.if-by-types.false, c.requires.some, c.requires.there)) c.self.invariant.1

pub returns-in-None-clause-topmost : goal.returns-in-None-clause-topmost
returns-in-None-clause-topmost c =
    last_single c.self.inside.entries.items (map (prefix_of c.self.inside.context.now.context.types) c.self.inside.runs.items) (all_of c.args.self.now) c.index-entry.result.now c.unpacked.result (sym (all_items (types_in c.self.inside.entries.items (map (prefix_of c.self.inside.context.now.context.types) c.self.inside.runs.items)) c.self.inside.context.now.context.types c.self.inside.base c.self.inside.unreachable c.args.self.now c.self.view_is)) (last_is c.self.inside.entries.items c.len-last.result c.index-entry.result.now (c.len-last.ensures ∙ c.self.inside.entries.ok.0) (there c.self.inside.entries.items (map (prefix_of c.self.inside.context.now.context.types) c.self.inside.runs.items) (types_in c.self.inside.entries.items (map (prefix_of c.self.inside.context.now.context.types) c.self.inside.runs.items)) c.args.by refl c.requires.some (by_fits c.args.by (types_in c.self.inside.entries.items (map (prefix_of c.self.inside.context.now.context.types) c.self.inside.runs.items)) c.self.inside.context.now.context.types c.self.inside.base c.self.inside.unreachable c.args.self.now c.self.view_is c.requires.there)) c.index-entry.ensures) (ap (λ z. run_at c.index-entry.result.now (map (prefix_of c.self.inside.context.now.context.types) z)) (sym c.deref.ensures.value) ∙ c.in-None.ensures.found) c.unpacked.ensures

pub returns-then-by-types-clause-topmost : goal.returns-then-by-types-clause-topmost
returns-then-by-types-clause-topmost c =
    last_in_run c.self.inside.entries.items (map (prefix_of c.self.inside.context.now.context.types) c.self.inside.runs.items) (all_of c.args.self.now) c.index-entry.result.now c.in-Some.types.now c.copied-topmost.result (sym (all_items (types_in c.self.inside.entries.items (map (prefix_of c.self.inside.context.now.context.types) c.self.inside.runs.items)) c.self.inside.context.now.context.types c.self.inside.base c.self.inside.unreachable c.args.self.now c.self.view_is)) (last_is c.self.inside.entries.items c.len-last.result c.index-entry.result.now (c.len-last.ensures ∙ c.self.inside.entries.ok.0) (there c.self.inside.entries.items (map (prefix_of c.self.inside.context.now.context.types) c.self.inside.runs.items) (types_in c.self.inside.entries.items (map (prefix_of c.self.inside.context.now.context.types) c.self.inside.runs.items)) c.args.by refl c.requires.some (by_fits c.args.by (types_in c.self.inside.entries.items (map (prefix_of c.self.inside.context.now.context.types) c.self.inside.runs.items)) c.self.inside.context.now.context.types c.self.inside.base c.self.inside.unreachable c.args.self.now c.self.view_is c.requires.there)) c.index-entry.ensures) (ap (λ z. run_at c.index-entry.result.now (map (prefix_of c.self.inside.context.now.context.types) z)) (sym c.deref.ensures.value) ∙ c.in-Some.ensures.found) (c.copied-topmost.ensures ∙ c.last.ensures.value)

pub returns-else-by-types-clause-topmost : goal.returns-else-by-types-clause-topmost
returns-else-by-types-clause-topmost c =
    last_in_run c.self.inside.entries.items (map (prefix_of c.self.inside.context.now.context.types) c.self.inside.runs.items) (all_of c.args.self.now) c.index-entry.result.now c.in-Some.types.now c.copied-topmost.result (sym (all_items (types_in c.self.inside.entries.items (map (prefix_of c.self.inside.context.now.context.types) c.self.inside.runs.items)) c.self.inside.context.now.context.types c.self.inside.base c.self.inside.unreachable c.args.self.now c.self.view_is)) (last_is c.self.inside.entries.items c.len-last.result c.index-entry.result.now (c.len-last.ensures ∙ c.self.inside.entries.ok.0) (there c.self.inside.entries.items (map (prefix_of c.self.inside.context.now.context.types) c.self.inside.runs.items) (types_in c.self.inside.entries.items (map (prefix_of c.self.inside.context.now.context.types) c.self.inside.runs.items)) c.args.by refl c.requires.some (by_fits c.args.by (types_in c.self.inside.entries.items (map (prefix_of c.self.inside.context.now.context.types) c.self.inside.runs.items)) c.self.inside.context.now.context.types c.self.inside.base c.self.inside.unreachable c.args.self.now c.self.view_is c.requires.there)) c.index-entry.ensures) (ap (λ z. run_at c.index-entry.result.now (map (prefix_of c.self.inside.context.now.context.types) z)) (sym c.deref.ensures.value) ∙ c.in-Some.ensures.found) (c.copied-topmost.ensures ∙ c.last.ensures.value)
