use Rattle.std.proofs.Common.{◌≡◌, ◌+◌, [], ◌∷◌, ◌++◌, length, arith, refl, ap, sym, ◌∙◌, Some}
use Rattle.std.specs.Prelude.{slice_get}
use Rattle.std.specs.Option.{unwrap_or}
use Rattle.std.proofs.lemmas.List.{length_push}
use Rattle.wsyntax.specs.FuncTypes.{func_type_of}
use Rattle.wsyntax.specs.Validation.ModuleContext.{type_at, empty_type}
use Rattle.wcontext.specs.declared.suffix_tree.Starts.{Starts}
use Rattle.std.proofs.lemmas.List.Elements.{All-nil}
use Rattle.wcontext.specs.Trie.{IsUnread}
use Rattle.wcontext.proofs.Gathering.{have_none, gathered_next}
use Rattle.wcontext.proofs.suffix_tree.Gathered.of.Goals as goal

pub loop-y-init : goal.loop-y-init
loop-y-init c =
    let starts : c.in_ok-with_capacity.field-0.items ≡ [] = grind arith in
    let lists : c.in_ok-with_capacity-2.field-0.items ≡ [] = grind arith in
    record { count = ap length starts; gathered = ([], record { count = refl; unread = rw lists (All-nil (IsUnread [])) }, rw starts (have_none c.args.types.now)) }

pub loop-y-preserved : goal.loop-y-preserved
loop-y-preserved c =
    let old = c.loop-y.gathered in
    let mid = c.add_list.new.self in
    let new = c.add_list-in-loop-y.new.self in
    let types = c.args.types.now in
    let s : Starts = record { params = c.in_ok-params.params; results = c.in_ok-results.results } in
    let t = func_type_of c.in-Some.signature in
    let pushed : c.push.new.self.items ≡ new.starts.items ++ s ∷ [] = grind arith in
    let same : new.starts ≡ old.starts = c.add_list-in-loop-y.ensures.starts ∙ c.add_list.ensures.starts in
    let more : c.push.new.self.items ≡ old.starts.items ++ s ∷ [] = pushed ∙ ap (λ v. v.items ++ s ∷ []) same in
    let at : slice_get types (length old.starts.items) ≡ Some t = ap (slice_get types) c.loop-y.invariant.count ∙ sym c.in-Some.ensures.found in
    let is : type_at types (length old.starts.items) ≡ t = ap (λ o. unwrap_or o empty_type) at in
    let next = gathered_next types old mid new t s c.push.new.self.items c.loop-y.invariant.gathered c.in_ok-params.ensures.add_list c.in_ok-results.ensures.add_list is more in
    record {
      count = ap length more ∙ length_push old.starts.items s ∙ ap (λ n. n + 1) c.loop-y.invariant.count;
      gathered = (next.0, record { count = next.1; unread = next.2 }, next.3);
    }
