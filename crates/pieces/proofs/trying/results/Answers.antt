use Rattle.std.proofs.Common.{◌≡◌, ◌++◌, ◌∷◌, [], List, true, sym, ◌∙◌, ap, append_assoc}
use Rattle.std.specs.Prelude.{is_ok, Err}
use Rattle.pieces.specs.Gathered.{Answer}
use Rattle.pieces.proofs.OneThread.{Results-snoc}
use Rattle.pieces.proofs.trying.results.Goals as goal

pub loop-index-preserved : goal.loop-index-preserved
loop-index-preserved g c =
    let ok : is_ok c.push.result ≡ true = c.if-is_err.ensures.negation in let e = rw ok at c.push.ensures.items in
    record {
      split = c.loop-index.invariant.split ∙ ap (λ (l : List (Answer _ _)). c.loop-index.yielded ++ l) c.in-Some.ensures.steps.0 ∙ sym (append_assoc c.loop-index.yielded ((c.in-Some.index, c.in-Some.answer) ∷ []) c.next.new.self.rest.items);
      results = rw e (Results-snoc _ _ (c.in-Some.index, c.in-Some.answer) c.in-Ok.out c.loop-index.invariant.results c.in-Ok.is);
    }

pub returns-in-Err-Refused : goal.returns-in-Err-Refused
returns-in-Err-Refused g c = (
  c.loop-index.yielded,
  c.loop-index.outs.items,
  c.next.new.self.rest.items,
  c.loop-index.invariant.split ∙ ap (λ (l : List (Answer _ _)). c.loop-index.yielded ++ l) c.in-Some.ensures.steps.0
      ∙ (λ i. c.loop-index.yielded ++ (c.in-Some.index, (c.in-Err-Refused.is ∙ ap Err c.in-Err-Refused.field-0-is) i) ∷ c.next.new.self.rest.items),
  c.loop-index.invariant.results,
)
