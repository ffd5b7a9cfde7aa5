use Rattle.std.proofs.Common.{◌++◌, ◌∷◌, [], List, sym, ◌∙◌, ap, append_assoc}
use Rattle.pieces.specs.declared.member.Member.{Member}
use Rattle.pieces.specs.declared.share.Share.{Share}
use Rattle.pieces.specs.Gathered.{Answer}
use Rattle.pieces.specs.Crew.{answers_by}
use Rattle.pieces.proofs.AllWorkers.{shares_of-snoc, answers_of-snoc, any_short-snoc}
use Rattle.pieces.proofs.gathering.split_crew.Goals as goal

pub loop-member-preserved : goal.loop-member-preserved
loop-member-preserved g c =
    let old = c.loop-member.invariant in let m = c.in-Some.member in
    record {
      split = old.split ∙ ap (λ (l : List (Member _ _ _)). c.loop-member.yielded ++ l) c.in-Some.ensures.steps.0
          ∙ sym (append_assoc c.loop-member.yielded (m ∷ []) c.next.new.self.rest.items);
      shares = rw c.in_ok-push.ensures.items (ap (λ (l : List Share). l ++ m.share ∷ []) old.shares ∙ sym (shares_of-snoc c.loop-member.yielded m));
      answers = rw (c.in_ok-append.ensures.items, c.into_inner-theirs.ensures)
          (ap (λ (l : List (Answer _ _)). l ++ answers_by m) old.answers ∙ sym (answers_of-snoc c.loop-member.yielded m));
      whole = any_short-snoc c.loop-member.yielded m c.if-short.false ∙ old.whole;
    }
