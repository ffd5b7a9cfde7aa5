use Rattle.std.proofs.Common.{ℕ, List, [], Bor, map, string_bytes, ◌∙◌}
use Rattle.std.proofs.lemmas.List.{map-append}
use Rattle.program.proofs.Rounds.{paths_joined, spread_next}
use Rattle.program.proofs.spreading.spread.Goals as goal

pub loop-name-preserved : goal.loop-name-preserved
loop-name-preserved g c =
    let none : Bor (List ℕ) = record { ref_ptr = (0, 0); now = [] } in
    let items = c.in_ok-append.ensures.items in
    record {
      spread = rw (items, map-append) (spread_next (g.S.Source.lists c.args.source.now) (g.S.Source.lists c.loop-name.source) c.args.names.now c.loop-name.name-index none (map string_bytes c.loop-name.files.items) (map string_bytes c.in_ok-here.here.items) c.loop-name-test.true c.loop-name.invariant.same_lists c.loop-name.invariant.spread c.in_ok-here.ensures.known);
      same = λ other. c.list.ensures.same other ∙ c.loop-name.invariant.same other;
      same_lists = λ other. c.list.ensures.same_lists other ∙ c.loop-name.invariant.same_lists other;
      logged = paths_joined (g.S.Source.asked c.args.source.now) (g.S.Source.asked c.loop-name.source) (g.S.Source.asked c.list.new.self) [] [] c.loop-name.invariant.logged c.list.ensures.logged;
    }
