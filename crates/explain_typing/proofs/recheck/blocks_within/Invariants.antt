use Rattle.std.proofs.Common.{◌≡◌, ◌-◌, ◌++◌, length, map, take}
use Rattle.explain_typing.specs.Typed.{AreKept, block_types}
use Rattle.explanation.specs.Functions.{type_told}
use Rattle.explain_typing.proofs.recheck.blocks_within.Given as goal

abbrev pub invariant-loop-inner : goal.invariant-loop-inner
invariant-loop-inner l = record {
  types : map (λ b. type_told b.signature) l.blocks.items ++ take (8 - l.inner) (block_types l.checker.frames) ≡ take 8 (block_types l.initial.checker.frames);
  openings : AreKept l.trail l.blocks.items;
  count : length l.blocks.items ≡ l.inner;
}
