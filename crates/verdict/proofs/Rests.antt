-- The rules of a whole module, by what is known of it without its data segments.
use Rattle.std.proofs.Common.{◌≡◌, get_or, ℕ, zero, suc, ◌<◌, List, Bool, false, sym, subst, arith}
use Rattle.std.specs.Prelude.{◌↔◌, IsTrue, All}
use Rattle.wsyntax.specs.Modules.{ModuleShape, DataShape}
use Rattle.wsyntax.specs.declared.ValType.TheVariants.{I32}
use Rattle.wsyntax.specs.declared.GlobalType.{GlobalType}
use Rattle.wsyntax.specs.Validation.Rules.{Keeps, NoneBroken, LeastBroken, ConstantOf, ElementValid, DataValid, SegmentsValid}
use Rattle.wcontext.specs.declared.space_sizes.SpaceSizes.{SpaceSizes}
use Rattle.wcontext.specs.Counted.{AreCountsOf, IsSegmentValid}
use Rattle.wdecode.specs.Fronts.{with_segments}

all_by : {X : Type 0} (P Q : X → Type 0) → ((x : X) → P x → Q x) → (xs : List X) → All P xs → All Q xs
all_by P Q f xs h = λ k d lt. f (get_or xs k d) (h k d lt)

-- ---- rules 0 to 12 do not look at data segments

pub of_whole : (m : ModuleShape) (segments : List DataShape) (k : ℕ) → k < 13 → Keeps m k ↔ Keeps (with_segments m segments) k
of_whole m segments zero lt = (λ h. h, λ h. h)
of_whole m segments (suc zero) lt = (λ h. h, λ h. h)
of_whole m segments (suc (suc zero)) lt = (λ h. h, λ h. h)
of_whole m segments (suc (suc (suc zero))) lt = (λ h. h, λ h. h)
of_whole m segments (suc (suc (suc (suc zero)))) lt = (λ h. h, λ h. h)
of_whole m segments (suc (suc (suc (suc (suc zero))))) lt = (λ h. h, λ h. h)
of_whole m segments (suc (suc (suc (suc (suc (suc zero)))))) lt = (λ h. h, λ h. h)
of_whole m segments (suc (suc (suc (suc (suc (suc (suc zero))))))) lt = (λ h. h, λ h. h)
of_whole m segments (suc (suc (suc (suc (suc (suc (suc (suc zero)))))))) lt = (λ h. h, λ h. h)
of_whole m segments (suc (suc (suc (suc (suc (suc (suc (suc (suc zero))))))))) lt = (λ h. h, λ h. h)
of_whole m segments (suc (suc (suc (suc (suc (suc (suc (suc (suc (suc zero)))))))))) lt = (λ h. h, λ h. h)
of_whole m segments (suc (suc (suc (suc (suc (suc (suc (suc (suc (suc (suc zero))))))))))) lt = (λ h. h, λ h. h)
of_whole m segments (suc (suc (suc (suc (suc (suc (suc (suc (suc (suc (suc (suc zero)))))))))))) lt = (all_by (ElementValid m) (ElementValid (with_segments m segments)) (λ s h. record { in_table = h.in_table; constant = h.constant; functions = h.functions }) m.elements, all_by (ElementValid (with_segments m segments)) (ElementValid m) (λ s h. record { in_table = h.in_table; constant = h.constant; functions = h.functions }) m.elements)
of_whole m segments (suc (suc (suc (suc (suc (suc (suc (suc (suc (suc (suc (suc (suc k))))))))))))) lt = absurd (omega arith)

pub least_of_whole : (m : ModuleShape) (segments : List DataShape) (k : ℕ) → k < 13 → LeastBroken m k → LeastBroken (with_segments m segments) k
least_of_whole m segments k lt b = record { broken = λ h. b.broken ((of_whole m segments k lt).1 h); before = λ j below. (of_whole m segments j (omega (arith, below))).0 (b.before j below) }

-- ---- rule 13

segment_of : (m : ModuleShape) (segments : List DataShape) (c : SpaceSizes) (d : DataShape) → AreCountsOf m c → IsSegmentValid c d ↔ DataValid (with_segments m segments) d
segment_of m segments c d are = (
  λ h. record { in_memory = subst (λ (n : ℕ). d.memory < n) are.memories h.0; constant = subst (λ (g : List GlobalType). ConstantOf g I32 d.offset) are.constants h.1 },
  λ h. (subst (λ (n : ℕ). d.memory < n) (sym are.memories) h.in_memory, subst (λ (g : List GlobalType). ConstantOf g I32 d.offset) (sym are.constants) h.constant),
)

each_segment : (m : ModuleShape) (segments : List DataShape) (c : SpaceSizes) → AreCountsOf m c → All (IsSegmentValid c) segments ↔ SegmentsValid (with_segments m segments)
each_segment m segments c are = (
  all_by (IsSegmentValid c) (DataValid (with_segments m segments)) (λ d. (segment_of m segments c d are).0) segments,
  all_by (DataValid (with_segments m segments)) (IsSegmentValid c) (λ d. (segment_of m segments c d are).1) segments,
)

pub none_of_whole : (m : ModuleShape) (segments : List DataShape) (c : SpaceSizes) → AreCountsOf m c → ((k : ℕ) → k < 13 → Keeps m k) → All (IsSegmentValid c) segments → NoneBroken (with_segments m segments)
none_of_whole m segments c are kept valid zero = tt
none_of_whole m segments c are kept valid (suc zero) = tt
none_of_whole m segments c are kept valid (suc (suc zero)) = kept 2 (omega arith)
none_of_whole m segments c are kept valid (suc (suc (suc zero))) = kept 3 (omega arith)
none_of_whole m segments c are kept valid (suc (suc (suc (suc zero)))) = kept 4 (omega arith)
none_of_whole m segments c are kept valid (suc (suc (suc (suc (suc zero))))) = kept 5 (omega arith)
none_of_whole m segments c are kept valid (suc (suc (suc (suc (suc (suc zero)))))) = kept 6 (omega arith)
none_of_whole m segments c are kept valid (suc (suc (suc (suc (suc (suc (suc zero))))))) = kept 7 (omega arith)
none_of_whole m segments c are kept valid (suc (suc (suc (suc (suc (suc (suc (suc zero)))))))) = kept 8 (omega arith)
none_of_whole m segments c are kept valid (suc (suc (suc (suc (suc (suc (suc (suc (suc zero))))))))) = kept 9 (omega arith)
none_of_whole m segments c are kept valid (suc (suc (suc (suc (suc (suc (suc (suc (suc (suc zero)))))))))) = kept 10 (omega arith)
none_of_whole m segments c are kept valid (suc (suc (suc (suc (suc (suc (suc (suc (suc (suc (suc zero))))))))))) = kept 11 (omega arith)
none_of_whole m segments c are kept valid (suc (suc (suc (suc (suc (suc (suc (suc (suc (suc (suc (suc zero)))))))))))) = (of_whole m segments 12 (omega arith)).0 (kept 12 (omega arith))
none_of_whole m segments c are kept valid (suc (suc (suc (suc (suc (suc (suc (suc (suc (suc (suc (suc (suc zero))))))))))))) = (each_segment m segments c are).0 valid
none_of_whole m segments c are kept valid (suc (suc (suc (suc (suc (suc (suc (suc (suc (suc (suc (suc (suc (suc k)))))))))))))) = tt

-- a segment that is not valid breaks rule 13 first
pub segments_broken : (m : ModuleShape) (segments : List DataShape) (c : SpaceSizes) (b : Bool) → AreCountsOf m c → ((k : ℕ) → k < 13 → Keeps m k) → IsTrue b ↔ All (IsSegmentValid c) segments → b ≡ false → LeastBroken (with_segments m segments) 13
segments_broken m segments c b are kept says refused = record {
  broken = λ h. not_true b refused (says.1 ((each_segment m segments c are).1 h));
  before = λ j lt. (of_whole m segments j lt).0 (kept j lt);
}
  where
    not_true : (b : Bool) → b ≡ false → IsTrue b → ⊥
    not_true b e h = cc
