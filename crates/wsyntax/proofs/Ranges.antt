-- Function types stay where they are when a list of value types grows.
use Rattle.std.proofs.Common.{◌≡◌, ℕ, ◌-◌, ◌≤◌, List, [], ◌∷◌, ◌++◌, length, map, drop, refl, ◌∙◌, arith, length-append, append_assoc}
use Rattle.std.specs.List.{All, slice_range}
use Rattle.std.proofs.lemmas.List.Elements.{All-head, All-tail, All-weaker}
use Rattle.std.proofs.lemmas.List.{drop-append-le, take-append-le, length-drop, map-append}
use Rattle.std.proofs.Math.Seq.{drop-append_seam, take-append_seam, take-length}
use Rattle.wsyntax.specs.Types.{FuncType, ValType}
use Rattle.wsyntax.specs.declared.func_types.TypeRange.{TypeRange}
use Rattle.wsyntax.specs.FuncTypes.{type_in, IsWithin}

within_more : (values more : List ValType) (r : TypeRange) → IsWithin values r → IsWithin (values ++ more) r
within_more values more r is = record { params = is.params; results = is.results; all = omega (arith, length-append values more, is.all) }

-- a part of a list, which grows
pub range_stays : {A : Type 0} (values more : List A) (a b : ℕ) → a ≤ b → b ≤ length values → slice_range (values ++ more) a b ≡ slice_range values a b
range_stays values more a b ordered within =
    let first : a ≤ length values = omega arith in
    let rest : b - a ≤ length (drop a values) = omega (arith, length-drop a values) in
    rw (drop-append-le a values more first, take-append-le (b - a) (drop a values) more rest) refl

type_in-more : (values more : List ValType) (r : TypeRange) → IsWithin values r → type_in (values ++ more) r ≡ type_in values r
type_in-more values more r is =
    let first : r.middle ≤ length values = omega (arith, is.results, is.all) in
    rw (range_stays values more r.start r.middle is.params first, range_stays values more r.middle r.end is.results is.all) refl

pub types_stay : (values more : List ValType) (rs : List TypeRange) → All (IsWithin values) rs → map (type_in (values ++ more)) rs ≡ map (type_in values) rs
types_stay values more [] all = refl
types_stay values more (r ∷ rs) all =
    let here = type_in-more values more r (All-head (IsWithin values) r rs all) in
    let rest = types_stay values more rs (All-tail (IsWithin values) r rs all) in cc (here, rest)

-- the part of a list that was added
range_added : (before here after : List ValType) → slice_range ((before ++ here) ++ after) (length before) (length (before ++ here)) ≡ here
range_added before here after =
    let count : length (before ++ here) - length before ≡ length here = omega (arith, length-append before here) in
    rw (count, append_assoc before here after, drop-append_seam before (here ++ after), take-append_seam here after) refl

range_last : (before here : List ValType) → slice_range (before ++ here) (length before) (length (before ++ here)) ≡ here
range_last before here =
    let count : length (before ++ here) - length before ≡ length here = omega (arith, length-append before here) in
    rw (count, drop-append_seam before here, take-length here) refl

-- the function type that was added last
added_last : (values params results : List ValType) (r : TypeRange) → r.start ≡ length values → r.middle ≡ length (values ++ params) → r.end ≡ length ((values ++ params) ++ results) → type_in ((values ++ params) ++ results) r ≡ record { params = params; results = results }
added_last values params results r start middle end =
    let first : slice_range ((values ++ params) ++ results) r.start r.middle ≡ params = rw (start, middle) (range_added values params results) in
    let second : slice_range ((values ++ params) ++ results) r.middle r.end ≡ results = rw (middle, end) (range_last (values ++ params) results) in
    rw (first, second) refl

-- one function type more, in the form of the loop that adds it
pub types_more : (values params results : List ValType) (rs : List TypeRange) (r : TypeRange) (ts : List FuncType) (t : FuncType) → r.start ≡ length values → r.middle ≡ length (values ++ params) → r.end ≡ length ((values ++ params) ++ results) → t ≡ record { params = params; results = results } → map (type_in values) rs ≡ ts → All (IsWithin values) rs → map (type_in ((values ++ params) ++ results)) (rs ++ r ∷ []) ≡ ts ++ t ∷ []
types_more values params results rs r ts t start middle end is so_far all =
    let within_first = All-weaker (IsWithin values) (IsWithin (values ++ params)) (λ s is. within_more values params s is) rs all in
    let stay = types_stay (values ++ params) results rs within_first ∙ types_stay values params rs all ∙ so_far in
    let last = added_last values params results r start middle end in
    rw (map-append (type_in ((values ++ params) ++ results)) rs (r ∷ []), stay, last, is) refl
