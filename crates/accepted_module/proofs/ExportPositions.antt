-- From the position that a search by name finds, or not, to what the module exports under the name.
use Rattle.std.proofs.Common.{◌≡◌, ◌≢◌, ◌↔◌, ℕ, zero, suc, ◌+◌, ◌<◌, List, [], ◌∷◌, length, map, Option, Some, refl, sym, ap, ◌∙◌, arith, get_or, inl, inr}
use Rattle.std.specs.Prelude.{Contains}
use Rattle.std.specs.List.{All, AllPairs, range_with_len}
use Rattle.std.specs.List.Sorted.{IsPermutation}
use Rattle.std.proofs.Math.Logic.{∥∥₁_elim}
use Rattle.std.proofs.Props.{props}
use Rattle.std.proofs.lemmas.Bool.{cases_lt}
use Rattle.std.proofs.lemmas.List.{length-map, get_or-map}
use Rattle.std.proofs.lemmas.List.FromFn.{length-range_with_len, get_or-range_with_len}
use Rattle.std.proofs.lemmas.List.Sorted.{IsPermutation-sym, Contains-permutation}
use Rattle.wsyntax.specs.declared.module.Export.{Export}
use Rattle.wsyntax.specs.declared.module.ExportKind.{ExportKind}
use Rattle.wsyntax.specs.Modules.{ExportShape, export_shape}
use Rattle.accepted_module.specs.Exports.{name_at}

some_is : {A : Type 0} (a c : A) → Some a ≡ Some c → a ≡ c
some_is a c e = cc

-- The positions from 0 on, in another order.

-- each of them is below the count
position_below : (n : ℕ) (positions : List ℕ) (k : ℕ) → IsPermutation (range_with_len 0 n) positions → Contains positions k → k < n
position_below n positions k moved among =
    let found = Contains-permutation positions (range_with_len 0 n) k (IsPermutation-sym _ _ moved) among in
    let within : found.0 < n = rw length-range_with_len at found.1 in
    let is : 0 + found.0 ≡ k = sym (get_or-range_with_len 0 n found.0 k within) ∙ found.2 in
    omega arith

pub position_within : (n : ℕ) (positions : List ℕ) (k : ℕ) → ∥ IsPermutation (range_with_len 0 n) positions ∥₁ → Contains positions k → k < n
position_within n positions k moved among = ∥∥₁_elim moved (search props) (λ m. position_below n positions k m among)

-- each position below the count is one of them
position_among : (n : ℕ) (positions : List ℕ) (k : ℕ) → IsPermutation (range_with_len 0 n) positions → k < n → Contains positions k
position_among n positions k moved within =
    let is : 0 + k ≡ k = omega arith in
    Contains-permutation (range_with_len 0 n) positions k moved (k, rw length-range_with_len within, get_or-range_with_len 0 n k k within ∙ is)

-- Names.

-- the name of the export at that position
named : (exports : List Export) (k : ℕ) (d : ExportShape) → k < length exports → name_at exports k ≡ (get_or (map export_shape exports) k d).item_name
named [] k d within = absurd (omega arith)
named (x ∷ xs) zero d within = refl
named (x ∷ xs) (suc k) d within = named xs k d (omega arith)

-- no export has the name
none_has : (exports : List Export) (positions : List ℕ) (name : List ℕ) → IsPermutation (range_with_len 0 (length exports)) positions → All (λ k. name_at exports k ≢ name) positions → (e : ExportShape) → Contains (map export_shape exports) e → e.item_name ≢ name
none_has exports positions name moved differ e there same =
    let within : there.0 < length exports = rw length-map at there.1 in
    let among = position_among (length exports) positions there.0 moved within in
    differ among.0 there.0 among.1 (ap (name_at exports) among.2 ∙ named exports there.0 e within ∙ ap (λ (s : ExportShape). s.item_name) there.2 ∙ same)

pub none_exported : (exports : List Export) (positions : List ℕ) (name : List ℕ) → ∥ IsPermutation (range_with_len 0 (length exports)) positions ∥₁ → All (λ k. name_at exports k ≢ name) positions → (e : ExportShape) → Contains (map export_shape exports) e → e.item_name ≢ name
none_exported exports positions name moved differ e there same = ∥∥₁_elim moved (λ a b. absurd a) (λ m. none_has exports positions name m differ e there same)

-- names that are one stand at one position
one_position : (shapes : List ExportShape) (i k : ℕ) (d : ExportShape) → AllPairs (λ a b. a.item_name ≢ b.item_name) shapes → i < length shapes → k < length shapes → (get_or shapes i d).item_name ≡ (get_or shapes k d).item_name → i ≡ k
one_position shapes i k d distinct first second same =
    elim (cases_lt i k) [
      | inl below ↦ absurd (distinct i k d below second same)
      | inr above ↦ elim (cases_lt k i) [
        | inl below ↦ absurd (distinct k i d below first (sym same))
        | inr under ↦ omega arith
      ]
    ]

-- a kind and an index, as an answer
abbrev answer : ExportKind → ℕ → Option (ExportKind × ℕ)
answer kind index = Some (kind, index)

-- of the export at that position, which has the name: its kind and its index are those that are exported under the name, and no others are
pub is_exported : (exports : List Export) (name : List ℕ) (k : ℕ) (x : Export) → AllPairs (λ a b. a.item_name ≢ b.item_name) (map export_shape exports) → k < length exports → x ≡ get_or exports k x → name_at exports k ≡ name → (kind : ExportKind) (index : ℕ) → (answer x.kind x.index ≡ answer kind index) ↔ Contains (map export_shape exports) (record { item_name = name; kind = kind; index = index })
is_exported exports name k x distinct within is same kind index = (to, from)
  where
    shape : ExportShape
    shape = record { item_name = name; kind = kind; index = index }

    here : k < length (map export_shape exports)
    here = rw length-map within

    at : get_or (map export_shape exports) k shape ≡ export_shape x
    at = get_or-map export_shape exports k x shape within ∙ ap export_shape (sym is)

    name_is : (get_or (map export_shape exports) k shape).item_name ≡ name
    name_is = sym (named exports k shape within) ∙ same

    to : answer x.kind x.index ≡ answer kind index → Contains (map export_shape exports) shape
    to e =
        let both : (x.kind, x.index) ≡ (kind, index) = some_is {A = ExportKind × ℕ} (x.kind, x.index) (kind, index) e in
        let named_so : x.name.now ≡ name = ap (λ (s : ExportShape). s.item_name) (sym at) ∙ name_is in
        (k, here, at ∙ (λ i. record { item_name = named_so i; kind = (both i).0; index = (both i).1 }))

    from : Contains (map export_shape exports) shape → answer x.kind x.index ≡ answer kind index
    from there =
        let position : there.0 ≡ k = one_position (map export_shape exports) there.0 k shape distinct there.1 here (ap (λ (s : ExportShape). s.item_name) there.2 ∙ sym name_is) in
        ap (λ (s : ExportShape). answer s.kind s.index) (sym at ∙ ap (λ (i : ℕ). get_or (map export_shape exports) i shape) (sym position) ∙ there.2)
