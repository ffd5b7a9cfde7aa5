-- The order of function types: it is total, and equal types alone tie.
use Rattle.std.proofs.Common.{◌≡◌, ◌&&◌, List, [], ◌∷◌, map, refl}
use Rattle.std.specs.Cmp.{IsTotalOrder}
use Rattle.std.specs.Ordering.{nat_cmp, is_eq, ordering_then}
use Rattle.std.specs.declared.cmp.Ordering.{Ordering}
use Rattle.std.specs.declared.cmp.Ordering.TheVariants.{Less, Equal, Greater}
use Rattle.std.proofs.lemmas.Cmp.{nat_list_cmp_total, on_total, then_total}
use Rattle.wsyntax.specs.declared.ValType.{ValType}
use Rattle.wsyntax.specs.declared.ValType.TheVariants.{I32, I64, F32, F64}
use Rattle.wsyntax.specs.Types.{FuncType, same_type, same_types, same_func_type}
use Rattle.accepted_module.specs.TypeIds.{rank, list_cmp, func_type_cmp}

list_total : IsTotalOrder list_cmp
list_total = on_total (map rank) nat_list_cmp_total

pub func_type_total : IsTotalOrder func_type_cmp
func_type_total = then_total (on_total (λ (t : FuncType). t.params) list_total) (on_total (λ (t : FuncType). t.results) list_total)

both_tie : (a b : Ordering) → is_eq (ordering_then a b) ≡ (is_eq a && is_eq b)
both_tie Less b = refl
both_tie Equal b = refl
both_tie Greater b = refl

types_tie : (t u : ValType) → is_eq (nat_cmp (rank t) (rank u)) ≡ same_type t u
types_tie I32 I32 = refl
types_tie I32 I64 = refl
types_tie I32 F32 = refl
types_tie I32 F64 = refl
types_tie I64 I32 = refl
types_tie I64 I64 = refl
types_tie I64 F32 = refl
types_tie I64 F64 = refl
types_tie F32 I32 = refl
types_tie F32 I64 = refl
types_tie F32 F32 = refl
types_tie F32 F64 = refl
types_tie F64 I32 = refl
types_tie F64 I64 = refl
types_tie F64 F32 = refl
types_tie F64 F64 = refl

lists_tie : (ts us : List ValType) → is_eq (list_cmp ts us) ≡ same_types ts us
lists_tie [] [] = refl
lists_tie [] (u ∷ us) = refl
lists_tie (t ∷ ts) [] = refl
lists_tie (t ∷ ts) (u ∷ us) =
    rw (both_tie (nat_cmp (rank t) (rank u)) (list_cmp ts us), types_tie t u, lists_tie ts us) refl

pub func_types_tie : (s t : FuncType) → is_eq (func_type_cmp s t) ≡ same_func_type s t
func_types_tie s t =
    rw (both_tie (list_cmp s.params t.params) (list_cmp s.results t.results), lists_tie s.params t.params, lists_tie s.results t.results) refl
