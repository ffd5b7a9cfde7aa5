-- A list that is taken from where it was put, which needs no comparison.
use Rattle.std.proofs.Common.{◌≡◌, ◌&&◌, Bool, true, List, [], ◌∷◌, ◌++◌, map, reverse, length, Option, Some, refl, sym, ap, ◌∙◌, arith, length-append}
use Rattle.wsyntax.specs.declared.ValType.{ValType}
use Rattle.wsyntax.specs.declared.ValType.TheVariants.{I32, I64, F32, F64}
use Rattle.wsyntax.specs.Types.{FuncType, same_type, same_types}
use Rattle.wsyntax.specs.Validation.Context.{Stack}
use Rattle.wsyntax.specs.Validation.Algorithm.{when, on, pop_all}
use Rattle.wcontext.specs.declared.lists.TypeList.{TypeList}
use Rattle.wcontext.specs.declared.lists.TypePrefix.{TypePrefix}
use Rattle.wcontext.specs.Lists.{list_of, prefix_of, IsSuffix}

pub same_as_itself : (t : ValType) → same_type t t ≡ true
same_as_itself I32 = refl
same_as_itself I64 = refl
same_as_itself F32 = refl
same_as_itself F64 = refl

pub same_list : (ts : List ValType) → same_types ts ts ≡ true
same_list [] = refl
same_list (t ∷ ts) = ap (λ b. b && same_types ts ts) (same_as_itself t) ∙ same_list ts

-- lists at one position
pub same_position : (types : List FuncType) (a b : TypeList) → a ≡ b → same_types (reverse (list_of types a)) (reverse (list_of types b)) ≡ true
same_position types a b e =
    ap (λ z. same_types (reverse (list_of types a)) (reverse (list_of types z))) (sym e) ∙ same_list (reverse (list_of types a))

-- one list that is a suffix of another, which is no longer
pub same_ends : (ts us : List ValType) → length ts ≡ length us → IsSuffix ts us → same_types (reverse ts) (reverse us) ≡ true
same_ends ts us e end = go end.0 end.1
  where
    go : (rest : List ValType) → us ≡ rest ++ ts → same_types (reverse ts) (reverse us) ≡ true
    go [] h = ap (λ z. same_types (reverse ts) (reverse z)) h ∙ same_list (reverse ts)
    go (t ∷ rest) h = absurd (omega (arith, e, ap length h, length-append rest ts))

pub same_wholes : (types : List FuncType) (a b : TypeList) (one other : TypePrefix) → prefix_of types one ≡ list_of types a → prefix_of types other ≡ list_of types b → one.count ≡ length (list_of types a) → other.count ≡ length (list_of types b) → one.count ≡ other.count → IsSuffix (prefix_of types one) (prefix_of types other) → same_types (reverse (list_of types a)) (reverse (list_of types b)) ≡ true
same_wholes types a b one other ea eb la lb same end =
    same_ends (list_of types a) (list_of types b) (sym la ∙ same ∙ lb) (end.0, sym eb ∙ end.1 ∙ ap (λ z. end.0 ++ z) ea)

-- t and then more, taken from t and then the rest, is more taken from the rest
pub taken_prefix : (ts us : Stack) (rest : List (Option ValType)) (d : Bool) → pop_all (ts ++ us) record { known = map Some ts ++ rest; is_dead = d } ≡ pop_all us record { known = rest; is_dead = d }
taken_prefix [] us rest d = refl
taken_prefix (t ∷ ts) us rest d =
    ap (λ b. on (when b (Some record { known = map Some ts ++ rest; is_dead = d })) (pop_all (ts ++ us))) (same_as_itself t) ∙ taken_prefix ts us rest d

-- t taken from t and then the rest leaves the rest
pub taken_whole : (ts : Stack) (rest : List (Option ValType)) (d : Bool) → pop_all ts record { known = map Some ts ++ rest; is_dead = d } ≡ Some record { known = rest; is_dead = d }
taken_whole [] rest d = refl
taken_whole (t ∷ ts) rest d =
    ap (λ b. on (when b (Some record { known = map Some ts ++ rest; is_dead = d })) (pop_all ts)) (same_as_itself t) ∙ taken_whole ts rest d
