-- Ends of lists of value types.
use Rattle.std.proofs.Common.{◌≡◌, ℕ, ◌-◌, ◌≤◌, ◌&&◌, min, List, [], ◌∷◌, ◌++◌, length, take, drop, Bool, true, false, Option, Some, None, refl, sym, ap, subst, ◌∙◌, arith, length-drop}
use Rattle.std.specs.Prelude.{IfSome}
use Rattle.std.specs.Cmp.Lexicographic.{pointwise}
use Rattle.std.proofs.Math.Seq.{take-length}
use Rattle.std.proofs.lemmas.List.{take-append-drop, length-take, take_min}
use Rattle.wsyntax.specs.Types.{FuncType}
use Rattle.wsyntax.specs.declared.ValType.{ValType}
use Rattle.wcontext.specs.declared.lists.TypePrefix.{TypePrefix}
use Rattle.wcontext.specs.declared.suffix_tree.SuffixTree.{SuffixTree}
use Rattle.wcontext.specs.Lists.{list_of, prefix_of, IsSuffix}
use Rattle.wcontext.specs.SuffixTree.{IsSuffixTree, TellsSuffix}

both : (a b : Bool) → (a && b) ≡ true → (a ≡ true) × (b ≡ true)
both true b h = (refl, h)
both false b h = cc

-- lists that are the same type by type
pub same_from : {E : ValType → ValType → Bool} → ((t u : ValType) → E t u ≡ true → t ≡ u) → (ts us : List ValType) → pointwise E ts us ≡ true → ts ≡ us
same_from tells [] [] h = refl
same_from tells [] (u ∷ us) h = absurd cc
same_from tells (t ∷ ts) [] h = absurd cc
same_from {E} tells (t ∷ ts) (u ∷ us) h =
    let parts = both (E t u) (pointwise E ts us) h in
    rw (tells t u parts.0, same_from tells ts us parts.1) refl

-- the last types of a list are those of another
pub suffix_from : {E : ValType → ValType → Bool} → ((t u : ValType) → E t u ≡ true → t ≡ u) → (long short : List ValType) (k : ℕ) → k ≤ length long → pointwise E (take (length long - k) (drop k long)) short ≡ true → IsSuffix short long
suffix_from tells long short k within h =
    let rest : take (length long - k) (drop k long) ≡ drop k long = ap (λ n. take n (drop k long)) (sym (length-drop k long)) ∙ take-length (drop k long) in
    (take k long, sym (take-append-drop k long) ∙ ap (λ z. take k long ++ z) (sym rest ∙ same_from tells _ short h))

-- What the suffix tree tells.

prefix_whole : (types : List FuncType) (f : TypePrefix) (n : ℕ) → n ≡ length (prefix_of types f) → (n ≤ length (list_of types f.list)) × (take n (list_of types f.list) ≡ prefix_of types f)
prefix_whole types f n is =
    let size : n ≡ min f.count (length (list_of types f.list)) = is ∙ length-take f.count (list_of types f.list) in
    (omega (arith, size), ap (λ k. take k (list_of types f.list)) size ∙ take_min f.count (list_of types f.list))

pub told : (types : List FuncType) (t : SuffixTree) (short long : TypePrefix) (n m : ℕ) (r : Option Bool) → IfSome r (λ a. a ≡ true → TellsSuffix t short.list n long.list m) → IsSuffixTree types t
    → n ≡ length (prefix_of types short) → m ≡ length (prefix_of types long) → IfSome r (λ a. a ≡ true → IsSuffix (prefix_of types short) (prefix_of types long))
told types t short long n m None h tree first second = h
told types t short long n m (Some a) h tree first second = λ yes.
    let one = prefix_whole types short n first in
    let other = prefix_whole types long m second in
    subst (λ l. IsSuffix l (prefix_of types long)) one.1 (subst (λ l. IsSuffix (take n (list_of types short.list)) l) other.1 (h yes types tree one.0 other.0))
