-- The verdicts on the modules so far.
use denote.Ref.{Bor}
use Rattle.std.proofs.Common.{◌≡◌, ℕ, ◌+◌, ◌<◌, List, [], ◌∷◌, ◌++◌, Option, Result, Some, None, length, get_or, map, take, sym, ap, subst, ◌∙◌, arith}
use Rattle.std.specs.Prelude.{IfSome, slice_get}
use Rattle.std.proofs.lemmas.List.{map-append, take_more}
use Rattle.std.proofs.lemmas.Option.{same_Some, slice_get-get_or}
use Rattle.refusal.specs.declared.refusal.Refusal.{Refusal}
use Rattle.program.specs.Verdicts.{AreFound, AreVerdicts, GivesVerdict, IsJudged}

both : (bs cs : List (List ℕ)) (vs ws : List (Result (Unit {0}) Refusal)) → AreVerdicts bs vs → AreVerdicts cs ws → AreVerdicts (bs ++ cs) (vs ++ ws)
both [] cs [] ws h g = g
both [] cs (v ∷ vs) ws h g = absurd h
both (b ∷ bs) cs [] ws h g = absurd h
both (b ∷ bs) cs (v ∷ vs) ws h g = (h.0, both bs cs vs ws h.1 g)

-- the verdict on the next module
pub one_more : (modules : List (Bor (List ℕ))) (k : ℕ) (b : Bor (List ℕ)) (vs : List (Result (Unit {0}) Refusal)) (v : Result (Unit {0}) Refusal) → k < length modules → slice_get modules k ≡ Some b
    → AreVerdicts (map (λ b. b.now) (take k modules)) vs → IsJudged b.now v → AreVerdicts (map (λ b. b.now) (take (k + 1) modules)) (vs ++ (v ∷ []))
one_more modules k b vs v below at h judged =
    let here : get_or modules k b ≡ b = same_Some (get_or modules k b) b (sym (slice_get-get_or modules k b below) ∙ at) in
    let more : map (λ (b : Bor (List ℕ)). b.now) (take (k + 1) modules) ≡ map (λ (b : Bor (List ℕ)). b.now) (take k modules) ++ (b.now ∷ []) =
    ap (map (λ (b : Bor (List ℕ)). b.now)) (take_more modules k b below ∙ ap (λ (d : Bor (List ℕ)). take k modules ++ d ∷ []) here) ∙ map-append (λ (b : Bor (List ℕ)). b.now) (take k modules) (b ∷ []) in
    subst (λ (l : List (List ℕ)). AreVerdicts l (vs ++ (v ∷ []))) (sym more) (both (map (λ (b : Bor (List ℕ)). b.now) (take k modules)) (b.now ∷ []) vs (v ∷ []) h (judged, tt))

given : (modules : List (Bor (List ℕ))) (i : ℕ) (b : Bor (List ℕ)) (out : Option (Result (Unit {0}) Refusal)) → slice_get modules i ≡ Some b → GivesVerdict modules i out → IfSome out (IsJudged b.now)
given modules i b None at h = tt
given modules i b (Some judged) at (bytes, there, is) = subst (λ (x : Bor (List ℕ)). IsJudged x.now judged) (same_Some bytes b (sym there ∙ at)) is

-- what was found of a module is its verdict
pub found_here : (modules : List (Bor (List ℕ))) (found : List (Option (Result (Unit {0}) Refusal))) (i : ℕ) (d : Option (Result (Unit {0}) Refusal)) (e : Bor (List ℕ)) → i < length modules → AreFound modules found
    → IfSome (get_or found i d) (IsJudged (get_or modules i e).now)
found_here modules found i d e below all =
    let there : i < length found = omega (arith, all.count, below) in
    given modules i (get_or modules i e) (get_or found i d) (slice_get-get_or modules i e below) (all.each i (get_or found i d) (slice_get-get_or found i d there))
