-- Bytes spell one body and one module at most.
use Rattle.std.proofs.Common.{◌≡◌, ℕ, List, [], ◌∷◌, Some, refl, sym, ap, subst, ◌∙◌}
use Rattle.wsyntax.specs.Modules.{ModuleShape, BodyShape}
use Rattle.wsyntax.specs.Binary.Sections.{body}
use Rattle.wsyntax.specs.Binary.Shell.{SpellsBody, SpellsBodies, Spells}
use Rattle.wdecode.proofs.Agree.{whole_complete}
use Rattle.wdecode.proofs.SectionLaws.{body_agrees}
use Rattle.wdecode.proofs.SectionList.{one_shell}

body_same : (a c : BodyShape) → Some a ≡ Some c → a ≡ c
body_same a c e = cc

pub one_body : (bytes : List ℕ) (b d : BodyShape) → SpellsBody bytes b → SpellsBody bytes d → b ≡ d
one_body bytes b d s t = body_same b d (sym (whole_complete body body_agrees bytes b s) ∙ whole_complete body body_agrees bytes d t)

one_bodies : (all : List (List ℕ)) (bs ds : List BodyShape) → SpellsBodies all bs → SpellsBodies all ds → bs ≡ ds
one_bodies [] [] [] s t = refl
one_bodies [] [] (d ∷ ds) s t = absurd t
one_bodies [] (b ∷ bs) ds s t = absurd s
one_bodies (x ∷ xs) [] ds s t = absurd s
one_bodies (x ∷ xs) (b ∷ bs) [] s t = absurd t
one_bodies (x ∷ xs) (b ∷ bs) (d ∷ ds) s t = ap (λ (y : BodyShape). y ∷ bs) (one_body x b d s.0 t.0) ∙ ap (λ (ys : List BodyShape). d ∷ ys) (one_bodies xs bs ds s.1 t.1)

pub one_module : (bytes : List ℕ) (m n : ModuleShape) (bs ds : List BodyShape) → Spells bytes m bs → Spells bytes n ds → (m ≡ n) × (bs ≡ ds)
one_module bytes m n bs ds s t =
    let same = one_shell bytes m n s.0 t.0 in
    (same, one_bodies n.bodies bs ds (subst (λ (x : ModuleShape). SpellsBodies x.bodies bs) same s.1) t.1)
