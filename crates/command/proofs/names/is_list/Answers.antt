use Rattle.std.proofs.Common.{◌≡◌, ℕ, List, [], ◌∷◌, Bor, ap, arith, codes, get_or, length, map, sym, ◌∙◌}
use Rattle.std.proofs.lemmas.Slice.Eq.{bytes_eq-Decides}
use Rattle.command.proofs.names.is_list.Goals as goal

one_name : (names : List (Bor (List ℕ))) (none : Bor (List ℕ)) (text : List ℕ) → length names ≡ 1 → (get_or names 0 none).now ≡ text → map (λ n. n.now) names ≡ text ∷ []
one_name [] none text one here = absurd (omega arith)
one_name (name ∷ []) none text one here = ap (λ (t : List ℕ). t ∷ []) here
one_name (name ∷ other ∷ names) none text one here = absurd (omega (arith, one))

pub returns-in-len1 : goal.returns-in-len1
returns-in-len1 c = λ said. one_name c.args.names.now record { ref_ptr = (0, 0); now = [] } (codes "-") (omega (arith, c.in-len1.len_at_least, c.in-len1.len_below)) ((bytes_eq-Decides _ _).0 (sym c.eq.ensures ∙ said))
