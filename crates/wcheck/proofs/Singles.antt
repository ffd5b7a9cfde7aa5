-- A list of operands without a run: each entry is an operand.
use Rattle.std.proofs.Common.{◌≡◌, ℕ, Bool, true, List, [], ◌∷◌, map, length, take, Option, refl, sym, ap, ◌∙◌, arith}
use Rattle.std.specs.Prelude.{◌==◌}
use Rattle.std.proofs.lemmas.List.{length-map, take-map}
use Rattle.wsyntax.specs.declared.ValType.{ValType}
use Rattle.wsyntax.specs.Types.{FuncType}
use Rattle.wcheck.specs.declared.entry.StackEntry.{StackEntry}
use Rattle.wcontext.specs.declared.lists.TypePrefix.{TypePrefix}
use Rattle.wcheck.specs.Heights.{type_of}
use Rattle.wcontext.specs.Lists.{prefix_of}
use Rattle.wcheck.specs.Runs.{types_in, IsCounted}
use Rattle.wcheck.proofs.Stretched.{singles}

pub no_runs : (types : List FuncType) (rs : List TypePrefix) (b : Bool) → b ≡ (length rs == 0) → b ≡ true → map (prefix_of types) rs ≡ []
no_runs types [] b e t = refl
no_runs types (r ∷ rs) b e t = absurd (let h : (length (r ∷ rs) == 0) ≡ true = sym e ∙ t in grind (arith, h))

-- none is left out of the count
pub counted_any : (xs ys : List StackEntry) (rs : List (List ValType)) (m : ℕ) → rs ≡ [] → IsCounted xs rs m → IsCounted ys rs m
counted_any xs ys rs m e c =
    let long : length (types_in xs rs) ≡ length xs = ap (λ z. length (types_in xs z)) e ∙ ap length (singles xs) ∙ length-map xs type_of in
    let also : length (types_in ys rs) ≡ length ys = ap (λ z. length (types_in ys z)) e ∙ ap length (singles ys) ∙ length-map ys type_of in
    record { count = omega (arith, also, long, c.count); small = c.small }

pub taken_singles : (xs ys : List StackEntry) (rs : List (List ValType)) (v : List (Option ValType)) (n : ℕ) → rs ≡ [] → types_in xs rs ≡ v → ys ≡ take n xs → types_in ys rs ≡ take n v
taken_singles xs ys rs v n e w q =
    ap (λ z. types_in z rs) q
    ∙ ap (types_in (take n xs)) e
    ∙ singles (take n xs)
    ∙ sym (take-map type_of n xs)
    ∙ ap (take n) (sym (singles xs) ∙ ap (types_in xs) (sym e) ∙ w)
