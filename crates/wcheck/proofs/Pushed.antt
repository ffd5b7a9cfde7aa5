-- What is put on a list of operands.
use Rattle.std.proofs.Common.{◌≡◌, ℕ, ◌+◌, ◌-◌, ◌^◌, ◌<◌, ◌≤◌, Bool, false, List, [], ◌∷◌, ◌++◌, map, length, take, Option, Some, sym, ap, ◌∙◌, subst}
use Rattle.std.specs.Prelude.{Result, Ok, Err, is_ok, is_err, if◌then◌else◌}
use Rattle.std.proofs.lemmas.List.{map-append}
use Rattle.std.proofs.Math.Seq.{take-length}
use Rattle.wsyntax.specs.declared.ValType.{ValType}
use Rattle.wsyntax.specs.Types.{FuncType}
use Rattle.wcontext.specs.declared.lists.TypeList.{TypeList}
use Rattle.wcontext.specs.Lists.{list_of, prefix_of}
use Rattle.wcheck.specs.declared.entry.StackEntry.{StackEntry}
use Rattle.wcontext.specs.declared.lists.TypePrefix.{TypePrefix}
use Rattle.wcheck.specs.declared.entry.StackEntry.TheVariants.{Run}
use Rattle.wcheck.specs.Heights.{type_of}
use Rattle.wcheck.specs.Runs.{is_several, of_run, types_in, IsCounted}
use Rattle.wcheck.proofs.Stretched.{single, several, whole_run, counted_single, counted_run}

pub pushed : (xs ys : List StackEntry) (rs : List (List ValType)) (v : List (Option ValType)) (x : StackEntry) (t : Option ValType) → ys ≡ xs ++ x ∷ [] → types_in xs rs ≡ v → is_several x ≡ false → type_of x ≡ t → types_in ys rs ≡ v ++ t ∷ []
pushed xs ys rs v x t e w q k =
    ap (λ z. types_in z rs) e ∙ single xs rs x q ∙ ap (λ z. z ++ type_of x ∷ []) w ∙ ap (λ z. v ++ z ∷ []) k

pub pushed_counted : (xs ys : List StackEntry) (rs : List (List ValType)) (x : StackEntry) (m : ℕ) → ys ≡ xs ++ x ∷ [] → is_several x ≡ false → IsCounted xs rs m → IsCounted ys rs m
pushed_counted xs ys rs x m e q c = subst (λ z. IsCounted z rs m) (sym e) (counted_single xs rs x m c q)

-- what was pushed, where no error came
pub ok_items : {T E X : Type 0} (r : Result T E) (failed : Bool) (zs a b : X) → failed ≡ is_err r → failed ≡ false → zs ≡ (if is_ok r then a else b) → zs ≡ a
ok_items (Ok t) failed zs a b h f q = q
ok_items (Err t) failed zs a b h f q = absurd cc

-- as many of the prefix of a list as there are
pub whole_list : (types : List FuncType) (list : TypeList) (left : ℕ) → left ≡ length (list_of types list) → prefix_of types record { list = list; count = left } ≡ list_of types list
whole_list types list left e = take-all_at (list_of types list) left e
  where
    take-all_at : (xs : List ValType) (n : ℕ) → n ≡ length xs → take n xs ≡ xs
    take-all_at xs n h = ap (λ k. take k xs) h ∙ take-length xs

-- the run stands for the types r
module _ (types : List FuncType) (xs ys : List StackEntry) (rs qs : List TypePrefix) (run : TypePrefix) (r : List ValType) (k : prefix_of types run ≡ r) (e : ys ≡ xs ++ Run ∷ []) (f : qs ≡ rs ++ run ∷ []) where
  runs_are : map (prefix_of types) qs ≡ map (prefix_of types) rs ++ r ∷ []
  runs_are =
      ap (map (prefix_of types)) f
      ∙ map-append (prefix_of types) rs (run ∷ [])
      ∙ ap (λ z. map (prefix_of types) rs ++ z ∷ []) k

  pub run_pushed : (v : List (Option ValType)) → types_in xs (map (prefix_of types) rs) ≡ v → 0 < length r → types_in ys (map (prefix_of types) qs) ≡ v ++ map Some r
  run_pushed v w lt =
      ap (λ z. types_in z (map (prefix_of types) qs)) e
      ∙ ap (types_in (xs ++ Run ∷ [])) runs_are
      ∙ several xs (map (prefix_of types) rs) r
      ∙ ap (λ z. z ++ of_run r) w
      ∙ ap (λ z. v ++ z) (whole_run r lt)

  pub run_pushed_counted : (m more : ℕ) → more ≡ m + (length r - 1) → more ≤ 2 ^ 63 → IsCounted xs (map (prefix_of types) rs) m → IsCounted ys (map (prefix_of types) qs) more
  run_pushed_counted m more h le c =
      subst (λ z. IsCounted z (map (prefix_of types) qs) more) (sym e) (subst (λ z. IsCounted (xs ++ Run ∷ []) z more) (sym runs_are) (counted_run xs (map (prefix_of types) rs) r m more c h le))
