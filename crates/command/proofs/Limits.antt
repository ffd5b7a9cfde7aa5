-- What settings and a plan keep of the numbers that they are made of.
use Rattle.std.proofs.Common.{◌≡◌, ℕ, Bool, true, false, Option, Some, None, ap, option_map}
use Rattle.std.specs.Prelude.{IfSome, if◌then◌else◌}
use Rattle.wstore.specs.Settings.{are_in_range, limits, limits_in_range}
use Rattle.wstore.specs.declared.settings.Settings.{Settings}
use Rattle.pieces.specs.declared.plan.Plan.{Plan}

same_value : {X : Type 0} (b : Bool) (x y : X) → Some x ≡ (if b then Some y else None) → x ≡ y
same_value true x y e = cc
same_value false x y e = absurd cc

-- what is true of limits is true of those of the settings
pub limits_kept : (P : ℕ → ℕ → ℕ → Type 0) (made : Option Settings) (fuel frames pages : ℕ) → option_map (λ s. limits s.fuel s.frames s.pages) made ≡ limits_in_range fuel frames pages → P fuel frames pages → IfSome made (λ s. P s.fuel s.frames s.pages)
limits_kept P None fuel frames pages e p = tt
limits_kept P (Some s) fuel frames pages e p =
    let same : limits s.fuel s.frames s.pages ≡ limits fuel frames pages = same_value (are_in_range fuel frames pages) (limits s.fuel s.frames s.pages) (limits fuel frames pages) e in
    let fuel' : s.fuel ≡ fuel = ap (λ l. l.fuel) same in
    let frames' : s.frames ≡ frames = ap (λ l. l.frames) same in
    let pages' : s.pages ≡ pages = ap (λ l. l.pages) same in
    rw (fuel', frames', pages') p

-- what is true of the numbers of a plan is true of those that it keeps
pub plan_kept : (P : ℕ → ℕ → Type 0) (made : Option Plan) (workers piece : ℕ) → IfSome made (λ p. (p.workers ≡ workers) × (p.piece ≡ piece)) → P workers piece → IfSome made (λ p. P p.workers p.piece)
plan_kept P None workers piece e held = tt
plan_kept P (Some p) workers piece e held = rw (e.0, e.1) held
