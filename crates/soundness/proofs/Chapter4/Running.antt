-- What the bounded run of the definition computes is a chain within the limits to such an end (`computed`), by induction over its bound.
use Rattle.std.proofs.Common.{◌≡◌, ℕ, zero, suc, ◌+◌, ◌<◌, ◌≤◌, Bool, true, false, List, [], ◌∷◌, Option, Some, None, refl, subst, arith, ltb-true, ltb-false, reverse}
use Rattle.std.specs.Prelude.{nat_lt}
use Rattle.wsyntax.specs.Instructions.{Stop}
use Rattle.wsyntax.specs.Execution.Store.{Module}
use Rattle.wsyntax.specs.Execution.Step.{Work, Source, Trap, Config, Kind, Looping, Entering, Working, Quiet, Next, Steps, Breaks, Returns, Finished, Trapped, Traps, Stuck, step}
use Rattle.wsyntax.specs.Execution.Chain.{Step, Within, charge, charged, frames_in}
use Rattle.wsyntax.specs.Execution.Ends.{Outcome, Values, EndsAs, values, trapped, out_of_fuel, out_of_frames, start}
use Rattle.wsyntax.specs.Execution.Run.{Run, Over, NotOver, Goes, spend, enter, run_on, alone, over_or, run}
use Rattle.wsyntax.specs.Execution.Laws.{Computed}
use Rattle.soundness.proofs.Chapter4.Chains.{paid}

record Reaches (m : Module) (frames fuel : ℕ) (c : Config) (o : Outcome) (left : ℕ) (last : Config) : Type 0 where
  kinds : List Kind
  chain : Within m frames fuel c kinds last left
  end : EndsAs m frames last left o

abbrev RunOk : Module → ℕ → ℕ → Config → Run → Type 0
RunOk m frames fuel c (Over o left last) = Reaches m frames fuel c o left last
RunOk m frames fuel c NotOver = Unit {0}

step_before : (m : Module) {frames fuel : ℕ} (c : Config) (spare : ℕ) (d : Config) (kind : Kind) (r : Run) → Step m c kind d → fuel ≡ charge kind + spare → (kind ≡ Entering → frames_in c.work < frames) → RunOk m frames spare d r → RunOk m frames fuel c r
step_before m c spare d kind (Over o left last) st p room h = record { kinds = kind ∷ h.kinds; chain = Within.after st p room h.chain; end = h.end }
step_before m c spare d kind NotOver st p room h = tt

module _ (m : Module) (frames : ℕ) (go : Goes) (ih : (fuel : ℕ) (c : Config) → RunOk m frames fuel c (go fuel c)) where
  loops : (fuel : ℕ) (c d : Config) → Step m c Looping d → RunOk m frames fuel c (spend fuel c d go)
  loops zero c d st = record { kinds = []; chain = Within.ends; end = out_of_fuel st refl refl }
  loops (suc spare) c d st = step_before m c spare d Looping (go spare d) st (omega arith) (λ e. absurd (cc)) (ih spare d)

  enters_if : (b : Bool) (spare : ℕ) (c d : Config) → Step m c Entering d → (b ≡ true → frames_in c.work < frames) → (b ≡ false → frames ≤ frames_in c.work) → RunOk m frames (suc spare) c (enter b go c spare d)
  enters_if true spare c d st room full = step_before m c spare d Entering (go spare d) st (omega arith) (λ e. room refl) (ih spare d)
  enters_if false spare c d st room full = record { kinds = []; chain = Within.ends; end = out_of_frames st (omega arith) (full refl) }

  enters : (fuel : ℕ) (c d : Config) → Step m c Entering d → RunOk m frames fuel c (spend fuel c d (enter (nat_lt (frames_in c.work) frames) go c))
  enters zero c d st = record { kinds = []; chain = Within.ends; end = out_of_fuel st refl refl }
  enters (suc spare) c d st = enters_if (nat_lt (frames_in c.work) frames) spare c d st (λ e. ltb-true _ _ e) (λ e. ltb-false _ _ e)

  run_on_ok : (fuel : ℕ) (c : Config) (o : Next) → step m c ≡ o → RunOk m frames fuel c (run_on go frames fuel c o)
  run_on_ok fuel c (Steps Looping s l w) e = loops fuel c (record { store = s; locals = l; work = w }) e
  run_on_ok fuel c (Steps Entering s l w) e = enters fuel c (record { store = s; locals = l; work = w }) e
  run_on_ok fuel c (Steps Working s l w) e =
      let d : Config = record { store = s; locals = l; work = w } in
      step_before m c fuel d Working (go fuel d) e (omega arith) (λ k. absurd (cc)) (ih fuel d)
  run_on_ok fuel c (Steps Quiet s l w) e =
      let d : Config = record { store = s; locals = l; work = w } in
      step_before m c fuel d Quiet (go fuel d) e (omega arith) (λ k. absurd (cc)) (ih fuel d)
  run_on_ok fuel c (Finished vs) e = tt
  run_on_ok fuel c (Trapped t) e = tt
  run_on_ok fuel c (Breaks x vs) e = tt
  run_on_ok fuel c (Returns vs) e = tt
  run_on_ok fuel c (Traps t) e = tt
  run_on_ok fuel c Stuck e = tt

  over_or_ok : (fuel : ℕ) (c : Config) (o : Option Outcome) (r : Run) → ((x : Outcome) → o ≡ Some x → EndsAs m frames c fuel x) → RunOk m frames fuel c r → RunOk m frames fuel c (over_or o fuel c r)
  over_or_ok fuel c (Some o) r f h = record { kinds = []; chain = Within.ends; end = f o refl }
  over_or_ok fuel c None r f h = h

alone_ok : (m : Module) (frames fuel : ℕ) (c : Config) (w : Work) → c.work ≡ w → (o : Outcome) → alone w ≡ Some o → EndsAs m frames c fuel o
alone_ok m frames fuel c (Source vs Stop) e o f = let h : Values (reverse vs) ≡ o = cc in subst (EndsAs m frames c fuel) h (values vs e)
alone_ok m frames fuel c (Trap [] t Stop) e o f = let h : Outcome.Trapped t ≡ o = cc in subst (EndsAs m frames c fuel) h (trapped t e)
alone_ok m frames fuel c _ e o f = absurd (cc)

run_ok : (m : Module) (frames n fuel : ℕ) (c : Config) → RunOk m frames fuel c (run m frames n fuel c)
run_ok m frames zero fuel c = tt
run_ok m frames (suc n) fuel c =
    over_or_ok m frames (run m frames n) (run_ok m frames n) fuel c (alone c.work) _ (alone_ok m frames fuel c c.work refl)
    (run_on_ok m frames (run m frames n) (run_ok m frames n) fuel c (step m c) refl)

pub computed : Computed
computed m s f args fuel frames n o left last e =
    let h = subst (RunOk m frames fuel (start s f args)) e (run_ok m frames n fuel (start s f args)) in
    (charged h.kinds, paid m frames fuel left (start s f args) last h.kinds h.chain, record { kinds = h.kinds; left = left; last = last; chain = h.chain; end = h.end; count = refl; kept = refl })
