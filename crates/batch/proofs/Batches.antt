-- The ends of all calls of a batch, from that of each.
use Rattle.std.proofs.Common.{◌≡◌, ℕ, suc, ◌+◌, IsTrue, List, [], ◌∷◌, Option, Some, length, refl, sym, ap, subst, ◌∙◌, arith}
use Rattle.std.specs.Prelude.{slice_get}
use Rattle.std.proofs.lemmas.Option.{same_Some}
use Rattle.wsyntax.specs.Modules.{module_shape}
use Rattle.wsyntax.specs.Texts.Answer.{EndOf, EndsOf}
use Rattle.soundness.specs.Instances.{Judged}
use Rattle.pieces.specs.TryAll.{AllPass}
use Rattle.batch_text.specs.Args.{args_of}
use Rattle.batch_text.specs.Calls.{call_of, calls_of}
use Rattle.batch_text.specs.Ends.{end_of, ends_of}
use Rattle.batch_text.specs.declared.call.Call.{Call}
use Rattle.batch_text.specs.declared.line.Line.{Line}
use Rattle.accepted_module.specs.declared.accepted.Accepted.{Accepted}
use Rattle.accepted_module.specs.Judgement.{shapes_of}
use Rattle.wstore.specs.declared.settings.Settings.{Settings}
use Rattle.wstore.specs.CallLimits.{limits_of}
use Rattle.wsyntax.specs.declared.value.Value.{Value}
use Rattle.batch.specs.Ends.{EndsAlone, IsCallee, is_short, GivesLine, GivesLineAt, AreEnds}
use Rattle.batch.specs.Groups.{GiveLines}
use Rattle.batch.proofs.CallEnds.{alone_end}
use Rattle.batch.proofs.Instance.{instance_of}

-- ---- one call

-- its line
pub given_line : (a : Accepted) (s : Settings) (f : ℕ) (c : Call) (args : List Value) (line : Line) → ∥ Judged (module_shape a.«module») (shapes_of a.bodies.items) ∥₁ → IsCallee (module_shape a.«module») (call_of c) f → args ≡ args_of c.args
    → EndsAlone (module_shape a.«module») (shapes_of a.bodies.items) (limits_of s) f args line → GivesLine a s c line
given_line a s f c args line judged callee same h =
    let m = module_shape a.«module» in
    let bodies = shapes_of a.bodies.items in
    let l = limits_of s in
    let ends : EndsAlone m bodies l f (args_of c.args) line = subst (λ (x : List Value). EndsAlone m bodies l f x line) same h in
    let (i, is) = instance_of m bodies judged in
    alone_end m bodies l (call_of c) f i line callee is ends

-- ---- all calls

first_given : (a : Accepted) (s : Settings) (c : Call) (cs : List Call) (line : Line) → GivesLineAt a s (c ∷ cs) 0 line → GivesLine a s c line
first_given a s c cs line (d, at, h) =
    let same : d ≡ c = sym (same_Some c d at) in
    subst (λ (x : Call). GivesLine a s x line) same h

-- a line at each position
lines_given : (a : Accepted) (s : Settings) (calls : List Call) (lines : List Line) → length lines ≡ length calls
    → ((i : ℕ) (line : Line) → slice_get lines i ≡ Some line → GivesLineAt a s calls i line) → GiveLines a s calls lines
lines_given a s [] [] count each = tt
lines_given a s [] (x ∷ xs) count each = absurd (omega (arith, count))
lines_given a s (c ∷ cs) [] count each = absurd (omega (arith, count))
lines_given a s (c ∷ cs) (x ∷ xs) count each =
    let rest : length xs ≡ length cs = omega (arith, count) in
    (first_given a s c cs x (each 0 x refl), lines_given a s cs xs rest (λ i line e. each (suc i) line e))

plus_zero : (n : ℕ) → n ≡ n + 0
plus_zero n = omega arith

from_zero : (i : ℕ) → 0 + i ≡ i
from_zero i = omega arith

plus_suc : (n i : ℕ) → suc n + i ≡ n + suc i
plus_suc n i = omega arith

-- the calls from index n on, of which all have these lines
ends_from : (a : Accepted) (s : Settings) (all : List Line) (n : ℕ) (calls : List Call) (lines : List Line) → GiveLines a s calls lines → ((i : ℕ) → slice_get all (n + i) ≡ slice_get lines i)
    → EndsOf (module_shape a.«module») (shapes_of a.bodies.items) (limits_of s) (λ n. IsTrue (is_short (slice_get all n))) n (calls_of calls) (ends_of lines)
ends_from a s all n [] [] h at = tt
ends_from a s all n [] (x ∷ xs) h at = absurd h
ends_from a s all n (c ∷ cs) [] h at = absurd h
ends_from a s all n (c ∷ cs) (x ∷ xs) h at =
    let here : Some x ≡ slice_get all n = sym (ap (slice_get all) (plus_zero n) ∙ at 0) in
    let others = ends_from a s all (suc n) cs xs h.1 (λ i. ap (slice_get all) (plus_suc n i) ∙ at (suc i)) in
    (subst (λ (found : Option Line). EndOf (module_shape a.«module») (shapes_of a.bodies.items) (limits_of s) (IsTrue (is_short found)) (call_of c) (end_of x)) here h.0, others)

pub ends_given : (a : Accepted) (s : Settings) (calls : List Call) (lines : List Line) → GiveLines a s calls lines → AreEnds a s calls lines
ends_given a s calls lines h = ends_from a s lines 0 calls lines h (λ i. ap (slice_get lines) (from_zero i))

pub all_end : (a : Accepted) (s : Settings) (calls : List Call) (n : ℕ) (lines : List Line) → n ≡ length calls → AllPass n (λ i. Unit {0}) (λ i line. GivesLineAt a s calls i line) lines → AreEnds a s calls lines
all_end a s calls n lines count h = ends_given a s calls lines (lines_given a s calls lines (h.len ∙ count) (λ i line e. (h.each i line e).1))
