-- The fields of verdicts.
use Rattle.std.specs.Prelude.{◌≡◌, ◌≤◌, ◌⊎◌, ℕ, List}
use Rattle.wsyntax.specs.Validation.Verdict.{Verdict, Accepted, TooLarge, Malformed, RuleBroken, BodyRefused, BodyMalformed, TooManyLocals, IllTyped, IsVerdict}
use Rattle.wsyntax.specs.Texts.Lines.{verdict_line}
use Rattle.c_api.specs.Texts.{AreKept, Hands}
use Rattle.c_api.specs.declared.judged.GateVerdict.{GateVerdict}

-- a verdict of that kind alone
abbrev pub plain : ℕ → GateVerdict
plain kind = record { kind = kind; rule = 0; function = 0; token = 0 }

-- what is refused in the body of function f
abbrev pub of_body : ℕ → ℕ → ℕ → GateVerdict
of_body kind f token = record { kind = kind; rule = 0; function = f; token = token }

-- the fields of a verdict; those that do not belong to its kind are 0
abbrev pub fields_of : Verdict → GateVerdict
fields_of Accepted = plain 0
fields_of TooLarge = plain 1
fields_of Malformed = plain 2
fields_of (RuleBroken k) = record { kind = 3; rule = k; function = 0; token = 0 }
fields_of (BodyRefused f BodyMalformed) = of_body 4 f 0
fields_of (BodyRefused f TooManyLocals) = of_body 5 f 0
fields_of (BodyRefused f (IllTyped at)) = of_body 6 f at

-- the status that goes with it
abbrev pub status_of : Verdict → ℕ
status_of Accepted = 0
status_of v = 2

-- the bytes have this verdict, its fields are written, and the status is its status
abbrev pub Tells : List ℕ → GateVerdict → ℕ → Type 0
Tells bytes new status = (v : Verdict) × IsVerdict bytes v × (new ≡ fields_of v) × (status ≡ status_of v)

-- or memory was refused, and nothing is written
abbrev pub Answers : List ℕ → GateVerdict → GateVerdict → ℕ → Type 0
Answers bytes old new status = ((status ≡ 70) × (new ≡ old)) ⊎ Tells bytes new status

-- a rule has a number from 2 to 13
abbrev pub IsNamed : Verdict → Type 0
IsNamed (RuleBroken k) = (2 ≤ k) × (k ≤ 13)
IsNamed v = Unit {0}

-- the fields of no verdict
abbrev pub IsNoVerdict : GateVerdict → Type 0
IsNoVerdict fields = (v : Verdict) → IsNamed v → fields ≡ fields_of v → ⊥

-- the line of the verdict with these fields, whose rule has a number from 2 to 13
abbrev pub IsLineOf : GateVerdict → List ℕ → Type 0
IsLineOf fields line = (v : Verdict) × IsNamed v × (fields ≡ fields_of v) × (line ≡ verdict_line v)

-- the fields are of no verdict, or memory was refused, and nothing is written; or that line is handed out
abbrev pub HandsLine : GateVerdict → List ℕ → List ℕ → ℕ → ℕ → ℕ → Type 0
HandsLine fields old new was now answered =
    (((answered ≡ 64) × IsNoVerdict fields × AreKept old new was now) ⊎ ((answered ≡ 70) × AreKept old new was now))
    ⊎ ((line : List ℕ) × IsLineOf fields line × Hands line 0 old new now answered)
