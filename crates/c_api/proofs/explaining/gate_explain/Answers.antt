use Rattle.std.proofs.Common.{◌≡◌, Option, Some, None, refl, inr, option_map}
use Rattle.std.specs.Prelude.{IfSome}
use Rattle.wsyntax.specs.Validation.Verdict.{Verdict}
use Rattle.explanation.specs.Told.{verdict_told}
use Rattle.c_api.specs.declared.explained.GateExplanation.{GateExplanation}
use Rattle.c_api.specs.Explained.{fields_with}
use Rattle.c_api.proofs.explaining.gate_explain.Goals as goal

no_fields : {P : Type 0} (n : GateExplanation) → Some n ≡ None → P
no_fields n e = cc

same_fields : (n m : GateExplanation) → Some n ≡ Some m → n ≡ m
same_fields n m e = cc

-- three facts on one verdict
all : (P R : Verdict → Type 0) (f : Verdict → GateExplanation) (n : GateExplanation) (given : Option Verdict) →
    IfSome given P → Some n ≡ option_map f given → IfSome given R → (v : Verdict) × (given ≡ Some v) × P v × (n ≡ f v) × R v
all P R f n None p e r = no_fields n e
all P R f n (Some v) p e r = (v, refl, p, same_fields n (f v) e, r)

pub returns-clause-fields : goal.returns-clause-fields
returns-clause-fields c =
    let (v, told, judged, fields, status) = all _ _ (fields_with c.explain-found.result) c.in-Some.fields (verdict_told c.explain-found.result) c.explain-found.ensures.verdict c.in-Some.ensures c.status_with.ensures in
    inr (c.explain-found.result, v, record { told = told; judged = judged; so = c.explain-found.ensures.so }, fields, status)
