-- The `requires` says only that a proof exists. An entailment is a proposition, so the proof may be opened in front of the walk that Rattle made.
use seplogic.Bi.Basic.{Entails-prop}
use mathlib.Core.Logic.{∥∥₁_elim}
use base.Logic.{via, mono_r, snd∗}
use denote.Triple.Entry.{on_entry}
use borrow.Fn.Kinds.{sig_of}
use contract.Monad.{fact, fact_use, fact_i}
use Rattle.interpreter.specs.Seen.{seen}
use Rattle.accepted_module.specs.Judgement.{shapes_of}
use Rattle.wstore.specs.Views.{module_in}
use Rattle.wstore.specs.Runs.{IsTypedCall}
use Rattle.wstore.proofs.execution.is_typed_call.Statement.{statement}
use Rattle.wstore.proofs.execution.is_typed_call.Lts as lts
use Rattle.wstore.proofs.execution.is_typed_call.Reads as reads
use Rattle.wstore.proofs.execution.is_typed_call.Tie as tie

-- the call at hand
abbrev Typed : lts.Pre-type
Typed = λ κs a. IsTypedCall (module_in a.0.now) (shapes_of a.0.now.accepted.now.bodies.items) a.1.0.now (seen a.0.now.parts) a.1.1.0 a.1.1.1.0.now a.1.1.1.1.0 a.1.1.1.1.1.0

pub is_typed_call_spec : {M : Type 1} → statement M
is_typed_call_spec {M} =
    tie.close (λ 𝓤 𝓛 𝓣 y.
    let held = on_entry 𝓛 (sig_of 5 lts.ps lts.r) y.0.0 y.0.1 y.0.3 y.0.4 in
    let merely = reads.Pre y.0.0 y.0.3 in
    fact_use 𝓤 merely (snd∗ 𝓤 held (fact 𝓤 merely)) (λ is.
    ∥∥₁_elim is (Entails-prop 𝓤.op _ _) (λ typed.
    via 𝓤 _ (mono_r 𝓤 held (fact_i 𝓤 (Typed y.0.0 y.0.3) (fact 𝓤 merely) typed))
    (lts.spec Typed reads.Post (λ c. c.requires) 𝓤 𝓛 𝓣 y))))
