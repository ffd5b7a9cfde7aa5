-- Turns that leave a function: a return, and the end of its body. With nobody waiting the call is over.
use Rattle.std.proofs.Common.{◌≡◌, ℕ, ◌≤◌, cond, List, [], ◌∷◌, ◌++◌, length, map, take, append-nil, refl, sym, ap, ap₂, ◌∙◌, arith, append_assoc}
use Rattle.std.proofs.lemmas.Bool.{eq-eqb}
use Rattle.std.proofs.lemmas.List.{take_all}
use Rattle.wsyntax.specs.Instructions.{Return, Code, Stop, Plain}
use Rattle.wsyntax.specs.declared.value.Value.{Value}
use Rattle.wsyntax.specs.Execution.Store.{Module, Store}
use Rattle.wsyntax.specs.Execution.Step.{Source, Frame, Working, Quiet, Steps, Stuck, leaves, in_frame, act, source, next, outermost, step}
use Rattle.wsyntax.specs.Execution.Chain.{Within}
use Rattle.wsyntax.specs.Execution.Ends.{EndsAs}
use Rattle.wsyntax.specs.Execution.Layers.{LabelLayer, in_labels}
use Rattle.soundness.specs.State.{config_at, config_of, belows}
use Rattle.soundness.specs.Slots.{slots}
use Rattle.refinement.specs.Machine.{Program, module_of, Gave, Going, Over, takes}
use Rattle.refinement.specs.Joint.{Site, Joint, activation, state_of, machine_of}
use Rattle.refinement.specs.Reduction.{ReductionLaws}
use Rattle.refinement.specs.Turns.{called_by, ReturnTurn, PastLastTurn, alone, ReturnEndsCall, PastLastEndsCall}
use Rattle.refinement.proofs.OneTurn.Stacks.{take_slots, given_slots}

-- the caller, with these values on top of its own
abbrev given : Joint → List Value → Site → List Site → Joint
given j vs b bs = record j { running = record b { held = vs ++ b.held }; waiting = bs }

-- the results that the machine gives its caller
given_is : (j : Joint) (b : Site) (bs : List Site) → (activation j.running).arity ≤ length (j.running).held → take (activation j.running).arity (slots ((j.running).held ++ belows (j.running).levels)) ++ slots (b.held ++ belows b.levels) ≡ slots ((take (activation j.running).arity (j.running).held ++ b.held) ++ belows b.levels)
given_is j b bs le =
    given_slots (activation j.running).arity (j.running).held (belows (j.running).levels) (b.held ++ belows b.levels) le
    ∙ ap slots (sym (append_assoc (take (activation j.running).arity (j.running).held) b.held (belows b.levels)))

-- a frame whose body is done leaves its values
frame_done : (m : Module) (s : Store) (l below own held : List Value) (n : ℕ) (levels : List LabelLayer) (code rest : Code) → code ≡ Stop → levels ≡ [] → length held ≡ n → next m s l (Frame below n own (in_labels levels (Source held code)) rest) ≡ Steps Quiet s l (Source (held ++ below) rest)
unfolding next source in_frame
frame_done m s l below own held n levels code rest ec el en =
    ap₂ (λ levels code. next m s l (Frame below n own (in_labels levels (Source held code)) rest)) el ec
    ∙ ap (λ c. cond c (leaves Quiet s l (held ++ below) rest) Stuck) (eq-eqb (length held) n en)

all_held : (j : Joint) → length (j.running).held ≡ (activation j.running).arity → take (activation j.running).arity (j.running).held ≡ (j.running).held
all_held j en = take_all (activation j.running).arity (j.running).held (omega (arith, en))

module _ (laws : ReductionLaws) where
  return_step : (p : Program) (j : Joint) (b : Site) (bs : List Site) (rest : Code) → (j.running).code ≡ Plain Return rest → (activation j.running).arity ≤ length (j.running).held → step (module_of p) (config_of (state_of (called_by j b bs))) ≡ Steps Working j.store [] ((config_of (state_of (given j (take (activation j.running).arity (j.running).held) b bs))).work)
  unfolding next source act
  return_step p j b bs rest ec le =
      laws.return_gives (module_of p) j.store (activation j.running) (activation b) (map activation bs) le
      (ap (λ code. next (module_of p) j.store (j.running).locals (Source (j.running).held code)) ec)

  pub return_turn : ReturnTurn
  return_turn p frames j b bs rest ec et le =
      let to = given j (take (activation j.running).arity (j.running).held) b bs in
      record {
        kinds = Working ∷ [];
        machine = ap (takes p frames (machine_of (called_by j b bs))) et ∙ ap (λ ns. Going (record (machine_of to) { operands = ns })) (given_is j b bs le);
        chain = Within.after {d = config_of (state_of to)} (return_step p j b bs rest ec le) (omega arith) (λ q. absurd cc) Within.ends;
        few = omega arith;
      }

  done_step : (p : Program) (j : Joint) (b : Site) (bs : List Site) → (j.running).code ≡ Stop → (j.running).levels ≡ [] → length (j.running).held ≡ (activation j.running).arity → step (module_of p) (config_of (state_of (called_by j b bs))) ≡ Steps Quiet j.store [] ((config_of (state_of (given j (j.running).held b bs))).work)
  done_step p j b bs ec el en =
      laws.steps_there (module_of p) j.store j.store (activation b) (map activation bs) (Frame b.held (activation j.running).arity (j.running).locals (in_labels (j.running).levels (Source (j.running).held (j.running).code)) b.code) (Source ((j.running).held ++ b.held) b.code) b.locals Quiet
      (frame_done (module_of p) j.store b.locals b.held (j.running).locals (j.running).held (activation j.running).arity (j.running).levels (j.running).code b.code ec el en)

  pub past_last_turn : PastLastTurn
  past_last_turn p frames j b bs ec el et en =
      let to = given j (j.running).held b bs in (
        record {
          kinds = Quiet ∷ [];
          machine = ap (takes p frames (machine_of (called_by j b bs))) et
              ∙ ap (λ ns. Going (record (machine_of to) { operands = ns })) (given_is j b bs (omega (arith, en)) ∙ ap (λ vs. slots ((vs ++ b.held) ++ belows b.levels)) (all_held j en));
          chain = Within.after {d = config_of (state_of to)} (done_step p j b bs ec el en) (omega arith) (λ q. absurd cc) Within.ends;
          few = omega arith;
        },
        refl,
      )

  -- With nobody waiting.

  pub return_ends_call : ReturnEndsCall
  unfolding next source act
  return_ends_call p frames j rest ec et le =
      let vs = take (activation j.running).arity (j.running).held in
      record {
        kinds = Working ∷ [];
        last = config_at j.store (Source (vs ++ []) Stop);
        machine = ap (takes p frames (machine_of (alone j))) et ∙ ap (λ ns. Over (Gave ns) (machine_of j).store j.fuel) (take_slots (activation j.running).arity (j.running).held (belows (j.running).levels) le);
        chain = Within.after {d = config_at j.store (Source (vs ++ []) Stop)}
            (laws.return_ends (module_of p) j.store (activation j.running) le (ap (λ code. next (module_of p) j.store (j.running).locals (Source (j.running).held code)) ec)) (omega arith) (λ q. absurd cc) Within.ends;
        end = EndsAs.values vs (ap (λ vs. Source vs Stop) (append-nil vs));
        kept = refl;
        few = omega arith;
      }

  last_step : (p : Program) (j : Joint) → (j.running).code ≡ Stop → (j.running).levels ≡ [] → length (j.running).held ≡ (activation j.running).arity → step (module_of p) (config_of (state_of (alone j))) ≡ Steps Quiet j.store [] (Source ((j.running).held ++ []) Stop)
  unfolding step outermost
  last_step p j ec el en =
      ap (outermost j.store []) (frame_done (module_of p) j.store [] [] (j.running).locals (j.running).held (activation j.running).arity (j.running).levels (j.running).code Stop ec el en)

  pub past_last_ends_call : PastLastEndsCall
  past_last_ends_call p frames j ec el et en =
      let vs = (j.running).held in (
        record {
          kinds = Quiet ∷ [];
          last = config_at j.store (Source (vs ++ []) Stop);
          machine = ap (takes p frames (machine_of (alone j))) et
              ∙ ap (λ ns. Over (Gave ns) (machine_of j).store j.fuel) (take_slots (activation j.running).arity vs (belows (j.running).levels) (omega (arith, en)) ∙ ap slots (all_held j en));
          chain = Within.after {d = config_at j.store (Source (vs ++ []) Stop)} (last_step p j ec el en) (omega arith) (λ q. absurd cc) Within.ends;
          end = EndsAs.values vs (ap (λ vs. Source vs Stop) (append-nil vs));
          kept = refl;
          few = omega arith;
        },
        refl,
      )
