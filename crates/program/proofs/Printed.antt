-- What a command has printed, by the status that `run` of src/obeying.rt ends with: three lemmas, each by cases of the request.
use Rattle.std.proofs.Common.{◌≡◌, ℕ, Bool, List, [], ◌∷◌, Option, Ok, Bor, codes, inl, inr, map, refl, sym, subst, ◌∙◌}
use Rattle.std.specs.Io.KnownBytes.{Appends}
use Rattle.wsyntax.specs.Validation.Verdict.{Verdict, Accepted, TooLarge, Malformed, RuleBroken, BodyRefused}
use Rattle.wsyntax.specs.Texts.Lines.{verdict_line}
use Rattle.wstore.specs.CallLimits.{limits_of}
use Rattle.wstore.specs.declared.settings.Settings.{Settings}
use Rattle.batch.specs.Report.{status_of}
use Rattle.batch.specs.declared.status.Status.{Status}
use Rattle.batch.specs.declared.status.Status.TheVariants.{Good, ModuleRefused, CallsRefused}
use Rattle.command.specs.Names.{says_json}
use Rattle.command.specs.Options.{SaysLimits}
use Rattle.command.specs.Requests.{AreInputs, AreOperands, AreStreamed, IsRequestOf, first_word}
use Rattle.command.specs.declared.request.Request.{Request}
use Rattle.command.specs.declared.request.Request.TheVariants.{Check, CheckAll, CheckListed, Explain, ExplainCalls, Exports, Run, Stream, Text}
use Rattle.program.specs.Sources.{ReadsPaths}
use Rattle.program.specs.Checks.{Judges}
use Rattle.program.specs.Explains.{IsCallsExplained, IsExplained}
use Rattle.program.specs.Lists.{IsList}
use Rattle.program.specs.NameLists.{IsSpread}
use Rattle.program.specs.Endings.{answer_status}
use Rattle.program.specs.Prints.{AsksFor, AnswersRequest, PrintsAnswer, PrintsCallsExplained, PrintsCallsRefusal, PrintsGood, PrintsRefusal, PrintsStream}
use Rattle.program.specs.Runs.{RunsOn}
use Rattle.program.specs.Streams.{ReadsAccepted, StreamsOn}
use Rattle.program.specs.declared.file_outcome.FileOutcome.TheVariants as file_outcome
use Rattle.program.proofs.PrintedAll.{good_outcome, listed_all, named_all, no_listed_calls, no_named_calls, refused_outcome}

only_good : (s : Status) → answer_status s ≡ 0 → s ≡ Good
only_good Good e = refl
only_good ModuleRefused e = absurd cc
only_good CallsRefused e = absurd cc

only_refused : (s : Status) → answer_status s ≡ 2 → s ≡ ModuleRefused
only_refused Good e = absurd cc
only_refused ModuleRefused e = refl
only_refused CallsRefused e = absurd cc

only_calls_refused : (s : Status) → answer_status s ≡ 3 → s ≡ CallsRefused
only_calls_refused Good e = absurd cc
only_calls_refused ModuleRefused e = absurd cc
only_calls_refused CallsRefused e = refl

only_accepted : (v : Verdict) → status_of v ≡ Good → v ≡ Accepted
only_accepted Accepted e = refl
only_accepted TooLarge e = absurd cc
only_accepted Malformed e = absurd cc
only_accepted (RuleBroken k) e = absurd cc
only_accepted (BodyRefused f fault) e = absurd cc

-- a verdict says nothing of calls
no_verdict : (v : Verdict) → status_of v ≡ CallsRefused → ⊥
no_verdict Accepted e = absurd cc
no_verdict TooLarge e = absurd cc
no_verdict Malformed e = absurd cc
no_verdict (RuleBroken k) e = absurd cc
no_verdict (BodyRefused f fault) e = absurd cc

-- what is shown is good
not_refused : (s : Status) → s ≡ Good → s ≡ ModuleRefused → ⊥
not_refused s a b = let e : Good ≡ ModuleRefused = sym a ∙ b in absurd cc

not_calls_refused : (s : Status) → s ≡ Good → s ≡ CallsRefused → ⊥
not_calls_refused s a b = let e : Good ≡ CallsRefused = sym a ∙ b in absurd cc

-- a run that ends with an answer
answer : (words : List (List ℕ)) (path calls : Bor (List ℕ)) (settings : Settings) (holds : List ℕ → Option (List ℕ)) (asked asked' : Option (List (List ℕ))) (old new : Option (List ℕ)) (s t : Status)
    → first_word words ≡ codes "run" → AreOperands words path.now calls.now → SaysLimits words settings.fuel settings.frames settings.pages → RunsOn (holds path.now) (holds calls.now) (limits_of settings) old new (Ok s) → ReadsPaths asked asked' (path.now ∷ calls.now ∷ []) → s ≡ t → PrintsAnswer words holds asked asked' old new t
answer words path calls settings holds asked asked' old new s t command named said done order e = record {
  command = command;
  path = path.now;
  calls = calls.now;
  named = named;
  in_order = order;
  fuel = settings.fuel;
  frames = settings.frames;
  pages = settings.pages;
  said = said;
  in_range = settings.in_range;
  answered = subst (λ (x : Status). RunsOn (holds path.now) (holds calls.now) (limits_of settings) old new (Ok x)) e done;
}

-- a stream that ends with an answer
stream : (words : List (List ℕ)) (path calls : Bor (List ℕ)) (settings : Settings) (holds : List ℕ → Option (List ℕ)) (asked asked' : Option (List (List ℕ))) (old new : Option (List ℕ)) (s t : Status)
    → first_word words ≡ codes "stream" → AreStreamed words path.now calls.now → SaysLimits words settings.fuel settings.frames settings.pages → StreamsOn (holds path.now) (holds calls.now) (limits_of settings) old new (Ok s) → ReadsAccepted (holds path.now) path.now calls.now asked asked' (Ok s) → s ≡ t → PrintsStream words holds asked asked' old new t
stream words path calls settings holds asked asked' old new s t command named said done order e = record {
  command = command;
  path = path.now;
  calls = calls.now;
  named = named;
  in_order = subst (λ (x : Status). ReadsAccepted (holds path.now) path.now calls.now asked asked' (Ok x)) e order;
  fuel = settings.fuel;
  frames = settings.frames;
  pages = settings.pages;
  said = said;
  in_range = settings.in_range;
  streamed = subst (λ (x : Status). StreamsOn (holds path.now) (holds calls.now) (limits_of settings) old new (Ok x)) e done;
}

-- an explanation of calls
calls_explained : (words : List (List ℕ)) (path calls : Bor (List ℕ)) (json : Bool) (holds : List ℕ → Option (List ℕ)) (asked asked' : Option (List (List ℕ))) (old new : Option (List ℕ)) (s t : Status) (text : List ℕ)
    → first_word words ≡ codes "explain" → AreInputs words path.now calls.now → json ≡ says_json words → IsCallsExplained json (holds path.now) (holds calls.now) s text → Appends old new text → ReadsPaths asked asked' (path.now ∷ calls.now ∷ []) → s ≡ t → PrintsCallsExplained words holds asked asked' old new t
calls_explained words path calls json holds asked asked' old new s t text command named says explained written order e = record {
  command = command;
  path = path.now;
  calls = calls.now;
  named = named;
  in_order = order;
  text = text;
  explained = subst (λ (b : Bool). IsCallsExplained b (holds path.now) (holds calls.now) t text) says (subst (λ (x : Status). IsCallsExplained json (holds path.now) (holds calls.now) x text) e explained);
  written = written;
}

pub good : (words : List (List ℕ)) (request : Request) (holds : List ℕ → Option (List ℕ)) (lists : List ℕ → Option (List (List ℕ))) (asked asked' : Option (List (List ℕ))) (old new : Option (List ℕ)) (s : Status) → IsRequestOf words request → AnswersRequest request holds lists asked asked' old new (Ok s) → AsksFor request asked asked' (Ok s) → answer_status s ≡ 0 → PrintsGood words holds lists asked asked' old new
good words (Check path plan) holds lists asked asked' old new s (command, named, said) (v, judged, is, written) order e =
    let same : v ≡ Accepted = only_accepted v (sym is ∙ only_good s e) in
    inr (inl record {
      command = command;
      path = path.now;
      named = named;
      only = order;
      judged = subst (Judges (holds path.now)) same judged;
      written = subst (λ (x : Verdict). Appends old new (verdict_line x)) same written;
    })
good words (CheckAll names folders plan) holds lists asked asked' old new s (command, are, says, said) done order e =
    inr (inr (inr (inr (inr (inr (inl (named_all words (map (λ n. n.now) names.items) folders holds lists asked asked' old new file_outcome.Accepted s command are says done (good_outcome s (only_good s e)))))))))
good words (CheckListed is_null folders plan) holds lists asked asked' old new s (command, list, says_n, says_f, said) done order e =
    inr (inr (inr (inr (inr (inr (inl (listed_all words is_null folders holds lists asked asked' old new file_outcome.Accepted s command list says_n says_f done (good_outcome s (only_good s e)))))))))
good words (Explain path json) holds lists asked asked' old new s (command, named, says) (v, text, explained, is, written) order e =
    let same : v ≡ Accepted = only_accepted v (sym is ∙ only_good s e) in
    inr (inr (inl record {
      command = command;
      path = path.now;
      named = named;
      only = order;
      text = text;
      explained = subst (λ (b : Bool). IsExplained b (Judges (holds path.now)) Accepted text) says (subst (λ (x : Verdict). IsExplained json (Judges (holds path.now)) x text) same explained);
      written = written;
    }))
good words (ExplainCalls path calls json) holds lists asked asked' old new s (command, named, says) (text, explained, written) order e =
    inr (inr (inr (inr (inr (inl (calls_explained words path calls json holds asked asked' old new s Good text command named says explained written order (only_good s e)))))))
good words (Exports path) holds lists asked asked' old new s (command, named) (v, text, list, is, written) order e =
    let same : v ≡ Accepted = only_accepted v (sym is ∙ only_good s e) in
    inr (inr (inr (inr (inl record {
      command = command;
      path = path.now;
      named = named;
      only = order;
      text = text;
      list = subst (λ (x : Verdict). IsList (holds path.now) x text) same list;
      written = written;
    }))))
good words (Run path calls settings plan) holds lists asked asked' old new s (command, named, said) done order e =
    inr (inr (inr (inl (answer words path calls settings holds asked asked' old new s Good command named said.0 done order (only_good s e)))))
good words (Stream path calls settings plan) holds lists asked asked' old new s (command, named, said) (done, order) asks e =
    inr (inr (inr (inr (inr (inr (inr (stream words path calls settings holds asked asked' old new s Good command named said.0 done order (only_good s e))))))))
good words (Text text) holds lists asked asked' old new s asks shown order e = inl asks

pub refusal : (words : List (List ℕ)) (request : Request) (holds : List ℕ → Option (List ℕ)) (lists : List ℕ → Option (List (List ℕ))) (asked asked' : Option (List (List ℕ))) (old new : Option (List ℕ)) (s : Status) → IsRequestOf words request → AnswersRequest request holds lists asked asked' old new (Ok s) → AsksFor request asked asked' (Ok s) → answer_status s ≡ 2 → PrintsRefusal words holds lists asked asked' old new
refusal words (Check path plan) holds lists asked asked' old new s (command, named, said) (v, judged, is, written) order e =
    inl (v, sym is ∙ only_refused s e, inl record { command = command; path = path.now; named = named; only = order; judged = judged; written = written })
refusal words (CheckAll names folders plan) holds lists asked asked' old new s (command, are, says, said) done order e =
    inr (inr (inr (inl (named_all words (map (λ n. n.now) names.items) folders holds lists asked asked' old new file_outcome.Refused s command are says done (refused_outcome s (only_refused s e))))))
refusal words (CheckListed is_null folders plan) holds lists asked asked' old new s (command, list, says_n, says_f, said) done order e =
    inr (inr (inr (inl (listed_all words is_null folders holds lists asked asked' old new file_outcome.Refused s command list says_n says_f done (refused_outcome s (only_refused s e))))))
refusal words (Explain path json) holds lists asked asked' old new s (command, named, says) (v, text, explained, is, written) order e =
    inl (
      v,
      sym is ∙ only_refused s e,
      inr (inl record {
        command = command;
        path = path.now;
        named = named;
        only = order;
        text = text;
        explained = subst (λ (b : Bool). IsExplained b (Judges (holds path.now)) v text) says explained;
        written = written;
      }),
    )
refusal words (ExplainCalls path calls json) holds lists asked asked' old new s (command, named, says) (text, explained, written) order e =
    inr (inr (inl (calls_explained words path calls json holds asked asked' old new s ModuleRefused text command named says explained written order (only_refused s e))))
refusal words (Exports path) holds lists asked asked' old new s (command, named) (v, text, list, is, written) order e =
    inl (v, sym is ∙ only_refused s e, inr (inr record { command = command; path = path.now; named = named; only = order; text = text; list = list; written = written }))
refusal words (Run path calls settings plan) holds lists asked asked' old new s (command, named, said) done order e =
    inr (inl (answer words path calls settings holds asked asked' old new s ModuleRefused command named said.0 done order (only_refused s e)))
refusal words (Stream path calls settings plan) holds lists asked asked' old new s (command, named, said) (done, order) asks e =
    inr (inr (inr (inr (stream words path calls settings holds asked asked' old new s ModuleRefused command named said.0 done order (only_refused s e)))))
refusal words (Text text) holds lists asked asked' old new s asks shown order e = absurd (not_refused s shown.0 (only_refused s e))

pub calls_refusal : (words : List (List ℕ)) (request : Request) (holds : List ℕ → Option (List ℕ)) (lists : List ℕ → Option (List (List ℕ))) (asked asked' : Option (List (List ℕ))) (old new : Option (List ℕ)) (s : Status) → IsRequestOf words request → AnswersRequest request holds lists asked asked' old new (Ok s) → AsksFor request asked asked' (Ok s) → answer_status s ≡ 3 → PrintsCallsRefusal words holds asked asked' old new
calls_refusal words (Check path plan) holds lists asked asked' old new s named (v, judged, is, written) order e =
    absurd (no_verdict v (sym is ∙ only_calls_refused s e))
calls_refusal words (CheckAll names folders plan) holds lists asked asked' old new s named done order e =
    absurd (no_named_calls (IsSpread folders lists (map (λ n. n.now) names.items)) holds asked asked' old new s done (only_calls_refused s e))
calls_refusal words (CheckListed is_null folders plan) holds lists asked asked' old new s named done order e =
    absurd (no_listed_calls is_null folders holds lists asked asked' old new s done (only_calls_refused s e))
calls_refusal words (Explain path json) holds lists asked asked' old new s named (v, text, explained, is, written) order e =
    absurd (no_verdict v (sym is ∙ only_calls_refused s e))
calls_refusal words (ExplainCalls path calls json) holds lists asked asked' old new s (command, named, says) (text, explained, written) order e =
    inr (inl (calls_explained words path calls json holds asked asked' old new s CallsRefused text command named says explained written order (only_calls_refused s e)))
calls_refusal words (Exports path) holds lists asked asked' old new s named (v, text, list, is, written) order e =
    absurd (no_verdict v (sym is ∙ only_calls_refused s e))
calls_refusal words (Run path calls settings plan) holds lists asked asked' old new s (command, named, said) done order e =
    inl (answer words path calls settings holds asked asked' old new s CallsRefused command named said.0 done order (only_calls_refused s e))
calls_refusal words (Stream path calls settings plan) holds lists asked asked' old new s (command, named, said) (done, order) asks e =
    inr (inr (stream words path calls settings holds asked asked' old new s CallsRefused command named said.0 done order (only_calls_refused s e)))
calls_refusal words (Text text) holds lists asked asked' old new s asks shown order e = absurd (not_calls_refused s shown.0 (only_calls_refused s e))
