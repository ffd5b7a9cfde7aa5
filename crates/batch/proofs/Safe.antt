-- Answers are safe, by the laws on the execution of judged modules.
use Rattle.std.proofs.Common.{◌≡◌, ℕ, zero, suc, ◌<◌, List, [], ◌∷◌, Option, Some, None, length, get_or, refl, ap, subst, ◌∙◌}
use Rattle.std.specs.Prelude.{IsTrue, slice_get}
use Rattle.std.proofs.lemmas.Option.{same_Some, slice_get_within}
use Rattle.wsyntax.specs.Modules.{ModuleShape, BodyShape}
use Rattle.wsyntax.specs.Binary.Shell.{Shell, SpellsBody, SpellsBodies, Spells}
use Rattle.wsyntax.specs.Validation.ModuleContext.{module_context, function_context, empty_type}
use Rattle.wsyntax.specs.Validation.Rules.{NoneBroken}
use Rattle.wsyntax.specs.Validation.Typing.{BodyTyped}
use Rattle.wsyntax.specs.Validation.Verdict.{Accepted, IsVerdict, IsAccepted, AcceptedBefore, function_at, result_of}
use Rattle.wsyntax.specs.Execution.Values.{AreWords}
use Rattle.wsyntax.specs.Execution.Store.{Module, Store}
use Rattle.wsyntax.specs.Execution.Ends.{Values, Trapped, OutOfFuel, OutOfFrames}
use Rattle.wsyntax.specs.Execution.ConfigTyped.{ValuesTyped}
use Rattle.wsyntax.specs.Execution.Laws as laws
use Rattle.wsyntax.specs.Execution.Start.{InstanceOf, start_refusal, fresh_store}
use Rattle.wsyntax.specs.Texts.Calls.{Call, Good, IsCalls, TextLine, Ended, Unended, Says, SayAll, lines_of}
use Rattle.wsyntax.specs.Texts.Report.{CallEnd, Ran, NoExport, NotAFunction, BadArguments, NotStarted, NoMemory}
use Rattle.wsyntax.specs.Texts.Answer.{Limits, Started, EndOf, EndsOf, ran}
use Rattle.soundness.specs.Instances.{Judged, TypedAt, Instantiated, StartIsPlain, CallsTyped, CallsAreSafe}
use Rattle.verdict.specs.Laws.{SegmentsHoldBytes}
use Rattle.batch.specs.Safe.{IsRun, NoneStuck, GivesTyped, EachGivesTyped, ValuesAreTyped, IsSafe}

-- ---- what crates below promise

pub record Laws : Type 0 where
  pub one_body : (bytes : List ℕ) (b d : BodyShape) → SpellsBody bytes b → SpellsBody bytes d → b ≡ d
  pub one_shell : (bytes : List ℕ) (m n : ModuleShape) → Shell bytes m → Shell bytes n → m ≡ n
  pub plain : StartIsPlain
  pub typed : CallsTyped
  pub safe : CallsAreSafe
  pub never : laws.NeverStuck
  pub bytes : SegmentsHoldBytes

none_and_some : {A : Type 0} (o : Option A) (x : A) → o ≡ None → o ≡ Some x → ⊥
none_and_some o x a b = cc

-- ---- a module whose bytes are accepted is one that was judged

spelled_at : (ss : List (List ℕ)) (bs : List BodyShape) (k : ℕ) (b : BodyShape) → SpellsBodies ss bs → slice_get bs k ≡ Some b → (s : List ℕ) × (slice_get ss k ≡ Some s) × SpellsBody s b
spelled_at [] [] k b h e = absurd (none_and_some (slice_get [] k) b refl e)
spelled_at [] (x ∷ xs) k b h e = absurd h
spelled_at (s ∷ ss) [] k b h e = absurd h
spelled_at (s ∷ ss) (x ∷ xs) zero b h e = (s, refl, subst (λ (y : BodyShape). SpellsBody s y) (same_Some x b e) h.0)
spelled_at (s ∷ ss) (x ∷ xs) (suc k) b h e = spelled_at ss xs k b h.1 e

as_many : (ss : List (List ℕ)) (bs : List BodyShape) → SpellsBodies ss bs → length ss ≡ length bs
as_many [] [] h = refl
as_many [] (x ∷ xs) h = absurd h
as_many (s ∷ ss) [] h = absurd h
as_many (s ∷ ss) (x ∷ xs) h = ap suc (as_many ss xs h.1)

typed_as : Laws → (m : ModuleShape) (position : ℕ) (s : List ℕ) (b : BodyShape) → IsAccepted (module_context m) (function_at m position) s → SpellsBody s b → TypedAt m position b
typed_as laws m position s b a spelled =
    let same : a.body ≡ b = laws.one_body s a.body b a.spelled spelled in
    record {
      code = a.code;
      tree = a.tree ∙ ap (λ (x : BodyShape). x.code) same;
      typed = subst (λ (x : BodyShape). BodyTyped (function_context (module_context m) (function_at m position) x.runs) (result_of (module_context m) (function_at m position)) a.code) same a.typed;
    }

typed_at : Laws → (m : ModuleShape) (bodies : List BodyShape) → AcceptedBefore m (length m.bodies) → SpellsBodies m.bodies bodies → (position : ℕ) (b : BodyShape) → slice_get bodies position ≡ Some b → TypedAt m position b
typed_at laws m bodies before spelled position b e =
    let (s, at, spells) = spelled_at m.bodies bodies position b spelled e in
    typed_as laws m position s b (before position s (slice_get_within m.bodies position s at) at) spells

judged : Laws → (bytes : List ℕ) (m : ModuleShape) (bodies : List BodyShape) → IsVerdict bytes Accepted → Spells bytes m bodies → Judged m bodies
unfolding IsVerdict
judged laws bytes m bodies (n, is, unbroken, before) (shell, spelled) =
    let same : n ≡ m = laws.one_shell bytes n m is.shell shell in
    let before' : AcceptedBefore m (length m.bodies) = subst (λ (x : ModuleShape). AcceptedBefore x (length x.bodies)) same before in
    record {
      unbroken = subst NoneBroken same unbroken;
      count = shell.paired ∙ as_many m.bodies bodies spelled;
      bodies_typed = typed_at laws m bodies before' spelled;
    }

instantiated : Laws → (bytes : List ℕ) (pages : ℕ) (m : ModuleShape) (bodies : List BodyShape) (i : Module) → ((k : ℕ) → get_or bytes k 0 < 256) → IsVerdict bytes Accepted → Spells bytes m bodies
    → start_refusal pages m bodies ≡ None → InstanceOf m bodies i → Instantiated m bodies pages i
instantiated laws bytes pages m bodies i below verdict spelled none is = record {
  judged = judged laws bytes m bodies verdict spelled;
  bytes = laws.bytes bytes m spelled.0 below;
  not_refused = none;
  instance = is;
}

-- ---- the arguments of a call that a text says are words

words_of : (line : TextLine) (c : Call) → Says line c → AreWords c.args
words_of (Ended line) c h = h.0.words
words_of (Unended line) c h = absurd h

words_at : (lines : List TextLine) (calls : List Call) (n : ℕ) (c : Call) → SayAll lines calls → slice_get calls n ≡ Some c → AreWords c.args
words_at [] [] n c h e = absurd (none_and_some (slice_get [] n) c refl e)
words_at [] (d ∷ ds) n c h e = absurd h
words_at (line ∷ lines) [] n c h e = absurd h
words_at (line ∷ lines) (d ∷ ds) zero c h e = subst (λ (x : Call). AreWords x.args) (same_Some d c e) (words_of line d h.0)
words_at (line ∷ lines) (d ∷ ds) (suc n) c h e = words_at lines ds n c h.1 e

say_all : (text : List ℕ) (calls : List Call) → IsCalls text (Good calls) → SayAll (lines_of text) calls
unfolding IsCalls
say_all text calls h = h.2

-- ---- no call is stuck

run_instance : Laws → (bytes text : List ℕ) (l : Limits) (m : ModuleShape) (i : Module) (c : Call) (f : ℕ) → ((k : ℕ) → get_or bytes k 0 < 256) → (r : IsRun bytes text l m i c f) → Instantiated m r.bodies l.pages i
run_instance laws bytes text l m i c f below r = instantiated laws bytes l.pages m r.bodies i below r.accepted r.spelled r.not_refused r.instance

start_not_stuck : Laws → (bytes text : List ℕ) (l : Limits) → ((k : ℕ) → get_or bytes k 0 < 256) → (m : ModuleShape) (i : Module) (c : Call) (f g : ℕ) → IsRun bytes text l m i c f → m.start ≡ Some g → NoneStuck i (fresh_store l.pages m) g []
start_not_stuck laws bytes text l below m i c f g r e kinds config chain =
    let h = run_instance laws bytes text l m i c f below r in
    let none : ValuesTyped [] empty_type.params = record { typed = refl; words = tt } in
    let typed = laws.typed.on_fresh m r.bodies l.pages i g [] empty_type h (laws.plain.typed m g h.judged.unbroken e) none in
    (laws.never (module_context m) i (fresh_store l.pages m) g [] empty_type typed kinds config chain).1

call_not_stuck : Laws → (bytes text : List ℕ) (l : Limits) → ((k : ℕ) → get_or bytes k 0 < 256) → (m : ModuleShape) (i : Module) (c : Call) (f : ℕ) (s : Store) (k : ℕ) → IsRun bytes text l m i c f → Started m i l s k → NoneStuck i s f c.args
call_not_stuck laws bytes text l below m i c f s k r started kinds config chain =
    let h = run_instance laws bytes text l m i c f below r in
    let (sig, names, same) = r.callee in
    let args : ValuesTyped c.args sig.params = record { typed = same; words = words_at (lines_of text) r.calls r.position c (say_all text r.calls r.read) r.said } in
    laws.safe.never_stuck m r.bodies l i s k f c.args sig h started names.typed args kinds config chain

-- ---- values are typed

-- what is known of the module of an answer
record Answering (laws : Laws) (bytes : List ℕ) (m : ModuleShape) (bodies : List BodyShape) : Type 0 where
  below : (k : ℕ) → get_or bytes k 0 < 256
  verdict : IsVerdict bytes Accepted
  spelled : Spells bytes m bodies

end_typed : (laws : Laws) (bytes : List ℕ) (m : ModuleShape) (bodies : List BodyShape) (l : Limits) (short : Type 0) (c : Call) (e : CallEnd) → Answering laws bytes m bodies → AreWords c.args → EndOf m bodies l short c e → GivesTyped m c e
end_typed laws bytes m bodies l short c (Ran (Values vs) k) a words (ran {f = f} {sig = sig} {i = i} names same none has is ends) =
    let h = instantiated laws bytes l.pages m bodies i a.below a.verdict a.spelled none is in
    (f, sig, names, laws.safe.results m bodies l i f k c.args vs sig h names.typed (record { typed = same; words = words }) ends)
end_typed laws bytes m bodies l short c (Ran (Trapped t) k) a words h = tt
end_typed laws bytes m bodies l short c (Ran OutOfFuel k) a words h = tt
end_typed laws bytes m bodies l short c (Ran OutOfFrames k) a words h = tt
end_typed laws bytes m bodies l short c NoExport a words h = tt
end_typed laws bytes m bodies l short c NotAFunction a words h = tt
end_typed laws bytes m bodies l short c BadArguments a words h = tt
end_typed laws bytes m bodies l short c (NotStarted r) a words h = tt
end_typed laws bytes m bodies l short c NoMemory a words h = tt

each_typed : (laws : Laws) (bytes : List ℕ) (m : ModuleShape) (bodies : List BodyShape) (l : Limits) (short : ℕ → Type 0) (n : ℕ) (lines : List TextLine) (calls : List Call) (ends : List CallEnd) → Answering laws bytes m bodies
    → SayAll lines calls → EndsOf m bodies l short n calls ends → EachGivesTyped m calls ends
each_typed laws bytes m bodies l short n lines [] [] a said h = tt
each_typed laws bytes m bodies l short n lines [] (e ∷ es) a said h = absurd h
each_typed laws bytes m bodies l short n lines (c ∷ cs) [] a said h = absurd h
each_typed laws bytes m bodies l short n [] (c ∷ cs) (e ∷ es) a said h = absurd said
each_typed laws bytes m bodies l short n (line ∷ lines) (c ∷ cs) (e ∷ es) a said h =
    (end_typed laws bytes m bodies l (short n) c e a (words_of line c said.0) h.0, each_typed laws bytes m bodies l short (suc n) lines cs es a said.1 h.1)

values_typed : Laws → (bytes text : List ℕ) (l : Limits) → ((k : ℕ) → get_or bytes k 0 < 256) → ValuesAreTyped bytes text l
values_typed laws bytes text l below m bodies calls ends short verdict spelled read h =
    each_typed laws bytes m bodies l (λ n. IsTrue (short n)) 0 (lines_of text) calls ends record { below = below; verdict = verdict; spelled = spelled } (say_all text calls read) h

pub is_safe : Laws → (bytes text : List ℕ) (l : Limits) → ((k : ℕ) → get_or bytes k 0 < 256) → IsSafe bytes text l
is_safe laws bytes text l below = record {
  never_stuck = record { in_start = start_not_stuck laws bytes text l below; in_call = call_not_stuck laws bytes text l below };
  typed = values_typed laws bytes text l below;
}
