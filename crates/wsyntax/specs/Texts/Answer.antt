-- What is answered for a module and a text of calls.
use Rattle.std.specs.Prelude.{◌≡◌, ◌≢◌, ℕ, suc, ◌+◌, List, [], ◌∷◌, ◌++◌, Some, None, codes, decimal, slice_get, Contains}
use Rattle.wsyntax.specs.Types.{FuncType}
use Rattle.wsyntax.specs.Modules.{ModuleShape, BodyShape, ExportShape}
use Rattle.wsyntax.specs.Binary.Shell.{Spells}
use Rattle.wsyntax.specs.Validation.Verdict.{Verdict, Accepted, IsVerdict}
use Rattle.wsyntax.specs.Validation.ModuleContext.{module_context}
use Rattle.wsyntax.specs.Execution.Values.{Value, types}
use Rattle.wsyntax.specs.Execution.Store.{Module, Store}
use Rattle.wsyntax.specs.Execution.Ends.{Outcome, Values, Ends}
use Rattle.wsyntax.specs.Execution.Start.{StartRefusal, start_refusal, InstanceOf, fresh_store}
use Rattle.wsyntax.specs.Texts.Calls.{Call, CallsText, TooLong, BadLine, Good, IsCalls}
use Rattle.wsyntax.specs.Texts.Lines.{verdict_line}
use Rattle.wsyntax.specs.Texts.Words.{newline}
use Rattle.wsyntax.specs.Texts.Report.{CallEnd, Ran, NoExport, NotAFunction, BadArguments, NotStarted, NoMemory, report_text}
use Rattle.wsyntax.specs.declared.module.ExportKind.TheVariants as kinds

-- the limits of each call: units of fuel, frames, pages of memory
pub record Limits : Type 0 where
  pub fuel : ℕ
  pub frames : ℕ
  pub pages : ℕ

-- the most fuel, frames and pages that a call may have; of frames it has one at least
abbrev pub fuel_limit : ℕ
fuel_limit = 1000000000

abbrev pub frames_limit : ℕ
frames_limit = 4096

abbrev pub pages_limit : ℕ
pages_limit = 1024

-- One call, alone.

-- no export has the name
abbrev pub IsMissing : ModuleShape → List ℕ → Type 0
IsMissing m name = (e : ExportShape) → Contains m.exports e → e.item_name ≢ name

-- the call names an exported function of this type
pub record Names (m : ModuleShape) (c : Call) (f : ℕ) (sig : FuncType) : Type 0 where
  pub exported : Contains m.exports (record { item_name = c.name; kind = kinds.Function; index = f })
  pub typed : slice_get (module_context m).functions f ≡ Some sig

-- 4.5.4 the start function is run first, where there is one: it leaves a store and the fuel spent, or the call ends with its end
pub data Started (m : ModuleShape) (i : Module) (l : Limits) : Store → ℕ → Type 0 where
  plainly : m.start ≡ None → Started m i l (fresh_store l.pages m) 0
  by_start : {f k : ℕ} {s : Store} → m.start ≡ Some f → Ends i (fresh_store l.pages m) f [] l.fuel l.frames (Values []) k s → Started m i l s k

-- how a call ends on an instance of its own: the start function's end, where that is not values, else that of the function, with the fuel that is left
pub data EndsOn (m : ModuleShape) (i : Module) (l : Limits) (f : ℕ) (args : List Value) : Outcome → ℕ → Type 0 where
  in_start : {g k : ℕ} {o : Outcome} {s : Store} → m.start ≡ Some g → Ends i (fresh_store l.pages m) g [] l.fuel l.frames o k s → (o ≢ Values []) → EndsOn m i l f args o k
  in_call : {k n left : ℕ} {o : Outcome} {s after : Store} → Started m i l s k → l.fuel ≡ k + left → Ends i s f args left l.frames o n after → EndsOn m i l f args o (k + n)

-- the end of a call, by what is refused first: no export, not a function, arguments, the start of an instance, then out of memory for the calls that met it; else how it ran
pub data EndOf (m : ModuleShape) (bodies : List BodyShape) (l : Limits) (met_none : Type 0) (c : Call) : CallEnd → Type 0 where
  missing : IsMissing m c.name → EndOf m bodies l met_none c NoExport
  other_kind : {e : ExportShape} → Contains m.exports e → e.item_name ≡ c.name → (e.kind ≢ kinds.Function) → EndOf m bodies l met_none c NotAFunction
  misfit : {f : ℕ} {sig : FuncType} → Names m c f sig → (types c.args ≢ sig.params) → EndOf m bodies l met_none c BadArguments
  not_started : {f : ℕ} {sig : FuncType} {r : StartRefusal} → Names m c f sig → types c.args ≡ sig.params → start_refusal l.pages m bodies ≡ Some r → EndOf m bodies l met_none c (NotStarted r)
  no_memory : {f : ℕ} {sig : FuncType} → Names m c f sig → types c.args ≡ sig.params → start_refusal l.pages m bodies ≡ None → met_none → EndOf m bodies l met_none c NoMemory
  ran : {f k : ℕ} {sig : FuncType} {i : Module} {o : Outcome} → Names m c f sig → types c.args ≡ sig.params → start_refusal l.pages m bodies ≡ None → (met_none → ⊥) → InstanceOf m bodies i → EndsOn m i l f c.args o k → EndOf m bodies l met_none c (Ran o k)

-- All calls.

-- the ends of the calls from number n on, where those in the set ran out of memory
abbrev pub EndsOf : ModuleShape → List BodyShape → Limits → (ℕ → Type 0) → ℕ → List Call → List CallEnd → Type 0
EndsOf m bodies l short n [] [] = Unit {0}
EndsOf m bodies l short n (c ∷ cs) (e ∷ es) = EndOf m bodies l (short n) c e × EndsOf m bodies l short (suc n) cs es
EndsOf m bodies l short n _ _ = ⊥

-- the line on calls that are refused
abbrev pub calls_line : CallsText → List ℕ
calls_line TooLong = codes "calls too-large" ++ newline
calls_line (BadLine k) = codes "calls line " ++ (decimal k ++ (codes " refused" ++ newline))
calls_line (Good calls) = []

-- the answer on an accepted module, by what the text of calls is
abbrev pub AnswerOn : List ℕ → CallsText → Limits → (ℕ → Type 0) → List ℕ → Type 0
AnswerOn bytes (Good calls) l short out =
    (m : ModuleShape) × (bodies : List BodyShape) × (ends : List CallEnd) × Spells bytes m bodies × EndsOf m bodies l short 0 calls ends × (out ≡ report_text ends)
AnswerOn bytes bad l short out = out ≡ verdict_line Accepted ++ calls_line bad

-- the answer by the verdict: of an accepted module, by what the text of calls is; of a refused one, its verdict line
abbrev pub AnswerBy : List ℕ → List ℕ → Limits → (ℕ → Type 0) → List ℕ → Verdict → Type 0
AnswerBy bytes text l short out Accepted = (c : CallsText) × IsCalls text c × AnswerOn bytes c l short out
AnswerBy bytes text l short out v = out ≡ verdict_line v

-- the answer for a module, a text of calls and limits, where the calls in the set ran out of memory: a refused module's verdict line; else what is wrong with the calls; else the report
unfoldable pub IsAnswer : List ℕ → List ℕ → Limits → (ℕ → Type 0) → List ℕ → Type 0
IsAnswer bytes text l short out = (v : Verdict) × IsVerdict bytes v × AnswerBy bytes text l short out v
