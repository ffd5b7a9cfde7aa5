-- A text of calls has one reading, a call one end, and so the answer is one.
-- The calls that ran out of memory are given by a test, since no law can speak of every type.
use Rattle.std.specs.Prelude.{◌≡◌, ℕ, Bool, IsTrue, List}
use Rattle.wsyntax.specs.Modules.{ModuleShape, BodyShape}
use Rattle.wsyntax.specs.Binary.Shell.{Spells}
use Rattle.wsyntax.specs.Validation.Rules.{ExportsDistinct}
use Rattle.wsyntax.specs.Validation.Verdict.{Verdict, IsVerdict}
use Rattle.wsyntax.specs.Texts.Calls.{Call, CallsText, IsCalls}
use Rattle.wsyntax.specs.Texts.Report.{CallEnd}
use Rattle.wsyntax.specs.Texts.Answer.{Limits, EndOf, EndsOf, IsAnswer}

-- a text of calls is one thing
abbrev pub OneCalls : Type 0
OneCalls = (text : List ℕ) (c d : CallsText) → IsCalls text c → IsCalls text d → c ≡ d

-- a call ends in one way, and so do the calls of a list
pub record OneEndOf : Type 0 where
  pub of_call : (m : ModuleShape) (bodies : List BodyShape) (l : Limits) (short : Bool) (c : Call) (e f : CallEnd) → ExportsDistinct m → EndOf m bodies l (IsTrue short) c e → EndOf m bodies l (IsTrue short) c f → e ≡ f
  pub of_calls : (m : ModuleShape) (bodies : List BodyShape) (l : Limits) (short : ℕ → Bool) (n : ℕ) (calls : List Call) (es fs : List CallEnd) → ExportsDistinct m → EndsOf m bodies l (λ n. IsTrue (short n)) n calls es → EndsOf m bodies l (λ n. IsTrue (short n)) n calls fs → es ≡ fs

-- bytes have one verdict at most
abbrev pub VerdictIsOne : Type 0
VerdictIsOne = (bytes : List ℕ) (v w : Verdict) → IsVerdict bytes v → IsVerdict bytes w → v ≡ w

-- bytes spell one module at most, and each of its bodies is one
abbrev pub ModuleIsOne : Type 0
ModuleIsOne = (bytes : List ℕ) (m n : ModuleShape) (bs ds : List BodyShape) → Spells bytes m bs → Spells bytes n ds → (m ≡ n) × (bs ≡ ds)

-- where bytes have one verdict and spell one module: the same bytes, text and limits have one answer, where the same calls ran out of memory
abbrev pub OneAnswer : Type 0
OneAnswer = VerdictIsOne → ModuleIsOne → (bytes text : List ℕ) (l : Limits) (short : ℕ → Bool) (out other : List ℕ) → IsAnswer bytes text l (λ n. IsTrue (short n)) out → IsAnswer bytes text l (λ n. IsTrue (short n)) other → out ≡ other
