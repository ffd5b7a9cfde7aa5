-- What was written before the flush stands after it too.
use Rattle.std.proofs.Common.{◌≡◌, ℕ, List, [], Option, Result, Ok, Err, IfOk, inl, inr, sym, subst, append-nil}
use Rattle.std.proofs.KnownBytes.{Appends-kept, Keeps-trans}
use Rattle.std.specs.Io.KnownBytes.{Keeps}
use Rattle.wsyntax.specs.Binary.Shell.{module_limit}
use Rattle.wsyntax.specs.Texts.Answer.{Limits}
use Rattle.wsyntax.specs.Texts.Calls.{calls_limit}
use Rattle.wsyntax.specs.Texts.Lines.{verdict_line}
use Rattle.wsyntax.specs.Validation.Verdict.{IsVerdict}
use Rattle.batch.specs.Answers.{Answers, HasStatus, IsSomeAnswer}
use Rattle.batch.specs.Report.{Reports}
use Rattle.batch.specs.declared.status.AnswerFault.{AnswerFault}
use Rattle.batch.specs.declared.status.AnswerFault.TheVariants.{Memory, Write}
use Rattle.batch.specs.declared.status.Status.{Status}
use Rattle.program.specs.Checks.{Checks}
use Rattle.program.specs.Endings.{EndsAs}
use Rattle.program.specs.Reads.{IsRead}
use Rattle.program.specs.Runs.{RunsOn}
use Rattle.program.specs.declared.fault.ProgramFault.{ProgramFault}

-- where the flush fails the whole line is a beginning of it
pub checked : (held : Option (List ℕ)) (bytes slice : List ℕ) (old mid new : Option (List ℕ)) (a : Result Status AnswerFault) (r : Result Status ProgramFault)
    → IsRead module_limit held bytes → slice ≡ bytes → Reports (IsVerdict slice) old mid a → EndsAs a r → Keeps mid new → Checks held old new r
checked held bytes slice old mid new (Ok s) r read same (v, verdict, status, written) (inl e) kept =
    subst (Checks held old new) (sym e) (v, record { bytes = bytes; read = read; verdict = subst (λ x. IsVerdict x v) same verdict }, status, Appends-kept old mid new (verdict_line v) written kept)
checked held bytes slice old mid new (Ok s) r read same (v, verdict, status, written) (inr e) kept =
    subst (Checks held old new) (sym e) (v, record { bytes = bytes; read = read; verdict = subst (λ x. IsVerdict x v) same verdict }, (verdict_line v, [], sym (append-nil (verdict_line v)), Appends-kept old mid new (verdict_line v) written kept))
checked held bytes slice old mid new (Err Write) r read same (v, verdict, (front, rest, whole, written)) e kept =
    subst (Checks held old new) (sym e) (v, record { bytes = bytes; read = read; verdict = subst (λ x. IsVerdict x v) same verdict }, (front, rest, whole, Appends-kept old mid new front written kept))
checked held bytes slice old mid new (Err Memory) r read same silent e kept = subst (Checks held old new) (sym e) (Keeps-trans old mid new silent kept)

-- the same of an answer
answered : (held_module held_calls : Option (List ℕ)) (l : Limits) (bytes text : List ℕ) (old mid new : Option (List ℕ)) (a : Result Status AnswerFault) (r : Result Status ProgramFault)
    → IsRead module_limit held_module bytes → IsRead calls_limit held_calls text → Answers (IsSomeAnswer bytes text l) old mid a → IfOk a (HasStatus bytes text) → EndsAs a r → Keeps mid new → RunsOn held_module held_calls l old new r
answered held_module held_calls l bytes text old mid new (Ok s) r read_module read_calls (out, is, written) status (inl e) kept =
    subst (RunsOn held_module held_calls l old new) (sym e) record {
      bytes = bytes;
      text = text;
      read_module = read_module;
      read_calls = read_calls;
      written = (out, is, Appends-kept old mid new out written kept);
      status = λ t q. let same : s ≡ t = cc in subst (HasStatus bytes text) same status;
    }
answered held_module held_calls l bytes text old mid new (Ok s) r read_module read_calls (out, is, written) status (inr e) kept =
    subst (RunsOn held_module held_calls l old new) (sym e) record {
      bytes = bytes;
      text = text;
      read_module = read_module;
      read_calls = read_calls;
      written = (out, is, (out, [], sym (append-nil out), Appends-kept old mid new out written kept));
      status = λ t q. absurd cc;
    }
answered held_module held_calls l bytes text old mid new (Err Write) r read_module read_calls (out, is, (front, rest, whole, written)) status e kept =
    subst (RunsOn held_module held_calls l old new) (sym e) record {
      bytes = bytes;
      text = text;
      read_module = read_module;
      read_calls = read_calls;
      written = (out, is, (front, rest, whole, Appends-kept old mid new front written kept));
      status = λ t q. absurd cc;
    }
answered held_module held_calls l bytes text old mid new (Err Memory) r read_module read_calls silent status e kept =
    subst (RunsOn held_module held_calls l old new) (sym e) (Keeps-trans old mid new silent kept)

-- the same of what was read, seen as slices
pub answered_on : (held_module held_calls held_later : Option (List ℕ)) (l : Limits) (bytes slice text text_slice : List ℕ) (old mid new : Option (List ℕ)) (a : Result Status AnswerFault) (r : Result Status ProgramFault)
    → IsRead module_limit held_module bytes → IsRead calls_limit held_later text → held_later ≡ held_calls → slice ≡ bytes → text_slice ≡ text
    → Answers (IsSomeAnswer slice text_slice l) old mid a → IfOk a (HasStatus slice text_slice) → EndsAs a r → Keeps mid new → RunsOn held_module held_calls l old new r
answered_on held_module held_calls held_later l bytes slice text text_slice old mid new a r read_module read_calls same same_bytes same_text answers status e kept =
    answered held_module held_calls l bytes text old mid new a r read_module
    (subst (λ (x : Option (List ℕ)). IsRead calls_limit x text) same read_calls)
    (subst (λ (x : List ℕ). Answers (IsSomeAnswer bytes x l) old mid a) same_text (subst (λ (x : List ℕ). Answers (IsSomeAnswer x text_slice l) old mid a) same_bytes answers))
    (subst (λ (x : List ℕ). IfOk a (HasStatus bytes x)) same_text (subst (λ (x : List ℕ). IfOk a (HasStatus x text_slice)) same_bytes status))
    e kept
