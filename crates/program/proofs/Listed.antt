-- The exports that `list_file` prints are those of the module that it read, and where the module is refused it prints the verdict.
use Rattle.std.proofs.Common.{◌≡◌, ℕ, List, Option, Result, Ok, Err, IfOk, IfSome, refl, subst, sym, ap, ◌∙◌}
use Rattle.std.specs.Prelude.{IsSomeAnd, string_bytes, String}
use Rattle.std.specs.declared.alloc.AllocError.{AllocError}
use Rattle.std.specs.declared.alloc.Global.{Global}
use Rattle.wsyntax.specs.Binary.Shell.{module_limit}
use Rattle.wsyntax.specs.Modules.{module_shape}
use Rattle.wsyntax.specs.Execution.Start.{start_refusal}
use Rattle.wsyntax.specs.Texts.Lines.{verdict_line}
use Rattle.wsyntax.specs.Validation.Context.{Context}
use Rattle.wsyntax.specs.Validation.Verdict.{Verdict, Accepted, TooLarge, Malformed, RuleBroken, BodyRefused, IsVerdict}
use Rattle.accepted_module.specs.Judgement.{shapes_of}
use Rattle.accepted_module.specs.Kept.{IsAcceptedFrom}
use Rattle.accepted_module.specs.declared.accepted.Accepted.{Accepted as AcceptedModule}
use Rattle.refusal.specs.Refusals.{verdict_of}
use Rattle.refusal.specs.declared.refusal.Refusal.{Refusal}
use Rattle.refusal.specs.declared.refusal.Refusal.TheVariants as refusal
use Rattle.batch.specs.Report.{status_of}
use Rattle.batch.specs.declared.status.Status.{Status}
use Rattle.batch.specs.declared.status.Status.TheVariants.{Good, ModuleRefused}
use Rattle.explain_run.specs.Exports.{IsExportsText}
use Rattle.program.specs.Lists.{IsList, IsListBy, IsListOf, Lists, ShowsText}
use Rattle.program.specs.Reads.{IsRead}
use Rattle.program.specs.declared.fault.ProgramFault.{ProgramFault}
use Rattle.program.specs.declared.fault.ProgramFault.TheVariants.{Usage, Unread, SomeUnread, Names, Write, Memory}

-- a list whose text was allocated
pub listed : (held : Option (List ℕ)) (v : Verdict) (text : Result (String Global) AllocError) (s : Status) (old new : Option (List ℕ)) (r : Result Status ProgramFault)
    → IfOk text (λ t. IsList held v (string_bytes t)) → s ≡ status_of v → ShowsText text s old new r → Lists held old new r
listed held v (Ok text) s old new (Ok t) list is shown = (v, string_bytes text, list, shown.0 ∙ is, shown.1)
listed held v (Ok text) s old new (Err Write) list is shown = (v, string_bytes text, list, shown)
listed held v (Ok text) s old new (Err (Usage t)) list is shown = absurd shown
listed held v (Ok text) s old new (Err (Unread path reason)) list is shown = absurd shown
listed held v (Ok text) s old new (Err SomeUnread) list is shown = absurd shown
listed held v (Ok text) s old new (Err Names) list is shown = absurd shown
listed held v (Ok text) s old new (Err Memory) list is shown = absurd shown
listed held v (Err e) s old new r list is (ended, kept) = subst (Lists held old new) (sym ended) kept

-- the list on what was read
is_list : (held : Option (List ℕ)) (bytes slice text : List ℕ) (v : Verdict) → IsRead module_limit held bytes → slice ≡ bytes → IsVerdict slice v → IsListBy slice v text → IsList held v text
is_list held bytes slice text v read same verdict list = record {
  bytes = bytes;
  read = read;
  verdict = subst (λ x. IsVerdict x v) same verdict;
  list = subst (λ x. IsListBy x v text) same list;
}

-- in the context of the module
in_context : (slice : List ℕ) (a : AcceptedModule) (text : List ℕ) → IsAcceptedFrom slice a
    → IsExportsText a.context.context (start_refusal 256 (module_shape a.«module») (shapes_of a.bodies.items)) (module_shape a.«module») text → IsListOf a text
in_context slice a text parts told =
    subst (λ (C : Context). IsExportsText C (start_refusal 256 (module_shape a.«module») (shapes_of a.bodies.items)) (module_shape a.«module») text)
    (ap (λ x. x.context) parts.context) told

-- the text of an accepted module
good_text : (held : Option (List ℕ)) (bytes slice : List ℕ) (a : AcceptedModule) (text : Result (String Global) AllocError) → IsRead module_limit held bytes → slice ≡ bytes → IsVerdict slice Accepted → IsAcceptedFrom slice a
    → IfOk text (λ t. IsExportsText a.context.context (start_refusal 256 (module_shape a.«module») (shapes_of a.bodies.items)) (module_shape a.«module») (string_bytes t))
    → IfOk text (λ t. IsList held Accepted (string_bytes t))
good_text held bytes slice a (Ok text) read same verdict parts told =
    is_list held bytes slice (string_bytes text) Accepted read same verdict (a, parts, in_context slice a (string_bytes text) parts told)
good_text held bytes slice a (Err e) read same verdict parts told = tt

pub listed_good : (held : Option (List ℕ)) (bytes slice : List ℕ) (a : AcceptedModule) (text : Result (String Global) AllocError) (old new : Option (List ℕ)) (r : Result Status ProgramFault)
    → IsRead module_limit held bytes → slice ≡ bytes → IsVerdict slice Accepted → IsAcceptedFrom slice a
    → IfOk text (λ t. IsExportsText a.context.context (start_refusal 256 (module_shape a.«module») (shapes_of a.bodies.items)) (module_shape a.«module») (string_bytes t))
    → ShowsText text Good old new r → Lists held old new r
listed_good held bytes slice a text old new r read same verdict parts told shown =
    listed held Accepted text Good old new r (good_text held bytes slice a text read same verdict parts told) refl shown

-- the line of a module that is refused
refused_text : (held : Option (List ℕ)) (bytes slice : List ℕ) (v : Verdict) (text : Result (String Global) AllocError) → ((line : List ℕ) → line ≡ verdict_line v → IsListBy slice v line) → IsRead module_limit held bytes → slice ≡ bytes → IsVerdict slice v
    → IfOk text (λ t. string_bytes t ≡ verdict_line v) → IfOk text (λ t. IsList held v (string_bytes t))
refused_text held bytes slice v (Ok text) by_line read same verdict told = is_list held bytes slice (string_bytes text) v read same verdict (by_line (string_bytes text) told)
refused_text held bytes slice v (Err e) by_line read same verdict told = tt

pub listed_refused : (held : Option (List ℕ)) (bytes slice : List ℕ) (f : Refusal) (text : Result (String Global) AllocError) (old new : Option (List ℕ)) (r : Result Status ProgramFault)
    → IsRead module_limit held bytes → slice ≡ bytes → IfSome (verdict_of f) (IsVerdict slice) → IfOk text (λ t. IsSomeAnd (verdict_of f) (λ v. string_bytes t ≡ verdict_line v))
    → ShowsText text ModuleRefused old new r → Lists held old new r
listed_refused held bytes slice refusal.TooLarge text old new r read same verdict told shown =
    listed held TooLarge text ModuleRefused old new r (refused_text held bytes slice TooLarge text (λ line e. e) read same verdict told) refl shown
listed_refused held bytes slice refusal.Malformed text old new r read same verdict told shown =
    listed held Malformed text ModuleRefused old new r (refused_text held bytes slice Malformed text (λ line e. e) read same verdict told) refl shown
listed_refused held bytes slice (refusal.Rule k) text old new r read same verdict told shown =
    listed held (RuleBroken k) text ModuleRefused old new r (refused_text held bytes slice (RuleBroken k) text (λ line e. e) read same verdict told) refl shown
listed_refused held bytes slice (refusal.Body f c) text old new r read same verdict told shown =
    listed held (BodyRefused f _) text ModuleRefused old new r (refused_text held bytes slice (BodyRefused f _) text (λ line e. e) read same verdict told) refl shown
listed_refused held bytes slice refusal.Memory (Ok text) old new r read same verdict told shown = absurd told
listed_refused held bytes slice refusal.Memory (Err e) old new r read same verdict told (ended, kept) = subst (Lists held old new) (sym ended) kept
