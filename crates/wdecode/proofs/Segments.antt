-- Element segments, as a loop reads them.
use Rattle.std.proofs.Common.{◌≡◌, ℕ, List, [], ◌∷◌, ◌++◌, Some, Result, Ok, Err, refl, sym, ap, ◌∙◌, append_assoc}
use Rattle.std.proofs.lemmas.List.{append-nil}
use Rattle.wsyntax.specs.HeldElement.{HeldElement}
use Rattle.wsyntax.specs.Elements.{with_function}
use Rattle.wsyntax.specs.Instructions.{Token}
use Rattle.wsyntax.specs.Modules.{initial_tokens}
use Rattle.wsyntax.specs.declared.module.ConstExpr.{ConstExpr}
use Rattle.wsyntax.specs.Binary.Production.{times_at}
use Rattle.wsyntax.specs.Binary.Values.{u32}
use Rattle.wsyntax.specs.Binary.Nesting.{expression}
use Rattle.wsyntax.specs.Binary.Sections.{element}
use Rattle.wdecode.specs.declared.fault.Fault.{Fault}
use Rattle.wdecode.specs.declared.fault.Fault.TheVariants.{Malformed, Memory}
use Rattle.wdecode.specs.Gives.{Fails}
use Rattle.wdecode.specs.Segments.{with_functions, GivesFunctions, GivesElement}

-- a function more
pub more_functions : (es : List HeldElement) (fs : List ℕ) (f : ℕ) → with_functions es (fs ++ f ∷ []) ≡ with_function (with_functions es fs) f
more_functions es [] f = refl
more_functions es (g ∷ fs) f = more_functions (with_function es g) fs f

in_last : (es : List HeldElement) (e : HeldElement) (f : ℕ) → with_function (es ++ e ∷ []) f ≡ es ++ record e { functions = e.functions ++ f ∷ [] } ∷ []
in_last [] e f = refl
in_last (d ∷ []) e f = refl
in_last (d ∷ c ∷ es) e f = ap (λ l. d ∷ l) (in_last (c ∷ es) e f)

-- all functions are in the last segment
pub all_in_last : (es : List HeldElement) (e : HeldElement) (fs : List ℕ) → with_functions (es ++ e ∷ []) fs ≡ es ++ record e { functions = e.functions ++ fs } ∷ []
all_in_last es e [] = ap (λ l. es ++ record e { functions = l } ∷ []) (sym (append-nil e.functions))
all_in_last es e (f ∷ fs) =
    ap (λ l. with_functions l fs) (in_last es e f)
    ∙ all_in_last es (record e { functions = e.functions ++ f ∷ [] }) fs
    ∙ ap (λ l. es ++ record e { functions = l } ∷ []) (append_assoc e.functions (f ∷ []) fs)

-- a segment is read part by part
pub fails_first : (e : Fault) (bytes : List ℕ) → Fails e (u32.read bytes) → Fails e (element.read bytes)
unfolding element
fails_first Memory bytes h = tt
fails_first Malformed bytes h = rw h refl

pub fails_second : (e : Fault) (bytes rest : List ℕ) (t : ℕ) → u32.read bytes ≡ Some (t, rest) → Fails e (expression.read rest) → Fails e (element.read bytes)
unfolding element
fails_second Memory bytes rest t a h = tt
fails_second Malformed bytes rest t a h = rw (a, h) refl

pub fails_third : (e : Fault) (bytes rest after : List ℕ) (t : ℕ) (offset : List Token) → u32.read bytes ≡ Some (t, rest) → expression.read rest ≡ Some (offset, after) → Fails e (u32.read after) → Fails e (element.read bytes)
unfolding element
fails_third Memory bytes rest after t offset a b h = tt
fails_third Malformed bytes rest after t offset a b h = rw (a, b, h) refl

fails_last : (e : Fault) (bytes rest after behind : List ℕ) (t n : ℕ) (offset : List Token) → u32.read bytes ≡ Some (t, rest) → expression.read rest ≡ Some (offset, after) → u32.read after ≡ Some (n, behind) → Fails e (times_at u32.read n behind) → Fails e (element.read bytes)
unfolding element
fails_last Memory bytes rest after behind t n offset a b c h = tt
fails_last Malformed bytes rest after behind t n offset a b c h = rw (a, b, c, h) refl

is_read : (bytes rest after behind end : List ℕ) (t n : ℕ) (offset : List Token) (fs : List ℕ) → u32.read bytes ≡ Some (t, rest) → expression.read rest ≡ Some (offset, after) → u32.read after ≡ Some (n, behind) → times_at u32.read n behind ≡ Some (fs, end) → element.read bytes ≡ Some (record { table = t; offset = offset; functions = fs }, end)
unfolding element
is_read bytes rest after behind end t n offset fs a b c h = rw (a, b, c, h) refl

-- its functions come last
pub element_given : {X : Type 0} (view : X → List ℕ) (old between new : List HeldElement) (r : Result X Fault) (offset : ConstExpr) (bytes rest after behind : List ℕ) (t n : ℕ) → u32.read bytes ≡ Some (t, rest) → expression.read rest ≡ Some (initial_tokens offset, after) → between ≡ old ++ record { table = t; offset = offset; functions = [] } ∷ [] → u32.read after ≡ Some (n, behind) → GivesFunctions view between new r (times_at u32.read n behind) → GivesElement view old new r (element.read bytes)
element_given view old between new (Ok x) offset bytes rest after behind t n a b one c g =
    let e : HeldElement = record { table = t; offset = offset; functions = g.0 } in (
      e,
      is_read bytes rest after behind (view x) t n (initial_tokens offset) g.0 a b c g.1,
      g.2 ∙ ap (λ (es : List HeldElement). with_functions es g.0) one ∙ all_in_last old (record { table = t; offset = offset; functions = [] }) g.0,
    )
element_given view old between new (Err e) offset bytes rest after behind t n a b one c g = fails_last e bytes rest after behind t n (initial_tokens offset) a b c g
