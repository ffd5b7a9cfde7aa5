-- Vectors read past, value by value.
use Rattle.std.proofs.Common.{◌≡◌, ℕ, suc, ◌+◌, ◌-◌, ◌<◌, List, ◌∷◌, Option, Some, None, Result, Ok, Err, refl, arith, ap, sym, subst, ◌∙◌, add-one, inl, inr}
use Rattle.std.specs.Prelude.{IfOk}
use Rattle.std.specs.Borrow.{Bor}
use Rattle.std.specs.declared.alloc.AllocError.{AllocError}
use Rattle.wnum.specs.Reading.{◌>>=◌}
use Rattle.wsyntax.specs.Binary.Production.{times_at}
use Rattle.wsyntax.specs.Binary.Values.{u32, name}
use Rattle.wdecode.specs.Gives.{rest_of}
use Rattle.explanation.specs.declared.shell_location.SectionPart.{SectionPart}
use Rattle.explanation.specs.declared.shell_location.SectionPart.TheVariants as part
use Rattle.explain_bytes.specs.declared.shell.primitives.Stuck.{Stuck}
use Rattle.explain_bytes.specs.declared.shell.items.Items.{Items}
use Rattle.explain_bytes.specs.declared.shell.contents.ContentsEnd.{ContentsEnd}
use Rattle.explain_bytes.specs.declared.shell.contents.ContentsEnd.TheVariants as outcome
use Rattle.explain_bytes.specs.Shells.{Comes, ContentsCome, IsUnread, Passes, after, after_items, after_one_more}

-- a value in front changes nothing of what is left
with_one : {A : Type 0} (a : A) (others : Option (List A × List ℕ)) → rest_of (others >>= λ x. Some (a ∷ x.0, x.1)) ≡ rest_of others
with_one a (Some x) = refl
with_one a None = refl

found : {A : Type 0} (read : List ℕ → Option (A × List ℕ)) (n : ℕ) (bytes rest : List ℕ) (o : Option (A × List ℕ)) → read bytes ≡ o → rest_of o ≡ Some rest
    → rest_of (times_at read (suc n) bytes) ≡ rest_of (times_at read n rest)
found read n bytes rest None e h = absurd (let no : ⊥ = cc in no)
found read n bytes rest (Some x) e h =
    let same : x.1 ≡ rest = cc in
    rw (e, ← same) (with_one x.0 (times_at read n x.1))

lost : {A : Type 0} (read : List ℕ → Option (A × List ℕ)) (n : ℕ) (bytes : List ℕ) (o : Option (A × List ℕ)) → read bytes ≡ o → rest_of o ≡ None
    → rest_of (times_at read (suc n) bytes) ≡ None
lost read n bytes None e h = rw e refl
lost read n bytes (Some x) e h = absurd (let no : ⊥ = cc in no)

-- one value further
pub goes_on : {A : Type 0} (read : List ℕ → Option (A × List ℕ)) (count i : ℕ) (bytes rest : List ℕ) (total : Option (List ℕ)) → i < count → rest_of (read bytes) ≡ Some rest
    → rest_of (times_at read (count - i) bytes) ≡ total → rest_of (times_at read (count - (i + 1)) rest) ≡ total
goes_on read count i bytes rest total lt h so_far =
    let k : count - i ≡ suc (count - (i + 1)) = omega arith in
    let one : rest_of (times_at read (count - i) bytes) ≡ rest_of (times_at read (count - (i + 1)) rest) = rw k (found read (count - (i + 1)) bytes rest (read bytes) refl h) in
    sym one ∙ so_far

-- there is no further value
pub ends : {A : Type 0} (read : List ℕ → Option (A × List ℕ)) (count i : ℕ) (bytes : List ℕ) (total : Option (List ℕ)) → i < count → rest_of (read bytes) ≡ None
    → rest_of (times_at read (count - i) bytes) ≡ total → total ≡ None
ends read count i bytes total lt h so_far =
    let k : count - i ≡ suc (count - (i + 1)) = omega arith in
    let one : rest_of (times_at read (count - i) bytes) ≡ None = rw k (lost read (count - (i + 1)) bytes (read bytes) refl h) in
    sym so_far ∙ one

-- one item further
pub one_item_more : (items : Items) (n : ℕ) (bytes rest left : List ℕ) → after_items items n bytes ≡ Some rest → after items rest ≡ Some left → after_items items (n + 1) bytes ≡ Some left
one_item_more items n bytes rest left e r = rw add-one (ap (after_one_more items) e ∙ r)

-- a part that is read is what the section holds
pub name_comes : (id : ℕ) (contents : List ℕ) (read : Result (Bor (List ℕ)) Stuck) (r : Result ContentsEnd AllocError) → id ≡ 0 → Passes (rest_of (name.read contents)) read
    → IfOk r (λ o. (left : Option (List ℕ)) → Passes left read → Comes part.Name left o) → IfOk r (ContentsCome id contents)
name_comes id contents read (Ok (outcome.After rest segment)) e p h = inr (inl (e, h (rest_of (name.read contents)) p))
name_comes id contents read (Ok (outcome.Stopped l)) e p h =
    let k : Comes part.Name (rest_of (name.read contents)) (outcome.Stopped l) = h (rest_of (name.read contents)) p in
    (subst (λ (x : SectionPart). IsUnread id contents x) (sym k.0) (e, k.1), k.2)
name_comes id contents read (Ok outcome.Unknown) e p h = tt
name_comes id contents read (Err x) e p h = tt

pub start_comes : (id : ℕ) (contents : List ℕ) (read : Result (Bor (List ℕ)) Stuck) (r : Result ContentsEnd AllocError) → id ≡ 8 → Passes (rest_of (u32.read contents)) read
    → IfOk r (λ o. (left : Option (List ℕ)) → Passes left read → Comes part.Start left o) → IfOk r (ContentsCome id contents)
start_comes id contents read (Ok (outcome.After rest segment)) e p h = inr (inr (e, h (rest_of (u32.read contents)) p))
start_comes id contents read (Ok (outcome.Stopped l)) e p h =
    let k : Comes part.Start (rest_of (u32.read contents)) (outcome.Stopped l) = h (rest_of (u32.read contents)) p in
    (subst (λ (x : SectionPart). IsUnread id contents x) (sym k.0) (e, k.1), k.2)
start_comes id contents read (Ok outcome.Unknown) e p h = tt
start_comes id contents read (Err x) e p h = tt
