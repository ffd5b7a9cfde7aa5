-- Lines of consecutive calls, and groups of them.
use Rattle.std.proofs.Common.{◌≡◌, ℕ, suc, ◌+◌, ◌-◌, ◌<◌, ◌≤◌, ◌^◌, List, [], ◌∷◌, ◌++◌, Some, length, get_or, take, take-add, drop, Vec, refl, sym, ap, subst, ◌∙◌, arith, append_assoc, length-append}
use Rattle.std.specs.Prelude.{slice_get}
use Rattle.std.specs.declared.alloc.Global.{Global}
use Rattle.std.proofs.lemmas.Grind.{flat_map-append}
use Rattle.std.proofs.lemmas.List.{append-nil, length-map, length-take, map-append, take_all, take_more, take-append-drop}
use Rattle.std.proofs.lemmas.Option.{same_Some}
use Rattle.pieces.specs.TryAll.{AllPass}
use Rattle.batch_text.specs.Ends.{end_of, ends_of}
use Rattle.batch_text.specs.Parts.{IsPart, AreParts}
use Rattle.batch_text.specs.Slices.{joined_calls}
use Rattle.batch_text.specs.declared.call.Call.{Call}
use Rattle.batch_text.specs.declared.line.Line.{Line}
use Rattle.batch_text.specs.declared.part.Part.{Part}
use Rattle.accepted_module.specs.declared.accepted.Accepted.{Accepted}
use Rattle.wstore.specs.declared.settings.Settings.{Settings}
use Rattle.batch.specs.Ends.{GivesLine}
use Rattle.batch.specs.Groups.{AreGroups, AddsGroups, GiveLines, GivesPart, GivesPartAt, GiveParts}
use Rattle.batch.specs.declared.group.Group.{Group}

-- ---- lines

-- one line a call
pub as_many : (a : Accepted) (s : Settings) (calls : List Call) (lines : List Line) → GiveLines a s calls lines → length lines ≡ length calls
as_many a s [] [] h = refl
as_many a s [] (x ∷ xs) h = absurd h
as_many a s (c ∷ cs) [] h = absurd h
as_many a s (c ∷ cs) (x ∷ xs) h = ap suc (as_many a s cs xs h.1)

-- the lines of calls, and of others after them
give_both : (a : Accepted) (s : Settings) (calls others : List Call) (lines more : List Line) → GiveLines a s calls lines → GiveLines a s others more → GiveLines a s (calls ++ others) (lines ++ more)
give_both a s [] others [] more h g = g
give_both a s [] others (x ∷ xs) more h g = absurd h
give_both a s (c ∷ cs) others [] more h g = absurd h
give_both a s (c ∷ cs) others (x ∷ xs) more h g = (h.0, give_both a s cs others xs more h.1 g)

-- the line of the next call
pub give_more : (a : Accepted) (s : Settings) (calls : List Call) (i : ℕ) (c : Call) (lines : List Line) (line : Line) → i < length calls → c ≡ get_or calls i c → GiveLines a s (take i calls) lines → GivesLine a s c line
    → GiveLines a s (take (i + 1) calls) (lines ++ line ∷ [])
give_more a s calls i c lines line below at h g =
    let more : take (i + 1) calls ≡ take i calls ++ c ∷ [] = take_more calls i c below ∙ ap (λ (d : Call). take i calls ++ d ∷ []) (sym at) in
    subst (λ (l : List Call). GiveLines a s l (lines ++ line ∷ [])) (sym more) (give_both a s (take i calls) (c ∷ []) lines (line ∷ []) h (g, tt))

-- the lines of all calls
pub all_given : (a : Accepted) (s : Settings) (calls : List Call) (i : ℕ) (lines : List Line) → length calls ≤ i → GiveLines a s (take i calls) lines → GiveLines a s calls lines
all_given a s calls i lines past h = subst (λ (l : List Call). GiveLines a s l lines) (take_all i calls past) h

-- all lines of a group
pub part_given : (a : Accepted) (s : Settings) (g : Group) (i : ℕ) (lines given : List Line) (p : Part) → length g.calls.now ≤ i → GiveLines a s (take i g.calls.now) lines → given ≡ lines → IsPart g.first (ends_of given) p → GivesPart a s g p
part_given a s g i lines given p past h same part = (lines, all_given a s g.calls.now i lines past h, subst (λ (l : List Line). IsPart g.first (ends_of l) p) same part)

-- ---- groups

-- groups, and others after them
are_both : (n m : ℕ) (calls others : List Call) (groups more : List Group) → AreGroups n calls groups → m ≡ n + length calls → AreGroups m others more → AreGroups n (calls ++ others) (groups ++ more)
are_both n m calls others [] more h at g =
    let same : m ≡ n = omega (arith, at, ap length h) in
    subst (λ (l : List Call). AreGroups n (l ++ others) more) (sym h) (subst (λ (k : ℕ). AreGroups k others more) same g)
are_both n m calls others (p ∷ ps) more (first, some, (rest, both, are)) at g =
    let far : m ≡ n + length p.calls.now + length rest = omega (arith, at, ap length both, length-append p.calls.now rest) in
    (first, some, (rest ++ others, ap (λ (l : List Call). l ++ others) both ∙ append_assoc p.calls.now rest others, are_both (n + length p.calls.now) m rest others ps more are far g))

-- groups are added after those that were added
pub adds_both : (n m : ℕ) (calls others : List Call) (old groups new : List Group) → AddsGroups n calls old groups → m ≡ n + length calls → AddsGroups m others groups new → AddsGroups n (calls ++ others) old new
adds_both n m calls others old groups new (front, added, are) at (more, then', others') =
    (front ++ more, then' ∙ ap (λ (l : List Group). l ++ more) added ∙ append_assoc old front more, are_both n m calls others front more are at others')

-- one group more, of the calls from one position to another
pub adds_one : (n : ℕ) (calls : List Call) (from to : ℕ) (old groups : List Group) (g : Group) → from < to → to ≤ length calls → AddsGroups n (take from calls) old groups → g.first ≡ n + from → g.calls.now ≡ take (to - from) (drop from calls)
    → AddsGroups n (take to calls) old (groups ++ g ∷ [])
adds_one n calls from to old groups g order within h first is =
    let count : length (take from calls) ≡ from = simp length-take (omega arith) in
    let sum : from + (to - from) ≡ to = omega arith in
    let both : take from calls ++ g.calls.now ≡ take to calls = ap (λ (l : List Call). take from calls ++ l) is ∙ sym (take-add from (to - from) calls) ∙ ap (λ (k : ℕ). take k calls) sum in
    let count' : length (take to calls) ≡ to = simp length-take (omega arith) in
    let some : 0 < length g.calls.now = omega (arith, order, count, count', ap length both, length-append (take from calls) g.calls.now) in
    let one : AddsGroups g.first g.calls.now groups (groups ++ g ∷ []) = (g ∷ [], refl, (refl, some, ([], sym (append-nil g.calls.now), refl))) in
    subst (λ (l : List Call). AddsGroups n l old (groups ++ g ∷ [])) both
    (adds_both n g.first (take from calls) g.calls.now old groups (groups ++ g ∷ []) h (first ∙ ap (λ (k : ℕ). n + k) (sym count)) one)

-- no more groups than calls
pub few_groups : (n : ℕ) (calls : List Call) (groups : List Group) → AreGroups n calls groups → length groups ≤ length calls
few_groups n calls [] h = omega arith
few_groups n calls (g ∷ gs) (first, some, (rest, both, are)) =
    omega (arith, some, few_groups (n + length g.calls.now) rest gs are, ap length both, length-append g.calls.now rest)

-- ---- slices

-- the calls up to the next slice
pub slice_more : (slices : List (Vec Call Global)) (i : ℕ) (calls : Vec Call Global) → i < length slices → calls ≡ get_or slices i calls → joined_calls (take (i + 1) slices) ≡ joined_calls (take i slices) ++ calls.items
slice_more slices i calls below at =
    let front : take (i + 1) slices ≡ take i slices ++ calls ∷ [] = take_more slices i calls below ∙ ap (λ (c : Vec Call Global). take i slices ++ c ∷ []) (sym at) in
    ap joined_calls front ∙ flat_map-append (λ (c : Vec Call Global). c.items) (take i slices) (calls ∷ []) ∙ ap (λ (l : List Call). joined_calls (take i slices) ++ l) (append-nil calls.items)

-- there is room for the indices of the calls of the next slice
pub slice_fits : (slices : List (Vec Call Global)) (i : ℕ) (calls : Vec Call Global) → i < length slices → calls ≡ get_or slices i calls → length (joined_calls slices) < 2 ^ 32 → length (joined_calls (take i slices)) + length calls.items < 2 ^ 32
slice_fits slices i calls below at few =
    let both : joined_calls slices ≡ joined_calls (take (i + 1) slices) ++ joined_calls (drop (i + 1) slices) =
    ap joined_calls (sym (take-append-drop (i + 1) slices)) ∙ flat_map-append (λ (c : Vec Call Global). c.items) (take (i + 1) slices) (drop (i + 1) slices) in
    omega (
      arith,
      few,
      ap length both,
      length-append (joined_calls (take (i + 1) slices)) (joined_calls (drop (i + 1) slices)),
      ap length (slice_more slices i calls below at),
      length-append (joined_calls (take i slices)) calls.items,
    )

-- ---- all groups

parts_from : (a : Accepted) (s : Settings) (n : ℕ) (calls : List Call) (groups : List Group) (parts : List Part) → length parts ≡ length groups → AreGroups n calls groups
    → ((i : ℕ) (p : Part) → slice_get parts i ≡ Some p → GivesPartAt a s groups i p)
    → (lines : List Line) × GiveLines a s calls lines × AreParts n (ends_of lines) parts
parts_from a s n calls [] [] count are each = ([], subst (λ (l : List Call). GiveLines a s l []) (sym are) tt, refl)
parts_from a s n calls [] (p ∷ ps) count are each = absurd (omega (arith, count))
parts_from a s n calls (g ∷ gs) [] count are each = absurd (omega (arith, count))
parts_from a s n calls (g ∷ gs) (p ∷ ps) count (first, some, (rest, both, are)) each =
    let (h, at, (front, gives, part)) = each 0 p refl in
    let same : h ≡ g = sym (same_Some g h at) in
    let gives' : GiveLines a s g.calls.now front = subst (λ (x : Group). GiveLines a s x.calls.now front) same gives in
    let part' : IsPart n (ends_of front) p = subst (λ (k : ℕ). IsPart k (ends_of front) p) (ap (λ (x : Group). x.first) same ∙ first) part in
    let behind : length ps ≡ length gs = omega (arith, count) in
    let (more, others, parts) = parts_from a s (n + length g.calls.now) rest gs ps behind are (λ i q e. each (suc i) q e) in
    let many : length (ends_of front) ≡ length g.calls.now = length-map front end_of ∙ as_many a s g.calls.now front gives' in (
      front ++ more,
      subst (λ (l : List Call). GiveLines a s l (front ++ more)) (sym both) (give_both a s g.calls.now rest front more gives' others),
      (
        ends_of front,
        ends_of more,
        map-append end_of front more,
        part',
        subst (λ (k : ℕ). AreParts (n + k) (ends_of more) ps) (sym many) parts,
      ),
    )

pub all_parts : (a : Accepted) (s : Settings) (calls : List Call) (groups given : List Group) (n : ℕ) (parts : List Part) → AreGroups 0 calls groups → given ≡ groups → n ≡ length groups
    → AllPass n (λ g. Unit {0}) (λ g part. GivesPartAt a s given g part) parts → GiveParts a s calls parts
all_parts a s calls groups given n parts are same count h =
    parts_from a s 0 calls groups parts (h.len ∙ count) are (λ i p e. subst (λ (l : List Group). GivesPartAt a s l i p) same (h.each i p e).1)
