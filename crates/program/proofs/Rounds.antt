-- The lines of a round are those of its files, and rounds one after another print the lines of all files (`files_end`, `names_spread`).
-- It goes file by file, and then round by round: each lemma joins one more to what is known so far (`one_line`, `rounds_printed`).
-- Functions of src/checking_all.rt, file_lines.rt, name_list.rt, spreading.rt and taking.rt cite it; Streamed.antt cites `paths_joined`.
use Rattle.std.proofs.Common.{◌≡◌, ◌⊎◌, ℕ, ◌+◌, ◌-◌, ◌<◌, Bool, true, false, Bor, List, [], ◌∷◌, ◌++◌, Option, Some, None, Result, Ok, Err, length, map, take, drop, inl, inr, refl, sym, ap, subst, ◌∙◌, arith, append_assoc, append-nil, suc, add-one, drop-cons, get_or}
use Rattle.std.specs.Prelude.{IfErr, IfSome, IsSomeAnd, Vec}
use Rattle.std.specs.declared.alloc.Global.{Global}
use Rattle.std.proofs.lemmas.Bool.{eq-eqb}
use Rattle.std.proofs.lemmas.List.{drop_all, get_or-map, length-drop, length-map, length-take, length_push, map_push, drop-map, take-append-drop, take-map, take_all, take_more}
use Rattle.std.proofs.KnownBytes.{Appends-kept, Appends-nil, Appends-trans}
use Rattle.std.proofs.Math.Seq.{take-add, take-append-add}
use Rattle.std.proofs.lemmas.Slice.{between_is}
use Rattle.std.specs.Io.KnownBytes.{Appends, Keeps}
use Rattle.wsyntax.specs.Texts.Lines.{verdict_line}
use Rattle.wsyntax.specs.Validation.Verdict.{Verdict, Accepted as accepted, IsVerdict}
use Rattle.refusal.specs.Refusals.{verdict_of}
use Rattle.refusal.specs.declared.refusal.Refusal.{Refusal}
use Rattle.program.specs.Verdicts.{AreVerdicts, IsJudged}
use Rattle.batch.specs.Output.{AppendsFront}
use Rattle.batch.specs.Report.{given_verdict}
use Rattle.batch.specs.declared.status.Status.{Status}
use Rattle.program.specs.ChecksAll.{BeginsBy, BeginsFiles, ChecksFiles, ChecksNames, PrintsFiles, outcome_result}
use Rattle.program.specs.FileLines.{AreFileLines, AreJudgedLines, AreTaken, AreTakenLines, IsFileLine, IsTaken, IsTakenEnd, IsTakenLine, file_line, outcome_of, taken_bytes, worse}
use Rattle.program.specs.NameLists.{IsSpread, listed_names}
use Rattle.program.specs.Sources.{ReadsPaths}
use Rattle.program.specs.declared.fault.ProgramFault.{ProgramFault}
use Rattle.program.specs.declared.fault.ProgramFault.TheVariants as fault
use Rattle.program.specs.declared.file_outcome.FileOutcome.{FileOutcome}
use Rattle.program.specs.declared.file_outcome.FileOutcome.TheVariants.{Accepted, Refused, Unread}
use Rattle.program.specs.declared.taking.Taken.{Taken}
use Rattle.program.specs.declared.taking.Taken.TheVariants as taken

-- what comes of many files

worse_none : (p : FileOutcome) → worse Accepted p ≡ p
worse_none Accepted = refl
worse_none Refused = refl
worse_none Unread = refl

worse_last : (p : FileOutcome) → worse p Accepted ≡ p
worse_last Accepted = refl
worse_last Refused = refl
worse_last Unread = refl

worse_assoc : (p q r : FileOutcome) → worse (worse p q) r ≡ worse p (worse q r)
worse_assoc Unread q r = refl
worse_assoc Accepted q r = ap (λ x. worse x r) (worse_none q) ∙ sym (worse_none (worse q r))
worse_assoc Refused Accepted Accepted = refl
worse_assoc Refused Accepted Refused = refl
worse_assoc Refused Accepted Unread = refl
worse_assoc Refused Refused Accepted = refl
worse_assoc Refused Refused Refused = refl
worse_assoc Refused Refused Unread = refl
worse_assoc Refused Unread Accepted = refl
worse_assoc Refused Unread Refused = refl
worse_assoc Refused Unread Unread = refl

-- the line of a file is that of what was read and judged

verdict_known : (bytes end : List ℕ) (o : FileOutcome) (v : Option Verdict) → IfSome v (IsVerdict bytes) → IsSomeAnd v (λ w. (end ≡ verdict_line w) × (o ≡ outcome_of w))
    → (w : Verdict) × IsVerdict bytes w × (end ≡ verdict_line w) × (o ≡ outcome_of w)
verdict_known bytes end o None known told = absurd told
verdict_known bytes end o (Some v) known told = (v, known, told.0, told.1)

line_known : (held : Option (List ℕ)) (name : List ℕ) (t : Taken) (j : Result (Unit {0}) Refusal) (line : List ℕ) (o : FileOutcome) → IsTaken held t → IsJudged (taken_bytes t) j → IsTakenLine name t j line o → IsFileLine held name line o
line_known held name (taken.Bytes bytes) (Ok u) line o read judged (end, told, is) =
    let (v, verdict, e, out) = verdict_known bytes.items end o (Some accepted) judged told in
    inl (v, record { bytes = bytes.items; read = read; verdict = verdict }, is ∙ ap (file_line name) e, out)
line_known held name (taken.Bytes bytes) (Err r) line o read judged (end, told, is) =
    let (v, verdict, e, out) = verdict_known bytes.items end o (verdict_of r) judged told in
    inl (v, record { bytes = bytes.items; read = read; verdict = verdict }, is ∙ ap (file_line name) e, out)
line_known held name (taken.Unread reason) j line o none judged (end, (e, out), is) = inr (reason, none, is ∙ ap (file_line name) e, out)

pub lines_known : (holds : List ℕ → Option (List ℕ)) (ns : List (List ℕ)) (ts : List Taken) (js : List (Result (Unit {0}) Refusal)) (text : List ℕ) (o : FileOutcome)
    → AreTaken holds ns ts → AreVerdicts (map taken_bytes ts) js → AreTakenLines ns ts js text o → AreFileLines holds ns text o
lines_known holds [] [] [] text o read judged lines = lines
lines_known holds [] [] (j ∷ js) text o read judged lines = absurd lines
lines_known holds [] (t ∷ ts) js text o read judged lines = absurd read
lines_known holds (n ∷ ns) [] js text o read judged lines = absurd read
lines_known holds (n ∷ ns) (t ∷ ts) [] text o read judged lines = absurd judged
lines_known holds (n ∷ ns) (t ∷ ts) (j ∷ js) text o read judged (line, rest, p, q, here, more, e, out) =
    (line, rest, p, q, line_known (holds n) n t j line p read.0 judged.0 here, lines_known holds ns ts js rest q read.1 judged.1 more, e, out)

pub verdicts_length : (bs : List (List ℕ)) (js : List (Result (Unit {0}) Refusal)) → AreVerdicts bs js → length js ≡ length bs
verdicts_length [] [] h = refl
verdicts_length [] (j ∷ js) h = absurd h
verdicts_length (b ∷ bs) [] h = absurd h
verdicts_length (b ∷ bs) (j ∷ js) h = ap suc (verdicts_length bs js h.1)

-- one more

pub one_taken : (holds : List ℕ → Option (List ℕ)) (ns : List (List ℕ)) (ts : List Taken) (n : List ℕ) (t : Taken) → AreTaken holds ns ts → IsTaken (holds n) t → AreTaken holds (ns ++ (n ∷ [])) (ts ++ (t ∷ []))
one_taken holds [] [] n t h is = (is, tt)
one_taken holds [] (u ∷ ts) n t h is = absurd h
one_taken holds (m ∷ ns) [] n t h is = absurd h
one_taken holds (m ∷ ns) (u ∷ ts) n t h is = (h.0, one_taken holds ns ts n t h.1 is)

pub one_line : (ns : List (List ℕ)) (ts : List Taken) (js : List (Result (Unit {0}) Refusal)) (text : List ℕ) (p : FileOutcome) (n : List ℕ) (t : Taken) (j : Result (Unit {0}) Refusal) (line : List ℕ) (q : FileOutcome)
    → AreTakenLines ns ts js text p → IsTakenLine n t j line q → AreTakenLines (ns ++ (n ∷ [])) (ts ++ (t ∷ [])) (js ++ (j ∷ [])) (text ++ line) (worse p q)
one_line [] [] [] text p n t j line q lines is =
    (line, [], q, Accepted, is, (refl, refl), ap (λ (x : List ℕ). x ++ line) lines.0 ∙ sym (append-nil line), ap (λ (x : FileOutcome). worse x q) lines.1 ∙ worse_none q ∙ sym (worse_last q))
one_line [] [] (k ∷ js) text p n t j line q lines is = absurd lines
one_line [] (u ∷ ts) js text p n t j line q lines is = absurd lines
one_line (m ∷ ns) [] js text p n t j line q lines is = absurd lines
one_line (m ∷ ns) (u ∷ ts) [] text p n t j line q lines is = absurd lines
one_line (m ∷ ns) (u ∷ ts) (k ∷ js) text p n t j line q (first, rest, a, b, here, more, e, out) is =
    (first, rest ++ line, a, worse b q, here, one_line ns ts js rest b n t j line q more is, ap (λ (x : List ℕ). x ++ line) e ∙ append_assoc first rest line, ap (λ (x : FileOutcome). worse x q) out ∙ worse_assoc a b q)

-- rounds one after another

lines_joined : (holds : List ℕ → Option (List ℕ)) (xs ys : List (List ℕ)) (a b : List ℕ) (p q : FileOutcome) → AreFileLines holds xs a p → AreFileLines holds ys b q → AreFileLines holds (xs ++ ys) (a ++ b) (worse p q)
lines_joined holds [] ys a b p q (none, out) more =
    subst (λ (x : FileOutcome). AreFileLines holds ys (a ++ b) x) (sym (ap (λ (x : FileOutcome). worse x q) out ∙ worse_none q)) (subst (λ (x : List ℕ). AreFileLines holds ys x q) (sym (ap (λ (x : List ℕ). x ++ b) none)) more)
lines_joined holds (x ∷ xs) ys a b p q (line, rest, o, r, here, there, e, out) more =
    (line, rest ++ b, o, worse r q, here, lines_joined holds xs ys rest b r q there more, ap (λ (x : List ℕ). x ++ b) e ∙ append_assoc line rest b, ap (λ (x : FileOutcome). worse x q) out ∙ worse_assoc o r q)

lines_same : (holds later : List ℕ → Option (List ℕ)) (xs : List (List ℕ)) (a : List ℕ) (p : FileOutcome) → ((other : List ℕ) → later other ≡ holds other) → AreFileLines later xs a p → AreFileLines holds xs a p
lines_same holds later [] a p same lines = lines
lines_same holds later (x ∷ xs) a p same (line, rest, o, r, here, there, e, out) =
    (line, rest, o, r, subst (λ (held : Option (List ℕ)). IsFileLine held x line o) (same x) here, lines_same holds later xs rest r same there, e, out)

pub paths_joined : (a b c : Option (List (List ℕ))) (xs ys : List (List ℕ)) → ReadsPaths a b xs → ReadsPaths b c ys → ReadsPaths a c (xs ++ ys)
paths_joined None b c xs ys h g = tt
paths_joined (Some before) b c xs ys h g =
    let known : c ≡ Some ((before ++ xs) ++ ys) = subst (λ (x : Option (List (List ℕ))). ReadsPaths x c ys) h g in
    known ∙ ap Some (append_assoc before xs ys)

pub no_paths : (a : Option (List (List ℕ))) → ReadsPaths a a []
no_paths None = tt
no_paths (Some before) = ap Some (sym (append-nil before))

nothing_printed : (holds : List ℕ → Option (List ℕ)) (a b : Option (List (List ℕ))) (out : Option (List ℕ)) → ReadsPaths a b [] → PrintsFiles holds [] a b out out Accepted
nothing_printed holds a b out order = record { text = []; lines = (refl, refl); in_order = order; written = Appends-nil out }

pub printed_joined : (holds later : List ℕ → Option (List ℕ)) (xs ys : List (List ℕ)) (a b c : Option (List (List ℕ))) (old mid new : Option (List ℕ)) (p q : FileOutcome) → ((other : List ℕ) → later other ≡ holds other)
    → PrintsFiles holds xs a b old mid p → PrintsFiles later ys b c mid new q → PrintsFiles holds (xs ++ ys) a c old new (worse p q)
printed_joined holds later xs ys a b c old mid new p q same first more = record {
  text = first.text ++ more.text;
  lines = lines_joined holds xs ys first.text more.text p q first.lines (lines_same holds later ys more.text q same more.lines);
  in_order = paths_joined a b c xs ys first.in_order more.in_order;
  written = Appends-trans old mid new first.text more.text first.written more.written;
}

begins_joined : (holds later : List ℕ → Option (List ℕ)) (xs ys : List (List ℕ)) (a b c : Option (List (List ℕ))) (old mid : Option (List ℕ)) (p : FileOutcome) (Later Now : List ℕ → Type 0) → ((other : List ℕ) → later other ≡ holds other)
    → (first : PrintsFiles holds xs a b old mid p) → ((text : List ℕ) → Later text → Now (first.text ++ text)) → BeginsFiles later ys b c Later → BeginsFiles holds (xs ++ ys) a c Now
begins_joined holds later xs ys a b c old mid p Later Now same first both more =
    let front : take (length xs + more.count) (xs ++ ys) ≡ xs ++ take more.count ys = take-append-add xs ys more.count in
    let front_asked : take (length xs + more.asked_count) (xs ++ ys) ≡ xs ++ take more.asked_count ys = take-append-add xs ys more.asked_count in
    record {
      count = length xs + more.count;
      asked_count = length xs + more.asked_count;
      file_outcome = worse p more.file_outcome;
      text = first.text ++ more.text;
      lines = subst (λ (l : List (List ℕ)). AreFileLines holds l (first.text ++ more.text) (worse p more.file_outcome)) (sym front) (lines_joined holds xs (take more.count ys) first.text more.text p more.file_outcome first.lines (lines_same holds later (take more.count ys) more.text more.file_outcome same more.lines));
      in_order = subst (λ (l : List (List ℕ)). ReadsPaths a c l) (sym front_asked) (paths_joined a b c xs (take more.asked_count ys) first.in_order more.in_order);
      written = both more.text more.written;
    }

front_joined : (old mid new : Option (List ℕ)) (a b : List ℕ) → Appends old mid a → AppendsFront mid new b → AppendsFront old new (a ++ b)
front_joined old mid new a b first (front, rest, e, written) = (a ++ front, rest, ap (λ (x : List ℕ). a ++ x) e ∙ sym (append_assoc a front rest), Appends-trans old mid new a front first written)

pub begun_joined : (holds later : List ℕ → Option (List ℕ)) (xs ys : List (List ℕ)) (a b c : Option (List (List ℕ))) (old mid new : Option (List ℕ)) (p : FileOutcome) (f : ProgramFault) → ((other : List ℕ) → later other ≡ holds other)
    → PrintsFiles holds xs a b old mid p → BeginsBy later ys b c mid new f → BeginsBy holds (xs ++ ys) a c old new f
begun_joined holds later xs ys a b c old mid new p fault.Write same first more =
    begins_joined holds later xs ys a b c old mid p (AppendsFront mid new) (AppendsFront old new) same first (λ text written. front_joined old mid new first.text text first.written written) more
begun_joined holds later xs ys a b c old mid new p fault.Memory same first more =
    begins_joined holds later xs ys a b c old mid p (Appends mid new) (Appends old new) same first (λ text written. Appends-trans old mid new first.text text first.written written) more
begun_joined holds later xs ys a b c old mid new p (fault.Usage text) same first more = absurd more
begun_joined holds later xs ys a b c old mid new p (fault.Unread path reason) same first more = absurd more
begun_joined holds later xs ys a b c old mid new p fault.SomeUnread same first more = absurd more
begun_joined holds later xs ys a b c old mid new p fault.Names same first more = absurd more

-- the first names, and the next one
next_name : (names : List (Bor (List ℕ))) (i : ℕ) (d : Bor (List ℕ)) → i < length names → take i (map (λ n. n.now) names) ++ ((get_or names i d).now ∷ []) ≡ take (i + 1) (map (λ n. n.now) names)
next_name names i d below =
    let within : i < length (map (λ (n : Bor (List ℕ)). n.now) names) = omega (arith, below, length-map names (λ (n : Bor (List ℕ)). n.now)) in
    sym (take_more (map (λ (n : Bor (List ℕ)). n.now) names) i [] within ∙ ap (λ (x : List ℕ). take i (map (λ (n : Bor (List ℕ)). n.now) names) ++ x ∷ []) (get_or-map (λ (n : Bor (List ℕ)). n.now) names i d [] below))

pub paths_next : (a b c : Option (List (List ℕ))) (names : List (Bor (List ℕ))) (i : ℕ) (d : Bor (List ℕ)) → i < length names → ReadsPaths a b (take i (map (λ n. n.now) names)) → ReadsPaths b c ((get_or names i d).now ∷ [])
    → ReadsPaths a c (take (i + 1) (map (λ n. n.now) names))
paths_next a b c names i d below h g = subst (ReadsPaths a c) (next_name names i d below) (paths_joined a b c (take i (map (λ (n : Bor (List ℕ)). n.now) names)) ((get_or names i d).now ∷ []) h g)

pub taken_next : (holds later : List ℕ → Option (List ℕ)) (names : List (Bor (List ℕ))) (i : ℕ) (d : Bor (List ℕ)) (ts : List Taken) (t : Taken) → i < length names → ((other : List ℕ) → later other ≡ holds other)
    → AreTaken holds (take i (map (λ n. n.now) names)) ts → IsTaken (later (get_or names i d).now) t → AreTaken holds (take (i + 1) (map (λ n. n.now) names)) (ts ++ (t ∷ []))
taken_next holds later names i d ts t below same h is =
    subst (λ (l : List (List ℕ)). AreTaken holds l (ts ++ (t ∷ []))) (next_name names i d below)
    (one_taken holds (take i (map (λ (n : Bor (List ℕ)). n.now) names)) ts (get_or names i d).now t h (subst (λ (held : Option (List ℕ)). IsTaken held t) (same (get_or names i d).now) is))

pub line_next : (names : List (Bor (List ℕ))) (taken : List Taken) (judged : List (Result (Unit {0}) Refusal)) (i : ℕ) (d : Bor (List ℕ)) (t : Taken) (j : Result (Unit {0}) Refusal) (text line new : List ℕ) (p q out : FileOutcome)
    → length names ≡ length taken → length judged ≡ length taken → i < length taken → AreTakenLines (take i (map (λ n. n.now) names)) (take i taken) (take i judged) text p
    → t ≡ get_or taken i t → IsTakenLine (get_or names i d).now t (get_or judged i j) line q → new ≡ text ++ line → out ≡ worse p q
    → AreTakenLines (take (i + 1) (map (λ n. n.now) names)) (take (i + 1) taken) (take (i + 1) judged) new out
line_next names taken judged i d t j text line new p q out names_len judged_len below lines at is e o =
    let named : i < length names = omega (arith, names_len, below) in
    let found : i < length judged = omega (arith, judged_len, below) in
    let more = one_line (take i (map (λ (n : Bor (List ℕ)). n.now) names)) (take i taken) (take i judged) text p (get_or names i d).now (get_or taken i t) (get_or judged i j) line q lines (subst (λ (x : Taken). IsTakenLine (get_or names i d).now x (get_or judged i j) line q) at is) in
    rw (e, o, take_more taken i t below, take_more judged i j found, ← next_name names i d named) more

-- the end of a line
some_both : (line : List ℕ) (o : FileOutcome) (g : Option Verdict) → IsSomeAnd g (λ v. line ≡ verdict_line v) → ((v : Verdict) → g ≡ Some v → o ≡ outcome_of v) → IsSomeAnd g (λ v. (line ≡ verdict_line v) × (o ≡ outcome_of v))
some_both line o None told is = absurd told
some_both line o (Some v) told is = (told, is v refl)

pub end_known : (t : Taken) (bytes : Vec ℕ Global) (judged : Result (Unit {0}) Refusal) (line slice : List ℕ) (o : FileOutcome) → t ≡ taken.Bytes bytes → slice ≡ line → IsSomeAnd (given_verdict judged) (λ v. line ≡ verdict_line v)
    → ((v : Verdict) → given_verdict judged ≡ Some v → o ≡ outcome_of v) → IsTakenEnd t judged slice o
end_known t bytes judged line slice o e same told is = subst (λ (x : List ℕ). IsTakenEnd t judged x o) (sym same) (subst (λ (x : Taken). IsTakenEnd x judged line o) (sym e) (some_both line o (given_verdict judged) told is))

-- where nothing is written yet
pub none_begun : (holds : List ℕ → Option (List ℕ)) (files : List (List ℕ)) (asked asked' : Option (List (List ℕ))) (out : Option (List ℕ)) (k : ℕ) → ReadsPaths asked asked' (take k files) → BeginsFiles holds files asked asked' (Appends out out)
none_begun holds files asked asked' out k order = record { count = 0; asked_count = k; file_outcome = Accepted; text = []; lines = (refl, refl); in_order = order; written = Appends-nil out }

-- the lines of a round by what was read of it
pub round_lines : (holds : List ℕ → Option (List ℕ)) (names : List (List ℕ)) (ts : List Taken) (text : List ℕ) (o : FileOutcome) → AreTaken holds names ts → AreJudgedLines names ts text o → AreFileLines holds names text o
round_lines holds names ts text o read (judged, verdicts, lines) = lines_known holds names ts judged text o read verdicts lines

pub any_err : {T E P : Type 0} (r : Result T E) → P → IfErr r (λ _. P)
any_err (Ok x) p = tt
any_err (Err e) p = p

-- what one more name stands for
pub one_spread : (lists : List ℕ → Option (List (List ℕ))) (names : List (List ℕ)) (name : List ℕ) (files here : List (List ℕ)) → IsSpread true lists names files → IfSome (lists name) (λ held. here ≡ held) → IsSpread true lists (names ++ (name ∷ [])) (files ++ here)
one_spread lists [] name files here none is = (here, [], is, refl, ap (λ (x : List (List ℕ)). x ++ here) none ∙ sym (append-nil here))
one_spread lists (n ∷ names) name files here (first, rest, known, more, e) is =
    (first, rest ++ here, known, one_spread lists names name rest here more is, ap (λ (x : List (List ℕ)). x ++ here) e ∙ append_assoc first rest here)

pub spread_next : (lists later : List ℕ → Option (List (List ℕ))) (names : List (Bor (List ℕ))) (i : ℕ) (d : Bor (List ℕ)) (files here : List (List ℕ)) → i < length names → ((other : List ℕ) → later other ≡ lists other)
    → IsSpread true lists (take i (map (λ n. n.now) names)) files → IfSome (later (get_or names i d).now) (λ held. here ≡ held) → IsSpread true lists (take (i + 1) (map (λ n. n.now) names)) (files ++ here)
spread_next lists later names i d files here below same h is =
    subst (λ (l : List (List ℕ)). IsSpread true lists l (files ++ here)) (next_name names i d below)
    (one_spread lists (take i (map (λ (n : Bor (List ℕ)). n.now) names)) (get_or names i d).now files here h (subst (λ (held : Option (List (List ℕ))). IfSome held (λ x. here ≡ x)) (same (get_or names i d).now) is))

-- the names in bytes, one byte on
pub name_ends : (bytes : List ℕ) (end start i d : ℕ) → i < length bytes → get_or bytes i d ≡ end
    → listed_names end (drop start (take i bytes)) (drop i bytes) ≡ drop start (take i bytes) ∷ listed_names end (drop (i + 1) (take (i + 1) bytes)) (drop (i + 1) bytes)
name_ends bytes end start i d below is =
    let here : drop i bytes ≡ get_or bytes i d ∷ drop (i + 1) bytes = rw add-one (drop-cons bytes i d below) in
    let past : drop (i + 1) (take (i + 1) bytes) ≡ [] = drop_all (i + 1) (take (i + 1) bytes) (omega (arith, length-take (i + 1) bytes)) in
    rw (here, past, is, eq-eqb end end refl) refl

pub round_taken : (holds : List ℕ → Option (List ℕ)) (names : List (List ℕ)) (ts new : List Taken) (t : Taken) (i : ℕ) → new ≡ ts ++ (t ∷ []) → length ts ≡ i → AreTaken holds (take (i + 1) names) (ts ++ (t ∷ [])) → AreTaken holds (take (length new) names) new
round_taken holds names ts new t i e count h = rw (e, length_push ts t, count) h

pub round_paths : (a b : Option (List (List ℕ))) (names : List (List ℕ)) (ts new : List Taken) (t : Taken) (i : ℕ) → new ≡ ts ++ (t ∷ []) → length ts ≡ i → ReadsPaths a b (take (i + 1) names) → ReadsPaths a b (take (length new) names)
round_paths a b names ts new t i e count h = rw (e, length_push ts t, count) h

pub name_more : (old new : List (Bor (List ℕ))) (name : Bor (List ℕ)) (part : List ℕ) (a b : List (List ℕ)) → new ≡ old ++ (name ∷ []) → name.now ≡ part → b ≡ part ∷ a → map (λ n. n.now) new ++ a ≡ map (λ n. n.now) old ++ b
name_more old new name part a b e named is = rw (e, map_push, append_assoc, named, is) refl

pub judged_length : (ts : List Taken) (js : List (Result (Unit {0}) Refusal)) → AreVerdicts (map taken_bytes ts) js → length js ≡ length ts
judged_length ts js h = verdicts_length (map taken_bytes ts) js h ∙ length-map ts taken_bytes

-- a round, by its steps

files_known : (holds : List ℕ → Option (List ℕ)) (names : List (Bor (List ℕ))) (ts slice : List Taken) (text : List ℕ) (o : FileOutcome) (count : ℕ) → count ≡ length ts → slice ≡ ts → AreTaken holds (take (length ts) (map (λ n. n.now) names)) ts
    → AreJudgedLines (map (λ n. n.now) (take count names)) slice text o → AreFileLines holds (take (length ts) (map (λ n. n.now) names)) text o
files_known holds names ts slice text o count e same read judged =
    round_lines holds (take (length ts) (map (λ (n : Bor (List ℕ)). n.now) names)) ts text o read
    (subst (λ (l : List (List ℕ)). AreJudgedLines l ts text o) (sym (take-map (λ (n : Bor (List ℕ)). n.now) (length ts) names))
    (subst (λ (s : List Taken). AreJudgedLines (map (λ (n : Bor (List ℕ)). n.now) (take (length ts) names)) s text o) same
    (subst (λ (k : ℕ). AreJudgedLines (map (λ (n : Bor (List ℕ)). n.now) (take k names)) slice text o) e judged)))

pub round_printed : (holds : List ℕ → Option (List ℕ)) (names : List (Bor (List ℕ))) (ts slice : List Taken) (text shown : List ℕ) (o : FileOutcome) (a b : Option (List (List ℕ))) (old new : Option (List ℕ)) (count : ℕ) → count ≡ length ts → slice ≡ ts → shown ≡ text
    → AreTaken holds (take (length ts) (map (λ n. n.now) names)) ts → AreJudgedLines (map (λ n. n.now) (take count names)) slice text o → ReadsPaths a b (take (length ts) (map (λ n. n.now) names)) → Appends old new shown
    → PrintsFiles holds (take count (map (λ n. n.now) names)) a b old new o
round_printed holds names ts slice text shown o a b old new count e same is read judged order written =
    subst (λ (k : ℕ). PrintsFiles holds (take k (map (λ (n : Bor (List ℕ)). n.now) names)) a b old new o) (sym e) record {
      text = text;
      lines = files_known holds names ts slice text o count e same read judged;
      in_order = order;
      written = subst (Appends old new) is written;
    }

pub round_begun : (holds : List ℕ → Option (List ℕ)) (names : List (Bor (List ℕ))) (ts slice : List Taken) (text shown : List ℕ) (o : FileOutcome) (a b : Option (List (List ℕ))) (old new : Option (List ℕ)) (count : ℕ) → count ≡ length ts → slice ≡ ts → shown ≡ text
    → AreTaken holds (take (length ts) (map (λ n. n.now) names)) ts → AreJudgedLines (map (λ n. n.now) (take count names)) slice text o → ReadsPaths a b (take (length ts) (map (λ n. n.now) names)) → AppendsFront old new shown
    → BeginsFiles holds (map (λ n. n.now) names) a b (AppendsFront old new)
round_begun holds names ts slice text shown o a b old new count e same is read judged order written = record {
  count = length ts;
  asked_count = length ts;
  file_outcome = o;
  text = text;
  lines = files_known holds names ts slice text o count e same read judged;
  in_order = order;
  written = subst (AppendsFront old new) is written;
}

-- rounds, by those so far and the next one

pub rounds_begun : (holds later : List ℕ → Option (List ℕ)) (names : List (Bor (List ℕ))) (d : ℕ) (rest : List (Bor (List ℕ))) (a b c : Option (List (List ℕ))) (old mid new : Option (List ℕ)) (p : FileOutcome) (f : ProgramFault) → rest ≡ drop d names → ((other : List ℕ) → later other ≡ holds other)
    → PrintsFiles holds (take d (map (λ n. n.now) names)) a b old mid p → BeginsBy later (map (λ n. n.now) rest) b c mid new f → BeginsBy holds (map (λ n. n.now) names) a c old new f
rounds_begun holds later names d rest a b c old mid new p f is same first more =
    let ns = map (λ (n : Bor (List ℕ)). n.now) names in
    subst (λ (l : List (List ℕ)). BeginsBy holds l a c old new f) (take-append-drop d ns)
    (begun_joined holds later (take d ns) (drop d ns) a b c old mid new p f same first (subst (λ (l : List (List ℕ)). BeginsBy later l b c mid new f) (ap (map (λ (n : Bor (List ℕ)). n.now)) is ∙ sym (drop-map (λ (n : Bor (List ℕ)). n.now) d names)) more))

pub rounds_printed : (holds later : List ℕ → Option (List ℕ)) (names : List (Bor (List ℕ))) (d k : ℕ) (rest : List (Bor (List ℕ))) (a b c : Option (List (List ℕ))) (old mid new : Option (List ℕ)) (p q out : FileOutcome) → rest ≡ drop d names → ((other : List ℕ) → later other ≡ holds other)
    → PrintsFiles holds (take d (map (λ n. n.now) names)) a b old mid p → PrintsFiles later (take k (map (λ n. n.now) rest)) b c mid new q → out ≡ worse p q → PrintsFiles holds (take (d + k) (map (λ n. n.now) names)) a c old new out
rounds_printed holds later names d k rest a b c old mid new p q out is same first more e =
    let ns = map (λ (n : Bor (List ℕ)). n.now) names in
    let next : PrintsFiles later (take k (drop d ns)) b c mid new q = subst (λ (l : List (List ℕ)). PrintsFiles later (take k l) b c mid new q) (ap (map (λ (n : Bor (List ℕ)). n.now)) is ∙ sym (drop-map (λ (n : Bor (List ℕ)). n.now) d names)) more in
    subst (λ (x : FileOutcome). PrintsFiles holds (take (d + k) ns) a c old new x) (sym e)
    (subst (λ (l : List (List ℕ)). PrintsFiles holds l a c old new (worse p q)) (sym (take-add d k ns)) (printed_joined holds later (take d ns) (take k (drop d ns)) a b c old mid new p q same first next))

-- all files, with the flush
pub files_end : (holds : List ℕ → Option (List ℕ)) (files : List (List ℕ)) (a b : Option (List (List ℕ))) (old mid new : Option (List ℕ)) (o : FileOutcome) (r : Result Status ProgramFault)
    → PrintsFiles holds files a b old mid o → Keeps mid new → (r ≡ outcome_result o) ⊎ (r ≡ Err fault.Write) → ChecksFiles holds files a b old new r
files_end holds files a b old mid new o r printed kept (inl e) = inl (
  o,
  e,
  record {
    text = printed.text;
    lines = printed.lines;
    in_order = printed.in_order;
    written = Appends-kept old mid new printed.text printed.written kept;
  },
)
files_end holds files a b old mid new o r printed kept (inr e) =
    let whole : take (length files) files ≡ files = take_all (length files) files (omega arith) in
    inr (
      fault.Write,
      e,
      record {
        count = length files;
        asked_count = length files;
        file_outcome = o;
        text = printed.text;
        lines = subst (λ (l : List (List ℕ)). AreFileLines holds l printed.text o) (sym whole) printed.lines;
        in_order = subst (ReadsPaths a b) (sym whole) printed.in_order;
        written = (printed.text, [], sym (append-nil printed.text), Appends-kept old mid new printed.text printed.written kept);
      },
    )

-- the files that names stand for

files_later : (holds later : List ℕ → Option (List ℕ)) (files : List (List ℕ)) (a b c : Option (List (List ℕ))) (old new : Option (List ℕ)) (r : Result Status ProgramFault) → ((other : List ℕ) → later other ≡ holds other) → ReadsPaths a b [] → ChecksFiles later files b c old new r → ChecksFiles holds files a c old new r
files_later holds later files a b c old new r same order (inl (o, e, printed)) = inl (o, e, subst (λ (x : FileOutcome). PrintsFiles holds files a c old new x) (worse_none o) (printed_joined holds later [] files a b c old old new Accepted o same (nothing_printed holds a b old order) printed))
files_later holds later files a b c old new r same order (inr (f, e, begun)) = inr (f, e, begun_joined holds later [] files a b c old old new Accepted f same (nothing_printed holds a b old order) begun)

pub names_spread : (folders : Bool) (lists : List ℕ → Option (List (List ℕ))) (names files texts : List (List ℕ)) (holds later : List ℕ → Option (List ℕ)) (a b c : Option (List (List ℕ))) (old new : Option (List ℕ)) (r : Result Status ProgramFault)
    → folders ≡ true → texts ≡ files → IsSpread true lists names files → ((other : List ℕ) → later other ≡ holds other) → ReadsPaths a b [] → ChecksFiles later texts b c old new r → ChecksNames (IsSpread folders lists names) holds a c old new r
names_spread folders lists names files texts holds later a b c old new r e same spread kept order done =
    inl (
      files,
      subst (λ (x : Bool). IsSpread x lists names files) (sym e) spread,
      files_later holds later files a b c old new r kept order (subst (λ (l : List (List ℕ)). ChecksFiles later l b c old new r) same done),
    )

pub rest_whole : {X : Type 0} (xs : List X) (d : ℕ) → take (length xs - d) (drop d xs) ≡ drop d xs
rest_whole xs d = take_all (length xs - d) (drop d xs) (omega (arith, length-drop d xs))

spread_same : (folders : Bool) (lists later : List ℕ → Option (List (List ℕ))) (names files : List (List ℕ)) → ((other : List ℕ) → later other ≡ lists other) → IsSpread folders later names files → IsSpread folders lists names files
spread_same false lists later names files same stand = stand
spread_same true lists later [] files same stand = stand
spread_same true lists later (n ∷ names) files same (here, rest, known, more, e) =
    (here, rest, subst (λ (held : Option (List (List ℕ))). IfSome held (λ x. here ≡ x)) (same n) known, spread_same true lists later names rest same more, e)

-- names that were read
pub names_moved : (folders : Bool) (lists later_lists : List ℕ → Option (List (List ℕ))) (names given : List (List ℕ)) (holds later : List ℕ → Option (List ℕ)) (a b : Option (List (List ℕ))) (old new : Option (List ℕ)) (r : Result Status ProgramFault)
    → ((other : List ℕ) → later_lists other ≡ lists other) → ((other : List ℕ) → later other ≡ holds other) → given ≡ names → ChecksNames (IsSpread folders later_lists given) later a b old new r → ChecksNames (IsSpread folders lists names) holds a b old new r
names_moved folders lists later_lists names given holds later a b old new r same_lists same e (inl (files, stand, done)) =
    inl (files, spread_same folders lists later_lists names files same_lists (subst (λ (l : List (List ℕ)). IsSpread folders later_lists l files) e stand), files_later holds later files a a b old new r same (no_paths a) done)
names_moved folders lists later_lists names given holds later a b old new r same_lists same e (inr (is, order, kept)) = inr (is, order, kept)

pub part_of : (bytes : List ℕ) (start i : ℕ) → take (i - start) (drop start bytes) ≡ drop start (take i bytes)
part_of bytes start i = between_is bytes start i
