-- What a check of many files has printed, by its status: all lines (`named_all`), those of the first files (`short`), or none (`silent`).
-- It goes by the requests, and where the program fails by the faults of a status: 64 for mistakes in words, 70 where memory is wanted.
-- Printed.antt cites the lemmas for a program that ends with a status of its files; `run` of src/obeying.rt cites those for its faults.
use Rattle.std.proofs.Common.{◌≡◌, ◌⊎◌, ℕ, Bool, List, [], ◌∷◌, Option, Result, Ok, Err, ap, inl, inr, refl, sym, subst, arith, codes, map, Bor, string_bytes, String}
use Rattle.std.specs.declared.alloc.Global.{Global}
use Rattle.std.specs.Io.KnownBytes.{Appends, Keeps}
use Rattle.batch.specs.declared.status.Status.{Status}
use Rattle.batch.specs.declared.status.Status.TheVariants.{Good, ModuleRefused, CallsRefused}
use Rattle.batch.specs.declared.stream_fault.StreamFault.TheVariants as stream
use Rattle.command.specs.Names.{file_names, says_folders, says_null}
use Rattle.command.specs.Options.{SaysLimits}
use Rattle.command.specs.Requests.{AreStreamed, IsRequestOf, first_word}
use Rattle.command.specs.declared.request.Request.{Request}
use Rattle.command.specs.declared.request.Request.TheVariants.{Check, CheckAll, CheckListed, Explain, ExplainCalls, Exports, Run, Stream, Text}
use Rattle.wstore.specs.CallLimits.{limits_of}
use Rattle.wstore.specs.declared.settings.Settings.{Settings}
use Rattle.program.specs.Checks.{Checks}
use Rattle.program.specs.ChecksAll.{BeginsBy, BeginsFiles, ChecksFiles, ChecksListed, ChecksNames, PrintsFiles, input_path, list_limit, outcome_result}
use Rattle.program.specs.Endings.{fault_status}
use Rattle.program.specs.Explains.{Explains, ExplainsCalls}
use Rattle.program.specs.Lists.{Lists}
use Rattle.program.specs.NameLists.{IsSpread, listed_names, name_end}
use Rattle.program.specs.Prints.{AnswersRequest, PrintsAll, PrintsFirst, PrintsFirstCalls, Shows, WritesAtOnce}
use Rattle.program.specs.Reads.{IsRead}
use Rattle.program.specs.Runs.{RunsOn}
use Rattle.program.specs.Streams.{IsStreamedOn, ReadsAccepted, StreamsOn}
use Rattle.program.specs.Sources.{ReadsPaths}
use Rattle.program.specs.declared.fault.ProgramFault.{ProgramFault}
use Rattle.program.specs.declared.fault.ProgramFault.TheVariants as fault
use Rattle.program.specs.declared.file_outcome.FileOutcome.{FileOutcome}
use Rattle.program.specs.declared.file_outcome.FileOutcome.TheVariants.{Accepted, Refused, Unread}

abbrev failed : ProgramFault → Result Status ProgramFault
failed f = Err f

same_fault : (f g : ProgramFault) → failed f ≡ failed g → f ≡ g
same_fault f g e = cc

-- what came of all files, by the status

pub good_outcome : (s : Status) → s ≡ Good → (p : FileOutcome) → Ok s ≡ outcome_result p → p ≡ Accepted
good_outcome s e Accepted same = refl
good_outcome s e Refused same = absurd cc
good_outcome s e Unread same = absurd cc

pub refused_outcome : (s : Status) → s ≡ ModuleRefused → (p : FileOutcome) → Ok s ≡ outcome_result p → p ≡ Refused
refused_outcome s e Accepted same = absurd cc
refused_outcome s e Refused same = refl
refused_outcome s e Unread same = absurd cc

no_outcome : (s : Status) → s ≡ CallsRefused → (p : FileOutcome) → Ok s ≡ outcome_result p → ⊥
no_outcome s e Accepted same = absurd cc
no_outcome s e Refused same = absurd cc
no_outcome s e Unread same = absurd cc

-- with a status all lines are written

files_printed : (holds : List ℕ → Option (List ℕ)) (files : List (List ℕ)) (asked asked' : Option (List (List ℕ))) (old new : Option (List ℕ)) (s : Status) → ChecksFiles holds files asked asked' old new (Ok s)
    → (p : FileOutcome) × (Ok s ≡ outcome_result p) × PrintsFiles holds files asked asked' old new p
files_printed holds files asked asked' old new s (inl printed) = printed
files_printed holds files asked asked' old new s (inr (f, e, begun)) = absurd cc

names_printed : (StandFor : List (List ℕ) → Type 0) (holds : List ℕ → Option (List ℕ)) (asked asked' : Option (List (List ℕ))) (old new : Option (List ℕ)) (s : Status) → ChecksNames StandFor holds asked asked' old new (Ok s)
    → (files : List (List ℕ)) × (p : FileOutcome) × StandFor files × (Ok s ≡ outcome_result p) × PrintsFiles holds files asked asked' old new p
names_printed StandFor holds asked asked' old new s (inl (files, stand, done)) =
    let (p, is, printed) = files_printed holds files asked asked' old new s done in
    (files, p, stand, is, printed)
names_printed StandFor holds asked asked' old new s (inr (e, order, kept)) = absurd cc

pub named_all : (words : List (List ℕ)) (names : List (List ℕ)) (folders : Bool) (holds : List ℕ → Option (List ℕ)) (lists : List ℕ → Option (List (List ℕ))) (asked asked' : Option (List (List ℕ))) (old new : Option (List ℕ)) (o : FileOutcome) (s : Status)
    → first_word words ≡ codes "check-all" → names ≡ file_names words → folders ≡ says_folders words → ChecksNames (IsSpread folders lists names) holds asked asked' old new (Ok s) → ((p : FileOutcome) → Ok s ≡ outcome_result p → p ≡ o) → PrintsAll words holds lists asked asked' old new o
named_all words names folders holds lists asked asked' old new o s command are says done only =
    let (files, p, stand, is, printed) = names_printed (IsSpread folders lists names) holds asked asked' old new s done in
    record {
      command = command;
      mid = asked;
      files = files;
      named = inl (refl, subst (λ (b : Bool). IsSpread b lists (file_names words) files) says (subst (λ (ns : List (List ℕ)). IsSpread folders lists ns files) are stand));
      printed = subst (λ (x : FileOutcome). PrintsFiles holds files asked asked' old new x) (only p is) printed;
    }

pub listed_all : (words : List (List ℕ)) (is_null folders : Bool) (holds : List ℕ → Option (List ℕ)) (lists : List ℕ → Option (List (List ℕ))) (asked asked' : Option (List (List ℕ))) (old new : Option (List ℕ)) (o : FileOutcome) (s : Status)
    → first_word words ≡ codes "check-all" → file_names words ≡ codes "-" ∷ [] → is_null ≡ says_null words → folders ≡ says_folders words → ChecksListed is_null folders holds lists asked asked' old new (Ok s) → ((p : FileOutcome) → Ok s ≡ outcome_result p → p ≡ o) → PrintsAll words holds lists asked asked' old new o
listed_all words is_null folders holds lists asked asked' old new o s command list says_n says_f (mid, order, inl (bytes, read, done)) only =
    let (files, p, stand, is, printed) = names_printed (IsSpread folders lists (listed_names (name_end is_null) [] bytes)) holds mid asked' old new s done in
    record {
      command = command;
      mid = mid;
      files = files;
      named = inr (list, order, (bytes, read, subst (λ (b : Bool). IsSpread (says_folders words) lists (listed_names (name_end b) [] bytes) files) says_n (subst (λ (b : Bool). IsSpread b lists (listed_names (name_end is_null) [] bytes) files) says_f stand)));
      printed = subst (λ (x : FileOutcome). PrintsFiles holds files mid asked' old new x) (only p is) printed;
    }
listed_all words is_null folders holds lists asked asked' old new o s command list says_n says_f (mid, order, inr (f, e, want, same, kept)) only = absurd cc

-- the calls of none are refused

pub no_named_calls : (StandFor : List (List ℕ) → Type 0) (holds : List ℕ → Option (List ℕ)) (asked asked' : Option (List (List ℕ))) (old new : Option (List ℕ)) (s : Status) → ChecksNames StandFor holds asked asked' old new (Ok s) → s ≡ CallsRefused → ⊥
no_named_calls StandFor holds asked asked' old new s done e =
    let (files, p, stand, is, printed) = names_printed StandFor holds asked asked' old new s done in
    no_outcome s e p is

pub no_listed_calls : (is_null folders : Bool) (holds : List ℕ → Option (List ℕ)) (lists : List ℕ → Option (List (List ℕ))) (asked asked' : Option (List (List ℕ))) (old new : Option (List ℕ)) (s : Status) → ChecksListed is_null folders holds lists asked asked' old new (Ok s) → s ≡ CallsRefused → ⊥
no_listed_calls is_null folders holds lists asked asked' old new s (mid, order, inl (bytes, read, done)) e = no_named_calls (IsSpread folders lists (listed_names (name_end is_null) [] bytes)) holds mid asked' old new s done e
no_listed_calls is_null folders holds lists asked asked' old new s (mid, order, inr (f, is, want, same, kept)) e = absurd cc

-- Without a status.

-- mistakes in words come before any line

not_by : (f g : ProgramFault) (holds : List ℕ → Option (List ℕ)) (files : List (List ℕ)) (asked asked' : Option (List (List ℕ))) (old new : Option (List ℕ)) → fault_status f ≡ 64 → f ≡ g → BeginsBy holds files asked asked' old new g → ⊥
not_by f (fault.Usage text) holds files asked asked' old new e same begun = begun
not_by f (fault.Unread path reason) holds files asked asked' old new e same begun = begun
not_by f fault.SomeUnread holds files asked asked' old new e same begun = begun
not_by f fault.Names holds files asked asked' old new e same begun = begun
not_by f fault.Write holds files asked asked' old new e same begun = absurd (omega (arith, e, ap fault_status same))
not_by f fault.Memory holds files asked asked' old new e same begun = absurd (omega (arith, e, ap fault_status same))

not_result : (f : ProgramFault) (p : FileOutcome) → fault_status f ≡ 64 → failed f ≡ outcome_result p → ⊥
not_result f Accepted e same = absurd cc
not_result f Refused e same = absurd cc
not_result f Unread e same = absurd (omega (arith, e, ap fault_status (same_fault f fault.SomeUnread same)))

names_keep : (StandFor : List (List ℕ) → Type 0) (holds : List ℕ → Option (List ℕ)) (asked asked' : Option (List (List ℕ))) (old new : Option (List ℕ)) (f : ProgramFault) → ChecksNames StandFor holds asked asked' old new (Err f) → fault_status f ≡ 64 → Keeps old new
names_keep StandFor holds asked asked' old new f (inl (files, stand, inl (p, is, printed))) e = absurd (not_result f p e is)
names_keep StandFor holds asked asked' old new f (inl (files, stand, inr (g, is, begun))) e = absurd (not_by f g holds files asked asked' old new e (same_fault f g is) begun)
names_keep StandFor holds asked asked' old new f (inr (is, order, kept)) e = kept

listed_keep : (is_null folders : Bool) (holds : List ℕ → Option (List ℕ)) (lists : List ℕ → Option (List (List ℕ))) (asked asked' : Option (List (List ℕ))) (old new : Option (List ℕ)) (f : ProgramFault) → ChecksListed is_null folders holds lists asked asked' old new (Err f) → fault_status f ≡ 64 → Keeps old new
listed_keep is_null folders holds lists asked asked' old new f (mid, order, inl (bytes, read, done)) e = names_keep (IsSpread folders lists (listed_names (name_end is_null) [] bytes)) holds mid asked' old new f done e
listed_keep is_null folders holds lists asked asked' old new f (mid, order, inr (g, is, want, same, kept)) e = kept

-- by the faults that have this status
by_words : (P : ProgramFault → Type 0) (K : Type 0) → ((text : String Global) → P (fault.Usage text) → K) → (P fault.Names → K) → (f : ProgramFault) → P f → fault_status f ≡ 64 → K
by_words P K usage names (fault.Usage text) p e = usage text p
by_words P K usage names (fault.Unread path reason) p e = absurd (omega (arith, e))
by_words P K usage names fault.SomeUnread p e = absurd (omega (arith, e))
by_words P K usage names fault.Names p e = names p
by_words P K usage names fault.Write p e = absurd (omega (arith, e))
by_words P K usage names fault.Memory p e = absurd (omega (arith, e))

by_memory : (P : ProgramFault → Type 0) (K : Type 0) → (P fault.Memory → K) → (f : ProgramFault) → P f → fault_status f ≡ 70 → K
by_memory P K memory (fault.Usage text) p e = absurd (omega (arith, e))
by_memory P K memory (fault.Unread path reason) p e = absurd (omega (arith, e))
by_memory P K memory fault.SomeUnread p e = absurd (omega (arith, e))
by_memory P K memory fault.Names p e = absurd (omega (arith, e))
by_memory P K memory fault.Write p e = absurd (omega (arith, e))
by_memory P K memory fault.Memory p e = memory p

usage_keeps : (request : Request) (holds : List ℕ → Option (List ℕ)) (lists : List ℕ → Option (List (List ℕ))) (asked asked' : Option (List (List ℕ))) (old new : Option (List ℕ)) (f : ProgramFault)
    → AnswersRequest request holds lists asked asked' old new (Err f) → fault_status f ≡ 64 → Keeps old new
usage_keeps (Check path plan) holds lists asked asked' old new f done e = by_words (λ (g : ProgramFault). Checks (holds path.now) old new (Err g)) (Keeps old new) (λ t k. k) (λ k. k) f done e
usage_keeps (CheckAll names folders plan) holds lists asked asked' old new f done e = names_keep (IsSpread folders lists (map (λ n. n.now) names.items)) holds asked asked' old new f done e
usage_keeps (CheckListed is_null folders plan) holds lists asked asked' old new f done e = listed_keep is_null folders holds lists asked asked' old new f done e
usage_keeps (Explain path json) holds lists asked asked' old new f done e = by_words (λ (g : ProgramFault). Explains json (holds path.now) old new (Err g)) (Keeps old new) (λ t k. k) (λ k. k) f done e
usage_keeps (ExplainCalls path calls json) holds lists asked asked' old new f done e = by_words (λ (g : ProgramFault). ExplainsCalls json (holds path.now) (holds calls.now) old new (Err g)) (Keeps old new) (λ t k. k) (λ k. k) f done e
usage_keeps (Exports path) holds lists asked asked' old new f done e = by_words (λ (g : ProgramFault). Lists (holds path.now) old new (Err g)) (Keeps old new) (λ t k. k) (λ k. k) f done e
usage_keeps (Run path calls s plan) holds lists asked asked' old new f done e = by_words (λ (g : ProgramFault). RunsOn (holds path.now) (holds calls.now) (limits_of s) old new (Err g)) (Keeps old new) (λ t k. k) (λ k. k) f done e
usage_keeps (Stream path calls s plan) holds lists asked asked' old new f (done, order) e = by_words (λ (g : ProgramFault). StreamsOn (holds path.now) (holds calls.now) (limits_of s) old new (Err g)) (Keeps old new) (λ t k. k) (λ k. k) f done e
usage_keeps (Text text) holds lists asked asked' old new f done e = by_words (λ (g : ProgramFault). Shows (string_bytes text) Good old new (Err g)) (Keeps old new) (λ t k. absurd k) (λ k. absurd k) f done e

-- where memory is wanted, of many files whole lines of the first are written, of a stream those of the first calls, and else nothing

memory_begins : (f : ProgramFault) (holds : List ℕ → Option (List ℕ)) (files : List (List ℕ)) (asked asked' : Option (List (List ℕ))) (old new : Option (List ℕ)) → BeginsBy holds files asked asked' old new f → fault_status f ≡ 70 → BeginsFiles holds files asked asked' (Appends old new)
memory_begins f holds files asked asked' old new begun e = by_memory (BeginsBy holds files asked asked' old new) (BeginsFiles holds files asked asked' (Appends old new)) (λ b. b) f begun e

no_memory_result : (f : ProgramFault) (p : FileOutcome) → fault_status f ≡ 70 → failed f ≡ outcome_result p → ⊥
no_memory_result f Accepted e same = absurd cc
no_memory_result f Refused e same = absurd cc
no_memory_result f Unread e same = absurd (omega (arith, e, ap fault_status (same_fault f fault.SomeUnread same)))

names_begin : (StandFor : List (List ℕ) → Type 0) (holds : List ℕ → Option (List ℕ)) (asked asked' : Option (List (List ℕ))) (old new : Option (List ℕ)) (f : ProgramFault) → ChecksNames StandFor holds asked asked' old new (Err f) → fault_status f ≡ 70
    → Keeps old new ⊎ ((files : List (List ℕ)) × StandFor files × BeginsFiles holds files asked asked' (Appends old new))
names_begin StandFor holds asked asked' old new f (inl (files, stand, inl (p, is, printed))) e = absurd (no_memory_result f p e is)
names_begin StandFor holds asked asked' old new f (inl (files, stand, inr (g, is, begun))) e =
    let same : f ≡ g = same_fault f g is in
    inr (files, stand, memory_begins f holds files asked asked' old new (subst (BeginsBy holds files asked asked' old new) (sym same) begun) e)
names_begin StandFor holds asked asked' old new f (inr (is, order, kept)) e = inl kept

named_first : (words : List (List ℕ)) (names : List (List ℕ)) (folders : Bool) (holds : List ℕ → Option (List ℕ)) (lists : List ℕ → Option (List (List ℕ))) (asked asked' : Option (List (List ℕ))) (old new : Option (List ℕ))
    → first_word words ≡ codes "check-all" → names ≡ file_names words → folders ≡ says_folders words
    → Keeps old new ⊎ ((files : List (List ℕ)) × IsSpread folders lists names files × BeginsFiles holds files asked asked' (Appends old new)) → Keeps old new ⊎ PrintsFirst words holds lists asked asked' old new
named_first words names folders holds lists asked asked' old new command are says (inl kept) = inl kept
named_first words names folders holds lists asked asked' old new command are says (inr (files, stand, begun)) = inr record {
  command = command;
  mid = asked;
  files = files;
  named = inl (refl, subst (λ (b : Bool). IsSpread b lists (file_names words) files) says (subst (λ (ns : List (List ℕ)). IsSpread folders lists ns files) are stand));
  begun = begun;
}

listed_first : (words : List (List ℕ)) (is_null folders : Bool) (holds : List ℕ → Option (List ℕ)) (lists : List ℕ → Option (List (List ℕ))) (asked mid asked' : Option (List (List ℕ))) (old new : Option (List ℕ)) (bytes : List ℕ)
    → first_word words ≡ codes "check-all" → file_names words ≡ codes "-" ∷ [] → is_null ≡ says_null words → folders ≡ says_folders words → ReadsPaths asked mid (input_path ∷ []) → IsRead list_limit (holds input_path) bytes
    → Keeps old new ⊎ ((files : List (List ℕ)) × IsSpread folders lists (listed_names (name_end is_null) [] bytes) files × BeginsFiles holds files mid asked' (Appends old new)) → Keeps old new ⊎ PrintsFirst words holds lists asked asked' old new
listed_first words is_null folders holds lists asked mid asked' old new bytes command list says_n says_f order read (inl kept) = inl kept
listed_first words is_null folders holds lists asked mid asked' old new bytes command list says_n says_f order read (inr (files, stand, begun)) = inr record {
  command = command;
  mid = mid;
  files = files;
  named = inr (list, order, (bytes, read, subst (λ (b : Bool). IsSpread (says_folders words) lists (listed_names (name_end b) [] bytes) files) says_n (subst (λ (b : Bool). IsSpread b lists (listed_names (name_end is_null) [] bytes) files) says_f stand)));
  begun = begun;
}

listed_short : (words : List (List ℕ)) (is_null folders : Bool) (holds : List ℕ → Option (List ℕ)) (lists : List ℕ → Option (List (List ℕ))) (asked asked' : Option (List (List ℕ))) (old new : Option (List ℕ)) (f : ProgramFault)
    → first_word words ≡ codes "check-all" → file_names words ≡ codes "-" ∷ [] → is_null ≡ says_null words → folders ≡ says_folders words → ChecksListed is_null folders holds lists asked asked' old new (Err f) → fault_status f ≡ 70 → Keeps old new ⊎ PrintsFirst words holds lists asked asked' old new
listed_short words is_null folders holds lists asked asked' old new f command list says_n says_f (mid, order, inl (bytes, read, done)) e =
    listed_first words is_null folders holds lists asked mid asked' old new bytes command list says_n says_f order read (names_begin (IsSpread folders lists (listed_names (name_end is_null) [] bytes)) holds mid asked' old new f done e)
listed_short words is_null folders holds lists asked asked' old new f command list says_n says_f (mid, order, inr (g, is, want, same, kept)) e = inl kept

of_files : (words : List (List ℕ)) (holds : List ℕ → Option (List ℕ)) (lists : List ℕ → Option (List (List ℕ))) (asked asked' : Option (List (List ℕ))) (old new : Option (List ℕ))
    → Keeps old new ⊎ PrintsFirst words holds lists asked asked' old new → Keeps old new ⊎ (PrintsFirst words holds lists asked asked' old new ⊎ PrintsFirstCalls words holds asked asked' old new)
of_files words holds lists asked asked' old new (inl kept) = inl kept
of_files words holds lists asked asked' old new (inr first) = inr (inl first)

first_calls : (words : List (List ℕ)) (path calls : Bor (List ℕ)) (settings : Settings) (holds : List ℕ → Option (List ℕ)) (lists : List ℕ → Option (List (List ℕ))) (asked asked' : Option (List (List ℕ))) (old new : Option (List ℕ))
    → first_word words ≡ codes "stream" → AreStreamed words path.now calls.now → SaysLimits words settings.fuel settings.frames settings.pages
    → Keeps old new ⊎ IsStreamedOn (holds path.now) (holds calls.now) (limits_of settings) old new (Err stream.Memory) → ReadsAccepted (holds path.now) path.now calls.now asked asked' (Err fault.Memory)
    → Keeps old new ⊎ (PrintsFirst words holds lists asked asked' old new ⊎ PrintsFirstCalls words holds asked asked' old new)
first_calls words path calls settings holds lists asked asked' old new command named said (inl kept) order = inl kept
first_calls words path calls settings holds lists asked asked' old new command named said (inr streamed) order = inr (inr record {
  command = command;
  path = path.now;
  calls = calls.now;
  named = named;
  in_order = order;
  fuel = settings.fuel;
  frames = settings.frames;
  pages = settings.pages;
  said = said;
  in_range = settings.in_range;
  streamed = streamed;
})

pub short : (words : List (List ℕ)) (request : Request) (holds : List ℕ → Option (List ℕ)) (lists : List ℕ → Option (List (List ℕ))) (asked asked' : Option (List (List ℕ))) (old new : Option (List ℕ)) (f : ProgramFault)
    → IsRequestOf words request → AnswersRequest request holds lists asked asked' old new (Err f) → fault_status f ≡ 70 → Keeps old new ⊎ (PrintsFirst words holds lists asked asked' old new ⊎ PrintsFirstCalls words holds asked asked' old new)
short words (Check path plan) holds lists asked asked' old new f named done e = inl (by_memory (λ (g : ProgramFault). Checks (holds path.now) old new (Err g)) (Keeps old new) (λ k. k) f done e)
short words (CheckAll names folders plan) holds lists asked asked' old new f (command, are, says, said) done e =
    of_files words holds lists asked asked' old new (named_first words (map (λ n. n.now) names.items) folders holds lists asked asked' old new command are says (names_begin (IsSpread folders lists (map (λ n. n.now) names.items)) holds asked asked' old new f done e))
short words (CheckListed is_null folders plan) holds lists asked asked' old new f (command, list, says_n, says_f, said) done e = of_files words holds lists asked asked' old new (listed_short words is_null folders holds lists asked asked' old new f command list says_n says_f done e)
short words (Explain path json) holds lists asked asked' old new f named done e = inl (by_memory (λ (g : ProgramFault). Explains json (holds path.now) old new (Err g)) (Keeps old new) (λ k. k) f done e)
short words (ExplainCalls path calls json) holds lists asked asked' old new f named done e = inl (by_memory (λ (g : ProgramFault). ExplainsCalls json (holds path.now) (holds calls.now) old new (Err g)) (Keeps old new) (λ k. k) f done e)
short words (Exports path) holds lists asked asked' old new f named done e = inl (by_memory (λ (g : ProgramFault). Lists (holds path.now) old new (Err g)) (Keeps old new) (λ k. k) f done e)
short words (Run path calls s plan) holds lists asked asked' old new f named done e = inl (by_memory (λ (g : ProgramFault). RunsOn (holds path.now) (holds calls.now) (limits_of s) old new (Err g)) (Keeps old new) (λ k. k) f done e)
short words (Stream path calls s plan) holds lists asked asked' old new f (command, named, said) (done, order) e =
    by_memory (λ (g : ProgramFault). StreamsOn (holds path.now) (holds calls.now) (limits_of s) old new (Err g) × ReadsAccepted (holds path.now) path.now calls.now asked asked' (Err g))
    (Keeps old new ⊎ (PrintsFirst words holds lists asked asked' old new ⊎ PrintsFirstCalls words holds asked asked' old new))
    (λ p. first_calls words path calls s holds lists asked asked' old new command named said.0 p.0 p.1) f (done, order) e
short words (Text text) holds lists asked asked' old new f named done e = inl (by_memory (λ (g : ProgramFault). Shows (string_bytes text) Good old new (Err g)) (Keeps old new) (λ k. absurd k) f done e)

-- where memory is wanted, nothing is written by a command that writes at once

kept_at_once : (words : List (List ℕ)) (holds : List ℕ → Option (List ℕ)) (lists : List ℕ → Option (List (List ℕ))) (asked asked' : Option (List (List ℕ))) (old new : Option (List ℕ))
    → WritesAtOnce words → Keeps old new ⊎ (PrintsFirst words holds lists asked asked' old new ⊎ PrintsFirstCalls words holds asked asked' old new) → Keeps old new
kept_at_once words holds lists asked asked' old new at_once (inl kept) = kept
kept_at_once words holds lists asked asked' old new at_once (inr (inl first)) = absurd (at_once.0 first.command)
kept_at_once words holds lists asked asked' old new at_once (inr (inr first)) = absurd (at_once.1 first.command)

pub silent : (words : List (List ℕ)) (request : Request) (holds : List ℕ → Option (List ℕ)) (lists : List ℕ → Option (List (List ℕ))) (asked asked' : Option (List (List ℕ))) (old new : Option (List ℕ)) (f : ProgramFault)
    → IsRequestOf words request → AnswersRequest request holds lists asked asked' old new (Err f) → (fault_status f ≡ 64) ⊎ ((fault_status f ≡ 70) × WritesAtOnce words) → Keeps old new
silent words request holds lists asked asked' old new f named done (inl e) = usage_keeps request holds lists asked asked' old new f done e
silent words request holds lists asked asked' old new f named done (inr (e, at_once)) = kept_at_once words holds lists asked asked' old new at_once (short words request holds lists asked asked' old new f named done e)
