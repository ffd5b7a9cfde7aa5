-- What stands behind the handle of an instance, and what is done to it.
use Rattle.std.specs.Prelude.{◌≡◌, ◌≢◌, ◌⊎◌, ℕ, Bool, true, false, List, map, Option, Some, None, option_map, option_and_then}
use Rattle.wsyntax.specs.Modules.{ModuleShape, module_shape}
use Rattle.wsyntax.specs.Execution.Values.{AreWords}
use Rattle.wsyntax.specs.Execution.Store.{Memory, Store}
use Rattle.wsyntax.specs.declared.module.ExportKind.{ExportKind}
use Rattle.wsyntax.specs.declared.value.Value.{Value}
use Rattle.wstore.specs.Bytes.{ReadsBytes, put_at}
use Rattle.wstore.specs.CallLimits.{limits_of}
use Rattle.wstore.specs.Detached.{store_as}
use Rattle.wstore.specs.ExportedGlobals.{IsGlobalOf}
use Rattle.wstore.specs.declared.detached.Detached.{Detached}
use Rattle.batch_text.specs.declared.line.Line.{Line}
use Rattle.c_api.specs.Beginnings.{Begins, FailsToBegin, begun_fields}
use Rattle.c_api.specs.Calls.{RefusesCall, TellsCall}
use Rattle.c_api.specs.CallsOn.{EndsFound}
use Rattle.c_api.specs.Ends.{end_fields}
use Rattle.c_api.specs.Runs as runs
use Rattle.c_api.specs.Values.{value_fields}
use Rattle.c_api.specs.declared.ending.GateCall.{GateCall}
use Rattle.c_api.specs.declared.live.Live.{Live}
use Rattle.c_api.specs.declared.settings.GateSettings.{GateSettings}
use Rattle.c_api.specs.declared.value.GateValue.{GateValue}

-- its module
abbrev pub module_of : Live → ModuleShape
module_of l = module_shape l.accepted.value.«module»

-- 4.2.3 its store; None where the last reset made no instance
abbrev pub store_in : Live → Option Store
store_in l = option_map (store_as l.accepted.value) l.state

-- 4.2.8 its memory; None where there is none
abbrev pub memory_in : Live → Option Memory
memory_in l = option_and_then (λ (s : Store). s.memory) (store_in l)

-- it is of the same module, and was made with the same limits
abbrev pub KeepsModule : Live → Live → Type 0
KeepsModule old new = (new.accepted.value ≡ old.accepted.value) × (new.settings ≡ old.settings)

-- all of it stays
abbrev pub Stays : Live → Live → Type 0
Stays old new = KeepsModule old new × (new.state ≡ old.state)

-- whether a call on it ran out of memory; None where there is no instance
abbrev pub failed_in : Live → Option Bool
failed_in l = option_map (λ (d : Detached). d.failed) l.state

-- its store stays, and what was noted of calls
abbrev pub KeepsStore : Live → Live → Type 0
KeepsStore old new = KeepsModule old new × (store_in new ≡ store_in old) × (failed_in new ≡ failed_in old)

-- the bytes of its memory are written to the buffer; or they do not lie in it
abbrev pub AnswersRead : Live → ℕ → List ℕ → List ℕ → ℕ → Type 0
AnswersRead l at old new status =
    ((status ≡ 0) × ReadsBytes (memory_in l) at old true new) ⊎ ((status ≡ 80) × ReadsBytes (memory_in l) at old false new)

-- 4.2.8 the bytes stand in its memory from that offset on, and all else is as it was
abbrev pub Puts : Live → ℕ → List ℕ → Live → Type 0
Puts old at bytes new =
    (s : Store) × (s' : Store) × (store_in old ≡ Some s) × (store_in new ≡ Some s')
    × (put_at s.memory at bytes ≡ s'.memory) × (s'.memory ≢ None) × (s'.table ≡ s.table) × (s'.globals ≡ s.globals)

-- they are written; or they do not lie in its memory
abbrev pub AnswersWrite : Live → ℕ → List ℕ → Live → ℕ → Type 0
AnswersWrite old at bytes new status =
    ((status ≡ 0) × Puts old at bytes new × KeepsModule old new × (failed_in new ≡ failed_in old))
    ⊎ ((status ≡ 80) × (put_at (memory_in old) at bytes ≡ None) × KeepsStore old new)

-- 4.2.10 the value of the global of that name is written; or no global has it
abbrev pub AnswersGlobal : Live → List ℕ → GateValue → GateValue → ℕ → Type 0
AnswersGlobal l name old new status =
    ((status ≡ 0) × ((s : Store) × (v : Value) × (store_in l ≡ Some s) × IsGlobalOf (module_of l) s name (Some v) × (new ≡ value_fields v)))
    ⊎ ((status ≡ 82) × (new ≡ old) × ((s : Store) → store_in l ≡ Some s → IsGlobalOf (module_of l) s name None))

-- 4.5.5 the line says how the call of what was found with the arguments of these numbers ends, which are words, on the instance as it was
abbrev pub EndsOnLive : Live → Option (ExportKind × ℕ) → List GateValue → GateSettings → Live → Line → Type 0
EndsOnLive old found numbers s new line =
    (args : List Value) × (d : Detached) × (d' : Detached) × AreWords args × (map value_fields args ≡ numbers)
    × (old.state ≡ Some d) × (new.state ≡ Some d')
    × EndsFound old.accepted.value (runs.limits_of s) found args (store_as old.accepted.value d) d.failed line (store_as old.accepted.value d') d'.failed

-- the call is refused, or there is no instance, and nothing is written; or its end is told
abbrev pub AnswersCallOn : Live → Option (ExportKind × ℕ) → List GateValue → GateSettings → List GateValue → List GateValue → GateCall → GateCall → Live → ℕ → Type 0
AnswersCallOn old found numbers s before after was ended new answered =
    (RefusesCall s numbers answered × (after ≡ before) × (ended ≡ was) × Stays old new)
    ⊎ (((answered ≡ 81) × (old.state ≡ None) × (after ≡ before) × (ended ≡ was) × Stays old new)
    ⊎ ((answered ≡ 0) × (runs.in_range s ≡ true) × TellsCall (EndsOnLive old found numbers s new) before after ended × KeepsModule old new))

-- 4.5.4 there is a new instance of the module, which these limits allow, and what the start function cost is told; or there is none, and it is told why
abbrev pub AnswersReset : Live → GateCall → Live → ℕ → Type 0
AnswersReset old ended new answered =
    KeepsModule old new
    × (((answered ≡ 0) × (d : Detached) × (k : ℕ) × (new.state ≡ Some d) × Begins old.accepted.value (limits_of old.settings) d k × (ended ≡ begun_fields k))
    ⊎ ((answered ≡ 81) × (line : Line) × (new.state ≡ None) × FailsToBegin old.accepted.value (limits_of old.settings) line × (ended ≡ end_fields line)))
