use Rattle.std.proofs.Common.{◌≡◌, ℕ, List, ◌-◌}
use Rattle.wsyntax.specs.Binary.Production.{times_at}
use Rattle.wsyntax.specs.Binary.Values.{u32}
use Rattle.wdecode.specs.Segments.{with_functions}
use Rattle.wdecode.proofs.Loop.{with_front}
use Rattle.wdecode.proofs.elements.functions_at.Given as goal

abbrev pub invariant-loop : goal.invariant-loop
invariant-loop l = (fs : List ℕ) × (l.elements ≡ with_functions l.initial.elements fs)
    × (with_front fs (times_at u32.read (l.count - l.counter) l.rest) ≡ times_at u32.read l.count l.bytes)
