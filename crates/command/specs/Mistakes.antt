-- What is told where the words ask for nothing.
use Rattle.std.specs.Prelude.{◌≡◌, ℕ, List, string_bytes}
use Rattle.command.specs.declared.fault.WordsFault.{WordsFault}
use Rattle.command.specs.declared.fault.WordsFault.TheVariants.{Usage, Memory}

-- this text, or there is no memory for it
abbrev pub IsToldBy : List ℕ → WordsFault → Type 0
IsToldBy text (Usage told) = string_bytes told ≡ text
IsToldBy text Memory = Unit {0}
