-- The texts so far.
use Rattle.std.proofs.Common.{◌≡◌, map, string_bytes, take}
use Rattle.program.proofs.spreading.texts_of.Given as goal

abbrev pub invariant-loop-file : goal.invariant-loop-file
invariant-loop-file l = map (λ t. t.now) l.texts.items ≡ map string_bytes (take l.file-index l.files)
