-- A memory whose bytes are replaced twice.
use Rattle.std.proofs.Common.{◌≡◌, ℕ, List, sym, ap, ◌∙◌}
use Rattle.memory.specs.Buffered.{Buffered}
use Rattle.wstore.specs.Buffers.{with_bytes}

pub replaced_twice : (first was new : Buffered) (bytes : List ℕ) → was ≡ with_bytes first was.memory.bytes → new ≡ with_bytes was bytes → new ≡ with_bytes first new.memory.bytes
replaced_twice first was new bytes before now =
    now ∙ ap (λ b. with_bytes b bytes) before ∙ ap (with_bytes first) (sym (ap (λ (b : Buffered). b.memory.bytes) now))
