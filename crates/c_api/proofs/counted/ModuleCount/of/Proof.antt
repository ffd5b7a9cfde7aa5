-- `of` hands the box on to the number.
use Rattle.std.proofs.Common.{refl}
use mir.Syntax.{w64}
use Rattle.c_api.proofs.HandedOn.{first, last, with_number}
use Rattle.c_api.specs.contracts.held.Held as boxed
use Rattle.c_api.specs.contracts.counted.ModuleCount as number
use Rattle.c_api.specs.contracts.counted.ModuleCount.of.{ended, clauses}
use Rattle.c_api.specs.contracts.counted.ModuleCount.of.Key.{name as #self}
use Rattle.c_api.proofs.counted.ModuleCount.of.Statement.{statement}
use Rattle.c_api.proofs.counted.ModuleCount.of.Code as code

pub of_spec : {M : Type 1} → statement M
of_spec 𝓤 𝓛 𝓜 𝓡 wired =
    with_number 𝓤 𝓛 𝓜 𝓡 boxed.the_row ended.kept.1.0 w64 number.the_type (λ n d. record { count = n; alloc = d.alloc; at = d.at; value = d.value }) (λ n d vs. refl)
    (clauses 𝓛 𝓜.mem 𝓡.returns) (λ κs n d g end. first 𝓤 refl (first 𝓤 refl (last 𝓤 refl))) #self (code.unfolded 𝓤 𝓛.H 𝓜 𝓡 wired)
