-- `of` hands the box on to the status.
use Rattle.std.proofs.Common.{refl}
use mir.Syntax.{w32}
use Rattle.c_api.proofs.HandedOn.{first, last, with_number}
use Rattle.c_api.specs.contracts.live.Live as boxed
use Rattle.c_api.specs.contracts.instance.InstanceStatus as status
use Rattle.c_api.specs.contracts.instance.InstanceStatus.of.{ended, clauses}
use Rattle.c_api.specs.contracts.instance.InstanceStatus.of.Key.{name as #self}
use Rattle.c_api.proofs.instance.InstanceStatus.of.Statement.{statement}
use Rattle.c_api.proofs.instance.InstanceStatus.of.Code as code

pub of_spec : {M : Type 1} → statement M
of_spec 𝓤 𝓛 𝓜 𝓡 wired =
    with_number 𝓤 𝓛 𝓜 𝓡 boxed.the_row ended.kept.1.0 w32 status.the_type (λ n d. record { status = n; alloc = d.alloc; at = d.at; value = d.value }) (λ n d vs. refl)
    (clauses 𝓛 𝓜.mem 𝓡.returns) (λ κs n d g end. first 𝓤 refl (first 𝓤 refl (last 𝓤 refl))) #self (code.unfolded 𝓤 𝓛.H 𝓜 𝓡 wired)
