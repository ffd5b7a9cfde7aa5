-- `loose` hands the box on under its own type.
use Rattle.std.proofs.Common.{refl}
use Rattle.c_api.proofs.HandedOn.{first, last, to_loose}
use Rattle.c_api.specs.contracts.held.Held as boxed
use Rattle.c_api.specs.contracts.module.GateModule as handle
use Rattle.c_api.specs.contracts.module.GateModule.loose.{ended, clauses}
use Rattle.c_api.specs.contracts.module.GateModule.loose.Key.{name as #self}
use Rattle.c_api.proofs.module.GateModule.loose.Statement.{statement}
use Rattle.c_api.proofs.module.GateModule.loose.Code as code

pub loose_spec : {M : Type 1} → statement M
loose_spec 𝓤 𝓛 𝓜 𝓡 wired =
    to_loose 𝓤 𝓛 𝓜 𝓡 boxed.the_row ended.kept.0 handle.the_type (λ d. record { at = d.at; alloc = d.alloc; value = d.value }) (λ d vs. refl) (λ d f. tt)
    (clauses 𝓛 𝓜.mem 𝓡.returns) (λ κs d g end. first 𝓤 refl (last 𝓤 refl)) #self (code.unfolded 𝓤 𝓛.H 𝓜 𝓡 wired)
