use Rattle.pb_c.proofs.HandleWalks.{instance, empty_walk}
use Rattle.pb_c.proofs.instance_handle.InstanceHandle.empty.{Code.unfolded, Statement.statement}

pub empty_spec : {M : Type 1} → statement M
empty_spec 𝓤 𝓛 𝓜 𝓡 wired = empty_walk 𝓤 𝓛 𝓜 𝓡 instance _ (unfolded 𝓤 𝓛.H 𝓜 𝓡 wired)
