use Rattle.pb_c.proofs.HandleWalks.{checker, into_loose_walk}
use Rattle.pb_c.proofs.handle.CheckerHandle.into_loose.{Code.unfolded, Statement.statement}

pub into_loose_spec : {M : Type 1} → statement M
into_loose_spec 𝓤 𝓛 𝓜 𝓡 wired = into_loose_walk 𝓤 𝓛 𝓜 𝓡 checker _ (unfolded 𝓤 𝓛.H 𝓜 𝓡 wired)
