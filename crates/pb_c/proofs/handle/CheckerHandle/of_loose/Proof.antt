use Rattle.pb_c.proofs.HandleWalks.{checker, of_loose_walk}
use Rattle.pb_c.proofs.handle.CheckerHandle.of_loose.{Code.unfolded, Statement.statement}

pub of_loose_spec : {M : Type 1} → statement M
of_loose_spec 𝓤 𝓛 𝓜 𝓡 wired = of_loose_walk 𝓤 𝓛 𝓜 𝓡 checker _ (unfolded 𝓤 𝓛.H 𝓜 𝓡 wired)
