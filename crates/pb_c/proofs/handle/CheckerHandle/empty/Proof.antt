use Rattle.pb_c.proofs.{HandleWalks.checker, HandleWalks.empty_walk, handle.CheckerHandle.empty.Code.unfolded, handle.CheckerHandle.empty.Statement.statement}

pub empty_spec : {M : Type 1} → statement M
empty_spec 𝓤 𝓛 𝓜 𝓡 wired = empty_walk 𝓤 𝓛 𝓜 𝓡 checker _ (unfolded 𝓤 𝓛.H 𝓜 𝓡 wired)
