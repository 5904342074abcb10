use Rattle.pb_c.proofs.HandleWalks.{reader, of_loose_walk}
use Rattle.pb_c.proofs.reader_handle.ReaderHandle.of_loose.{Code.unfolded, Statement.statement}

pub of_loose_spec : {M : Type 1} → statement M
of_loose_spec 𝓤 𝓛 𝓜 𝓡 wired = of_loose_walk 𝓤 𝓛 𝓜 𝓡 reader _ (unfolded 𝓤 𝓛.H 𝓜 𝓡 wired)
