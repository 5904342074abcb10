use Rattle.pb_c.proofs.HandleWalks.{reader, empty_walk}
use Rattle.pb_c.proofs.reader_handle.ReaderHandle.empty.{Code.unfolded, Statement.statement}

pub empty_spec : {M : Type 1} → statement M
empty_spec 𝓤 𝓛 𝓜 𝓡 wired = empty_walk 𝓤 𝓛 𝓜 𝓡 reader _ (unfolded 𝓤 𝓛.H 𝓜 𝓡 wired)
