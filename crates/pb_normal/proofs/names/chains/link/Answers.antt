use Rattle.pb_normal.proofs.lemmas.names.Tables.{entries_linked}
use Rattle.pb_normal.proofs.names.chains.link.Goals as goal

pub returns-clause-chained : goal.returns-clause-chained
returns-clause-chained c = entries_linked c.args.heads.now c.args.entries.now c.args.number c.chain_of-chain.result c.requires.within c.chain_of-chain.ensures.within c.chain_of-chain.ensures.value c.requires.chained
