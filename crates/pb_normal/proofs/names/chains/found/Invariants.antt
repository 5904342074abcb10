use Rattle.pb_normal.proofs.{Common.length, Common.hashes_of, Common.names_in, lemmas.names.Tables.IsSearched}
use Rattle.pb_normal.proofs.names.chains.found.Given as goal

-- the name was not found from here on
abbrev pub invariant-chain : goal.invariant-chain
invariant-chain l = IsSearched (names_in l.bytes l.entries) (hashes_of l.entries) (length l.heads) (length l.entries) l.hash l.name l.at

abbrev pub decreases-chain : goal.decreases-chain
decreases-chain l = l.at
