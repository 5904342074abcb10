use Rattle.pb_normal.proofs.Common.{ℕ, ◌-◌, ◌<◌, ◌≡◌, ◌≤◌, ◌↔◌, arith, Bool, false, IsTrue, length, true, hashes_of, names_in, nexts_of}
use Rattle.pb_normal.proofs.lemmas.names.Tables.{search-goes, next_at}
use Rattle.pb_normal.proofs.names.chains.found.Goals as goal

inside : (at n : ℕ) → 0 < at → at ≤ n → at - 1 < n
inside at n some within = omega (arith, some, within)

unlike : {P : Type 0} (b : Bool) → b ≡ false → (IsTrue b ↔ P) → P → ⊥
unlike b differs says p = let yes : b ≡ true = says.1 p in absurd cc

pub chain-smaller : goal.chain-smaller
chain-smaller c = grind (arith, c.requires.chained.next (c.chain.at - 1), next_at c.args.entries.now (c.chain.at - 1), c.chain.invariant.within)

pub chain-preserved : goal.chain-preserved
chain-preserved c =
    let number = inside c.chain.at (length c.args.entries.now) c.chain-test.true c.chain.invariant.within in
    rw (← next_at c.args.entries.now (c.chain.at - 1) number) (search-goes (names_in c.args.bytes.now c.args.entries.now) c.args.heads.now (hashes_of c.args.entries.now) (nexts_of c.args.entries.now) (length c.args.entries.now) c.args.hash c.args.name.now c.chain.at c.requires.chained c.chain-test.true c.chain.invariant (unlike c.is_named.result c.if-is_named.false c.is_named.ensures))
