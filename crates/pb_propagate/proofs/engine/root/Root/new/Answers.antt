use Rattle.pb_propagate.proofs.{Common.refl, lemmas.clauses.Heads.heads-is, lemmas.root.Ready.new-rooted}
use Rattle.pb_propagate.proofs.engine.root.Root.new.Goals as goal

pub returns : goal.returns
returns c = λ store clauses none variables. new-rooted store clauses _ _ _ c.none-3.result none variables c.new-3.ensures.0 c.new-3.ensures.1 c.new.ensures c.new-2.ensures c.new-4.ensures.items c.new-5.ensures.items refl c.none-2.ensures.opens c.none-2.ensures.starts c.new-6.ensures.0 c.new-6.ensures.1 (heads-is c.none-3.result.heads 0 c.none-3.ensures.heads.0 c.none-3.ensures.heads.1) c.none-3.ensures.marks
