use Rattle.pb_propagate.proofs.{Common.◌+◌, Common.ap, Common.Contents, clauses.blocks.Blocks.extend.Goals.In_ok-begin}
use Rattle.pb_propagate.proofs.lemmas.clauses.Blocks.{Store, extended, grown}
use Rattle.pb_propagate.proofs.clauses.blocks.Blocks.extend.Goals as goal

-- the blocks with one more slot
new : (c : In_ok-begin) → Store c.begin.new.words.items c.self.inside.starts.items c.self.inside.rooms.items c.self.inside.run
    (c.self.inside.count + 1) (grown c.args.self.now)
new c = extended c.begin.new.words.items c.self.invariant c.self.view_is c.in_ok-begin.ensures.first c.begin.ensures.kept

pub invariant_of-self-2 : goal.invariant_of-self-2
invariant_of-self-2 c = (new (goal.at.invariant_of-self-2 c).In_ok-begin).blocks

pub returns-clause-literals : goal.returns-clause-literals
returns-clause-literals c = ap (λ (v : Contents). v.literals) (new (goal.at.returns-clause-literals c).In_ok-begin).is

pub returns-clause-searches : goal.returns-clause-searches
returns-clause-searches c = ap (λ (v : Contents). v.searches) (new (goal.at.returns-clause-searches c).In_ok-begin).is

pub returns-clause-watches : goal.returns-clause-watches
returns-clause-watches c = ap (λ (v : Contents). v.watches) (new (goal.at.returns-clause-watches c).In_ok-begin).is
