use Rattle.pb_replay.proofs.{Common.refl, Common.rules, lemmas.rules.Steps.delete-goes, lemmas.rules.Steps.delete-linked}
use Rattle.pb_replay.proofs.step.delete.delete.Goals as goal

pub returns-clause-goes : goal.returns-clause-goes
returns-clause-goes c = delete-goes c.args.running.now _ c.args.ids.now c.delete_each.result refl refl refl refl (rw c.as_slice.ensures at c.delete_each.ensures.ok) (rw c.as_slice.ensures at c.delete_each.ensures.err)

pub returns-clause-preserves : goal.returns-clause-preserves
returns-clause-preserves c = record {
  linked = delete-linked c.args.running.now _ c.as_slice.result.now c.delete_each.result c.requires.linked refl c.delete_each.ensures.ok c.delete_each.ensures.variables c.delete_each.ensures.ready;
  kept = search rules;
  visits = refl;
}
