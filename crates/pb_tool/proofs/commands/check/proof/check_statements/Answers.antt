use Rattle.pb_tool.proofs.{Common.◌∙◌, Common.arith, Common.refl, lemmas.check.CheckerRuns.run_begins, lemmas.show.ShownStatements.fewer}
use Rattle.pb_tool.proofs.commands.check.proof.check_statements.Goals as goal

pub loop-verdict-init : goal.loop-verdict-init
loop-verdict-init g c = record {
  running = c.requires.running;
  faults = refl;
  runs = λ longest began begins. run_begins longest began g.V.Watch.got c.args.checker.now begins c.requires.unspent (g.S.Source.left c.args.input.now) (g.S.Source.history c.args.input.now) c.args.watch.now;
}

pub loop-verdict-preserved : goal.loop-verdict-preserved
loop-verdict-preserved g c =
    let i = c.loop-verdict.invariant in let t = rw (c.in-Ok-None.is, c.in-Ok-None.field-0-is) at c.pull.ensures in
    record {
      running = t.fault;
      faults = t.faults ∙ i.faults;
      runs = λ longest began begins. t.runs longest began (g.S.Source.left c.args.input.now) (g.S.Source.history c.args.input.now) c.args.watch.now (i.runs longest began begins);
    }

pub loop-verdict-smaller : goal.loop-verdict-smaller
loop-verdict-smaller g c =
    let t = rw (c.in-Ok-None.is, c.in-Ok-None.field-0-is) at c.pull.ensures in fewer _ _ (t.within refl) (t.onward refl)

pub returns-in-Ok-Some-clause-runs : goal.returns-in-Ok-Some-clause-runs
returns-in-Ok-Some-clause-runs g c longest began begins =
    let t = rw (c.in-Ok-Some.is, c.in-Ok-Some.field-0-is) at c.pull.ensures in
    rw c.place.ensures.place (t.runs longest began (g.S.Source.left c.args.input.now) (g.S.Source.history c.args.input.now) c.args.watch.now (c.loop-verdict.invariant.runs longest began begins))

pub returns-in-Err-clause-runs : goal.returns-in-Err-clause-runs
returns-in-Err-clause-runs g c longest began begins =
    let t = rw c.in-Err.is at c.pull.ensures in
    t.runs longest began (g.S.Source.left c.args.input.now) (g.S.Source.history c.args.input.now) c.args.watch.now (c.loop-verdict.invariant.runs longest began begins)

pub pull-requires : goal.pull-requires
pull-requires g c = c.loop-verdict.invariant.running

pub returns-in-Ok-Some-clause-faults : goal.returns-in-Ok-Some-clause-faults
returns-in-Ok-Some-clause-faults g c = grind (arith, c.in-Ok-Some.is, c.pull.ensures, c.loop-verdict.invariant.faults)

pub returns-in-Err-clause-faults : goal.returns-in-Err-clause-faults
returns-in-Err-clause-faults g c = grind (arith, c.in-Err.is, c.pull.ensures, c.loop-verdict.invariant.faults)
