use Rattle.pb_c.proofs.Claims.{shows_truth, shows_unsat}
use Rattle.pb_c.proofs.pb_check.Goals as goal

pub returns-clause-truth : goal.returns-clause-truth
returns-clause-truth c = shows_truth c.verified_is_true.ensures c.args.options.now c.args.instance.now c.args.proof.now c.args.line.now c.check_into.new.line c.check_into.result c.check_into.new.line_len c.check_into.ensures

pub returns-clause-unsat : goal.returns-clause-unsat
returns-clause-unsat c = shows_unsat c.args.options.now c.args.instance.now c.args.line.now c.check_into.new.line c.check_into.result c.check_into.new.line_len (shows_truth c.verified_is_true.ensures c.args.options.now c.args.instance.now c.args.proof.now c.args.line.now c.check_into.new.line c.check_into.result c.check_into.new.line_len c.check_into.ensures)
