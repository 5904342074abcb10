use Rattle.pb_replay.proofs.Common.{◌∙◌, refl, rules}
use Rattle.pb_replay.proofs.lemmas.rules.Steps.{visits-judged, visits-memory, visits-none, keeps_then, rup_judged, rup_unmade, unmade, unmade-fits}
use Rattle.pb_replay.proofs.step.rup.rup.Goals as goal

pub returns-in_err-form-clause-goes : goal.returns-in_err-form-clause-goes
returns-in_err-form-clause-goes c = rup_unmade c.args.running.now c.args.linear.now _ c.take_form.new.running _ (search rules) (unmade _ c.in_err-form.ensures.err)

pub returns-in_err-form-clause-visits_made : goal.returns-in_err-form-clause-visits_made
returns-in_err-form-clause-visits_made c = visits-none c.args.linear.now _ _ _ _ c.take_form.new.running.visits (search rules) (c.take_form.ensures.preserves.visits ∙ c.requires.visits) (unmade _ c.in_err-form.ensures.err)

pub returns-in_err-form-clause-memory : goal.returns-in_err-form-clause-memory
returns-in_err-form-clause-memory c memory = unmade-fits _ _ (search rules) memory c.in_err-form.ensures.err

pub returns-in_err-implied-clause-memory : goal.returns-in_err-implied-clause-memory
returns-in_err-implied-clause-memory c memory = c.in_ok-form.ensures.fits

pub returns-clause-memory : goal.returns-clause-memory
returns-clause-memory c memory = c.in_ok-form.ensures.fits

pub returns-in_err-implied-clause-kept : goal.returns-in_err-implied-clause-kept
returns-in_err-implied-clause-kept c = keeps_then _ _ _ c.take_form.ensures.preserves.kept c.is_implied.ensures.kept

pub returns-clause-kept : goal.returns-clause-kept
returns-clause-kept c = keeps_then _ _ _ (keeps_then _ _ _ c.take_form.ensures.preserves.kept c.is_implied.ensures.kept) c.judge.ensures.preserves.kept

pub returns-clause-goes : goal.returns-clause-goes
returns-clause-goes c =
    let named = c.in_ok-form.ensures.named in let reported = c.in_ok-implied.ensures in
    rup_judged c.args.running.now c.take_form.new.running c.args.linear.now c.in_ok-form.form named c.in_ok-form.ensures.fits c.in_ok-form.ensures.form
    c.is_implied.new.running c.judge.new.running c.judge.result reported.same (c.is_implied.ensures.kept.limits ∙ c.take_form.ensures.preserves.kept.limits) c.judge.ensures.best
    c.in_ok-implied.implied (rw named.forms at reported.implied) (rw named.forms at reported.not_implied) c.judge.ensures.added c.judge.ensures.refused

pub returns-in_err-implied-clause-visits_made : goal.returns-in_err-implied-clause-visits_made
returns-in_err-implied-clause-visits_made c =
    let named = c.in_ok-form.ensures.named in
    visits-memory c.args.linear.now c.take_form.new.running.constraints.forms c.args.running.now.constraints.forms c.args.running.now.names c.take_form.new.running.names c.in_ok-form.form c.is_implied.new.running.visits c.is_implied.new.running.visits named.forms named.names
    c.in_ok-form.ensures.form c.is_implied.ensures.few c.is_implied.ensures.unasked refl _ (search rules)

pub returns-clause-visits_made : goal.returns-clause-visits_made
returns-clause-visits_made c =
    let named = c.in_ok-form.ensures.named in let reported = c.in_ok-implied.ensures in
    visits-judged c.args.linear.now c.take_form.new.running.constraints.forms c.args.running.now.constraints.forms c.args.running.now.names c.take_form.new.running.names c.in_ok-form.form c.is_implied.new.running.visits c.judge.new.running.visits named.forms named.names
    c.in_ok-form.ensures.form c.is_implied.ensures.few c.is_implied.ensures.unasked c.judge.ensures.preserves.visits c.is_implied.new.running c.judge.new.running c.judge.result c.in_ok-implied.implied reported.conflict reported.completion c.judge.ensures.added c.judge.ensures.refused
