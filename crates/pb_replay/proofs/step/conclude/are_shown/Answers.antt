use Rattle.pb_replay.proofs.lemmas.conclusions.Bounding.{both-ok}
use Rattle.pb_replay.proofs.step.conclude.are_shown.Goals as goal

pub returns-clause-both : goal.returns-clause-both
returns-clause-both c =
    both-ok c.args.running.now c.shows_lower.new.running c.args.lower c.args.id c.args.upper _ c.in_ok-shows_lower.ensures.same c.requires.proper c.shows_lower.ensures.preserves.kept c.in_ok-shows_lower.ensures.lower c.shows_upper.result c.shows_upper.ensures
