use Rattle.{pb_words.proofs.Common.codes, pb_words.proofs.Common.◌≡◌, std.proofs.Common.rules}
use Rattle.pb_words.proofs.words.job_of.Goals as goal

pub returns-in_ok-instance-in_default-clause-ok : goal.returns-in_ok-instance-in_default-clause-ok
returns-in_ok-instance-in_default-clause-ok c =
    let named : c.args.name.now ≡ codes "trace" = search rules in (
      named,
      c.in_ok-instance-in_default.ensures.ok,
      c.in_ok-selection-in_default.ensures.ok,
      c.is_given-progress.ensures,
      (c.in_ok-longest.ensures.ok, c.is_given-quiet.ensures),
    )

pub returns-in_ok-instance-in-check-clause-ok : goal.returns-in_ok-instance-in-check-clause-ok
returns-in_ok-instance-in-check-clause-ok c = (
  c.in-check.is,
  c.in_ok-instance-in-check.ensures.ok,
  c.is_given-in-check.ensures,
  c.is_given-in-check-2.ensures,
  c.is_given-in-check-3.ensures,
  (c.in_ok-longest.ensures.ok, c.is_given-quiet.ensures),
)
