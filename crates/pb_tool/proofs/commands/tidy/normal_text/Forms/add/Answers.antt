use Rattle.pb_tool.proofs.Common.{refl, largest}
use Rattle.pb_tool.proofs.lemmas.tidy.NormalFile.{lines_added, passes_not, passes_now}
use Rattle.pb_tool.proofs.commands.tidy.normal_text.Forms.add.Goals as goal

pub returns-then-not-fits-clause-made : goal.returns-then-not-fits-clause-made
returns-then-not-fits-clause-made c = λ named cs made.
    passes_now (largest c.args.self.now.limits) cs c.args.constraint.now (λ fits. let no = c.if-not-fits.ensures.1 fits in cc)

pub returns-in-Ok-clause-made : goal.returns-in-Ok-clause-made
returns-in-Ok-clause-made c = λ named cs made.
    let kept = rw c.in-Stored.is at made in let (added, loaded, text, count) = c.in-Ok.ensures.forms in
    rw c.in-Stored.is (
      lines_added named cs c.args.constraint.now c.args.self.now.lines c.add.new.self added kept.0 c.in-Ok.ensures.names loaded text count,
      passes_not (largest c.args.self.now.limits) cs c.args.constraint.now kept.1 (c.if-not-fits.ensures.0 refl),
    )
