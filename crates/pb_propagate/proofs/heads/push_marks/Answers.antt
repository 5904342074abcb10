use Rattle.pb_propagate.proofs.Common.{◌++◌, ◌+◌, ◌-◌, ◌≡◌, ◌∙◌, ap, arith, length, take, take_all}
use Rattle.std.specs.Prelude.{replicate}
use Rattle.std.proofs.Math.Path.{ap₂}
use Rattle.pb_propagate.proofs.heads.push_marks.Goals as goal

pub returns : goal.returns
returns c =
    let ms = c.args.marks.now.items in let count = c.args.count in
    let grown : c.resize.new.self.items ≡ take (length ms + count) ms ++ replicate ((length ms + count) - length ms) c.args.heads = rw (c.len-len.ensures, c.args.marks.now.ok.0, c.in_ok-mark.ensures.ok) at c.in_ok-resize.ensures.items in
    grown ∙ ap₂ (λ a b. a ++ b) (take_all (length ms + count) ms (omega arith)) (ap (λ k. replicate k c.args.heads) (omega arith))
