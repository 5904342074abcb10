use Rattle.pb_proof.proofs.Common.{◌∙◌, ◌++◌, ap, arith, bytes_decides, length, prefix_parts, sym, take, text_after}
use Rattle.pb_lines.proofs.lemmas.Whole.{far_byte}
use Rattle.pb_proof.proofs.machine.whole.line_after.Goals as goal

pub returns : goal.returns
returns g c =
    let text = c.args.text.now in
    let first = c.args.first.now in
    let k = length first in
    let n = c.in_ok-last.last in
    let word = (bytes_decides first (take k text)).0 (sym c.starts_with.ensures.value ∙ c.if-not-starts_with.false) in (
      grind (arith, c.in_ok-last.ensures.inside),
      sym (far_byte text k n) ∙ c.in_ok-last.ensures.line_feed,
      take n (text_after k text),
      prefix_parts text k n ∙ ap (λ x. x ++ take n (text_after k text)) (sym word),
      c.in_ok-last.ensures.line,
    )
