use Rattle.pb_sums.proofs.Common.{◌∙◌, ◌≡◌, ap, arith, subst, sym, take, take-take, IsUtf8}
use Rattle.pb_sums.proofs.short.ShortText.from_prefix.Goals as goal

pub from_block-requires-clause-text : goal.from_block-requires-clause-text
from_block-requires-clause-text c =
    let prefix : take c.args.len c.in-Some.block.now ≡ take c.args.len c.args.text.now =
    ap (take c.args.len) c.in-Some.ensures.cases.same ∙ take-take c.args.len 22 c.args.text.now (omega arith) in
    subst IsUtf8 (sym prefix) c.requires.text

pub returns-in-Some : goal.returns-in-Some
returns-in-Some c =
    c.from_block.ensures ∙ (ap (take c.args.len) c.in-Some.ensures.cases.same ∙ take-take c.args.len 22 c.args.text.now (omega arith))
