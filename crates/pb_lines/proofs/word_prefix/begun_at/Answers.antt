use Rattle.pb_lines.proofs.Common.{◌<◌, arith, length, largest, sym, subst, top_of}
use Rattle.pb_lines.proofs.lemmas.Whole.{first_byte}
use Rattle.pb_lines.proofs.word_prefix.begun_at.Goals as goal
use Rattle.pb_lines.specs.engine.WordsWhole.{IsWordAt}

pub returns-clause-word : goal.returns-clause-word
returns-clause-word g c =
    let some : 0 < length c.args.text.now = grind (arith, c.if-is_empty.false, c.is_empty.ensures) in
    subst (λ x. IsWordAt g.W.WordList.grammar (largest c.args.limits) (top_of c.args.limits) c.args.words.now x c.in_ok-mark.mark c.args.name.now) (sym (first_byte c.args.text.now some))
    (c.in_ok-mark.ensures c.args.name.now)
