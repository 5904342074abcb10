use Rattle.pb_lines.proofs.Common.{◌∙◌, sym}
use Rattle.pb_lines.proofs.lemmas.Whole.{literal_word, none_given}
use Rattle.pb_lines.proofs.word_prefix.named_at.Goals as goal

pub returns-clause-word : goal.returns-clause-word
returns-clause-word g c =
    let read = c.in_ok-length.ensures in
    λ limit top. literal_word g.W.WordList.grammar limit top c.args.words.now c.args.text.now c.literal_at.new.name c.in_ok-length.length c.in_ok-length.negated
    (sym (c.takes_literal.ensures limit top) ∙ c.if-not-takes_literal.false) (none_given _ _ (sym c.is_some.ensures ∙ c.if-is_some.false) (c.capital.ensures limit top)) read.word read.bytes
