use Rattle.pb_lines.proofs.Common.{◌∙◌, ap, largest, not, sym, top_of}
use Rattle.pb_lines.proofs.lemmas.Whole.{letter_word, none_given, plus_word, star_word}
use Rattle.pb_lines.proofs.word_prefix.mark_of.Goals as goal
use Rattle.pb_text.proofs.lemmas.numbers.Numbers.{largest_small}

pub returns-in-42 : goal.returns-in-42
returns-in-42 g c =
    let l = c.args.limits in
    let laws = g.met.W.WordList.lawful (largest l) (top_of l) (largest_small l) l.most_top l.least_top in
    λ name. star_word g.W.WordList.grammar (largest l) (top_of l) c.args.words.now _ laws c.args.byte name c.in-42.is

pub returns-in-43 : goal.returns-in-43
returns-in-43 g c =
    let l = c.args.limits in
    let laws = g.met.W.WordList.lawful (largest l) (top_of l) (largest_small l) l.most_top l.least_top in
    λ name. plus_word g.W.WordList.grammar (largest l) (top_of l) c.args.words.now _ laws c.args.byte name c.in-43.is
    (none_given _ _ (c.is_none.ensures ∙ ap not c.if-is_none.true) c.number.ensures)

pub returns-in_default : goal.returns-in_default
returns-in_default g c =
    let l = c.args.limits in
    let laws = g.met.W.WordList.lawful (largest l) (top_of l) (largest_small l) l.most_top l.least_top in
    λ name. letter_word g.W.WordList.grammar (largest l) (top_of l) c.args.words.now _ laws c.args.byte name (sym c.is_letter.ensures ∙ c.if-is_letter.true)
    (none_given _ _ (c.is_none-then-is_letter.ensures ∙ ap not c.if-is_none-2.true) (c.capital.ensures (largest l) (top_of l)))
