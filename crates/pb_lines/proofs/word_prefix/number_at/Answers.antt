use Rattle.pb_lines.proofs.Common.{◌∙◌, largest, sym, top_of}
use Rattle.pb_lines.proofs.lemmas.Whole.{number_word}
use Rattle.pb_lines.proofs.word_prefix.number_at.Goals as goal
use Rattle.pb_text.proofs.lemmas.numbers.Numbers.{largest_small}

pub returns-clause-word : goal.returns-clause-word
returns-clause-word g c =
    let l = c.args.limits in
    let laws = g.met.W.WordList.lawful (largest l) (top_of l) (largest_small l) l.most_top l.least_top in
    let n = c.number_prefix-count in
    let s = c.sign_at-start in
    λ name. number_word g.W.WordList.grammar (largest l) (top_of l) c.args.words.now _ laws c.args.text.now name s.result.1 s.result.0 n.result.0 n.result.1 c.in_ok-most.most
    (sym c.number.ensures ∙ c.in_ok-most.was) c.if-value-most.false s.ensures.sign n.ensures.digits n.ensures.bound c.if-count-eq0.false n.ensures.value
