use Rattle.pb_lines.proofs.Common.{◌+◌, ◌<◌, arith, largest, length, sym, top_of, when_ok}
use Rattle.pb_lines.proofs.lemmas.Whole.{word_taken}
use Rattle.pb_lines.proofs.whole.words_prefix.Goals as goal
use Rattle.pb_lines.specs.engine.Words.{words_gap}

pub loop-end-preserved : goal.loop-end-preserved
loop-end-preserved g c =
    let limit = largest c.args.limits in
    let top = top_of c.args.limits in
    let text = c.args.text.now in
    let l = c.loop-end in
    let inside : l.end + c.in-Some.length < length text = grind (arith, c.in-Some.ensures.bound, c.loop-end-test.true, c.if-past-text.false) in
    let (runs, order) = word_taken g.W.WordList.grammar g.W.WordList.good g.met.W.WordList.lawful g.met.W.WordList.counted limit top (words_gap g.W.WordList.grammar limit top c.args.words.now) l.words c.add.new.self text
    c.word_at.new.name c.in-Some.word l.end c.in-Some.length l.invariant.order l.invariant.runs c.in-Some.ensures.word (sym (when_ok c.add.result _ c.add.ensures.ok (sym c.if-is_err.ensures.value))) inside c.if-text-past-ne32.false in
    record { bound = omega (arith, inside); runs = runs; order = order }
