use Rattle.pb_lines.proofs.Common.{◌<◌, ◌∙◌, [], arith, largest, length, prefix_parts, subst, sym, take, text_after, top_of, when_ok}
use Rattle.pb_lines.proofs.lemmas.Theorems.{words_first_in_order}
use Rattle.pb_lines.proofs.lemmas.Whole.{HasRead, line_ends, may_end, more_read, none_read}
use Rattle.pb_lines.proofs.whole.line_at.Goals as goal
use Rattle.pb_lines.specs.engine.Words.{words_first}
use Rattle.pb_text.proofs.lemmas.numbers.Numbers.{largest_small}

pub loop-end-init : goal.loop-end-init
loop-end-init g c =
    let l = c.args.limits in
    let w = g.W.WordList in
    let m = g.met.W.WordList in
    let first = words_first_in_order w.grammar w.good m.lawful m.counted (largest l) (top_of l) (largest_small l) l.most_top l.least_top in record {
      bound = omega arith;
      read = subst (λ s. HasRead w.grammar w.good m.lawful m.counted (largest l) (top_of l) (words_first w.grammar (largest l) (top_of l)) [] s) (sym c.requires)
          (none_read w.grammar w.good m.lawful m.counted (largest l) (top_of l) first);
    }

pub loop-end-preserved : goal.loop-end-preserved
loop-end-preserved g c =
    let limit = largest c.args.limits in
    let top = top_of c.args.limits in
    let text = c.args.text.now in
    let w = g.W.WordList in
    let m = g.met.W.WordList in
    let l = c.loop-end in
    let inside : l.end < length text = c.loop-end-test.true in record {
      bound = omega (arith, c.in_ok-length.ensures.bound, inside);
      read = more_read w.grammar w.good m.lawful m.counted limit top (words_first w.grammar limit top) l.words c.add.new.self text c.word_at.new.name c.in_ok-length.word l.end c.in_ok-length.length l.invariant.read inside
          c.if-text-end-eq32.true c.in_ok-length.ensures.word (sym (when_ok c.add.result _ c.add.ensures.ok (sym c.if-is_err.ensures.value)));
    }

pub finish-requires : goal.finish-requires
finish-requires g c =
    may_end (g.W.WordList.grammar (largest c.args.limits) (top_of c.args.limits)) c.loop-end.words c.in_ok-follow.field-0 [] (sym c.in_ok-follow.was ∙ c.follow.ensures []) c.if-not-branch.false

pub returns-clause-line : goal.returns-clause-line
returns-clause-line g c =
    let limit = largest c.args.limits in
    let top = top_of c.args.limits in
    let text = c.args.text.now in
    let w = g.W.WordList in
    let m = g.met.W.WordList in
    let l = c.loop-end in
    let more = c.in_ok-more in
    rw (prefix_parts text l.end more.more)
    (line_ends w.grammar w.good m.lawful m.counted limit top (take l.end text) (take more.more (text_after l.end text)) l.words c.finish.result l.invariant.read (sym c.finish.ensures.event) more.ensures.closing)
