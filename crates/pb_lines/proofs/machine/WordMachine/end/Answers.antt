use Rattle.pb_lines.proofs.machine.WordMachine.end.Goals as goal
use Rattle.pb_lines.proofs.Common.{ap, sym, ◌∙◌, ◌≡◌, refl, true, when_err, when_ok}
use Rattle.pb_lines.proofs.lemmas.Pushes.{number_due, word_memory, after_end, after_close, after_colon, closes_else, colon_after, value_after}
use Rattle.pb_lines.specs.engine.Words.{may_come, step_at}
use Rattle.pb_lines.specs.engine.WordsFields.{words_state}

pub follow-requires : goal.follow-requires
follow-requires g c =
    number_due _ _ g.met.W.WordList.lawful g.met.W.WordList.counted (words_state c.self.inside) c.args.byte c.self.invariant c.args.step c.args.word
    (c.requires.step ∙ ap (λ i. step_at g.W.WordList.grammar i c.args.byte) (sym c.self.view_is)) c.requires.word

pub add_word-added-requires-clause-number : goal.add_word-added-requires-clause-number
add_word-added-requires-clause-number g c =
    number_due _ _ g.met.W.WordList.lawful g.met.W.WordList.counted (words_state c.self.inside) c.args.byte c.self.invariant c.args.step c.args.word
    (c.requires.step ∙ ap (λ i. step_at g.W.WordList.grammar i c.args.byte) (sym c.self.view_is)) c.requires.word

pub returns-then-is_err : goal.returns-then-is_err
returns-then-is_err g c =
    let (w, n, a) = when_err _ _ c.add_word-added.ensures.err (sym c.is_err.ensures.value ∙ c.if-is_err.true) in
    let (x, y) = word_memory _ _ g.met.W.WordList.lawful g.met.W.WordList.counted (words_state c.self.inside) c.args.byte c.self.invariant c.args.step c.args.word c.in-Some.follow
    (c.requires.step ∙ ap (λ i. step_at g.W.WordList.grammar i c.args.byte) (sym c.self.view_is)) c.requires.word (c.in-Some.ensures c.self.inside.name) (sym c.may_come.ensures ∙ c.if-not-may_come.false) a in
    rw (← c.self.view_is) (x, y, rw (w, n) refl)

pub invariant_of-self-in-Colon : goal.invariant_of-self-in-Colon
invariant_of-self-in-Colon g c =
    let (n, w) = when_ok _ _ c.add_word-added.ensures.ok (sym c.is_err.ensures.value ∙ c.if-is_err.false) in
    let f = c.in-Some.follow in
    let v : f.colon ≡ true = sym (ap (λ x. may_come x f) c.in-Colon.is) ∙ (sym c.may_come.ensures ∙ c.if-not-may_come.false) in
    after_colon _ _ g.met.W.WordList.lawful g.met.W.WordList.counted (words_state c.self.inside) c.args.byte c.self.invariant c.args.word c.add_word-added.new.words c.add_word-added.new.name w n c.args.step
    (c.requires.step ∙ ap (λ i. step_at g.W.WordList.grammar i c.args.byte) (sym c.self.view_is)) c.requires.word c.in-Colon.field-0 c.add_colon.new.self c.in-Colon.is
    (c.add_colon.ensures
    (colon_after _ _ g.met.W.WordList.lawful g.met.W.WordList.counted (words_state c.self.inside) c.args.byte c.self.invariant c.args.word f c.add_word-added.new.words (c.in-Some.ensures c.self.inside.name) w v))

pub invariant_of-self-in-End : goal.invariant_of-self-in-End
invariant_of-self-in-End g c =
    let (n, w) = when_ok _ _ c.add_word-added.ensures.ok (sym c.is_err.ensures.value ∙ c.if-is_err.false) in
    after_end _ _ g.met.W.WordList.lawful g.met.W.WordList.counted (words_state c.self.inside) c.args.byte c.self.invariant c.args.word c.add_word-added.new.words c.add_word-added.new.name w n c.args.step
    (c.requires.step ∙ ap (λ i. step_at g.W.WordList.grammar i c.args.byte) (sym c.self.view_is)) c.requires.word c.in-End.field-0 c.in-End.part c.in-End.is

pub invariant_of-self-in_default-step : goal.invariant_of-self-in_default-step
invariant_of-self-in_default-step g c =
    let (n, w) = when_ok _ _ c.add_word-added.ensures.ok (sym c.is_err.ensures.value ∙ c.if-is_err.false) in
    let f = c.in-Some.follow in
    let d = c.in_default-step in
    let (v, is) = closes_else c.args.step c.args.word c.requires.word d.not-End d.not-Colon d.not-Finish in
    let e : f.end ≡ true = sym (ap (λ x. may_come x f) is) ∙ (sym c.may_come.ensures ∙ c.if-not-may_come.false) in
    after_close _ _ g.met.W.WordList.lawful g.met.W.WordList.counted (words_state c.self.inside) c.args.byte c.self.invariant c.args.word c.add_word-added.new.words c.add_word-added.new.name w n c.args.step
    (c.requires.step ∙ ap (λ i. step_at g.W.WordList.grammar i c.args.byte) (sym c.self.view_is)) c.requires.word v _ is refl
    (value_after _ _ g.met.W.WordList.lawful g.met.W.WordList.counted (words_state c.self.inside) c.args.byte c.self.invariant c.args.word f c.add_word-added.new.words (c.in-Some.ensures c.self.inside.name) w e)
