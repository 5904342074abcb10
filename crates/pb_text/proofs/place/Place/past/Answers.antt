use Rattle.pb_text.proofs.Common.{ℕ, ◌∙◌, ap, arith, get_or, length-take-le, List, sym, take, take_more, Place, place_next, place_past}
use Rattle.pb_text.proofs.lemmas.machine.Running.{past_bounds, past_more}
use Rattle.pb_text.proofs.place.Place.past.Goals as goal

pub after-place-requires : goal.after-place-requires
after-place-requires c = grind (arith, length-take-le, past_bounds, c.requires.line, c.loop-byte.invariant, c.requires.column, c.requires.offset)

pub loop-byte-preserved : goal.loop-byte-preserved
loop-byte-preserved c =
    let k = c.loop-byte.byte-index in let text = c.args.text.now in
    c.after-place.ensures ∙ (ap (λ (p : Place). place_next p (get_or text k 0)) c.loop-byte.invariant
    ∙ (sym (past_more c.args.self (take k text) (get_or text k 0)) ∙ ap (λ (x : List ℕ). place_past c.args.self x) (sym (take_more text k 0 c.loop-byte-test.true))))
