use Rattle.pb_propagate.proofs.Common.{ℕ, ◌<◌, ◌∙◌, ◌≡◌, ap, arith, get_or, Global, length, length-set, Vec, rules}
use Rattle.pb_propagate.proofs.lemmas.engine.Propagated.{undo-next}
use Rattle.pb_propagate.proofs.run.undo_forms.Goals as goal

pub forms-preserved : goal.forms-preserved
forms-preserved c =
    let keep = c.args.store.now.stored.items in let run = c.forms.run in let start = c.args.run.now in
    let same : run.trail.items ≡ start.trail.items = ap (λ (v : Vec ℕ Global). v.items) c.forms.invariant.trail in
    let inside : c.forms.i < length start.trail.items = omega (arith, c.forms-test.true, c.len-i-end.ensures, start.trail.ok.0) in
    let is : c.index-form.result.now ≡ get_or start.trail.items c.forms.i c.index-form.result.now = rw (← same) c.index-form.ensures in
    let undone = undo-next c.args.rests.now keep run.opens run.candidates start.trail.items c.forms.i c.index-form.result.now c.open-opened.result
    c.start.result c.index.result.now inside is c.index.ensures
    (c.open-opened.ensures ∙ ap (get_or c.args.rests.now.opens c.index-form.result.now) c.total.ensures) c.start.ensures c.forms.invariant.opens
    c.forms.invariant.candidates c.forms.invariant.undone in
    search (rules, length-set, undone)
