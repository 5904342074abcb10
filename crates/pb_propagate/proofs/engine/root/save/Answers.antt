use Rattle.pb_propagate.proofs.Common.{rules, ◌<◌, ◌∙◌, ap, arith, length, length-set, Rests}
use Rattle.pb_propagate.proofs.lemmas.root.Ready.{keep-next, keep-all}
use Rattle.pb_propagate.proofs.engine.root.save.Goals as goal

pub forms-preserved : goal.forms-preserved
forms-preserved c =
    let run = c.args.run.now in let rests = c.forms.rests in let form = c.index-form.result.now in
    let u = c.forms.invariant.undone in
    let inside : c.forms.i < length run.trail.items = omega (arith, c.forms-test.true, c.len-i-end.ensures, run.trail.ok.0) in
    let room : form < length run.opens = omega (arith, u.2.named c.forms.i form inside, c.index-form.ensures, u.1) in
    let next = λ (rests' : Rests). keep-next rests rests' u.0 run.opens run.candidates run.trail.items c.forms.i form c.get.result
    c.get-in-forms.result inside c.index-form.ensures room (omega (arith, room, c.requires.sizes)) (c.get.ensures c.get.result) (c.get-in-forms.ensures c.get-in-forms.result)
    c.forms.invariant.opens c.forms.invariant.starts in
    let opens = ap length c.set.ensures ∙ (length-set rests.opens form c.get.result ∙ c.forms.invariant.opens) in
    let starts = ap length c.set-in-forms.ensures ∙ (length-set rests.starts form c.get-in-forms.result ∙ c.forms.invariant.starts) in
    search (rules, u.1, next, u.2, opens, starts)

pub returns : goal.returns
returns c =
    let run = c.args.run.now in let u = c.forms.invariant.undone in
    let all = keep-all c.forms.rests u.0 run.opens run.candidates run.trail.items c.forms.i in
    grind (arith, all, c.forms-test.false, c.len-i-end.ensures, run.trail.ok.0, u.1, u.2)
