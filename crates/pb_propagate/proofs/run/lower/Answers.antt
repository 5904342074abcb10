use Rattle.pb_propagate.proofs.Common.{ℕ, ◌-◌, ◌∙◌, ◌≡◌, ap, arith, get_or, refl, subst, sym, IsCalm, shapes_of}
use Rattle.pb_propagate.proofs.lemmas.engine.Propagated.{grown-by, idle-at, changed-at, weight-read}
use Rattle.pb_propagate.proofs.run.lower.Goals as goal

pub returns-clause-lowers : goal.returns-clause-lowers
returns-clause-lowers c =
    let keep = c.args.store.now.stored.items in let run = c.args.run.now in let opens = run.opens in
    let e = c.args.entry in let k = c.index-kept.result.now in
    let weight = weight-read keep e.form e.index k c.weight_of.result c.requires.form c.index-kept.ensures c.weight_of.ensures in
    let lower : get_or opens e.form 0 ≡ c.get-opened.result = sym (c.get-opened.ensures 0) in
    let work = grown-by e.form run.work.items _ (λ low d i. subst (λ (w : ℕ). IsCalm (get_or (shapes_of keep) e.form d) (get_or run.opens e.form 0 - w) i) weight
    (idle-at keep run.opens e.form k c.get-opened.result c.weight_of.result c.requires.form c.index-kept.ensures c.requires.inside (c.get-opened.ensures c.get-opened.result)
    (omega (arith, low, c.sums-sums.ensures.bound)) d i)) c.in_ok-queue.ensures in
    let trail = grown-by e.form run.trail.items _ (λ other. changed-at c.args.rests.now keep run.opens e.form k c.get-opened.result c.requires.form
    c.index-kept.ensures c.requires.inside (c.get-opened.ensures c.get-opened.result)
    (λ same. other (same ∙ sym (c.open-rest.ensures ∙ ap (get_or c.args.rests.now.opens e.form) c.sums-sums.ensures.total)))) c.in_ok-note.ensures in
    record { opens = c.set.ensures ∙ rw (lower, ← weight) refl; work = work; trail = trail; candidates = refl; list = refl; next = refl }
