use Rattle.{pb_propagate.proofs.Common.◌∙◌, pb_propagate.proofs.Common.ap, pb_propagate.proofs.Common.Standing, std.proofs.lemmas.Option.IfSome_then}
use Rattle.pb_propagate.proofs.lemmas.engine.{Bridge.refuted-meets, Bridge.ended-completion, Reasoned.reasons-derive}
use Rattle.pb_propagate.proofs.lemmas.root.{Kept.kept-conflicts, Ready.rest-kept, Rooted.clash-refuted, Rooted.root-clash, Rooted.map-none}
use Rattle.pb_propagate.proofs.engine.Engine.complete.Goals as goal

pub returns-clause-conflict : goal.returns-clause-conflict
returns-clause-conflict c =
    let both = c.self.invariant (ap (λ (v : Standing). v.spent) c.self.view_is ∙ c.requires.ready) in
    rw (← c.self.view_is) (map-none c.in_ok-values.values (λ clash. refuted-meets _ _ c.args.given.now clash.0 (rest-kept both.0 both.1) clash.1) c.in_ok-values.ensures.clash)

pub returns-clause-no_conflict : goal.returns-clause-no_conflict
returns-clause-no_conflict c =
    let both = c.self.invariant (ap (λ (v : Standing). v.spent) c.self.view_is ∙ c.requires.ready) in
    rw (← c.self.view_is) (IfSome_then c.in_ok-values.values c.in_ok-values.ensures.ended (λ values made. (ended-completion _ _ c.args.given.now made.list values.items (rest-kept both.0 both.1) made.agrees made.ended).1))

pub returns-clause-completed : goal.returns-clause-completed
returns-clause-completed c =
    let both = c.self.invariant (ap (λ (v : Standing). v.spent) c.self.view_is ∙ c.requires.ready) in
    rw (← c.self.view_is) (IfSome_then c.in_ok-values.values c.in_ok-values.ensures.ended (λ values made. (ended-completion _ _ c.args.given.now made.list values.items (rest-kept both.0 both.1) made.agrees made.ended).0))

-- a conflict of the root
pub returns-then-self-clause-conflict : goal.returns-then-self-clause-conflict
returns-then-self-clause-conflict c =
    let both = c.self.invariant (ap (λ (v : Standing). v.spent) c.self.view_is ∙ c.requires.ready) in
    let h = both.3.holds c.if-self.true in
    let clash = clash-refuted _ _ c.args.given.now (reasons-derive h.reasoned) (root-clash _ _ c.args.given.now (kept-conflicts _ _ h)) in
    rw (← c.self.view_is) (refuted-meets _ _ c.args.given.now clash.0 (rest-kept both.0 both.1) clash.1)
