use Rattle.pb_sums.proofs.Common.{◌∙◌, refl, sym, take, Phase}
use Rattle.pb_sums.proofs.lemmas.{machine.States.midway_state, prefixes.Digits.none_there, prefixes.TermParts.relation_runs, prefixes.TermParts.spaced_relation_runs}
use Rattle.pb_sums.proofs.machine.SumMachine.take_relation.Goals as goal

pub returns-clause-state : goal.returns-clause-state
returns-clause-state c = midway_state c.self.inside.spaces c.self.inside.part c.self.inside.limit c.self.inside.terms c.self.inside.name (Phase.Relation c.in-Some.relation) tt refl

pub returns-clause-runs : goal.returns-clause-runs
returns-clause-runs c =
    let i = c.self.inside in
    rw (← c.self.view_is) (relation_runs i.spaces i.part i.limit i.terms i.name i.phase (take c.in-Some.length c.args.text.now) c.in-Some.relation
    (sym c.if-not-begins_relation.ensures) (sym c.as_bytes.ensures ∙ none_there c.as_bytes.result.now (sym c.if-not-is_empty.ensures))
    c.in-Some.ensures.allowed c.in-Some.ensures.relation)

pub returns-then-text-length-eq32-clause-state : goal.returns-then-text-length-eq32-clause-state
returns-then-text-length-eq32-clause-state c = midway_state c.self.inside.spaces c.self.inside.part c.self.inside.limit c.self.inside.terms c.self.inside.name (Phase.Relation c.in-Some.relation) tt refl

pub returns-then-text-length-eq32-clause-runs : goal.returns-then-text-length-eq32-clause-runs
returns-then-text-length-eq32-clause-runs c =
    let i = c.self.inside in
    rw (← c.self.view_is) (spaced_relation_runs i.spaces i.part i.limit i.terms i.name i.phase c.args.text.now c.in-Some.length c.in-Some.relation
    (sym c.if-not-begins_relation.ensures) (sym c.as_bytes.ensures ∙ none_there c.as_bytes.result.now (sym c.if-not-is_empty.ensures))
    c.in-Some.ensures.allowed c.in-Some.ensures.relation c.if-length-text.true c.if-text-length-eq32.true)
