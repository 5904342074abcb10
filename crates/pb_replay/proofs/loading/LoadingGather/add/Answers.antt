use Rattle.pb_opb.specs.meaning.Values.{constraints_in}
use Rattle.pb_replay.proofs.lemmas.rules.Loading.{stored-comment, stored-constraint, stored-header, stored-objective}
use Rattle.pb_replay.specs.contract.Loading.{names_on}
use Rattle.pb_replay.proofs.loading.LoadingGather.add.Goals as goal

pub invariant_of-self : goal.invariant_of-self
invariant_of-self c =
    let l = c.self.inside in
    rw (c.and-self-inside.ensures, c.in-Header.is) (stored-header l.notes.events l.objective l.forms c.self.invariant c.in-Header.variables _ _)

pub invariant_of-self-in-Comment : goal.invariant_of-self-in-Comment
invariant_of-self-in-Comment c =
    let l = c.self.inside in
    rw (c.and-self-inside.ensures, c.in-Comment.is) (stored-comment l.notes.events l.objective l.forms c.self.invariant _)

pub invariant_of-self-in-Objective : goal.invariant_of-self-in-Objective
invariant_of-self-in-Objective c =
    let l = c.self.inside in
    let made = rw c.as_slice.ensures at (c.number.ensures.made (names_on l.notes.events) (constraints_in l.notes.events) c.self.invariant.made) in
    rw (c.and-self-inside.ensures, c.in-Objective.is) (stored-objective l.notes.events l.objective l.forms c.self.invariant c.in-Objective.terms c.number.new.self made)

pub invariant_of-self-in-Constraint : goal.invariant_of-self-in-Constraint
invariant_of-self-in-Constraint c =
    let l = c.self.inside in
    let made = c.add.ensures.made (names_on l.notes.events) (constraints_in l.notes.events) c.self.invariant.made in
    rw (c.and-self-inside.ensures, c.in-Constraint.is) (stored-constraint l.notes.events l.objective l.forms c.self.invariant c.in-Constraint.linear c.add.new.self made)
