use Rattle.pb_tool.proofs.Common.{constraints_in, names_on}
use Rattle.pb_tool.proofs.lemmas.tidy.NormalFile.{noted_comment, noted_constraint, noted_header, noted_objective}
use Rattle.pb_tool.proofs.commands.tidy.normal_text.NormalTextGather.add.Goals as goal

pub invariant_of-self : goal.invariant_of-self
invariant_of-self c =
    let t = c.self.inside in
    rw (c.and-self-inside.ensures, c.in-Header.is) (noted_header t.notes.events t.variables t.objective t.forms c.self.invariant c.in-Header.variables _ _)

pub invariant_of-self-in-Comment : goal.invariant_of-self-in-Comment
invariant_of-self-in-Comment c =
    let t = c.self.inside in
    rw (c.and-self-inside.ensures, c.in-Comment.is) (noted_comment t.notes.events t.variables t.objective t.forms c.self.invariant _)

pub invariant_of-self-in-Objective : goal.invariant_of-self-in-Objective
invariant_of-self-in-Objective c =
    let t = c.self.inside in
    let made = rw c.as_slice.ensures at (c.number.ensures.made (names_on t.notes.events) (constraints_in t.notes.events) c.self.invariant.made) in
    rw (c.and-self-inside.ensures, c.in-Objective.is) (noted_objective t.notes.events t.variables t.objective t.forms c.self.invariant c.in-Objective.terms c.number.new.self made)

pub invariant_of-self-in-Constraint : goal.invariant_of-self-in-Constraint
invariant_of-self-in-Constraint c =
    let t = c.self.inside in
    let made = c.add.ensures.made (names_on t.notes.events) (constraints_in t.notes.events) c.self.invariant.made in
    rw (c.and-self-inside.ensures, c.in-Constraint.is) (noted_constraint t.notes.events t.variables t.objective t.forms c.self.invariant c.in-Constraint.linear c.add.new.self made)
