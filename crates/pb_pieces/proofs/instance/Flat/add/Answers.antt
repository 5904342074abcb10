use Rattle.pb_pieces.proofs.Common.{ℕ, ℤ, ◌++◌, ◌+◌, ◌∙◌, ◌∷◌, ◌≡◌, [], ap, length, of_z, pos, rules, subst, sym, to_z, OpbEvent, HoldAll, places_of}
use Rattle.pb_pieces.proofs.Common.{row_in, rows_from, span_in, terms_in, terms_of, Span, Row}
use Rattle.pb_pieces.proofs.Statements.{holds_row, holds_same}
use mir.Syntax.{w128}
use Rattle.pb_pieces.proofs.instance.Flat.add.Goals as goal

pub returns-in-Header : goal.returns-in-Header
returns-in-Header c ms h = holds_same ms c.args.read.now c.args.self.now (search rules) (search rules) (search rules) h

pub returns-in-Header-2 : goal.returns-in-Header-2
returns-in-Header-2 c ms h = holds_same ms c.args.read.now c.args.self.now (search rules) (search rules) (search rules) h

pub returns-in_ok-push-in-Objective : goal.returns-in_ok-push-in-Objective
returns-in_ok-push-in-Objective c ms h =
    holds_row ms c.args.read.now c.push.new.self 0 c.in-Objective.terms (pos 0) (ap terms_in c.in-Objective.is)
    (ap (λ (e : OpbEvent). row_in (length (terms_of ms)) e) c.in-Objective.is) (ap (λ (e : OpbEvent). span_in c.args.read.now e) c.in-Objective.is)
    (c.in_ok-push-in-Objective.ensures (terms_of ms) (rows_from 0 ms) (places_of ms) h)

pub returns-in_ok-push-in-Constraint : goal.returns-in_ok-push-in-Constraint
returns-in_ok-push-in-Constraint c ms h =
    let d : ℤ = c.in-Constraint.linear.degree in
    let kept : to_z w128 (of_z w128 d) ≡ d = search rules in
    holds_row ms c.args.read.now c.push-in-Constraint.new.self c.kind_code.result c.in-Constraint.linear.terms d (ap terms_in c.in-Constraint.is)
    (ap (λ (e : OpbEvent). row_in (length (terms_of ms)) e) c.in-Constraint.is
    ∙ ap (λ (k : ℕ). let r : Row = record { kind = k; end = length (terms_of ms) + length c.in-Constraint.linear.terms; degree = d } in r ∷ []) (sym c.kind_code.ensures))
    (ap (λ (e : OpbEvent). span_in c.args.read.now e) c.in-Constraint.is)
    (subst (λ (z : ℤ). HoldAll (terms_of ms ++ c.in-Constraint.linear.terms) (rows_from 0 ms ++ (let r : Row = record { kind = c.kind_code.result; end = length (terms_of ms ++ c.in-Constraint.linear.terms); degree = z } in r) ∷ [])
    (places_of ms ++ (let x : Span = record { first = c.args.read.now.first; past = c.args.read.now.past } in x) ∷ []) c.push-in-Constraint.new.self) kept
    (c.in_ok-push-in-Constraint.ensures (terms_of ms) (rows_from 0 ms) (places_of ms) h))
