use Rattle.pb_text.proofs.Common.{ℕ, ◌-◌, ◌≡◌, ◌≤◌, arith, length, length-take, length-take-le, List, min, take, take-take}
use Rattle.pb_text.proofs.lemmas.{feeder.Steps.running, feeder.Steps.end_at, machine.Running.stands_run, machine.Running.place_fits}
use Rattle.pb_text.proofs.feeder.Feeder.feed_body.Goals as goal

-- the number of bytes that were taken, and that they are those of the piece
taken_are : (used room : ℕ) (piece : List ℕ) → used ≤ length (take (min (length piece) room) piece)
    → (take used (take (min (length piece) room) piece) ≡ take used piece) × (length (take used piece) ≡ used) × (used ≤ length piece) × (used ≤ room)
taken_are used room piece h = grind (arith, length-take, take-take, length-take-le)

pub invariant_of-self : goal.invariant_of-self
invariant_of-self g c =
    let f = c.args.self.now in let used = c.take_run-used.result in
    let t = taken_are used (f.end - f.place.offset) c.args.piece.now (rw c.min.ensures at c.take_run-used.ensures.bound) in
    let q = place_fits f.place c.past-self.result (take used c.args.piece.now) used f.end (rw (c.min.ensures, t.0) at c.past-self.ensures) t.1 t.3 f.offset_in_range f.line_in_range f.column_in_range in
    record { some = f.some; end_is = f.end_is; offset_in_range = q.0; line_in_range = q.1; column_in_range = q.2 }

pub returns-clause-stands : goal.returns-clause-stands
returns-clause-stands g c longest start input spans s = grind (arith, taken_are, c.min.ensures, c.take_run-used.ensures.bound, g.M.Machine.automaton, c.take_run-used.ensures.runs, end_at, stands_run, running, c.requires.running, c.requires.unfinished, c.if-is_none.ensures, c.past-self.ensures, s.0)

pub returns-clause-offset : goal.returns-clause-offset
returns-clause-offset g c =
    let f = c.args.self.now in let used = c.take_run-used.result in
    let t = taken_are used (f.end - f.place.offset) c.args.piece.now (rw c.min.ensures at c.take_run-used.ensures.bound) in
    let q = place_fits f.place c.past-self.result (take used c.args.piece.now) used f.end (rw (c.min.ensures, t.0) at c.past-self.ensures) t.1 t.3 f.offset_in_range f.line_in_range f.column_in_range in
    q.3
