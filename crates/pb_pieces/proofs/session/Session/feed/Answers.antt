use Rattle.pb_pieces.proofs.Common.{ℕ, ◌++◌, ◌-◌, ◌∙◌, ap, arith, drop, length, List, subst, take, length-drop, onward_by, to_all, to_end, to_more, IsSession}
use Rattle.{pb_pieces.proofs.Fed.fed_again, pb_text.proofs.lemmas.text.Spans.all_rest}
use Rattle.pb_pieces.proofs.session.Session.feed.Goals as goal

pub returns-in-Some-clause-fed : goal.returns-in-Some-clause-fed
returns-in-Some-clause-fed c limits longest i fed s = fed_again limits longest i fed c.args.piece.now c.args.self.now c.in-Some.fault c.in-Some.is s

pub returns-then-not-went-clause-fed : goal.returns-then-not-went-clause-fed
returns-then-not-went-clause-fed c limits longest i fed s =
    let t = rw c.in-Ok.is at c.step.ensures in
    let piece = c.args.piece.now in let n = c.loop-went.used in
    subst (λ (x : List ℕ). IsSession limits longest i x c.step.new.self)
    (ap (λ (x : List ℕ). (fed ++ take n piece) ++ x) (to_all c.in-Ok.went.accepted c.in-Ok.went.used (take (length piece - n) (drop n piece)) c.if-not-went.true) ∙ to_end fed piece n)
    (t.fed limits longest i (fed ++ take n piece) (c.loop-went.invariant.stands limits longest i fed s))

pub returns-in-Err-clause-fed : goal.returns-in-Err-clause-fed
returns-in-Err-clause-fed c limits longest i fed s =
    let t = rw c.in-Err.is at c.step.ensures in
    subst (λ (x : List ℕ). IsSession limits longest i x c.step.new.self) (to_end fed c.args.piece.now c.loop-went.used)
    (t.fed limits longest i (fed ++ take c.loop-went.used c.args.piece.now) (c.loop-went.invariant.stands limits longest i fed s))

pub loop-went-preserved : goal.loop-went-preserved
loop-went-preserved c =
    let t = rw c.in-Ok.is at c.step.ensures in
    let piece = c.args.piece.now in let n = c.loop-went.used in
    record {
      running = t.fault;
      bound = omega (arith, t.used.1, length-drop n piece, ap (λ (x : List ℕ). length x) (all_rest piece n), c.loop-went.invariant.bound);
      offset = omega (arith, t.used.0, c.loop-went.invariant.offset);
      stands = λ limits longest i fed s.
          subst (λ (x : List ℕ). IsSession limits longest i x c.step.new.self)
          (ap (λ (x : List ℕ). (fed ++ take n piece) ++ x) (to_more c.in-Ok.went.accepted c.in-Ok.went.used (take (length piece - n) (drop n piece)) c.if-not-went.false) ∙ onward_by fed piece n c.in-Ok.went.used)
          (t.fed limits longest i (fed ++ take n piece) (c.loop-went.invariant.stands limits longest i fed s));
    }
