use Rattle.pb_tool.proofs.Common.{ℕ, ◌++◌, ◌-◌, ◌∙◌, ap, arith, drop, length, List, refl, subst, sym, take, length-drop, all_rest, Checking}
use Rattle.pb_tool.proofs.Common.{AllocatesAt, ChecksAt, fault_of}
use Rattle.pb_tool.proofs.lemmas.check.CheckerSteps as checked
use Rattle.pb_tool.proofs.commands.check.checker.Checker.feed.Goals as goal

pub returns-in-Some-clause-checks : goal.returns-in-Some-clause-checks
returns-in-Some-clause-checks c = checked.stays c.args.self.now c.args.piece.now c.in-Some.fault (ap (λ (x : Checking). fault_of x) (sym c.self.view_is) ∙ c.in-Some.is)

pub returns-then-not-went-clause-checks : goal.returns-then-not-went-clause-checks
returns-then-not-went-clause-checks c =
    let t = rw c.in-Ok.is at c.advance.ensures in let piece = c.args.piece.now in
    let i = c.loop-went.used in (
      λ limits longest v first input owed h.
          subst (λ (x : List ℕ). ChecksAt limits longest v first x c.advance.new.self)
          (ap (λ (x : List ℕ). (input ++ take i piece) ++ x) (checked.to_all c.in-Ok.went.accepted c.in-Ok.went.used (take (length piece - i) (drop i piece)) c.if-not-went.true) ∙ checked.to_end input piece i)
          (t.counts limits longest v first (input ++ take i piece) _ (c.loop-went.invariant.stands limits longest v first input h, refl)).0,
      λ owed. t.open,
    )

pub returns-then-not-went-clause-names : goal.returns-then-not-went-clause-names
returns-then-not-went-clause-names c =
    let t = rw c.in-Ok.is at c.advance.ensures in checked.prefix_on _ _ _ c.loop-went.invariant.names t.names

pub returns-in-Err-clause-names : goal.returns-in-Err-clause-names
returns-in-Err-clause-names c = let t = rw c.in-Err.is at c.advance.ensures in checked.prefix_on _ _ _ c.loop-went.invariant.names t.names

pub loop-went-preserved : goal.loop-went-preserved
loop-went-preserved c =
    let t = rw c.in-Ok.is at c.advance.ensures in let piece = c.args.piece.now in let i = c.loop-went.used in
    record {
      running = t.fault;
      bound = omega (arith, t.used.1, length-drop i piece, ap (λ (x : List ℕ). length x) (all_rest piece i), c.loop-went.invariant.bound);
      offset = omega (arith, t.used.0, c.loop-went.invariant.offset);
      names = checked.prefix_on _ _ _ c.loop-went.invariant.names t.names;
      stands = λ limits longest v first input h.
          subst (λ (x : List ℕ). ChecksAt limits longest v first x c.advance.new.self)
          (ap (λ (x : List ℕ). (input ++ take i piece) ++ x) (checked.to_more c.in-Ok.went.accepted c.in-Ok.went.used (take (length piece - i) (drop i piece)) c.if-not-went.false) ∙ checked.onward_by input piece i c.in-Ok.went.used)
          (t.counts limits longest v first (input ++ take i piece) _ (c.loop-went.invariant.stands limits longest v first input h, refl)).0;
    }

pub returns-in-Err-clause-checks : goal.returns-in-Err-clause-checks
returns-in-Err-clause-checks c =
    let t = rw c.in-Err.is at c.advance.ensures in (
      λ limits longest v first input owed h.
          subst (λ (x : List ℕ). ChecksAt limits longest v first x c.advance.new.self) (checked.to_end input c.args.piece.now c.loop-went.used)
          (t.counts limits longest v first (input ++ take c.loop-went.used c.args.piece.now) _ (c.loop-went.invariant.stands limits longest v first input h, refl)).0,
      λ owed. t.open,
    )

pub returns-in-Err-clause-unread : goal.returns-in-Err-clause-unread
returns-in-Err-clause-unread c none = let t = rw c.in-Err.is at c.advance.ensures in t.unread

pub returns-in-Err-clause-memory : goal.returns-in-Err-clause-memory
returns-in-Err-clause-memory c limits longest v first input none h =
    let t = rw c.in-Err.is at c.advance.ensures in
    subst (λ (x : List ℕ). AllocatesAt limits x c.in-Err.fault) (checked.to_end input c.args.piece.now c.loop-went.used)
    (t.memory limits longest v first (input ++ take c.loop-went.used c.args.piece.now) c.loop-went.invariant.running (c.loop-went.invariant.stands limits longest v first input h))
