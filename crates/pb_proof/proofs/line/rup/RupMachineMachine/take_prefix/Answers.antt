use Rattle.pb_proof.proofs.Common.{ℕ, ◌≡◌, arith, subst, take, runs_on, Runs, rup_automaton}
use Rattle.pb_proof.proofs.line.rup.RupMachineMachine.take_prefix.Goals as goal

pub returns-then-try_continue-clause-runs : goal.returns-then-try_continue-clause-runs
returns-then-try_continue-clause-runs c =
    let none : c.give_prefix-length.result ≡ 0 = omega arith in
    let same = subst (λ (n : ℕ). Runs rup_automaton c.args.self.now (take n c.args.piece.now) c.give_prefix-length.new.self) none c.give_prefix-length.ensures.runs in
    runs_on rup_automaton c.args.self.now c.args.piece.now 0 c.give_prefix-length.new.self c.try_continue.new.self c.requires same c.if-try_continue.ensures.continues c.try_continue.ensures.state
