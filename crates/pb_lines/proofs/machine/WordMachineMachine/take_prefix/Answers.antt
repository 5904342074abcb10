use Rattle.pb_lines.proofs.Common.{ℕ, ◌≡◌, arith, subst, take, runs_on, Runs}
use Rattle.pb_lines.proofs.machine.WordMachineMachine.take_prefix.Goals as goal
use Rattle.pb_lines.specs.engine.Words.{words_automaton}

pub returns-then-try_continue-clause-runs : goal.returns-then-try_continue-clause-runs
returns-then-try_continue-clause-runs g c =
    let m = words_automaton g.W.WordList.grammar in
    let none : c.take_words-taken.result ≡ 0 = omega arith in
    let same = subst (λ (n : ℕ). Runs m c.args.self.now (take n c.args.piece.now) c.take_words-taken.new.self) none c.take_words-taken.ensures.runs in
    runs_on m c.args.self.now c.args.piece.now 0 c.take_words-taken.new.self c.try_continue.new.self c.requires same c.if-try_continue.ensures.continues c.try_continue.ensures.state
