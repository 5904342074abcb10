-- The line machines as one automaton.
use Rattle.pb_proof.specs.declared.{line.LineMachine.LineMachine, machine.phase.LineKind.LineKind, statement.Statement.Statement}
use Rattle.pb_proof.specs.engine.line.{Carried.carried, Pol.pol_automaton, Pol.pol_first, Rup.rup_automaton, Rup.rup_first}
use Rattle.pb_proof.specs.engine.line.{Conclusion.conclusion_automaton, Conclusion.conclusion_first, Delete.delete_first, Solution.solution_automaton}
use Rattle.pb_proof.specs.engine.line.{Delete.delete_automaton, Formula.formula_automaton, Formula.formula_first, Solution.solution_first}
use Rattle.pb_proof.specs.meaning.Lines.{SpellsCount, SpellsWords, SpellsRup, SpellsLiterals, SpellsIds, SpellsConclusionLine}
use Rattle.pb_text.specs.{contract.Automaton.Automaton, contract.Automaton.Next, declared.machine.Push.Push, meaning.Languages.Language}
use Rattle.std.specs.Prelude.{◌≡◌, ℕ}

-- an answer of a machine, as an answer of another one, if its events give these
abbrev pub IsCarried : {E F : Type 0} → (E → F → Type 0) → Push E → Push F → Type 0
IsCarried gives Push.Go r = r ≡ Push.Go
IsCarried gives (Push.Event e) r = (f : _) × gives e f × (r ≡ Push.Event f)
IsCarried gives Push.No r = r ≡ Push.No
IsCarried gives Push.Large r = r ≡ Push.Large
IsCarried gives Push.Memory r = r ≡ Push.Memory

abbrev pub line_step : LineMachine → ℕ → Next LineMachine Statement
line_step (LineMachine.Formula s) b = carried LineMachine.Formula Statement.F (λ e. LineMachine.Formula) (formula_automaton.step s b)
line_step (LineMachine.Pol s) b = carried LineMachine.Pol Statement.Pol (λ e. LineMachine.Pol) (pol_automaton.step s b)
line_step (LineMachine.Rup s) b = carried LineMachine.Rup Statement.Rup (λ e. LineMachine.Rup) (rup_automaton.step s b)
line_step (LineMachine.Soli s) b = carried LineMachine.Soli Statement.Soli (λ e. LineMachine.Soli) (solution_automaton.step s b)
line_step (LineMachine.Solx s) b = carried LineMachine.Solx Statement.Solx (λ e. LineMachine.Solx) (solution_automaton.step s b)
line_step (LineMachine.Delete s) b = carried LineMachine.Delete Statement.Delete (λ e. LineMachine.Delete) (delete_automaton.step s b)
line_step (LineMachine.Conclusion s) b = carried LineMachine.Conclusion Statement.Conclude (λ e. LineMachine.Conclusion) (conclusion_automaton.step s b)

-- the answer of the machine that reads
abbrev pub line_asked : {A : Type 0} → ((S E : Type 0) → Automaton S E → S → A) → LineMachine → A
line_asked ask (LineMachine.Formula s) = ask _ _ formula_automaton s
line_asked ask (LineMachine.Pol s) = ask _ _ pol_automaton s
line_asked ask (LineMachine.Rup s) = ask _ _ rup_automaton s
line_asked ask (LineMachine.Soli s) = ask _ _ solution_automaton s
line_asked ask (LineMachine.Solx s) = ask _ _ solution_automaton s
line_asked ask (LineMachine.Delete s) = ask _ _ delete_automaton s
line_asked ask (LineMachine.Conclusion s) = ask _ _ conclusion_automaton s

abbrev pub line_automaton : Automaton LineMachine Statement
line_automaton = record {
  step = line_step;
  done = line_asked (λ S E m s. m.done s);
  begun = line_asked (λ S E m s. m.begun s);
  in_number = line_asked (λ S E m s. m.in_number s);
  asks = λ i b. line_asked (λ S E m s. m.asks s b) i;
  kept = line_asked (λ S E m s. m.kept s);
  spent = line_asked (λ S E m s. m.spent s);
}

-- the line machine at the start of its text
abbrev pub line_first : ℕ → ℕ → LineKind → LineMachine
line_first limit top LineKind.Formula = LineMachine.Formula (formula_first limit top)
line_first limit top LineKind.Pol = LineMachine.Pol (pol_first limit top)
line_first limit top LineKind.Rup = LineMachine.Rup (rup_first limit)
line_first limit top LineKind.Soli = LineMachine.Soli (solution_first limit top)
line_first limit top LineKind.Solx = LineMachine.Solx (solution_first limit top)
line_first limit top LineKind.Delete = LineMachine.Delete (delete_first limit top)
line_first limit top LineKind.Conclusion = LineMachine.Conclusion (conclusion_first limit top)

-- the text after the first word of a statement
module _ (limit top : ℕ) where
  abbrev pub SpellsRest : LineKind → Statement → Language
  SpellsRest LineKind.Formula (Statement.F count) = SpellsCount limit top count
  SpellsRest LineKind.Pol (Statement.Pol ws) = SpellsWords limit top ws
  SpellsRest LineKind.Rup (Statement.Rup c) = SpellsRup limit top c
  SpellsRest LineKind.Soli (Statement.Soli ls) = SpellsLiterals limit top ls
  SpellsRest LineKind.Solx (Statement.Solx ls) = SpellsLiterals limit top ls
  SpellsRest LineKind.Delete (Statement.Delete ids) = SpellsIds limit top ids
  SpellsRest LineKind.Conclusion (Statement.Conclude c) = SpellsConclusionLine limit top c
  SpellsRest _ _ = λ t. ⊥
