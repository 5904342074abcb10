-- What holds of the machines that read the text after the first word of a statement.
use Rattle.pb_proof.proofs.Common.{ℕ, ◌<◌, ◌^◌, ◌≡◌, false, Blank, IsState, Letter, arith, rules, rup_last, Part, List, LineKind, refl, pol_last, LineMachine}
use Rattle.pb_proof.proofs.Common.{Statement, formula_last, delete_first, delete_last, pol_first, rup_first, Automaton, line_first, SpellsRest}
use Rattle.pb_proof.proofs.Common.{conclusion_automaton, conclusion_first, conclusion_last, formula_automaton, delete_automaton, solution_automaton}
use Rattle.pb_proof.proofs.Common.{first_is_state, ReadsStatement, formula_first, solution_first, solution_last, line_automaton, pol_automaton, rup_automaton}
use Rattle.pb_proof.proofs.lemmas.Carried.{Carries, reads_out, reads_in, state_in, begins_in}
use Rattle.pb_proof.proofs.lemmas.{Delete.delete_of_one, Delete.delete_is_state, Delete.delete_first_in_order, Solution.solution_of_one, Solution.solution_reads, Solution.solution_is_state, Solution.solution_first_in_order}
use Rattle.{pb_proof.proofs.lemmas.Delete.delete_reads, pb_text.proofs.lemmas.machine.Living.BeginsAtOnce}
use Rattle.pb_proof.proofs.lemmas.{Formula.formula_reads, Formula.formula_of_one, Formula.formula_is_state, Formula.formula_first_in_order, Rup.rup_is_state, Rup.rup_begins, Rup.rup_reads}
use Rattle.pb_proof.proofs.lemmas.conclusion.Theorems.{conclusion_of_one, conclusion_reads, conclusion_is_state, conclusion_first_in_order}
use Rattle.pb_proof.proofs.lemmas.pol.Theorems.{pol_reads, of_one, pol_is_state, pol_first_in_order}
use Rattle.pb_proof.specs.declared.machine.phase.LineKind.TheVariants.{Formula, Pol, Rup, Soli, Solx, Delete, Conclusion}

pub formula_carries : Carries formula_automaton line_automaton LineMachine.Formula Statement.F
formula_carries = search (rules, formula_of_one.begins)

pub pol_carries : Carries pol_automaton line_automaton LineMachine.Pol Statement.Pol
pol_carries = search (rules, of_one.begins)

pub rup_carries : Carries rup_automaton line_automaton LineMachine.Rup Statement.Rup
rup_carries = search (rules, rup_begins)

pub soli_carries : Carries solution_automaton line_automaton LineMachine.Soli Statement.Soli
soli_carries = search (rules, solution_of_one.begins)

pub solx_carries : Carries solution_automaton line_automaton LineMachine.Solx Statement.Solx
solx_carries = search (rules, solution_of_one.begins)

pub delete_carries : Carries delete_automaton line_automaton LineMachine.Delete Statement.Delete
delete_carries = search (rules, delete_of_one.begins)

pub conclusion_carries : Carries conclusion_automaton line_automaton LineMachine.Conclusion Statement.Conclude
conclusion_carries = search (rules, conclusion_of_one.begins)

-- Each begins its text with the first byte.
pub line_begins : BeginsAtOnce line_automaton
line_begins (LineMachine.Formula s) next b e = begins_in _ _ _ _ formula_carries s next b e
line_begins (LineMachine.Pol s) next b e = begins_in _ _ _ _ pol_carries s next b e
line_begins (LineMachine.Rup s) next b e = begins_in _ _ _ _ rup_carries s next b e
line_begins (LineMachine.Soli s) next b e = begins_in _ _ _ _ soli_carries s next b e
line_begins (LineMachine.Solx s) next b e = begins_in _ _ _ _ solx_carries s next b e
line_begins (LineMachine.Delete s) next b e = begins_in _ _ _ _ delete_carries s next b e
line_begins (LineMachine.Conclusion s) next b e = begins_in _ _ _ _ conclusion_carries s next b e

module _ (limit top : ℕ) where
  -- What a new line machine reads, the machine of the line reads.
  within : {S E : Type 0} (m : Automaton S E) (into : S → LineMachine) (event : E → Statement) → Carries m line_automaton into event → (start : S) (r : LineKind) (t : List Letter) (e : Statement) (after : LineMachine)
      → ReadsStatement line_automaton (into start) t e after → ((c : E) (last : S) → ReadsStatement m start t c last → SpellsRest limit top r (event c) t) → SpellsRest limit top r e t
  within m into event carries start r t e after h f = grind (arith, reads_out)

  -- It is the text after the first word.
  pub line_only : (r : LineKind) (t : List Letter) (e : Statement) (after : LineMachine) → ReadsStatement line_automaton (line_first limit top r) t e after → SpellsRest limit top r e t
  line_only Formula t e after h = within _ _ _ formula_carries (formula_first limit top) Formula t e after h (λ c last k. ((formula_reads limit top t c last).0 k).0)
  line_only Pol t e after h = within _ _ _ pol_carries (pol_first limit top) Pol t e after h (λ c last k. ((pol_reads limit top t c last).0 k).0)
  line_only Rup t e after h = within _ _ _ rup_carries (rup_first limit) Rup t e after h (λ c last k. ((rup_reads limit top t c last).0 k).0)
  line_only Soli t e after h = within _ _ _ soli_carries (solution_first limit top) Soli t e after h (λ c last k. ((solution_reads limit top t c last).0 k).0)
  line_only Solx t e after h = within _ _ _ solx_carries (solution_first limit top) Solx t e after h (λ c last k. ((solution_reads limit top t c last).0 k).0)
  line_only Delete t e after h = within _ _ _ delete_carries (delete_first limit top) Delete t e after h (λ c last k. ((delete_reads limit top t c last).0 k).0)
  line_only Conclusion t e after h =
      within _ _ _ conclusion_carries (conclusion_first limit top) Conclusion t e after h (λ c last k. ((conclusion_reads limit top t c last).0 k).0)

  pub line_each : (r : LineKind) (t : List Letter) (e : Statement) → SpellsRest limit top r e t → (after : LineMachine) × ReadsStatement line_automaton (line_first limit top r) t e after
  line_each Formula t (Statement.F c) h = (LineMachine.Formula (formula_last limit top), reads_in _ _ _ _ _ formula_carries.nests t (formula_first limit top) c (formula_last limit top) ((formula_reads limit top t c (formula_last limit top)).1 (h, refl)))
  line_each Pol t (Statement.Pol c) h = (LineMachine.Pol (pol_last limit top), reads_in _ _ _ _ _ pol_carries.nests t (pol_first limit top) c (pol_last limit top) ((pol_reads limit top t c (pol_last limit top)).1 (h, refl)))
  line_each Rup t (Statement.Rup c) h = (LineMachine.Rup (rup_last limit), reads_in _ _ _ _ _ rup_carries.nests t (rup_first limit) c (rup_last limit) ((rup_reads limit top t c (rup_last limit)).1 (h, refl)))
  line_each Soli t (Statement.Soli c) h = (LineMachine.Soli (solution_last limit top), reads_in _ _ _ _ _ soli_carries.nests t (solution_first limit top) c (solution_last limit top) ((solution_reads limit top t c (solution_last limit top)).1 (h, refl)))
  line_each Solx t (Statement.Solx c) h = (LineMachine.Solx (solution_last limit top), reads_in _ _ _ _ _ solx_carries.nests t (solution_first limit top) c (solution_last limit top) ((solution_reads limit top t c (solution_last limit top)).1 (h, refl)))
  line_each Delete t (Statement.Delete c) h = (LineMachine.Delete (delete_last limit top), reads_in _ _ _ _ _ delete_carries.nests t (delete_first limit top) c (delete_last limit top) ((delete_reads limit top t c (delete_last limit top)).1 (h, refl)))
  line_each Conclusion t (Statement.Conclude c) h = (LineMachine.Conclusion (conclusion_last limit top), reads_in _ _ _ _ _ conclusion_carries.nests t (conclusion_first limit top) c (conclusion_last limit top) ((conclusion_reads limit top t c (conclusion_last limit top)).1 (h, refl)))
  line_each _ t _ h = absurd h

  -- A new one has not begun, has not ended, and reads no number.
  pub line_fresh : (r : LineKind) → (line_automaton.done (line_first limit top r) ≡ false) × (line_automaton.begun (line_first limit top r) ≡ false) × (line_automaton.in_number (line_first limit top r) ≡ false)
  line_fresh r = grind arith

  -- A new one satisfies `IsState`, if there are ids.
  pub line_first_state : limit < 2 ^ 127 → top < 2 ^ 63 → 0 < top → (r : LineKind) → IsState line_automaton (line_first limit top r)
  line_first_state l t some Formula = state_in _ _ _ _ formula_carries (formula_first limit top) (formula_is_state (formula_first limit top) (formula_first_in_order limit top l t some))
  line_first_state l t some Pol = state_in _ _ _ _ pol_carries (pol_first limit top) (pol_is_state (pol_first limit top) (pol_first_in_order limit top l t some))
  line_first_state l t some Rup = state_in _ _ _ _ rup_carries (rup_first limit) (rup_is_state (rup_first limit) (record { holds = (refl, refl); state = first_is_state Blank Part.AtLeast limit }))
  line_first_state l t some Soli = state_in _ _ _ _ soli_carries (solution_first limit top) (solution_is_state (solution_first limit top) (solution_first_in_order limit top l t some))
  line_first_state l t some Solx = state_in _ _ _ _ solx_carries (solution_first limit top) (solution_is_state (solution_first limit top) (solution_first_in_order limit top l t some))
  line_first_state l t some Delete = state_in _ _ _ _ delete_carries (delete_first limit top) (delete_is_state (delete_first limit top) (delete_first_in_order limit top l t some))
  line_first_state l t some Conclusion = state_in _ _ _ _ conclusion_carries (conclusion_first limit top) (conclusion_is_state (conclusion_first limit top) (conclusion_first_in_order limit top l t some))
