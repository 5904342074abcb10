use Rattle.pb_propagate.proofs.Common.{false, sum_by, ◌+◌, ◌*◌, ◌∙◌, ◌≡◌, ◌≤◌, [], ap, arith, inl, inr, length, List, of_z, pos, refl, true, w128}
use Rattle.pb_propagate.proofs.Common.{NumberedLiteral, negation_of, all_of, forms_of, Live, one_in, Standing, terms_in, alone, numbered, IsCompletion}
use Rattle.pb_propagate.proofs.Common.{MeetsConflict, With, ℕ, ◌++◌, ◌∷◌, Bool, sym, Option, Some, both_ways, Form, Shape, AreSlots, IsAsked, posed, ArePlaced}
use Rattle.pb_propagate.proofs.Common.{Derivation, HasConflict, IsAnswered}
use Rattle.pb_propagate.proofs.engine.Engine.rup.Goals.{After-ask, After-of-self-inside, In_ok-answer}
use Rattle.pb_propagate.proofs.lemmas.{engine.Rests.with-kept, root.Kept.conflict-answered, store.Placed.placed-kept, store.Placed.placed-with}
use Rattle.pb_propagate.proofs.lemmas.engine.{Completing.closed-none, Literals.has-none as on-none, Rests.slots-terms, Rests.slots-more, Rests.slots-kept}
use Rattle.pb_propagate.proofs.lemmas.engine.Bridge.{AreKept, derives, conflicts, is-closed, has-none}
use Rattle.pb_propagate.specs.meaning.Propagation.{begin, put, opposed, broken}
use Rattle.pb_propagate.proofs.engine.Engine.rup.Goals as goal

-- a conflict of some forms is one of these and one more
derivation-with : {F : Form → Type 0} (g : Form) {given list : List NumberedLiteral} → Derivation F given list → Derivation (With F g) given list
derivation-with g begin = begin
derivation-with g (put l d m) = put l (derivation-with g d) (record { absent = m.absent; not_falsified = m.not_falsified; form = m.form; among = inl m.among; stands = m.stands; forced = m.forced })

conflict-with : {F : Form → Type 0} (g : Form) {list : List NumberedLiteral} → HasConflict F list → HasConflict (With F g) list
conflict-with g (opposed v h k) = opposed v h k
conflict-with g (broken f among low) = broken f (inl among) low

-- what a test has found over the forms: a conflict, or a completion and no conflict
abbrev Finds : (Form → Type 0) → ℕ → Bool → Type 0
Finds F visits found = (found ≡ true → (m : MeetsConflict F []) × (length m.list ≤ visits)) × (found ≡ false →
    ((list : List NumberedLiteral) × IsCompletion F [] list × (length list ≤ visits)) × (MeetsConflict F [] → ⊥))

answered : {F : Form → Type 0} {shapes : List Shape} {visits : ℕ} {found : Bool} → AreKept F shapes → IsAnswered shapes visits found → Finds F visits found
answered {F} {shapes} {visits} a r =
    let d = derives F shapes [] [] r.list a (λ l. sym (on-none l)) r.derived in
    let few : length d.list ≤ visits = omega (arith, r.few, d.count) in (
      λ yes. (record { list = d.list; derived = d.derived; conflict = conflicts F shapes d.list r.list a d.matches (r.conflict yes) }, few),
      λ no.
          let closed = is-closed F shapes d.list r.list a d.matches (r.settled no) in (
            (d.list, record { derived = d.derived; closed = closed }, few),
            closed-none F [] d.list d.derived closed
                (has-none F shapes d.list r.list a d.matches r.one_sided (r.settled no)),
          ),
    )

asked : (forms : List (Option Form)) (places : List ℕ) (shapes : List Shape) (g : Form) (visits : ℕ) (found : Bool) → ArePlaced forms places → AreSlots forms shapes →
    IsAsked g shapes visits found → Finds (With (Live (numbered forms places)) g) visits found
asked forms places shapes g visits found placed slots (alone e r) =
    let m = (answered (placed-kept forms places shapes placed (slots-kept forms shapes slots)) r).0 refl in
    (λ yes. (record { list = m.0.list; derived = derivation-with g m.0.derived; conflict = conflict-with g m.0.conflict }, m.1), λ free. absurd (both_ways _ free e))
asked forms places shapes g visits found placed slots (posed x k r) =
    let all = shapes ++ (x ∷ []) in
    answered (placed-with forms places g all placed (with-kept forms g all (slots-more forms shapes (Some g) x slots k))) r

-- what the question has found, over the forms that the caller sees
heard : (c : In_ok-answer) → Finds (With (Live c.args.self.now.forms) (negation_of c.args.goal.now)) c.ask.new.visits c.in_ok-answer.answer
heard c =
    let e = c.self.inside in
    let both = c.self.invariant (ap (λ (v : Standing). v.spent) c.self.view_is ∙ c.requires.ready) in
    rw (← c.self.view_is) (asked (forms_of e.store.stored.items) e.places.items (all_of e.store e.clauses)
    (negation_of c.args.goal.now) c.ask.new.visits c.in_ok-answer.answer both.1 both.0.slots c.in_ok-answer.ensures.asked)

pub returns-clause-implied : goal.returns-clause-implied
returns-clause-implied c = λ found. inr ((heard (goal.at.returns-clause-implied c).In_ok-answer).0 found).0

pub returns-clause-not_implied : goal.returns-clause-not_implied
returns-clause-not_implied c = λ found rup. elim rup [
  | inl nothing ↦ c.if-degree-eq0.false (ap (of_z w128) (c.degree.ensures.degree ∙ ap pos nothing))
  | inr m ↦ ((heard (goal.at.returns-clause-not_implied c).In_ok-answer).1 found).1 m
]

pub returns-clause-conflict : goal.returns-clause-conflict
returns-clause-conflict c = λ found. inr ((heard (goal.at.returns-clause-conflict c).In_ok-answer).0 found)

pub returns-clause-completion : goal.returns-clause-completion
returns-clause-completion c = λ found. ((heard (goal.at.returns-clause-completion c).In_ok-answer).1 found).0

-- the visits of the question
asked-most : (c : After-ask) → c.ask.new.visits ≤ 3 * (sum_by terms_in c.args.self.now.forms + length c.args.goal.now.terms) + (sum_by one_in c.args.self.now.forms + 1)
asked-most c = grind (arith, c.self.view_is, c.requires.ready, slots-terms, c.ask.ensures.most)

pub returns-clause-most : goal.returns-clause-most
returns-clause-most c = asked-most (goal.at.returns-clause-most c).After-ask

pub returns-in_err-answer-clause-most : goal.returns-in_err-answer-clause-most
returns-in_err-answer-clause-most c = asked-most (goal.at.returns-in_err-answer-clause-most c).After-ask

-- a conflict of the root
kept : (c : After-of-self-inside) → (m : MeetsConflict (With (Live c.args.self.now.forms) (negation_of c.args.goal.now)) []) × (length m.list ≤ c.of-self-inside.result)
kept c =
    let e = c.self.inside in
    let both = c.self.invariant (ap (λ (v : Standing). v.spent) c.self.view_is ∙ c.requires.ready) in
    let found = conflict-answered (all_of e.store e.clauses) c.of-self-inside.result e.conflict.assignment (omega (arith, c.of-self-inside.ensures, c.len.ensures, e.conflict.assignment.list.ok.0)) (both.3.holds c.if-self.true) in
    rw (← c.self.view_is) ((asked (forms_of e.store.stored.items) e.places.items (all_of e.store e.clauses) (negation_of c.args.goal.now) _ true both.1 both.0.slots (alone refl found)).0 refl)

pub returns-then-self-clause-implied : goal.returns-then-self-clause-implied
returns-then-self-clause-implied c = λ found. inr (kept (goal.at.returns-then-self-clause-implied c).After-of-self-inside).0

pub returns-then-self-clause-conflict : goal.returns-then-self-clause-conflict
returns-then-self-clause-conflict c = λ found. inr (kept (goal.at.returns-then-self-clause-conflict c).After-of-self-inside)
