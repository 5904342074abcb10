-- Lists of literals with their reasons, among the stored forms and among all constraints.
use Rattle.pb_propagate.proofs.Common.{ℕ, ◌<◌, ◌∙◌, ◌∷◌, ◌≡◌, [], ap, arith, false, inl, inr, length, List, set, subst, true, rules, Contains, slice_get, Some}
use Rattle.pb_propagate.proofs.Common.{both_ways, get_or_from_slice_get, slice_get_within, NumberedLiteral, negation, Run, begin, by_reason, Derives}
use Rattle.pb_propagate.proofs.Common.{from_given, has, HaveReasons, IsDue, IsWithin, KeepsReasons, put, Puts, Shape, list_of, reasons_of, RunReasons}
use Rattle.pb_propagate.proofs.Common.{RunRecords, values_of, ◌++◌, sym, slice_get-get_or, list_at, IsUnit, AreJoined, clause_shape, joined, literal_at}
use Rattle.pb_propagate.proofs.{Common.RunKeepsReasons, lemmas.engine.Literals.has-push_new, lemmas.store.Gets.get-set_same, lemmas.store.Gets.get-set_other}
use Rattle.pb_propagate.proofs.lemmas.engine.Literals.{has-push_cases, has-neither, only-itself, puts-other, derivation-keeps, has-none, has-push_old}
use Rattle.pb_propagate.proofs.lemmas.clauses.Shapes.{clause-stored, joined-at, joined-length, unit-puts}

puts-among : (forms : List Shape) (s : ℕ) (x : Shape) (list : List NumberedLiteral) (l : NumberedLiteral) → slice_get forms s ≡ Some x → Puts (x ∷ []) list l → Puts forms list l
puts-among forms s x list l at m = puts-other (x ∷ []) forms list l m (subst (Contains forms) (only-itself x m.form m.among) (s, slice_get_within forms s x at, get_or_from_slice_get forms s x x at))

-- a constraint that puts a literal has a term of it
pub puts-term : (x : Shape) (list : List NumberedLiteral) (l : NumberedLiteral) (m : Puts (x ∷ []) list l) → Contains x.terms (record { literal = l; coefficient = m.coefficient })
puts-term x list l m = rw (only-itself x m.form m.among) m.term

-- each literal with a reason was propagated
pub reasons-derive : {forms : List Shape} {reasons : List ℕ} {a b : List NumberedLiteral} → HaveReasons forms reasons a b → Derives forms a b
reasons-derive from_given = begin
reasons-derive (by_reason {list} l s x h at stored puts) = put l (reasons-derive h) (puts-among _ s x list l stored puts)

-- what the reason of a literal becomes: a slot with a constraint that puts it as well
pub record IsMoved (forms : List Shape) (reasons : List ℕ) (l : NumberedLiteral) (x : Shape) : Type 0 where
  pub slot : ℕ
  pub form : Shape
  pub reason : slice_get reasons l.variable ≡ Some slot
  pub stored : slice_get forms slot ≡ Some form
  pub puts : (earlier : List NumberedLiteral) → Puts (x ∷ []) earlier l → Puts (form ∷ []) earlier l

pub reasons-moved : (a b : List Shape) (old new : List ℕ) (given list : List NumberedLiteral) → ((l : NumberedLiteral) (s : ℕ) (x : Shape) → has list l ≡ true → slice_get old l.variable ≡ Some s → slice_get a s ≡ Some x → 0 < length x.terms → IsMoved b new l x) → HaveReasons a old given list → HaveReasons b new given list
reasons-moved a b old new given _ f from_given = from_given
reasons-moved a b old new given _ f (by_reason {list} l s x h at stored puts) =
    let m = f l s x (has-push_new list l) at stored (omega (arith, (puts-term x list l puts).1)) in
    by_reason l m.slot m.form (reasons-moved a b old new given list (λ k t y on. f k t y (has-push_old list l k on)) h) m.reason m.stored (m.puts list puts)

-- the same constraint in the same slot
pub moved-same : (b : List Shape) (new : List ℕ) (l : NumberedLiteral) (s : ℕ) (x : Shape) → slice_get new l.variable ≡ Some s → slice_get b s ≡ Some x → IsMoved b new l x
moved-same b new l s x at stored = record { slot = s; form = x; reason = at; stored = stored; puts = λ earlier p. p }

pub reasons-keep : {forms : List Shape} (old new : List ℕ) {given list : List NumberedLiteral} → KeepsReasons list old new → HaveReasons forms old given list → HaveReasons forms new given list
reasons-keep {forms} old new {given} {list} keeps h = reasons-moved forms forms old new given list (λ l s x on at stored some. moved-same forms new l s x (keeps l s on at) stored) h

pub reasons-then : {forms : List Shape} {reasons : List ℕ} {a b c : List NumberedLiteral} → HaveReasons forms reasons a b → HaveReasons forms reasons b c → HaveReasons forms reasons a c
reasons-then h from_given = h
reasons-then h (by_reason l s x k at stored puts) = by_reason l s x (reasons-then h k) at stored puts

pub keeps-then : (a b : List NumberedLiteral) (old mid new : List ℕ) → IsWithin a b → KeepsReasons a old mid → KeepsReasons b mid new → KeepsReasons a old new
keeps-then a b old mid new within f g l s on at = g l s (within l on) (f l s on at)

pub reasons-within : {forms : List Shape} {reasons : List ℕ} (a b : List NumberedLiteral) → HaveReasons forms reasons a b → IsWithin a b
reasons-within a b h = derivation-keeps _ a b (reasons-derive h)

-- a run to which nothing was added, and two runs after each other
pub run-reasons-none : (forms : List Shape) (run : Run) → RunReasons forms run run
run-reasons-none forms run = record { kept = λ l s on at. at; added = from_given }

pub run-reasons-then : {forms : List Shape} {old mid new : Run} → RunReasons forms old mid → RunReasons forms mid new → RunReasons forms old new
run-reasons-then {forms} {old} {mid} {new} f g = search (rules, keeps-then, reasons-within, f.added, f.kept, g.kept, reasons-then, reasons-keep, g.added)

-- the same from the root's literals
pub run-reasons-rooted : {forms : List Shape} {old new : Run} → HaveReasons forms (reasons_of old) [] (list_of old) → RunReasons forms old new → HaveReasons forms (reasons_of new) [] (list_of new)
run-reasons-rooted {forms} {old} {new} h r = reasons-then (reasons-keep (reasons_of old) (reasons_of new) r.kept h) r.added

-- the reason of a literal that is put
pub recorded : (old new : List ℕ) (list : List NumberedLiteral) (l : NumberedLiteral) (reason : ℕ) → has list l ≡ false → has list (negation l) ≡ false → new ≡ set old l.variable reason → KeepsReasons list old new
recorded old new list l reason absent opened is k s on at = grind (arith, both_ways, has-neither, get-set_other)

pub run-records : (reason : ℕ) (l : NumberedLiteral) (old new : Run) → has (list_of old) l ≡ false → has (list_of old) (negation l) ≡ false → l.variable < length (reasons_of old) → reasons_of new ≡ set (reasons_of old) l.variable reason → KeepsReasons (list_of old) (reasons_of old) (reasons_of new) × RunRecords reason l old new
run-records reason l old new absent opened inside is = (recorded (reasons_of old) (reasons_of new) (list_of old) l reason absent opened is, λ a o. ap (λ xs. slice_get xs l.variable) is ∙ get-set_same (reasons_of old) l.variable reason inside)

-- a literal whose reason is a slot has a term of its constraint
pub record IsDueTerm (forms : List Shape) (slot : ℕ) (l : NumberedLiteral) : Type 0 where
  pub form : Shape
  pub stored : slice_get forms slot ≡ Some form
  pub coefficient : ℕ
  pub term : Contains form.terms (record { literal = l; coefficient = coefficient })

pub due-term : (forms : List Shape) (reasons : List ℕ) (list : List NumberedLiteral) (slot : ℕ) (l : NumberedLiteral) → HaveReasons forms reasons [] list → IsDue slot list reasons l → IsDueTerm forms slot l
due-term forms reasons _ slot l from_given due = absurd (both_ways _ (has-none l) due.0)
due-term forms reasons _ slot l (by_reason {list} k s x h at stored puts) due = elim (has-push_cases list k l due.0) [
  | inl old ↦ due-term forms reasons list slot l h (old, due.1)
  | inr is ↦
      let at_l : slice_get reasons k.variable ≡ Some slot = rw is due.1 in
      let same : s ≡ slot = cc in
      record { form = x; stored = rw (← same) stored; coefficient = puts.coefficient; term = rw (← is) (puts-term x list k puts) }
]

-- ---- The reasons of literals among all constraints.
-- a constraint with terms in the occurrence lists is that of its slot
pub stored-joined : (xs : List Shape) (clauses : List (List ℕ)) (s : ℕ) (x : Shape) → AreJoined xs clauses → slice_get xs s ≡ Some x → 0 < length x.terms → slice_get (joined xs clauses) s ≡ Some x
stored-joined xs clauses s x j at some =
    let inside = slice_get_within xs s x at in
    let is = get_or_from_slice_get xs s x x at in
    grind (arith, slice_get-get_or (joined xs clauses) s x, joined-length xs clauses, joined-at xs clauses s x inside, is, j.apart s x inside)

pub run-reasons-joined : (xs : List Shape) (clauses : List (List ℕ)) (old new : Run) → AreJoined xs clauses → RunKeepsReasons old new → HaveReasons xs (reasons_of new) (list_of old) (list_of new) → RunReasons (joined xs clauses) old new
run-reasons-joined xs clauses old new j kept h = record { kept = kept; added = reasons-moved xs (joined xs clauses) (reasons_of new) (reasons_of new) (list_of old) (list_of new) (λ l s x on at stored some. moved-same (joined xs clauses) (reasons_of new) l s x at (stored-joined xs clauses s x j stored some)) h }

-- a literal that a clause forces has the clause as its reason
pub unit-reasons : (xs : List Shape) (clauses : List (List ℕ)) (start old new : Run) (slot x : ℕ) (l : NumberedLiteral) → AreJoined xs clauses → IsUnit (values_of old) clauses slot x → l ≡ literal_at x → list_of new ≡ list_of old ++ (l ∷ []) → RunRecords slot l old new → RunKeepsReasons old new →
    RunReasons (joined xs clauses) start old → RunReasons (joined xs clauses) start new
unit-reasons xs clauses start old new slot x l j unit is listed reason keeps r =
    let shape = clause_shape (list_at clauses slot) in
    let puts : Puts (shape ∷ []) (list_of old) l = subst (Puts (shape ∷ []) (list_of old)) (sym is) (unit-puts xs clauses (values_of old) (list_of old) slot x j old.assignment.agrees unit) in
    record {
      kept = keeps-then (list_of start) (list_of old) (reasons_of start) (reasons_of old) (reasons_of new) (reasons-within (list_of start) (list_of old) r.added) r.kept keeps;
      added = subst (HaveReasons (joined xs clauses) (reasons_of new) (list_of start)) (sym listed) (by_reason l slot shape (reasons-keep (reasons_of old) (reasons_of new) keeps r.added) (reason puts.absent puts.not_falsified) (clause-stored xs clauses slot j (omega (arith, unit.stands.1))) puts);
    }
