-- The state to which questions return. What the parts of a question need, what they cost, and what they leave.
use Rattle.pb_propagate.{proofs.lemmas.store.Placed.placed-kept, specs.declared.engine.conflict.Conflict.Conflict, specs.declared.engine.root.Root.Root}
use Rattle.pb_propagate.proofs.Common.{IsTidy, beside, rules, ℕ, ◌+◌, ◌<◌, ◌∙◌, ◌≡◌, ◌≤◌, [], ap, arith, get_or, get_or-set_other, length, List, set, sym}
use Rattle.pb_propagate.proofs.Common.{slice_get, slice_get_within, Some, ext_get_or, get_or_default, get_or_read, length-map, Clauses, Waiting, Rests, Run}
use Rattle.pb_propagate.proofs.Common.{Store, all_of, Walked, IsWalkedTo, heads_at, IsAbsent, IsCounted, IsUndone, shapes_of, stored_shape, HaveReasons}
use Rattle.pb_propagate.proofs.Common.{KeepsReasons, Shape, size, from_given, HasForm, IsRooted, GoesBack, refl, none, Heads, AreJoined, clauses_of}
use Rattle.pb_propagate.proofs.Common.{IsRunning, Advances, database, Database, HasUpdated, list_of, progress, shapes_in, values_of, AreOpen, Progress}
use Rattle.pb_propagate.proofs.Common.{RunIsOpen, IsReadyRun, Propagates, RunGains, RunPuts, RunVisits, RunVisitsEach, RunReasons, ArePlaced, Form, IsAtRest}
use Rattle.pb_propagate.proofs.Common.{IsKeptConflict, Live, numbered, Option, sum, sum_by, take-append_seam, NumberedLiteral, Assignment, Long, Short}
use Rattle.pb_propagate.proofs.Common.{AreWithin, Grows, passed_of, fallen, falsified_code, reached, AreSingle, RunRefutes, Extends, Costs, RunSpends}
use Rattle.pb_propagate.proofs.lemmas.clauses.{Counts.passed-most, Heads.walks-none, Heads.mark-more, Heads.visits-back, Heads.walks-kept, Heads.heads-is}
use Rattle.pb_propagate.proofs.lemmas.clauses.Walks.{kept-then, running-grow, grows-listed}
use Rattle.pb_propagate.proofs.lemmas.engine.{Bridge.AreKept, Literals.derivation-single, Propagated.open-now, Propagated.IsVisiting, Reasoned.reasons-keep}
use Rattle.pb_propagate.proofs.lemmas.engine.{Reasoned.keeps-then, Reasoned.reasons-derive, Rests.slots-kept, Runs.Tidy-rest, Runs.absent-from}
use Rattle.pb_propagate.proofs.lemmas.engine.Advances.{advances-refl, advances-then, advances-as, extends-then, extends-within, spent-extends, killed-longer}
use Rattle.pb_propagate.specs.engine.engine.{Progress.RunIsCalm, Propagation.IsSaved, Root.IsLeft, Root.IsRootOf, Root.IsStanding}
use Rattle.std.proofs.lemmas.Grind.{get_or-set_at}

-- the forms of a root, and its open sums, with one form left out
abbrev pub IsTidyRoot : Store → Run → Rests → Waiting → ℕ → Type 0
IsTidyRoot store run rests waiting busy = IsTidy (beside rests waiting.list.items) (shapes_of store.stored.items) run.opens run.candidates run.assignment.list.items [] [] 0 busy

-- one form more
pub keep-next : (rests rests' : Rests) (forms : List Shape) (opens cands trail : List ℕ) (i form o c : ℕ) → i < length trail → form ≡ get_or trail i form → form < length opens → form < length cands → o ≡ get_or opens form o → c ≡ get_or cands form c → length rests.opens ≡ length opens → length rests.starts ≡ length cands →
    rests'.opens ≡ set rests.opens form o → rests'.starts ≡ set rests.starts form c → IsUndone rests forms opens cands trail i → IsUndone rests' forms opens cands trail (i + 1)
keep-next rests rests' forms opens cands trail i form o c inside is room roomc open_is cand_is sizes ssizes opened started u = record {
  clean = λ s d less gone.
      let sum = size (get_or forms s d).terms in
      let before = λ (other : s ≡ form → ⊥). u.clean s d less (absent-from trail i s (λ e. other (sym e ∙ sym (get_or_read trail i form inside is 0))) gone) in
      grind (arith, before, ap (λ xs. get_or xs s sum) opened, ap (λ xs. get_or xs s 0) started, get_or_read opens form o room open_is 0, get_or_read cands form c roomc cand_is 0, get_or-set_at rests.opens form s o sum, get_or-set_other rests.opens form s o sum, get_or-set_at rests.starts form s c 0, get_or-set_other rests.starts form s c 0);
  named = u.named;
}

-- all of them
pub keep-all : (rests : Rests) (forms : List Shape) (opens cands trail : List ℕ) (i : ℕ) → length trail ≤ i → length forms ≡ length opens → length cands ≡ length opens → length rests.opens ≡ length opens → length rests.starts ≡ length cands → IsUndone rests forms opens cands trail i → (rests.opens ≡ opens) × (rests.starts ≡ cands)
keep-all rests forms opens cands trail i end long sizes osizes ssizes u =
    let none : Shape = record { terms = []; degree = 0 } in
    (ext_get_or 0 rests.opens opens osizes (λ s less. grind (arith, get_or_default, u.clean s none)), ext_get_or 0 rests.starts cands ssizes (λ s less. grind (arith, u.clean s none)))

-- the parts of a root that lists of forms that wait do not touch
pub record IsEnded (store : Store) (clauses : Clauses) (run : Run) (walked : Walked) : Type 0 where
  pub values : length run.assignment.values.items ≡ store.variables
  pub opens : length run.opens ≡ length store.stored.items
  pub candidates : length run.candidates ≡ length store.stored.items
  pub counted : IsCounted (shapes_of store.stored.items) run.opens run.assignment.list.items []
  pub reasoned : HaveReasons (all_of store clauses) run.assignment.reasons.items [] run.assignment.list.items
  pub walks : IsWalkedTo clauses run.assignment.list.items walked

-- with nothing left to do but to visit the forms that wait, the run is a root
pub kept-rooted : (store : Store) (clauses : Clauses) (run run' : Run) (rests rests' : Rests) (aside : List ℕ) (waiting' : Waiting) (walked : Walked) → IsEnded store clauses run walked →
    RunIsCalm store rests aside run →
    ((s : ℕ) → IsAbsent waiting'.list.items 0 s → IsAbsent aside 0 s × IsAbsent run.work.items run.next s) → IsSaved run run' rests' →
    length waiting'.positions ≡ length store.stored.items → ((i s : ℕ) → slice_get waiting'.list.items i ≡ Some s → HasForm store s) →
    IsRooted store clauses run' rests' waiting' walked (length store.stored.items)
kept-rooted store clauses run run' rests rests' aside waiting' walked e tidy waits k positions live =
    let long = length-map store.stored.items stored_shape in
    let counted = λ (s : ℕ) (d : Shape) (less : s < length store.stored.items). open-now (shapes_of store.stored.items) run.opens run.assignment.list.items s d (omega (arith, less, long)) e.counted in
    let calm : IsTidyRoot store run rests' waiting' (length store.stored.items) =
    Tidy-rest (sym k.rest_opens) (sym k.rest_starts) (long ∙ sym e.opens) (λ s d less idle off gone. let w = waits s off in tidy.calm s d less idle w.0 w.1) tidy.passed tidy.bounded in
    search (rules, k.opens, k.candidates, k.assignment, counted)

-- the root of no forms over no variables
pub new-rooted : (store : Store) (clauses : Clauses) (run : Run) (rests : Rests) (waiting : Waiting) (walked : Walked) → store.stored.items ≡ [] → store.variables ≡ 0 → run.assignment.values.items ≡ [] → run.assignment.list.items ≡ [] → run.opens ≡ [] → run.candidates ≡ [] → run.work.items ≡ [] → run.trail.items ≡ [] → run.next ≡ 0 →
    rests.opens ≡ [] → rests.starts ≡ [] → waiting.list.items ≡ [] → waiting.positions ≡ [] → walked.heads ≡ heads_at 0 → walked.marks.items ≡ [] → IsRooted store clauses run rests waiting walked (length store.stored.items)
new-rooted store clauses run rests waiting walked forms variables values list opens cands work trail next rest_opens rest_starts waits positions heads marks =
    grind (arith, slice_get_within, walks-none, from_given)

-- the root again, over the same forms: its literals may have other reasons, and be walked otherwise
pub rooted-again : {store store' : Store} {clauses clauses' : Clauses} {run run' : Run} {rests : Rests} {waiting : Waiting} {walked walked' : Walked} →
    IsRooted store clauses run rests waiting walked (length store.stored.items) →
    store'.stored.items ≡ store.stored.items → length run'.assignment.values.items ≡ store'.variables → run'.opens ≡ rests.opens →
    run'.candidates ≡ rests.starts → run'.assignment.list.items ≡ run.assignment.list.items →
    run'.work.items ≡ [] → run'.trail.items ≡ [] → run'.next ≡ 0 → KeepsReasons run.assignment.list.items run.assignment.reasons.items run'.assignment.reasons.items →
    clauses'.blocks.literals ≡ clauses.blocks.literals → IsWalkedTo clauses' run.assignment.list.items walked' →
    IsRooted store' clauses' run' rests waiting walked' (length store'.stored.items)
rooted-again r kept values opens starts list work trail next keeps literals walks = grind (arith, reasons-keep, r.reasoned, r.opens, r.starts)

-- ---- What the parts of a question need, what they cost, and what they leave: literals that are assigned, a propagation, and the way back to the root.
-- values of a longer list
pub assigned-grow : (old new : Assignment) → Extends old.list.items new.list.items → Grows old.values.items new.values.items
assigned-grow old new more = grows-listed old.values.items new.values.items old.list.items new.list.items old.agrees new.agrees (extends-within old.list.items new.list.items more)

fallen-extends : (clauses : List (List ℕ)) (a b : List NumberedLiteral) → Extends a b → fallen clauses a ≤ fallen clauses b
fallen-extends clauses a b more = omega (arith, killed-longer clauses (falsified_code Short) a b more, killed-longer clauses (falsified_code Long) a b more)

-- literals were assigned, and nothing was propagated
pub refutes-short : (store : Store) (rests : Rests) (c : Clauses) (count : ℕ) (old new : Run) → AreWithin (passed_of c) (clauses_of c) → AreSingle old.assignment.list.items → sum new.candidates ≤ sum_by (λ f. length f.terms) (shapes_of store.stored.items) → Costs (database store rests) 0 count (progress old) (progress new) → RunRefutes store rests c count old new
refutes-short store rests c count old new within single bounded costs = grind (arith, passed-most, fallen-extends, costs.extends, spent-extends, costs.single)

-- and then what follows was propagated
pub refutes-long : (store : Store) (rests : Rests) (c : Clauses) (count : ℕ) (from : Heads) (old mid new : Run) → from ≡ heads_at (length old.assignment.list.items) → old.work.items ≡ [] → old.next ≡ 0 → Advances (database store rests) 0 count (progress old) (progress mid) → RunSpends store rests c from [] mid new → RunRefutes store rests c count old new
refutes-long store rests c count from old mid new start work next a s =
    let e = a.costs.extends in
    let same : reached (clauses_of c) from mid.assignment.list.items ≡ fallen (clauses_of c) old.assignment.list.items = rw (start, e.1, take-append_seam (list_of old) e.0) in
    search (rules, extends-then old.assignment.list.items mid.assignment.list.items new.assignment.list.items e s.extends, ap length work)

-- a question that was undone leaves the root
pub back-rooted : (root : Root) {store : Store} {between mid after : Clauses} {done last : Run} {walked' : Walked} {count : ℕ} → IsRootOf store between root → Propagates store root.rests between mid root.run done → GoesBack store root.rests mid after count done last → count ≡ length (list_of root.run) → mid.blocks.literals ≡ between.blocks.literals → IsWalkedTo after (list_of root.run) walked' → IsRooted store after last root.rests root.waiting walked' (length store.stored.items)
back-rooted root {store} {between} {mid} {after} {done} {last} {walked'} {count} r p b count_is literals walks =
    let long = length-map store.stored.items stored_shape in
    let same = keep-all root.rests (shapes_of store.stored.items) last.opens last.candidates [] 0 (omega arith) (omega (arith, long, b.opens)) (omega (arith, b.opens, b.candidates)) (grind (arith, r.opens, r.open_sizes, b.opens)) (grind (arith, r.starts, r.start_sizes, b.candidates)) b.undone in
    let list_is : list_of last ≡ list_of root.run = grind (arith, b.list, p.extends, take-append_seam) in
    rooted-again r refl (b.values ∙ p.values ∙ r.values) (sym same.0) (sym same.1) list_is b.work b.trail b.next (rw b.reasons p.reasons) (b.literals ∙ literals) walks

-- the same forms wait
pub rooted-waiting : {store : Store} {clauses : Clauses} {run : Run} {rests : Rests} {walked : Walked} {busy : ℕ} (waiting waiting' : Waiting) → waiting'.list ≡ waiting.list → waiting'.positions ≡ waiting.positions → IsRooted store clauses run rests waiting walked busy → IsRooted store clauses run rests waiting' walked busy
rooted-waiting waiting waiting' list positions r = search (rules, list, positions)

-- other reasons for the same literals
pub reasoned-rooted : {store : Store} {clauses : Clauses} {run : Run} {rests : Rests} {waiting : Waiting} {walked : Walked} {busy : ℕ} (a : Assignment) → a.list ≡ run.assignment.list → a.values ≡ run.assignment.values → HaveReasons (all_of store clauses) a.reasons.items [] a.list.items → IsRooted store clauses run rests waiting walked busy →
    IsRooted store clauses (record run { assignment = a }) rests waiting walked busy
reasoned-rooted a list values reasoned r = search (rules, list, values)

-- the open sums after a part of a run
pub open-later : {store : Store} {d : Database} {m n : ℕ} {p q : Progress} → Advances d m n p q → AreOpen store p.opens p.candidates p.work p.next p.values p.list → IsCounted (shapes_in store) q.opens q.list [] → AreOpen store q.opens q.candidates q.work q.next q.values q.list
open-later a o counted = search rules

-- the literals of the list are walked
pub heads-now : (h : Heads) (n m : ℕ) → (h.short ≡ n) × (h.long ≡ n) → n ≡ m → h ≡ heads_at m
heads-now h n m e same = heads-is h m (e.0 ∙ same) (e.1 ∙ same)

-- no literal is put, some are put after others, and visits are counted that were not made
pub puts-none : (store : Store) (rests : Rests) (run : Run) → RunPuts store rests 0 run run
puts-none store rests run = search (rules, advances-refl (database store rests) (progress run))

pub puts-then : {store : Store} {rests : Rests} {m n : ℕ} {a b c : Run} → RunPuts store rests m a b → RunPuts store rests n b c → RunPuts store rests (m + n) a c
puts-then {store} {rests} {m} {n} {a} {b} {c} p q = search (rules, advances-then, p.advances, q.advances, q.tidy, p.tidy, keeps-then, extends-within, p.advances.costs.extends, p.kept, q.kept)

pub puts-as : {store : Store} {rests : Rests} {m : ℕ} {a b : Run} (n : ℕ) → m ≤ n → RunPuts store rests m a b → RunPuts store rests n a b
puts-as n less p = record { advances = advances-as 0 n (omega arith) p.advances; tidy = p.tidy; kept = p.kept }

-- one part of a run after another
pub gains-then : (old mid new : Run) → RunGains old mid → RunVisitsEach mid new → mid.visits ≤ new.visits → RunGains old new
gains-then old mid new g found rising = grind (arith, g.found, g.rising)

-- a visit to a form, also one that met a conflict
pub visiting-visits : {store : Store} {rests : Rests} {aside : List ℕ} {form : ℕ} (start now : Run) → IsVisiting (database store rests) aside form (progress start) (progress now) → RunReasons (shapes_in store) start now → RunVisits store rests start now
visiting-visits start now v reasons = let advances = advances-as 0 1 (omega arith) v.advances in search rules

-- what a propagation needs once literals are put, and what they leave if none follows
pub puts-ready : {store : Store} {rests : Rests} {clauses : Clauses} {waiting : List ℕ} {heads : Heads} {n : ℕ} {old new : Run} → IsReadyRun store rests clauses waiting heads old → RunPuts store rests n old new → RunIsOpen store new → IsReadyRun store rests clauses waiting heads new
puts-ready {store} {rests} {clauses} {waiting} {heads} {n} {old} {new} r p o = search (rules, p.advances.costs.extends, running-grow, p.advances.values, assigned-grow, old.assignment, new.assignment, r.running, mark-more, clauses.blocks.literals, clauses.blocks.watches, r.walked, p.advances.costs.single, p.tidy)

pub puts-left : {store : Store} {rests : Rests} {clauses : Clauses} {waiting : List ℕ} {heads : Heads} {n : ℕ} {old new : Run} → IsReadyRun store rests clauses waiting heads old → RunPuts store rests n old new → Propagates store rests clauses clauses old new
puts-left {store} {rests} {clauses} {waiting} {heads} {n} {old} {new} r p =
    let t = p.tidy waiting (length store.stored.items) r.tidy in
    let grows = assigned-grow old.assignment new.assignment p.advances.costs.extends in
    let running = running-grow clauses (values_of old) (values_of new) p.advances.values grows r.running in search rules

-- a propagation after literals are put
pub left-then : {store : Store} {rests : Rests} {before after : Clauses} {n : ℕ} {old mid new : Run} → RunPuts store rests n old mid → Propagates store rests before after mid new → Propagates store rests before after old new
left-then {store} {rests} {before} {after} {n} {old} {mid} {new} p q = search (rules, p.advances.costs.extends, kept-then, assigned-grow, old.assignment, mid.assignment, q.kept, extends-then, q.extends, keeps-then, extends-within, p.kept, q.reasons)

-- a root may be propagated, and so may one that was updated
pub root-ready : {store : Store} {clauses : Clauses} {run : Run} {rests : Rests} {waiting : Waiting} {walked : Walked} → IsRooted store clauses run rests waiting walked (length store.stored.items) → AreJoined (shapes_in store) (clauses_of clauses) → IsRunning (values_of run) clauses → IsReadyRun store rests clauses waiting.list.items walked.heads run
root-ready {store} {clauses} {run} {rests} {waiting} {walked} r joined running =
    let counted : IsCounted (shapes_in store) run.opens (list_of run) [] = grind (arith, length-map, r.counted) in
    let single = derivation-single (all_of store clauses) [] (list_of run) none (reasons-derive r.reasoned) in
    search (rules, r.work, r.trail, r.next)

pub updated-ready : {store : Store} {old clauses : Clauses} {before root : Root} → IsRooted store clauses root.run root.rests root.waiting root.walked (length store.stored.items) → AreJoined (shapes_in store) (clauses_of clauses) → HasUpdated store old clauses before root → IsReadyRun store root.rests clauses [] (heads_at (length (list_of root.run))) root.run
updated-ready {store} {old} {clauses} {before} {root} r joined u = rw (u.none, u.walked) at (root-ready r joined u.running)

-- the constraints keep the live forms
pub rest-kept : {store : Store} {clauses : Clauses} {forms : List (Option Form)} {places : List ℕ} → IsAtRest store clauses forms → ArePlaced forms places → AreKept (Live (numbered forms places)) (all_of store clauses)
rest-kept {store} {clauses} {forms} {places} r placed = placed-kept forms places (all_of store clauses) placed (slots-kept forms (all_of store clauses) r.slots)

-- what a question leaves once it is undone, with the same store
pub undone-left : {store : Store} {old between mid after : Clauses} {before root : Root} {done last : Run} {conflict : Conflict} → IsStanding store old before →
    IsRootOf store between root → Propagates store root.rests between mid root.run done → GoesBack store root.rests mid after (length (list_of root.run)) done last →
    mid.blocks.literals ≡ between.blocks.literals → IsKeptConflict (all_of store old) store.variables conflict →
    IsLeft store store old after (record root { run = last }) conflict
undone-left {store} {old} {between} {mid} {after} {before} {root} s r p b literals kept =
    let same = visits-back (values_of root.run) between mid after (list_of root.run) root.run.assignment.agrees (b.literals ∙ literals) b.watches p.kept in
    let rooted = back-rooted root r p b refl literals (walks-kept between after (list_of root.run) root.walked same r.walks) in
    grind (arith, b.lists, b.ready, p.running.sizes, p.values, r.values, s.widths, s.sound, rooted, kept)
