-- A form comes to the root, or goes, and the root stays.
use Rattle.pb_propagate.proofs.Common.{pushed, get_or_default, All-push, stored_form, ℕ, ◌/◌, ◌<◌, ◌∙◌, ◌∷◌, ◌≡◌, [], ap, arith, Bool, get_or, get_or-set_other}
use Rattle.pb_propagate.proofs.lemmas.{clauses.Heads.KeepsFallen, clauses.Heads.walks-kept, root.Ready.IsTidyRoot, engine.Literals.get_or-push_default}
use Rattle.pb_propagate.proofs.Common.{length, length-append, List, set, subst, sym, true, both_ways, Option, slice_get, Some, cases_eq, get_or_append_left}
use Rattle.pb_propagate.proofs.Common.{get_or_push, length-map, get_or_from_slice_get, slice_get-get_or, slice_get_within, NumberedLiteral, Clauses, Watch, ◌+◌, ◌≤◌}
use Rattle.pb_propagate.proofs.Common.{Waiting, Rests, Run, Store, StoredForm, list_at, watch_at, AreStored, all_of, clauses_of, joined, one_term, slot_shape}
use Rattle.pb_propagate.proofs.Common.{Walked, beside, Grown, IsCalm, IsCounted, IsTidy, shapes_of, stored_shape, HaveReasons, open_sum, Shape, HasForm, Form}
use Rattle.pb_propagate.proofs.Common.{HasGained, RunIsWidened, IsRooted, AreFree, AreSet, IsFreePair, None, Pair, map, slice_get-map, length-set, IsAbsent}
use Rattle.pb_propagate.proofs.Common.{◌*◌, get_or-set_same, get_or_past, forms_of, HasWidened, form_at, map-set, Assignment, AreReady, HasCleared, IsNeedless}
use Rattle.{pb_propagate.proofs.Common.◌⊎◌, std.proofs.lemmas.Grind.get_or-set_at, std.proofs.lemmas.Option.unwrap_or-slice_get}
use Rattle.pb_propagate.proofs.lemmas.engine.{Runs.grown-new, Runs.grown-still, Runs.Tidy-rest, Runs.grown-all, Reasoned.moved-same, Reasoned.reasons-moved}
use Rattle.pb_propagate.proofs.lemmas.clauses.{Literals.false-listed, Shapes.IsVacant, Shapes.joined-at, Shapes.joined-length, Shapes.joined-cleared}
use Rattle.pb_propagate.proofs.lemmas.store.{Changes.forms-filled, Changes.forms-length, Gets.get-set_other, Gets.get-push_other}
use Rattle.pb_propagate.specs.{declared.engine.root.Root.Root, engine.engine.Root.WasRootOf, engine.engine.Root.HasRemoved, engine.engine.Root.IsRootOf}

-- the same element in both
same-at : {X Y : Type 0} (f : X → Y) (xs ys : List X) (s : ℕ) (d : Y) → slice_get xs s ≡ slice_get ys s → get_or (map f xs) s d ≡ get_or (map f ys) s d
same-at f xs ys s d same = cc (unwrap_or-slice_get (map f xs) s d, unwrap_or-slice_get (map f ys) s d, slice_get-map f xs s, slice_get-map f ys s)

-- a slot without terms has no clause and no terms
bare-parts : (x : Shape) (codes : List ℕ) → (slot_shape x codes).terms ≡ [] → x.terms ≡ []
bare-parts x [] h = h
bare-parts x (c ∷ codes) h = absurd (omega (arith, ap length h, length-map (c ∷ codes) one_term))

-- the lists after an entry was added for a new slot
pub record Arrived (before store : Store) (run run' : Run) (slot : ℕ) : Type 0 where
  pub sizes : length run'.opens ≡ length store.stored.items
  pub csizes : length run'.candidates ≡ length store.stored.items
  pub older : (s : ℕ) → s < length store.stored.items → (s ≡ slot → ⊥) → s < length before.stored.items
  pub opens : (s : ℕ) → s < length before.stored.items → (s ≡ slot → ⊥) → get_or run'.opens s 0 ≡ get_or run.opens s 0
  pub cands : (s : ℕ) → s < length before.stored.items → (s ≡ slot → ⊥) → get_or run'.candidates s 0 ≡ get_or run.candidates s 0
  pub open_none : get_or run'.opens slot 0 ≡ 0
  pub cand_none : get_or run'.candidates slot 0 ≡ 0

pub arrived : {run' : Run} {rests' : Rests} {waiting' : Waiting} (store : Store) (clauses : Clauses) (root : Root) (slot : ℕ) (g : WasRootOf store clauses slot root) →
    slot < length store.stored.items → RunIsWidened root.run run' root.rests rests' root.waiting waiting' slot → Arrived g.0 store root.run run' slot
arrived store clauses root slot (before, old, r, g, free) inside h =
    let none : Shape = record { terms = []; degree = 0 } in
    let was = shapes_of before.stored.items in
    let bare = bare-parts (get_or was slot none) (list_at (clauses_of old) slot) in
    let xs = joined was (clauses_of old) in
    let at = joined-at was (clauses_of old) slot none in
    let few = r.tidy.bounded slot none in
    grind (arith, bare, g.bare (get_or xs slot none), slice_get-get_or xs slot none, at, joined-length, r.counted slot none, few, get_or_append_left, get_or_push, length-append, length-map)

-- a form that stays in its slot
pub form-kept : (before store : Store) (s : ℕ) {X : Type 0} → X → (X → slice_get store.stored.items s ≡ slice_get before.stored.items s) → HasForm before s → HasForm store s
form-kept before store s x kept h = (h.0, same-at stored_form store.stored.items before.stored.items s None (kept x) ∙ h.1)

-- the constraints of the other slots are the same
pub gained-at : (before store : Store) (old clauses : Clauses) (slot i : ℕ) (x : Shape) → HasGained before old store clauses slot → (i ≡ slot → ⊥) → slice_get (all_of before old) i ≡ Some x → slice_get (all_of store clauses) i ≡ Some x
gained-at before store old clauses slot i x g apart at =
    let shape = same-at stored_shape store.stored.items before.stored.items i x (g.kept i apart) in
    let was = get_or_from_slice_get (all_of before old) i x x at in
    grind (arith, shape, was, slice_get_within (all_of before old) i x at, g.filled i apart, g.longer, slice_get-get_or (all_of store clauses) i x, joined-at, joined-length, length-map)

-- the reasons still hold
pub gained-reasons : (before store : Store) (old clauses : Clauses) (slot : ℕ) (reasons : List ℕ) (list : List NumberedLiteral) → HasGained before old store clauses slot → HaveReasons (all_of before old) reasons [] list → HaveReasons (all_of store clauses) reasons [] list
gained-reasons before store old clauses slot reasons list g h = reasons-moved (all_of before old) (all_of store clauses) reasons reasons [] list
    (λ l s x on at stored some. grind (arith, cases_eq s slot, g.bare x, gained-at before store old clauses slot s x g, moved-same (all_of store clauses) reasons l s x at)) h

-- the root for all forms but the new one
pub gained-rooted : {run' : Run} {rests' : Rests} {waiting' : Waiting} (store : Store) (clauses : Clauses) (root : Root) (slot : ℕ) → WasRootOf store clauses slot root →
    slot < length store.stored.items → RunIsWidened root.run run' root.rests rests' root.waiting waiting' slot →
    IsRooted store clauses run' rests' waiting' root.walked slot
gained-rooted {run'} {rests'} {waiting'} store clauses root slot (before, old, r, g, free) inside h =
    let a = arrived store clauses root slot (before, old, r, g, free) inside h in
    let list = root.run.assignment.list.items in
    let long = length-map store.stored.items stored_shape in
    let was_long = length-map before.stored.items stored_shape in
    let shape = λ (s : ℕ) (d : Shape) (apart : s ≡ slot → ⊥). same-at stored_shape store.stored.items before.stored.items s d (g.kept s apart) in
    let tidy : IsTidyRoot store run' rests' waiting' slot = grind (arith, get_or_default, cases_eq, a.older, a.opens, a.cands, shape, r.tidy.calm, r.tidy.passed, r.tidy.bounded) in
    let reasoned = gained-reasons before store old clauses slot root.run.assignment.reasons.items list g r.reasoned in
    -- no watch of the slot is falsified, and the others are as they were
    let keeps : KeepsFallen old clauses list = λ e live failed.
    grind (arith, both_ways, false-listed, clauses.blocks.watches, g.watched, g.filled, cases_eq (e / 2) slot, free, root.run.assignment.agrees) in
    let walks = walks-kept old clauses list root.walked keeps r.walks in
    let live = λ (i s : ℕ) (was : HasForm before s). form-kept before store s (λ one. g.empty (subst (HasForm before) one was)) (g.kept s) was in
    grind (arith, a, shape, r.counted, tidy, reasoned, walks, live, r.live, h.positions)

-- a slot without a clause has no watch
pub no-watch : (clauses : List (List ℕ)) (ws : List Watch) (ls : List (List ℕ)) (slot e : ℕ) → AreStored clauses ws ls → list_at clauses slot ≡ [] → e / 2 ≡ slot → (watch_at ws e).live ≡ true → ⊥
no-watch clauses ws ls slot e stored none here live = grind (arith, stored.watched)

-- two literals that are not falsified are watched
pub pair-free : (values : List (Option Bool)) (old new : List Watch) (s : ℕ) (literals : List ℕ) (p : Pair) → IsFreePair values literals p → AreSet old new s literals p → AreFree values new s
pair-free values old new s literals p free set e here live = grind (arith, set.mine e here, free)

-- a clause adds nothing to the occurrence lists
pub clause-rooted : {store : Store} {clauses : Clauses} {run : Run} {rests : Rests} {waiting : Waiting} {walked : Walked} {slot : ℕ} → slot < length store.stored.items →
    ((d : Shape) → ((get_or (shapes_of store.stored.items) slot d).terms ≡ []) × ((get_or (shapes_of store.stored.items) slot d).degree ≡ 0)) →
    get_or run.opens slot 0 ≡ 0 → IsRooted store clauses run rests waiting walked slot → IsRooted store clauses run rests waiting walked (length store.stored.items)
clause-rooted inside bare none r = grind (arith, r.counted, r.opens, r.starts, length-map, r.open_sizes, r.tidy.calm, r.tidy.passed, r.tidy.bounded)

-- what a propagation needs once a form has its open sum under the root
pub slot-counted : (forms : List Shape) (opens lowered : List ℕ) (list : List NumberedLiteral) (n : ℕ) → n < length opens → ((s : ℕ) (d : Shape) → s < length forms → (s ≡ n → ⊥) → get_or opens s 0 ≡ open_sum list (get_or forms s d).terms) → ((d : Shape) → lowered ≡ set opens n (open_sum list (get_or forms n d).terms)) → IsCounted forms lowered list []
slot-counted forms opens lowered list n room counted low = grind (arith, get_or-set_at, get_or-set_other)

pub slot-tidy : (rests : Rests) (aside : List ℕ) (forms : List Shape) (opens cands lowered : List ℕ) (list : List NumberedLiteral) (work trail : List ℕ) (n : ℕ) → n < length forms → n < length opens → IsTidy (beside rests aside) forms opens cands list [] [] 0 n → ((d : Shape) → lowered ≡ set opens n (open_sum list (get_or forms n d).terms)) →
    Grown ((d : Shape) (c : ℕ) → IsCalm (get_or forms n d) (open_sum list (get_or forms n d).terms) c) n [] work → trail ≡ n ∷ [] → IsTidy (beside rests aside) forms lowered cands list work trail 0 (length forms)
slot-tidy rests aside forms opens cands lowered list work trail n inside_n room tidy low queued noted =
    let empty : (s : ℕ) → IsAbsent [] 0 s = λ s i from short. absurd (omega (arith, short)) in
    let other = λ (s : ℕ) (gone : IsAbsent trail 0 s) (e : s ≡ n). grown-new {needless = ⊥} n [] (n ∷ []) 0 s (omega arith) e pushed (rw noted at gone) in
    record {
      calm = λ s d inside idle off gone.
          let was = λ (apart : s ≡ n → ⊥). tidy.calm s d inside apart off (empty s) in
          let needless = λ (one : s ≡ n). grown-new n [] work 0 s (omega arith) one queued gone d (get_or cands s 0) in
          grind (arith, was, needless, low d, get_or-set_at opens n s, get_or-set_other opens n s);
      passed = tidy.passed;
      bounded = tidy.bounded;
      clean = λ s d inside gone. grind (arith, other s gone, tidy.clean s d inside (empty s), low d, get_or-set_other opens n s);
      named = grown-all (λ s. s < length forms) n [] work inside_n queued (λ i d less. absurd (omega (arith, less)));
      marked = rw noted (All-push (λ s. s < length forms) [] n (λ i d less. absurd (omega (arith, less))) inside_n);
      traced = λ s gone. grown-still n [] work s (other s gone) queued (empty s);
    }

-- the two watches of a slot are set
pub watches-apart : (ws mid new : List Watch) (slot e : ℕ) (a b : Watch) → mid ≡ set ws (2 * slot) a → new ≡ set mid (2 * slot + 1) b → (e / 2 ≡ slot → ⊥) → watch_at new e ≡ watch_at ws e
watches-apart ws mid new slot e a b first second apart = grind (arith, get_or-set_other)

pub watches-mine : (ws mid new : List Watch) (slot e : ℕ) (a b : Watch) → mid ≡ set ws (2 * slot) a → new ≡ set mid (2 * slot + 1) b → 2 * slot + 1 < length ws → e / 2 ≡ slot → (watch_at new e ≡ a) ⊎ (watch_at new e ≡ b)
watches-mine ws mid new slot e a b first second room here = grind (arith, length-set, get_or-set_at, get_or-set_other)

-- a form in a vacant slot
pub gained-filled : (before store : Store) (old clauses : Clauses) (slot : ℕ) (k : StoredForm) → store.variables ≡ before.variables → store.stored.items ≡ set before.stored.items slot k → ((s : ℕ) → (s ≡ slot → ⊥) → list_at (clauses_of clauses) s ≡ list_at (clauses_of old) s) → ((e : ℕ) → (e / 2 ≡ slot → ⊥) → watch_at clauses.blocks.watches e ≡ watch_at old.blocks.watches e) → IsVacant (shapes_of before.stored.items) (clauses_of old) slot → slice_get (forms_of before.stored.items) slot ≡ Some None → (f : Form) → stored_form k ≡ Some f → HasGained before old store clauses slot
gained-filled before store old clauses slot k variables keeps filled watched v none f some =
    let is = forms-filled before.stored.items store.stored.items k slot (Some f) keeps some in
    let room = slice_get_within (forms_of before.stored.items) slot None none in
    let full : HasForm store slot = (f, ap (λ fs. form_at fs slot) is ∙ get_or-set_same (forms_of before.stored.items) slot (Some f) None room) in
    let empty : HasForm before slot → ⊥ = λ h. let e : None ≡ Some h.0 = sym (get_or_from_slice_get (forms_of before.stored.items) slot None None none) ∙ h.1 in cc in
    let bare : (x : Shape) → slice_get (all_of before old) slot ≡ Some x → x.terms ≡ [] = λ x at.
    grind (arith, get_or_from_slice_get (all_of before old) slot x x at, joined-at (shapes_of before.stored.items) (clauses_of old) slot x v.inside, v.clause, v.terms x) in
    grind (arith, full, empty, bare, length-set, get-set_other)

-- at most one slot came
pub widened-length : (before mid : Store) (old between : Clauses) (slot : ℕ) → HasWidened before old mid between slot → length (forms_of mid.stored.items) ≤ length before.stored.items + 1
widened-length before mid old between slot w = grind (arith, w.kept, length-append, forms-length)

-- a slot came, and then a form
pub gained-both : (before mid store : Store) (old between clauses : Clauses) (slot : ℕ) → mid.variables ≡ before.variables → HasWidened before old mid between slot → HasGained mid between store clauses slot → HasGained before old store clauses slot
gained-both before mid store old between clauses slot variables w g
    = grind (arith, w.kept, length-append, get-push_other, get_or-push_default, slice_get_within, joined-length, length-map, get_or_past, forms-length)

-- the constraints after the form went
pub vacated-all : (before store : Store) (old clauses : Clauses) (slot : ℕ) (g : HasCleared before old store clauses slot) → all_of store clauses ≡ set (all_of before old) slot (stored_shape g.kept.0)
vacated-all before store old clauses slot g = grind (arith, g.kept.0, g.kept.2, map-set, g.emptied, joined-cleared)

-- the reasons still hold
pub lost-reasons : (before store : Store) (old clauses : Clauses) (slot : ℕ) (a : Assignment) → HasCleared before old store clauses slot → IsNeedless (all_of before old) slot a → HaveReasons (all_of store clauses) a.reasons.items [] a.list.items
lost-reasons before store old clauses slot a g n =
    reasons-moved (all_of before old) (all_of store clauses) a.reasons.items a.reasons.items [] a.list.items
    (λ l s x on at stored some. grind (arith, vacated-all before store old clauses slot g, cases_eq s slot, n.none l, moved-same, get-set_other)) n.reasoned

-- the root stays
pub lost-rooted : (before store : Store) (old clauses : Clauses) (slot : ℕ) (root : Root) → slot < length before.stored.items → slot < length old.blocks.literals → AreReady clauses → HasCleared before old store clauses slot → HasRemoved before old slot root → IsRootOf store clauses root
lost-rooted before store old clauses slot root inside room ready g l =
    let k = g.kept.0 in let r = l.rooted in let mid = l.mid in
    let long = length-map store.stored.items stored_shape in
    let was_long = length-map before.stored.items stored_shape in
    let longer : length store.stored.items ≡ length before.stored.items = ap length g.kept.2 ∙ length-set before.stored.items slot k in
    let shapes : shapes_of store.stored.items ≡ set (shapes_of before.stored.items) slot (stored_shape k) = ap shapes_of g.kept.2 ∙ map-set stored_shape before.stored.items slot k in
    let tidy : IsTidyRoot store root.run root.rests root.waiting (length store.stored.items) = Tidy-rest {aside = root.waiting.list.items}
    {list = root.run.assignment.list.items} (cc (l.opens, r.opens, l.rest_opens)) (cc (l.candidates, r.starts, l.rest_starts)) (grind (arith, l.opens, length-set))
    (λ s d less off away gone. grind (arith, cases_eq s slot, r.tidy.calm s d, off, l.waiting.others s, away, gone, get_or-set_at, get_or-set_other))
    (λ s d less k f early within. grind (arith, cases_eq s slot, get_or-set_at, get_or-set_other, r.tidy.passed s d))
    (λ s d less. grind (arith, cases_eq s slot, l.candidates, r.start_sizes, inside, get_or-set_at, get_or-set_other, r.tidy.bounded s d, less, long, longer, was_long, shapes)) in
    let reasoned = lost-reasons before store old clauses slot mid.run.assignment g l.needless in
    let none : list_at (clauses_of clauses) slot ≡ [] = ap (λ cs. list_at cs slot) g.emptied ∙ get_or-set_same (clauses_of old) slot [] [] (omega (arith, room)) in
    -- the watches of the other slots are as they were
    let keeps : KeepsFallen old clauses mid.run.assignment.list.items = λ e live failed.
    grind (arith, no-watch, clauses.blocks.watches, ready.stored, get_or-set_other, cases_eq (e / 2) slot, none, g.emptied, g.watched) in
    let walks = walks-kept old clauses mid.run.assignment.list.items mid.walked keeps r.walks in
    let live : (i s : ℕ) → slice_get root.waiting.list.items i ≡ Some s → HasForm store s = λ i s at.
    let w = l.waiting.older i s at in
    form-kept before store s w.0 (λ apart. ap (λ xs. slice_get xs s) g.kept.2 ∙ get-set_other before.stored.items slot s k apart) (r.live w.1 s w.2) in
    grind (arith, cases_eq, get_or-set_at, get_or-set_other, r.counted, tidy, reasoned, walks, live, length-set)
