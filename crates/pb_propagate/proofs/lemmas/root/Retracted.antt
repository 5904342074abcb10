-- Literals are taken off the root's list, the last one first, and reasons are replaced by others.
use Rattle.pb_propagate.proofs.Common.{rules, ℕ, ◌++◌, ◌+◌, ◌<◌, ◌∙◌, ◌∷◌, ◌≡◌, ◌≤◌, [], ap, arith, false, get_or, inl, inr, length}
use Rattle.pb_propagate.proofs.Common.{coefficient_at, drop, drop_more, get_or-set_other, set, sum_by-le-sum_by, List, None, refl, subst, sym, take, Option}
use Rattle.pb_propagate.proofs.Common.{slice_get, Some, cases_lt, get_or_default, get_or_past, length-map, length-append, slice_get-get_or, sum_by-cons}
use Rattle.pb_propagate.proofs.Common.{take_all, take-append-le, get_or-map, map, Occurrence, weighted, NumberedLiteral, negation, Form, Assignment, Clauses}
use Rattle.pb_propagate.proofs.Common.{Store, Term, all_of, clauses_of, place, entries_of, forms_of, IsSound, shapes_of, spots_of, stored_shape, terms_at}
use Rattle.pb_propagate.proofs.Common.{HaveReasons, open_sum, Shape, size, Weighted, AreSlots, HasForm, IsWalkedTo, from_given, by_reason, Walked, same_Some}
use Rattle.pb_propagate.proofs.Common.{form_at, slot_shape, list_at, cases_Bool, get_or_append_left, get_or_push, take-append_seam, suc, zero, stored_terms}
use Rattle.pb_propagate.proofs.Common.{true, Contains, cases_eq, StoredForm, AreInside, AreJoined, joined, literal_at, one_term, has, IsDue, HasOtherReasons}
use Rattle.pb_propagate.proofs.Common.{IsNeedless, IsOtherUnit, get_or_from_slice_get, both_ways, list_of, Puts}
use Rattle.pb_propagate.proofs.lemmas.clauses.Shapes.{joined-at, joined-length, shape-some}
use Rattle.pb_propagate.proofs.lemmas.engine.{Advances.extends-none, Advances.extends-then, Advances.extends-within, Propagated.shape-at}
use Rattle.pb_propagate.proofs.lemmas.engine.Literals.{literal_ext, has-elsewhere, one-literal, open_part-open, has-none, one_itself}
use Rattle.pb_propagate.proofs.lemmas.engine.Reasoned.{IsMoved, moved-same, reasons-moved, due-term, stored-joined}
use Rattle.pb_propagate.proofs.lemmas.engine.Runs.{Tidy-rest, entry_weight-other, entry_weight-same, open_sum-push, entries-at, form-within}
use Rattle.pb_propagate.proofs.lemmas.root.{Ready.IsTidyRoot, Ready.reasoned-rooted, Rooted.term-entry, Rooted.last-split}
use Rattle.pb_propagate.proofs.lemmas.store.{Gets.get-map, Gets.get-set_same, Gets.get-set_other, Stored.index-within}
use Rattle.{pb_propagate.specs.declared.engine.root.Root.Root, std.proofs.lemmas.Grind.get_or-set_at}
use Rattle.pb_propagate.specs.engine.engine.{Lists.has, Lists.open_part, Rest.no_slots, Rest.add_slot, Root.IsRootOf, Root.IsSized}
use Rattle.pb_propagate.specs.engine.engine.Refreshed.{AreRefreshed, IsRefreshed, Lacks, IsUntouched, IsReleased, IsShortened, IsSomeRoot}

pub refreshed-stays : (store : Store) (b c : Root) (s : ℕ) → AreRefreshed store b c → IsRefreshed store b s → IsRefreshed store c s
refreshed-stays store b c s next r = elim (next.each s) [
  | inl u ↦ record { passed = u.passed ∙ r.passed; calm = λ off d k. rw u.opened (r.calm (u.absent off) d k) }
  | inr new ↦ new
]

pub refreshed-at : {store : Store} {root : Root} {form s : ℕ} → s ≡ form → IsRefreshed store root form → IsRefreshed store root s
refreshed-at {store} {root} one r = subst (IsRefreshed store root) (sym one) r

pub refreshed-then : (store : Store) (a b c : Root) → AreRefreshed store a b → AreRefreshed store b c → AreRefreshed store a c
refreshed-then store a b c p q =
    let both : (s : ℕ) → IsUntouched a b s → IsUntouched b c s → IsUntouched a c s = λ s v u. search (rules, u.opened ∙ v.opened, u.passed ∙ v.passed, v.absent, u.absent) in
    let stays = λ (s : ℕ). refreshed-stays store b c s q in
    grind (arith, both, stays, p.each, q.each, p.live, q.live, p.opens, q.opens, p.starts, q.starts)

-- the slot of a constraint with a term or a degree has a form
pub live-slot : (os : List (Option Form)) (xs : List Shape) (s : ℕ) (f : Shape) → AreSlots os xs → slice_get xs s ≡ Some f → 0 < length f.terms + f.degree → (g : Form) × (form_at os s ≡ Some g)
live-slot _ _ s f no_slots at some = absurd (let e : None ≡ Some f = at in cc)
live-slot _ _ zero f (add_slot None x k a) at some =
    absurd (omega (arith, some, ap (λ (y : Shape). length y.terms + y.degree) (same_Some x f at), ap length k.0, k.1))
live-slot _ _ zero f (add_slot (Some g) x k a) at some = (g, refl)
live-slot _ _ (suc s) f (add_slot {os} {xs} o x k a) at some = live-slot os xs s f a at some

some-more : (x : Shape) (codes : List ℕ) → 0 < length x.terms → 0 < length (slot_shape x codes).terms + (slot_shape x codes).degree
some-more x [] some = omega (arith, some)
some-more x (c ∷ codes) some = omega arith

terms-form : (store : Store) (clauses : Clauses) (s : ℕ) → AreSlots (forms_of store.stored.items) (all_of store clauses) → 0 < length (terms_at (shapes_of store.stored.items) s) → HasForm store s
terms-form store clauses s slots some =
    let none : Shape = record { terms = []; degree = 0 } in
    let more = some-more (get_or (shapes_of store.stored.items) s none) (list_at (clauses_of clauses) s) some in
    let live = live-slot (forms_of store.stored.items) (all_of store clauses) s (get_or (all_of store clauses) s none) slots in
    let at = slice_get-get_or (all_of store clauses) s none in
    grind (arith, live, more, get_or_past (shapes_of store.stored.items) s none, at, joined-length, joined-at (shapes_of store.stored.items) (clauses_of clauses) s none)

-- the first literals have the same reasons
pub reasons-first : {forms : List Shape} {reasons : List ℕ} (list : List NumberedLiteral) (n : ℕ) → HaveReasons forms reasons [] list → HaveReasons forms reasons [] (take n list)
reasons-first _ n from_given = subst (HaveReasons _ _ []) (sym (take_all n [] (omega arith))) from_given
reasons-first _ n (by_reason {list} l s x h at stored puts) =
    let earlier = reasons-first list n h in
    let whole = by_reason l s x h at stored puts in
    grind (arith, cases_lt n (length list + 1), take-append-le n list (l ∷ []), earlier, take_all n (list ++ (l ∷ [])), length-append list (l ∷ []), whole)

-- no literal comes after itself or its negation
pub reasons-fresh : {forms : List Shape} {reasons : List ℕ} {list : List NumberedLiteral} (i : ℕ) (d : NumberedLiteral) → HaveReasons forms reasons [] list →
    i < length list → (has (take i list) (get_or list i d) ≡ false) × (has (take i list) (negation (get_or list i d)) ≡ false)
reasons-fresh i d from_given inside = absurd (omega (arith, inside))
reasons-fresh i d (by_reason {list} l s x h at stored puts) inside
    = grind (arith, reasons-fresh i d h, take-append-le, get_or_append_left, take-append_seam, get_or_push, length-append)

-- the root once its last literal was taken off, before forms are refreshed
abbrev pub shorter : Root → Assignment → Walked → Root
shorter old a walked = record old { run = record old.run { assignment = a }; walked = walked }

-- the last literal is taken off a list
pub record IsCut (old a : Assignment) (last : ℕ) (l : NumberedLiteral) : Type 0 where
  pub list : a.list.items ≡ take last old.list.items
  pub values : length a.values.items ≡ length old.values.items
  pub reasons : a.reasons ≡ old.reasons
  pub size : length old.list.items ≡ last + 1
  pub is : l ≡ get_or old.list.items last l

-- each form with an entry of the literal is refreshed
abbrev pub AllRefreshed : Store → Root → NumberedLiteral → Type 0
AllRefreshed store r l = (j : ℕ) (e : Weighted) → slice_get (get_or (entries_of (shapes_of store.stored.items) store.occurrences) (place l) []) j ≡ Some e → IsRefreshed store r e.form

-- after the cut the open sums lack the coefficients of the literal that was falsified
pub cut-lacks : (store : Store) (clauses : Clauses) (old : Root) (a : Assignment) (walked : Walked) (last : ℕ) (l : NumberedLiteral) → IsSound store →
    IsRootOf store clauses old → IsCut old.run.assignment a last l →
    Lacks store (shorter old a walked) (get_or (entries_of (shapes_of store.stored.items) store.occurrences) (place (negation l)) [])
cut-lacks store clauses old a walked last l sound r cut s d less =
    let listed = last-split old.run.assignment.list.items last l cut.size cut.is in
    let absent = ap (has (take last old.run.assignment.list.items)) cut.is ∙ (reasons-fresh last l r.reasoned (omega (arith, cut.size))).0 in
    grind (arith, r.counted, open_sum-push, sound.whole.linked, length-map, cut.list)

pub retracted-rooted : (store : Store) (clauses : Clauses) (old new : Root) (a : Assignment) (walked : Walked) (last : ℕ) (l : NumberedLiteral) → IsSound store → AreSlots
    (forms_of store.stored.items) (all_of store clauses) → IsRootOf store clauses old → AreRefreshed store (shorter old a walked) new →
    IsCut old.run.assignment a last l →
    AllRefreshed store new l → AllRefreshed store new (negation l) → IsWalkedTo clauses (take last old.run.assignment.list.items) walked → Lacks store new [] →
    IsRootOf store clauses new
retracted-rooted store clauses old new a walked last l sound slots r f cut mine theirs walks lacks =
    let listed = last-split old.run.assignment.list.items last l cut.size cut.is in
    let shapes = shapes_of store.stored.items in
    let touched : (s k : ℕ) (t : Term) → s < length shapes → slice_get (terms_at shapes s) k ≡ Some t → t.literal.variable ≡ l.variable → IsRefreshed store new s = λ s k t less at same.
    let e = term-entry s k t sound less at in
    grind (arith, cases_Bool t.literal.negated, cases_Bool l.negated, literal_ext t.literal l, literal_ext t.literal (negation l), same, mine e.0 e.1, theirs e.0 e.1, e.2, e.3) in
    let tidy : IsTidyRoot store new.run new.rests new.waiting (length store.stored.items) = Tidy-rest (f.opens r.opens) (f.starts r.starts)
    (length-map store.stored.items stored_shape ∙ sym f.sized.opens)
    (λ s d less idle off gone. elim (f.each s) [
      | inl u ↦ rw (u.opened, u.passed) (r.tidy.calm s d less idle (u.absent off) gone)
      | inr n ↦ n.calm off d (get_or new.run.candidates s 0)
    ])
    (λ s d less k t early within.
    let m = get_or (get_or shapes s d).terms k t in
    let at = slice_get-get_or (get_or shapes s d).terms k t within in
    let apart = has-elsewhere (take last old.run.assignment.list.items) l in
    grind (arith, f.each s, at, listed, get_or_default shapes s d, r.tidy.passed s d less k t, f.assignment, cut.list, touched s k m less, apart m.literal, apart (negation m.literal)))
    (λ s d less. grind (arith, f.each s, r.tidy.bounded s d less)) in
    let reasoned = reasons-first old.run.assignment.list.items last r.reasoned in
    let live : (i s : ℕ) → slice_get new.waiting.list.items i ≡ Some s → HasForm store s = λ i s at. grind (arith, f.live i s at, terms-form, r.live) in
    grind (arith, lacks, tidy, reasoned, walks, live, f.opens, f.starts)

-- an entry of the list of a literal
pub record IsOccurrence (store : Store) (l : NumberedLiteral) (items : List Occurrence) (j : ℕ) (o : Occurrence) : Type 0 where
  pub read : o ≡ get_or items j o
  pub inside : j < length items
  pub form : o.form < length store.stored.items
  pub index : o.index < length (terms_at (shapes_of store.stored.items) o.form)
  pub some : 0 < length (terms_at (shapes_of store.stored.items) o.form)
  pub entries : get_or (entries_of (shapes_of store.stored.items) store.occurrences) (place l) [] ≡ map (weighted (shapes_of store.stored.items)) items

-- the list of a literal, as the program reads it
pub listed-entries : (store : Store) (l : NumberedLiteral) (q : ℕ) (v : List Occurrence) → IsSound store → l.variable < store.variables → q ≡ place l → v ≡ get_or store.occurrences q [] → get_or (entries_of (shapes_of store.stored.items) store.occurrences) (place l) [] ≡ map (weighted (shapes_of store.stored.items)) v
listed-entries store l q v sound inside at read = entries-at (shapes_of store.stored.items) store.occurrences (place l) q v read at

pub occurrence-read : (store : Store) (l : NumberedLiteral) (q : ℕ) (v : List Occurrence) (j : ℕ) (o : Occurrence) → IsSound store → l.variable < store.variables → q ≡ place l → v ≡ get_or store.occurrences q [] → o ≡ get_or v j o → j < length v → IsOccurrence store l v j o
occurrence-read store l q v j o sound inside at read item less =
    let forms = shapes_of store.stored.items in
    let same = listed-entries store l q v sound inside at read in
    let form = form-within forms (get_or (entries_of forms store.occurrences) (place l) []) v j o (length forms) same item less (sound.named (place l)) in
    let index = index-within forms (spots_of store.spots) store.occurrences (place l) j v o same item less sound.whole in
    search (rules, length-map store.stored.items stored_shape)

-- one more entry is refreshed
pub all-next : (store : Store) (l : NumberedLiteral) (items : List Occurrence) (b c : Root) (i : ℕ) (o : Occurrence) → IsOccurrence store l items i o → AreRefreshed store b c → IsRefreshed store c o.form →
    ((j : ℕ) (e : Weighted) → j < i → slice_get (get_or (entries_of (shapes_of store.stored.items) store.occurrences) (place l) []) j ≡ Some e → IsRefreshed store b e.form) → (j : ℕ) (e : Weighted) → j < i + 1 → slice_get (get_or (entries_of (shapes_of store.stored.items) store.occurrences) (place l) []) j ≡ Some e → IsRefreshed store c e.form
all-next store l items b c i o there next mine old j e less at =
    let got = get-map (weighted (shapes_of store.stored.items)) items i o there.inside there.read in
    grind (arith, cases_lt j i, got, there.entries, old j e, refreshed-stays store b c e.form next, mine, refreshed-at)

-- the entries from one on
pub ahead-entry : (store : Store) (items : List Occurrence) (j : ℕ) (o : Occurrence) → o ≡ get_or items j o → j < length items → drop j (map (weighted (shapes_of store.stored.items)) items) ≡ weighted (shapes_of store.stored.items) o ∷ drop (j + 1) (map (weighted (shapes_of store.stored.items)) items)
ahead-entry store items j o item inside =
    let f = weighted (shapes_of store.stored.items) in
    grind (arith, drop_more (map f items) j (f o), get_or-map f items j o (f o), length-map items f)

-- an open sum is at most the sum of all coefficients
open_sum-small : (list : List NumberedLiteral) (terms : List Term) → open_sum list terms ≤ size terms
unfolding open_part
open_sum-small list terms = sum_by-le-sum_by (open_part list) (λ t. t.coefficient) terms (λ t. grind arith)

-- a coefficient that an open sum lacks fits beside it
pub lacks-fits : (store : Store) (a : Root) (e : Weighted) (rest : List Weighted) (d : Shape) → e.form < length store.stored.items → Lacks store a (e ∷ rest) → get_or a.run.opens e.form 0 + e.coefficient ≤ size (get_or (shapes_of store.stored.items) e.form d).terms
lacks-fits store a e rest d less lacks = grind (arith, sum_by-cons, entry_weight-same, open_sum-small, a.run)

-- what is still to be added after one more entry
pub lacks-next : (store : Store) (l : NumberedLiteral) (items : List Occurrence) (a b : Root) (j : ℕ) (o : Occurrence) → IsOccurrence store l items j o → IsSized store a → b.run.opens ≡ set a.run.opens o.form (get_or a.run.opens o.form 0 + coefficient_at (shapes_of store.stored.items) o.form o.index) → b.run.assignment ≡ a.run.assignment →
    Lacks store a (drop j (map (weighted (shapes_of store.stored.items)) items)) → Lacks store b (drop (j + 1) (map (weighted (shapes_of store.stored.items)) items))
lacks-next store l items a b j o there sized opens same lacks s d less =
    let ahead = subst (Lacks store a) (ahead-entry store items j o there.read there.inside) lacks in
    grind (arith, ahead s d less, sum_by-cons, entry_weight-same, entry_weight-other, get_or-set_at, get_or-set_other, there.form, sized.opens)

-- ---- Reasons that are replaced by others, and literals that are taken off the root's list.
-- the constraint of a slot
pub slot-is : (store : Store) (clauses : Clauses) (slot : ℕ) (x : Shape) → slot < length store.stored.items → slice_get (all_of store clauses) slot ≡ Some x → x ≡ slot_shape (get_or (shapes_of store.stored.items) slot x) (list_at (clauses_of clauses) slot)
slot-is store clauses slot x less at =
    sym (get_or_from_slice_get (all_of store clauses) slot x x at) ∙ joined-at (shapes_of store.stored.items) (clauses_of clauses) slot x (omega (arith, less, length-map store.stored.items stored_shape))

-- a unit puts its literal
pub unit-moved : (shapes : List Shape) (clauses : List (List ℕ)) (slot unit : ℕ) (l : NumberedLiteral) (reasons : List ℕ) (x : Shape) → AreJoined shapes clauses → IsOtherUnit shapes slot l unit → slice_get reasons l.variable ≡ Some unit → IsMoved (joined shapes clauses) reasons l x
unit-moved shapes clauses slot unit l reasons x j u at =
    let y = get_or shapes unit x in
    let only = u.only x in
    let t : Term = record { literal = l; coefficient = only.0 } in
    let stored = stored-joined shapes clauses unit y j (slice_get-get_or shapes unit x u.inside) (omega (arith, ap length only.1)) in
    let term : Contains y.terms t = subst (λ ts. Contains ts t) (sym only.1) (0, omega arith, refl) in
    let puts = λ (earlier : List NumberedLiteral) (p : Puts (x ∷ []) earlier l). open_part-open earlier t p.not_falsified in
    grind (arith, at, stored, puts, term, one_itself y, only.1, sum_by-cons, u.positive x)

-- nothing is replaced
pub same-reasons : (shapes : List Shape) (slot : ℕ) (a : Assignment) → HasOtherReasons shapes slot a a
same-reasons shapes slot a = record { list = refl; values = refl; reasoned = λ clauses j h. h; fewer = λ l due. due }

pub other-then : {shapes : List Shape} {slot : ℕ} {a b c : Assignment} → HasOtherReasons shapes slot a b → HasOtherReasons shapes slot b c → HasOtherReasons shapes slot a c
other-then f g = search (rules, g.list ∙ f.list, g.values ∙ f.values, f.reasoned, g.reasoned, f.fewer, g.fewer)

-- a literal is given a unit as its reason
pub explained-reasons : (shapes : List Shape) (slot unit : ℕ) (l : NumberedLiteral) (old new : Assignment) → IsOtherUnit shapes slot l unit →
    has old.list.items l ≡ true → l.variable < length old.reasons.items → new.list ≡ old.list → new.values ≡ old.values →
    new.reasons.items ≡ set old.reasons.items l.variable unit → HasOtherReasons shapes slot old new
explained-reasons shapes slot unit l old new u on inside list values reasons =
    let moved = λ (clauses : List (List ℕ)) (j : AreJoined shapes clauses).
    reasons-moved (joined shapes clauses) (joined shapes clauses) old.reasons.items new.reasons.items [] old.list.items (λ k s x there at stored some.
    let one = one-literal old.values.items old.list.items k l old.agrees there on in
    grind (arith, cases_eq k.variable l.variable, one, unit-moved shapes clauses slot unit l new.reasons.items x j u, reasons, get-set_same, inside, moved-same, get-set_other)) in
    grind (arith, moved, list, values, cases_eq, u.apart, reasons, get-set_same, get-set_other)

-- no literal of the slot's terms is due to it
needless-at : (forms : List Shape) (slot : ℕ) (a : Assignment) (terms : List Term) → ((x : Shape) → slice_get forms slot ≡ Some x → x.terms ≡ terms) →
    HaveReasons forms a.reasons.items [] a.list.items → ((k : ℕ) (d : Term) → k < length terms → IsDue slot a.list.items a.reasons.items (get_or terms k d).literal → ⊥) →
    IsNeedless forms slot a
needless-at forms slot a terms is reasoned free =
    let none : (l : NumberedLiteral) → IsDue slot a.list.items a.reasons.items l → ⊥ = λ l due. let t = due-term forms a.reasons.items a.list.items slot l reasoned due in
    grind (arith, is t.form t.stored, t.term, free, due) in
    search (rules, reasoned, none)

-- the same of a clause
pub needless-codes : (store : Store) (clauses : Clauses) (slot : ℕ) (a : Assignment) → slot < length store.stored.items → 0 < length (list_at (clauses_of clauses) slot) → HaveReasons (all_of store clauses) a.reasons.items [] a.list.items → ((k d : ℕ) → k < length (list_at (clauses_of clauses) slot) → IsDue slot a.list.items a.reasons.items (literal_at (get_or (list_at (clauses_of clauses) slot) k d)) → ⊥) → IsNeedless (all_of store clauses) slot a
needless-codes store clauses slot a inside some reasoned free =
    let codes = list_at (clauses_of clauses) slot in
    needless-at (all_of store clauses) slot a (map one_term codes)
    (λ x at. grind (arith, slot-is store clauses slot x inside at, shape-some (get_or (shapes_of store.stored.items) slot x) codes some)) reasoned
    (λ k d less due. grind (arith, free k 0, length-map codes one_term, get_or-map one_term codes k 0 d, less, due))

-- and of a form in the occurrence lists
pub needless-terms : (store : Store) (clauses : Clauses) (slot : ℕ) (a : Assignment) → slot < length store.stored.items → list_at (clauses_of clauses) slot ≡ [] → HaveReasons (all_of store clauses) a.reasons.items [] a.list.items → ((k : ℕ) (d : Term) → k < length (terms_at (shapes_of store.stored.items) slot) → IsDue slot a.list.items a.reasons.items (get_or (terms_at (shapes_of store.stored.items) slot) k d).literal → ⊥) → IsNeedless (all_of store clauses) slot a
needless-terms store clauses slot a inside bare reasoned free =
    needless-at (all_of store clauses) slot a (terms_at (shapes_of store.stored.items) slot)
    (λ x at. grind (arith, slot-is store clauses slot x inside at, get_or_default (shapes_of store.stored.items) slot x (record { terms = []; degree = 0 }), length-map)) reasoned free

-- the variables of a stored form are those of the store
pub terms-inside : (store : Store) (slot : ℕ) (k : StoredForm) → IsSound store → slot < length store.stored.items → k ≡ get_or store.stored.items slot k → AreInside store.variables (stored_terms k)
terms-inside store slot k sound inside is =
    grind (arith, shape-at store.stored.items slot k inside is (stored_shape k), sound.inside slot (stored_shape k), inside, length-map store.stored.items stored_shape)

-- none is taken off
pub shortened-same : (store : Store) (root : Root) → IsSized store root → IsShortened store root root
shortened-same store root sized = record { sized = sized; first = extends-none (list_of root.run); reasons = refl; rooted = λ clauses slots r. r }

pub shortened-then : {store : Store} {a b c : Root} → IsShortened store a b → IsShortened store b c → IsShortened store a c
shortened-then {store} {a} {b} {c} p q =
    search (rules, extends-then (list_of c.run) (list_of b.run) (list_of a.run) q.first p.first, p.rooted, q.rooted)

-- no literal is due that was not due before
pub shortened-released : (store : Store) (slot : ℕ) (old new : Root) → IsShortened store old new → IsReleased store slot old new
shortened-released store slot old new s = grind (arith, s.sized, extends-within, new.run, old.run, s.first, s.reasons, s.rooted)

pub released-same : (store : Store) (slot : ℕ) (root : Root) → IsSized store root → IsReleased store slot root root
released-same store slot root sized = record { sized = sized; fewer = λ l due. due; rooted = λ clauses j slots r. r }

pub released-then : {store : Store} {slot : ℕ} {a b c : Root} → IsReleased store slot a b → IsReleased store slot b c → IsReleased store slot a c
released-then {store} {slot} {a} {b} {c} p q = search (rules, p.fewer, q.fewer, p.rooted, q.rooted)

-- the lists of a root have their sizes
pub some-sized : (store : Store) (root : Root) → IsSomeRoot store root → IsSized store root
some-sized store root (clauses, joined, slots, r) = search rules

pub some-released : {store : Store} {slot : ℕ} {old new : Root} → IsSomeRoot store old → IsReleased store slot old new → IsSomeRoot store new
some-released r s = (r.0, r.1, r.2, s.rooted r.0 r.1 r.2 r.3)

-- a reason is replaced
pub replaced-released : (store : Store) (slot : ℕ) (old new : Root) (a : Assignment) → new ≡ record old { run = record old.run { assignment = a } } → IsSized store old → HasOtherReasons (shapes_of store.stored.items) slot old.run.assignment a → IsReleased store slot old new
replaced-released store slot old new a is sized o = grind (arith, o.fewer, reasoned-rooted, o.list, o.values, o.reasoned)

-- a list with a literal has one
pub due-some : (list : List NumberedLiteral) (l : NumberedLiteral) → has list l ≡ true → 0 < length list
due-some [] l on = absurd (both_ways _ (has-none l) on)
due-some (x ∷ xs) l on = omega arith
