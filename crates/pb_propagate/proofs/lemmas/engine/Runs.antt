-- What a run has counted, and the steps that put a literal and go over its entries.
use Rattle.pb_propagate.{proofs.lemmas.store.Stored.entries-get, proofs.lemmas.store.Stored.index-within, specs.declared.store.Visited.Visited}
use Rattle.pb_propagate.proofs.{Common.entries_against, Common.StaysTidy, lemmas.engine.Literals.settled-of_terms, lemmas.engine.Literals.negation-negation}
use Rattle.pb_propagate.proofs.Common.{◌∙◌, sym, ℕ, ◌++◌, ◌+◌, ◌-◌, ◌<◌, ◌∷◌, ◌≡◌, ◌≤◌, [], arith, eq-eqb, false, get_or, get_or-set_other, length}
use Rattle.pb_propagate.proofs.Common.{length-append, List, refl, set, suc, true, zero, All, ne_eqb, get_or_append_left, get_or_default, get_or_push, All-push}
use Rattle.pb_propagate.proofs.Common.{sum_by-cons, NumberedLiteral, negation, Term, AreFalling, beside, Database, Grown, IsTidy, Rests, IsAbsent, IsCalm}
use Rattle.pb_propagate.proofs.Common.{IsCounted, IsDone, IsTidyAt, Lowers, Progress, pushed, spared, weight_in, weight_on, has, IsSettled, open_part, open_sum}
use Rattle.pb_propagate.proofs.Common.{same, Shape, Weighted, Extends, AreSingle, rules, ◌*◌, ◌^◌, ap, Bool, drop, length-set, map, min, Option}
use Rattle.pb_propagate.proofs.Common.{sum, drop_more, length-map, Contains-get_or, sum_by_push, Occurrence, Store, more, place, spent, entries_of}
use Rattle.pb_propagate.proofs.Common.{IsSound, shapes_of, spots_of, coefficient_at, terms_at, weighted, broken, Conflicts, Advances, Costs, database}
use Rattle.pb_propagate.proofs.lemmas.engine.Literals.{has-push, has-push_old, has-push_new, same-true, same-refl, open_part-falsified, open_part-open}
use Rattle.pb_propagate.specs.engine.engine.{Counts.entry_weight, Counts.term_weight, Counts.ArePassed, Fields.entry_at, Links.coefficient_at}
use Rattle.std.proofs.{Math.ListN.get_or-map as get_or-map-default, lemmas.Grind.get_or-set_at}

pub term_weight-same : (l : NumberedLiteral) (t : Term) → same t.literal l ≡ true → term_weight l t ≡ t.coefficient
unfolding term_weight
term_weight-same l t h = rw h

pub term_weight-other : (l : NumberedLiteral) (t : Term) → same t.literal l ≡ false → term_weight l t ≡ 0
unfolding term_weight
term_weight-other l t h = rw h

same-negation : (k l : NumberedLiteral) → same k (negation l) ≡ false → same l (negation k) ≡ false
same-negation k l other = grind (arith, same-true l (negation k), negation-negation k, same-refl (negation l))

-- an assigned literal subtracts the coefficients on its negation from an open sum
open_part-push : (list : List NumberedLiteral) (l : NumberedLiteral) → has list l ≡ false → (t : Term) → open_part list t ≡ open_part (list ++ (l ∷ [])) t + term_weight (negation l) t
open_part-push list l absent t = grind (arith, has-push, has-push_new, same-negation, same-true, negation-negation, term_weight-same, term_weight-other, open_part-falsified, open_part-open)

pub open_sum-push : (list : List NumberedLiteral) (l : NumberedLiteral) → has list l ≡ false → (terms : List Term) → open_sum list terms ≡ open_sum (list ++ (l ∷ [])) terms + weight_on (negation l) terms
open_sum-push list l absent [] = refl
open_sum-push list l absent (t ∷ ts) = omega (arith, open_part-push list l absent t, open_sum-push list l absent ts, sum_by-cons {X = Term})

pub entry_weight-same : (s : ℕ) (e : Weighted) → e.form ≡ s → entry_weight s e ≡ e.coefficient
unfolding entry_weight
entry_weight-same s e h = grind (arith, eq-eqb)

pub entry_weight-other : (s : ℕ) (e : Weighted) → (s ≡ e.form → ⊥) → entry_weight s e ≡ 0
unfolding entry_weight
entry_weight-other s e h = grind (arith, ne_eqb)

pub absent-cons : (x : ℕ) (xs : List ℕ) (s : ℕ) → (x ≡ s → ⊥) → IsAbsent xs 0 s → IsAbsent (x ∷ xs) 0 s
absent-cons x xs s apart gone zero from less at = apart at
absent-cons x xs s apart gone (suc i) from less at = gone i (omega arith) (omega (arith, less)) at

pub absent-from : (work : List ℕ) (i s : ℕ) → (get_or work i 0 ≡ s → ⊥) → IsAbsent work (i + 1) s → IsAbsent work i s
absent-from work i s other gone j after less at = grind (arith, gone j)

pub done-push : (list : List NumberedLiteral) (l k : NumberedLiteral) → IsDone list k → IsDone (list ++ (l ∷ [])) k
done-push list l k h = grind (arith, has-push_old list l k, has-push_old list l (negation k))

-- a literal is assigned: its entries are still to be subtracted from the open sums
pub Counted-put : (forms : List Shape) (opens : List ℕ) (list next : List NumberedLiteral) (l : NumberedLiteral) (entries : List Weighted) → next ≡ list ++ (l ∷ []) → has list l ≡ false → ((s : ℕ) (d : Shape) → s < length forms → weight_in s entries ≡ weight_on (negation l) (get_or forms s d).terms) → IsCounted forms opens list [] → IsCounted forms opens next entries
Counted-put forms opens list next l entries e absent linked r = grind (arith, r.each, open_sum-push)

-- the elements of a list that may grow by a number
pub grown-absent : {needless : Type 0} (x : ℕ) (old new : List ℕ) (n s : ℕ) → Grown needless x old new → IsAbsent new n s → IsAbsent old n s
grown-absent x old new n s g gone i from less at = grind (arith, g, gone i, length-append old (x ∷ []), get_or_append_left old (x ∷ []) 0 i)

pub grown-new : {needless : Type 0} (x : ℕ) (old new : List ℕ) (n s : ℕ) → n ≤ length old → s ≡ x → Grown needless x old new → IsAbsent new n s → needless
grown-new x old _ n s within e pushed gone = absurd (gone (length old) within (omega (arith, length-append old (x ∷ []))) (get_or_push old x 0 (length old) refl ∙ sym e))
grown-new x old _ n s within e (spared p) gone = p

pub grown-still : {needless : Type 0} (x : ℕ) (old new : List ℕ) (s : ℕ) → (s ≡ x → ⊥) → Grown needless x old new → IsAbsent old 0 s → IsAbsent new 0 s
grown-still x old new s apart g gone i from less at = grind (arith, g, gone i from, get_or_append_left old (x ∷ []) 0 i, get_or_push old x 0 i, length-append old (x ∷ []))

pub grown-all : {needless : Type 0} (P : ℕ → Type 0) (x : ℕ) (old new : List ℕ) → P x → Grown needless x old new → All P old → All P new
grown-all P x old _ this pushed all = All-push P old x all this
grown-all P x old _ this (spared p) all = all

pub grown-length : {needless : Type 0} (x : ℕ) (old new : List ℕ) → Grown needless x old new → (length old ≤ length new) × (length new ≤ length old + 1)
grown-length x old new g = grind (arith, g, length-append old (x ∷ []))

-- an entry is subtracted
pub Tidy-lower : (d : Database) (aside : List ℕ) (busy : ℕ) (e : Visited) {old new : Progress} → Lowers d e old new → e.form < length d.forms → e.form < length old.opens → old.next ≤ length old.work → IsTidyAt d aside busy old → IsTidyAt d aside busy new
Tidy-lower d aside busy e {old} {new} l inside_x room within r =
    let left = get_or old.opens e.form 0 - coefficient_at d.forms e.form e.index in
    let bare : Shape = record { terms = []; degree = 0 } in
    let changed : (s : ℕ) → s ≡ e.form → IsAbsent new.trail 0 s → ⊥ = λ s one gone.
    let before = grown-absent e.form old.trail new.trail 0 s l.trail gone in
    grown-new e.form old.trail new.trail 0 s (omega arith) one l.trail gone bare (r.clean e.form bare inside_x (rw one at before)).0 in
    rw (l.opens, l.candidates, l.list, l.next) (record {
      calm = λ s f inside idle off gone.
          let was = r.calm s f inside idle off (grown-absent e.form old.work new.work old.next s l.work gone) in
          let needless = λ (one : s ≡ e.form). grown-new e.form old.work new.work old.next s within one l.work gone f (get_or old.candidates s 0) in
          grind (arith, was, needless, get_or-set_at old.opens e.form s left 0, get_or-set_other old.opens e.form s left 0);
      passed = r.passed;
      bounded = r.bounded;
      clean = λ s f inside gone.
          grind (arith, λ (one : s ≡ e.form). changed s one gone, get_or-set_other old.opens e.form s left 0, r.clean s f inside (grown-absent e.form old.trail new.trail 0 s l.trail gone));
      named = grown-all (λ s. s < length d.forms) e.form old.work new.work inside_x l.work r.named;
      marked = grown-all (λ s. s < length d.forms) e.form old.trail new.trail inside_x l.trail r.marked;
      traced = λ s gone. grown-still e.form old.work new.work s (λ one. changed s one gone) l.work (r.traced s (grown-absent e.form old.trail new.trail 0 s l.trail gone));
    })

-- the busy form's candidate changes
pub Tidy-pass : (d : Database) (aside : List ℕ) (busy : ℕ) (now : Progress) (f : Shape) (c : ℕ) (e : Term) → c ≡ get_or now.candidates busy 0 → busy < length now.candidates → ((x : Shape) → get_or d.forms busy x ≡ f) → c < length f.terms → IsDone now.list (get_or f.terms c e).literal → (IsAbsent now.work 0 busy → ⊥) → IsTidyAt d aside busy now → IsTidyAt d aside busy (record now { candidates = set now.candidates busy (c + 1) })
Tidy-pass d aside busy now f c e at room is here done there r = record {
  calm = λ s x inside idle off gone. rw (get_or-set_other now.candidates busy s (c + 1) 0 idle) (r.calm s x inside idle off gone);
  passed = λ s x inside k t before within.
      grind (arith, before, within, at, done, r.passed s x inside k t, get_or-set_other now.candidates busy s (c + 1) 0, get_or-set_at now.candidates busy s (c + 1) 0, is x, get_or_default f.terms c t e here);
  bounded = λ s x inside. grind (arith, here, get_or-set_other now.candidates busy s (c + 1) 0, r.bounded s x inside, get_or-set_at now.candidates busy s (c + 1) 0, is x);
  clean = λ s x inside gone. rw (get_or-set_other now.candidates busy s (c + 1) 0 (λ e. there (rw e at (r.traced s gone)))) (r.clean s x inside gone);
  named = r.named;
  marked = r.marked;
  traced = r.traced;
}

-- no form is on the work list or the trail, and each is as it is at rest
pub Tidy-rest : {rests : Rests} {aside : List ℕ} {forms : List Shape} {opens cands : List ℕ} {list : List NumberedLiteral} {busy : ℕ} → opens ≡ rests.opens → cands ≡ rests.starts → length forms ≡ length opens →
    ((s : ℕ) (d : Shape) → s < length forms → (s ≡ busy → ⊥) → IsAbsent aside 0 s → IsAbsent [] 0 s → IsCalm (get_or forms s d) (get_or opens s 0) (get_or cands s 0)) →
    ((s : ℕ) (d : Shape) → s < length forms → ArePassed (get_or forms s d).terms (get_or cands s 0) list) → ((s : ℕ) (d : Shape) → s < length forms → get_or cands s 0 ≤ length (get_or forms s d).terms) → IsTidy (beside rests aside) forms opens cands list [] [] 0 busy
Tidy-rest {rests} {aside} {forms} {opens} {cands} {list} {busy} opened started long calm passed bounded = grind (arith, get_or_default)

-- a calm form is settled, since its coefficients fall
pub calm-settled : (f : Shape) (o c : ℕ) (list : List NumberedLiteral) → AreFalling f.terms → o ≡ open_sum list f.terms → IsCalm f o c → ArePassed f.terms c list → IsSettled f list
calm-settled f o c list falling sum calm passed =
    settled-of_terms f list (omega (arith, sum, calm.met)) (λ k d inside low absent opened. grind (arith, inside, low, absent, opened, passed k d, calm.waiting d, falling c k d))

-- the literal is added to the list
pub record Assigns (l : NumberedLiteral) (values : List (Option Bool)) (list : List NumberedLiteral) (old : Progress) : Type 0 where
  pub list_is : list ≡ old.list ++ (l ∷ [])
  pub absent : has old.list l ≡ false
  pub sizes : length values ≡ length old.values

-- the first j of some entries were subtracted from the open sums
pub record IsPutting (d : Database) (es : List Weighted) (start now : Progress) (j : ℕ) : Type 0 where
  pub within : j ≤ length es
  pub counted : IsCounted d.forms now.opens now.list (drop j es)
  pub tidy : StaysTidy d start now
  pub absent : (s : ℕ) → IsAbsent now.work 0 s → IsAbsent start.work 0 s
  pub sizes : length now.opens ≡ length d.forms
  pub grown : length now.work ≤ length start.work + j
  pub longer : length start.work ≤ length now.work
  pub upper : now.visits ≤ start.visits + j
  pub rising : start.visits ≤ now.visits
  pub candidates : now.candidates ≡ start.candidates
  pub values : now.values ≡ start.values
  pub list : now.list ≡ start.list
  pub next : now.next ≡ start.next

-- the entry that was visited is the one at a position of a literal's list
pub record IsRead (d : Database) (es : List Weighted) (e : Visited) (j : ℕ) : Type 0 where
  pub inside : j < length es
  pub ahead : drop j es ≡ weighted d.forms (entry_at e) ∷ drop (j + 1) es
  pub form : e.form < length d.forms
  pub index : e.index < length (terms_at d.forms e.form)

pub putting-fits : {d : Database} {es : List Weighted} {start now : Progress} {j : ℕ} (e : Visited) → IsRead d es e j → IsPutting d es start now j → coefficient_at d.forms e.form e.index ≤ get_or now.opens e.form 0
putting-fits {d} {es} {start} {now} {j} e read p =
    grind (arith, p.counted.each e.form (record { terms = []; degree = 0 }) read.form, read.ahead, sum_by-cons, entry_weight-same)

-- one more entry is subtracted
pub putting-next : {d : Database} {es : List Weighted} {start now : Progress} {j : ℕ} (seen : ℕ) (e : Visited) (after : Progress) → IsRead d es e j → start.next ≤ length start.work → seen ≡ min (now.visits + 1) (2 ^ 64 - 1) → now.visits ≤ seen → IsPutting d es start now j → Lowers d e (record now { visits = seen }) after → after.values ≡ now.values → after.visits ≡ seen → IsPutting d es start after (j + 1)
putting-next {d} {es} {start} {now} {j} seen e after read within count rising p l values visits =
    let inside : e.form < length now.opens = omega (arith, read.form, p.sizes) in
    let queued = grown-length e.form now.work after.work l.work in
    let counted : IsCounted d.forms after.opens now.list (drop (j + 1) es) = grind (arith, l.opens, p.counted.each, read.ahead, sum_by-cons, entry_weight-same, entry_weight-other, get_or-set_at, get_or-set_other) in
    let tidy : StaysTidy d start after = λ aside busy t. Tidy-lower d aside busy e l read.form inside (omega (arith, p.longer, within, p.next)) (p.tidy aside busy t) in
    search (rules, p.absent, grown-absent, l.work, l.list, ap length l.opens, length-set now.opens e.form (get_or now.opens e.form 0 - coefficient_at d.forms e.form e.index))

spent-push : (d : Database) {l : NumberedLiteral} {values : List (Option Bool)} {list : List NumberedLiteral} (old : Progress) → Assigns l values list old → spent d.lists list ≡ spent d.lists old.list + length (entries_against d l)
spent-push d {l} old a = ap (spent d.lists) a.list_is ∙ sum_by_push (λ (k : NumberedLiteral). length (get_or d.lists (place (negation k)) [])) old.list l

pub assigned-tidy : (d : Database) {l : NumberedLiteral} {values : List (Option Bool)} {list : List NumberedLiteral} {old : Progress} → Assigns l values list old → StaysTidy d old (record old { values = values; list = list })
assigned-tidy d {l} {values} {list} {old} a aside busy t = rw a.list_is (search (rules, done-push old.list l, t.passed))

-- what has been paid once some entries were subtracted, also if an allocation fails at the next one
pub putting-costs : {d : Database} {l : NumberedLiteral} {values : List (Option Bool)} {list : List NumberedLiteral} {old now : Progress} {j : ℕ} (new : Progress) → Assigns l values list old → new.list ≡ now.list → new.candidates ≡ now.candidates → new.visits + j ≤ now.visits + length (entries_against d l) → IsPutting d (entries_against d l) (record old { values = values; list = list }) now j → Costs d 0 0 old new
putting-costs {d} {l} {values} {list} {old} {now} {j} new a lists candidates visits p =
    let listed : new.list ≡ old.list ++ (l ∷ []) = lists ∙ p.list ∙ a.list_is in
    let extends : Extends old.list new.list = (l ∷ [], listed) in
    let single : AreSingle old.list → AreSingle new.list = λ s. rw listed (more l s a.absent) in
    search (rules, spent-push d old a, ap (spent d.lists) (lists ∙ p.list), ap sum (candidates ∙ p.candidates))

pub putting-advances : {d : Database} {l : NumberedLiteral} {values : List (Option Bool)} {list : List NumberedLiteral} {old now : Progress} {j : ℕ} → Assigns l values list old → length old.opens ≡ length d.forms → IsPutting d (entries_against d l) (record old { values = values; list = list }) now j → Advances d 0 0 old now
putting-advances {d} {l} {values} {list} {old} {now} {j} a sizes p =
    let costs = putting-costs now a refl refl (omega (arith, p.within)) p in
    search (rules, p.absent, spent-push d old a, ap (spent d.lists) p.list, ap length p.values, ap length p.candidates, a.sizes)

-- a form whose open sum is too small is falsified, also while entries are still to be subtracted
pub counted-conflict : (forms : List Shape) (opens : List ℕ) (list : List NumberedLiteral) (rest : List Weighted) (form : ℕ) → form < length forms → IsCounted forms opens list rest → ((d : Shape) → get_or opens form 0 < (get_or forms form d).degree) → Conflicts forms list
counted-conflict forms opens list rest form inside counted low =
    let none : Shape = record { terms = []; degree = 0 } in
    broken (get_or forms form none) (Contains-get_or forms form none inside) (omega (arith, low none, counted.each form none inside))

-- in terms of what the program reads
pub entries-at : (forms : List Shape) (occ : List (List Occurrence)) (p q : ℕ) (items : List Occurrence) → items ≡ get_or occ q [] → q ≡ p → get_or (entries_of forms occ) p [] ≡ map (weighted forms) items
entries-at forms occ p q items is same_place = entries-get forms occ p ∙ ap (map (weighted forms)) (ap (λ n. get_or occ n []) (sym same_place) ∙ sym is)

item-weighted : (forms : List Shape) (es : List Weighted) (items : List Occurrence) (j : ℕ) (e : Occurrence) → es ≡ map (weighted forms) items → e ≡ get_or items j e → weighted forms e ≡ get_or es j (weighted forms e)
item-weighted forms es items j e same is = rw same (ap (weighted forms) is ∙ sym (get_or-map-default (weighted forms) items j e))

pub form-within : (forms : List Shape) (es : List Weighted) (items : List Occurrence) (j : ℕ) (e : Occurrence) (n : ℕ) → es ≡ map (weighted forms) items → e ≡ get_or items j e → j < length items → All (λ x. x.form < n) es → e.form < n
form-within forms es items j e n same is inside named =
    let less = named j (weighted forms e) (omega (arith, ap length same, length-map items (weighted forms), inside)) in
    omega (arith, less, ap (λ (x : Weighted). x.form) (item-weighted forms es items j e same is))

pub place-inside : (l : NumberedLiteral) (n : ℕ) → l.variable < n → place l < 2 * n
place-inside l n h = grind arith

pub place-read : (forms : List Shape) (occ : List (List Occurrence)) (n : ℕ) (l : NumberedLiteral) (q : ℕ) → l.variable < n → q ≡ place (negation l) → length (entries_of forms occ) ≡ 2 * n → q < length occ
place-read forms occ n l q h e sizes =
    omega (arith, place-inside (negation l) n h, e, sizes, length-map occ (map (weighted forms)))

pub entry-read : (store : Store) (rests : Rests) (l : NumberedLiteral) (q : ℕ) (items : List Occurrence) (j : ℕ) (e : Visited) → IsSound store → l.variable < store.variables → q ≡ place (negation l) → items ≡ get_or store.occurrences q [] → entry_at e ≡ get_or items j (entry_at e) → j < length items → IsRead (database store rests) (entries_against (database store rests) l) e j
entry-read store rests l q items j e sound inside at read item less =
    let forms = shapes_of store.stored.items in
    let es = get_or (entries_of forms store.occurrences) (place (negation l)) [] in
    let same : es ≡ map (weighted forms) items = entries-at forms store.occurrences (place (negation l)) q items read at in
    let named = form-within forms es items j (entry_at e) (length forms) same item less (sound.named (place (negation l))) in
    let index = index-within forms (spots_of store.spots) store.occurrences (place (negation l)) j items (entry_at e) same item less sound.whole in
    let entry = weighted forms (entry_at e) in
    let room : j < length es = omega (arith, less, ap length same, length-map items (weighted forms)) in
    search (rules, drop_more es j entry room ∙ ap (λ x. x ∷ drop (j + 1) es) (sym (item-weighted forms es items j (entry_at e) same item)))
