-- The steps of a visit to a form, and a propagation between two visits, from its beginning to its end.
use Rattle.pb_propagate.proofs.Common.{rules, stored_bound, stored_degree, stored_terms, stored_total, ℕ, ◌+◌, ◌-◌, ◌<◌, ◌^◌, ◌∙◌, ◌∷◌, ◌≡◌, ◌≤◌, [], ap, arith}
use Rattle.pb_propagate.proofs.Common.{false, get_or, length, length-append, length-set, List, min, set, subst, sym, All, Contains, slice_get, Some, sum}
use Rattle.pb_propagate.proofs.Common.{get_or-map, get_or_default, get_or_read, length-map, Contains-get_or, sum_by-set, slice_get-get_or, NumberedLiteral}
use Rattle.pb_propagate.proofs.Common.{negation, Rests, Store, StoredForm, Term, added, Adopted, Grown, IsAbsent, IsCalm, IsCounted, IsDone, kept, pushed}
use Rattle.pb_propagate.proofs.Common.{rest_open, spared, shapes_of, stored_shape, coefficient_at, AreInside, by_reason, has, HaveReasons, KeepsReasons}
use Rattle.pb_propagate.proofs.Common.{open_sum, Shape, Advances, Database, database, IsTidyAt, Progress, StaysTidy, VisitsEach, get_or-set_other, IsUndone}
use Rattle.pb_propagate.proofs.Common.{size, ◌*◌, ◌++◌, drop, take, sum_by, drop_all, drop_more, length-take, All-push, Heads, fallen, AreFalling, AreSingle}
use Rattle.pb_propagate.proofs.Common.{spent, Extends, IsSettled, Costs, queued, Spends, Clauses, AreWithin, clauses_of, IsAhead, passed_of, seen, reached}
use Rattle.pb_propagate.proofs.lemmas.clauses.Heads.{IsWatching, cost, cost-broken, cost-most}
use Rattle.pb_propagate.proofs.lemmas.engine.{Literals.has-push_new, Literals.one_itself, Literals.spent-le, Literals.sum-bounded, Reasoned.reasons-keep}
use Rattle.pb_propagate.proofs.lemmas.engine.Advances.{advances-then, advances-as, advances-visit, advances-counted, size_at, costs-none, extends-none}
use Rattle.pb_propagate.proofs.lemmas.{engine.Advances.extends-then, engine.Advances.spent-extends, engine.Advances.reached-extends, store.Stored.stored-sum}
use Rattle.pb_propagate.proofs.lemmas.engine.Runs.{Tidy-pass, absent-from, grown-still, grown-absent, grown-new, calm-settled, absent-cons}
use Rattle.{pb_propagate.proofs.lemmas.store.Stored.stored-idle, pb_propagate.proofs.lemmas.store.Stored.stored-falling, std.proofs.lemmas.Grind.get_or-set_at}
use Rattle.pb_propagate.specs.declared.{heads.Ahead.Ahead, store.stored_form.StoredForm.TheVariants.Vacant}

-- a form's terms are being passed
pub record IsVisiting (d : Database) (aside : List ℕ) (form : ℕ) (start now : Progress) : Type 0 where
  pub advances : Advances d 0 0 start now
  pub tidy : IsTidyAt d aside form now
  pub there : IsAbsent now.work 0 form → ⊥
  pub found : VisitsEach start now
  pub opens : length now.opens ≡ length d.forms
  pub candidates : length now.candidates ≡ length d.forms

-- the form's candidate c, the term t, is forced
pub record IsForced (d : Database) (form : ℕ) (now : Progress) (f : Shape) (t : Term) (c : ℕ) : Type 0 where
  pub inside : form < length d.forms
  pub is : (x : Shape) → get_or d.forms form x ≡ f
  pub candidate : c ≡ get_or now.candidates form 0
  pub here : c < length f.terms
  pub item : t ≡ get_or f.terms c t
  pub low : get_or now.opens form 0 < f.degree + t.coefficient

pub open-now : (forms : List Shape) (opens : List ℕ) (list : List NumberedLiteral) (form : ℕ) (d : Shape) → form < length forms → IsCounted forms opens list [] → get_or opens form 0 ≡ open_sum list (get_or forms form d).terms
open-now forms opens list form d inside c = grind (arith)

-- a forced literal that was tried has its form as its reason
pub visiting-reasons : {d : Database} {form : ℕ} {now : Progress} {f : Shape} {t : Term} {c : ℕ} (given new : List NumberedLiteral) (reasons reasons' : List ℕ) → IsForced d form now f t c → IsCounted d.forms now.opens now.list [] → Adopted t.literal now.list new → (has now.list t.literal ≡ false → has now.list (negation t.literal) ≡ false → slice_get reasons' t.literal.variable ≡ Some form) → KeepsReasons now.list reasons reasons' → HaveReasons d.forms reasons given now.list → HaveReasons d.forms reasons' given new
visiting-reasons {d} {form} {now} {f} {t} {c} given _ reasons reasons' forced counted (kept done) reason keeps h = reasons-keep reasons reasons' keeps h
visiting-reasons {d} {form} {now} {f} {t} {c} given _ reasons reasons' forced counted (added absent opened) reason keeps h =
    let sum_f = rw (forced.is f) at (open-now d.forms now.opens now.list form f forced.inside counted) in
    by_reason t.literal form f (reasons-keep reasons reasons' keeps h) (reason absent opened) (slice_get-get_or d.forms form f forced.inside ∙ ap (λ y. Some y) (forced.is f)) (record {
      absent = absent;
      not_falsified = opened;
      form = f;
      among = one_itself f;
      coefficient = t.coefficient;
      term = subst (Contains f.terms) (sym forced.item) (Contains-get_or f.terms c t forced.here);
      forced = omega (arith, sum_f, forced.low);
    })

-- a forced literal was tried, and its term is passed
pub visiting-next : {d : Database} {aside : List ℕ} {form : ℕ} {start now : Progress} {f : Shape} {t : Term} {c : ℕ} (seen : ℕ) (mid : Progress) → IsVisiting d aside form start now → IsForced d form now f t c → IsCounted d.forms now.opens now.list [] → seen ≡ min (now.visits + 1) (2 ^ 64 - 1) → now.visits ≤ seen → Adopted t.literal now.list mid.list → Advances d 0 0 (record now { visits = seen }) mid → StaysTidy d (record now { visits = seen }) mid → mid.candidates ≡ now.candidates → IsVisiting d aside form start (record mid { candidates = set mid.candidates form (c + 1) })
visiting-next {d} {aside} {form} {start} {now} {f} {t} {c} seen mid p forced counted count rising adopted a tidy same =
    let room : form < length mid.candidates = omega (arith, forced.inside, p.candidates, ap length same) in
    let at : c ≡ get_or mid.candidates form 0 = forced.candidate ∙ ap (λ xs. get_or xs form 0) (sym same) in
    let done_now : IsDone mid.list t.literal = grind (arith, adopted, has-push_new now.list t.literal) in
    let longer : length mid.list ≤ length now.list + 1 = grind (arith, adopted, length-append now.list (t.literal ∷ [])) in
    let sizes = length-set mid.candidates form (c + 1) in
    let raised : sum (set mid.candidates form (c + 1)) ≡ sum mid.candidates + 1 = omega (arith, sum_by-set (λ x. x) mid.candidates form (c + 1) 0 room, at) in
    let advances = advances-as 0 0 (omega arith) (advances-then p.advances (advances-then (advances-visit d now seen 0 1 rising (omega (arith, count))) (advances-then a (advances-counted d mid (set mid.candidates form (c + 1)) mid.visits 1 0 sizes (omega arith) (omega (arith, raised)))))) in
    let done = Tidy-pass d aside form mid f c t at room forced.is forced.here (rw forced.item at done_now) (λ gone. p.there (a.absent form gone)) (tidy aside form p.tidy) in
    search (rules, p.there, a.absent, p.found, longer, ap length same)

-- in terms of what the program reads
pub shape-at : (keep : List StoredForm) (form : ℕ) (k : StoredForm) → form < length keep → k ≡ get_or keep form k → (d : Shape) → get_or (shapes_of keep) form d ≡ stored_shape k
shape-at keep form k inside is d = get_or-map stored_shape keep form k d inside ∙ ap stored_shape (sym is)

pub forced-read : (store : Store) (rests : Rests) (form : ℕ) (now : Progress) (k : StoredForm) (o c : ℕ) (t : Term) → form < length store.stored.items → k ≡ get_or store.stored.items form k → length now.opens ≡ length (shapes_of store.stored.items) → length now.candidates ≡ length (shapes_of store.stored.items) → o ≡ get_or now.opens form o → c ≡ get_or now.candidates form c → c < length (stored_terms k) → t ≡ get_or (stored_terms k) c t → o < stored_degree k + t.coefficient → IsForced (database store rests) form now (stored_shape k) t c
forced-read store rests form now k o c t inside is opens candidates open_is cand_is here item low = grind (arith, length-map, now.opens, now.candidates, shape-at, get_or_read)

-- the visit ends at a calm form
pub visiting-settled : (store : Store) (rests : Rests) {aside : List ℕ} {form : ℕ} {start now : Progress} (k : StoredForm) (o c : ℕ) → form < length store.stored.items → k ≡ get_or store.stored.items form k → o ≡ get_or now.opens form o → c ≡ get_or now.candidates form c → stored_degree k ≤ o → ((d : Term) → c < length (stored_terms k) → stored_degree k + (get_or (stored_terms k) c d).coefficient ≤ o) → IsVisiting (database store rests) aside form start now → IsTidyAt (database store rests) aside (length store.stored.items) now
visiting-settled store rests {aside} {form} {start} {now} k o c inside is open_is cand_is met waiting p =
    let sizes = length-map store.stored.items stored_shape in
    let calm : IsCalm (stored_shape k) (get_or now.opens form 0) (get_or now.candidates form 0) = grind (arith, sizes, p.opens, p.candidates, get_or_read) in
    rw (← sizes) (grind (arith, now.work, now.next, now.opens, now.candidates, get_or_default, p.tidy, shape-at store.stored.items form k inside is, calm))

pub term-inside : (keep : List StoredForm) (n form : ℕ) (k : StoredForm) (items : List Term) (c : ℕ) (t : Term) → form < length keep → k ≡ get_or keep form k → items ≡ (stored_terms k) → c < length items → t ≡ get_or items c t → All (λ f. AreInside n f.terms) (shapes_of keep) → t.literal.variable < n
term-inside keep n form k items c t inside is items_is here item all =
    let item_k : t ≡ get_or (stored_terms k) c t = rw (← items_is) item in
    let of_kept = rw (shape-at keep form k inside is (stored_shape k)) at (all form (stored_shape k) (omega (arith, inside, length-map keep stored_shape))) in
    rw (← item_k) at (of_kept c t (omega (arith, here, ap length items_is)))

-- a number that need not be appended to a list
pub grown-by : {P Q : Type 0} (x : ℕ) (old new : List ℕ) → (P → Q) → Grown P x old new → Grown Q x old new
grown-by x old _ f pushed = pushed
grown-by x old _ f (spared p) = spared (f p)

pub idle-at : (keep : List StoredForm) (opens : List ℕ) (form : ℕ) (k : StoredForm) (o e : ℕ) → form < length keep → k ≡ get_or keep form k → form < length opens → o ≡ get_or opens form o → stored_bound k ≤ o - e → (d : Shape) (c : ℕ) → IsCalm (get_or (shapes_of keep) form d) (get_or opens form 0 - e) c
idle-at keep opens form k o e inside is room open_is low d c =
    rw (shape-at keep form k inside is d, ← get_or_read opens form o room open_is 0) (stored-idle k (o - e) c low)

pub changed-at : (rests : Rests) (keep : List StoredForm) (opens : List ℕ) (form : ℕ) (k : StoredForm) (o : ℕ) → form < length keep → k ≡ get_or keep form k → form < length opens → o ≡ get_or opens form o → (o ≡ get_or rests.opens form (stored_total k) → ⊥) → (d : Shape) → get_or opens form 0 ≡ rest_open rests form (get_or (shapes_of keep) form d) → ⊥
changed-at rests keep opens form k o inside is room open_is other d e = grind (arith, get_or_read, shape-at, stored-sum)

-- a coefficient that is read
pub weight-read : (keep : List StoredForm) (form index : ℕ) (k : StoredForm) (w : ℕ) → form < length keep → k ≡ get_or keep form k → ((d : Term) → w ≡ (get_or (stored_terms k) index d).coefficient) → w ≡ coefficient_at (shapes_of keep) form index
weight-read keep form index k w inside is read = grind (arith, shape-at)

-- one form more is as it was
pub undo-next : (rests : Rests) (keep : List StoredForm) (opens cands work : List ℕ) (i form opened back : ℕ) (k : StoredForm) → i < length work → form ≡ get_or work i form → k ≡ get_or keep form k → opened ≡ get_or rests.opens form (stored_total k) → back ≡ get_or rests.starts form 0 → length opens ≡ length keep → length cands ≡ length keep → IsUndone rests (shapes_of keep) opens cands work i → IsUndone rests (shapes_of keep) (set opens form opened) (set cands form back) work (i + 1)
undo-next rests keep opens cands work i form opened back k inside is at whole first o c u = record {
  clean = λ s d in_forms gone.
      let less = u.named i form inside in
      let named : form < length keep = omega (arith, less, is, length-map keep stored_shape) in
      let before = λ (other : s ≡ form → ⊥). u.clean s d in_forms (absent-from work i s (λ e. other (sym e ∙ sym (get_or_read work i form inside is 0))) gone) in
      grind (arith, before, named, stored-sum k, ap (λ (x : Shape). size x.terms) (shape-at keep form k named at d), get_or-set_at opens form s opened 0, get_or-set_other opens form s opened 0, get_or-set_at cands form s back 0, get_or-set_other cands form s back 0);
  named = u.named;
}

-- ---- A propagation between two visits, from its beginning to its end.
-- what a propagation begins with; `before` is what the visits to clauses had cost by then
pub record Beginning : Type 0 where
  pub base : Database
  pub waiting : List ℕ
  pub count : ℕ
  pub before : ℕ
  pub start : Progress

-- a propagation between two visits: `count` is the number of forms, and `extra` is what the visits to clauses may have cost
pub record IsPropagating (b : Beginning) (extra taken : ℕ) (now : Progress) : Type 0 where
  pub sized : length b.base.forms ≡ b.count
  pub single : AreSingle b.start.list
  pub begun : b.start.next ≤ length b.start.work
  pub counted : IsCounted b.base.forms now.opens now.list []
  pub tidy : IsTidyAt b.base (drop taken b.waiting) b.count now
  pub costs : Costs b.base b.before (extra + (now.next - b.start.next)) b.start now
  pub works : length now.work + spent b.base.lists b.start.list ≤ length (b.start.work ++ take taken b.waiting) + spent b.base.lists now.list
  pub started : b.start.next ≤ now.next
  pub found : VisitsEach b.start now
  pub rising : b.start.visits ≤ now.visits
  pub values : length now.values ≡ length b.start.values
  pub open_sizes : length now.opens ≡ b.count
  pub candidate_sizes : length now.candidates ≡ b.count
  pub within : now.next ≤ length now.work

pub propagating-start : (b : Beginning) → length b.base.forms ≡ b.count → AreSingle b.start.list → b.start.next ≤ length b.start.work → IsCounted b.base.forms b.start.opens b.start.list [] → IsTidyAt b.base b.waiting b.count b.start → length b.start.opens ≡ b.count → length b.start.candidates ≡ b.count → IsPropagating b b.before 0 b.start
propagating-start b sized single begun counted tidy o c = search (rules, extends-none b.start.list, length-append b.start.work [])

-- a waiting form is put to work
taken-tidy : (d : Database) (rest : List ℕ) (busy x : ℕ) (now : Progress) → x < length d.forms → now.next ≤ length now.work → IsTidyAt d (x ∷ rest) busy now → IsTidyAt d rest busy (record now { work = now.work ++ (x ∷ []); trail = now.trail ++ (x ∷ []) })
taken-tidy d rest busy x now inside within r = record {
  calm = λ s f room idle off gone.
      let other : x ≡ s → ⊥ = λ e. grown-new x now.work _ now.next s within (sym e) pushed gone in
      r.calm s f room idle (absent-cons x rest s other off) (grown-absent {needless = ⊥} x now.work _ now.next s pushed gone);
  passed = r.passed;
  bounded = r.bounded;
  clean = λ s f room gone. r.clean s f room (grown-absent {needless = ⊥} x now.trail _ 0 s pushed gone);
  named = All-push (λ s. s < length d.forms) now.work x r.named inside;
  marked = All-push (λ s. s < length d.forms) now.trail x r.marked inside;
  traced = λ s gone.
      let other : s ≡ x → ⊥ = λ e. grown-new x now.trail _ 0 s (omega arith) e pushed gone in
      grown-still {needless = ⊥} x now.work _ s other pushed (r.traced s (grown-absent {needless = ⊥} x now.trail _ 0 s pushed gone));
}

pub propagating-take : {b : Beginning} {extra taken : ℕ} {now : Progress} (x : ℕ) (work trail : List ℕ) → IsPropagating b extra taken now → taken < length b.waiting → x ≡ get_or b.waiting taken x → x < length b.base.forms → work ≡ now.work ++ (x ∷ []) → trail ≡ now.trail ++ (x ∷ []) → IsPropagating b extra (taken + 1) (record now { work = work; trail = trail })
propagating-take {b} {extra} {taken} {now} x work trail s less is inside longer noted =
    let rest = drop (taken + 1) b.waiting in
    let ahead : drop taken b.waiting ≡ x ∷ rest = drop_more b.waiting taken x less ∙ ap (λ y. y ∷ rest) (sym is) in
    let tidy : IsTidyAt b.base rest b.count (record now { work = work; trail = trail }) =
    rw (longer, noted) (taken-tidy b.base rest b.count x now inside s.within (rw ahead at s.tidy)) in
    search (rules, ap length longer, length-append now.work (x ∷ []), length-append b.start.work (take taken b.waiting), length-append b.start.work (take (taken + 1) b.waiting), length-take taken b.waiting, length-take (taken + 1) b.waiting)

pub propagating-visit : (d : Database) (aside : List ℕ) {n : ℕ} (now : Progress) (form : ℕ) → length d.forms ≡ n → now.next < length now.work → form ≡ get_or now.work now.next form → IsTidyAt d aside n now → IsTidyAt d aside form (record now { next = now.next + 1 })
propagating-visit d aside {n} now form e inside is t = grind (arith, get_or_read, now.work, now.next, d.forms)

-- after a visit to a form of the work list, or the walk over a literal's watches
pub propagating-next : {b : Beginning} {extra taken m n : ℕ} {now after : Progress} (extra' next : ℕ) → IsPropagating b extra taken now → IsCounted b.base.forms after.opens after.list [] → IsTidyAt b.base (drop taken b.waiting) b.count after → Advances b.base m n (record now { next = next }) after → VisitsEach now after → now.next ≤ next → next ≤ length now.work →
    after.visits + sum now.candidates + spent b.base.lists now.list + extra + now.next ≤ now.visits + sum after.candidates + spent b.base.lists after.list + extra' + next → IsPropagating b extra' taken after
propagating-next {b} {extra} {taken} {m} {n} {now} {after} extra' next s counted tidy a found onward within paid =
    search (rules, extends-then b.start.list now.list after.list s.costs.extends a.costs.extends, s.costs.single, a.costs.single, s.found, found)

-- the work list has a bound
pub propagating-bound : {b : Beginning} {extra taken : ℕ} {now : Progress} → IsPropagating b extra taken now → length now.work ≤ length b.start.work + length b.waiting + sum_by length b.base.lists
propagating-bound {b} {extra} {taken} {now} s = grind (arith, spent-le, b.base.lists, now.list, s.costs.single, s.single, s.works, length-append, b.start.work, b.waiting, length-take)

pub forms-falling : (keep : List StoredForm) (f : Shape) → Contains (shapes_of keep) f → AreFalling f.terms
forms-falling keep f (s, inside, is) =
    let less : s < length keep = omega (arith, inside, length-map keep stored_shape) in
    rw (sym is ∙ get_or-map stored_shape keep s Vacant f less) (stored-falling (get_or keep s Vacant))

pub propagating-settled : {b : Beginning} {extra taken : ℕ} {now : Progress} → IsPropagating b extra taken now → length now.work ≤ now.next → length b.waiting ≤ taken → (f : Shape) → Contains b.base.forms f → AreFalling f.terms → IsSettled f now.list
propagating-settled {b} {extra} {taken} {now} state all none_waits f (s, inside, is) falling =
    let off : IsAbsent (drop taken b.waiting) 0 s = rw (drop_all taken b.waiting none_waits) (λ i after less at. absurd (omega (arith, less))) in
    let calm = rw is at (state.tidy.calm s f inside (omega (arith, inside, state.sized)) off (λ i after less at. absurd (omega (arith, after, less, all)))) in
    let passed = rw is at (state.tidy.passed s f inside) in
    let sum_now = rw is at (open-now b.base.forms now.opens now.list s f inside state.counted) in
    calm-settled f (get_or now.opens s 0) (get_or now.candidates s 0) now.list falling sum_now calm passed

-- the number of visits, also if the propagation was abandoned after some visits to clauses
pub propagating-spends : {b : Beginning} {extra taken : ℕ} {now : Progress} (clauses : List (List ℕ)) (h : Heads) (searched : ℕ) (after : Progress) (made : ℕ) → IsPropagating b extra taken now → Extends now.list after.list → (AreSingle now.list → AreSingle after.list) → sum after.candidates ≤ sum_by (λ f. length f.terms) b.base.forms → now.next + made ≤ length now.work →
    after.visits + sum now.candidates + spent b.base.lists now.list + extra ≤ now.visits + made + sum after.candidates + spent b.base.lists after.list + (2 * reached clauses h now.list + searched) → Spends b.base b.before (queued b.waiting b.start + (2 * fallen clauses after.list + searched)) b.start after
propagating-spends {b} {extra} {taken} {now} clauses h searched after made s more one bounded room covered =
    let extends = extends-then b.start.list now.list after.list s.costs.extends more in
    search (rules, one, s.costs.single, length-append b.start.work (take taken b.waiting), length-take taken b.waiting, spent-extends b.base.lists now.list after.list more, reached-extends clauses now.list after.list h more)

-- What a propagation costs that ends: at a visit to a form, in a walk, or between them.

-- each candidate is inside its form
pub candidates-bounded : {b : Beginning} {extra taken : ℕ} {now : Progress} → IsPropagating b extra taken now → sum now.candidates ≤ sum_by (λ f. length f.terms) b.base.forms
candidates-bounded {b} {extra} {taken} {now} s = sum-bounded b.base.forms now.candidates (s.candidate_sizes ∙ sym s.sized) s.tidy.bounded

pub form-stopped : {b : Beginning} {taken : ℕ} {now : Progress} (c0 c : Clauses) (h : Heads) (after : Progress) (made next : ℕ) → IsPropagating b (cost c0 c h now.list) taken now → IsWatching c0 c now.values now.list h → now.next + made ≤ length now.work → sum after.candidates ≤ sum_by (λ f. length f.terms) b.base.forms → Costs b.base 0 made (record now { next = next }) after →
    Spends b.base b.before (queued b.waiting b.start + seen c0 after.list (sum_by length (clauses_of c0))) b.start after
form-stopped {b} {taken} {now} c0 c h after made next s w inside few costs =
    propagating-spends (clauses_of c0) h (sum_by length (clauses_of c0)) after made s costs.extends costs.single few inside
    (omega (arith, costs.paid, cost-most c0 c now.values now.list h w))

pub stopped : {b : Beginning} {taken : ℕ} {now : Progress} (c0 c : Clauses) (h : Heads) (after : Progress) → IsPropagating b (cost c0 c h now.list) taken now → IsWatching c0 c now.values now.list h → after.list ≡ now.list → after.candidates ≡ now.candidates → after.visits ≡ now.visits → Spends b.base b.before (queued b.waiting b.start + seen c0 after.list (sum_by length (clauses_of c0))) b.start after
stopped {b} {taken} {now} c0 c h after s w lists cands visits =
    form-stopped c0 c h after 0 now.next s w (omega (arith, s.within)) (omega (arith, candidates-bounded s, ap sum cands)) (costs-none (record now { next = now.next }) after lists cands visits)

pub walk-stopped : {b : Beginning} {taken : ℕ} {now : Progress} (c0 c c' : Clauses) (h : Heads) (a : Ahead) (after : Progress) → IsPropagating b (cost c0 c h now.list) taken now → IsWatching c0 c now.values now.list h → IsAhead h now.list a → AreWithin (passed_of c') (clauses_of c) → after.candidates ≡ now.candidates → Costs b.base (sum (passed_of c)) (2 * size_at c a.code + sum (passed_of c')) now after →
    Spends b.base b.before (queued b.waiting b.start + seen c0 after.list (sum_by length (clauses_of c0))) b.start after
walk-stopped {b} {taken} {now} c0 c c' h ahead after s w a within same costs =
    let few = candidates-bounded s in
    let broken = cost-broken c' (s.costs.single s.single) a within w in
    propagating-spends (clauses_of c0) ahead.heads (sum_by length (clauses_of c0)) after 0 s costs.extends costs.single (omega (arith, few, ap sum same)) (omega (arith, s.within)) (omega (arith, costs.paid, broken, ap sum same))
