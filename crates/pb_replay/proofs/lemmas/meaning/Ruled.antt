-- The rules accept what the outcomes accept.
use Rattle.pb_replay.proofs.Common.{ℕ, ℤ, ◌∷◌, [], inl, length, List, None, refl, set, Some, subst, sym, Ok, Option, NumberedLiteral, Form, arith}
use Rattle.pb_replay.proofs.Common.{Bound, Finite, Infinite, Conclusion, Bounds, NoClaim, Sat, Unsat, Statement, Conclude, Delete, End, F}
use Rattle.pb_replay.proofs.Common.{Header, Output, Pol, Rup, Soli, Solx, Constraint, LiteralAxiom, Product, Quotient, Saturation, Sum, Tree}
use Rattle.pb_replay.proofs.Common.{Weakening, words, Live, Literal, Term, Answer, Concludes, contradicted, lower_bound, upper_bound, Problem}
use Rattle.pb_replay.proofs.Common.{Completed, Deleted, FormOfExpression, Logged, numbered, place, State, Does}
use Rattle.pb_replay.proofs.lemmas.meaning.Accepting.{ok-same, needed, followed, eached}
use Rattle.pb_replay.specs.contract.Rules.{HasForm, constraint, literal, sum, product, quotient, saturation, weakening, IsSolvedBy, Deletes, none, one, HasContradiction, some, named, unnamed, named_one, IsLower, infinite, finite, IsUpper, unbounded, by_shown, by_logged, IsJustified, no_claim, unsat, sat_shown, sat_logged, bounds, with_form, Rule, header, formula, pol, rup, soli, solx, delete, output, conclude, end, RulesAreOutcomes}

-- expressions
pub form-to : (limit : ℕ) (names : List (List ℕ)) (live : List (Option Form)) (tree : Tree) (r : Form) → FormOfExpression limit names live tree (Ok r) → HasForm limit names live tree r
form-to limit names live (Constraint id) r h = let f = needed h in subst (HasForm limit names live (Constraint id)) (sym (ok-same f.2)) (constraint id f.0 f.1)
form-to limit names live (LiteralAxiom l) r h = subst (HasForm limit names live (LiteralAxiom l)) (sym (ok-same h)) (literal l)
form-to limit names live (Sum a b) r h =
    let f = followed h in let g = followed f.2 in let last = needed g.2.2 in
    subst (HasForm limit names live (Sum a b)) (sym (ok-same last.1)) (sum a b f.0 g.0 g.2.0 (form-to limit names live a f.0 f.1) (form-to limit names live b g.0 g.1) g.2.1 last.0)
form-to limit names live (Product a k) r h =
    let f = followed h in let last = needed f.2 in
    subst (HasForm limit names live (Product a k)) (sym (ok-same last.1)) (product a k f.0 (form-to limit names live a f.0 f.1) last.0)
form-to limit names live (Quotient a k) r h = let f = followed h in subst (HasForm limit names live (Quotient a k)) (sym (ok-same f.2)) (quotient a k f.0 (form-to limit names live a f.0 f.1))
form-to limit names live (Saturation a) r h = let f = followed h in subst (HasForm limit names live (Saturation a)) (sym (ok-same f.2)) (saturation a f.0 (form-to limit names live a f.0 f.1))
form-to limit names live (Weakening a name) r h = let f = followed h in subst (HasForm limit names live (Weakening a name)) (sym (ok-same f.2)) (weakening a name f.0 (form-to limit names live a f.0 f.1))

form-from : (limit : ℕ) (names : List (List ℕ)) (live : List (Option Form)) (tree : Tree) (r : Form) → HasForm limit names live tree r → FormOfExpression limit names live tree (Ok r)
form-from limit names live _ _ (constraint id f at) = inl (f, at, refl)
form-from limit names live _ _ (literal l) = refl
form-from limit names live _ _ (sum a b f g r p q is within) = inl (f, form-from limit names live a f p, inl (g, form-from limit names live b g q, (r, is, inl (within, refl))))
form-from limit names live _ _ (product a k f p within) = inl (f, form-from limit names live a f p, inl (within, refl))
form-from limit names live _ _ (quotient a k f p) = inl (f, form-from limit names live a f p, refl)
form-from limit names live _ _ (saturation a f p) = inl (f, form-from limit names live a f p, refl)
form-from limit names live _ _ (weakening a name f p) = inl (f, form-from limit names live a f p, refl)

-- solutions
pub solved-to : (v : Problem) (live : List (Option Form)) (names : ℕ) (given : List NumberedLiteral) (g : Logged) → Completed v (Live live) names given (Ok g) → IsSolvedBy v live names given g
solved-to v live names given g h = grind (arith, needed, eached, ok-same)

pub solved-from : (v : Problem) (live : List (Option Form)) (names : ℕ) (given : List NumberedLiteral) (g : Logged) → IsSolvedBy v live names given g → Completed v (Live live) names given (Ok g)
solved-from v live names given g s = inl (s.consistent, (s.list, s.completion, inl (s.total, (g.values, s.values, inl (s.solution, rw s.value_of refl)))))

-- deletions
pub deletes-to : (live : List (Option Form)) (ids : List ℤ) (rest : List (Option Form)) → Deleted live ids (Ok rest) → Deletes live ids rest
deletes-to live [] rest h = subst (Deletes live []) (sym (ok-same h)) none
deletes-to live (id ∷ ids) rest h = let f = needed h in one id ids f.0 f.1 (deletes-to (set live (place (length live) id) None) ids rest f.2)

deletes-from : (live : List (Option Form)) (ids : List ℤ) (rest : List (Option Form)) → Deletes live ids rest → Deleted live ids (Ok rest)
deletes-from live _ _ none = refl
deletes-from live _ rest (one id ids f at d) = inl (f, at, deletes-from (set live (place (length live) id) None) ids rest d)

-- contradictions
pub contradiction-to : (live : List (Option Form)) (id : Option ℤ) (next : Answer State) (t : State) → contradicted live id next (Ok t) → HasContradiction live id × next (Ok t)
contradiction-to live None next t h = let f = needed h in (some f.0.0 f.0.1 f.0.2, f.1)
contradiction-to live (Some id) next t h = let f = needed h in let last = needed f.2 in (named id f.0 f.1 last.0, last.1)

contradiction-from : (live : List (Option Form)) (id : Option ℤ) (next : Answer State) (t : State) → HasContradiction live id → next (Ok t) → contradicted live id next (Ok t)
contradiction-from live _ next t (some f at is) n = inl ((f, at, is), n)
contradiction-from live _ next t (named id f at is) n = inl (f, at, inl (is, n))

-- bounds
lower-to : (limit : ℕ) (s : State) (o : List Term) (b : Bound) (id : Option ℤ) (next : Answer State) (t : State) → lower_bound limit s o b id next (Ok t) → IsLower limit s o b id × next (Ok t)
lower-to limit s o Infinite id next t h =
    let first = needed h in let rest = contradiction-to s.live id next t first.1 in (infinite id first.0 rest.0, rest.1)
lower-to limit s o (Finite b) None next t h =
    let first = needed h in let side = needed first.1 in let last = needed side.1.2 in
    (finite b None None side.1.0 first.0 unnamed (record { fits = side.0; side_of = side.1.1 }) last.0, last.1)
lower-to limit s o (Finite b) (Some id) next t h =
    let first = needed h in let f = needed first.1 in let side = needed f.2 in let last = needed side.1.2 in
    (finite b (Some id) (Some f.0) side.1.0 first.0 (named_one id f.0 f.1) (record { fits = side.0; side_of = side.1.1 }) last.0, last.1)

lower-from : (limit : ℕ) (s : State) (o : List Term) (b : Bound) (id : Option ℤ) (next : Answer State) (t : State) → IsLower limit s o b id → next (Ok t) → lower_bound limit s o b id next (Ok t)
lower-from limit s o _ _ next t (infinite id nothing is) n = inl (nothing, contradiction-from s.live id next t is n)
lower-from limit s o _ _ next t (finite b _ _ g above unnamed side shown) n = inl (above, inl (side.fits, (g, side.side_of, inl (shown, n))))
lower-from limit s o _ _ next t (finite b _ _ g above (named_one id f at) side shown) n = inl (above, inl (f, at, inl (side.fits, (g, side.side_of, inl (shown, n)))))

upper-to : (v : Problem) (s : State) (u : Bound) (shown : Option (List Literal)) (next : Answer State) (t : State) → upper_bound v s u shown next (Ok t) → IsUpper v s u shown × next (Ok t)
upper-to v s Infinite shown next t h = (unbounded shown, h)
upper-to v s (Finite u) (Some given) next t h = let g = needed h in let last = needed g.2 in (by_shown u given g.0 g.1 last.0, last.1)
upper-to v s (Finite u) None next t h = let last = needed (needed h).1 in (by_logged u last.0.0 last.0.1 last.0.2, last.1)

upper-from : (v : Problem) (s : State) (u : Bound) (shown : Option (List Literal)) (next : Answer State) (t : State) → IsUpper v s u shown → next (Ok t) → upper_bound v s u shown next (Ok t)
upper-from v s _ _ next t (unbounded shown) n = n
upper-from v s _ _ next t (by_shown u given g is low) n = inl (g, is, inl (low, n))
upper-from v s _ _ next t (by_logged u g at low) n = inl ((g, at), inl ((g, at, low), n))

-- conclusions
pub concludes-to : (limit : ℕ) (v : Problem) (s : State) (c : Conclusion) (next : Answer State) (t : State) → Concludes limit v s c next (Ok t) → IsJustified limit v s c × next (Ok t)
concludes-to limit v s NoClaim next t h = (no_claim, h)
concludes-to limit v s (Unsat id) next t h =
    let first = needed h in let rest = contradiction-to s.live id next t first.1 in (unsat id first.0 rest.0, rest.1)
concludes-to limit v s (Sat (Some given)) next t h = let g = needed h in (sat_shown given g.0 g.1, g.2)
concludes-to limit v s (Sat None) next t h = let g = needed h in (sat_logged g.0.0 g.0.1, g.1)
concludes-to limit v s (Bounds lower id upper shown) next t h =
    let o = needed h in let low = lower-to limit s o.0 lower id (upper_bound v s upper shown next) t o.2 in
    let high = upper-to v s upper shown next t low.1 in (bounds lower id upper shown o.0 o.1 low.0 high.0, high.1)

concludes-from : (limit : ℕ) (v : Problem) (s : State) (c : Conclusion) (next : Answer State) (t : State) → IsJustified limit v s c → next (Ok t) → Concludes limit v s c next (Ok t)
concludes-from limit v s _ next t no_claim n = n
concludes-from limit v s _ next t (unsat id nothing is) n = inl (nothing, contradiction-from s.live id next t is n)
concludes-from limit v s _ next t (sat_shown given g is) n = inl (g, is, n)
concludes-from limit v s _ next t (sat_logged g at) n = inl ((g, at), n)
concludes-from limit v s _ next t (bounds lower id upper shown o is low high) n = inl (o, is, lower-from limit s o lower id (upper_bound v s upper shown next) t low (upper-from v s upper shown next t high n))

-- statements
pub rule-to : (limit top : ℕ) (v : Problem) (s t : State) (st : Statement) → Does limit top v s st (Ok t) → Rule limit top v s st t
rule-to limit top v s t Header h = subst (Rule limit top v s Header) (sym (ok-same h)) header
rule-to limit top v s t (F count) h =
    let first = needed h in let second = needed first.1 in
    subst (Rule limit top v s (F count)) (sym (ok-same second.1)) (formula count first.0 second.0)
rule-to limit top v s t (Pol ws) h =
    let form = followed h.2 in let last = needed form.2 in
    let made : Rule limit top v s (Pol (words h.0)) (with_form s s.logged form.0) = pol h.0 form.0 (form-to limit s.names s.live h.0 form.0 form.1) last.0 in
    subst (Rule limit top v s (Pol ws)) (sym (ok-same last.1)) (subst (λ xs. Rule limit top v s (Pol xs) (with_form s s.logged form.0)) (sym h.1) made)
rule-to limit top v s t (Rup linear) h =
    let first = needed h in let side = first.1 in let implied = needed side.2 in let last = needed implied.1 in
    subst (Rule limit top v s (Rup linear)) (sym (ok-same last.1)) (rup linear side.0 (record { fits = first.0; side_of = side.1 }) implied.0 last.0)
rule-to limit top v s t (Soli given) h =
    let o = needed h in let g = followed o.2 in let first = needed g.2 in let side = first.1 in let last = needed side.2 in
    subst (Rule limit top v s (Soli given)) (sym (ok-same last.1)) (soli given o.0 g.0 side.0 o.1 (solved-to v s.live (length s.names) (numbered s.names given) g.0 g.1) (record { fits = first.0; side_of = side.1 }) last.0)
rule-to limit top v s t (Solx given) h =
    let g = followed h in let clause = g.2 in let last = needed clause.2 in
    subst (Rule limit top v s (Solx given)) (sym (ok-same last.1)) (solx given g.0 clause.0 (solved-to v s.live (length s.names) (numbered s.names given) g.0 g.1) clause.1 last.0)
rule-to limit top v s t (Delete ids) h = let d = followed h in subst (Rule limit top v s (Delete ids)) (sym (ok-same d.2)) (delete ids d.0 (deletes-to s.live ids d.0 d.1))
rule-to limit top v s t Output h = subst (Rule limit top v s Output) (sym (ok-same h)) output
rule-to limit top v s t (Conclude c) h =
    let d = concludes-to limit v s c _ t h in subst (Rule limit top v s (Conclude c)) (sym (ok-same d.1)) (conclude c d.0)
rule-to limit top v s t End h = subst (Rule limit top v s End) (sym (ok-same h)) end

rule-from : (limit top : ℕ) (v : Problem) (s t : State) (st : Statement) → Rule limit top v s st t → Does limit top v s st (Ok t)
rule-from limit top v s _ _ header = refl
rule-from limit top v s _ _ (formula count is few) = inl (is, inl (few, refl))
rule-from limit top v s _ _ (pol tree r is room) = (tree, refl, inl (r, form-from limit s.names s.live tree r is, inl (room, refl)))
rule-from limit top v s _ _ (rup linear r side is room) = inl (side.fits, (r, side.side_of, inl (is, inl (room, refl))))
rule-from limit top v s _ _ (soli given o g r is solved side room) = inl (o, is, inl (g, solved-from v s.live (length s.names) (numbered s.names given) g solved, inl (side.fits, (r, side.side_of, inl (room, refl)))))
rule-from limit top v s _ _ (solx given g r solved is room) = inl (g, solved-from v s.live (length s.names) (numbered s.names given) g solved, (r, is, inl (room, refl)))
rule-from limit top v s _ _ (delete ids live d) = inl (live, deletes-from s.live ids live d, refl)
rule-from limit top v s _ _ output = refl
rule-from limit top v s t _ (conclude c is) = concludes-from limit v s c _ t is refl
rule-from limit top v s _ _ end = refl

pub rules-outcomes : RulesAreOutcomes
rules-outcomes limit top v s t st = grind (arith, needed, rule-to, s.names, rule-from)
