-- What a statement adds and deletes, what is stored of it is what the replay has, and the lines of accepted statements, one after another.
use Rattle.pb_trace.proofs.Common.{ℕ, ◌++◌, ◌+◌, ◌-◌, ◌<◌, ◌∷◌, ◌≡◌, ◌≤◌, [], ap, append-nil, append_assoc, arith, Bool, drop, get_or, length, List, None, zero}
use Rattle.pb_trace.proofs.Common.{Option, get_or-drop, length-drop, constraint_in, get_or_from_slice_get, slice_get_within, AreDistinct, has_name, with_name}
use Rattle.pb_trace.proofs.Common.{suc, added_bytes, Limits, Wrote, lines_of, TracesEachLine, line_bytes, TracesCall, Tracing, false, slice_get, length-take-le}
use Rattle.pb_trace.proofs.Common.{take, Some, sym, common_steps, drop_all, length-set, with_names, Statement, Problem, Deleted, place, State, Does, mentioned}
use Rattle.{pb_trace.proofs.Common.take_more, pb_trace.proofs.Common.found_bytes, pb_proof.specs.meaning.Order.stage_of, pb_replay.specs.meaning.Answer.Answer}
use Rattle.pb_trace.proofs.Common.{Form, Outcome, IsEmptyAt, StoresTheLive, extended, stored_after, Err, Result, subst, first_state, part_wrote, writes_nothing}
use Rattle.pb_trace.proofs.Common.{ℤ, take-append-drop, drop-cons, deleted_bytes, deletion_bytes, without, without_all, length-map, map-set, to_z-of_z, Ok, set}
use Rattle.{pb_trace.proofs.Common.◌∙◌, pb_text.specs.declared.Spanned.Spanned, pb_text.specs.meaning.Limits.largest, pb_text.specs.meaning.Limits.top_of}
use Rattle.{pb_trace.proofs.Common.refl, pb_sums.specs.declared.Literal.Literal, pb_sums.specs.declared.Term.Term, pb_tool.specs.declared.ToolFault.ToolFault}
use Rattle.std.{proofs.lemmas.List.Concat.flat_map-append, proofs.lemmas.List.Concat.flat_map-cons, specs.List.range_with_len, specs.Result.IsErr}
use Rattle.pb_proof.specs.declared.{Bound.Bound, Bound.TheVariants.Finite, Bound.TheVariants.Infinite, Stage.Stage, Stage.TheVariants.Steps}
use Rattle.pb_proof.specs.declared.Conclusion.{Conclusion, TheVariants.NoClaim, TheVariants.Unsat, TheVariants.Sat, TheVariants.Bounds}
use Rattle.pb_proof.specs.declared.Statement.TheVariants.{Header, F, Pol, Rup, Soli, Solx, Delete, Output, Conclude, End}
use Rattle.pb_replay.proofs.lemmas.{conclusions.Concluded.contradicted-has, meaning.Accepting.needed, meaning.Accepting.followed, meaning.Accepting.ok-same}
use Rattle.pb_replay.specs.meaning.Conclusions.{none_left, named, lower_bound, upper_bound, Concludes}
use Rattle.pb_tool.specs.contract.Watched.{Call, Accepted, Rejected, GotEach, ShowsEach}
use Rattle.pb_normal.proofs.lemmas.names.Numbering.{number_in-append, number_in-below, number_in-get}

-- the constraint with the next id
pub constraint_next : (live : List (Option Form)) (i : ℕ) → constraint_in live (i + 1) ≡ get_or live i None
constraint_next live i = let e : i + 1 ≡ suc i = omega arith in ap (constraint_in live) e

-- numbers in order, cut in two
range-add : (a k m : ℕ) → range_with_len a (k + m) ≡ range_with_len a k ++ range_with_len (a + k) m
range-add a zero m = grind arith
range-add a (suc k) m = let count : suc k + m ≡ suc (k + m) = omega arith in rw count (grind (arith, range-add (a + 1) k m))

module _ (ids : Bool) (lines arrow : List ℕ) (names : List (List ℕ)) (live : List (Option Form)) where
  -- one more of them
  pub added_more : (n i : ℕ) → n ≤ i → added_bytes ids lines arrow names live n ((i + 1) - n)
      ≡ added_bytes ids lines arrow names live n (i - n) ++ found_bytes ids lines arrow names (i + 1) (constraint_in live (i + 1))
  added_more n i h =
      let more : range_with_len n ((i + 1) - n) ≡ range_with_len n (i - n) ++ i ∷ [] = grind (arith, range-add n (i - n) 1) in
      grind (arith, more, flat_map-append, flat_map-cons, append-nil, constraint_next live i)

  -- all of them, up to one
  pub added_at : (n i : ℕ) → n ≤ i → i < length live → added_bytes ids lines arrow names live n (length live - n)
      ≡ added_bytes ids lines arrow names live n (i - n) ++ (found_bytes ids lines arrow names (i + 1) (constraint_in live (i + 1)) ++ added_bytes ids lines arrow names live (i + 1) (length live - (i + 1)))
  added_at n i h lt =
      let all : range_with_len n (length live - n) ≡ range_with_len n (i - n) ++ (i ∷ range_with_len (i + 1) (length live - (i + 1))) =
      grind (arith, range-add n (i - n) (suc (length live - (i + 1)))) in
      grind (arith, all, flat_map-append, flat_map-cons, constraint_next live i)

-- one more of the newer constraints is stored
pub newer_more : (stored live : List (Option Form)) (n i : ℕ) → n ≤ i → i < length live →
    stored ++ take ((i + 1) - n) (drop n live) ≡ (stored ++ take (i - n) (drop n live)) ++ constraint_in live (i + 1) ∷ []
newer_more stored live n i h lt =
    grind (arith, take_more (drop n live) (i - n) None, get_or-drop n live (i - n) None, length-drop n live, append_assoc, constraint_next live i)

without_all-append : (live : List (Option Form)) (xs ys : List ℤ) → without_all live (xs ++ ys) ≡ without_all (without_all live xs) ys
without_all-append live [] ys = refl
without_all-append live (x ∷ xs) ys = without_all-append (without live x) xs ys

pub without_more : (live : List (Option Form)) (xs : List ℤ) (i : ℕ) (d : ℤ) → i < length xs → without_all live (take (i + 1) xs) ≡ without (without_all live (take i xs)) (get_or xs i d)
without_more live xs i d h = ap (without_all live) (take_more xs i d h) ∙ without_all-append live (take i xs) (get_or xs i d ∷ [])

module _ (ids : Bool) (lines : List ℕ) (names : List (List ℕ)) where
  deleted-append : (live : List (Option Form)) (xs ys : List ℤ) → deleted_bytes ids lines names live (xs ++ ys) ≡ deleted_bytes ids lines names live xs ++ deleted_bytes ids lines names (without_all live xs) ys
  deleted-append live [] ys = refl
  deleted-append live (x ∷ xs) ys = grind (arith, append_assoc, deleted-append (without live x) xs ys)

  pub deleted_more : (live : List (Option Form)) (xs : List ℤ) (i : ℕ) (d : ℤ) → i < length xs →
      deleted_bytes ids lines names live (take (i + 1) xs) ≡ deleted_bytes ids lines names live (take i xs) ++ deletion_bytes ids lines names (without_all live (take i xs)) (get_or xs i d)
  deleted_more live xs i d h = grind (arith, take_more xs i d h, deleted-append live (take i xs) (get_or xs i d ∷ []), append-nil)

  pub deleted_at : (live : List (Option Form)) (xs : List ℤ) (i : ℕ) (d : ℤ) → i < length xs → deleted_bytes ids lines names live xs
      ≡ deleted_bytes ids lines names live (take i xs) ++ (deletion_bytes ids lines names (without_all live (take i xs)) (get_or xs i d) ++ deleted_bytes ids lines names (without (without_all live (take i xs)) (get_or xs i d)) (drop (suc i) xs))
  deleted_at live xs i d h = grind (arith, take-append-drop i xs, deleted-append live (take i xs) (drop i xs), drop-cons xs i d h)

pub ruleset stored = (map-set, length-map, to_z-of_z, without_more)

-- an accepted conclusion continues
left_next : (s : State) (id : Option ℤ) (next : Answer State) (t : State) → none_left s id next (Ok t) → next (Ok t)
left_next s id next t h = (contradicted-has s.live id next t (needed h).1).1

named_next : (live : List (Option Form)) (id : Option ℤ) (next : Option Form → Answer State) (t : State) → named live id next (Ok t) → (o : Option Form) × next o (Ok t)
named_next live None next t h = (None, h)
named_next live (Some i) next t h = let found = needed h in (Some found.0, found.2)

lower_next : (limit : ℕ) (s : State) (o : List Term) (b : Bound) (id : Option ℤ) (next : Answer State) (t : State) → lower_bound limit s o b id next (Ok t) → next (Ok t)
lower_next limit s o Infinite id next t h = left_next s id next t h
lower_next limit s o (Finite b) id next t h = let normal = (needed (named_next s.live id _ t (needed h).1).1).1 in (needed normal.2).1

upper_next : (v : Problem) (s : State) (u : Bound) (shown : Option (List Literal)) (next : Answer State) (t : State) → upper_bound v s u shown next (Ok t) → next (Ok t)
upper_next v s Infinite shown next t h = h
upper_next v s (Finite u) (Some given) next t h = (needed (needed h).2).1
upper_next v s (Finite u) None next t h = (needed (needed h).1).1

concluded_next : (limit : ℕ) (v : Problem) (s : State) (c : Conclusion) (next : Answer State) (t : State) → Concludes limit v s c next (Ok t) → next (Ok t)
concluded_next limit v s NoClaim next t h = h
concluded_next limit v s (Unsat id) next t h = left_next s id next t h
concluded_next limit v s (Sat (Some given)) next t h = (needed h).2
concluded_next limit v s (Sat None) next t h = (needed h).1
concluded_next limit v s (Bounds lower id upper shown) next t h =
    let o = needed h in upper_next v s upper shown next t (lower_next limit s o.0 lower id _ t o.2)

-- nothing new, or one more
nothing_new : (live rest : List (Option Form)) → length rest ≡ length live → extended live rest ≡ live
nothing_new live rest e = ap (λ z. live ++ z) (drop_all (length live) rest (omega arith)) ∙ append-nil live

one_new : (live : List (Option Form)) (f : Option Form) → extended live (live ++ f ∷ []) ≡ live ++ f ∷ []
one_new live f = let e : drop (length live) (live ++ f ∷ []) ≡ f ∷ [] = grind (arith, common_steps) in ap (λ z. live ++ z) e

in_steps : (at : Stage) (live : List (Option Form)) → at ≡ Steps → IsEmptyAt at live
in_steps at live e = rw e tt

deleted : (live : List (Option Form)) (ids : List ℤ) (rest : List (Option Form)) → Deleted live ids (Ok rest) → (rest ≡ without_all live ids) × (length rest ≡ length live)
deleted live [] rest h = let e = ok-same h in (e, ap length e)
deleted live (id ∷ ids) rest h =
    let found = needed h in
    let later = deleted (set live (place (length live) id) None) ids rest found.2 in
    (later.0, later.1 ∙ length-set live (place (length live) id) None)

step_stores : (limit top : ℕ) (v : Problem) (s t : State) (st : Statement) → s.next ≡ stage_of st → IsEmptyAt s.next s.live → Does limit top v s st (Ok t)
    → (stored_after (extended s.live t.live) st ≡ t.live) × IsEmptyAt t.next t.live
step_stores limit top v s t Header due p h = rw (ok-same h) (nothing_new s.live s.live refl, rw due at p)
step_stores limit top v s t (F count) due p h =
    let last = needed (needed h).1 in
    let none = rw due at p in rw (ok-same last.1, none) (refl, tt)
step_stores limit top v s t (Pol ws) due p h =
    let last = needed (followed h.2).2 in rw (ok-same last.1) (one_new s.live _, in_steps s.next _ due)
step_stores limit top v s t (Rup linear) due p h =
    let last = needed (needed (needed h).1.2).1 in rw (ok-same last.1) (one_new s.live _, in_steps s.next _ due)
step_stores limit top v s t (Soli given) due p h =
    let last = needed (needed (followed (needed h).2).2).1.2 in rw (ok-same last.1) (one_new s.live _, in_steps s.next _ due)
step_stores limit top v s t (Solx given) due p h =
    let last = needed (followed h).2.2 in rw (ok-same last.1) (one_new s.live _, in_steps s.next _ due)
step_stores limit top v s t (Delete ids) due p h =
    let rest = followed h in
    let same = deleted s.live ids rest.0 rest.1 in
    rw (ok-same rest.2) (rw (nothing_new s.live rest.0 same.1) (sym same.0), in_steps s.next _ due)
step_stores limit top v s t Output due p h = rw (ok-same h) (nothing_new s.live s.live refl, tt)
step_stores limit top v s t (Conclude c) due p h =
    let last = concluded_next limit v s c _ t h in rw (ok-same last) (nothing_new s.live s.live refl, tt)
step_stores limit top v s t End due p h = rw (ok-same h) (nothing_new s.live s.live refl, tt)

-- the same for two states of an accepted statement
pub state-stores : (limit top : ℕ) (v : Problem) (s t : State) (st : Statement) → IsEmptyAt s.next s.live → Outcome limit top v s st (Ok t)
    → (stored_after (extended s.live t.live) st ≡ t.live) × IsEmptyAt t.next t.live
state-stores limit top v s t st empty out =
    let due = needed out in step_stores limit top v (record s { names = with_names s.names (mentioned st) }) t st due.0 empty due.1

pub stores-live : StoresTheLive
stores-live old new st (s, before) empty steps =
    let step = steps.0 s before in
    rw (← before.live, ← step.1.live, ← step.1.next) (state-stores _ _ old.problem s step.0 st (rw (before.next, before.live) empty) step.2)

module _ {S : Type 0} (contents : S → Option (List ℕ)) (faults : S → ℕ) where
  -- after a fault nothing changes
  stays : (calls : List Call) (old new : Tracing S) → IsErr old.end → GotEach (TracesCall contents faults) old calls new → new ≡ old
  stays [] old new h got = got
  stays (Accepted m r ∷ calls) old new h (mid, first, rest) =
      let same : mid ≡ old = first.ended h in stays calls mid new (subst (λ (x : Tracing S). IsErr x.end) (sym same) h) rest ∙ same
  stays (Rejected m r f ∷ calls) old new h (mid, first, rest) =
      let same : mid ≡ old = first.ended h in stays calls mid new (subst (λ (x : Tracing S). IsErr x.end) (sym same) h) rest ∙ same

  failed_stays : (calls : List Call) (old new : Tracing S) (f : ToolFault) → old.end ≡ Err f → new.end ≡ Ok tt → GotEach (TracesCall contents faults) old calls new → ⊥
  failed_stays calls old new f is done got = let same = stays calls old new (rw is refl) got in absurd (cc (ap (λ (x : Tracing S). x.end) same))

  module _ (limits : Limits) (v : Problem) where
    -- Everything that is so before a statement is so after it.
    one_line : (s u : State) (m : Spanned Statement) (live : List (Option Form)) (old mid : Tracing S) (n : Spanned Statement) → IsEmptyAt s.next s.live → old.stored ≡ s.live → n ≡ m → Outcome (largest limits) (top_of limits) v s m.event (Ok u) → u.live ≡ live
        → mid.stored ≡ stored_after (extended old.stored live) n.event → (mid.stored ≡ u.live) × IsEmptyAt u.next u.live
    one_line s u m live old mid n empty stored same out is after =
        let step = state-stores (largest limits) (top_of limits) v s u m.event empty out in
        (rw (stored, ← is, same) at after ∙ step.0, step.1)

    all_lines : (s t : State) (spans : List (Spanned Statement)) (calls : List Call) (old new : Tracing S) → IsEmptyAt s.next s.live
        → old.stored ≡ s.live → old.end ≡ Ok tt → ShowsEach limits v s spans calls t → GotEach (TracesCall contents faults) old calls new → new.end ≡ Ok tt
        → Wrote contents faults old.out (lines_of old.ids old.lines s.live calls) new.out
    all_lines s t [] [] old new empty stored begun shows got done = rw got (writes_nothing contents faults old.out)
    all_lines s t [] (c ∷ calls) old new empty stored begun shows got done = absurd shows
    all_lines s t (m ∷ spans) [] old new empty stored begun shows got done = absurd shows
    all_lines s t (m ∷ spans) (Rejected n r f ∷ calls) old new empty stored begun shows got done = absurd shows
    all_lines s t (m ∷ spans) (Accepted n r ∷ calls) old new empty stored begun (same, u, out, stands, runs, rest) (mid, first, others) done =
        by mid.end refl (λ live empty' on. all_lines u t spans calls mid new empty' live on rest others done)
      where
        by : (e : Result Unit ToolFault) → mid.end ≡ e
            → (mid.stored ≡ u.live → IsEmptyAt u.next u.live → mid.end ≡ Ok tt → Wrote contents faults mid.out (lines_of mid.ids mid.lines u.live calls) new.out)
            → Wrote contents faults old.out (line_bytes old.ids old.lines s.live n r ++ lines_of old.ids old.lines r.live calls) new.out
        by (Ok x) is ih =
            let next = one_line s u m r.live old mid n empty stored same out stands.live (first.stored begun is) in
            let text = rw (is, stored) at (first.text begun) in
            let after = rw (first.alike.0, first.alike.1, stands.live) at (ih next.0 next.1 is) in
            part_wrote contents faults old.out mid.out new.out _ _ _ refl text after
        by (Err f) is ih = absurd (failed_stays calls mid new f is done others)

pub traces-each-line : {S : Type 0} (contents : S → Option (List ℕ)) (faults : S → ℕ) → TracesEachLine contents faults
traces-each-line contents faults limits v spans calls last old new stored begun shows got done =
    all_lines contents faults limits v (first_state v) last spans calls old new refl stored begun shows got done

-- a name is not among those before it
absent : (names : List (List ℕ)) (i : ℕ) (x : List ℕ) → AreDistinct names → slice_get names i ≡ Some x → has_name (take i names) x ≡ false
absent names i x distinct is =
    grind (
      arith,
      number_in-below (take i names) x,
      number_in-append (take i names) (drop i names) x,
      take-append-drop i names,
      number_in-get names i x distinct is,
      slice_get_within names i x is,
      length-take-le,
    )

pub copied : (names : List (List ℕ)) (i : ℕ) (x : List ℕ) → AreDistinct names → slice_get names i ≡ Some x → with_name (take i names) x ≡ take (i + 1) names
copied names i x distinct is =
    grind (arith, absent names i x distinct is, take_more names i [], slice_get_within names i x is, get_or_from_slice_get names i x [] is)
