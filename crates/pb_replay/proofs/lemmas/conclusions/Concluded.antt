-- What an accepted conclusion means. Offered to other crates.
use Rattle.pb_replay.{proofs.lemmas.rules.Completions.Completed-taken, proofs.lemmas.rules.Live.IsLive-live, specs.contract.Rules.HasContradiction}
use Rattle.pb_replay.proofs.Common.{ℕ, ℤ, ◌∙◌, ◌≡◌, ◌≤ℤ◌, [], arith, Bool, inl, inr, length, List, Some, sym, Contains, Ok, Option, cases_lt, Side, ints}
use Rattle.pb_replay.proofs.Common.{none-some, same_Some, HasNames-append, Holds-sum, Holds-negation_back, total-le-each, Form, Holds, total, true_at, HasNames}
use Rattle.pb_replay.proofs.Common.{assignment, IsContradiction, negation_of, names_of, Bound, Conclusion, contains-none, HoldAll, Live, Literal, Term, Answer}
use Rattle.pb_replay.proofs.Common.{contradicted, contradiction, IsShownBy, objective_with, propagated, sum, trivial, verdict_of, Accounted, allowed, beaten}
use Rattle.pb_replay.proofs.Common.{HasNone, IsAtLeast, IsAtMost, IsProblem, IsSolution, IsSound, known, Means, Problem, numbered, State, value, ◌++◌, ◌∷◌}
use Rattle.pb_replay.proofs.Common.{refl, subst, IsSome, with_names, Stage, Closing, Complete, Statement, Conclude, End, Output, stage_of, HasConclusion}
use Rattle.pb_replay.proofs.Common.{VerdictsAreThere, WholeProofsConclude, verdict_at, Verdict, Accepts, mentioned}
use Rattle.pb_replay.proofs.lemmas.meaning.{Accepting.needed, Accepting.ok-same, Assigned.value-over, Assigned.value-agree, Assigned.side-holds}
use Rattle.pb_replay.proofs.lemmas.meaning.{Assigned.objective-named, Propagated.IsRup-holds, Ruled.contradiction-to, Ruled.rules-outcomes}
use Rattle.pb_replay.specs.contract.Rules.{some, named, IsNamed, IsLower, infinite, finite, IsUpper, unbounded, by_shown, by_logged, IsJustified, no_claim}
use Rattle.pb_replay.specs.contract.Rules.{unsat, sat_shown, sat_logged, bounds, Rule, header, formula, pol, rup, soli, solx, delete, output, conclude, end}

contradiction-fails : (a : ℕ → Bool) (f : Form) → IsContradiction f → Holds a f → ⊥
contradiction-fails a f c h = omega (arith, total-le-each (true_at a) f.terms)

contradiction-live : (live : List (Option Form)) (id : Option ℤ) → HasContradiction live id → (f : Form) × Live live f × IsContradiction f
contradiction-live live _ (some f at is) = (f, at, is)
contradiction-live live _ (named id f at is) = (f, IsLive-live live id f at, is)

pub contradicted-has : (live : List (Option Form)) (id : Option ℤ) (next : Answer State) (t : State) → contradicted live id next (Ok t) → ((f : Form) × Live live f × IsContradiction f) × next (Ok t)
contradicted-has live id next t h = let r = contradiction-to live id next t h in (contradiction-live live id r.0, r.1)

none_left-means : (v : Problem) (s : State) (id : Option ℤ) → IsSound v s → s.logged ≡ [] → HasContradiction s.live id → HasNone (IsSolution v) (value v)
none_left-means v s id sound none is a solution = refute (sound.stands a solution)
  where
    refute : Accounted v s a → ⊥
    refute (known g c same) = contains-none s.logged g none c
    refute (beaten o is g c le) = contains-none s.logged g none c
    refute (allowed holds) = let f = contradiction-live s.live id is in contradiction-fails a f.0 f.2 (holds f.0 f.1)

named-live : (live : List (Option Form)) (id : Option ℤ) (o : Option Form) → IsNamed live id o → (f : Form) → o ≡ Some f → Live live f
named-live live id o is f e = grind (arith, IsLive-live, none-some, same_Some)

shown-holds : (a : ℕ → Bool) (live : List (Option Form)) (id : Option Form) (g : Form) → HoldAll a (Live live) → ((f : Form) → id ≡ Some f → Live live f) → IsShownBy live id g → Holds a g
shown-holds a live id g holds in_live (trivial none) = omega (arith, none)
shown-holds a live id g holds in_live (contradiction f is c) = absurd (contradiction-fails a f c (holds f (in_live f is)))
shown-holds a live id g holds in_live (sum f is c) =
    elim (cases_lt (total (true_at a) g.terms) g.degree) [
      | inr here ↦ here
      | inl gone ↦
          let negated = Holds-negation_back a g (omega arith) (λ h. omega (arith, h)) in
          absurd (contradiction-fails a c.0 c.2 (Holds-sum a f (negation_of g) c.0 c.1 (holds f (in_live f is)) negated))
    ]
shown-holds a live id g holds in_live (propagated r) = IsRup-holds (Live live) a g holds r

-- the objective's names have numbers
pub objective-numbers : (v : Problem) (s : State) (o : List Term) → IsProblem v → IsSound v s → v.objective ≡ Some o → HasNames s.names (names_of o)
objective-numbers v s o p sound e =
    let (more, is) = sound.names in rw is (HasNames-append v.names more (names_of o) (objective-named v o p e))

lower-means : (limit : ℕ) (v : Problem) (s : State) (o : List Term) (b : Bound) (id : Option ℤ) → IsProblem v → IsSound v s → v.objective ≡ Some o → IsLower limit s o b id → IsAtLeast (IsSolution v) (value v) b
lower-means limit v s o _ _ p sound e (infinite id none is) = none_left-means v s id sound none is
lower-means limit v s o _ _ p sound e (finite b id f g best name side shown) = λ a solution. bounded a (sound.stands a solution)
  where
    bounded : (a : ℕ → Bool) → Accounted v s a → b ≤ℤ value v a
    bounded a (known k c same) = rw (value-agree v a (assignment k.values) p same ∙ sym (sound.values k c)) (best k c)
    bounded a (beaten _ is k c le) = omega (arith, ints, best k c, le)
    bounded a (allowed holds) =
        rw (← (value-over v s.names o a p sound.names e)) ((side-holds s.names Side.AtLeast (objective_with o b) g a sound.distinct (objective-numbers v s o p sound e) side.side_of).0 (shown-holds a s.live f g holds (named-live s.live id f name) shown))

upper-means : (v : Problem) (s : State) (u : Bound) (shown : Option (List Literal)) → IsSound v s → IsUpper v s u shown → IsAtMost (IsSolution v) (value v) u
upper-means v s _ _ sound (unbounded shown) = tt
upper-means v s _ _ sound (by_shown u given g is low) =
    let taken = Completed-taken v (Contains v.loaded) (length v.names) (numbered s.names given) g is in
    (assignment g.values, taken.solution, rw (← taken.value_is) low)
upper-means v s _ _ sound (by_logged u g c low) = (assignment g.values, sound.solutions g c, rw (← (sound.values g c)) low)

pub justified-means : (limit : ℕ) (v : Problem) (s : State) (c : Conclusion) → IsProblem v → IsSound v s → IsJustified limit v s c → Means v (verdict_of c)
justified-means limit v s _ p sound no_claim = tt
justified-means limit v s _ p sound (unsat id none is) = none_left-means v s id sound none is
justified-means limit v s _ p sound (sat_shown given g is) =
    (assignment g.values, (Completed-taken v (Contains v.loaded) (length v.names) (numbered s.names given) g is).solution)
justified-means limit v s _ p sound (sat_logged g c) = (assignment g.values, sound.solutions g c)
justified-means limit v s _ p sound (bounds lower id upper shown o has low high) =
    (lower-means limit v s o lower id p sound has low, upper-means v s upper shown sound high)

-- after a conclusion there is a verdict
does : (limit top : ℕ) (v : Problem) (s t : State) (st : Statement) → HasConclusion s.next s.concluded → (st ≡ End → s.next ≡ Closing) → Rule limit top v s st t → HasConclusion t.next t.concluded
does limit top v s _ _ p q header = tt
does limit top v s _ _ p q (formula count is few) = tt
does limit top v s _ _ p q (pol tree r is room) = p
does limit top v s _ _ p q (rup linear r side is room) = p
does limit top v s _ _ p q (soli given o g r is solved side room) = p
does limit top v s _ _ p q (solx given g r solved is room) = p
does limit top v s _ _ p q (delete ids live is) = p
does limit top v s _ _ p q output = tt
does limit top v s _ _ p q (conclude c is) = refl
does limit top v s _ _ p q end = let before : (λ (x : Stage). HasConclusion x s.concluded) s.next = p in rw (q refl) at before

pub run : (limit top : ℕ) (v : Problem) (s t : State) (sts : List Statement) → HasConclusion s.next s.concluded → Accepts limit top v s sts t → HasConclusion t.next t.concluded
run limit top v s t [] p h = rw (← h) p
run limit top v s t (st ∷ sts) p h =
    let step = (rules-outcomes limit top v s h.0 st).0 h.1 in
    run limit top v h.0 t sts (does limit top v (record s { names = with_names s.names (mentioned st) }) h.0 st p (λ e. ending st e step.stage) step.rule) h.2
  where
    ending : (x : Statement) → x ≡ End → s.next ≡ stage_of x → s.next ≡ Closing
    ending x e k = rw e at k

pub verdicts-there : VerdictsAreThere
verdicts-there limit top v sts s t begins h = run limit top v s t sts (subst (λ (x : Stage). HasConclusion x s.concluded) (sym begins) tt) h

-- ---- a whole proof
ended : (limit top : ℕ) (v : Problem) (steps : List Statement) (c : Conclusion) (s t : State) → Accepts limit top v s (steps ++ Output ∷ Conclude c ∷ End ∷ []) t → t.next ≡ Complete
ended limit top v [] c s t (a, h, (b, k, (d, l, e))) = let last = ok-same (needed l).1 in rw (sym e, last) refl
ended limit top v (x ∷ steps) c s t h = ended limit top v steps c h.0 t h.2

at-end : (p : Stage) (concluded : Option Verdict) → p ≡ Complete → HasConclusion p concluded → IsSome (verdict_at p concluded)
at-end p concluded e h = subst (λ (x : Stage). IsSome (verdict_at x concluded)) (sym e) (subst (λ (x : Stage). HasConclusion x concluded) e h)

pub whole-proofs-conclude : WholeProofsConclude
whole-proofs-conclude limit top v p s t (a, h, (b, k, rest)) = grind (arith, needed, s.next, s.concluded, at-end, t.next, t.concluded, ended, p.steps, p.conclusion, run)
