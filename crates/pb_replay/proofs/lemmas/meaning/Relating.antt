-- What the outcomes of a statement have in common, by a relation that passes through its tests. They are single, and larger limits accept more.
use Rattle.pb_normal.proofs.lemmas.rules.Unique.{IsSum-unique, IsRising-same, same_form}
use Rattle.pb_proof.proofs.lemmas.pol.Postfix.{words_report}
use Rattle.pb_replay.proofs.{Common.UnvaluedAreOld, Common.UnvaluedMayWant, Common.literal_names, lemmas.meaning.Accepting.ok-same}
use Rattle.pb_replay.proofs.Common.{ℕ, ℤ, ◌++◌, ◌-ℤ◌, ◌<◌, ◌∙◌, ◌∷◌, ◌≡◌, ◌≤◌, ◌⊎◌, [], ap, arith, Bool, Err, false, inl, inr, length, List, None, pos, set}
use Rattle.pb_replay.proofs.Common.{Some, subst, sym, true, Contains, Ok, Option, Result, ext_get_or, same_Some, IsFormOf-unique, same_forms, Side}
use Rattle.pb_replay.proofs.Common.{NumberedLiteral, AreFormsOf, sides_in, Form, with_names, IsSum, on, Bound, Finite, Infinite, Conclusion, Bounds, NoClaim}
use Rattle.pb_replay.proofs.Common.{Sat, Unsat, Statement, Conclude, Delete, F, Pol, Rup, Soli, Solx, Constraint, LiteralAxiom, Product, Quotient, Saturation}
use Rattle.pb_replay.proofs.Common.{Sum, Tree, Weakening, words, completion-one, Live, Linear, Literal, Term, ok_or_err, same_err, AcceptsMore, IsSingle}
use Rattle.pb_replay.proofs.Common.{OpeningsAreSingle, OpensMore, OutcomesAreSingle, Fault, IdsSpent, NoSuchId, NoObjective, NoSolution, NotImplied, NotTotal}
use Rattle.pb_replay.proofs.Common.{Order, Overflow, after, Answer, each_below, found, gives, need, some, Concludes, lower_bound, named, none_left}
use Rattle.pb_replay.proofs.Common.{objective_with, upper_bound, FitsAll, names_in, Problem, added, AreValues, Completed, Deleted, Excludes, FormOfExpression}
use Rattle.pb_replay.proofs.Common.{HasValue, IsLive, limited, Logged, logged_of, normal_form, numbered, place, Shown, Solution, State, Does, mentioned}
use Rattle.pb_replay.proofs.Common.{NotBound, Outcome, ◌+◌, get_or, length-append, refl, get_or-append_seam, cases_lt, or_left, or_right, get_or_append_left}
use Rattle.pb_replay.proofs.Common.{slice_get-get_or, distinct, prefix, number_in-get, AreDistinct, number_in, with_name, only, only-self, derivation-keeps}
use Rattle.pb_replay.specs.declared.fault.Fault.TheVariants.{FormulaCount, NotContradiction, SolutionLogged}

Excludes-unique : (given : List NumberedLiteral) (r s : Form) → Excludes given r → Excludes given s → r ≡ s
Excludes-unique given r s p q =
    let on_plain = λ (x : ℕ). p.coefficients x false ∙ sym (q.coefficients x false) in
    let on_negated = λ (x : ℕ). p.coefficients x true ∙ sym (q.coefficients x true) in
    let terms = IsRising-same 0 r.terms s.terms p.ordered q.ordered (λ x. omega (arith, on_plain x, on_negated x)) in
    same_form r.terms s.terms r.degree s.degree terms (p.degree_is ∙ sym q.degree_is)

module _ {A : Type 0} where
  single-gives : (x : A) → IsSingle (gives x)
  single-gives x r s p q = p ∙ sym q

  single-need : (P : Type 0) (e : Fault) (next : Answer A) → IsSingle next → IsSingle (need P e next)
  single-need P e next h r s p q = grind (arith, h)

  single-each : (P : ℕ → Type 0) (n : ℕ) (e : ℕ → Fault) (next : Answer A) → IsSingle next → IsSingle (each_below P n e next)
  single-each P n e next h r s p q = grind (arith, h)

  single-some : {X : Type 0} (P : X → Type 0) (next : X → Answer A) → ((x y : X) → P x → P y → x ≡ y) → ((x : X) → IsSingle (next x)) → IsSingle (some P next)
  single-some P next one h r s p q = h q.0 r s (rw (one p.0 q.0 p.1 q.1) at p.2) q.2

  single-found : {X : Type 0} (P : X → Type 0) (e : Fault) (next : X → Answer A) → ((x y : X) → P x → P y → x ≡ y) → ((x : X) → IsSingle (next x)) → IsSingle (found P e next)
  single-found P e next one h r s p q = grind (arith, one, h)

  single-after : {X : Type 0} (m : Answer X) (next : X → Answer A) → IsSingle m → ((x : X) → IsSingle (next x)) → IsSingle (after m next)
  single-after m next one h r s p q = grind (arith, one, h, ok-same)

IsLive-one : (live : List (Option Form)) (i : ℤ) (f g : Form) → IsLive live i f → IsLive live i g → f ≡ g
IsLive-one live i f g p q = same_Some _ _ (sym p ∙ q)

objective-one : (v : Problem) (o p : List Term) → v.objective ≡ Some o → v.objective ≡ Some p → o ≡ p
objective-one v o p d e = same_Some _ _ (sym d ∙ e)

AreValues-one : (list : List NumberedLiteral) (names : ℕ) (xs ys : List Bool) → AreValues list names xs → AreValues list names ys → xs ≡ ys
AreValues-one list names xs ys p q =
    ext_get_or false xs ys (p.count ∙ sym q.count) (λ k lt. let inside : k < names = omega (arith, lt, p.count) in p.each k inside ∙ sym (q.each k inside))

single-solution : (v : Problem) (names : ℕ) (list : List NumberedLiteral) → IsSingle (Solution v names list)
single-solution v names list =
    single-each (HasValue list) names _ _ (single-some (AreValues list names) _ (AreValues-one list names) (λ values. single-each _ _ _ _ (single-gives (logged_of v values))))

-- lists with the same literals give the same values
HasValue-same : (a b : List NumberedLiteral) → ((x : ℕ) (n : Bool) → on a x n ≡ on b x n) → (k : ℕ) → HasValue a k → HasValue b k
HasValue-same a b same k (inl h) = inl (sym (same k false) ∙ h)
HasValue-same a b same k (inr h) = inr (sym (same k true) ∙ h)

Solution-same : (v : Problem) (names : ℕ) (a b : List NumberedLiteral) → ((x : ℕ) (n : Bool) → on a x n ≡ on b x n) → (r : Result Logged Fault) → Solution v names a r → Solution v names b r
Solution-same v names a b same r h = grind (arith, same, HasValue-same)

pub single-completed : (v : Problem) (forms : Form → Type 0) (names : ℕ) (given : List NumberedLiteral) → IsSingle (Completed v forms names given)
single-completed v forms names given r s (inl p) (inl q) =
    let same = completion-one forms given (p.1).0 (q.1).0 p.0 (p.1).1 (q.1).1 in
    single-solution v names (q.1).0 r s (Solution-same v names (p.1).0 (q.1).0 same r (p.1).2) (q.1).2
single-completed v forms names given r s (inl p) (inr q) = absurd (q.0 p.0)
single-completed v forms names given r s (inr p) (inl q) = absurd (p.0 q.0)
single-completed v forms names given r s (inr p) (inr q) = p.1 ∙ sym q.1

Shown-one : (v : Problem) (given : List NumberedLiteral) (g h : Logged) → Shown v given g → Shown v given h → g ≡ h
Shown-one v given g h p q = ok-same (single-completed v (Contains v.loaded) (length v.names) given (Ok g) (Ok h) p q)

-- the fault names no number without a value
abbrev pub IsOther : Fault → Type 0
IsOther (NotTotal n) = ⊥
IsOther _ = Unit {0}

-- The relation passes through tests. A test may become weaker; if E holds, it says the same.
pub record Passes (E A B : Type 0) (R : Answer A → Answer B → Type 0) : Type 1 where
  pub by_need : (P Q : Type 0) (e : Fault) (m : Answer A) (n : Answer B) → IsOther e → (P → Q) → (E → Q → P) → R m n → R (need P e m) (need Q e n)
  pub by_found : (X : Type 0) (P : X → Type 0) (e : Fault) (m : X → Answer A) (n : X → Answer B) → IsOther e → ((x y : X) → P x → P y → x ≡ y)
      → ((x : X) → R (m x) (n x)) → R (found P e m) (found P e n)
  pub by_some : (X : Type 0) (P : X → Type 0) (m : X → Answer A) (n : X → Answer B) → ((x y : X) → P x → P y → x ≡ y) → ((x : X) → R (m x) (n x))
      → R (some P m) (some P n)

-- It passes through values and what follows them too.
pub record Composes (R : (A : Type 0) → Answer A → Answer A → Type 0) : Type 1 where
  pub passes : (A : Type 0) → Passes ⊥ A A (R A)
  pub by_gives : (A : Type 0) (x : A) → R A (gives x) (gives x)
  pub by_after : (A X : Type 0) (k j : Answer X) (m n : X → Answer A) → R X k j → ((x : X) → R A (m x) (n x)) → R A (after k m) (after j n)

module _ (E : Type 0) (limit more : ℕ) (wider : limit ≤ more) (same : E → more ≤ limit) (A B : Type 0) (R : Answer A → Answer B → Type 0)
    (p : Passes E A B R) where
  always : (P : Type 0) (e : Fault) (m : Answer A) (n : Answer B) → IsOther e → R m n → R (need P e m) (need P e n)
  always P e m n o h = p.by_need P P e m n o (λ x. x) (λ k x. x) h

  normal-pass : (names : List (List ℕ)) (side : Side) (linear : Linear) (m : Form → Answer A) (n : Form → Answer B) → ((f : Form) → R (m f) (n f))
      → R (normal_form limit names side linear m) (normal_form more names side linear n)
  normal-pass names side linear m n h =
      p.by_need _ _ Overflow _ _ tt (λ le. omega (arith, le, wider)) (λ e le. omega (arith, le, same e)) (p.by_some Form _ m n (IsFormOf-unique names _ _) h)

  pub left-pass : (s : State) (id : Option ℤ) (m : Answer A) (n : Answer B) → R m n → R (none_left s id m) (none_left s id n)
  left-pass s None m n h = always _ SolutionLogged _ _ tt (always _ NotContradiction _ _ tt h)
  left-pass s (Some i) m n h =
      always _ SolutionLogged _ _ tt (p.by_found Form (IsLive s.live i) (NoSuchId i) _ _ tt (IsLive-one s.live i) (λ f. always _ NotContradiction _ _ tt h))

  named-pass : (live : List (Option Form)) (id : Option ℤ) (m : Option Form → Answer A) (n : Option Form → Answer B) → ((f : Option Form) → R (m f) (n f))
      → R (named live id m) (named live id n)
  named-pass live None m n h = h None
  named-pass live (Some i) m n h = p.by_found Form (IsLive live i) (NoSuchId i) _ _ tt (IsLive-one live i) (λ f. h (Some f))

  pub lower-pass : (s : State) (o : List Term) (b : Bound) (id : Option ℤ) (m : Answer A) (n : Answer B) → R m n
      → R (lower_bound limit s o b id m) (lower_bound more s o b id n)
  lower-pass s o Infinite id m n h = left-pass s id m n h
  lower-pass s o (Finite b) id m n h =
      always _ NotBound _ _ tt (named-pass s.live id _ _ (λ f. normal-pass s.names Side.AtLeast (objective_with o b) _ _ (λ g. always _ NotBound _ _ tt h)))

  pub upper-pass : (v : Problem) (s : State) (u : Bound) (shown : Option (List Literal)) (m : Answer A) (n : Answer B) → R m n
      → R (upper_bound v s u shown m) (upper_bound v s u shown n)
  upper-pass v s Infinite shown m n h = h
  upper-pass v s (Finite u) (Some given) m n h =
      p.by_found Logged (Shown v (numbered s.names given)) NoSolution _ _ tt (Shown-one v (numbered s.names given)) (λ g. always _ NotBound _ _ tt h)
  upper-pass v s (Finite u) None m n h = always _ NoSolution _ _ tt (always _ NotBound _ _ tt h)

module _ (R : (A : Type 0) → Answer A → Answer A → Type 0) (c : Composes R) (limit more top above : ℕ) (wider : limit ≤ more) (higher : top ≤ above) where
  limited-pass : (r : Form) → R Form (limited limit r) (limited more r)
  limited-pass r =
      (c.passes Form).by_need _ _ Overflow _ _ tt (λ w. record { size_in = omega (arith, w.size_in, wider); degree_in = omega (arith, w.degree_in, wider) })
      (λ e. absurd e) (c.by_gives Form r)

  tree-pass : (names : List (List ℕ)) (live : List (Option Form)) (t : Tree) → R Form (FormOfExpression limit names live t) (FormOfExpression more names live t)
  tree-pass names live (Constraint i) = (c.passes Form).by_found Form (IsLive live i) (NoSuchId i) _ _ tt (IsLive-one live i) (c.by_gives Form)
  tree-pass names live (LiteralAxiom l) = c.by_gives Form _
  tree-pass names live (Sum a b) =
      c.by_after Form Form _ _ _ _ (tree-pass names live a) (λ f.
      c.by_after Form Form _ _ _ _ (tree-pass names live b) (λ g. (c.passes Form).by_some Form (IsSum f g) _ _ (IsSum-unique f g) limited-pass))
  tree-pass names live (Product a k) = c.by_after Form Form _ _ _ _ (tree-pass names live a) (λ f. limited-pass _)
  tree-pass names live (Quotient a k) = c.by_after Form Form _ _ _ _ (tree-pass names live a) (λ f. c.by_gives Form _)
  tree-pass names live (Saturation a) = c.by_after Form Form _ _ _ _ (tree-pass names live a) (λ f. c.by_gives Form _)
  tree-pass names live (Weakening a name) = c.by_after Form Form _ _ _ _ (tree-pass names live a) (λ f. c.by_gives Form _)

  added-pass : (s : State) (logged : List Logged) (r : Form) → R State (added top s logged r) (added above s logged r)
  added-pass s logged r = (c.passes State).by_need _ _ IdsSpent _ _ tt (λ lt. omega (arith, lt, higher)) (λ e. absurd e) (c.by_gives State _)

  deleted-pass : (live : List (Option Form)) (ids : List ℤ) → R (List (Option Form)) (Deleted live ids) (Deleted live ids)
  deleted-pass live [] = c.by_gives (List (Option Form)) live
  deleted-pass live (i ∷ ids) =
      (c.passes (List (Option Form))).by_found Form (IsLive live i) (NoSuchId i) _ _ tt (IsLive-one live i)
      (λ f. deleted-pass (set live (place (length live) i) None) ids)

  test : (P : Type 0) (e : Fault) (m n : Answer State) → IsOther e → R State m n → R State (need P e m) (need P e n)
  test = always ⊥ limit more wider (λ e. absurd e) State State (R State) (c.passes State)

  normal : (names : List (List ℕ)) (side : Side) (linear : Linear) (m n : Form → Answer State) → ((f : Form) → R State (m f) (n f))
      → R State (normal_form limit names side linear m) (normal_form more names side linear n)
  normal = normal-pass ⊥ limit more wider (λ e. absurd e) State State (R State) (c.passes State)

  concludes-pass : (v : Problem) (s : State) (k : Conclusion) (next : Answer State) → R State next next
      → R State (Concludes limit v s k next) (Concludes more v s k next)
  concludes-pass v s NoClaim next h = h
  concludes-pass v s (Unsat id) next h = left-pass ⊥ limit more wider (λ e. absurd e) State State (R State) (c.passes State) s id next next h
  concludes-pass v s (Sat (Some given)) next h =
      (c.passes State).by_found Logged (Shown v (numbered s.names given)) NoSolution _ _ tt (Shown-one v (numbered s.names given)) (λ g. h)
  concludes-pass v s (Sat None) next h = test _ NoSolution _ _ tt h
  concludes-pass v s (Bounds lower id upper shown) next h =
      (c.passes State).by_found (List Term) (λ o. v.objective ≡ Some o) NoObjective _ _ tt (objective-one v) (λ o.
      lower-pass ⊥ limit more wider (λ e. absurd e) State State (R State) (c.passes State) s o lower id _ _ (
      upper-pass ⊥ limit more wider (λ e. absurd e) State State (R State) (c.passes State) v s upper shown next next h))

  does-pass : (v : Problem) (s : State) (st : Statement)
      → ((given : List Literal) → (st ≡ Soli given) ⊎ (st ≡ Solx given) → R Logged (Completed v (Live s.live) (length s.names) (numbered s.names given)) (Completed v (Live s.live) (length s.names) (numbered s.names given)))
      → R State (Does limit top v s st) (Does more above v s st)
  does-pass v s (F count) done =
      test _ (FormulaCount (length v.loaded)) _ _ tt
      ((c.passes State).by_need _ _ IdsSpent _ _ tt (λ le. omega (arith, le, higher)) (λ e. absurd e) (c.by_gives State _))
  does-pass v s (Pol ws) done =
      (c.passes State).by_some Tree (λ tree. ws ≡ words tree) _ _ (λ t u p q. words_report t u (sym p ∙ q)) (λ tree.
      c.by_after State Form _ _ _ _ (tree-pass s.names s.live tree) (added-pass s s.logged))
  does-pass v s (Rup linear) done = normal s.names Side.AtLeast linear _ _ (λ r. test _ NotImplied _ _ tt (added-pass s s.logged r))
  does-pass v s (Soli given) done =
      (c.passes State).by_found (List Term) (λ o. v.objective ≡ Some o) NoObjective _ _ tt (objective-one v) (λ o.
      c.by_after State Logged _ _ _ _ (done given (inl refl)) (λ g.
      normal s.names Side.AtMost (objective_with o (g.value -ℤ pos 1)) _ _ (added-pass s (s.logged ++ (g ∷ [])))))
  does-pass v s (Solx given) done =
      c.by_after State Logged _ _ _ _ (done given (inr refl)) (λ g.
      (c.passes State).by_some Form (Excludes (numbered s.names given)) _ _ (Excludes-unique (numbered s.names given)) (added-pass s (s.logged ++ (g ∷ []))))
  does-pass v s (Delete ids) done = c.by_after State (List (Option Form)) _ _ _ _ (deleted-pass s.live ids) (λ live. c.by_gives State _)
  does-pass v s (Conclude k) done = concludes-pass v s k _ (c.by_gives State _)
  does-pass v s st done = c.by_gives State _

  pub outcome-pass : (v : Problem) (s : State) (st : Statement)
      → (let names = with_names s.names (mentioned st) in (given : List Literal) → (st ≡ Soli given) ⊎ (st ≡ Solx given) → R Logged (Completed v (Live s.live) (length names) (numbered names given)) (Completed v (Live s.live) (length names) (numbered names given)))
      → R State (Outcome limit top v s st) (Outcome more above v s st)
  outcome-pass v s st done = test _ Order _ _ tt (does-pass v (record s { names = with_names s.names (mentioned st) }) st done)

-- outcomes are single
abbrev SingleAt : (A : Type 0) → Answer A → Answer A → Type 0
SingleAt A m n = IsSingle m

single-composes : Composes SingleAt
single-composes = record {
  passes = λ A. record {
    by_need = λ P Q e m n o f g h. single-need P e m h;
    by_found = λ X P e m n o one h. single-found P e m one h;
    by_some = λ X P m n one h. single-some P m one h;
  };
  by_gives = λ A x. single-gives x;
  by_after = λ A X k j m n f h. single-after k m f h;
}

pub outcomes-single : OutcomesAreSingle
outcomes-single limit top v s st =
    outcome-pass SingleAt single-composes limit limit top top (omega arith) (omega arith) v s st
    (λ given e. single-completed v (Live s.live) (length (with_names s.names (mentioned st))) (numbered (with_names s.names (mentioned st)) given))

pub openings-single : OpeningsAreSingle
openings-single limit i = single-need (FitsAll limit i) _ _ (single-some (AreFormsOf (names_in i) (sides_in i.constraints)) _ (same_forms IsFormOf-unique (names_in i) (sides_in i.constraints)) (λ forms. single-gives _))

-- larger limits accept the same
abbrev Grows : (A : Type 0) → Answer A → Answer A → Type 0
Grows A m n = (x : A) → m (Ok x) → n (Ok x)

grows-composes : Composes Grows
grows-composes = record {
  passes = λ A. record {
    by_need = λ P Q e m n o f g h x. elim [ inl t ↦ inl (f t.0, h x t.1) | inr t ↦ ok_or_err t.1 ];
    by_found = λ X P e m n o one h x. elim [ inl t ↦ inl (t.0, t.1, h t.0 x t.2) | inr t ↦ ok_or_err t.1 ];
    by_some = λ X P m n one h x t. (t.0, t.1, h t.0 x t.2);
  };
  by_gives = λ A y x t. t;
  by_after = λ A X k j m n f h x. elim [ inl t ↦ inl (t.0, f t.0 t.1, h t.0 x t.2) | inr t ↦ ok_or_err t.2 ];
}

pub accepts-more : AcceptsMore
accepts-more limit top more above v s t st wider higher = outcome-pass Grows grows-composes limit more top above wider higher v s st (λ given e g h. h) t

pub opens-more : OpensMore
opens-more limit more i v wider (inl h) =
    inl (record { constraints = λ c k. omega (arith, (h.0).constraints c k, wider); objective = omega (arith, (h.0).objective, wider) }, h.1)
opens-more limit more i v wider (inr h) = ok_or_err h.1

-- at each new index is one of the names that appeared
data Among (q : List ℕ) : List (List ℕ) → Type 0 where
  first : {n : List ℕ} {ns : List (List ℕ)} → q ≡ n → Among q (n ∷ ns)
  later : {n : List ℕ} {ns : List (List ℕ)} → Among q ns → Among q (n ∷ ns)

record Appeared (names : List (List ℕ)) (ns : List (List ℕ)) (k : ℕ) : Type 0 where
  name : List ℕ
  among : Among name ns
  at : get_or names k [] ≡ name

one_more : (old : List (List ℕ)) (n : List ℕ) (k : ℕ) → length old ≤ k → k < length (with_name old n) → (with_name old n ≡ old ++ n ∷ []) × (k ≡ length old)
one_more old n k le = grind (arith, length-append)

appeared : (old ns : List (List ℕ)) (k : ℕ) → length old ≤ k → k < length (with_names old ns) → Appeared (with_names old ns) ns k
appeared old [] k le lt = absurd (omega (arith, le, lt))
appeared old (n ∷ ns) k le lt =
    elim (cases_lt k (length (with_name old n))) [
      | inl inside ↦
          let one = one_more old n k le inside in let more = prefix (with_name old n) ns in
          let here : get_or (with_names (with_name old n) ns) k [] ≡ n =
          ap (λ (xs : List (List ℕ)). get_or xs k []) more.1
          ∙ get_or_append_left (with_name old n) more.0 [] k inside
          ∙ ap (λ (xs : List (List ℕ)). get_or xs k []) one.0
          ∙ ap (λ i. get_or (old ++ n ∷ []) i []) one.1
          ∙ get_or-append_seam old n [] [] in
          record { name = n; among = first refl; at = here }
      | inr past ↦
          let rest = appeared (with_name old n) ns k past lt in record { name = rest.name; among = later rest.among; at = rest.at }
    ]

same_only : (v w : ℕ) (n : Bool) → v ≡ w → only v n w n ≡ true
same_only v w n e = rw e (only-self w n)

-- a literal of that name is among the given ones
given_on : (names : List (List ℕ)) (ls : List Literal) (q : List ℕ) (k : ℕ) → Among q (literal_names ls) → number_in names q ≡ k → (m : Bool) × (on (numbered names ls) k m ≡ true)
given_on names [] q k x is = elim x [ ]
given_on names (l ∷ ls) q k (first e) is =
    (l.negated, or_left (only (number_in names l.name) l.negated k l.negated) (on (numbered names ls) k l.negated) (same_only (number_in names l.name) k l.negated (ap (number_in names) (sym e) ∙ is)))
given_on names (l ∷ ls) q k (later a) is =
    let rest = given_on names ls q k a is in
    (rest.0, or_right (only (number_in names l.name) l.negated k rest.0) (on (numbered names ls) k rest.0) rest.1)

-- each new number is that of a given literal
pub new_given : (old : List (List ℕ)) (ls : List Literal) (k : ℕ) → AreDistinct old → length old ≤ k → k < length (with_names old (literal_names ls)) → (m : Bool) × (on (numbered (with_names old (literal_names ls)) ls) k m ≡ true)
new_given old ls k d le lt =
    let names = with_names old (literal_names ls) in let a = appeared old (literal_names ls) k le lt in
    let number = number_in-get names k a.name (distinct old (literal_names ls) d) (slice_get-get_or names k [] lt ∙ ap (λ n. let o : Option (List ℕ) = Some n in o) a.at) in
    given_on names ls a.name k a.among number

-- a completion that leaves a number without a value
has_value : (list : List NumberedLiteral) (k : ℕ) (m : Bool) → on list k m ≡ true → HasValue list k
has_value list k true e = inr e
has_value list k false e = inl e

unvalued : (v : Problem) (forms : Form → Type 0) (old : List (List ℕ)) (ls : List Literal) (n : ℕ) (r : Result Logged Fault) → AreDistinct old → r ≡ Err (Fault.NotTotal n)
    → Completed v forms (length (with_names old (literal_names ls))) (numbered (with_names old (literal_names ls)) ls) r → n < length old
unvalued v forms old ls n r d is (inr h) = absurd (let o : Fault.Conflict ≡ Fault.NotTotal n = same_err (sym h.1 ∙ is) in cc)
unvalued v forms old ls n r d is (inl (free, (list, completion, inl (all, (values, are, inl (holds, g)))))) = absurd cc
unvalued v forms old ls n r d is (inl (free, (list, completion, inl (all, (values, are, inr (k, lt, no_more, before, g)))))) = absurd (let o : Fault.Violates (k + 1) ≡ Fault.NotTotal n = same_err (sym g ∙ is) in cc)
unvalued v forms old ls n r d is (inl (free, (list, completion, inr (k, lt, none, before, g)))) =
    let same : k ≡ n = (let o : Fault.NotTotal k ≡ Fault.NotTotal n = same_err (sym g ∙ is) in cc) in
    elim (cases_lt n (length old)) [
      | inl here ↦ here
      | inr new ↦
          let given = new_given old ls k d (omega (arith, new, same)) lt in
          absurd (none (has_value list k given.0 (derivation-keeps forms (numbered (with_names old (literal_names ls)) ls) list completion.derived k given.0 given.1)))
    ]

-- only a number like this has no value
module _ (K : ℕ → Type 0) where
  abbrev Only : (A : Type 0) → Answer A → Answer A → Type 0
  Only A m n = (r : Result A Fault) (k : ℕ) → r ≡ Err (Fault.NotTotal k) → m r → K k

  other : {A : Type 0} {B : Type 0} (r : Result A Fault) (e : Fault) (k : ℕ) → IsOther e → r ≡ Err e → r ≡ Err (Fault.NotTotal k) → B
  other r (Fault.NotTotal n) k o p q = absurd o
  other r e k o p q = absurd cc

  only-composes : Composes Only
  only-composes = record {
    passes = λ A. record {
      by_need = λ P Q e m n o f g h r k is. elim [ inl t ↦ h r k is t.1 | inr t ↦ other r e k o t.1 is ];
      by_found = λ X P e m n o one h r k is. elim [ inl t ↦ h t.0 r k is t.2 | inr t ↦ other r e k o t.1 is ];
      by_some = λ X P m n one h r k is t. h t.0 r k is t.2;
    };
    by_gives = λ A x r k is t. absurd cc;
    by_after = λ A X i j m n f h r k is. elim [ inl t ↦ h t.0 r k is t.2 | inr t ↦ f (Err t.0) k (ap (λ (d : Fault). Err d) (same_err (sym t.2 ∙ is))) t.1 ];
  }

pub unvalued-old : UnvaluedAreOld
unvalued-old limit top v s st n d h =
    outcome-pass (Only (λ k. k < length s.names)) (only-composes (λ k. k < length s.names)) limit limit top top (omega arith) (omega arith) v s st done
    (Err (Fault.NotTotal n)) n refl h
  where
    done : (given : List Literal) → (st ≡ Soli given) ⊎ (st ≡ Solx given) → (r : Result Logged Fault) (k : ℕ) → r ≡ Err (Fault.NotTotal k)
        → Completed v (Live s.live) (length (with_names s.names (mentioned st))) (numbered (with_names s.names (mentioned st)) given) r → k < length s.names
    done given e r k is c =
        let said : mentioned st ≡ literal_names given = elim e [ inl g ↦ ap mentioned g | inr g ↦ ap mentioned g ] in
        unvalued v (Live s.live) s.names given k r d is
        (subst (λ (ns : List (List ℕ)). Completed v (Live s.live) (length (with_names s.names ns)) (numbered (with_names s.names ns) given) r) said c)

pub unvalued-wants : UnvaluedMayWant
unvalued-wants limit top v s (Soli given) n h = grind arith
unvalued-wants limit top v s (Solx given) n h = grind arith
unvalued-wants limit top v s st n h =
    absurd
    (outcome-pass (Only (λ k. ⊥)) (only-composes (λ k. ⊥)) limit limit top top (omega arith) (omega arith) v s st (λ given e. absurd (grind arith)) (Err (Fault.NotTotal n)) n refl h)
