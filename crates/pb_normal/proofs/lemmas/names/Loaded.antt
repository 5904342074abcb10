-- The forms that constraints load as, over the names so far. Offered to other crates.
use Rattle.pb_normal.proofs.Common.{take-append-add, ℕ, ◌++◌, ◌+◌, ◌<◌, ◌∙◌, ◌∷◌, ◌≡◌, [], ap, append-nil, append_assoc, arith, Err, get_or, length, List, Ok}
use Rattle.pb_normal.proofs.Common.{OnErr, take_all, OnOk, refl, Result, subst, suc, sym, take, zero, flat_map-append, All, AllByRecursion, Linear, take_read}
use Rattle.pb_normal.proofs.Common.{NormalFault, Memory, Overflow, Side, AreFormsOf, constraint_names, sides_in, with_sides, Form, AfterPrefix, AreDistinct}
use Rattle.pb_normal.proofs.{Common.HasNames, Common.with_names, Common.names_of, lemmas.names.WrittenForms.IsSideOf-append}
use Rattle.pb_normal.proofs.lemmas.names.Appearing.{prefix, named, names_split, distinct, present, in_turn}
use Rattle.pb_normal.specs.declared.side.Side.TheVariants.{AtLeast as least, AtMost as most}
use Rattle.pb_sums.specs.declared.linear.Relation.{Relation, TheVariants.AtLeast, TheVariants.Equal}

-- the names of each side's constraint have numbers
abbrev pub AreNamed : List (List ℕ) → List (Side × Linear) → Type 0
AreNamed names = AllByRecursion (λ side. HasNames names (names_of side.1.terms))

named_sides : (names : List (List ℕ)) (relation : Relation) (c : Linear) (sides : List (Side × Linear)) → HasNames names (names_of c.terms) → AreNamed names sides → AreNamed names (with_sides relation c ++ sides)
named_sides names AtLeast c sides h k = (h, k)
named_sides names Equal c sides h k = (h, (h, k))

pub are_named : (names : List (List ℕ)) (cs : List Linear) → HasNames names (constraint_names cs) → AreNamed names (sides_in cs)
are_named names [] h = tt
are_named names (c ∷ cs) h =
    let parts = names_split names (names_of c.terms) (constraint_names cs) h in
    named_sides names c.relation c (sides_in cs) parts.0 (are_named names cs parts.1)

-- the same forms over more names
pub forms_more : (names more : List (List ℕ)) (sides : List (Side × Linear)) (forms : List Form) → AreDistinct (names ++ more) → AreNamed names sides → AreFormsOf names sides forms → AreFormsOf (names ++ more) sides forms
forms_more names more [] [] d n f = tt
forms_more names more (side ∷ sides) (r ∷ forms) d n f = (IsSideOf-append names more side.0 side.1 r d n.0 f.0, forms_more names more sides forms d n.1 f.1)
forms_more names more _ _ d n f = absurd f

-- a fault that is not `Overflow`
pub memory_alone : (e : NormalFault) → (e ≡ Overflow → ⊥) → e ≡ Memory
memory_alone e h = grind arith

-- an element that was read from a list is one of its elements
pub all_read : (P : Linear → Type 0) (cs : List Linear) (i : ℕ) (c : Linear) → i < length cs → c ≡ get_or cs i c → All P cs → P c
all_read P cs i c lt e h = subst P (sym e) (h i c lt)

-- one list after another
pub forms_then : (names : List (List ℕ)) (ss ts : List (Side × Linear)) (fs gs : List Form) → AreFormsOf names ss fs → AreFormsOf names ts gs → AreFormsOf names (ss ++ ts) (fs ++ gs)
forms_then names [] ts [] gs h k = k
forms_then names (s ∷ ss) ts (f ∷ fs) gs h k = (h.0, forms_then names ss ts fs gs h.1 k)
forms_then names _ ts _ gs h k = absurd h

-- the second form of an equality after its first
pub second_loaded : {E : Type 0} (result : Result Unit E) (old names new : List (List ℕ)) (c : Linear) (before middle after : List Form) → c.relation ≡ Equal → names ≡ with_names old (names_of c.terms)
    → HasNames names (names_of c.terms)
    → (x : Form) × AreFormsOf names ((least, c) ∷ []) (x ∷ []) × (middle ≡ before ++ x ∷ [])
    → OnOk result ((y : Form) × AreFormsOf new ((most, c) ∷ []) (y ∷ []) × (after ≡ middle ++ y ∷ []))
    → OnOk result (new ≡ with_names names (names_of c.terms))
    → OnOk result ((added : List Form) × AreFormsOf new (with_sides c.relation c) added × (after ≡ before ++ added))
second_loaded (Err f) old names new c before middle after r e h first second k = tt
second_loaded (Ok u) old names new c before middle after r e h (x, one, was) (y, other, is) k =
    (x ∷ y ∷ [], grind (arith, present, forms_then, r), is ∙ ap (λ (ls : List Form). ls ++ y ∷ []) was ∙ append_assoc before (x ∷ []) (y ∷ []))

pub second_names : {E : Type 0} (result : Result Unit E) (old names new : List (List ℕ)) (ns : List (List ℕ)) → names ≡ with_names old ns → HasNames names ns → OnOk result (new ≡ with_names names ns)
    → OnOk result (new ≡ with_names old ns)
second_names (Err f) old names new ns e h k = tt
second_names (Ok u) old names new ns e h k = k ∙ present names ns h ∙ e

-- what was loaded so far, starting with these names
pub record LoadedFrom (old new : List (List ℕ)) (cs : List Linear) (ls : List Form) : Type 0 where
  pub names : new ≡ with_names old (constraint_names cs)
  pub loaded : AreFormsOf new (sides_in cs) ls

pub loaded_none : (old : List (List ℕ)) → LoadedFrom old old [] []
loaded_none old = record { names = refl; loaded = tt }

-- one more constraint
pub loaded_next : (old names new : List (List ℕ)) (cs : List Linear) (c : Linear) (ls added : List Form) → AreDistinct old → LoadedFrom old names cs ls → new ≡ with_names names (names_of c.terms)
    → AreFormsOf new (with_sides c.relation c) added → LoadedFrom old new (cs ++ c ∷ []) (ls ++ added)
loaded_next old names new cs c ls added d before e one =
    let more = prefix names (names_of c.terms) in
    let grown : new ≡ names ++ more.0 = e ∙ more.1 in
    let apart_names : AreDistinct names = rw before.names (distinct old (constraint_names cs) d) in
    let apart : AreDistinct (names ++ more.0) = rw (← more.1) (distinct names (names_of c.terms) apart_names) in
    let has : HasNames names (constraint_names cs) = rw before.names (named old (constraint_names cs)) in
    let kept : AreFormsOf new (sides_in cs) ls = rw grown (forms_more names more.0 (sides_in cs) ls apart (are_named names cs has) before.loaded) in
    record {
      names = rw (flat_map-append, append-nil, in_turn, ← before.names) e;
      loaded = rw (flat_map-append, append-nil) (forms_then new (sides_in cs) (with_sides c.relation c) ls added kept one);
    }

pub loaded_at : (old names new : List (List ℕ)) (cs : List Linear) (i : ℕ) (c : Linear) (ls after : List Form) → i < length cs → c ≡ get_or cs i c → AreDistinct old → LoadedFrom old names (take i cs) ls
    → new ≡ with_names names (names_of c.terms) → (added : List Form) × AreFormsOf new (with_sides c.relation c) added × (after ≡ ls ++ added) → LoadedFrom old new (take (i + 1) cs) after
loaded_at old names new cs i c ls after lt e d before k (added, one, is) =
    rw (take_read cs i c c lt e, is) (loaded_next old names new (take i cs) c ls added d before k one)

-- ---- a prefix of the names
prefix_longer : (xs ys : List (List ℕ)) (k : ℕ) → (m : ℕ) × (take m (xs ++ ys) ≡ take k xs)
prefix_longer xs ys zero = (0, refl)
prefix_longer [] ys (suc k) = (0, refl)
prefix_longer (x ∷ xs) ys (suc k) = let rest = prefix_longer xs ys k in (suc rest.0, ap (λ (ns : List (List ℕ)). x ∷ ns) rest.1)

prefix_named : (names ns : List (List ℕ)) (k : ℕ) → HasNames names ns → HasNames names (take k ns)
prefix_named names ns zero h = tt
prefix_named names [] (suc k) h = tt
prefix_named names (n ∷ ns) (suc k) h = (h.0, prefix_named names ns k h.1)

pub after_all : (old new ns : List (List ℕ)) → new ≡ with_names old ns → AfterPrefix old ns new
after_all old new ns e = (length ns, rw (take_all (length ns) ns (omega arith)) e)

-- the names of the second side have numbers already
after_again : (old names new ns : List (List ℕ)) → names ≡ with_names old ns → HasNames names ns → AfterPrefix names ns new → AfterPrefix old ns new
after_again old names new ns e h (k, is) = after_all old new ns (is ∙ present names (take k ns) (prefix_named names ns k h) ∙ e)

pub second_after : {E : Type 0} (result : Result Unit E) (old names new ns : List (List ℕ)) → names ≡ with_names old ns → HasNames names ns → OnErr result (AfterPrefix names ns new) → OnErr result (AfterPrefix old ns new)
second_after (Ok u) old names new ns e h k = tt
second_after (Err f) old names new ns e h k = after_again old names new ns e h k

after_others : (old names new before own more : List (List ℕ)) → names ≡ with_names old before → AfterPrefix names own new → AfterPrefix old (before ++ (own ++ more)) new
after_others old names new before own more e (k, is) =
    let inner = prefix_longer own more k in
    (length before + inner.0, rw (take-append-add before (own ++ more) inner.0, inner.1, in_turn old before (take k own), ← e) is)

-- the names of one constraint come after those of the constraints before
names_at : (cs : List Linear) (i : ℕ) (c : Linear) → i < length cs → c ≡ get_or cs i c → (more : List (List ℕ)) × (constraint_names cs ≡ constraint_names (take i cs) ++ (names_of c.terms ++ more))
names_at [] i c lt e = absurd (omega (arith, lt))
names_at (x ∷ cs) zero c lt e = (constraint_names cs, ap (λ (y : Linear). names_of y.terms ++ constraint_names cs) (sym e))
names_at (x ∷ cs) (suc i) c lt e = let rest = names_at cs i c (omega (arith, lt)) e in (rest.0, rw (rest.1, append_assoc) refl)

pub after_at : (old names new : List (List ℕ)) (cs : List Linear) (i : ℕ) (c : Linear) → i < length cs → c ≡ get_or cs i c → names ≡ with_names old (constraint_names (take i cs)) → AfterPrefix names (names_of c.terms) new
    → AfterPrefix old (constraint_names cs) new
after_at old names new cs i c lt e k a =
    let at = names_at cs i c lt e in
    subst (λ (ns : List (List ℕ)). AfterPrefix old ns new) (sym at.1) (after_others old names new (constraint_names (take i cs)) (names_of c.terms) at.0 k a)
