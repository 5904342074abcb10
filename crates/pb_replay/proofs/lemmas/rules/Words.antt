-- The words of an expression on a stack have the result of their expression, which lies within the names
use Rattle.pb_normal.proofs.lemmas.rules.Keeps.{IsOver-sum, IsOver-below}
use Rattle.pb_replay.proofs.Common.{ℕ, ◌++◌, ◌∙◌, ◌∷◌, ◌≡◌, ◌⊎◌, [], ap, Err, inl, inr, List, refl, IfErr, IfOk, Ok, Option, Result, reverse, reverse-append}
use Rattle.pb_replay.proofs.Common.{Form, number_in, axiom_on, IsSum, saturated, weakened, PolWord, Add, Axiom, Saturate, Weaken, Literal, Fault, Memory, Word}
use Rattle.pb_replay.proofs.Common.{some, limited, ◌+◌, append-nil, append_assoc, arith, unsigned_abs, divided, multiplied, Leaves, Divide, Multiply}
use Rattle.pb_replay.proofs.Common.{Constraint, LiteralAxiom, Product, Quotient, Saturation, Sum, Tree, Weakening, words, NoSuchId, Words, after, Answer, gives}
use Rattle.pb_replay.proofs.Common.{FormOfExpression, ◌<◌, ◌≤◌, drop, get_or, length, length-append, sym, take, drop_all, drop_more, in_turn, prefix}
use Rattle.pb_replay.proofs.Common.{HasNames, with_names, takes, IsPostfix, take_read, IsNamePrefix, word_names, ◌*◌, ◌==◌, map, min, nat_lt, not, subst}
use Rattle.pb_replay.proofs.Common.{All-cons, All-filter, All-map, All-nil, div_ceil, names_split, number_in-below, Entry, with_coefficient, Live, IsInside}
use Rattle.pb_replay.proofs.lemmas.{meaning.Ruled.form-to, rules.Live.IsLive-live}
use Rattle.pb_replay.specs.contract.Rules.{HasForm, constraint, literal, sum, product, quotient, saturation, weakening}

pub last_first : (fs : List Form) (f : Form) → reverse (fs ++ f ∷ []) ≡ f ∷ reverse fs
last_first fs f = reverse-append fs (f ∷ [])

module _ (limit : ℕ) (names : List (List ℕ)) (live : List (Option Form)) where
  pub axiom_made : (w : PolWord) (l : Literal) (q : List ℕ) (n : ℕ) (f : Form) (fs : List Form) → w ≡ Axiom l → q ≡ l.name → n ≡ number_in names q → f ≡ axiom_on n l.negated → Word limit names live w fs (Ok (f ∷ fs))
  axiom_made w l q n f fs e s k is =
      let same : f ≡ axiom_on (number_in names l.name) l.negated = is ∙ ap (λ m. axiom_on m l.negated) (k ∙ ap (number_in names) s) in
      rw (e, same) refl

  pub weaken_made : (w : PolWord) (name q : List ℕ) (n : ℕ) (r : Result Form Fault) (g : Form) (old new : List Form) → w ≡ Weaken name → old ≡ new ++ g ∷ [] → q ≡ name → n ≡ number_in names q → IfOk r (λ f. f ≡ weakened n g)
      → IfOk r (λ f. Word limit names live w (reverse old) (Ok (f ∷ reverse new)))
  weaken_made w name q n (Ok f) g old new e was s k is =
      let same : f ≡ weakened (number_in names name) g = is ∙ ap (λ m. weakened m g) (k ∙ ap (number_in names) s) in
      rw (e, same, was, last_first new g) refl
  weaken_made w name q n (Err d) g old new e was s k is = tt

  pub saturate_made : (w : PolWord) (r : Result Form Fault) (g : Form) (old new : List Form) → w ≡ Saturate → old ≡ new ++ g ∷ [] → IfOk r (λ f. f ≡ saturated g) → IfOk r (λ f. Word limit names live w (reverse old) (Ok (f ∷ reverse new)))
  saturate_made w (Ok f) g old new e was is = rw (e, is, was, last_first new g) refl
  saturate_made w (Err d) g old new e was is = tt

  pub add_fails : {A : Type 0} (r : Result A Fault) (w : PolWord) (left right : Form) (old middle new : List Form) → w ≡ Add → old ≡ middle ++ right ∷ [] → middle ≡ new ++ left ∷ []
      → IfErr r (λ e. (e ≡ Memory) ⊎ some (IsSum left right) (limited limit) (Err e)) → IfErr r (λ e. (e ≡ Memory) ⊎ Word limit names live w (reverse old) (Err e))
  add_fails (Ok x) w left right old middle new e was before h = tt
  add_fails (Err d) w left right old middle new e was before (inl h) = inl h
  add_fails (Err d) w left right old middle new e was before (inr h) =
      rw (e, was, last_first middle right, before, last_first new left) (inr (h.0, h.1, inr (d, h.2, refl)))

at_same : (m n : ℕ) (ws : List PolWord) → m ≡ n → Leaves n ws → Leaves m ws
at_same m n ws e h = rw e h

-- the words of an expression leave one form
leaves_more : (t : Tree) (n : ℕ) (rest : List PolWord) → Leaves (n + 1) rest → Leaves n (words t ++ rest)
leaves_more (Constraint id) n rest h = (omega arith, at_same _ _ rest (omega arith) h)
leaves_more (LiteralAxiom l) n rest h = (omega arith, at_same _ _ rest (omega arith) h)
leaves_more (Sum a b) n rest h =
    rw (append_assoc (words a ++ words b) (Add ∷ []) rest, append_assoc (words a) (words b) (Add ∷ rest))
    (leaves_more a n (words b ++ (Add ∷ rest)) (leaves_more b (n + 1) (Add ∷ rest) (omega arith, at_same _ _ rest (omega arith) h)))
leaves_more (Product a k) n rest h = rw (append_assoc (words a) (Multiply k ∷ []) rest) (leaves_more a n (Multiply k ∷ rest) (omega arith, at_same _ _ rest (omega arith) h))
leaves_more (Quotient a k) n rest h = rw (append_assoc (words a) (Divide k ∷ []) rest) (leaves_more a n (Divide k ∷ rest) (omega arith, at_same _ _ rest (omega arith) h))
leaves_more (Saturation a) n rest h = rw (append_assoc (words a) (Saturate ∷ []) rest) (leaves_more a n (Saturate ∷ rest) (omega arith, at_same _ _ rest (omega arith) h))
leaves_more (Weakening a name) n rest h = rw (append_assoc (words a) (Weaken name ∷ []) rest) (leaves_more a n (Weaken name ∷ rest) (omega arith, at_same _ _ rest (omega arith) h))

pub leaves-one : (t : Tree) → Leaves 0 (words t)
leaves-one t = rw (append-nil (words t)) at (leaves_more t 0 [] (omega arith))

-- how answers are composed
after_given : {Y Z : Type 0} (y : Y) (k : Y → Answer Z) (r : Result Z Fault) → after (gives y) k r → k y r
after_given y k r h = grind arith

module _ {X Y Z : Type 0} where
  after_gives : (m : Answer X) (f : X → Y) (k : Y → Answer Z) (r : Result Z Fault) → after (after m (λ x. gives (f x))) k r → after m (λ x. k (f x)) r
  after_gives m f k r h = grind arith

  joined : (m : Answer X) (n : X → Answer Y) (k : Y → Answer Z) (r : Result Z Fault) → after m (λ x. after (n x) k) r → after (after m n) k r
  joined m n k r h = grind arith

  some_joined : (P : X → Type 0) (n : X → Answer Y) (k : Y → Answer Z) (r : Result Z Fault) → some P (λ x. after (n x) k) r → after (some P n) k r
  some_joined P n k r h = grind arith

after_some : {X Y Z : Type 0} (P : X → Type 0) (n : X → Answer Y) (k : Y → Answer Z) (r : Result Z Fault) → after (some P n) k r → some P (λ x. after (n x) k) r
after_some P n k r h = grind arith

after_like : {X Z : Type 0} (m : Answer X) (n k : X → Answer Z) (r : Result Z Fault) → ((x : X) → n x r → k x r) → after m n r → after m k r
after_like m n k r f h = grind (arith, f)

module _ (limit : ℕ) (names : List (List ℕ)) (live : List (Option Form)) where
  abbrev Then : List PolWord → List Form → Form → Answer (List Form)
  Then rest fs f = Words limit names live rest (f ∷ fs)

  -- an expression, and then a word that takes its form
  by_word : (a : Tree) (w : PolWord) (n : Form → Answer Form) (rest : List PolWord) (fs : List Form) (r : Result (List Form) Fault) → ((f : Form) → Words limit names live (w ∷ rest) (f ∷ fs) r → after (n f) (Then rest fs) r)
      → (Words limit names live (words a ++ w ∷ rest) fs r → after (FormOfExpression limit names live a) (Then (w ∷ rest) fs) r) → Words limit names live ((words a ++ w ∷ []) ++ rest) fs r → after (after (FormOfExpression limit names live a) n) (Then rest fs) r
  by_word a w n rest fs r step before h =
      joined (FormOfExpression limit names live a) n (Then rest fs) r
      (after_like (FormOfExpression limit names live a) (Then (w ∷ rest) fs) (λ f. after (n f) (Then rest fs)) r step (before (rw (append_assoc (words a) (w ∷ []) rest) at h)))

  by_map : (a : Tree) (w : PolWord) (g : Form → Form) (rest : List PolWord) (fs : List Form) (r : Result (List Form) Fault) → ((f : Form) → Words limit names live (w ∷ rest) (f ∷ fs) r → after (gives (g f ∷ fs)) (Words limit names live rest) r)
      → (Words limit names live (words a ++ w ∷ rest) fs r → after (FormOfExpression limit names live a) (Then (w ∷ rest) fs) r) → Words limit names live ((words a ++ w ∷ []) ++ rest) fs r → after (after (FormOfExpression limit names live a) (λ f. gives (g f))) (Then rest fs) r
  by_map a w g rest fs r same before h =
      by_word a w (λ f. gives (g f)) rest fs r (λ f x. inl (g f, refl, after_given (g f ∷ fs) (Words limit names live rest) r (same f x))) before h

  as_tree : (t : Tree) (rest : List PolWord) (fs : List Form) (r : Result (List Form) Fault) → Words limit names live (words t ++ rest) fs r → after (FormOfExpression limit names live t) (Then rest fs) r
  as_tree (Constraint id) rest fs r (inl (gs, inl (f, p, e), h)) = let same : gs ≡ f ∷ fs = cc in inl (f, inl (f, p, refl), rw same at h)
  as_tree (Constraint id) rest fs r (inl (gs, inr (p, bad), h)) = absurd cc
  as_tree (Constraint id) rest fs r (inr (e, inl (f, p, bad), h)) = absurd cc
  as_tree (Constraint id) rest fs r (inr (e, inr (p, is), h)) = let same : e ≡ NoSuchId id = cc in inr (e, inr (p, ap (λ (d : Fault). Err d) same), h)
  as_tree (LiteralAxiom l) rest fs r h = inl (axiom_on (number_in names l.name) l.negated, refl, after_given (axiom_on (number_in names l.name) l.negated ∷ fs) (Words limit names live rest) r h)
  as_tree (Sum a b) rest fs r h =
      let split = rw (append_assoc (words a ++ words b) (Add ∷ []) rest, append_assoc (words a) (words b) (Add ∷ rest)) at h in
      joined (FormOfExpression limit names live a) (λ f. after {A = Form} (FormOfExpression limit names live b) (λ g. some (IsSum f g) (limited limit))) (Then rest fs) r
      (after_like (FormOfExpression limit names live a) (Then (words b ++ Add ∷ rest) fs) (λ f. after (after {A = Form} (FormOfExpression limit names live b) (λ g. some (IsSum f g) (limited limit))) (Then rest fs)) r
      (λ f left. joined (FormOfExpression limit names live b) (λ g. some (IsSum f g) (limited limit)) (Then rest fs) r
      (after_like (FormOfExpression limit names live b) (Then (Add ∷ rest) (f ∷ fs)) (λ g. after (some (IsSum f g) (limited limit)) (Then rest fs)) r
      (λ g right. some_joined (IsSum f g) (limited limit) (Then rest fs) r
      (summed f g right))
      (as_tree b (Add ∷ rest) (f ∷ fs) r left)))
      (as_tree a (words b ++ (Add ∷ rest)) fs r split))
    where
      summed : (f g : Form) → Words limit names live (Add ∷ rest) (g ∷ f ∷ fs) r → some (IsSum f g) (λ s. after (limited limit s) (Then rest fs)) r
      summed f g w =
          let one = after_some (IsSum f g) (λ s. after (limited limit s) (λ x. gives (x ∷ fs))) (Words limit names live rest) r w in
          (one.0, one.1, after_gives (limited limit one.0) (λ x. x ∷ fs) (Words limit names live rest) r one.2)
  as_tree (Product a k) rest fs r h =
      by_word a (Multiply k) (λ f. limited limit (multiplied (unsigned_abs k) f)) rest fs r
      (λ f w. after_gives (limited limit (multiplied (unsigned_abs k) f)) (λ x. x ∷ fs) (Words limit names live rest) r w) (λ w. as_tree a (Multiply k ∷ rest) fs r w) h
  as_tree (Quotient a k) rest fs r h = by_map a (Divide k) (divided (unsigned_abs k)) rest fs r (λ f w. w) (λ w. as_tree a (Divide k ∷ rest) fs r w) h
  as_tree (Saturation a) rest fs r h = by_map a Saturate saturated rest fs r (λ f w. w) (λ w. as_tree a (Saturate ∷ rest) fs r w) h
  as_tree (Weakening a name) rest fs r h = by_map a (Weaken name) (weakened (number_in names name)) rest fs r (λ f w. w) (λ w. as_tree a (Weaken name ∷ rest) fs r w) h

  -- the form that the words leave is that of their expression, and so is their fault
  pub tree-leaves : (t : Tree) (ws : List PolWord) (f : Form) → ws ≡ words t → Words limit names live ws [] (Ok (f ∷ [])) → FormOfExpression limit names live t (Ok f)
  tree-leaves t ws f e h = let left = as_tree t [] [] (Ok (f ∷ [])) (rw (append-nil (words t), ← e) h) in grind arith

  pub tree-fails : (t : Tree) (ws : List PolWord) (d : Fault) → ws ≡ words t → Words limit names live ws [] (Err d) → FormOfExpression limit names live t (Err d)
  tree-fails t ws d e h = let left = as_tree t [] [] (Err d) (rw (append-nil (words t), ← e) h) in grind arith

pub word_names-append : (xs ys : List PolWord) → word_names (xs ++ ys) ≡ word_names xs ++ word_names ys
word_names-append [] ys = refl
word_names-append (Axiom l ∷ xs) ys = ap (λ (ns : List (List ℕ)). l.name ∷ ns) (word_names-append xs ys)
word_names-append (Weaken name ∷ xs) ys = ap (λ (ns : List (List ℕ)). name ∷ ns) (word_names-append xs ys)
word_names-append (w ∷ xs) ys = word_names-append xs ys

pub next_names : (old names new : List (List ℕ)) (ws : List PolWord) (i : ℕ) (w : PolWord) → i < length ws → w ≡ get_or ws i w → names ≡ with_names old (word_names (take i ws)) → new ≡ with_names names (word_names (w ∷ []))
    → new ≡ with_names old (word_names (take (i + 1) ws))
next_names old names new ws i w lt e before k =
    let all : word_names (take (i + 1) ws) ≡ word_names (take i ws) ++ word_names (w ∷ []) =
    ap word_names (take_read ws i w w lt e) ∙ word_names-append (take i ws) (w ∷ []) in
    k ∙ ap (λ (ks : List (List ℕ)). with_names ks (word_names (w ∷ []))) before ∙ sym (in_turn old (word_names (take i ws)) (word_names (w ∷ []))) ∙ ap (with_names old) (sym all)

pub prefix_in : (old names new others : List (List ℕ)) → names ≡ with_names old others → new ≡ names
    → IsNamePrefix old new
prefix_in old names new others e k = let f = prefix old others in (f.0, k ∙ e ∙ f.1)

-- the state between two words
pub record Standing (limit top : ℕ) (names : List (List ℕ)) (live : List (Option Form)) (ws : List PolWord) (i : ℕ) (stack : List Form) : Type 0 where
  pub leaves : Leaves (length stack) (drop i ws)
  pub named : HasNames names (word_names (drop i ws))
  pub answers : (r : Result (List Form) Fault) → Words limit names live (drop i ws) (reverse stack) r → Words limit names live ws [] r

pub stands_first : (limit top : ℕ) (names : List (List ℕ)) (live : List (Option Form)) (ws : List PolWord) → IsPostfix ws → HasNames names (word_names ws) → Standing limit top names live ws 0 []
stands_first limit top names live ws postfix named = grind (arith, postfix.1, leaves-one, postfix.0)

rest_is : (ws : List PolWord) (i : ℕ) (w : PolWord) → i < length ws → w ≡ get_or ws i w → drop i ws ≡ w ∷ drop (i + 1) ws
rest_is ws i w lt e = drop_more ws i w lt ∙ ap (λ (x : PolWord). x ∷ drop (i + 1) ws) (sym e)

named_apart : (names : List (List ℕ)) (w : PolWord) (ws : List PolWord) → HasNames names (word_names (w ∷ ws)) → HasNames names (word_names (w ∷ [])) × HasNames names (word_names ws)
named_apart names (Axiom l) ws h = ((h.0, tt), h.1)
named_apart names (Weaken name) ws h = ((h.0, tt), h.1)
named_apart names w ws h = (tt, h)

module _ (limit top : ℕ) (names : List (List ℕ)) (live : List (Option Form)) (ws : List PolWord) (i : ℕ) (w : PolWord) (lt : i < length ws) (e : w ≡ get_or ws i w) (stack : List Form) (s : Standing limit top names live ws i stack) where
  pub word_takes : takes w ≤ length stack
  word_takes = let l = s.leaves in (rw (rest_is ws i w lt e) at l).0

  pub word_named : HasNames names (word_names (w ∷ []))
  word_named = let h = s.named in (named_apart names w (drop (i + 1) ws) (rw (rest_is ws i w lt e) at h)).0

  pub word_fails : (d : Fault) → Word limit names live w (reverse stack) (Err d) → Words limit names live ws [] (Err d)
  word_fails d h = s.answers (Err d) (rw (rest_is ws i w lt e) (inr (d, h, refl)))

  pub stands_next : (f : Form) (middle next : List Form) → Word limit names live w (reverse stack) (Ok (f ∷ reverse middle)) → length middle + takes w ≡ length stack → next ≡ middle ++ f ∷ []
      → Standing limit top names live ws (i + 1) next
  stands_next f middle next h count is = grind (arith, rest_is, s.leaves, s.named, s.answers, length-append, named_apart, last_first)

-- at the end
none_left : (fs gs : List Form) (f : Form) → fs ≡ gs ++ f ∷ [] → length fs ≡ 1 → gs ≡ []
none_left fs [] f e n = refl
none_left fs (g ∷ gs) f e n = absurd (omega (arith, ap length e, length-append gs (f ∷ []), n))

pub some_form : (limit top : ℕ) (names : List (List ℕ)) (live : List (Option Form)) (ws : List PolWord) (stack left : List Form) (f : Form) (i : ℕ) → IsPostfix ws → length ws ≤ i → Standing limit top names live ws i stack → stack ≡ left ++ f ∷ []
    → some (λ tree. ws ≡ words tree) (FormOfExpression limit names live) (Ok f)
some_form limit top names live ws stack left f i postfix le s is = grind (arith, drop_all, s.leaves, none_left, s.answers, last_first, postfix.0, postfix.1, tree-leaves)

pub some_fault : (limit : ℕ) (names : List (List ℕ)) (live : List (Option Form)) (ws : List PolWord) (d : Fault) → IsPostfix ws → Words limit names live ws [] (Err d) → some (λ tree. ws ≡ words tree) (FormOfExpression limit names live) (Err d)
some_fault limit names live ws d postfix h = (postfix.0, postfix.1, tree-fails limit names live postfix.0 ws d postfix.1 h)

module _ (limit : ℕ) (names : List (List ℕ)) (live : List (Option Form)) (within : (f : Form) → Live live f → IsInside (length names) f) where
  abbrev Inside : Entry → Type 0
  Inside t = t.variable < length names

  split : (xs ys : List PolWord) → HasNames names (word_names (xs ++ ys)) → HasNames names (word_names xs) × HasNames names (word_names ys)
  split xs ys h =
      names_split names (word_names xs) (word_names ys) (subst (λ (ns : List (List ℕ)). HasNames names ns) (word_names-append xs ys) h)

  form-inside : (t : Tree) (r : Form) → HasNames names (word_names (words t)) → HasForm limit names live t r → IsInside (length names) r
  form-inside _ _ h (constraint id f at) = within f (IsLive-live live id f at)
  form-inside _ _ h (literal l) =
      All-cons Inside (record { variable = number_in names l.name; negated = l.negated; coefficient = 1 }) [] (number_in-below names l.name h.0) (All-nil Inside)
  form-inside _ _ h (sum a b f g r x y is within) =
      let parts = split (words a) (words b) (split (words a ++ words b) (Add ∷ []) h).0 in
      let left = (IsOver-below (length names) f).1 (form-inside a f parts.0 x) in
      (IsOver-below (length names) r).0 (IsOver-sum (λ v. nat_lt v (length names)) f g r is left ((IsOver-below (length names) g).1 (form-inside b g parts.1 y)))
  form-inside _ _ h (product a k f x within) =
      All-map Inside (λ t. with_coefficient t (t.coefficient * unsigned_abs k)) f.terms (form-inside a f (split (words a) (Multiply k ∷ []) h).0 x)
  form-inside _ _ h (quotient a k f x) =
      All-map Inside (λ t. with_coefficient t (div_ceil t.coefficient (unsigned_abs k))) f.terms (form-inside a f (split (words a) (Divide k ∷ []) h).0 x)
  form-inside _ _ h (saturation a f x) =
      let before = form-inside a f (split (words a) (Saturate ∷ []) h).0 x in
      All-filter (λ t. nat_lt 0 t.coefficient) Inside (map (λ t. with_coefficient t (min t.coefficient f.degree)) f.terms) (All-map Inside (λ t. with_coefficient t (min t.coefficient f.degree)) f.terms before)
  form-inside _ _ h (weakening a name f x) =
      All-filter (λ t. not (t.variable == number_in names name)) Inside f.terms (form-inside a f (split (words a) (Weaken name ∷ []) h).0 x)

  pub tree-inside : (t : Tree) (r : Form) → HasNames names (word_names (words t)) → FormOfExpression limit names live t (Ok r) → IsInside (length names) r
  tree-inside t r h k = form-inside t r h (form-to limit names live t r k)
