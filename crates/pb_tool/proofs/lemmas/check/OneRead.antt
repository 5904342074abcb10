-- The same bytes are read in one way. Offered to other crates.
use Rattle.pb_tool.proofs.Common.{ℕ, ◌++◌, ◌<◌, ◌∙◌, ◌∷◌, ◌≡◌, ◌≢◌, ◌≤◌, ◌⊎◌, [], ap, append-nil, append_assoc, arith, Bool, false, inl, inr, length, IsOfText}
use Rattle.pb_tool.proofs.Common.{length-append, List, nat_le, None, Option, refl, rules, subst, sym, true, leb_tells, append_cancel_left, bytes-append}
use Rattle.pb_tool.proofs.Common.{bytes-plain, place_after-offset, Place, Spanned, Why, Byte, TooLarge, TooLong, AreShort, byte_limit, ended_within, Explains}
use Rattle.pb_tool.proofs.Common.{HasFixedSpans, IsBad, IsFull, IsPrefix, IsSpelled, IsUnderWay, Overruns, Reads, bytes, bytes_of, Item, spans_of, spans_since}
use Rattle.std.proofs.lemmas.{Bool.Decides.nat_tests, Grind.common_steps}

pub some_left : (left : List ℕ) → left ≢ [] → 0 < length left
some_left left h = grind (arith, common_steps)

-- only the empty text is a prefix of the empty text
pub no_prefix : (a b : List ℕ) → a ++ b ≡ [] → a ≡ []
no_prefix [] b e = refl
no_prefix (x ∷ a) b e = absurd (cc e)

-- a text begins with another one, or that one is longer
abbrev pub Compared : List ℕ → List ℕ → Type 0
Compared a c = ((m : List ℕ) × (c ≡ a ++ m)) ⊎ ((x : ℕ) × (m : List ℕ) × (a ≡ c ++ x ∷ m))

pub two_prefixes : (a b c d : List ℕ) → a ++ b ≡ c ++ d → Compared a c
two_prefixes [] b c d e = inl (c, refl)
two_prefixes (x ∷ a) b [] d e = inr (x, a, refl)
two_prefixes (x ∷ a) b (y ∷ c) d e = one_longer (two_prefixes a b c d (let rest : a ++ b ≡ c ++ d = cc in rest))
  where
    one_longer : Compared a c → Compared (x ∷ a) (y ∷ c)
    one_longer (inl (m, p)) = inl (m, cc)
    one_longer (inr (z, m, p)) = inr (z, m, cc)

module _ (a b c d : List ℕ) (e : a ++ b ≡ c ++ d) where
  -- what follows the first, if the second is the first and then this
  pub after_prefix : (m : List ℕ) → c ≡ a ++ m → b ≡ m ++ d
  after_prefix m p = append_cancel_left a b (m ++ d) (e ∙ (ap (λ (y : List ℕ). y ++ d) p ∙ append_assoc a m d))

  -- what follows two equal prefixes
  pub same_rest : a ≡ c → b ≡ d
  same_rest p = append_cancel_left a b d (e ∙ ap (λ (y : List ℕ). y ++ d) (sym p))

  -- the second begins with the first, if the first is not longer
  pub begins_with : ((x : ℕ) (m : List ℕ) → a ≡ c ++ x ∷ m → ⊥) → (m : List ℕ) × (c ≡ a ++ m)
  begins_with not_longer = by (two_prefixes a b c d e)
    where
      by : Compared a c → (m : List ℕ) × (c ≡ a ++ m)
      by (inl h) = h
      by (inr (x, m, p)) = absurd (not_longer x m p)

  -- they are equal, if neither is longer
  pub one_prefix : ((x : ℕ) (m : List ℕ) → c ≡ a ++ x ∷ m → ⊥) → ((x : ℕ) (m : List ℕ) → a ≡ c ++ x ∷ m → ⊥) → a ≡ c
  one_prefix not_shorter not_longer = by (begins_with not_longer)
    where
      by : (m : List ℕ) × (c ≡ a ++ m) → a ≡ c
      by ([], p) = grind (arith, append-nil)
      by (x ∷ m, p) = absurd (not_shorter x m p)

-- ---- spans within prefixes

module _ {E : Type 0} where
  -- one list of spans begins with the other
  abbrev pub Begins : List (Spanned E) → List (Spanned E) → Type 0
  Begins leading all = (more : List (Spanned E)) × (all ≡ leading ++ more)

  -- a text does not end a statement that follows it
  none_within : (n : ℕ) (first : Option Place) (before : List ℕ) (items : List (Item E)) → n < length before → ended_within n (spans_since first before items) ≡ []
  none_within n first before [] h = refl
  none_within n first before (i ∷ items) h =
      grind (arith, nat_tests, place_after-offset, length-append, none_within n None (before ++ (i.gap ++ bytes i.text)) items)

  first_begins : (n k : ℕ) (m : Spanned E) (spans : List (Spanned E)) → n ≤ k → (n < m.past.offset → ended_within n spans ≡ []) → Begins (ended_within n spans) (ended_within k spans) → Begins (ended_within n (m ∷ spans)) (ended_within k (m ∷ spans))
  first_begins n k m spans le none (more, e) = by (leb_tells m.past.offset n)
    where
      by : ((nat_le m.past.offset n ≡ true) × (m.past.offset ≤ n)) ⊎ ((nat_le m.past.offset n ≡ false) × (n < m.past.offset)) → Begins (ended_within n (m ∷ spans)) (ended_within k (m ∷ spans))
      by (inl (t, h)) = (more, grind (arith, nat_tests))
      by (inr (t, h)) = (ended_within k (m ∷ spans), grind (arith, nat_tests, none))

  -- the statements that end in a prefix begin those that end in a longer one
  prefix : (n k : ℕ) (first : Option Place) (before : List ℕ) (items : List (Item E)) → n ≤ k → Begins (ended_within n (spans_since first before items)) (ended_within k (spans_since first before items))
  prefix n k first before [] le = ([], refl)
  prefix n k first before (i ∷ items) le =
      first_begins n k _ (spans_since None (before ++ (i.gap ++ bytes i.text)) items) le
      (λ h. none_within n None (before ++ (i.gap ++ bytes i.text)) items (omega (arith, h, place_after-offset (before ++ (i.gap ++ bytes i.text)))))
      (prefix n k None (before ++ (i.gap ++ bytes i.text)) items le)

  one_length : (i : Item E) (items : List (Item E)) (before : List ℕ) → length (before ++ bytes_of (i ∷ items)) ≡ length ((before ++ (i.gap ++ bytes i.text)) ++ bytes_of items)
  one_length i items before = simp (bytes-append, bytes-plain, append_assoc)

  -- a whole text ends all its statements
  all_within : (n : ℕ) (first : Option Place) (before : List ℕ) (items : List (Item E)) → length (before ++ bytes_of items) ≤ n → ended_within n (spans_since first before items) ≡ spans_since first before items
  all_within n first before [] h = refl
  all_within n first before (i ∷ items) h =
      grind (arith, nat_tests, one_length i items before, place_after-offset, length-append, all_within n None (before ++ (i.gap ++ bytes i.text)) items)

  -- a statement with longest bytes in a prefix that ends after that prefix has more bytes in a longer one
  overrun : (longest n k : ℕ) (spans : List (Spanned E)) → n < k → Overruns longest n spans → AreShort longest k spans → ⊥
  overrun longest n k [] lt o s = o
  overrun longest n k (m ∷ spans) lt o s = grind (arith, overrun longest n k spans)

-- ---- a format in which a text has one value, and none is a prefix of another

abbrev pub OneSpelling : {E : Type 0} → (List (Item E) → Type 0) → Type 0
OneSpelling {E} format = (items items' : List (Item E)) → format items → format items' → bytes_of items ≡ bytes_of items' → items ≡ items'

abbrev pub NoneGoesOn : {E : Type 0} → (List (Item E) → Type 0) → Type 0
NoneGoesOn {E} format = (items items' : List (Item E)) (more : List ℕ) → format items → format items' → bytes_of items' ≡ bytes_of items ++ more → more ≡ []

-- of two texts of the format in one text, neither is longer
module _ {E : Type 0} (format : List (Item E) → Type 0) (leading : NoneGoesOn format) where
  no_longer : (used used' : List ℕ) (items items' : List (Item E)) → format items → format items' → bytes_of items ≡ used → bytes_of items' ≡ used' → (x : ℕ) (m : List ℕ) → used' ≡ used ++ x ∷ m → ⊥
  no_longer used used' items items' h h' are are' x m p = grind (arith, leading items items' (x ∷ m))

  pub one_spelt : (used left used' left' : List ℕ) (items items' : List (Item E)) → used ++ left ≡ used' ++ left' → format items → format items' → bytes_of items ≡ used → bytes_of items' ≡ used' → used ≡ used'
  one_spelt used left used' left' items items' e h h' are are' = one_prefix used left used' left' e (no_longer used used' items items' h h' are are') (no_longer used' used items' items h' h are' are)

module _ {E : Type 0} (format : List (Item E) → Type 0) (longest : ℕ) where
  -- a prefix of a text of the format with its spans, with no limit exceeded
  pub record Reached (used : List ℕ) (spans : List (Spanned E)) : Type 0 where
    pub items : List (Item E)
    pub is : format items
    pub more : List ℕ
    pub begins : bytes_of items ≡ used ++ more
    pub spans_are : ended_within (length used) (spans_of items) ≡ spans
    pub within : length used ≤ byte_limit
    pub short : AreShort longest (length used) (spans_of items)

  pub spelling_reached : (used : List ℕ) (spans : List (Spanned E)) → IsSpelled format longest used spans → Reached used spans
  spelling_reached used spans s =
      let begins : bytes_of s.items ≡ used ++ [] = s.used_are ∙ sym (append-nil used) in
      let all = all_within (length used) None [] s.items (omega (arith, ap (λ (x : List ℕ). length x) s.used_are)) ∙ sym s.spans_are in
      let short = subst (λ (x : List (Spanned E)). AreShort longest (length used) x) s.spans_are s.short in search rules

  pub way_reached : (used : List ℕ) (spans : List (Spanned E)) → IsUnderWay format longest used spans → Reached used spans
  way_reached used spans u =
      let (items, is, begins) = u.viable in
      record { items = items; is = is; more = begins.0; begins = begins.1; spans_are = u.seen items is begins; within = u.within; short = u.short items is begins }

  -- ---- nothing is read after a stop
  module _ (used left used' left' : List ℕ) (spans' : List (Spanned E)) (input_is : used ++ left ≡ used' ++ left') (r : Reached used' spans') where
    next : (x : ℕ) (m : List ℕ) → used' ≡ used ++ x ∷ m → left ≡ x ∷ (m ++ left')
    next x m p = after_prefix used left used' left' input_is (x ∷ m) p

    not_bad : (b : ℕ) (more : List ℕ) → left ≡ b ∷ more → IsBad format longest used b → (x : ℕ) (m : List ℕ) → used' ≡ used ++ x ∷ m → ⊥
    not_bad b more e bad x m p =
        let same : x ≡ b = let k = next x m p in cc in bad.refused (r.items, r.is, (m ++ r.more, grind (arith, r.begins, append_assoc)))

    not_full : IsFull format longest used → (x : ℕ) (m : List ℕ) → used' ≡ used ++ x ∷ m → ⊥
    not_full (inl e) x m p = grind (arith, r.within, length-append)
    not_full (inr over) x m p = grind (arith, overrun, length-append, over, r.is, r.begins, r.short, append_assoc)

    no_further : (why : Why) → IsOfText why → Explains format longest used left why → (x : ℕ) (m : List ℕ) → used' ≡ used ++ x ∷ m → ⊥
    no_further (Byte b) d (more, e, bad, number) x m p = not_bad b more e bad x m p
    no_further TooLarge d (b, more, e, bad, digit, number) x m p = not_bad b more e bad x m p
    no_further TooLong d (some, full) x m p = not_full full x m p
    no_further why d h x m p = grind (arith, next)

    -- what was reached of the text begins the used bytes
    pub reached_before : (why : Why) → IsOfText why → Explains format longest used left why → (m : List ℕ) × (used ≡ used' ++ m)
    reached_before why d h = begins_with used' left' used left (sym input_is) (no_further why d h)

  -- ---- two stops
  module _ (used left : List ℕ) where
    one_why : (why why' : Why) → IsOfText why → IsOfText why' → Explains format longest used left why → Explains format longest used left why' → why ≡ why'
    one_why TooLarge TooLarge d d' h h' = refl
    one_why why why' d d' h h' = grind arith

  pub one_stop : (used left used' left' : List ℕ) (spans spans' : List (Spanned E)) (why why' : Why) → used ++ left ≡ used' ++ left' → IsUnderWay format longest used spans → IsOfText why → Explains format longest used left why
      → IsUnderWay format longest used' spans' → IsOfText why' → Explains format longest used' left' why' → (used ≡ used') × (why ≡ why')
  one_stop used left used' left' spans spans' why why' e u d x u' d' x' =
      let same : used ≡ used' =
      one_prefix used left used' left' e (no_further used left used' left' spans' e (way_reached used' spans' u') why d x) (no_further used' left' used left spans (sym e) (way_reached used spans u) why' d' x') in
      let rest : left ≡ left' = same_rest used left used' left' e same in
      (same, one_why used left why why' d d' x (subst (λ (y : List ℕ). Explains format longest used y why') (sym rest) (subst (λ (y : List ℕ). Explains format longest y left' why') (sym same) x')))

  -- ---- a text of the format is not rejected
  module _ (used left used' left' : List ℕ) (spans spans' : List (Spanned E)) (e : used ++ left ≡ used' ++ left') (u : IsUnderWay format longest used spans) (s : IsSpelled format longest used' spans') where
    not_beyond : (m : List ℕ) → used ≡ used' ++ m → ⊥
    not_beyond m p = u.unfinished s.items s.spelled (m, rw s.used_are p)

    pub not_both : (why : Why) → IsOfText why → Explains format longest used left why → ⊥
    not_both why d x = let (m, p) = reached_before used left used' left' spans' e (spelling_reached used' spans' s) why d x in not_beyond m p

    -- and a text that was read so far is a prefix of it
    pub way_before : (m : List ℕ) × (used' ≡ used ++ m)
    way_before = begins_with used left used' left' e (λ y m p. not_beyond (y ∷ m) p)

  module _ (one : OneSpelling format) (leading : NoneGoesOn format) where
    pub one_spelled : (used left used' left' : List ℕ) (spans spans' : List (Spanned E)) → used ++ left ≡ used' ++ left' → (s : IsSpelled format longest used spans) → (s' : IsSpelled format longest used' spans') → (used ≡ used') × (s.items ≡ s'.items)
    one_spelled used left used' left' spans spans' e s s' =
        let same : used ≡ used' = one_spelt format leading used left used' left' s.items s'.items e s.spelled s'.spelled s.used_are s'.used_are in
        (same, one s.items s'.items s.spelled s'.spelled (s.used_are ∙ (same ∙ sym s'.used_are)))

    -- what was read so far of an input that begins with a text of the format is a prefix of that text
    pub so_far_before : (used left used' left' : List ℕ) (spans spans' : List (Spanned E)) (input : List ℕ) (place : Place) (done : Bool) → used ++ left ≡ used' ++ left' → Reads format longest input used spans place done None → IsSpelled format longest used' spans' → (m : List ℕ) × (used' ≡ used ++ m)
    so_far_before used left used' left' spans spans' input place true e r s = ([], sym (one_spelled used left used' left' spans spans' e r.answer.0 s).0 ∙ sym (append-nil used))
    so_far_before used left used' left' spans spans' input place false e r s = way_before used left used' left' spans spans' e r.answer.0 s

  pub so_far_reached : (input used : List ℕ) (spans : List (Spanned E)) (place : Place) (done : Bool) → Reads format longest input used spans place done None → Reached used spans
  so_far_reached input used spans place true r = spelling_reached used spans r.answer.0
  so_far_reached input used spans place false r = way_reached used spans r.answer.0

  -- the spans of a prefix begin those of a longer one
  pub spans_begin : HasFixedSpans format → (used used' m : List ℕ) (spans spans' : List (Spanned E)) → used' ≡ used ++ m → Reached used spans → Reached used' spans' → Begins spans spans'
  spans_begin fixed used used' m spans spans' p r r' =
      let here : IsPrefix used (bytes_of r'.items) = (m ++ r'.more, r'.begins ∙ (ap (λ (y : List ℕ). y ++ r'.more) p ∙ append_assoc used m r'.more)) in
      let same : ended_within (length used) (spans_of r'.items) ≡ spans = sym (fixed used r.items r'.items r.is r'.is (r.more, r.begins) here) ∙ r.spans_are in
      let (more, is) = prefix (length used) (length used') None [] r'.items (omega (arith, ap (λ (y : List ℕ). length y) p, length-append used m)) in
      (more, sym r'.spans_are ∙ (is ∙ ap (λ (x : List (Spanned E)). x ++ more) same))
