-- A machine on the way through a statement, and what it reads after that. Offered to other crates.
use Rattle.pb_text.proofs.Common.{arith, ◌++◌, ◌∷◌, ◌≡◌, [], append-nil, append_assoc, false, List, refl, subst, sym, true, Automaton, End, Go, Next}
use Rattle.pb_text.proofs.Common.{ReadsStatement, Refuse, ◌⋅◌, Language, Letter}

module _ {S E : Type 0} (m : Automaton S E) where
  -- the letters lead from old to new, and none of them ends a statement
  abbrev pub Walks : S → List Letter → S → Type 0
  Walks old [] new = new ≡ old
  Walks old (l ∷ text) new =
      (mid : S) × (m.step old l.byte ≡ Go mid) × (m.begun mid ≡ true) × (l.numeral ≡ m.in_number mid) × Walks mid text new

  pub walks_then : (a b : List Letter) (s mid new : S) → Walks s a mid → Walks mid b new → Walks s (a ++ b) new
  walks_then [] b s mid new e h = subst (λ x. Walks x b new) e h
  walks_then (l ∷ a) b s mid new (next, g, i, n, w) h = (next, g, i, n, walks_then a b next mid new w h)

  pub walks_more : (a : List Letter) (l : Letter) (s mid new : S) → Walks s a mid → m.step mid l.byte ≡ Go new → m.begun new ≡ true
      → l.numeral ≡ m.in_number new → Walks s (a ++ l ∷ []) new
  walks_more a l s mid new w g i n = walks_then a (l ∷ []) s mid new w (new, g, i, n, refl)

  -- one letter prepended
  pub longer : (l : Letter) (t : List Letter) (s mid after : S) (e : E) → m.step s l.byte ≡ Go mid → m.begun mid ≡ true → l.numeral ≡ m.in_number mid
      → ReadsStatement m mid t e after → ReadsStatement m s (l ∷ t) e after
  longer l t s mid after e g i n r = grind arith

  pub reads_after : (a b : List Letter) (s mid after : S) (e : E) → Walks s a mid → ReadsStatement m mid b e after → ReadsStatement m s (a ++ b) e after
  reads_after [] b s mid after e h r = subst (λ x. ReadsStatement m x b e after) h r
  reads_after (l ∷ a) b s mid after e (next, g, i, n, w) r = longer l (a ++ b) s next after e g i n (reads_after a b next mid after e w r)

  pub ends_walk : (a : List Letter) (l : Letter) (s mid after : S) (e : E) → Walks s a mid → m.step mid l.byte ≡ End e after → l.numeral ≡ false
      → ReadsStatement m s (a ++ l ∷ []) e after
  ends_walk a l s mid after e w h n = reads_after a (l ∷ []) s mid after e w (h, n)

  -- the first letter leads to the same outcome from two states
  pub same_first : (l : Letter) (t : List Letter) (s s' after : S) (e : E) → m.step s l.byte ≡ m.step s' l.byte → ReadsStatement m s' (l ∷ t) e after → ReadsStatement m s (l ∷ t) e after
  same_first l t s s' after e h r = grind arith

  -- Each text of a language leads from old to new.
  abbrev pub Leads : S → Language → S → Type 0
  Leads old P new = (t : List Letter) → P t → Walks old t new

  pub leads_then : (P Q : Language) (s mid new : S) → Leads s P mid → Leads mid Q new → Leads s (P ⋅ Q) new
  leads_then P Q s mid new f g t (a, b, e, h, k) = subst (λ x. Walks s x new) (sym e) (walks_then a b s mid new (f a h) (g b k))

  -- What is known of the text before a state, if a text of `Prefix` leads to it, and of a whole text.
  module _ (Prefix : S → Language) (Whole : E → S → Language) where
    abbrev pub On : Next S E → Letter → Language
    On (Go s) l p = m.begun s ≡ true → l.numeral ≡ m.in_number s → Prefix s p
    On (End e s) l p = l.numeral ≡ false → Whole e s p
    On Refuse l p = Unit {0}

    abbrev pub Keeps : Type 0
    Keeps = (s : S) (l : Letter) (p : List Letter) → Prefix s p → On (m.step s l.byte) l (p ++ l ∷ [])

    pub reported : Keeps → (t : List Letter) (s : S) (p : List Letter) (e : E) (after : S) → ReadsStatement m s t e after → Prefix s p → Whole e after (p ++ t)
    reported k [] s p e after r f = absurd r
    reported k (l ∷ []) s p e after (h, n) f =
        let on : On (End e after) l (p ++ l ∷ []) = subst (λ x. On x l (p ++ l ∷ [])) h (k s l p f) in on n
    reported k (l ∷ d ∷ t) s p e after (mid, h, b, n, r) f =
        let on : On (Go mid) l (p ++ l ∷ []) = subst (λ x. On x l (p ++ l ∷ [])) h (k s l p f) in
        subst (λ x. Whole e after x) (append (d ∷ t)) (reported k (d ∷ t) mid (p ++ l ∷ []) e after r (on b n))
      where
        append : (u : List Letter) → (p ++ l ∷ []) ++ u ≡ p ++ l ∷ u
        append u = append_assoc p (l ∷ []) u

    -- what is known on the way
    pub prefixes_of : Keeps → (t : List Letter) (s : S) (p : List Letter) (new : S) → Walks s t new → Prefix s p → Prefix new (p ++ t)
    prefixes_of k [] s p new w f = subst (λ (x : List Letter). Prefix new x) (sym (append-nil p)) (subst (λ (x : S). Prefix x p) (sym w) f)
    prefixes_of k (l ∷ t) s p new (mid, h, b, n, w) f =
        let on : On (Go mid) l (p ++ l ∷ []) = subst (λ x. On x l (p ++ l ∷ [])) h (k s l p f) in
        subst (λ (x : List Letter). Prefix new x) (append_assoc p (l ∷ []) t) (prefixes_of k t mid (p ++ l ∷ []) new w (on b n))
