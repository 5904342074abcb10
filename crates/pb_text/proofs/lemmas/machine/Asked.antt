-- If an automaton may allocate, the next byte of any text is in a statement, at a position that may allocate. Offered to
-- other crates.
use Rattle.pb_text.proofs.Common.{ℕ, ◌++◌, ◌∙◌, ◌∷◌, ◌≡◌, ◌⊎◌, [], ap, append-nil, append_assoc, false, inl, inr, IsTrue, List, refl, arith, subst, sym, true}
use Rattle.pb_text.proofs.Common.{false≢true, AcceptsItems, Automaton, Go, Leads, ReadsStatement, SkipsGap, state_after, bytes, bytes_of, Item, Letter}
use Rattle.pb_text.proofs.lemmas.{machine.Walking.Walks, text.FirstBytes.head, text.FirstBytes.tail, text.Languages.bytes-append, text.Languages.bytes-plain}
use Rattle.{pb_text.proofs.lemmas.machine.Walking.walks_more, pb_text.specs.meaning.Asking.AsksWithin, std.proofs.lemmas.Option.same_Some}

no_byte : {A : Type 0} (used more : List ℕ) (b : ℕ) → [] ≡ used ++ b ∷ more → A
no_byte [] more b e = cc
no_byte (c ∷ used) more b e = cc

put : (b c : ℕ) (bs cs : List ℕ) → b ≡ c → bs ≡ cs → b ∷ bs ≡ c ∷ cs
put b c bs cs e f = rw (e, f) refl

item_bytes : {E : Type 0} (i : Item E) (rest : List (Item E)) → bytes_of (i ∷ rest) ≡ i.gap ++ (bytes i.text ++ bytes_of rest)
item_bytes i rest = grind (arith, bytes-append, i.gap, i.text, bytes-plain)

module _ {S E : Type 0} (m : Automaton S E) where
  -- What must be known of the automaton: of the states between statements, and of those within one.
  module _ (Idle : S → Type 0) (Asks : E → List ℕ → ℕ → Type 0) where
    pub record IsAsked : Type 0 where
      pub gaps : (s next : S) (b : ℕ) → Idle s → m.step s b ≡ Go next → m.begun next ≡ false → Idle next × (m.asks s b ≡ false)
      pub ends : (s next : S) (t : List Letter) (e : E) → Idle s → ReadsStatement m s t e next → Idle next
      pub texts : (at s next : S) (prefix rest : List Letter) (l : Letter) (e : E) → Idle at → Walks m at prefix s → ReadsStatement m s (l ∷ rest) e next
          → IsTrue (m.asks s l.byte) → Asks e (bytes prefix) l.byte

    module _ (known : IsAsked) (state : S) (b : ℕ) (more : List ℕ) (asks : IsTrue (m.asks state b)) where
      in_gap : (gap : List ℕ) (s at : S) (after_it used : List ℕ) → Idle s → SkipsGap m s gap at → Leads m s used state → gap ++ after_it ≡ used ++ b ∷ more
          → (left : List ℕ) × (used ≡ gap ++ left) × Leads m at left state × Idle at × (after_it ≡ left ++ b ∷ more)
      in_gap [] s at after_it used i k l e = (used, refl, subst (λ (x : S). Leads m x used state) (sym k) l, subst Idle (sym k) i, e)
      in_gap (c ∷ gap) s at after_it [] i (mid, g, o, k) l e =
          let no : m.asks s c ≡ false = (known.gaps s mid c i g o).1 in
          let yes : m.asks s c ≡ true = subst (λ (x : ℕ). m.asks s x ≡ true) (sym (head c b (gap ++ after_it) more e)) (subst (λ (x : S). m.asks x b ≡ true) l asks) in
          absurd (false≢true (sym no ∙ yes))
      in_gap (c ∷ gap) s at after_it (d ∷ used) i (mid, g, o, k) (next, f, l) e =
          let same : d ≡ c = sym (head c d (gap ++ after_it) (used ++ b ∷ more) e) in
          let one : next ≡ mid = same_Some next mid (sym f ∙ ap (state_after m) (ap (m.step s) same ∙ g)) in
          let r = in_gap gap mid at after_it used (known.gaps s mid c i g o).0 k (subst (λ (x : S). Leads m x used state) one l) (tail c d (gap ++ after_it) (used ++ b ∷ more) e) in
          (r.0, put d c used (gap ++ r.0) same r.1, r.2, r.3, r.4)

      -- the byte is in the text, or comes after it
      abbrev InText : List Letter → List ℕ → List ℕ → E → S → List ℕ → Type 0
      InText t before used e after after_it =
          ((later : List ℕ) × (bytes t ≡ used ++ b ∷ later) × Asks e (before ++ used) b)
          ⊎ ((left : List ℕ) × (used ≡ bytes t ++ left) × Leads m after left state × (after_it ≡ left ++ b ∷ more))

      here : (at cur after : S) (prefix rest : List Letter) (l : Letter) (e : E) → Idle at → Walks m at prefix cur → ReadsStatement m cur (l ∷ rest) e after → state ≡ cur → l.byte ≡ b
          → Asks e (bytes prefix ++ []) b
      here at cur after prefix rest l e i w r same byte = grind (arith, append-nil)

      moved : (t prefix : List Letter) (l : Letter) (d : ℕ) (used : List ℕ) (e : E) (after : S) (after_it : List ℕ) → d ≡ l.byte → InText t (bytes (prefix ++ l ∷ [])) used e after after_it
          → InText (l ∷ t) (bytes prefix) (d ∷ used) e after after_it
      moved t prefix l d used e after after_it same h = grind (arith, bytes-append, append_assoc, put)

      in_text : (t prefix : List Letter) (at cur after : S) (e : E) (after_it used : List ℕ) → Idle at → Walks m at prefix cur → ReadsStatement m cur t e after → Leads m cur used state
          → bytes t ++ after_it ≡ used ++ b ∷ more → InText t (bytes prefix) used e after after_it
      in_text [] prefix at cur after e after_it used i w r l q = absurd r
      in_text (l ∷ []) prefix at cur after e after_it [] i w r lead q =
          let byte : l.byte ≡ b = head l.byte b after_it more q in
          inl ([], ap (λ (x : ℕ). x ∷ []) byte, here at cur after prefix [] l e i w r lead byte)
      in_text (l ∷ []) prefix at cur after e after_it (d ∷ used) i w (g, n) (next, f, lead) q = grind (arith, head, same_Some, put, tail)
      in_text (l ∷ k ∷ t) prefix at cur after e after_it [] i w r lead q =
          let byte : l.byte ≡ b = head l.byte b (bytes (k ∷ t) ++ after_it) more q in
          inl (bytes (k ∷ t), put l.byte b (bytes (k ∷ t)) (bytes (k ∷ t)) byte refl, here at cur after prefix (k ∷ t) l e i w r lead byte)
      in_text (l ∷ k ∷ t) prefix at cur after e after_it (d ∷ used) i w (mid, g, o, n, r) (next, f, lead) q =
          let same : d ≡ l.byte = sym (head l.byte d (bytes (k ∷ t) ++ after_it) (used ++ b ∷ more) q) in
          let one : next ≡ mid = same_Some next mid (sym f ∙ ap (state_after m) (ap (m.step cur) same ∙ g)) in
          moved (k ∷ t) prefix l d used e after after_it same
          (in_text (k ∷ t) (prefix ++ l ∷ []) at mid after e after_it used i (walks_more m prefix l at cur mid w g o n) r (subst (λ (x : S). Leads m x used state) one lead)
          (tail l.byte d (bytes (k ∷ t) ++ after_it) (used ++ b ∷ more) q))

      first_item : (i : Item E) (rest : List (Item E)) (used left : List ℕ) (after : S) → used ≡ i.gap ++ left → InText i.text [] left i.event after (bytes_of rest)
          → ((after_it : List ℕ) → Leads m after after_it state → bytes_of rest ≡ after_it ++ b ∷ more → AsksWithin Asks rest after_it b) → AsksWithin Asks (i ∷ rest) used b
      first_item i rest used left after e (inl (later, h, a)) further =
          record { done = []; item = i; rest = rest; text = left; more = later; items_are = refl; used_are = e; text_is = h; asks = a }
      first_item i rest used left after e (inr (after_it, h, k, j)) further =
          let w = further after_it k j in
          record {
            done = i ∷ w.done;
            item = w.item;
            rest = w.rest;
            text = w.text;
            more = w.more;
            items_are = ap (λ (x : List (Item E)). i ∷ x) w.items_are;
            used_are =
                e
                ∙ (ap (λ (x : List ℕ). i.gap ++ x) (h ∙ (ap (λ (x : List ℕ). bytes i.text ++ x) w.used_are ∙ sym (append_assoc (bytes i.text) (bytes_of w.done) (w.item.gap ++ w.text))))
                ∙ (sym (append_assoc i.gap (bytes i.text ++ bytes_of w.done) (w.item.gap ++ w.text)) ∙ ap (λ (x : List ℕ). x ++ (w.item.gap ++ w.text)) (sym (item_bytes i w.done))));
            text_is = w.text_is;
            asks = w.asks;
          }

      asked : (items : List (Item E)) (s : S) (used : List ℕ) → Idle s → AcceptsItems m s items → Leads m s used state → bytes_of items ≡ used ++ b ∷ more → AsksWithin Asks items used b
      asked [] s used i a l e = no_byte used more b e
      asked (j ∷ rest) s used i (at, after, k, r, a) l e =
          let g = in_gap j.gap s at (bytes j.text ++ bytes_of rest) used i k l (sym (item_bytes j rest) ∙ e) in
          let t = in_text j.text [] at at after j.event (bytes_of rest) g.0 g.3 refl r g.2 g.4 in
          first_item j rest used g.0 after g.1 t (λ after_it x y. asked rest after after_it (known.ends at after j.text j.event g.3 r) a x y)

    -- after these bytes of what a state accepts
    pub asks_within : IsAsked → (start : S) (used : List ℕ) (b : ℕ) → Idle start → (state : S) → Leads m start used state → IsTrue (m.asks state b)
        → (items : List (Item E)) (more : List ℕ) → AcceptsItems m start items → bytes_of items ≡ used ++ b ∷ more → AsksWithin Asks items used b
    asks_within known start used b i state l a items more h e = asked known state b more a items start used i h l e
