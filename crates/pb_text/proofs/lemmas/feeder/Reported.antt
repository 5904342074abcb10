-- What a state with `Stands` for its text says is what a read of the text must give, however the text is cut.
use Rattle.pb_text.proofs.Common.{ℕ, ◌++◌, ◌<◌, ◌∙◌, ◌∷◌, ◌≡◌, ◌≤◌, ◌⊎◌, [], ap, append-nil, append_assoc, arith, eq-or-lt_of_le, inl, inr, length}
use Rattle.pb_text.proofs.Common.{length-append, List, Option, refl, subst, sym, take, take-length, append_cancel_left, take-append-le, EndBy, Follows}
use Rattle.pb_text.proofs.Common.{IsJoined, Place, Spanned, bytes, bytes_of, Item, Letter, letters_of, plain, spans_since, ◌+◌, ◌-◌, ◌≢◌, Bool, cond, IsTrue}
use Rattle.pb_text.proofs.Common.{le-leb, nat_le, None, Some, take-append_seam, lt-leb, nil_from_length, end_of, AreSeen, AreShort, ended_within, EndsInNumber}
use Rattle.pb_text.proofs.Common.{IsBad, Refuse, HasNoSpelling, HasOpen, IsFull, IsPrefix, IsShort, IsUnderWay, last_numeral, open_bytes, Overruns, Viable}
use Rattle.pb_text.proofs.Common.{place_after, place_or, false, true, false≢true, AcceptsItems, Admits, Automaton, Halts, Stands, Waits, Stop, Why, Byte, Ended}
use Rattle.pb_text.proofs.Common.{Memory, Read, TooLarge, TooLong, SpentSince, is_digit, Answers, Explains, Reads, Err, Ok, Result, subst₂, bytes_fed, Feeds}
use Rattle.pb_text.proofs.Common.{input_fed, is_complete, NoneStopped, spans_answered, spans_fed, StandsAt, used_by, IsOpen, IsUnread, Feeder, Ghosts, is_some}
use Rattle.pb_text.proofs.lemmas.machine.Residual.{Takes, IsResidual, Refuses, residual, refuses}
use Rattle.pb_text.proofs.lemmas.text.{Booleans.of_both, Languages.bytes-append, Lists.length-bytes, Lists.Advances, Short.begun_bytes, Short.open-ended}
use Rattle.pb_text.proofs.lemmas.text.Short.{end_limit, place_after-offset, AreShort-append, since_short, Overruns-append, Overruns-split, since_fits}
use Rattle.{pb_text.specs.declared.feeder.Fed.Fed, std.proofs.lemmas.List.Elements.filter-append, std.specs.Cmp.Derive.both_true}

pub EndBy-append : {E : Type 0} (n m : ℕ) (a b : List (Spanned E)) → EndBy n a → n ≤ m → EndBy m b → EndBy m (a ++ b)
EndBy-append n m [] b h le k = k
EndBy-append n m (x ∷ a) b h le k = (omega (arith, h.0), EndBy-append n m a b h.1 le k)

-- if no letter follows, nothing follows
pub no_letters : {E : Type 0} (rest : List (Item E) → Type 0) → IsResidual rest → (later : List (Item E)) → rest later → length (letters_of later) ≡ 0 → later ≡ []
no_letters rest state [] r e = refl
no_letters rest state (i ∷ items) r e =
    let some : i.text ≡ [] = no_text i.text (letters_of items) (plain i.gap) e in absurd (state.texts i items r some)
  where
    no_text : (t r g : List Letter) → length (g ++ (t ++ r)) ≡ 0 → t ≡ []
    no_text [] r g e = refl
    no_text (x ∷ t) r g e = absurd (omega (arith, length-append g (x ∷ (t ++ r))))

-- spans that have ended remain
ended_stay : {E : Type 0} (n : ℕ) (spans : List (Spanned E)) → EndBy n spans → ended_within n spans ≡ spans
ended_stay n [] h = refl
ended_stay n (m ∷ spans) h = grind (arith, le-leb, ended_stay n spans h.1)

go_first : {E : Type 0} (n : ℕ) (m : Spanned E) (spans : List (Spanned E)) → n < m.past.offset → ended_within n spans ≡ [] → ended_within n (m ∷ spans) ≡ []
go_first n m spans h e = grind (arith, lt-leb)

past_text : (before gap : List ℕ) (text : List Letter) → (place_after (before ++ (gap ++ bytes text))).offset ≡ length before + (length gap + length text)
past_text before gap text = grind (arith, place_after-offset, length-append, length-bytes)

-- spans after the text are left out
later_go : {E : Type 0} (n : ℕ) (first : Option Place) (before : List ℕ) (later : List (Item E)) → n < length before → ended_within n (spans_since first before later) ≡ []
later_go n first before [] h = refl
later_go n first before (i ∷ rest) h =
    go_first n _ (spans_since None (before ++ (i.gap ++ bytes i.text)) rest) (omega (arith, past_text before i.gap i.text))
    (later_go n None (before ++ (i.gap ++ bytes i.text)) rest (omega (arith, length-append before (i.gap ++ bytes i.text))))

has_length : (text : List Letter) → text ≢ [] → 0 < length text
has_length [] h = absurd (h refl)
has_length (l ∷ text) h = omega arith

pub not_ended : {E : Type 0} (rest : List (Item E) → Type 0) → ((i : Item E) (later : List (Item E)) → rest (i ∷ later) → i.text ≢ []) → (first : Option Place) (before : List ℕ) (later : List (Item E)) → rest later → ended_within (length before) (spans_since first before later) ≡ []
not_ended rest texts first before [] r = refl
not_ended rest texts first before (i ∷ items) r =
    let some : 0 < length i.text = has_length i.text (texts i items r) in
    let e : (place_after (before ++ (i.gap ++ bytes i.text))).offset ≡ length before + (length i.gap + length i.text) = past_text before i.gap i.text in
    let longer : length before < length (before ++ (i.gap ++ bytes i.text)) = omega (arith, length-append before (i.gap ++ bytes i.text), length-append i.gap (bytes i.text), length-bytes i.text) in
    go_first (length before) _ (spans_since None (before ++ (i.gap ++ bytes i.text)) items) (omega (arith, e))
    (later_go (length before) None (before ++ (i.gap ++ bytes i.text)) items longer)

module _ {E : Type 0} {format rest : List (Item E) → Type 0} {letters : List Letter} {spans : List (Spanned E)} {first : Option Place}
    (follows : Follows format rest letters spans first) (state : IsResidual rest) where
  -- if these bytes are a text of the format, nothing must follow them
  pub spelled_is_done : (items : List (Item E)) → format items → bytes_of items ≡ bytes letters → rest []
  spelled_is_done items f e =
      let o = follows.onto items f ([], e ∙ sym (append-nil (bytes letters))) in
      let n : length (letters_of items) ≡ length letters = sym (length-bytes (letters_of items)) ∙ (ap length e ∙ length-bytes letters) in
      let m : length (letters_of o.0) ≡ 0 = omega (arith, n, ap length o.2.letters_are, length-append letters (letters_of o.0)) in
      subst rest (no_letters rest state o.0 o.1 m) o.1

  pub bytes_joined : (later items : List (Item E)) → letters_of items ≡ letters ++ letters_of later → bytes_of items ≡ bytes letters ++ bytes_of later
  bytes_joined later items e = ap bytes e ∙ bytes-append letters (letters_of later)

  pub is_viable : Viable format (bytes letters)
  is_viable =
      let past = follows.into state.live.0 state.live.1 in
      (past.0, past.1, (bytes_of state.live.0, bytes_joined state.live.0 past.0 past.2.letters_are))

  pub are_seen : AreSeen format (bytes letters) spans
  are_seen items f prefix =
      let o = follows.onto items f prefix in
      let n : ℕ = length (bytes letters) in
      let here : EndBy n spans = subst (λ (k : ℕ). EndBy k spans) (sym (length-bytes letters)) follows.ended in
      ap (ended_within n) o.2.spans_are ∙ (filter-append (λ (m : Spanned E). nat_le m.past.offset n) spans (spans_since first (bytes letters) o.0)
      ∙ (ap (λ (x : List (Spanned E)). ended_within n spans ++ x) (not_ended rest state.texts first (bytes letters) o.0 o.1) ∙ (append-nil (ended_within n spans) ∙ ended_stay n spans here)))

  sooner : (items : List (Item E)) → format items → (t : List ℕ) → bytes letters ≡ bytes_of items ++ t → (length (bytes_of items) ≡ length letters) ⊎ (length (bytes_of items) < length letters) → rest []
  sooner items f t e (inl n) =
      let none : length t ≡ 0 = omega (arith, ap length e, length-append (bytes_of items) t, length-bytes letters) in
      spelled_is_done items f (sym (e ∙ (ap (λ (x : List ℕ). bytes_of items ++ x) (nil_from_length t none) ∙ append-nil (bytes_of items))))
  sooner items f t e (inr n) =
      absurd (follows.alone (length (bytes_of items)) n items f (sym (ap (take (length (bytes_of items))) e ∙ take-append_seam (bytes_of items) t)))

  pub is_unfinished : (rest [] → ⊥) → HasNoSpelling format (bytes letters)
  is_unfinished never items f prefix = grind (arith, sooner, eq-or-lt_of_le, length-append, length-bytes)

  pub is_refused : (b : ℕ) → Refuses rest b → Viable format (bytes letters ++ b ∷ []) → ⊥
  is_refused b never (items, f, prefix) =
      let e : bytes_of items ≡ bytes letters ++ (b ∷ prefix.0) = prefix.1 ∙ append_assoc (bytes letters) (b ∷ []) prefix.0 in
      let o = follows.onto items f (b ∷ prefix.0, e) in
      never o.0 o.1 (prefix.0, append_cancel_left (bytes letters) (bytes_of o.0) (b ∷ prefix.0) (sym (bytes_joined o.0 items o.2.letters_are) ∙ e))

  last_of : (items : List (Item E)) → format items → IsPrefix (bytes letters) (bytes_of items) → last_numeral (take (length (bytes letters)) (letters_of items)) ≡ last_numeral letters
  last_of items f prefix = grind (arith, length-bytes, take-append_seam)

  pub ends_in_number : IsTrue (last_numeral letters) → EndsInNumber format (bytes letters)
  ends_in_number h items f prefix = subst IsTrue (sym (last_of items f prefix)) h

  pub in_number_ends : EndsInNumber format (bytes letters) → IsTrue (last_numeral letters)
  in_number_ends h = subst IsTrue (last_of is_viable.0 is_viable.1 is_viable.2) (h is_viable.0 is_viable.1 is_viable.2)

  module _ (longest : ℕ) where
    pub is_short : AreShort longest (length letters) spans → length letters ≤ end_of longest first → IsShort format longest (bytes letters)
    is_short h le items f prefix = grind (arith, length-bytes, AreShort-append, since_short)

    pub has_room : 0 < longest → length letters < end_of longest first → IsFull format longest (bytes letters) → ⊥
    has_room some lt (inl e) = omega (arith, e, length-bytes letters, end_limit longest first)
    has_room some lt (inr full) =
        let v = is_viable in
        let o = follows.onto v.0 v.1 v.2 in
        let n : length (bytes letters) ≡ length letters = length-bytes letters in
        let lt' : length (bytes letters) < end_of longest first = omega (arith, n) in
        let over : Overruns longest (length (bytes letters)) (spans ++ spans_since first (bytes letters) o.0) = subst (λ (x : List (Spanned E)). Overruns longest (length (bytes letters)) x) o.2.spans_are (full v.0 v.1 v.2) in
        since_fits longest some first (bytes letters) o.0 lt' (Overruns-split longest (length (bytes letters)) spans (spans_since first (bytes letters) o.0) (subst (λ (k : ℕ). EndBy k spans) (sym n) follows.ended) over)

    -- a statement that has begun continues past the end of what was read
    runs_on : (p : Place) → length (bytes letters) ≡ p.offset + longest → (later : List (Item E)) → rest later → (rest [] → ⊥) → Overruns longest (length (bytes letters)) (spans_since (Some p) (bytes letters) later)
    runs_on p e [] r never = absurd (never r)
    runs_on p e (i ∷ items) r never =
        let some : 0 < length i.text = has_length i.text (state.texts i items r) in
        inl (sym e, omega (arith, past_text (bytes letters) i.gap i.text))

    is_full_at : (q : Option Place) → q ≡ first → length (bytes letters) ≡ end_of longest q → (rest [] → ⊥) → IsFull format longest (bytes letters)
    is_full_at q same e never = grind (arith, eq-or-lt_of_le, end_limit, Overruns-append, runs_on)

    pub is_full : length letters ≡ end_of longest first → (rest [] → ⊥) → IsFull format longest (bytes letters)
    is_full e never = is_full_at first refl (length-bytes letters ∙ e) never

    pub is_under_way : AreShort longest (length letters) spans → length letters ≤ end_of longest first → (rest [] → ⊥) → IsUnderWay format longest (bytes letters) spans
    is_under_way h le never = record {
      viable = is_viable;
      seen = are_seen;
      unfinished = is_unfinished never;
      within = omega (arith, length-bytes letters, end_limit longest first);
      short = is_short h le;
    }

  open_since : (q : Option Place) → ((q ≡ None → ⊥) → rest [] → ⊥) → (later : List (Item E)) → rest later → open_bytes (length (bytes letters)) (spans_since q (bytes letters) later) ≡ begun_bytes (length (bytes letters)) q
  open_since None owed [] r = refl
  open_since (Some p) owed [] r = absurd (owed (λ h. cc) r)
  open_since q owed (i ∷ items) r =
      let some : 0 < length i.text = has_length i.text (state.texts i items r) in
      ap (λ (t : Bool). cond t (open_bytes (length (bytes letters)) (spans_since None (bytes letters ++ (i.gap ++ bytes i.text)) items)) (length (bytes letters) - (place_or q (place_after (bytes letters ++ i.gap))).offset))
      (lt-leb (place_after (bytes letters ++ (i.gap ++ bytes i.text))).offset (length (bytes letters)) (omega (arith, past_text (bytes letters) i.gap i.text)))
      ∙ from_first q
    where
      from_first : (q : Option Place) → length (bytes letters) - (place_or q (place_after (bytes letters ++ i.gap))).offset ≡ begun_bytes (length (bytes letters)) q
      from_first None = omega (arith, place_after-offset (bytes letters ++ i.gap), length-append (bytes letters) i.gap)
      from_first (Some p) = refl

  pub has_open : ((first ≡ None → ⊥) → rest [] → ⊥) → HasOpen format (bytes letters) (begun_bytes (length letters) first)
  has_open owed items f prefix = grind (arith, length-bytes, open-ended, open_since)

module _ {E : Type 0} {format old new : List (Item E) → Type 0} {put : List (Item E) → List (Item E) → Type 0} {letters : List Letter} {spans more : List (Spanned E)}
    {first first' : Option Place} {l : Letter}
    (follows : Follows format old letters spans first) (takes : Takes old put l.byte new) (moves : Advances put l (bytes letters) first more first') (state : IsResidual old) (next : IsResidual new) where
  bytes_snoc : bytes (letters ++ l ∷ []) ≡ bytes letters ++ l.byte ∷ []
  bytes_snoc = bytes-append letters (l ∷ [])

  joined : (later mid items : List (Item E)) → put later mid → IsJoined letters spans first mid items → IsJoined (letters ++ l ∷ []) (spans ++ more) first' later items
  joined later mid items p j = grind (arith, append_assoc, bytes_snoc)

  -- nothing is complete before a byte that is taken
  open_before : old [] → ⊥
  open_before done = grind arith

  ends_sooner : (n : ℕ) → (n ≡ length letters) ⊎ (n < length letters) → (items : List (Item E)) → format items → bytes_of items ≡ take n (bytes letters) → ⊥
  ends_sooner n (inl e) items f b = open_before (spelled_is_done follows state items f (b ∙ (ap (λ (k : ℕ). take k (bytes letters)) (e ∙ sym (length-bytes letters)) ∙ take-length (bytes letters))))
  ends_sooner n (inr h) items f b = follows.alone n h items f b

  pub step : EndBy (length (letters ++ l ∷ [])) more → Follows format new (letters ++ l ∷ []) (spans ++ more) first'
  step ended = record {
    into = λ later r.
        let back = takes.into later r in
        let past = follows.into back.0 back.2 in (past.0, past.1, joined later back.0 past.0 back.1 past.2);
    onto = λ items f prefix.
        let e : bytes_of items ≡ bytes letters ++ (l.byte ∷ prefix.0) = prefix.1 ∙ (ap (λ (x : List ℕ). x ++ prefix.0) bytes_snoc ∙ append_assoc (bytes letters) (l.byte ∷ []) prefix.0) in
        let o = follows.onto items f (l.byte ∷ prefix.0, e) in
        let begins : bytes_of o.0 ≡ l.byte ∷ prefix.0 = append_cancel_left (bytes letters) (bytes_of o.0) (l.byte ∷ prefix.0) (sym (ap bytes o.2.letters_are ∙ bytes-append letters (letters_of o.0)) ∙ e) in
        let t = takes.onto o.0 o.1 (prefix.0, begins) in (t.0, t.2, joined t.0 o.0 items t.1 o.2);
    alone = λ n h items f e.
        let le : n ≤ length letters = omega (arith, length-append letters (l ∷ [])) in
        let short : n ≤ length (bytes letters) = omega (arith, length-bytes letters) in
        ends_sooner n (eq-or-lt_of_le le) items f (e ∙ (ap (λ (x : List ℕ). take n x) bytes_snoc ∙ take-append-le n (bytes letters) (l.byte ∷ []) short));
    ended = EndBy-append (length letters) (length (letters ++ l ∷ [])) spans more follows.ended (omega (arith, length-append letters (l ∷ []))) ended;
  }

module _ {S E : Type 0} {m : Automaton S E} {longest : ℕ} {start : S} {input : List ℕ} {spans : List (Spanned E)} {state : S} {place : Place} {first : Option Place} {stop : Option Stop}
    (s : Stands m longest start input spans state place first stop) where
  rest : IsResidual (AcceptsItems m state)
  rest = residual m state s.is_state

  unfinished : m.done state ≡ false → AcceptsItems m state [] → ⊥
  unfinished e d = false≢true (sym e ∙ d)

  under_way : m.done state ≡ false → IsUnderWay (AcceptsItems m start) longest (bytes s.letters) spans
  under_way e = is_under_way s.follows rest longest s.short s.within (unfinished e)

  -- a byte that the state admits may come
  admitted : (b : ℕ) → Admits m state b → Viable (AcceptsItems m start) (bytes s.letters ++ b ∷ [])
  admitted b (later, accepts, more, begins) =
      let past = s.follows.into later accepts in
      (past.0, past.1, (more, rw append_assoc (bytes_joined s.follows rest later past.0 past.2.letters_are ∙ ap (λ x. bytes s.letters ++ x) begins)))

  -- a byte that the state refuses
  bad : (b : ℕ) → m.step state b ≡ Refuse → length s.letters < end_of longest first → IsBad (AcceptsItems m start) longest (bytes s.letters) b
  bad b stops lt = record { refused = is_refused s.follows rest b (refuses m state state b stops); room = has_room s.follows rest longest s.some lt }

  explains : m.done state ≡ false → (left : List ℕ) (why : Why) → Halts m state (end_of longest first) s.letters left why → Explains (AcceptsItems m start) longest (bytes s.letters) left why
  explains owed left (Byte b) h =
      (h.0, h.1, bad b h.2 h.4, λ digit numeral. false≢true (sym h.3 ∙ both_true (rw s.number_is (in_number_ends s.follows rest numeral)) digit))
  explains owed left TooLarge h =
      let both = of_both (m.in_number state) (is_digit h.0) h.4 in
      (h.0, h.1, h.2, bad h.0 h.3 h.5, both.1, ends_in_number s.follows rest (subst IsTrue s.number_is both.0))
  explains owed left TooLong h = (h.0, is_full s.follows rest longest h.1 (unfinished owed))
  explains owed left Ended h = h
  explains owed left Read h = h
  explains owed left Memory h = (h.0, h.1, h.2, admitted h.0 h.3, has_room s.follows rest longest s.some h.5)

  done_answer : m.done state ≡ true → (halt : Option Stop) → Waits m state (end_of longest first) s.letters s.left place halt → Answers (AcceptsItems m start) longest (bytes s.letters) s.left spans place true halt
  done_answer d halt w = grind (arith, bytes_joined, rest, append-nil, length-bytes, end_limit, false≢true)

  open_answer : m.done state ≡ false → (halt : Option Stop) → Waits m state (end_of longest first) s.letters s.left place halt → Answers (AcceptsItems m start) longest (bytes s.letters) s.left spans place false halt
  open_answer owed halt w = grind (arith, false≢true, under_way, explains)

  answer : (done : Bool) → done ≡ m.done state → Answers (AcceptsItems m start) longest (bytes s.letters) s.left spans place done stop
  answer true e = done_answer (sym e) stop s.waits
  answer false e = open_answer (sym e) stop s.waits

  -- what a read must give
  pub stands_reads : (done : Bool) → done ≡ m.done state → Reads (AcceptsItems m start) longest input (bytes s.letters) spans place done stop
  stands_reads done e = record { left = s.left; input_is = s.input_is; place_is = s.place_is; answer = answer done e }

  -- the number of bytes of a statement that has not ended
  pub stands_open : HasOpen (AcceptsItems m start) (bytes s.letters) (begun_bytes (length s.letters) first)
  stands_open = has_open s.follows rest (λ some d. unfinished (s.owed (by_first first some)) d)
    where
      by_first : (q : Option Place) → (q ≡ None → ⊥) → is_some q ≡ true
      by_first None h = absurd (h refl)
      by_first (Some p) h = refl

  spent_bytes : (q : Option Place) (n k : ℕ) → SpentSince n q k → k ≤ begun_bytes n q
  spent_bytes q n k h = grind arith

  pub kept_within : m.kept state ≤ begun_bytes (length s.letters) first
  kept_within = omega (arith, s.is_state.bounds, spent_bytes first (length s.letters) (m.spent state) s.spent)

pub nothing_fed : (a b : List ℕ) → a ++ b ≡ [] → a ≡ []
nothing_fed [] b e = refl
nothing_fed (x ∷ a) b e = absurd (cc e)

module _ {M E : Type 0} {g : Ghosts M E} (longest : ℕ) (start : M) (after : Feeder M E g) where
  feeds_stand : (feeds : List (List ℕ × Result (Fed E) Stop)) (before : Feeder M E g) (input : List ℕ) (spans : List (Spanned E))
      → StandsAt longest start input spans before → IsOpen before.stop → Feeds before feeds after
      → StandsAt longest start (input ++ input_fed feeds) (spans ++ spans_answered feeds) after
  feeds_stand [] before input spans s counts e = grind (arith, append-nil)
  feeds_stand (f ∷ feeds) before input spans s counts h =
      let k = h.1.0 longest start input spans counts s in
      let m = feeds_stand feeds h.0 (input ++ bytes_fed f.1 f.0) (spans ++ spans_fed f.1) k (h.1.1 counts) h.2 in
      subst₂ (λ (x : List ℕ) (y : List (Spanned E)). StandsAt longest start x y after) (append_assoc input (bytes_fed f.1 f.0) (input_fed feeds)) (append_assoc spans (spans_fed f.1) (spans_answered feeds)) m

  feeds_further : (feeds : List (List ℕ × Result (Fed E) Stop)) (before : Feeder M E g) → Feeds before feeds after → NoneStopped feeds → after.place.offset ≡ before.place.offset + used_by feeds
  feeds_further [] before e all = omega (arith, ap (λ (f : Feeder M E g). f.place.offset) e)
  feeds_further ((piece, Ok fed) ∷ feeds) before h all = grind (arith, rest, feeds_further feeds h.0 h.2 all.1)
  feeds_further ((piece, Err s) ∷ feeds) before h all = absurd (let bad = all.0 in cc bad)

  pub any_cutting : (feeds : List (List ℕ × Result (Fed E) Stop)) (before : Feeder M E g) → StandsAt longest start [] [] before → IsOpen before.stop → Feeds before feeds after
      → (used : List ℕ) × Reads (AcceptsItems g.automaton start) longest (input_fed feeds) used (spans_answered feeds) after.place (is_complete after) after.stop × (NoneStopped feeds → length used ≡ used_by feeds)
  any_cutting feeds before s counts h =
      let k = feeds_stand feeds before [] [] s counts h in
      let none : bytes s.1.letters ≡ [] = nothing_fed (bytes s.1.letters) s.1.left (sym s.1.input_is) in (
        bytes k.1.letters,
        stands_reads k.1 (is_complete after) refl,
        λ all.
            let further = feeds_further feeds before h all in
            let begins : before.place.offset ≡ 0 = ap (λ (p : Place). p.offset) s.1.place_is ∙ (place_after-offset (bytes s.1.letters) ∙ ap (λ (x : List ℕ). length x) none) in
            let ends : after.place.offset ≡ length (bytes k.1.letters) = ap (λ (p : Place). p.offset) k.1.place_is ∙ place_after-offset (bytes k.1.letters) in
            omega (arith, further, begins, ends),
      )

-- no feed reports that a reader failed
pub none_read : {M E : Type 0} {g : Ghosts M E} (after : Feeder M E g) (feeds : List (List ℕ × Result (Fed E) Stop)) (before : Feeder M E g) → Feeds before feeds after → IsUnread before.stop → IsUnread after.stop
none_read {M} {E} {g} after [] before e h = subst (λ (f : Feeder M E g). IsUnread f.stop) e h
none_read after (f ∷ feeds) before h unread = none_read after feeds h.0 h.2 (h.1.2 unread)
