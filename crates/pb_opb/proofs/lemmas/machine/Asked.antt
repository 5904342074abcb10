-- If a machine of instances may allocate at a byte, then that byte's position in its statement is one that may
-- allocate. And what the machine reads, in terms of instances.
use Rattle.pb_opb.proofs.Common.{Part, ℕ, ◌&&◌, ◌++◌, ◌∙◌, ◌∷◌, ◌≡◌, ◌≤◌, ◌⊎◌, [], ap, append-nil, ap₂, arith, Bool, false, inl, inr, IsTrue, List, nat_eq}
use Rattle.pb_opb.proofs.Common.{refl, subst, suc, sym, true, zero, cond_both, reads_grammar, continues-midway, SumEvent, White, sums, SumState, Spells}
use Rattle.pb_opb.proofs.Common.{prefixes_of, reads_after, Walks, never, bytes-append, bytes-plain, End, Go, MayAsk, Next, ReadsStatement, IsInLine, is_blank}
use Rattle.pb_opb.proofs.Common.{is_white, ◌⋅◌, Blanks0, Byte, Bytes, Digits, bytes, Letter, OpbEvent, Comment, Constraint, Header, Objective, Action}
use Rattle.pb_opb.proofs.Common.{Constraints, Variables, Phase, transition, act, asks, begin, giving, linears, objectives, opb, OpbState, over, statement_of}
use Rattle.pb_opb.proofs.Common.{constraint_word, IsInstance, IsTail, Option, AcceptsItems, Spanned, Item, IsRead, StopsIn, Instance, MayKeep, IsValueOf}
use Rattle.pb_opb.proofs.lemmas.machine.Bodies.{InGap, gap_given, nothing_read, instance_each, instance_only}
use Rattle.pb_opb.proofs.lemmas.machine.Stands.{line_grown, tail_grown, idle, Gives, gives_objective, gives_constraint, given_step}
use Rattle.{pb_opb.specs.meaning.Asking.MinLead, pb_opb.specs.meaning.Reading.AsksInInstance, pb_text.proofs.lemmas.source.Unkept.stops_in}
use Rattle.{pb_opb.specs.meaning.Asking.Asks, pb_sums.proofs.lemmas.machine.Asked.sums_asked, pb_sums.proofs.lemmas.machine.Asked.first_asks_nothing}
use Rattle.pb_text.specs.{meaning.Asking.AsksOnly, meaning.Reading.Reads, declared.Place.Place, declared.Stop.Stop}
use Rattle.pb_text.proofs.lemmas.machine.Asked as asked
use Rattle.pb_opb.proofs.lemmas.machine.EntryPrefix as entry
use Rattle.pb_opb.proofs.lemmas.machine.HeaderPrefix as header
use Rattle.pb_text.proofs.lemmas.text.Formats as formats

module _ (limit top : ℕ) where
  -- between two statements, or before the first one
  abbrev Idle : OpbState → Type 0
  Idle s = (s ≡ begin limit top) ⊎ ((v : ℕ) × (objective_allowed : Bool) × (n : ℕ) × (s ≡ idle limit top v objective_allowed n))

  abbrev Quiet : Next OpbState OpbEvent → Bool → Type 0
  Quiet n x = InGap (λ next. Idle next × (x ≡ false)) n

  gap_begin : (b : ℕ) → Quiet (opb.step (begin limit top) b) (opb.asks (begin limit top) b)
  gap_begin b = cond_both (nat_eq b 42) _ _ (λ m. Quiet (act (begin limit top) b m) (asks (begin limit top) b m)) (λ e o. never true refl o) (λ e. tt)

  gap_idle : (v : ℕ) (objective_allowed : Bool) (n b : ℕ) → Quiet (opb.step (idle limit top v objective_allowed n) b) (opb.asks (idle limit top v objective_allowed n) b)
  gap_idle v objective_allowed zero b = tt
  gap_idle v objective_allowed (suc n) b =
      let s : OpbState = idle limit top v objective_allowed (suc n) in
      let P : Action → Type 0 = λ m. Quiet (act s b m) (asks s b m) in
      cond_both (is_white b) _ _ P (λ e o. (inr (v, objective_allowed, suc n, refl), refl))
      (λ _. cond_both (nat_eq b 42) _ _ P (λ _ o. never true refl o)
      (λ _. cond_both (nat_eq b 109 && objective_allowed) _ _ P (λ _ o. never true refl o)
      (λ _. gap_given (λ next. Idle next × (sums.asks s.sums b ≡ false)) s (sums.step s.sums b))))

  gap_of : (s : OpbState) (b : ℕ) → Idle s → Quiet (opb.step s b) (opb.asks s b)
  gap_of s b h = grind (arith, gap_begin, gap_idle)

  gaps : (s next : OpbState) (b : ℕ) → Idle s → opb.step s b ≡ Go next → opb.begun next ≡ false → Idle next × (opb.asks s b ≡ false)
  gaps s next b i g o = (subst (λ x. Quiet x (opb.asks s b)) g (gap_of s b i)) o

  -- after a statement
  after_header : (e : OpbEvent) (next : OpbState) (t : List Letter) → header.IsHeader limit top e next t → Idle next
  after_header e next t h = grind arith

  after_entry : (v n : ℕ) (objective_allowed : Bool) (e : OpbEvent) (next : OpbState) (t : List Letter) → entry.IsStatement limit top v n objective_allowed e next t → Idle next
  after_entry v n objective_allowed (Header w k tail) next t h = absurd h
  after_entry v n objective_allowed (Comment line) next t h = inr (v, objective_allowed, suc n, h.2)
  after_entry v n objective_allowed (Objective terms) next t h = inr (v, false, suc n, h.2)
  after_entry v n objective_allowed (Constraint linear) next t h = inr (v, false, n, h.1)

  ends : (s next : OpbState) (t : List Letter) (e : OpbEvent) → Idle s → ReadsStatement opb s t e next → Idle next
  ends s next t e (inl f) r = after_header e next t (header.header_only limit top t e next (subst (λ x. ReadsStatement opb x t e next) f r))
  ends s next t e (inr (v, objective_allowed, zero, f)) r = absurd (nothing_read limit top v objective_allowed [] t e (idle limit top v objective_allowed zero) next refl (subst (λ x. ReadsStatement opb x t e next) f r))
  ends s next t e (inr (v, objective_allowed, suc n, f)) r = after_entry v n objective_allowed e next t (entry.entry_only limit top v n objective_allowed t e next (subst (λ x. ReadsStatement opb x t e next) f r))

  -- the header
  abbrev AsksHeader : ℕ → List ℕ → ℕ → Type 0
  AsksHeader most text b = Asks most (Header 0 0 []) text b

  counted : (s : OpbState) (p : List Letter) (n b : ℕ) → n ≤ s.top → (header.Before s.top s.variables Constraints ⋅ Bytes constraint_word ⋅ Blanks0 ⋅ Digits n) p → is_blank b ≡ true → AsksHeader s.top (bytes p) b
  counted s p n b le (a, c, e, h, k) white = (s.variables, n, p, [], (a, c, e, h, (le, k)), sym (append-nil (bytes p)), (white, tt))

  tailed : (s : OpbState) (p : List Letter) (b : ℕ) → IsTail s.text → (s.text ≡ [] → ⊥) → nat_eq b 10 ≡ false
      → (header.Whole s.top Constraints s.remaining (header.Before s.top s.variables Constraints) ⋅ Bytes s.text) p → AsksHeader s.top (bytes p) b
  tailed s p b h some line (a, c, e, k, is) =
      (s.variables, s.remaining, a, s.text, k, ap bytes e ∙ (bytes-append a c ∙ ap (λ (x : List ℕ). bytes a ++ x) (ap bytes is ∙ bytes-plain s.text)), tail_grown s.text b line some h)

  header_asks : (s : OpbState) (p : List Letter) (b : ℕ) (q : Phase) → header.prefix s q p → asks s b (transition s.top q b) ≡ true → AsksHeader s.top (bytes p) b
  header_asks s p b (Phase.Count Variables n) h k = absurd (grind arith)
  header_asks s p b (Phase.Count Constraints n) h k = counted s p n b h.0 h.1 (grind arith)
  header_asks s p b Phase.Tail h k = tailed s p b h.0 h.1 (grind arith) h.2
  header_asks s p b _ h k = absurd (grind arith)

  -- the position of a byte that may allocate, by phase
  at_header : (e : OpbEvent) (next : OpbState) (t : List Letter) (text : List ℕ) (b : ℕ) → header.IsHeader limit top e next t → AsksHeader top text b → Asks top e text b
  at_header e next t text b h a = grind arith

  -- Within a sum, the text is read by the machine of sums.
  module _ (q : Phase) (g : Gives q) where
    went : (s next : OpbState) (x : Next SumState SumEvent) → ◌≡◌ {A = Next OpbState OpbEvent} (over s q x) (Go next) → (inner : SumState) × (x ≡ Go inner) × (next ≡ giving s q inner)
    went s next x e = grind arith

    ended : (s next : OpbState) (e : OpbEvent) (x : Next SumState SumEvent) → ◌≡◌ {A = Next OpbState OpbEvent} (over s q x) (End e next) → (f : SumEvent) × (new : SumState) × (x ≡ End f new) × (e ≡ statement_of f)
    ended s next e x h = grind arith

    sum_reads : (t : List Letter) (s : OpbState) (e : OpbEvent) (next : OpbState) → s.phase ≡ q → ReadsStatement opb s t e next
        → (f : SumEvent) × (new : SumState) × ReadsStatement sums s.sums t f new × (e ≡ statement_of f)
    sum_reads [] s e next at r = absurd r
    sum_reads (l ∷ []) s e next at (h, n) =
        let (f, new, k, same) = ended s next e (sums.step s.sums l.byte) (sym (given_step s q g l.byte at) ∙ h) in (f, new, (k, n), same)
    sum_reads (l ∷ k ∷ t) s e next at (mid, h, o, n, r) =
        let (inner, i, same) = went s mid (sums.step s.sums l.byte) (sym (given_step s q g l.byte at) ∙ h) in
        let (f, new, j, is) = sum_reads (k ∷ t) mid e next (ap (λ x. x.phase) same) r in
        let number : opb.in_number mid ≡ sums.in_number inner = ap opb.in_number same ∙ g.number (giving s q inner) in
        (f, new, (inner, i, continues-midway s.sums inner l.byte i, n ∙ number, subst (λ (x : SumState). ReadsStatement sums x (k ∷ t) f new) (ap (λ x. x.sums) same) j), is)

  -- Within a comment, the text is a comment.
  comment_ends : (top b : ℕ) (m : Bool) (s next : OpbState) (e : OpbEvent) → act s b (transition top (Phase.Comment m) b) ≡ End e next → e ≡ Comment s.text
  comment_ends top b m s next e h = grind arith

  comment_goes : (top b : ℕ) (m : Bool) (s next : OpbState) → act s b (transition top (Phase.Comment m) b) ≡ Go next → next.phase ≡ s.phase
  comment_goes top b m s next h = grind arith

  comment_reads : (t : List Letter) (s : OpbState) (m : Bool) (e : OpbEvent) (next : OpbState) → s.phase ≡ Phase.Comment m → ReadsStatement opb s t e next → (line : List ℕ) × (e ≡ Comment line)
  comment_reads [] s m e next at r = absurd r
  comment_reads (l ∷ []) s m e next at (h, n) = (s.text, comment_ends s.top l.byte m s next e (sym (ap (λ q. act s l.byte (transition s.top q l.byte)) at) ∙ h))
  comment_reads (l ∷ k ∷ t) s m e next at (mid, h, o, n, r) =
      comment_reads (k ∷ t) mid m e next (comment_goes s.top l.byte m s mid (sym (ap (λ q. act s l.byte (transition s.top q l.byte)) at) ∙ h) ∙ at) r

  -- the phases in which no byte allocates, or not each
  asks_min : (s : OpbState) (b j : ℕ) → asks s b (transition s.top (Phase.Min j) b) ≡ true → ⊥
  asks_min s b j h = grind arith

  asks_after_min : (s : OpbState) (b : ℕ) → sums.asks s.sums b ≡ false → asks s b (transition s.top Phase.AfterMin b) ≡ true → ⊥
  asks_after_min s b e h = grind arith

  asks_between : (s : OpbState) (b : ℕ) (m : Bool) → sums.asks s.sums b ≡ false → asks s b (transition s.top (Phase.Between m) b) ≡ true → ⊥
  asks_between s b m e h = grind arith

  asks_comment : (s : OpbState) (b : ℕ) (m : Bool) → asks s b (transition s.top (Phase.Comment m) b) ≡ true → nat_eq b 10 ≡ false
  asks_comment s b m h = grind arith

  in_comment : (s : OpbState) (p : List Letter) (b : ℕ) → IsInLine s.text → nat_eq b 10 ≡ false → (Byte 42 ⋅ Bytes s.text) p → (line : List ℕ) → Asks top (Comment line) (bytes p) b
  in_comment s p b h e (a, c, is, star, kept) line =
      (s.text, ap bytes is ∙ (bytes-append a c ∙ ap₂ (λ (x y : List ℕ). x ++ y) (ap bytes star) (ap bytes kept ∙ bytes-plain s.text)), line_grown s.text b e h)

  in_objective : (s new : OpbState) (inner : SumState) (a c rest : List Letter) (l : Letter) (f : SumEvent) → MinLead a → Walks sums (objectives s.limit) c s.sums → ReadsStatement sums s.sums (l ∷ rest) f inner
      → sums.asks s.sums l.byte ≡ true → Asks top (statement_of f) (bytes (a ++ c)) l.byte
  in_objective s new inner a c rest l f lead w r h =
      by_event f ((reads_grammar White Part.Sum s.limit (c ++ l ∷ rest) f inner).0 (reads_after sums c (l ∷ rest) (objectives s.limit) s.sums inner f w r)).0
    where
      by_event : (g : SumEvent) → Spells White s.limit Part.Sum g (c ++ l ∷ rest) → Asks top (statement_of g) (bytes (a ++ c)) l.byte
      by_event (SumEvent.Sum xs) k = (a, bytes c, lead, bytes-append a c, sums_asked White Part.Sum s.limit c s.sums l.byte w h)
      by_event (SumEvent.Linear d) k = never false k.0 refl

  in_constraint : (s : OpbState) (inner : SumState) (p rest : List Letter) (l : Letter) (f : SumEvent) → Walks sums (linears s.limit) p s.sums → ReadsStatement sums s.sums (l ∷ rest) f inner
      → sums.asks s.sums l.byte ≡ true → Asks top (statement_of f) (bytes p) l.byte
  in_constraint s inner p rest l f w r h =
      by_event f ((reads_grammar White Part.Linear s.limit (p ++ l ∷ rest) f inner).0 (reads_after sums p (l ∷ rest) (linears s.limit) s.sums inner f w r)).0
    where
      by_event : (g : SumEvent) → Spells White s.limit Part.Linear g (p ++ l ∷ rest) → Asks top (statement_of g) (bytes p) l.byte
      by_event (SumEvent.Sum xs) k = never false k.0 refl
      by_event (SumEvent.Linear d) k = sums_asked White Part.Linear s.limit p s.sums l.byte w h

  module _ (v n : ℕ) (objective_allowed : Bool) (s next : OpbState) (p rest : List Letter) (l : Letter) (e : OpbEvent) where
    entry_asks : (q : Phase) → s.phase ≡ q → entry.prefix limit top v n objective_allowed s q p → ReadsStatement opb s (l ∷ rest) e next → asks s l.byte (transition s.top q l.byte) ≡ true → Asks top e (bytes p) l.byte
    entry_asks (Phase.Between m) at (same, none, kept, inner) r k =
        let quiet : sums.asks s.sums l.byte ≡ false = ap (λ (x : SumState). sums.asks x l.byte) inner ∙ first_asks_nothing White Part.Linear s.limit l.byte in
        absurd (asks_between s l.byte m quiet k)
    entry_asks (Phase.Comment m) at (same, h, c) r k =
        let (line, is) = comment_reads (l ∷ rest) s m e next at r in
        subst (λ (x : OpbEvent). Asks top x (bytes p) l.byte) (sym is) (in_comment s p l.byte h (asks_comment s l.byte m k) c line)
    entry_asks Phase.AfterMin at (m, inner, lead) r k =
        let quiet : sums.asks s.sums l.byte ≡ false = ap (λ (x : SumState). sums.asks x l.byte) inner ∙ first_asks_nothing White Part.Sum s.limit l.byte in
        absurd (asks_after_min s l.byte quiet k)
    entry_asks Phase.Objective at (m, (a, c, is, lead, w)) r k =
        let (f, inner, x, same) = sum_reads Phase.Objective gives_objective (l ∷ rest) s e next at r in
        subst (λ (y : List Letter). Asks top e (bytes y) l.byte) (sym is) (subst (λ (y : OpbEvent). Asks top y (bytes (a ++ c)) l.byte) (sym same) (in_objective s s inner a c rest l f lead w x k))
    entry_asks Phase.Constraint at w r k =
        let (f, inner, x, same) = sum_reads Phase.Constraint gives_constraint (l ∷ rest) s e next at r in
        subst (λ (y : OpbEvent). Asks top y (bytes p) l.byte) (sym same) (in_constraint s inner p rest l f w x k)
    entry_asks (Phase.Min j) at h r k = absurd (asks_min s l.byte j k)
    entry_asks _ at h r k = absurd h

  texts : (at s next : OpbState) (prefix rest : List Letter) (l : Letter) (e : OpbEvent) → Idle at → Walks opb at prefix s → ReadsStatement opb s (l ∷ rest) e next
      → IsTrue (opb.asks s l.byte) → Asks top e (bytes prefix) l.byte
  texts at s next prefix rest l e (inl f) w r a =
      let walk : Walks opb (begin limit top) prefix s = subst (λ x. Walks opb x prefix s) f w in
      let k : header.Prefix limit top s prefix = prefixes_of opb (header.Prefix limit top) (header.Reported limit top) (header.keeps limit top) prefix (begin limit top) [] s walk ((refl, refl), refl) in
      let h : header.IsHeader limit top e next (prefix ++ l ∷ rest) = header.header_only limit top (prefix ++ l ∷ rest) e next (reads_after opb prefix (l ∷ rest) (begin limit top) s next e walk r) in
      at_header e next (prefix ++ l ∷ rest) (bytes prefix) l.byte h (subst (λ x. AsksHeader x (bytes prefix) l.byte) k.0.1 (header_asks s prefix l.byte s.phase k.1 a))
  texts at s next prefix rest l e (inr (v, objective_allowed, zero, f)) w r a =
      let walk : Walks opb (idle limit top v objective_allowed zero) prefix s = subst (λ x. Walks opb x prefix s) f w in
      absurd (nothing_read limit top v objective_allowed [] (prefix ++ l ∷ rest) e (idle limit top v objective_allowed zero) next refl (reads_after opb prefix (l ∷ rest) (idle limit top v objective_allowed zero) s next e walk r))
  texts at s next prefix rest l e (inr (v, objective_allowed, suc n, f)) w r a =
      let start : OpbState = idle limit top v objective_allowed (suc n) in
      let walk : Walks opb start prefix s = subst (λ x. Walks opb x prefix s) f w in
      let k : entry.Prefix limit top v n objective_allowed s prefix = prefixes_of opb (entry.Prefix limit top v n objective_allowed) (entry.IsStatement limit top v n objective_allowed) (entry.keeps limit top v n objective_allowed) prefix start [] s walk ((refl, refl, refl, refl), (refl, refl, refl, refl)) in
      entry_asks v n objective_allowed s next prefix rest l e s.phase refl k.1 r a

  -- after these bytes of an instance
  pub asks_only : (used : List ℕ) (b : ℕ) → MayAsk opb (begin limit top) used b → AsksOnly (IsInstance limit top) (Asks top) used b
  asks_only used b (state, lead, a) items more h e =
      asked.asks_within opb Idle (Asks top) (record { gaps = gaps; ends = ends; texts = texts }) (begin limit top) used b (inl refl) state lead a items more (instance_each limit top items h) e

module _ (limit top longest : ℕ) where
  abbrev accepted : List (Item OpbEvent) → Type 0
  accepted = AcceptsItems opb (begin limit top)

  abbrev spelled : List (Item OpbEvent) → Type 0
  spelled = IsInstance limit top

  pub reads_exactly : (input used : List ℕ) (spans : List (Spanned OpbEvent)) (place : Place) (done : Bool) (stop : Option Stop) → Reads accepted longest input used spans place done stop → Reads spelled longest input used spans place done stop
  reads_exactly = formats.reads accepted spelled (instance_only limit top) (instance_each limit top) longest

  pub read_exactly : (used : List ℕ) (m : Spanned Instance) → IsRead accepted longest IsValueOf used m → IsRead spelled longest IsValueOf used m
  read_exactly used m r = record {
    spans = r.spans;
    spelled = formats.is_spelled accepted spelled (instance_only limit top) (instance_each limit top) longest used r.spans r.spelled;
    value = r.value;
    first = r.first;
    past = r.past;
  }

  pub stops_exactly : (used seen : List ℕ) (s : Stop) → StopsIn accepted longest (MayAsk opb (begin limit top)) MayKeep used seen s → StopsIn spelled longest (AsksInInstance limit top) MayKeep used seen s
  stops_exactly used seen s h =
      stops_in accepted spelled (instance_only limit top) (instance_each limit top) longest (MayAsk opb (begin limit top)) (AsksInInstance limit top) (asks_only limit top) MayKeep MayKeep (λ events e k. k) used seen s h
