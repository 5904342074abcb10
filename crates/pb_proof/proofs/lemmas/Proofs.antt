-- Lemmas about proofs, their texts and their values.
use Rattle.pb_proof.specs.{engine.line.Ended.ended_lines, contract.Gather.with, contract.Gather.asks, contract.Gather.MayKeep, contract.Gather.nothing}
use Rattle.pb_proof.proofs.Common.{ℤ, [], proof_bytes, IsProofValue, IsStatementValue, SpellsConclusion, ℕ, SpellsLiteral, statements_of, number-within}
use Rattle.pb_proof.{proofs.Common.All-nil, specs.declared.read.gather.ProofSoFar.ProofSoFar, specs.meaning.Reading.AsksInProof}
use Rattle.pb_proof.proofs.Common.{length-append, CanonicalProof, ReadStatements, ◌++◌, events_of, IsProofOf, leb-false, events_at, ReadsBack, length, Header}
use Rattle.pb_proof.proofs.Common.{Output, Option, Letter, Bounds, Delete, Nothing, ◌<◌, ◌∙◌, ◌∷◌, ◌≡◌, ◌≤◌, sym, ap₂, Sat, Pol, Rup, ◌^◌, All, Soli, Solx, ◌↔◌}
use Rattle.pb_proof.proofs.Common.{Item, Part, Bool, ap, Proof, lines, IsName, IsWord, subst, bytes, Factor, Listed, nat_le, lt-leb, IsRead, IsStep, Linear}
use Rattle.pb_proof.proofs.Common.{append-nil, SpellsWord, Conclusion, spans_since, ended_lines, ProofValues, place_after, append_assoc, SpellsLinear, StopsIn}
use Rattle.pb_proof.proofs.Common.{IsConclusion, bytes-append, arith, All-head, All-tail, Literal, Language, IsFactor, SpellsId, All-cons, bytes_of, OneValue}
use Rattle.pb_proof.proofs.Common.{spans_of, gathered, SumEvent, Conclude, List, refl, F, true, ints, IsId, None, Some, Bound, Unsat, false, Blank, IsGap}
use Rattle.pb_proof.proofs.Common.{rules, statement_bytes, SpellsStatement, StatementValues, Statement, AreSpelled, All-append, All-weaker, letters_of, IsProof}
use Rattle.pb_proof.proofs.Common.{false≢true, BeginProof, AreLiterals, SpellsBound, NoClaim, PolWord, IfGiven, IsBound, IdShown, Spanned, IsWhole, MayHold}
use Rattle.pb_sums.proofs.lemmas.values.{Larger.spells_larger, Within.number-within as value-within, Within.linear-within}
use Rattle.pb_text.proofs.lemmas.{source.Wholes.spans_events, text.Short.place_after-offset}
use Rattle.pb_text.specs.{declared.Place.Place, declared.Stop.Stop, meaning.Reading.ended_within, meaning.Reading.IsUnderWay, meaning.Reading.IsSpelled}
use Rattle.pb_proof.proofs.lemmas.Texts.{ended_none, ended-cons, lines-ended, line_bytes, Has, line_has}
use Rattle.pb_text.proofs.lemmas.source.Unkept as stopped
use Rattle.pb_text.proofs.lemmas.text.Formats as formats

-- What is read of a proof.

abbrev pub one_more : ProofSoFar → Statement → ProofSoFar
one_more b e = record { proof = with b.proof e }

-- the proof with more steps
abbrev with_steps : Proof → List Statement → Proof
with_steps v steps = record v { steps = v.steps ++ steps }

steps_after : (steps rest : List Statement) (v : Proof) → All IsStep steps → gathered with v (steps ++ rest) ≡ gathered with (with_steps v steps) rest
steps_after [] rest v h = ap (λ (xs : List Statement). gathered with (record v { steps = xs }) rest) (sym (append-nil v.steps))
steps_after (s ∷ steps) rest v h =
    ap (λ (x : Proof). gathered with x (steps ++ rest)) (let k = All-head IsStep s steps h in grind (arith, s))
    ∙ (steps_after steps rest (with_steps v (s ∷ [])) (All-tail IsStep s steps h)
    ∙ ap (λ (xs : List Statement). gathered with (record v { steps = xs }) rest) (append_assoc v.steps (s ∷ []) steps))

proof_of : (events : List Statement) (b : ProofSoFar) → (gathered one_more b events).proof ≡ gathered with b.proof events
proof_of [] b = refl
proof_of (e ∷ events) b = proof_of events (one_more b e)

gathered_is : (events : List Statement) (b c : ProofSoFar) (v : Proof) → b.proof ≡ nothing → c ≡ gathered one_more b events → All IsStep v.steps → events ≡ statements_of v → c.proof ≡ v
gathered_is events b c v n e h k = grind (arith, proof_of, steps_after, v.steps, v.conclusion, v.count)

module _ (limit top longest : ℕ) (accepted : List (Item Statement) → Type 0) (same : (items : List (Item Statement)) → accepted items ↔ IsProof limit top items) (used : List ℕ) where
  only : (items : List (Item Statement)) → accepted items → IsProof limit top items
  only items h = (same items).0 h

  each : (items : List (Item Statement)) → IsProof limit top items → accepted items
  each items h = (same items).1 h

  value_of : (b c : ProofSoFar) (items : List (Item Statement)) → b.proof ≡ nothing → c ≡ gathered one_more b (events_of items) → IsProof limit top items → IsProofOf (events_of items) c.proof
  value_of b c items n e (v, (steps, are, first, spelled)) = are ∙ ap statements_of (sym (gathered_is (events_of items) b c v n e steps are))

  pub is_read : (b : ProofSoFar) → b.proof ≡ nothing → (m : Spanned ProofSoFar) → IsWhole accepted longest one_more b used m
      → (let r : Spanned Proof = record { event = m.event.proof; first = m.first; past = m.past } in IsRead (IsProof limit top) longest IsProofOf used r)
  is_read b n m w = record {
    spans = w.spans;
    spelled = formats.is_spelled accepted (IsProof limit top) only each longest used w.spans w.spelled;
    value = value_of b m.event w.spelled.items n w.value (only w.spelled.items w.spelled.spelled);
    first = w.first;
    past = w.past;
  }

  pub stops_in : (b : ProofSoFar) (may_ask : List ℕ → ℕ → Type 0) → ((u : List ℕ) (c : ℕ) → may_ask u c → AsksInProof limit top u c) → (seen : List ℕ) (s : Stop) → StopsIn accepted longest may_ask (MayHold one_more b (λ c e. asks e)) used seen s
      → StopsIn (IsProof limit top) longest (AsksInProof limit top) MayKeep used seen s
  stops_in b may_ask to seen s w = stopped.stops_in accepted (IsProof limit top) only each longest may_ask (AsksInProof limit top) to (MayHold one_more b (λ c e. asks e)) MayKeep (λ events x h. h) used seen s w

-- A proof remains a proof if numbers may be larger.

abbrev Within : Language → Language → Type 0
Within P Q = (t : List Letter) → P t → Q t

listed_grows : {A : Type 0} (P Q : A → Language) → ((x : A) → Within (P x) (Q x)) → (xs : List A) → Within (Listed P xs) (Listed Q xs)
listed_grows P Q f [] t h = h
listed_grows P Q f (x ∷ xs) t (ab, c, e, (a, b, g, s, h), k) = (ab, c, e, (a, b, g, s, f x b h), listed_grows P Q f xs c k)

module _ (limit limit' top top' : ℕ) (h : limit ≤ limit') (j : top ≤ top') where
  id_grows : (id : ℤ) → Within (SpellsId top id) (SpellsId top' id)
  id_grows id t (negative, n, some, within, e, k) = (negative, n, some, omega arith, e, k)

  factor_grows : (k : ℤ) → Within (Factor limit k) (Factor limit' k)
  factor_grows k t (n, some, within, e, d) = (n, some, omega arith, e, d)

  word_grows : (w : PolWord) → Within (SpellsWord limit top w) (SpellsWord limit' top' w)
  word_grows w t k = grind (arith, id_grows, factor_grows)

  bound_grows : (b : Bound) → Within (SpellsBound limit b) (SpellsBound limit' b)
  bound_grows b t k = grind (arith, number-within)

  id_shown_grows : (id : Option ℤ) → Within (IdShown limit top id) (IdShown limit' top' id)
  id_shown_grows id t k = grind (arith, id_grows)

  conclusion_grows : (c : Conclusion) → Within (SpellsConclusion limit top c) (SpellsConclusion limit' top' c)
  conclusion_grows (Unsat id) t (a, b, e, w, k) = (a, b, e, w, id_shown_grows id b k)
  conclusion_grows (Bounds lower id upper shown) t (p4, l4, e4, (p3, l3, e3, (p2, l2, e2, (p1, l1, e1, (p0, l0, e0, w, l), i), s), u), x) =
      (p4, l4, e4, (p3, l3, e3, (p2, l2, e2, (p1, l1, e1, (p0, l0, e0, w, bound_grows lower l0 l), id_shown_grows id l1 i), s), bound_grows upper l3 u), x)
  conclusion_grows NoClaim t k = k
  conclusion_grows (Sat shown) t k = k

  linear_grows : (c : Linear) → Within (SpellsLinear Blank limit c) (SpellsLinear Blank limit' c)
  linear_grows c t k = (spells_larger Blank limit limit' h Part.Linear t (SumEvent.Linear c) (refl, k)).1

  statement_grows : (e : Statement) → Within (SpellsStatement limit top e) (SpellsStatement limit' top' e)
  statement_grows (F c) t (a, b, e, w, k) = (a, b, e, w, grind (arith, c))
  statement_grows e t k = grind (arith, listed_grows, word_grows, linear_grows, id_grows, conclusion_grows)

  pub proof_grows : (items : List (Item Statement)) → IsProof limit top items → IsProof limit' top' items
  proof_grows items (v, (steps, e, first, spelled)) = (v, (steps, e, grind (arith, items, first), grind (arith, statement_grows, spelled)))

-- The canonical text of a proof that meets the rules is a text of it.

-- The lines that have a line feed.
abbrev HasFeed : Statement → Type 0
HasFeed s = line_bytes s ≡ statement_bytes s ++ (10 ∷ [])

-- the bytes of lines
abbrev all_bytes : List Statement → List ℕ
all_bytes [] = []
all_bytes (s ∷ xs) = line_bytes s ++ all_bytes xs

bytes-feeds : (xs rest : List Statement) → All HasFeed xs → all_bytes (xs ++ rest) ≡ ended_lines xs ++ all_bytes rest
bytes-feeds [] rest h = rw ended_none refl
bytes-feeds (x ∷ xs) rest h =
    let first : line_bytes x ≡ statement_bytes x ++ (10 ∷ []) = All-head HasFeed x xs h in
    rw (first, bytes-feeds xs rest (All-tail HasFeed x xs h), ended-cons x xs) (simp append_assoc)

-- all statements but the last
abbrev body : Proof → List Statement
body v = Header ∷ F v.count ∷ (v.steps ++ Output ∷ Conclude v.conclusion ∷ [])

body_is : (v : Proof) → statements_of v ≡ body v ++ Statement.End ∷ []
body_is v = ap (λ (y : List Statement). Header ∷ F v.count ∷ y) (sym (append_assoc v.steps (Output ∷ Conclude v.conclusion ∷ []) (Statement.End ∷ [])))

body_feeds : (v : Proof) → All IsStep v.steps → All HasFeed (body v)
body_feeds v h =
    All-cons HasFeed Header (F v.count ∷ (v.steps ++ Output ∷ Conclude v.conclusion ∷ [])) refl
    (All-cons HasFeed (F v.count) (v.steps ++ Output ∷ Conclude v.conclusion ∷ []) refl
    (All-append HasFeed v.steps (Output ∷ Conclude v.conclusion ∷ []) (All-weaker IsStep HasFeed (λ s k. grind (arith, s)) v.steps h)
    (All-cons HasFeed Output (Conclude v.conclusion ∷ []) refl (All-cons HasFeed (Conclude v.conclusion) [] refl (All-nil HasFeed)))))

proof-bytes : (v : Proof) → All IsStep v.steps → all_bytes (statements_of v) ≡ proof_bytes v
proof-bytes v h =
    ap all_bytes (body_is v) ∙ (bytes-feeds (body v) (Statement.End ∷ []) (body_feeds v h) ∙ (sym (lines-ended (body v) Statement.End []) ∙ ap lines (sym (body_is v))))

module _ (limit top : ℕ) where
  all_values : (v : Proof) → IsProofValue limit top v → All (IsStatementValue limit top) (statements_of v)
  all_values v h =
      let P : Statement → Type 0 = IsStatementValue limit top in
      All-cons P Header (F v.count ∷ (v.steps ++ Output ∷ Conclude v.conclusion ∷ Statement.End ∷ [])) tt
      (All-cons P (F v.count) (v.steps ++ Output ∷ Conclude v.conclusion ∷ Statement.End ∷ []) h.count
      (All-append P v.steps (Output ∷ Conclude v.conclusion ∷ Statement.End ∷ []) (All-weaker (λ s. IsStep s × P s) P (λ s k. k.1) v.steps h.steps)
      (All-cons P Output (Conclude v.conclusion ∷ Statement.End ∷ []) tt (All-cons P (Conclude v.conclusion) (Statement.End ∷ []) h.conclusion (All-cons P Statement.End [] tt (All-nil P))))))

  -- a text of these statements, with nothing between them
  record Lines (xs : List Statement) : Type 0 where
    items : List (Item Statement)
    spelled : AreSpelled limit top items
    events : events_of items ≡ xs
    bytes_are : bytes_of items ≡ all_bytes xs

  abbrev with_line : (x : Statement) (xs : List Statement) → Has (SpellsStatement limit top x) (line_bytes x) → Lines xs → Lines (x ∷ xs)
  with_line x xs h r =
      let i : Item Statement = record { gap = []; text = h.0; event = x } in
      record {
        items = i ∷ r.items;
        spelled = All-cons (λ i. IsGap i.gap × SpellsStatement limit top i.event i.text) i r.items ((Nothing, refl), h.1) r.spelled;
        events = ap (λ (y : List Statement). x ∷ y) r.events;
        bytes_are = bytes-append h.0 (letters_of r.items) ∙ ap₂ (λ (p q : List ℕ). p ++ q) h.2 r.bytes_are;
      }

  lines_of : limit < 2 ^ 127 → top < 2 ^ 63 → (xs : List Statement) → All (IsStatementValue limit top) xs → Lines xs
  lines_of small low [] h = record { items = []; spelled = All-nil (λ i. IsGap i.gap × SpellsStatement limit top i.event i.text); events = refl; bytes_are = refl }
  lines_of small low (x ∷ xs) h =
      with_line x xs (line_has limit small top low x (All-head (IsStatementValue limit top) x xs h))
      (lines_of small low xs (All-tail (IsStatementValue limit top) x xs h))

pub canonical_proof : CanonicalProof
canonical_proof limit top v small low h =
    let steps : All IsStep v.steps = All-weaker (λ s. IsStep s × IsStatementValue limit top s) IsStep (λ s k. k.0) v.steps h.steps in
    let rest : List Statement = F v.count ∷ (v.steps ++ Output ∷ Conclude v.conclusion ∷ Statement.End ∷ []) in
    let l : Lines limit top (statements_of v) = with_line limit top Header rest (line_has limit small top low Header tt)
    (lines_of limit top small low rest (All-tail (IsStatementValue limit top) Header rest (all_values limit top v h))) in
    (l.items, (v, (steps, l.events, refl, l.spelled)), l.bytes_are ∙ proof-bytes v steps, l.events)

-- A value that has a text meets the rules.

listed_values : {A : Type 0} (P : A → Language) (R : A → Type 0) → ((x : A) (t : List Letter) → P x t → R x) → (xs : List A) (t : List Letter) → Listed P xs t → All R xs
listed_values P R f [] t h = All-nil R
listed_values P R f (x ∷ xs) t (ab, c, e, (a, b, g, s, h), k) = All-cons R x xs (f x b h) (listed_values P R f xs c k)

literals_value : (ls : List Literal) (t : List Letter) → Listed SpellsLiteral ls t → AreLiterals ls
literals_value ls t h = listed_values SpellsLiteral (λ l. IsName l.name) (λ l u k. k.0) ls t h

id_value : (top : ℕ) (id : ℤ) (t : List Letter) → SpellsId top id t → IsId top id
id_value top id t (negative, n, h, k, e, rest) = subst (IsId top) (sym e) (grind (arith, negative, n))

factor_value : (limit : ℕ) (k : ℤ) (t : List Letter) → Factor limit k t → IsFactor limit k
factor_value limit k t (n, h, i, e, d) = subst (IsFactor limit) (sym e) (omega (arith, ints), omega (arith, ints))

bound_value : (limit : ℕ) (b : Bound) (t : List Letter) → SpellsBound limit b t → IsBound limit b
bound_value limit b t h = grind (arith, value-within)

module _ (limit top : ℕ) where
  id_shown_value : (id : Option ℤ) (t : List Letter) → IdShown limit top id t → IfGiven (IsId top) id
  id_shown_value id t h = grind (arith, id_value)

  word_value : (w : PolWord) (t : List Letter) → SpellsWord limit top w t → IsWord limit top w
  word_value w t h = grind (arith, id_value, factor_value)

  conclusion_value : (c : Conclusion) (t : List Letter) → SpellsConclusion limit top c t → IsConclusion limit top c
  conclusion_value c t h = grind (arith, id_shown_value, bound_value, literals_value)

  statement_value : (s : Statement) (t : List Letter) → SpellsStatement limit top s t → IsStatementValue limit top s
  statement_value (F count) t h = grind (arith, count)
  statement_value (Pol ws) t (a, b, e, w, (postfix, (c, d, f, h, k))) = (postfix, listed_values (SpellsWord limit top) (IsWord limit top) word_value ws c h)
  statement_value (Rup c) t (a, b, e, w, (relation, (x, y, f, (p, q, g, s, h), k))) = (relation, linear-within Blank limit c q h)
  statement_value (Soli ls) t (a, b, e, w, (c, d, f, h, k)) = literals_value ls c h
  statement_value (Solx ls) t (a, b, e, w, (c, d, f, h, k)) = literals_value ls c h
  statement_value (Delete ids) t (a, b, e, w, (some, (c, d, f, h, k))) = (some, listed_values (SpellsId top) (IsId top) (id_value top) ids c h)
  statement_value (Conclude c) t (a, b, e, w, (x, y, f, (p, q, g, s, h), k)) = conclusion_value c q h
  statement_value _ t h = tt

  pub events_values : (items : List (Item Statement)) → All (λ i. IsGap i.gap × SpellsStatement limit top i.event i.text) items → All (IsStatementValue limit top) (events_of items)
  events_values [] h = All-nil (IsStatementValue limit top)
  events_values (i ∷ items) h =
      let P : Item Statement → Type 0 = λ i. IsGap i.gap × SpellsStatement limit top i.event i.text in
      All-cons (IsStatementValue limit top) i.event (events_of items) (statement_value i.event i.text (All-head P i items h).1) (events_values items (All-tail P i items h))

pub statement_values : StatementValues
statement_values limit top s text h = statement_value limit top s text h

-- The ends of two equal lists.
module _ {A : Type 0} where
  ends_same : (xs ys : List A) (a b c d e f : A) → xs ++ a ∷ b ∷ c ∷ [] ≡ ys ++ d ∷ e ∷ f ∷ [] → (xs ≡ ys) × (b ≡ e)
  ends_same [] [] a b c d e f h = (refl, cc)
  ends_same [] (y ∷ ys) a b c d e f h = absurd (omega (arith, ap length h, length-append ys (d ∷ e ∷ f ∷ [])))
  ends_same (x ∷ xs) [] a b c d e f h = absurd (omega (arith, ap length h, length-append xs (a ∷ b ∷ c ∷ [])))
  ends_same (x ∷ xs) (y ∷ ys) a b c d e f h =
      let tails : xs ++ a ∷ b ∷ c ∷ [] ≡ ys ++ d ∷ e ∷ f ∷ [] = cc in
      let heads : x ≡ y = cc in let r : (xs ≡ ys) × (b ≡ e) = ends_same xs ys a b c d e f tails in (rw (heads, r.0) refl, r.1)

abbrev proof : Option ℕ → List Statement → Conclusion → Proof
proof count steps conclusion = record { count = count; steps = steps; conclusion = conclusion }

same_proof : (v w : Proof) → statements_of v ≡ statements_of w → v ≡ w
same_proof v w h = grind (arith, ends_same)

pub one_value : OneValue
one_value statements v w h k = same_proof v w (sym h ∙ k)

-- what holds of all of a list holds of both its parts
pub halves : (P : Statement → Type 0) (xs ys : List Statement) → All P (xs ++ ys) → All P xs × All P ys
halves P [] ys k = (All-nil P, k)
halves P (x ∷ xs) ys k =
    let r : All P xs × All P ys = halves P xs ys (All-tail P x (xs ++ ys) k) in (All-cons P x xs (All-head P x (xs ++ ys) k) r.0, r.1)

-- if the statements of a proof meet the rules, so does its value
parts_value : (limit top : ℕ) (v : Proof) → All IsStep v.steps → All (IsStatementValue limit top) (statements_of v) → IsProofValue limit top v
parts_value limit top v steps h =
    let P : Statement → Type 0 = IsStatementValue limit top in
    let rest : List Statement = Output ∷ Conclude v.conclusion ∷ Statement.End ∷ [] in
    let following : All P (F v.count ∷ (v.steps ++ rest)) = All-tail P Header (F v.count ∷ (v.steps ++ rest)) h in
    let both : All P v.steps × All P rest = halves P v.steps rest (All-tail P (F v.count) (v.steps ++ rest) following) in
    record {
      count = All-head P (F v.count) (v.steps ++ rest) following;
      steps = λ k d lt. (steps k d lt, both.0 k d lt);
      conclusion = All-head P (Conclude v.conclusion) (Statement.End ∷ []) (All-tail P Output (Conclude v.conclusion ∷ Statement.End ∷ []) both.1);
    }

pub proof_values : ProofValues
proof_values limit top items v (w, (steps, are, first, spelled)) h =
    let same : w ≡ v = same_proof w v (sym are ∙ h) in
    subst (IsProofValue limit top) same (parts_value limit top w steps (subst (All (IsStatementValue limit top)) are (events_values limit top items spelled)))

-- The statements that were read of a proof are its first ones, and they meet the rules.

abbrev following : List ℕ → Item Statement → List ℕ
following before i = before ++ (i.gap ++ bytes i.text)

-- statements after more than `n` bytes do not end within `n` bytes
later : (n : ℕ) (items : List (Item Statement)) (start : Option Place) (before : List ℕ) → n < length before → ended_within n (spans_since start before items) ≡ []
later n [] start before h = refl
later n (i ∷ rest) start before h =
    let more : n < length (following before i) = omega (arith, h, length-append before (i.gap ++ bytes i.text)) in
    rw (place_after-offset (following before i), lt-leb (length (following before i)) n more) (later n rest None (following before i) more)

-- statements that end within `n` bytes are the first ones
first_ones : (n : ℕ) (items : List (Item Statement)) (start : Option Place) (before : List ℕ)
    → (rest : List Statement) × (events_of items ≡ events_at (ended_within n (spans_since start before items)) ++ rest)
first_ones n [] start before = ([], refl)
first_ones n (i ∷ rest) start before = by_test (first_ones n rest None (following before i)) (nat_le (place_after (following before i)).offset n) refl
  where
    by_test : ((more : List Statement) × (events_of rest ≡ events_at (ended_within n (spans_since None (following before i) rest)) ++ more)) → (b : Bool) → nat_le (place_after (following before i)).offset n ≡ b
        → (more : List Statement) × (events_of (i ∷ rest) ≡ events_at (ended_within n (spans_since start before (i ∷ rest))) ++ more)
    by_test r true e = (r.0, rw e (ap (λ (x : List Statement). i.event ∷ x) r.1))
    by_test r false e =
        let h : n < length (following before i) = leb-false (length (following before i)) n (rw (place_after-offset (following before i)) at e) in
        (events_of (i ∷ rest), rw (e, later n rest None (following before i) h) refl)

module _ (limit top : ℕ) where
  -- the first events of a text
  begins : (items : List (Item Statement)) → IsProof limit top items → (es rest : List Statement) (all : Bool) → events_of items ≡ es ++ rest → (all ≡ true → rest ≡ []) → BeginProof limit top es all
  begins items (v, spelled) es rest all e whole = record {
    value = v;
    rest = rest;
    order = sym spelled.1 ∙ e;
    whole = whole;
    each = (halves (IsStatementValue limit top) es rest (subst (All (IsStatementValue limit top)) e (events_values limit top items spelled.3))).0;
    rules = proof_values limit top items v (v, spelled) spelled.1;
  }

  under_way : (longest : ℕ) (used : List ℕ) (spans : List (Spanned Statement)) → IsUnderWay (IsProof limit top) longest used spans → BeginProof limit top (events_at spans) false
  under_way longest used spans w =
      let (items, h, prefix) = w.viable in
      let seen : ended_within (length used) (spans_of items) ≡ spans = w.seen items h prefix in
      let r = first_ones (length used) items None [] in
      begins items h (events_at spans) r.0 false (r.1 ∙ ap (λ (x : List (Spanned Statement)). events_at x ++ r.0) seen) (λ e. absurd (false≢true e))

  whole : (longest : ℕ) (used : List ℕ) (spans : List (Spanned Statement)) → IsSpelled (IsProof limit top) longest used spans → BeginProof limit top (events_at spans) true
  whole longest used spans s =
      begins s.items s.spelled (events_at spans) [] true
      (sym (spans_events None [] s.items) ∙ (ap events_at (sym s.spans_are) ∙ sym (append-nil (events_at spans)))) (λ e. refl)

pub read_statements : ReadStatements
read_statements limit top longest input used spans place true stop r = whole limit top longest used spans r.answer.0
read_statements limit top longest input used spans place false None r = under_way limit top longest used spans r.answer.0
read_statements limit top longest input used spans place false (Some s) r = under_way limit top longest used spans r.answer.0

-- What is written reads back as the same value, if each text is of one proof only.

pub reads_back_of : ((limit top : ℕ) (items items' : List (Item Statement)) → IsProof limit top items → IsProof limit top items' → bytes_of items ≡ bytes_of items' → items ≡ items') → ReadsBack
reads_back_of alone limit top longest v m small low rules r =
    let (items, spells, bytes, value) = canonical_proof limit top v small low rules in
    let same = alone limit top r.spelled.items items r.spelled.spelled spells (r.spelled.used_are ∙ sym bytes) in
    one_value (events_of items) m.event v (subst (λ (x : List (Item Statement)). IsProofOf (events_of x) m.event) same r.value) value
