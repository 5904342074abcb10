-- What a session was fed, with one more piece.
use Rattle.pb_pieces.proofs.Common.{ℕ, ◌++◌, ◌+◌, ◌-◌, ◌<◌, ◌^◌, ◌∙◌, ◌∷◌, ◌≡◌, ◌≢◌, ◌≤◌, [], add-zero, ap, append-nil, append_assoc, arith, Bool, cond, drop}
use Rattle.pb_pieces.proofs.Common.{false, inl, inr, length, length-append, List, min, None, Ok, Option, refl, Result, Some, subst, sym, take, true}
use Rattle.pb_pieces.proofs.Common.{drop-append-add, drop-length, drop-append-le, drop-take, Statement, IsProof, Fault, Problem, first_state, State}
use Rattle.pb_pieces.proofs.Common.{place_after-offset, is_complete, Limits, Place, Spanned, largest, top_of, Answers, Reads, Item, reported, Checking}
use Rattle.pb_pieces.proofs.Common.{TextsAreRead, AllocatesAt, bytes_to, ChecksAt, CountsAt, CountsOnce, fault_of, is_whole, MayGoOn, place_in, CheckFault}
use Rattle.pb_pieces.proofs.{Common.IsProofText, Common.IsRejected, Common.IsRunning, Common.IsSession, Common.Stands, Common.Session, Faults.so_far}
use Rattle.{pb_proof.specs.contract.Formats.PrefixFree, pb_tool.proofs.lemmas.check.OneRead.one_spelt, pb_tool.specs.declared.commands.check.checker.Went.Went}
use Rattle.{pb_text.specs.declared.place.Why.TheVariants.Memory as no_memory, pb_pieces.proofs.Faults.AcceptedBy, pb_pieces.proofs.Faults.refused_here}
use Rattle.pb_tool.specs.declared.commands.check.checker.CheckFault.TheVariants as check

-- ---- what is read of a longer text
module _ (free : PrefixFree) (limits : Limits) (longest : ℕ) where
  abbrev AProof : List (Item Statement) → Type 0
  AProof = IsProof (largest limits) (top_of limits)

  -- a whole proof stays the same, however the text goes on
  same_used : (fed piece used used' : List ℕ) (spans spans' : List (Spanned Statement)) (place place' : Place) (done' : Bool)
      → Reads AProof longest fed used spans place true None → Reads AProof longest (fed ++ piece) used' spans' place' done' None → used ≡ used'
  same_used fed piece used used' spans spans' place place' true r r' =
      let s = r.answer.0 in
      let s' = r'.answer.0 in
      one_spelt AProof (λ items items' more h h' e. free (largest limits) (top_of limits) items items' more h h' e) used (r.left ++ piece) used' r'.left s.items s'.items
      (sym (append_assoc used r.left piece) ∙ (ap (λ (x : List ℕ). x ++ piece) (sym r.input_is) ∙ r'.input_is)) s.spelled s'.spelled s.used_are s'.used_are
  same_used fed piece used used' spans spans' place place' false r r' =
      let s = r.answer.0 in
      let whole : used' ≡ fed ++ piece = sym (append-nil used') ∙ (ap (λ (x : List ℕ). used' ++ x) (sym r'.answer.1) ∙ sym r'.input_is) in
      let joined = whole ∙ (ap (λ (x : List ℕ). x ++ piece) r.input_is ∙ (append_assoc used r.left piece ∙ ap (λ (x : List ℕ). x ++ (r.left ++ piece)) (sym s.used_are))) in
      absurd (r'.answer.0.unfinished s.items s.spelled (r.left ++ piece, joined))

  -- what follows the used bytes
  after_used : (fed piece used used' : List ℕ) (spans spans' : List (Spanned Statement)) (place place' : Place) (done done' : Bool) (n : ℕ)
      → Reads AProof longest fed used spans place done None → Reads AProof longest (fed ++ piece) used' spans' place' done' None
      → place'.offset ≡ place.offset + n → drop place'.offset (fed ++ piece) ≡ drop place.offset fed ++ drop n piece
  after_used fed piece used used' spans spans' place place' true done' n r r' moved =
      let at : place.offset ≡ length used = ap (λ (p : Place). p.offset) r.place_is ∙ place_after-offset used in
      let at' : place'.offset ≡ length used' = ap (λ (p : Place). p.offset) r'.place_is ∙ place_after-offset used' in
      let same = same_used fed piece used used' spans spans' place place' done' r r' in
      let none : n ≡ 0 = omega (arith, at, at', moved, ap length same) in
      ap (λ (k : ℕ). drop k (fed ++ piece)) (at' ∙ sym (ap length same))
      ∙ (ap (λ (x : List ℕ). drop (length used) (x ++ piece)) r.input_is
      ∙ (drop-append-le (length used) (used ++ r.left) piece (omega (arith, length-append used r.left)) ∙ (ap (λ (x : List ℕ). drop (length used) x ++ piece) (sym r.input_is)
      ∙ (ap (λ (k : ℕ). drop k fed ++ piece) (sym at) ∙ ap (λ (k : ℕ). drop place.offset fed ++ drop k piece) (sym none)))))
  after_used fed piece used used' spans spans' place place' false done' n r r' moved =
      let at : place.offset ≡ length used = ap (λ (p : Place). p.offset) r.place_is ∙ place_after-offset used in
      let all : fed ≡ used = r.input_is ∙ (ap (λ (x : List ℕ). used ++ x) r.answer.1 ∙ append-nil used) in
      let here : place.offset ≡ length fed = at ∙ sym (ap length all) in
      ap (λ (k : ℕ). drop k (fed ++ piece)) (moved ∙ ap (λ (k : ℕ). k + n) here)
      ∙ (drop-append-add fed piece n ∙ sym (ap (λ (x : List ℕ). x ++ drop n piece) (ap (λ (k : ℕ). drop k fed) here ∙ drop-length fed)))

-- ---- a session
goes_on : (c : Checking) → fault_of c ≡ None → MayGoOn (fault_of c)
goes_on c none = subst MayGoOn (sym none) tt

-- what follows the bytes that a step took
after_taken : (b : Bool) (used : ℕ) (piece : List ℕ) → drop used (bytes_to b used piece) ≡ cond b [] (drop used piece)
after_taken true used piece = ap (λ (k : ℕ). drop used (take k piece)) (sym (add-zero used)) ∙ drop-take used 0 piece
after_taken false used piece = refl

-- a statement has a byte, so there are no more statements than bytes
one_each : (b : Bool) (a o u : ℕ) → a ≤ o → (b ≡ true → 0 < u) → a + cond b 1 0 ≤ o + u
one_each true a o u few some = omega (arith, few, some refl)
one_each false a o u few some = omega (arith, few)

counted : (b : Bool) (a o n : ℕ) → a + cond b 1 0 ≤ o → o ≤ 2 ^ 40 → n ≡ cond b (min (a + 1) (2 ^ 64 - 1)) a → n ≡ a + cond b 1 0
counted true a o n few reach is = omega (arith, few, reach, is)
counted false a o n few reach is = omega (arith, is)

some_left : (f p u l u' l' o o' w : ℕ) → f ≡ u + l → f + p ≡ u' + l' → o ≡ u → o' ≡ u' → o' ≡ o + w → w < p → 0 < l'
some_left f p u l u' l' o o' w before after at at' moved short = omega (arith, before, after, at, at', moved, short)

not_empty : (xs : List ℕ) → 0 < length xs → xs ≢ []
not_empty [] h = absurd (let no : ⊥ = omega (arith, h) in no)
not_empty (x ∷ xs) h = λ e. absurd (cc e)

-- more is left of a proof only if it is complete
whole_by : (format : List (Item Statement) → Type 0) (longest : ℕ) (used left : List ℕ) (spans : List (Spanned Statement)) (place : Place) (done : Bool) → Answers format longest used left spans place done None → left ≢ [] → done ≡ true
whole_by format longest used left spans place true h some = refl
whole_by format longest used left spans place false (under, none) some = absurd (some none)

module _ (limits : Limits) (longest : ℕ) where
  -- what was rejected stays so, however the text goes on
  rejected_more : (v : Problem) (fed piece : List ℕ) (n : ℕ) (f : CheckFault) → IsRejected limits longest v fed n f → IsRejected limits longest v (fed ++ piece) n f
  rejected_more v fed piece n f (seen, more, is, faulty) = (seen, more ++ piece, ap (λ (x : List ℕ). x ++ piece) is ∙ append_assoc seen more piece, faulty)

  module _ (i fed : List ℕ) where
    pub running : (old : Session) → old.fault ≡ None → (s : IsSession limits longest i fed old) → IsRunning limits longest s.problem fed old
    running old none s = subst (λ (x : Option CheckFault). Stands limits longest s.problem fed x old) none s.stands

    pub faulty : (old : Session) (f : CheckFault) → old.fault ≡ Some f → (s : IsSession limits longest i fed old) → IsRejected limits longest s.problem fed old.accepted f
    faulty old f is s = subst (λ (x : Option CheckFault). Stands limits longest s.problem fed x old) is s.stands

    -- the instance, and how the session stands now
    pub with_stands : (more : List ℕ) (old new : Session) (s : IsSession limits longest i fed old) (x : Option CheckFault) → new.fault ≡ x → Stands limits longest s.problem more x new → IsSession limits longest i more new
    with_stands more old new s x is stands = record {
      instance = s.instance;
      file = s.file;
      problem = s.problem;
      opened = s.opened;
      stands = subst (λ (y : Option CheckFault). Stands limits longest s.problem more y new) (sym is) stands;
    }

    pub fed_again : (piece : List ℕ) (old : Session) (f : CheckFault) → old.fault ≡ Some f → IsSession limits longest i fed old → IsSession limits longest i (fed ++ piece) old
    fed_again piece old f is s = with_stands (fed ++ piece) old old s (Some f) is (rejected_more s.problem fed piece old.accepted f (faulty old f is s))

-- ---- one step
module _ (limits : Limits) (longest : ℕ) (i fed : List ℕ) (old : Session) (none : old.fault ≡ None) (s : IsSession limits longest i fed old) (mid : Checking) where
  abbrev First : Result State Fault
  First = Ok (first_state s.problem)

  abbrev now : IsRunning limits longest s.problem fed old
  now = running limits longest i fed old none s

  counts_now : (taken : List ℕ) (k : ℕ) → CountsOnce old.checker taken k mid → CountsAt limits longest s.problem First (fed ++ taken) (old.accepted + k) mid
  counts_now taken k once = once.0 limits longest s.problem First fed old.accepted (goes_on old.checker now.running) now.counts

  -- the checker rejects the piece
  pub fed_rejected : (piece : List ℕ) (new : Session) (f : CheckFault) → CountsOnce old.checker piece 0 mid → fault_of mid ≡ Some f
      → ((l : Limits) (n : ℕ) (v : Problem) (first : Result State Fault) (input : List ℕ) → fault_of old.checker ≡ None → ChecksAt l n v first input old.checker → AllocatesAt l (input ++ piece) f)
      → new.fault ≡ Some f → new.accepted ≡ old.accepted → IsSession limits longest i (fed ++ piece) new
  fed_rejected piece new f once is asks at same =
      let counts = counts_now piece 0 once in
      let here = refused_here limits longest s.problem (fed ++ piece) (old.accepted + 0) mid f is counts (asks limits longest s.problem First fed now.running now.counts.0) in
      with_stands limits longest i fed (fed ++ piece) old new s (Some f) at
      (subst (λ (k : ℕ). IsRejected limits longest s.problem (fed ++ piece) k f) (add-zero old.accepted ∙ sym same) (fed ++ piece, [], sym (append-nil (fed ++ piece)), inl here))

  -- the count is exact
  module _ (w : Went) (moved : (place_in mid).offset ≡ (place_in old.checker).offset + w.used) (onward : w.accepted ≡ true → 0 < w.used) (reach : (place_in mid).offset ≤ 2 ^ 40) (new : Session) where
    few_now : old.accepted + cond w.accepted 1 0 ≤ (place_in mid).offset
    few_now = omega (arith, moved, one_each w.accepted old.accepted (place_in old.checker).offset w.used now.few onward)

    pub exactly : new.accepted ≡ cond w.accepted (min (old.accepted + 1) (2 ^ 64 - 1)) old.accepted → new.accepted ≡ old.accepted + cond w.accepted 1 0
    exactly = counted w.accepted old.accepted (place_in mid).offset new.accepted few_now reach

  module _ (read : TextsAreRead) (piece : List ℕ) (w : Went) (running_now : fault_of mid ≡ None) (moved : (place_in mid).offset ≡ (place_in old.checker).offset + w.used) (onward : w.accepted ≡ true → 0 < w.used) (reach : (place_in mid).offset ≤ 2 ^ 40) (new : Session) where
    -- what follows the proof is stored
    pub went_on : PrefixFree → CountsOnce old.checker (bytes_to w.accepted w.used piece) (cond w.accepted 1 0) mid → new.checker ≡ mid → new.fault ≡ old.fault
        → new.accepted ≡ cond w.accepted (min (old.accepted + 1) (2 ^ 64 - 1)) old.accepted → new.rest.items ≡ old.rest.items ++ cond w.accepted [] (drop w.used piece)
        → IsSession limits longest i (fed ++ bytes_to w.accepted w.used piece) new
    went_on free once same kept many grown =
        let taken = bytes_to w.accepted w.used piece in
        let counts = counts_now taken (cond w.accepted 1 0) once in
        let (used, before) = reported read limits longest s.problem First fed old.checker.feeder old.checker.replay old.checker.fault now.running now.counts.0 in
        let (used', after) = reported read limits longest s.problem First (fed ++ taken) mid.feeder mid.replay mid.fault running_now counts.0 in
        let rest : new.rest.items ≡ drop (place_in mid).offset (fed ++ taken) =
        grown ∙ (ap (λ (x : List ℕ). old.rest.items ++ x) (sym (after_taken w.accepted w.used piece)) ∙ (ap (λ (x : List ℕ). x ++ drop w.used taken) now.rest_is
        ∙ sym (after_used free limits longest fed taken used used' _ _ (place_in old.checker) (place_in mid) (is_complete old.checker.feeder) (is_complete mid.feeder) w.used before after moved))) in
        with_stands limits longest i fed (fed ++ taken) old new s None (kept ∙ none) (record {
          counts = subst (λ (c : Checking). CountsAt limits longest s.problem First (fed ++ taken) new.accepted c) (sym same) (subst (λ (k : ℕ). CountsAt limits longest s.problem First (fed ++ taken) k mid) (sym (exactly w moved onward reach new many)) counts);
          running = ap (λ (c : Checking). fault_of c) same ∙ running_now;
          few = subst (λ (c : Checking). new.accepted ≤ (place_in c).offset) (sym same) (omega (arith, exactly w moved onward reach new many, few_now w moved onward reach new));
          rest_is = rest ∙ ap (λ (c : Checking). drop (place_in c).offset (fed ++ taken)) (sym same);
        })

    -- there is no memory for what follows the proof
    pub unstored : CountsOnce old.checker (bytes_to w.accepted w.used piece) (cond w.accepted 1 0) mid → w.accepted ≡ false → w.used < length piece → (f : CheckFault) → f ≡ check.Text (record { place = place_in mid; why = no_memory })
        → new.fault ≡ Some f → new.accepted ≡ cond w.accepted (min (old.accepted + 1) (2 ^ 64 - 1)) old.accepted → IsSession limits longest i (fed ++ piece) new
    unstored once quiet short f is at many =
        let counts = counts_now piece (cond w.accepted 1 0) (subst (λ (x : List ℕ). CountsOnce old.checker x (cond w.accepted 1 0) mid) (ap (λ (b : Bool). bytes_to b w.used piece) quiet) once) in
        let (left_before, last_before, before, fed_is, before_at, before_answer) = so_far limits longest s.problem read fed old.accepted old.checker now.running now.counts in
        let (left, last, all, all_is, all_at, all_answer) = so_far limits longest s.problem read (fed ++ piece) (old.accepted + cond w.accepted 1 0) mid running_now counts in
        let more : 0 < length left = some_left (length fed) (length piece) (length before.0.took.used) (length left_before) (length all.0.took.used) (length left) (place_in old.checker).offset (place_in mid).offset w.used
        (ap (λ (x : List ℕ). length x) fed_is ∙ length-append before.0.took.used left_before) (sym (length-append fed piece) ∙ (ap (λ (x : List ℕ). length x) all_is ∙ length-append all.0.took.used left))
        (ap (λ (p : Place). p.offset) before_at ∙ place_after-offset before.0.took.used) (ap (λ (p : Place). p.offset) all_at ∙ place_after-offset all.0.took.used) moved short in
        let done = whole_by (IsProofText limits) longest all.0.took.used left all.0.spans (place_in mid) (is_whole mid) all_answer (not_empty left more) in
        let whole = subst (λ (b : Bool). AcceptedBy limits longest s.problem (fed ++ piece) left (place_in mid) b last (old.accepted + cond w.accepted 1 0)) done all in
        with_stands limits longest i fed (fed ++ piece) old new s (Some f) at (fed ++ piece, [], sym (append-nil (fed ++ piece)), inr (place_in mid, last, left, whole.0, not_empty left more, whole.1 ∙ sym (exactly w moved onward reach new many), is))
