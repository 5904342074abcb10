-- Consecutive pulls are a read. Offered to other crates.
use Rattle.pb_text.proofs.Common.{ℕ, ◌++◌, ◌∙◌, ◌∷◌, ◌≡◌, [], ap, append-nil, append_assoc, ap₂, arith, Bool, Err, false, IsTrue, length, length-append, List}
use Rattle.pb_text.proofs.Common.{None, Ok, Option, refl, Result, Some, subst, subst₂, sym, take, true, take-append_seam, append_cancel_left, AcceptsItems}
use Rattle.pb_text.proofs.Common.{Automaton, Leads, MayAsk, is_complete, stop_of, Halts, Stands, Waits, Feeder, Ghosts, Place, Spanned, Stop, Why, end_of}
use Rattle.pb_text.proofs.Common.{Pulls, Took, HasPulled, PullsOn, Reads, bytes, Letter, IsAsking}
use Rattle.pb_text.proofs.lemmas.{feeder.Reported.stands_reads, text.Short.place_after-offset}

-- what was taken before, and what was taken now
pub took_join : (a b c : Option (List ℕ)) (x y s t : List ℕ) → Took a x s b → Took b y t c → Took a (x ++ y) t c
took_join a b c x y s t h k = grind (arith, append_assoc)

pub same_prefix : (a b x y : List ℕ) → a ++ x ≡ b ++ y → length a ≡ length b → a ≡ b
same_prefix a b x y e n = sym (take-append_seam a x) ∙ (ap₂ (λ (k : ℕ) (z : List ℕ). take k z) n e ∙ take-append_seam b y)

-- a machine that stopped is not done
pub halted : {S E : Type 0} (m : Automaton S E) (state : S) (end : ℕ) (letters : List Letter) (left : List ℕ) (place : Place) (stop : Option Stop) (halt : Stop) → stop ≡ Some halt → Waits m state end letters left place stop → (m.done state ≡ false) × (halt.place ≡ place) × Halts m state end letters left halt.why
halted m state end letters left place stop halt e w = grind arith

-- a machine that stopped out of memory was at a byte that may allocate
pub asking : {S E : Type 0} (m : Automaton S E) (may_ask : List ℕ → ℕ → Type 0) (state : S) (end : ℕ) (letters : List Letter) (used seen left : List ℕ) (why : Why) → left ≡ seen → ((b : ℕ) → IsTrue (m.asks state b) → may_ask used b)
    → Halts m state end letters left why → IsAsking may_ask used seen why
asking m may_ask state end letters used seen left why e may h = grind arith

module _ {M E : Type 0} {g : Ghosts M E} {longest : ℕ} {start : M} {before now after : Option (List ℕ)} {spans : List (Spanned E)} {old new : Feeder M E g} {given given' : List ℕ} (h : HasPulled longest start before spans old now) where
  module _ {result : Result (Option (Spanned E)) Stop} (p : Pulls longest start h.used spans old now result new after given given') where
    abbrev pub all : List ℕ
    all = h.used ++ p.taken

    pub took : Took before all p.seen after
    took = took_join before now after h.used p.taken h.seen p.seen h.took p.took

    pub offset_is : new.place.offset ≡ length all
    offset_is = omega (arith, p.offset_is, h.offset_is, length-append h.used p.taken)

    -- what the machine has taken is what was taken from the source
    letters_are : (input left : List ℕ) (after_spans : List (Spanned E)) (s : Stands g.automaton longest start input after_spans new.machine new.place new.first new.stop) → input ≡ all ++ left → bytes s.letters ≡ all
    letters_are input left after_spans s e = grind (arith, same_prefix, place_after-offset, offset_is)

    reads_now : (input left : List ℕ) (after_spans : List (Spanned E)) → Stands g.automaton longest start input after_spans new.machine new.place new.first new.stop → input ≡ all ++ left → (done : Bool) → done ≡ is_complete new
        → Reads (AcceptsItems g.automaton start) longest input all after_spans new.place done new.stop
    reads_now input left after_spans s e done is =
        subst (λ (x : List ℕ). Reads (AcceptsItems g.automaton start) longest input x after_spans new.place done new.stop) (letters_are input left after_spans s e)
        (stands_reads s done is)

  -- after an event
  abbrev pub pulled_on : (m : Spanned E) (p : Pulls longest start h.used spans old now (Ok (Some m)) new after given given') → new.stop ≡ None → HasPulled longest start before (spans ++ m ∷ []) new after
  pulled_on m p running = record { used = all p; seen = p.seen; took = took p; offset_is = offset_is p; stands = p.stands; running = running }

  pub reads_event : (m : Spanned E) (p : Pulls longest start h.used spans old now (Ok (Some m)) new after given given') → new.stop ≡ None → m.past ≡ new.place
      → Reads (AcceptsItems g.automaton start) longest (all p) (all p) (spans ++ m ∷ []) m.past (is_complete new) None
  reads_event m p running past =
      subst₂ (λ (q : Place) (o : Option Stop). Reads (AcceptsItems g.automaton start) longest (all p) (all p) (spans ++ m ∷ []) q (is_complete new) o) (sym past) running
      (reads_now p (all p) [] (spans ++ m ∷ []) p.stands.1 (sym (append-nil (all p))) (is_complete new) refl)

  pub reads_done : (p : Pulls longest start h.used spans old now (Ok None) new after given given') → new.stop ≡ None → is_complete new ≡ true
      → Reads (AcceptsItems g.automaton start) longest (all p ++ p.seen) (all p) spans new.place true None
  reads_done p running done =
      let s : Stands g.automaton longest start (all p ++ p.seen) spans new.machine new.place new.first new.stop = rw (append-nil, ← append_assoc h.used p.taken p.seen) at p.stands.1 in
      subst (λ (o : Option Stop). Reads (AcceptsItems g.automaton start) longest (all p ++ p.seen) (all p) spans new.place true o) running (reads_now p (all p ++ p.seen) p.seen spans s refl true (sym done))

  pub reads_stopped : (stop : Stop) (p : Pulls longest start h.used spans old now (Err stop) new after given given') → new.stop ≡ Some stop
      → Reads (AcceptsItems g.automaton start) longest (all p ++ p.seen) (all p) spans stop.place false (Some stop) × IsAsking (MayAsk g.automaton start) (all p) p.seen stop.why
  reads_stopped stop p halts =
      let s : Stands g.automaton longest start (all p ++ p.seen) spans new.machine new.place new.first new.stop = rw (append-nil, ← append_assoc h.used p.taken p.seen) at p.stands.1 in
      let used = letters_are p (all p ++ p.seen) p.seen spans s refl in
      let w = halted g.automaton new.machine (end_of longest new.first) s.letters s.left new.place new.stop stop halts s.waits in
      let left : s.left ≡ p.seen = append_cancel_left (all p) s.left p.seen (ap (λ (x : List ℕ). x ++ s.left) (sym used) ∙ sym s.input_is) in (
        subst₂ (λ (q : Place) (o : Option Stop). Reads (AcceptsItems g.automaton start) longest (all p ++ p.seen) (all p) spans q false o) (sym w.1) halts (reads_now p (all p ++ p.seen) p.seen spans s refl false (sym w.0)),
        asking g.automaton (MayAsk g.automaton start) new.machine (end_of longest new.first) s.letters (all p) p.seen s.left stop.why left (λ b k. (new.machine, subst (λ (x : List ℕ). Leads g.automaton start x new.machine) used s.leads, k)) w.2,
      )

-- the result of one more pull
pub row : {M E : Type 0} {g : Ghosts M E} {given given' : List ℕ} (longest : ℕ) (start : M) (before now after : Option (List ℕ)) (spans : List (Spanned E)) (old new : Feeder M E g) (h : HasPulled longest start before spans old now)
    → (result : Result (Option (Spanned E)) Stop) → Pulls longest start h.used spans old now result new after given given' → new.stop ≡ stop_of result → (result ≡ Ok None → is_complete new ≡ true)
    → ((m : Spanned E) → result ≡ Ok (Some m) → m.past ≡ new.place) → PullsOn longest start before spans result new after
row longest start before now after spans old new h (Ok (Some m)) p stop last past =
    (pulled_on h m p stop, record { used = all h p; seen = p.seen; took = took h p; done = is_complete new; reads = reads_event h m p stop (past m refl) })
row longest start before now after spans old new h (Ok None) p stop last past =
    record { used = all h p; seen = p.seen; took = took h p; reads = reads_done h p stop (last refl) }
row longest start before now after spans old new h (Err s) p stop last past =
    let r = reads_stopped h s p stop in (record { used = all h p; seen = p.seen; took = took h p; reads = r.0 }, r.1)
