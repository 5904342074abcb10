use Rattle.pb_text.proofs.Common.{Ok, Feeder, Ghosts, spans_in, ℕ, ◌++◌, ◌+◌, ◌-◌, ◌<◌, ◌∙◌, ◌∷◌, ◌≡◌, ◌≢◌, ◌≤◌, [], ap, append-nil, append_assoc, arith, drop}
use Rattle.pb_text.proofs.Common.{get_or, length, length-drop, length-take, List, slice_get, Some, subst, sym, take, take-append-drop, take-length, None, Stop}
use Rattle.{pb_text.proofs.Common.Option, pb_text.proofs.Common.Stands, pb_text.proofs.lemmas.text.Spans.one_further, std.proofs.lemmas.Option.slice_get-get_or}
use Rattle.pb_text.proofs.lemmas.feeder.Steps.{passes, Reaches, stands_more, with_byte, with_more}
use Rattle.pb_text.specs.{contract.Feeding.bytes_with, contract.Feeding.FeedsOnce, declared.feeder.Fed.Fed}
use Rattle.pb_text.proofs.feeder.Feeder.feed.Goals as goal

whole : (input piece : List ℕ) (i : ℕ) → i < length piece → ((input ++ take i piece) ++ get_or piece i 0 ∷ []) ++ drop (i + 1) piece ≡ input ++ piece
whole input piece i h = grind (arith, one_further, append_assoc, take-append-drop)

-- the byte at an index
at_place : (piece : List ℕ) (old new i : ℕ) → new ≡ old + i → i < length piece → slice_get piece (new - old) ≡ Some (get_or piece i 0)
at_place piece old new i is h = let same : new - old ≡ i = omega (arith, is) in ap (λ (k : ℕ). slice_get piece k) same ∙ slice_get-get_or piece i 0 h

is_stopped : (now : Option Stop) (stop : Stop) → now ≡ Some stop → now ≡ None → ⊥
is_stopped now stop is none = cc (is, none)

-- a byte is left after a prefix of the rest
inside_of : (piece : List ℕ) (i n : ℕ) → i < length piece → n ≤ length (take (length piece - i) (drop i piece)) → i + n ≢ length piece → i + n < length piece
inside_of piece i n lt h ne = omega (arith, length-take (length piece - i) (drop i piece), length-drop i piece)

all_of : (piece : List ℕ) (i : ℕ) → i ≡ length piece → take i piece ≡ piece
all_of piece i e = ap (λ (k : ℕ). take k piece) e ∙ take-length piece

pub returns-in-Some-clause-feeds : goal.returns-in-Some-clause-feeds
returns-in-Some-clause-feeds g c = ((λ longest start input spans k s. (s.0, rw append-nil (stands_more s.1 c.args.piece.now k (λ e. cc)))), (λ k. k), (λ k. k), tt)

pub returns-then-is_done-clause-feeds : goal.returns-then-is_done-clause-feeds
returns-then-is_done-clause-feeds g c = (
  λ longest start input spans k s. (s.0, rw append-nil (stands_more s.1 c.args.piece.now k (λ e. sym c.if-is_done.ensures.done))),
  λ k. k,
  λ k. k,
  omega arith,
)

-- a feed that does not stop
feeds_once : {M E : Type 0} {g : Ghosts M E} (old new : Feeder M E g) (piece : List ℕ) (fed : Fed E)
    → Reaches old (bytes_with fed.event fed.used piece) (spans_in fed.event) new
    → new.stop ≡ None → new.place.offset ≡ old.place.offset + fed.used → FeedsOnce old piece (Ok fed) new
feeds_once old new piece fed r running further =
    ((λ longest start input spans k. r longest start input spans), (λ k. rw running tt), (λ k. rw running tt), further)

pub returns-in-Some-event-clause-feeds : goal.returns-in-Some-event-clause-feeds
returns-in-Some-event-clause-feeds g c =
    let fed = c.feed_prefix-fed in
    let stands = rw c.in-Some-event.is at fed.ensures.stands in
    rw (c.with_event.ensures, c.in-Some-event.event-is)
    (feeds_once c.args.self.now fed.new.self c.args.piece.now (record { used = c.loop-used.used + fed.result.used; event = Some c.in-Some-event.event })
    (with_more c.args.self.now c.loop-used.self fed.new.self c.args.piece.now c.loop-used.used (c.in-Some-event.event ∷ []) c.loop-used.invariant.stands fed.result.used stands)
    fed.ensures.running (omega (arith, fed.ensures.offset, c.loop-used.invariant.offset)))

pub returns-then-used-piece-clause-feeds : goal.returns-then-used-piece-clause-feeds
returns-then-used-piece-clause-feeds g c =
    let fed = c.feed_prefix-fed in
    let stands = rw c.in_default-event.is at fed.ensures.stands in
    let k = with_more c.args.self.now c.loop-used.self fed.new.self c.args.piece.now c.loop-used.used [] c.loop-used.invariant.stands fed.result.used stands in
    feeds_once c.args.self.now fed.new.self c.args.piece.now (record { used = c.loop-used.used + fed.result.used; event = None })
    (λ longest start input spans s. rw (all_of _ _ c.if-used-piece.true) at (k longest start input spans s))
    fed.ensures.running (omega (arith, fed.ensures.offset, c.loop-used.invariant.offset))

pub returns-in-Err-clause-feeds : goal.returns-in-Err-clause-feeds
returns-in-Err-clause-feeds g c = (
  λ longest start input spans counts s.
      let piece = c.args.piece.now in
      let i = c.loop-used.used + c.feed_prefix-fed.result.used in
      let there : i < length piece = inside_of piece c.loop-used.used c.feed_prefix-fed.result.used c.loop-used-test.true c.feed_prefix-fed.ensures.bound c.if-used-piece.false in
      let fed = c.feed_prefix-fed in
      let so_far = passes c.args.self.now fed.new.self _ (with_more c.args.self.now c.loop-used.self fed.new.self piece c.loop-used.used [] c.loop-used.invariant.stands fed.result.used (rw c.in_default-event.is at fed.ensures.stands)) in
      let t = rw c.in-Err.is at c.take.ensures in
      let n = c.take.new.self in
      let k = t.stands longest start (input ++ take i piece) spans (so_far longest start input spans s) in
      let m = stands_more k.1 (drop (i + 1) piece) t.counted (λ e. absurd (is_stopped n.stop _ t.stop e)) in (
        k.0,
        subst (λ (x : List ℕ). Stands g.M.Machine.automaton longest start x (spans ++ []) n.machine n.place n.first n.stop)
            (whole input piece i there) m,
      ),
  λ k. c.take.ensures.counted,
  λ k. let t = rw c.in-Err.is at c.take.ensures in rw t.stop t.unread,
  tt,
)

pub returns-in-Err-clause-memory : goal.returns-in-Err-clause-memory
returns-in-Err-clause-memory g c running = grind (arith, inside_of, c.loop-used-test.true, c.feed_prefix-fed.ensures.bound, c.if-used-piece.false, c.in-Err.is, c.take.ensures, c.feed_prefix-fed.ensures.offset, c.loop-used.invariant.offset, at_place)

pub returns-in-Ok-Some-clause-feeds : goal.returns-in-Ok-Some-clause-feeds
returns-in-Ok-Some-clause-feeds g c =
    let piece = c.args.piece.now in
    let i = c.loop-used.used + c.feed_prefix-fed.result.used in
    let there : i < length piece = inside_of piece c.loop-used.used c.feed_prefix-fed.result.used c.loop-used-test.true c.feed_prefix-fed.ensures.bound c.if-used-piece.false in
    let fed = c.feed_prefix-fed in
    let so_far = passes c.args.self.now fed.new.self _ (with_more c.args.self.now c.loop-used.self fed.new.self piece c.loop-used.used [] c.loop-used.invariant.stands fed.result.used (rw c.in_default-event.is at fed.ensures.stands)) in
    let t = rw (c.in-Ok-Some.is, c.in-Ok-Some.field-0-is) at c.take.ensures in
    rw c.with_event-in-Ok-Some.ensures (feeds_once c.args.self.now c.take.new.self piece (record { used = i + 1; event = Some c.in-Ok-Some.event })
    (with_byte c.args.self.now fed.new.self c.take.new.self piece i (c.in-Ok-Some.event ∷ []) so_far there t.stands)
    t.stop (omega (arith, t.offset, fed.ensures.offset, c.loop-used.invariant.offset)))

pub loop-used-preserved : goal.loop-used-preserved
loop-used-preserved g c =
    let piece = c.args.piece.now in
    let i = c.loop-used.used + c.feed_prefix-fed.result.used in
    let there : i < length piece = inside_of piece c.loop-used.used c.feed_prefix-fed.result.used c.loop-used-test.true c.feed_prefix-fed.ensures.bound c.if-used-piece.false in
    let t = rw (c.in-Ok-None.is, c.in-Ok-None.field-0-is) at c.take.ensures in
    let fed = c.feed_prefix-fed in
    let so_far = passes c.args.self.now fed.new.self _ (with_more c.args.self.now c.loop-used.self fed.new.self piece c.loop-used.used [] c.loop-used.invariant.stands fed.result.used (rw c.in_default-event.is at fed.ensures.stands)) in
    record {
      running = t.stop;
      unfinished = t.unfinished cc;
      state = t.state;
      bound = omega (arith, there);
      offset = omega (arith, t.offset, c.feed_prefix-fed.ensures.offset, c.loop-used.invariant.offset);
      stands = passes c.args.self.now c.take.new.self _ (with_byte c.args.self.now fed.new.self c.take.new.self piece i [] so_far there t.stands);
    }

pub returns-clause-feeds : goal.returns-clause-feeds
returns-clause-feeds g c =
    let whole : take c.loop-used.used c.args.piece.now ≡ c.args.piece.now = all_of _ _ (omega (arith, c.loop-used.invariant.bound, c.loop-used-test.false)) in
    feeds_once c.args.self.now c.loop-used.self c.args.piece.now (record { used = c.loop-used.used; event = None })
    (λ longest start input spans s. rw append-nil (rw whole at (c.loop-used.invariant.stands longest start input spans s)))
    c.loop-used.invariant.running c.loop-used.invariant.offset
