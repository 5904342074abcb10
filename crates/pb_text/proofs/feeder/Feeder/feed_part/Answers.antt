use Rattle.pb_text.proofs.{Common.◌∙◌, Common.append-nil, Common.arith, Common.refl, Common.sym, lemmas.feeder.Steps.prefix_taken, lemmas.feeder.Steps.with_byte}
use Rattle.pb_text.proofs.lemmas.feeder.Steps.{none_of}
use Rattle.pb_text.specs.contract.Feeding.{spans_in}
use Rattle.pb_text.proofs.feeder.Feeder.feed_part.Goals as goal

pub returns-then-fast-piece : goal.returns-then-fast-piece
returns-then-fast-piece g c =
    let fast = c.feed_fast-fast.ensures in rw c.requires.none (prefix_taken _ _ _ _ fast.bound fast.stands fast.offset fast.running fast.unfinished fast.state)

pub returns-then-is_some : goal.returns-then-is_some
returns-then-is_some g c =
    let fast = c.feed_fast-fast.ensures in
    let ends = sym c.is_some.ensures ∙ c.if-is_some.true in
    let t = rw ends at c.try_finish.ensures in
    record {
      bound = omega (arith, fast.bound, c.if-fast-piece.false);
      stands = with_byte c.args.self.now c.feed_fast-fast.new.self c.try_finish.new.self c.args.piece.now c.feed_fast-fast.result (spans_in c.try_finish.result) fast.stands (omega (arith, fast.bound, c.if-fast-piece.false)) t.stands;
      offset = omega (arith, t.offset, fast.offset);
      some = λ event h. omega arith;
      past = t.past;
      running = t.running;
      unfinished = t.unfinished;
      state = t.state;
    }

pub returns-else-is_some : goal.returns-else-is_some
returns-else-is_some g c =
    let fast = c.feed_fast-fast.ensures in
    let none = none_of c.try_finish.result (sym c.is_some.ensures ∙ c.if-is_some.false) in
    let t = rw none at c.try_finish.ensures in
    rw none (prefix_taken _ _ _ _ fast.bound
    (λ longest start input spans s. rw (append-nil, append-nil) at (t.stands longest start _ spans (fast.stands longest start input spans s)))
    (omega (arith, t.offset, fast.offset)) t.running (t.unfinished refl) t.state)
