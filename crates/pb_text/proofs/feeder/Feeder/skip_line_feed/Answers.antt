use Rattle.pb_text.proofs.Common.{ℕ, ◌<◌, ◌==◌, ◌∙◌, ◌∷◌, ◌≡◌, [], arith, false, get_or, length, List, sym, take}
use Rattle.pb_text.proofs.lemmas.feeder.Steps.{prefix_taken}
use Rattle.pb_text.proofs.feeder.Feeder.skip_line_feed.Goals as goal

has_first : (piece : List ℕ) → (length piece == 0) ≡ false → 0 < length piece
has_first piece h = grind arith

-- the first byte is a line feed
first_taken : (piece : List ℕ) → 0 < length piece → get_or piece 0 0 ≡ 10 → take 1 piece ≡ 10 ∷ []
first_taken piece h e = grind arith

pub returns-then-try_continue : goal.returns-then-try_continue
returns-then-try_continue g c =
    let piece = c.args.piece.now in let t = c.if-try_continue.ensures in
    let some : 0 < length piece = has_first piece (sym c.is_empty.ensures ∙ c.if-is_empty.false) in
    prefix_taken c.args.self.now c.try_continue.new.self piece 1 (omega (arith, some))
    (λ longest start input spans s. rw (first_taken piece some c.if-piece-ne10.false) (t.stands longest start input spans s))
    t.offset t.running t.unfinished t.state

pub returns-else-try_continue : goal.returns-else-try_continue
returns-else-try_continue g c =
    let t = c.if-try_continue.ensures in prefix_taken c.args.self.now c.try_continue.new.self _ 0 (omega arith) t.stands t.offset t.running t.unfinished t.state
