-- Lines of reasons, one after another.
use Rattle.pb_proof.specs.declared.PolWord.{PolWord}
use Rattle.pb_trace.proofs.Common.{ℕ, ◌++◌, ◌≡◌, [], append-nil, append_assoc, Err, inl, inr, List, Ok, Option, refl, Result, codes, IsErr, AreDistinct}
use Rattle.pb_trace.proofs.Common.{Linear, writes_then, Broke, Failed, Writes, Wrote, live_in, derivation_bytes, Known, IsShownIn}
use Rattle.pb_trace.proofs.Common.{AreAround, AreBefore, ArePieces, AreReasons, IsText, IsUnshown, IsWhy, More, Nothing, piece_bytes, Rejects, Seen}
use Rattle.pb_trace.proofs.Common.{Silence, words_of, WritesBefore, WritesPieces, WritesReasons, WritesShown, WritesSome, broken_by, end_of, Reasons}
use Rattle.pb_trace.{proofs.Common.Stored, proofs.Texts.broke_append, proofs.Texts.texts, specs.Rejected.Then, specs.declared.broken.Broken.Broken}
use Rattle.pb_trace.specs.declared.broken.Broken.TheVariants as broken
use Rattle.pb_trace.specs.declared.{piece.Derivation.Derivation, piece.Lines.Lines, piece.Piece.Piece, reasons.Scene.Scene, stored.Constraints.Constraints}

module _ (known : Known) where
  joined : (x y : List ℕ) → AreReasons known x → AreReasons known y → AreReasons known (x ++ y)
  joined x _ h Silence = rw append-nil h
  joined x _ h (More text line are is) = rw (← append_assoc x text (codes "  " ++ (line ++ codes "\n"))) (More (x ++ text) line (joined x text h are) is)

  pieces_joined : (x y : List ℕ) → ArePieces known x → ArePieces known y → ArePieces known (x ++ y)
  pieces_joined x _ h Nothing = rw append-nil h
  pieces_joined x _ h (Then text piece are) = rw (← append_assoc x text (piece_bytes known piece)) (Then (x ++ text) piece (pieces_joined x text h are))

-- a fault
module _ {S : Type 0} (contents : S → Option (List ℕ)) (faults : S → ℕ) (p : List ℕ → Type 0) where
  pub some_broke : (a b : S) (r : Result Unit Failed) (f : Failed) → IsErr r → WritesSome contents faults p a (Err f) b → WritesSome contents faults p a r b
  some_broke a b (Ok u) f i h = absurd (cc i)
  some_broke a b (Err e) f i h = h

module _ {S : Type 0} (contents : S → Option (List ℕ)) (faults : S → ℕ) (known : Known) where
  pub one_piece : (a b : S) (piece : Piece) (r : Result Unit Failed) → Writes contents faults a (piece_bytes known piece) r b → WritesPieces contents faults known a r b
  one_piece a b piece r h = ([] ++ piece_bytes known piece, Then [] piece Nothing, h)

  -- some parts, and then others with their result
  pub pieces_then : (a b c : S) (r : Result Unit Failed) → WritesPieces contents faults known a (Ok tt) b
      → WritesPieces contents faults known b r c → WritesPieces contents faults known a r c
  pieces_then a b c r (x, are, h) (y, others, k) = (x ++ y, pieces_joined known x y are others, writes_then contents faults a b c x y r h k)

  -- some reasons, and then others with their result
  pub reasons_then : (a b c : S) (r : Result Unit Failed) → WritesReasons contents faults known a (Ok tt) b
      → WritesReasons contents faults known b r c → WritesReasons contents faults known a r c
  reasons_then a b c r (x, are, h) (y, others, k) = (x ++ y, joined known x y are others, writes_then contents faults a b c x y r h k)

  -- a line: two spaces, its parts, a line feed
  one : (line : List ℕ) → ArePieces known line → AreReasons known (codes "  " ++ (line ++ codes "\n"))
  one line are = More [] line Silence are

  pub line_cut : (a b : S) (r : Result Unit Failed) (f : Failed) → IsErr r → Writes contents faults a (codes "  ") (Err f) b → WritesReasons contents faults known a r b
  line_cut a b r f e h = (codes "  " ++ ([] ++ codes "\n"), one [] Nothing, broke_append contents faults a b (codes "  ") (codes "\n") r h e)

  pub pieces_cut : (a b c : S) (r : Result Unit Failed) (f : Failed) → IsErr r → Writes contents faults a (codes "  ") (Ok tt) b
      → WritesPieces contents faults known b (Err f) c → WritesReasons contents faults known a r c
  pieces_cut a b c r f e h (x, are, k) = (
    codes "  " ++ (x ++ codes "\n"),
    one x are,
    writes_then contents faults a b c (codes "  ") (x ++ codes "\n") r h (broke_append contents faults b c x (codes "\n") r k e),
  )

  pub line_end : (a b c d : S) (r : Result Unit Failed) → Writes contents faults a (codes "  ") (Ok tt) b → WritesPieces contents faults known b (Ok tt) c
      → Writes contents faults c (codes "\n") r d → WritesReasons contents faults known a r d
  line_end a b c d r h (x, are, k) l =
      (codes "  " ++ (x ++ codes "\n"), one x are, writes_then contents faults a b d (codes "  ") (x ++ codes "\n") r h (writes_then contents faults b c d x (codes "\n") r k l))

  -- a derivation between lines
  around : (before : Option Lines) (d : Derivation) (x y : List ℕ) → AreBefore known before x → AreReasons known y → AreAround known before d (x ++ (derivation_bytes known d ++ y))
  around before d x y first after = record { first = x; rest = y; begins = first; ends = after; whole = refl }

  pub before_cut : (before : Option Lines) (d : Derivation) (a b : S) (r : Result Unit Failed) (f : Failed) → IsErr r → WritesBefore contents faults known before a (Err f) b
      → WritesShown contents faults known before d a r b
  before_cut before d a b r f e (x, are, h) =
      (x ++ (derivation_bytes known d ++ []), around before d x [] are Silence, broke_append contents faults a b x _ r h e)

  pub derivation_cut : (before : Option Lines) (d : Derivation) (a b c : S) (r : Result Unit Failed) (f : Failed) → IsErr r → WritesBefore contents faults known before a (Ok tt) b
      → Writes contents faults b (derivation_bytes known d) (Err f) c → WritesShown contents faults known before d a r c
  derivation_cut before d a b c r f e (x, are, h) k = (
    x ++ (derivation_bytes known d ++ []),
    around before d x [] are Silence,
    writes_then contents faults a b c x _ r h (broke_append contents faults b c (derivation_bytes known d) [] r k e),
  )

  pub shown_end : (before : Option Lines) (d : Derivation) (a b c e : S) (r : Result Unit Failed) → WritesBefore contents faults known before a (Ok tt) b
      → Writes contents faults b (derivation_bytes known d) (Ok tt) c → WritesReasons contents faults known c r e → WritesShown contents faults known before d a r e
  shown_end before d a b c e r (x, are, h) k (y, others, l) = (
    x ++ (derivation_bytes known d ++ y),
    around before d x y are others,
    writes_then contents faults a b e x (derivation_bytes known d ++ y) r h (writes_then contents faults b c e (derivation_bytes known d) y r k l),
  )

-- what is known, from a scene that has it
pub why_of : (seen : Seen) (s : Scene) (c : Constraints) (stored : List Stored) (loaded : ℕ) (lines : List ℕ) (words : List PolWord) (reasons : Reasons)
    → stored ≡ c.forms.items → live_in c.forms.items ≡ seen.live → lines ≡ seen.lines → words ≡ words_of seen.statement
    → s.limits ≡ seen.limits → (AreDistinct seen.names → s.names ≡ seen.names) → s.constraints.now ≡ c
    → ((goal : Linear) → IsUnshown seen.statement seen.fault goal → IsShownIn s goal reasons)
    → (x : List ℕ) → IsText (record { names = seen.names; stored = stored; loaded = loaded; lines = lines; words = words }) reasons x → IsWhy seen x
why_of seen s c stored loaded lines words reasons same live known_lines known_words limits names constraints shown x are = record {
  known = record { names = seen.names; stored = stored; loaded = loaded; lines = lines; words = words };
  reasons = reasons;
  live = rw same live;
  names = refl;
  lines = known_lines;
  words = known_words;
  written = are;
  shown = λ goal unshown distinct. rw (← limits, ← names distinct, same, ← constraints) (shown goal unshown);
}

-- the reasons of a rejection, after some bytes
module _ {S : Type 0} (contents : S → Option (List ℕ)) (faults : S → ℕ) (seen : Seen) where
  pub start_broke : (start : List ℕ) (a b : S) (r : Result Unit Broken) → r ≡ Err broken.Write → Broke contents faults a start b
      → Rejects contents faults start a seen (end_of (broken_by r)) b
  start_broke start a b r is h = rw is (inl h)

  pub reasons_cut : (a b : S) (p : List ℕ → Type 0) (r : Result Unit Broken) (f : Failed) → r ≡ Err broken.Write → ((x : List ℕ) → p x → IsWhy seen x)
      → WritesSome contents faults p a (Err f) b → Rejects contents faults [] a seen (end_of (broken_by r)) b
  reasons_cut a b p r f is why (x, are, k) = rw is (inr (x, why x are, k))

  pub all_reasons : (a b : S) (p : List ℕ → Type 0) → ((x : List ℕ) → p x → IsWhy seen x)
      → WritesSome contents faults p a (Ok tt) b → Rejects contents faults [] a seen (Ok tt) b
  all_reasons a b p why (x, are, k) = (x, why x are, k)

  -- other bytes before them
  pub after_start : (start : List ℕ) (a b c : S) (r : Result Unit Broken) → Wrote contents faults a start b
      → Rejects contents faults [] b seen (end_of (broken_by r)) c → Rejects contents faults start a seen (end_of (broken_by r)) c
  after_start start a b c (Ok u) h (x, why, k) = (x, why, writes_then contents faults a b c start x (Ok tt) h k)
  after_start start a b c (Err broken.Memory) h k = rw append-nil at (writes_then contents faults a b c start [] (Ok tt) h k)
  after_start start a b c (Err broken.Write) h (inl k) = inl (rw append-nil at (writes_then contents faults a b c start [] (Err record {}) h k))
  after_start start a b c (Err broken.Write) h (inr (x, why, k)) = inr (x, why, writes_then contents faults a b c start x (Err record {}) h k)

pub ruleset reasons = (one_piece, texts)
