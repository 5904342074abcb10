-- In all texts that begin with the same prefix, the spans that end within it are the same. Offered to other crates.
use Rattle.pb_text.proofs.Common.{spans_since, Next, Go, End, Refuse, ℕ, ◌++◌, ◌+◌, ◌∙◌, ◌∷◌, ◌≡◌, [], ap, arith, cond, false, length, length-append, List}
use Rattle.pb_text.proofs.lemmas.{feeder.Reported.not_ended, machine.Residual.After, machine.Residual.letter, machine.Residual.moved, machine.Residual.has_text}
use Rattle.pb_text.proofs.Common.{nat_le, None, Option, sym, AcceptsItems, Automaton, opened, Place, Spanned, ended_within, HasFixedSpans, bytes_of, Item}
use Rattle.pb_text.proofs.{Common.place_after, lemmas.text.Lists.span, lemmas.text.Lists.put_spans, lemmas.text.Lists.last_advances}

module _ {S E : Type 0} (m : Automaton S E) where
  -- one more span prepended
  with_span : (n : ℕ) (q : Spanned E) (xs ys : List (Spanned E)) → ended_within n xs ≡ ended_within n ys → ended_within n (q ∷ xs) ≡ ended_within n (q ∷ ys)
  with_span n q xs ys h = ap (λ (z : List (Spanned E)). cond (nat_le q.past.offset n) (q ∷ z) z) h

  -- what is known of shorter prefixes
  abbrev Known : List ℕ → Type 0
  Known prefix = (s : S) (first : Option Place) (before : List ℕ) (items items' : List (Item E)) (rest rest' : List ℕ) (n : ℕ) → AcceptsItems m s items → AcceptsItems m s items' → bytes_of items ≡ prefix ++ rest → bytes_of items' ≡ prefix ++ rest' → n ≡ length before + length prefix
      → ended_within n (spans_since first before items) ≡ ended_within n (spans_since first before items')

  module _ (b : ℕ) (prefix : List ℕ) (known : Known prefix) (first : Option Place) (before : List ℕ) (items items' : List (Item E)) (rest rest' : List ℕ) (n : ℕ) (is : n ≡ length before + length (b ∷ prefix)) where
    longer : n ≡ length (before ++ b ∷ []) + length prefix
    longer = omega (arith, is, length-append before (b ∷ []))

    both : (o : Next S E) → After m o b items (prefix ++ rest) → After m o b items' (prefix ++ rest') → ended_within n (spans_since first before items) ≡ ended_within n (spans_since first before items')
    both (Go next) (later, p, a, e) (later', q, k, g) =
        ap (ended_within n) (put_spans (m.begun next) (letter m b next) before first later items p)
        ∙ (known next (opened first (m.begun next) (place_after before)) (before ++ b ∷ []) later later' rest rest' n a k e g longer
        ∙ ap (ended_within n) (sym (put_spans (m.begun next) (letter m b next) before first later' items' q)))
    both (End x next) (later, p, a, e) (later', q, k, g) =
        let v = last_advances (record { byte = b; numeral = false }) x before first in
        ap (ended_within n) (v.spans_are later items p)
        ∙ (with_span n (span first before b x) _ _ (known next None (before ++ b ∷ []) later later' rest rest' n a k e g longer)
        ∙ ap (ended_within n) (sym (v.spans_are later' items' q)))
    both Refuse h k = absurd h

  -- no statement has ended before its first byte
  none_yet : (s : S) (first : Option Place) (before : List ℕ) (items : List (Item E)) (n : ℕ) → AcceptsItems m s items → n ≡ length before + length {A = ℕ} [] → ended_within n (spans_since first before items) ≡ []
  none_yet s first before items n a is =
      let same : n ≡ length before = omega (arith, is) in
      ap (λ (k : ℕ). ended_within k (spans_since first before items)) same
      ∙ not_ended (AcceptsItems m s) (λ i later h. has_text m h.0 h.1 i.text i.event h.3) first before items a

  seen : (prefix : List ℕ) → Known prefix
  seen [] s first before items items' rest rest' n a a' e e' is = grind (arith, none_yet)
  seen (b ∷ prefix) s first before items items' rest rest' n a a' e e' is =
      both b prefix (seen prefix) first before items items' rest rest' n is (m.step s b) (moved m s b items (prefix ++ rest) a e) (moved m s b items' (prefix ++ rest') a' e')

  pub fixed_spans : (start : S) → HasFixedSpans (AcceptsItems m start)
  fixed_spans start prefix items items' a a' f f' = seen prefix start None [] items items' f.0 f'.0 (length prefix) a a' f.1 f'.1 (omega arith)
