-- Lists, letters and spans. Offered to other crates.
use Rattle.pb_text.proofs.Common.{ℕ, ◌++◌, ◌+◌, ◌<◌, ◌∙◌, ◌∷◌, ◌≡◌, [], ap, append-nil, append_assoc, Bool, drop, false, get_or, length, List, None, arith}
use Rattle.pb_text.proofs.Common.{Option, sym, take, drop_more, length-map, take_more, opened, Place, Spanned, bytes, Item, Letter, letters_of, place_after}
use Rattle.pb_text.proofs.{Common.place_or, Common.spans_since, lemmas.machine.Residual.Put, lemmas.machine.Residual.PutLast}

pub length-bytes : (ls : List Letter) → length (bytes ls) ≡ length ls
length-bytes ls = length-map ls (λ (l : Letter). l.byte)

-- a list as a prefix, the element read at an index, and the rest
module _ {A : Type 0} (xs : List A) (i : ℕ) (d x : A) (lt : i < length xs) (e : x ≡ get_or xs i d) where
  pub take_read : take (i + 1) xs ≡ take i xs ++ x ∷ []
  take_read = take_more xs i d lt ∙ ap (λ (y : A). take i xs ++ y ∷ []) (sym e)

  pub drop_read : drop i xs ≡ x ∷ drop (i + 1) xs
  drop_read = drop_more xs i d lt ∙ ap (λ (y : A). y ∷ drop (i + 1) xs) (sym e)

-- how a letter advances the spans
pub record Advances {E : Type 0} (put : List (Item E) → List (Item E) → Type 0) (l : Letter) (before : List ℕ) (first : Option Place) (new : List (Spanned E)) (first' : Option Place) : Type 0 where
  pub letters_are : (later items : List (Item E)) → put later items → letters_of items ≡ l ∷ letters_of later
  pub spans_are : (later items : List (Item E)) → put later items → spans_since first before items ≡ new ++ spans_since first' (before ++ l.byte ∷ []) later

put_letters : {E : Type 0} (inside : Bool) (l : Letter) → (inside ≡ false → l.numeral ≡ false) → (later items : List (Item E)) → Put inside l later items → letters_of items ≡ l ∷ letters_of later
put_letters inside l out later items h = grind arith

pub put_spans : {E : Type 0} (inside : Bool) (l : Letter) (before : List ℕ) (first : Option Place) (later items : List (Item E)) → Put inside l later items
    → spans_since first before items ≡ spans_since (opened first inside (place_after before)) (before ++ l.byte ∷ []) later
put_spans inside l before first later items h = grind (arith, append_assoc, append-nil)

pub put_advances : {E : Type 0} (inside : Bool) (l : Letter) (before : List ℕ) (first : Option Place) → (inside ≡ false → l.numeral ≡ false) → Advances {E = E} (Put inside l) l before first [] (opened first inside (place_after before))
put_advances inside l before first out = grind (arith, put_letters, put_spans)

-- the span of a statement that ends with this letter
abbrev pub span : {E : Type 0} → Option Place → List ℕ → ℕ → E → Spanned E
span first before b e = record { event = e; first = place_or first (place_after before); past = place_after (before ++ b ∷ []) }

pub last_advances : {E : Type 0} (l : Letter) (e : E) (before : List ℕ) (first : Option Place) → Advances {E = E} (PutLast l e) l before first (span first before l.byte e ∷ []) None
last_advances l e before first = grind (arith, append-nil)
