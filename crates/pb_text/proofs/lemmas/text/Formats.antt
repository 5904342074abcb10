-- What holds of a read under a format also holds under a format with the same texts. Offered to other crates.
use Rattle.pb_text.proofs.Common.{arith, ℕ, ◌++◌, ◌∷◌, [], Bool, List, Option, Place, Spanned, Stop, Why, Byte, Ended, Memory, Read, TooLarge, TooLong, Answers}
use Rattle.pb_text.proofs.Common.{Explains, IsBad, IsFull, IsSpelled, IsUnderWay, Reads, Viable, Item}

module _ {E : Type 0} (one other : List (Item E) → Type 0) (to : (items : List (Item E)) → one items → other items) (from : (items : List (Item E)) → other items → one items) (longest : ℕ) where
  pub viable : (prefix : List ℕ) → Viable one prefix → Viable other prefix
  viable prefix (items, h, k) = (items, to items h, k)

  is_full : (prefix : List ℕ) → IsFull one longest prefix → IsFull other longest prefix
  is_full prefix h = grind arith

module _ {E : Type 0} (one other : List (Item E) → Type 0) (to : (items : List (Item E)) → one items → other items) (from : (items : List (Item E)) → other items → one items) (longest : ℕ) where
  is_under_way : (used : List ℕ) (spans : List (Spanned E)) → IsUnderWay one longest used spans → IsUnderWay other longest used spans
  is_under_way used spans u = grind (arith, viable)

  is_bad : (used : List ℕ) (b : ℕ) → IsBad one longest used b → IsBad other longest used b
  is_bad used b bad = grind (arith, viable, is_full)

  explains : (used left : List ℕ) (why : Why) → Explains one longest used left why → Explains other longest used left why
  explains used left (Byte b) (more, e, bad, h) = (more, e, is_bad used b bad, λ d k. h d (λ items f. k items (to items f)))
  explains used left TooLarge (b, more, e, bad, d, h) = (b, more, e, is_bad used b bad, d, λ items f. h items (from items f))
  explains used left TooLong (e, f) = (e, is_full one other to from longest used f)
  explains used left Ended h = h
  explains used left Read h = tt
  explains used left Memory (b, more, e, v, room) =
      (b, more, e, viable one other to from longest (used ++ b ∷ []) v, λ f. room (is_full other one from to longest used f))

  abbrev pub is_spelled : (used : List ℕ) (spans : List (Spanned E)) → IsSpelled one longest used spans → IsSpelled other longest used spans
  is_spelled used spans s = record { items = s.items; spelled = to s.items s.spelled; used_are = s.used_are; spans_are = s.spans_are; within = s.within; short = s.short }

  answers : (used left : List ℕ) (spans : List (Spanned E)) (place : Place) (done : Bool) (stop : Option Stop) → Answers one longest used left spans place done stop → Answers other longest used left spans place done stop
  answers used left spans place done stop a = grind (arith, is_under_way, explains)

  pub reads : (input used : List ℕ) (spans : List (Spanned E)) (place : Place) (done : Bool) (stop : Option Stop) → Reads one longest input used spans place done stop → Reads other longest input used spans place done stop
  reads input used spans place done stop r = record { left = r.left; input_is = r.input_is; place_is = r.place_is; answer = answers used r.left spans place done stop r.answer }
