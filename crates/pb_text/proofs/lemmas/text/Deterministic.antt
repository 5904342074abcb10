-- A text has at most one list of statements. If nothing may follow a complete text, none is a proper prefix of another.
-- Offered to other crates.
use Rattle.pb_text.proofs.Common.{arith, Next, Refuse, ℕ, ◌++◌, ◌∙◌, ◌∷◌, ◌≡◌, [], append-nil, Bool, IsTrue, List, refl, sym, AcceptsItems, Automaton, bytes_of}
use Rattle.pb_text.proofs.Common.{Item, Letter}
use Rattle.pb_text.proofs.lemmas.machine.Residual.{After, Put, moved, has_first, accepts_none}

-- a letter can be prepended in one way
put_once : {E : Type 0} (inside : Bool) (l : Letter) (later items items' : List (Item E)) → Put inside l later items → Put inside l later items' → items ≡ items'
put_once inside l later items items' p q = grind arith

module _ {S E : Type 0} (m : Automaton S E) where
  -- the same statements, and nothing after them
  abbrev Same : List (Item E) → List (Item E) → List ℕ → Type 0
  Same items items' more = (items ≡ items') × (more ≡ [])

  -- nothing may follow a complete text
  abbrev pub Finishes : Type 0
  Finishes = (s : S) → IsTrue (m.done s) → (b : ℕ) → m.step s b ≡ Refuse

  -- what is known of shorter texts
  abbrev Known : List ℕ → Type 0
  Known bs = (s : S) (items items' : List (Item E)) (more : List ℕ) → AcceptsItems m s items → AcceptsItems m s items' → bytes_of items ≡ bs → bytes_of items' ≡ bs ++ more → Same items items' more

  by_first : (b : ℕ) (bs : List ℕ) → Known bs → (items items' : List (Item E)) (more : List ℕ) (n : Next S E) → After m n b items bs → After m n b items' (bs ++ more) → Same items items' more
  by_first b bs known items items' more n h k = grind (arith, put_once)

  module _ (finishes : Finishes) where
    -- If one accepted text is a prefix of another, both are the same statements.
    pub only_prefix : (bs : List ℕ) → Known bs
    only_prefix [] s [] items' more h k e g = grind (arith, accepts_none)
    only_prefix [] s (i ∷ rest) items' more h k e g = let first = has_first m s i rest h in absurd (let no = sym first.1.1 ∙ e in cc no)
    only_prefix (b ∷ bs) s items items' more h k e g =
        by_first b bs (only_prefix bs) items items' more (m.step s b) (moved m s b items bs h e) (moved m s b items' (bs ++ more) k g)

    pub one_spelling : (s : S) (items items' : List (Item E)) → AcceptsItems m s items → AcceptsItems m s items' → bytes_of items ≡ bytes_of items' → items ≡ items'
    one_spelling s items items' h k e =
        (only_prefix (bytes_of items) s items items' [] h k refl (sym e ∙ sym (append-nil (bytes_of items)))).0

    pub prefix_free : (s : S) (items items' : List (Item E)) (more : List ℕ) → AcceptsItems m s items → AcceptsItems m s items' → bytes_of items' ≡ bytes_of items ++ more → more ≡ []
    prefix_free s items items' more h k e = (only_prefix (bytes_of items) s items items' more h k refl e).1
