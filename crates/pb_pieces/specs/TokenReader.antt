-- How a reader relates to the text that it was fed.
use Rattle.pb_pieces.specs.{NamedTokens.AreTokens, NamedTokens.names_of, NamedTokens.number_of, Tokens.Token, declared.tokenized.Tokenized.Ghosts as Statements}
use Rattle.{pb_pieces.specs.Tokens.HoldTokens, pb_text.specs.contract.Feeding.StandsAt, pb_text.specs.contract.Feeding.halt_of, std.specs.List.flat_map}
use Rattle.pb_pieces.specs.declared.token_reader.{Event.Event, Taken.Taken, TokenReader.TokenReader}
use Rattle.pb_text.specs.declared.{machine.Machine.Ghosts, place.Spanned.Spanned, place.Stop.Stop, place.Why.TheVariants.Memory}
use Rattle.std.specs.Prelude.{◌≡◌, ◌⊎◌, ℕ, List, [], ◌∷◌, ◌++◌, map, take, Option, Some, None}

-- the names of these statements, in order
abbrev pub names_in : {E : Type 0} → Statements E → List (Spanned E) → List (List ℕ)
names_in t = flat_map (λ m. names_of (t.tokens m.event))

module _ {M E : Type 0} {g : Ghosts M E} (t : Statements E) where
  -- The reader began with this machine and limits statements to longest bytes. It was fed this text, and has given these
  -- statements. Their names are numbered in the order of their first appearance.
  pub record IsReading (longest : ℕ) (start : M) (fed : List ℕ) (spans : List (Spanned E)) (r : TokenReader M E g) : Type 0 where
    pub stands : StandsAt longest start fed spans r.feeder
    pub running : halt_of r.feeder ≡ None
    pub seen : List (List ℕ)
    pub current : List Token
    pub holds : AreTokens seen current r.tokens
    pub names_are : seen ++ names_of current ≡ names_in t spans

  -- The event and the free text of the reader are those of this statement.
  pub record IsShown (m : Spanned E) (event : Event) (r : TokenReader M E g) : Type 0 where
    pub kind_is : event.kind ≡ t.sort m.event
    pub first_is : event.first ≡ m.first
    pub past_is : event.past ≡ m.past
    pub text_is : r.text.items ≡ t.text m.event

  -- The reader has the tokens of this statement. Names are given by their numbers.
  abbrev pub HoldsTokens : Spanned E → TokenReader M E g → Type 0
  HoldsTokens m r = HoldTokens (t.tokens m.event) (map (λ x. number_of r.tokens.names x.name) (t.tokens m.event)) r.tokens.tokens

  module _ (longest : ℕ) (start : M) (fed : List ℕ) (spans : List (Spanned E)) (piece : List ℕ) where
    -- what a feed gives: one more statement, which ends with the used bytes of the piece, or none in the whole piece
    abbrev pub GivesFor : Option Event → ℕ → TokenReader M E g → Type 0
    GivesFor None used r = IsReading longest start (fed ++ piece) spans r
    GivesFor (Some event) used r = (m : Spanned E) × IsShown m event r × HoldsTokens m r × IsReading longest start (fed ++ take used piece) (spans ++ m ∷ []) r

    abbrev pub Gives : Taken → TokenReader M E g → Type 0
    Gives taken r = GivesFor taken.event taken.used r

    -- why a feed stops: the text stops here, or memory ran out for one more statement
    abbrev pub Stops : Stop → TokenReader M E g → Type 0
    Stops s r =
        (StandsAt longest start (fed ++ piece) spans r.feeder × (halt_of r.feeder ≡ Some s))
        ⊎ ((s.why ≡ Memory) × (m : Spanned E) × (used : ℕ) × (s.place ≡ m.first) × StandsAt longest start (fed ++ take used piece) (spans ++ m ∷ []) r.feeder × (halt_of r.feeder ≡ None))
