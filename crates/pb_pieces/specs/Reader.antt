-- How a reader of an instance or a proof relates to the text that it was fed.
use Rattle.{pb_opb.specs.declared.OpbEvent.OpbEvent, pb_opb.specs.meaning.Instances.IsInstance, pb_normal.specs.meaning.Names.with_names}
use Rattle.pb_text.specs.contract.{Automaton.AcceptsItems, Automaton.Automaton, Feeding.StandsAt, Feeding.halt_of, Feeding.is_complete, Feeding.place_of}
use Rattle.pb_text.specs.declared.{Feeder.Feeder, Limits.Limits, machine.Machine.Ghosts, place.Place.Place, place.Spanned.Spanned, place.Why.TheVariants.Memory}
use Rattle.{pb_text.specs.declared.place.Stop.Stop, std.specs.List.flat_map, pb_proof.specs.declared.Statement.Statement, pb_proof.specs.meaning.Proofs.IsProof}
use Rattle.pb_text.specs.meaning.{Limits.largest, Limits.top_of, Reading.EndsAs, Reading.Reads, Spelling.Item}
use Rattle.std.specs.Prelude.{◌≡◌, ◌⊎◌, ℕ, List, [], ◌∷◌, ◌++◌, map, take, Bool, Option, Some, None, Result}
use Rattle.pb_pieces.specs.{Given.Given, Given.given, declared.named_tokens.NamedTokens.NamedTokens, declared.tokenized.Tokenized.Ghosts as Statements}
use Rattle.pb_pieces.specs.{NamedTokens.names_of, NamedTokens.number_of, TokenReader.IsReading, Tokens.HoldTokens}
use Rattle.pb_pieces.specs.declared.reader.{Format.Format, Reader.Reader, Reader.TheVariants.Instance, Reader.TheVariants.Proof}
use Rattle.pb_pieces.specs.declared.token_reader.{Event.Event, Taken.Taken, TokenReader.TokenReader}
use Rattle.pb_opb.specs.engine.State as instances
use Rattle.pb_proof.specs.engine.machine.State as proofs
use Rattle.pb_pieces.specs.OpbTokens as opb
use Rattle.pb_pieces.specs.ProofTokens as proof
use Rattle.pb_pieces.specs.declared.reader.Format.TheVariants as format

abbrev pub opb_statements : Statements OpbEvent
opb_statements = record { sort = opb.kind_in; tokens = opb.tokens_in; text = opb.text_in }

abbrev pub proof_statements : Statements Statement
proof_statements = record { sort = proof.kind_in; tokens = proof.tokens_in; text = λ s. [] }

-- why it stopped, if it did
abbrev pub fault_of : Reader → Option Stop
fault_of (Instance r) = r.fault
fault_of (Proof r) = r.fault

-- the position of the next byte
abbrev pub place_in : Reader → Place
place_in (Instance r) = place_of r.feeder
place_in (Proof r) = place_of r.feeder

-- the tokens of the last statement
abbrev pub tokens_in : Reader → NamedTokens
tokens_in (Instance r) = r.tokens
tokens_in (Proof r) = r.tokens

-- the free text of the last statement
abbrev pub text_in : Reader → List ℕ
text_in (Instance r) = r.text.items
text_in (Proof r) = r.text.items

-- the names of these statements, in order
abbrev pub names_in : List Given → List (List ℕ)
names_in = flat_map (λ e. names_of e.tokens)

-- The event and the reader are those of this statement. Names are given by their numbers.
pub record IsShown (e : Given) (event : Event) (r : Reader) : Type 0 where
  pub kind_is : event.kind ≡ e.kind
  pub first_is : event.first ≡ e.first
  pub past_is : event.past ≡ e.past
  pub tokens_are : HoldTokens e.tokens (map (λ x. number_of (tokens_in r).names x.name) e.tokens) (tokens_in r).tokens
  pub text_is : text_in r ≡ e.text

-- the machines of an instance and of a proof that have begun nothing
abbrev pub new_instance : Limits → instances.OpbState
new_instance limits = instances.begin (largest limits) (top_of limits)

abbrev pub new_proof : Limits → proofs.ProofState
new_proof limits = proofs.begin (largest limits) (top_of limits)

-- What this machine reads is read as a text of the format. A feeder that began with it and stands at an input has read
-- that input.
pub record AreRead {M E : Type 0} (m : Automaton M E) (start : M) (format : List (Item E) → Type 0) : Type 0 where
  pub same : (longest : ℕ) (input used : List ℕ) (spans : List (Spanned E)) (place : Place) (done : Bool) (stop : Option Stop) →
      Reads (AcceptsItems m start) longest input used spans place done stop → Reads format longest input used spans place done stop
  pub standing : (longest : ℕ) (input : List ℕ) (spans : List (Spanned E)) (f : Feeder M E (record { automaton = m })) → StandsAt longest start input spans f →
      (used : List ℕ) × Reads format longest input used spans (place_of f) (is_complete f) (halt_of f)

module _ (longest : ℕ) where
  module _ {E : Type 0} (t : Statements E) (format : List (Item E) → Type 0) (fed : List ℕ) (events : List Given) where
    -- A read of the text gives these statements, the first ones of a text of the format, and this stop.
    pub record HasRead (stop : Option Stop) : Type 0 where
      pub spans : List (Spanned E)
      pub used : List ℕ
      pub place : Place
      pub done : Bool
      pub read : Reads format longest fed used spans place done stop
      pub events_are : events ≡ map (given t) spans

    -- The text ends here. It is one of the format with these statements, or it has ended too soon.
    pub record HasEnded (result : Result Unit Stop) : Type 0 where
      pub spans : List (Spanned E)
      pub used : List ℕ
      pub place : Place
      pub ends : EndsAs format longest fed used spans place result
      pub events_are : events ≡ map (given t) spans

    pub record IsGiving {M : Type 0} {g : Ghosts M E} (start : M) (r : TokenReader M E g) : Type 0 where
      pub read : HasRead None
      pub reading : IsReading t longest start fed read.spans r
      pub names_are : r.tokens.names ≡ with_names [] (names_in events)

  module _ (limits : Limits) (fed : List ℕ) (events : List Given) where
    abbrev pub HasReadAs : Format → Option Stop → Type 0
    HasReadAs format.Instance = HasRead opb_statements (IsInstance (largest limits) (top_of limits)) fed events
    HasReadAs format.Proof = HasRead proof_statements (IsProof (largest limits) (top_of limits)) fed events

    abbrev pub Ends : Format → Result Unit Stop → Type 0
    Ends format.Instance = HasEnded opb_statements (IsInstance (largest limits) (top_of limits)) fed events
    Ends format.Proof = HasEnded proof_statements (IsProof (largest limits) (top_of limits)) fed events

    -- The reader was fed this text, and has given these statements, the first ones of a text of the format. Their names
    -- are numbered in the order of their first appearance.
    abbrev pub IsReader : Format → Reader → Type 0
    IsReader format.Instance (Instance r) = IsGiving opb_statements (IsInstance (largest limits) (top_of limits)) fed events (new_instance limits) r
    IsReader format.Instance (Proof r) = ⊥
    IsReader format.Proof (Instance r) = ⊥
    IsReader format.Proof (Proof r) = IsGiving proof_statements (IsProof (largest limits) (top_of limits)) fed events (new_proof limits) r

  module _ (limits : Limits) (fed : List ℕ) (events : List Given) (f : Format) (piece : List ℕ) where
    abbrev pub GivesFor : Option Event → ℕ → Reader → Type 0
    GivesFor None used r = IsReader limits (fed ++ piece) events f r
    GivesFor (Some event) used r = (e : Given) × IsShown e event r × IsReader limits (fed ++ take used piece) (events ++ e ∷ []) f r

    -- what a feed gives: one more statement, which ends with the used bytes of the piece, or none in the whole piece
    abbrev pub GivesOne : Taken → Reader → Type 0
    GivesOne taken = GivesFor taken.event taken.used

    -- Why a feed stops: the text stops here, or memory ran out for the tokens of one more statement.
    abbrev pub StopsAt : Stop → Type 0
    StopsAt s =
        HasReadAs limits (fed ++ piece) events f (Some s)
        ⊎ ((s.why ≡ Memory) × (e : Given) × (used : ℕ) × (s.place ≡ e.first) × HasReadAs limits (fed ++ take used piece) (events ++ e ∷ []) f None)
