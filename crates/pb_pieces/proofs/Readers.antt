-- What a reader of an instance or of a proof gives.
use Rattle.pb_pieces.proofs.Common.{ℕ, Err, IfErr, IfOk, List, None, Ok, Option, Result, Some, OpbEvent, opb, OpbState, IsInstance, Statement, proofs}
use Rattle.pb_pieces.proofs.Common.{ProofState, IsProof, AcceptsItems, Limits, Place, Spanned, Stop, largest, top_of, EndsAs, Given, given, AreRead, Ends}
use Rattle.pb_pieces.proofs.Common.{GivesFor, GivesOne, IsReader, new_instance, new_proof, opb_statements, proof_statements, StopsAt, Gives, IsReading, Stops}
use Rattle.pb_pieces.proofs.{Common.Event, Common.TokenReader, Giving.Next, Giving.ended, Giving.next, Giving.stops}
use Rattle.pb_pieces.specs.declared.{reader.Format.Format, reader.Reader.TheVariants.Instance, reader.Reader.TheVariants.Proof, token_reader.Taken.Taken}
use Rattle.pb_pieces.specs.declared.reader.Format.TheVariants as format

module _ (limits : Limits) (longest : ℕ) (fed : List ℕ) (events : List Given) (piece : List ℕ) where
  -- a reader of an instance
  module _ (are : AreRead opb (new_instance limits) (IsInstance (largest limits) (top_of limits))) where
    pub instance_gives : (f : Format) (r new : TokenReader OpbState OpbEvent (record { automaton = opb })) (result : Result Taken Stop) → IsReader longest limits fed events f (Instance r)
        → ((spans : List (Spanned OpbEvent)) → IsReading opb_statements longest (new_instance limits) fed spans r → IfOk result (λ taken. Gives opb_statements longest (new_instance limits) fed spans piece taken new))
        → IfOk result (λ taken. GivesOne longest limits fed events f piece taken (Instance new))
    instance_gives format.Instance r new (Err s) h gives = tt
    instance_gives format.Instance r new (Ok taken) h gives =
        to taken.event (next opb opb_statements (IsInstance (largest limits) (top_of limits)) (new_instance limits) are longest fed events piece h.read.spans taken.event taken.used new h.read.events_are (gives h.read.spans h.reading))
      where
        to : (event : Option Event) → Next opb opb_statements (IsInstance (largest limits) (top_of limits)) (new_instance limits) are longest fed events piece event taken.used new → GivesFor longest limits fed events format.Instance piece event taken.used (Instance new)
        to None n = n
        to (Some event) (e, shown, tokens, n) =
            (given opb_statements e, record { kind_is = shown.kind_is; first_is = shown.first_is; past_is = shown.past_is; tokens_are = tokens; text_is = shown.text_is }, n)
    instance_gives format.Proof r new result h gives = absurd h

    pub instance_stops : (f : Format) (r new : TokenReader OpbState OpbEvent (record { automaton = opb })) (result : Result Taken Stop) → IsReader longest limits fed events f (Instance r)
        → ((spans : List (Spanned OpbEvent)) → IsReading opb_statements longest (new_instance limits) fed spans r → IfErr result (λ s. Stops opb_statements longest (new_instance limits) fed spans piece s new))
        → IfErr result (λ s. StopsAt longest limits fed events f piece s)
    instance_stops format.Instance r new (Ok taken) h gives = tt
    instance_stops format.Instance r new (Err s) h gives =
        stops opb opb_statements (IsInstance (largest limits) (top_of limits)) (new_instance limits) are longest fed events piece h.read.spans s new h.read.events_are (gives h.read.spans h.reading)
    instance_stops format.Proof r new result h gives = absurd h

    pub instance_ends : (f : Format) (r : TokenReader OpbState OpbEvent (record { automaton = opb })) (place : Place) (result : Result Unit Stop) → IsReader longest limits fed events f (Instance r)
        → ((spans : List (Spanned OpbEvent)) → IsReading opb_statements longest (new_instance limits) fed spans r → (used : List ℕ) × EndsAs (AcceptsItems opb (new_instance limits)) longest fed used spans place result)
        → Ends longest limits fed events f result
    instance_ends format.Instance r place result h ends =
        let (used, ended_so) = ends h.read.spans h.reading in
        ended opb opb_statements (IsInstance (largest limits) (top_of limits)) (new_instance limits) are longest fed used events h.read.spans place result h.read.events_are ended_so
    instance_ends format.Proof r place result h ends = absurd h

  -- a reader of a proof
  module _ (are : AreRead proofs (new_proof limits) (IsProof (largest limits) (top_of limits))) where
    pub proof_gives : (f : Format) (r new : TokenReader ProofState Statement (record { automaton = proofs })) (result : Result Taken Stop) → IsReader longest limits fed events f (Proof r)
        → ((spans : List (Spanned Statement)) → IsReading proof_statements longest (new_proof limits) fed spans r → IfOk result (λ taken. Gives proof_statements longest (new_proof limits) fed spans piece taken new))
        → IfOk result (λ taken. GivesOne longest limits fed events f piece taken (Proof new))
    proof_gives format.Proof r new (Err s) h gives = tt
    proof_gives format.Proof r new (Ok taken) h gives =
        to taken.event (next proofs proof_statements (IsProof (largest limits) (top_of limits)) (new_proof limits) are longest fed events piece h.read.spans taken.event taken.used new h.read.events_are (gives h.read.spans h.reading))
      where
        to : (event : Option Event) → Next proofs proof_statements (IsProof (largest limits) (top_of limits)) (new_proof limits) are longest fed events piece event taken.used new → GivesFor longest limits fed events format.Proof piece event taken.used (Proof new)
        to None n = n
        to (Some event) (e, shown, tokens, n) =
            (given proof_statements e, record { kind_is = shown.kind_is; first_is = shown.first_is; past_is = shown.past_is; tokens_are = tokens; text_is = shown.text_is }, n)
    proof_gives format.Instance r new result h gives = absurd h

    pub proof_stops : (f : Format) (r new : TokenReader ProofState Statement (record { automaton = proofs })) (result : Result Taken Stop) → IsReader longest limits fed events f (Proof r)
        → ((spans : List (Spanned Statement)) → IsReading proof_statements longest (new_proof limits) fed spans r → IfErr result (λ s. Stops proof_statements longest (new_proof limits) fed spans piece s new))
        → IfErr result (λ s. StopsAt longest limits fed events f piece s)
    proof_stops format.Proof r new (Ok taken) h gives = tt
    proof_stops format.Proof r new (Err s) h gives =
        stops proofs proof_statements (IsProof (largest limits) (top_of limits)) (new_proof limits) are longest fed events piece h.read.spans s new h.read.events_are (gives h.read.spans h.reading)
    proof_stops format.Instance r new result h gives = absurd h

    pub proof_ends : (f : Format) (r : TokenReader ProofState Statement (record { automaton = proofs })) (place : Place) (result : Result Unit Stop) → IsReader longest limits fed events f (Proof r)
        → ((spans : List (Spanned Statement)) → IsReading proof_statements longest (new_proof limits) fed spans r → (used : List ℕ) × EndsAs (AcceptsItems proofs (new_proof limits)) longest fed used spans place result)
        → Ends longest limits fed events f result
    proof_ends format.Proof r place result h ends =
        let (used, ended_so) = ends h.read.spans h.reading in
        ended proofs proof_statements (IsProof (largest limits) (top_of limits)) (new_proof limits) are longest fed used events h.read.spans place result h.read.events_are ended_so
    proof_ends format.Instance r place result h ends = absurd h
