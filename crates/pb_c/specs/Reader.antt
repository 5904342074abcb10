-- What a handle on a reader stands for, and what the calls return.
use Rattle.pb_pieces.specs.{Given.Given, declared.token_reader.Event.Event, declared.tokens.Tokens.Tokens}
use Rattle.pb_pieces.specs.Reader.{Ends, IsReader, IsShown, StopsAt, fault_of, place_in, text_in, tokens_in}
use Rattle.pb_pieces.specs.declared.reader.{Format.Format, Reader.Reader, Reader.TheVariants.Instance, Reader.TheVariants.Proof}
use Rattle.{pb_text.specs.declared.Limits.Limits, pb_text.specs.declared.Stop.Stop, pb_tool.specs.contract.Faults.stop_status, std.specs.Prelude.slice_get}
use Rattle.std.specs.Prelude.{◌≡◌, ◌≢◌, ◌⊎◌, ◌+◌, ◌≤◌, ℕ, ℤ, pos, List, [], ◌∷◌, ◌++◌, eqb, if◌then◌else◌, length, take, Option, Some, None, Result, Ok, Err}
use Rattle.pb_c.specs.{Checker.NameOf, Checker.Under, Event.event_of, Event.no_event, Options.AreWrong}
use Rattle.pb_c.specs.Report.{misused, of_instance, of_proof, report_at, report_of_reason, report_of_stop, spent}
use Rattle.pb_c.specs.declared.{event.Statement.Statement, options.Options.Options, reader_handle.ReaderHandle.ReaderHandle, report.Report.Report}
use Rattle.pb_pieces.specs.declared.reader.Format.TheVariants as format

-- the format with a number
abbrev pub format_asked : ℕ → Option Format
format_asked n = if eqb n 1 then Some format.Instance else (if eqb n 2 then Some format.Proof else None)

-- the text that a reader reads
abbrev pub input_of : Reader → ℕ
input_of (Instance r) = of_instance
input_of (Proof r) = of_proof

-- the position of the next byte
abbrev pub report_of_reader : Reader → Report
report_of_reader r = report_at (place_in r) (input_of r) 0 0 (pos 0)

-- The handle owns a reader of texts of the format. It was fed this text, and has given these statements.
abbrev pub IsReaderFor : Format → Options → List ℕ → List Given → ReaderHandle → Type 0
IsReaderFor f o fed events h =
    (r : Reader) × (h.value ≡ Some r) × (fault_of r ≡ None) × Under o (λ limits longest. IsReader longest limits fed events f r)

-- The handle owns a reader that was fed nothing. Or it owns nothing: there is no such format, or the options are not
-- allowed, or memory ran out.
abbrev pub Opens : ℕ → Options → ℕ → ReaderHandle → Report → Type 0
Opens n o status h report =
    ((f : Format) × (format_asked n ≡ Some f) × IsReaderFor f o [] [] h × (status ≡ 0))
    ⊎ ((h.value ≡ None)
    × (((AreWrong o ⊎ (format_asked n ≡ None)) × (status ≡ 2) × (report ≡ report_of_reason misused))
    ⊎ ((status ≡ 3) × (report ≡ report_of_reason spent))))

abbrev pub result_of : Option Stop → Result Unit Stop
result_of None = Ok tt
result_of (Some s) = Err s

-- the status and the report of a reader, by its first fault
abbrev pub AnswersBy : Reader → Option Stop → ℕ → Report → Type 0
AnswersBy r None status report = (status ≡ 0) × (report ≡ report_of_reader r)
AnswersBy r (Some s) status report = (status ≡ stop_status s.why) × (report ≡ report_of_stop (input_of r) s)

abbrev pub AnswersFor : Reader → ℕ → Report → Type 0
AnswersFor r = AnswersBy r (fault_of r)

abbrev pub AnswersOf : Option Reader → ℕ → Report → Type 0
AnswersOf None status report = (status ≡ 2) × (report ≡ report_of_reason misused)
AnswersOf (Some r) status report = AnswersFor r status report

abbrev pub Answers : ReaderHandle → ℕ → Report → Type 0
Answers h = AnswersOf h.value

-- With status 0, the position of the reader moved on by the used bytes of the piece. Otherwise none was used.
abbrev pub Uses : Reader → Reader → List ℕ → ℕ → ℕ → Type 0
Uses old new piece status used =
    (status ≡ 0 → ((place_in new).offset ≡ (place_in old).offset + used) × (used ≤ length piece)) × (status ≢ 0 → used ≡ 0)

abbrev pub UsesOf : Option Reader → Option Reader → List ℕ → ℕ → ℕ → Type 0
UsesOf None new piece status used = used ≡ 0
UsesOf (Some old) None piece status used = used ≡ 0
UsesOf (Some old) (Some new) piece status used = Uses old new piece status used

-- the event is that of this statement, whose tokens and free text the reader has
abbrev pub ShowsStatement : Given → Statement → Reader → Type 0
ShowsStatement e event r =
    (shown : Event) × IsShown e shown r × (event ≡ event_of shown (length (tokens_in r).tokens.codes.items) (length (text_in r)))

module _ (f : Format) (limits : Limits) (longest : ℕ) (fed : List ℕ) (events : List Given) (piece : List ℕ) where
  -- What a feed gives: one more statement, which ends with the used bytes of the piece, or none in the whole piece.
  abbrev pub GivesNext : ℕ → Statement → Reader → Type 0
  GivesNext used event new =
      ((event ≡ no_event) × IsReader longest limits (fed ++ piece) events f new)
      ⊎ ((e : Given) × ShowsStatement e event new × IsReader longest limits (fed ++ take used piece) (events ++ e ∷ []) f new)

  abbrev pub FeedsWith : Reader → ℕ → ℕ → Statement → Reader → Type 0
  FeedsWith old status used event new =
      fault_of old ≡ None → IsReader longest limits fed events f old →
      ((status ≡ 0) × (fault_of new ≡ None) × GivesNext used event new)
      ⊎ ((s : Stop) × (fault_of new ≡ Some s) × (event ≡ no_event) × StopsAt longest limits fed events f piece s)

-- The text may end here, or it has ended too soon.
abbrev pub EndsWith : Format → Limits → ℕ → List ℕ → List Given → Reader → Reader → Type 0
EndsWith f limits longest fed events old new =
    fault_of old ≡ None → IsReader longest limits fed events f old → Ends longest limits fed events f (result_of (fault_of new))

module _ (f : Format) (o : Options) (fed : List ℕ) (events : List Given) where
  -- what `FeedsWith` says, of a handle
  abbrev pub FeedsFor : List ℕ → ReaderHandle → ℕ → ℕ → Statement → ReaderHandle → Type 0
  FeedsFor piece old status used event new =
      IsReaderFor f o fed events old → (r : Reader) × (new.value ≡ Some r) ×
      (((status ≡ 0) × (fault_of r ≡ None) × Under o (λ limits longest. GivesNext f limits longest fed events piece used event r))
      ⊎ ((s : Stop) × (fault_of r ≡ Some s) × (event ≡ no_event) × Under o (λ limits longest. StopsAt longest limits fed events f piece s)))

  -- the same of a handle
  abbrev pub EndsFor : ReaderHandle → ReaderHandle → Type 0
  EndsFor old new =
      IsReaderFor f o fed events old → (r : Reader) × (new.value ≡ Some r) × Under o (λ limits longest. Ends longest limits fed events f (result_of (fault_of r)))

-- Each of the arrays of a caller is as long as the one that is copied to it, and then the status is 0 and they are equal.
-- Otherwise the status is 2, and they are as they were.
abbrev pub CopiesTokens : Tokens → ℕ → List ℕ → List ℕ → List ℕ → List ℤ → List ℕ → List ℕ → List ℕ → List ℤ → Type 0
CopiesTokens t status a b c d a' b' c' d' =
    ((status ≡ 0) × (a' ≡ t.codes.items) × (b' ≡ t.names.items) × (c' ≡ t.lows.items) × (d' ≡ t.highs.items))
    ⊎ ((status ≡ 2) × (a' ≡ a) × (b' ≡ b) × (c' ≡ c) × (d' ≡ d)
    × ((length a ≢ length t.codes.items) ⊎ (length b ≢ length t.names.items) ⊎ (length c ≢ length t.lows.items) ⊎ (length d ≢ length t.highs.items)))

-- With a handle that owns nothing the status is 2, and nothing is written.
abbrev pub AnswersTokens : Option Reader → ℕ → List ℕ → List ℕ → List ℕ → List ℤ → List ℕ → List ℕ → List ℕ → List ℤ → Type 0
AnswersTokens None status a b c d a' b' c' d' = (status ≡ 2) × (a' ≡ a) × (b' ≡ b) × (c' ≡ c) × (d' ≡ d)
AnswersTokens (Some r) status a b c d a' b' c' d' = CopiesTokens (tokens_in r).tokens status a b c d a' b' c' d'

abbrev pub AnswersText : Option Reader → List ℕ → ℕ → List ℕ → ℕ → Type 0
AnswersText None = NameOf None
AnswersText (Some r) = NameOf (Some (text_in r))

abbrev pub AnswersName : Option Reader → ℕ → List ℕ → ℕ → List ℕ → ℕ → Type 0
AnswersName None number = NameOf None
AnswersName (Some r) number = NameOf (slice_get (tokens_in r).names number)
