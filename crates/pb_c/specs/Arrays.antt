-- What a handle on flat arrays stands for, and what the calls return.
use Rattle.{pb_c.specs.Checker.NameOf, pb_c.specs.Checker.Under, pb_tool.specs.contract.Faults.stop_status, pb_tool.specs.contract.Pieces.joined}
use Rattle.pb_c.specs.{Options.AreWrong, Report.misused, Report.of_instance, Report.report_of_reason, Report.report_of_stop, Report.report_with, Report.spent}
use Rattle.pb_c.specs.declared.{arrays.Sizes.Sizes, instance_handle.InstanceHandle.InstanceHandle, options.Options.Options, report.Report.Report}
use Rattle.{pb_opb.specs.meaning.Instances.IsInstance, pb_pieces.specs.Reading.IsFlatBy, pb_pieces.specs.Reading.IsNotFlat}
use Rattle.pb_pieces.specs.declared.{instance.Flat.Flat, places.Places.Places, rows.Rows.Rows, terms.Terms.Terms}
use Rattle.pb_text.specs.{declared.Stop.Stop, meaning.Limits.largest, meaning.Limits.top_of}
use Rattle.std.specs.Prelude.{◌≡◌, ◌≢◌, ◌-◌, ◌^◌, ◌⊎◌, ℕ, ℤ, List, length, min, Option, Some, None, slice_get}

-- the text is an instance and a blank rest, and the arrays are those of its statements
abbrev pub AreArraysOf : Options → List ℕ → Flat → Type 0
AreArraysOf o text f = Under o (λ limits longest. (after : Option (List ℕ)) × IsFlatBy (IsInstance (largest limits) (top_of limits)) longest (Some text) after f)

-- The handle owns the arrays of the instance that the text is. Or it owns nothing: the options are not allowed, or the
-- text is rejected, or memory ran out.
abbrev pub Reads : Options → List ℕ → ℕ → InstanceHandle → Report → Type 0
Reads o text status h report =
    ((f : Flat) × (h.value ≡ Some f) × AreArraysOf o text f × (status ≡ 0) × (report ≡ report_with of_instance 0))
    ⊎ ((h.value ≡ None)
    × ((AreWrong o × (status ≡ 2) × (report ≡ report_of_reason misused))
    ⊎ ((status ≡ 3) × (report ≡ report_with of_instance spent))
    ⊎ ((s : Stop) × Under o (λ limits longest. (after : Option (List ℕ)) × IsNotFlat (IsInstance (largest limits) (top_of limits)) longest (Some text) after s)
    × (status ≡ stop_status s.why) × (report ≡ report_of_stop of_instance s))))

-- The bytes of the names are counted as far as a machine word has the number.
abbrev pub SizesOf : Flat → Sizes → Type 0
SizesOf f s =
    (s.rows ≡ length f.rows.kinds.items) × (s.terms ≡ length f.named.terms.numbers.items) × (s.names ≡ length f.named.names)
    × (s.name_bytes ≡ min (length (joined f.named.names)) (2 ^ 64 - 1))

abbrev pub AnswersSizes : Option Flat → ℕ → Sizes → Sizes → Type 0
AnswersSizes None status old new = (status ≡ 2) × (new ≡ old)
AnswersSizes (Some f) status old new = (status ≡ 0) × SizesOf f new

-- Each of the arrays of a caller is as long as the one that is copied to it, and then the status is 0 and they are equal.
-- Otherwise the status is 2.
abbrev pub CopiesTo : {A B C D : Type 0} → List A → List B → List C → List D → ℕ → List A → List B → List C → List D → Type 0
CopiesTo a b c d status a' b' c' d' =
    ((status ≡ 0) × (a' ≡ a) × (b' ≡ b) × (c' ≡ c) × (d' ≡ d))
    ⊎ ((status ≡ 2) × ((length a' ≢ length a) ⊎ (length b' ≢ length b) ⊎ (length c' ≢ length c) ⊎ (length d' ≢ length d)))

abbrev pub CopiesTerms : Terms → ℕ → List ℕ → List ℕ → List ℕ → List ℤ → Type 0
CopiesTerms t = CopiesTo t.numbers.items t.negated.items t.lows.items t.highs.items

abbrev pub CopiesRows : Rows → ℕ → List ℕ → List ℕ → List ℕ → List ℤ → Type 0
CopiesRows r = CopiesTo r.kinds.items r.ends.items r.lows.items r.highs.items

abbrev pub CopiesPlaces : Places → ℕ → List ℕ → List ℕ → List ℕ → List ℕ → Type 0
CopiesPlaces p = CopiesTo p.lines.items p.columns.items p.firsts.items p.pasts.items

-- With a handle that owns nothing the status is 2.
abbrev pub AnswersTerms : Option Flat → ℕ → List ℕ → List ℕ → List ℕ → List ℤ → Type 0
AnswersTerms None status numbers negated lows highs = status ≡ 2
AnswersTerms (Some f) status numbers negated lows highs = CopiesTerms f.named.terms status numbers negated lows highs

abbrev pub AnswersRows : Option Flat → ℕ → List ℕ → List ℕ → List ℕ → List ℤ → Type 0
AnswersRows None status kinds ends lows highs = status ≡ 2
AnswersRows (Some f) status kinds ends lows highs = CopiesRows f.rows status kinds ends lows highs

abbrev pub AnswersPlaces : Option Flat → ℕ → List ℕ → List ℕ → List ℕ → List ℕ → Type 0
AnswersPlaces None status lines columns firsts pasts = status ≡ 2
AnswersPlaces (Some f) status lines columns firsts pasts = CopiesPlaces f.places status lines columns firsts pasts

abbrev pub AnswersName : Option Flat → ℕ → List ℕ → ℕ → List ℕ → ℕ → Type 0
AnswersName None number = NameOf None
AnswersName (Some f) number = NameOf (slice_get f.named.names number)
