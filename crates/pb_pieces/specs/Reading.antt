-- The instance that a source had, in flat arrays.
use Rattle.{pb_opb.specs.declared.OpbEvent.OpbEvent, pb_pieces.specs.Instance.IsFlatOf, pb_pieces.specs.declared.instance.Flat.Flat}
use Rattle.pb_text.specs.declared.{Place.Place, Spanned.Spanned, Stop.Stop, place.Why.TheVariants.Memory}
use Rattle.pb_text.specs.meaning.{Blank.IsBlank, Blank.ReadsBlank, Pulling.Took, PullsInARow.TookAll, Reading.IsSpelled, Reading.byte_limit, Spelling.Item}
use Rattle.std.specs.Prelude.{◌≡◌, ℕ, ◌≤◌, List, [], ◌++◌, length, true, false, Option, Some, None, Err}

-- The source had a text of the format and a blank rest, and ended there. The arrays are those of its statements.
pub record IsFlatBy (format : List (Item OpbEvent) → Type 0) (longest : ℕ) (before after : Option (List ℕ)) (f : Flat) : Type 0 where
  pub spans : List (Spanned OpbEvent)
  pub used : List ℕ
  pub rest : List ℕ
  pub took : Took before (used ++ rest) [] after
  pub spelled : IsSpelled format longest used spans
  pub blank : IsBlank rest
  pub within : length (used ++ rest) ≤ byte_limit
  pub arrays : IsFlatOf spans f

-- Why there are no arrays: the text is rejected at this position, or the rest after it is not blank, or memory ran out
-- for the arrays.
pub data IsNotFlat (format : List (Item OpbEvent) → Type 0) (longest : ℕ) (before after : Option (List ℕ)) (s : Stop) : Type 0 where
  InText : (spans : List (Spanned OpbEvent)) → TookAll format longest before after spans s.place false (Some s) → IsNotFlat format longest before after s
  InRest : (spans : List (Spanned OpbEvent)) (mid : Option (List ℕ)) (place : Place) → TookAll format longest before mid spans place true None → ReadsBlank place mid (Err s) after → IsNotFlat format longest before after s
  Unstored : s.why ≡ Memory → IsNotFlat format longest before after s
