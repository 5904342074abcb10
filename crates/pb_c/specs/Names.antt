-- The names of an instance in one text.
use Rattle.{pb_pieces.specs.declared.instance.Flat.Flat, pb_tool.specs.contract.Pieces.joined}
use Rattle.std.specs.Prelude.{◌≡◌, ◌≢◌, ◌⊎◌, ◌<◌, ℕ, List, get_or, length, take, Option, Some, None}

-- each name begins where those before it end
pub record AreStarts (names : List (List ℕ)) (starts : List ℕ) : Type 0 where
  pub each : (k : ℕ) → k < length names → get_or starts k 0 ≡ length (joined (take k names))
  pub all : length starts ≡ length names

-- The arrays have as many elements as the names have bytes, and as there are names. Then they are the names, one after
-- another, and where each begins. Otherwise the status is 2.
abbrev pub CopiesNames : List (List ℕ) → ℕ → List ℕ → List ℕ → Type 0
CopiesNames names status bytes starts =
    ((status ≡ 0) × (bytes ≡ joined names) × AreStarts names starts)
    ⊎ ((status ≡ 2) × ((length bytes ≢ length (joined names)) ⊎ (length starts ≢ length names)))

-- with a handle that owns nothing the status is 2
abbrev pub AnswersNames : Option Flat → ℕ → List ℕ → List ℕ → Type 0
AnswersNames None status bytes starts = status ≡ 2
AnswersNames (Some f) status bytes starts = CopiesNames f.named.names status bytes starts
