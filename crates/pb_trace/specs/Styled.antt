-- The words of a trace's lines, for a style.
use Rattle.pb_normal.specs.meaning.Form.{Form}
use Rattle.{pb_proof.specs.declared.Statement.Statement, pb_replay.specs.contract.ReplayModel.Replaying, pb_text.specs.declared.Spanned.Spanned}
use Rattle.pb_trace.specs.{Live.stored_in, declared.stored.Constraints.Constraints, declared.write.Style.Style}
use Rattle.pb_trace.specs.Traced.{added_bytes, deleted_bytes, deletion_bytes, found_bytes, line_after, stored_after, tail_bytes, without, without_all}
use Rattle.std.specs.Prelude.{◌≡◌, ℕ, ◌-◌, ℤ, List, length, Option}

module _ (style : Style) where
  abbrev pub line_in : ℕ → Constraints → Spanned Statement → Replaying → List ℕ
  line_in newest c read replay = line_after style.ids style.lines.now newest (stored_in c) read replay

  -- the constraints of a replay after an id
  abbrev pub added_in : List ℕ → ℕ → Replaying → List ℕ
  added_in arrow newest replay = added_bytes style.ids style.lines.now arrow replay.names replay.live newest (length replay.live - newest)

  abbrev pub found_in : List ℕ → Replaying → ℕ → Option Form → List ℕ
  found_in arrow replay id f = found_bytes style.ids style.lines.now arrow replay.names id f

  abbrev pub tail_in : Constraints → Replaying → Statement → List ℕ
  tail_in c replay st = tail_bytes style.ids style.lines.now (stored_in c) replay st

  abbrev pub deleted_in : Replaying → Constraints → List ℤ → List ℕ
  deleted_in replay c ids = deleted_bytes style.ids style.lines.now replay.names (stored_in c) ids

  abbrev pub deletion_in : Replaying → Constraints → ℤ → List ℕ
  deletion_in replay c id = deletion_bytes style.ids style.lines.now replay.names (stored_in c) id

-- what is stored after a statement, after deletions, and after one
abbrev pub StoresAfter : Statement → Constraints → Constraints → Type 0
StoresAfter st old new = stored_in new ≡ stored_after (stored_in old) st

abbrev pub StoresWithoutAll : List ℤ → Constraints → Constraints → Type 0
StoresWithoutAll ids old new = stored_in new ≡ without_all (stored_in old) ids

abbrev pub StoresWithout : ℤ → Constraints → Constraints → Type 0
StoresWithout id old new = stored_in new ≡ without (stored_in old) id
