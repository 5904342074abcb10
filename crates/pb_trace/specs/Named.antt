-- A stored constraint as reasons show it, and the lines of a derivation.
use Rattle.{pb_normal.specs.meaning.Form.Form, pb_proof.specs.declared.PolWord.PolWord, std.specs.Fmt.signed_decimal, std.specs.List.flat_map}
use Rattle.{pb_sums.specs.meaning.Sums.literal_bytes, pb_trace.specs.Changes.change_bytes, pb_trace.specs.Changes.form_bytes, pb_trace.specs.Changes.name_shown}
use Rattle.pb_trace.specs.declared.{facts.Facts.Facts, piece.Derivation.Derivation, stored.Stored.Stored}
use Rattle.pb_trace.specs.declared.propagation.{Forced.Forced, Reason.Reason, Reason.TheVariants.Given, Reason.TheVariants.Negation, Reason.TheVariants.Id}
use Rattle.std.specs.Prelude.{ℕ, pos, ◌-◌, ◌^◌, min, nat_le, nat_lt, if◌then◌else◌, List, [], ◌++◌, slice_get, decimal, codes, Option, Some, None}

-- What reasons are written from: the names of the replay, the stored constraints, how many of them are those of the
-- instance, the lines in which these are written, and the words of the statement.
pub record Known : Type 0 where
  pub names : List (List ℕ)
  pub stored : List Stored
  pub loaded : ℕ
  pub lines : List ℕ
  pub words : List PolWord

abbrev pub known_by : Facts → Known
known_by f = record {
  names = f.replay.now.names;
  stored = f.stored.now;
  loaded = f.loaded;
  lines = f.lines.now;
  words = f.words.now;
}

-- the line of the instance, if it is known
abbrev pub line_bytes : Option ℕ → List ℕ
line_bytes None = codes " (instance"
line_bytes (Some line) = codes " (instance line " ++ decimal line

-- the line of the proof that deleted a constraint; 0 stands for none
abbrev pub went_bytes : ℕ → List ℕ
went_bytes deleted = if nat_lt 0 deleted then codes ", deleted in proof line " ++ decimal deleted else []

-- a slack at the end of a line; numbers have at most 127 bits
abbrev pub slack_bytes : ℕ → List ℕ
slack_bytes slack = codes ", slack " ++ (signed_decimal (pos (min slack (2 ^ 127 - 1))) ++ codes "\n")

module _ (known : Known) where
  -- where a constraint was added: in the instance, or by the proof
  abbrev pub came_bytes : ℕ → ℕ → List ℕ
  came_bytes id added =
      if nat_le id known.loaded then line_bytes (slice_get known.lines (id - 1)) else codes " (proof line " ++ decimal added

  abbrev pub history_bytes : ℕ → Stored → List ℕ
  history_bytes id s = came_bytes id s.added ++ (went_bytes s.deleted ++ codes ")")

  -- an id and its constraint after an arrow, with its history, as in `3: +1 x1 >= 1 ; (proof line 4)`
  abbrev pub found_bytes : List ℕ → ℕ → Stored → List ℕ
  found_bytes arrow id s = change_bytes arrow known.names id s.form ++ history_bytes id s

  abbrev pub found_if : List ℕ → ℕ → Option Stored → List ℕ
  found_if arrow id None = []
  found_if arrow id (Some s) = found_bytes arrow id s

  -- the stored constraint with this id
  abbrev pub named_bytes : List ℕ → ℕ → List ℕ
  named_bytes arrow id = found_if arrow id (slice_get known.stored (id - 1))

  -- what forced a literal: the constraint with the id of its reason, and its slack there
  abbrev pub forcing_bytes : ℕ → ℕ → List ℕ
  forcing_bytes id slack = named_bytes (codes " by ") id ++ slack_bytes slack

  abbrev pub cause_bytes : Reason → ℕ → List ℕ
  cause_bytes Given slack = codes " by the statement\n"
  cause_bytes Negation slack = codes " by the negation" ++ slack_bytes slack
  cause_bytes (Id id) slack = forcing_bytes id slack

  -- the line of a literal that became true
  abbrev pub forced_line : Forced → List ℕ
  forced_line f =
      codes "  " ++ (literal_bytes f.negated (name_shown known.names f.variable) ++ cause_bytes f.reason f.slack)

  -- the line of a negation, if there is one
  abbrev pub negation_line : Form → List ℕ
  negation_line f = codes "  negation: " ++ (form_bytes known.names f ++ codes "\n")

  abbrev pub negation_bytes : Option Form → List ℕ
  negation_bytes None = []
  negation_bytes (Some f) = negation_line f

  -- the lines of a derivation: that of its negation, and then one for each literal, in order
  abbrev pub derivation_bytes : Derivation → List ℕ
  derivation_bytes d = negation_bytes d.negation ++ flat_map forced_line d.forced.items
