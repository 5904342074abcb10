-- What the calls return that go through a proof statement by statement.
use Rattle.{pb_c.specs.declared.step.State.State, pb_text.specs.declared.Limits.Limits}
use Rattle.pb_pieces.specs.{Session.HasAccepted, Session.IsSession, declared.session.Session.Session}
use Rattle.std.specs.Prelude.{◌≡◌, ◌+◌, ℕ, List, Bool, cond, length, Option, Some, None}

-- one more statement was accepted, or none
abbrev pub Counts : Session → Session → Bool → Type 0
Counts old new ended = new.accepted ≡ old.accepted + cond ended 1 0

abbrev pub CountsOf : Option Session → Option Session → Bool → Type 0
CountsOf (Some old) (Some new) ended = Counts old new ended
CountsOf _ _ ended = Unit {0}

-- How many statements were accepted, the newest id and the visits of the last `rup`. While nothing was rejected, the
-- accepted statements are all that end in the text.
abbrev pub AnswersState : Option Session → ℕ → State → State → Type 0
AnswersState None status old new = (status ≡ 2) × (new ≡ old)
AnswersState (Some s) status old new =
    (status ≡ 0) × (new ≡ record { accepted = s.accepted; newest = length s.checker.replay.live; visits = s.checker.replay.visits })
    × ((limits : Limits) (longest : ℕ) (i fed : List ℕ) → IsSession limits longest i fed s → s.fault ≡ None → HasAccepted limits longest i fed s.accepted)
