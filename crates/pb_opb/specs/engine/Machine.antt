-- The machine of an instance: what it does with one byte.
use Rattle.pb_opb.specs.declared.phase.{Field.Field, Field.TheVariants.Variables, Field.TheVariants.Constraints, Phase.Phase, Action.Action}
use Rattle.pb_opb.specs.declared.phase.Action.TheVariants.{To, Declare, BeginTail, Keep, EndHeader, EndTail, EndComment, BeginSum, Give, Stop}
use Rattle.pb_opb.specs.meaning.Instances.{variable_word, constraint_word, min_word}
use Rattle.pb_text.specs.meaning.Classes.{is_blank, is_white, is_digit}
use Rattle.std.specs.Prelude.{ℕ, ◌+◌, ◌-◌, ◌*◌, cond, ◌&&◌, List, length, slice_index, nat_eq, nat_le}

abbrev pub word_of : Field → List ℕ
word_of Variables = variable_word
word_of Constraints = constraint_word

-- the next byte of a word, of which k were read
abbrev pub spell : List ℕ → ℕ → ℕ → Phase → Phase → Action
spell word k b more whole =
    cond (nat_eq b (slice_index word k)) (To (cond (nat_eq (k + 1) (length word)) whole more)) Stop

-- the next digit of a count
abbrev pub count : ℕ → Field → ℕ → ℕ → Action
count top field n b =
    cond (is_digit b && nat_le (10 * n + (b - 48)) top) (To (Phase.Count field (10 * n + (b - 48)))) Stop

-- what comes after the digits of a count
abbrev pub after_count : Field → ℕ → ℕ → Action
after_count Variables n b = cond (is_blank b) (Declare n) Stop
after_count Constraints n b = cond (nat_eq b 10) (EndHeader n) (cond (is_blank b) (BeginTail n b) Stop)

abbrev pub transition : ℕ → Phase → ℕ → Action
transition top Phase.Start b = cond (nat_eq b 42) (To (Phase.BeforeWord Variables)) Stop
transition top (Phase.BeforeWord f) b =
    cond (is_blank b) (To (Phase.BeforeWord f)) (cond (nat_eq b 35) (To (Phase.Word f 1)) Stop)
transition top (Phase.Word f k) b = spell (word_of f) k b (Phase.Word f (k + 1)) (Phase.BeforeCount f)
transition top (Phase.BeforeCount f) b = cond (is_blank b) (To (Phase.BeforeCount f)) (count top f 0 b)
transition top (Phase.Count f n) b = cond (is_digit b) (count top f n b) (after_count f n b)
transition top Phase.Tail b = cond (nat_eq b 10) EndTail (Keep b)
transition top (Phase.Between objective_allowed) b =
    cond (is_white b) (To (Phase.Between objective_allowed))
    (cond (nat_eq b 42) (To (Phase.Comment objective_allowed))
    (cond (nat_eq b 109 && objective_allowed) (To (Phase.Min 1)) (Give Phase.Constraint)))
transition top (Phase.Comment objective_allowed) b = cond (nat_eq b 10) (EndComment objective_allowed) (Keep b)
transition top (Phase.Min k) b =
    cond (nat_eq b (slice_index min_word k)) (cond (nat_eq (k + 1) (length min_word)) BeginSum (To (Phase.Min (k + 1)))) Stop
transition top Phase.AfterMin b = cond (is_white b) (To Phase.AfterMin) (Give Phase.Objective)
transition top Phase.Objective b = Give Phase.Objective
transition top Phase.Constraint b = Give Phase.Constraint
transition top Phase.Done b = Stop
