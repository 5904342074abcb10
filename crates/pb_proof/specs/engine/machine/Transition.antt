-- The machine for proofs: what it does with one byte.
use Rattle.pb_proof.specs.declared.machine.phase.{Action.Action, Keyword.Keyword, LineKind.LineKind, Phase.Phase, Stage.Stage}
use Rattle.pb_proof.specs.meaning.Lines.{pseudo_word, proof_word, version_word, two_word, f_word, pol_word, rup_word, del_word, id_word, output_word, none_word, conclusion_word, end_word}
use Rattle.pb_text.specs.meaning.Classes.{is_blank, is_white}
use Rattle.std.specs.Prelude.{ℕ, ◌+◌, ◌-◌, Bool, true, false, cond, ◌&&◌, List, [], ◌∷◌, ◌++◌, length, slice_index, nat_eq}

-- `sol`
abbrev pub sol_word : List ℕ
sol_word = 115 ∷ 111 ∷ 108 ∷ []

-- the words that a statement begins with; a space in them is for one or more blanks
abbrev pub words_of : Keyword → List ℕ
words_of Keyword.Header = pseudo_word ++ 32 ∷ proof_word ++ 32 ∷ version_word ++ 32 ∷ two_word
words_of Keyword.Formula = f_word
words_of Keyword.Pol = pol_word
words_of Keyword.Rup = rup_word
words_of Keyword.Solution = sol_word
words_of Keyword.Delete = del_word ++ 32 ∷ id_word
words_of Keyword.Output = output_word ++ 32 ∷ none_word
words_of Keyword.Conclusion = conclusion_word
words_of Keyword.End = end_word ++ 32 ∷ pseudo_word ++ 32 ∷ proof_word

-- the action after the words
abbrev pub next_action : Keyword → Action
next_action Keyword.Header = Action.To Phase.HeaderEnd
next_action Keyword.Formula = Action.Begin LineKind.Formula
next_action Keyword.Pol = Action.Begin LineKind.Pol
next_action Keyword.Rup = Action.Begin LineKind.Rup
next_action Keyword.Solution = Action.To Phase.Solution
next_action Keyword.Delete = Action.Begin LineKind.Delete
next_action Keyword.Output = Action.To (Phase.OutputEnd true)
next_action Keyword.Conclusion = Action.Begin LineKind.Conclusion
next_action Keyword.End = Action.EndProof

-- the byte is the expected byte of the words or, if that is a space, a blank
abbrev pub meets : ℕ → ℕ → Bool
meets c b = cond (nat_eq c 32) (is_blank b) (nat_eq b c)

-- the action for the next byte of the words, after k bytes of them, or else another action
abbrev pub spell : Keyword → ℕ → ℕ → Action → Action
spell f k b other =
    cond (meets (slice_index (words_of f) k) b) (cond (nat_eq (k + 1) (length (words_of f))) (next_action f) (Action.To (Phase.Spelling f (k + 1)))) other

-- the words of the step that begins with the byte, or else those of the output
abbrev pub step_keyword : ℕ → Keyword
step_keyword b =
    cond (nat_eq b 112) Keyword.Pol
    (cond (nat_eq b 114) Keyword.Rup
    (cond (nat_eq b 115) Keyword.Solution
    (cond (nat_eq b 100) Keyword.Delete Keyword.Output)))

-- the action for the first byte of a statement
abbrev pub enter : Stage → ℕ → Action
enter Stage.Opening b = spell Keyword.Header 0 b Action.Stop
enter Stage.Formula b = spell Keyword.Formula 0 b Action.Stop
enter Stage.Steps b = spell (step_keyword b) 0 b Action.Stop
enter Stage.Concluding b = spell Keyword.Conclusion 0 b Action.Stop
enter Stage.Closing b = spell Keyword.End 0 b Action.Stop
enter Stage.Complete b = Action.Stop

-- the action between two statements
abbrev pub pass : Stage → ℕ → Action
pass at b =
    cond (is_white b) (Action.To (Phase.Between at))
    (cond (nat_eq b 42) (Action.To (Phase.Comment at)) (enter at b))

abbrev pub between : Stage → ℕ → Action
between Stage.Opening b = enter Stage.Opening b
between Stage.Complete b = Action.Stop
between at b = pass at b

abbrev pub transition : Phase → ℕ → Action
transition (Phase.Between at) b = between at b
transition (Phase.Comment at) b = Action.To (cond (nat_eq b 10) (Phase.Between at) (Phase.Comment at))
transition (Phase.Spelling f k) b =
    spell f k b (cond (is_blank b && nat_eq (slice_index (words_of f) (k - 1)) 32) (Action.To (Phase.Spelling f k)) Action.Stop)
transition Phase.Solution b =
    cond (nat_eq b 105) (Action.Begin LineKind.Soli) (cond (nat_eq b 120) (Action.Begin LineKind.Solx) Action.Stop)
transition Phase.HeaderEnd b = cond (is_blank b) (Action.To Phase.HeaderEnd) (cond (nat_eq b 10) Action.EndHeader Action.Stop)
transition (Phase.OutputEnd may) b =
    cond (is_blank b) (Action.To (Phase.OutputEnd may))
    (cond (nat_eq b 10) Action.EndOutput
    (cond (nat_eq b 59 && may) (Action.To (Phase.OutputEnd false)) Action.Stop))
transition (Phase.Inside r) b = Action.Give r
