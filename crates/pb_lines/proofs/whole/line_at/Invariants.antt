use Rattle.pb_lines.proofs.Common.{◌-◌, ◌≤◌, largest, length, take, top_of}
use Rattle.pb_lines.proofs.lemmas.Whole.{HasRead}
use Rattle.pb_lines.proofs.whole.line_at.Given as goal
use Rattle.pb_lines.specs.engine.Words.{words_first}

-- the bytes so far are words, each after a space
abbrev pub invariant-loop-end : goal.invariant-loop-end
invariant-loop-end g l =
    let limit = largest l.limits in
    let top = top_of l.limits in record {
      bound : l.end ≤ length l.text;
      read : HasRead g.W.WordList.grammar g.W.WordList.good g.met.W.WordList.lawful g.met.W.WordList.counted limit top (words_first g.W.WordList.grammar limit top) (take l.end l.text) l.words;
    }

abbrev pub decreases-loop-end : goal.decreases-loop-end
decreases-loop-end g l = length l.text - l.end
