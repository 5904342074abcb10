use Rattle.pb_lines.proofs.Common.{◌-◌, ◌≤◌, largest, length, Runs, take, top_of}
use Rattle.pb_lines.proofs.whole.words_prefix.Given as goal
use Rattle.pb_lines.specs.engine.Words.{IsWordsInOrder, words_automaton, words_gap}

-- the bytes so far are words, each with a space after it
abbrev pub invariant-loop-end : goal.invariant-loop-end
invariant-loop-end g l =
    let limit = largest l.limits in
    let top = top_of l.limits in record {
      bound : l.end ≤ length l.text;
      runs : Runs (words_automaton g.W.WordList.grammar) (words_gap g.W.WordList.grammar limit top l.initial.words) (take l.end l.text) (words_gap g.W.WordList.grammar limit top l.words);
      order : IsWordsInOrder g.W.WordList.grammar g.W.WordList.good (words_gap g.W.WordList.grammar limit top l.words);
    }

abbrev pub decreases-loop-end : goal.decreases-loop-end
decreases-loop-end g l = length l.text - l.end
