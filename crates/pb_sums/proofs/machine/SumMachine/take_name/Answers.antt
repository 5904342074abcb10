use Rattle.pb_sums.proofs.Common.{ℕ, ◌≡◌, ◌≤◌, arith, get_or, get_or-take, is_letter, IsTrue, length, length-take-le, List, take, true}
use Rattle.pb_sums.proofs.lemmas.{prefixes.Names.after_state, prefixes.Names.name_runs, values.Shorts.name_utf8}
use Rattle.pb_sums.proofs.machine.SumMachine.take_name.Goals as goal

-- a prefix of a text that begins with a letter
begun : (n : ℕ) (text : List ℕ) → 2 ≤ n → n ≤ length text → true ≡ is_letter (get_or text 0 0) → (2 ≤ length (take n text)) × IsTrue (is_letter (get_or (take n text) 0 0))
begun n text l h e = grind (arith, get_or-take, length-take-le)

pub from_prefix-requires-clause-text : goal.from_prefix-requires-clause-text
from_prefix-requires-clause-text c = name_utf8 (take c.name_prefix-length.result c.args.text.now) c.name_prefix-length.ensures.name

pub returns-clause-runs : goal.returns-clause-runs
returns-clause-runs c =
    let i = c.self.inside in let n = c.name_prefix-length.result in let text = c.args.text.now in
    let b = begun n text c.if-length-lt2.false c.name_prefix-length.ensures.bound c.if-not-is_letter.ensures in
    rw (← c.self.view_is) (name_runs i.spaces i.part i.limit i.terms i.name c.in-Ok.name i.phase c.in-Some.phase (take n text) c.in-Some.ensures b.0
    b.1 c.name_prefix-length.ensures.name c.in-Ok.ensures.name)

pub returns-clause-state : goal.returns-clause-state
returns-clause-state c =
    after_state c.self.inside.spaces c.self.inside.part c.self.inside.limit c.self.inside.terms c.in-Ok.name c.self.inside.phase c.in-Some.phase c.in-Some.ensures
