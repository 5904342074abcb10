use Rattle.pb_text.proofs.Common.{ℕ, ◌∙◌, ap, None, AcceptsItems, MayAsk, faults_after}
use Rattle.pb_text.proofs.lemmas.source.Drawn.{reads_reported}
use Rattle.pb_text.proofs.reader.read_from.Goals as goal

pub returns-clause-reads : goal.returns-clause-reads
returns-clause-reads g c =
    let o = c.read_whole-read.new.source in
    let r = rw (c.new-source.ensures.inner, c.new-source.ensures.shown) at c.read_whole-read.ensures.reads in
    reads_reported (AcceptsItems g.M.Machine.automaton c.args.machine) c.args.longest g.G.Gather.with c.args.empty (MayAsk g.M.Machine.automaton c.args.machine) g.G.Gather.asks (g.T.Read.remaining c.args.reader) c.read_whole-read.result
    (g.T.Read.remaining o.inner) (g.T.BufRead.consumable_len o.inner) o.shown r

pub returns-clause-given : goal.returns-clause-given
returns-clause-given g c = rw c.new-source.ensures.history at c.read_whole-read.ensures.given

pub returns-clause-faults : goal.returns-clause-faults
returns-clause-faults g c = c.read_whole-read.ensures.faults ∙ ap (λ (n : ℕ). faults_after None c.read_whole-read.result n) c.new-source.ensures.failures
