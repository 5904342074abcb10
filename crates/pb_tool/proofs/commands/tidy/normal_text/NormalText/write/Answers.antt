use Rattle.pb_tool.proofs.{Common.ℕ, Common.List, Common.subst, Common.Broke, Common.Wrote, lemmas.tidy.NormalFile.kept_form}
use Rattle.pb_tool.proofs.commands.tidy.normal_text.NormalText.write.Goals as goal

pub returns-in-Ok : goal.returns-in-Ok
returns-in-Ok g c = λ v order.
    let t = c.self.inside in
    let (w, asked, text) = kept_form t.notes.events t.variables t.objective t.forms c.self.invariant c.args.self.now c.self.view_is c.in-Stored.is v order in
    let wrote = rw (c.text.ensures, c.count.ensures, c.new.ensures) at c.in-Ok.ensures in
    (w, asked, subst (λ (y : List ℕ). Wrote g.W.Sink.contents g.W.Sink.faults c.args.out.now y c.write_normal.new.out) text wrote)

pub returns : goal.returns
returns g c = λ v order.
    let t = c.self.inside in
    let (w, asked, text) = kept_form t.notes.events t.variables t.objective t.forms c.self.invariant c.args.self.now c.self.view_is c.in-Stored.is v order in
    let broke = rw (c.text.ensures, c.count.ensures, c.new.ensures) at c.in-Err.ensures in
    (w, asked, subst (λ (y : List ℕ). Broke g.W.Sink.contents g.W.Sink.faults c.args.out.now y c.write_normal.new.out) text broke)
