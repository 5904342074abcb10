use Rattle.pb_tool.proofs.{Common.place_of, Common.Place, Common.OfGiven, Common.EndsAt, lemmas.file.GivenBytes.given_by, lemmas.file.GivenBytes.given_shown}
use Rattle.pb_tool.proofs.Common.{◌++◌, ◌^◌, ◌∙◌, ◌∷◌, ◌≤◌, [], ap, append-nil, refl, subst, sym, part_wrote, writes_nothing, AcceptsItems, MayAsk}
use Rattle.pb_tool.proofs.lemmas.show.ShownStatements.{broken, given_next, given_row, refused, fewer, first_pull, shown_more, shows_end, so_far_within}
use Rattle.pb_tool.proofs.commands.show.show_each.Goals as goal

pub loop-read-init : goal.loop-read-init
loop-read-init g c = record {
  faults = refl;
  shown = (
    [],
    first_pull {g = g.M.Machine} c.args.longest c.args.machine (g.S.Source.left c.args.input.now) c.within-feeder.result c.within-feeder.ensures.stands c.within-feeder.ensures.running (ap (λ (p : Place). p.offset) c.within-feeder.ensures.place),
    writes_nothing g.W.Sink.contents g.W.Sink.faults c.args.out.now,
  );
  given = (
    [],
    ([], sym (append-nil (g.S.Source.history c.args.input.now)), ap (λ (p : Place). p.offset) c.within-feeder.ensures.place, c.within-feeder.ensures.stands, c.within-feeder.ensures.running),
    writes_nothing g.W.Sink.contents g.W.Sink.faults c.args.out.now,
  );
}

pub loop-read-smaller : goal.loop-read-smaller
loop-read-smaller g c =
    let (spans, pulled, wrote) = c.loop-read.invariant.shown in let t = rw (c.in-Ok-Some.is, c.in-Ok-Some.field-0-is) at c.pull.ensures in
    let (more, sofar) = t.row c.args.longest c.args.machine (g.S.Source.left c.args.input.now) spans pulled in
    let within = so_far_within (AcceptsItems g.M.Machine.automaton c.args.machine) c.args.longest (g.S.Source.left c.args.input.now) (g.S.Source.left c.pull.new.source) (spans ++ c.in-Ok-Some.read ∷ []) c.in-Ok-Some.read.past sofar in
    rw c.show_statement.ensures.feeder (fewer _ _ (subst (λ (p : Place). p.offset ≤ 2 ^ 40) (t.past c.in-Ok-Some.read refl).past within) (t.past c.in-Ok-Some.read refl).onward)

pub loop-read-preserved : goal.loop-read-preserved
loop-read-preserved g c =
    let (spans, pulled, wrote) = c.loop-read.invariant.shown in let (given_spans, has, went) = c.loop-read.invariant.given in
    let t = rw (c.in-Ok-Some.is, c.in-Ok-Some.field-0-is) at c.pull.ensures in
    let (more, sofar) = t.row c.args.longest c.args.machine (g.S.Source.left c.args.input.now) spans pulled in
    rw c.show_statement.ensures.feeder (record {
      faults = rw pulled.running at t.faults ∙ c.loop-read.invariant.faults;
      shown = (spans ++ c.in-Ok-Some.read ∷ [], more, part_wrote g.W.Sink.contents g.W.Sink.faults _ _ _ _ _ _ (shown_more g.E.Canonical.text spans c.in-Ok-Some.read) wrote c.in-Ok.ensures.writes);
      given = (
        given_spans ++ c.in-Ok-Some.read ∷ [],
        given_next {g = g.M.Machine} _ _ _ has c.in-Ok-Some.read t.pulls t.stop,
        part_wrote g.W.Sink.contents g.W.Sink.faults _ _ _ _ _ _ (shown_more g.E.Canonical.text given_spans c.in-Ok-Some.read) went c.in-Ok.ensures.writes,
      );
    })

pub returns-in-Err-show_statement-clause-shows : goal.returns-in-Err-show_statement-clause-shows
returns-in-Err-show_statement-clause-shows g c =
    let (spans, pulled, wrote) = c.loop-read.invariant.shown in let t = rw (c.in-Ok-Some.is, c.in-Ok-Some.field-0-is) at c.pull.ensures in
    broken {g = g.M.Machine} c.args.longest c.args.machine g.E.Canonical.text g.W.Sink.contents g.W.Sink.faults spans c.pull.new.feeder c.in-Ok-Some.read c.args.out.now c.loop-read.out c.show_statement.new.out wrote c.in-Err-show_statement.ensures.writes _ _ (t.row c.args.longest c.args.machine (g.S.Source.left c.args.input.now) spans pulled)

pub returns-in-Err-clause-shows : goal.returns-in-Err-clause-shows
returns-in-Err-clause-shows g c =
    let (spans, pulled, wrote) = c.loop-read.invariant.shown in let t = rw c.in-Err.is at c.pull.ensures in
    rw c.text_fault.ensures (refused {g = g.M.Machine} c.args.longest c.args.machine g.E.Canonical.text g.W.Sink.contents g.W.Sink.faults spans c.pull.new.feeder c.in-Err.stop c.args.out.now c.loop-read.out wrote _ _ (t.row c.args.longest c.args.machine (g.S.Source.left c.args.input.now) spans pulled))

pub returns-clause-shows : goal.returns-clause-shows
returns-clause-shows g c =
    let (spans, pulled, wrote) = c.loop-read.invariant.shown in let t = rw (c.in-Ok-None.is, c.in-Ok-None.field-0-is) at c.pull.ensures in
    let all = t.row c.args.longest c.args.machine (g.S.Source.left c.args.input.now) spans pulled in
    let ends = subst (λ (p : Place). EndsAt p (g.S.Source.left c.pull.new.source) c.read_blank_rest.result (g.S.Source.left c.read_blank_rest.new.input)) c.place.ensures.place c.read_blank_rest.ensures.ends in
    shows_end (AcceptsItems g.M.Machine.automaton c.args.machine) c.args.longest (MayAsk g.M.Machine.automaton c.args.machine) g.E.Canonical.text g.W.Sink.contents g.W.Sink.faults (g.S.Source.left c.args.input.now) (g.S.Source.left c.pull.new.source) (g.S.Source.left c.read_blank_rest.new.input) spans _ _ _ c.read_blank_rest.result all ends wrote

pub returns-in-Err-show_statement-clause-given : goal.returns-in-Err-show_statement-clause-given
returns-in-Err-show_statement-clause-given g c =
    let (spans, has, wrote) = c.loop-read.invariant.given in let t = rw (c.in-Ok-Some.is, c.in-Ok-Some.field-0-is) at c.pull.ensures in
    given_by _ _ (broken {g = g.M.Machine} c.args.longest c.args.machine g.E.Canonical.text g.W.Sink.contents g.W.Sink.faults spans c.pull.new.feeder c.in-Ok-Some.read c.args.out.now c.loop-read.out c.show_statement.new.out wrote c.in-Err-show_statement.ensures.writes) (given_row {g = g.M.Machine} _ _ _ has t.pulls t.stop t.last (λ m e. (t.past m e).past))

pub returns-in-Err-clause-given : goal.returns-in-Err-clause-given
returns-in-Err-clause-given g c =
    let (spans, has, wrote) = c.loop-read.invariant.given in let t = rw c.in-Err.is at c.pull.ensures in
    rw c.text_fault.ensures (given_by _ _ (refused {g = g.M.Machine} c.args.longest c.args.machine g.E.Canonical.text g.W.Sink.contents g.W.Sink.faults spans c.pull.new.feeder c.in-Err.stop c.args.out.now c.loop-read.out wrote) (given_row {g = g.M.Machine} _ _ _ has t.pulls t.stop t.last (λ m e. (t.past m e).past)))

pub returns-clause-given : goal.returns-clause-given
returns-clause-given g c =
    let (spans, has, wrote) = c.loop-read.invariant.given in let t = rw (c.in-Ok-None.is, c.in-Ok-None.field-0-is) at c.pull.ensures in
    let ends = subst (λ (p : Place). OfGiven (λ left rest. EndsAt p left c.read_blank_rest.result rest) (g.S.Source.history c.pull.new.source) (g.S.Source.history c.read_blank_rest.new.input)) c.place.ensures.place c.read_blank_rest.ensures.given in
    given_shown (AcceptsItems g.M.Machine.automaton c.args.machine) c.args.longest (MayAsk g.M.Machine.automaton c.args.machine) g.E.Canonical.text g.W.Sink.contents g.W.Sink.faults (g.S.Source.history c.args.input.now) (g.S.Source.history c.pull.new.source) (g.S.Source.history c.read_blank_rest.new.input) spans (place_of c.pull.new.feeder) c.args.out.now c.loop-read.out c.read_blank_rest.result
    (given_row {g = g.M.Machine} _ _ _ has t.pulls t.stop t.last (λ m e. (t.past m e).past))
    ends wrote

pub returns-in-Err-clause-seen : goal.returns-in-Err-clause-seen
returns-in-Err-clause-seen g c =
    let (spans, pulled, wrote) = c.loop-read.invariant.shown in let t = rw c.in-Err.is at c.pull.ensures in
    rw c.text_fault.ensures (t.shown pulled.running)
