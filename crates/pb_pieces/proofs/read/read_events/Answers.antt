use Rattle.pb_pieces.proofs.Common.{◌++◌, ◌∷◌, [], ap, Err, Ok, subst, opb, AcceptsItems, Place, ReadsBlank, first_pull, InRest, InText, Unstored}
use Rattle.pb_pieces.proofs.Statements.{flat_by}
use Rattle.pb_pieces.proofs.read.read_events.Goals as goal

pub loop-read-init : goal.loop-read-init
loop-read-init g c =
    let feeder = c.within-feeder.ensures in
    let begun = first_pull {g = record { automaton = opb }} c.args.longest c.args.machine (g.S.Source.left c.args.input.now) c.within-feeder.result feeder.stands feeder.running (ap (λ (p : Place). p.offset) feeder.place) in
    ([], begun, c.requires.nothing)

pub loop-read-preserved : goal.loop-read-preserved
loop-read-preserved g c =
    let (spans, pulled, arrays) = c.loop-read.invariant in
    let t = rw (c.in-Ok-Some.is, c.in-Ok-Some.field-0-is) at c.pull.ensures in
    let (more, sofar) = t.row c.args.longest c.args.machine (g.S.Source.left c.args.input.now) spans pulled in
    (spans ++ c.in-Ok-Some.read ∷ [], more, c.in-Ok.ensures.added spans arrays)

pub returns-in-Ok-rest_is_blank-clause-read : goal.returns-in-Ok-rest_is_blank-clause-read
returns-in-Ok-rest_is_blank-clause-read g c =
    let (spans, pulled, arrays) = c.loop-read.invariant in
    let t = rw (c.in-Ok-None.is, c.in-Ok-None.field-0-is) at c.pull.ensures in
    let all = t.row c.args.longest c.args.machine (g.S.Source.left c.args.input.now) spans pulled in
    flat_by (AcceptsItems opb c.args.machine) c.args.longest (g.S.Source.left c.args.input.now) (g.S.Source.left c.pull.new.source) (g.S.Source.left c.rest_is_blank.new.source) spans _ c.loop-read.flat all
    (subst (λ (p : Place). ReadsBlank p (g.S.Source.left c.pull.new.source) (Ok tt) (g.S.Source.left c.rest_is_blank.new.source)) c.place.ensures.place c.in-Ok-rest_is_blank.ensures.blank) arrays

pub returns-in-Err-rest_is_blank-clause-refused : goal.returns-in-Err-rest_is_blank-clause-refused
returns-in-Err-rest_is_blank-clause-refused g c =
    let (spans, pulled, arrays) = c.loop-read.invariant in
    let t = rw (c.in-Ok-None.is, c.in-Ok-None.field-0-is) at c.pull.ensures in
    let all = t.row c.args.longest c.args.machine (g.S.Source.left c.args.input.now) spans pulled in
    InRest spans (g.S.Source.left c.pull.new.source) _ all
    (subst (λ (p : Place). ReadsBlank p (g.S.Source.left c.pull.new.source) (Err c.in-Err-rest_is_blank.stop) (g.S.Source.left c.rest_is_blank.new.source)) c.place.ensures.place c.in-Err-rest_is_blank.ensures.blank)

pub returns-in-Err-clause-refused : goal.returns-in-Err-clause-refused
returns-in-Err-clause-refused g c =
    let (spans, pulled, arrays) = c.loop-read.invariant in
    let t = rw c.in-Err.is at c.pull.ensures in
    InText spans (t.row c.args.longest c.args.machine (g.S.Source.left c.args.input.now) spans pulled).0

pub returns-in-Err-add_read-clause-refused : goal.returns-in-Err-add_read-clause-refused
returns-in-Err-add_read-clause-refused g c = Unstored c.in-Err-add_read.ensures.memory
