use Rattle.pb_text.proofs.Common.{◌∙◌, [], ap, append-nil, arith, refl, sym, Place}
use Rattle.pb_text.proofs.lemmas.source.{Drawn.lost_nothing, Drawn.seen_after, Wholes.so_far, Wholes.whole_done, Wholes.whole_stopped, Wholes.whole_unkept}
use Rattle.pb_text.proofs.lemmas.text.Short.{end_limit}
use Rattle.pb_text.proofs.whole.read_whole.Goals as goal

pub loop-spanned-init : goal.loop-spanned-init
loop-spanned-init g c =
    let before = g.S.Source.left c.args.source.now in
    let seen = seen_after before [] before (lost_nothing before) in
    record {
      faults = refl;
      so_far = record {
        spans = [];
        pulled = record { used = []; seen = seen.0; took = seen.1; offset_is = ap (λ (q : Place). q.offset) c.within-feeder.ensures.place; stands = c.within-feeder.ensures.stands; running = c.within-feeder.ensures.running };
        value_is = refl;
        given_are = sym (append-nil (g.S.Source.history c.args.source.now));
      };
    }

pub returns-in-Err-collect-clause-reads : goal.returns-in-Err-collect-clause-reads
returns-in-Err-collect-clause-reads g c =
    let t = rw (c.in-Ok-Some.is, c.in-Ok-Some.field-0-is) at c.pull.ensures in
    rw (c.place.ensures.place, c.collect.ensures.feeder) (whole_unkept c.loop-spanned.invariant.so_far g.G.Gather.asks c.in-Ok-Some.spanned t.pulls t.stop (t.past c.in-Ok-Some.spanned refl).past c.in-Err-collect.ensures.asking).0

pub returns-in-Err-collect-clause-given : goal.returns-in-Err-collect-clause-given
returns-in-Err-collect-clause-given g c =
    let t = rw (c.in-Ok-Some.is, c.in-Ok-Some.field-0-is) at c.pull.ensures in
    rw (c.place.ensures.place, c.collect.ensures.feeder) (whole_unkept c.loop-spanned.invariant.so_far g.G.Gather.asks c.in-Ok-Some.spanned t.pulls t.stop (t.past c.in-Ok-Some.spanned refl).past c.in-Err-collect.ensures.asking).1

pub loop-spanned-smaller : goal.loop-spanned-smaller
loop-spanned-smaller g c =
    let t = rw (c.in-Ok-Some.is, c.in-Ok-Some.field-0-is) at c.pull.ensures in
    let f = c.pull.new.feeder in
    rw c.collect.ensures.feeder (omega (arith, (t.past c.in-Ok-Some.spanned refl).onward, f.offset_in_range, f.end_is, end_limit f.longest f.first))

pub loop-spanned-preserved : goal.loop-spanned-preserved
loop-spanned-preserved g c =
    let i = c.loop-spanned.invariant in
    let t = rw (c.in-Ok-Some.is, c.in-Ok-Some.field-0-is) at c.pull.ensures in
    record { faults = rw i.so_far.pulled.running at t.faults ∙ i.faults; so_far = rw c.collect.ensures.feeder (so_far i.so_far c.in-Ok-Some.spanned c.collect.new.value t.pulls t.stop c.in_default.ensures.ok) }

pub returns-in-Ok-None-clause-reads : goal.returns-in-Ok-None-clause-reads
returns-in-Ok-None-clause-reads g c =
    let t = rw (c.in-Ok-None.is, c.in-Ok-None.field-0-is) at c.pull.ensures in
    rw c.place-in-Ok-None.ensures.place (whole_done c.loop-spanned.invariant.so_far t.pulls t.stop (t.last refl)).0

pub returns-in-Ok-None-clause-given : goal.returns-in-Ok-None-clause-given
returns-in-Ok-None-clause-given g c =
    let t = rw (c.in-Ok-None.is, c.in-Ok-None.field-0-is) at c.pull.ensures in
    rw c.place-in-Ok-None.ensures.place (whole_done c.loop-spanned.invariant.so_far t.pulls t.stop (t.last refl)).1

pub returns-in-Err-clause-reads : goal.returns-in-Err-clause-reads
returns-in-Err-clause-reads g c =
    let t = rw c.in-Err.is at c.pull.ensures in (whole_stopped c.loop-spanned.invariant.so_far g.G.Gather.asks c.in-Err.stop t.pulls t.stop).0

pub returns-in-Err-clause-given : goal.returns-in-Err-clause-given
returns-in-Err-clause-given g c =
    let t = rw c.in-Err.is at c.pull.ensures in (whole_stopped c.loop-spanned.invariant.so_far g.G.Gather.asks c.in-Err.stop t.pulls t.stop).1
