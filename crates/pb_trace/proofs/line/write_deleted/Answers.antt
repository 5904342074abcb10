use Rattle.pb_trace.proofs.Common.{ℤ, ◌∙◌, arith, get_or, pos, refl, rules, sym, to_z-of_z, w64, part_broke, part_then, part_wrote, live_in}
use Rattle.pb_trace.proofs.Storing.{deleted_at, deleted_more, without_more}
use mir.Val.{SFits}
use Rattle.pb_trace.proofs.line.write_deleted.Goals as goal

pub returns-in_err-write_deletion-clause-text : goal.returns-in_err-write_deletion-clause-text
returns-in_err-write_deletion-clause-text g c =
    let id : ℤ = get_or c.args.ids.now c.loop-id.id-index (pos 0) in
    let fits : SFits w64 id = search rules in
    part_then g.S.Sink.contents g.S.Sink.faults _ _ _ _ _ _ _ (deleted_at c.args.style.ids c.args.style.lines.now c.args.replay.now.names (live_in c.args.constraints.now.forms.items) c.args.ids.now c.loop-id.id-index (pos 0) (omega arith)) c.loop-id.invariant.0
    (part_broke g.S.Sink.contents g.S.Sink.faults _ _ _ _ _ _ refl c.from_residual.ensures.0
    (rw (to_z-of_z w64 id fits, c.loop-id.invariant.1) at c.in_err-write_deletion.ensures.text))

pub loop-id-preserved : goal.loop-id-preserved
loop-id-preserved g c =
    let id : ℤ = get_or c.args.ids.now c.loop-id.id-index (pos 0) in
    let fits : SFits w64 id = search rules in
    let names = c.args.replay.now.names in
    let live = live_in c.args.constraints.now.forms.items in (
      part_wrote g.S.Sink.contents g.S.Sink.faults _ _ _ _ _ _ (deleted_more c.args.style.ids c.args.style.lines.now names live c.args.ids.now c.loop-id.id-index (pos 0) (omega arith)) c.loop-id.invariant.0
          (rw (to_z-of_z w64 id fits, c.loop-id.invariant.1) at c.in_ok-write_deletion.ensures.text),
      (rw (to_z-of_z w64 id fits, c.loop-id.invariant.1) at c.in_ok-write_deletion.ensures.stored)
          ∙ sym (without_more live c.args.ids.now c.loop-id.id-index (pos 0) (omega arith)),
    )
