use Rattle.pb_trace.proofs.Common.{◌≡◌, take, Wrote, live_in, deleted_bytes, without_all}
use Rattle.pb_trace.proofs.line.write_deleted.Given as goal

-- the constraints so far are written and deleted
abbrev pub invariant-loop-id : goal.invariant-loop-id
invariant-loop-id g l =
    Wrote g.S.Sink.contents g.S.Sink.faults l.initial.out (deleted_bytes l.style.ids l.style.lines.now l.replay.names (live_in l.initial.constraints.forms.items) (take l.id-index l.ids)) l.out
    × (live_in l.constraints.forms.items ≡ without_all (live_in l.initial.constraints.forms.items) (take l.id-index l.ids))
