use Rattle.pb_trace.proofs.Common.{◌≡◌, take, live_in, without_all}
use Rattle.pb_trace.proofs.stored.Constraints.delete_all.Given as goal

-- the constraints so far are deleted
abbrev pub invariant-loop-id : goal.invariant-loop-id
invariant-loop-id l = live_in l.self.forms.items ≡ without_all (live_in l.initial.self.forms.items) (take l.id-index l.ids)
