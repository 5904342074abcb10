use Rattle.pb_propagate.proofs.Common.{◌-◌, ◌<◌, ◌^◌}
use Rattle.pb_propagate.proofs.clauses.blocks.room_of.Given as goal

abbrev pub invariant-rooms : goal.invariant-rooms
invariant-rooms l = record {
  some : 0 < l.room;
  small : l.room < 2 ^ 32;
}

abbrev pub decreases-rooms : goal.decreases-rooms
decreases-rooms l = l.count - l.room
