use Rattle.pb_propagate.proofs.Common.{ℕ, ◌<◌, ◌≡◌, get_or, length, begun}
use Rattle.pb_propagate.proofs.clauses.blocks.Blocks.begin_all.Given as goal

abbrev pub invariant-slots : goal.invariant-slots
invariant-slots l = record {
  literals : l.self.literals ≡ l.initial.self.literals;
  watches : l.self.watches ≡ l.initial.self.watches;
  rooms : l.self.rooms ≡ l.initial.self.rooms;
  sizes : length l.self.searches ≡ length l.initial.self.searches;
  positions : (s : ℕ) → (get_or l.self.searches s begun).position ≡ (get_or l.initial.self.searches s begun).position;
  passed : (s : ℕ) → s < l.slot → (get_or l.self.searches s begun).passed ≡ 0;
}
