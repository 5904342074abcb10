use Rattle.pb_propagate.proofs.Common.{ℕ, ◌<◌, ◌≡◌, [], get_or, place, entries_of, shapes_of, Weighted, slice_get, Some}
use Rattle.pb_propagate.specs.engine.engine.Refreshed.{AreRefreshed, IsRefreshed}
use Rattle.pb_propagate.proofs.store.refresh.refresh_all.Given as goal

abbrev pub invariant-entries : goal.invariant-entries
invariant-entries l = record {
  each : AreRefreshed l.store l.initial.root l.root;
  all : (j : ℕ) (e : Weighted) → j < l.j → slice_get (get_or (entries_of (shapes_of l.store.stored.items) l.store.occurrences) (place l.fn.literal) []) j ≡ Some e → IsRefreshed l.store l.root e.form;
  opens : l.root.run.opens ≡ l.initial.root.run.opens;
}
