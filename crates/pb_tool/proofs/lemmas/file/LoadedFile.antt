-- The replay of a file whose statements are loaded one by one.
use Rattle.pb_replay.specs.contract.ReplayModel.{Replaying, StandsFor}
use Rattle.pb_replay.specs.declared.fault.Fault.{Fault, TheVariants.Memory as no_memory, TheVariants.Overflow as over}
use Rattle.pb_replay.specs.meaning.{Problem.FitsAll, Problem.Opened, Replay.first_state}
use Rattle.pb_tool.proofs.Common.{ℕ, ◌≡◌, ◌⊎◌, ◌↔◌, [], Err, inl, inr, Instance, IsGathered, IsInstanceText, largest, Limits, List, Memory, NamesInOrder, None}
use Rattle.pb_tool.proofs.Common.{noted, Ok, OpbEvent, Option, Overflow, refl, subst, Item, ◌∙◌}
use Rattle.pb_tool.proofs.lemmas.tidy.NormalFile.{noted_file}
use Rattle.pb_tool.specs.contract.Runs.{IsNoReplay, IsReplayOf}
use Rattle.pb_tool.specs.declared.fault.Input.TheVariants.{Instance as of_instance}

module _ (limits : Limits) (longest : ℕ) (accepted : List (Item OpbEvent) → Type 0) (same : (items : List (Item OpbEvent)) → accepted items ↔ IsInstanceText limits items) (before after : Option (List ℕ))
    (t : Limits × List OpbEvent) (f : IsGathered accepted longest noted (limits, []) before after t) where
  -- the statements are an instance
  pub in-order : (v : Instance) × NamesInOrder t.1 v
  in-order = let (v, file, (under, order)) = noted_file limits longest accepted same before after t f in (v, order)

  pub its-replay : (r : Replaying) → ((v : Instance) → NamesInOrder t.1 v → Opened (largest t.0) v (Ok r.problem)) → r.limits ≡ t.0 → StandsFor r (first_state r.problem) → r.fault ≡ None → IsReplayOf limits longest before after r
  its-replay r opened limited first running =
      let (v, file, (under, order)) = noted_file limits longest accepted same before after t f in
      record { instance = v; file = file; opened = subst (λ (l : Limits). Opened (largest l) v (Ok r.problem)) under (opened v order); limited = limited ∙ under; first = first; running = running }

  pub lost : ((v : Instance) → NamesInOrder t.1 v → FitsAll (largest t.0) v) → IsNoReplay limits longest before after (Memory of_instance)
  lost fits = let (v, file, (under, order)) = noted_file limits longest accepted same before after t f in (v, file, subst (λ (l : Limits). FitsAll (largest l) v) under (fits v order))

  pub overflown : (e : Fault) → (e ≡ no_memory → ⊥) → (e ≡ no_memory) ⊎ ((v : Instance) → NamesInOrder t.1 v → Opened (largest t.0) v (Err e)) → IsNoReplay limits longest before after (Overflow of_instance)
  overflown e not_memory (inl memory) = absurd (not_memory memory)
  overflown e not_memory (inr opened) =
      let (v, file, (under, order)) = noted_file limits longest accepted same before after t f in (v, file, only_over v (subst (λ (l : Limits). Opened (largest l) v (Err e)) under (opened v order)))
    where
      only_over : (v : Instance) → Opened (largest limits) v (Err e) → Opened (largest limits) v (Err over)
      only_over v (inl (fits, (forms, are, bad))) = absurd (let b = bad in cc)
      only_over v (inr (none, is)) = inr (none, refl)
