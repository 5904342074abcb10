use Rattle.pb_propagate.proofs.Common.{◌≤◌, arith, cases_eq, Grown, inl, inr, pushed, refl}
use Rattle.pb_propagate.proofs.lemmas.{engine.Runs.grown-absent, engine.Runs.grown-new, store.Positions.push-older}
use Rattle.pb_propagate.proofs.store.refresh.wait_below.Goals as goal

pub returns-then-contains : goal.returns-then-contains
returns-then-contains c =
    record { absent = λ s g. g; above = λ g. absurd (c.contains.ensures.yes c.if-contains.true g); older = λ i s h. inr (i, h); positions = refl }

pub returns : goal.returns
returns c =
    let list = c.put.ensures.list in
    let grown : Grown (c.args.bound ≤ c.args.opened) c.args.form c.args.waiting.now.list.items c.put.new.self.list.items = rw list pushed in
    record {
      absent = λ s. grown-absent c.args.form _ _ 0 s grown;
      above = λ gone. grown-new c.args.form _ _ 0 c.args.form (omega arith) refl grown gone;
      older = λ i s here. elim (cases_eq s c.args.form) [
        | inl is ↦ inl (is, omega arith)
        | inr other ↦ inr (i, push-older _ c.args.form i s other (rw list at here))
      ];
      positions = c.put.ensures.positions;
    }
