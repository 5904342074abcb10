use Rattle.pb_propagate.proofs.Common.{shapes_in, [], arith, rules, ℕ, ◌<◌, length, Shape, IsAbsent, All-nil}
use Rattle.pb_propagate.proofs.engine.root.back.Goals as goal

pub returns : goal.returns
returns c =
    let clean = λ (s : ℕ) (d : Shape) (inside : s < length (shapes_in c.args.store.now)) (gone : IsAbsent [] 0 s). c.undo_forms.ensures.undone.clean s d inside
    (λ i from less at. absurd (omega (arith, from, less))) in
    search (rules, clean, All-nil)
