use Rattle.pb_c.proofs.Common.{ℕ, ◌+◌, ◌-◌, ◌^◌, ◌∙◌, ◌≡◌, ap, length, min, rules, slice_get, Some, sym, take, joined}
use Rattle.pb_c.proofs.{Copied.counted_next, Copied.length_next, names.bytes_in.Goals.names-preserved as goal}

pub names-preserved : goal
names-preserved c =
    let names = c.args.names.now in let n = c.names.number in
    let at : slice_get c.args.names.now c.names.number ≡ Some c.in-Some.name.now = search rules in
    let grown : c.saturating_add-count.result ≡ min (c.names.count + length c.in-Some.name.now) (2 ^ 64 - 1) = search rules in
    grown
    ∙ (counted_next (length (joined (take n names))) (length c.in-Some.name.now) (2 ^ 64 - 1) c.names.count c.names.invariant ∙ ap (λ (k : ℕ). min k (2 ^ 64 - 1)) (sym (length_next names n c.in-Some.name.now at)))
