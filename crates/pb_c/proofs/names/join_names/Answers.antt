use Rattle.pb_c.proofs.Common.{ℕ, ◌++◌, ◌+◌, ◌∙◌, ◌≡◌, ◌≤◌, ap, ap₂, arith, length, List, None, rules, slice_get, Some, sym, take, joined}
use Rattle.pb_c.proofs.Copied.{inside_some, joined_next, joined_within, length_next, starts_next}
use Rattle.std.proofs.lemmas.Slice.{take-put_mid}
use Rattle.pb_c.proofs.names.join_names.Goals as goal

pub slice_bounds-copy_from_slice-end : goal.slice_bounds-copy_from_slice-end
slice_bounds-copy_from_slice-end c =
    let at : slice_get c.args.names.now c.names.number ≡ Some c.in-Some.name.now = search rules in
    let text : c.as_bytes-text.result.now ≡ c.in-Some.name.now = search rules in
    let within : c.names.past + length c.as_bytes-text.result.now ≤ length c.names.bytes =
    omega (arith, joined_within c.args.names.now c.names.number c.in-Some.name.now at, c.names.invariant.past, ap length text, c.names.auto.bytes, c.requires.bytes) in
    within

pub unreachable-requires : goal.unreachable-requires
unreachable-requires c =
    let none : None ≡ slice_get c.args.names.now c.names.number = search rules in
    inside_some c.args.names.now c.names.number (omega (arith, c.names-test.true, c.len-number-end.ensures.length)) none

pub names-preserved : goal.names-preserved
names-preserved c =
    let names = c.args.names.now in let n = c.names.number in let inv = c.names.invariant in
    let at : slice_get c.args.names.now c.names.number ≡ Some c.in-Some.name.now = search rules in
    let text : c.as_bytes-text.result.now ≡ c.in-Some.name.now = search rules in
    let copied : c.copy_from_slice.new.self ≡ c.as_bytes-text.result.now = search rules in
    let past : c.names.past + length c.as_bytes-text.result.now ≡ length (joined (take (c.names.number + 1) c.args.names.now)) = omega (arith, inv.past, ap length text, length_next names n c.in-Some.name.now at) in
    let inside : c.names.past ≤ length c.names.bytes = omega (arith, joined_within names n c.in-Some.name.now at, inv.past, c.names.auto.bytes, c.requires.bytes) in
    record {
      past = past;
      bytes = take-put_mid c.names.past _ c.names.bytes c.copy_from_slice.new.self (c.names.past + length c.as_bytes-text.result.now) (ap (λ (x : List ℕ). c.names.past + length x) (sym copied)) inside
          ∙ (ap₂ (λ (x y : List ℕ). x ++ y) inv.bytes (copied ∙ text) ∙ sym (joined_next names n c.in-Some.name.now at));
      starts = starts_next names c.names.starts n c.names.past inv.starts inv.past (omega (arith, c.names-test.true, c.len-number-end.ensures.length, c.names.auto.starts, c.requires.starts));
    }
