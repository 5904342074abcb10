use Rattle.pb_tool.proofs.Common.{ℕ, ◌%◌, ◌*◌, ◌-◌, ◌^◌, ◌∙◌, ◌≡◌, ◌≤◌, ap, arith, false, true, AreLimits}
use Rattle.pb_tool.proofs.limits.limits_of.Goals.{then-bits-lt63, else-bits-lt63}
use Rattle.std.proofs.Math.{Nat.mod-eq_of_lt, Pow.pow_mono}
use Rattle.pb_tool.proofs.limits.limits_of.Goals as goal

low : (n : ℕ) → n ≤ 2 ^ 62 → n % 2 ^ 64 ≡ n
low n h = mod-eq_of_lt (omega arith)

shifted : (k : ℕ) → k ≤ 62 → 1 * 2 ^ k % 2 ^ 64 ≡ 2 ^ k
shifted k h = let one : 1 * 2 ^ k ≡ 2 ^ k = omega arith in ap (λ (n : ℕ). n % 2 ^ 64) one ∙ low (2 ^ k) (pow_mono h)

with_few_bits : (k top : ℕ) → 31 ≤ k → k ≤ 62 → top ≡ 1 * 2 ^ k % 2 ^ 64 - 1 → AreLimits k top
with_few_bits k top least most is =
    let lower : 2 ^ 31 ≤ 2 ^ k = pow_mono least in let upper : 2 ^ k ≤ 2 ^ 62 = pow_mono most in
    let greatest : top ≡ 2 ^ k - 1 = is ∙ ap (λ (n : ℕ). n - 1) (shifted k most) in
    (least, omega arith, omega (arith, greatest, lower), omega (arith, greatest, upper), omega (arith, greatest, lower))

with_many_bits : (k top : ℕ) → 63 ≤ k → k ≤ 127 → top ≡ 2 ^ 63 - 1 → AreLimits k top
with_many_bits k top least most is =
    let upper : 2 ^ 63 ≤ 2 ^ k = pow_mono least in (omega arith, most, omega (arith, is), omega (arith, is), omega (arith, is, upper))

are_limits : (c : goal.In-None) → AreLimits c.args.bits c.if-bits-lt63.top
are_limits c = grind (arith, c.if-bits-lt63.branch, with_few_bits, c.requires.least, with_many_bits, c.requires.most)

pub unreachable-requires : goal.unreachable-requires
unreachable-requires c = let some : false ≡ true = c.in-None.ensures.valid.1 (are_limits c) in cc
