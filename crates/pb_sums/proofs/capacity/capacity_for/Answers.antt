use Rattle.pb_sums.proofs.Common.{ℕ, ◌++◌, ◌∷◌, [], arith, drop, length, length-drop, length-take, List, subst, sym, take, take-append-drop, Each, prefix_parts}
use Rattle.std.{proofs.Math.Seq.take-length, specs.Prelude.◌-◌, specs.Prelude.◌≢◌}
use Rattle.pb_sums.proofs.capacity.capacity_for.Goals as goal

-- two texts with no `;`
each_joined : (P : ℕ → Type 0) (xs ys : List ℕ) → Each P xs → Each P ys → Each P (xs ++ ys)
each_joined P [] ys first second = second
each_joined P (x ∷ xs) ys first second = (first.0, each_joined P xs ys first.1 second)

pub loop-chunk-preserved : goal.loop-chunk-preserved
loop-chunk-preserved c =
    let text = c.args.text.now in let i = c.loop-chunk.searched in
    let rest = take (length text - i) (drop i text) in
    let chunk = subst (λ (x : List ℕ). Each (λ b. b ≢ 59) x) c.in-Some.ensures.cases.same (c.has_semicolon.ensures c.if-has_semicolon.false) in
    record {
      bound = omega (arith, c.in-Some.ensures.cases.enough, length-take (length text - i) (drop i text), length-drop i text, c.loop-chunk.invariant.bound);
      none = subst (λ (x : List ℕ). Each (λ b. b ≢ 59) x) (sym (prefix_parts text i 32)) (each_joined (λ b. b ≢ 59) (take i text) (take 32 rest) c.loop-chunk.invariant.none chunk);
    }

pub returns-else-has_semicolon-2-clause-none : goal.returns-else-has_semicolon-2-clause-none
returns-else-has_semicolon-2-clause-none c h =
    let text = c.args.text.now in let i = c.loop-chunk.searched in
    let rest = rw (← length-drop i text, take-length) at (c.has_semicolon-2.ensures c.if-has_semicolon-2.false) in
    subst (λ (x : List ℕ). Each (λ b. b ≢ 59) x) (take-append-drop i text) (each_joined (λ b. b ≢ 59) (take i text) (drop i text)
    c.loop-chunk.invariant.none rest)
