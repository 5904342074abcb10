use Rattle.pb_text.proofs.{Common.take-take, lemmas.text.Spans.prefix_parts}
use Rattle.pb_text.proofs.Common.{ℕ, ◌++◌, ◌∷◌, ◌≡◌, ◌≤◌, [], arith, drop, length-drop, length-take, List, subst, suc, take, zero, Each, take-append-drop}
use Rattle.pb_text.proofs.place.has_line_feed.Goals as goal

-- two texts without a line feed
each_joined : (P : ℕ → Type 0) (xs ys : List ℕ) → Each P xs → Each P ys → Each P (xs ++ ys)
each_joined P [] ys first second = second
each_joined P (x ∷ xs) ys first second = (first.0, each_joined P xs ys first.1 second)

pub loop-chunk-preserved : goal.loop-chunk-preserved
loop-chunk-preserved c = grind (arith, c.in-Some.ensures.cases.same, c.has_line_feed_in.ensures, c.if-has_line_feed_in.false, c.in-Some.ensures.cases.enough, length-take, length-drop, c.loop-chunk.invariant.bound, prefix_parts, each_joined, c.loop-chunk.invariant.none)

-- a prefix of a text without a line feed
each_prefix : (P : ℕ → Type 0) (n : ℕ) (xs : List ℕ) → Each P xs → Each P (take n xs)
each_prefix P zero xs all = tt
each_prefix P (suc n) [] all = tt
each_prefix P (suc n) (x ∷ xs) all = (all.0, each_prefix P n xs all.1)

-- all bytes of a text are in a prefix or in the last chunk, if these meet
meet : (P : ℕ → Type 0) (text chunk : List ℕ) (i n : ℕ) → n ≤ i → chunk ≡ drop n text → Each P (take i text) → Each P chunk → Each P text
meet P text chunk i n below same first second =
    let start : Each P (take n text) = subst (λ (x : List ℕ). Each P x) (take-take n i text below) (each_prefix P n (take i text) first) in
    subst (λ (x : List ℕ). Each P x) (take-append-drop n text) (each_joined P (take n text) (drop n text) start (subst (λ (x : List ℕ). Each P x) same second))

pub returns-in-Some-last_chunk : goal.returns-in-Some-last_chunk
returns-in-Some-last_chunk c none = grind (arith, c.in-Some-last_chunk.ensures.cases, c.in_default.ensures.cases, meet, length-take, length-drop, c.loop-chunk.invariant.bound, c.loop-chunk.invariant.none, c.has_line_feed_in-in-Some-last_chunk.ensures)
