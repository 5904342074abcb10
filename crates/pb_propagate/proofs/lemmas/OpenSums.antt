-- Sums in two columns.
use Rattle.pb_propagate.specs.engine.OpenSums.{elsewhere, sum_of, sums_of}
use Rattle.std.proofs.Common.{arith, ℕ, ◌-◌, ◌<◌, ◌≡◌, ◌∙◌, ◌++◌, ◌∷◌, [], List, ap, sym, suc, refl, length, take, get_or, set, zero}
use Rattle.std.proofs.lemmas.List.{get_or-map, length-map}
use Rattle.std.proofs.lemmas.Slice.Zip.{get_or-zip, length-zip}
use Rattle.std.specs.List.{zip}
use Rattle.std.specs.Prelude.{Err, Ok, OnOk, Result}

-- ---- The two columns.
narrow_sum : (narrow wide : ℕ) → (narrow ≡ elsewhere → ⊥) → sum_of narrow wide ≡ narrow
narrow_sum narrow wide here = grind (arith, here)

-- A sum is another, which is not narrow.
both_set : (ns ws : List ℕ) (i n w : ℕ) → sums_of (set ns i n) (set ws i w) ≡ set (sums_of ns ws) i (sum_of n w)
both_set [] ws i n w = refl
both_set (a ∷ ns) [] zero n w = refl
both_set (a ∷ ns) [] (suc i) n w = refl
both_set (a ∷ ns) (b ∷ ws) zero n w = refl
both_set (a ∷ ns) (b ∷ ws) (suc i) n w = ap (λ l. sum_of a b ∷ l) (both_set ns ws i n w)

-- A sum is another, which is narrow.
one_set : (ns ws : List ℕ) (i n : ℕ) → (n ≡ elsewhere → ⊥) → sums_of (set ns i n) ws ≡ set (sums_of ns ws) i n
one_set [] ws i n here = refl
one_set (a ∷ ns) [] zero n here = refl
one_set (a ∷ ns) [] (suc i) n here = refl
one_set (a ∷ ns) (b ∷ ws) zero n here = ap (λ s. s ∷ sums_of ns ws) (narrow_sum n b here)
one_set (a ∷ ns) (b ∷ ws) (suc i) n here = ap (λ l. sum_of a b ∷ l) (one_set ns ws i n here)

one_more : (ns ws : List ℕ) → length ns ≡ length ws → sums_of (ns ++ 0 ∷ []) (ws ++ 0 ∷ []) ≡ sums_of ns ws ++ 0 ∷ []
one_more [] [] even = refl
one_more [] (b ∷ ws) even = absurd (omega (arith, even))
one_more (a ∷ ns) [] even = absurd (omega (arith, even))
one_more (a ∷ ns) (b ∷ ws) even = ap (λ l. sum_of a b ∷ l) (one_more ns ws (omega (arith, even)))

both_cut : (k : ℕ) (ns ws : List ℕ) → sums_of (take k ns) (take k ws) ≡ take k (sums_of ns ws)
both_cut zero ns ws = refl
both_cut (suc k) [] ws = refl
both_cut (suc k) (a ∷ ns) [] = refl
both_cut (suc k) (a ∷ ns) (b ∷ ws) = ap (λ l. sum_of a b ∷ l) (both_cut k ns ws)

-- ---- The sums that the columns are seen as.
module _ (narrow wide : List ℕ) {sums : List ℕ} (view : sums_of narrow wide ≡ sums) (even : length narrow ≡ length wide) where
  pub sums-length : length sums ≡ length narrow
  sums-length = omega (arith, ap length view, length-map (zip narrow wide) (λ p. sum_of p.0 p.1), length-zip narrow wide, even)

  pub inside : (index : ℕ) → index < length sums → (index < length narrow) × (index < length wide)
  inside index low = (omega (arith, low, sums-length), omega (arith, low, sums-length, even))

  sum_at : (index : ℕ) → index < length sums → (d : ℕ) → sum_of (get_or narrow index 0) (get_or wide index 0) ≡ get_or sums index d
  sum_at index low d =
      let both = inside index low in
      ap (λ p. sum_of p.0 p.1) (sym (get_or-zip narrow wide index (0, 0) both.0 both.1))
      ∙ (sym (get_or-map (λ p. sum_of p.0 p.1) (zip narrow wide) index (0, 0) d (omega (arith, both.0, length-zip narrow wide, even)))
      ∙ ap (λ l. get_or l index d) view)

  -- A sum that was read.
  pub read_narrow : (index x : ℕ) → index < length sums → ((d : ℕ) → x ≡ get_or narrow index d) → (x ≡ elsewhere → ⊥) → (d : ℕ) → x ≡ get_or sums index d
  read_narrow index x low is here d =
      sym (narrow_sum x (get_or wide index 0) here)
      ∙ (ap (λ n. sum_of n (get_or wide index 0)) (is 0) ∙ sum_at index low d)

  pub read_wide : (index x y : ℕ) → index < length sums → ((d : ℕ) → x ≡ get_or narrow index d) → x ≡ elsewhere → ((d : ℕ) → y ≡ get_or wide index d) → (d : ℕ) → y ≡ get_or sums index d
  read_wide index x y low is there other d =
      other 0 ∙ (ap (λ n. sum_of n (get_or wide index 0)) (sym there ∙ is 0) ∙ sum_at index low d)

  -- A sum is written.
  pub written_narrow : {new : List ℕ} (index x : ℕ) → new ≡ set narrow index x → (x ≡ elsewhere → ⊥) → sums_of new wide ≡ set sums index x
  written_narrow index x write here =
      ap (λ l. sums_of l wide) write ∙ (one_set narrow wide index x here ∙ ap (λ l. set l index x) view)

  pub written_wide : {new other : List ℕ} (index x : ℕ) → new ≡ set narrow index elsewhere → other ≡ set wide index x → sums_of new other ≡ set sums index x
  written_wide {new} {other} index x write store =
      ap (λ l. sums_of l other) write
      ∙ (ap (sums_of (set narrow index elsewhere)) store
      ∙ (both_set narrow wide index elsewhere x ∙ ap (λ l. set l index x) view))

  -- There is one more sum.
  pushed : {new other : List ℕ} → new ≡ narrow ++ 0 ∷ [] → other ≡ wide ++ 0 ∷ [] → sums_of new other ≡ sums ++ 0 ∷ []
  pushed {new} {other} more further =
      ap (λ l. sums_of l other) more
      ∙ (ap (sums_of (narrow ++ 0 ∷ [])) further
      ∙ (one_more narrow wide even ∙ ap (λ l. l ++ 0 ∷ []) view))

  pub pushed_if : {A E : Type 0} {new : List ℕ} (other : List ℕ) (r : Result A E) → new ≡ narrow ++ 0 ∷ [] → OnOk r (other ≡ wide ++ 0 ∷ []) → OnOk r (sums_of new other ≡ sums ++ 0 ∷ [])
  pushed_if other (Ok a) more further = pushed more further
  pushed_if other (Err e) more further = tt

  -- There is one sum fewer.
  pub cut : {new other : List ℕ} → new ≡ take (length narrow - 1) narrow → other ≡ take (length wide - 1) wide → sums_of new other ≡ take (length sums - 1) sums
  cut {new} {other} less fewer =
      let last = length narrow - 1 in
      ap (λ l. sums_of l other) less
      ∙ (ap (sums_of (take last narrow)) (fewer ∙ ap (λ n. take (n - 1) wide) (sym even))
      ∙ (both_cut last narrow wide
      ∙ (ap (take last) view ∙ ap (λ n. take (n - 1) sums) (sym sums-length))))
