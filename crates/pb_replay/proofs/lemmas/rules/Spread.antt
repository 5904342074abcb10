-- The constraints of an instance, each of which waits, is live or was removed
use Rattle.pb_replay.proofs.Common.{◌++◌, ◌<◌, ◌∙◌, ◌∷◌, ◌≡◌, ◌≤◌, ◌⊎◌, [], ℕ, ap, arith, cases_eq, Form, get_or, get_or-map, get_or-set_other}
use Rattle.pb_replay.proofs.Common.{get_or-set_same, get_or_append_left, inl, inr, length, length-append, length-map, length-set, List, map, None, Option, refl}
use Rattle.pb_replay.proofs.Common.{set, slice_get-get_or, Some, subst, sym}
use Rattle.pb_replay.specs.declared.state.removed.{Removed.Removed, Removed.TheVariants.Nothing, Removed.TheVariants.One}
use Rattle.pb_replay.specs.engine.Constraints.{AreHeld, AreSpread}

-- a constraint that was live is stored once it is removed
pub spread-some : (own : List Form) (removed : List Removed) (forms : List (Option Form)) (k : ℕ) (f : Form) → AreSpread own removed forms → k < length removed → get_or forms k None ≡ Some f → AreSpread own (set removed k (One f)) (set forms k None)
spread-some own removed forms k f s lt is = record {
  sizes = length-set removed k (One f) ∙ s.sizes;
  given = omega (arith, length-set forms k None, s.given);
  each = λ j below. elim (cases_eq j k) [
    | inl same ↦
        let was = rw same at (s.each j below) in
        rw (same, get_or-set_same forms k None None (omega (arith, lt, s.sizes, s.given)), get_or-set_same removed k (One f) Nothing lt) (rw is at was)
    | inr apart ↦ rw (get_or-set_other forms k j None None apart, get_or-set_other removed k j (One f) Nothing apart) (s.each j below)
  ];
}

-- the others of a removed one stay
pub spread-none : (own : List Form) (removed : List Removed) (forms : List (Option Form)) (k : ℕ) → AreSpread own removed forms → (length own ≤ k) ⊎ (get_or forms k None ≡ None) → AreSpread own removed (set forms k None)
spread-none own removed forms k s none = record {
  sizes = s.sizes;
  given = omega (arith, length-set forms k None, s.given);
  each = λ j below. elim (cases_eq j k) [
    | inl same ↦ elim none [
      | inl past ↦ absurd (omega (arith, past, below, same))
      | inr empty ↦
          let was = rw same at (s.each j below) in
          rw (same, get_or-set_same forms k None None (omega (arith, below, same, s.given))) (rw empty at was)
    ]
    | inr apart ↦ rw (get_or-set_other forms k j None None apart) (s.each j below)
  ];
}

-- one more live one
pub spread-more : (own : List Form) (removed : List Removed) (forms : List (Option Form)) (x : Option Form) → AreSpread own removed forms → AreSpread own removed (forms ++ x ∷ [])
spread-more own removed forms x s = record {
  sizes = s.sizes;
  given = omega (arith, length-append forms (x ∷ []), s.given);
  each = λ j below. rw (get_or_append_left forms (x ∷ []) None j (omega (arith, below, s.given))) (s.each j below);
}

-- all are live
pub spread-all : (own : List Form) (removed : List Removed) → length removed ≡ length own → AreSpread own removed (map (λ (f : Form). let o : Option Form = Some f in o) own)
spread-all own removed sizes = record {
  sizes = sizes;
  given = omega (arith, length-map own (λ (f : Form). let o : Option Form = Some f in o));
  each = λ j below. let no : Form = get_or own j (record { terms = []; degree = 0 }) in
      rw (get_or-map (λ (f : Form). let o : Option Form = Some f in o) own j no None below, slice_get-get_or own j no below) refl;
}

-- the same where they may wait
pub held-all : {own waiting : List Form} {removed : List Removed} {forms live : List (Option Form)} → AreHeld own waiting removed forms → live ≡ map (λ (f : Form). let o : Option Form = Some f in o) own → AreHeld own waiting removed live
held-all (inl waits) e = inl waits
held-all {own = own} {removed = removed} (inr (none, s)) e = inr (none, subst (AreSpread own removed) (sym e) (spread-all own removed s.sizes))

no-forms : (xs : List Form) → length xs ≤ 0 → xs ≡ []
no-forms [] h = refl
no-forms (x ∷ xs) h = absurd (omega (arith, h))

-- with no live one all wait
pub waiting-all : {own waiting : List Form} {removed : List Removed} {forms : List (Option Form)} → AreHeld own waiting removed forms → forms ≡ [] → waiting ≡ own
waiting-all (inl waits) e = waits
waiting-all {own = own} {forms = forms} (inr (none, s)) e = none ∙ sym (no-forms own (omega (arith, s.given, ap length e)))
