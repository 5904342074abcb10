-- Texts that are written in parts, and one after another for the elements of a list, and the text of a form.
use Rattle.pb_trace.proofs.Common.{ℕ, ◌++◌, ◌+◌, ◌<◌, ◌≡◌, append-nil, arith, drop, get_or, length, List, Option, refl, Result, suc, take, take-append-drop}
use Rattle.pb_trace.proofs.Common.{to_z-of_z, drop-cons, decimal_digit, take_more, IsErr, flat_map, part_broke, part_then, part_wrote, writes_nothing, Broke}
use Rattle.pb_trace.proofs.Common.{Writes, Wrote, Failed, ◌∙◌, ◌∷◌, [], ap, append_assoc, map, None, slice_get, sym, unwrap_or, common_steps, All-head}
use Rattle.pb_trace.proofs.Common.{All-tail, unwrap_or-slice_get, All, Entry, Form, form_bytes, term_shown}
use Rattle.std.proofs.lemmas.List.Concat.{flat_map-append, flat_map-cons}
use Rattle.pb_normal.specs.meaning.Written.{term_of, linear_of}
use Rattle.pb_sums.specs.contract.Canonical.{term_bytes, further_bytes, head_bytes, linear_bytes}

module _ {S : Type 0} (contents : S → Option (List ℕ)) (faults : S → ℕ) where
  -- a fault in the first part, of a sum or of a text that begins with literals
  pub broke_append : (a b : S) (x y : List ℕ) (r : Result Unit Failed) → Broke contents faults a x b → IsErr r → Writes contents faults a (x ++ y) r b
  broke_append a b x y r h e = part_broke contents faults a b x y _ r refl e h

  pub broke_literal : (a b : S) (x t : List ℕ) (r : Result Unit Failed) → Broke contents faults a x b → IsErr r → t ≡ x ++ drop (length x) t
      → Writes contents faults a t r b
  broke_literal a b x t r h e whole = part_broke contents faults a b x _ t r whole e h

  -- a first part, and then the rest
  pub then_append : (a b c : S) (x y : List ℕ) (r : Result Unit Failed) → Wrote contents faults a x b → Writes contents faults b y r c
      → Writes contents faults a (x ++ y) r c
  then_append a b c x y r h k = part_then contents faults a b c x y _ r refl h k

  pub then_literal : (a b c : S) (x t : List ℕ) (r : Result Unit Failed) → Wrote contents faults a x b → t ≡ x ++ drop (length x) t
      → Writes contents faults b (drop (length x) t) r c → Writes contents faults a t r c
  then_literal a b c x t r h whole k = part_then contents faults a b c x _ t r whole h k

-- the texts of the elements of a list: one more of them, and a fault in one
module _ {S A : Type 0} (contents : S → Option (List ℕ)) (faults : S → ℕ) (f : A → List ℕ) where
  pub each_wrote : (a b c : S) (xs : List A) (i : ℕ) (d : A) → Wrote contents faults a (flat_map f (take i xs)) b
      → Wrote contents faults b (f (get_or xs i d)) c → i < length xs → Wrote contents faults a (flat_map f (take (i + 1) xs)) c
  each_wrote a b c xs i d h k inside =
      let more : flat_map f (take (i + 1) xs) ≡ flat_map f (take i xs) ++ f (get_or xs i d) =
      grind (arith, take_more xs i d inside, flat_map-append, flat_map-cons, append-nil) in
      part_wrote contents faults a b c _ _ _ more h k

  pub each_broke : (a b c : S) (xs : List A) (i : ℕ) (d : A) (r : Result Unit Failed) → Wrote contents faults a (flat_map f (take i xs)) b
      → Broke contents faults b (f (get_or xs i d)) c → IsErr r → i < length xs → Writes contents faults a (flat_map f xs) r c
  each_broke a b c xs i d r h k e inside =
      let whole : flat_map f xs ≡ flat_map f (take i xs) ++ (f (get_or xs i d) ++ flat_map f (drop (suc i) xs)) =
      grind (arith, take-append-drop i xs, flat_map-append, drop-cons xs i d inside, flat_map-cons) in
      part_then contents faults a b c _ _ _ r whole h (broke_append contents faults b c _ _ r k e)

pub ruleset texts = (broke_append, broke_literal, then_append, then_literal, each_wrote, decimal_digit, to_z-of_z, writes_nothing)

-- a term with a space after it
abbrev pub entry_bytes : List (List ℕ) → Entry → List ℕ
entry_bytes names t = term_bytes (term_shown names t) ++ (32 ∷ [])

pub entry_parts : (x y : List ℕ) → (43 ∷ (x ++ (32 ∷ y))) ++ (32 ∷ []) ≡ (43 ∷ (x ++ (32 ∷ []))) ++ (y ++ (32 ∷ []))
entry_parts x y = grind (arith, append_assoc)

further_entries : (names : List (List ℕ)) (ts : List Entry) → further_bytes (map (term_shown names) ts) ++ (32 ∷ []) ≡ 32 ∷ flat_map (entry_bytes names) ts
unfolding further_bytes
further_entries names [] = refl
further_entries names (t ∷ ts) = grind (arith, append_assoc, flat_map-cons, further_entries names ts)

pub head_entries : (names : List (List ℕ)) (ts : List Entry) → head_bytes (map (term_shown names) ts) ≡ flat_map (entry_bytes names) ts
head_entries names [] = refl
head_entries names (t ∷ ts) = grind (arith, append_assoc, flat_map-cons, further_entries names ts)

-- no name has the number
pub name_missing : (names : List (List ℕ)) (n : ℕ) (d : List ℕ) → slice_get names n ≡ None → get_or names n d ≡ d
name_missing names n d e = sym (unwrap_or-slice_get names n d) ∙ ap (λ (o : Option (List ℕ)). unwrap_or o d) e

-- all variables have names
named_terms : (names : List (List ℕ)) (ts : List Entry) → All (λ t. t.variable < length names) ts → map (term_shown names) ts ≡ map (term_of names) ts
named_terms names [] h = refl
named_terms names (t ∷ ts) h =
    let here : t.variable < length names = All-head (λ (e : Entry). e.variable < length names) t ts h in
    let name : get_or names t.variable (63 ∷ []) ≡ get_or names t.variable [] = grind (arith, common_steps) in
    rw (name, named_terms names ts (All-tail (λ (e : Entry). e.variable < length names) t ts h)) refl

pub named_form : (names : List (List ℕ)) (f : Form) → All (λ t. t.variable < length names) f.terms → form_bytes names f ≡ linear_bytes (linear_of names f)
named_form names f h = rw (named_terms names f.terms h) refl

pub ruleset shown = (named_form, name_missing, texts)
