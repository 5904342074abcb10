-- Names that appear one after another. Offered to other crates.
use Rattle.pb_normal.proofs.Common.{cond_both, ℕ, ◌++◌, ◌<◌, ◌∙◌, ◌∷◌, ◌≡◌, [], ap, append-nil, append_assoc, length, List, map, pos, refl, sym}
use Rattle.pb_normal.proofs.Common.{get_or_append_left, All-head, All-tail, All, Term, Entry, Form, AreDistinct, has_name, HasNames, with_name, with_names}
use Rattle.{pb_normal.proofs.Common.linear_of, pb_normal.proofs.Common.term_of, pb_sums.specs.declared.linear.Relation.TheVariants.AtLeast}
use Rattle.pb_normal.proofs.lemmas.names.Numbering.{has_name-append, with_name-has, AreDistinct-with}

pub in_turn : (names others further : List (List ℕ)) → with_names names (others ++ further) ≡ with_names (with_names names others) further
in_turn names [] further = refl
in_turn names (n ∷ others) further = in_turn (with_name names n) others further

-- the names before are a prefix
only_prefix : (names : List (List ℕ)) (name : List ℕ) → (more : List (List ℕ)) × (with_name names name ≡ names ++ more)
only_prefix names name =
    cond_both (has_name names name) _ _ (λ ks. (more : List (List ℕ)) × (ks ≡ names ++ more)) (λ has. ([], sym (append-nil names))) (λ has_none. (name ∷ [], refl))

pub prefix : (names others : List (List ℕ)) → (more : List (List ℕ)) × (with_names names others ≡ names ++ more)
prefix names [] = ([], sym (append-nil names))
prefix names (n ∷ others) =
    let one = only_prefix names n in
    let rest = prefix (with_name names n) others in
    (one.0 ++ rest.0, rest.1 ∙ ap (λ (ks : List (List ℕ)). ks ++ rest.0) one.1 ∙ append_assoc names one.0 rest.0)

pub distinct : (names others : List (List ℕ)) → AreDistinct names → AreDistinct (with_names names others)
distinct names [] d = d
distinct names (n ∷ others) d = distinct (with_name names n) others (AreDistinct-with names n d)

pub named : (names others : List (List ℕ)) → HasNames (with_names names others) others
named names [] = tt
named names (n ∷ others) =
    let more = prefix (with_name names n) others in
    (rw more.1 (has_name-append (with_name names n) more.0 n (with_name-has n names)), named (with_name names n) others)

pub names_split : (names xs ys : List (List ℕ)) → HasNames names (xs ++ ys) → HasNames names xs × HasNames names ys
names_split names [] ys h = (tt, h)
names_split names (x ∷ xs) ys h = let rest = names_split names xs ys h.1 in ((h.0, rest.0), rest.1)

pub present : (names others : List (List ℕ)) → HasNames names others → with_names names others ≡ names
present names [] h = refl
present names (n ∷ others) h = rw h.0 (present names others h.1)

-- the terms of a form are written in the same way if more names follow
terms_alike : (names more : List (List ℕ)) (ts : List Entry) → All (λ t. t.variable < length names) ts → map (term_of (names ++ more)) ts ≡ map (term_of names) ts
terms_alike names more [] h = refl
terms_alike names more (t ∷ ts) h =
    let same = get_or_append_left names more [] t.variable (All-head (λ (u : Entry). u.variable < length names) t ts h) in
    cc (same, terms_alike names more ts (All-tail (λ (u : Entry). u.variable < length names) t ts h))

pub written_alike : (names more : List (List ℕ)) (f : Form) → All (λ t. t.variable < length names) f.terms → linear_of (names ++ more) f ≡ linear_of names f
written_alike names more f h = ap (λ (ts : List Term). record { terms = ts; relation = AtLeast; degree = pos f.degree }) (terms_alike names more f.terms h)
