-- Terms and tokens keep the numbers of their names.
use Rattle.pb_pieces.proofs.Common.{ℕ, ◌++◌, ◌∙◌, ◌∷◌, ◌≡◌, [], ap, cond, false, List, map, refl, subst, sym, true, map-append, HasNames-push, number_in-append}
use Rattle.pb_pieces.proofs.Common.{with_names-push, has_name, HasNames, number_in, with_name, with_names, Term, HoldNamed, append-nil, append_assoc, None}
use Rattle.pb_pieces.proofs.Common.{Option, Some, flat_map-append, map_push, Adds, AreTokens, name_in, names_of, number_of, HoldTokens, Token}
use Rattle.pb_pieces.specs.{Flat.names_of as term_names, Terms.HoldTerms, declared.flat.Named.Named, declared.named_tokens.NamedTokens.NamedTokens}

-- a name that is there keeps its number
pub keeps : (q k : List ℕ) (ks : List (List ℕ)) → has_name ks q ≡ true → number_in (with_name ks k) q ≡ number_in ks q
keeps q k ks e = elim (has_name ks k) as (λ b. number_in (cond b ks (ks ++ k ∷ [])) q ≡ number_in ks q) [
  | true ↦ refl
  | false ↦ number_in-append ks (k ∷ []) q e
]

keep_terms : (k : List ℕ) (ks : List (List ℕ)) (terms : List Term) → HasNames ks (term_names terms) → map (λ t. number_in (with_name ks k) t.literal.name) terms ≡ map (λ t. number_in ks t.literal.name) terms
keep_terms k ks [] h = refl
keep_terms k ks (t ∷ terms) h = ap (λ (n : ℕ). n ∷ map (λ u. number_in (with_name ks k) u.literal.name) terms) (keeps t.literal.name k ks h.0) ∙ ap (λ (ns : List ℕ). number_in ks t.literal.name ∷ ns) (keep_terms k ks terms h.1)

names_of_more : (terms : List Term) (t : Term) → term_names (terms ++ t ∷ []) ≡ term_names terms ++ t.literal.name ∷ []
names_of_more terms t = map-append (λ (u : Term). u.literal.name) terms (t ∷ [])

-- one more term
pub one_more : (terms : List Term) (t : Term) (old new : Named) (n : ℕ) → HoldNamed terms old → new.names ≡ with_name old.names t.literal.name → n ≡ number_in new.names t.literal.name
    → HoldTerms (terms ++ t ∷ []) (map (λ u. number_in old.names u.literal.name) terms ++ n ∷ []) new.terms → HoldNamed (terms ++ t ∷ []) new
one_more terms t old new n h is number holds =
    let name = t.literal.name in
    let numbers : map (λ u. number_in old.names u.literal.name) terms ++ n ∷ [] ≡ map (λ u. number_in new.names u.literal.name) (terms ++ t ∷ []) =
    ap (λ (ns : List ℕ). ns ++ n ∷ []) (sym (keep_terms name old.names terms h.named))
    ∙ (ap (λ (x : List (List ℕ)). map (λ u. number_in x u.literal.name) terms ++ n ∷ []) (sym is)
    ∙ (ap (λ (m : ℕ). map (λ u. number_in new.names u.literal.name) terms ++ m ∷ []) number
    ∙ sym (map-append (λ (u : Term). number_in new.names u.literal.name) terms (t ∷ [])))) in
    record {
      names_are = is ∙ (ap (λ (x : List (List ℕ)). with_name x name) h.names_are ∙ (sym (with_names-push [] (term_names terms) name) ∙ ap (λ (x : List (List ℕ)). with_names [] x) (sym (names_of_more terms t))));
      named = subst (λ (x : List (List ℕ)). HasNames new.names x) (sym (names_of_more terms t)) (subst (λ (x : List (List ℕ)). HasNames x (term_names terms ++ name ∷ [])) (sym is) (HasNames-push old.names (term_names terms) name h.named));
      terms_are = subst (λ (x : List ℕ). HoldTerms (terms ++ t ∷ []) x new.terms) numbers holds;
    }

abbrev pub numbers : List (List ℕ) → List Token → List ℕ
numbers ks tokens = map (λ t. number_of ks t.name) tokens

-- the names of the first token and of the others have a number
keep_first : (k : List ℕ) (ks : List (List ℕ)) (name : Option (List ℕ)) (more : List (List ℕ)) → HasNames ks (name_in name ++ more) → (number_of (with_name ks k) name ≡ number_of ks name) × HasNames ks more
keep_first k ks None more h = (refl, h)
keep_first k ks (Some name) more h = (keeps name k ks h.0, h.1)

keep_all : (k : List ℕ) (ks : List (List ℕ)) (tokens : List Token) → HasNames ks (names_of tokens) → numbers (with_name ks k) tokens ≡ numbers ks tokens
keep_all k ks [] h = refl
keep_all k ks (t ∷ tokens) h =
    let (first, rest) = keep_first k ks t.name (names_of tokens) h in
    ap (λ (n : ℕ). n ∷ numbers (with_name ks k) tokens) first ∙ ap (λ (ns : List ℕ). number_of ks t.name ∷ ns) (keep_all k ks tokens rest)

names_more : (tokens : List Token) (t : Token) → names_of (tokens ++ t ∷ []) ≡ names_of tokens ++ name_in t.name
names_more tokens t = flat_map-append (λ (u : Token). name_in u.name) tokens (t ∷ []) ∙ ap (λ (x : List (List ℕ)). names_of tokens ++ x) (append-nil (name_in t.name))

-- one more token without a name
pub one_bare : (seen : List (List ℕ)) (tokens : List Token) (t : Token) (old new : NamedTokens) → t.name ≡ None → AreTokens seen tokens old → new.names ≡ old.names
    → HoldTokens (tokens ++ t ∷ []) (numbers old.names tokens ++ 0 ∷ []) new.tokens → AreTokens seen (tokens ++ t ∷ []) new
one_bare seen tokens t old new none h is holds =
    let same : names_of (tokens ++ t ∷ []) ≡ names_of tokens =
    names_more tokens t ∙ (ap (λ (x : Option (List ℕ)). names_of tokens ++ name_in x) none ∙ append-nil (names_of tokens)) in
    let all : numbers old.names tokens ++ 0 ∷ [] ≡ numbers new.names (tokens ++ t ∷ []) =
    ap (λ (n : ℕ). numbers old.names tokens ++ n ∷ []) (ap (λ (x : Option (List ℕ)). number_of old.names x) (sym none))
    ∙ (sym (map_push (λ (u : Token). number_of old.names u.name) tokens t) ∙ ap (λ (x : List (List ℕ)). numbers x (tokens ++ t ∷ [])) (sym is)) in
    record {
      names_are = is ∙ (h.names_are ∙ ap (λ (x : List (List ℕ)). with_names [] (seen ++ x)) (sym same));
      named = subst (λ (x : List (List ℕ)). HasNames x (names_of (tokens ++ t ∷ []))) (sym is) (subst (λ (x : List (List ℕ)). HasNames old.names x) (sym same) h.named);
      arrays = subst (λ (x : List ℕ). HoldTokens (tokens ++ t ∷ []) x new.tokens) all holds;
    }

-- one more token with a name
pub one_named : (seen : List (List ℕ)) (tokens : List Token) (t : Token) (name : List ℕ) (n : ℕ) (old new : NamedTokens) → t.name ≡ Some name → AreTokens seen tokens old
    → new.names ≡ with_name old.names name → n ≡ number_in new.names name → HoldTokens (tokens ++ t ∷ []) (numbers old.names tokens ++ n ∷ []) new.tokens
    → AreTokens seen (tokens ++ t ∷ []) new
one_named seen tokens t name n old new some h is number holds =
    let more : names_of (tokens ++ t ∷ []) ≡ names_of tokens ++ name ∷ [] =
    names_more tokens t ∙ ap (λ (x : Option (List ℕ)). names_of tokens ++ name_in x) some in
    let all : numbers old.names tokens ++ n ∷ [] ≡ numbers new.names (tokens ++ t ∷ []) =
    ap (λ (ns : List ℕ). ns ++ n ∷ []) (sym (keep_all name old.names tokens h.named))
    ∙ (ap (λ (x : List (List ℕ)). numbers x tokens ++ n ∷ []) (sym is)
    ∙ (ap (λ (m : ℕ). numbers new.names tokens ++ m ∷ []) (number ∙ ap (λ (x : Option (List ℕ)). number_of new.names x) (sym some))
    ∙ sym (map_push (λ (u : Token). number_of new.names u.name) tokens t))) in
    record {
      names_are = is ∙ (ap (λ (x : List (List ℕ)). with_name x name) h.names_are
          ∙ (sym (with_names-push [] (seen ++ names_of tokens) name)
          ∙ ap (λ (x : List (List ℕ)). with_names [] x) (append_assoc seen (names_of tokens) (name ∷ []) ∙ ap (λ (x : List (List ℕ)). seen ++ x) (sym more))));
      named = subst (λ (x : List (List ℕ)). HasNames new.names x) (sym more) (subst (λ (x : List (List ℕ)). HasNames x (names_of tokens ++ name ∷ [])) (sym is) (HasNames-push old.names (names_of tokens) name h.named));
      arrays = subst (λ (x : List ℕ). HoldTokens (tokens ++ t ∷ []) x new.tokens) all holds;
    }

-- at the start nothing was added
pub nothing_added : (start : NamedTokens) → Adds start [] start
nothing_added start seen first h = subst (λ (ts : List Token). AreTokens seen ts start) (sym (append-nil first)) h
