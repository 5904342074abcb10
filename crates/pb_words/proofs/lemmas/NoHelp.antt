-- Valid arguments do not name a subcommand `help`.
use Rattle.clap.specs.{Kinds.Kinds, Kinds.or_else, Lexer.long_of, Lexer.short_of, Walk.walked}
use Rattle.clap.specs.Faults.{fault_of, other_fault, step_fault, turn_fault, walk_fault, word_fault}
use Rattle.pb_words.proofs.Common.{◌≡◌, ℕ, Bool, true, false, cond, List, [], ◌∷◌, ◌++◌, Option, Some, None, refl, sym, ap, ◌∙◌, subst, codes, is_some, inl}
use Rattle.pb_words.proofs.Common.{inr, ⊎_elim, get_or, fold, find, ◌⊎◌, bytes_eq, bytes_eq-Decides, Row, answers_to, Held, Names, Outcome, Rule, Step, Text}
use Rattle.pb_words.proofs.Common.{Waiting, Walk, after_flag, after_step, arg_by_index, done, idle, long_met, long_or_other, next, nothing_held, option, plain}
use Rattle.pb_words.proofs.Common.{plain_word, positional, refused, short_or_plain, subcommand, subcommand_met, subcommand_or_other, to_positional, trailing}
use Rattle.pb_words.proofs.Common.{value, waits, walk, walk_from, walked_from, word_met, bundle, arg_by_long, App, Shape, argument_words, built, entered}
use Rattle.pb_words.proofs.Common.{label_of, names_of, rows_at, subcommand_of, IsReader, pb_command}
use Rattle.std.{proofs.lemmas.Bool.false≢true, proofs.lemmas.Bool.or_cases, specs.Prelude.option_map}

-- ---- if two lists of kinds are empty together, the first is empty

pub first_none : (a b : Kinds) → or_else a b ≡ [] → a ≡ []
first_none [] b e = refl
first_none (k ∷ ks) b e = e

pub second_none : (a b : Kinds) → or_else a b ≡ [] → b ≡ []
second_none [] b e = e
second_none (k ∷ ks) b e = absurd (cc)

-- ---- only a name that is met names a subcommand

abbrev names_one : Step → Bool
names_one (subcommand name) = true
names_one (next w) = false
names_one (trailing p) = false
names_one value = false

plain_names_none : (c : List Rule) (w : Waiting) (word : Text) (h : Held) → names_one (plain_word c w word h).1 ≡ false
plain_names_none c idle word h = refl
plain_names_none c (option id) word h = refl
plain_names_none c positional word h = refl

flag_names_none : (c : List Rule) (w : Waiting) (word : Text) (h : Held) (o : Outcome) → names_one (after_flag c w word h o).1 ≡ false
flag_names_none c w word h done = refl
flag_names_none c w word h (waits id) = refl
flag_names_none c w word h plain = plain_names_none c w word h
flag_names_none c w word h refused = plain_names_none c w word h

short_names_none : (c : List Rule) (w : Waiting) (word : Text) (o : Option Text) (h : Held) → names_one (short_or_plain c w word o h).1 ≡ false
short_names_none c w word None h = plain_names_none c w word h
short_names_none c w word (Some flags) h = flag_names_none c w word (bundle c flags h).0 (bundle c flags h).1

long_names_none : (c : List Rule) (w : Waiting) (word : Text) (o : Option (Text × Option Text)) (h : Held) → names_one (long_or_other c w word o h).1 ≡ false
long_names_none c w word None h = short_names_none c w word (short_of word) h
long_names_none c w word (Some p) h = flag_names_none c w word (long_met c (arg_by_long c p.0) p.1 h).0 (long_met c (arg_by_long c p.0) p.1 h).1

rest_names_none : (c : List Rule) (w : Waiting) (position : ℕ) (word : Text) (h : Held) (b : Bool)
    → names_one (cond b (h, trailing position) (long_or_other c w word (long_of word) h)).1 ≡ false
rest_names_none c w position word h true = refl
rest_names_none c w position word h false = long_names_none c w word (long_of word) h

-- ---- a step

-- the walk stopped at a name only if the step names it
stops_by_name : (c : List Rule) (word : Text) (w : Walk) (h : Held) (s : Step) (p : Text × List Text) → w.stopped ≡ None → (after_step c word w h s).stopped ≡ Some p → s ≡ subcommand p.0
stops_by_name c word w h (next waiting) p e k = absurd (cc)
stops_by_name c word w h (trailing position) p e k = absurd (cc)
stops_by_name c word w h (subcommand name) p e k = let same : (name, []) ≡ p = cc in ap (λ (q : Text × List Text). subcommand q.0) same
stops_by_name c word w h value p e k = absurd (at_positional (arg_by_index c w.position) k)
  where
    at_positional : (a : Option Rule) → (to_positional c a word w h).stopped ≡ Some p → ⊥
    at_positional None k = cc
    at_positional (Some a) k = cc

-- the name `help` leads to help, which is a fault
helps : (s : Shape) (name word : Text) (h : Held) → bytes_eq name (codes "help") ≡ true → s.disable_help_subcommand ≡ false → other_fault s (Some name) word h ≡ [] → ⊥
helps s name word h is on e = let bad = rw (is, on) at e in cc

-- a word that names `help` is a fault
refuses_help : (s : Shape) (names : Names) (w : Waiting) (position : ℕ) (word : Text) (h : Held) (is_trailing : Bool) (name : Text) → bytes_eq name (codes "help") ≡ true
    → s.disable_help_subcommand ≡ false → (word_met s.rules names is_trailing w position word h).1 ≡ subcommand name → word_fault s names is_trailing w word h ≡ [] → ⊥
refuses_help s names w position word h true name is on met none = cc
refuses_help s names w position word h false name is on met none = go (subcommand_met names w word) met none
  where
    go : (o : Option Text) → (subcommand_or_other s.rules o w position word h).1 ≡ subcommand name → other_fault s o word h ≡ [] → ⊥
    go None met none =
        let no : names_one (subcommand_or_other s.rules None w position word h).1 ≡ false = rest_names_none s.rules w position word h (bytes_eq word (45 ∷ 45 ∷ [])) in
        let yes : names_one (subcommand name) ≡ false = subst (λ (t : Step). names_one t ≡ false) met no in cc
    go (Some other) met none =
        let same : other ≡ name = cc in helps s other word h (ap (λ (t : Text). bytes_eq t (codes "help")) same ∙ is) on none

-- ---- the walk

-- once a name is met it stays
stays_named : (c : List Rule) (names : Names) (w : Walk) (words : List Text) (p q : Text × List Text) → w.stopped ≡ Some p → (fold (walked c names) w words).stopped ≡ Some q → p.0 ≡ q.0
unfolding walked
stays_named c names w [] p q e k = let same : p ≡ q = cc in ap (λ (x : Text × List Text). x.0) same
stays_named c names w (word ∷ more) p q e k =
    stays_named c names (walked c names w word) more (p.0, p.1 ++ word ∷ []) q named k
  where
    named : (walked c names w word).stopped ≡ Some (p.0, p.1 ++ word ∷ [])
    named = rw e refl

turn_named : (s : Shape) (names : Names) (w : Walk) (word : Text) (p : Text × List Text) → bytes_eq p.0 (codes "help") ≡ true → s.disable_help_subcommand ≡ false
    → w.stopped ≡ None → (walked s.rules names w word).stopped ≡ Some p → turn_fault s names w word ≡ [] → ⊥
unfolding walked
turn_named s names w word p is on none met right =
    let step : Held × Step = word_met s.rules names w.is_trailing w.waiting w.position word w.held in
    let after : (after_step s.rules word w step.0 step.1).stopped ≡ Some p =
    subst (λ (o : Option (Text × List Text)). (walked_from s.rules names o w word).stopped ≡ Some p) none met in
    let named : step.1 ≡ subcommand p.0 = stops_by_name s.rules word w step.0 step.1 p none after in
    let both : or_else (word_fault s names w.is_trailing w.waiting word w.held) (step_fault s w.position step.0 step.1) ≡ [] =
    subst (λ (o : Option (Text × List Text)). cond (is_some o) [] (or_else (word_fault s names w.is_trailing w.waiting word w.held) (step_fault s w.position step.0 step.1)) ≡ []) none right in
    refuses_help s names w.waiting w.position word w.held w.is_trailing p.0 is on named (first_none _ _ both)

walk_named : (s : Shape) (names : Names) (w : Walk) (words : List Text) (q : Text × List Text) → bytes_eq q.0 (codes "help") ≡ true → s.disable_help_subcommand ≡ false
    → w.stopped ≡ None → (fold (walked s.rules names) w words).stopped ≡ Some q → walk_fault s names w words ≡ [] → ⊥
unfolding walk_fault
walk_named s names w [] q is on none met right = cc
walk_named s names w (word ∷ more) q is on none met right =
    go (walked s.rules names w word).stopped refl (λ e. walk_named s names (walked s.rules names w word) more q is on e met (second_none (turn_fault s names w word) _ right))
  where
    go : (o : Option (Text × List Text)) → (walked s.rules names w word).stopped ≡ o → ((walked s.rules names w word).stopped ≡ None → ⊥) → ⊥
    go None e rest = rest e
    go (Some p) e rest =
        let same : p.0 ≡ q.0 = stays_named s.rules names (walked s.rules names w word) more p q e met in
        turn_named s names w word p (ap (λ (t : Text). bytes_eq t (codes "help")) same ∙ is) on none e (first_none _ _ right)

-- ---- the command

abbrev finds : Text → Shape → Bool
finds name s = answers_to name (label_of s)

-- the first of five that has the name
first_of_five : (x y z t u s : Shape) (name : Text) → find (finds name) (x ∷ y ∷ z ∷ t ∷ u ∷ []) ≡ Some s
    → (s ≡ x) ⊎ ((s ≡ y) ⊎ ((s ≡ z) ⊎ ((s ≡ t) ⊎ ((s ≡ u) × (finds name u ≡ true)))))
first_of_five x y z t u s name = go (finds name x) (finds name y) (finds name z) (finds name t) (finds name u) refl
  where
    go : (a b c d f : Bool) → finds name u ≡ f → cond a (Some x) (cond b (Some y) (cond c (Some z) (cond d (Some t) (cond f (Some u) None)))) ≡ Some s
        → (s ≡ x) ⊎ ((s ≡ y) ⊎ ((s ≡ z) ⊎ ((s ≡ t) ⊎ ((s ≡ u) × (finds name u ≡ true)))))
    go true b c d f e met = inl (cc)
    go false true c d f e met = inr (inl (cc))
    go false false true d f e met = inr (inr (inl (cc)))
    go false false false true f e met = inr (inr (inr (inl (cc))))
    go false false false false true e met = inr (inr (inr (inr (cc, e))))
    go false false false false false e met = absurd (cc)

abbrev commands : App
commands = built pb_command

-- if valid arguments name a subcommand, it is `show`, `tidy`, `check` or `trace`
pub reader_named : (words : List Text) (named : Text × List Row) → fault_of pb_command words ≡ [] → subcommand_of pb_command words ≡ Some named → IsReader named.0
reader_named words named right met = at_stop (walk commands.top.rules (names_of commands) nothing_held (argument_words pb_command words)).stopped refl met
  where
    is_help : (p : Text × List Text) → (walk commands.top.rules (names_of commands) nothing_held (argument_words pb_command words)).stopped ≡ Some p → codes "help" ≡ p.0 → ⊥
    is_help p e same = walk_named commands.top (names_of commands) (walk_from nothing_held) (argument_words pb_command words) p
        (subst (λ (t : Text). bytes_eq t (codes "help") ≡ true) same refl) refl refl e (first_none _ _ right)

    at_shape : (p : Text × List Text) (o : Option Shape) → (walk commands.top.rules (names_of commands) nothing_held (argument_words pb_command words)).stopped ≡ Some p
        → find (finds p.0) commands.subs ≡ o → option_map (λ s. rows_at s p.1) o ≡ Some named → IsReader named.0
    at_shape p None e found met = absurd (cc)
    at_shape p (Some s) e found met =
        let same : rows_at s p.1 ≡ named = cc in
        let name : named.0 ≡ s.name = sym (ap (λ (n : Text × List Row). n.0) same) in
        elim (first_of_five (get_or commands.subs 0 s) (get_or commands.subs 1 s) (get_or commands.subs 2 s) (get_or commands.subs 3 s) (get_or commands.subs 4 s) s p.0 found) [
          | inl h ↦ inl (name ∙ ap (λ (x : Shape). x.name) h)
          | inr (inl h) ↦ inr (inl (name ∙ ap (λ (x : Shape). x.name) h))
          | inr (inr (inl h)) ↦ inr (inr (inl (name ∙ ap (λ (x : Shape). x.name) h)))
          | inr (inr (inr (inl h))) ↦ inr (inr (inr (name ∙ ap (λ (x : Shape). x.name) h)))
          | inr (inr (inr (inr h))) ↦ absurd (⊎_elim (λ (yes : bytes_eq (codes "help") p.0 ≡ true). is_help p e ((bytes_eq-Decides (codes "help") p.0).0 yes)) false≢true (or_cases (bytes_eq (codes "help") p.0) false h.1))
        ]

    at_stop : (o : Option (Text × List Text)) → (walk commands.top.rules (names_of commands) nothing_held (argument_words pb_command words)).stopped ≡ o → entered commands o ≡ Some named → IsReader named.0
    at_stop None e met = absurd (cc)
    at_stop (Some p) e met = at_shape p (find (finds p.0) commands.subs) e refl met
