-- The normal form of a file whose statements come one by one: what is stored of them, its solutions, and that there is one.
use Rattle.pb_normal.{proofs.lemmas.names.Loaded.are_named, specs.declared.Side.TheVariants.AtLeast as least, specs.declared.Side.TheVariants.AtMost as most}
use Rattle.{pb_normal.proofs.lemmas.names.Loaded.forms_more, pb_normal.proofs.lemmas.names.Loaded.forms_then, std.proofs.lemmas.List.Folds.flat_map-map}
use Rattle.pb_sums.specs.declared.Relation.{Relation, TheVariants.AtLeast, TheVariants.Equal}
use Rattle.pb_tool.proofs.Common.{ℕ, ◌++◌, ◌+◌, ◌∙◌, ◌∷◌, ◌≡◌, ◌⊎◌, [], ap, append-nil, ap₂, arith, Contains, inl, inr, length, length-append}
use Rattle.pb_tool.proofs.Common.{List, None, Option, refl, Some, subst, suc, sym, zero, flat_map-append, Contains-append_cases}
use Rattle.pb_tool.proofs.Common.{Contains-append_right, distinct, in_turn, named, prefix, written_alike, HasNames-append, Side, AreFormsOf, constraint_names}
use Rattle.pb_tool.proofs.Common.{Fits, sides_in, with_sides, Form, AreDistinct, HasNames, with_names, linear_of, names_of, OpbEvent, Comment}
use Rattle.pb_tool.proofs.Common.{Constraint, Header, Objective, constraints_in, last_or, objectives_in, variables_in, Linear, Term, SomePasses}
use Rattle.pb_tool.proofs.Common.{Forms, line, AreLines, AreMade, as_statement, form_lines, IsNoted, names_at, names_on, ℤ, ◌↔◌, append_assoc, Bool, Err, false}
use Rattle.pb_tool.proofs.Common.{IsTrue, map, Ok, Result, rules, true, length-map, All-contains, All-contains_itself, All-from_recursion, All-weaker}
use Rattle.pb_tool.proofs.Common.{recursion_from_All, AllByRecursion, flat_map, names_split, same_forms, HoldsWritten, IsFormOf, IsSideOf, SameAsForm}
use Rattle.pb_tool.proofs.Common.{SameAsForms, counted, body_events, constraint_events, header_bytes, in_order, instance_bytes, lines, objective_events}
use Rattle.pb_tool.proofs.Common.{Instance, MayKeep, IsBegun, IsValueOf, names_in, objective_of, Solves, Limits, Stop, largest, top_of, Item, events_of}
use Rattle.pb_tool.proofs.Common.{gathered, faults_reported, AreLoaded, IsNormalised, SawFile, File, ToolFault, Memory, Overflow, Text, Write, IsGathered}
use Rattle.pb_tool.proofs.Common.{IsNotGathered, line_if, NamesInOrder, noted, AsksInInstanceText, HasNormalForm, is_bare, IsInstanceFile, IsInstanceText}
use Rattle.pb_tool.proofs.Common.{IsNoInstanceFile, IsNoNormalFile, IsNormalFile, LacksNormalForm, tidied, WritesText}
use Rattle.pb_replay.proofs.lemmas.rules.Loading.{constraints_more, has_both, last_more, names_more, objectives_more}
use Rattle.pb_tool.proofs.lemmas.tidy.InstanceLines.{tidied_bare, Follows, follows, headed, is_value, mains_in, value_of, file_as, refused_as}
use Rattle.pb_tool.specs.declared.commands.tidy.{form_lines.FormLines.FormLines, normal_text.Standing.TheVariants.Stored}

-- the lines of forms, over more names
lines_alike : (names more : List (List ℕ)) (sides : List (Side × Linear)) (forms : List Form) → AreFormsOf names sides forms → form_lines (names ++ more) forms ≡ form_lines names forms
lines_alike names more [] [] h = refl
lines_alike names more (side ∷ sides) (f ∷ forms) h =
    ap₂ (λ (l : Linear) (rest : List ℕ). line (Constraint l) ++ rest) (written_alike names more f h.0.named) (lines_alike names more sides forms h.1)
lines_alike names more sides forms h = absurd h

-- what is stored of the constraints, after these names have appeared too
module _ (seen : List (List ℕ)) (cs : List Linear) (others : List (List ℕ)) (old : FormLines) (h : AreLines seen cs old) (new : List (List ℕ)) (e : new ≡ with_names old.names others) where
  names_then : new ≡ with_names [] (seen ++ others)
  names_then = e ∙ (ap (λ (ks : List (List ℕ)). with_names ks others) h.names ∙ sym (in_turn [] seen others))

  abbrev more : List (List ℕ)
  more = (prefix old.names others).0

  is_more : new ≡ old.names ++ more
  is_more = e ∙ (prefix old.names others).1

  apart : AreDistinct (old.names ++ more)
  apart = subst AreDistinct (sym names_then ∙ is_more) (distinct [] (seen ++ others) tt)

  still_named : HasNames new (constraint_names cs)
  still_named = subst (λ (ks : List (List ℕ)). HasNames ks (constraint_names cs)) (sym is_more) (HasNames-append old.names more (constraint_names cs) h.has)

  still_loaded : AreFormsOf new (sides_in cs) h.forms
  still_loaded = subst (λ (ks : List (List ℕ)). AreFormsOf ks (sides_in cs) h.forms) (sym is_more) (forms_more old.names more (sides_in cs) h.forms apart (are_named old.names cs h.has) h.loaded)

  same_lines : form_lines old.names h.forms ≡ form_lines new h.forms
  same_lines = sym (ap (λ (ks : List (List ℕ)). form_lines ks h.forms) is_more ∙ lines_alike old.names more (sides_in cs) h.forms h.loaded)

-- more names
pub lines_named : (seen : List (List ℕ)) (cs : List Linear) (others : List (List ℕ)) (old new : FormLines) → AreLines seen cs old → new.names ≡ with_names old.names others → new.page.text ≡ old.page.text → new.count ≡ old.count
    → AreLines (seen ++ others) cs new
lines_named seen cs others old new h e p k = record {
  forms = h.forms;
  names = names_then seen cs others old h new.names e;
  has = still_named seen cs others old h new.names e;
  loaded = still_loaded seen cs others old h new.names e;
  text = p ∙ (h.text ∙ same_lines seen cs others old h new.names e);
  count = k ∙ h.count;
}

-- one more constraint
pub lines_added : (seen : List (List ℕ)) (cs : List Linear) (c : Linear) (old new : FormLines) (added : List Form) → AreLines seen cs old → new.names ≡ with_names old.names (constraint_names (c ∷ [])) → AreFormsOf new.names (sides_in (c ∷ [])) added
    → new.page.text ≡ old.page.text ++ form_lines new.names added → new.count ≡ old.count + length added → AreLines (seen ++ names_of c.terms) (cs ++ c ∷ []) new
lines_added seen cs c old new added h e loaded p k =
    let others = constraint_names (c ∷ []) in
    let before : form_lines old.names h.forms ≡ form_lines new.names h.forms = same_lines seen cs others old h new.names e in
    let lines = λ (f : Form). line (Constraint (linear_of new.names f)) in
    let alone : others ≡ names_of c.terms = append-nil (names_of c.terms) in
    let names : constraint_names (cs ++ c ∷ []) ≡ constraint_names cs ++ others = flat_map-append (λ (x : Linear). names_of x.terms) cs (c ∷ []) in
    let sides : sides_in (cs ++ c ∷ []) ≡ sides_in cs ++ sides_in (c ∷ []) = flat_map-append (λ (x : Linear). with_sides x.relation x) cs (c ∷ []) in
    let there : HasNames new.names others = subst (λ (ks : List (List ℕ)). HasNames ks others) (sym e) (named old.names others) in
    record {
      forms = h.forms ++ added;
      names = names_then seen cs others old h new.names e ∙ ap (λ (ks : List (List ℕ)). with_names [] (seen ++ ks)) alone;
      has = subst (HasNames new.names) (sym names) (has_both new.names (constraint_names cs) others (still_named seen cs others old h new.names e) there);
      loaded = subst (λ (ss : List (Side × Linear)). AreFormsOf new.names ss (h.forms ++ added)) (sym sides)
          (forms_then new.names (sides_in cs) (sides_in (c ∷ [])) h.forms added (still_loaded seen cs others old h new.names e) loaded);
      text = p ∙ (ap (λ (x : List ℕ). x ++ form_lines new.names added) (h.text ∙ before) ∙ sym (flat_map-append lines h.forms added));
      count = k ∙ (ap (λ (n : ℕ). n + length added) h.count ∙ sym (length-append h.forms added));
    }

-- ---- what was made, and one more constraint

only : (c x : Linear) → Contains (c ∷ []) x → c ≡ x
only c x (zero, lt, e) = e
only c x (suc i, lt, e) = absurd (omega (arith, lt))

pub passes_now : (limit : ℕ) (cs : List Linear) (c : Linear) → ¬ Fits limit c → SomePasses limit (cs ++ c ∷ [])
passes_now limit cs c large = (c, Contains-append_right cs (c ∷ []) c (0, omega arith, refl), large)

pub passes_not : (limit : ℕ) (cs : List Linear) (c : Linear) → ¬ SomePasses limit cs → Fits limit c → ¬ SomePasses limit (cs ++ c ∷ [])
passes_not limit cs c none fits (x, in_all, large) = by_place (Contains-append_cases cs (c ∷ []) x in_all)
  where
    by_place : Contains cs x ⊎ Contains (c ∷ []) x → ⊥
    by_place (inl i) = none (x, i, large)
    by_place (inr i) = large (subst (Fits limit) (only c x i) fits)

-- ---- what is stored of statements for their normal form, and one more statement

variables_more : (events : List OpbEvent) (e : OpbEvent) → variables_in (events ++ e ∷ []) ≡ variables_in events ++ variables_in (e ∷ [])
variables_more [] e = refl
variables_more (d ∷ events) e = grind (arith, variables_more events e)

-- the invariant of the statements with one more
noted_next : (events : List OpbEvent) (e : OpbEvent) (n : ℕ) (o : Option OpbEvent) (f : Forms) → n ≡ last_or 0 (variables_in events ++ variables_in (e ∷ [])) → o ≡ as_statement (last_or None (objectives_in events ++ objectives_in (e ∷ [])))
    → AreMade (names_on events ++ names_at e) (constraints_in events ++ constraints_in (e ∷ [])) f → IsNoted (events ++ e ∷ []) n o f
noted_next events e n o f v w made = grind (arith, variables_more, objectives_more, names_more, constraints_more)

module _ (events : List OpbEvent) (n : ℕ) (o : Option OpbEvent) (f : Forms) (h : IsNoted events n o f) where
  same_count : n ≡ last_or 0 (variables_in events ++ [])
  same_count = h.variables_are ∙ ap (last_or 0) (sym (append-nil (variables_in events)))

  same_objective : o ≡ as_statement (last_or None (objectives_in events ++ []))
  same_objective = h.objective_is ∙ ap (λ (xs : List (Option (List Term))). as_statement (last_or None xs)) (sym (append-nil (objectives_in events)))

  same_made : AreMade (names_on events ++ []) (constraints_in events ++ []) f
  same_made = rw (append-nil (names_on events), append-nil (constraints_in events)) h.made

  pub noted_header : (x m : ℕ) (tail : List ℕ) → IsNoted (events ++ Header x m tail ∷ []) x o f
  noted_header x m tail = noted_next events (Header x m tail) x o f (sym (last_more 0 x (variables_in events))) same_objective same_made

  pub noted_comment : (text : List ℕ) → IsNoted (events ++ Comment text ∷ []) n o f
  noted_comment text = noted_next events (Comment text) n o f same_count same_objective same_made

  pub noted_objective : (terms : List Term) (g : Forms) → AreMade (names_on events ++ names_of terms) (constraints_in events) g → IsNoted (events ++ Objective terms ∷ []) n (Some (Objective terms)) g
  noted_objective terms g made =
      let last : Some (Objective terms) ≡ as_statement (last_or None (objectives_in events ++ Some terms ∷ [])) = ap as_statement (sym (last_more None (Some terms) (objectives_in events))) in
      noted_next events (Objective terms) n (Some (Objective terms)) g same_count last (rw (append-nil (constraints_in events)) made)

  pub noted_constraint : (l : Linear) (g : Forms) → AreMade (names_on events ++ names_of l.terms) (constraints_in events ++ l ∷ []) g → IsNoted (events ++ Constraint l ∷ []) n o g
  noted_constraint l g made = noted_next events (Constraint l) n o g same_count same_objective made

-- each constraint holds
abbrev AllHold : (List ℕ → Bool) → List Linear → Type 0
AllHold a = AllByRecursion (HoldsWritten a)

each_holds : (a : List ℕ → Bool) (cs : List Linear) → AllHold a cs ↔ ((c : Linear) → Contains cs c → HoldsWritten a c)
each_holds a cs = (
  λ h c k. All-contains (HoldsWritten a) cs c (All-from_recursion (HoldsWritten a) cs h) k,
  λ h. recursion_from_All (HoldsWritten a) cs (All-weaker (Contains cs) (HoldsWritten a) h cs (All-contains_itself cs)),
)

-- What laws say of names, and of the forms of a constraint.
module _
    (named : (names others : List (List ℕ)) → HasNames (with_names names others) others)
    (distinct : (names others : List (List ℕ)) → AreDistinct names → AreDistinct (with_names names others))
    (at_least : (names : List (List ℕ)) (linear : Linear) (r : Form) → AreDistinct names → HasNames names (names_of linear.terms) → IsSideOf names least linear r → linear.relation ≡ AtLeast
    → SameAsForm names linear r)
    (equal : (names : List (List ℕ)) (linear : Linear) (r s : Form) → AreDistinct names → HasNames names (names_of linear.terms) → IsSideOf names least linear r → IsSideOf names most linear s → linear.relation ≡ Equal
    → SameAsForms names linear r s)
    (written_out : (names : List (List ℕ)) (f : Form) → SameAsForm names (linear_of names f) f) where
  -- the forms of one constraint, and then the others
  one_more : (names : List (List ℕ)) (a : List ℕ → Bool) (relation : Relation) (c : Linear) (sides : List (Side × Linear)) (forms : List Form) (P : Type 0) → c.relation ≡ relation → AreDistinct names
      → HasNames names (names_of c.terms) → ((fs : List Form) → AreFormsOf names sides fs → P ↔ AllHold a (map (linear_of names) fs)) → AreFormsOf names (with_sides relation c ++ sides) forms
      → (HoldsWritten a c × P) ↔ AllHold a (map (linear_of names) forms)
  one_more names a AtLeast c sides [] P e d h rest f = absurd f
  one_more names a AtLeast c sides (r ∷ forms) P e d h rest f =
      let same = at_least names c r d h f.0 e a in let written = written_out names r a in let others = rest forms f.1 in
      (λ w. (written.1 (same.0 w.0), others.0 w.1), λ w. (same.1 (written.0 w.0), others.1 w.1))
  one_more names a Equal c sides [] P e d h rest f = absurd f
  one_more names a Equal c sides (r ∷ []) P e d h rest f = absurd f.1
  one_more names a Equal c sides (r ∷ s ∷ forms) P e d h rest f =
      let same = equal names c r s d h f.0 f.1.0 e a in let first = written_out names r a in let second = written_out names s a in
      let others = rest forms f.1.1 in (
        λ w. let both = same.0 w.0 in (first.1 both.0, (second.1 both.1, others.0 w.1)),
        λ w. (same.1 (first.0 w.0, second.0 w.1.0), others.1 w.1.1),
      )

  all_same : (names : List (List ℕ)) (a : List ℕ → Bool) (cs : List Linear) (forms : List Form) → AreDistinct names → HasNames names (constraint_names cs) → AreFormsOf names (sides_in cs) forms
      → AllHold a cs ↔ AllHold a (map (linear_of names) forms)
  all_same names a [] [] d h f = (λ w. w, λ w. w)
  all_same names a [] (r ∷ forms) d h f = absurd f
  all_same names a (c ∷ cs) forms d h f =
      let parts = names_split names (names_of c.terms) (constraint_names cs) h in
      one_more names a c.relation c (sides_in cs) forms (AllHold a cs) refl d parts.0 (λ fs g. all_same names a cs fs d parts.1 g) f

  pub same_solutions : (v w : Instance) → IsNormalised v w → (a : List ℕ → Bool) → Solves v a ↔ Solves w a
  same_solutions v w n a =
      let (forms, f, e) = n.constraints in
      let has = names_split (names_in v) (names_of (objective_of v.objective)) (constraint_names v.constraints) (named [] (names_of (objective_of v.objective) ++ constraint_names v.constraints)) in
      let apart : AreDistinct (names_in v) = distinct [] (names_of (objective_of v.objective) ++ constraint_names v.constraints) tt in
      let same : AllHold a v.constraints ↔ AllHold a w.constraints = rw e (all_same (names_in v) a v.constraints forms apart has.1 f) in
      let before = each_holds a v.constraints in let after = each_holds a w.constraints in
      (λ h. after.0 (same.0 (before.1 h)), λ h. before.0 (same.1 (after.1 h)))

-- What a law says of the forms of a written sum.
module _ (unique : (names : List (List ℕ)) (ts : List Term) (d : ℤ) (r s : Form) → IsFormOf names ts d r → IsFormOf names ts d s → r ≡ s) where
  same_loaded : (names : List (List ℕ)) (sides : List (Side × Linear)) (ls ms : List Linear) → AreLoaded names sides ls → AreLoaded names sides ms → ls ≡ ms
  same_loaded names sides ls ms (fs, f, e) (gs, g, k) = e ∙ ap (map (linear_of names)) (same_forms unique names sides fs gs f g) ∙ sym k

  pub one_form : (v w u : Instance) → IsNormalised v w → IsNormalised v u → w ≡ u
  one_form v w u h k =
      let variables : w.variables ≡ u.variables = h.variables ∙ sym k.variables in let tail : w.tail ≡ u.tail = h.tail ∙ sym k.tail in
      let objective : w.objective ≡ u.objective = h.objective ∙ sym k.objective in
      let comments : w.comments ≡ u.comments = h.comments ∙ sym k.comments in
      let constraints : w.constraints ≡ u.constraints = same_loaded (names_in v) (sides_in v.constraints) w.constraints u.constraints h.constraints k.constraints in
      λ i. record { variables = variables i; tail = tail i; objective = objective i; comments = comments i; constraints = constraints i }

-- ---- what is written without comments

plain_order : (n : ℕ) (events : List OpbEvent) → in_order n [] events ≡ events
plain_order n [] = refl
plain_order n (e ∷ events) = ap (λ (es : List OpbEvent). e ∷ es) (plain_order (n + 1) events)

statement_lines : (o : Option (List Term)) (cs : List Linear) → line_if (as_statement o) ++ flat_map (λ c. line (Constraint c)) cs ≡ flat_map line (objective_events o ++ constraint_events cs)
statement_lines None cs = sym (flat_map-map line Constraint cs)
statement_lines (Some terms) cs = ap (λ (x : List ℕ). line (Objective terms) ++ x) (sym (flat_map-map line Constraint cs))

abbrev plain : ℕ → Option (List Term) → List Linear → Instance
plain n o cs = record { variables = n; tail = []; objective = o; comments = []; constraints = cs }

full_text : (n : ℕ) (o : Option (List Term)) (cs : List Linear) (e : OpbEvent) (events : List OpbEvent) → objective_events o ++ constraint_events cs ≡ e ∷ events → is_bare o cs ≡ false
    → line (Header n (length cs) []) ++ (line_if (as_statement o) ++ flat_map (λ c. line (Constraint c)) cs) ≡ tidied (plain n o cs)
full_text n o cs e events is full =
    let head : List ℕ = header_bytes n (length cs) [] in
    let body : body_events (plain n o cs) ≡ e ∷ events = plain_order 0 (objective_events o ++ constraint_events cs) ∙ is in
    let bytes : instance_bytes (plain n o cs) ≡ head ++ (10 ∷ lines (e ∷ events)) = ap (λ (es : List OpbEvent). head ++ (10 ∷ lines es)) body in
    ap (λ (x : List ℕ). line (Header n (length cs) []) ++ x) (statement_lines o cs ∙ ap (flat_map line) is) ∙ headed (plain n o cs) head e events bytes full

plain_text : (n : ℕ) (o : Option (List Term)) (cs : List Linear) → line (Header n (length cs) []) ++ (line_if (as_statement o) ++ flat_map (λ c. line (Constraint c)) cs) ≡ tidied (plain n o cs)
plain_text n None [] = append-nil (line (Header n 0 [])) ∙ sym (tidied_bare (plain n None []) refl)
plain_text n None (c ∷ cs) = full_text n None (c ∷ cs) (Constraint c) (constraint_events cs) refl refl
plain_text n (Some terms) cs = full_text n (Some terms) cs (Objective terms) (constraint_events cs) refl refl

-- what was stored is the normal form of the instance
module _ (events : List OpbEvent) (n : ℕ) (o : Option OpbEvent) (t : Forms) (h : IsNoted events n o t) (x : Limits × List OpbEvent) (view : (t.limits, events) ≡ x) (kept : t.standing ≡ Stored) (v : Instance) (reported : NamesInOrder x.1 v) where
  order : NamesInOrder events v
  order = subst (λ (y : Limits × List OpbEvent). NamesInOrder y.1 v) (sym view) reported

  abbrev made : AreLines (names_on events) (constraints_in events) t.lines × ¬ SomePasses (largest t.limits) (constraints_in events)
  made = rw kept at h.made

  within : ¬ SomePasses (largest x.0) v.constraints
  within =
      subst (λ (y : Limits × List OpbEvent). ¬ SomePasses (largest y.0) v.constraints) view
      (subst (λ (cs : List Linear). ¬ SomePasses (largest t.limits) cs) (sym order.0.constraints) made.1)

  forms_loaded : AreFormsOf t.lines.names (sides_in v.constraints) made.0.forms
  forms_loaded = subst (λ (ls : List Linear). AreFormsOf t.lines.names (sides_in ls) made.0.forms) (sym order.0.constraints) made.0.loaded

  all_names : t.lines.names ≡ names_in v
  all_names = made.0.names ∙ ap (with_names []) order.1

  abbrev constraints : List Linear
  constraints = map (linear_of t.lines.names) made.0.forms

  normalised : IsNormalised v (plain v.variables v.objective constraints)
  normalised =
      let loaded = subst (λ (ks : List (List ℕ)). AreFormsOf ks (sides_in v.constraints) made.0.forms) all_names forms_loaded in
      let written = ap (λ (ks : List (List ℕ)). map (linear_of ks) made.0.forms) all_names in search rules

  text_kept : line (Header n t.lines.count []) ++ (line_if o ++ t.lines.page.text) ≡ tidied (plain v.variables v.objective constraints)
  text_kept =
      let k = made.0 in let count : t.lines.count ≡ length constraints = k.count ∙ sym (length-map k.forms (linear_of t.lines.names)) in
      let text : t.lines.page.text ≡ flat_map (λ c. line (Constraint c)) constraints = k.text ∙ sym (flat_map-map (λ (c : Linear). line (Constraint c)) (linear_of t.lines.names) k.forms) in
      let variables : n ≡ v.variables = h.variables_are ∙ sym order.0.variables in
      let objective : o ≡ as_statement v.objective = h.objective_is ∙ ap as_statement (sym order.0.objective) in
      ap₂ (λ (m k : ℕ). line (Header m k []) ++ (line_if o ++ t.lines.page.text)) variables count
      ∙ (ap₂ (λ (p : Option OpbEvent) (y : List ℕ). line (Header v.variables (length constraints) []) ++ (line_if p ++ y)) objective text
      ∙ plain_text v.variables v.objective constraints)

  pub kept_form : (w : Instance) × HasNormalForm (largest x.0) v w × (line (Header n t.lines.count []) ++ (line_if o ++ t.lines.page.text) ≡ tidied w)
  kept_form = (plain v.variables v.objective constraints, (normalised, within), text_kept)

-- ---- the names of the statements of an instance

names_of_mains : (events : List OpbEvent) → names_on events ≡ names_on (mains_in events)
names_of_mains [] = refl
names_of_mains (e ∷ events) = grind (arith, names_of_mains events)

names_of_both : (o : Option (List Term)) (cs : List Linear) → names_on (objective_events o ++ constraint_events cs) ≡ names_of (objective_of o) ++ constraint_names cs
names_of_both None cs = flat_map-map names_at Constraint cs
names_of_both (Some terms) cs = ap (λ (ns : List (List ℕ)). names_of terms ++ ns) (flat_map-map names_at Constraint cs)

gathered_noted : (limits : Limits) (before events : List OpbEvent) → gathered noted (limits, before) events ≡ (limits, before ++ events)
gathered_noted limits before [] = ap (λ (es : List OpbEvent). (limits, es)) (sym (append-nil before))
gathered_noted limits before (e ∷ events) = gathered_noted limits (before ++ e ∷ []) events ∙ ap (λ (es : List OpbEvent). (limits, es)) (append_assoc before (e ∷ []) events)

-- under these limits the statements have this value
abbrev IsNotedOf : Limits → Limits × List OpbEvent → Instance → Type 0
IsNotedOf limits t v = (t.0 ≡ limits) × NamesInOrder t.1 v

module _ (limits : Limits) where
  value_begun : (i : Item OpbEvent) (rest : List (Item OpbEvent)) (e : OpbEvent) → IsBegun (largest limits) (top_of limits) i rest e → (v : Instance) × NamesInOrder (e ∷ events_of rest) v
  value_begun i rest (Header n m tail) h =
      let r : Follows true m (events_of rest) = follows (largest limits) true m rest (counted (largest limits) m rest h.3) in (
        value_of n tail (events_of rest),
        (
          is_value n m tail (largest limits) rest (counted (largest limits) m rest h.3),
          names_of_mains (events_of rest) ∙ (ap names_on r.mains ∙ names_of_both (last_or None (objectives_in (events_of rest))) (constraints_in (events_of rest))),
        ),
      )
  value_begun i rest e h = absurd h

  value_there : (items : List (Item OpbEvent)) → IsInstanceText limits items → (v : Instance) × NamesInOrder (events_of items) v
  value_there [] h = absurd h
  value_there (i ∷ rest) h = value_begun i rest i.event h

  abbrev empty : Limits × List OpbEvent
  empty = (limits, [])

  has_value : (items : List (Item OpbEvent)) → IsInstanceText limits items → (v : Instance) × IsValueOf (events_of items) v × IsNotedOf limits (gathered noted empty (events_of items)) v
  has_value items h =
      let (v, order) = value_there items h in
      (v, order.0, subst (λ (t : Limits × List OpbEvent). IsNotedOf limits t v) (sym (gathered_noted limits [] (events_of items))) (refl, order))

  -- ---- the file

  module _ (longest : ℕ) (accepted : List (Item OpbEvent) → Type 0) (same : (items : List (Item OpbEvent)) → accepted items ↔ IsInstanceText limits items) (before after : Option (List ℕ)) where
    pub noted_file : (t : Limits × List OpbEvent) → IsGathered accepted longest noted empty before after t → (v : Instance) × IsInstanceFile limits longest before after v × IsNotedOf limits t v
    noted_file t f = file_as accepted (IsInstanceText limits) same longest noted empty IsValueOf (IsNotedOf limits) has_value before after t f

    module _ (may_ask : List ℕ → ℕ → Type 0) (to : (used : List ℕ) (b : ℕ) → may_ask used b → AsksInInstanceText limits used b) where
      never : (events : List OpbEvent) (e : OpbEvent) → IsTrue false → MayKeep events e
      never events e h = cc

      pub unnoted : (s : Stop) → IsNotGathered accepted longest noted empty may_ask (λ t e. false) before after s → IsNoInstanceFile limits longest before after s
      unnoted s r = refused_as accepted (IsInstanceText limits) same longest noted empty IsValueOf (IsNotedOf limits) has_value may_ask (AsksInInstanceText limits) to (λ t e. false) MayKeep never before after s r

    module _ {W : Type 0} (contents : W → Option (List ℕ)) (faults : W → ℕ) (t : Limits × List OpbEvent) (f : IsGathered accepted longest noted empty before after t) (old : W) where
      abbrev Reported : Result (Unit {0}) ToolFault → W → Type 0
      Reported result new = (v : Instance) → NamesInOrder t.1 v → WritesText (HasNormalForm (largest t.0) v) (LacksNormalForm (largest t.0) v) tidied contents faults old result new

      by_fault : (v : Instance) → IsInstanceFile limits longest before after v → (e : ToolFault) → LacksNormalForm (largest limits) v e → IsNoNormalFile limits longest before after e
      by_fault v file (Overflow File) d = (v, file, d)
      by_fault v file (Memory File) d = (v, file, d)
      by_fault v file f d = absurd d

      by_result : (v : Instance) → IsInstanceFile limits longest before after v → (result : Result (Unit {0}) ToolFault) (new : W)
          → WritesText (HasNormalForm (largest limits) v) (LacksNormalForm (largest limits) v) tidied contents faults old result new
          → WritesText (IsNormalFile limits longest before after) (IsNoNormalFile limits longest before after) tidied contents faults old result new
      by_result v file (Ok u) new (w, asked, wrote) = (w, (v, file, asked), wrote)
      by_result v file (Err Write) new (w, asked, broke) = (w, (v, file, asked), broke)
      by_result v file (Err (Overflow i)) new (d, e) = (by_fault v file (Overflow i) d, e)
      by_result v file (Err (Memory i)) new (d, e) = (by_fault v file (Memory i) d, e)
      by_result v file (Err e) new h = absurd h.0

      -- what was written is what the file requires
      pub reported_file : (result : Result (Unit {0}) ToolFault) (new : W) → Reported result new → WritesText (IsNormalFile limits longest before after) (IsNoNormalFile limits longest before after) tidied contents faults old result new
      reported_file result new reported =
          let (v, file, (under, order)) = noted_file t f in
          by_result v file result new (subst (λ (l : Limits). WritesText (HasNormalForm (largest l) v) (LacksNormalForm (largest l) v) tidied contents faults old result new) under (reported v order))

      by_seen : (shown : Option ℕ) (ended : Bool) → ended ≡ true → (v : Instance) (result : Result (Unit {0}) ToolFault) (new : W) → WritesText (HasNormalForm (largest t.0) v) (LacksNormalForm (largest t.0) v) tidied contents faults old result new → SawFile shown ended result
      by_seen shown ended end v (Err (Text i s)) new (d, e) = absurd d
      by_seen shown ended end v result new h = end

      -- the text did not stop its reader
      pub reported_on : (shown : Option ℕ) (ended : Bool) → ended ≡ true → (result : Result (Unit {0}) ToolFault) (new : W) → Reported result new → SawFile shown ended result
      reported_on shown ended end result new reported = let (v, file, (under, order)) = noted_file t f in by_seen shown ended end v result new (reported v order)

      by_count : (v : Instance) (result : Result (Unit {0}) ToolFault) (new : W) (n : ℕ) → WritesText (HasNormalForm (largest t.0) v) (LacksNormalForm (largest t.0) v) tidied contents faults old result new → n ≡ faults_reported result n
      by_count v (Err (Text i s)) new n (d, e) = absurd d
      by_count v result new n h = refl

      pub reported_faults : (result : Result (Unit {0}) ToolFault) (new : W) (n : ℕ) → Reported result new → n ≡ faults_reported result n
      reported_faults result new n reported = let (v, file, (under, order)) = noted_file t f in by_count v result new n (reported v order)
