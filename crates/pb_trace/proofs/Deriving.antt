-- Literals that became true follow from those before them.
use Rattle.{pb_normal.specs.meaning.Rules.on, pb_normal.specs.meaning.Rules.only, std.proofs.lemmas.Grind.get_or-set_at}
use Rattle.pb_propagate.proofs.lemmas.engine.Choices.{only-true, only-self, total-has, total-within}
use Rattle.pb_propagate.proofs.lemmas.engine.Completing.{IsPart, opened-part}
use Rattle.pb_trace.proofs.Common.{ℕ, ◌++◌, ◌+◌, ◌<◌, ◌||◌, ◌∙◌, ◌∷◌, ◌≡◌, ◌≤◌, [], ap, arith, Bool, cond, Err, get_or, inl, inr, length, List, None, not, Ok}
use Rattle.pb_trace.proofs.Common.{Option, refl, Result, set, Some, subst, suc, sym, true, zero, Contains, MatchOption, OnOk, get_or-set_other, Entry, counted}
use Rattle.pb_trace.proofs.Common.{Form, IsRising, total, opened, AreValues, Begin, Derived, Follows, Forces, IsBroken, IsSound, Keeps, cases_Bool, false}
use Rattle.pb_trace.proofs.Common.{literals, Names, Then, true_by, Forced, Over, Stored}
use Rattle.pb_trace.specs.declared.propagation.{Propagation.Propagation, Reason.Reason, Reason.TheVariants.Given}

or_false : (b : Bool) → (b || false) ≡ b
or_false true = refl
or_false false = refl

on-push : (list : List Forced) (f : Forced) (v : ℕ) (n : Bool) → on (literals (list ++ (f ∷ []))) v n ≡ (on (literals list) v n || only f.variable f.negated v n)
on-push [] f v n = grind (arith, only f.variable f.negated v n)
on-push (x ∷ xs) f v n = grind (arith, on-push xs f v n, only x.variable x.negated v n)

part-push : (list : List Forced) (f : Forced) → IsPart (literals list) (literals (list ++ (f ∷ [])))
part-push list f v n h = grind (arith, on-push list f v n)

total-alike : (p q : ℕ → Bool → Bool) (ts : List Entry) → ((t : Entry) → Contains ts t → p t.variable t.negated ≡ q t.variable t.negated) → total p ts ≡ total q ts
total-alike p q [] e = refl
total-alike p q (t ∷ ts) e =
    let one : counted p t ≡ counted q t = ap (λ b. cond b t.coefficient 0) (e t (zero, omega arith, refl)) in
    omega (arith, total-alike p q ts (λ u there. e u (suc there.0, omega (arith, there.1), there.2)), one)

rising-from : (m : ℕ) (ts : List Entry) (e : Entry) → IsRising m ts → Contains ts e → m ≤ e.variable
rising-from m [] e r (k, inside, is) = absurd (omega (arith, inside))
rising-from m (x ∷ xs) e r (zero, inside, is) = let here : x.variable ≡ e.variable = ap (λ (y : Entry). y.variable) is in omega (arith, here, r.0)
rising-from m (x ∷ xs) e r (suc k, inside, is) = let rest = rising-from (x.variable + 1) xs e r.2 (k, omega (arith, inside), is) in omega (arith, rest, r.0)

-- two terms on one variable are one
rising-one : (m : ℕ) (ts : List Entry) (t e : Entry) → IsRising m ts → Contains ts t → Contains ts e → t.variable ≡ e.variable → t.negated ≡ e.negated
rising-one m [] t e r (k, inside, is) there same = absurd (omega (arith, inside))
rising-one m (x ∷ xs) t e r (zero, inside, is) (zero, inside', is') same = ap (λ (y : Entry). y.negated) (sym is ∙ is')
rising-one m (x ∷ xs) t e r (zero, inside, is) (suc j, inside', is') same =
    absurd (omega (arith, rising-from (x.variable + 1) xs e r.2 (j, omega (arith, inside'), is'), ap (λ (y : Entry). y.variable) is, same))
rising-one m (x ∷ xs) t e r (suc k, inside, is) (zero, inside', is') same =
    absurd (omega (arith, rising-from (x.variable + 1) xs t r.2 (k, omega (arith, inside), is), ap (λ (y : Entry). y.variable) is', same))
rising-one m (x ∷ xs) t e r (suc k, inside, is) (suc j, inside', is') same =
    rising-one (x.variable + 1) xs t e r.2 (k, omega (arith, inside), is) (j, omega (arith, inside'), is') same

lower-push : (list : List Forced) (f : Forced) (ts : List Entry) → total (opened (literals (list ++ (f ∷ [])))) ts ≤ total (opened (literals list)) ts
lower-push list f ts =
    total-within (opened (literals (list ++ (f ∷ [])))) (opened (literals list)) (opened-part (literals list) (literals (list ++ (f ∷ []))) (part-push list f)) ts

-- a literal of a constraint falsifies none of it
same-push : (list : List Forced) (f : Forced) (m : ℕ) (ts : List Entry) (e : Entry) → IsRising m ts → Contains ts e → f.variable ≡ e.variable → f.negated ≡ e.negated
    → total (opened (literals (list ++ (f ∷ [])))) ts ≡ total (opened (literals list)) ts
same-push list f m ts e rising inside variable negated = total-alike (opened (literals (list ++ (f ∷ [])))) (opened (literals list)) ts (λ t there. ap not (on-push list f t.variable (not t.negated) ∙ other t there))
  where
    flipped : (a b : Bool) → not a ≡ b → a ≡ b → ⊥
    flipped true b h k = absurd (let e = h ∙ sym k in cc)
    flipped false b h k = absurd (let e = h ∙ sym k in cc)

    apart : (t : Entry) → Contains ts t → only f.variable f.negated t.variable (not t.negated) ≡ false
    apart t there = elim (cases_Bool (only f.variable f.negated t.variable (not t.negated))) [
      | inl same ↦
          let both = only-true f.variable f.negated t.variable (not t.negated) same in
          absurd (flipped t.negated f.negated both.1 (rising-one m ts t e rising there inside (both.0 ∙ variable) ∙ sym negated))
      | inr none ↦ none
    ]

    other : (t : Entry) → Contains ts t → (on (literals list) t.variable (not t.negated) || only f.variable f.negated t.variable (not t.negated)) ≡ on (literals list) t.variable (not t.negated)
    other t there = rw (apart t there) (or_false (on (literals list) t.variable (not t.negated)))

-- the values after a literal is true
values-push : (values : List (Option Bool)) (list : List Forced) (f : Forced) → get_or values f.variable None ≡ None → f.variable < length values → AreValues values list
    → AreValues (set values f.variable (Some (not f.negated))) (list ++ (f ∷ []))
values-push values list f unset inside are v n =
    grind (arith, f.negated, n, on-push list f v n, are v n, only-true f.variable f.negated v n, only-self, get_or-set_other, get_or-set_at)

module _ (negation : Option Form) (stored : List Stored) (over : Over) where
  -- the literal of a term whose coefficient is above the slack
  pub follows : (values : List (Option Bool)) (list : List Forced) (f : Forced) (form : Form) (e : Entry) → AreValues values list → get_or values f.variable None ≡ None
      → Names negation stored over f.reason form → Contains form.terms e → f.variable ≡ e.variable → f.negated ≡ e.negated → f.slack < e.coefficient
      → total (opened (literals list)) form.terms ≡ form.degree + f.slack → Follows negation stored over list f
  follows values list f form e are unset named inside variable negated above low =
      let some = total-has (only f.variable f.negated) form.terms e inside (rw (variable, negated) (only-self e.variable e.negated)) in
      record {
        may = record {
          absent = are f.variable f.negated ∙ ap (λ o. true_by o f.negated) unset;
          not_falsified = are f.variable (not f.negated) ∙ ap (λ o. true_by o (not f.negated)) unset;
          form = form;
          among = named;
          stands = omega (arith, some, above);
          forced = omega (arith, some, above, low);
        };
        slack = low;
      }

  still_broken : (list : List Forced) (f : Forced) (o : Option Reason) → MatchOption o (Unit {0}) (λ r. IsBroken negation stored over list r)
      → MatchOption o (Unit {0}) (λ r. IsBroken negation stored over (list ++ (f ∷ [])) r)
  still_broken list f None h = tt
  still_broken list f (Some r) (form, named, low) = (form, named, omega (arith, low, lower-push list f form.terms))

  -- a literal that follows was made true, or nothing changed
  pub forced : (given : List Forced) (old new : Propagation) (f : Forced) → Forces old f new
      → (get_or old.values.items f.variable None ≡ None → Follows negation stored over old.forced.items f) → IsSound negation stored over given old → IsSound negation stored over given new
  forced given old new f (inl same) follow sound = rw same sound
  forced given old new f (inr (unset, inside, values, list, conflict)) follow sound = record {
    derived = subst (Derived negation stored over given) (sym list) (Then old.forced.items f sound.derived (follow unset));
    values = rw (values, list) (values-push old.values.items old.forced.items f unset inside sound.values);
    conflict = rw (conflict, list) (still_broken old.forced.items f old.conflict sound.conflict);
  }

  -- one call, and then one with its result
  pub keeps_then : {E : Type 0} (r : Result Unit E) (a b c : Propagation) → Keeps negation stored over a b → OnOk r (Keeps negation stored over b c) → OnOk r (Keeps negation stored over a c)
  keeps_then (Ok u) a b c h k = λ given sound. k given (h given sound)
  keeps_then (Err e) a b c h k = tt

  -- a call after a change of what is counted
  pub keeps_alike : {E : Type 0} (r : Result Unit E) (a b c : Propagation) → b.values ≡ a.values → b.forced ≡ a.forced → b.conflict ≡ a.conflict → OnOk r (Keeps negation stored over b c)
      → OnOk r (Keeps negation stored over a c)
  keeps_alike (Ok u) a b c values list conflict h = λ given sound. h given record {
    derived = rw list sound.derived;
    values = rw (values, list) sound.values;
    conflict = rw (conflict, list) sound.conflict;
  }
  keeps_alike (Err e) a b c values list conflict h = tt

-- a literal of a constraint that was made true falsifies none of it
pub forced-same : (old new : Propagation) (f : Forced) (m : ℕ) (ts : List Entry) (e : Entry) → IsRising m ts → Contains ts e → f.variable ≡ e.variable → f.negated ≡ e.negated → Forces old f new
    → total (opened (literals new.forced.items)) ts ≡ total (opened (literals old.forced.items)) ts
forced-same old new f m ts e rising inside variable negated (inl same) = rw same refl
forced-same old new f m ts e rising inside variable negated (inr (unset, within, values, list, conflict)) = rw list (same-push old.forced.items f m ts e rising inside variable negated)

pub sound-start : (negation : Option Form) (stored : List Stored) (over : Over) (p : Propagation) → ((v : ℕ) → get_or p.values.items v None ≡ None) → p.forced.items ≡ [] → p.conflict ≡ None
    → IsSound negation stored over [] p
sound-start negation stored over p values list conflict = record {
  derived = rw list Begin;
  values = λ v n. rw (list, values v) refl;
  conflict = rw conflict tt;
}

-- a default for reads
abbrev pub no_literal : Forced
no_literal = record { variable = 0; negated = false; reason = Given; slack = 0 }
