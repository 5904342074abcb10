-- The forms by number, which are stored by slot.
use Rattle.pb_propagate.proofs.Common.{ℕ, ◌++◌, ◌<◌, ◌∙◌, ◌∷◌, ◌≡◌, ◌≤◌, [], ap, arith, get_or, get_or-set_other, get_or-set_same, inl, inr, length}
use Rattle.pb_propagate.proofs.Common.{length-append, length-set, List, None, refl, set, suc, sym, zero, Option, slice_get, Some, sum_by, cases_eq, get_or-map}
use Rattle.pb_propagate.proofs.Common.{get_or_append_left, get_or_past, length-map, map-append, set-get_or, sum_by-cons, sum_by-set, sum_by_push, numbered}
use Rattle.pb_propagate.proofs.Common.{get_or_from_slice_get, slice_get-get_or, slice_get_within, Form, StoredForm, forms_of, Shape, Live, ArePlaced, form_at}
use Rattle.{pb_propagate.proofs.Common.With, pb_propagate.proofs.lemmas.engine.Bridge.AreKept, std.proofs.lemmas.Grind.get_or-set_at}
use Rattle.pb_propagate.specs.engine.engine.Slots.{no_slot}
use Rattle.pb_propagate.proofs.lemmas.store.Gets.{get-set_at, get-set_other, get-push_less, get-push_other, get-push_same}

pub at-inside : (forms : List (Option Form)) (s : ℕ) (f : Form) → form_at forms s ≡ Some f → s < length forms
at-inside forms s f h = grind (arith, get_or_past)

at-any : (forms : List (Option Form)) (s : ℕ) (d : Option Form) → s < length forms → get_or forms s d ≡ form_at forms s
at-any forms s d less = sym (get_or_from_slice_get forms s (get_or forms s d) None (slice_get-get_or forms s d less))

-- the form of a number
pub numbered-at : (forms : List (Option Form)) (places : List ℕ) (n s : ℕ) (d : Option Form) → slice_get places n ≡ Some s → get_or (numbered forms places) n d ≡ form_at forms s
numbered-at forms places n s d h = grind (arith, get_or-map (form_at forms) places n s d, slice_get_within places n s, get_or_from_slice_get places n s s, h)

pub numbered-length : (forms : List (Option Form)) (places : List ℕ) → length (numbered forms places) ≡ length places
numbered-length forms places = length-map places (form_at forms)

-- the live forms are those of the slots
pub live-forth : (forms : List (Option Form)) (places : List ℕ) (f : Form) → ArePlaced forms places → Live forms f → Live (numbered forms places) f
live-forth forms places f p (i, inside, is) = grind (arith, at-any, p.placed, slice_get_within, numbered-length, numbered-at)

pub live-back : (forms : List (Option Form)) (places : List ℕ) (f : Form) → Live (numbered forms places) f → Live forms f
live-back forms places f (n, inside, is) =
    let got = slice_get-get_or places n 0 (omega (arith, inside, numbered-length forms places)) in
    let at : form_at forms (get_or places n 0) ≡ Some f = sym (numbered-at forms places n (get_or places n 0) (Some f) got) ∙ is in
    let less = at-inside forms (get_or places n 0) f at in (get_or places n 0, less, at-any forms (get_or places n 0) (Some f) less ∙ at)

pub kept-same : (F G : Form → Type 0) (xs : List Shape) → ((f : Form) → F f → G f) → ((f : Form) → G f → F f) → AreKept F xs → AreKept G xs
kept-same F G xs to from a = record {
  forth = λ x c. elim (a.forth x c) [
    | inl found ↦ inl (found.0, to found.0 found.1, found.2)
    | inr empty ↦ inr empty
  ];
  back = λ f g. a.back f (from f g);
}

pub placed-kept : (forms : List (Option Form)) (places : List ℕ) (xs : List Shape) → ArePlaced forms places → AreKept (Live forms) xs → AreKept (Live (numbered forms places)) xs
placed-kept forms places xs p a = kept-same (Live forms) (Live (numbered forms places)) xs (λ f. live-forth forms places f p) (live-back forms places) a

pub placed-with : (forms : List (Option Form)) (places : List ℕ) (g : Form) (xs : List Shape) → ArePlaced forms places → AreKept (With (Live forms) g) xs → AreKept (With (Live (numbered forms places)) g) xs
placed-with forms places g xs p a = kept-same (With (Live forms) g) (With (Live (numbered forms places)) g) xs
    (λ f w. elim w [ inl live ↦ inl (live-forth forms places f p live) | inr e ↦ inr e ])
    (λ f w. elim w [ inl live ↦ inl (live-back forms places f live) | inr e ↦ inr e ]) a

-- slots with the same forms
pub numbered-same : (forms forms' : List (Option Form)) (places : List ℕ) → ((n s : ℕ) → slice_get places n ≡ Some s → form_at forms' s ≡ form_at forms s) → numbered forms' places ≡ numbered forms places
numbered-same forms forms' [] h = refl
numbered-same forms forms' (p ∷ ps) h = rw (h 0 p refl, numbered-same forms forms' ps (λ n s k. h (suc n) s k)) refl

-- the elements that `w` counts are the same
pub agree-sum : {X : Type 0} (w : X → ℕ) (z : X) → w z ≡ 0 → (xs ys : List X) → ((s : ℕ) → w (get_or xs s z) ≡ w (get_or ys s z)) → sum_by w xs ≡ sum_by w ys
agree-sum w z e [] [] h = refl
agree-sum w z e [] (y ∷ ys) h = omega (arith, agree-sum w z e [] ys (λ s. h (suc s)), sum_by-cons w y ys, h 0, e)
agree-sum w z e (x ∷ xs) [] h = omega (arith, agree-sum w z e xs [] (λ s. h (suc s)), sum_by-cons w x xs, h 0, e)
agree-sum w z e (x ∷ xs) (y ∷ ys) h = omega (arith, agree-sum w z e xs ys (λ s. h (suc s)), sum_by-cons w x xs, sum_by-cons w y ys, h 0)

pub placed-agree : (forms forms' : List (Option Form)) (places : List ℕ) → ((s : ℕ) → form_at forms' s ≡ form_at forms s) → length forms' < no_slot → ArePlaced forms places → ArePlaced forms' places
placed-agree forms forms' places h short p =
    let sums : (w : Option Form → ℕ) → w None ≡ 0 → sum_by w forms' ≡ sum_by w forms = λ w z. agree-sum w None z forms' forms (λ s. ap w (h s)) in
    grind (arith, p.live, p.single, p.placed, numbered-same, p.alike, sums, short)

-- a form is stored in an empty slot
slot-empty : (forms : List (Option Form)) (slot : ℕ) → slice_get forms slot ≡ Some None → form_at forms slot ≡ None
slot-empty forms slot h = get_or_from_slice_get forms slot None None h

slot-free : (forms : List (Option Form)) (places : List ℕ) (slot n : ℕ) → slice_get forms slot ≡ Some None → ArePlaced forms places → slice_get places n ≡ Some slot → ⊥
slot-free forms places slot n none p h = grind (arith, p.live n slot h, slot-empty forms slot none, slice_get_within forms slot None none, p.short)

pub numbered-filled : (forms : List (Option Form)) (places : List ℕ) (slot : ℕ) (f : Form) → slice_get forms slot ≡ Some None → ArePlaced forms places → numbered (set forms slot (Some f)) places ≡ numbered forms places
numbered-filled forms places slot f none p =
    numbered-same forms (set forms slot (Some f)) places (λ n s h. get_or-set_other forms slot s (Some f) None (λ e. slot-free forms places slot n none p (h ∙ ap (λ z. Some z) e)))

pub numbered-grown : (forms : List (Option Form)) (places : List ℕ) (slot : ℕ) (f : Form) → slice_get forms slot ≡ Some None → ArePlaced forms places → numbered (set forms slot (Some f)) (places ++ (slot ∷ [])) ≡ numbered forms places ++ (Some f ∷ [])
numbered-grown forms places slot f none p = grind (arith, get_or-set_same, slice_get_within, map-append, numbered-filled)

pub placed-filled : (forms : List (Option Form)) (places : List ℕ) (slot : ℕ) (f : Form) → slice_get forms slot ≡ Some None → ArePlaced forms places → ArePlaced (set forms slot (Some f)) (places ++ (slot ∷ []))
placed-filled forms places slot f none p =
    let inside = slice_get_within forms slot None none in
    let here = get_or-set_same forms slot (Some f) None inside in
    let free : (n : ℕ) → slice_get places n ≡ Some slot → ⊥ = λ n h. slot-free forms places slot n none p h in
    let kept : (n s : ℕ) → slice_get places n ≡ Some s → form_at (set forms slot (Some f)) s ≡ form_at forms s =
    λ n s h. get_or-set_other forms slot s (Some f) None (λ e. free n (h ∙ ap (λ z. Some z) e)) in
    record {
      live = λ n s h. elim (cases_eq n (length places)) [
        | inl end ↦ let new : s ≡ slot = grind (arith, end, h, get-push_same) in inr (f, ap (form_at (set forms slot (Some f))) new ∙ here)
        | inr other ↦
            let old = sym (get-push_other places n slot other) ∙ h in
            elim (p.live n s old) [
              | inl past ↦ inl past
              | inr found ↦ inr (found.0, kept n s old ∙ found.1)
            ]
      ];
      single = λ m n s g h k e. grind (arith, cases_eq m (length places), cases_eq n (length places), cases_eq s slot, get-push_other, get-push_same, get_or-set_other, p.single m n s g, free m, free n);
      placed = λ s g e. elim (cases_eq s slot) [
        | inl same ↦ (length places, get-push_same places (length places) slot refl ∙ ap (λ z. Some z) (sym same))
        | inr other ↦
            let found = p.placed s g (sym (get_or-set_other forms slot s (Some f) None other) ∙ e) in
            (found.0, get-push_less places found.0 slot (slice_get_within places found.0 s found.1) ∙ found.1)
      ];
      alike = λ w z.
          let change = sum_by-set w forms slot (Some f) None inside in
          omega (arith, ap (sum_by w) (numbered-grown forms places slot f none p), sum_by_push w (numbered forms places) (Some f), p.alike w z, change, ap w (slot-empty forms slot none), z);
      short = omega (arith, p.short, length-set forms slot (Some f));
    }

-- a form is removed from its slot
numbered-set : (forms forms' : List (Option Form)) (places : List ℕ) (number v : ℕ) → form_at forms' v ≡ None → ((n s : ℕ) → (n ≡ number → ⊥) → slice_get places n ≡ Some s → form_at forms' s ≡ form_at forms s) → numbered forms' (set places number v) ≡ set (numbered forms places) number None
numbered-set forms forms' [] number v none h = refl
numbered-set forms forms' (p ∷ ps) zero v none h = rw (none, numbered-same forms forms' ps (λ n s k. h (suc n) s (λ e. omega (arith, e)) k)) refl
numbered-set forms forms' (p ∷ ps) (suc m) v none h = rw (h 0 p (λ e. omega (arith, e)) refl, numbered-set forms forms' ps m v none (λ n s other k. h (suc n) s (λ e. other (omega (arith, e))) k)) refl

pub record IsTaken (forms : List (Option Form)) (places : List ℕ) (number slot : ℕ) : Type 0 where
  pub form : Form
  pub got : slice_get places number ≡ Some slot
  pub at : form_at forms slot ≡ Some form
  pub short : length forms < no_slot

pub taken-by : (forms : List (Option Form)) (places : List ℕ) (number s : ℕ) → number < length places → s ≡ get_or places number s → s < length forms → ArePlaced forms places → IsTaken forms places number s
taken-by forms places number s inside is less p = grind (arith, slice_get-get_or, p.live, p.short)

none-past : (forms : List (Option Form)) (s : ℕ) → length forms < no_slot → form_at (set forms s None) no_slot ≡ None
none-past forms s short = get_or_past (set forms s None) no_slot None (omega (arith, short, length-set forms s None))

pub numbered-left : (forms : List (Option Form)) (places : List ℕ) (number slot : ℕ) → (t : IsTaken forms places number slot) → ArePlaced forms places → numbered (set forms slot None) (set places number no_slot) ≡ set (numbered forms places) number None
numbered-left forms places number slot t p = grind (arith, numbered-set, none-past, t.short, get_or-set_other, p.single, t.got, t.at)

pub placed-left : (forms : List (Option Form)) (places : List ℕ) (number slot : ℕ) → (t : IsTaken forms places number slot) → ArePlaced forms places → ArePlaced (set forms slot None) (set places number no_slot)
placed-left forms places number slot t p =
    let inside = slice_get_within places number slot t.got in
    let within = at-inside forms slot t.form t.at in
    let before : (s : ℕ) (g : Form) → form_at (set forms slot None) s ≡ Some g → form_at forms s ≡ Some g =
    λ s g e. grind (arith, cases_eq s slot, get_or-set_at, get_or-set_other, within) in
    let still : (n s : ℕ) (g : Form) → slice_get (set places number no_slot) n ≡ Some s → form_at (set forms slot None) s ≡ Some g → slice_get places n ≡ Some s =
    λ n s g h e. grind (arith, cases_eq n number, get-set_at, get-set_other, inside, none-past forms slot t.short) in
    record {
      live = λ n s h.
          grind (arith, cases_eq n number, get-set_at, get-set_other, inside, p.live n s, p.single n number s t.form, get_or-set_other, cases_eq s slot, t.got, t.at);
      single = λ m n s g h k e. grind (arith, p.single m n s g, still, before);
      placed = λ s g e. grind (arith, p.placed s g, before, cases_eq s slot, get-set_other, get_or-set_at, within, t.got, e);
      alike = λ w z.
          let room : number < length (numbered forms places) = omega (arith, inside, numbered-length forms places) in
          let one = sum_by-set w (numbered forms places) number None None room in
          let two = sum_by-set w forms slot None None within in
          omega (arith, ap (sum_by w) (numbered-left forms places number slot t p), one, two, p.alike w z, ap w (numbered-at forms places number slot None t.got));
      short = omega (arith, t.short, length-set forms slot None);
    }

-- removing the form of a number without a slot changes nothing
pub numbered-none : (forms : List (Option Form)) (places : List ℕ) (number s : ℕ) → number < length places → s ≡ get_or places number s → length forms ≤ s → numbered forms places ≡ set (numbered forms places) number None
numbered-none forms places number s inside is past =
    let got : slice_get places number ≡ Some s = slice_get-get_or places number s inside ∙ ap (λ z. Some z) (sym is) in
    let none : get_or (numbered forms places) number None ≡ None = numbered-at forms places number s None got ∙ get_or_past forms s None past in
    sym (ap (set (numbered forms places) number) (sym none) ∙ set-get_or (numbered forms places) number None)

-- one more form, which no number names
numbered-more : (forms : List (Option Form)) (o : Option Form) (places : List ℕ) → ArePlaced forms places → numbered (forms ++ (o ∷ [])) places ≡ numbered forms places
numbered-more forms o places p = numbered-same forms (forms ++ (o ∷ [])) places (λ n s h. grind (arith, p.live n s h, at-inside forms s, get_or_past, get_or_append_left, length-append, p.short))

pub numbered-entered : (keep keep' : List StoredForm) (k : StoredForm) (places : List ℕ) → keep' ≡ keep ++ (k ∷ []) → ArePlaced (forms_of keep) places → numbered (forms_of keep') places ≡ numbered (forms_of keep) places
numbered-entered keep keep' k places same p = grind (arith, map-append, numbered-more)
