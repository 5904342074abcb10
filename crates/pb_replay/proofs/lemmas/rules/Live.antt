-- The live forms after each change of their list, and the variables within which they lie
use Rattle.pb_replay.proofs.Common.{ℕ, ℤ, ◌++◌, ◌<◌, ◌∙◌, ◌∷◌, ◌≡◌, [], arith, Bool, get_or, inl, inr, length, List, map, None, set, Some, sym, Contains}
use Rattle.pb_replay.proofs.Common.{Option, cases_eq, cases_lt, get_or-map, get_or-set_other, get_or-set_same, length-map, length-set, Contains-get_or}
use Rattle.pb_replay.proofs.Common.{Contains-push_cases, none-some, same_Some, Form, Holds, HoldAll, Live, IsLive, place, ◌≤◌, ap, false, length-append, subst}
use Rattle.pb_replay.proofs.Common.{prefix, with_names, IsInside, IsLinked, Running, ◌+◌, drop, drop-cons, Err, pos, refl, Result, drop_more, get_or_past}
use Rattle.{pb_replay.proofs.Common.Fault, pb_replay.proofs.Common.NoSuchId, pb_replay.proofs.Common.Deleted, std.proofs.Math.ListN.get_or-eq_default}

pub read-live : (live : List (Option Form)) (k : ℕ) (f : Form) → get_or live k None ≡ Some f → Live live f
read-live live k f e =
    elim (cases_lt k (length live)) [
      | inl lt ↦ rw e at (Contains-get_or live k None lt)
      | inr ge ↦ absurd (none-some _ (sym (get_or-eq_default live None ge) ∙ e))
    ]

pub IsLive-live : (live : List (Option Form)) (i : ℤ) (f : Form) → IsLive live i f → Live live f
IsLive-live live i f e = read-live live (place (length live) i) f e

pub Live-deleted : (live : List (Option Form)) (k : ℕ) (f : Form) → Live (set live k None) f → Live live f
Live-deleted live k f (j, lt, is) = grind (arith, length-set, none-some, get_or-set_other, get_or-set_same, cases_eq j k)

pub Live-loaded : (forms : List Form) (f : Form) → Live (map (λ f. Some f) forms) f → Contains forms f
Live-loaded forms f c = grind (arith, length-map, get_or-map, same_Some)

pub HoldAll-added : (a : ℕ → Bool) (live : List (Option Form)) (r : Form) → HoldAll a (Live live) → Holds a r → HoldAll a (Live (live ++ (Some r ∷ [])))
HoldAll-added a live r holds h f c =
    elim (Contains-push_cases live (Some r) (Some f) c) [
      | inl old ↦ holds f old
      | inr new ↦ rw (same_Some _ _ new) at h
    ]

pub inside-more : (n m : ℕ) (f : Form) → n ≤ m → IsInside n f → IsInside m f
inside-more n m f le h = λ k d lt. omega (arith, le, h k d lt)

pub grown : (old new others : List (List ℕ)) → new ≡ with_names old others → length old ≤ length new
grown old new others e = let f = prefix old others in omega (arith, ap length (e ∙ f.1), length-append old f.0)

pub inside-added : (n : ℕ) (old new : List (Option Form)) (form : Form) → ((f : Form) → Live old f → IsInside n f) → IsInside n form → new ≡ old ++ Some form ∷ [] → (f : Form) → Live new f → IsInside n f
inside-added n old new form h is e f c =
    elim (Contains-push_cases old (Some form) (Some f) (subst (λ (l : List (Option Form)). Contains l (Some f)) e c)) [
      | inl before ↦ h f before
      | inr same ↦ subst (λ (x : Form). IsInside n x) (same_Some _ _ same) is
    ]

-- the same forms over more names
pub linked-wider : (old new : Running) → IsLinked old → length old.names ≤ length new.names → new.constraints.forms ≡ old.constraints.forms → new.constraints.spent ≡ false → new.constraints.variables ≡ length new.names → IsLinked new
linked-wider old new linked le e ready variables = grind (arith, inside-more, old.names, new.names, linked.inside)

pub linked-loaded : (n m : ℕ) (forms : List Form) (live : List (Option Form)) → n ≤ m → ((f : Form) → Contains forms f → IsInside n f) → live ≡ map (λ (f : Form). let o : Option Form = Some f in o) forms → (f : Form) → Live live f → IsInside m f
linked-loaded n m forms live le h e f c = inside-more n m f le (h f (Live-loaded forms f (subst (λ (l : List (Option Form)). Contains l (Some f)) e c)))

-- a live id is in range
pub inside : (live : List (Option Form)) (id : ℤ) (f : Form) → IsLive live id f → place (length live) id < length live
inside live id f h = grind (arith, none-some, get_or_past)

-- an id that names nothing ends the deletion
pub stops : (live : List (Option Form)) (ids : List ℤ) (i : ℕ) (id : ℤ) → id ≡ get_or ids i (pos 0) → i < length ids → ((f : Form) → IsLive live id f → ⊥) → Deleted live (drop i ids) (Err (NoSuchId id))
stops live ids i id e lt none = rw (drop-cons ids i (pos 0) lt, ← e) (inr (none, refl))

pub goes-on : (live : List (Option Form)) (ids : List ℤ) (i : ℕ) (id : ℤ) (f : Form) (r : Result (List (Option Form)) Fault) → id ≡ get_or ids i (pos 0) → i < length ids → IsLive live id f → Deleted (set live (place (length live) id) None) (drop (i + 1) ids) r → Deleted live (drop i ids) r
goes-on live ids i id f r e lt here rest =
    let next : drop i ids ≡ id ∷ drop (i + 1) ids = rw e (drop_more ids i (pos 0) lt) in rw next (inl (f, here, rest))
