-- The machine values of any handle.
use Rattle.pb_c.proofs.Common.{ℕ, ◌++◌, ◌∷◌, ◌≡◌, [], List, None, Option, refl, Some, subst, sym, Al, handle_tells, Good, dealloc_token-Testable, ghosts}
use Rattle.pb_c.proofs.Common.{and_tt, box_owns, both, held_owns}
use Rattle.pb_c.proofs.Machine.{block_ptr, drop, ent, fact_use, feq_i, feq_l, fjoin, fpack, fpick, fsep, fsplit, ftrue, given, Goal, guard, guard_i, has_ty}
use Rattle.pb_c.proofs.Machine.{Item, layout, learn, lies_at, move, never_e, nothing, null_ptr, of_list, Ptr, ptr_val, RattleType, rewrite, Seq, snd∗, SProp}
use Rattle.pb_c.proofs.Machine.{Step, step, Testable, use1, Val, Valss, via, vstruct, WT, ‵, ◌$◌}
use base.Fraction.{full_share}
use denote.{Builtin.RawPtr, Exit.hidden, Exit.under, Memory.lone, Param.Laws.Laws}
use denote.Struct.{Field.RawPtr-field, Owning.Owning, Owning.row, Owning.shape, Struct.Struct, Struct.exits_of, Struct.within}
use lib.Dec.{T, lit<}
use mathlib.Core.Bool.{◌&&◌, true}
use mir.{Raw.raw as bare, Syntax.impl, Syntax.tnil, Syntax.dnil}
use seplogic.Ra.Ura.{Ura}
use types.Logic.{Logic, sem}
use Rattle.std.specs.contracts.alloc.Global as heap
use Rattle.std.proofs.alloc.Global.TheLaws as heap_laws

abbrev pub Z : RattleType
Z = heap.the_row

abbrev pub LZ : Laws Z
LZ = heap_laws.the_row_laws

abbrev al : Al
al = record { row = Z; laws = LZ; g = ghosts; d = impl [] tnil dnil; drops = impl [] tnil dnil }

pub held_good : (p : Ptr) (h : Val) → Good (layout Z) h → T (has_ty (layout Z) h && true) × WT (both (ptr_val p) h)
held_good null_ptr h fits = (and_tt (has_ty (layout Z) h) fits.0, (record { fits = lit< tt }, (fits.1, tt)))
held_good (block_ptr b o) h fits = (and_tt (has_ty (layout Z) h) fits.0, (tt, (fits.1, tt)))

-- A struct with a pointer, the allocator and a value of the row R, or nothing
pub record Handle : Type 2 where
  pub struct : Owning
  pub R : RattleType
  pub parts : struct.D → Ptr × (Z.Denot × Option R.Denot)
  pub make : Ptr → Z.Denot → Option R.Denot → struct.D
  pub made : (p : Ptr) (a : Z.Denot) (x : Option R.Denot) → parts (make p a x) ≡ (p, (a, x))

-- what it owns
abbrev pub type_of : Handle → Owning
type_of N =
    let T = N.struct in
    record {
      name = T.name;
      args = [];
      types = [];
      parts = RawPtr-field ∷ heap.the_field ∷ [];
      D = T.D;
      as_values = λ d. let q = N.parts d in (q.0, (q.1.0, tt));
      coded = T.coded;
      heap = λ d. let q = N.parts d in held_owns N.R q.1.0 q.0 q.1.1;
      exit = λ k. hidden (under (λ d. let q = N.parts d in (q.0, (heap.the_field.into q.1.0, tt))) (exits_of k (RawPtr ∷ heap.the_field.row ∷ [])));
      shr_at = T.shr_at;
    }

module _ {M : Type 1} {𝓤 : Ura M} {𝓛 : Logic 𝓤} {K : Type 0} {Γ : List (Item 𝓤)} {G : Goal 𝓤 𝓛.H} (N : Handle) where
  pub held_out : K → (d : N.struct.D) (vs : List Val) → let q = N.parts d in
      ((h : Val) → vs ≡ both (ptr_val q.0) h ∷ [] → Good (layout Z) h → Seq K 𝓛 (‵ (held_owns N.R q.1.0 q.0 q.1.1) ∷ ‵ (Z.own_val q.1.0 (h ∷ [])) ∷ Γ) G)
      → Seq K 𝓛 (‵ ((row (type_of N)).own_val d vs) ∷ Γ) G
  held_out t d vs k = let q = N.parts d in
      fsplit t $ fpick t (λ vss. fsplit t $ feq_l t (λ ev. fsplit t $ feq_l t (λ ep. fsplit t $ handle_tells al t q.1.0 vss.1.0 (λ h ea fits. move t (1 ∷ []) $ drop t $ move t (1 ∷ []) $
      k h
      (subst (λ (ws : List Val). vs ≡ vstruct (of_list (ptr_val q.0 ∷ (ws ++ []))) ∷ []) ea (subst (λ (ps : List Val). vs ≡ vstruct (of_list (ps ++ (vss.1.0 ++ []))) ∷ []) ep ev)) fits))))

  pub held_in : K → (p : Ptr) (h : Val) (a : Z.Denot) (x : Option N.R.Denot)
      → Step K 𝓛 (‵ ((row (type_of N)).own_val (N.make p a x) (both (ptr_val p) h ∷ [])) ∷ Γ) G (‵ (held_owns N.R a p x) ∷ ‵ (Z.own_val a (h ∷ [])) ∷ Γ) G
  held_in t p h a x = step (λ s. let v : Val = both (ptr_val p) h in
      nothing t $ move t (2 ∷ 0 ∷ []) $ fjoin t $ feq_i t (List Val) (ptr_val p ∷ []) (ptr_val p ∷ []) refl $ fjoin t $ feq_i t (List Val) (v ∷ []) (v ∷ []) refl $ fjoin t $
      fpack t (Valss (RawPtr ∷ heap.the_field.row ∷ [])) (within (shape (type_of N)) (p, (heap.the_field.into a, tt)) (v ∷ [])) (ptr_val p ∷ [], (h ∷ [], tt)) $ fjoin t $
      rewrite t 0 (λ (q : Ptr × (Z.Denot × Option N.R.Denot)).
      ‵ (fsep ((Struct (shape (type_of N))).own_val (q.0, (heap.the_field.into q.1.0, tt)) (v ∷ [])) (held_owns N.R q.1.0 q.0 q.1.1))) (sym (N.made p a x)) refl $ s)

module _ {M : Type 1} {𝓤 : Ura M} {𝓛 : Logic 𝓤} {K : Type 0} {Γ : List (Item 𝓤)} {G : Goal 𝓤 𝓛.H} (R : RattleType) (a : Z.Denot) where
  -- A handle is null and has no value, or it has one, and may be compared with null
  pub either_held : K → (p : Ptr) (x : Option R.Denot)
      → (p ≡ null_ptr → x ≡ None → Seq K 𝓛 Γ G)
      → ((b o : ℕ) (y : R.Denot) → p ≡ block_ptr b o → x ≡ Some y → Seq K 𝓛 (‵ (box_owns (ghosts.dealloc_token a) R (block_ptr b o) y) ∷ Γ) G)
      → Seq K 𝓛 (‵ (held_owns R a p x) ∷ Γ) G
  either_held t null_ptr None none one = drop t $ none refl refl
  either_held t null_ptr (Some y) none one = use1 𝓛 (given ⊥ (‵ ftrue)) (never_e 𝓤 _) $ learn t (λ z. absurd z)
  either_held t (block_ptr b o) None none one = use1 𝓛 (given ⊥ (‵ ftrue)) (never_e 𝓤 _) $ learn t (λ z. absurd z)
  either_held t (block_ptr b o) (Some y) none one = one b o y refl refl

module _ {M : Type 1} {𝓤 : Ura M} (𝓛 : Logic 𝓤) (R : RattleType) (a : Z.Denot) where
  pub testable : (p : Ptr) (x : R.Denot) → ent 𝓤 (sem 𝓛 (box_owns (ghosts.dealloc_token a) R p x)) (guard 𝓤 (Testable p) (sem 𝓛 (box_owns (ghosts.dealloc_token a) R p x)))
  testable p x = let B : SProp 𝓤 = sem 𝓛 (box_owns (ghosts.dealloc_token a) R p x) in
      fact_use 𝓤 (Testable p) (via 𝓤 _ (snd∗ 𝓤 (sem 𝓛 (lies_at R full_share p x)) (sem 𝓛 (ghosts.dealloc_token a (bare (lone R.mir)) p))) (dealloc_token-Testable 𝓛 a (bare (lone R.mir)) p)) (guard_i 𝓤 (Testable p) B)
