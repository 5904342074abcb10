-- The walks through `empty`, `of_loose` and `into_loose` of any handle.
use Rattle.pb_c.proofs.Common.{ℕ, ◌++◌, ◌∙◌, ◌∷◌, ◌≡◌, [], ap, List, map, lit<, None, Option, refl, Some, after, Good, none_of, one, Some-of, leaves, proved_at}
use Rattle.pb_c.proofs.Common.{ghosts, and_tt, box_owns, both, Loose, loose_good, loose_in, loose_out}
use Rattle.pb_c.proofs.HandleSteps.{Handle, type_of, Z, LZ, held_good, held_in, held_out, either_held, testable}
use Rattle.pb_c.proofs.Machine.{agg, !, alloc_all, and_then, at_ret, bin, block_ptr, branches, by, emp, enter, env, exec, fact, fact_i, first, fjoin, fld, yes}
use Rattle.pb_c.proofs.Machine.{free_all, fsplit, ftrue, get, get_in, given, Goes-dropped, keep, layout, learn, lit, live, look_at, move, no_more, nothing, ◌$◌}
use Rattle.pb_c.proofs.Machine.{null_ptr, of_opd, owns, pass_all, plain, Ptr, ptr_val, qed, RattleType, raw, returns, rewrite, sets, sets_last, split, WpFn, ‵}
use Rattle.pb_c.proofs.Machine.{stay_dropped, Stays, stop, sub, tables, Testable, tests_null, types_at, use0, use1, Val, vcons, vnil, vptr, walk_of, whole, ◌∵◌}
use Rattle.{pb_c.proofs.Machine.◌⊛◌, std.specs.Option.MatchOption}
use contract.Running.{MachineTables, Running}
use denote.{Exit.Last, Exit.left, Triple.Clauses.Clauses, Triple.Clauses.Ended, Triple.Clauses.closing, Triple.Spec.Meets, Triple.Statement.Contract}
use denote.{Laws.Are, Laws.Ises, Signature.Signature, Struct.Owning.Owning, Struct.Owning.row}
use mir.Syntax.{Body, Callee, Fn, Opd, Ty, aggregate, assign, cond, copy, field, int, local, op2, place, ptr_eq, return, rv_opd, seq, ty_bool, ty_ptr}
use mir.Syntax.{value_local, w8, w64}
use prog.{Model.Model, Wp.Closed}
use seplogic.Ra.Ura.{Ura}
use types.{Kit.Goal, Kit.Sq, Kit.drop, Kit.prop, Kit.regoal, Logic.Logic}
use Rattle.core.specs.contracts.option.Option as option
use Rattle.pb_pieces.specs.contracts.instance.Flat as flat
use Rattle.pb_pieces.specs.contracts.reader.Reader as texts
use Rattle.pb_pieces.specs.contracts.session.Session as session
use Rattle.pb_c.specs.contracts.handle.CheckerHandle as checkers
use Rattle.pb_c.specs.contracts.instance_handle.InstanceHandle as instances
use Rattle.pb_c.specs.contracts.reader_handle.ReaderHandle as readers

abbrev handle : (T : Owning) (R : RattleType) (parts : T.D → Ptr × (Z.Denot × Option R.Denot)) (make : Ptr → Z.Denot → Option R.Denot → T.D)
    → ((p : Ptr) (a : Z.Denot) (x : Option R.Denot) → parts (make p a x) ≡ (p, (a, x))) → Handle
handle T R parts make made = record { struct = T; R = R; parts = parts; make = make; made = made }

-- the handles of the library
abbrev pub checker : Handle
checker = handle checkers.the_type session.the_row (λ d. (d.at, (d.alloc, d.value))) (λ p a x. record { at = p; alloc = a; value = x }) (λ p a x. refl)

abbrev pub instance : Handle
instance = handle instances.the_type flat.the_row (λ d. (d.at, (d.alloc, d.value))) (λ p a x. record { at = p; alloc = a; value = x }) (λ p a x. refl)

abbrev pub reader : Handle
reader = handle readers.the_type texts.the_row (λ d. (d.at, (d.alloc, d.value))) (λ p a x. record { at = p; alloc = a; value = x }) (λ p a x. refl)

-- the code of a function of one argument, whose first locals are the result and the argument
abbrev code_of : List Ty → Body → Fn
code_of ts body = record { lifetimes = 0; outlives = []; ty_params = []; givens = 0; params = 1; locals = map (λ t. local t value_local) ts; body = body }

abbrev read : ℕ → Opd
read i = copy (place i [])

abbrev part : ℕ → ℕ → Body
part i k = assign (place i []) (rv_opd (copy (place 1 (field k ∷ []))))

abbrev moves : ℕ → ℕ → Body
moves i j = assign (place i []) (rv_opd (read j))

abbrev makes : ℕ → List Opd → Body
makes i parts = assign (place i []) (aggregate parts)

-- such a function: the rows of its argument and its result, what it promises of them, its other locals, and its body
record Function : Type 2 where
  pub P : RattleType
  pub Q : RattleType
  pub Says : P.Denot → Q.Denot → Type 0
  pub types : List Ty
  pub body : Body

module _ {M : Type 1} (𝓤 : Ura M) (𝓛 : Logic 𝓤) (𝓜 : Model 𝓤 𝓛.H) (𝓡 : Running 𝓤 𝓛.H 𝓜) where
  abbrev 𝓣 : MachineTables 𝓤 𝓛.H 𝓜
  𝓣 = tables 𝓤 𝓛.H 𝓜 𝓡 𝓡.env

  module _ (F : Function) where
    abbrev S : Signature
    S = record { lifetimes = 0; outlives = []; params = plain (λ κs. F.P) ∷ []; result = plain (λ κs. F.Q) }

    abbrev takes : Ended
    takes = record { signature = S; kept = (yes, tt) }

    abbrev promises : Clauses 𝓤 takes
    promises = λ κs args. record { ghost = Unit {0}; requires = λ g. emp 𝓤; ensures = λ g r e. fact 𝓤 (F.Says args.0 r) }

    abbrev stays : Stays S.params takes.kept
    stays = (stay_dropped (plain (λ κs. F.P)) yes, tt)

    abbrev W : Contract 𝓤
    W = walk_of 𝓛 takes stays promises

    abbrev fn : Fn
    fn = code_of (layout F.Q ∷ layout F.P ∷ F.types) F.body

    -- the code meets the contract
    abbrev Met : Callee → Type 2
    Met k = Closed 𝓤 𝓛.H 𝓣.C 𝓣.Λ k fn → Meets 𝓛 S (𝓣.C k) (closing 𝓛 takes promises)

    abbrev Runs : W.Ghost → List Val → Goal 𝓤 𝓛.H
    Runs z ws = prop (WpFn 𝓤 𝓛.H 𝓣.C 𝓣.Λ fn ws (W.post z))

    walked : ((x : F.P.Denot) (f : Last (F.P.exit yes) x) → left (F.P.exit yes) x f ≡ ftrue)
        → ((z : W.Ghost) → Are (types_at S.params z.0.0) (Ises (types_at S.params z.0.0)) z.0.3 z.0.4
        → Sq 𝓛 (‵ (F.P.own_val z.0.3.0 z.0.4.0) ∷ ‵ ftrue ∷ ‵ ftrue ∷ raw (emp 𝓤) ∷ []) (Runs z (z.0.4.0 ++ []))) → (k : Callee) → Met k
    walked silent walk k closed =
        proved_at 𝓛 takes stays promises 𝓜 𝓡 (Goes-dropped 𝓛 0 (plain (λ κs. F.P)) yes (λ κs x f. silent x f), tt) k fn closed (λ z are.
        qed 𝓛 ((‵ ftrue ⊛ ‵ (owns (types_at S.params z.0.0) z.0.3 z.0.4)) ∷ raw (emp 𝓤) ∷ []) ∵ split ! $ move ! (1 ∷ []) $ fsplit ! $ walk z are)

    -- the result, and what is promised of it
    ends : (z : W.Ghost) (f : Last (F.P.exit yes) z.0.3.0) (w : Val) (d : F.Q.Denot) → F.Says z.0.3.0 d
        → Sq 𝓛 (‵ (F.Q.own_val d (w ∷ [])) ∷ ‵ ftrue ∷ ‵ ftrue ∷ raw (emp 𝓤) ∷ []) (prop (W.post z w))
    ends z f w d says =
        use0 𝓛 (raw (fact 𝓤 (F.Says z.0.3.0 d))) (fact_i 𝓤 (F.Says z.0.3.0 d) (emp 𝓤) says) $ nothing ! $ nothing ! $ fjoin ! $
        keep ! (4 ∷ 0 ∷ 2 ∷ 1 ∷ []) $ by ! (leaves 𝓛 takes stays promises z w d (f, tt) (tt, tt))

  module _ (N : Handle) where
    abbrev R : RattleType
    R = N.R

    abbrev Held : RattleType
    Held = row (type_of N)

    abbrev Lr : RattleType
    Lr = Loose R Z LZ ghosts

    abbrev value : N.struct.D → Option R.Denot
    value d = (N.parts d).1.1

    -- null, which owns nothing
    abbrev emptying : Function
    emptying = record { P = Z; Q = Held; Says = λ a d. value d ≡ None; types = []; body = seq (makes 0 (int w64 0 ∷ read 1 ∷ [])) return }

    pub empty_walk : (k : Callee) → Met emptying k
    empty_walk = walked emptying (λ x f. refl) (λ z are.
        let a = z.0.3.0 in let h = one (layout Z) z.0.4.0 ((LZ.lawful 𝓛).typed a z.0.4.0 are.0) in
        rewrite ! 0 (λ (us : List Val). ‵ (Z.own_val a us)) h.1 refl $ regoal ! (Runs emptying z) (λ i. h.1 i ++ []) refl $
        enter ! _ _ _ _ _ $ alloc_all ! (λ l. pass_all ! refl (h.2, tt) $
        sets ! (agg ! (and_then ! (lit ! tt) (and_then ! (get ! refl) (no_more !)))) refl (held_good null_ptr h.0 h.2) $
        nothing ! $ held_in N ! null_ptr h.0 a None $ returns ! (look_at ! 0 refl) $ free_all ! refl $
        ends emptying z tt (both (ptr_val null_ptr) h.0) (N.make null_ptr a None) (λ i. (N.made null_ptr a None i).1.1)))

    -- the pointer and what it owns
    abbrev taking : Function
    taking = record {
      P = Lr;
      Q = Held;
      Says = λ v d. value d ≡ Some v.value;
      types = ty_ptr ∷ layout Z ∷ ty_ptr ∷ [];
      body = seq (part 2 0) (seq (part 3 1) (seq (moves 4 2) (seq (makes 0 (read 4 ∷ read 3 ∷ [])) return)));
    }

    pub of_loose_walk : (k : Callee) → Met taking k
    of_loose_walk = walked taking (λ x f. refl) (λ z are. let v = z.0.3.0 in let a = v.alloc in
        loose_out R Z LZ ghosts ! v z.0.4.0 (λ b o h e ws fits.
        let w : Val = both (vptr b o) h in let typed = loose_good R Z LZ ghosts b o h fits in
        regoal ! (Runs taking z) (λ i. ws i ++ []) refl $ enter ! _ _ _ _ _ $ alloc_all ! (λ l. pass_all ! refl (typed, tt) $
        sets ! (of_opd ! (get_in ! (fld ! refl (stop !)) (sub ! 0 refl (whole !)))) refl (tt, tt) $
        sets ! (of_opd ! (get_in ! (fld ! refl (stop !)) (sub ! 1 refl (whole !)))) refl fits $ sets ! (of_opd ! (get ! refl)) refl (tt, tt) $
        sets ! (agg ! (and_then ! (get ! refl) (and_then ! (get ! refl) (no_more !)))) refl (held_good (block_ptr b o) h fits) $
        held_in N ! (block_ptr b o) h a (Some v.value) $ returns ! (look_at ! 0 refl) $ free_all ! refl $
        ends taking z tt w (N.make (block_ptr b o) a (Some v.value)) (λ i. (N.made (block_ptr b o) a (Some v.value) i).1.1))))

    -- a test of the pointer, and what the handle owns
    abbrev Out : RattleType
    Out = option.the_row Lr

    abbrev releasing : Function
    releasing = record {
      P = Held;
      Q = Out;
      Says = λ d r. MatchOption r (value d ≡ None) (λ v. value d ≡ Some v.value);
      types = ty_ptr ∷ layout Z ∷ ty_bool ∷ layout Out ∷ ty_ptr ∷ layout Lr ∷ [];
      body = seq (part 2 0) (seq (part 3 1) (seq (assign (place 4 []) (op2 ptr_eq (read 2) (int w64 0))) (seq (cond (read 4) (makes 5 (int w8 0 ∷ []))
          (seq (moves 6 2) (seq (makes 7 (read 6 ∷ read 3 ∷ [])) (makes 5 (int w8 1 ∷ read 7 ∷ []))))) (seq (moves 0 5) return))));
    }

    pub into_loose_walk : (k : Callee) → Met releasing k
    into_loose_walk = walked releasing (λ x f. refl) (λ z are. let q = N.parts z.0.3.0 in let a = q.1.0 in
        let E = λ (l : ℕ → ℕ). env (fn releasing).locals l in let rest = after 4 releasing.body in
        held_out N ! z.0.3.0 z.0.4.0 (λ h e fits. either_held R a ! q.0 q.1.1
        (λ null none. let ws : z.0.4.0 ≡ both (ptr_val null_ptr) h ∷ [] = e ∙ ap (λ (p : Ptr). both (ptr_val p) h ∷ []) null in
        drop ! $ regoal ! (Runs releasing z) (λ i. ws i ++ []) refl $ enter ! _ _ _ _ _ $ alloc_all ! (λ l. pass_all ! refl (held_good null_ptr h fits, tt) $
        sets ! (of_opd ! (get_in ! (fld ! refl (stop !)) (sub ! 0 refl (whole !)))) refl (tt, record { fits = lit< tt }) $
        sets ! (of_opd ! (get_in ! (fld ! refl (stop !)) (sub ! 1 refl (whole !)))) refl fits $
        sets ! (bin ! (get ! refl) (lit ! tt) tt) refl (tt, tt) $ first ! $ branches ! (get ! refl)
        (λ _. sets_last ! (agg ! (and_then ! (lit ! tt) (no_more !))) refl (tt, (record { fits = lit< tt }, tt)) $
        exec ! 𝓣.C 𝓣.Λ (E l) rest (at_ret (E l) ((W releasing).post z)) $
        sets ! (of_opd ! (get ! refl)) refl (tt, (record { fits = lit< tt }, tt)) $ use0 𝓛 (‵ (Out.own_val None (live 0 vnil ∷ []))) (none_of 𝓛 Lr) $
        returns ! (look_at ! 0 refl) $ free_all ! refl $ ends releasing z tt (live 0 vnil) None none) (λ wrong. absurd wrong)))
        (λ b o x is some. let w : Val = both (vptr b o) h in let ws : z.0.4.0 ≡ w ∷ [] = e ∙ ap (λ (p : Ptr). both (ptr_val p) h ∷ []) is in
        let typed = loose_good R Z LZ ghosts b o h fits in let v : Val = live 1 (vcons w vnil) in
        let d : Lr.Denot = record { at = block_ptr b o; alloc = a; value = x } in
        let good : Good (layout Out) v = (and_tt _ typed.0, (record { fits = lit< tt }, (typed.1, tt))) in
        use1 𝓛 (given (Testable (block_ptr b o)) (‵ (box_owns (ghosts.dealloc_token a) R (block_ptr b o) x))) (testable 𝓛 R a (block_ptr b o) x) $ learn ! (λ t.
        regoal ! (Runs releasing z) (λ i. ws i ++ []) refl $ enter ! _ _ _ _ _ $ alloc_all ! (λ l. pass_all ! refl (held_good (block_ptr b o) h fits, tt) $
        sets ! (of_opd ! (get_in ! (fld ! refl (stop !)) (sub ! 0 refl (whole !)))) refl (tt, tt) $
        sets ! (of_opd ! (get_in ! (fld ! refl (stop !)) (sub ! 1 refl (whole !)))) refl fits $
        sets ! (bin ! (get ! refl) (lit ! tt) (tests_null (block_ptr b o) t)) refl (tt, tt) $ first ! $ branches ! (get ! refl) (λ wrong. absurd wrong) (λ _.
        sets ! (of_opd ! (get ! refl)) refl (tt, tt) $ sets ! (agg ! (and_then ! (get ! refl) (and_then ! (get ! refl) (no_more !)))) refl typed $
        sets_last ! (agg ! (and_then ! (lit ! tt) (and_then ! (get ! refl) (no_more !)))) refl good $
        exec ! 𝓣.C 𝓣.Λ (E l) rest (at_ret (E l) ((W releasing).post z)) $ sets ! (of_opd ! (get ! refl)) refl good $ loose_in R Z LZ ghosts ! b o h a x $
        use1 𝓛 (‵ (Out.own_val (Some d) (v ∷ []))) (Some-of 𝓛 Lr d w) $
        returns ! (look_at ! 0 refl) $ free_all ! refl $ ends releasing z tt v (Some d) some))))))
