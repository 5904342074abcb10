-- `of` makes the empty struct, with the forms that its clause names.
use Rattle.pb_replay.proofs.Common.{[], ◌∷◌, ◌++◌, List, refl}
use Rattle.pb_replay.specs.{contracts.state.listed.Listed.of.Key.name as #it, declared.state.listed.Listed.Listed}
use base.Logic.{SProp, ent}
use contract.{Monad.Fun, Running.tables, Running.tables_of}
use denote.{Builtin.RefOf, Exit.yes, RattleType.owns, Shadow.pure_i, Signature.plain, Signature.types_at, Steps.nothing}
use denote.Triple.{Clauses.Clauses, Clauses.closing, Entry.alive, Spec.Meets, Spec.triple_of, Table.entered}
use denote.Triple.Walked.{says, Stays, stay_dropped, walk_of, ends_at, walk_Meets, Goes-dropped}
use mir.Val.{Val, vptr, vstruct, vcons, vnil}
use prog.{Memory.Memory, Routine.Routine, Wp.Calls, Wp.Loops, Wp.WpFn, Wp.Tables}
use seplogic.Ra.Ura.{Ura}
use sound.WpLaws.{WpFn-mono}
use types.{Logic.Logic, Part.agg, Run.enter, Run.returns, Run.and_then, Run.no_more}
use types.ByLocal.{alloc_all, pass_all, free_all, look_at, get, sets}
use types.Kit.{‵, raw, ◌⊛◌, prop, ◌$◌, ◌∵◌, !, qed, move, keep, drop, split, fsplit, fjoin, feq_l, regoal, suffices, done}
use Rattle.pb_normal.specs.contracts.form.Normal as N
use Rattle.std.specs.contracts.alloc.Global as G
use Rattle.std.specs.contracts.impls.GlobalAllocator.TheImpl as I
use Rattle.std.specs.contracts.vec.Vec as V
use Rattle.pb_replay.specs.contracts.state.listed.Listed as T
use Rattle.pb_replay.specs.contracts.state.listed.Listed.of as F
use Rattle.pb_replay.proofs.state.listed.Listed.of.Statement as stated
use Rattle.pb_replay.proofs.state.listed.Listed.of.Code as code

abbrev stayed : Stays (F.ended).signature.params (F.ended).kept
stayed = (stay_dropped (RefOf (0 ∷ []) tt (plain (λ _. V.the_row N.the_row G.the_row I.ghosts)) (λ _. tt)) yes, tt)

abbrev empty : Val
empty = vstruct (vcons (vstruct vnil) vnil)

module _ {M : Type 1} {𝓤 : Ura M} (𝓛 : Logic 𝓤) (at_mem : Memory → SProp 𝓤) (run : Routine → Fun 𝓤) where
  open 𝓛 use {H}

  abbrev held : Clauses 𝓤 F.ended
  held = F.clauses 𝓛 at_mem run

  module _ (C : Calls 𝓤 H) (Λ : Loops 𝓤 H) (z : (walk_of 𝓛 F.ended stayed held).Ghost) where
    abbrev Post : Val → SProp 𝓤
    Post = (walk_of 𝓛 F.ended stayed held).post z

    abbrev toks : SProp 𝓤
    toks = alive 𝓛 F.ended.signature z.0.0 z.0.1

    walks : ent 𝓤 ((walk_of 𝓛 F.ended stayed held).pre z) (WpFn 𝓤 H C Λ code.function ((walk_of 𝓛 F.ended stayed held).args z) Post)
    walks =
        let a = z.0.3 in let vss = z.0.4 in let made : Listed = record { marker = record {}; forms = a.0.now.items } in
        qed 𝓛 ((raw toks ⊛ ‵ (owns (types_at F.ended.signature.params z.0.0) a vss)) ∷ raw ((held z.0.0 a).requires z.1) ∷ []) ∵
        keep ! (0 ∷ []) $ split ! $ move ! (1 ∷ []) $
        fsplit ! $ fsplit ! $ feq_l ! (λ is. drop ! $ drop ! $
        let p = vptr a.0.ref_ptr.0 a.0.ref_ptr.1 in
        regoal ! (λ (us : List Val). prop (WpFn 𝓤 H C Λ code.function (us ++ []) Post)) is refl $
        enter ! C Λ code.function (p ∷ []) Post $ alloc_all ! (λ l. pass_all ! refl ((tt, tt), tt) $
        sets ! (agg ! (no_more !)) refl (tt, tt) $
        sets ! (agg ! (and_then ! (get ! refl) (no_more !))) refl (tt, (tt, tt)) $
        returns ! (look_at ! 0 refl) $ free_all ! refl $
        pure_i ! ((T.the_row).own_val made (empty ∷ [])) ((λ vss. (tt, ((λ uss. (tt, tt)), tt))), tt) (((vstruct vnil ∷ [], tt), (refl, ((tt, (refl, tt)), tt))), tt) $
        suffices ! _ (ends_at 𝓛 F.ended stayed held z empty made (tt, tt) (tt, tt)) $ says ! refl $
        nothing ! $ nothing ! $ fjoin ! $ move ! (2 ∷ 0 ∷ 1 ∷ []) $ done !))

  meets : (𝓣 : Tables 𝓤 H) → Meets 𝓛 F.ended.signature (WpFn 𝓤 H 𝓣.C 𝓣.Λ code.function) (closing 𝓛 F.ended held)
  meets 𝓣 =
      walk_Meets 𝓛 F.ended stayed (Goes-dropped 𝓛 1 (RefOf (0 ∷ []) tt (plain (λ _. V.the_row N.the_row G.the_row I.ghosts)) (λ _. tt)) yes (λ κs x f. refl), tt) held
      (WpFn 𝓤 H 𝓣.C 𝓣.Λ code.function) (WpFn-mono 𝓤 H 𝓛.laws 𝓣 code.function) (walks 𝓣.C 𝓣.Λ)

pub of_spec : {M : Type 1} → stated.statement M
unfolding tables_of
of_spec 𝓤 𝓛 𝓜 𝓡 wired =
    let 𝓣 : Tables 𝓤 𝓛.H = tables_of 𝓤 𝓛.H 𝓜 (tables 𝓤 𝓛.H 𝓜 𝓡 𝓡.env) in
    entered 𝓤 𝓛.H (triple_of 𝓛 F.ended.signature (closing 𝓛 F.ended (held 𝓛 𝓜.mem 𝓡.returns))) 𝓣.C 𝓣.Λ #it code.function
    (code.unfolded 𝓤 𝓛.H 𝓜 𝓡 wired) (meets 𝓛 𝓜.mem 𝓡.returns 𝓣)
