-- The names that the proofs of this crate cite, passed on from one place. Declares nothing.
pub use Rattle.std.proofs.Common.{◌≡◌, ℕ, List, [], ◌∷◌, ◌++◌, refl, subst, sym, ap, ◌∙◌}
pub use base.{Fml.ftrue, Fml.flft, Fml.fsep, Logic.never, Logic.fst∗, Logic.SProp, Logic.ent, Logic.id⊢, Logic.emp}
pub use contract.{Monad.fact, Monad.fact_i, Running.tables}
pub use denote.{Builtin.RawPtr, Exit.no, Signature.types_at, Signature.plain}
pub use denote.{Param.layout, Param.param, Param.bounded, Param.Laws.Laws, Param.Laws.param_laws, RattleType.RattleType, RattleType.Valss, RattleType.owns}
pub use denote.{RawPtr.Ptr, RawPtr.block_ptr, RawPtr.null_ptr, RawPtr.ptr_val, RawPtr.in_a_block, Steps.nothing, Steps.only, Steps.heard, Struct.Tuple.Tuple}
pub use denote.Triple.{Call.calls_at_last, Call.calls_at, Spec.triple_of, Walked.Stays, Walked.stay_dropped, Walked.walk_of}
pub use mir.{MapTy.inst_fn, Raw.raw as bare, Val.Val, Val.vptr, Val.vstruct, Val.vcons, Val.vnil, Val.of_list, Val.has_ty, Val.WT}
pub use mir.Syntax.{impl, tnil, dnil, a_type, dcons}
pub use prog.Wp.{WpFn}
pub use types.ByLocal.{alloc_all, pass_all, free_all, look_at, get, get_in, sets, lands_last, env, lands_as}
pub use types.Kit.{Item, Goal, Seq, Step, step, ‵, ◌$◌, move, drop, fsplit, fjoin, fpick, fpack, rewrite, feq_i, feq_l, raw, ◌⊛◌, some, later, at_ret, ◌∵◌, ! }
pub use types.{Kit.qed, Kit.by, Logic.sem, Run.stop, Run.fld, Run.of_opd, Run.no_more, Run.and_then, Run.first, Run.blocks, Run.exec, Run.returns, Run.enter}
pub use types.{Kit.keep, Kit.split, Kit.split3, Kit.join, Kit.pick, Kit.suffices, Kit.use1, Kit.await, Kit.use0, Logic.Logic, Part.sub, Part.whole, Part.agg}
pub use Rattle.core.proofs.{alloc.Calls.Al, alloc.Calls.handle_tells, alloc.Calls.Goes-blank, atomic.Steps.fm, cell.Inside.Good}
pub use Rattle.std.proofs.raw_atomic.Walks.{proved_at, leaves}
pub use Rattle.std_alloc.{proofs.BoxSteps.Steps.box_out, proofs.BoxSteps.Steps.box_in, specs.Box.Ownership.box_owns}
