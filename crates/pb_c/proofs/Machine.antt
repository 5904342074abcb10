-- The words of the logic that proofs about machine values cite, passed on from one place. Declares nothing.
pub use base.{Fml.fsep, Fml.ftrue, Logic.emp, Logic.ent, Logic.guard, Logic.guard_i, Logic.never_e, Logic.snd∗, Logic.SProp, Logic.via}
pub use contract.{Monad.fact, Monad.fact_i, Monad.fact_use, Running.tables}
pub use denote.{Exit.yes, RattleType.owns, RattleType.RattleType, RattleType.Valss}
pub use denote.{Param.layout, RawPtr.block_ptr, RawPtr.lies_at, RawPtr.null_ptr, RawPtr.Ptr, RawPtr.ptr_val, RawPtr.Testable, RawPtr.tests_null, Steps.nothing}
pub use denote.{Signature.plain, Signature.types_at, Triple.Walked.Goes-dropped, Triple.Walked.stay_dropped, Triple.Walked.Stays, Triple.Walked.walk_of}
pub use mir.Val.{has_ty, of_list, Val, vcons, vnil, vptr, vstruct, WT}
pub use prog.Wp.{WpFn}
pub use types.ByLocal.{alloc_all, env, free_all, get, get_in, look_at, pass_all, sets, sets_last}
pub use types.Kit.{at_ret, !, by, drop, feq_i, feq_l, fjoin, fpack, fpick, fsplit, given, Goal, Item, keep, learn, move, qed, raw, rewrite, Seq, split, Step}
pub use types.{Kit.step, Kit.use0, Kit.use1, Kit.‵, Kit.◌$◌, Kit.◌∵◌, Kit.◌⊛◌, Match.live, Part.agg, Part.sub, Part.whole}
pub use types.Run.{and_then, bin, branches, enter, exec, first, fld, lit, no_more, of_opd, returns, stop}
