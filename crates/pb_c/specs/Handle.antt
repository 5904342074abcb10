-- What a handle owns: a box, or nothing.
use Rattle.std.specs.Box.Ownership.{box_owns}
use Rattle.std.specs.{Prelude.Option, Prelude.Some, Prelude.None, contracts.impls.GlobalAllocator.TheImpl.ghosts, declared.alloc.Global.Global}
use base.Fml.{Fml, ftrue, ffalse}
use denote.{RattleType.RattleType, RawPtr.Ptr, RawPtr.block_ptr, RawPtr.null_ptr}

module _ (R : RattleType) (a : Global) where
  -- at null nothing, and else the box with the value
  abbrev pub held_owns : Ptr → Option R.Denot → Fml
  held_owns null_ptr None = ftrue
  held_owns null_ptr (Some x) = ffalse
  held_owns (block_ptr b o) None = ffalse
  held_owns (block_ptr b o) (Some x) = box_owns (ghosts.dealloc_token a) R (block_ptr b o) x
