use Rattle.std.proofs.Common.{◌+◌, ◌-◌, ◌≡◌, ◌++◌, arith, length, take, refl}
use Rattle.pb_propagate.proofs.lemmas.Parts.{moved_part}
use Rattle.std.specs.Prelude.{replicate}
use Rattle.pb_propagate.proofs.lists.moved.Goals as goal

pub returns-clause-part : goal.returns-clause-part
returns-clause-part g c =
    let start : c.len-start.result ≡ length c.args.items.now.items = omega (arith, c.len-start.ensures, c.args.items.now.ok.0) in
    let n = c.len-start.result + c.larger-room.result in
    let grown : c.resize.new.self.items ≡ take n c.copy_part.new.items.items ++ replicate (n - length c.copy_part.new.items.items) c.args.item = rw c.copy_part.new.items.ok.0 at c.in_ok-resize.ensures.items in
    let m = moved_part c.args.items.now.items c.copy_part.new.items.items c.resize.new.self.items c.args.part _ c.args.item n c.requires.part c.in_ok-copy_part.ensures.ok grown (omega (arith, start)) refl (omega (arith, c.larger-room.ensures, c.requires.part.room)) start in
    (start, m.0, c.larger-room.ensures, m.1)
