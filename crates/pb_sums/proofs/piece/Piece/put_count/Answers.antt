use Rattle.pb_sums.proofs.Common.{◌≤◌, ap, arith, decimal, length, length-append, length-drop}
use Rattle.std.proofs.lemmas.Fmt.{length-decimal-le}
use Rattle.pb_sums.proofs.piece.Piece.put_count.Goals as goal

pub write_digits-self-inside-requires : goal.write_digits-self-inside-requires
write_digits-self-inside-requires c =
    let few : length (decimal c.args.count) ≤ 20 = length-decimal-le 20 c.args.count (omega arith) (omega (arith, c.ranges.count.fits)) c.ranges.count.fits in
    (omega (arith, few, simp length-drop at (ap length c.self.view_is)), omega arith)

pub returns-clause-short : goal.returns-clause-short
returns-clause-short c =
    let few : length (decimal c.args.count) ≤ 20 = length-decimal-le 20 c.args.count (omega arith) (omega (arith, c.ranges.count.fits)) c.ranges.count.fits in
    rw c.write_digits-self-inside.ensures.written (rw c.self.view_is (rw length-append (omega (arith, few))))
