use Rattle.pb_sums.proofs.Common.{◌++◌, ◌≡◌, append-nil, drop, take, part_broke, part_then, further_bytes}
use Rattle.pb_sums.proofs.lemmas.values.Written.{further_split}
use Rattle.pb_sums.proofs.write.write_batch.Goals as goal

pub returns-in_err-write_each : goal.returns-in_err-write_each
returns-in_err-write_each g c =
    part_broke g.S.Sink.contents g.S.Sink.faults _ _ _ _ _ _ (further_split c.args.terms.now c.put_further-left.result) c.from_residual.ensures.0 c.in_err-write_each.ensures

pub returns : goal.returns
returns g c =
    let xs = c.args.terms.now in let n = c.put_further-left.result in
    let e : further_bytes xs ≡ further_bytes (take n xs) ++ c.as_bytes.result.now = cc (further_split xs n, append-nil (further_bytes (drop n xs))) in
    part_then g.S.Sink.contents g.S.Sink.faults _ _ _ _ _ _ _ e c.in_ok-write_each.ensures c.write_bytes.ensures
