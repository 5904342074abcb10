use Rattle.pb_replay.proofs.Common.{ap, arith, length, option_map, to_z-of_z, Linear}
use Rattle.pb_replay.proofs.lemmas.meaning.Assigned.{objective-has, objective-inside, objective-small, objective-value}
use Rattle.pb_replay.proofs.state.solution.objective_value.Goals as goal

pub value_of-requires : goal.value_of-requires
value_of-requires c =
    let has = ap (option_map (λ (x : Linear). x.terms)) c.in-Some.is in
    rw c.as_slice.ensures (record {
      small = objective-small c.args.running.now c.in-Some.linear c.requires.proper c.in-Some.is;
      named = objective-has c.args.running.now c.in-Some.linear.terms c.requires.proper has;
      inside = objective-inside c.args.running.now c.in-Some.linear.terms (length c.args.values.now) c.requires.proper has c.requires.own;
    })

pub returns-in-Some : goal.returns-in-Some
returns-in-Some c = grind (arith, objective-small, c.requires.proper, c.in-Some.is, c.as_slice.ensures, c.value_of.ensures.small, to_z-of_z, c.value_of.ensures.sum, objective-value)
