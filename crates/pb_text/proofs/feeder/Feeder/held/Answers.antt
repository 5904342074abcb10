use Rattle.pb_text.proofs.Common.{arith, length, bytes}
use Rattle.pb_text.proofs.lemmas.{feeder.Reported.stands_open, feeder.Reported.kept_within, text.Short.begun_bytes}
use Rattle.pb_text.proofs.feeder.Feeder.held.Goals as goal

pub returns-clause-few : goal.returns-clause-few
returns-clause-few g c longest start input spans s =
    let f = c.args.self.now in
    let t = s.1 in (
      bytes t.letters,
      begun_bytes (length t.letters) f.first,
      (t.left, t.input_is),
      t.place_is,
      stands_open t,
      omega (arith, c.held.ensures, kept_within t),
    )
