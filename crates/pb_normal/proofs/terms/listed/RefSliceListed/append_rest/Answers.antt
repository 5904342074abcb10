use Rattle.pb_normal.proofs.Common.{take_rest, arith, drop-map}
use Rattle.pb_normal.proofs.terms.listed.RefSliceListed.append_rest.Goals as goal

pub returns : goal.returns
returns g c = grind (arith, take_rest, c.append_decoded.ensures, drop-map, g.T.Coded.term)
