use Rattle.pb_opb.proofs.{Common.refl, lemmas.machine.Asked.asks_only, lemmas.machine.Asked.reads_exactly, lemmas.machine.Bodies.reads_instances}
use Rattle.pb_opb.proofs.machine.OpbMachine.new.Goals as goal

pub returns : goal.returns
returns c = rw (c.new.ensures, c.new-2.ensures.begins) record {
  accepts = reads_instances _ _;
  reads = reads_exactly _ _;
  asks = asks_only _ _;
  begins = refl;
  between = refl;
}
