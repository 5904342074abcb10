use Rattle.pb_c.proofs.{Claims.whole, Common.Err, Common.Ok, Common.refl}
use Rattle.pb_c.proofs.answer.checked.Goals as goal

pub returns-in-Ok : goal.returns-in-Ok
returns-in-Ok c = record {
  call = record { instance = _; proof = _; out = c.new-page.result; result = Ok c.in-Ok.field-0; instance_after = _; proof_after = _; out_after = c.check_with_hasher.new.out };
  texts = (
    whole c.new-instance.result c.args.instance c.new-instance.ensures.inner c.new-instance.ensures.shown,
    whole c.new-proof.result c.args.proof c.new-proof.ensures.inner c.new-proof.ensures.shown,
  );
  begins_empty = c.new-page.ensures;
  checks = c.in-Ok.ensures.checks;
  ends = (c.into_text.ensures, refl);
}

pub returns-in-Err : goal.returns-in-Err
returns-in-Err c = record {
  call = record { instance = _; proof = _; out = c.new-page.result; result = Err c.in-Err.fault; instance_after = _; proof_after = _; out_after = c.check_with_hasher.new.out };
  texts = (
    whole c.new-instance.result c.args.instance c.new-instance.ensures.inner c.new-instance.ensures.shown,
    whole c.new-proof.result c.args.proof c.new-proof.ensures.inner c.new-proof.ensures.shown,
  );
  begins_empty = c.new-page.ensures;
  checks = c.in-Err.ensures.checks;
  ends = rw c.new.ensures at c.fault_answer.ensures;
}
