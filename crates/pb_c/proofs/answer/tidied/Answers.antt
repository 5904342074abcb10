use Rattle.pb_c.proofs.{Claims.of_tidy, Claims.whole, Common.Err, Common.Ok, Common.refl}
use Rattle.pb_c.proofs.answer.tidied.Goals as goal

pub returns-in-Ok : goal.returns-in-Ok
returns-in-Ok c = record {
  answer = Ok tt;
  left = _;
  page = c.tidy_with_hasher.new.out;
  tidies = of_tidy c.args.asked.limits _ c.args.normal c.args.text.now _ c.new-page.result c.tidy_with_hasher.new.out (Ok tt) _ (whole c.new-input.result c.args.text c.new-input.ensures.inner c.new-input.ensures.shown) c.new-page.ensures c.in-Ok.ensures.tidies;
  ends = (c.into_text.ensures, refl);
}

pub returns-in-Err : goal.returns-in-Err
returns-in-Err c = record {
  answer = Err c.in-Err.fault;
  left = _;
  page = c.tidy_with_hasher.new.out;
  tidies = of_tidy c.args.asked.limits _ c.args.normal c.args.text.now _ c.new-page.result c.tidy_with_hasher.new.out (Err c.in-Err.fault) _ (whole c.new-input.result c.args.text c.new-input.ensures.inner c.new-input.ensures.shown) c.new-page.ensures c.in-Err.ensures.tidies;
  ends = rw c.new.ensures at c.fault_answer.ensures;
}
