use Rattle.pb_propagate.proofs.Common.{◌∙◌, ◌≡◌, ap, arith, get_or-set_same, length, length-append, set, stored_total}
use Rattle.pb_propagate.proofs.lemmas.Columns.{last_set}
use Rattle.std.proofs.lemmas.Grind.{common_steps}
use Rattle.pb_propagate.proofs.store.occurrence_lists.enter.Goals as goal

pub fill-requires-clause-slot : goal.fill-requires-clause-slot
fill-requires-clause-slot c = grind (arith, common_steps)

pub fill-requires-clause-empty : goal.fill-requires-clause-empty
fill-requires-clause-empty c = grind (arith, common_steps)

pub returns-in_err-fill-clause-unchanged : goal.returns-in_err-fill-clause-unchanged
returns-in_err-fill-clause-unchanged c = grind (arith, common_steps)

pub index-requires : goal.index-requires
index-requires c = grind (arith, common_steps)

pub returns-clause-entered : goal.returns-clause-entered
returns-clause-entered c =
    let keep = c.args.store.now.stored in let run = c.args.run.now in
    let w = c.in_ok-widen.ensures.kept in let f = c.in_ok-fill.ensures.filled in
    let slot : c.len-slot.result ≡ length keep.items = omega (arith, c.len-slot.ensures, keep.ok.0) in
    let total : c.total.result ≡ stored_total f.kept = grind (arith, c.total.ensures, c.index.ensures, f.keeps, w.2, slot, get_or-set_same, length-append) in
    record {
      kept = f.kept;
      is = f.is;
      form = f.form;
      keeps = last_set keep.items c.widen.new.store.stored.items c.fill.new.store.stored.items w.0 f.kept c.len-slot.result w.2 slot f.keeps;
      opened = last_set run.opens c.push_empty.new.self c.set.new.self 0 (stored_total f.kept) c.len-last.result c.in_ok-push_empty.ensures.ok c.len-last.ensures.is
          (c.set.ensures ∙ ap (set c.push_empty.new.self c.len-last.result) total);
      candidates = c.in_ok-push_empty-2.ensures.ok;
    }
