use Rattle.pb_propagate.proofs.Common.{rules, ◌-◌, ◌∙◌, ap, arith, length, subst, sym, Extends, Assignment, ◌≡◌, ◌+◌}
use Rattle.pb_propagate.proofs.engine.root.Root.retract.Goals.{After-cut-2}
use Rattle.pb_propagate.proofs.lemmas.clauses.Heads.{take-whole, walks-cut, listed-small}
use Rattle.pb_propagate.proofs.lemmas.root.Retracted.{IsCut, cut-lacks, refreshed-stays, refreshed-then, retracted-rooted}
use Rattle.pb_propagate.proofs.engine.root.Root.retract.Goals as goal

-- the last literal is taken off
cut : (c : After-cut-2) → IsCut c.args.self.now.run.assignment c.cut.new.self (c.len-count.result - 1) c.index-literal.result.now
cut c =
    let size : length c.args.self.now.run.assignment.list.items ≡ c.len-count.result - 1 + 1
    = omega (arith, c.len-count.ensures, c.args.self.now.run.assignment.list.ok.0, c.requires.some) in
    search (rules, size, c.cut.ensures.list, c.cut.ensures.values, c.cut.ensures.reasons, c.index-literal.ensures)

pub lift_all-requires : goal.lift_all-requires
lift_all-requires c =
    let me = c.args.self.now in let r = c.requires.rooted.3 in
    let k = cut (goal.at.lift_all-requires c).After-cut-2 in
    let lacks = cut-lacks c.args.store.now c.requires.rooted.0 me c.cut.new.self c.cut-2.new.self (c.len-count.result - 1) c.index-literal.result.now c.requires.sound r k in
    grind (arith, c.requires.sound, c.len-count.ensures, c.requires.some, listed-small, c.index-literal.ensures, c.negation.ensures, c.cut.ensures.values, r, lacks)

pub returns-clause-shortened : goal.returns-clause-shortened
returns-clause-shortened c =
    let store = c.args.store.now in let me = c.args.self.now in let list = me.run.assignment.list.items in
    let last = c.len-count.result - 1 in
    let k = cut (goal.at.returns-clause-shortened c).After-cut-2 in
    let f = refreshed-then store _ _ _ c.lift_all.ensures.each c.refresh_all.ensures.each in
    record {
      sized = f.sized;
      first = subst (λ xs. Extends xs list) (sym (ap (λ (a : Assignment). a.list.items) f.assignment ∙ c.cut.ensures.list)) (take-whole last list);
      reasons = ap (λ (a : Assignment). a.reasons) f.assignment ∙ c.cut.ensures.reasons;
      rooted = λ clauses slots r.
          let walks = walks-cut clauses list last me.walked c.cut-2.new.self (omega (arith, k.size)) r.walks c.cut-2.ensures.heads c.cut-2.ensures.marks in
          retracted-rooted store clauses me _ c.cut.new.self c.cut-2.new.self last c.index-literal.result.now c.requires.sound slots r f k c.refresh_all.ensures.all
          (λ j e at. refreshed-stays store _ _ e.form c.refresh_all.ensures.each (c.lift_all.ensures.all j e (rw c.negation.ensures at))) walks
          (λ s d less. grind (arith, c.refresh_all.ensures.opens, c.lift_all.ensures.lacks s d less, c.refresh_all.ensures.each.assignment));
    }
