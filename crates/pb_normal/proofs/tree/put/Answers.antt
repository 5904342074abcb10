use Rattle.pb_normal.proofs.Common.{◌∙◌, ◌∷◌, [], None, refl, Some, sym, values}
use Rattle.pb_normal.proofs.lemmas.terms.KeyedTerms.{IsKeyed-insert, IsKeyed-remove, IsKeyed-get, IsKeyed-rising, Replaces, Replaces-insert, Replaces-remove}
use Rattle.pb_normal.proofs.lemmas.terms.KeyedTerms.{Adds-absent, Adds-present}
use Rattle.pb_normal.proofs.tree.put.Goals as goal

pub returns-in_default : goal.returns-in_default
returns-in_default c =
    let keyed = IsKeyed-insert c.args.terms.now c.insert.new.self _ c.args.term c.requires.keyed refl c.requires.positive c.in_ok-before.ensures.entries in
    record {
      keyed = keyed;
      rising = IsKeyed-rising c.insert.new.self c.in_ok-before.ensures.ordered keyed;
      adds = Adds-absent c.args.terms.now c.insert.new.self c.args.term c.in_ok-before.field-0 c.in_ok-before.ensures.was_ordered c.in_ok-before.ensures.old c.in_default.is c.in_ok-before.ensures.entries;
    }

pub returns-in_ok-insert-in-Some-sum : goal.returns-in_ok-insert-in-Some-sum
returns-in_ok-insert-in-Some-sum c =
    let entry = rw c.in-Some-sum.is at c.combined-sum.ensures.entry in
    let here = IsKeyed-get c.args.terms.now c.args.term.variable c.in-Some.before c.requires.keyed (sym c.in-Some.is ∙ c.in_ok-before.ensures.old) in
    let between = IsKeyed-insert c.args.terms.now c.insert.new.self _ c.args.term c.requires.keyed refl c.requires.positive c.in_ok-before.ensures.entries in
    let keyed = IsKeyed-insert c.insert.new.self c.insert-in-Some-sum.new.self c.args.term.variable c.in-Some-sum.t between (here.0 ∙ sym entry.0) entry.1 c.in_ok-insert-in-Some-sum.ensures.entries in
    let adds = rw c.in-Some-sum.is at c.combined-sum.ensures.adds in
    let second : Replaces (values c.insert.new.self) (values c.insert-in-Some-sum.new.self) (c.args.term ∷ []) (c.in-Some-sum.t ∷ []) =
    rw c.in_ok-before.ensures.updates.1 at (Replaces-insert c.insert.new.self c.insert-in-Some-sum.new.self c.args.term.variable c.in-Some-sum.t c.in_ok-before.ensures.ordered c.in_ok-insert-in-Some-sum.ensures.entries) in
    record {
      keyed = keyed;
      rising = IsKeyed-rising c.insert-in-Some-sum.new.self c.in_ok-insert-in-Some-sum.ensures.ordered keyed;
      adds = Adds-present c.args.terms.now c.insert.new.self c.insert-in-Some-sum.new.self c.in-Some.before c.args.term (Some c.in-Some-sum.t) c.combined-sum.result.1 c.in_ok-before.ensures.was_ordered (sym c.in-Some.is ∙ c.in_ok-before.ensures.old) c.in_ok-before.ensures.entries second adds;
    }

pub returns-in-None : goal.returns-in-None
returns-in-None c =
    let between = IsKeyed-insert c.args.terms.now c.insert.new.self _ c.args.term c.requires.keyed refl c.requires.positive c.in_ok-before.ensures.entries in
    let keyed = IsKeyed-remove c.insert.new.self c.remove.new.self c.args.term.variable between c.remove.ensures.entries in
    let adds = rw c.in-None.is at c.combined-sum.ensures.adds in
    let second : Replaces (values c.insert.new.self) (values c.remove.new.self) (c.args.term ∷ []) [] =
    rw c.in_ok-before.ensures.updates.1 at (Replaces-remove c.insert.new.self c.remove.new.self c.args.term.variable c.remove.ensures.entries) in
    record {
      keyed = keyed;
      rising = IsKeyed-rising c.remove.new.self c.remove.ensures.ordered keyed;
      adds = Adds-present c.args.terms.now c.insert.new.self c.remove.new.self c.in-Some.before c.args.term None c.combined-sum.result.1 c.in_ok-before.ensures.was_ordered (sym c.in-Some.is ∙ c.in_ok-before.ensures.old) c.in_ok-before.ensures.entries second adds;
    }
