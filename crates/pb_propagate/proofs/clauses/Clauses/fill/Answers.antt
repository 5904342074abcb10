use Rattle.pb_propagate.proofs.Common.{◌∙◌, ◌≡◌, ap, refl, get_or_read, Search, begun, Contents}
use Rattle.pb_propagate.proofs.lemmas.clauses.Stores.{rest-fill}
use Rattle.pb_propagate.proofs.clauses.Clauses.fill.Goals as goal

-- a search that begins
begun-is : (x : Search) → (x.position ≡ 0) × (x.passed ≡ 0) → x ≡ begun
begun-is x h = rw (h.0, h.1) refl

pub returns-clause-rest : goal.returns-clause-rest
returns-clause-rest c =
    let xs = c.args.literals.items in
    let all = rw (c.seek.ensures, c.in_ok-put_in-2.ensures.watches, c.in_ok-put_in.ensures.watches, c.as_slice.ensures.value, begun-is c.new.result c.new.ensures) at c.write.ensures in
    let same : c.write.new.self.watches ≡ c.put_in-2.new.blocks.watches = rw (c.write.ensures, c.seek.ensures) refl in
    rw c.reuse.ensures (rest-fill c.requires.rest c.requires.slot c.put_in.new.lists _ _ c.requires.empty c.requires.pair
    (get_or_read xs c.args.pair.first c.index-first.result.now c.requires.pair.first c.index-first.ensures 0)
    (get_or_read xs c.args.pair.second c.index-second.result.now c.requires.pair.second c.index-second.ensures 0)
    c.requires.inside (ap (λ (b : Contents). b.literals) all) (ap (λ (b : Contents). b.searches) all) (c.in_ok-put_in-2.ensures.sizes ∙ c.in_ok-put_in.ensures.sizes)
    (ap (λ (b : Contents). b.watches) all) (rw same c.in_ok-put_in-2.ensures.linked) c.in_ok-put_in.ensures.more c.in_ok-put_in-2.ensures.more)
