use Rattle.std.proofs.Common.{◌∙◌, ap, arith, sym}
use Rattle.pb_propagate.specs.declared.parts.Part.{Part}
use Rattle.pb_propagate.proofs.lemmas.Spans.{changed_parts, has_span, part_is, span_changed}
use Rattle.pb_propagate.proofs.parts.Parts.set.Goals as goal

pub index_mut-requires : goal.index_mut-requires
index_mut-requires c =
    let p = c.self.inside in
    omega (arith, p.spans.ok.0, has_span p.spans.items p.exponents.items p.count c.args.list c.self.invariant c.self.view_is c.requires.list c.requires.stored)

pub returns : goal.returns
returns c =
    let p = c.self.inside in let spans = p.spans.items in let exponents = p.exponents.items in let i = c.args.list in
    let low = has_span spans exponents p.count i c.self.invariant c.self.view_is c.requires.list c.requires.stored in
    let same = ap (λ (q : Part). q.room) (sym (part_is spans exponents p.count i c.self.view_is c.requires.list)) in
    changed_parts spans exponents _ exponents p.count i c.args.part c.self.view_is c.requires.list
    (span_changed spans exponents i c.args.part low (c.requires.room ∙ same))
