use Rattle.pb_lines.proofs.machine.WordMachine.take.Goals as goal
use Rattle.pb_lines.proofs.Common.{ap, sym, ◌∙◌, refl, unchanged}
use Rattle.pb_text.proofs.lemmas.text.NameBytes.{name_ascii}
use Rattle.pb_lines.proofs.lemmas.Pushes.{memory, added_name, after_to, after_add, pushed}
use Rattle.pb_lines.specs.declared.part.Step.{Step}
use Rattle.pb_lines.specs.engine.Words.{step_at}
use Rattle.pb_lines.specs.engine.WordsFields.{words_state}

pub invariant_of-self : goal.invariant_of-self
invariant_of-self g c =
    after_to _ _ g.met.W.WordList.lawful g.met.W.WordList.counted (words_state c.self.inside) c.args.byte c.self.invariant c.in-To.part
    (ap (λ i. step_at g.W.WordList.grammar i c.args.byte) c.self.view_is ∙ (sym c.requires ∙ c.in-To.is))

pub push-requires : goal.push-requires
push-requires g c =
    name_ascii c.args.byte (added_name _ _ g.met.W.WordList.lawful g.met.W.WordList.counted (words_state c.self.inside) c.args.byte c.self.invariant c.in-Add.part
    (ap (λ i. step_at g.W.WordList.grammar i c.args.byte) c.self.view_is ∙ (sym c.requires ∙ c.in-Add.is)))

pub returns-then-is_err : goal.returns-then-is_err
returns-then-is_err g c =
    let e = ap (λ i. step_at g.W.WordList.grammar i c.args.byte) c.self.view_is ∙ (sym c.requires ∙ c.in-Add.is) in
    let n = unchanged _ _ _ _ c.push.ensures (sym c.is_err.ensures.value ∙ c.if-is_err.true) in
    let (x, y) = memory _ _ g.met.W.WordList.lawful g.met.W.WordList.counted (words_state c.self.inside) c.args.byte c.self.invariant (Step.Add c.in-Add.part) e refl (λ r. cc) in
    rw (← c.self.view_is) (x, y, rw n refl)

pub invariant_of-self-in-Add-1 : goal.invariant_of-self-in-Add-1
invariant_of-self-in-Add-1 g c =
    let e = ap (λ i. step_at g.W.WordList.grammar i c.args.byte) c.self.view_is ∙ (sym c.requires ∙ c.in-Add.is) in
    rw (pushed c.push.result c.push.new.self c.self.inside.name c.args.byte c.push.ensures (sym c.is_err.ensures.value ∙ c.if-is_err.false))
    (after_add _ _ g.met.W.WordList.lawful g.met.W.WordList.counted (words_state c.self.inside) c.args.byte c.self.invariant c.in-Add.part e)
