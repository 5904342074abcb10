use Rattle.pb_text.proofs.Common.{ℕ, ◌∙◌, [], ap, false, List, Some, subst, sym, nil_from_length, AcceptsItems, Place, Reads, bytes}
use Rattle.pb_text.proofs.lemmas.{feeder.Reported.stands_reads, feeder.Steps.stands_new, feeder.Steps.stands_failed, text.Short.place_after-offset}
use Rattle.pb_text.specs.contract.NothingRead.{first_place, first_fault}
use Rattle.pb_text.proofs.failed_source.unread.Goals as goal

pub returns-clause-reads : goal.returns-clause-reads
returns-clause-reads g c owed longest some text =
    let m = g.M.Machine.automaton in let start = c.args.machine.now in
    let stands = stands_failed (stands_new m longest start c.is_done.ensures.state c.requires.between some) owed text in
    let at_first = sym (place_after-offset (bytes stands.letters)) ∙ sym (ap (λ (p : Place). p.offset) stands.place_is) in
    subst (λ (used : List ℕ). Reads (AcceptsItems m start) longest text used [] first_place false (Some first_fault)) (nil_from_length _ at_first)
    (stands_reads stands false (sym owed))
