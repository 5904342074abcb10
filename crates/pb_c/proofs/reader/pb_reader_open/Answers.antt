use Rattle.pb_c.proofs.Common.{◌∙◌, ◌≡◌, inl, None, Option, refl, rules, Some, subst, sym, fault_of, Reader, Stop, AnswersBy, report_of_reader}
use Rattle.pb_c.specs.{Reader.AnswersOf, declared.report.Report.Report}
use Rattle.pb_c.proofs.reader.pb_reader_open.Goals as goal

answers : (h : Option Reader) (r : Reader) (report : Report) → h ≡ Some r → fault_of r ≡ None → report ≡ report_of_reader r → AnswersOf h 0 report
answers h r report is running same =
    subst (λ (x : Option Reader). AnswersOf x 0 report) (sym is) (subst (λ (f : Option Stop). AnswersBy r f 0 report) (sym running) (refl, same))

pub returns-in-Ok-clause-opens : goal.returns-in-Ok-clause-opens
returns-in-Ok-clause-opens c =
    let kept : c.of.result.value ≡ Some c.open-opened.result = search rules in
    inl (
      c.in-Some-format_asked.wanted,
      sym c.format_asked.ensures ∙ c.in-Some-format_asked.is,
      (c.open-opened.result, kept, c.open-opened.ensures.running, (c.in-Some.asked.limits, c.in-Some.asked.longest, c.in-Some.ensures.asked, c.open-opened.ensures.opened)),
      refl,
    )

pub returns-in-Ok-clause-answers : goal.returns-in-Ok-clause-answers
returns-in-Ok-clause-answers c zero =
    let kept : c.of.result.value ≡ Some c.open-opened.result = search rules in
    let same : c.report_of_reader.result ≡ report_of_reader c.open-opened.result = search rules in
    answers c.of.result.value c.open-opened.result c.report_of_reader.result kept c.open-opened.ensures.running same
