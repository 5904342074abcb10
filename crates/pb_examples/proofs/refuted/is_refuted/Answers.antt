use Rattle.pb_examples.proofs.{Sound.whole, refuted.is_refuted.Goals.in-Unsat, refuted.is_refuted.Goals.in_default}
use Rattle.pb_replay.specs.declared.verdict.Verdict.{Verdict, TheVariants.Unsat}
use Rattle.pb_text.specs.{declared.Limits.Limits, meaning.Reading.byte_limit}
use Rattle.pb_tool.specs.meaning.{Decided.AreVerified, Decided.IsDecided, Decided.IsOfTexts, Files.IsInstanceFile, Headline.AreWidest, Headline.IsUnsatText}
use Rattle.pb_tool.specs.meaning.{Headline.UnsatIsExact, Headline.UnsatOf, Verified.CheckCall, Verified.ChecksFiles}
use Rattle.std.proofs.Common.{◌≡◌, ◌∙◌, ◌↔◌, ℕ, List, Option, Some, Ok, Bor, Bool, IsTrue, refl, sym, ap, subst}
use Rattle.pb_examples.proofs.refuted.is_refuted.Goals as goal

-- A source with a known text has given all of it at its end.
unsat_text : (limits : Limits) → AreWidest limits → (text : List ℕ) (after : Option (List ℕ)) → UnsatOf limits byte_limit (Some text) after → IsUnsatText text
unsat_text limits widest text after (v, file, none) =
    (limits, widest, (v, subst (λ (x : Option (List ℕ)). IsInstanceFile limits byte_limit (Some text) x v) file.took.1 file, none))

pub returns-clause-unsat : goal.returns-clause-unsat
returns-clause-unsat c e =
    elim c.match-matches.branch [
      | in-Unsat w ↦
          let h = rw c.new-instance.ensures.shown at (c.in_ok-verdict.ensures.unsat (ap Ok w.in-Unsat.is)) in
          subst IsUnsatText (ap (λ (r : Bor (List ℕ)). r.now) c.new-instance.ensures.inner) (unsat_text c.full-limits.result (c.full-limits.ensures.bits, c.full-limits.ensures.top) c.new-instance.result.inner.now _ h)
      | in_default w ↦ absurd (cc)
    ]

-- What is answered for a verdict is whether it is UNSAT, and so whether the rules accept the two texts.
answered : {W : Type 0} (contents : W → Option (List ℕ)) (faults : W → ℕ) → UnsatIsExact contents faults → (limits : Limits) (i p : List ℕ) (c : CheckCall (Option (List ℕ)) W) (w : Verdict)
    → c.result ≡ Ok w → IsOfTexts i p c → ChecksFiles limits byte_limit contents faults c
    → (answer : Bool) → IsTrue answer ↔ (w ≡ Unsat) → IsTrue answer ↔ AreVerified limits byte_limit i p Unsat
answered contents faults exact limits i p c w ok texts checks answer is =
    let (accepted, _) = exact limits byte_limit i p c texts checks (subst IsDecided (sym ok) tt) in
    (λ yes. accepted.0 (ok ∙ ap Ok (is.0 yes)), λ v. is.1 (cc (ok, accepted.1 v)))

-- the answer says whether the verdict is UNSAT
whether : (c : goal.After-drop-out-2) → IsTrue c.match-matches.matches ↔ (c.in_ok-verdict.verdict ≡ Unsat)
whether c = elim c.match-matches.branch [
  | in-Unsat w ↦ ((λ yes. w.in-Unsat.is), (λ e. w.matches-is))
  | in_default w ↦ ((λ yes. absurd (cc)), (λ e. absurd (w.in_default.not-Unsat e)))
]

pub returns-clause-exact : goal.returns-clause-exact
returns-clause-exact c = (
  c.full-limits.result,
  (c.full-limits.ensures.bits, c.full-limits.ensures.top),
  answered _ _ c.unsat_is_exact.ensures c.full-limits.result c.args.instance.now c.args.proof.now
      (record { instance = _; proof = _; out = c.new-out.result; result = Ok c.in_ok-verdict.verdict; instance_after = _; proof_after = _; out_after = c.check.new.out }) c.in_ok-verdict.verdict refl (
        whole c.new-instance.result c.args.instance c.new-instance.ensures.inner c.new-instance.ensures.shown,
        whole c.new-proof.result c.args.proof c.new-proof.ensures.inner c.new-proof.ensures.shown,
      )
      c.in_ok-verdict.ensures.checks c.match-matches.matches (whether c),
)
