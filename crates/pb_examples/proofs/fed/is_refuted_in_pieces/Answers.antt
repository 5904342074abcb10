use Rattle.pb_examples.{proofs.Sound.true_of, specs.Fed.ReportsUnsat, specs.Fed.Verifies}
use Rattle.{pb_replay.specs.declared.verdict.Verdict.Verdict, pb_replay.specs.declared.verdict.Verdict.TheVariants.Unsat, std.specs.List.flat_map}
use Rattle.pb_tool.specs.declared.commands.check.checker.CheckFault.{CheckFault}
use Rattle.std.proofs.Common.{ℕ, List, Result, Ok, Err, Bool, IfOk, Bor, refl, subst}
use Rattle.pb_examples.proofs.fed.is_refuted_in_pieces.Goals as goal

abbrev joined : List (Bor (List ℕ)) → List ℕ
joined = flat_map (λ piece. piece.now)

if_ok : (r : Result Bool CheckFault) (P Q : Bool → Type 0) → ((answer : Bool) → P answer → Q answer) → IfOk r P → IfOk r Q
if_ok (Ok answer) P Q step held = step answer held
if_ok (Err e) P Q step held = tt

pub is_unsat-answer-requires : goal.is_unsat-answer-requires
is_unsat-answer-requires c = c.new-checker.ensures.running

-- The checker began with the replay.
pub returns-clause-exact : goal.returns-clause-exact
returns-clause-exact c =
    if_ok _ _ (ReportsUnsat c.args.replay (joined c.args.pieces.now))
    (λ answer found. (found.0, (λ first at. found.2 c.args.replay.limits c.args.replay.problem first (c.new-checker.ensures.stands first at)), found.1))
    c.is_unsat-answer.ensures

pub returns-clause-unsat : goal.returns-clause-unsat
returns-clause-unsat c e =
    let (verdict, verified, whether) = subst (λ (r : Result Bool CheckFault). IfOk r (ReportsUnsat c.args.replay (joined c.args.pieces.now))) e (returns-clause-exact c) in
    true_of c.statements_are_sound.ensures.statements c.verdicts_are_true.ensures.forms c.reads_are_of_proofs.ensures c.args.replay (joined c.args.pieces.now) Unsat
    (subst (λ (v : Verdict). Verifies c.args.replay (joined c.args.pieces.now) v) (whether.0 refl) verified) c.report_sound.ensures.problem c.report_sound.ensures.sound
