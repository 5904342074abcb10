use Rattle.{pb_text.specs.meaning.Reading.byte_limit, std.specs.List.flat_map}
use Rattle.pb_tool.specs.{contract.Pieces.ChecksAt, contract.Pieces.MayGoOn, contract.Pieces.place_in, declared.commands.check.checker.CheckFault.CheckFault}
use Rattle.std.proofs.Common.{arith, ◌≡◌, ◌∙◌, ℕ, ◌+◌, ◌<◌, List, [], ◌∷◌, ◌++◌, None, Option, Bor, get_or, length, take, ap, refl, sym, subst}
use Rattle.std.proofs.lemmas.{Grind.flat_map-append, List.append-nil, List.take_all, List.take_more}
use Rattle.pb_examples.proofs.fed.is_unsat.Goals as goal

abbrev joined : List (Bor (List ℕ)) → List ℕ
joined = flat_map (λ piece. piece.now)

-- the pieces so far, and the next
joined_more : (pieces : List (Bor (List ℕ))) (i : ℕ) (d : Bor (List ℕ)) → i < length pieces → joined (take (i + 1) pieces) ≡ joined (take i pieces) ++ (get_or pieces i d).now
joined_more pieces i d lt =
    ap (λ (ps : List (Bor (List ℕ))). joined ps) (take_more pieces i d lt)
    ∙ flat_map-append (λ (piece : Bor (List ℕ)). piece.now) (take i pieces) (get_or pieces i d ∷ [])
    ∙ ap (λ (rest : List ℕ). joined (take i pieces) ++ rest) (append-nil (get_or pieces i d).now)

opens : (fault : Option CheckFault) → fault ≡ None → MayGoOn fault
opens fault none = subst MayGoOn (sym none) tt

pub loop-piece-init : goal.loop-piece-init
loop-piece-init c = (c.requires, λ limits v first at. at)

pub loop-piece-preserved : goal.loop-piece-preserved
loop-piece-preserved c = (
  c.in_ok-_used.ensures.fault,
  λ limits v first at. subst (λ (input : List ℕ). ChecksAt limits byte_limit v first input c.feed.new.self)
      (sym (joined_more c.args.pieces.now c.loop-piece.piece-index record { ref_ptr = (0, 0); now = [] } c.loop-piece-test.true))
      (c.in_ok-_used.ensures.checks.0 limits byte_limit v first (joined (take c.loop-piece.piece-index c.args.pieces.now))
      (opens c.loop-piece.checker.fault c.loop-piece.invariant.0) (c.loop-piece.invariant.1 limits v first at)),
)

-- the verdict on all pieces is UNSAT
pub returns-in-Unsat : goal.returns-in-Unsat
returns-in-Unsat c = (
  c.in_ok-verdict.verdict,
  ((λ yes. c.in-Unsat.is), (λ e. refl)),
  λ limits v first at. (
    place_in c.finish.new.self,
    c.in_ok-verdict.ensures.ends limits byte_limit v first (joined c.args.pieces.now) c.loop-piece.invariant.0
        (subst (λ (ps : List (Bor (List ℕ))). ChecksAt limits byte_limit v first (joined ps) c.loop-piece.checker)
        (take_all c.loop-piece.piece-index c.args.pieces.now (omega (arith, c.loop-piece-test.false))) (c.loop-piece.invariant.1 limits v first at)),
  ),
)

-- or another one
pub returns-in_default : goal.returns-in_default
returns-in_default c = (
  c.in_ok-verdict.verdict,
  ((λ yes. absurd (cc)), (λ e. absurd (c.in_default.not-Unsat e))),
  λ limits v first at. (
    place_in c.finish.new.self,
    c.in_ok-verdict.ensures.ends limits byte_limit v first (joined c.args.pieces.now) c.loop-piece.invariant.0
        (subst (λ (ps : List (Bor (List ℕ))). ChecksAt limits byte_limit v first (joined ps) c.loop-piece.checker)
        (take_all c.loop-piece.piece-index c.args.pieces.now (omega (arith, c.loop-piece-test.false))) (c.loop-piece.invariant.1 limits v first at)),
  ),
)
