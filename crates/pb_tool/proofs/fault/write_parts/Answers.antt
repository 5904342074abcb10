use Rattle.{pb_text.specs.declared.source.Failed.Failed, std.specs.Borrow.Bor}
use Rattle.pb_tool.proofs.Common.{ℕ, ◌++◌, ◌<◌, ◌∙◌, ◌≡◌, ap, arith, drop, drop-cons, get_or, IsErr, length, List, Option, refl, Result, suc, sym, take}
use Rattle.pb_tool.proofs.Common.{take-append-drop, flat_map-append, flat_map, part_broke, part_then, Broke, Writes, Wrote}
use Rattle.pb_tool.proofs.fault.write_parts.Goals as goal

module _ {S : Type 0} (contents : S → Option (List ℕ)) (faults : S → ℕ) where
  -- all texts of a list, if those before one were written and that one was written in part
  broke_at : (a b c : S) (parts : List (Bor (List ℕ))) (i : ℕ) (none : Bor (List ℕ)) (r : Result Unit Failed) → i < length parts → IsErr r
      → Wrote contents faults a (flat_map (λ part. part.now) (take i parts)) b → Broke contents faults b (get_or parts i none).now c
      → Writes contents faults a (flat_map (λ part. part.now) parts) r c
  broke_at a b c parts i none r lt e h k =
      let text = flat_map (λ (part : Bor (List ℕ)). part.now) in let rest = text (drop (suc i) parts) in
      let whole : text parts ≡ text (take i parts) ++ ((get_or parts i none).now ++ rest) =
      ap text (sym (take-append-drop i parts)) ∙ (flat_map-append (λ (part : Bor (List ℕ)). part.now) (take i parts) (drop i parts) ∙ ap (λ (ps : List (Bor (List ℕ))). text (take i parts) ++ text ps) (drop-cons parts i none lt)) in
      part_then contents faults a b c (text (take i parts)) ((get_or parts i none).now ++ rest) (text parts) r whole h
      (part_broke contents faults b c (get_or parts i none).now rest ((get_or parts i none).now ++ rest) r refl e k)

pub returns-in_err-write_bytes : goal.returns-in_err-write_bytes
returns-in_err-write_bytes g c = grind (arith, broke_at, g.S.Sink.contents, g.S.Sink.faults, c.from_residual.ensures.0, c.loop-part.invariant, c.write_bytes.ensures)
