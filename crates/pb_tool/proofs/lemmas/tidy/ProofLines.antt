-- The text of a proof whose statements are gathered one by one is its canonical text.
use Rattle.pb_proof.specs.{contract.Gather.asks, contract.Gather.MayKeep, declared.Statement.TheVariants.Header, meaning.Canonical.lines}
use Rattle.pb_tool.{proofs.Common.TidiesProof, proofs.lemmas.tidy.InstanceLines.tidies_value, specs.declared.commands.tidy.proof_text.ProofText.ProofText}
use Rattle.pb_tool.proofs.Common.{ℕ, ◌++◌, ◌↔◌, ◌∙◌, ◌∷◌, ◌≡◌, [], All, ap, append-nil, append_assoc, arith, List, Option, refl, Result, sym, flat_map-append}
use Rattle.pb_tool.proofs.Common.{All-head, All-tail, flat_map, Proof, Statement, Conclude, End, F, Output, Pol, statement_bytes, IsProofOf, IsStep}
use Rattle.pb_tool.proofs.Common.{statements_of, Limits, Item, events_of, gathered, ToolFault, TidiesEach, AsksInProofText, IsProofText, tidied_proof}
use Rattle.pb_tool.specs.engine.ProofText.{line, with, text_of, IsProofTextOf}

-- lines, each with its line feed
ended : (s : Statement) (rest : List Statement) → lines (s ∷ rest) ++ 10 ∷ [] ≡ flat_map line (s ∷ rest)
ended s [] = sym (append-nil (line s))
ended s (r ∷ rest) =
    append_assoc (statement_bytes s) (10 ∷ lines (r ∷ rest)) (10 ∷ [])
    ∙ (ap (λ (x : List ℕ). statement_bytes s ++ (10 ∷ x)) (ended r rest) ∙ sym (append_assoc (statement_bytes s) (10 ∷ []) (flat_map line (r ∷ rest))))

-- the text with more steps
abbrev with_text : ProofText → List ℕ → ProofText
with_text t text = record t { steps = record t.steps { text = t.steps.text ++ text } }

step_added : (t : ProofText) (s : Statement) → IsStep s → with t s ≡ with_text t (line s)
step_added t (Pol ws) h = refl
step_added t s h = grind arith

steps_added : (steps rest : List Statement) (t : ProofText) → All IsStep steps → gathered with t (steps ++ rest) ≡ gathered with (with_text t (flat_map line steps)) rest
steps_added [] rest t h = ap (λ (x : List ℕ). gathered with (record t { steps = record t.steps { text = x } }) rest) (sym (append-nil t.steps.text))
steps_added (s ∷ steps) rest t h =
    ap (λ (x : ProofText). gathered with x (steps ++ rest)) (step_added t s (All-head IsStep s steps h))
    ∙ (steps_added steps rest (with_text t (line s)) (All-tail IsStep s steps h)
    ∙ ap (λ (x : List ℕ). gathered with (record t { steps = record t.steps { text = x } }) rest) (append_assoc t.steps.text (line s) (flat_map line steps)))

proof_text : (empty : ProofText) → empty.steps.text ≡ [] → (v : Proof) → All IsStep v.steps → text_of (gathered with empty (statements_of v)) ≡ tidied_proof v
proof_text empty n v h =
    let following : List Statement = Output ∷ Conclude v.conclusion ∷ End ∷ [] in
    let back : List ℕ = line Output ++ (line (Conclude v.conclusion) ++ line End) in
    let back_is : flat_map line following ≡ back = ap (λ (x : List ℕ). line Output ++ (line (Conclude v.conclusion) ++ x)) (append-nil (line End)) in
    ap text_of (steps_added v.steps following (record empty { count = v.count }) h)
    ∙ (ap (λ (x : List ℕ). (line Header ++ line (F v.count)) ++ ((x ++ flat_map line v.steps) ++ back)) n
    ∙ (append_assoc (line Header) (line (F v.count)) (flat_map line v.steps ++ back)
    ∙ (ap (λ (x : List ℕ). line Header ++ (line (F v.count) ++ x)) (ap (λ (x : List ℕ). flat_map line v.steps ++ x) (sym back_is) ∙ sym (flat_map-append line v.steps following))
    ∙ sym (ended Header (F v.count ∷ (v.steps ++ following))))))

-- ---- what is written for a proof

module _ (limits : Limits) (longest : ℕ) (accepted : List (Item Statement) → Type 0) (same : (items : List (Item Statement)) → accepted items ↔ IsProofText limits items) (empty : ProofText) (none : empty.steps.text ≡ []) (may_ask : List ℕ → ℕ → Type 0) where
  has_text : (items : List (Item Statement)) → IsProofText limits items → IsProofTextOf (events_of items) (gathered with empty (events_of items))
  has_text items (v, (steps, are, first, spelled)) = (v, are, ap (λ (x : List Statement). text_of (gathered with empty x)) are ∙ proof_text empty none v steps)

  pub tidies_text : ((used : List ℕ) (b : ℕ) → may_ask used b → AsksInProofText limits used b) → {W : Type 0} (contents : W → Option (List ℕ)) (faults : W → ℕ) (before : Option (List ℕ)) (old : W) (result : Result (Unit {0}) ToolFault) (after : Option (List ℕ)) (new : W)
      → TidiesEach accepted longest with empty may_ask (λ t s. asks s) text_of contents faults before old result after new → TidiesProof limits longest contents faults before old result after new
  tidies_text to contents faults before old result after new t =
      tidies_value accepted (IsProofText limits) same longest with empty text_of IsProofOf tidied_proof has_text may_ask (AsksInProofText limits) to (λ t s. asks s) MayKeep (λ events s h. h) contents faults before old result after new t
