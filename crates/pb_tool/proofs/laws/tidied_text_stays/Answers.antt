use Rattle.pb_tool.proofs.Common.{ℕ, ◌++◌, ◌∙◌, ◌∷◌, ◌≡◌, List, refl, sym, instance_bytes, Instance, IsValueOf, largest_small, largest, top_of, arith, tidied}
use Rattle.pb_tool.proofs.{Common.IsInstanceText, lemmas.tidy.TidiedAgain.faultless, lemmas.tidy.TidiedAgain.read_alone, lemmas.tidy.TidiedAgain.written}
use Rattle.pb_tool.proofs.laws.tidied_text_stays.Goals as goal

-- an instance begins with a star
starred : (v : Instance) → (more : List ℕ) × (instance_bytes v ≡ 42 ∷ more)
starred v = (_, refl)

no_p : (text begun rest more following : List ℕ) → text ≡ begun ++ rest → begun ≡ 42 ∷ more → text ≡ 112 ∷ following → ⊥
no_p text begun rest more following is star e = grind (arith)

pub returns-clause-taken : goal.returns-clause-taken
returns-clause-taken c v (following, e) = grind (arith, written, starred, no_p)

pub returns-clause-same : goal.returns-clause-same
returns-clause-same c limits longest v w after rules file =
    let (own, spells, bytes, value) = c.canonical_instance_spells.ensures (largest limits) (top_of limits) v (largest_small limits) limits.most_top rules in
    let (rest, is, feed) = written v in
    sym file.value ∙ c.written_instance_reads_back.ensures (largest limits) (top_of limits) longest v file.read (largest_small limits) limits.most_top rules
    (read_alone (IsInstanceText limits) (instance_bytes v) own spells bytes (c.prefix_free.ensures (largest limits) (top_of limits)) IsValueOf (tidied v) rest is feed after longest w file)

pub returns-clause-faultless : goal.returns-clause-faultless
returns-clause-faultless c limits v s after rules refused =
    let (own, spells, bytes, value) = c.canonical_instance_spells.ensures (largest limits) (top_of limits) v (largest_small limits) limits.most_top rules in
    let (rest, is, feed) = written v in
    faultless (IsInstanceText limits) (instance_bytes v) own spells bytes (c.prefix_free.ensures (largest limits) (top_of limits)) IsValueOf (tidied v) rest is feed after _ _ s refused
