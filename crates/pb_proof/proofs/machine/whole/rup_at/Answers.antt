use Rattle.pb_proof.proofs.Common.{[], ◌∙◌, ◌∷◌, bytes_decides, largest, sym, take, top_of}
use Rattle.pb_proof.proofs.lemmas.machine.Whole.{rup_taken}
use Rattle.pb_proof.proofs.machine.whole.rup_at.Goals as goal

pub returns : goal.returns
returns c =
    let text = c.args.text.now in
    let word = (bytes_decides (114 ∷ 117 ∷ 112 ∷ 32 ∷ []) (take 4 text)).0 (sym c.starts_with.ensures.value ∙ c.if-not-starts_with.false) in
    let read = c.in_ok-semicolon in
    λ h. rup_taken (largest c.args.limits) (top_of c.args.limits) h text read.linear read.semicolon (sym word) (sym c.is_blank.ensures ∙ c.if-is_blank.false) read.ensures.inside read.ensures.semicolon read.ensures.runs
    c.if-last-text.false c.if-text-last-ne10.false
