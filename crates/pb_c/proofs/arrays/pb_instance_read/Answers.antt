use Rattle.{pb_c.proofs.Claims.whole, pb_pieces.specs.Reading.IsFlatBy, pb_pieces.specs.Reading.IsNotFlat, pb_pieces.specs.declared.instance.Flat.Flat}
use Rattle.pb_c.proofs.Common.{ℕ, ◌^◌, ◌≡◌, inl, inr, List, Option, refl, rules, Some, subst, unwrap_or, Stop}
use Rattle.pb_opb.specs.{declared.OpbEvent.OpbEvent, meaning.Instances.IsInstance}
use Rattle.pb_text.specs.meaning.{Limits.largest, Limits.top_of, Spelling.Item}
use Rattle.pb_c.proofs.arrays.pb_instance_read.Goals as goal

moved : (format : List (Item OpbEvent) → Type 0) (within longest : ℕ) (text : List ℕ) (f : Flat) {before after : Option (List ℕ)} → before ≡ Some text → within ≡ longest → IsFlatBy format within before after f → IsFlatBy format longest (Some text) after f
moved format within longest text f {before} {after} is same h = subst (λ (x : Option (List ℕ)). IsFlatBy format longest x after f) is (subst (λ (n : ℕ). IsFlatBy format n before after f) same h)

moved_not : (format : List (Item OpbEvent) → Type 0) (within longest : ℕ) (text : List ℕ) (s : Stop) {before after : Option (List ℕ)} → before ≡ Some text → within ≡ longest → IsNotFlat format within before after s → IsNotFlat format longest (Some text) after s
moved_not format within longest text s {before} {after} is same h = subst (λ (x : Option (List ℕ)). IsNotFlat format longest x after s) is (subst (λ (n : ℕ). IsNotFlat format n before after s) same h)

pub returns-in-Ok-new : goal.returns-in-Ok-new
returns-in-Ok-new c =
    let limits = c.in-Some.asked.limits in let longest = c.in-Some.asked.longest in
    let from = whole c.new-source.result c.args.text c.new-source.ensures.inner c.new-source.ensures.shown in
    let read = moved (IsInstance (largest limits) (top_of limits)) c.unwrap_or-within.result (unwrap_or longest (2 ^ 40)) c.args.text.now c.in-Ok.flat from c.unwrap_or-within.ensures c.in-Ok.ensures.read in
    inl (c.in-Ok.flat, search rules, (limits, longest, c.in-Some.ensures.asked, (_, read)), refl, c.of_instance.ensures)

pub returns : goal.returns
returns c =
    let limits = c.in-Some.asked.limits in let longest = c.in-Some.asked.longest in
    let from = whole c.new-source.result c.args.text c.new-source.ensures.inner c.new-source.ensures.shown in
    let read = moved_not (IsInstance (largest limits) (top_of limits)) c.unwrap_or-within.result (unwrap_or longest (2 ^ 40)) c.args.text.now c.in-Err.stop from c.unwrap_or-within.ensures c.in-Err.ensures.refused in
    inr (c.take.ensures.left, inr (inr (c.in-Err.stop, (limits, longest, c.in-Some.ensures.asked, (_, read)), c.why_status.ensures, c.of_stop.ensures)))
