use Rattle.pb_text.proofs.Common.{◌+◌, ◌<◌, ◌∙◌, ◌≡◌, ◌≤◌, ap₂, sym, ℕ_set, end_of}
use Rattle.std.proofs.Math.Bridge.{le_prop}
use mathlib.Core.HLevel.{is_prop→PathP}
use Rattle.pb_text.proofs.laws.keeps_its_parts.Goals as goal

-- the other fields follow from the parts, and facts have one proof
pub returns : goal.returns
returns g c a b h =
    let end : a.end ≡ b.end = a.end_is ∙ (ap₂ end_of h.longest h.first ∙ sym b.end_is) in
    λ i. record {
      machine = h.machine i;
      place = h.place i;
      first = h.first i;
      longest = h.longest i;
      end = end i;
      stop = h.stop i;
      some = is_prop→PathP (λ j. 0 < h.longest j) (λ j. le_prop) a.some b.some i;
      end_is = is_prop→PathP (λ j. end j ≡ end_of (h.longest j) (h.first j)) (λ j. ℕ_set _ _) a.end_is b.end_is i;
      offset_in_range = is_prop→PathP (λ j. (h.place j).offset ≤ end j) (λ j. le_prop) a.offset_in_range b.offset_in_range i;
      line_in_range = is_prop→PathP (λ j. (h.place j).line ≤ (h.place j).offset + 1) (λ j. le_prop) a.line_in_range b.line_in_range i;
      column_in_range = is_prop→PathP (λ j. (h.place j).column ≤ (h.place j).offset + 1) (λ j. le_prop) a.column_in_range b.column_in_range i;
    }
