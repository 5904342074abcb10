-- The stop of a whole read, under a format with the same texts. Offered to other crates.
use Rattle.pb_text.proofs.Common.{arith, ℕ, ◌++◌, ◌∷◌, [], List, None, Stop, Why, Item, IsAsking, events_at, Keeping, Reading, StopsIn}
use Rattle.pb_text.proofs.lemmas.text.Formats as formats

-- what may allocate under one condition may allocate under another
pub asking_to : (may_ask MayAsk : List ℕ → ℕ → Type 0) (used seen : List ℕ) → ((b : ℕ) → may_ask used b → MayAsk used b) → (why : Why) → IsAsking may_ask used seen why → IsAsking MayAsk used seen why
asking_to may_ask MayAsk used seen to why h = grind arith

module _ {E : Type 0} (accepted format : List (Item E) → Type 0) (only : (items : List (Item E)) → accepted items → format items) (each : (items : List (Item E)) → format items → accepted items) (longest : ℕ)
    (may_ask MayAsk : List ℕ → ℕ → Type 0) (to : (used : List ℕ) (b : ℕ) → may_ask used b → MayAsk used b) (may_keep MayKeep : List E → E → Type 0) (keep : (events : List E) (e : E) → may_keep events e → MayKeep events e) where
  pub stops_in : (used seen : List ℕ) (s : Stop) → StopsIn accepted longest may_ask may_keep used seen s → StopsIn format longest MayAsk MayKeep used seen s
  stops_in used seen s (Reading spans r a) = Reading spans (formats.reads accepted format only each longest _ used spans s.place _ _ r) (asking_to may_ask MayAsk used seen (to used) s.why a)
  stops_in used seen s (Keeping spans last done r h e) =
      Keeping spans last done (formats.reads accepted format only each longest used used (spans ++ last ∷ []) last.past done None r) (keep (events_at spans) last.event h) e
