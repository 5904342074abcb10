-- Texts that begin alike: their first bytes, and what follows.
use Rattle.pb_text.proofs.Common.{ℕ, ◌∷◌, ◌≡◌, List}

pub head : (b c : ℕ) (bs cs : List ℕ) → b ∷ bs ≡ c ∷ cs → b ≡ c
head b c bs cs e = cc

pub tail : (b c : ℕ) (bs cs : List ℕ) → b ∷ bs ≡ c ∷ cs → bs ≡ cs
tail b c bs cs e = cc
