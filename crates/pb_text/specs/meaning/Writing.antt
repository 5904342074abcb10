-- What a write leaves in its sink: the whole text, or after a fault a prefix of it.
use Rattle.{pb_text.specs.declared.source.Failed.Failed, std.specs.Io.KnownBytes.Appends, std.specs.Io.KnownBytes.Keeps}
use Rattle.std.specs.Prelude.{◌≡◌, ℕ, ◌+◌, ◌-◌, ◌^◌, ◌<◌, ◌≤◌, min, List, ◌++◌, length, take, Option, Result, Ok, Err}

-- the count of faults after one more: the count saturates
abbrev pub one_more : ℕ → ℕ
one_more faults = min (faults + 1) (2 ^ 64 - 1)

module _ {S : Type 0} (contents : S → Option (List ℕ)) (faults : S → ℕ) where
  -- The sink took a prefix of the piece, at least one byte, or it failed and took none.
  abbrev pub Takes : S → List ℕ → Result ℕ Failed → S → Type 0
  Takes old piece (Ok n) new =
      (0 < n) × (n ≤ length piece) × Appends (contents old) (contents new) (take n piece) × (faults new ≡ faults old)
  Takes old piece (Err e) new = Keeps (contents old) (contents new) × (faults new ≡ one_more (faults old))

  -- The sink took the whole text, or a prefix of it and then failed once.
  pub record Wrote (old : S) (text : List ℕ) (new : S) : Type 0 where
    pub appends : Appends (contents old) (contents new) text
    pub faults_are : faults new ≡ faults old

  pub record Broke (old : S) (text : List ℕ) (new : S) : Type 0 where
    pub prefix : List ℕ
    pub rest : List ℕ
    pub text_is : text ≡ prefix ++ rest
    pub appends : Appends (contents old) (contents new) prefix
    pub faults_are : faults new ≡ one_more (faults old)

  abbrev pub Writes : S → List ℕ → Result Unit Failed → S → Type 0
  Writes old text (Ok u) new = Wrote old text new
  Writes old text (Err e) new = Broke old text new
