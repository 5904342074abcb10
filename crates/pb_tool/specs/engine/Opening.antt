-- The format that a source is read as.
use Rattle.pb_tool.specs.{declared.file.Format.Format, meaning.Files.MayBeProof, meaning.Files.MayBeInstance}
use Rattle.std.specs.Prelude.{ℕ, List, Option}
use Rattle.pb_tool.specs.declared.file.Format.TheVariants as format

-- the source may have this format
abbrev pub IsReadAs : Option (List ℕ) → Format → Type 0
IsReadAs source format.Proof = MayBeProof source
IsReadAs source format.Instance = MayBeInstance source
