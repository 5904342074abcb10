-- What names store.
use Rattle.pb_sums.specs.declared.{name.Name.TheInside.Inside as InName, short.ShortText.TheInside.Inside as InShort}
use Rattle.std.specs.Prelude.{◌≡◌}

-- only the stored text, as contracts see it
abbrev pub NameKeeps : Type 0
NameKeeps = (a b : InName) → a.kept ≡ b.kept → a ≡ b

-- only the allocator, the length and the 22 bytes, as contracts see these; the bytes after the length are hidden
abbrev pub ShortKeeps : Type 0
ShortKeeps = (a b : InShort) → a.alloc ≡ b.alloc → a.len ≡ b.len → a.bytes ≡ b.bytes → a ≡ b
