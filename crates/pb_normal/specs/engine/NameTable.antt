-- Names in one list of bytes, and chains by which a name is found.
use Rattle.pb_normal.specs.{contract.NameHasher.finish, contract.NameHasher.write, declared.names.hasher.NameHasher.NameHasher, meaning.Names.AreDistinct}
use Rattle.{pb_normal.specs.declared.names.entry.NameEntry.NameEntry, pb_normal.specs.declared.names.table.NameTable.NameTable, std.specs.Str.IsUtf8}
use Rattle.std.specs.Prelude.{◌≡◌, ◌≢◌, ◌<◌, ◌≤◌, ℕ, suc, ◌-◌, ◌/◌, ◌^◌, List, [], ◌∷◌, All, drop, get_or, length, map, take, bit_and}

abbrev pub ends_of : List NameEntry → List ℕ
ends_of entries = map (λ (e : NameEntry). e.end) entries

abbrev pub hashes_of : List NameEntry → List ℕ
hashes_of entries = map (λ (e : NameEntry). e.hash) entries

abbrev pub nexts_of : List NameEntry → List ℕ
nexts_of entries = map (λ (e : NameEntry). e.next) entries

-- the names in a list of bytes, the first of which begins at a start; each begins where the one before it ends
abbrev pub texts : ℕ → List ℕ → List ℕ → List (List ℕ)
texts start [] bytes = []
texts start (end ∷ ends) bytes = take (end - start) (drop start bytes) ∷ texts end ends bytes

-- the ends rise from a start to the number of bytes
abbrev pub AreEnds : ℕ → List ℕ → ℕ → Type 0
AreEnds start [] count = start ≡ count
AreEnds start (end ∷ ends) count = (start ≤ end) × (end ≤ count) × AreEnds end ends count

-- the 32 bits of a name's hash that are stored
abbrev pub hash_by : NameHasher → List ℕ → ℕ
hash_by hasher name = finish (write hasher name) / 2 ^ 32

-- the chain of a hash, among this many
unfoldable pub chain_of : ℕ → ℕ → ℕ
chain_of count hash = bit_and hash (count - 1)

-- the chain of the name with this number
abbrev pub chain_at : List ℕ → ℕ → ℕ → ℕ
chain_at hashes count number = chain_of count (get_or hashes number 0)

-- `at` is one more than the last number below n in this chain, or 0 if the chain has none
pub record IsLast (hashes : List ℕ) (count chain n at : ℕ) : Type 0 where
  pub within : at ≤ n
  pub above : (number : ℕ) → at ≤ number → number < n → chain_at hashes count number ≢ chain
  pub own : (number : ℕ) → at ≡ suc number → chain_at hashes count number ≡ chain

-- each of the first n names leads to the one before it in its chain, and the heads lead to the last of each chain
pub record IsChained (heads hashes nexts : List ℕ) (n : ℕ) : Type 0 where
  pub head : (chain : ℕ) → chain < length heads → IsLast hashes (length heads) chain n (get_or heads chain 0)
  pub next : (number : ℕ) → number < n → IsLast hashes (length heads) (chain_at hashes (length heads) number) number (get_or nexts number 0)

-- the names in a list of bytes
abbrev pub names_in : List ℕ → List NameEntry → List (List ℕ)
names_in bytes entries = texts 0 (ends_of entries) bytes

-- the names of a table
abbrev pub listed : NameTable → List (List ℕ)
listed t = names_in t.bytes.items t.entries.items

-- each name of the table can be found
pub record IsTable (t : NameTable) : Type 0 where
  pub ends : AreEnds 0 (ends_of t.entries.items) (length t.bytes.items)
  pub readable : All IsUtf8 (listed t)
  pub distinct : AreDistinct (listed t)
  pub hashed : hashes_of t.entries.items ≡ map (hash_by t.hasher) (listed t)
  pub chained : IsChained t.heads.items (hashes_of t.entries.items) (nexts_of t.entries.items) (length t.entries.items)
  pub sized : length t.entries.items ≤ length t.heads.items
