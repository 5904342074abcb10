-- Texts that are stored inline.
use Rattle.pb_sums.proofs.Common.{ℕ, ◌+◌, ◌<◌, ◌∷◌, [], arith, get_or, length, List, set, subst, suc, sym, take, zero, IsTrue, get_or_past, take_more_set}
use Rattle.{pb_sums.proofs.Common.IsUtf8, pb_sums.proofs.Common.is_name_byte, pb_sums.proofs.Common.Each, pb_text.proofs.lemmas.text.NameBytes.name_ascii}
use Rattle.std.proofs.lemmas.Str.{IsUtf8-nil, IsUtf8-append, IsUtf8-from_ascii}

pub none_utf8 : IsUtf8 []
none_utf8 = IsUtf8-nil

none-ascii : (i : ℕ) → get_or {A = ℕ} [] i 0 < 128
none-ascii i = subst (λ (b : ℕ). b < 128) (sym (get_or_past {X = ℕ} [] i 0 (omega arith))) (omega arith)

one-ascii : (b : ℕ) → b < 128 → (i : ℕ) → get_or (b ∷ []) i 0 < 128
one-ascii b h i = grind (arith, none-ascii)

each-ascii : (bs : List ℕ) → Each (λ b. IsTrue (is_name_byte b)) bs → (i : ℕ) → get_or bs i 0 < 128
each-ascii [] h i = none-ascii i
each-ascii (b ∷ bs) h zero = name_ascii b h.0
each-ascii (b ∷ bs) h (suc i) = each-ascii bs h.1 i

-- bytes of a name are UTF-8
pub name_utf8 : (bs : List ℕ) → Each (λ b. IsTrue (is_name_byte b)) bs → IsUtf8 bs
name_utf8 bs h = IsUtf8-from_ascii bs (each-ascii bs h)

-- so is a text followed by an ASCII byte
pub longer_utf8 : (bytes : List ℕ) (n b : ℕ) → n < length bytes → b < 128 → IsUtf8 (take n bytes) → IsUtf8 (take (n + 1) (set bytes n b))
longer_utf8 bytes n b h l u =
    subst IsUtf8 (sym (take_more_set bytes n b h)) (IsUtf8-append (take n bytes) (b ∷ []) u (IsUtf8-from_ascii (b ∷ []) (one-ascii b l)))
