-- How the texts of literals end. Offered to other crates.
use Rattle.pb_lines.proofs.Common.{ℕ, ◌++◌, ◌∙◌, ◌∷◌, ◌≡◌, [], ap, Bool, false, List, refl, subst, sym, true}
use Rattle.pb_lines.proofs.Common.{ends_after, EndsIn, literal_bytes, bytes-append, bytes-plain, ◌⋅◌, Bytes, Language, bytes, Letter}

pub joined_end : (a c t : List Letter) (end : List ℕ) → t ≡ a ++ c → EndsIn (bytes c) end → EndsIn (bytes t) end
joined_end a c t end e h = subst (λ (x : List ℕ). EndsIn x end) (sym (ap bytes e ∙ bytes-append a c)) (ends_after (bytes a) (bytes c) end h)

pub name_ends : (negated : Bool) (bs : List ℕ) → EndsIn (literal_bytes negated bs) bs
name_ends true bs = (126 ∷ [], refl)
name_ends false bs = ([], refl)

pub literal_end : (P : Language) (negated : Bool) (bs : List ℕ) (t : List Letter) → (P ⋅ Bytes (literal_bytes negated bs)) t → EndsIn (bytes t) bs
literal_end P negated bs t (a, c, e, h, k) =
    joined_end a c t bs e (subst (λ (x : List ℕ). EndsIn x bs) (sym (ap bytes k ∙ bytes-plain (literal_bytes negated bs))) (name_ends negated bs))
