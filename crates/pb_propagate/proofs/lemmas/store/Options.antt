-- Options that are distinct. Offered to other crates.
use Rattle.pb_propagate.proofs.Common.{◌∙◌, ◌≡◌, false, None, refl, sym, is_some, Option, Some, same_Some}
use Rattle.std.proofs.lemmas.Option.{none-some as none-is_some}

pub some-one : {X : Type 0} (o : Option X) (a b : X) → o ≡ Some a → o ≡ Some b → a ≡ b
some-one o a b h k = same_Some a b (sym h ∙ k)

pub none-some : {X : Type 0} (o : Option X) (a : X) → o ≡ None → o ≡ Some a → ⊥
none-some o a h k = none-is_some a (sym h ∙ k)

pub none_of : {X : Type 0} (o : Option X) → is_some o ≡ false → o ≡ None
none_of None e = refl
none_of (Some x) e = absurd cc
