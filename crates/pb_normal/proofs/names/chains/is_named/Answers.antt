use Rattle.pb_normal.proofs.{Common.◌≡◌, Common.List, Common.ℕ, Common.Option, Common.Some, Common.slice_eq-Decides, Common.arith, lemmas.names.Tables.hash_at}
use Rattle.pb_normal.proofs.names.chains.is_named.Goals as goal

same_text : (xs ys : List ℕ) → (let o : Option (List ℕ) = Some xs in o) ≡ Some ys → xs ≡ ys
same_text xs ys e = cc

pub returns-then-entries-number : goal.returns-then-entries-number
returns-then-entries-number c = grind (arith, slice_eq-Decides, c.eq.ensures, hash_at, c.requires.within, c.if-entries-number.true, c.text_at.ensures, same_text)
