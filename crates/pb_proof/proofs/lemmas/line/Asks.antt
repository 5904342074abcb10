-- Where the machine of linear texts may allocate.
use Rattle.pb_proof.proofs.Common.{ℕ, ◌∙◌, ◌≡◌, [], ap, List, nat_eq, refl, subst, sym, true}
use Rattle.pb_proof.proofs.Common.{arith, cond_both, false≢true, asks_after, first_asks_nothing, sums_asked}
use Rattle.pb_proof.proofs.Common.{AsksLiteral, prefixes_of, Walks, bytes-append}
use Rattle.pb_proof.proofs.Common.{is_blank, bytes, Letter}
use Rattle.pb_proof.proofs.Common.{RupPhase}
use Rattle.pb_proof.proofs.Common.{rup_asks, rup_automaton, rup_first, rup_transition}
use Rattle.pb_proof.proofs.Common.{RupState, Part, Spaces}
use Rattle.pb_proof.proofs.lemmas.Rup as reads

module _ (limit top : ℕ) where
  rup_at : (s : RupState) (ph : RupPhase) (t : List Letter) (b : ℕ) → reads.prefix limit top s ph t → rup_asks s b (rup_transition ph b) ≡ true → AsksLiteral (bytes t) b
  rup_at s RupPhase.Start t b h = cond_both (is_blank b) _ _ (λ m. rup_asks s b m ≡ true → AsksLiteral (bytes t) b) (λ _ k. absurd (false≢true k)) (λ _ k. absurd (false≢true k))
  rup_at s RupPhase.Gap t b (h, inner, linear) = grind (arith, false≢true, first_asks_nothing)
  rup_at s RupPhase.Inside t b (linear, (a, c, e, h, w)) = λ k.
      subst (λ (x : List ℕ). AsksLiteral x b) (sym (ap bytes e ∙ bytes-append a c))
      (asks_after (bytes a) (bytes c) b (sums_asked Spaces.Blank Part.AtLeast limit c s.sums b w k))
  rup_at s RupPhase.Tail t b h = grind (arith, false≢true, nat_eq)
  rup_at s RupPhase.Done t b h = absurd h

  pub rup_asked : (t : List Letter) (s : RupState) (b : ℕ) → Walks rup_automaton (rup_first limit) t s → rup_automaton.asks s b ≡ true → AsksLiteral (bytes t) b
  rup_asked t s b w h =
      rup_at s s.phase t b (prefixes_of rup_automaton (reads.Prefix limit top) (reads.Whole limit top) (reads.keeps limit top) t (rup_first limit) [] s w (refl, refl, refl)) h
