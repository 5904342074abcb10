-- What an automaton of sums reads is what its machine over letters ends with. Offered to other crates.
use Rattle.pb_sums.proofs.Common.{arith, ℕ, ◌↔◌, ◌∙◌, ◌∷◌, ◌≡◌, ◌⊎◌, [], ap, Bool, false, inl, inr, List, refl, subst, sym, true, end_or_go, end_or_refuse}
use Rattle.pb_sums.proofs.Common.{go_or_end, go_or_refuse, one_end, one_state, refuse_or_end, refuse_or_go, run, run-refuse, End, Go, ReadsStatement, Refuse}
use Rattle.pb_sums.proofs.Common.{Letter, SumEvent, Phase, Part, Spaces, act, finished, flushed, fresh, is_done, is_in_number, is_midway, is_numeric, letter_at}
use Rattle.pb_sums.proofs.Common.{Outcome, step, Work, first, last, over, sums, SumState, Spells}
use Rattle.pb_sums.proofs.lemmas.machine.{Flags.flag, Flags.gone, Flags.ended, LetterKinds.on_letter, Theorems.exact, Theorems.alive}

pub midway-not-done : (ph : Phase) → is_midway ph ≡ true → is_done ph ≡ false
midway-not-done ph h = grind arith

module _ (spaces : Spaces) (want : Part) (limit : ℕ) where
  abbrev state : Work → SumState
  state w = record { spaces = spaces; part = want; limit = limit; work = w }

  abbrev on : Work → Letter → Outcome
  on = on_letter spaces want limit

  -- a letter that is taken is the one that its byte is
  pub as_letter : (w : Work) (c : Letter) (n : Outcome) → on w c ≡ n → (step spaces want limit w c.byte ≡ n) ⊎ (n ≡ Refuse)
  as_letter w c n e = elim (flag want limit spaces w.phase c) [
    | inl f ↦ inl (ap (λ x. on w x) (sym f) ∙ e)
    | inr f ↦ inr (sym e ∙ ap (λ m. act (flushed w.phase w.terms w.name) w.terms w.name m) f)
  ]

  stepped : (w : Work) (c : Letter) (n : Outcome) → on w c ≡ n → (n ≡ Refuse → ⊥) → sums.step (state w) c.byte ≡ over (state w) n
  stepped w c n e h = elim (as_letter w c n e) [ inl f ↦ ap (λ x. over (state w) x) f | inr f ↦ absurd (h f) ]

  abbrev go : Outcome → List Letter → Outcome
  go = run on

  first-letter : (w : Work) (c : Letter) (t : List Letter) (e : SumEvent) (u : Work) (n : Outcome) → on w c ≡ n → go n t ≡ End e u
      → ((v : Work) → go (Go v) t ≡ End e u → ReadsStatement sums (state v) t e (state u)) → ReadsStatement sums (state w) (c ∷ t) e (state u)
  first-letter w c [] e u (Go v) i h later = go_or_end v e u h
  first-letter w c (d ∷ t) e u (Go v) i h later =
      let g : (is_in_number v.phase ≡ c.numeral) × (is_midway v.phase ≡ true) = gone want limit spaces w v c i in
      (state v, stepped w c (Go v) i (λ f. go_or_refuse v f), g.1, sym g.0, later v h)
  first-letter w c [] e u (End f v) i h later =
      let g : (c.numeral ≡ false) × (v ≡ finished) = ended want limit spaces w v f c i in
      let j : sums.step (state w) c.byte ≡ End f (state v) = stepped w c (End f v) i (λ k. end_or_refuse f v k) in (
        subst (λ x. sums.step (state w) c.byte ≡ End x (state u)) (one_end f e v u h).0
            (subst (λ x. sums.step (state w) c.byte ≡ End f (state x)) (one_end f e v u h).1 j),
        g.0,
      )
  first-letter w c (d ∷ t) e u (End f v) i h later = refuse_or_end e u h
  first-letter w c t e u Refuse i h later = refuse_or_end e u (sym (run-refuse on t) ∙ h)

  pub run-reads : (t : List Letter) (w u : Work) (e : SumEvent) → go (Go w) t ≡ End e u → ReadsStatement sums (state w) t e (state u)
  run-reads [] w u e h = go_or_end w e u h
  run-reads (c ∷ t) w u e h = first-letter w c t e u (on w c) refl h (λ v k. run-reads t v u e k)

  -- the letter of a byte, with the flag that it has in the text
  same-letter : (w : Work) (l : Letter) → l.numeral ≡ (letter_at (is_numeric w.phase) l.byte).numeral → l ≡ letter_at (is_numeric w.phase) l.byte
  same-letter w l e = ap (λ (x : Bool). let k : Letter = record { byte = l.byte; numeral = x } in k) e

  abbrev own : Work → ℕ → Letter
  own w b = letter_at (is_numeric w.phase) b

  last-letter : (w : Work) (l : Letter) (e : SumEvent) (s : SumState) (n : Outcome) → on w (own w l.byte) ≡ n → over (state w) n ≡ End e s → l.numeral ≡ false
      → (on w l ≡ End e finished) × (s ≡ state finished)
  last-letter w l e s (Go v) i h m = go_or_end (state v) e s h
  last-letter w l e s (End f v) i h m =
      let g : ((own w l.byte).numeral ≡ false) × (v ≡ finished) = ended want limit spaces w v f (own w l.byte) i in
      let j : l ≡ own w l.byte = same-letter w l (m ∙ sym g.0) in (
        ap (λ x. on w x) j ∙ (i ∙ (ap (λ x. End x v) ((one_end f e (state v) s h).0) ∙ ap (λ x. End e x) g.1)),
        sym (one_end f e (state v) s h).1 ∙ ap (λ x. state x) g.1,
      )
  last-letter w l e s Refuse i h m = refuse_or_end e s h

  next-letter : (w : Work) (l : Letter) (mid : SumState) (n : Outcome) → on w (own w l.byte) ≡ n → over (state w) n ≡ Go mid → l.numeral ≡ is_in_number mid.work.phase
      → (v : Work) × (mid ≡ state v) × (on w l ≡ Go v)
  next-letter w l mid (Go v) i h m =
      let g : (is_in_number v.phase ≡ (own w l.byte).numeral) × (is_midway v.phase ≡ true) = gone want limit spaces w v (own w l.byte) i in
      let k : mid ≡ state v = sym (one_state (state v) mid h) in
      let j : l ≡ own w l.byte = same-letter w l (m ∙ (ap (λ x. is_in_number x.work.phase) k ∙ g.0)) in (v, k, ap (λ x. on w x) j ∙ i)
  next-letter w l mid (End f v) i h m = end_or_go f (state v) mid h
  next-letter w l mid Refuse i h m = refuse_or_go mid h

  pub reads-run : (t : List Letter) (w : Work) (e : SumEvent) (s : SumState) → ReadsStatement sums (state w) t e s → (go (Go w) t ≡ End e finished) × (s ≡ state finished)
  reads-run [] w e s h = absurd h
  reads-run (l ∷ []) w e s h = last-letter w l e s (on w (own w l.byte)) refl h.0 h.1
  reads-run (l ∷ k ∷ t) w e s (mid, i, b, m, h) =
      let f : (v : Work) × (mid ≡ state v) × (on w l ≡ Go v) = next-letter w l mid (on w (own w l.byte)) refl i m in
      let g : (go (Go f.0) (k ∷ t) ≡ End e finished) × (s ≡ state finished) = reads-run (k ∷ t) f.0 e s (subst (λ x. ReadsStatement sums x (k ∷ t) e s) f.1 h) in
      (ap (λ x. go x (k ∷ t)) f.2 ∙ g.0, g.1)

  pub reads_grammar : (text : List Letter) (event : SumEvent) (after : SumState) →
      ReadsStatement sums (first spaces want limit) text event after ↔ (Spells spaces limit want event text × (after ≡ last spaces want limit))
  reads_grammar text event after = (
    (λ h. let f : (go (Go fresh) text ≡ End event finished) × (after ≡ state finished) = reads-run text fresh event after h in
        ((exact spaces want limit text event).1 f.0, f.1)),
    (λ h. subst (λ x. ReadsStatement sums (state fresh) text event x) (sym h.1) (run-reads text fresh finished event ((exact spaces want limit text event).0 h.0))),
  )

  pub reads_something : (w : Work) → is_done w.phase ≡ false → (text : List Letter) × (event : SumEvent) × (after : SumState) × ReadsStatement sums (state w) text event after
  reads_something w h =
      let f : (t : List Letter) × (e : SumEvent) × (go (Go w) t ≡ End e finished) = alive spaces want limit w.phase w.terms w.name h in
      (f.0, f.1, state finished, run-reads f.0 w finished f.1 f.2)
