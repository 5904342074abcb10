-- A byte that ends a word.
use Rattle.pb_lines.proofs.Common.{arith, ℕ, ◌^◌, ◌<◌, ◌≡◌, ◌∙◌, ◌++◌, ◌∷◌, [], true, false, List, Option, Some, None, refl, ap, sym, subst, IsTrue}
use Rattle.pb_lines.proofs.Common.{is_name_byte, Admits, admits, Automaton, Next, Go, Refuse}
use Rattle.pb_lines.specs.declared.part.Part.{Part}
use Rattle.pb_lines.specs.declared.part.Step.{Step}
use Rattle.pb_lines.specs.declared.word.Follow.{Follow}
use Rattle.pb_lines.specs.declared.word.Word.{Word}
use Rattle.pb_lines.specs.contract.Grammar.{Grammar, IsNumber, with_word, adds_word, follow, following}
use Rattle.pb_lines.specs.contract.Laws.{IsGrammar, IsCounted}
use Rattle.pb_lines.specs.engine.Words.{WordsState, IsWordsInOrder, words_at, words_automaton, act, asks, if_some, step_at, ended, may_come}
use Rattle.pb_lines.proofs.lemmas.Theorems.{IsSane, to, add, ends, closes, colons, finishes, stops, Fits, sane, laws_of, words_of_one}
use Rattle.pb_text.specs.contract.Automaton.{begins}
use Rattle.std.specs.Prelude.{is_some, option_map, Result, is_ok, is_err, if◌then◌else◌}

pub pushed : {T E : Type 0} (r : Result T E) (new old : List ℕ) (b : ℕ) → new ≡ (if is_ok r then old ++ b ∷ [] else old) → is_err r ≡ false → new ≡ old ++ b ∷ []
pushed r new old b h e = grind arith

-- the word of a step
same_word : {A : Type 0} (P : A → Type 0) (v w : A) → Some v ≡ Some w → P v → P w
same_word P v w e x = let q : v ≡ w = cc in subst P q x

-- the one step that is left
pub closes_else : (st : Step) (w : Option Word) → ended st ≡ Some w → ((v : Option Word) (p : Part) → st ≡ Step.End v p → ⊥) → ((v : Option Word) → st ≡ Step.Colon v → ⊥) → ((v : Option Word) → st ≡ Step.Finish v → ⊥)
    → (v : Option Word) × (st ≡ Step.Close v)
closes_else (Step.End v p) w e a c f = absurd (a v p refl)
closes_else (Step.Colon v) w e a c f = absurd (c v refl)
closes_else (Step.Finish v) w e a c f = absurd (f v refl)
closes_else (Step.Close v) w e a c f = (v, refl)
closes_else _ w e a c f = cc

-- outcomes that are not a rejection
reaches : {A B S E : Type 0} (h : A → B) (x : Option A) (f : B) → Some f ≡ option_map h x → (k : A → Next S E) → ((a : A) → f ≡ h a → k a ≡ Refuse → ⊥) → if_some x k ≡ Refuse → ⊥
reaches h None f e k t r = cc
reaches h (Some a) f e k t r = t a (let q : f ≡ h a = cc in q) r

has_value : {A S E : Type 0} (x : Option A) (k : A → Next S E) → is_some x ≡ true → ((a : A) → k a ≡ Refuse → ⊥) → if_some x k ≡ Refuse → ⊥
has_value None k e t r = cc
has_value (Some a) k e t r = t a r

module _ {S E : Type 0} (grammar : ℕ → ℕ → Grammar S E) (Good : ℕ → ℕ → S → Type 0)
    (lawful : (limit top : ℕ) → limit < 2 ^ 127 → top < 2 ^ 63 → 0 < top → IsGrammar grammar limit top (Good limit top))
    (counted : (limit top : ℕ) → IsCounted (grammar limit top)) (i : WordsState S) (b : ℕ) (h : IsWordsInOrder grammar Good i) where
  abbrev g : Grammar S E
  g = grammar i.limit i.top

  abbrev m : Automaton (WordsState S) E
  m = words_automaton grammar

  due : (F : Type 0) (p : Part) (st : Step) → IsSane g i.words i.name b F p st → F → (w : Option Word) → ended st ≡ Some w → IsNumber g i.words w
  due F p _ (ends v q j k d l f) o w e = same_word (IsNumber g i.words) v w e (f o)
  due F p _ (closes v l f) o w e = same_word (IsNumber g i.words) v w e (f o)
  due F p _ (colons v l f) o w e = same_word (IsNumber g i.words) v w e (f o)
  due F p _ (finishes v f) o w e = same_word (IsNumber g i.words) v w e (f o)
  due F p _ (to q z j k f) o w e = cc
  due F p _ (add q u j k z l f) o w e = cc
  due F p _ stops o w e = cc

  -- the number that a word is may come
  pub number_due : (st : Step) (w : Option Word) → st ≡ step_at grammar i b → ended st ≡ Some w → IsNumber g i.words w
  number_due st w e = subst (λ x. ended x ≡ Some w → IsNumber g i.words w) (sym e)
      (due (Fits grammar counted Good i) i.part (step_at grammar i b) (sane grammar counted Good i b) (laws_of grammar Good lawful counted i h, h.fits) w)

  named : (F : Type 0) (p q : Part) (st : Step) → IsSane g i.words i.name b F p st → st ≡ Step.Add q → IsTrue (is_name_byte b)
  named F p q _ (add r u j k z l f) e = u
  named F p q _ (to r z j k f) e = cc
  named F p q _ (ends w r j k d l f) e = cc
  named F p q _ (closes w l f) e = cc
  named F p q _ (colons w l f) e = cc
  named F p q _ (finishes w f) e = cc
  named F p q _ stops e = cc

  -- a byte that is added to a name is one of a name
  pub added_name : (q : Part) → step_at grammar i b ≡ Step.Add q → IsTrue (is_name_byte b)
  added_name q e = named (Fits grammar counted Good i) i.part q (step_at grammar i b) (sane grammar counted Good i b) e

  -- a step that ends no word
  pub after_to : (p : Part) → step_at grammar i b ≡ Step.To p → IsWordsInOrder grammar Good (words_at grammar i.limit i.top i.words i.name p)
  after_to p e = (words_of_one grammar Good lawful counted).keeps i (words_at grammar i.limit i.top i.words i.name p) b h (ap (act grammar i b) e)

  pub after_add : (p : Part) → step_at grammar i b ≡ Step.Add p → IsWordsInOrder grammar Good (words_at grammar i.limit i.top i.words (i.name ++ b ∷ []) p)
  after_add p e = (words_of_one grammar Good lawful counted).keeps i (words_at grammar i.limit i.top i.words (i.name ++ b ∷ []) p) b h (ap (act grammar i b) e)

  -- A byte that is taken may allocate where its step may.
  pub memory : (st : Step) → step_at grammar i b ≡ st → asks grammar i st ≡ true → (act grammar i b st ≡ Refuse → ⊥) → IsTrue (m.asks i b) × Admits m i b
  memory st e a f = (ap (asks grammar i) e ∙ a, admits _ _ _ (words_of_one grammar Good lawful counted) i b (act grammar i b st) h (ap (act grammar i b) e) f)

  forth : (v w : Option Word) (f : Follow) → Some v ≡ Some w → Some f ≡ follow g i.words w i.name → Some f ≡ follow g i.words v i.name
  forth v w f e q = same_word (λ x. Some f ≡ follow g i.words x i.name) w v (sym e) q

  -- A step that ends a word is taken, if the word and what the step needs may come.
  pub taken : (st : Step) (w : Option Word) (f : Follow) → ended st ≡ Some w → Some f ≡ follow g i.words w i.name → may_come st f ≡ true → act grammar i b st ≡ Refuse → ⊥
  taken (Step.End v p) w f e q t = reaches (following g) (with_word g i.words v i.name) f (forth v w f e q) _ (λ k z r. cc)
  taken (Step.Close v) w f e q t = reaches (following g) (with_word g i.words v i.name) f (forth v w f e q) _ (λ k z. has_value (g.value k) _ (sym (ap (λ y. y.end) z) ∙ t) (λ x r. cc))
  taken (Step.Colon v) w f e q t = reaches (following g) (with_word g i.words v i.name) f (forth v w f e q) _ (λ k z. has_value (g.colon k) _ (sym (ap (λ y. y.colon) z) ∙ t) (λ x r. cc))
  taken (Step.Finish v) w f e q t = reaches (following g) (with_word g i.words v i.name) f (forth v w f e q) _ (λ k z. has_value (g.value k) _ (sym (ap (λ y. y.end) z) ∙ t) (λ x r. cc))
  taken _ w f e q t = cc

  -- it may allocate where its word may
  asks_as : (st : Step) (w : Option Word) → ended st ≡ Some w → asks grammar i st ≡ adds_word g i.words w
  asks_as (Step.End v p) w e = same_word (λ x. adds_word g i.words v ≡ adds_word g i.words x) v w e refl
  asks_as (Step.Close v) w e = same_word (λ x. adds_word g i.words v ≡ adds_word g i.words x) v w e refl
  asks_as (Step.Colon v) w e = same_word (λ x. adds_word g i.words v ≡ adds_word g i.words x) v w e refl
  asks_as (Step.Finish v) w e = same_word (λ x. adds_word g i.words v ≡ adds_word g i.words x) v w e refl
  asks_as _ w e = cc

  pub word_memory : (st : Step) (w : Option Word) (f : Follow) → st ≡ step_at grammar i b → ended st ≡ Some w → Some f ≡ follow g i.words w i.name → may_come st f ≡ true → adds_word g i.words w ≡ true
      → IsTrue (m.asks i b) × Admits m i b
  word_memory st w f e d q t a = memory st (sym e) (asks_as st w d ∙ a) (taken st w f d q t)

  -- the value of the words with it, if the line may end, and what a `:` makes of them, if it may come
  pub value_after : (w : Option Word) (f : Follow) (k : S) → Some f ≡ follow g i.words w i.name → Some k ≡ with_word g i.words w i.name → f.end ≡ true → is_some (g.value k) ≡ true
  value_after w f k e q v = let r : Some f ≡ Some (following g k) = e ∙ ap (option_map (following g)) (sym q) in let t : f ≡ following g k = cc in sym (ap (λ y. y.end) t) ∙ v

  pub colon_after : (w : Option Word) (f : Follow) (k : S) → Some f ≡ follow g i.words w i.name → Some k ≡ with_word g i.words w i.name → f.colon ≡ true → is_some (g.colon k) ≡ true
  colon_after w f k e q v = let r : Some f ≡ Some (following g k) = e ∙ ap (option_map (following g)) (sym q) in let t : f ≡ following g k = cc in sym (ap (λ y. y.colon) t) ∙ v

  -- A word that was added, and what may follow it.
  module _ (w : Option Word) (k : S) (n : List ℕ) (e : Some k ≡ with_word g i.words w i.name) (z : n ≡ []) where
    ordered : (next : WordsState S) → m.step i b ≡ Go next → IsWordsInOrder grammar Good next
    ordered next r = (words_of_one grammar Good lawful counted).keeps i next b h r

    -- the step ends this word
    module _ (st : Step) (d : st ≡ step_at grammar i b) (o : ended st ≡ Some w) where
      ends_it : (into : Option Word → Step) → ((v : Option Word) → ended (into v) ≡ Some v) → (v : Option Word) → st ≡ into v → step_at grammar i b ≡ into w
      ends_it into gives v r = same_word (λ x. step_at grammar i b ≡ into x) v w (sym (gives v) ∙ (sym (ap ended r) ∙ o)) (sym d ∙ r)

      pub after_end : (v : Option Word) (p : Part) → st ≡ Step.End v p → IsWordsInOrder grammar Good (words_at grammar i.limit i.top k n p)
      after_end v p r = rw z (ordered (words_at grammar i.limit i.top k [] p) (ap (act grammar i b) (ends_it (λ x. Step.End x p) (λ x. refl) v r) ∙ rw (sym e) refl))

      pub after_colon : (v : Option Word) (j : S) → st ≡ Step.Colon v → Some j ≡ g.colon k → IsWordsInOrder grammar Good (words_at grammar i.limit i.top j n Part.Gap)
      after_colon v j r q = rw z (ordered (words_at grammar i.limit i.top j [] Part.Gap) (ap (act grammar i b) (ends_it Step.Colon (λ x. refl) v r) ∙ rw (sym e, sym q) refl))

      pub after_close : (v : Option Word) (x : Option E) → st ≡ Step.Close v → g.value k ≡ x → is_some x ≡ true → IsWordsInOrder grammar Good (words_at grammar i.limit i.top k n Part.Closing)
      after_close v None r q t = cc
      after_close v (Some x) r q t = rw z (ordered (words_at grammar i.limit i.top k [] Part.Closing) (ap (act grammar i b) (ends_it Step.Close (λ x. refl) v r) ∙ rw (sym e, q) refl))

-- the bytes that begin a line
module _ {S E : Type 0} (grammar : ℕ → ℕ → Grammar S E) where
  pub starts_as : (i : WordsState S) (b : ℕ) → i.part ≡ Part.Start → begins (words_automaton grammar) i b ≡ may_come (step_at grammar i b) (following (grammar i.limit i.top) i.words)
  starts_as i b e = grind (arith, e)
