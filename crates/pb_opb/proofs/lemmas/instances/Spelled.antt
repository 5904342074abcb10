-- What is written for an instance, in parts, and that it is one of the texts of the instance.
use Rattle.pb_opb.proofs.Common.{ℕ, ◌++◌, ◌+◌, ◌<◌, ◌^◌, ◌∙◌, ◌∷◌, ◌≡◌, ◌≤◌, [], ap, append-nil, append_assoc, arith, Bool, drop, false, IsTrue, length, List}
use Rattle.pb_opb.proofs.Common.{refl, suc, sym, take, true, zero, decimal, AreTerms, head_bytes, linear_bytes, linear_text, space, sum_text, Linear, Term}
use Rattle.pb_opb.proofs.Common.{White, decimal-digits, bytes-append, bytes-digits, bytes-plain, IsInLine, is_white, Each, ◌⋅◌, Blanks0, Blanks1, Byte, Bytes}
use Rattle.pb_opb.proofs.Common.{Language, Count, Whites0, unmarked, bytes, bytes_of, digits_of, Item, Letter, plain, comment_events, constraint_events, due}
use Rattle.pb_opb.proofs.Common.{event_bytes, header_bytes, in_order, lines, objective_bytes, OpbEvent, Comment, Constraint, Header, Objective, led_lines}
use Rattle.pb_opb.proofs.Common.{constraint_word, min_word, SpellsComment, SpellsHeader, SpellsObjective, variable_word, AreLinears, get_or, None, Option, Some}
use Rattle.pb_opb.proofs.Common.{drop-cons, take_more, sum_bytes, body_events, objective_events, Instance}
use Rattle.pb_opb.proofs.lemmas.instances.Counted.{IsCounted}
use Rattle.pb_sums.proofs.lemmas.values.CanonicalLaws.{linear-spelled, sum-spelled, bytes-linear, bytes-sum}
use Rattle.pb_opb.specs.declared.instance.Comment as comment

-- `min: `, the sum, ` ;`
pub objective_parts : (xs : List Term) → 0 < length xs → objective_bytes xs ≡ (109 ∷ 105 ∷ 110 ∷ 58 ∷ 32 ∷ []) ++ (sum_bytes xs ++ (32 ∷ 59 ∷ []))
objective_parts xs h = grind (arith, append_assoc)

pub led-append : (xs ys : List OpbEvent) → led_lines (xs ++ ys) ≡ led_lines xs ++ led_lines ys
led-append [] ys = refl
led-append (x ∷ xs) ys = simp (led-append xs ys, append_assoc)

-- Lines with a line feed between two, and with one before each.
pub led-lines : (e : OpbEvent) (events : List OpbEvent) → 10 ∷ lines (e ∷ events) ≡ led_lines (e ∷ events)
led-lines e [] = ap (λ (z : List ℕ). 10 ∷ z) (sym (append-nil (event_bytes e)))
led-lines e (f ∷ events) = ap (λ (z : List ℕ). 10 ∷ (event_bytes e ++ z)) (led-lines f events)

-- Comments: those so far, and the next.
pub comments_more : (cs : List comment.Comment) (i : ℕ) (d : comment.Comment) → i < length cs
    → led_lines (comment_events (take (i + 1) cs)) ≡ led_lines (comment_events (take i cs)) ++ (10 ∷ 42 ∷ (get_or cs i d).text)
comments_more cs i d h =
    ap (λ (z : List comment.Comment). led_lines (comment_events z)) (take_more cs i d h)
    ∙ comments-append (take i cs) (get_or cs i d)
  where
    comments-append : (xs : List comment.Comment) (x : comment.Comment) → led_lines (comment_events (xs ++ x ∷ [])) ≡ led_lines (comment_events xs) ++ (10 ∷ 42 ∷ x.text)
    comments-append [] x = ap (λ (z : List ℕ). 10 ∷ 42 ∷ z) (append-nil x.text)
    comments-append (y ∷ xs) x = simp (comments-append xs x, append_assoc)

pub comments_at : (cs : List comment.Comment) (i : ℕ) (d : comment.Comment) → i < length cs →
    led_lines (comment_events cs) ≡ led_lines (comment_events (take i cs)) ++ ((10 ∷ 42 ∷ (get_or cs i d).text) ++ led_lines (comment_events (drop (suc i) cs)))
comments_at [] i d h = absurd (omega arith)
comments_at (c ∷ cs) zero d h = refl
comments_at (c ∷ cs) (suc i) d h = grind (arith, append_assoc, comments_at cs i d (omega arith))

-- A statement with the comments before it, and then the other statements.
pub in_order_parts : (n : ℕ) (cs : List comment.Comment) (e : OpbEvent) (events : List OpbEvent) →
    led_lines (in_order n cs (e ∷ events))
    ≡ led_lines (comment_events (take (due n cs) cs)) ++ ((10 ∷ event_bytes e) ++ led_lines (in_order (n + 1) (drop (due n cs) cs) events))
in_order_parts n cs e events = led-append (comment_events (take (due n cs) cs)) (e ∷ in_order (n + 1) (drop (due n cs) cs) events)

-- One constraint of the rest, with the comments before it.
pub constraint_turn : (whole prefix : List ℕ) (n i k : ℕ) (rest before later : List comment.Comment) (cs : List Linear) (x : Linear) → i < length cs
    → k ≡ due (n + i) rest → before ≡ take k rest → later ≡ drop k rest → x ≡ get_or cs i x
    → whole ≡ prefix ++ led_lines (in_order (n + i) rest (constraint_events (drop i cs)))
    → whole ≡ prefix ++ (led_lines (comment_events before)
    ++ ((10 ∷ linear_bytes x) ++ led_lines (in_order (n + (i + 1)) later (constraint_events (drop (i + 1) cs)))))
constraint_turn whole prefix n i k rest before later cs x h q b l f e = grind (arith, drop-cons, led-append)

-- the same, with all that was written before
pub constraint_done : (whole prefix a b rest : List ℕ) → whole ≡ prefix ++ (a ++ (b ++ rest)) → whole ≡ (prefix ++ (a ++ b)) ++ rest
constraint_done whole prefix a b rest e = e ∙ simp append_assoc

-- the same for the objective
pub objective_turn : (k : ℕ) (terms : List Term) (cs before later : List comment.Comment) (events : List OpbEvent) → k ≡ due 0 cs → before ≡ take k cs → later ≡ drop k cs
    → led_lines (in_order 0 cs (Objective terms ∷ events)) ≡ led_lines (comment_events before) ++ ((10 ∷ []) ++ (objective_bytes terms ++ led_lines (in_order 1 later events)))
objective_turn k terms cs before later events q b l = rw (b, l, q) (in_order_parts 0 cs (Objective terms) events)

pub led-between : (xs : List OpbEvent) (e : OpbEvent) (ys : List OpbEvent) → 10 ∷ lines (xs ++ e ∷ ys) ≡ led_lines (xs ++ e ∷ ys)
led-between [] e ys = led-lines e ys
led-between (x ∷ xs) e ys = led-lines x (xs ++ e ∷ ys)

-- what comes after the header, without an objective and with one
pub body_without : (v : Instance) → v.objective ≡ None → 0 < length v.constraints → 10 ∷ lines (body_events v) ≡ led_lines (in_order 0 v.comments (constraint_events v.constraints))
body_without v e h = ap (λ (o : Option (List Term)). 10 ∷ lines (in_order 0 v.comments (objective_events o ++ constraint_events v.constraints))) e ∙ some v.comments v.constraints h
  where
    some : (cs : List comment.Comment) (ls : List Linear) → 0 < length ls → 10 ∷ lines (in_order 0 cs (constraint_events ls)) ≡ led_lines (in_order 0 cs (constraint_events ls))
    some cs [] h = absurd (omega arith)
    some cs (l ∷ ls) h = led-between (comment_events (take (due 0 cs) cs)) (Constraint l) (in_order 1 (drop (due 0 cs) cs) (constraint_events ls))

pub body_with : (v : Instance) (terms : List Term) → v.objective ≡ Some terms → 10 ∷ lines (body_events v) ≡ led_lines (in_order 0 v.comments (Objective terms ∷ constraint_events v.constraints))
body_with v terms e = grind (arith, v.comments, v.constraints, led-between)

-- The texts of statements.
abbrev pub star : List Letter
star = unmarked 42 ∷ []

abbrev pub feed : List Letter
feed = unmarked 10 ∷ []

abbrev pub header_text : ℕ → ℕ → List ℕ → List Letter
header_text n m tail =
    star ++ space ++ plain variable_word ++ space ++ digits_of (decimal n) ++ space ++ plain constraint_word ++ space ++ digits_of (decimal m) ++ plain tail ++ feed

abbrev comment_text : List ℕ → List Letter
comment_text text = star ++ plain text ++ feed

-- the space after a sum
abbrev following : List Term → List Letter
following [] = []
following (x ∷ xs) = space

abbrev objective_text : List Term → List Letter
objective_text terms = plain min_word ++ space ++ sum_text terms ++ following terms ++ (unmarked 59 ∷ [])

abbrev text_of : OpbEvent → List Letter
text_of (Header n m tail) = header_text n m tail
text_of (Comment text) = comment_text text
text_of (Objective terms) = objective_text terms
text_of (Constraint linear) = linear_text linear

-- They are texts of their statements.
blanks : Blanks0 space
blanks = (32 ∷ [], (refl, tt), refl)

-- a word, and a count
field-spelled : (top n : ℕ) (P : Language) (p : List Letter) (w : List ℕ) → top < 2 ^ 63 → n ≤ top → P p → (P ⋅ Bytes w ⋅ Blanks0 ⋅ Count top n) (p ++ plain w ++ space ++ digits_of (decimal n))
field-spelled top n P p w t h k =
    (p ++ plain w ++ space, digits_of (decimal n), refl, (p ++ plain w, space, refl, (p, plain w, refl, k, refl), blanks), (h, decimal-digits n (omega arith)))

pub header-spelled : (top n m : ℕ) (tail : List ℕ) → top < 2 ^ 63 → n ≤ top → m ≤ top → SpellsHeader top n m tail (header_text n m tail)
header-spelled top n m tail t h k =
    let F : List Letter = star ++ space ++ plain variable_word ++ space ++ digits_of (decimal n) in
    let S : List Letter = F ++ space ++ plain constraint_word ++ space ++ digits_of (decimal m) in
    let f = field-spelled top n (Byte 42 ⋅ Blanks0) (star ++ space) variable_word t h (star, space, refl, refl, blanks) in
    let s = field-spelled top m (Byte 42 ⋅ Blanks0 ⋅ Bytes variable_word ⋅ Blanks0 ⋅ Count top n ⋅ Blanks1) (F ++ space) constraint_word t k (F, space, refl, f, (32, [], refl, tt, refl)) in
    (S ++ plain tail, feed, refl, (S, plain tail, refl, s, refl), refl)

comment-spelled : (text : List ℕ) → SpellsComment text (comment_text text)
comment-spelled text = (star ++ plain text, feed, refl, (star, plain text, refl, refl, refl), refl)

objective-spelled : (limit : ℕ) (terms : List Term) → limit < 2 ^ 127 → AreTerms limit terms → SpellsObjective limit terms (objective_text terms)
objective-spelled limit terms l h =
    let W : List Letter = plain min_word in
    let S : List Letter = sum_text terms in
    let lead : (Bytes min_word ⋅ Whites0) (W ++ space) = (W, space, refl, refl, (32 ∷ [], (refl, tt), refl)) in
    let sum = sum-spelled limit (omega arith) White terms h in
    (W ++ space ++ S ++ following terms, unmarked 59 ∷ [], refl, (W ++ space ++ S, following terms, refl, (W ++ space, S, refl, lead, sum), whites terms), refl)
  where
    whites : (xs : List Term) → Whites0 (following xs)
    whites [] = ([], tt, refl)
    whites (x ∷ xs) = (32 ∷ [], (refl, tt), refl)

-- Their bytes.
regrouped : (a b c d e f g h i j k : List Letter) → a ++ b ++ c ++ d ++ e ++ f ++ g ++ h ++ i ++ j ++ k ≡ a ++ (b ++ (c ++ (d ++ (e ++ (f ++ (g ++ (h ++ (i ++ (j ++ k)))))))))
regrouped a b c d e f g h i j k = simp append_assoc

pub header-bytes : (n m : ℕ) (tail : List ℕ) → bytes (header_text n m tail) ≡ header_bytes n m tail ++ (10 ∷ [])
header-bytes n m tail =
    ap bytes (regrouped star space (plain variable_word) space (digits_of (decimal n)) space (plain constraint_word) space (digits_of (decimal m)) (plain tail) feed)
    ∙ simp (bytes-append, bytes-digits, bytes-plain, append_assoc)

comment-bytes : (text : List ℕ) → bytes (comment_text text) ≡ (42 ∷ text) ++ (10 ∷ [])
comment-bytes text = simp (bytes-append, bytes-plain)

regrouped5 : (a b c d e : List Letter) → a ++ b ++ c ++ d ++ e ≡ a ++ (b ++ ((c ++ d) ++ e))
regrouped5 a b c d e = simp append_assoc

head-bytes : (terms : List Term) → bytes (sum_text terms ++ following terms) ≡ head_bytes terms
head-bytes terms = grind (arith, bytes-append, bytes-sum)

objective-bytes : (terms : List Term) → bytes (objective_text terms) ≡ objective_bytes terms
objective-bytes terms = grind (arith, regrouped5, bytes-append, head-bytes)

-- Statements with white space before them: a line feed, unless the statement before ended with one.
abbrev gap_of : Bool → List ℕ
gap_of true = 10 ∷ []
gap_of false = []

abbrev owes : OpbEvent → Bool
owes (Header n m tail) = false
owes (Comment text) = false
owes (Objective terms) = true
owes (Constraint linear) = true

abbrev item_of : Bool → OpbEvent → Item OpbEvent
item_of remaining e = record { gap = gap_of remaining; text = text_of e; event = e }

abbrev pub spelled : Bool → List OpbEvent → List (Item OpbEvent)
spelled remaining [] = []
spelled remaining (e ∷ events) = item_of remaining e ∷ spelled (owes e) events

abbrev pub lead : Bool → List OpbEvent → List ℕ
lead true events = led_lines events
lead false events = lines events

-- an objective or a constraint
abbrev pub IsMain : OpbEvent → Type 0
IsMain (Header n m tail) = ⊥
IsMain (Comment text) = ⊥
IsMain (Objective terms) = Unit {0}
IsMain (Constraint linear) = Unit {0}

abbrev pub AreMain : List OpbEvent → Type 0
AreMain [] = Unit {0}
AreMain (e ∷ events) = IsMain e × AreMain events

pub item-bytes : (i : Item OpbEvent) (rest : List (Item OpbEvent)) → bytes_of (i ∷ rest) ≡ i.gap ++ (bytes i.text ++ bytes_of rest)
item-bytes i rest = grind (arith, bytes-append, i.gap, i.text, bytes-plain)

lead-first : (remaining : Bool) (e : OpbEvent) (events : List OpbEvent) → gap_of remaining ++ (event_bytes e ++ led_lines events) ≡ lead remaining (e ∷ events)
lead-first remaining e events = grind (arith, append-nil, led-lines)

main-bytes : (remaining : Bool) (e : OpbEvent) (events : List OpbEvent) → IsMain e → bytes_of (spelled true events) ≡ led_lines events
    → bytes_of (spelled remaining (e ∷ events)) ≡ lead remaining (e ∷ events)
main-bytes remaining (Header n m tail) events h ih = absurd h
main-bytes remaining (Comment text) events h ih = absurd h
main-bytes remaining (Objective terms) events h ih =
    item-bytes (item_of remaining (Objective terms)) (spelled true events)
    ∙ (ap (λ y. gap_of remaining ++ (y ++ bytes_of (spelled true events))) (objective-bytes terms)
    ∙ (ap (λ y. gap_of remaining ++ (objective_bytes terms ++ y)) ih ∙ lead-first remaining (Objective terms) events))
main-bytes remaining (Constraint linear) events h ih =
    item-bytes (item_of remaining (Constraint linear)) (spelled true events)
    ∙ (ap (λ y. gap_of remaining ++ (y ++ bytes_of (spelled true events))) (bytes-linear linear)
    ∙ (ap (λ y. gap_of remaining ++ (linear_bytes linear ++ y)) ih ∙ lead-first remaining (Constraint linear) events))

comments-bytes : (cs : List comment.Comment) (e : OpbEvent) (events : List OpbEvent) → ((remaining : Bool) → bytes_of (spelled remaining (e ∷ events)) ≡ lead remaining (e ∷ events))
    → (remaining : Bool) → bytes_of (spelled remaining (comment_events cs ++ e ∷ events)) ≡ lead remaining (comment_events cs ++ e ∷ events)
comments-bytes [] e events ih remaining = ih remaining
comments-bytes (c ∷ cs) e events ih remaining =
    let rest : List OpbEvent = comment_events cs ++ e ∷ events in
    item-bytes (item_of remaining (Comment c.text)) (spelled false rest)
    ∙ (ap (λ y. gap_of remaining ++ (y ++ bytes_of (spelled false rest))) (comment-bytes c.text)
    ∙ (ap (λ y. gap_of remaining ++ (((42 ∷ c.text) ++ (10 ∷ [])) ++ y)) (comments-bytes cs e events ih false)
    ∙ (ap (λ y. gap_of remaining ++ y) (append_assoc (42 ∷ c.text) (10 ∷ []) (lines rest))
    ∙ (ap (λ y. gap_of remaining ++ ((42 ∷ c.text) ++ y)) (led-between (comment_events cs) e events) ∙ lead-first remaining (Comment c.text) rest))))

-- the bytes of statements in order are their lines
pub body-bytes : (events : List OpbEvent) → AreMain events → (n : ℕ) (cs : List comment.Comment) (remaining : Bool) → bytes_of (spelled remaining (in_order n cs events)) ≡ lead remaining (in_order n cs events)
body-bytes [] h n cs remaining = grind arith
body-bytes (e ∷ events) h n cs remaining =
    let later : List comment.Comment = drop (due n cs) cs in
    comments-bytes (take (due n cs) cs) e (in_order (n + 1) later events)
    (λ o. main-bytes o e (in_order (n + 1) later events) h.0 (body-bytes events h.1 (n + 1) later true)) remaining

-- The statements are those of an instance.
abbrev pub AreInLines : List comment.Comment → Type 0
AreInLines [] = Unit {0}
AreInLines (c ∷ cs) = IsInLine c.text × AreInLines cs

in_lines-take : (k : ℕ) (cs : List comment.Comment) → AreInLines cs → AreInLines (take k cs)
in_lines-take zero cs h = tt
in_lines-take (suc k) [] h = tt
in_lines-take (suc k) (c ∷ cs) h = (h.0, in_lines-take k cs h.1)

in_lines-drop : (k : ℕ) (cs : List comment.Comment) → AreInLines cs → AreInLines (drop k cs)
in_lines-drop zero cs h = h
in_lines-drop (suc k) [] h = tt
in_lines-drop (suc k) (c ∷ cs) h = in_lines-drop k cs h.1

gap-white : (remaining : Bool) → Each (λ b. IsTrue (is_white b)) (gap_of remaining)
gap-white remaining = grind arith

module _ (limit : ℕ) (small : limit < 2 ^ 127) where
  comments-body : (cs : List comment.Comment) → AreInLines cs → (objective_allowed : Bool) (n : ℕ) (events : List OpbEvent) → ((remaining : Bool) → IsCounted limit objective_allowed (suc n) (spelled remaining events))
      → (remaining : Bool) → IsCounted limit objective_allowed (suc n) (spelled remaining (comment_events cs ++ events))
  comments-body [] h objective_allowed n events ih remaining = ih remaining
  comments-body (c ∷ cs) h objective_allowed n events ih remaining = (gap-white remaining, (h.0, comment-spelled c.text, comments-body cs h.1 objective_allowed n events ih false))

  pub constraints-body : (ls : List Linear) → AreLinears limit ls → (cs : List comment.Comment) → AreInLines cs → (objective_allowed : Bool) (n : ℕ) (remaining : Bool)
      → IsCounted limit objective_allowed (length ls) (spelled remaining (in_order n cs (constraint_events ls)))
  constraints-body [] h cs i objective_allowed n remaining = tt
  constraints-body (l ∷ ls) h cs i objective_allowed n remaining =
      let later : List comment.Comment = drop (due n cs) cs in
      comments-body (take (due n cs) cs) (in_lines-take (due n cs) cs i) objective_allowed (length ls) (Constraint l ∷ in_order (n + 1) later (constraint_events ls))
      (λ o. (gap-white o, (linear-spelled limit (omega arith) White l h.0, constraints-body ls h.1 later (in_lines-drop (due n cs) cs i) false (n + 1) true))) remaining

  pub objective-body : (terms : List Term) → AreTerms limit terms → (ls : List Linear) → 0 < length ls → AreLinears limit ls → (cs : List comment.Comment) → AreInLines cs → (n : ℕ) (remaining : Bool)
      → IsCounted limit true (length ls) (spelled remaining (in_order n cs (Objective terms ∷ constraint_events ls)))
  objective-body terms t [] some h cs i n remaining = absurd (omega arith)
  objective-body terms t (l ∷ ls) some h cs i n remaining =
      let later : List comment.Comment = drop (due n cs) cs in
      comments-body (take (due n cs) cs) (in_lines-take (due n cs) cs i) true (length ls) (Objective terms ∷ in_order (n + 1) later (constraint_events (l ∷ ls)))
      (λ o. (gap-white o, (refl, objective-spelled limit terms small t, constraints-body (l ∷ ls) h later (in_lines-drop (due n cs) cs i) false (n + 1) true))) remaining
