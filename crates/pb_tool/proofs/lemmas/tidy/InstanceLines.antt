-- The text of an instance whose statements are gathered one by one is its canonical text.
use Rattle.{pb_opb.proofs.lemmas.instances.Kept.reported, std.proofs.lemmas.Bool.Decides.nat_tests, pb_tool.proofs.lemmas.file.GivenBytes.written_so}
use Rattle.pb_tool.proofs.Common.{ℕ, ◌++◌, ◌+◌, ◌==◌, ◌↔◌, ◌∙◌, ◌∷◌, ◌≡◌, ◌≤◌, [], ap, append-nil, append_assoc, ap₂, arith, Bool, drop, false, IsTrue, length}
use Rattle.pb_tool.proofs.Common.{List, None, Option, refl, Result, Some, subst, suc, sym, take, true, zero, both_ways, cond-false, cond-true, AllByRecursion}
use Rattle.pb_tool.proofs.Common.{flat_map, counted, IsCounted, IsEntry, body_events, comment_events, constraint_events, due, event_bytes, header_bytes}
use Rattle.pb_tool.proofs.Common.{in_order, instance_bytes, lines, objective_events, Instance, OpbEvent, Comment, Constraint, Header, Objective, MayKeep}
use Rattle.pb_tool.proofs.Common.{IsBegun, IsInstance, comment_at, comments_in, constraints_in, IsValueOf, last_or, objectives_in, head_bytes, Linear, Term}
use Rattle.pb_tool.proofs.Common.{stops_in, Limits, Spanned, Stop, largest, top_of, Item, Letter, events_of, gathered, IsRead, IsWhole, MayHold, ReadsValue}
use Rattle.pb_tool.proofs.Common.{ReadsWhole, ToolFault, TidiesEach, IsInstanceTextOf, line, line_if, text_of, with, AsksInInstanceText, ends_in_feed, is_bare}
use Rattle.pb_tool.proofs.Common.{IsFile, IsInstanceText, IsRefused, tidied, Tidies, TidiesAs, InRest, InText}
use Rattle.pb_tool.specs.{declared.commands.tidy.instance_text.InstanceText.InstanceText, engine.InstanceText.asks}
use Rattle.pb_opb.specs.declared.Comment as comment
use Rattle.pb_text.proofs.lemmas.text.Formats as formats

-- the text ends with this byte
abbrev EndsWith : ℕ → List ℕ → Type 0
EndsWith b text = (prefix : List ℕ) × (text ≡ prefix ++ b ∷ [])

at_end : (b : ℕ) (prefix : List ℕ) → ends_in_feed (prefix ++ b ∷ []) ≡ (b == 10)
at_end b [] = refl
at_end b (c ∷ []) = refl
at_end b (c ∷ d ∷ prefix) = at_end b (d ∷ prefix)

ends_longer : (b : ℕ) (a text : List ℕ) → EndsWith b text → EndsWith b (a ++ text)
ends_longer b a text (prefix, e) = (a ++ prefix, ap (λ (x : List ℕ). a ++ x) e ∙ sym (append_assoc a prefix (b ∷ [])))

ends_more : (b c : ℕ) (text : List ℕ) → EndsWith b text → EndsWith b (c ∷ text)
ends_more b c text (prefix, e) = (c ∷ prefix, ap (λ (x : List ℕ). c ∷ x) e)

-- an objective and a constraint end with `;`
linear_ends : (linear : Linear) → EndsWith 59 (event_bytes (Constraint linear))
linear_ends linear = ends_longer 59 _ _ (ends_longer 59 _ _ (ends_more 59 32 _ (ends_longer 59 _ _ (32 ∷ [], refl))))

objective_ends : (terms : List Term) → EndsWith 59 (event_bytes (Objective terms))
objective_ends terms = ends_longer 59 (109 ∷ 105 ∷ 110 ∷ 58 ∷ []) (32 ∷ (head_bytes terms ++ 59 ∷ [])) (ends_more 59 32 (head_bytes terms ++ 59 ∷ []) (ends_longer 59 (head_bytes terms) (59 ∷ []) ([], refl)))

-- statements, each of which ends with `;`
abbrev AllEnd : List OpbEvent → Type 0
AllEnd = AllByRecursion (λ e. EndsWith 59 (event_bytes e))

-- one statement before others
one_prefix : (e : OpbEvent) (prefix : List OpbEvent) (f : OpbEvent) (rest : List OpbEvent) → EndsWith 59 (lines (prefix ++ f ∷ rest)) → EndsWith 59 (lines (e ∷ (prefix ++ f ∷ rest)))
one_prefix e [] f rest k = ends_longer 59 (event_bytes e) (10 ∷ lines (f ∷ rest)) (ends_more 59 10 (lines (f ∷ rest)) k)
one_prefix e (g ∷ prefix) f rest k = ends_longer 59 (event_bytes e) (10 ∷ lines ((g ∷ prefix) ++ f ∷ rest)) (ends_more 59 10 (lines ((g ∷ prefix) ++ f ∷ rest)) k)

-- lines end as the last of them does
lines_end : (first : List OpbEvent) (e : OpbEvent) (rest : List OpbEvent) → EndsWith 59 (lines (e ∷ rest)) → EndsWith 59 (lines (first ++ e ∷ rest))
lines_end [] e rest h = h
lines_end (f ∷ first) e rest h = one_prefix f first e rest (lines_end first e rest h)

-- a statement and those after it
after_ends : (n : ℕ) (comments : List comment.Comment) (e : OpbEvent) (events : List OpbEvent) → EndsWith 59 (event_bytes e) → AllEnd events → EndsWith 59 (lines (e ∷ in_order n comments events))
after_ends n comments e [] h k = h
after_ends n comments e (f ∷ events) h k =
    let later = in_order (n + 1) (drop (due n comments) comments) events in let prefix = comment_events (take (due n comments) comments) in
    let following : EndsWith 59 (lines (f ∷ later)) = after_ends (n + 1) (drop (due n comments) comments) f events k.0 k.1 in
    one_prefix e prefix f later (lines_end prefix f later following)

in_order_ends : (n : ℕ) (comments : List comment.Comment) (e : OpbEvent) (events : List OpbEvent) → AllEnd (e ∷ events) → EndsWith 59 (lines (in_order n comments (e ∷ events)))
in_order_ends n comments e events h =
    lines_end (comment_events (take (due n comments) comments)) e (in_order (n + 1) (drop (due n comments) comments) events) (after_ends (n + 1) (drop (due n comments) comments) e events h.0 h.1)

all_constraints : (constraints : List Linear) → AllEnd (constraint_events constraints)
all_constraints [] = tt
all_constraints (c ∷ constraints) = (linear_ends c, all_constraints constraints)

not_feed : (text : List ℕ) → EndsWith 59 text → ends_in_feed text ≡ false
not_feed text (prefix, e) = ap ends_in_feed e ∙ at_end 59 prefix

ends_by_parts : (v : Instance) (objective : Option (List Term)) (constraints : List Linear) → v.objective ≡ objective → v.constraints ≡ constraints → ends_in_feed (instance_bytes v) ≡ is_bare objective constraints
ends_by_parts v None [] o c =
    let events : objective_events v.objective ++ constraint_events v.constraints ≡ [] = rw (o, c) refl in
    ap (λ (x : List OpbEvent). ends_in_feed (header_bytes v.variables (length v.constraints) v.tail ++ (10 ∷ lines (in_order 0 v.comments x)))) events ∙ at_end 10 (header_bytes v.variables (length v.constraints) v.tail)
ends_by_parts v None (x ∷ constraints) o c =
    let events : objective_events v.objective ++ constraint_events v.constraints ≡ Constraint x ∷ constraint_events constraints = rw (o, c) refl in
    let body : EndsWith 59 (lines (body_events v)) = subst (λ (es : List OpbEvent). EndsWith 59 (lines (in_order 0 v.comments es))) (sym events) (in_order_ends 0 v.comments (Constraint x) (constraint_events constraints) (linear_ends x, all_constraints constraints)) in
    not_feed (instance_bytes v) (ends_longer 59 (header_bytes v.variables (length v.constraints) v.tail) (10 ∷ lines (body_events v)) (ends_more 59 10 (lines (body_events v)) body))
ends_by_parts v (Some terms) constraints o c =
    let events : objective_events v.objective ++ constraint_events v.constraints ≡ Objective terms ∷ constraint_events constraints = rw (o, c) refl in
    let body : EndsWith 59 (lines (body_events v)) = subst (λ (es : List OpbEvent). EndsWith 59 (lines (in_order 0 v.comments es))) (sym events) (in_order_ends 0 v.comments (Objective terms) (constraint_events constraints) (objective_ends terms, all_constraints constraints)) in
    not_feed (instance_bytes v) (ends_longer 59 (header_bytes v.variables (length v.constraints) v.tail) (10 ∷ lines (body_events v)) (ends_more 59 10 (lines (body_events v)) body))

-- the canonical text ends in a line feed if and only if it is the header alone
pub ends_bare : (v : Instance) → ends_in_feed (instance_bytes v) ≡ is_bare v.objective v.constraints
ends_bare v = ends_by_parts v v.objective v.constraints refl refl

-- what is written for a header alone, and for more
pub tidied_bare : (v : Instance) → is_bare v.objective v.constraints ≡ true → tidied v ≡ instance_bytes v
tidied_bare v e = cond-true (ends_in_feed (instance_bytes v)) (instance_bytes v) (instance_bytes v ++ 10 ∷ []) (ends_bare v ∙ e)

pub tidied_more : (v : Instance) → is_bare v.objective v.constraints ≡ false → tidied v ≡ instance_bytes v ++ 10 ∷ []
tidied_more v e = cond-false (ends_in_feed (instance_bytes v)) (instance_bytes v) (instance_bytes v ++ 10 ∷ []) (ends_bare v ∙ e)

-- ---- the statements of an instance come in the order that its canonical text has

-- the objectives and the constraints
abbrev pub mains_in : List OpbEvent → List OpbEvent
mains_in [] = []
mains_in (Objective t ∷ events) = Objective t ∷ mains_in events
mains_in (Constraint l ∷ events) = Constraint l ∷ mains_in events
mains_in (e ∷ events) = mains_in events

-- a comment that is due comes first
comment_first : (k : ℕ) (t : List ℕ) (cs : List comment.Comment) (e : OpbEvent) (ms : List OpbEvent) → in_order k (comment_at k t ∷ cs) (e ∷ ms) ≡ Comment t ∷ in_order k cs (e ∷ ms)
comment_first k t cs e ms = grind (arith, nat_tests)

-- no comment after a later statement is due
late : (events : List OpbEvent) (k j : ℕ) → k + 1 ≤ j → due k (comments_in j events) ≡ 0
late [] k j h = refl
late (e ∷ events) k j h = grind (arith, nat_tests, late events k j, late events k (j + 1))

-- a statement comes first if no comment before it is due
main_first : (k : ℕ) (e : OpbEvent) (events : List OpbEvent) → in_order (k + 1) (comments_in (k + 1) events) (mains_in events) ≡ events
    → in_order k (comments_in (k + 1) events) (e ∷ mains_in events) ≡ e ∷ events
main_first k e events h = rw (late events k (k + 1) (omega arith)) (ap (λ (xs : List OpbEvent). e ∷ xs) h)

-- The order of the statements after a header, n of which are constraints.
pub record Follows (may : Bool) (n : ℕ) (events : List OpbEvent) : Type 0 where
  pub some : 1 ≤ n → ((l : Linear) × (ls : List Linear) × (constraints_in events ≡ l ∷ ls)) × ((e : OpbEvent) × (ms : List OpbEvent) × (mains_in events ≡ e ∷ ms))
  pub in_place : (k : ℕ) → in_order k (comments_in k events) (mains_in events) ≡ events
  pub only_constraints : may ≡ false → (objectives_in events ≡ []) × (mains_in events ≡ constraint_events (constraints_in events))
  pub mains : mains_in events ≡ objective_events (last_or None (objectives_in events)) ++ constraint_events (constraints_in events)

module _ (limit : ℕ) where
  follows-entry : (may : Bool) (n : ℕ) (text : List Letter) (e : OpbEvent) (rest : List (Item OpbEvent))
      → ((m : Bool) (k : ℕ) → IsCounted limit m k rest → Follows m k (events_of rest))
      → IsEntry limit may n text (λ m k. IsCounted limit m k rest) e → Follows may (suc n) (e ∷ events_of rest)
  follows-entry may n text (Header a b t) rest ih h = absurd h
  follows-entry may n text (Comment t) rest ih h =
      let r : Follows may (suc n) (events_of rest) = ih may (suc n) h.2 in
      record {
        some = r.some;
        in_place = λ k.
            let (f, ms, is) = (r.some (omega arith)).1 in
            let same : in_order k (comments_in k (events_of rest)) (f ∷ ms) ≡ events_of rest = subst (λ (xs : List OpbEvent). in_order k (comments_in k (events_of rest)) xs ≡ events_of rest) is (r.in_place k) in
            ap (in_order k (comment_at k t ∷ comments_in k (events_of rest))) is ∙ (comment_first k t (comments_in k (events_of rest)) f ms ∙ ap (λ (xs : List OpbEvent). Comment t ∷ xs) same);
        only_constraints = r.only_constraints;
        mains = r.mains;
      }
  follows-entry may n text (Objective t) rest ih h =
      let r : Follows false (suc n) (events_of rest) = ih false (suc n) h.2 in let only = r.only_constraints refl in
      let first : OpbEvent = Objective t in
      record {
        some = λ i. ((r.some i).0, (first, mains_in (events_of rest), refl));
        in_place = λ k. main_first k first (events_of rest) (r.in_place (k + 1));
        only_constraints = λ e. absurd (both_ways may e h.0);
        mains = rw (only.0, only.1) refl;
      }
  follows-entry may n text (Constraint l) rest ih h =
      let r : Follows false n (events_of rest) = ih false n h.1 in let only = r.only_constraints refl in
      let first : OpbEvent = Constraint l in
      let all : mains_in (first ∷ events_of rest) ≡ constraint_events (constraints_in (first ∷ events_of rest)) = ap (λ (xs : List OpbEvent). first ∷ xs) only.1 in
      record {
        some = λ i. ((l, constraints_in (events_of rest), refl), (first, mains_in (events_of rest), refl));
        in_place = λ k. main_first k first (events_of rest) (r.in_place (k + 1));
        only_constraints = λ e. (only.0, all);
        mains = rw (only.0) all;
      }

  pub follows : (may : Bool) (n : ℕ) (items : List (Item OpbEvent)) → IsCounted limit may n items → Follows may n (events_of items)
  follows may zero [] h = record { some = λ i. absurd (let j : 1 ≤ 0 = i in omega arith); in_place = λ k. refl; only_constraints = λ e. (refl, refl); mains = refl }
  follows may (suc n) (i ∷ rest) h = follows-entry may n i.text i.event rest (λ m k b. follows m k rest b) h.1
  follows may n items h = absurd h

abbrev pub line_more : List ℕ → OpbEvent → List ℕ
line_more text e = text ++ line e

-- lines, each with a line feed
fed : (e : OpbEvent) (events : List OpbEvent) → flat_map line (e ∷ events) ≡ lines (e ∷ events) ++ 10 ∷ []
fed e [] = append-nil (line e)
fed e (f ∷ events) =
    ap (λ (x : List ℕ). line e ++ x) (fed f events)
    ∙ (append_assoc (event_bytes e) (10 ∷ []) (lines (f ∷ events) ++ 10 ∷ []) ∙ sym (append_assoc (event_bytes e) (10 ∷ lines (f ∷ events)) (10 ∷ [])))

-- the lines so far, and then those of the other statements
ended : (rest : List OpbEvent) (text : List ℕ) → gathered line_more text rest ≡ text ++ flat_map line rest
ended [] text = sym (append-nil text)
ended (e ∷ rest) text = ended rest (line_more text e) ∙ append_assoc text (line e) (flat_map line rest)

-- the line of the header, and those of the other statements
pub headed : (v : Instance) (head : List ℕ) (e : OpbEvent) (events : List OpbEvent) → instance_bytes v ≡ head ++ (10 ∷ lines (e ∷ events)) → is_bare v.objective v.constraints ≡ false
    → (head ++ 10 ∷ []) ++ flat_map line (e ∷ events) ≡ tidied v
headed v head e events bytes full =
    ap (λ (x : List ℕ). (head ++ 10 ∷ []) ++ x) (fed e events)
    ∙ (append_assoc head (10 ∷ []) (lines (e ∷ events) ++ 10 ∷ [])
    ∙ (sym (append_assoc head (10 ∷ lines (e ∷ events)) (10 ∷ []))
    ∙ (ap (λ (x : List ℕ). x ++ 10 ∷ []) (sym bytes) ∙ sym (tidied_more v full))))

-- the value of a header and what follows it
abbrev pub value_of : ℕ → List ℕ → List OpbEvent → Instance
value_of n tail events = record { variables = n; tail = tail; objective = last_or None (objectives_in events); comments = comments_in 0 events; constraints = constraints_in events }

pub is_value : (n m : ℕ) (tail : List ℕ) (limit : ℕ) (items : List (Item OpbEvent)) → IsCounted limit true m items → IsValueOf (Header n m tail ∷ events_of items) (value_of n tail (events_of items))
is_value n m tail limit items h = grind (arith, reported)

module _ (limit top : ℕ) where
  bare_not : (o : Option (List Term)) (l : Linear) (ls : List Linear) → is_bare o (l ∷ ls) ≡ false
  bare_not None l ls = refl
  bare_not (Some t) l ls = refl

  pub text_added : (n m : ℕ) (tail : List ℕ) (rest : List (Item OpbEvent)) → IsCounted limit true m rest → gathered line_more [] (Header n m tail ∷ events_of rest) ≡ tidied (value_of n tail (events_of rest))
  text_added n zero tail [] h = sym (tidied_bare (value_of n tail []) refl)
  text_added n (suc m) tail (i ∷ rest) h =
      let events : List OpbEvent = i.event ∷ events_of rest in
      let r : Follows true (suc m) events = follows limit true (suc m) (i ∷ rest) h in let v : Instance = value_of n tail events in
      let body : body_events v ≡ events = ap (in_order 0 (comments_in 0 events)) (sym r.mains) ∙ r.in_place 0 in
      let (l, ls, some) = (r.some (omega arith)).0 in
      let full : is_bare v.objective v.constraints ≡ false = ap (is_bare v.objective) some ∙ bare_not v.objective l ls in
      let head : List ℕ = header_bytes n (suc m) tail in
      let bytes : instance_bytes v ≡ head ++ (10 ∷ lines events) = ap₂ (λ (x : ℕ) (y : List OpbEvent). header_bytes n x tail ++ (10 ∷ lines y)) (reported limit true (suc m) (i ∷ rest) h).count body in
      ended events (head ++ 10 ∷ []) ∙ headed v head i.event (events_of rest) bytes full
  text_added n m tail items h = absurd h

-- ---- a file whose statements are gathered is one with a value, if what they are gathered to has the value

module _ {E T V : Type 0} (accepted format : List (Item E) → Type 0) (same : (items : List (Item E)) → accepted items ↔ format items) (longest : ℕ) (with : T → E → T) (empty : T)
    (IsValue : List E → V → Type 0) (Has : T → V → Type 0) (has_value : (items : List (Item E)) → format items → (v : V) × IsValue (events_of items) v × Has (gathered with empty (events_of items)) v) where
  only : (items : List (Item E)) → accepted items → format items
  only items h = (same items).0 h

  each : (items : List (Item E)) → format items → accepted items
  each items h = (same items).1 h

  -- what was read was read with the value
  abbrev valued : V → Spanned T → Spanned V
  valued v m = record { event = v; first = m.first; past = m.past }

  read_as : (used : List ℕ) (m : Spanned T) → IsWhole accepted longest with empty used m → (v : V) × IsRead format longest IsValue used (valued v m) × Has m.event v
  read_as used m w =
      let (v, is, has) = has_value w.spelled.items (only w.spelled.items w.spelled.spelled) in
      (v, record { spans = w.spans; spelled = formats.is_spelled accepted format only each longest used w.spans w.spelled; value = is; first = w.first; past = w.past }, subst (λ (t : T). Has t v) (sym w.value) has)

  pub file_as : (before after : Option (List ℕ)) (t : T) → IsFile (IsWhole accepted longest with empty) before after t → (v : V) × IsFile (IsRead format longest IsValue) before after v × Has t v
  file_as before after t f =
      let (v, is, has) = read_as f.used f.read f.spelled in
      (v, record { used = f.used; rest = f.rest; took = f.took; read = valued v f.read; spelled = is; blank = f.blank; within = f.within; value = refl }, subst (λ (x : T). Has x v) f.value has)

  module _ (may_ask MayAsk : List ℕ → ℕ → Type 0) (to : (used : List ℕ) (b : ℕ) → may_ask used b → MayAsk used b) (keeps : T → E → Bool) (MayKeep : List E → E → Type 0)
      (may_keep : (events : List E) (e : E) → IsTrue (keeps (gathered with empty events) e) → MayKeep events e) where
    pub refused_as : (before after : Option (List ℕ)) (s : Stop) → IsRefused (ReadsWhole accepted longest with empty may_ask keeps) before after s → IsRefused (ReadsValue format longest MayAsk MayKeep IsValue) before after s
    refused_as before after s (InText (used, seen, took, w)) = InText (used, seen, took, stops_in accepted format only each longest may_ask MayAsk to (MayHold with empty keeps) MayKeep may_keep used seen s w)
    refused_as before after s (InRest m mid (used, seen, took, w) blank) =
        let (v, is, has) = read_as used m w in InRest (valued v m) mid (used, seen, took, is) blank

-- if they are gathered as text, and the text is what is written for the value
module _ {E T V : Type 0} (accepted format : List (Item E) → Type 0) (same : (items : List (Item E)) → accepted items ↔ format items) (longest : ℕ) (with : T → E → T) (empty : T) (text_of : T → List ℕ)
    (IsValue : List E → V → Type 0) (tidied : V → List ℕ) (has_value : (items : List (Item E)) → format items → (v : V) × IsValue (events_of items) v × (text_of (gathered with empty (events_of items)) ≡ tidied v))
    (may_ask MayAsk : List ℕ → ℕ → Type 0) (to : (used : List ℕ) (b : ℕ) → may_ask used b → MayAsk used b) (keeps : T → E → Bool) (MayKeep : List E → E → Type 0)
    (may_keep : (events : List E) (e : E) → IsTrue (keeps (gathered with empty events) e) → MayKeep events e) where
  abbrev Spells : T → V → Type 0
  Spells t v = text_of t ≡ tidied v

  pub tidies_value : {W : Type 0} (contents : W → Option (List ℕ)) (faults : W → ℕ) (before : Option (List ℕ)) (old : W) (result : Result (Unit {0}) ToolFault) (after : Option (List ℕ)) (new : W)
      → TidiesAs (IsWhole accepted longest with empty) (ReadsWhole accepted longest with empty may_ask keeps) text_of contents faults before old result after new
      → TidiesAs (IsRead format longest IsValue) (ReadsValue format longest MayAsk MayKeep IsValue) tidied contents faults before old result after new
  tidies_value contents faults before old result after new t =
      written_so (IsFile (IsWhole accepted longest with empty) before after) text_of (IsRefused (ReadsWhole accepted longest with empty may_ask keeps) before after) contents faults
      (IsFile (IsRead format longest IsValue) before after) tidied (IsRefused (ReadsValue format longest MayAsk MayKeep IsValue) before after)
      (file_as accepted format same longest with empty IsValue Spells has_value before after) (refused_as accepted format same longest with empty IsValue Spells has_value may_ask MayAsk to keeps MayKeep may_keep before after) old result new t

-- ---- the text so far, and one more statement

-- the text so far and one more line, if no objective is stored
kept : (a p l : List ℕ) (o : Option OpbEvent) → o ≡ None → a ++ (p ++ l) ≡ (a ++ (p ++ line_if o)) ++ l
kept a p l o n =
    ap (λ (x : List ℕ). a ++ (x ++ l)) (sym (append-nil p)) ∙ (sym (append_assoc a (p ++ []) l) ∙ ap (λ (x : Option OpbEvent). (a ++ (p ++ line_if x)) ++ l) (sym n))

module _ (limit : ℕ) where
  kept-entry : (may : Bool) (n : ℕ) (text : List Letter) (e : OpbEvent) (rest : List (Item OpbEvent))
      → ((m : Bool) (k : ℕ) (t : InstanceText) → IsCounted limit m k rest → (m ≡ true → t.objective ≡ None) → text_of (gathered with t (events_of rest)) ≡ gathered line_more (text_of t) (events_of rest))
      → (t : InstanceText) → IsEntry limit may n text (λ m k. IsCounted limit m k rest) e → (may ≡ true → t.objective ≡ None)
      → text_of (gathered with t (e ∷ events_of rest)) ≡ gathered line_more (text_of t) (e ∷ events_of rest)
  kept-entry may n text (Header a b c) rest ih t h none = absurd h
  kept-entry may n text (Comment x) rest ih t h none =
      grind (arith, append-nil, append_assoc, ih may (suc n) (with t (Comment x)) h.2 (λ i. refl))
  kept-entry may n text (Objective terms) rest ih t h none =
      ih false (suc n) (with t (Objective terms)) h.2 (λ i. cc)
      ∙ ap (λ (x : List ℕ). gathered line_more x (events_of rest)) (kept (line_if t.header) t.page.text (line (Objective terms)) t.objective (none h.0))
  kept-entry may n text (Constraint l) rest ih t h none =
      grind (arith, append-nil, append_assoc, ih false n (with t (Constraint l)) h.1 (λ i. refl))

  kept_lines : (may : Bool) (n : ℕ) (items : List (Item OpbEvent)) (t : InstanceText) → IsCounted limit may n items → (may ≡ true → t.objective ≡ None) → text_of (gathered with t (events_of items)) ≡ gathered line_more (text_of t) (events_of items)
  kept_lines may zero [] t h none = refl
  kept_lines may (suc n) (i ∷ rest) t h none = kept-entry may n i.text i.event rest (λ m k u b o. kept_lines m k rest u b o) t h.1 none
  kept_lines may n items t h none = absurd h

-- ---- the text of an instance

module _ (limit top : ℕ) (empty : InstanceText) (no_page : empty.page.text ≡ []) (no_objective : empty.objective ≡ None) where
  begun_text : (i : Item OpbEvent) (rest : List (Item OpbEvent)) (e : OpbEvent) → IsBegun limit top i rest e → IsInstanceTextOf (e ∷ events_of rest) (gathered with empty (e ∷ events_of rest))
  begun_text i rest (Header n m tail) h =
      let first : List ℕ = line (Header n m tail) in
      let alone : text_of (with empty (Header n m tail)) ≡ first = ap₂ (λ (x : List ℕ) (o : Option OpbEvent). first ++ (x ++ line_if o)) no_page no_objective ∙ append-nil first in (
        value_of n tail (events_of rest),
        is_value n m tail limit rest (counted limit m rest h.3),
        kept_lines limit true m rest (with empty (Header n m tail)) (counted limit m rest h.3) (λ i. no_objective)
            ∙ (ap (λ (x : List ℕ). gathered line_more x (events_of rest)) alone ∙ text_added limit top n m tail rest (counted limit m rest h.3)),
      )
  begun_text i rest e h = absurd h

  instance_text : (items : List (Item OpbEvent)) → IsInstance limit top items → IsInstanceTextOf (events_of items) (gathered with empty (events_of items))
  instance_text [] h = absurd h
  instance_text (i ∷ rest) h = begun_text i rest i.event h

-- storing a statement as text allocates only if storing it as a value may
may_keep : (events : List OpbEvent) (e : OpbEvent) → IsTrue (asks e) → MayKeep events e
may_keep events (Header n m tail) h = cc
may_keep events (Comment x) h = h
may_keep events (Objective terms) h = cc
may_keep events (Constraint l) h = h

-- ---- what is written for an instance

module _ (limits : Limits) (longest : ℕ) (accepted : List (Item OpbEvent) → Type 0) (same : (items : List (Item OpbEvent)) → accepted items ↔ IsInstanceText limits items) (empty : InstanceText) (no_page : empty.page.text ≡ []) (no_objective : empty.objective ≡ None) (may_ask : List ℕ → ℕ → Type 0) where
  pub tidies_text : ((used : List ℕ) (b : ℕ) → may_ask used b → AsksInInstanceText limits used b) → {W : Type 0} (contents : W → Option (List ℕ)) (faults : W → ℕ) (before : Option (List ℕ)) (old : W) (result : Result (Unit {0}) ToolFault) (after : Option (List ℕ)) (new : W)
      → TidiesEach accepted longest with empty may_ask (λ t e. asks e) text_of contents faults before old result after new → Tidies limits longest false contents faults before old result after new
  tidies_text to contents faults before old result after new t =
      tidies_value accepted (IsInstanceText limits) same longest with empty text_of IsValueOf tidied (instance_text (largest limits) (top_of limits) empty no_page no_objective) may_ask (AsksInInstanceText limits) to (λ t e. asks e) MayKeep may_keep contents faults before old result after new t
