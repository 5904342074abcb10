-- What is written for an instance reads back as that instance.
use Rattle.pb_opb.proofs.Common.{ℕ, ◌++◌, ◌+◌, ◌<◌, ◌^◌, ◌∙◌, ◌∷◌, ◌≡◌, ◌≤◌, [], ap, append_assoc, arith, false, length, List, None, Option, refl, Some, true}
use Rattle.pb_opb.proofs.Common.{Linear, Term, bytes_of, Item, body_events, constraint_events, header_bytes, in_order, instance_bytes, lines, objective_events}
use Rattle.pb_opb.proofs.Common.{CanonicalInstance, OpbEvent, Header, Instance, AreComments, AreLinears, is_one, IsObjective, IsValueOf, statements, rules}
use Rattle.pb_opb.proofs.Common.{subst, sym, one_spelling, events_of, ReadsBack, begin, opb}
use Rattle.pb_opb.proofs.lemmas.instances.{Counted.IsCounted, Counted.body_of, OneValue.same_value}
use Rattle.pb_opb.proofs.lemmas.instances.Reported.{spelled-events, order_variables, order_tail, order_objective, order_constraints, order_comments, in_lines}
use Rattle.pb_opb.proofs.lemmas.instances.Spelled.{AreMain, AreInLines, spelled, header_text, header-spelled, header-bytes, item-bytes, body-bytes, constraints-body, objective-body}
use Rattle.pb_opb.{proofs.lemmas.machine.Bodies.instance_each, proofs.lemmas.machine.Bodies.finishes, specs.declared.instance.Comment.Comment}
use Rattle.std.proofs.lemmas.List.{length-map}

constraints_main : (ls : List Linear) → AreMain (constraint_events ls)
constraints_main [] = tt
constraints_main (l ∷ ls) = (tt, constraints_main ls)

all_main : (o : Option (List Term)) (ls : List Linear) → AreMain (objective_events o ++ constraint_events ls)
all_main o ls = grind (arith, constraints_main)

count_all : (o : Option (List Term)) (ls : List Linear) → length ls + is_one o ≤ 0 + length (objective_events o ++ constraint_events ls)
count_all o ls = grind (arith, length-map)

abbrev first_item : Instance → Item OpbEvent
first_item v = record { gap = []; text = header_text v.variables (length v.constraints) v.tail; event = Header v.variables (length v.constraints) v.tail }

abbrev items_of : Instance → List (Item OpbEvent)
items_of v = first_item v ∷ spelled false (body_events v)

instance-body : (limit : ℕ) → limit < 2 ^ 127 → (o : Option (List Term)) (ls : List Linear) (cs : List Comment) → IsObjective limit ls o → AreLinears limit ls → AreInLines cs
    → IsCounted limit true (length ls) (spelled false (in_order 0 cs (objective_events o ++ constraint_events ls)))
instance-body limit small None ls cs t h i = constraints-body limit small ls h cs i true 0 false
instance-body limit small (Some terms) ls cs t h i = objective-body limit small terms t.1 ls t.0 h cs i 0 false

instance-bytes : (v : Instance) → bytes_of (items_of v) ≡ instance_bytes v
instance-bytes v =
    item-bytes (first_item v) (spelled false (body_events v))
    ∙ (ap (λ (y : List ℕ). y ++ bytes_of (spelled false (body_events v))) (header-bytes v.variables (length v.constraints) v.tail)
    ∙ (ap (λ (y : List ℕ). (header_bytes v.variables (length v.constraints) v.tail ++ (10 ∷ [])) ++ y)
    (body-bytes (objective_events v.objective ++ constraint_events v.constraints) (all_main v.objective v.constraints) 0 v.comments false)
    ∙ append_assoc (header_bytes v.variables (length v.constraints) v.tail) (10 ∷ []) (lines (body_events v))))

instance-reported : (v : Instance) → AreComments 0 (statements v) v.comments → IsValueOf (Header v.variables (length v.constraints) v.tail ∷ body_events v) v
instance-reported v h = grind (arith, order_variables, v.comments, v.objective, v.constraints, v.variables, order_tail, v.tail, order_objective, order_comments, all_main, count_all, order_constraints)

pub canonical_instance : CanonicalInstance
canonical_instance limit top v l t h = (
  items_of v,
  (
    refl,
    h.tail,
    header-spelled top v.variables (length v.constraints) v.tail t h.variables h.count,
    body_of limit (length v.constraints) (spelled false (body_events v)) (instance-body limit l v.objective v.constraints v.comments h.objective h.constraints (in_lines 0 (statements v) v.comments h.comments)),
  ),
  instance-bytes v,
  rw (spelled-events false (body_events v)) (instance-reported v h.comments),
)

-- What is written reads back as the same value.
pub reads_back : ReadsBack
reads_back limit top longest v m low high rules r =
    let (items, spells, bytes, value) = canonical_instance limit top v low high rules in
    let same = one_spelling opb finishes (begin limit top) r.spelled.items items (instance_each limit top r.spelled.items r.spelled.spelled) (instance_each limit top items spells) (r.spelled.used_are ∙ sym bytes) in
    same_value (events_of items) m.event v (subst (λ (x : List (Item OpbEvent)). IsValueOf (events_of x) m.event) same r.value) value
