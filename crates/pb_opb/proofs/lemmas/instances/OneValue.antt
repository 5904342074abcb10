-- Statements have the value of one instance only. Offered to other crates.
use Rattle.pb_opb.proofs.Common.{ℕ, ◌∙◌, ◌≡◌, List, Option, refl, sym, Linear, Term, OpbEvent, Instance, IsValueOf}
use Rattle.pb_opb.specs.declared.instance.Comment.{Comment}

abbrev instance : ℕ → List ℕ → List Comment → Option (List Term) → List Linear → Instance
instance variables tail comments objective constraints =
    record { variables = variables; tail = tail; comments = comments; objective = objective; constraints = constraints }

same_fields : (a b : ℕ) (c d : List ℕ) (e f : List Comment) (g h : Option (List Term)) (i j : List Linear) → a ≡ b → c ≡ d → e ≡ f → g ≡ h → i ≡ j
    → instance a c e g i ≡ instance b d f h j
same_fields a b c d e f g h i j p q r s t = rw (p, q, r, s, t) refl

-- statements have one value
pub same_value : (events : List OpbEvent) (v w : Instance) → IsValueOf events v → IsValueOf events w → v ≡ w
same_value events v w h k =
    same_fields v.variables w.variables v.tail w.tail v.comments w.comments v.objective w.objective v.constraints w.constraints
    (h.variables ∙ sym k.variables) (h.tail ∙ sym k.tail) (h.comments ∙ sym k.comments) (h.objective ∙ sym k.objective) (h.constraints ∙ sym k.constraints)
