-- The normal form of an instance, built as its statements come.
use Rattle.pb_normal.specs.meaning.{Constraints.AreFormsOf, Constraints.constraint_names, Constraints.sides_in, Form.Form, Written.linear_of}
use Rattle.{pb_normal.specs.meaning.Names.HasNames, pb_normal.specs.meaning.Names.with_names, pb_replay.specs.contract.Loading.names_on}
use Rattle.{pb_tool.specs.engine.InstanceText.line, std.specs.List.flat_map}
use Rattle.pb_opb.specs.declared.OpbEvent.{OpbEvent, TheVariants.Objective, TheVariants.Constraint}
use Rattle.pb_opb.specs.meaning.Values.{last_or, variables_in, objectives_in, constraints_in}
use Rattle.{pb_sums.specs.declared.Linear.Linear, pb_sums.specs.declared.Term.Term, pb_text.specs.declared.Limits.Limits, pb_text.specs.meaning.Limits.largest}
use Rattle.pb_tool.specs.{contract.Normalised.SomePasses, declared.commands.tidy.form_lines.FormLines.FormLines, declared.commands.tidy.normal_text.Forms.Forms}
use Rattle.pb_tool.specs.declared.commands.tidy.normal_text.Standing.{Standing, TheVariants.Stored, TheVariants.Lost, TheVariants.Overflows}
use Rattle.std.specs.Prelude.{◌≡◌, ℕ, List, [], length, Option, Some, None}

-- the lines of forms, written out with the names
abbrev pub form_lines : List (List ℕ) → List Form → List ℕ
form_lines names = flat_map (λ f. line (Constraint (linear_of names f)))

-- the forms of constraints as lines, over the names that have appeared
pub record AreLines (named : List (List ℕ)) (cs : List Linear) (t : FormLines) : Type 0 where
  pub forms : List Form
  pub names : t.names ≡ with_names [] named
  pub has : HasNames t.names (constraint_names cs)
  pub loaded : AreFormsOf t.names (sides_in cs) forms
  pub text : t.page.text ≡ form_lines t.names forms
  pub count : t.count ≡ length forms

-- what was made of constraints: their forms; or a constraint exceeds the limit; or none does and memory ran out
abbrev pub Made : Standing → Limits → List (List ℕ) → List Linear → FormLines → Type 0
Made Stored limits named cs lines = AreLines named cs lines × ¬ SomePasses (largest limits) cs
Made Lost limits named cs lines = ¬ SomePasses (largest limits) cs
Made Overflows limits named cs lines = SomePasses (largest limits) cs

abbrev pub AreMade : List (List ℕ) → List Linear → Forms → Type 0
AreMade named cs t = Made t.standing t.limits named cs t.lines

-- the objective as a statement
abbrev pub as_statement : Option (List Term) → Option OpbEvent
as_statement None = None
as_statement (Some terms) = Some (Objective terms)

-- what is stored of statements
pub record IsNoted (events : List OpbEvent) (variables : ℕ) (objective : Option OpbEvent) (forms : Forms) : Type 0 where
  pub variables_are : variables ≡ last_or 0 (variables_in events)
  pub objective_is : objective ≡ as_statement (last_or None (objectives_in events))
  pub made : AreMade (names_on events) (constraints_in events) forms
