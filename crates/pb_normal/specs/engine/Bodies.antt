-- Forms as they are stored
use Rattle.pb_normal.specs.{declared.form.body.Body.Body, meaning.Form.Form}
use Rattle.pb_normal.specs.declared.form.body.Body.TheVariants.{Small, Large}

abbrev pub form_of : Body → Form
form_of (Small degree terms) = record { terms = terms; degree = degree }
form_of (Large large) = record { terms = large.value.terms; degree = large.value.degree }
