-- The text of a fault of a form.
use Rattle.pb_normal.specs.declared.fault.NormalFault.{NormalFault, TheVariants.Overflow, TheVariants.Memory}
use Rattle.std.specs.Prelude.{ℕ, List, codes}

abbrev pub fault_text : NormalFault → List ℕ
fault_text Overflow = codes "overflow"
fault_text Memory = codes "out of memory"
