-- What the arguments of the command line ask for.
use Rattle.clap.specs.{Simple.on_top, declared.error.ErrorKind.TheVariants.ValueValidation, declared.error.ErrorKind.TheVariants.MissingRequiredArgument}
use Rattle.clap.specs.Words.{App, HasKind, IsUnsignedIn, Row, Rule, Text, fault_of, first_of, kind_of, new_app, new_rule, subcommand_of, with_rule}
use Rattle.clap.specs.{Words.with_subcommand, declared.builder.action.ArgAction.TheVariants.SetTrue}
use Rattle.pb_words.specs.declared.words.{Selection.Selection, Job.TheVariants.Show, Job.TheVariants.Tidy, Job.TheVariants.Check, Job.TheVariants.Trace}
use Rattle.pb_words.specs.declared.words.{fault.WordsFault.WordsFault, Job.Job, fault.WordsFault.TheVariants.Words, fault.WordsFault.TheVariants.Memory}
use Rattle.std.specs.{Str.Parse.digits_value, Str.Parse.without_leading_plus, declared.alloc.Global.Global, Prelude.IsTrue}
use Rattle.std.specs.Prelude.{◌≡◌, ◌⊎◌, ◌↔◌, ℕ, ◌^◌, ◌≤◌, List, [], Option, Some, None, String, option_map, codes, Bool, true, string_bytes, IfSome, IsSomeAnd}

-- ---- The command: `pb show`, `pb tidy`, `pb check` and `pb trace`. `show` and `tidy` take FILE, and `tidy` also takes `--normal`.
-- ---- `check` and `trace` take INSTANCE, PROOF and `--progress`. `check` also takes `--stats` and `--explain`, and `trace`
-- ---- `--last`, `--from`, `--to` and `--ids`.
-- ---- Each of the four takes `--longest`, `--bits` and `--quiet`.

-- an argument that takes a value
abbrev pub value_rule : Text → Rule
value_rule name = record (new_rule name) { value_names = 1 }

abbrev pub file_rule : Rule
file_rule = value_rule (codes "file")

abbrev pub instance_rule : Rule
instance_rule = record (value_rule (codes "instance")) { required = true }

abbrev pub proof_rule : Rule
proof_rule = value_rule (codes "proof")

abbrev pub flag_rule : Text → Rule
flag_rule name = record (value_rule name) { long = Some name }

-- a flag without a value
abbrev pub switch_rule : Text → Rule
switch_rule name = record (new_rule name) { long = Some name; action = Some SetTrue }

-- with the flags that each of the four takes
abbrev pub with_shared : App → App
with_shared command =
    with_rule (with_rule (with_rule command (flag_rule (codes "longest"))) (flag_rule (codes "bits"))) (switch_rule (codes "quiet"))

abbrev pub reader_command : Text → App
reader_command name = with_shared (with_rule (new_app name) file_rule)

abbrev pub show_command : App
show_command = reader_command (codes "show")

abbrev pub tidy_command : App
tidy_command = with_rule (reader_command (codes "tidy")) (switch_rule (codes "normal"))

abbrev pub checker_command : Text → App
checker_command name = with_shared (with_rule (with_rule (new_app name) instance_rule) proof_rule)

abbrev pub check_command : App
check_command =
    with_rule (with_rule (with_rule (checker_command (codes "check")) (switch_rule (codes "stats"))) (switch_rule (codes "progress"))) (switch_rule (codes "explain"))

-- with the flags that select what a trace prints
abbrev pub with_selection : App → App
with_selection command =
    with_rule (with_rule (with_rule (with_rule command (flag_rule (codes "last"))) (flag_rule (codes "from"))) (flag_rule (codes "to"))) (switch_rule (codes "ids"))

abbrev pub trace_command : App
trace_command = with_rule (with_selection (checker_command (codes "trace"))) (switch_rule (codes "progress"))

-- the program without its subcommands
abbrev pub pb_program : App
pb_program = on_top (λ s. record s { has_version = true; subcommand_required = true; arg_required_else_help = true }) (new_app (codes "pb"))

abbrev pub pb_command : App
pb_command =
    with_subcommand (with_subcommand (with_subcommand (with_subcommand pb_program show_command.top) tidy_command.top) check_command.top)
    trace_command.top

-- ---- what a parse finds

-- the number of a flag, if the flag is given
abbrev pub IsFlag : ℕ → ℕ → Option Text → Option ℕ → Type 0
IsFlag low high None number = number ≡ None
IsFlag low high (Some text) number = IsUnsignedIn low high text × (number ≡ Some (digits_value 10 (without_leading_plus text)))

-- the same, with another number if the flag is absent
abbrev pub IsFlagOr : ℕ → ℕ → ℕ → Option Text → ℕ → Type 0
IsFlagOr other low high None number = number ≡ other
IsFlagOr other low high (Some text) number = IsUnsignedIn low high text × (number ≡ digits_value 10 (without_leading_plus text))

-- a flag without a value is on if it is given, and then its text is `true`
abbrev pub IsSwitch : Option Text → Bool → Type 0
IsSwitch text on = IsTrue on ↔ (text ≡ Some (codes "true"))

-- the numbers of the two flags `--longest` and `--bits`
abbrev pub AreNumbersOf : List Row → Option ℕ → ℕ → Type 0
AreNumbersOf rows longest bits = IsFlag 1 (2 ^ 40) (first_of (codes "longest") rows) longest × IsFlagOr 127 31 127 (first_of (codes "bits") rows) bits

-- the flags that each of the four takes
abbrev pub AreSharedOf : List Row → Option ℕ → ℕ → Bool → Type 0
AreSharedOf rows longest bits quiet = AreNumbersOf rows longest bits × IsSwitch (first_of (codes "quiet") rows) quiet

-- the entries of a subcommand are FILE and the flags that each of the four takes
pub record HasEntries (rows : List Row) (file : Option (String Global)) (longest : Option ℕ) (bits : ℕ) (quiet : Bool) : Type 0 where
  pub file_is : option_map string_bytes file ≡ first_of (codes "file") rows
  pub shared_are : AreSharedOf rows longest bits quiet

-- the files of `check` and `trace`: INSTANCE is given, and PROOF may be
abbrev pub AreFilesOf : List Row → String Global → Option (String Global) → Type 0
AreFilesOf rows instance proof =
    (Some (string_bytes instance) ≡ first_of (codes "instance") rows) × (option_map string_bytes proof ≡ first_of (codes "proof") rows)

-- the flags that select what a trace prints
pub record IsSelection (rows : List Row) (selection : Selection) : Type 0 where
  pub last_is : IsFlag 0 (2 ^ 40) (first_of (codes "last") rows) selection.last
  pub from_is : IsFlag 1 (2 ^ 40) (first_of (codes "from") rows) selection.from
  pub to_is : IsFlag 1 (2 ^ 40) (first_of (codes "to") rows) selection.to
  pub ids_is : IsSwitch (first_of (codes "ids") rows) selection.ids

-- the name of a subcommand that checks a proof
abbrev pub IsChecker : Text → Type 0
IsChecker name = (name ≡ codes "check") ⊎ (name ≡ codes "trace")

-- the name of a subcommand; each of them reads files
abbrev pub IsReader : Text → Type 0
IsReader name = (name ≡ codes "show") ⊎ ((name ≡ codes "tidy") ⊎ IsChecker name)

-- the subcommand that the arguments name, with its entries, asks for the job
abbrev pub AsksFor : Option (Text × List Row) → Job → Type 0
AsksFor None job = ⊥
AsksFor (Some named) (Show file longest bits quiet) = (named.0 ≡ codes "show") × HasEntries named.1 file longest bits quiet
AsksFor (Some named) (Tidy normal file longest bits quiet) =
    (named.0 ≡ codes "tidy") × IsSwitch (first_of (codes "normal") named.1) normal × HasEntries named.1 file longest bits quiet
AsksFor (Some named) (Check instance proof stats progress explain longest bits quiet) =
    (named.0 ≡ codes "check") × AreFilesOf named.1 instance proof × IsSwitch (first_of (codes "stats") named.1) stats
    × IsSwitch (first_of (codes "progress") named.1) progress × IsSwitch (first_of (codes "explain") named.1) explain
    × AreSharedOf named.1 longest bits quiet
AsksFor (Some named) (Trace instance proof selection progress longest bits quiet) =
    (named.0 ≡ codes "trace") × AreFilesOf named.1 instance proof × IsSelection named.1 selection
    × IsSwitch (first_of (codes "progress") named.1) progress × AreSharedOf named.1 longest bits quiet

abbrev pub AreInRange : Option ℕ → ℕ → Type 0
AreInRange longest bits = IfSome longest (λ n. (1 ≤ n) × (n ≤ 2 ^ 40)) × (31 ≤ bits) × (bits ≤ 127)

abbrev pub HasRanges : Job → Type 0
HasRanges (Show file longest bits quiet) = AreInRange longest bits
HasRanges (Tidy normal file longest bits quiet) = AreInRange longest bits
HasRanges (Check instance proof stats progress explain longest bits quiet) = AreInRange longest bits
HasRanges (Trace instance proof selection progress longest bits quiet) = AreInRange longest bits

-- ---- why a parse finds nothing

-- memory ran out, or the flag is given with something other than a number in its range
abbrev pub IsFlagFault : ℕ → ℕ → Option Text → WordsFault → Type 0
IsFlagFault low high text (Words e) = (kind_of e ≡ ValueValidation) × IsSomeAnd text (λ t. ¬ IsUnsignedIn low high t)
IsFlagFault low high text Memory = Unit {0}

abbrev pub HasWrongNumber : List Row → Type 0
HasWrongNumber rows =
    IsSomeAnd (first_of (codes "longest") rows) (λ t. ¬ IsUnsignedIn 1 (2 ^ 40) t)
    ⊎ IsSomeAnd (first_of (codes "bits") rows) (λ t. ¬ IsUnsignedIn 31 127 t)

abbrev pub IsNumberFault : List Row → WordsFault → Type 0
IsNumberFault rows (Words e) = (kind_of e ≡ ValueValidation) × HasWrongNumber rows
IsNumberFault rows Memory = Unit {0}

-- memory ran out, or INSTANCE is not given
abbrev pub IsInstanceFault : List Row → WordsFault → Type 0
IsInstanceFault rows (Words e) = (kind_of e ≡ MissingRequiredArgument) × (first_of (codes "instance") rows ≡ None)
IsInstanceFault rows Memory = Unit {0}

-- memory ran out, or a number of what a trace selects is wrong
abbrev pub HasWrongSelection : List Row → Type 0
HasWrongSelection rows =
    IsSomeAnd (first_of (codes "last") rows) (λ t. ¬ IsUnsignedIn 0 (2 ^ 40) t)
    ⊎ (IsSomeAnd (first_of (codes "from") rows) (λ t. ¬ IsUnsignedIn 1 (2 ^ 40) t)
    ⊎ IsSomeAnd (first_of (codes "to") rows) (λ t. ¬ IsUnsignedIn 1 (2 ^ 40) t))

abbrev pub IsSelectionFault : List Row → WordsFault → Type 0
IsSelectionFault rows (Words e) = (kind_of e ≡ ValueValidation) × HasWrongSelection rows
IsSelectionFault rows Memory = Unit {0}

-- a number of the subcommand is wrong, or one that `trace` selects by, or `check` or `trace` has no INSTANCE, or memory
-- ran out
abbrev pub IsEntryFault : Text × List Row → WordsFault → Type 0
IsEntryFault named fault =
    IsNumberFault named.1 fault ⊎ (((named.0 ≡ codes "trace") × IsSelectionFault named.1 fault) ⊎ (IsChecker named.0 × IsInstanceFault named.1 fault))

-- The arguments ask for help, are not valid for the command, or give a wrong number or no instance. Or memory ran out;
-- `Memory` means that this was after they were found to be valid.
abbrev pub ExplainsWords : List Text → WordsFault → Type 0
ExplainsWords words (Words e) =
    HasKind (fault_of pb_command words) e
    ⊎ ((fault_of pb_command words ≡ [])
    × IsSomeAnd (subcommand_of pb_command words) (λ named. IsEntryFault named (Words e)))
ExplainsWords words Memory = fault_of pb_command words ≡ []
