-- What a parse of the command says of the arguments.
use Rattle.clap.specs.{Words.App, Words.Row, Words.Text, Words.subcommand_of, declared.Error.Error, declared.error.ErrorKind.TheVariants.OutOfMemory}
use Rattle.pb_words.{proofs.Common.pb_command, specs.declared.words.Job.Job}
use Rattle.pb_words.proofs.Common.{◌≡◌, List, [], Option, Some, None, Result, Ok, Err, IfErr, IfOk, true, option_map, sym, ap, ◌∙◌, subst, inl, inr, IsErrAnd}
use Rattle.pb_words.proofs.Common.{IsSomeAnd, HasKind, fault_of, is_simple, is_simple_and_free, kind_of, WordsFault, AsksFor, ExplainsWords, IsEntryFault}
use Rattle.pb_words.specs.declared.words.fault.WordsFault.TheVariants.{Words, Memory}

pub right_words : (a : App) (words : List Text) → a ≡ pb_command → (is_simple_and_free a ≡ true → fault_of a words ≡ []) → fault_of pb_command words ≡ []
right_words a words app right = subst (λ (x : App). fault_of x words ≡ []) app (right (ap is_simple_and_free app))

-- the name and the entries of the subcommand are those of the arguments
pub named_entry : {B X : Type 0} (entry : B → Text × List Row) (found : Option B) (a : App) (words : List Text) (n : Text) (r : List Row) → a ≡ pb_command
    → (is_simple a ≡ true → X × (option_map entry found ≡ subcommand_of a words)) → Some n ≡ option_map (λ b. (entry b).0) found
    → Some r ≡ option_map (λ (p : Text × List Row). p.1) (option_map entry found) → subcommand_of pb_command words ≡ Some (n, r)
named_entry {B} entry found a words n r app met is has =
    sym (subst (λ (x : App). option_map entry found ≡ subcommand_of x words) app (met (ap is_simple app)).1) ∙ both found is has
  where
    joined : (x : Text) (y : List Row) → Some n ≡ Some x → Some r ≡ Some y → ◌≡◌ {A = Option (Text × List Row)} (Some (x, y)) (Some (n, r))
    joined x y e k = let first : n ≡ x = cc in let second : r ≡ y = cc in cc

    both : (o : Option B) → Some n ≡ option_map (λ b. (entry b).0) o → Some r ≡ option_map (λ (p : Text × List Row). p.1) (option_map entry o) → option_map entry o ≡ Some (n, r)
    both None e k = absurd (cc)
    both (Some b) e k = joined (entry b).0 (entry b).1 e k

pub always_ok : {T E : Type 0} (r : Result T E) (P : Type 0) → P → IfOk r (λ _. P)
always_ok (Ok x) P p = p
always_ok (Err e) P p = tt

-- clap's own error
pub explained_by_clap : {T : Type 0} (a : App) (words : List Text) (e : Error) (r : Result T WordsFault) → a ≡ pb_command → (is_simple_and_free a ≡ true → HasKind (fault_of a words) e)
    → IsErrAnd r (λ fault. fault ≡ Words e) → IfErr r (ExplainsWords words)
explained_by_clap a words e (Ok x) app kind is = absurd is
explained_by_clap a words e (Err fault) app kind is =
    subst (ExplainsWords words) (sym is) (inl (subst (λ (x : App). HasKind (fault_of x words) e) app (kind (ap is_simple_and_free app))))

-- an error in the entries of valid arguments
pub explained_by_entry : {T : Type 0} (words : List Text) (n : Text) (rows : List Row) (r : Result T WordsFault) → fault_of pb_command words ≡ [] → subcommand_of pb_command words ≡ Some (n, rows)
    → IfErr r (IsEntryFault (n, rows)) → IfErr r (ExplainsWords words)
explained_by_entry words n rows (Ok x) right named is = tt
explained_by_entry words n rows (Err Memory) right named is = right
explained_by_entry words n rows (Err (Words e)) right named is =
    inr (right, subst (λ (o : Option (Text × List Row)). IsSomeAnd o (λ entry. IsEntryFault entry (Words e))) (sym named) is)

-- the job that the entries of valid arguments ask for
pub asked_by_entry : (words : List Text) (n : Text) (rows : List Row) (r : Result Job WordsFault) → subcommand_of pb_command words ≡ Some (n, rows) → IfOk r (AsksFor (Some (n, rows)))
    → IfOk r (AsksFor (subcommand_of pb_command words))
asked_by_entry words n rows r named is = subst (λ (o : Option (Text × List Row)). IfOk r (AsksFor o)) (sym named) is

-- memory ran out while the command was built
pub explained_by_memory : {T : Type 0} (words : List Text) (e : Error) (r : Result T WordsFault) → kind_of e ≡ OutOfMemory → IsErrAnd r (λ fault. fault ≡ Words e) → IfErr r (ExplainsWords words)
explained_by_memory words e (Ok x) kind is = absurd is
explained_by_memory words e (Err fault) kind is = subst (ExplainsWords words) (sym is) (inl (inl kind))
