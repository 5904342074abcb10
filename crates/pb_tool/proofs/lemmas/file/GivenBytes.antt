-- What is ensured for the bytes that the calls of a source have given.
use Rattle.{pb_proof.specs.contract.Gather.MayKeep, pb_tool.specs.contract.Show.InText, pb_tool.specs.meaning.Files.IsRefused.InText as in_text}
use Rattle.pb_tool.proofs.Common.{ℕ, ◌++◌, ◌<◌, ◌^◌, ◌∙◌, ◌∷◌, ◌≡◌, ◌≢◌, ◌⊎◌, [], ap, append-nil, append_assoc, arith, Err, false, IfErr, inl, inr, List, None}
use Rattle.pb_tool.proofs.Common.{Ok, Option, refl, Result, rules, Some, subst, sym, true, unwrap_or, IfSome, IsErrAnd, eqb_tells, append_cancel_right, Keeps}
use Rattle.pb_tool.proofs.Common.{event_bytes, IsValueOf, statement_bytes, IsProof, IsProofOf, took_join, given_both, writes_nothing, first_fault, ReadsNothing}
use Rattle.pb_tool.proofs.Common.{Limits, Place, Spanned, Stop, ReadsBlank, OfGiven, Took, TookAll, Item, place_after, IsRead, Reading, ReadsValue, Broke}
use Rattle.pb_tool.proofs.Common.{Wrote, ShowsGiven, TidiesGiven, EndsAt, shown, ShowsLines, File, ToolFault, Text, Write, OfBoth, AsksInProofText, IsProofText}
use Rattle.pb_tool.proofs.Common.{MayBeInstance, MayBeProof, ShowsFile, tidied_proof, TidiesFile, TidiesProof, AsksInInstanceText, IsFile, IsInstanceText}
use Rattle.pb_tool.proofs.Common.{IsRefused, IsStopped, tidied, Tidies, TidiesAs, WritesText, InRest}
use Rattle.std.proofs.Math.Dec.{eqb}
use Rattle.pb_tool.proofs.lemmas.show.ShownStatements.{all_of, shows_end, shows_to, took_none, rest_within}
use Rattle.pb_opb.specs.meaning.Gather as opb_keeping
use Rattle.pb_proof.specs.contract.Gather as veri_keeping

-- What is right of a fault is right of the result that has it.
pub passed_on : {A E : Type 0} (P : E → Type 0) (r : Result A E) (e : E) → IsErrAnd r (λ f. f ≡ e) → P e → IfErr r P
passed_on P (Ok x) e is p = tt
passed_on P (Err f) e is p = subst P (sym is) p

-- ---- what was written and why, if each reading is also a reading of another kind

module _ {V : Type 0} (Has : V → Type 0) (text : V → List ℕ) (No : Stop → Type 0) {W : Type 0} (contents : W → Option (List ℕ)) (faults : W → ℕ) where
  pub written_so : {U : Type 0} (Shows : U → Type 0) (spelling : U → List ℕ) (Not : Stop → Type 0) → ((v : V) → Has v → (u : U) × Shows u × (text v ≡ spelling u)) → ((s : Stop) → No s → Not s)
      → (old : W) (result : Result (Unit {0}) ToolFault) (new : W) → WritesText Has (IsStopped No) text contents faults old result new → WritesText Shows (IsStopped Not) spelling contents faults old result new
  written_so Shows spelling Not has deny old (Ok u) new (v, h, w) = let (x, is, same) = has v h in (x, is, subst (λ (y : List ℕ). Wrote contents faults old y new) same w)
  written_so Shows spelling Not has deny old (Err Write) new (v, h, w) = let (x, is, same) = has v h in (x, is, subst (λ (y : List ℕ). Broke contents faults old y new) same w)
  written_so Shows spelling Not has deny old (Err (Text File s)) new (h, e) = (deny s h, e)
  written_so Shows spelling Not has deny old (Err e) new h = h

-- ---- what is ensured for a file, from what is ensured for a proof or an instance after a peek at its first byte

-- the limit on a statement, given or not, is not 0
pub some_of : (longest : Option ℕ) (n : ℕ) → n ≡ unwrap_or longest (2 ^ 40) → IfSome longest (λ m. 0 < m) → 0 < n
some_of None n e h = omega (arith, e)
some_of (Some m) n e h = omega (arith, e, h)

-- a proof has at least one statement
pub no_proof : (limit top : ℕ) → IsProof limit top [] → ⊥
no_proof limit top (v, (steps, are, first, spelled)) = first

-- ---- after a peek

pub took_before : (before mid after : Option (List ℕ)) (used seen : List ℕ) → Keeps before mid → Took mid used seen after → Took before used seen after
took_before None mid after used seen k t = tt
took_before (Some bytes) None after used seen k t = absurd k
took_before (Some bytes) (Some more) after used seen k t = (sym k ∙ t.0, t.1)

took_nothing : (before after : Option (List ℕ)) → Keeps before after → (seen : List ℕ) × Took before [] seen after
took_nothing before after k = let (seen, took) = took_none after in (seen, took_before before after after [] seen k took)

-- ---- what is shown

module _ {E : Type 0} (format : List (Item E) → Type 0) (longest : ℕ) (before mid : Option (List ℕ)) (k : Keeps before mid) where
  module _ (May : List ℕ → ℕ → Type 0) (text : E → List ℕ) {W : Type 0} (contents : W → Option (List ℕ)) (faults : W → ℕ) where
    pub shows_before : (old : W) (result : Result Unit ToolFault) (after : Option (List ℕ)) (new : W) → ShowsLines format longest May text contents faults mid old result after new → ShowsLines format longest May text contents faults before old result after new
    shows_before = shows_to format format longest (λ input used spans place done stop r. r) mid before (λ after used seen t. took_before before mid after used seen k t) May May (λ used b h. h) text contents faults

    -- nothing, if the source failed at its first byte
    pub shows_nothing : ReadsNothing format longest → (old : W) → ShowsLines format longest May text contents faults before old (Err (Text File first_fault)) mid old
    shows_nothing reads old =
        let t = took_nothing before mid k in
        ([], InText (record { used = []; seen = t.0; took = t.1; reads = reads t.0 }) tt, writes_nothing contents faults old)

-- ---- what is tidied

module _ (before mid : Option (List ℕ)) (k : Keeps before mid) {V : Type 0} where
  file_before : (IsReadOf : List ℕ → Spanned V → Type 0) (after : Option (List ℕ)) (v : V) → IsFile IsReadOf mid after v → IsFile IsReadOf before after v
  file_before IsReadOf after v f =
      record { used = f.used; rest = f.rest; took = took_before before mid after (f.used ++ f.rest) [] k f.took; read = f.read; spelled = f.spelled; blank = f.blank; within = f.within; value = f.value }

  module _ {E : Type 0} (format : List (Item E) → Type 0) (longest : ℕ) (May : List ℕ → ℕ → Type 0) (Keep : List E → E → Type 0) (IsValue : List E → V → Type 0) where
    no_file_before : (after : Option (List ℕ)) (s : Stop) → IsRefused (ReadsValue format longest May Keep IsValue) mid after s → IsRefused (ReadsValue format longest May Keep IsValue) before after s
    no_file_before after s (in_text (used, seen, took, r)) = in_text (used, seen, took_before before mid after used seen k took, r)
    no_file_before after s (InRest m next (used, seen, took, r) b) = InRest m next (used, seen, took_before before mid next used seen k took, r) b

    module _ (text : V → List ℕ) {W : Type 0} (contents : W → Option (List ℕ)) (faults : W → ℕ) where
      pub tidies_before : (old : W) (result : Result Unit ToolFault) (after : Option (List ℕ)) (new : W) → TidiesAs (IsRead format longest IsValue) (ReadsValue format longest May Keep IsValue) text contents faults mid old result after new
          → TidiesAs (IsRead format longest IsValue) (ReadsValue format longest May Keep IsValue) text contents faults before old result after new
      tidies_before old result after new t =
          written_so (IsFile (IsRead format longest IsValue) mid after) text (IsRefused (ReadsValue format longest May Keep IsValue) mid after) contents faults
          (IsFile (IsRead format longest IsValue) before after) text (IsRefused (ReadsValue format longest May Keep IsValue) before after) (λ v f. (v, file_before (IsRead format longest IsValue) after v f, refl)) (no_file_before after) old result new t

      -- nothing, if the source failed at its first byte
      pub tidies_nothing : ReadsNothing format longest → (old : W) → TidiesAs (IsRead format longest IsValue) (ReadsValue format longest May Keep IsValue) text contents faults before old (Err (Text File first_fault)) mid old
      tidies_nothing reads old = let t = took_nothing before mid k in (in_text ([], t.0, t.1, Reading [] (reads t.0) tt), refl)

-- ---- which format it is

by_byte : (b : ℕ) (text : List ℕ) → ((eqb b 112 ≡ true) × (b ≡ 112)) ⊎ ((eqb b 112 ≡ false) × (b ≢ 112)) → MayBeProof (Some (b ∷ text)) ⊎ MayBeInstance (Some (b ∷ text))
by_byte b text (inl h) = inl (text, ap (λ (x : ℕ). x ∷ text) h.1)
by_byte b text (inr h) = inr (λ k. h.1 (let e = k.1 in cc))

pub may_be : (before : Option (List ℕ)) → MayBeProof before ⊎ MayBeInstance before
may_be None = inr tt
may_be (Some []) = inr (λ h. let e = h.1 in cc)
may_be (Some (b ∷ text)) = by_byte b text (eqb_tells b 112)

module _ (limits : Limits) (longest n : ℕ) (is : longest ≡ n) {W : Type 0} (contents : W → Option (List ℕ)) (faults : W → ℕ) (before mid : Option (List ℕ)) (k : Keeps before mid) (old : W) where
  module _ (result : Result Unit ToolFault) (after : Option (List ℕ)) (new : W) where
    pub shows_proof : MayBeProof before → ShowsLines (IsProofText limits) longest (AsksInProofText limits) statement_bytes contents faults mid old result after new → ShowsFile limits n contents faults before old result after new
    shows_proof may s =
        subst (λ (m : ℕ). ShowsFile limits m contents faults before old result after new) is (inl (may, shows_before (IsProofText limits) longest before mid k (AsksInProofText limits) statement_bytes contents faults old result after new s))

    pub shows_instance : MayBeInstance before → ShowsLines (IsInstanceText limits) longest (AsksInInstanceText limits) event_bytes contents faults mid old result after new → ShowsFile limits n contents faults before old result after new
    shows_instance may s =
        subst (λ (m : ℕ). ShowsFile limits m contents faults before old result after new) is (inr (may, shows_before (IsInstanceText limits) longest before mid k (AsksInInstanceText limits) event_bytes contents faults old result after new s))

    pub tidies_proof : MayBeProof before → TidiesProof limits longest contents faults mid old result after new → TidiesFile limits n contents faults false before old result after new
    tidies_proof may t =
        subst (λ (m : ℕ). TidiesFile limits m contents faults false before old result after new) is (inl (may, tidies_before before mid k (IsProofText limits) longest (AsksInProofText limits) veri_keeping.MayKeep IsProofOf tidied_proof contents faults old result after new t))

    pub tidies_instance : MayBeInstance before → Tidies limits longest false contents faults mid old result after new → TidiesFile limits n contents faults false before old result after new
    tidies_instance may t =
        subst (λ (m : ℕ). TidiesFile limits m contents faults false before old result after new) is (inr (may, tidies_before before mid k (IsInstanceText limits) longest (AsksInInstanceText limits) opb_keeping.MayKeep IsValueOf tidied contents faults old result after new t))

  module _ (some : 0 < longest) (instance : (m : ℕ) → 0 < m → ReadsNothing (IsInstanceText limits) m) (proof : (m : ℕ) → 0 < m → ReadsNothing (IsProofText limits) m) (f : ToolFault) (fault : f ≡ Text File first_fault) where
    shows_none : MayBeProof before ⊎ MayBeInstance before → ShowsFile limits longest contents faults before old (Err (Text File first_fault)) mid old
    shows_none (inl may) = inl (may, shows_nothing (IsProofText limits) longest before mid k (AsksInProofText limits) statement_bytes contents faults (proof longest some) old)
    shows_none (inr may) = inr (may, shows_nothing (IsInstanceText limits) longest before mid k (AsksInInstanceText limits) event_bytes contents faults (instance longest some) old)

    tidies_none : MayBeProof before ⊎ MayBeInstance before → TidiesFile limits longest contents faults false before old (Err (Text File first_fault)) mid old
    tidies_none (inl may) = inl (may, tidies_nothing before mid k (IsProofText limits) longest (AsksInProofText limits) veri_keeping.MayKeep IsProofOf tidied_proof contents faults (proof longest some) old)
    tidies_none (inr may) = inr (may, tidies_nothing before mid k (IsInstanceText limits) longest (AsksInInstanceText limits) opb_keeping.MayKeep IsValueOf tidied contents faults (instance longest some) old)

    pub shows_unread : ShowsFile limits n contents faults before old (Err f) mid old
    shows_unread =
        subst (λ (m : ℕ). ShowsFile limits m contents faults before old (Err f) mid old) is
        (subst (λ (x : ToolFault). ShowsFile limits longest contents faults before old (Err x) mid old) (sym fault) (shows_none (may_be before)))

    pub tidies_unread : TidiesFile limits n contents faults false before old (Err f) mid old
    tidies_unread =
        subst (λ (m : ℕ). TidiesFile limits m contents faults false before old (Err f) mid old) is
        (subst (λ (x : ToolFault). TidiesFile limits longest contents faults false before old (Err x) mid old) (sym fault) (tidies_none (may_be before)))

-- ---- what is ensured for the bytes that the calls of a source have given

-- what follows from what holds of any bytes follows from what holds of these
pub given_by : {P Q : Option (List ℕ) → Option (List ℕ) → Type 0} (before after : List ℕ) → ((left rest : Option (List ℕ)) → P left rest → Q left rest) → OfGiven P before after → OfGiven Q before after
given_by before after to (given, seen, e, h) = (given, seen, e, to (Some (given ++ seen)) (Some seen) h)

pub of_both : {P Q : Option (List ℕ) → Option (List ℕ) → Type 0} (before : Option (List ℕ)) (since : List ℕ) (rest : Option (List ℕ)) (now : List ℕ)
    → ((left end : Option (List ℕ)) → P left end → Q left end) → OfBoth P before since rest now → OfBoth Q before since rest now
of_both before since rest now to h = (to before rest h.0, given_by since now to h.1)

-- what follows from a first part and a second one, if the first holds with any bytes after it
pub given_then : {P Q R : Option (List ℕ) → Option (List ℕ) → Type 0}
    → ((used seen other : List ℕ) → P (Some (used ++ seen)) (Some seen) → P (Some (used ++ other)) (Some other))
    → ((left mid end : Option (List ℕ)) → P left mid → Q mid end → R left end) → (before mid after : List ℕ) → OfGiven P before mid → OfGiven Q mid after
    → OfGiven R before after
given_then {R} move join before mid after (used, seen, e, p) (given, end, f, q) =
    let all = join (Some (used ++ (given ++ end))) (Some (given ++ end)) (Some end) (move used seen (given ++ end) p) q in
    (used ++ given, end, given_both before mid after used given e f, subst (λ (x : List ℕ). R (Some x) (Some end)) (sym (append_assoc used given end)) all)

pub both_then : {P Q R : Option (List ℕ) → Option (List ℕ) → Type 0}
    → ((used seen other : List ℕ) → P (Some (used ++ seen)) (Some seen) → P (Some (used ++ other)) (Some other))
    → ((left mid end : Option (List ℕ)) → P left mid → Q mid end → R left end)
    → (before : Option (List ℕ)) (since : List ℕ) (mid : Option (List ℕ)) (given : List ℕ) (rest : Option (List ℕ)) (now : List ℕ)
    → OfBoth P before since mid given → OfBoth Q mid given rest now → OfBoth R before since rest now
both_then move join before since mid given rest now h k = (join before mid rest h.0 k.0, given_then move join since given now h.1 k.1)

-- the used bytes are the given ones, if all that was left after them was seen
pub given_used : (given left used seen : List ℕ) → Took (Some (given ++ left)) used seen (Some left) → given ≡ used
given_used given left used seen t =
    let rest : left ≡ seen = let e = t.1 in cc in append_cancel_right given used left (t.0 ∙ ap (λ (x : List ℕ). used ++ x) (sym rest))

-- the same used bytes, with another rest
pub used_of : (Holds : List ℕ → Type 0) (given left more : List ℕ) → (used : List ℕ) × (seen : List ℕ) × Took (Some (given ++ left)) used seen (Some left) × Holds used
    → (used : List ℕ) × (seen : List ℕ) × Took (Some (given ++ more)) used seen (Some more) × Holds used
used_of Holds given left more (used, seen, took, h) = (given, more, (refl, refl), subst Holds (sym (given_used given left used seen took)) h)

-- a text of the format and then a blank rest
pub file_then_blank : {V : Type 0} (IsReadOf : List ℕ → Spanned V → Type 0) (read : Spanned V) (before mid after : Option (List ℕ)) (used seen : List ℕ) → Took before used seen mid → IsReadOf used read → read.past ≡ place_after used
    → ReadsBlank read.past mid (Ok tt) after → IsFile IsReadOf before after read.event
file_then_blank IsReadOf read before mid after used seen took is past (rest, more, blank, bound) =
    let all = took_join before mid after used rest seen [] took more in let within = rest_within used rest read.past past bound in
    search rules

-- the same for what the calls have given
pub given_file : {V : Type 0} (IsReadOf : List ℕ → Spanned V → Type 0) (read : Spanned V) (past : (used : List ℕ) → IsReadOf used read → read.past ≡ place_after used) (before mid after : List ℕ)
    → OfGiven (λ left rest. (used : List ℕ) × (seen : List ℕ) × Took left used seen rest × IsReadOf used read) before mid → OfGiven (λ left rest. ReadsBlank read.past left (Ok tt) rest) mid after
    → OfGiven (λ left end. IsFile IsReadOf left end read.event) before after
given_file IsReadOf read past before mid after one other =
    given_then {P = λ left rest. (used : List ℕ) × (seen : List ℕ) × Took left used seen rest × IsReadOf used read}
    (used_of (λ (used : List ℕ). IsReadOf used read))
    (λ left next end t. file_then_blank IsReadOf read left next end t.0 t.1 t.2 t.3 (past t.0 t.3)) before mid after one other

-- a text of the format and then a rest that is not blank
pub given_stray : {V : Type 0} (Reads : Option (List ℕ) → Result (Spanned V) Stop → Option (List ℕ) → Type 0) (read : Spanned V) (s : Stop) (other : (given seen more : List ℕ) → Reads (Some (given ++ seen)) (Ok read) (Some seen) → Reads (Some (given ++ more)) (Ok read) (Some more))
    (before mid after : List ℕ) → OfGiven (λ left rest. Reads left (Ok read) rest) before mid → OfGiven (λ left rest. ReadsBlank read.past left (Err s) rest) mid after → OfGiven (λ left end. IsRefused Reads left end s) before after
given_stray Reads read s other before mid after one rest =
    given_then {P = λ left end. Reads left (Ok read) end} {R = λ left end. IsRefused Reads left end s} other (λ left next end. InRest read next) before mid
    after one rest

module _ {E : Type 0} (format : List (Item E) → Type 0) (longest : ℕ) (May : List ℕ → ℕ → Type 0) (text : E → List ℕ) {W : Type 0} (contents : W → Option (List ℕ)) (faults : W → ℕ) where
  -- what was shown of a text of the format, and then the rest
  pub given_shown : (before mid after : List ℕ) (spans : List (Spanned E)) (place : Place) (old new : W) (result : Result (Unit {0}) ToolFault) → OfGiven (λ left rest. TookAll format longest left rest spans place true None) before mid
      → OfGiven (λ left rest. EndsAt place left result rest) mid after → Wrote contents faults old (shown text spans) new → OfGiven (λ left rest. ShowsLines format longest May text contents faults left old result rest new) before after
  given_shown before mid after spans place old new result taken ends w =
      given_then (λ used seen other. all_of format longest used seen other spans place)
      (λ left next end all e. shows_end format longest May text contents faults left next end spans place old new result all e w) before mid after taken ends

module _ (limits : Limits) (longest n : ℕ) (is : longest ≡ n) {W : Type 0} (contents : W → Option (List ℕ)) (faults : W → ℕ) (before mid : List ℕ) (k : mid ≡ before) (old : W) where
  module _ (result : Result (Unit {0}) ToolFault) (after : List ℕ) (new : W) where
    tidies_either : TidiesGiven limits longest contents faults false mid old result after new → TidiesGiven limits n contents faults false before old result after new
    tidies_either t =
        subst (λ (m : ℕ). TidiesGiven limits m contents faults false before old result after new) is (subst (λ (h : List ℕ). TidiesGiven limits longest contents faults false h old result after new) k t)

    pub given_proof : OfGiven (λ left rest. TidiesProof limits longest contents faults left old result rest new) mid after → TidiesGiven limits n contents faults false before old result after new
    given_proof t = tidies_either (inl t)

    pub given_instance : OfGiven (λ left rest. Tidies limits longest false contents faults left old result rest new) mid after → TidiesGiven limits n contents faults false before old result after new
    given_instance t = tidies_either (inr t)

    shows_either : ShowsGiven limits longest contents faults mid old result after new → ShowsGiven limits n contents faults before old result after new
    shows_either t = subst (λ (m : ℕ). ShowsGiven limits m contents faults before old result after new) is (subst (λ (h : List ℕ). ShowsGiven limits longest contents faults h old result after new) k t)

    pub given_shown_proof : OfGiven (λ left rest. ShowsLines (IsProofText limits) longest (AsksInProofText limits) statement_bytes contents faults left old result rest new) mid after → ShowsGiven limits n contents faults before old result after new
    given_shown_proof t = shows_either (inl t)

    pub given_shown_instance : OfGiven (λ left rest. ShowsLines (IsInstanceText limits) longest (AsksInInstanceText limits) event_bytes contents faults left old result rest new) mid after → ShowsGiven limits n contents faults before old result after new
    given_shown_instance t = shows_either (inr t)

  -- nothing, if the source failed at its first byte
  pub given_unshown : 0 < longest → ((m : ℕ) → 0 < m → ReadsNothing (IsProofText limits) m) → (f : ToolFault) → f ≡ Text File first_fault → ShowsGiven limits n contents faults before old (Err f) mid old
  given_unshown some reads f fault =
      let none : ShowsLines (IsProofText limits) longest (AsksInProofText limits) statement_bytes contents faults (Some []) old (Err f) (Some []) old = rw fault (shows_nothing (IsProofText limits) longest (Some []) (Some []) refl (AsksInProofText limits) statement_bytes contents faults (reads longest some) old) in
      given_shown_proof (Err f) mid old ([], [], sym (append-nil mid), none)

  pub given_unread : 0 < longest → ((m : ℕ) → 0 < m → ReadsNothing (IsProofText limits) m) → (f : ToolFault) → f ≡ Text File first_fault → TidiesGiven limits n contents faults false before old (Err f) mid old
  given_unread some reads f fault =
      let none : TidiesProof limits longest contents faults (Some []) old (Err f) (Some []) old = rw fault (tidies_nothing (Some []) (Some []) refl (IsProofText limits) longest (AsksInProofText limits) MayKeep IsProofOf tidied_proof contents faults (reads longest some) old) in
      given_proof (Err f) mid old ([], [], sym (append-nil mid), none)
