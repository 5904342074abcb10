-- What is read of a canonical text, with or without a line feed after it, and what `tidy` does of a text that it wrote.
use Rattle.{pb_opb.specs.contract.Laws.InstanceValues, pb_proof.specs.meaning.Reading.ReadsProof}
use Rattle.pb_tool.proofs.Common.{ℕ, ◌++◌, ◌<◌, ◌^◌, ◌∙◌, ◌∷◌, ◌≡◌, ◌≢◌, ◌≤◌, ◌⊎◌, [], ap, append-nil, append_assoc, arith, Bool, cond, Err, false, inl, inr}
use Rattle.pb_tool.proofs.Common.{length, length-append, List, Ok, Option, refl, Result, rules, Some, subst, sym, true, Appends, instance_bytes, Instance}
use Rattle.pb_tool.proofs.Common.{ReadsInstance, IsValueOf, ProofValues, Proof, IsProofOf, place_after-offset, Limits, Place, Spanned, Stop, Why, Byte, Ended}
use Rattle.pb_tool.proofs.Common.{TooLarge, TooLong, IsStray, passes, ReadsBlank, largest, top_of, Took, byte_limit, Explains, IsBad, IsFull, IsUnderWay}
use Rattle.pb_tool.proofs.Common.{Overruns, Reads, bytes_of, Item, place_after, spans_of, IsRead, Keeping, Reading, ReadsValue, Broke, Wrote, HasNoFault}
use Rattle.pb_tool.proofs.Common.{IsInstanceWithin, IsOutside, IsProofWithin, IsReadAsInstance, IsReadAsProof, ProofHasNoFault, ProofStaysAsIs, StaysAsIs}
use Rattle.pb_tool.proofs.Common.{WroteAgain, File, ToolFault, Text, Write, IsProofFile, IsProofText, tidied_proof, TidiesFile, ends_in_feed, IsFile}
use Rattle.pb_tool.proofs.Common.{IsInstanceFile, IsInstanceText, IsRefused, tidied, TidiesAs, InRest, InText}
use Rattle.pb_tool.proofs.lemmas.check.OneRead.{Compared, after_prefix, same_rest, some_left, two_prefixes, NoneGoesOn, one_spelt}

-- nothing, or a line feed
abbrev IsFeed : List ℕ → Type 0
IsFeed rest = (rest ≡ []) ⊎ (rest ≡ 10 ∷ [])

-- what is written for an instance
pub written : (v : Instance) → (rest : List ℕ) × (tidied v ≡ instance_bytes v ++ rest) × IsFeed rest
written v = by_end (ends_in_feed (instance_bytes v))
  where
    by_end : (b : Bool) → (rest : List ℕ) × (cond b (instance_bytes v) (instance_bytes v ++ 10 ∷ []) ≡ instance_bytes v ++ rest) × IsFeed rest
    by_end true = ([], sym (append-nil (instance_bytes v)), inl refl)
    by_end false = (10 ∷ [], refl, inr refl)

-- what follows a canonical text is blank
passes_feed : (rest used more : List ℕ) (b : ℕ) → IsFeed rest → rest ≡ used ++ b ∷ more → passes used b ≡ false → ⊥
passes_feed rest [] more b (inr f) e p = grind arith
passes_feed rest (u ∷ []) more b f e p = grind arith
passes_feed rest used more b f e p = grind arith

longer : (used rest : List ℕ) → rest ≢ [] → byte_limit ≤ length used → byte_limit < length (used ++ rest)
longer used rest h k = omega (arith, k, some_left rest h, length-append used rest)

overrun : {E : Type 0} (longest n : ℕ) (spans : List (Spanned E)) → Overruns longest n spans → longest ≤ n
overrun longest n [] h = absurd h
overrun longest n (m ∷ spans) h = grind (arith, overrun longest n spans)

strays : (used more left rest : List ℕ) (place : Place) (why : Why) → IsFeed rest → rest ≡ more ++ left → place.offset ≡ length used → IsStray place more left why → IsOutside (length (used ++ (more ++ left))) why
strays used more left rest place (Byte b) feed e o (next, is, p, bound) = passes_feed rest more next b feed (e ∙ ap (λ (x : List ℕ). more ++ x) is) p
strays used more left rest place TooLong feed e o h = grind (arith, longer (used ++ more) left, append_assoc, length-append)
strays used more left rest place TooLarge feed e o h = h
strays used more left rest place Ended feed e o h = h
strays used more left rest place why feed e o h = tt

-- a format, and one text of it; no text of the format is a prefix of another
module _ {E : Type 0} (format : List (Item E) → Type 0) (text : List ℕ) (own : List (Item E)) (spells : format own) (bytes : bytes_of own ≡ text)
    (prefix : NoneGoesOn format) where
  -- a text of the format that begins this text, or that it begins, is this text
  same_used : (used seen rest : List ℕ) (items : List (Item E)) → format items → bytes_of items ≡ used → used ++ seen ≡ text ++ rest → used ≡ text
  same_used used seen rest items h e k = one_spelt format prefix used seen text rest items own k h spells e bytes

  -- a text that is unfinished there is a shorter prefix of this text
  shorter : (used left rest : List ℕ) (spans : List (Spanned E)) → IsUnderWay format (2 ^ 40) used spans → used ++ left ≡ text ++ rest → (x : ℕ) × (m : List ℕ) × (text ≡ used ++ x ∷ m)
  shorter used left rest spans u k = by_length (two_prefixes text rest used left (sym k))
    where
      by_length : Compared text used → (x : ℕ) × (m : List ℕ) × (text ≡ used ++ x ∷ m)
      by_length (inl (m, p)) = absurd (u.unfinished own spells (m, p ∙ ap (λ (x : List ℕ). x ++ m) (sym bytes)))
      by_length (inr h) = h

  not_bad : (used more rest : List ℕ) (b : ℕ) (spans : List (Spanned E)) → IsUnderWay format (2 ^ 40) used spans → IsBad format (2 ^ 40) used b → used ++ b ∷ more ≡ text ++ rest → ⊥
  not_bad used more rest b spans u bad k =
      let (x, m, p) = shorter used (b ∷ more) rest spans u k in
      let same : b ≡ x = let next = after_prefix used (b ∷ more) text rest k (x ∷ m) p in cc in
      bad.refused (own, spells, (m, grind (arith, append_assoc)))

  not_ended : (used rest : List ℕ) (spans : List (Spanned E)) → IsUnderWay format (2 ^ 40) used spans → used ++ [] ≡ text ++ rest → ⊥
  not_ended used rest spans u k =
      let (x, m, p) = shorter used [] rest spans u k in let next = after_prefix used [] text rest k (x ∷ m) p in cc

  full : (used left rest : List ℕ) (spans : List (Spanned E)) → IsUnderWay format (2 ^ 40) used spans → IsFull format (2 ^ 40) used → used ++ left ≡ text ++ rest → byte_limit ≤ length used
  full used left rest spans u (inl e) k = omega (arith, e)
  full used left rest spans u (inr over) k =
      let (x, m, p) = shorter used left rest spans u k in overrun (2 ^ 40) (length used) (spans_of own) (over own spells (x ∷ m, bytes ∙ p))

  explained : (used left rest : List ℕ) (spans : List (Spanned E)) (why : Why) → IsUnderWay format (2 ^ 40) used spans → Explains format (2 ^ 40) used left why → used ++ left ≡ text ++ rest
      → IsOutside (length (used ++ left)) why
  explained used left rest spans (Byte b) u (more, e, bad, number) k = not_bad used more rest b spans u bad (ap (λ (x : List ℕ). used ++ x) (sym e) ∙ k)
  explained used left rest spans TooLarge u (b, more, e, bad, digit, number) k = not_bad used more rest b spans u bad (ap (λ (x : List ℕ). used ++ x) (sym e) ∙ k)
  explained used left rest spans TooLong u (some, h) k = longer used left some (full used left rest spans u h k)
  explained used left rest spans Ended u e k = not_ended used rest spans u (ap (λ (x : List ℕ). used ++ x) (sym e) ∙ k)
  explained used left rest spans why u h k = tt

  -- a stop in the text is not a fault of the text itself
  in_text : (used seen rest : List ℕ) (spans : List (Spanned E)) (s : Stop) → Reads format (2 ^ 40) (used ++ seen) used spans s.place false (Some s) → used ++ seen ≡ text ++ rest
      → IsOutside (length (used ++ seen)) s.why
  in_text used seen rest spans s r k =
      let (under, place, why) = r.answer in
      subst (λ (t : List ℕ). IsOutside (length t) s.why) (sym r.input_is) (explained used r.left rest spans s.why under why (sym r.input_is ∙ k))

  -- nor is one after it a fault of the line feed
  in_rest : (used seen rest : List ℕ) (items : List (Item E)) (past : Place) (mid after : Option (List ℕ)) (s : Stop) → format items → bytes_of items ≡ used → past ≡ place_after used
      → used ++ seen ≡ text ++ rest → IsFeed rest → mid ≡ Some seen → ReadsBlank past mid (Err s) after → IsOutside (length (used ++ seen)) s.why
  in_rest used seen rest items past mid after s h e at k feed is (more, left, took, blank, place, stray) =
      let same : used ≡ text = same_used used seen rest items h e k in let following : seen ≡ rest = same_rest used seen text rest k same in
      let now : Took (Some seen) more left after = subst (λ (z : Option (List ℕ)). Took z more left after) is took in
      let offset : past.offset ≡ length used = ap (λ (p : Place). p.offset) at ∙ place_after-offset used in
      subst (λ (t : List ℕ). IsOutside (length (used ++ t)) s.why) (sym now.0) (strays used more left rest past s.why feed (sym following ∙ now.0) offset stray)

  -- the text with nothing after it, or a line feed
  module _ {V : Type 0} (IsValue : List E → V → Type 0) (whole rest : List ℕ) (is : whole ≡ text ++ rest) (feed : IsFeed rest) (after : Option (List ℕ)) where
    pub read_alone : (longest : ℕ) (w : V) (file : IsFile (IsRead format longest IsValue) (Some whole) after w) → IsRead format longest IsValue text file.read
    read_alone longest w file =
        let s = file.spelled.spelled in
        let same : file.used ≡ text = same_used file.used file.rest rest s.items s.spelled s.used_are (sym (append-nil _) ∙ (sym file.took.0 ∙ is)) in
        subst (λ (u : List ℕ). IsRead format longest IsValue u file.read) same file.spelled

    pub faultless : (May : List ℕ → ℕ → Type 0) (Keep : List E → E → Type 0) (s : Stop) → IsRefused (ReadsValue format (2 ^ 40) May Keep IsValue) (Some whole) after s → IsOutside (length whole) s.why
    faultless May Keep s (InText (used, seen, took, Reading spans r w)) = subst (λ (t : List ℕ). IsOutside (length t) s.why) (sym took.0) (in_text used seen rest spans s r (sym took.0 ∙ is))
    faultless May Keep s (InText (used, seen, took, Keeping spans last done r k e)) = rw e tt
    faultless May Keep s (InRest m mid (used, seen, took, read) blank) =
        subst (λ (t : List ℕ). IsOutside (length t) s.why) (sym took.0)
        (in_rest used seen rest read.spelled.items m.past mid after s read.spelled.spelled read.spelled.used_are read.past (sym took.0 ∙ is) feed took.1 blank)

-- ---- what `tidy` does of a text that it wrote

-- what was written into an empty sink is its contents
written_text : (old new : Option (List ℕ)) (text wrote : List ℕ) → old ≡ Some [] → new ≡ Some text → Appends old new wrote → text ≡ wrote
written_text (Some xs) (Some ys) text wrote e k h = grind arith
written_text old new text wrote e k h = grind arith

-- what was written again, if only this value is read of the text
again_as : {V W : Type 0} (IsReadOf : List ℕ → Spanned V → Type 0) (Reads : Option (List ℕ) → Result (Spanned V) Stop → Option (List ℕ) → Type 0) (text_of : V → List ℕ) (contents : W → Option (List ℕ)) (faults : W → ℕ)
    (before rest : Option (List ℕ)) (v : V) (MayStop : Why → Type 0) → ((w : V) → IsFile IsReadOf before rest w → w ≡ v) → ((s : Stop) → IsRefused Reads before rest s → MayStop s.why)
    → (old : W) (result : Result (Unit {0}) ToolFault) (new : W) → TidiesAs IsReadOf Reads text_of contents faults before old result rest new → WroteAgain contents faults (text_of v) MayStop old result new
again_as IsReadOf Reads text_of contents faults before rest v MayStop same stops old (Ok u) new (w, file, wrote) = subst (λ (x : _). Wrote contents faults old (text_of x) new) (same w file) wrote
again_as IsReadOf Reads text_of contents faults before rest v MayStop same stops old (Err Write) new (w, file, broke) = subst (λ (x : _). Broke contents faults old (text_of x) new) (same w file) broke
again_as IsReadOf Reads text_of contents faults before rest v MayStop same stops old (Err (Text File s)) new (refused, e) = (stops s refused, e)
again_as IsReadOf Reads text_of contents faults before rest v MayStop same stops old (Err f) new h = h.0

module _ (instances : InstanceValues) (proofs : ProofValues) (limits : Limits) (longest : ℕ) (before after : Option (List ℕ)) where
  -- what was read meets the rules
  instance_within : (v : Instance) → IsInstanceFile limits longest before after v → IsInstanceWithin limits v
  instance_within v f =
      let s = f.spelled.spelled in
      subst (IsInstanceWithin limits) f.value (instances (largest limits) (top_of limits) s.items f.read.event s.spelled f.spelled.value).0

  proof_within : (v : Proof) → IsProofFile limits longest before after v → IsProofWithin limits v
  proof_within v f =
      let s = f.spelled.spelled in
      subst (IsProofWithin limits) f.value (proofs (largest limits) (top_of limits) s.items f.read.event s.spelled f.spelled.value)

  module _ (as_instance : IsReadAsInstance) (same : StaysAsIs) (faultless : HasNoFault) (as_proof : IsReadAsProof) (proof_same : ProofStaysAsIs) (proof_faultless : ProofHasNoFault)
      {W : Type 0} (contents : W → Option (List ℕ)) (faults : W → ℕ) (again : ℕ) (rest : Option (List ℕ)) (old new : W) (result : Result (Unit {0}) ToolFault) where
    abbrev Again : List ℕ → Type 0
    Again text = TidiesFile limits again contents faults false (Some text) old result rest new → WroteAgain contents faults text (λ why. again ≡ 2 ^ 40 → IsOutside (length text) why) old result new

    of_instance_text : (v : Instance) → IsInstanceWithin limits v → Again (tidied v)
    of_instance_text v rules (inl (may, t)) = absurd (as_instance v may)
    of_instance_text v rules (inr (may, t)) =
        again_as (IsRead (IsInstanceText limits) again IsValueOf) (ReadsInstance (largest limits) (top_of limits) again) tidied contents faults (Some (tidied v)) rest v (λ why. again ≡ 2 ^ 40 → IsOutside (length (tidied v)) why)
        (λ w file. same limits again v w rest rules file)
        (λ s refused e. faultless limits v s rest rules (subst (λ (n : ℕ). IsRefused (ReadsInstance (largest limits) (top_of limits) n) (Some (tidied v)) rest s) e refused))
        old result new t

    of_proof_text : (v : Proof) → IsProofWithin limits v → Again (tidied_proof v)
    of_proof_text v rules (inr (may, t)) = absurd (may (as_proof v))
    of_proof_text v rules (inl (may, t)) =
        again_as (IsRead (IsProofText limits) again IsProofOf) (ReadsProof (largest limits) (top_of limits) again) tidied_proof contents faults (Some (tidied_proof v)) rest v (λ why. again ≡ 2 ^ 40 → IsOutside (length (tidied_proof v)) why)
        (λ w file. proof_same limits again v w rest rules file)
        (λ s refused e. proof_faultless limits v s rest rules (subst (λ (n : ℕ). IsRefused (ReadsProof (largest limits) (top_of limits) n) (Some (tidied_proof v)) rest s) e refused))
        old result new t

    pub tidied_again : (text : List ℕ) (empty full : W) → contents empty ≡ Some [] → contents full ≡ Some text → TidiesFile limits longest contents faults false before empty (Ok tt) after full → Again text
    tidied_again text empty full e k (inl (may, (v, file, wrote))) = subst Again (sym (written_text (contents empty) (contents full) text (tidied_proof v) e k wrote.appends)) (of_proof_text v (proof_within v file))
    tidied_again text empty full e k (inr (may, (v, file, wrote))) = subst Again (sym (written_text (contents empty) (contents full) text (tidied v) e k wrote.appends)) (of_instance_text v (instance_within v file))
