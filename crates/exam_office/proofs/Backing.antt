-- Two backed runs with the same payloads of one version are the same: what the first version of the
-- journal leaves out of a record follows from the entries before it, and the second leaves out
-- nothing.
use Rattle.std.proofs.Common.{◌≡◌, inl, inr, ◌==◌, ℕ, ◌<◌, List, [], ◌∷◌, ◌++◌, map, Option, refl, sym, ap, subst, arith, append_assoc}
use Rattle.std.specs.Prelude.{nat_le}
use Rattle.std.specs.List.{AllByRecursion}
use Rattle.std.proofs.lemmas.List.Sums.{count_by-le-length}
use Rattle.bank_tables.specs.Tables.{Tables}
use Rattle.form_model.specs.Ability.{mode_of}
use Rattle.form_model.specs.Plan.{Plan}
use Rattle.certificate_model.specs.ProofTrees.{ProofTree}
use Rattle.serving_model.specs.Seats.{first_band}
use Rattle.form_model.specs.Validity.{IsPlanFor}
use Rattle.history_model.specs.declared.entry.Entry.{Entry}
use Rattle.history_model.specs.declared.entry.Entry.TheVariants.{Started, SetAside, Served, Answered, Closed}
use Rattle.history_model.specs.Judging.{MayFollow, Record, entries_of, Backed}
use Rattle.history_model.specs.Lifting.{IsLifted}
use Rattle.history_model.proofs.JudgingLaws.{may_is_legal}
use Rattle.history_model.proofs.RunParts.{each_may_follow}
use Rattle.exam_records.specs.Old.{old_entry, old_record}
use Rattle.exam_records.specs.Shape.{HasBands, HasNoList, IsRecord}
use Rattle.exam_records.specs.Spelling.{payload_of, old_payload_of}
use Rattle.exam_records.proofs.AgainLaws.{no_two_records}
use Rattle.exam_records.proofs.SecondLaws.{no_two_records as no_two_seconds}
use Rattle.std.proofs.lemmas.Bool.{cases_Bool, eqb-true}
use Rattle.exam_session.proofs.LiftLaws.{legal_has_bands, may_is_lifted, lifted_is_one}
use Rattle.exam_office.specs.Files.{payload_in, IsRecordIn}

-- ---- what may follow a history
module _ (b : Tables) (plan : Plan) (H : List Entry) where
  record_of_parts : (e f : Entry) (t u : Option ProofTree) → e ≡ f → t ≡ u → (let one : Record = record { entry = e; tree = t } in let other : Record = record { entry = f; tree = u } in one ≡ other)
  record_of_parts e f t u entry tree = cc

  -- two records with the same bytes of the first version that may follow are the same
  same_old : (r q : Record) → first_band b plan < 8 → IsRecord r → IsRecord q → HasNoList r.entry → HasNoList q.entry → MayFollow b plan H r.entry r.tree → MayFollow b plan H q.entry q.tree → old_payload_of (first_band b plan) r ≡ old_payload_of (first_band b plan) q → r ≡ q
  same_old r q low one other plain unlisted may also bytes =
      let old : old_record (first_band b plan) r ≡ old_record (first_band b plan) q = no_two_records (first_band b plan) r q low one other bytes in
      let lifted : IsLifted b plan H (old_entry (first_band b plan) r.entry) q.entry =
      subst (λ (x : Record). IsLifted b plan H x.entry q.entry) (sym old) (may_is_lifted b plan H q.entry q.tree unlisted also) in
      let entry : r.entry ≡ q.entry = sym (lifted_is_one b plan H r.entry q.entry r.tree one.fits other.fits plain may lifted) in
      record_of_parts r.entry q.entry r.tree q.tree entry (ap (λ (x : Record). x.tree) old)

  -- the same in either version
  same_next : (version : ℕ) (r q : Record) → first_band b plan < 8 → IsRecordIn version r → IsRecordIn version q → MayFollow b plan H r.entry r.tree → MayFollow b plan H q.entry q.tree → payload_in b plan version r ≡ payload_in b plan version q → r ≡ q
  same_next version r q low one other may also bytes = elim (cases_Bool (version == 1)) [
    | inl old ↦ let e : old_payload_of (first_band b plan) r ≡ old_payload_of (first_band b plan) q = rw old at bytes in let first = eqb-true version 1 old in same_old r q low one.is_record other.is_record (one.unlisted first) (other.unlisted first) may also e
    | inr new ↦ let e : payload_of r ≡ payload_of q = rw new at bytes in no_two_seconds r q one.is_record other.is_record e
  ]

  -- it has at most eight bands
  pub has_bands : IsPlanFor b plan → (e : Entry) (t : Option ProofTree) → MayFollow b plan H e t → HasBands e
  has_bands fits e t may = legal_has_bands b plan H e fits (may_is_legal b plan H e t may)

-- ---- runs
module _ (b : Tables) (plan : Plan) where
  -- a backed run that has a record begins with a start, so the plan's first band is one of eight
  first_low : (e : Entry) (t : Option ProofTree) → HasBands e → MayFollow b plan [] e t → first_band b plan < 8
  first_low (Started s booking eligible without) t bands may =
      let few = bands.0.few in
      let number = may.0.drawn.number in
      let below = count_by-le-length (λ (point : ℕ). nat_le point (mode_of b plan.prior [])) plan.bands in
      omega arith
  first_low (SetAside s step band cause nodes) t bands may = let at = may.is_problem.pending in absurd (cc)
  first_low (Served s step item form proved nodes) t bands may = let at = may.is_problem.pending in absurd (cc)
  first_low (Answered s step response) t bands may = let at = may.0.waiting in absurd (cc)
  first_low (Closed s) t bands may = let at = may.0.stands in absurd (cc)

  pub first_below : (r : Record) (R : List Record) → IsRecord r → Backed b plan (r ∷ R) → first_band b plan < 8
  first_below r R spells backed = first_low r.entry r.tree spells.bands (each_may_follow b plan [] r R backed).1

module _ (b : Tables) (plan : Plan) (version : ℕ) where
  -- runs after the same records
  same_after : first_band b plan < 8 → (K R Q : List Record) → Backed b plan (K ++ R) → Backed b plan (K ++ Q) → AllByRecursion (IsRecordIn version) R → AllByRecursion (IsRecordIn version) Q → map (payload_in b plan version) R ≡ map (payload_in b plan version) Q → R ≡ Q
  same_after low K [] [] backed also one other e = refl
  same_after low K [] (q ∷ Q) backed also one other e = absurd (cc)
  same_after low K (r ∷ R) [] backed also one other e = absurd (cc)
  same_after low K (r ∷ R) (q ∷ Q) backed also one other e =
      let head : payload_in b plan version r ≡ payload_in b plan version q = cc in
      let tail : map (payload_in b plan version) R ≡ map (payload_in b plan version) Q = cc in
      let here : r ≡ q = same_next b plan (entries_of K) version r q low one.0 other.0 (each_may_follow b plan K r R backed).1 (each_may_follow b plan K q Q also).1 head in
      let also1 : Backed b plan (K ++ r ∷ Q) = subst (λ (x : Record). Backed b plan (K ++ x ∷ Q)) (sym here) also in
      let there : R ≡ Q = same_after low (K ++ r ∷ []) R Q (subst (Backed b plan) (sym (append_assoc K (r ∷ []) R)) backed) (subst (Backed b plan) (sym (append_assoc K (r ∷ []) Q)) also1) one.1 other.1 tail in
      cc

  pub same_run : (R Q : List Record) → Backed b plan R → Backed b plan Q → AllByRecursion (IsRecordIn version) R → AllByRecursion (IsRecordIn version) Q → map (payload_in b plan version) R ≡ map (payload_in b plan version) Q → R ≡ Q
  same_run [] [] backed also one other e = refl
  same_run [] (q ∷ Q) backed also one other e = absurd (cc)
  same_run (r ∷ R) Q backed also one other e = same_after (first_below b plan r R one.0.is_record backed) [] (r ∷ R) Q backed also one other e

  -- ---- the record at the place of a payload
  pub record At (records : List Record) (R : List Record) (payload : List ℕ) : Type 0 where
    pub last : Record
    pub rest : List Record
    pub is : R ≡ records ++ last ∷ rest
    pub spells : IsRecordIn version last
    pub bytes : payload_in b plan version last ≡ payload

  at_after : first_band b plan < 8 → (K records R : List Record) (payload : List ℕ) (rest : List (List ℕ)) → Backed b plan (K ++ records) → Backed b plan (K ++ R) → AllByRecursion (IsRecordIn version) records → AllByRecursion (IsRecordIn version) R
      → map (payload_in b plan version) R ≡ map (payload_in b plan version) records ++ payload ∷ rest → At records R payload
  at_after low K [] [] payload rest backed also one other e = absurd (cc)
  at_after low K [] (r ∷ R) payload rest backed also one other e = record { last = r; rest = R; is = refl; spells = other.0; bytes = cc }
  at_after low K (q ∷ records) [] payload rest backed also one other e = absurd (cc)
  at_after low K (q ∷ records) (r ∷ R) payload rest backed also one other e =
      let head : payload_in b plan version r ≡ payload_in b plan version q = cc in
      let tail : map (payload_in b plan version) R ≡ map (payload_in b plan version) records ++ payload ∷ rest = cc in
      let here : r ≡ q = same_next b plan (entries_of K) version r q low other.0 one.0 (each_may_follow b plan K r R also).1 (each_may_follow b plan K q records backed).1 head in
      let backed1 : Backed b plan (K ++ r ∷ records) = subst (λ (x : Record). Backed b plan (K ++ x ∷ records)) (sym here) backed in
      let there = at_after low (K ++ r ∷ []) records R payload rest (subst (Backed b plan) (sym (append_assoc K (r ∷ []) records)) backed1) (subst (Backed b plan) (sym (append_assoc K (r ∷ []) R)) also) one.1 other.1 tail in
      let is = there.is in
      record { last = there.last; rest = there.rest; is = cc; spells = there.spells; bytes = there.bytes }

  pub at : first_band b plan < 8 → (records R : List Record) (payload : List ℕ) (rest : List (List ℕ)) → Backed b plan records → Backed b plan R → AllByRecursion (IsRecordIn version) records → AllByRecursion (IsRecordIn version) R
      → map (payload_in b plan version) R ≡ map (payload_in b plan version) records ++ payload ∷ rest → At records R payload
  at low records R payload rest backed also one other e = at_after low [] records R payload rest backed also one other e
