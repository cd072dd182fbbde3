-- The records of a journal of the first version, measured before they are moved.
use Rattle.std.proofs.Common.{◌≡◌, inl, inr, ◌==◌, ℕ, ◌+◌, Bool, List, [], ◌∷◌, ◌++◌, length, map, Option, Some, None, IsTrue, refl, sym, ◌∙◌, ap, subst, arith, length-append}
use Rattle.std.proofs.lemmas.Bool.{cases_Bool}
use Rattle.std.proofs.lemmas.List.{map-append}
use Rattle.bank_tables.specs.Tables.{Tables}
use Rattle.form_model.specs.Plan.{Plan}
use Rattle.history_model.specs.declared.entry.Entry.{Entry}
use Rattle.exam_records.specs.Spelling.{payload_of}
use Rattle.answer_journal.specs.Frames.{frames, payloads}
use Rattle.answer_journal.specs.Moving.{first}
use Rattle.answer_journal.specs.Payload.{end_of}
use Rattle.answer_journal.specs.Versions.{Counted, after_mark, contents, counted, counted_from, counted_in, first_place, header, uncounted, version_of}
use Rattle.answer_journal.specs.Walk.{first_gate, first_payloads}
use Rattle.exam_office.specs.Files.{payload_in}
use Rattle.exam_office.specs.Opening.{IsTaken}
use Rattle.exam_office.specs.Migrating.{AreMeasured, IsOldFile, IsTakenOver, moved_file}
use Rattle.exam_office.proofs.MigratingLengths.{end_is_after, frames_more, moved_size}
use Rattle.exam_office.proofs.Opened.{none_taken, taken_more}

-- ---- the first gate of a journal of the first version is after the header
none_uncounted : (ps : List (List ℕ)) (after : Option (List (List ℕ))) → (counted_from ps after).version ≡ 1 → (counted_from ps after).payloads ≡ ps
none_uncounted ps None is = refl
none_uncounted ps (Some after) is = absurd (omega (arith, is))

all_counted : (version : ℕ) (ps : List (List ℕ)) → (counted version ps).version ≡ 1 → (counted version ps).payloads ≡ ps
all_counted version ps is = elim (cases_Bool (version == 1)) [
  | inl old ↦ let of_first : (counted_from ps (after_mark ps)).version ≡ 1 = rw old at is in let all = none_uncounted ps (after_mark ps) of_first in rw old all
  | inr new ↦ let clash : 2 ≡ 1 = rw new at is in absurd (omega (arith, clash))
]

first_place_is : (version : ℕ) (ps : List (List ℕ)) → (counted version ps).version ≡ 1 → first_place version ps ≡ 8
first_place_is version ps is =
    let none : uncounted version ps ≡ 0 = omega (arith, ap (λ (qs : List (List ℕ)). length qs) (all_counted version ps is)) in
    ap (λ (k : ℕ). end_of 8 (Rattle.std.specs.Prelude.take k ps)) none

pub first_gate_is : (file : List ℕ) → (counted_in file).version ≡ 1 → first_gate file ≡ 8
unfolding contents
first_gate_is file is = by (payloads (header (version_of file)) file) refl
  where
    by : (found : Option (List (List ℕ))) → payloads (header (version_of file)) file ≡ found → first_gate file ≡ 8
    by None none = let clash : 2 ≡ 1 = rw none at is in absurd (omega (arith, clash))
    by (Some ps) some = let so : (counted (version_of file) ps).version ≡ 1 = rw some at is in let at = first_place_is (version_of file) ps so in rw some at

-- ---- record by record
abbrev by_version : List (List ℕ) → ℕ → Counted
by_version ps version = record { version = version; payloads = ps }

-- these payloads of the first version
pub counted_first : (c : Counted) (ps : List (List ℕ)) → c.version ≡ 1 → c.payloads ≡ ps → c ≡ first ps
counted_first c ps version listed = ap (by_version c.payloads) version ∙ ap first listed

module _ (b : Tables) (plan : Plan) (start : ℕ) (tells : Bool) (file : List ℕ) where
  pub none_measured : (H : List Entry) (given at total : ℕ) → H ≡ [] → given ≡ 0 → at ≡ start → total ≡ 0 → AreMeasured b plan start tells file given at H total
  unfolding none_taken
  none_measured H given at total no_entry none here nothing = record { taken = none_taken b plan 1 start tells file H given at no_entry none here; total_is = nothing }

  module _ (H : List Entry) (given at total : ℕ) (so_far : AreMeasured b plan start tells file given at H total) where
    -- the payload is taken
    pub measured_more : (p : List ℕ) (given1 at1 : ℕ) → at1 ≡ at + 5 + length p → (IsTrue tells → first_payloads given1 file ≡ first_payloads given file ++ p ∷ [])
        → (now : List Entry) (second : List ℕ) → IsTakenOver b plan H p now second → AreMeasured b plan start tells file given1 at1 now (total + (5 + length second))
    unfolding taken_more
    measured_more p given1 at1 at_is more now second one =
        let R = so_far.taken.records in
        let taken : IsTaken b plan 1 H p one.last.entry = record { last = one.last; is_entry = refl; spells = one.spells; unlisted = λ _. one.unlisted; spelling = one.spelling; may = one.may } in
        let all : map payload_of (R ++ one.last ∷ []) ≡ map payload_of R ++ payload_of one.last ∷ [] = map-append payload_of R (one.last ∷ []) in
        subst (λ (G : List Entry). AreMeasured b plan start tells file given1 at1 G (total + (5 + length second))) (sym one.entries) (record {
          taken = taken_more b plan 1 start tells file H given at so_far.taken p given1 at1 at_is more one.last.entry taken;
          total_is = omega (arith, so_far.total_is, ap length one.second_is, ap (λ (ps : List (List ℕ)). length (frames ps)) all, frames_more (map payload_of R) (payload_of one.last));
        })

    -- all of them were taken
    pub old_file : IsTrue tells → (counted_in file).version ≡ 1 → contents file ≡ Some (counted_in file) → first_payloads given file ≡ (counted_in file).payloads → IsOldFile b plan file
    old_file told version gives all = record {
      H = H;
      records = so_far.taken.records;
      are = so_far.taken.are;
      holds = gives ∙ ap Some (counted_first (counted_in file) (map (payload_in b plan 1) so_far.taken.records) version (sym (so_far.taken.bytes told ∙ all)));
    }

    pub moved_is : IsTrue tells → start ≡ first_gate file → (counted_in file).version ≡ 1 → (size : ℕ) → at + 1 ≡ size → size + 6 + total ≡ length (moved_file b plan so_far.taken.records)
    moved_is told begins version size whole =
        let R = so_far.taken.records in
        omega (arith, whole, so_far.taken.place told, end_is_after start (map (payload_in b plan 1) R), begins, first_gate_is file version, so_far.total_is, moved_size b plan R)

pub one_entry : (b : Tables) (plan : Plan) (H : List Entry) (p : List ℕ) (now : List Entry) (second : List ℕ) → IsTakenOver b plan H p now second → length now ≡ length H + 1
one_entry b plan H p now second one = ap length one.entries ∙ length-append H (one.last.entry ∷ [])

-- a file of the first version, and its length once it is moved
pub old_sized : (b : Tables) (plan : Plan) (start : ℕ) (tells : Bool) (file : List ℕ) (H : List Entry) (given at total size : ℕ) → AreMeasured b plan start tells file given at H total → IsTrue tells
    → start ≡ first_gate file → (counted_in file).version ≡ 1 → contents file ≡ Some (counted_in file) → first_payloads given file ≡ (counted_in file).payloads → at + 1 ≡ size
    → (old : IsOldFile b plan file) × (size + 6 + total ≡ length (moved_file b plan old.records))
unfolding old_file
old_sized b plan start tells file H given at total size so_far told begins version gives all whole =
    (old_file b plan start tells file H given at total so_far told version gives all, moved_is b plan start tells file H given at total so_far told begins version size whole)
