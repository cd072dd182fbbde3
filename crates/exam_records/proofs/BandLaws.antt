-- One eligible set, and what the first version of the journal keeps of a record.
use Rattle.std.proofs.Common.{◌≡◌, ℕ, zero, suc, ◌%◌, ◌<◌, ◌≤◌, false, List, [], get_or, Option, Some, None, refl, arith, inl, inr}
use Rattle.std.proofs.lemmas.Bool.{cases_lt}
use Rattle.std.proofs.lemmas.Nat.Bits.{bit_at-zero}
use Rattle.bank_tables.specs.Items.{has, AreWords}
use Rattle.bank_tables.proofs.Bits.{has_past}
use Rattle.certificate_model.specs.ProofTrees.{ProofTree}
use Rattle.history_model.specs.declared.entry.Entry.{Entry}
use Rattle.history_model.specs.declared.entry.Entry.TheVariants.{Started, SetAside, Served, Answered, Closed}
use Rattle.history_model.specs.Judging.{Record}
use Rattle.exam_records.specs.Sets.{no_items}
use Rattle.exam_records.specs.Shape.{GoesWith, HasBands, IsInRange, AreEligible, AreSets, IsRecord}
use Rattle.exam_records.specs.Old.{one_band, old_entry, old_record, IsOldRecord}
use Rattle.exam_records.specs.Spelling.{old_entry_bytes, old_payload_of}
use Rattle.exam_records.proofs.SetLaws.{are_words, has_words, numbers_len}

pub has_none : (i : ℕ) → has no_items i ≡ false
has_none i = elim (cases_lt i 512) [
  | inl lt ↦ has_words (λ _. false) i lt
  | inr past ↦ has_past no_items i (numbers_len 8 64 (λ _. false)) past
]

-- past the end of the eight there are no words
pub has_nothing : (i : ℕ) → has [] i ≡ false
unfolding has
has_nothing i = rw (bit_at-zero (i % 64)) refl

pub one_band_eligible : (words : List ℕ) → AreEligible (one_band words)
one_band_eligible words = record { some = omega arith; few = omega arith; none_past = past }
  where
    past : (band : ℕ) → 1 ≤ band → (i : ℕ) → has (get_or (one_band words).sets band []) i ≡ false
    past zero le i = absurd (omega arith)
    past (suc zero) le i = has_none i
    past (suc (suc zero)) le i = has_none i
    past (suc (suc (suc zero))) le i = has_none i
    past (suc (suc (suc (suc zero)))) le i = has_none i
    past (suc (suc (suc (suc (suc zero))))) le i = has_none i
    past (suc (suc (suc (suc (suc (suc zero)))))) le i = has_none i
    past (suc (suc (suc (suc (suc (suc (suc zero))))))) le i = has_none i
    past (suc (suc (suc (suc (suc (suc (suc (suc n)))))))) le i = has_nothing i

pub one_band_sets : (words : List ℕ) → AreWords words → AreSets (one_band words)
one_band_sets words are = record { eight = refl; each = each }
  where
    none : AreWords no_items
    none = are_words (λ _. false)

    each : (band : ℕ) → band < 8 → AreWords (get_or (one_band words).sets band [])
    each zero lt = are
    each (suc zero) lt = none
    each (suc (suc zero)) lt = none
    each (suc (suc (suc zero))) lt = none
    each (suc (suc (suc (suc zero)))) lt = none
    each (suc (suc (suc (suc (suc zero))))) lt = none
    each (suc (suc (suc (suc (suc (suc zero)))))) lt = none
    each (suc (suc (suc (suc (suc (suc (suc zero))))))) lt = none
    each (suc (suc (suc (suc (suc (suc (suc (suc n)))))))) lt = absurd (omega arith)

-- ---- what the first version keeps

kept_goes : (first : ℕ) (entry : Entry) (tree : Option ProofTree) → GoesWith entry tree → GoesWith (old_entry first entry) tree
kept_goes first (Started session booking eligible without) None goes = tt
kept_goes first (Started session booking eligible without) (Some T) goes = absurd goes
kept_goes first (SetAside session step band cause nodes) None goes = absurd goes
kept_goes first (SetAside session step band cause nodes) (Some T) goes = goes
kept_goes first (Served session step item form proved nodes) tree goes = goes
kept_goes first (Answered session step response) tree goes = goes
kept_goes first (Closed session) tree goes = goes

kept_bands : (first : ℕ) (entry : Entry) → HasBands (old_entry first entry)
kept_bands first (Started session booking eligible without) = (one_band_eligible (get_or eligible.sets first []), tt)
kept_bands first (SetAside session step band cause nodes) = omega arith
kept_bands first (Served session step item form proved nodes) = tt
kept_bands first (Answered session step response) = tt
kept_bands first (Closed session) = tt

kept_fits : (first : ℕ) (entry : Entry) → first < 8 → IsInRange entry → IsInRange (old_entry first entry)
kept_fits first (Started session booking eligible without) lt fits = (fits.0, fits.1, one_band_sets (get_or eligible.sets first []) (fits.2.each first lt), tt)
kept_fits first (SetAside session step band cause nodes) lt fits = (fits.0, omega arith)
kept_fits first (Served session step item form proved nodes) lt fits = fits
kept_fits first (Answered session step response) lt fits = fits
kept_fits first (Closed session) lt fits = fits

kept_all : (first : ℕ) (entry : Entry) → old_entry 0 (old_entry first entry) ≡ old_entry first entry
kept_all first (Started session booking eligible without) = refl
kept_all first (SetAside session step band cause nodes) = refl
kept_all first (Served session step item form proved nodes) = refl
kept_all first (Answered session step response) = refl
kept_all first (Closed session) = refl

-- it is a record of which that version keeps all
pub kept_is_old : (first : ℕ) (r : Record) → first < 8 → IsRecord r → IsOldRecord (old_record first r)
kept_is_old first r lt is = record {
  is_record = record {
    goes_with = kept_goes first r.entry r.tree is.goes_with;
    bands = kept_bands first r.entry;
    fits = kept_fits first r.entry lt is.fits;
    tree = is.tree;
  };
  all = kept_all first r.entry;
}

kept_entry : (first : ℕ) (entry : Entry) → old_entry_bytes 0 (old_entry first entry) ≡ old_entry_bytes first entry
unfolding old_entry_bytes
kept_entry first (Started session booking eligible without) = refl
kept_entry first (SetAside session step band cause nodes) = refl
kept_entry first (Served session step item form proved nodes) = refl
kept_entry first (Answered session step response) = refl
kept_entry first (Closed session) = refl

-- with the same bytes
pub kept_entry_bytes : (first : ℕ) (entry : Entry) → old_entry_bytes 0 (old_entry first entry) ≡ old_entry_bytes first entry
kept_entry_bytes = kept_entry

pub kept_payload : (first : ℕ) (r : Record) → old_payload_of 0 (old_record first r) ≡ old_payload_of first r
unfolding old_payload_of
kept_payload first r = rw (kept_entry first r.entry) refl
