-- The two versions of the journal beside each other.
use Rattle.std.proofs.Common.{◌≡◌, ℕ, ◌+◌, ◌<◌, ◌≤◌, ◌⊎◌, ◌==◌, inl, inr, true, false, ltb, List, [], ◌∷◌, length, Ok, Err, refl, sym, ap, ◌∙◌, arith, length-append}
use Rattle.std.proofs.lemmas.Bool.{lt-ltb, ne_eqb}
use Rattle.exam_text.specs.First.{◌>>=◌, unless, fault_where}
use Rattle.history_model.specs.declared.entry.Entry.{Entry}
use Rattle.std.specs.Prelude.{◌-◌, ◌*◌, Option, Some, None}
use Rattle.history_model.specs.declared.entry.Bands.{Bands}
use Rattle.history_model.specs.declared.entry.Without.{Without}
use Rattle.history_model.specs.declared.entry.Entry.TheVariants.{Started, SetAside, Served, Answered, Closed}
use Rattle.history_model.specs.Entries.{items_in}
use Rattle.history_model.specs.Judging.{Record}
use Rattle.proof_tree.specs.Reading.{byte_at}
use Rattle.exam_records.specs.declared.fault.RecordFault.TheVariants.{Kind, Extra}
use Rattle.exam_records.specs.Shape.{HasBands}
use Rattle.exam_records.specs.Spelling.{tree_bytes, sets_bytes, list_bytes, entry_bytes, payload_of, old_entry_bytes, old_payload_of, more_bytes}
use Rattle.exam_records.specs.Reading.{field, record_by, shared_of_kind, record_of_kind, record_of, old_record_of_kind, old_record_of}
use Rattle.exam_records.proofs.SetLaws.{numbers_len}
use Rattle.exam_records.proofs.BandFields.{sets_len}
use Rattle.exam_records.proofs.ListFields.{list_len}
use Rattle.exam_records.proofs.AgainLaws.{Kinds, old_shared_kind}
use Rattle.exam_records.proofs.SecondLaws.{shared_kind}

-- ---- the kinds

first_byte : (kind : ℕ) (rest : List ℕ) → field (byte_at (kind ∷ rest) 0) ≡ Ok kind
first_byte kind rest = let some : ltb 0 (length (kind ∷ rest)) ≡ true = lt-ltb 0 (length (kind ∷ rest)) (omega arith) in rw some refl

by_kind : (kinds : Kinds) (kind : ℕ) (rest : List ℕ) → record_by kinds (kind ∷ rest) ≡ (kinds kind (kind ∷ rest) >>= λ found. unless (fault_where (ltb found.1 (length (kind ∷ rest))) (Extra found.1)) (Ok found.0))
unfolding record_by
by_kind kinds kind rest = rw (first_byte kind rest) refl

none_by : (kinds : Kinds) (kind : ℕ) (rest : List ℕ) → kinds kind (kind ∷ rest) ≡ Err (Kind 0) → record_by kinds (kind ∷ rest) ≡ Err (Kind 0)
none_by kinds kind rest none = by_kind kinds kind rest ∙ rw none refl

same_by : (first second : Kinds) (kind : ℕ) (rest : List ℕ) → first kind (kind ∷ rest) ≡ second kind (kind ∷ rest) → record_by first (kind ∷ rest) ≡ record_by second (kind ∷ rest)
same_by first second kind rest same = by_kind first kind rest ∙ (rw same refl ∙ sym (by_kind second kind rest))

-- neither below a first kind nor above a last one
is_not : (kind low high k : ℕ) → (kind < low) ⊎ (high < kind) → low ≤ k → k ≤ high → (kind == k) ≡ false
is_not kind low high k (inl lt) least most = ne_eqb kind k (λ e. absurd (omega (arith, e, lt, least)))
is_not kind low high k (inr gt) least most = ne_eqb kind k (λ e. absurd (omega (arith, e, gt, most)))

-- below a first kind, one that is left out, or above a last one
is_none : (kind low out high k : ℕ) → (kind < low) ⊎ ((kind ≡ out) ⊎ (high < kind)) → low ≤ k → (k ≡ out → ⊥) → k ≤ high → (kind == k) ≡ false
is_none kind low out high k (inl lt) least other most = ne_eqb kind k (λ e. absurd (omega (arith, e, lt, least)))
is_none kind low out high k (inr (inl same)) least other most = ne_eqb kind k (λ e. other (sym e ∙ same))
is_none kind low out high k (inr (inr gt)) least other most = ne_eqb kind k (λ e. absurd (omega (arith, e, gt, most)))

no_kind_left : (kind : ℕ) (bytes : List ℕ) → (kind < 3) ⊎ ((kind ≡ 8) ⊎ (9 < kind)) → record_of_kind kind bytes ≡ Err (Kind 0)
unfolding record_of_kind shared_of_kind
no_kind_left kind bytes other = rw (no 3 (omega arith) (λ e. absurd cc) (omega arith), no 4 (omega arith) (λ e. absurd cc) (omega arith), no 5 (omega arith) (λ e. absurd cc) (omega arith), no 6 (omega arith) (λ e. absurd cc) (omega arith), no 7 (omega arith) (λ e. absurd cc) (omega arith), no 9 (omega arith) (λ e. absurd cc) (omega arith)) refl
  where
    no : (k : ℕ) → 3 ≤ k → (k ≡ 8 → ⊥) → k ≤ 9 → (kind == k) ≡ false
    no k least differs most = is_none kind 3 8 9 k other least differs most

no_old_kind_left : (kind : ℕ) (bytes : List ℕ) → (kind < 1) ⊎ (5 < kind) → old_record_of_kind kind bytes ≡ Err (Kind 0)
unfolding old_record_of_kind shared_of_kind
no_old_kind_left kind bytes other =
    rw (is_not kind 1 5 1 other (omega arith) (omega arith), is_not kind 1 5 2 other (omega arith) (omega arith), is_not kind 1 5 3 other (omega arith) (omega arith), is_not kind 1 5 4 other (omega arith) (omega arith), is_not kind 1 5 5 other (omega arith) (omega arith)) refl

pub no_kind : (kind : ℕ) (rest : List ℕ) → (kind < 3) ⊎ ((kind ≡ 8) ⊎ (9 < kind)) → record_of (kind ∷ rest) ≡ Err (Kind 0)
unfolding record_of
no_kind kind rest other = none_by record_of_kind kind rest (no_kind_left kind (kind ∷ rest) other)

pub no_old_kind : (kind : ℕ) (rest : List ℕ) → (kind < 1) ⊎ (5 < kind) → old_record_of (kind ∷ rest) ≡ Err (Kind 0)
unfolding old_record_of
no_old_kind kind rest other = none_by old_record_of_kind kind rest (no_old_kind_left kind (kind ∷ rest) other)

pub same_kind : (kind : ℕ) (rest : List ℕ) → 3 ≤ kind → kind ≤ 5 → record_of (kind ∷ rest) ≡ old_record_of (kind ∷ rest)
unfolding record_of old_record_of
same_kind kind rest low high = same_by record_of_kind old_record_of_kind kind rest (shared_kind kind (kind ∷ rest) high ∙ sym (old_shared_kind kind (kind ∷ rest) low))

-- ---- the lengths

longer_entry : (first : ℕ) (entry : Entry) → HasBands entry → length (entry_bytes entry) ≡ length (old_entry_bytes first entry) + more_bytes entry
unfolding entry_bytes old_entry_bytes
longer_entry first (Started session booking eligible None) bands = omega (arith, bands.0.some, sets_len eligible.count eligible.sets, numbers_len 64 8 (items_in eligible.sets first))
longer_entry first (Started session booking eligible (Some list)) bands =
    omega (arith, bands.0.some, length-append (sets_bytes eligible.count eligible.sets) (list_bytes list), sets_len eligible.count eligible.sets, list_len list, numbers_len 64 8 (items_in eligible.sets first))
longer_entry first (SetAside session step band cause nodes) bands = refl
longer_entry first (Served session step item form proved nodes) bands = omega arith
longer_entry first (Answered session step response) bands = refl
longer_entry first (Closed session) bands = refl

-- by so many bytes a start without a list
pub more_unlisted : (session booking : ℕ) (eligible : Bands) (without : Option Without) → without ≡ None → more_bytes (Started session booking eligible without) ≡ 64 * eligible.count - 63
more_unlisted session booking eligible None unlisted = refl
more_unlisted session booking eligible (Some list) unlisted = absurd (cc)

pub longer_by : (first : ℕ) (r : Record) → HasBands r.entry → length (payload_of r) ≡ length (old_payload_of first r) + more_bytes r.entry
unfolding payload_of old_payload_of
longer_by first r bands = omega (arith, longer_entry first r.entry bands, length-append (entry_bytes r.entry) (tree_bytes r.tree), length-append (old_entry_bytes first r.entry) (tree_bytes r.tree))

-- ---- the mark of a move

long_entry : (entry : Entry) → 5 ≤ length (entry_bytes entry)
unfolding entry_bytes
long_entry (Started session booking eligible None) = omega arith
long_entry (Started session booking eligible (Some list)) = omega arith
long_entry (SetAside session step band cause nodes) = omega arith
long_entry (Served session step item form proved nodes) = omega arith
long_entry (Answered session step response) = omega arith
long_entry (Closed session) = omega arith

long_old_entry : (first : ℕ) (entry : Entry) → 5 ≤ length (old_entry_bytes first entry)
unfolding old_entry_bytes
long_old_entry first (Started session booking eligible without) = omega arith
long_old_entry first (SetAside session step band cause nodes) = omega arith
long_old_entry first (Served session step item form proved nodes) = omega arith
long_old_entry first (Answered session step response) = omega arith
long_old_entry first (Closed session) = omega arith

pub is_no_mark : (r : Record) → payload_of r ≡ 8 ∷ [] → ⊥
unfolding payload_of
is_no_mark r e = absurd (omega (arith, ap length e, long_entry r.entry, length-append (entry_bytes r.entry) (tree_bytes r.tree)))

pub is_no_old_mark : (first : ℕ) (r : Record) → old_payload_of first r ≡ 8 ∷ [] → ⊥
unfolding old_payload_of
is_no_old_mark first r e = absurd (omega (arith, ap length e, long_old_entry first r.entry, length-append (old_entry_bytes first r.entry) (tree_bytes r.tree)))
