-- The bands of a start, and the band of a setting aside: what is read was written there, and what
-- was written is read.
use Rattle.std.proofs.Common.{◌≡◌, ℕ, zero, suc, ◌+◌, ◌-◌, ◌*◌, ◌<◌, ◌≤◌, ◌==◌, ◌||◌, false, ltb, List, [], ◌∷◌, ◌++◌, length, get_or, take, drop, set, append_assoc, Ok, Err, refl, sym, ap, subst, ◌∙◌, arith, inl, inr, length-append, add-one}
use Rattle.std.specs.Prelude.{replicate}
use Rattle.std.proofs.lemmas.Bool.{cases_eq, cases_lt, eqb-false, ne_eqb, ltb-false, le-ltb, or_parts, or_from}
use Rattle.std.proofs.lemmas.List.{set_at as set_in_list, length-replicate, get_or-replicate, get_or_append_left, get_or-append_right, get_or_past, ext_get_or, get_or-take, get_or-drop, length-drop, length-take-le, take-append-drop}
use Rattle.bank_tables.specs.Items.{has, AreWords}
use Rattle.exam_text.specs.First.{◌>>=◌, unless, fault_where, each_below}
use Rattle.exam_text.proofs.Firsts.{bind_ok, unless_ok, none_where, ok_is, each_is, each_from, each_more, each_fails}
use Rattle.history_model.specs.declared.entry.Bands.{Bands}
use Rattle.history_model.specs.Entries.{items_in}
use Rattle.proof_tree.specs.Reading.{byte_at}
use Rattle.proof_tree.proofs.Fields.{IsBytes, Stands, stand_both, stand_first, stand_second, nothing_stands}
use Rattle.exam_records.specs.declared.fault.RecordFault.{RecordFault}
use Rattle.exam_records.specs.declared.fault.RecordFault.TheVariants.{Field}
use Rattle.exam_records.specs.Shape.{AreEligible, AreSets}
use Rattle.exam_records.specs.Sets.{no_items, set_bytes}
use Rattle.exam_records.specs.Spelling.{sets_bytes}
use Rattle.exam_records.specs.Reading.{field, set_at, count_at, band_at, bands_of, bands_at}
use Rattle.exam_records.proofs.SetLaws.{numbers_len, are_words, words_again}
use Rattle.exam_records.proofs.BandLaws.{has_none, has_nothing}
use Rattle.exam_records.proofs.FieldLaws.{byte_found, byte_read, set_found, set_read}

-- ---- the bytes of sets

pub sets_len : (n : ℕ) (sets : List (List ℕ)) → length (sets_bytes n sets) ≡ 64 * n
unfolding sets_bytes
sets_len zero sets = refl
sets_len (suc n) sets = omega (arith, sets_len n sets, length-append (sets_bytes n sets) (set_bytes (items_in sets n)), numbers_len 64 8 (items_in sets n))

pub sets_more : (n : ℕ) (sets : List (List ℕ)) → sets_bytes (n + 1) sets ≡ sets_bytes n sets ++ set_bytes (items_in sets n)
unfolding sets_bytes
sets_more n sets = rw add-one refl

-- the set of each band is at its place
pub set_stands : (n band : ℕ) (sets : List (List ℕ)) (bytes : List ℕ) (at next : ℕ) → band < n → Stands bytes at (sets_bytes n sets) next → Stands bytes (at + 64 * band) (set_bytes (items_in sets band)) (at + 64 * band + 64)
unfolding sets_bytes
set_stands zero band sets bytes at next lt p = absurd (omega arith)
set_stands (suc n) band sets bytes at next lt p =
    let first : Stands bytes at (sets_bytes n sets) (at + length (sets_bytes n sets)) = stand_first bytes at (sets_bytes n sets) (set_bytes (items_in sets n)) next p in
    let last : Stands bytes (at + length (sets_bytes n sets)) (set_bytes (items_in sets n)) next = stand_second bytes at (sets_bytes n sets) (set_bytes (items_in sets n)) next p in
    elim (cases_eq band n) [
      | inl same ↦
          let here : at + length (sets_bytes n sets) ≡ at + 64 * band = omega (arith, sets_len n sets, same) in
          let end : next ≡ at + 64 * band + 64 = omega (arith, last.ends, numbers_len 64 8 (items_in sets n), here) in
          subst (λ (m : ℕ). Stands bytes (at + 64 * band) (set_bytes (items_in sets m)) (at + 64 * band + 64)) (sym same)
          (subst (λ (m : ℕ). Stands bytes (at + 64 * band) (set_bytes (items_in sets n)) m) end
          (subst (λ (m : ℕ). Stands bytes m (set_bytes (items_in sets n)) next) here last))
      | inr other ↦ set_stands n band sets bytes at (at + length (sets_bytes n sets)) (omega (arith, lt, other)) first
    ]

-- sets at their places are one after the other
pub sets_stand : (n : ℕ) (sets : List (List ℕ)) (bytes : List ℕ) (at : ℕ) → ((band : ℕ) → band < n → Stands bytes (at + 64 * band) (set_bytes (items_in sets band)) (at + 64 * band + 64)) → Stands bytes at (sets_bytes n sets) (at + 64 * n)
unfolding sets_bytes
sets_stand zero sets bytes at each = subst (λ (m : ℕ). Stands bytes at [] m) (omega arith) (nothing_stands bytes at)
sets_stand (suc n) sets bytes at each =
    let before = sets_stand n sets bytes at (λ band lt. each band (omega (arith, lt))) in
    let end : at + 64 * n + 64 ≡ at + 64 * suc n = omega arith in
    subst (λ (m : ℕ). Stands bytes at (sets_bytes n sets ++ set_bytes (items_in sets n)) m) end
    (stand_both bytes at (sets_bytes n sets) (at + 64 * n) (set_bytes (items_in sets n)) (at + 64 * n + 64) before (each n (omega arith)))

-- ---- bands that are made of so many sets

pub set_within : (n : ℕ) (xs : List (List ℕ)) (band : ℕ) → length xs ≡ n → band < n → get_or (bands_of n xs).sets band [] ≡ get_or xs band []
set_within n xs band len lt = get_or_append_left xs (replicate (8 - n) no_items) [] band (omega (arith, len, lt))

set_past : (n : ℕ) (xs : List (List ℕ)) (band : ℕ) → length xs ≡ n → n ≤ band → band < 8 → get_or (bands_of n xs).sets band [] ≡ no_items
set_past n xs band len le lt = get_or-append_right xs (replicate (8 - n) no_items) n band [] len le ∙ get_or-replicate (8 - n) (band - n) no_items [] (omega (arith, le, lt))

all_eight : (n : ℕ) (xs : List (List ℕ)) → length xs ≡ n → n ≤ 8 → length (bands_of n xs).sets ≡ 8
all_eight n xs len few = omega (arith, len, few, length-append xs (replicate (8 - n) no_items), length-replicate (8 - n) no_items)

bands_eligible : (n : ℕ) (xs : List (List ℕ)) → length xs ≡ n → 0 < n → n ≤ 8 → AreEligible (bands_of n xs)
bands_eligible n xs len some few = record {
  some = some;
  few = few;
  none_past = λ band le i. elim (cases_lt band 8) [
    | inl lt ↦ ap (λ (w : List ℕ). has w i) (set_past n xs band len le lt) ∙ has_none i
    | inr past ↦ ap (λ (w : List ℕ). has w i) (get_or_past (bands_of n xs).sets band [] (omega (arith, past, all_eight n xs len few))) ∙ has_nothing i
  ];
}

bands_sets : (n : ℕ) (xs : List (List ℕ)) → length xs ≡ n → n ≤ 8 → ((band : ℕ) → band < n → AreWords (get_or xs band [])) → AreSets (bands_of n xs)
bands_sets n xs len few words = record {
  eight = all_eight n xs len few;
  each = λ band lt. elim (cases_lt band n) [
    | inl less ↦ subst AreWords (sym (set_within n xs band len less)) (words band less)
    | inr le ↦ subst AreWords (sym (set_past n xs band len le lt)) (are_words (λ _. false))
  ];
}

abbrev bands_with : ℕ → List (List ℕ) → Bands
bands_with count sets = record { count = count; sets = sets }

-- the bands of a start are those that are made of its sets that count
pub bands_again : (eligible : Bands) → AreEligible eligible → AreSets eligible → bands_of eligible.count (take eligible.count eligible.sets) ≡ eligible
bands_again eligible are sets = ap (bands_with eligible.count) (ap (λ (t : List (List ℕ)). take eligible.count eligible.sets ++ t) (sym past) ∙ take-append-drop eligible.count eligible.sets)
  where
    none : (band : ℕ) → eligible.count ≤ band → band < 8 → get_or eligible.sets band [] ≡ no_items
    none band le lt = words_again (get_or eligible.sets band []) (λ _. false) (sets.each band lt) (λ i _. are.none_past band le i)

    past : drop eligible.count eligible.sets ≡ replicate (8 - eligible.count) no_items
    past = ext_get_or [] (drop eligible.count eligible.sets) (replicate (8 - eligible.count) no_items) (omega (arith, length-drop eligible.count eligible.sets, sets.eight, length-replicate (8 - eligible.count) no_items)) (λ i lt.
        let within : i < 8 - eligible.count = omega (arith, lt, length-drop eligible.count eligible.sets, sets.eight) in
        get_or-drop eligible.count eligible.sets i [] ∙ (none (eligible.count + i) (omega arith) (omega (arith, within)) ∙ sym (get_or-replicate (8 - eligible.count) i no_items [] within)))

-- ---- a number of bands, and a band

pub count_found : (bytes : List ℕ) (at count : ℕ) → IsBytes bytes → count_at bytes at ≡ Ok count → Stands bytes at (count ∷ []) (at + 1) × (0 < count) × (count ≤ 8)
unfolding count_at
count_found bytes at count fits e =
    let a = bind_ok (field (byte_at bytes at)) (λ n. unless (fault_where ((n == 0) || ltb 8 n) (Field at)) (Ok n)) count e in
    let u = unless_ok (fault_where ((a.0 == 0) || ltb 8 a.0) (Field at)) (Ok a.0) count a.2 in
    let good = or_parts (a.0 == 0) (ltb 8 a.0) (none_where ((a.0 == 0) || ltb 8 a.0) (Field at) u.0) in
    let some : 0 < a.0 = omega (arith, eqb-false a.0 0 good.0) in
    let few : a.0 ≤ 8 = ltb-false _ _ good.1 in
    let here = byte_found bytes at a.0 fits a.1 in
    subst (λ (n : ℕ). Stands bytes at (n ∷ []) (at + 1) × (0 < n) × (n ≤ 8)) (ok_is {F = RecordFault} a.0 count u.1) (here.0, some, few)

pub count_fits : (count : ℕ) → 0 < count → count ≤ 8 → ((count == 0) || ltb 8 count) ≡ false
count_fits count some few = or_from (count == 0) (ltb 8 count) (ne_eqb count 0 (λ e. absurd (omega (arith, e)))) (le-ltb 8 count few)

pub count_read : (bytes : List ℕ) (at count next : ℕ) → Stands bytes at (count ∷ []) next → 0 < count → count ≤ 8 → count_at bytes at ≡ Ok count
unfolding count_at
count_read bytes at count next p some few = rw (byte_read bytes at count next p, count_fits count some few) refl

pub band_found : (bytes : List ℕ) (at band : ℕ) → IsBytes bytes → band_at bytes at ≡ Ok band → Stands bytes at (band ∷ []) (at + 1) × (band < 8)
unfolding band_at
band_found bytes at band fits e =
    let a = bind_ok (field (byte_at bytes at)) (λ n. unless (fault_where (ltb 7 n) (Field at)) (Ok n)) band e in
    let u = unless_ok (fault_where (ltb 7 a.0) (Field at)) (Ok a.0) band a.2 in
    let few : a.0 ≤ 7 = ltb-false _ _ (none_where (ltb 7 a.0) (Field at) u.0) in
    let here = byte_found bytes at a.0 fits a.1 in
    let below : a.0 < 8 = omega (arith, few) in
    subst (λ (n : ℕ). Stands bytes at (n ∷ []) (at + 1) × (n < 8)) (ok_is {F = RecordFault} a.0 band u.1) (here.0, below)

pub band_read : (bytes : List ℕ) (at band next : ℕ) → Stands bytes at (band ∷ []) next → band < 8 → band_at bytes at ≡ Ok band
unfolding band_at
band_read bytes at band next p lt =
    let few : ltb 7 band ≡ false = le-ltb 7 band (omega arith) in
    rw (byte_read bytes at band next p, few) refl

-- ---- bands

-- bands that are at a place
pub record IsBandsAt (bytes : List ℕ) (at : ℕ) (eligible : Bands) : Type 0 where
  pub stands : Stands bytes at (eligible.count ∷ sets_bytes eligible.count eligible.sets) (at + 1 + 64 * eligible.count)
  pub are : AreEligible eligible
  pub sets : AreSets eligible

pub bands_found : (bytes : List ℕ) (at : ℕ) (eligible : Bands) → IsBytes bytes → bands_at bytes at ≡ Ok eligible → IsBandsAt bytes at eligible
unfolding bands_at
bands_found bytes at eligible fits e =
    let a = bind_ok (count_at bytes at) (λ count. each_below count (λ band. set_at bytes (at + 1 + 64 * band)) >>= λ sets. Ok (bands_of count sets)) eligible e in
    let s = bind_ok (each_below a.0 (λ band. set_at bytes (at + 1 + 64 * band))) (λ sets. Ok (bands_of a.0 sets)) eligible a.2 in
    let count = count_found bytes at a.0 fits a.1 in
    let is = each_is a.0 (λ band. set_at bytes (at + 1 + 64 * band)) s.0 s.1 in
    let each : (band : ℕ) → band < a.0 → Stands bytes (at + 1 + 64 * band) (set_bytes (has (get_or s.0 band []))) (at + 1 + 64 * band + 64) × AreWords (get_or s.0 band []) = λ band lt. set_found bytes (at + 1 + 64 * band) (get_or s.0 band []) fits (is.1 band [] lt) in
    let sets : Stands bytes (at + 1) (sets_bytes a.0 (bands_of a.0 s.0).sets) (at + 1 + 64 * a.0) = sets_stand a.0 (bands_of a.0 s.0).sets bytes (at + 1) (λ band lt. subst (λ (w : List ℕ). Stands bytes (at + 1 + 64 * band) (set_bytes (has w)) (at + 1 + 64 * band + 64)) (sym (set_within a.0 s.0 band is.0 lt)) (each band lt).0) in
    let found : IsBandsAt bytes at (bands_of a.0 s.0) = record {
      stands = stand_both bytes at (a.0 ∷ []) (at + 1) (sets_bytes a.0 (bands_of a.0 s.0).sets) (at + 1 + 64 * a.0) count.0 sets;
      are = bands_eligible a.0 s.0 is.0 count.1 count.2;
      sets = bands_sets a.0 s.0 is.0 count.2 (λ band lt. (each band lt).1);
    } in
    subst (IsBandsAt bytes at) (ok_is {F = RecordFault} (bands_of a.0 s.0) eligible s.2) found

pub bands_read : (bytes : List ℕ) (at : ℕ) (eligible : Bands) (next : ℕ) → AreEligible eligible → AreSets eligible → Stands bytes at (eligible.count ∷ sets_bytes eligible.count eligible.sets) next → bands_at bytes at ≡ Ok eligible
unfolding bands_at
bands_read bytes at eligible next are sets p =
    let n : ℕ = eligible.count in
    let few : n ≤ length eligible.sets = omega (arith, are.few, sets.eight) in
    let count = count_read bytes at n (at + 1) (stand_first bytes at (n ∷ []) (sets_bytes n eligible.sets) next p) are.some are.few in
    let behind : Stands bytes (at + 1) (sets_bytes n eligible.sets) next = stand_second bytes at (n ∷ []) (sets_bytes n eligible.sets) next p in
    let each : each_below n (λ band. set_at bytes (at + 1 + 64 * band)) ≡ Ok (take n eligible.sets) = each_from n (λ band. set_at bytes (at + 1 + 64 * band)) (take n eligible.sets) [] (length-take-le n eligible.sets few) (λ band lt.
    set_read bytes (at + 1 + 64 * band) (get_or eligible.sets band []) (at + 1 + 64 * band + 64) (sets.each band (omega (arith, lt, are.few))) (set_stands n band eligible.sets bytes (at + 1) next lt behind)
    ∙ ap (λ (w : List ℕ). Ok w) (sym (get_or-take n eligible.sets band [] lt))) in
    rw (count, each) (ap (λ (b : Bands). Ok b) (bands_again eligible are sets))

-- ---- the loop

-- so many sets were read, and the others are empty yet
pub record IsReadTo (bytes : List ℕ) (at band : ℕ) (sets : List (List ℕ)) : Type 0 where
  pub found : List (List ℕ)
  pub read : each_below band (λ n. set_at bytes (at + 1 + 64 * n)) ≡ Ok found
  pub made : sets ≡ (bands_of band found).sets
  pub there : at + 1 + 64 * band ≤ length bytes

pub none_read : (bytes : List ℕ) (at : ℕ) → at + 1 ≤ length bytes → IsReadTo bytes at 0 (replicate 8 no_items)
none_read bytes at there = record { found = []; read = refl; made = refl; there = omega (arith, there) }

pub one_more_read : (bytes : List ℕ) (at band : ℕ) (sets : List (List ℕ)) (words : List ℕ) → band < 8 → IsReadTo bytes at band sets → set_at bytes (at + 1 + 64 * band) ≡ Ok words → at + 1 + 64 * band + 64 ≤ length bytes → IsReadTo bytes at (band + 1) (set sets band words)
one_more_read bytes at band sets words lt so_far e there =
    let is = each_is band (λ n. set_at bytes (at + 1 + 64 * n)) so_far.found so_far.read in
    let left : 8 - band ≡ (8 - (band + 1)) + 1 = omega (arith, lt) in
    let rest : replicate (8 - band) no_items ≡ no_items ∷ replicate (8 - (band + 1)) no_items = ap (λ (n : ℕ). replicate n no_items) (left ∙ add-one (8 - (band + 1))) in
    record {
      found = so_far.found ++ words ∷ [];
      read = each_more band (λ n. set_at bytes (at + 1 + 64 * n)) so_far.found words so_far.read e;
      made = ap (λ (t : List (List ℕ)). set t band words) (so_far.made ∙ ap (λ (t : List (List ℕ)). so_far.found ++ t) rest) ∙ (set_in_list so_far.found no_items (replicate (8 - (band + 1)) no_items) words band is.0 ∙ sym (append_assoc so_far.found (words ∷ []) (replicate (8 - (band + 1)) no_items)));
      there = omega (arith, there);
    }

pub bands_fail : (bytes : List ℕ) (at count band : ℕ) (sets : List (List ℕ)) (fault : RecordFault) → count_at bytes at ≡ Ok count → band < count → IsReadTo bytes at band sets → set_at bytes (at + 1 + 64 * band) ≡ Err fault → bands_at bytes at ≡ Err fault
unfolding bands_at
bands_fail bytes at count band sets fault counted lt so_far e = rw (counted, each_fails count band (λ n. set_at bytes (at + 1 + 64 * n)) so_far.found fault so_far.read e lt) refl
