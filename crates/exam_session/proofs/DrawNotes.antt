-- The draws at the counts that a book keeps of each band.
use Rattle.std.proofs.Common.{◌≡◌, ◌≢◌, ℕ, zero, suc, ◌+◌, ◌<◌, ◌≤◌, inl, inr, Bool, true, false, ◌&&◌, List, [], length, set, get_or, slice_get, Option, Some, None, refl, sym, ap, ◌∙◌, subst, arith}
use Rattle.std.specs.Prelude.{nat_lt, IfSome, IfNone, MatchOption}
use Rattle.std.proofs.lemmas.Bool.{ltb-true, lt-ltb, le-ltb, cases_lt, cases_eq}
use Rattle.std.proofs.lemmas.List.{get_or-set_same, get_or-set_other, length-set}
use Rattle.std.proofs.lemmas.Option.{slice_get-get_or}
use Rattle.bank_tables.specs.Items.{Set, has, IsLowest}
use Rattle.bank_tables.specs.Tables.{Tables, size}
use Rattle.bank_tables.specs.Validity.{HoldsItems}
use Rattle.form_model.specs.declared.draft.Rate.{Rate}
use Rattle.form_model.specs.Plan.{Plan, bands_of}
use Rattle.serving_model.specs.Seats.{eight}
use Rattle.form_model.proofs.SumLaws.{and_true}
use Rattle.exam_records.proofs.BandLaws.{has_nothing}
use Rattle.exposure_counters.specs.Tallies.{Tally, counts_at}
use Rattle.history_model.specs.declared.counts.Counts.{Counts}
use Rattle.history_model.specs.declared.entry.Bands.{Bands}
use Rattle.history_model.specs.declared.entry.Entry.{Entry}
use Rattle.history_model.specs.Counts.{band_counts}
use Rattle.history_model.specs.Draws.{draw_word, is_admitted, drawn, draw, SameItems, AreDrawn, IsNotDrawn, other_number, other_items}
use Rattle.history_model.specs.Entries.{items_in}
use Rattle.exam_session.specs.Kept.{AreBandCounts, AreCountsByBand, drawn_at}

at_counts : (b : Tables) (plan : Plan) (H : List Entry) (band : ℕ) (tally : Tally) (s : ℕ) → AreBandCounts b plan H band tally → (i : ℕ) → drawn_at plan.key plan.rate s band tally i ≡ drawn plan.key plan.rate s band (size b) (band_counts b plan H band) i
at_counts b plan H band tally s are i = ap (λ (n : ℕ). drawn plan.key plan.rate s band n (counts_at tally) i) are.number ∙ by (nat_lt i (size b)) refl
  where
    by : (t : Bool) → nat_lt i (size b) ≡ t → drawn plan.key plan.rate s band (size b) (counts_at tally) i ≡ drawn plan.key plan.rate s band (size b) (band_counts b plan H band) i
    by true is = ap (λ (c : Counts). nat_lt i (size b) && is_admitted (draw_word plan.key s band i) plan.rate c) (are.each i (ltb-true i (size b) is))
    by false is = rw is refl

-- what was drawn with the plan's key and rate, at the counts of the book
module _ (b : Tables) (plan : Plan) (H : List Entry) (tallies : List Tally) (s : ℕ) (made : Bands) (are : AreCountsByBand b plan H tallies) (key : List ℕ) (rate : Rate) (is_key : key ≡ plan.key) (is_rate : rate ≡ plan.rate)
    (count : made.count ≡ length tallies)
    (is : (band : ℕ) (tally : Tally) → slice_get tallies band ≡ Some tally → SameItems (items_in made.sets band) (drawn_at key rate s band tally))
    (past : (band : ℕ) → length tallies ≤ band → SameItems (items_in made.sets band) (λ _. false)) where
  in_plan : (band : ℕ) (tally : Tally) → band < length tallies → slice_get tallies band ≡ Some tally → (i : ℕ) → items_in made.sets band i ≡ draw b plan H s band i
  in_plan band tally below there i =
      is band tally there i
      ∙ (ap (λ (k : List ℕ). drawn_at k rate s band tally i) is_key
      ∙ (ap (λ (r : Rate). drawn_at plan.key r s band tally i) is_rate
      ∙ (at_counts b plan H band tally s (are.each band tally there) i
      ∙ sym (ap (λ (t : Bool). t && drawn plan.key plan.rate s band (size b) (band_counts b plan H band) i) (lt-ltb band (bands_of plan) (subst (λ (n : ℕ). band < n) are.number below))))))

  each : (band : ℕ) → SameItems (items_in made.sets band) (draw b plan H s band)
  each band i = elim (cases_lt band (length tallies)) [
    | inl below ↦ in_plan band (get_or tallies band no_tally) below (slice_get-get_or tallies band no_tally below) i
    | inr beyond ↦ past band beyond i ∙ sym (ap (λ (t : Bool). t && drawn plan.key plan.rate s band (size b) (band_counts b plan H band) i) (le-ltb band (bands_of plan) (subst (λ (n : ℕ). n ≤ band) are.number beyond)))
  ]
    where
      no_tally : Tally
      no_tally = record { counts = []; finished = 0 }

  pub are_drawn : AreDrawn b plan H s made
  are_drawn = record { number = count ∙ are.number; each = each }

-- what is drawn are items of the bank
pub drawn_items : (b : Tables) (plan : Plan) (H : List Entry) (s : ℕ) (made : Bands) → AreDrawn b plan H s made → (band : ℕ) → HoldsItems b (items_in made.sets band)
drawn_items b plan H s made drawn band i there = ltb-true i (size b) (and_true (nat_lt i (size b)) _ (and_true (nat_lt band (bands_of plan)) _ (sym (drawn.each band i) ∙ there)).1).0

-- ---- sets that aren't the draws
pub not_as_many : (b : Tables) (plan : Plan) (H : List Entry) (s : ℕ) (eligible made : Bands) → AreDrawn b plan H s made → eligible.count ≢ made.count → IsNotDrawn b plan H s eligible 0
not_as_many b plan H s eligible made drawn other = other_number (λ same. other (same ∙ sym drawn.number))

module _ (b : Tables) (plan : Plan) (H : List Entry) (s : ℕ) (eligible made : Bands) (found : Set) (drawn : AreDrawn b plan H s made) (same_number : eligible.count ≡ made.count)
    (past : (band : ℕ) → 8 ≤ band → get_or eligible.sets band [] ≡ get_or made.sets band [])
    (same : (i : ℕ) → found i ≡ false → (band : ℕ) → band < 8 → items_in eligible.sets band i ≡ items_in made.sets band i)
    (differ : (i : ℕ) → found i ≡ true → (band : ℕ) × (items_in eligible.sets band i ≡ items_in made.sets band i → ⊥)) where
  alike : (i : ℕ) → found i ≡ false → (band : ℕ) → items_in eligible.sets band i ≡ draw b plan H s band i
  alike i none band = elim (cases_lt band 8) [
    | inl below ↦ same i none band below ∙ drawn.each band i
    | inr beyond ↦ ap (λ (words : List ℕ). has words i) (past band beyond) ∙ drawn.each band i
  ]

  pub is_not_drawn : (item : ℕ) → IsLowest found item → IsNotDrawn b plan H s eligible item
  is_not_drawn item lowest =
      let other = differ item lowest.member in
      other_items item (same_number ∙ drawn.number) (record { band = other.0; differs = λ e. other.1 (e ∙ sym (drawn.each other.0 item)); before = λ band i below. alike i (lowest.below i below) band })

  pub all_drawn : ((i : ℕ) → found i ≡ false) → AreDrawn b plan H s eligible
  all_drawn none = record { number = same_number ∙ drawn.number; each = λ band i. alike i (none i) band }

-- ---- the loop over the bands
eight_empty : (e : List ℕ) → ((i : ℕ) → has e i ≡ false) → (k i : ℕ) → has (get_or (eight (λ _. e)) k []) i ≡ false
eight_empty e none zero i = none i
eight_empty e none (suc zero) i = none i
eight_empty e none (suc (suc zero)) i = none i
eight_empty e none (suc (suc (suc zero))) i = none i
eight_empty e none (suc (suc (suc (suc zero)))) i = none i
eight_empty e none (suc (suc (suc (suc (suc zero))))) i = none i
eight_empty e none (suc (suc (suc (suc (suc (suc zero)))))) i = none i
eight_empty e none (suc (suc (suc (suc (suc (suc (suc zero))))))) i = none i
eight_empty e none (suc (suc (suc (suc (suc (suc (suc (suc k)))))))) i = has_nothing i

pub record DrawnSoFar (key : List ℕ) (rate : Rate) (s n : ℕ) (tallies : List Tally) (sets : List (List ℕ)) : Type 0 where
  pub number : length sets ≡ 8
  pub done : (band : ℕ) (tally : Tally) → band < n → slice_get tallies band ≡ Some tally → SameItems (items_in sets band) (drawn_at key rate s band tally)
  pub past : (band : ℕ) → n ≤ band → SameItems (items_in sets band) (λ _. false)

pub none_drawn : (key : List ℕ) (rate : Rate) (s : ℕ) (tallies : List Tally) (e : List ℕ) → ((i : ℕ) → has e i ≡ false) → DrawnSoFar key rate s 0 tallies (eight (λ _. e))
none_drawn key rate s tallies e none = record { number = refl; done = λ band tally below. absurd (omega (arith, below)); past = λ band past i. eight_empty e none band i }

same_tally : (x y : Tally) → Some x ≡ Some y → x ≡ y
same_tally x y e = cc

pub drawn_more : (key : List ℕ) (rate : Rate) (s n : ℕ) (tallies : List Tally) (sets : List (List ℕ)) (words : List ℕ) (tally : Tally) → n < 8 → slice_get tallies n ≡ Some tally → ((i : ℕ) → has words i ≡ drawn_at key rate s n tally i) → DrawnSoFar key rate s n tallies sets → DrawnSoFar key rate s (n + 1) tallies (set sets n words)
drawn_more key rate s n tallies sets words tally low at is so_far = record {
  number = length-set sets n words ∙ so_far.number;
  done = done;
  past = λ band past i. ap (λ (w : List ℕ). has w i) (get_or-set_other sets n band words [] (λ same. absurd (omega (arith, same, past)))) ∙ so_far.past band (omega (arith, past)) i;
}
  where
    within : n < length sets
    within = let number = so_far.number in omega arith

    done : (band : ℕ) (t : Tally) → band < n + 1 → slice_get tallies band ≡ Some t → SameItems (items_in (set sets n words) band) (drawn_at key rate s band t)
    done band t below there = elim (cases_eq band n) [
      | inl same ↦
          let this : t ≡ tally = same_tally t tally (sym there ∙ (ap (slice_get tallies) same ∙ at)) in
          λ i. ap (λ (k : ℕ). has (get_or (set sets n words) k []) i) same
          ∙ (ap (λ (w : List ℕ). has w i) (get_or-set_same sets n words [] within)
          ∙ (is i ∙ (ap (λ (k : ℕ). drawn_at key rate s k tally i) (sym same) ∙ ap (λ (x : Tally). drawn_at key rate s band x i) (sym this))))
      | inr other ↦ λ i. ap (λ (w : List ℕ). has w i) (get_or-set_other sets n band words [] other) ∙ so_far.done band t (omega (arith, below, other)) there i
    ]

-- ---- the lowest item at which some sets differ
pub if_lowest : (found : Set) (P : ℕ → Type 0) (r : Option ℕ) → MatchOption r ((i : ℕ) → found i ≡ false) (λ x. IsLowest found x) → ((x : ℕ) → IsLowest found x → P x) → IfSome r P
if_lowest found P None h f = tt
if_lowest found P (Some x) h f = f x h

pub if_none : (found : Set) (Q : Type 0) (r : Option ℕ) → MatchOption r ((i : ℕ) → found i ≡ false) (λ x. IsLowest found x) → (((i : ℕ) → found i ≡ false) → Q) → IfNone r Q
if_none found Q None h f = f h
if_none found Q (Some x) h f = tt
