-- What lifting makes of the records of the first version of the journal.
use Rattle.std.proofs.Common.{◌≡◌, ◌≢◌, ℕ, suc, ◌<◌, inl, inr, Bool, false, ◌&&◌, List, [], ◌∷◌, ◌++◌, length, set, get_or, Option, Some, None, refl, sym, ap, ◌∙◌, subst, arith}
use Rattle.std.specs.Prelude.{nat_le}
use Rattle.std.proofs.lemmas.Bool.{le-ltb, cases_eq}
use Rattle.std.proofs.lemmas.List.{get_or-set_same, get_or-set_other}
use Rattle.std.proofs.lemmas.List.Sums.{count_by-le-length}
use Rattle.bank_tables.specs.Items.{has}
use Rattle.bank_tables.specs.Tables.{Tables, size}
use Rattle.bank_tables.proofs.Bits.{same_sets}
use Rattle.form_model.specs.Plan.{Plan, band_of, bands_of}
use Rattle.form_model.specs.Problem.{Problem}
use Rattle.serving_model.specs.Seats.{first_band}
use Rattle.form_model.specs.Validity.{IsPlanFor}
use Rattle.history_model.specs.declared.entry.Bands.{Bands}
use Rattle.history_model.specs.declared.entry.Cause.{Cause}
use Rattle.history_model.specs.declared.entry.Entry.{Entry}
use Rattle.history_model.specs.declared.entry.Entry.TheVariants.{Started, SetAside, Served, Answered, Closed}
use Rattle.history_model.specs.declared.entry.Without.{Without}
use Rattle.history_model.specs.declared.place.Place.TheVariants.{Pending}
use Rattle.history_model.specs.Counts.{band_counts}
use Rattle.history_model.specs.Draws.{SameItems, AreDrawn, drawn}
use Rattle.history_model.specs.Entries.{items_in, starts, sets_aside}
use Rattle.history_model.specs.Lifting.{AreLifted, IsLifted}
use Rattle.history_model.specs.Lists.{IsLegalWithout}
use Rattle.history_model.specs.SessionProblems.{IsProblemOf}
use Rattle.history_model.proofs.JudgingLaws.{one_problem}
use Rattle.exam_records.specs.Old.{one_band}
use Rattle.exam_records.specs.Sets.{set_bytes}
use Rattle.exam_records.specs.Spelling.{old_entry_bytes}
use Rattle.std.specs.Int.{w32, w64, to_be_bytes}
use Rattle.exam_records.specs.Shape.{AreEligible, AreSets, HasItemsIfAny, HasNoList, IsInRange}
use Rattle.exam_session.specs.Laws.{LegalHasBands, MayIsLifted, LiftedIsOne}

-- the draws are sets of as many bands as an entry may have
pub drawn_eligible : (b : Tables) (plan : Plan) (H : List Entry) (s : ℕ) (eligible : Bands) → IsPlanFor b plan → AreDrawn b plan H s eligible → AreEligible eligible
drawn_eligible b plan H s eligible valid are =
    let number = are.number in
    let few = valid.bands.few in
    record {
      some = omega arith;
      few = omega arith;
      none_past = λ band past i. are.each band i ∙ ap (λ (t : Bool). t && drawn plan.key plan.rate s band (size b) (band_counts b plan H band) i) (le-ltb band (bands_of plan) (omega (arith, past, number)));
    }

-- a list that is legal has items
legal_items : (b : Tables) (plan : Plan) (without : Option Without) → IsLegalWithout b plan without → HasItemsIfAny without
legal_items b plan None legal = tt
legal_items b plan (Some list) legal = (legal.items.item, legal.items.listed)

-- an entry that starts no session has no list
pub no_list_unless_start : (e : Entry) → starts e ≡ false → HasNoList e
no_list_unless_start (Started session booking eligible without) is = absurd (cc)
no_list_unless_start (SetAside session step band cause nodes) is = tt
no_list_unless_start (Served session step item form proved nodes) is = tt
no_list_unless_start (Answered session step response) is = tt
no_list_unless_start (Closed session) is = tt

pub legal_has_bands : LegalHasBands
legal_has_bands b plan H (Started session booking eligible without) valid legal = (drawn_eligible b plan H session eligible valid legal.drawn, legal_items b plan without legal.listed)
legal_has_bands b plan H (SetAside session step band cause nodes) valid legal =
    let is = legal.band_is in
    let most = count_by-le-length (λ point. nat_le point legal.problem.theta) plan.bands in
    let few = valid.bands.few in
    omega arith
legal_has_bands b plan H (Served session step item form proved nodes) valid legal = tt
legal_has_bands b plan H (Answered session step response) valid legal = tt
legal_has_bands b plan H (Closed session) valid legal = tt

-- ---- what is kept of an entry that may follow is lifted to it
same_step : (a c : ℕ) → Some (Pending a) ≡ Some (Pending c) → a ≡ c
same_step a c e = cc

same_aside : (s step band now other nodes : ℕ) (cause : Cause) → step ≡ now → band ≡ other → SetAside s step band cause nodes ≡ SetAside s now other cause nodes
same_aside s step band now other nodes cause e f = cc

-- a session waits at one step, with one problem
pub aside_at : (b : Tables) (plan : Plan) (H : List Entry) (s step now band nodes : ℕ) (cause : Cause) (P Q : Problem) → IsProblemOf b plan H s step P → band ≡ band_of plan P.theta → IsProblemOf b plan H s now Q → SetAside s step band cause nodes ≡ SetAside s now (band_of plan Q.theta) cause nodes
aside_at b plan H s step now band nodes cause P Q is band_is other =
    let at : step ≡ now = same_step step now (sym is.pending ∙ other.pending) in
    let same : P ≡ Q = one_problem b plan H s now P Q (subst (λ (k : ℕ). IsProblemOf b plan H s k P) at is) other in
    same_aside s step band now (band_of plan Q.theta) nodes cause at (band_is ∙ ap (λ (R : Problem). band_of plan R.theta) same)

pub may_is_lifted : MayIsLifted
may_is_lifted b plan H (Started session booking eligible without) tree unlisted may =
    (eligible, record { number = may.0.drawn.number; kept = λ i. refl; others = λ band other. may.0.drawn.each band }, ap (λ (list : Option Without). Started session booking eligible list) unlisted)
may_is_lifted b plan H (SetAside session step band cause nodes) tree unlisted may = record {
  pending = λ now P is. aside_at b plan H session step now band nodes cause may.problem P may.is_problem may.band_is is;
  stays = λ none. absurd (none step may.is_problem.pending);
}
may_is_lifted b plan H (Served session step item form proved nodes) tree unlisted may = refl
may_is_lifted b plan H (Answered session step response) tree unlisted may = refl
may_is_lifted b plan H (Closed session) tree unlisted may = refl

-- ---- and to nothing else
pub same_lists : (xs ys : List (List ℕ)) → length xs ≡ length ys → ((k : ℕ) → k < length xs → get_or xs k [] ≡ get_or ys k []) → xs ≡ ys
same_lists [] [] number same = refl
same_lists [] (y ∷ ys) number same = absurd (omega arith)
same_lists (x ∷ xs) [] number same = absurd (omega arith)
same_lists (x ∷ xs) (y ∷ ys) number same =
    ap (λ (z : List ℕ). z ∷ xs) (same 0 (omega arith)) ∙ ap (λ (zs : List (List ℕ)). y ∷ zs) (same_lists xs ys (omega arith) (λ k below. same (suc k) (omega arith)))

same_bands : (c d : ℕ) (xs ys : List (List ℕ)) → c ≡ d → xs ≡ ys → (let x : Bands = record { count = c; sets = xs } in let y : Bands = record { count = d; sets = ys } in x ≡ y)
same_bands c d xs ys e f = cc

-- sets of the same items are the same
one_bands : (b : Tables) (plan : Plan) (H : List Entry) (s : ℕ) (eligible new : Bands) → AreSets eligible → AreSets new → AreDrawn b plan H s eligible → AreLifted b plan H s (one_band (get_or eligible.sets (first_band b plan) [])) new → new ≡ eligible
one_bands b plan H s eligible new are are_new made lifted =
    same_bands new.count eligible.count new.sets eligible.sets (lifted.number ∙ sym made.number)
    (same_lists new.sets eligible.sets (are_new.eight ∙ sym are.eight) (λ k below. let low : k < 8 = subst (λ (n : ℕ). k < n) are_new.eight below in same_sets (get_or new.sets k []) (get_or eligible.sets k []) (are_new.each k low) (are.each k low) (items k)))
  where
    items : (k : ℕ) → SameItems (items_in new.sets k) (items_in eligible.sets k)
    items k i = elim (cases_eq k (first_band b plan)) [
      | inl first ↦ ap (λ (n : ℕ). items_in new.sets n i) first ∙ (lifted.kept i ∙ ap (λ (n : ℕ). items_in eligible.sets n i) (sym first))
      | inr other ↦ lifted.others k other i ∙ sym (made.each k i)
    ]

pub lifted_is_one : LiftedIsOne
lifted_is_one b plan H (Started session booking eligible without) new tree fits fits_new unlisted may lifted =
    let sets : Bands = lifted.0 in
    let range : IsInRange (Started session booking sets None) = subst IsInRange lifted.2 fits_new in
    lifted.2 ∙ (ap (λ (x : Bands). Started session booking x None) (one_bands b plan H session eligible sets fits.2 range.2 may.0.drawn lifted.1)
    ∙ ap (λ (list : Option Without). Started session booking eligible list) (sym unlisted))
lifted_is_one b plan H (SetAside session step band cause nodes) new tree fits fits_new unlisted may lifted =
    lifted.pending step may.problem may.is_problem ∙ same_aside session step (band_of plan may.problem.theta) step band nodes cause refl (sym may.band_is)
lifted_is_one b plan H (Served session step item form proved nodes) new tree fits fits_new unlisted may lifted = lifted
lifted_is_one b plan H (Answered session step response) new tree fits fits_new unlisted may lifted = lifted
lifted_is_one b plan H (Closed session) new tree fits fits_new unlisted may lifted = lifted

-- ---- the sets that lifting makes: the draws, with that of a record where each session begins
module _ (b : Tables) (plan : Plan) (H : List Entry) (s : ℕ) (old made : Bands) (first : ℕ) (words : List ℕ) (valid : IsPlanFor b plan) (is_first : first ≡ first_band b plan) (of_plan : first < bands_of plan) (within : first < length made.sets) (is_old : words ≡ get_or old.sets 0 [])
    (drawn_so : AreDrawn b plan H s made) where
  there : get_or (set made.sets first words) (first_band b plan) [] ≡ get_or old.sets 0 []
  there = ap (λ (k : ℕ). get_or (set made.sets first words) k []) (sym is_first) ∙ (get_or-set_same made.sets first words [] within ∙ is_old)

  elsewhere : (band : ℕ) → band ≢ first → get_or (set made.sets first words) band [] ≡ get_or made.sets band []
  elsewhere band other = get_or-set_other made.sets first band words [] other

  pub sets_lifted : (let new : Bands = record { count = made.count; sets = set made.sets first words } in AreLifted b plan H s old new)
  sets_lifted = record {
    number = drawn_so.number;
    kept = λ i. ap (λ (w : List ℕ). has w i) there;
    others = λ band other i. ap (λ (w : List ℕ). has w i) (elsewhere band (λ same. other (same ∙ is_first))) ∙ drawn_so.each band i;
  }

  pub sets_eligible : (let new : Bands = record { count = made.count; sets = set made.sets first words } in AreEligible new)
  sets_eligible =
      let are = drawn_eligible b plan H s made valid drawn_so in
      let number : made.count ≡ bands_of plan = drawn_so.number in
      record {
        some = are.some;
        few = are.few;
        none_past = λ band past i. ap (λ (w : List ℕ). has w i) (elsewhere band (λ same. absurd (omega (arith, past, number, of_plan, same)))) ∙ are.none_past band past i;
      }

  pub sets_first : get_or (set made.sets first words) (first_band b plan) [] ≡ get_or old.sets 0 []
  sets_first = there

-- ---- the bytes of the first version stay
pub start_bytes : (first session booking : ℕ) (old new : Bands) (list : Option Without) → get_or new.sets first [] ≡ get_or old.sets 0 [] → old_entry_bytes first (Started session booking new None) ≡ old_entry_bytes 0 (Started session booking old list)
unfolding old_entry_bytes
start_bytes first session booking old new list same = ap (λ (words : List ℕ). 1 ∷ (to_be_bytes w32 session ++ (to_be_bytes w64 booking ++ set_bytes (has words)))) same

pub aside_bytes : (first session step band now other nodes : ℕ) (cause : Cause) → old_entry_bytes first (SetAside session step band cause nodes) ≡ old_entry_bytes 0 (SetAside session now other cause nodes)
unfolding old_entry_bytes
aside_bytes first session step band now other nodes cause = refl

pub other_bytes : (first : ℕ) (e : Entry) → starts e ≡ false → old_entry_bytes first e ≡ old_entry_bytes 0 e
unfolding old_entry_bytes
other_bytes first (Started session booking eligible without) no_start = absurd (cc)
other_bytes first (SetAside session step band cause nodes) no_start = refl
other_bytes first (Served session step item form proved nodes) no_start = refl
other_bytes first (Answered session step response) no_start = refl
other_bytes first (Closed session) no_start = refl

-- an entry that is neither a start nor a setting aside stays
pub others_stay : (b : Tables) (plan : Plan) (H : List Entry) (e : Entry) → starts e ≡ false → sets_aside e ≡ false → IsLifted b plan H e e
others_stay b plan H (Started session booking eligible without) no_start no_aside = absurd (cc)
others_stay b plan H (SetAside session step band cause nodes) no_start no_aside = absurd (cc)
others_stay b plan H (Served session step item form proved nodes) no_start no_aside = refl
others_stay b plan H (Answered session step response) no_start no_aside = refl
others_stay b plan H (Closed session) no_start no_aside = refl
