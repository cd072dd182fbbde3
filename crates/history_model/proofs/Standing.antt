-- What follows from a place for the entries.
use Rattle.std.proofs.Common.{◌≡◌, ℕ, zero, suc, ◌+◌, ◌≤◌, ◌<◌, inl, inr, Bool, true, false, cond, not, ◌==◌, List, [], ◌∷◌, length, slice_get, Option, Some, None, refl, sym, ap, ◌∙◌, arith}
use Rattle.std.specs.Prelude.{nat_le, find}
use Rattle.std.proofs.lemmas.Bool.{eqb-true, eq-eqb, leb-true, le-leb, cases_lt}
use Rattle.std.proofs.Math.Bool.{true≢false}
use Rattle.form_model.specs.Plan.{Plan}
use Rattle.form_model.proofs.SumLaws.{either}
use Rattle.history_model.specs.declared.entry.Entry.{Entry}
use Rattle.history_model.specs.declared.place.Place.{Place}
use Rattle.history_model.specs.declared.place.Place.TheVariants.{Pending, Waiting, Complete, Closed}
use Rattle.history_model.specs.Entries.{Serving, is_started, is_closed, step_answers}
use Rattle.history_model.specs.Places.{serving_at, place_at, place}

-- the place, by what it reads of the history
abbrev place_by : Bool → Bool → Bool → ℕ → Option Serving → Option Place
place_by is_there closed full k o = cond (not is_there) None (cond closed (Some Closed) (cond full (Some Complete) (Some (place_at k o))))

-- ---- a list's end
pub past_end : {A : Type 0} (xs : List A) (k : ℕ) → slice_get xs k ≡ None → length xs ≤ k
past_end [] k e = omega arith
past_end (x ∷ xs) zero e = absurd (cc)
past_end (x ∷ xs) (suc k) e = omega (arith, past_end xs k e)

pub before_end : {A : Type 0} (xs : List A) (k : ℕ) (x : A) → slice_get xs k ≡ Some x → k < length xs
before_end [] k x e = absurd (cc)
before_end (y ∷ xs) zero x e = omega arith
before_end (y ∷ xs) (suc k) x e = omega (arith, before_end xs k x e)

-- ---- pending
record IsPendingBy (is_there closed full : Bool) (n k : ℕ) (o : Option Serving) : Type 0 where
  pub there : is_there ≡ true
  pub not_closed : closed ≡ false
  pub not_full : full ≡ false
  pub number : n ≡ k
  pub not_served : o ≡ None

pending_at : (n k : ℕ) (o : Option Serving) → ◌≡◌ {A = Option Place} (Some (place_at n o)) (Some (Pending k)) → (n ≡ k) × (o ≡ None)
pending_at n k None e = (cc, refl)
pending_at n k (Some serving) e = cc

pending_by : (is_there closed full : Bool) (n k : ℕ) (o : Option Serving) → place_by is_there closed full n o ≡ Some (Pending k) → IsPendingBy is_there closed full n k o
pending_by false closed full n k o e = absurd (cc)
pending_by true true full n k o e = absurd (cc)
pending_by true false true n k o e = absurd (cc)
pending_by true false false n k o e = let p = pending_at n k o e in record { there = refl; not_closed = refl; not_full = refl; number = p.0; not_served = p.1 }

pub record IsPendingAt (plan : Plan) (H : List Entry) (s k : ℕ) : Type 0 where
  pub there : is_started H s ≡ true
  pub not_closed : is_closed H s ≡ false
  pub not_full : length (step_answers H s) < plan.length
  pub number : length (step_answers H s) ≡ k
  pub not_served : serving_at H s (length (step_answers H s)) ≡ None

below_of : (n m : ℕ) → nat_le n m ≡ false → m < n
below_of n m e = elim (cases_lt m n) [ inl below ↦ below | inr not_below ↦ absurd (true≢false (sym (le-leb n m not_below) ∙ e)) ]

pub pending : (plan : Plan) (H : List Entry) (s k : ℕ) → place plan H s ≡ Some (Pending k) → IsPendingAt plan H s k
pending plan H s k e =
    let p = pending_by (is_started H s) (is_closed H s) (nat_le plan.length (length (step_answers H s))) (length (step_answers H s)) k (serving_at H s (length (step_answers H s))) e in
    record { there = p.there; not_closed = p.not_closed; not_full = below_of _ _ p.not_full; number = p.number; not_served = p.not_served }

-- ---- waiting
record IsWaitingBy (is_there closed full : Bool) (n k item : ℕ) (proved : Bool) (o : Option Serving) : Type 0 where
  pub there : is_there ≡ true
  pub not_closed : closed ≡ false
  pub not_full : full ≡ false
  pub number : n ≡ k
  pub serving : Serving
  pub served : o ≡ Some serving
  pub item_is : serving.item ≡ item
  pub mark_is : serving.proved ≡ proved

waiting_by : (is_there closed full : Bool) (n k item : ℕ) (proved : Bool) (o : Option Serving) → place_by is_there closed full n o ≡ Some (Waiting k item proved) → IsWaitingBy is_there closed full n k item proved o
waiting_by false closed full n k item proved o e = absurd (cc)
waiting_by true true full n k item proved o e = absurd (cc)
waiting_by true false true n k item proved o e = absurd (cc)
waiting_by true false false n k item proved None e = absurd (cc)
waiting_by true false false n k item proved (Some serving) e = record { there = refl; not_closed = refl; not_full = refl; number = cc; serving = serving; served = refl; item_is = cc; mark_is = cc }

pub record IsWaitingFor (plan : Plan) (H : List Entry) (s k item : ℕ) (proved : Bool) : Type 0 where
  pub there : is_started H s ≡ true
  pub not_closed : is_closed H s ≡ false
  pub not_full : length (step_answers H s) < plan.length
  pub number : length (step_answers H s) ≡ k
  pub serving : Serving
  pub served : serving_at H s (length (step_answers H s)) ≡ Some serving
  pub item_is : serving.item ≡ item
  pub mark_is : serving.proved ≡ proved

pub waiting : (plan : Plan) (H : List Entry) (s k item : ℕ) (proved : Bool) → place plan H s ≡ Some (Waiting k item proved) → IsWaitingFor plan H s k item proved
waiting plan H s k item proved e =
    let p = waiting_by (is_started H s) (is_closed H s) (nat_le plan.length (length (step_answers H s))) (length (step_answers H s)) k item proved (serving_at H s (length (step_answers H s))) e in
    record { there = p.there; not_closed = p.not_closed; not_full = below_of _ _ p.not_full; number = p.number; serving = p.serving; served = p.served; item_is = p.item_is; mark_is = p.mark_is }

-- ---- complete
complete_by : (is_there closed full : Bool) (n : ℕ) (o : Option Serving) → place_by is_there closed full n o ≡ Some Complete → (is_there ≡ true) × (full ≡ true)
complete_by false closed full n o e = absurd (cc)
complete_by true true full n o e = absurd (cc)
complete_by true false true n o e = (refl, refl)
complete_by true false false n None e = absurd (cc)
complete_by true false false n (Some serving) e = absurd (cc)

pub complete : (plan : Plan) (H : List Entry) (s : ℕ) → place plan H s ≡ Some Complete → (is_started H s ≡ true) × (plan.length ≤ length (step_answers H s))
complete plan H s e =
    let p = complete_by (is_started H s) (is_closed H s) (nat_le plan.length (length (step_answers H s))) (length (step_answers H s)) (serving_at H s (length (step_answers H s))) e in
    (p.0, leb-true _ _ p.1)

-- ---- somewhere
there_by : (is_there closed full : Bool) (n : ℕ) (o : Option Serving) (p : Place) → place_by is_there closed full n o ≡ Some p → is_there ≡ true
there_by false closed full n o p e = absurd (cc)
there_by true closed full n o p e = refl

pub there : (plan : Plan) (H : List Entry) (s : ℕ) (p : Place) → place plan H s ≡ Some p → is_started H s ≡ true
there plan H s p e = there_by (is_started H s) (is_closed H s) (nat_le plan.length (length (step_answers H s))) (length (step_answers H s)) (serving_at H s (length (step_answers H s))) p e

-- ---- where the k-th serving is that of step k, the serving of a step is found at the place of its
-- number
pub find_step : (xs : List Serving) (from k : ℕ) → ((j : ℕ) (x : Serving) → slice_get xs j ≡ Some x → x.step ≡ from + j) → find (λ (x : Serving). x.step == from + k) xs ≡ slice_get xs k
find_step [] from k order = refl
find_step (x ∷ xs) from zero order = ap (λ (found : Bool). cond found (Some x) (find (λ (y : Serving). y.step == from + 0) xs)) (eq-eqb x.step (from + 0) (order 0 x refl))
find_step (x ∷ xs) from (suc k) order =
    let other : (x.step == from + suc k) ≡ false = elim (either (x.step == from + suc k)) [ inl same ↦ absurd (let e = eqb-true x.step (from + suc k) same in let o = order 0 x refl in omega arith) | inr differs ↦ differs ] in
    let shift : from + suc k ≡ suc from + k = omega arith in
    ap (λ (found : Bool). cond found (Some x) (find (λ (y : Serving). y.step == from + suc k) xs)) other
    ∙ (ap (λ (n : ℕ). find (λ (y : Serving). y.step == n) xs) shift ∙ find_step xs (suc from) k (λ j y e. let o = order (suc j) y e in omega arith))
