-- A draft whose tests find nothing is a plan, and the tests find nothing in a plan.
use Rattle.std.proofs.Common.{◌≡◌, ℕ, zero, suc, ◌+◌, ◌-◌, ◌%◌, ◌<◌, ◌≤◌, ◌||◌, ◌&&◌, ◌==◌, not, true, List, [], ◌∷◌, length, get_or, Some, None, ℤ, pos, refl, subst, arith, inl, inr}
use Rattle.std.specs.Prelude.{nat_le, nat_lt, int_lt, neg_ℤ}
use Rattle.std.specs.List.{list_all}
use Rattle.std.proofs.lemmas.Int.{ints}
use Rattle.std.proofs.lemmas.List.{get_or_past}
use Rattle.std.proofs.lemmas.Bool.{and_parts, and_from, or_parts, eqb-true, eqb-false, eq-eqb, ne_eqb, ltb-true, ltb-false, lt-ltb, le-ltb, leb-true, leb-false, le-leb, lt-leb, not-false, not-true, not_from_false, cases_lt}
use Rattle.exam_text.specs.First.{◌orelse◌}
use Rattle.exam_text.proofs.Firsts.{none_split, none_each, none_from, none_where}
use Rattle.bank_tables.specs.Items.{has}
use Rattle.bank_tables.specs.Tables.{Tables, size}
use Rattle.bank_tables.specs.Validity.{IsLogLik}
use Rattle.bank_tables.specs.Faults.{is_loglik}
use Rattle.bank_tables.proofs.BankLaws.{each_passes, all_pass}
use Rattle.form_model.specs.declared.draft.Rate.{Rate}
use Rattle.form_model.specs.declared.row.Row.{Row}
use Rattle.form_model.specs.declared.row.Row.TheVariants.{Count, Quantity, Enemies, Stimuli}
use Rattle.form_model.specs.declared.row.StimulusBound.{StimulusBound}
use Rattle.form_model.specs.Plan.{Plan, row_at, bound_at, no_bound}
use Rattle.form_model.specs.Forms.{Meets, stimuli_of}
use Rattle.form_model.specs.Validity.{IsRowSet, IsRow, IsBudget, AreBands, IsPlanFor}
use Rattle.constraint_model.specs.Countable.{IsCountable}
use Rattle.constraint_model.specs.Faults.{range_fault, set_fault, quantity_fault, row_fault, is_prior, front_fault, bound_fault, bounds_fault, is_rate, rise, are_bands, is_budget, is_between, limits_fault, numbers_fault}
use Rattle.constraint_model.proofs.SetLaws.{member_of, not_empty_from, none_unknown, no_unknown_from}

above : (n : ℕ) → (n ≡ 0 → ⊥) → 0 < n
above n h = omega arith

-- ---- rows
range_is : (r low high most : ℕ) → range_fault r low high most ≡ None → (low ≤ high) × (high ≤ most)
range_is r low high most e =
    let p = or_parts (nat_lt high low) (nat_lt most high) (none_where _ _ e) in
    (ltb-false _ _ p.0, ltb-false _ _ p.1)

range_from : (r low high most : ℕ) → low ≤ high → high ≤ most → range_fault r low high most ≡ None
range_from r low high most order top = rw (le-ltb high low order, le-ltb most high top) refl

set_is : (b : Tables) (r : ℕ) (set : List ℕ) → set_fault b r set ≡ None → IsRowSet b (has set)
set_is b r set e =
    let p = none_split _ _ e in
    let (i, member) = member_of set (none_where _ _ p.0) in
    record { member = i; is_member = member; items = none_unknown b set (none_where _ _ p.1) }

set_from : (b : Tables) (r : ℕ) (set : List ℕ) → IsRowSet b (has set) → set_fault b r set ≡ None
set_from b r set h = rw (not_empty_from set h.member h.is_member, no_unknown_from b set h.items) refl

quantity_is : (b : Tables) (r which : ℕ) → quantity_fault b r which ≡ None → which < b.quantities
quantity_is b r which e = leb-false _ _ (none_where _ _ e)

quantity_from : (b : Tables) (r which : ℕ) → which < b.quantities → quantity_fault b r which ≡ None
quantity_from b r which lt = rw (lt-leb b.quantities which lt) refl

pub row_is : (b : Tables) (r : ℕ) (row : Row) → row_fault b r row ≡ None → IsRow b row
unfolding row_fault
row_is b r (Count set low high) e =
    let p = none_split _ _ e in
    let range = range_is r low high 512 p.0 in
    (range.0, range.1, set_is b r set p.1)
row_is b r (Quantity which set low high) e =
    let p = none_split _ _ e in
    let q = none_split _ _ p.1 in
    let range = range_is r low high 33553920 p.0 in
    (range.0, range.1, set_is b r set q.0, quantity_is b r which q.1)
row_is b r (Enemies set) e = set_is b r set e
row_is b r (Stimuli low high) e = range_is r low high 64 e

row_from : (b : Tables) (r : ℕ) (row : Row) → IsRow b row → row_fault b r row ≡ None
unfolding row_fault
row_from b r (Count set low high) h = rw (range_from r low high 512 h.0 h.1, set_from b r set h.2) refl
row_from b r (Quantity which set low high) h = rw (range_from r low high 33553920 h.0 h.1, set_from b r set h.2, quantity_from b r which h.3) refl
row_from b r (Enemies set) h = set_from b r set h
row_from b r (Stimuli low high) h = range_from r low high 64 h.0 h.1

-- ---- the prior
loglik_is : (z : ℤ) → is_loglik z ≡ true → IsLogLik z
loglik_is z e = let p = and_parts (not (int_lt z (neg_ℤ (pos 10000000)))) (not (int_lt (pos 0) z)) e in (grind (arith, ints, not-true _ p.0), grind (arith, ints, not-true _ p.1))

loglik_from : (z : ℤ) → IsLogLik z → is_loglik z ≡ true
loglik_from z h = and_from _ _ (not_from_false _ (grind (arith, ints, h.0))) (not_from_false _ (grind (arith, ints, h.1)))

zero_stands : IsLogLik (pos 0)
zero_stands = (omega (arith, ints), omega (arith, ints))

prior_is : (b : Tables) (plan : Plan) → is_prior b plan ≡ true → (length plan.prior ≡ b.grid) × ((point : ℕ) → IsLogLik (get_or plan.prior point (pos 0)))
prior_is b plan e =
    let p = and_parts (length plan.prior == b.grid) (list_all is_loglik plan.prior) e in (
      eqb-true _ _ p.0,
      λ point. elim (cases_lt point (length plan.prior)) [
        | inl lt ↦ loglik_is (get_or plan.prior point (pos 0)) (each_passes is_loglik plan.prior point (pos 0) p.1 lt)
        | inr past ↦ rw (get_or_past plan.prior point (pos 0) past) zero_stands
      ],
    )

prior_from : (b : Tables) (plan : Plan) → length plan.prior ≡ b.grid → ((point : ℕ) → IsLogLik (get_or plan.prior point (pos 0))) → is_prior b plan ≡ true
prior_from b plan number range = and_from _ _ (eq-eqb _ _ number) (all_pass is_loglik plan.prior (pos 0) (λ point lt. loglik_from (get_or plan.prior point (pos 0)) (range point)))

-- ---- the front
pub record FrontStands (b : Tables) (plan : Plan) : Type 0 where
  pub some_items : 0 < plan.length
  pub few_items : plan.length ≤ size b
  pub prior_number : length plan.prior ≡ b.grid
  pub prior_range : (point : ℕ) → IsLogLik (get_or plan.prior point (pos 0))
  pub few_rows : length plan.rows ≤ 128
  pub rows : (r : ℕ) → r < length plan.rows → IsRow b (row_at plan r)

pub front_is : (b : Tables) (plan : Plan) → front_fault b plan ≡ None → FrontStands b plan
unfolding front_fault
front_is b plan e =
    let a = none_split _ _ e in
    let p = none_split _ _ a.1 in
    let q = none_split _ _ p.1 in
    let items = or_parts (plan.length == 0) (nat_lt (size b) plan.length) (none_where _ _ a.0) in
    let prior = prior_is b plan (not-false _ (none_where _ _ p.0)) in
    record {
      some_items = above plan.length (eqb-false _ _ items.0);
      few_items = ltb-false _ _ items.1;
      prior_number = prior.0;
      prior_range = prior.1;
      few_rows = ltb-false _ _ (none_where _ _ q.0);
      rows = λ r lt. row_is b r (row_at plan r) (none_each (length plan.rows) (λ r. row_fault b r (row_at plan r)) q.1 r lt);
    }

front_from : (b : Tables) (plan : Plan) → IsPlanFor b plan → front_fault b plan ≡ None
unfolding front_fault
front_from b plan h =
    rw (
      ne_eqb plan.length 0 (λ z. omega (arith, z, h.some_items)),
      le-ltb (size b) plan.length h.few_items,
      prior_from b plan h.prior_number h.prior_range,
      le-ltb 128 (length plan.rows) h.few_rows,
    ) (none_from (length plan.rows) (λ r. row_fault b r (row_at plan r)) (λ r lt. row_from b r (row_at plan r) (h.rows r lt)))

-- ---- the bounds
record BoundStands (bound : StimulusBound) : Type 0 where
  some_low : 0 < bound.low
  low_high : bound.low ≤ bound.high
  high : bound.high ≤ 512

bound_is : (s : ℕ) (bound : StimulusBound) → bound_fault s bound ≡ None → BoundStands bound
bound_is s bound e =
    let p = or_parts (bound.low == 0) (nat_lt bound.high bound.low || nat_lt 512 bound.high) (none_where _ _ e) in
    let q = or_parts (nat_lt bound.high bound.low) (nat_lt 512 bound.high) p.1 in
    record { some_low = above bound.low (eqb-false _ _ p.0); low_high = ltb-false _ _ q.0; high = ltb-false _ _ q.1 }

bound_from : (s : ℕ) (bound : StimulusBound) → BoundStands bound → bound_fault s bound ≡ None
bound_from s bound h = rw (ne_eqb bound.low 0 (λ z. omega (arith, z, h.some_low)), le-ltb bound.high bound.low h.low_high, le-ltb 512 bound.high h.high) refl

pub record BoundsStand (b : Tables) (plan : Plan) : Type 0 where
  pub each_stimulus : length plan.bounds ≡ stimuli_of b
  pub some_low : (s : ℕ) → 0 < s → s ≤ stimuli_of b → 0 < (bound_at plan s).low
  pub low_high : (s : ℕ) → 0 < s → s ≤ stimuli_of b → (bound_at plan s).low ≤ (bound_at plan s).high
  pub high : (s : ℕ) → 0 < s → s ≤ stimuli_of b → (bound_at plan s).high ≤ 512

pub bounds_is : (b : Tables) (plan : Plan) → bounds_fault b plan ≡ None → BoundsStand b plan
unfolding bounds_fault
bounds_is b plan e =
    let p = none_split _ _ e in
    let q = none_split _ _ p.1 in
    let enough : stimuli_of b ≤ length plan.bounds = ltb-false _ _ (none_where _ _ p.0) in
    let few : length plan.bounds ≤ stimuli_of b = ltb-false _ _ (none_where _ _ q.0) in
    let each : (s : ℕ) → 0 < s → s ≤ stimuli_of b → BoundStands (bound_at plan s) = λ s first last.
    let lt : s - 1 < stimuli_of b = omega arith in
    bound_is (s - 1 + 1) (bound_at plan s) (none_each (stimuli_of b) (λ k. bound_fault (k + 1) (get_or plan.bounds k no_bound)) q.1 (s - 1) lt) in
    record {
      each_stimulus = omega arith;
      some_low = λ s first last. (each s first last).some_low;
      low_high = λ s first last. (each s first last).low_high;
      high = λ s first last. (each s first last).high;
    }

bounds_from : (b : Tables) (plan : Plan) → IsPlanFor b plan → bounds_fault b plan ≡ None
unfolding bounds_fault
bounds_from b plan h =
    let same : length plan.bounds ≡ stimuli_of b = h.each_stimulus in
    let each : (k : ℕ) → k < stimuli_of b → bound_fault (k + 1) (get_or plan.bounds k no_bound) ≡ None = λ k lt.
    let back : k + 1 - 1 ≡ k = omega arith in
    let first : 0 < k + 1 = omega arith in
    let last : k + 1 ≤ stimuli_of b = omega arith in
    let stands : BoundStands (get_or plan.bounds (k + 1 - 1) no_bound) = record { some_low = h.some_low (k + 1) first last; low_high = h.low_high (k + 1) first last; high = h.high (k + 1) first last } in
    bound_from (k + 1) (get_or plan.bounds k no_bound) (subst (λ (i : ℕ). BoundStands (get_or plan.bounds i no_bound)) back stands) in
    rw (
      le-ltb (length plan.bounds) (stimuli_of b) (omega arith),
      le-ltb (stimuli_of b) (length plan.bounds) (omega arith),
    ) (none_from (stimuli_of b) (λ k. bound_fault (k + 1) (get_or plan.bounds k no_bound)) each)

-- ---- the bands
-- points that rise from `low` on
record Rising (low high : ℕ) (points : List ℕ) : Type 0 where
  above : (k : ℕ) → k < length points → low < get_or points k 0
  within : (k : ℕ) → k < length points → get_or points k 0 < high
  order : (j k : ℕ) → j < k → k < length points → get_or points j 0 < get_or points k 0

rise_is : (low high : ℕ) (points : List ℕ) → rise low high points ≡ true → Rising low high points
rise_is low high [] e = record {
  above = λ k lt. absurd (omega (arith, lt));
  within = λ k lt. absurd (omega (arith, lt));
  order = λ j k less lt. absurd (omega (arith, lt));
}
rise_is low high (p ∷ ps) e =
    let first = and_parts (nat_lt low p) (nat_lt p high && rise p high ps) e in
    let second = and_parts (nat_lt p high) (rise p high ps) first.1 in
    let above : low < p = ltb-true low p first.0 in
    let rest = rise_is p high ps second.1 in
    record {
      above = λ k lt. above_at ps p low above rest.above k lt;
      within = λ k lt. within_at ps p high (ltb-true p high second.0) rest.within k lt;
      order = λ j k less lt. order_at ps p rest.above rest.order j k less lt;
    }
  where
    above_at : (ps : List ℕ) (p low : ℕ) → low < p → ((k : ℕ) → k < length ps → p < get_or ps k 0) → (k : ℕ) → k < length (p ∷ ps) → low < get_or (p ∷ ps) k 0
    above_at ps p low h each zero lt = h
    above_at ps p low h each (suc k) lt = omega (arith, h, each k (omega (arith, lt)))

    within_at : (ps : List ℕ) (p high : ℕ) → p < high → ((k : ℕ) → k < length ps → get_or ps k 0 < high) → (k : ℕ) → k < length (p ∷ ps) → get_or (p ∷ ps) k 0 < high
    within_at ps p high h each zero lt = h
    within_at ps p high h each (suc k) lt = each k (omega (arith, lt))

    order_at : (ps : List ℕ) (p : ℕ) → ((k : ℕ) → k < length ps → p < get_or ps k 0) → ((j k : ℕ) → j < k → k < length ps → get_or ps j 0 < get_or ps k 0) → (j k : ℕ) → j < k → k < length (p ∷ ps) → get_or (p ∷ ps) j 0 < get_or (p ∷ ps) k 0
    order_at ps p above order j zero less lt = absurd (omega (arith, less))
    order_at ps p above order zero (suc k) less lt = above k (omega (arith, lt))
    order_at ps p above order (suc j) (suc k) less lt = order j k (omega (arith, less)) (omega (arith, lt))

rise_from : (low high : ℕ) (points : List ℕ) → Rising low high points → rise low high points ≡ true
rise_from low high [] h = refl
rise_from low high (p ∷ ps) h =
    let some : 0 < length (p ∷ ps) = omega arith in
    let rest : Rising p high ps = record {
      above = λ k lt. h.order 0 (suc k) (omega arith) (omega (arith, lt));
      within = λ k lt. h.within (suc k) (omega (arith, lt));
      order = λ j k less lt. h.order (suc j) (suc k) (omega (arith, less)) (omega (arith, lt));
    } in
    and_from _ _ (lt-ltb low p (h.above 0 some)) (and_from _ _ (lt-ltb p high (h.within 0 some)) (rise_from p high ps rest))

bands_is : (grid : ℕ) (points : List ℕ) → are_bands grid points ≡ true → AreBands grid points
bands_is grid points e =
    let p = and_parts (nat_le (length points) 7) (rise 0 grid points) e in
    let rising = rise_is 0 grid points p.1 in
    record { few = leb-true _ _ p.0; some = rising.above; within = rising.within; rising = rising.order }

bands_from : (grid : ℕ) (points : List ℕ) → AreBands grid points → are_bands grid points ≡ true
bands_from grid points h =
    and_from _ _ (le-leb _ _ h.few) (rise_from 0 grid points (record { above = h.some; within = h.within; order = h.rising }))

-- ---- the rate, the bands, the budgets and the limits
budget_is : (nodes : ℕ) → is_budget nodes ≡ true → IsBudget nodes
budget_is nodes e = let p = and_parts (nodes % 2 == 1) (nat_le nodes 4095) e in record { uneven = eqb-true _ _ p.0; high = leb-true _ _ p.1 }

budget_from : (nodes : ℕ) → IsBudget nodes → is_budget nodes ≡ true
budget_from nodes h = and_from _ _ (eq-eqb _ _ h.uneven) (le-leb _ _ h.high)

between_is : (low high n : ℕ) → is_between low high n ≡ true → (low ≤ n) × (n ≤ high)
between_is low high n e = let p = and_parts (nat_le low n) (nat_le n high) e in (leb-true _ _ p.0, leb-true _ _ p.1)

between_from : (low high n : ℕ) → low ≤ n → n ≤ high → is_between low high n ≡ true
between_from low high n h k = and_from _ _ (le-leb _ _ h) (le-leb _ _ k)

record RateStands (rate : Rate) : Type 0 where
  some : 0 < rate.num
  most : rate.num ≤ rate.den
  high : rate.den ≤ 65535

rate_is : (rate : Rate) → is_rate rate ≡ true → RateStands rate
rate_is rate e =
    let p = and_parts (nat_lt 0 rate.num) (nat_le rate.num rate.den && nat_le rate.den 65535) e in
    let q = and_parts (nat_le rate.num rate.den) (nat_le rate.den 65535) p.1 in
    record { some = ltb-true _ _ p.0; most = leb-true _ _ q.0; high = leb-true _ _ q.1 }

rate_from : (rate : Rate) → RateStands rate → is_rate rate ≡ true
rate_from rate h = and_from _ _ (lt-ltb _ _ h.some) (and_from _ _ (le-leb _ _ h.most) (le-leb _ _ h.high))

pub record LimitsStand (b : Tables) (plan : Plan) : Type 0 where
  pub some_rate : 0 < plan.rate.num
  pub rate : plan.rate.num ≤ plan.rate.den
  pub rate_high : plan.rate.den ≤ 65535
  pub bands : AreBands b.grid plan.bands
  pub budget : IsBudget plan.budget
  pub base_budget : IsBudget plan.base_budget
  pub some_sessions : 0 < plan.sessions
  pub few_sessions : plan.sessions ≤ 65536
  pub journal_low : 64 ≤ plan.journal
  pub journal_high : plan.journal ≤ 536870912

pub limits_is : (b : Tables) (plan : Plan) → limits_fault b plan ≡ None → LimitsStand b plan
unfolding limits_fault
limits_is b plan e =
    let p = none_split _ _ e in
    let r = none_split _ _ p.1 in
    let q = none_split _ _ r.1 in
    let rate = rate_is plan.rate (not-false _ (none_where _ _ p.0)) in
    let budgets = and_parts (is_budget plan.budget) (is_budget plan.base_budget) (not-false _ (none_where _ _ q.0)) in
    let limits = and_parts (is_between 1 65536 plan.sessions) (is_between 64 536870912 plan.journal) (not-false _ (none_where _ _ q.1)) in
    let sessions = between_is 1 65536 plan.sessions limits.0 in
    let journal = between_is 64 536870912 plan.journal limits.1 in
    record {
      some_rate = rate.some;
      rate = rate.most;
      rate_high = rate.high;
      bands = bands_is b.grid plan.bands (not-false _ (none_where _ _ r.0));
      budget = budget_is plan.budget budgets.0;
      base_budget = budget_is plan.base_budget budgets.1;
      some_sessions = omega (arith, sessions.0);
      few_sessions = sessions.1;
      journal_low = journal.0;
      journal_high = journal.1;
    }

limits_from : (b : Tables) (plan : Plan) → IsPlanFor b plan → limits_fault b plan ≡ None
unfolding limits_fault
limits_from b plan h =
    let some : 1 ≤ plan.sessions = omega (arith, h.some_sessions) in
    rw (
      rate_from plan.rate (record { some = h.some_rate; most = h.rate; high = h.rate_high }),
      bands_from b.grid plan.bands h.bands,
      budget_from plan.budget h.budget,
      budget_from plan.base_budget h.base_budget,
      between_from 1 65536 plan.sessions some h.few_sessions,
      between_from 64 536870912 plan.journal h.journal_low h.journal_high,
    ) refl

-- ---- the plan
-- none of the three finds a fault
numbers_split : (b : Tables) (plan : Plan) → numbers_fault b plan ≡ None → (front_fault b plan ≡ None) × (bounds_fault b plan ≡ None) × (limits_fault b plan ≡ None)
numbers_split b plan e =
    let p = none_split (front_fault b plan) (bounds_fault b plan orelse limits_fault b plan) e in
    let q = none_split (bounds_fault b plan) (limits_fault b plan) p.1 in
    (p.0, q.0, q.1)

pub countable_from : (b : Tables) (plan : Plan) → numbers_fault b plan ≡ None → IsCountable b plan
countable_from b plan e =
    let none = numbers_split b plan e in
    let f = front_is b plan none.0 in
    record { few_rows = f.few_rows; rows = f.rows; each_stimulus = (bounds_is b plan none.1).each_stimulus }

pub plan_from : (b : Tables) (plan : Plan) → numbers_fault b plan ≡ None → ((words : List ℕ) → plan.base ≡ Some words → Meets b plan (has words)) → IsPlanFor b plan
plan_from b plan e base =
    let none = numbers_split b plan e in
    let f = front_is b plan none.0 in
    let s = bounds_is b plan none.1 in
    let l = limits_is b plan none.2 in
    record {
      some_items = f.some_items;
      few_items = f.few_items;
      prior_number = f.prior_number;
      prior_range = f.prior_range;
      few_rows = f.few_rows;
      rows = f.rows;
      each_stimulus = s.each_stimulus;
      some_low = s.some_low;
      low_high = s.low_high;
      high = s.high;
      some_rate = l.some_rate;
      rate = l.rate;
      rate_high = l.rate_high;
      bands = l.bands;
      budget = l.budget;
      base_budget = l.base_budget;
      some_sessions = l.some_sessions;
      few_sessions = l.few_sessions;
      journal_low = l.journal_low;
      journal_high = l.journal_high;
      base_meets = base;
    }

pub no_numbers_fault : (b : Tables) (plan : Plan) → IsPlanFor b plan → numbers_fault b plan ≡ None
no_numbers_fault b plan h = rw (front_from b plan h, bounds_from b plan h, limits_from b plan h) refl
