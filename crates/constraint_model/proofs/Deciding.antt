-- A set meets the plan or breaches it first at one place, so a draft is a plan or has a first
-- fault.
use Rattle.std.proofs.Common.{◌≡◌, ℕ, zero, suc, ◌<◌, ◌≤◌, ◌⊎◌, inl, inr, Option, Some, None, List, length, refl, sym, ap, subst, ◌∙◌, arith}
use Rattle.std.proofs.lemmas.Bool.{cases_lt, cases_eq}
use Rattle.std.proofs.Math.Bool.{true≢false}
use Rattle.bank_tables.specs.Items.{Set, has}
use Rattle.bank_tables.specs.Sums.{size_of}
use Rattle.bank_tables.specs.Tables.{Tables}
use Rattle.form_model.specs.declared.breach.Breach.{Breach}
use Rattle.form_model.specs.declared.breach.Breach.TheVariants.{Length, Row, Stimulus, Given, Barred}
use Rattle.form_model.specs.Plan.{Plan, row_at, bound_at}
use Rattle.form_model.specs.Problem.{whole}
use Rattle.form_model.specs.Forms.{activity, used, items_of, size_in, stimuli_of, lower_bound, upper_bound, HasLength, RowHolds, StimulusHolds, Meets, Form}
use Rattle.form_model.specs.Breaches.{IsFirstBreach}
use Rattle.form_model.specs.Validity.{IsPlanFor}
use Rattle.form_model.proofs.SumLaws.{either}
use Rattle.form_model.proofs.BreachLaws.{breach_no_form}
use Rattle.form_model.proofs.OneBreach.{one_breach}
use Rattle.constraint_model.specs.declared.spec_fault.SpecFault.{SpecFault}
use Rattle.constraint_model.specs.declared.spec_fault.SpecFault.TheVariants.{BadBase, Memory}
use Rattle.constraint_model.specs.FirstBreaches.{RowsHoldBelow, StimuliHoldBelow, IsPlanBreach}
use Rattle.constraint_model.specs.Faults.{has_unknown, numbers_fault, IsBaseBreach, IsSpecFault}
use Rattle.constraint_model.specs.Laws.{PlanOrFault, NoFaultIsPlan, PlanHasNoFault, OneFault}
use Rattle.constraint_model.proofs.SetLaws.{none_unknown, no_unknown_from}
use Rattle.constraint_model.proofs.PlanLaws.{plan_from, no_numbers_fault}
use Rattle.constraint_model.proofs.FaultLaws.{numbers_first}

-- ---- what holds of a set
length_or_not : (b : Tables) (plan : Plan) (words : List ℕ) → HasLength b plan (has words) ⊎ (HasLength b plan (has words) → ⊥)
length_or_not b plan words = elim (either (has_unknown b words)) [
  | inl some ↦ inr (λ right. true≢false (sym some ∙ no_unknown_from b words right.in_bank))
  | inr none ↦ elim (cases_eq (size_in b (has words)) plan.length) [
    | inl same ↦ inl (record { in_bank = none_unknown b words none; n_items = same })
    | inr other ↦ inr (λ right. other right.n_items)
  ]
]

row_or_not : (b : Tables) (plan : Plan) (X : Set) (r : ℕ) → RowHolds b plan X r ⊎ (RowHolds b plan X r → ⊥)
row_or_not b plan X r = elim (cases_lt (activity b (row_at plan r) X (used b X)) (lower_bound (row_at plan r))) [
  | inl less ↦ inr (λ holds. omega (arith, less, holds.low))
  | inr enough ↦ elim (cases_lt (upper_bound (row_at plan r)) (activity b (row_at plan r) X (used b X))) [
    | inl more ↦ inr (λ holds. omega (arith, more, holds.high))
    | inr few ↦ inl (record { low = enough; high = few })
  ]
]

stimulus_or_not : (b : Tables) (plan : Plan) (X : Set) (s : ℕ) → StimulusHolds b plan X s ⊎ (StimulusHolds b plan X s → ⊥)
stimulus_or_not b plan X s = elim (cases_lt (bound_at plan s).high (items_of b s X)) [
  | inl more ↦ inr (λ holds. omega (arith, more, holds.high))
  | inr few ↦ elim (cases_eq (items_of b s X) 0) [
    | inl none ↦ inl (record { low = inl none; high = few })
    | inr some ↦ elim (cases_lt (items_of b s X) (bound_at plan s).low) [
      | inl less ↦ inr (λ holds. elim holds.low [ inl none ↦ some none | inr enough ↦ omega (arith, less, enough) ])
      | inr enough ↦ inl (record { low = inr enough; high = few })
    ]
  ]
]

-- ---- the first that doesn't hold
module _ (b : Tables) (plan : Plan) (X : Set) where
  last_or_below : (i n : ℕ) → i < suc n → (i < n) ⊎ (i ≡ n)
  last_or_below i n lt = grind arith

  pub rows_or_one : (n : ℕ) → RowsHoldBelow b plan X n ⊎ ((r : ℕ) × RowsHoldBelow b plan X r × (r < n) × (RowHolds b plan X r → ⊥))
  rows_or_one zero = inl (λ q lt. absurd (omega arith))
  rows_or_one (suc n) = elim (rows_or_one n) [
    | inr one ↦ (let (r, before, lt, fails) = one in inr (r, before, omega (arith, lt), fails))
    | inl all ↦ elim (row_or_not b plan X n) [
      | inr fails ↦ inr (n, all, omega arith, fails)
      | inl holds ↦ inl (λ q lt. elim (last_or_below q n lt) [ inl less ↦ all q less | inr same ↦ rw same holds ])
    ]
  ]

  pub stimuli_or_one : (n : ℕ) → StimuliHoldBelow b plan X (suc n) ⊎ ((s : ℕ) × StimuliHoldBelow b plan X s × (0 < s) × (s ≤ n) × (StimulusHolds b plan X s → ⊥))
  stimuli_or_one zero = inl (λ t first lt. absurd (omega arith))
  stimuli_or_one (suc n) = elim (stimuli_or_one n) [
    | inr one ↦ (let (s, before, first, last, fails) = one in inr (s, before, first, omega (arith, last), fails))
    | inl all ↦ elim (stimulus_or_not b plan X (suc n)) [
      | inr fails ↦ inr (suc n, all, omega arith, omega arith, fails)
      | inl holds ↦ inl (λ t first lt. elim (last_or_below t (suc n) lt) [ inl less ↦ all t first less | inr same ↦ rw same holds ])
    ]
  ]

meets_or_breach : (b : Tables) (plan : Plan) (words : List ℕ) → Meets b plan (has words) ⊎ ((breach : Breach) × IsPlanBreach b plan (has words) (Some breach))
meets_or_breach b plan words = elim (length_or_not b plan words) [
  | inr wrong ↦ inr (Length (size_of (has words)), (wrong, refl))
  | inl right ↦ elim (rows_or_one b plan (has words) (length plan.rows)) [
    | inr one ↦ (let (r, before, lt, fails) = one in
        inr (Row r (activity b (row_at plan r) (has words) (used b (has words))), (right, (before, lt, fails, refl))))
    | inl rows ↦ elim (stimuli_or_one b plan (has words) (stimuli_of b)) [
      | inr one ↦ (let (s, before, first, last, fails) = one in
          inr (Stimulus s (items_of b s (has words)), (right, rows, (before, first, last, fails, refl))))
      | inl stimuli ↦ inl (record { right_length = right; rows = rows; stimuli = λ s first last. stimuli s first (omega arith) })
    ]
  ]
]

-- ---- drafts
whole_breach : (b : Tables) (plan : Plan) (X : Set) (breach : Breach) → IsPlanBreach b plan X (Some breach) → (theta : ℕ) → IsFirstBreach (whole b plan theta) X (Some breach)
whole_breach b plan X (Length found) h theta = h
whole_breach b plan X (Row r found) h theta = (h.0, h.1.0, h.1.1, h.1.2, h.1.3)
whole_breach b plan X (Stimulus s found) h theta = (h.0, h.1, h.2.0, h.2.1, h.2.2, h.2.3, h.2.4)
whole_breach b plan X (Given i) h theta = absurd h
whole_breach b plan X (Barred i) h theta = absurd h

base_or_breach : (b : Tables) (plan : Plan) → ((words : List ℕ) → plan.base ≡ Some words → Meets b plan (has words)) ⊎ ((breach : Breach) × IsBaseBreach b plan breach)
base_or_breach b plan = by_base plan.base refl
  where
    by_base : (base : Option (List ℕ)) → plan.base ≡ base → ((words : List ℕ) → plan.base ≡ Some words → Meets b plan (has words)) ⊎ ((breach : Breach) × IsBaseBreach b plan breach)
    by_base None e = inl (λ words some. absurd cc)
    by_base (Some base) e = elim (meets_or_breach b plan base) [
      | inl meets ↦ inl (λ words some. let same : base ≡ words = cc in subst (λ (set : List ℕ). Meets b plan (has set)) same meets)
      | inr one ↦ (let (breach, first) = one in inr (breach, record { words = base; base = e; first = whole_breach b plan (has base) breach first }))
    ]

pub plan_or_fault : PlanOrFault
plan_or_fault b plan = by_numbers (numbers_fault b plan) refl
  where
    by_numbers : (found : Option SpecFault) → numbers_fault b plan ≡ found → IsPlanFor b plan ⊎ ((fault : SpecFault) × IsSpecFault b plan fault)
    by_numbers (Some fault) e = inr (fault, numbers_first b plan fault e)
    by_numbers None e = elim (base_or_breach b plan) [
      | inl base ↦ inl (plan_from b plan e base)
      | inr one ↦ (let (breach, first) = one in inr (BadBase breach, (e, first)))
    ]

pub no_fault_is_plan : NoFaultIsPlan
no_fault_is_plan b plan none = elim (plan_or_fault b plan) [
  | inl is ↦ is
  | inr one ↦ absurd (let (fault, first) = one in none fault first)
]

-- ---- a fault is one of the numbers, or else of the base
split : (b : Tables) (plan : Plan) (fault : SpecFault) → IsSpecFault b plan fault → (numbers_fault b plan ≡ Some fault) ⊎ ((numbers_fault b plan ≡ None) × ((breach : Breach) × (fault ≡ BadBase breach) × IsBaseBreach b plan breach))
split b plan (BadBase breach) h = inr (h.0, (breach, refl, h.1))
split b plan Memory h = absurd h
split b plan fault h = inl h

whole_form : (b : Tables) (plan : Plan) (X : Set) (theta : ℕ) → Meets b plan X → Form (whole b plan theta) X
whole_form b plan X theta meets = record { meets = meets; holds_given = λ i e. absurd (true≢false (sym e)); holds_no_barred = λ i e. absurd (true≢false (sym e)) }

pub plan_has_no_fault : PlanHasNoFault
plan_has_no_fault b plan fault is h = elim (split b plan fault h) [
  | inl some ↦ (let none = no_numbers_fault b plan is in absurd cc)
  | inr base ↦ (let (breach, same, first) = base.1 in
      breach_no_form (whole b plan 0) (has first.words) breach (first.first 0) (whole_form b plan (has first.words) 0 (is.base_meets first.words first.base)))
]

same_breach : (b : Tables) (plan : Plan) (p q : Breach) → IsBaseBreach b plan p → IsBaseBreach b plan q → p ≡ q
same_breach b plan p q h k =
    let same : k.words ≡ h.words = let e = sym k.base ∙ h.base in cc in
    let other : IsFirstBreach (whole b plan 0) (has h.words) (Some q) = subst (λ (words : List ℕ). IsFirstBreach (whole b plan 0) (has words) (Some q)) same (k.first 0) in
    let one : Some p ≡ Some q = one_breach (whole b plan 0) (has h.words) (Some p) (Some q) (h.first 0) other in
    cc

pub one_fault : OneFault
one_fault b plan f g h k = elim (split b plan f h) [
  | inl first ↦ elim (split b plan g k) [
    | inl other ↦ (let e = sym first ∙ other in cc)
    | inr other ↦ (let e = sym first ∙ other.0 in absurd cc)
  ]
  | inr first ↦ elim (split b plan g k) [
    | inl other ↦ (let e = sym other ∙ first.0 in absurd cc)
    | inr other ↦ (let (p, is_p, breach_p) = first.1 in
        let (q, is_q, breach_q) = other.1 in
        is_p ∙ ap BadBase (same_breach b plan p q breach_p breach_q) ∙ sym is_q)
  ]
]
