-- A text means one plan, and if that is valid for the bank the text has no fault.
use Rattle.std.proofs.Common.{◌≡◌, ◌⊎◌, inl, inr, ℕ, ◌-◌, ◌<◌, ◌≤◌, cond, List, length, get_or, Option, Some, None, Result, Ok, Err, refl, sym, ap, subst, ◌∙◌, arith, ℤ, pos}
use Rattle.std.specs.Option.{option_map}
use Rattle.std.specs.Prelude.{IfErr}
use Rattle.std.proofs.lemmas.List.{get_or-map, length-map}
use Rattle.bank_tables.specs.Items.{Set, has}
use Rattle.bank_tables.specs.Tables.{Tables, size, quantity}
use Rattle.bank_tables.specs.Sums.{sum_in, count_in}
use Rattle.bank_tables.specs.Validity.{IsLogLik}
use Rattle.form_model.specs.declared.row.Row.{Row}
use Rattle.form_model.specs.declared.row.Row.TheVariants as row
use Rattle.form_model.specs.declared.row.StimulusBound.{StimulusBound}
use Rattle.form_model.specs.declared.draft.Rate.{Rate as Fraction}
use Rattle.form_model.specs.Plan.{Plan, no_row, no_bound, row_at, bound_at}
use Rattle.form_model.specs.Forms.{stimuli_of, stimuli_in, items_of, used, activity, lower_bound, upper_bound, RowHolds, StimulusHolds, Meets}
use Rattle.form_model.specs.Validity.{IsRowSet, IsRow, IsBudget, AreBands, IsPlanFor}
use Rattle.exam_text.specs.First.{◌orelse◌}
use Rattle.exam_text.specs.Words.{lines_of}
use Rattle.exam_text.proofs.Firsts.{none_split}
use Rattle.constraint_model.specs.declared.spec_fault.SpecFault.{SpecFault}
use Rattle.constraint_model.specs.Faults.{front_fault, bounds_fault, limits_fault}
use Rattle.constraint_model.proofs.PlanLaws.{no_numbers_fault}
use Rattle.constraint_model.proofs.Deciding.{plan_has_no_fault}
use Rattle.spec_reader.specs.declared.line_fault.LineFault.{LineFault}
use Rattle.spec_reader.specs.declared.plan_fault.PlanFault.{PlanFault}
use Rattle.spec_reader.specs.declared.plan_fault.PlanFault.TheVariants.{Source, TooLong, Line, Twice, Missing, Spec, Memory}
use Rattle.spec_reader.specs.Rules.{Said, Count, Quantity, Enemies, Stimuli}
use Rattle.spec_reader.specs.Lines.{rules_of, missing}
use Rattle.spec_reader.specs.Plans.{SaidPlan, row_said, plan_said, drafted}
use Rattle.spec_reader.specs.Reading.{numbers_fault, IsPlanText, IsDraftFault, IsPlanFault, IsReadFault, most_bytes}

-- ---- what is true of a plan is true of each plan of the same meaning

IsRowSaid : Tables → Said → Type 0
IsRowSaid b (Count low high X) = (low ≤ high) × (high ≤ 512) × IsRowSet b X
IsRowSaid b (Quantity which low high X) = (low ≤ high) × (high ≤ 33553920) × IsRowSet b X × (which < b.quantities)
IsRowSaid b (Enemies X) = IsRowSet b X
IsRowSaid b (Stimuli low high) = (low ≤ high) × (high ≤ 64)
IsRowSaid b _ = Unit {0}

to_said : (b : Tables) (r : Row) → IsRow b r → IsRowSaid b (row_said r)
unfolding IsRowSaid
to_said b (row.Count set low high) h = h
to_said b (row.Quantity which set low high) h = h
to_said b (row.Enemies set) h = h
to_said b (row.Stimuli low high) h = h

from_said : (b : Tables) (r : Row) → IsRowSaid b (row_said r) → IsRow b r
unfolding IsRowSaid
from_said b (row.Count set low high) h = h
from_said b (row.Quantity which set low high) h = h
from_said b (row.Enemies set) h = h
from_said b (row.Stimuli low high) h = h

unfoldable pub activity_said : Tables → Said → Set → Set → ℕ
activity_said b (Count low high X) Y Z = count_in (size b) Y X
activity_said b (Quantity which low high X) Y Z = sum_in (size b) Y (λ i. cond (X i) (quantity b i which) 0)
activity_said b (Enemies X) Y Z = count_in (size b) Y X
activity_said b (Stimuli low high) Y Z = stimuli_in (stimuli_of b) Z
activity_said b _ Y Z = 0

pub activity_is : (b : Tables) (r : Row) (Y Z : Set) → activity b r Y Z ≡ activity_said b (row_said r) Y Z
unfolding activity_said
activity_is b (row.Count set low high) Y Z = refl
activity_is b (row.Quantity which set low high) Y Z = refl
activity_is b (row.Enemies set) Y Z = refl
activity_is b (row.Stimuli low high) Y Z = refl

unfoldable pub lower_said : Said → ℕ
lower_said (Count low high X) = low
lower_said (Quantity which low high X) = low
lower_said (Stimuli low high) = low
lower_said _ = 0

lower_is : (r : Row) → lower_bound r ≡ lower_said (row_said r)
unfolding lower_said
lower_is (row.Count set low high) = refl
lower_is (row.Quantity which set low high) = refl
lower_is (row.Enemies set) = refl
lower_is (row.Stimuli low high) = refl

unfoldable pub upper_said : Said → ℕ
upper_said (Count low high X) = high
upper_said (Quantity which low high X) = high
upper_said (Stimuli low high) = high
upper_said _ = 1

upper_is : (r : Row) → upper_bound r ≡ upper_said (row_said r)
unfolding upper_said
upper_is (row.Count set low high) = refl
upper_is (row.Quantity which set low high) = refl
upper_is (row.Enemies set) = refl
upper_is (row.Stimuli low high) = refl

pub same_count : (p q : Plan) → plan_said p ≡ plan_said q → length p.rows ≡ length q.rows
same_count p q e = sym (length-map p.rows row_said) ∙ (ap (λ (s : SaidPlan). length s.rows) e ∙ length-map q.rows row_said)

pub same_row : (p q : Plan) → plan_said p ≡ plan_said q → (r : ℕ) → r < length q.rows → row_said (row_at p r) ≡ row_said (row_at q r)
same_row p q e r lt =
    let other : r < length p.rows = omega (arith, lt, same_count p q e) in
    sym (get_or-map row_said p.rows r no_row (row_said no_row) other)
    ∙ (ap (λ (s : SaidPlan). get_or s.rows r (row_said no_row)) e ∙ get_or-map row_said q.rows r no_row (row_said no_row) lt)

pub row_holds : (b : Tables) (p q : Plan) (X : Set) (r : ℕ) → row_said (row_at p r) ≡ row_said (row_at q r) → RowHolds b p X r → RowHolds b q X r
row_holds b p q X r e h =
    let lower : lower_bound (row_at p r) ≡ lower_bound (row_at q r) = lower_is (row_at p r) ∙ (ap lower_said e ∙ sym (lower_is (row_at q r))) in
    let upper : upper_bound (row_at p r) ≡ upper_bound (row_at q r) = upper_is (row_at p r) ∙ (ap upper_said e ∙ sym (upper_is (row_at q r))) in
    let act : activity b (row_at p r) X (used b X) ≡ activity b (row_at q r) X (used b X) =
    activity_is b (row_at p r) X (used b X) ∙ (ap (λ (s : Said). activity_said b s X (used b X)) e ∙ sym (activity_is b (row_at q r) X (used b X))) in
    let low : lower_bound (row_at p r) ≤ activity b (row_at p r) X (used b X) = h.low in
    let high : activity b (row_at p r) X (used b X) ≤ upper_bound (row_at p r) = h.high in
    record { low = omega (arith, low, lower, act); high = omega (arith, high, upper, act) }

pub same_bound : (p q : Plan) → plan_said p ≡ plan_said q → (s : ℕ) → bound_at p s ≡ bound_at q s
same_bound p q e s = ap (λ (said : SaidPlan). get_or said.bounds (s - 1) no_bound) e

pub meets_same : (b : Tables) (p q : Plan) (X : Set) → plan_said p ≡ plan_said q → Meets b p X → Meets b q X
meets_same b p q X e h = record {
  right_length = record { in_bank = h.right_length.in_bank; n_items = h.right_length.n_items ∙ ap (λ (s : SaidPlan). s.length) e };
  rows = λ r lt. row_holds b p q X r (same_row p q e r lt) (h.rows r (omega (arith, lt, same_count p q e)));
  stimuli = λ s some le.
      (let old : StimulusHolds b p X s = h.stimuli s some le in
      record {
        low = subst (λ (bound : StimulusBound). (items_of b s X ≡ 0) ⊎ (bound.low ≤ items_of b s X)) (same_bound p q e s) old.low;
        high = subst (λ (bound : StimulusBound). items_of b s X ≤ bound.high) (same_bound p q e s) old.high;
      });
}

pub base_of : (o : Option (List ℕ)) (X : Set) → option_map has o ≡ Some X → (words : List ℕ) × (o ≡ Some words) × (has words ≡ X)
base_of None X e = absurd cc
base_of (Some words) X e = (words, refl, some_is (has words) X e)
  where
    some_is : (A B : Set) → Some A ≡ Some B → A ≡ B
    some_is A B h = cc

pub plan_same : (b : Tables) (p q : Plan) → plan_said p ≡ plan_said q → IsPlanFor b p → IsPlanFor b q
plan_same b p q e h =
    let len : p.length ≡ q.length = ap (λ (s : SaidPlan). s.length) e in
    let prior : p.prior ≡ q.prior = ap (λ (s : SaidPlan). s.prior) e in
    let bounds : p.bounds ≡ q.bounds = ap (λ (s : SaidPlan). s.bounds) e in
    let rate : p.rate ≡ q.rate = ap (λ (s : SaidPlan). s.rate) e in
    record {
      some_items = subst (λ (n : ℕ). 0 < n) len h.some_items;
      few_items = subst (λ (n : ℕ). n ≤ size b) len h.few_items;
      prior_number = sym (ap (λ (zs : List ℤ). length zs) prior) ∙ h.prior_number;
      prior_range = λ point. subst (λ (zs : List ℤ). IsLogLik (get_or zs point (pos 0))) prior (h.prior_range point);
      few_rows = subst (λ (n : ℕ). n ≤ 128) (same_count p q e) h.few_rows;
      rows = λ r lt. from_said b (row_at q r) (subst (IsRowSaid b) (same_row p q e r lt) (to_said b (row_at p r) (h.rows r (omega (arith, lt, same_count p q e)))));
      each_stimulus = sym (ap (λ (bs : List StimulusBound). length bs) bounds) ∙ h.each_stimulus;
      some_low = λ s some le. subst (λ (bound : StimulusBound). 0 < bound.low) (same_bound p q e s) (h.some_low s some le);
      low_high = λ s some le. subst (λ (bound : StimulusBound). bound.low ≤ bound.high) (same_bound p q e s) (h.low_high s some le);
      high = λ s some le. subst (λ (bound : StimulusBound). bound.high ≤ 512) (same_bound p q e s) (h.high s some le);
      some_rate = subst (λ (x : Fraction). 0 < x.num) rate h.some_rate;
      rate = subst (λ (x : Fraction). x.num ≤ x.den) rate h.rate;
      rate_high = subst (λ (x : Fraction). x.den ≤ 65535) rate h.rate_high;
      bands = subst (AreBands b.grid) (ap (λ (s : SaidPlan). s.bands) e) h.bands;
      budget = subst IsBudget (ap (λ (s : SaidPlan). s.budget) e) h.budget;
      base_budget = subst IsBudget (ap (λ (s : SaidPlan). s.base_budget) e) h.base_budget;
      some_sessions = subst (λ (n : ℕ). 0 < n) (ap (λ (s : SaidPlan). s.sessions) e) h.some_sessions;
      few_sessions = subst (λ (n : ℕ). n ≤ 65536) (ap (λ (s : SaidPlan). s.sessions) e) h.few_sessions;
      journal_low = subst (λ (n : ℕ). 64 ≤ n) (ap (λ (s : SaidPlan). s.journal) e) h.journal_low;
      journal_high = subst (λ (n : ℕ). n ≤ 536870912) (ap (λ (s : SaidPlan). s.journal) e) h.journal_high;
      base_meets = λ words is.
          (let found = base_of p.base (has words) (ap (λ (s : SaidPlan). s.base) e ∙ ap (option_map has) is) in
          meets_same b p q (has words) e (subst (Meets b p) found.2 (h.base_meets found.0 found.1)));
    }

-- ---- one answer a text

pub same_rules : (lines : List (List ℕ)) (rules others : List Said) → rules_of lines ≡ Ok rules → rules_of lines ≡ Ok others → rules ≡ others
same_rules lines rules others e f = ok_is rules others (sym e ∙ f)
  where
    ok_is : (a c : List Said) → (let r : Result (List Said) LineFault = Ok a in r ≡ Ok c) → a ≡ c
    ok_is a c h = cc

pub no_err : (lines : List (List ℕ)) (rules : List Said) (f : LineFault) → rules_of lines ≡ Ok rules → rules_of lines ≡ Err f → ⊥
no_err lines rules f e g = clash (sym e ∙ g)
  where
    clash : (let r : Result (List Said) LineFault = Ok rules in r ≡ Err f) → ⊥
    clash h = cc

pub some_none : {A : Type 0} (o : Option A) (x : A) → o ≡ None → o ≡ Some x → ⊥
some_none None x e f = absurd cc
some_none (Some y) x e f = absurd cc

pub one_plan : (b : Tables) (text : List ℕ) (p q : Plan) → IsPlanText b text p → IsPlanText b text q → plan_said p ≡ plan_said q
one_plan b text p q h g =
    h.draft ∙ (ap (drafted (stimuli_of b)) (same_rules (lines_of text) h.rules g.rules h.are.lines g.are.lines) ∙ sym g.draft)

no_early : (b : Tables) (plan : Plan) (o : Option SpecFault) → IsPlanFor b plan → o ≡ None → (front_fault b plan orelse o) ≡ None
no_early b plan o is e =
    let none = none_split (front_fault b plan) (bounds_fault b plan orelse limits_fault b plan) (no_numbers_fault b plan is) in
    rw none.0 e

no_draft_fault : (b : Tables) (text : List ℕ) (plan : Plan) (f : SpecFault) → IsPlanText b text plan → IsPlanFor b plan → IsDraftFault b text f → ⊥
no_draft_fault b text plan f h is g =
    let rules : h.rules ≡ g.rules = same_rules (lines_of text) h.rules g.rules h.are.lines g.are.lines in
    let said : plan_said plan ≡ plan_said g.plan = h.draft ∙ (ap (drafted (stimuli_of b)) rules ∙ sym g.draft) in
    let other : IsPlanFor b g.plan = plan_same b plan g.plan said is in
    let known : numbers_fault (stimuli_of b) g.rules ≡ None = subst (λ (rs : List Said). numbers_fault (stimuli_of b) rs ≡ None) rules h.stimuli in
    let none = no_early b g.plan (numbers_fault (stimuli_of b) g.rules) other known in
    elim g.first [
      | inl some ↦ some_none _ f none some
      | inr last ↦ plan_has_no_fault b g.plan f other last.1
    ]

pub no_fault : (b : Tables) (text : List ℕ) (plan : Plan) (fault : PlanFault) → IsPlanText b text plan → IsPlanFor b plan → IsPlanFault b text fault → ⊥
no_fault b text plan (Line at kind) h is g = no_err (lines_of text) h.rules _ h.are.lines g
no_fault b text plan (Twice at) h is g = no_err (lines_of text) h.rules _ h.are.lines g
no_fault b text plan (Missing name) h is g =
    let rules : h.rules ≡ g.rules = same_rules (lines_of text) h.rules g.rules h.are.lines g.lines in
    some_none (missing g.rules) name (subst (λ (rs : List Said). missing rs ≡ None) rules h.are.whole) g.first
no_fault b text plan (Spec f) h is g = no_draft_fault b text plan f h is g
no_fault b text plan Source h is g = g
no_fault b text plan TooLong h is g = g
no_fault b text plan Memory h is g = g

-- a text of a valid plan is refused only for lack of memory or for a failed source
pub only_outside : (b : Tables) (bytes : List ℕ) (plan : Plan) (fault : PlanFault) → length bytes ≤ most_bytes → IsPlanText b bytes plan → IsPlanFor b plan → IsReadFault b bytes fault → (fault ≡ Memory) ⊎ (fault ≡ Source)
only_outside b bytes plan (Line at kind) few h is g = absurd (no_fault b bytes plan (Line at kind) h is g.1)
only_outside b bytes plan (Twice at) few h is g = absurd (no_fault b bytes plan (Twice at) h is g.1)
only_outside b bytes plan (Missing name) few h is g = absurd (no_fault b bytes plan (Missing name) h is g.1)
only_outside b bytes plan (Spec f) few h is g = absurd (no_fault b bytes plan (Spec f) h is g.1)
only_outside b bytes plan Source few h is g = inr refl
only_outside b bytes plan TooLong few h is g = absurd (omega (arith, few, g))
only_outside b bytes plan Memory few h is g = inl refl

-- the same of what a reader of the bytes answered
pub only_from : (b : Tables) (text : List ℕ) (fault : PlanFault) → (fault ≡ Memory) ⊎ IsPlanFault b text fault → (plan : Plan) → IsPlanText b text plan → IsPlanFor b plan → (fault ≡ Memory) ⊎ (fault ≡ Source)
only_from b text fault (inl memory) plan h is = inl memory
only_from b text fault (inr g) plan h is = absurd (no_fault b text plan fault h is g)

pub only_of : {T : Type 0} (b : Tables) (text bytes : List ℕ) (r : Result Plan PlanFault) → (T → text ≡ bytes) → IfErr r (λ e. (e ≡ Memory) ⊎ IsPlanFault b text e) → IfErr r (λ e. T → length bytes ≤ most_bytes → (plan : Plan) → IsPlanText b bytes plan → IsPlanFor b plan → (e ≡ Memory) ⊎ (e ≡ Source))
only_of b text bytes (Ok plan) same h = tt
only_of b text bytes (Err e) same h = λ told few plan says is. only_from b text e h plan (subst (λ (t : List ℕ). IsPlanText b t plan) (sym (same told)) says) is
