-- A text has one first fault: what the tests find in a plan, they find in each plan of the same
-- meaning.
use Rattle.std.proofs.Common.{◌≡◌, ◌⊎◌, inl, inr, ℕ, zero, suc, ◌+◌, ◌<◌, ◌≤◌, Bool, true, false, not, ◌&&◌, ◌||◌, ◌==◌, List, length, get_or, Option, Some, Result, Ok, Err, refl, sym, ap, ap₂, subst, ◌∙◌, arith}
use Rattle.std.specs.Prelude.{nat_lt}
use Rattle.std.specs.List.{list_all}
use Rattle.std.specs.Option.{option_map}
use Rattle.exam_text.specs.First.{fault_where, ◌orelse◌, first_below}
use Rattle.exam_text.specs.Words.{lines_of}
use Rattle.bank_tables.specs.Items.{Set, has}
use Rattle.bank_tables.specs.Tables.{Tables, size}
use Rattle.bank_tables.specs.Faults.{is_loglik}
use Rattle.bank_tables.specs.Validity.{HoldsItems}
use Rattle.form_model.specs.declared.breach.Breach.{Breach}
use Rattle.form_model.specs.declared.breach.Breach.TheVariants as breach
use Rattle.form_model.specs.declared.row.Row.{Row}
use Rattle.form_model.specs.declared.row.Row.TheVariants as row
use Rattle.form_model.specs.declared.row.StimulusBound.{StimulusBound}
use Rattle.form_model.specs.Plan.{Plan, row_at, no_bound}
use Rattle.form_model.specs.Problem.{whole}
use Rattle.form_model.specs.Forms.{stimuli_of, items_of, used, activity, StimulusHolds, HasLength}
use Rattle.form_model.specs.Breaches.{IsFirstBreach}
use Rattle.constraint_model.specs.declared.spec_fault.SpecFault.{SpecFault}
use Rattle.constraint_model.specs.declared.spec_fault.SpecFault.TheVariants as draft
use Rattle.constraint_model.specs.Faults.{is_empty, has_unknown, set_fault, row_fault, rows_fault, front_fault, bound_fault, bounds_fault, is_rate, are_bands, is_budget, is_between, limits_fault, numbers_fault, IsBaseBreach, IsSpecFault}
use Rattle.constraint_model.proofs.SetLaws.{member_of, not_empty_from, none_unknown, no_unknown_from}
use Rattle.constraint_model.proofs.Deciding.{one_fault}
use Rattle.spec_reader.specs.declared.line_fault.LineFault.{LineFault}
use Rattle.spec_reader.specs.declared.line_fault.LineFault.TheVariants as line
use Rattle.spec_reader.specs.declared.plan_fault.Name.{Name}
use Rattle.spec_reader.specs.declared.plan_fault.PlanFault.{PlanFault}
use Rattle.spec_reader.specs.declared.plan_fault.PlanFault.TheVariants.{Source, TooLong, Line, Twice, Missing, Spec, Memory}
use Rattle.spec_reader.specs.Faults.{fault_of_line}
use Rattle.spec_reader.specs.Rules.{Said, Count, Quantity, Enemies}
use Rattle.spec_reader.specs.Lines.{rules_of, missing}
use Rattle.spec_reader.specs.Plans.{SaidPlan, row_said, plan_said, drafted}
use Rattle.spec_reader.specs.Reading.{early_fault, numbers_fault as stimulus_lines_fault, IsFirstFault, IsDraftFault, IsMissing, IsReadFault, IsOfText}
use Rattle.spec_reader.proofs.SameLaws.{lower_said, upper_said, same_count, same_row, same_bound, same_rules, no_err, some_none, row_holds, meets_same, base_of, activity_said, activity_is}

-- ---- sets with the same members

both : (x y : Bool) → (x ≡ true → y ≡ true) → (y ≡ true → x ≡ true) → x ≡ y
both true y h k = sym (h refl)
both false true h k = k refl
both false false h k = refl

flipped : (x y : Bool) → (x ≡ false → y ≡ false) → (y ≡ false → x ≡ false) → x ≡ y
flipped true true h k = refl
flipped true false h k = k refl
flipped false y h k = sym (h refl)

empty_same : (a c : List ℕ) → has a ≡ has c → is_empty a ≡ is_empty c
empty_same a c e = flipped (is_empty a) (is_empty c) (one a c e) (one c a (sym e))
  where
    one : (a c : List ℕ) → has a ≡ has c → is_empty a ≡ false → is_empty c ≡ false
    one a c e h = let m = member_of a h in not_empty_from c m.0 (subst (λ (X : Set). X m.0 ≡ true) e m.1)

unknown_same : (b : Tables) (a c : List ℕ) → has a ≡ has c → has_unknown b a ≡ has_unknown b c
unknown_same b a c e = flipped (has_unknown b a) (has_unknown b c) (one a c e) (one c a (sym e))
  where
    one : (a c : List ℕ) → has a ≡ has c → has_unknown b a ≡ false → has_unknown b c ≡ false
    one a c e h = no_unknown_from b c (subst (HoldsItems b) e (none_unknown b a h))

set_same : (b : Tables) (r : ℕ) (a c : List ℕ) → has a ≡ has c → set_fault b r a ≡ set_fault b r c
set_same b r a c e = rw (empty_same a c e, unknown_same b a c e) refl

-- ---- rows of the same meaning

set_said : Said → Set
set_said (Count low high X) = X
set_said (Quantity which low high X) = X
set_said (Enemies X) = X
set_said _ = λ _. false

which_said : Said → ℕ
which_said (Quantity which low high X) = which
which_said _ = 0

row_same : (b : Tables) (r : ℕ) (x y : Row) → row_said x ≡ row_said y → row_fault b r x ≡ row_fault b r y
unfolding row_fault set_said which_said lower_said upper_said
row_same b r (row.Count s l h) (row.Count t m k) e =
    let low : l ≡ m = ap lower_said e in
    let high : h ≡ k = ap upper_said e in
    rw (low, high, set_same b r s t (ap set_said e)) refl
row_same b r (row.Quantity q s l h) (row.Quantity w t m k) e =
    let which : q ≡ w = ap which_said e in
    let low : l ≡ m = ap lower_said e in
    let high : h ≡ k = ap upper_said e in
    rw (which, low, high, set_same b r s t (ap set_said e)) refl
row_same b r (row.Enemies s) (row.Enemies t) e = set_same b r s t (ap set_said e)
row_same b r (row.Stimuli l h) (row.Stimuli m k) e =
    let low : l ≡ m = ap lower_said e in
    let high : h ≡ k = ap upper_said e in
    rw (low, high) refl
row_same b r (row.Count s l h) (row.Quantity w t m k) e = absurd cc
row_same b r (row.Count s l h) (row.Enemies t) e = absurd cc
row_same b r (row.Count s l h) (row.Stimuli m k) e = absurd cc
row_same b r (row.Quantity q s l h) (row.Count t m k) e = absurd cc
row_same b r (row.Quantity q s l h) (row.Enemies t) e = absurd cc
row_same b r (row.Quantity q s l h) (row.Stimuli m k) e = absurd cc
row_same b r (row.Enemies s) (row.Count t m k) e = absurd cc
row_same b r (row.Enemies s) (row.Quantity w t m k) e = absurd cc
row_same b r (row.Enemies s) (row.Stimuli m k) e = absurd cc
row_same b r (row.Stimuli l h) (row.Count t m k) e = absurd cc
row_same b r (row.Stimuli l h) (row.Quantity w t m k) e = absurd cc
row_same b r (row.Stimuli l h) (row.Enemies t) e = absurd cc

first_same : (n : ℕ) (f g : ℕ → Option SpecFault) → ((i : ℕ) → i < n → f i ≡ g i) → first_below n f ≡ first_below n g
first_same zero f g h = refl
first_same (suc n) f g h = ap₂ (λ (x y : Option SpecFault). x orelse y) (first_same n f g (λ i lt. h i (omega (arith, lt)))) (h n (omega arith))

rows_same : (b : Tables) (p q : Plan) → plan_said p ≡ plan_said q → rows_fault b p ≡ rows_fault b q
rows_same b p q e =
    ap (λ (n : ℕ). first_below n (λ r. row_fault b r (row_at p r))) (same_count p q e)
    ∙ first_same (length q.rows) (λ r. row_fault b r (row_at p r)) (λ r. row_fault b r (row_at q r)) (λ r lt. row_same b r (row_at p r) (row_at q r) (same_row p q e r lt))

-- ---- the tests of plans of the same meaning

front_said : Tables → SaidPlan → ℕ → Option SpecFault → Option SpecFault
front_said b p rows rest =
    fault_where ((p.length == 0) || nat_lt (size b) p.length) draft.Length
    orelse fault_where (not ((length p.prior == b.grid) && list_all is_loglik p.prior)) draft.BadPrior
    orelse fault_where (nat_lt 128 rows) draft.TooManyRows
    orelse rest

front_same : (b : Tables) (p q : Plan) → plan_said p ≡ plan_said q → front_fault b p ≡ front_fault b q
unfolding front_fault front_said
front_same b p q e =
    ap (λ (s : SaidPlan). front_said b s (length p.rows) (rows_fault b p)) e
    ∙ ap₂ (λ (n : ℕ) (rest : Option SpecFault). front_said b (plan_said q) n rest) (same_count p q e) (rows_same b p q e)

end_said : Tables → SaidPlan → Option SpecFault
end_said b p =
    (fault_where (nat_lt (length p.bounds) (stimuli_of b)) (draft.BadStimulus (length p.bounds + 1))
    orelse fault_where (nat_lt (stimuli_of b) (length p.bounds)) (draft.BadStimulus (stimuli_of b + 1))
    orelse first_below (stimuli_of b) (λ k. bound_fault (k + 1) (get_or p.bounds k no_bound)))
    orelse (fault_where (not (is_rate p.rate)) draft.BadRate
    orelse fault_where (not (are_bands b.grid p.bands)) draft.BadBands
    orelse fault_where (not (is_budget p.budget && is_budget p.base_budget)) draft.BadBudget
    orelse fault_where (not (is_between 1 65536 p.sessions && is_between 64 536870912 p.journal)) draft.BadLimit)

end_same : (b : Tables) (p q : Plan) → plan_said p ≡ plan_said q → (bounds_fault b p orelse limits_fault b p) ≡ (bounds_fault b q orelse limits_fault b q)
unfolding bounds_fault limits_fault end_said
end_same b p q e = ap (end_said b) e

numbers_same : (b : Tables) (p q : Plan) → plan_said p ≡ plan_said q → numbers_fault b p ≡ numbers_fault b q
numbers_same b p q e = ap₂ (λ (x y : Option SpecFault). x orelse y) (front_same b p q e) (end_same b p q e)

-- ---- the base

length_same : (b : Tables) (p q : Plan) (X : Set) → plan_said p ≡ plan_said q → HasLength b p X → HasLength b q X
length_same b p q X e h = record { in_bank = h.in_bank; n_items = h.n_items ∙ ap (λ (s : SaidPlan). s.length) e }

stimulus_same : (b : Tables) (p q : Plan) (X : Set) (s : ℕ) → plan_said p ≡ plan_said q → StimulusHolds b p X s → StimulusHolds b q X s
stimulus_same b p q X s e h = record {
  low = subst (λ (bound : StimulusBound). (items_of b s X ≡ 0) ⊎ (bound.low ≤ items_of b s X)) (same_bound p q e s) h.low;
  high = subst (λ (bound : StimulusBound). items_of b s X ≤ bound.high) (same_bound p q e s) h.high;
}

breach_same : (b : Tables) (p q : Plan) (X : Set) (theta : ℕ) (found : Breach) → plan_said p ≡ plan_said q → IsFirstBreach (whole b p theta) X (Some found) → IsFirstBreach (whole b q theta) X (Some found)
breach_same b p q X theta (breach.Length n) e h = (λ right. h.0 (length_same b q p X (sym e) right), h.1)
breach_same b p q X theta (breach.Row r n) e h =
    let lt : r < length q.rows = omega (arith, h.2, same_count p q e) in
    let act : activity b (row_at p r) X (used b X) ≡ activity b (row_at q r) X (used b X) =
    activity_is b (row_at p r) X (used b X) ∙ (ap (λ (s : Said). activity_said b s X (used b X)) (same_row p q e r lt) ∙ sym (activity_is b (row_at q r) X (used b X))) in (
      length_same b p q X e h.0,
      λ i below. row_holds b p q X i (same_row p q e i (omega (arith, below, lt))) (h.1 i below),
      lt,
      λ holds. h.3 (row_holds b q p X r (sym (same_row p q e r lt)) holds),
      h.4 ∙ act,
    )
breach_same b p q X theta (breach.Stimulus s n) e h = (
  length_same b p q X e h.0,
  λ i below. (let other : i < length p.rows = omega (arith, below, same_count p q e) in row_holds b p q X i (same_row p q e i below) (h.1 i other)),
  λ t first lt. stimulus_same b p q X t e (h.2 t first lt),
  h.3,
  h.4,
  λ holds. h.5 (stimulus_same b q p X s (sym e) holds),
  h.6,
)
breach_same b p q X theta (breach.Given i) e h = (meets_same b p q X e h.0, h.1, h.2, h.3)
breach_same b p q X theta (breach.Barred i) e h = (meets_same b p q X e h.0, h.1, h.2, h.3, h.4)

base_same : (b : Tables) (p q : Plan) (found : Breach) → plan_said p ≡ plan_said q → IsBaseBreach b p found → IsBaseBreach b q found
base_same b p q found e h =
    let other = base_of q.base (has h.words) (sym (ap (λ (s : SaidPlan). s.base) e) ∙ ap (option_map has) h.base) in
    record {
      words = other.0;
      base = other.1;
      first = λ theta. subst (λ (X : Set). IsFirstBreach (whole b q theta) X (Some found)) (sym other.2) (breach_same b p q (has h.words) theta found e (h.first theta));
    }

-- ---- one fault

spec_same : (b : Tables) (p q : Plan) (fault : SpecFault) → plan_said p ≡ plan_said q → IsSpecFault b p fault → IsSpecFault b q fault
spec_same b p q (draft.BadBase found) e h = (sym (numbers_same b p q e) ∙ h.0, base_same b p q found e h.1)
spec_same b p q draft.Memory e h = h
spec_same b p q fault e h = sym (numbers_same b p q e) ∙ h

early_same : (b : Tables) (rules : List Said) (p q : Plan) → plan_said p ≡ plan_said q → early_fault b rules p ≡ early_fault b rules q
early_same b rules p q e = ap (λ (x : Option SpecFault). x orelse stimulus_lines_fault (stimuli_of b) rules) (front_same b p q e)

some_is : {A : Type 0} (x y : A) → Some x ≡ Some y → x ≡ y
some_is x y e = cc

first_one : (b : Tables) (rules : List Said) (p : Plan) (f g : SpecFault) → IsFirstFault b rules p f → IsFirstFault b rules p g → f ≡ g
first_one b rules p f g (inl h) (inl k) = some_is f g (sym h ∙ k)
first_one b rules p f g (inl h) (inr k) = absurd (some_none (early_fault b rules p) f k.0 h)
first_one b rules p f g (inr h) (inl k) = absurd (some_none (early_fault b rules p) g h.0 k)
first_one b rules p f g (inr h) (inr k) = one_fault b p f g h.1 k.1

first_moved : (b : Tables) (rules : List Said) (p q : Plan) (fault : SpecFault) → plan_said p ≡ plan_said q → IsFirstFault b rules p fault → IsFirstFault b rules q fault
first_moved b rules p q fault e (inl h) = inl (sym (early_same b rules p q e) ∙ h)
first_moved b rules p q fault e (inr h) = inr (sym (early_same b rules p q e) ∙ h.0, spec_same b p q fault e h.1)

draft_one : (b : Tables) (text : List ℕ) (f g : SpecFault) → IsDraftFault b text f → IsDraftFault b text g → f ≡ g
draft_one b text f g h k =
    let rules : k.rules ≡ h.rules = same_rules (lines_of text) k.rules h.rules k.are.lines h.are.lines in
    let said : plan_said k.plan ≡ plan_said h.plan = k.draft ∙ (ap (drafted (stimuli_of b)) rules ∙ sym h.draft) in
    let other : IsFirstFault b h.rules k.plan g = subst (λ (rs : List Said). IsFirstFault b rs k.plan g) rules k.first in
    first_one b h.rules h.plan f g h.first (first_moved b h.rules k.plan h.plan g said other)

missing_one : (text : List ℕ) (f g : Name) → IsMissing text f → IsMissing text g → f ≡ g
missing_one text f g h k =
    let rules : h.rules ≡ k.rules = same_rules (lines_of text) h.rules k.rules h.lines k.lines in
    some_is f g (sym h.first ∙ (ap missing rules ∙ k.first))

missing_or_draft : (b : Tables) (text : List ℕ) (f : Name) (g : SpecFault) → IsMissing text f → IsDraftFault b text g → ⊥
missing_or_draft b text f g h k =
    let rules : h.rules ≡ k.rules = same_rules (lines_of text) h.rules k.rules h.lines k.are.lines in
    some_none (missing k.rules) f k.are.whole (sym (ap missing rules) ∙ h.first)

err_is : (r : Result (List Said) LineFault) (f g : LineFault) → r ≡ Err f → r ≡ Err g → f ≡ g
err_is (Ok x) f g h k = absurd cc
err_is (Err x) f g h k = cc

-- a text has one first fault
pub one_read_fault : (b : Tables) (text : List ℕ) (f g : PlanFault) → IsOfText f → IsOfText g → IsReadFault b text f → IsReadFault b text g → f ≡ g
one_read_fault b text Source g p q h k = absurd p
one_read_fault b text Memory g p q h k = absurd p
one_read_fault b text f Source p q h k = absurd q
one_read_fault b text f Memory p q h k = absurd q
one_read_fault b text TooLong TooLong p q h k = refl
one_read_fault b text TooLong (Line at kind) p q h k = absurd (omega (arith, h, k.0))
one_read_fault b text TooLong (Twice at) p q h k = absurd (omega (arith, h, k.0))
one_read_fault b text TooLong (Missing name) p q h k = absurd (omega (arith, h, k.0))
one_read_fault b text TooLong (Spec fault) p q h k = absurd (omega (arith, h, k.0))
one_read_fault b text (Line at kind) TooLong p q h k = absurd (omega (arith, h.0, k))
one_read_fault b text (Line at kind) (Line to other) p q h k = ap fault_of_line (err_is (rules_of (lines_of text)) (line.Line at kind) (line.Line to other) h.1 k.1)
one_read_fault b text (Line at kind) (Twice to) p q h k = ap fault_of_line (err_is (rules_of (lines_of text)) (line.Line at kind) (line.Twice to) h.1 k.1)
one_read_fault b text (Line at kind) (Missing name) p q h k = absurd (no_err (lines_of text) k.1.rules _ k.1.lines h.1)
one_read_fault b text (Line at kind) (Spec fault) p q h k = absurd (no_err (lines_of text) k.1.rules _ k.1.are.lines h.1)
one_read_fault b text (Twice at) TooLong p q h k = absurd (omega (arith, h.0, k))
one_read_fault b text (Twice at) (Line to other) p q h k = ap fault_of_line (err_is (rules_of (lines_of text)) (line.Twice at) (line.Line to other) h.1 k.1)
one_read_fault b text (Twice at) (Twice to) p q h k = ap fault_of_line (err_is (rules_of (lines_of text)) (line.Twice at) (line.Twice to) h.1 k.1)
one_read_fault b text (Twice at) (Missing name) p q h k = absurd (no_err (lines_of text) k.1.rules _ k.1.lines h.1)
one_read_fault b text (Twice at) (Spec fault) p q h k = absurd (no_err (lines_of text) k.1.rules _ k.1.are.lines h.1)
one_read_fault b text (Missing name) TooLong p q h k = absurd (omega (arith, h.0, k))
one_read_fault b text (Missing name) (Line to other) p q h k = absurd (no_err (lines_of text) h.1.rules _ h.1.lines k.1)
one_read_fault b text (Missing name) (Twice to) p q h k = absurd (no_err (lines_of text) h.1.rules _ h.1.lines k.1)
one_read_fault b text (Missing name) (Missing other) p q h k = ap (λ (n : Name). Missing n) (missing_one text name other h.1 k.1)
one_read_fault b text (Missing name) (Spec fault) p q h k = absurd (missing_or_draft b text name fault h.1 k.1)
one_read_fault b text (Spec fault) TooLong p q h k = absurd (omega (arith, h.0, k))
one_read_fault b text (Spec fault) (Line to other) p q h k = absurd (no_err (lines_of text) h.1.rules _ h.1.are.lines k.1)
one_read_fault b text (Spec fault) (Twice to) p q h k = absurd (no_err (lines_of text) h.1.rules _ h.1.are.lines k.1)
one_read_fault b text (Spec fault) (Missing name) p q h k = absurd (missing_or_draft b text name fault k.1 h.1)
one_read_fault b text (Spec fault) (Spec other) p q h k = ap (λ (d : SpecFault). Spec d) (draft_one b text fault other h.1 k.1)
