-- A text describes one plan.
use Rattle.std.proofs.Common.{◌≡◌, ℕ, suc, ◌<◌, List, [], ◌∷◌, length, map, get_or, Option, Some, None, refl, sym, ap, ap₂, ◌∙◌, arith, ℤ}
use Rattle.std.specs.Prelude.{IfSome}
use Rattle.std.specs.Option.{option_map}
use Rattle.bank_tables.specs.Items.{Set, has, AreWords}
use Rattle.bank_tables.specs.Tables.{Tables}
use Rattle.bank_tables.proofs.Bits.{same_sets}
use Rattle.form_model.specs.declared.draft.Rate.{Rate as Fraction}
use Rattle.form_model.specs.declared.row.Row.{Row}
use Rattle.form_model.specs.declared.row.Row.TheVariants as row
use Rattle.form_model.specs.declared.row.StimulusBound.{StimulusBound}
use Rattle.form_model.specs.Plan.{Plan, no_row}
use Rattle.spec_reader.specs.Plans.{SaidPlan, row_said, plan_said}
use Rattle.spec_reader.specs.Rules.{Said, Count, Quantity, Enemies, Stimuli}
use Rattle.spec_reader.proofs.SameLaws.{one_plan}
use Rattle.exam_program.specs.Halts.{IsPlanIn}
use Rattle.exam_program.specs.ItemSets.{HasItemSets, set_of}

some_set : (X Y : Set) → Some X ≡ Some Y → X ≡ Y
some_set X Y e = cc

-- sets of the same members are the same words
same_set : (o p : Option (List ℕ)) → IfSome o AreWords → IfSome p AreWords → option_map has o ≡ option_map has p → o ≡ p
same_set None None a b e = refl
same_set None (Some ys) a b e = absurd cc
same_set (Some xs) None a b e = absurd cc
same_set (Some xs) (Some ys) a b e = ap Some (same_sets xs ys a b (λ i. ap (λ (X : Set). X i) (some_set (has xs) (has ys) e)))

-- the set of what a row means
set_said : Said → Option Set
set_said (Count low high X) = Some X
set_said (Quantity which low high X) = Some X
set_said (Enemies X) = Some X
set_said other = None

set_is : (r : Row) → set_said (row_said r) ≡ option_map has (set_of r)
unfolding set_said
set_is (row.Count set low high) = refl
set_is (row.Quantity which set low high) = refl
set_is (row.Enemies set) = refl
set_is (row.Stimuli low high) = refl

-- the row of a meaning, with these words
row_of : Said → Option (List ℕ) → Row
row_of (Count low high X) (Some set) = row.Count set low high
row_of (Quantity which low high X) (Some set) = row.Quantity which set low high
row_of (Enemies X) (Some set) = row.Enemies set
row_of (Stimuli low high) set = row.Stimuli low high
row_of other set = no_row

row_is : (r : Row) → row_of (row_said r) (set_of r) ≡ r
unfolding row_of
row_is (row.Count set low high) = refl
row_is (row.Quantity which set low high) = refl
row_is (row.Enemies set) = refl
row_is (row.Stimuli low high) = refl

same_row : (r s : Row) → IfSome (set_of r) AreWords → IfSome (set_of s) AreWords → row_said r ≡ row_said s → r ≡ s
same_row r s a b e =
    let sets = same_set (set_of r) (set_of s) a b (sym (set_is r) ∙ ap set_said e ∙ set_is s) in
    sym (row_is r) ∙ ap₂ row_of e sets ∙ row_is s

same_rows : (xs ys : List Row)
    → ((r : ℕ) → r < length xs → IfSome (set_of (get_or xs r no_row)) AreWords)
    → ((r : ℕ) → r < length ys → IfSome (set_of (get_or ys r no_row)) AreWords)
    → map row_said xs ≡ map row_said ys → xs ≡ ys
same_rows [] [] a b e = refl
same_rows [] (y ∷ ys) a b e = absurd cc
same_rows (x ∷ xs) [] a b e = absurd cc
same_rows (x ∷ xs) (y ∷ ys) a b e =
    let head : row_said x ≡ row_said y = cc in
    let tail : map row_said xs ≡ map row_said ys = cc in
    ap₂ (λ (r : Row) (rs : List Row). r ∷ rs) (same_row x y (a 0 (omega arith)) (b 0 (omega arith)) head)
    (same_rows xs ys (λ r lt. a (suc r) (omega (arith, lt))) (λ r lt. b (suc r) (omega (arith, lt))) tail)

-- a plan by its fields
plan_of : ℕ → List ℤ → List Row → List StimulusBound → Fraction → List ℕ → List ℕ → ℕ → ℕ → ℕ → ℕ → Option (List ℕ) → Plan
plan_of length prior rows bounds rate key bands budget base_budget sessions journal base =
    record {
      length = length;
      prior = prior;
      rows = rows;
      bounds = bounds;
      rate = rate;
      key = key;
      bands = bands;
      budget = budget;
      base_budget = base_budget;
      sessions = sessions;
      journal = journal;
      base = base;
    }

plan_is : (p : Plan) → plan_of p.length p.prior p.rows p.bounds p.rate p.key p.bands p.budget p.base_budget p.sessions p.journal p.base ≡ p
unfolding plan_of
plan_is p = refl

-- plans of the same meaning, whose sets are words, are the same
pub same_plan : (p q : Plan) → HasItemSets p → HasItemSets q → plan_said p ≡ plan_said q → p ≡ q
same_plan p q a b e =
    let length_is : p.length ≡ q.length = ap (λ (s : SaidPlan). s.length) e in
    let prior : p.prior ≡ q.prior = ap (λ (s : SaidPlan). s.prior) e in
    let rows : p.rows ≡ q.rows = same_rows p.rows q.rows a.rows b.rows (ap (λ (s : SaidPlan). s.rows) e) in
    let bounds : p.bounds ≡ q.bounds = ap (λ (s : SaidPlan). s.bounds) e in
    let rate : p.rate ≡ q.rate = ap (λ (s : SaidPlan). s.rate) e in
    let key : p.key ≡ q.key = ap (λ (s : SaidPlan). s.key) e in
    let bands : p.bands ≡ q.bands = ap (λ (s : SaidPlan). s.bands) e in
    let budget : p.budget ≡ q.budget = ap (λ (s : SaidPlan). s.budget) e in
    let base_budget : p.base_budget ≡ q.base_budget = ap (λ (s : SaidPlan). s.base_budget) e in
    let sessions : p.sessions ≡ q.sessions = ap (λ (s : SaidPlan). s.sessions) e in
    let journal : p.journal ≡ q.journal = ap (λ (s : SaidPlan). s.journal) e in
    let base : p.base ≡ q.base = same_set p.base q.base a.base b.base (ap (λ (s : SaidPlan). s.base) e) in
    cc (plan_is p, plan_is q)

pub one_plan_in : (b : Tables) (text : List ℕ) (p q : Plan) → IsPlanIn b text p → IsPlanIn b text q → p ≡ q
one_plan_in b text p q h g = same_plan p q h.sets g.sets (one_plan b text p q h.says g.says)
