-- What an exchange of one item of a form changes.
use Rattle.std.proofs.Common.{◌≡◌, ℕ, zero, suc, ◌+◌, ◌*◌, ◌≤◌, ◌<◌, inl, inr, true, false, cond, not, ◌&&◌, ◌==◌, refl, sym, ap, ◌∙◌, subst, arith}
use Rattle.std.proofs.lemmas.Bool.{and_parts, and_from, eqb-true, eq-eqb, not-true, cases_lt}
use Rattle.std.proofs.Math.Bool.{true≢false}
use Rattle.std.proofs.Math.Path.{fun_ext}
use Rattle.bank_tables.specs.Items.{Set}
use Rattle.bank_tables.specs.Sums.{sum_in, any_below}
use Rattle.bank_tables.specs.Tables.{size, info}
use Rattle.bank_tables.specs.Validity.{IsBank}
use Rattle.form_model.specs.Problem.{Problem}
use Rattle.form_model.specs.Forms.{Form, Firm, objective}
use Rattle.form_model.proofs.SumLaws.{either, or_true, or_left, any_intro, any_elim, same_from_count}
use Rattle.std.specs.Prelude.{None}
use Rattle.branch_bound.specs.Exchanges.{exchange, IsExchange, IsBetter}

-- ---- what an exchange does at each item
at_item : (X : Set) (out item : ℕ) → exchange X out item item ≡ true
at_item X out item = or_left _ _ (eq-eqb item item refl)

apart : (i j : ℕ) → (i ≡ j → ⊥) → (i == j) ≡ false
apart i j h = elim (either (i == j)) [ inl e ↦ absurd (h (eqb-true i j e)) | inr e ↦ e ]

at_out : (X : Set) (out item : ℕ) → (out ≡ item → ⊥) → exchange X out item out ≡ false
at_out X out item other = rw (apart out item other, eq-eqb out out refl) refl

elsewhere : (X : Set) (out item i : ℕ) → (i ≡ item → ⊥) → (i ≡ out → ⊥) → exchange X out item i ≡ X i
elsewhere X out item i not_item not_out = rw (apart i item not_item, apart i out not_out) refl

-- ---- its sum
part : ℕ → ℕ → (ℕ → ℕ) → ℕ
part i zero f = 0
part i (suc n) f = part i n f + cond (n == i) (f n) 0

part_past : (i n : ℕ) (f : ℕ → ℕ) → n ≤ i → part i n f ≡ 0
unfolding part
part_past i zero f h = refl
part_past i (suc n) f h = let e : (n == i) ≡ false = apart n i (λ e. omega arith) in rw e (omega (arith, part_past i n f (omega arith)))

part_in : (i n : ℕ) (f : ℕ → ℕ) → i < n → part i n f ≡ f i
unfolding part
part_in i zero f h = absurd (omega arith)
part_in i (suc n) f h =
    elim (cases_lt i n) [
      | inl before ↦ let e : (n == i) ≡ false = apart n i (λ e. omega arith) in rw e (omega (arith, part_in i n f before))
      | inr past ↦ let at : n ≡ i = omega arith in rw (eq-eqb n i at) (omega (arith, part_past i n f past, ap f at))
    ]

exchange_step : (X : Set) (out item n : ℕ) (f : ℕ → ℕ) → X out ≡ true → X item ≡ false → cond (exchange X out item n) (f n) 0 + cond (n == out) (f n) 0 ≡ cond (X n) (f n) 0 + cond (n == item) (f n) 0
exchange_step X out item n f has_out not_item =
    elim (either (n == item)) [
      | inl e ↦
          let is_item : n ≡ item = eqb-true n item e in
          let x : X n ≡ false = ap X is_item ∙ not_item in
          let o : (n == out) ≡ false = apart n out (λ same. true≢false (sym has_out ∙ ap X (sym same) ∙ x)) in
          rw (e, o, x) (omega arith)
      | inr e ↦
          elim (either (n == out)) [
            | inl o ↦ let x : X n ≡ true = ap X (eqb-true n out o) ∙ has_out in rw (e, o, x) (omega arith)
            | inr o ↦ rw (e, o) (omega arith)
          ]
    ]

sum_exchange : (X : Set) (out item n : ℕ) (f : ℕ → ℕ) → X out ≡ true → X item ≡ false → sum_in n (exchange X out item) f + part out n f ≡ sum_in n X f + part item n f
unfolding part
sum_exchange X out item zero f has_out not_item = refl
sum_exchange X out item (suc n) f has_out not_item = omega (arith, sum_exchange X out item n f has_out not_item, exchange_step X out item n f has_out not_item)

pub sum_in-exchange : (X : Set) (out item n : ℕ) (f : ℕ → ℕ) → X out ≡ true → X item ≡ false → out < n → item < n → sum_in n (exchange X out item) f + f out ≡ sum_in n X f + f item
sum_in-exchange X out item n f has_out not_item a b = omega (arith, sum_exchange X out item n f has_out not_item, part_in out n f a, part_in item n f b)

-- ---- a form that holds all items but one is the form itself or the exchange of that item
module _ (P : Problem) (X Y : Set) (out : ℕ) (x : Form P X) (y : Form P Y) (others : (i : ℕ) → X i ≡ true → (i ≡ out → ⊥) → Y i ≡ true) where
  n : ℕ
  n = size P.bank

  in_bank : (Z : Set) → Form P Z → (i : ℕ) → size P.bank ≤ i → Z i ≡ false
  in_bank Z form i past = elim (either (Z i)) [ inl has ↦ absurd (omega (arith, form.meets.right_length.in_bank i has)) | inr has_not ↦ has_not ]

  -- an item of Y that X hasn't
  new_item : X out ≡ true → Y out ≡ false → (i : ℕ) × (i < size P.bank) × (Y i ≡ true) × (X i ≡ false)
  new_item has_out no_out =
      elim (either (any_below (size P.bank) (λ i. Y i && not (X i)))) [
        | inl some ↦
            let (i, within, e) = any_elim (size P.bank) (λ i. Y i && not (X i)) some in
            let parts = and_parts (Y i) (not (X i)) e in
            (i, within, parts.0, not-true (X i) parts.1)
        | inr none ↦
            let inside : (i : ℕ) → i < size P.bank → Y i ≡ true → X i ≡ true = λ i within has. elim (either (X i)) [
              | inl e ↦ e
              | inr e ↦ absurd (true≢false (sym (any_intro (size P.bank) (λ i. Y i && not (X i)) i within (and_from _ _ has (ap not e))) ∙ none))
            ] in
            let same = same_from_count (size P.bank) Y X inside (y.meets.right_length.n_items ∙ sym x.meets.right_length.n_items) out (x.meets.right_length.in_bank out has_out) in
            absurd (true≢false (sym has_out ∙ sym same ∙ no_out))
      ]

  -- where the item stays, or never was in X, they are the same
  pub same_form : ((i : ℕ) → X i ≡ true → Y i ≡ true) → X ≡ Y
  same_form all =
      let same = same_from_count (size P.bank) X Y (λ i w. all i) (x.meets.right_length.n_items ∙ sym y.meets.right_length.n_items) in
      fun_ext (λ i. elim (cases_lt i (size P.bank)) [ inl within ↦ same i within | inr past ↦ in_bank X x i past ∙ sym (in_bank Y y i past) ])

  is_exchange : (item : ℕ) → X out ≡ true → Y out ≡ false → item < size P.bank → Y item ≡ true → X item ≡ false → exchange X out item ≡ Y
  is_exchange item has_out no_out within has_item not_item =
      let inside : (i : ℕ) → i < size P.bank → exchange X out item i ≡ true → Y i ≡ true = λ i w e. elim (or_true (i == item) (not (i == out) && X i) e) [
        | inl at ↦ ap Y (eqb-true i item at) ∙ has_item
        | inr rest ↦ let parts = and_parts (not (i == out)) (X i) rest in others i parts.1 (λ is_out. true≢false (sym (eq-eqb i out is_out) ∙ not-true (i == out) parts.0))
      ] in
      let count : sum_in (size P.bank) (exchange X out item) (λ _. 1) + 1 ≡ sum_in (size P.bank) X (λ _. 1) + 1 = sum_in-exchange X out item (size P.bank) (λ _. 1) has_out not_item (x.meets.right_length.in_bank out has_out) within in
      let a = x.meets.right_length.n_items in
      let b = y.meets.right_length.n_items in
      let same = same_from_count (size P.bank) (exchange X out item) Y inside (omega arith) in
      fun_ext (λ i. elim (cases_lt i (size P.bank)) [
        | inl w ↦ same i w
        | inr past ↦
            elsewhere X out item i (λ e. omega arith) (λ e. let w = x.meets.right_length.in_bank out has_out in omega arith) ∙ in_bank X x i past ∙ sym (in_bank Y y i past)
      ])

  -- where no exchange that was tried is a better form, the form is no better
  pub no_better : X out ≡ true → ((item : ℕ) → item < size P.bank → X item ≡ false → info P.bank out P.theta < info P.bank item P.theta → Form P (exchange X out item) → ⊥) → objective P Y ≤ objective P X
  no_better has_out tried =
      elim (either (Y out)) [
        | inl stays ↦
            let same : X ≡ Y = same_form (λ i has. elim (either (i == out)) [
              | inl at ↦ ap Y (eqb-true i out at) ∙ stays
              | inr other ↦ others i has (λ is_out. true≢false (sym (eq-eqb i out is_out) ∙ other))
            ]) in
            omega (arith, ap (λ (Z : Set). objective P Z) same)
        | inr no_out ↦
            let (item, within, has_item, not_item) = new_item has_out no_out in
            let same : exchange X out item ≡ Y = is_exchange item has_out no_out within has_item not_item in
            let sums = sum_in-exchange X out item (size P.bank) (λ i. info P.bank i P.theta) has_out not_item (x.meets.right_length.in_bank out has_out) within in
            elim (cases_lt (info P.bank out P.theta) (info P.bank item P.theta)) [
              | inl more ↦ absurd (tried item within not_item more (subst (Form P) (sym same) y))
              | inr no_more ↦ omega (arith, ap (λ (Z : Set). objective P Z) same)
            ]
      ]

-- ---- an exchange that is a form is better where the item has more information
pub exchange_is_better : (P : Problem) (X Z : Set) (out item : ℕ) → Form P X → Form P Z → ((i : ℕ) → Z i ≡ exchange X out item i) → X out ≡ true → X item ≡ false → item < size P.bank → info P.bank out P.theta < info P.bank item P.theta → IsBetter P X Z
exchange_is_better P X Z out item x z is has_out not_item within more =
    let same : Z ≡ exchange X out item = fun_ext is in
    let sums = sum_in-exchange X out item (size P.bank) (λ i. info P.bank i P.theta) has_out not_item (x.meets.right_length.in_bank out has_out) within in
    record { form = z; greater = omega (arith, ap (λ (Y : Set). objective P Y) same) }

-- ---- where no exchange of an item betters it, the form is firm
pub firm_where : (P : Problem) (X : Set) → Form P X → ((out : ℕ) → out < size P.bank → X out ≡ true → IsExchange P X out None) → Firm P X
firm_where P X x tried =
    record {
      form = x;
      exchanges = λ Y y but.
          elim (either (X but.exchanged)) [
            | inl has_it ↦ tried but.exchanged (x.meets.right_length.in_bank but.exchanged has_it) has_it Y y but.others
            | inr has_not ↦
                let same : X ≡ Y = same_form P X Y but.exchanged x y but.others (λ i has. but.others i has (λ e. true≢false (sym has ∙ ap X e ∙ has_not))) in
                omega (arith, ap (λ (Z : Set). objective P Z) same)
          ];
    }

-- ---- an objective is small
sum_small : (n : ℕ) (X : Set) (f : ℕ → ℕ) → ((i : ℕ) → f i ≤ 1000000) → sum_in n X f ≤ n * 1000000
sum_small zero X f h = omega arith
sum_small (suc n) X f h = elim (either (X n)) [ inl e ↦ rw e (omega (arith, sum_small n X f h, h n)) | inr e ↦ rw e (omega (arith, sum_small n X f h)) ]

pub objective_small : (P : Problem) (X : Set) → IsBank P.bank → objective P X < 1073741824
objective_small P X bank = omega (arith, sum_small (size P.bank) X (λ i. info P.bank i P.theta) (λ i. bank.info_high i P.theta), bank.few)
