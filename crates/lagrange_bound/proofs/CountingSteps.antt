-- What counting finds, by the state of a path.
use Rattle.std.proofs.Common.{◌≡◌, ℕ, zero, suc, ◌+◌, ◌-◌, ◌<◌, ◌≤◌, inl, inr, Bool, true, false, not, ◌&&◌, ◌||◌, length, nat_lt, get_or, Some, None, refl, sym, ap, ◌∙◌, arith}
use Rattle.std.specs.Prelude.{replicate}
use Rattle.std.proofs.Math.Path.{fun_ext}
use Rattle.std.proofs.Math.Bool.{true≢false}
use Rattle.std.proofs.lemmas.Bool.{lt-ltb, le-ltb, cases_lt}
use Rattle.bank_tables.specs.Items.{Set, has}
use Rattle.bank_tables.specs.Sums.{greatest_below}
use Rattle.bank_tables.specs.Tables.{size}
use Rattle.form_model.specs.declared.row.Row.{Row}
use Rattle.form_model.specs.declared.row.StimulusBound.{StimulusBound}
use Rattle.form_model.specs.Forms.{activity, lower_bound, upper_bound, items_of, stimuli_of, size_in}
use Rattle.form_model.specs.Plan.{row_at, bound_at}
use Rattle.form_model.specs.Problem.{Problem}
use Rattle.certificate_model.specs.Paths.{Path, is_free, is_chosen}
use Rattle.certificate_model.specs.Counting.{taken_or_free, chosen_or_open, length_impossible, row_impossible, stimulus_impossible, is_impossible, IsFirstImpossible}
use Rattle.form_model.proofs.SumLaws.{or_left, or_right}
use Rattle.certificate_model.proofs.Greatest.{count_in-split}
use Rattle.lagrange_bound.specs.declared.cut.Cut.{Cut}
use Rattle.lagrange_bound.specs.Counted.{IsFirstWhere, IsWanted}
use Rattle.lagrange_bound.specs.Cuts.{IsCutOf}
use Rattle.lagrange_bound.proofs.Used.{false_where}

apart : (l t o : Bool) → (t && (l && (not t && not o))) ≡ false
apart l false o = refl
apart true true o = refl
apart false true o = refl

module _ (P : Problem) (p : Path) (cut : Cut) (is : IsCutOf P p cut) where
  either_is : (X : Set) → ((i : ℕ) → X i ≡ (has cut.taken i || has cut.free i)) → X ≡ taken_or_free P p
  either_is X e = fun_ext (λ i. e i ∙ ap (λ (T : Set). T i || has cut.free i) is.taken ∙ ap (λ (F : Set). p.taken i || F i) is.free)

  either_open : (Z : Set) → ((s : ℕ) → Z s ≡ (has cut.chosen s || has cut.opened s)) → Z ≡ chosen_or_open P p
  either_open Z e = fun_ext (λ s. e s ∙ ap (λ (C : Set). C s || has cut.opened s) is.chosen ∙ ap (λ (D : Set). is_chosen P p s || D s) is.opened)

  pub row_is : (row : Row) (X Z : Set) (low high least most : ℕ)
      → ((i : ℕ) → X i ≡ (has cut.taken i || has cut.free i))
      → ((s : ℕ) → Z s ≡ (has cut.chosen s || has cut.opened s))
      → low ≡ lower_bound row
      → high ≡ upper_bound row
      → least ≡ activity P.bank row (has cut.taken) (has cut.chosen)
      → most ≡ activity P.bank row X Z
      → (nat_lt high least || nat_lt most low) ≡ row_impossible P p row
  row_is row X Z low high least most items stimuli l h a b =
      let a' : least ≡ activity P.bank row p.taken (is_chosen P p) = a ∙ ap (λ (T : Set). activity P.bank row T (has cut.chosen)) is.taken ∙ ap (λ (C : Set). activity P.bank row p.taken C) is.chosen in
      let b' : most ≡ activity P.bank row (taken_or_free P p) (chosen_or_open P p) =
      b ∙ ap (λ (T : Set). activity P.bank row T Z) (either_is X items) ∙ ap (λ (C : Set). activity P.bank row (taken_or_free P p) C) (either_open Z stimuli) in
      ap (λ (n : ℕ). nat_lt n least || nat_lt most low) h
      ∙ ap (λ (n : ℕ). nat_lt (upper_bound row) n || nat_lt most low) a'
      ∙ ap (λ (n : ℕ). nat_lt (upper_bound row) (activity P.bank row p.taken (is_chosen P p)) || nat_lt n low) b'
      ∙ ap (λ (n : ℕ). nat_lt (upper_bound row) (activity P.bank row p.taken (is_chosen P p)) || nat_lt (activity P.bank row (taken_or_free P p) (chosen_or_open P p)) n) l

  pub stimulus_is : (s : ℕ) (bound : StimulusBound) (least most : ℕ) (counts : Bool)
      → bound ≡ bound_at P.plan s
      → least ≡ items_of P.bank s (has cut.taken)
      → most ≡ items_of P.bank s (λ i. has cut.taken i || has cut.free i)
      → counts ≡ has cut.chosen s
      → (nat_lt bound.high least || (counts && nat_lt most bound.low)) ≡ stimulus_impossible P p s
  stimulus_is s bound least most counts at a b c =
      let a' : least ≡ items_of P.bank s p.taken = a ∙ ap (λ (T : Set). items_of P.bank s T) is.taken in
      let b' : most ≡ items_of P.bank s (taken_or_free P p) = b ∙ ap (λ (T : Set). items_of P.bank s T) (either_is (λ i. has cut.taken i || has cut.free i) (λ i. refl)) in
      let c' : counts ≡ is_chosen P p s = c ∙ ap (λ (C : Set). C s) is.chosen in
      ap (λ (d : StimulusBound). nat_lt d.high least || (counts && nat_lt most d.low)) at
      ∙ ap (λ (n : ℕ). nat_lt (bound_at P.plan s).high n || (counts && nat_lt most (bound_at P.plan s).low)) a'
      ∙ ap (λ (q : Bool). nat_lt (bound_at P.plan s).high (items_of P.bank s p.taken) || (q && nat_lt most (bound_at P.plan s).low)) c'
      ∙ ap (λ (n : ℕ). nat_lt (bound_at P.plan s).high (items_of P.bank s p.taken) || (is_chosen P p s && nat_lt n (bound_at P.plan s).low)) b'

  both_sizes : size_in P.bank (taken_or_free P p) ≡ size_in P.bank p.taken + size_in P.bank (is_free P p)
  both_sizes = count_in-split (size P.bank) (taken_or_free P p) p.taken (is_free P p) (λ i w. (refl, apart (nat_lt i (size P.bank)) (p.taken i) (p.out i)))

  pub too_many : (taken : ℕ) → taken ≡ size_in P.bank (has cut.taken) → P.plan.length < taken → length_impossible P p ≡ true
  too_many taken t more =
      let over : P.plan.length < size_in P.bank p.taken = omega (arith, t, ap (λ (T : Set). size_in P.bank T) is.taken) in
      or_left _ _ (lt-ltb _ _ over)

  pub too_few : (taken free : ℕ) → taken ≡ size_in P.bank (has cut.taken) → free ≡ size_in P.bank (has cut.free) → taken + free < P.plan.length → length_impossible P p ≡ true
  too_few taken free t f less =
      let under : size_in P.bank (taken_or_free P p) < P.plan.length = omega (arith, t, f, both_sizes, ap (λ (T : Set). size_in P.bank T) is.taken, ap (λ (F : Set). size_in P.bank F) is.free) in
      or_right _ _ (lt-ltb _ _ under)

  pub wanted : (taken free : ℕ) → taken ≡ size_in P.bank (has cut.taken) → free ≡ size_in P.bank (has cut.free) → taken ≤ P.plan.length → P.plan.length ≤ taken + free → IsWanted P p (Some (P.plan.length - taken))
  wanted taken free t f low high =
      let t' = ap (λ (T : Set). size_in P.bank T) is.taken in
      let f' = ap (λ (F : Set). size_in P.bank F) is.free in (
        false_where _ (λ h. elim (cases_lt P.plan.length taken) [
          | inl over ↦ omega arith
          | inr not_over ↦
              let not_many : nat_lt P.plan.length (size_in P.bank p.taken) ≡ false = le-ltb _ _ (omega arith) in
              let not_few : nat_lt (size_in P.bank (taken_or_free P p)) P.plan.length ≡ false = le-ltb _ _ (omega (arith, both_sizes)) in
              true≢false (sym h ∙ rw not_many not_few)
        ]),
        omega arith,
        omega arith,
      )

  -- ---- rows by number
  number_row : (r : ℕ) → r < length P.plan.rows → is_impossible P p (suc r) ≡ row_impossible P p (row_at P.plan r)
  unfolding is_impossible
  number_row r within = rw (lt-ltb r (length P.plan.rows) within) refl

  number_stimulus : (k : ℕ) → k < stimuli_of P.bank → is_impossible P p (suc (length P.plan.rows + k)) ≡ stimulus_impossible P p (suc k)
  unfolding is_impossible
  number_stimulus k within =
      let past : nat_lt (length P.plan.rows + k) (length P.plan.rows) ≡ false = le-ltb _ _ (omega arith) in
      let some : nat_lt (length P.plan.rows + k) (length P.plan.rows + stimuli_of P.bank) ≡ true = lt-ltb _ _ (omega arith) in
      let place : suc (length P.plan.rows + k) - length P.plan.rows ≡ suc k = omega arith in
      rw (past, some, place) refl

  number_past : (r : ℕ) → length P.plan.rows + stimuli_of P.bank ≤ r → is_impossible P p (suc r) ≡ false
  unfolding is_impossible
  number_past r past =
      let no_row : nat_lt r (length P.plan.rows) ≡ false = le-ltb _ _ (omega arith) in
      let none : nat_lt r (length P.plan.rows + stimuli_of P.bank) ≡ false = le-ltb _ _ past in
      rw (no_row, none) refl

  number_zero : is_impossible P p 0 ≡ length_impossible P p
  unfolding is_impossible
  number_zero = refl

  abbrev row_test : Set
  row_test r = row_impossible P p (row_at P.plan r)

  abbrev stimulus_test : Set
  stimulus_test k = stimulus_impossible P p (suc k)

  pub first_length : length_impossible P p ≡ true → IsFirstImpossible P p (Some 0)
  first_length h = (number_zero ∙ h, λ q w. absurd (omega arith))

  rows_before : (r : ℕ) → r ≤ length P.plan.rows → length_impossible P p ≡ false → ((j : ℕ) → j < r → row_test j ≡ false) → (q : ℕ) → q < suc r → is_impossible P p q ≡ false
  rows_before r within possible none zero w = number_zero ∙ possible
  rows_before r within possible none (suc j) w = number_row j (omega arith) ∙ none j (omega arith)

  pub first_of_rows : (r : ℕ) → length_impossible P p ≡ false → IsFirstWhere (length P.plan.rows) (λ r. row_impossible P p (row_at P.plan r)) (Some r) → IsFirstImpossible P p (Some (r + 1))
  first_of_rows r possible first =
      let e : r + 1 ≡ suc r = omega arith in
      rw e (number_row r first.0 ∙ first.1, rows_before r (omega (arith, first.0)) possible first.2)

  before : (k : ℕ) → k ≤ stimuli_of P.bank → length_impossible P p ≡ false → ((j : ℕ) → j < length P.plan.rows → row_test j ≡ false) → ((j : ℕ) → j < k → stimulus_test j ≡ false) → (q : ℕ) → q < suc (length P.plan.rows + k) → is_impossible P p q ≡ false
  before k within possible rows none zero w = number_zero ∙ possible
  before k within possible rows none (suc q) w =
      elim (cases_lt q (length P.plan.rows)) [
        | inl low ↦ number_row q low ∙ rows q low
        | inr high ↦
            let e : suc q ≡ suc (length P.plan.rows + (q - length P.plan.rows)) = omega arith in
            ap (λ (r : ℕ). is_impossible P p r) e ∙ number_stimulus (q - length P.plan.rows) (omega arith) ∙ none (q - length P.plan.rows) (omega arith)
      ]

  pub first_of_stimuli : (k number : ℕ) → number ≡ length P.plan.rows + 1 + k → length_impossible P p ≡ false → IsFirstWhere (length P.plan.rows) (λ r. row_impossible P p (row_at P.plan r)) None → IsFirstWhere (stimuli_of P.bank) (λ k. stimulus_impossible P p (suc k)) (Some k) → IsFirstImpossible P p (Some number)
  first_of_stimuli k number at possible rows first =
      let e : number ≡ suc (length P.plan.rows + k) = omega arith in
      rw e (number_stimulus k first.0 ∙ first.1, before k (omega (arith, first.0)) possible rows first.2)

  pub none_first : length_impossible P p ≡ false → IsFirstWhere (length P.plan.rows) (λ r. row_impossible P p (row_at P.plan r)) None → IsFirstWhere (stimuli_of P.bank) (λ k. stimulus_impossible P p (suc k)) None → IsFirstImpossible P p None
  none_first possible rows stimuli q =
      elim (cases_lt q (suc (length P.plan.rows + stimuli_of P.bank))) [
        | inl low ↦ before (stimuli_of P.bank) (omega arith) possible rows stimuli q low
        | inr high ↦
            let e : q ≡ suc (q - 1) = omega arith in
            ap (λ (r : ℕ). is_impossible P p r) e ∙ number_past (q - 1) (omega arith)
      ]

pub greatest_at_most : (n most : ℕ) (f : ℕ → ℕ) → ((i : ℕ) → f i ≤ most) → greatest_below n f ≤ most
greatest_at_most zero most f h = omega arith
greatest_at_most (suc n) most f h = omega (arith, greatest_at_most n most f h, h n)

pub zero_at : (n s : ℕ) → ◌≡◌ {A = ℕ} (get_or (replicate n 0) s 0) 0
zero_at zero s = refl
zero_at (suc n) zero = refl
zero_at (suc n) (suc s) = zero_at n s
