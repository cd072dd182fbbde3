-- Rows by number.
use Rattle.std.proofs.Common.{◌≡◌, ℕ, zero, suc, ◌+◌, ◌-◌, ◌<◌, ◌≤◌, false, inl, inr, length, refl, sym, ap, ◌∙◌, arith}
use Rattle.std.proofs.lemmas.Bool.{lt-ltb, le-ltb, cases_lt}
use Rattle.form_model.specs.Problem.{Problem}
use Rattle.certificate_model.specs.Paths.{Path}
use Rattle.form_model.specs.Plan.{row_at}
use Rattle.form_model.specs.Forms.{stimuli_of}
use Rattle.certificate_model.specs.Counting.{is_impossible, length_impossible, row_impossible, stimulus_impossible}

module _ (P : Problem) (p : Path) where
  pub number_zero : (row : ℕ) → row ≡ 0 → length_impossible P p ≡ is_impossible P p row
  unfolding is_impossible
  number_zero row e = rw e refl

  pub number_row : (row place : ℕ) → row ≡ suc place → place < length P.plan.rows → row_impossible P p (row_at P.plan place) ≡ is_impossible P p row
  unfolding is_impossible
  number_row row place e within = let test = lt-ltb place (length P.plan.rows) within in rw (e, test) refl

  pub number_stimulus : (row place : ℕ) → row ≡ suc place → length P.plan.rows ≤ place → place < length P.plan.rows + stimuli_of P.bank → stimulus_impossible P p (suc place - length P.plan.rows) ≡ is_impossible P p row
  unfolding is_impossible
  number_stimulus row place e past within =
      let test = le-ltb place (length P.plan.rows) past in
      let test' = lt-ltb place (length P.plan.rows + stimuli_of P.bank) within in
      rw (e, test, test') refl

  pub number_past : (row place : ℕ) → row ≡ suc place → length P.plan.rows + stimuli_of P.bank ≤ place → false ≡ is_impossible P p row
  unfolding is_impossible
  number_past row place e past =
      let test = le-ltb place (length P.plan.rows) (omega arith) in
      let test' = le-ltb place (length P.plan.rows + stimuli_of P.bank) past in
      rw (e, test, test') refl

  pub none_past : (row : ℕ) → length P.plan.rows + stimuli_of P.bank < row → is_impossible P p row ≡ false
  none_past zero past = absurd (omega arith)
  none_past (suc place) past = sym (number_past (suc place) place refl (omega arith))

  -- no row is impossible where neither the length, nor a row of the plan, nor a stimulus is
  pub all_possible : length_impossible P p ≡ false → ((r : ℕ) → r < length P.plan.rows → row_impossible P p (row_at P.plan r) ≡ false) → ((k : ℕ) → k < stimuli_of P.bank → stimulus_impossible P p (suc k) ≡ false) → (row : ℕ) → is_impossible P p row ≡ false
  all_possible fits rows stimuli zero = sym (number_zero zero refl) ∙ fits
  all_possible fits rows stimuli (suc place) =
      elim (cases_lt place (length P.plan.rows)) [
        | inl within ↦ sym (number_row (suc place) place refl within) ∙ rows place within
        | inr past ↦
            elim (cases_lt place (length P.plan.rows + stimuli_of P.bank)) [
              | inl within ↦
                  let k = place - length P.plan.rows in
                  let which : suc place - length P.plan.rows ≡ suc k = omega arith in
                  sym (number_stimulus (suc place) place refl past within) ∙ ap (λ (s : ℕ). stimulus_impossible P p s) which ∙ stimuli k (omega arith)
              | inr beyond ↦ sym (number_past (suc place) place refl beyond)
            ]
      ]

  pub then_length : ((row : ℕ) → is_impossible P p row ≡ false) → length_impossible P p ≡ false
  then_length none = number_zero zero refl ∙ none zero

  pub then_row : ((row : ℕ) → is_impossible P p row ≡ false) → (r : ℕ) → r < length P.plan.rows → row_impossible P p (row_at P.plan r) ≡ false
  then_row none r within = number_row (suc r) r refl within ∙ none (suc r)

  pub then_stimulus : ((row : ℕ) → is_impossible P p row ≡ false) → (k : ℕ) → k < stimuli_of P.bank → stimulus_impossible P p (suc k) ≡ false
  then_stimulus none k within =
      let place = length P.plan.rows + k in
      let which : suc place - length P.plan.rows ≡ suc k = omega arith in
      ap (λ (s : ℕ). stimulus_impossible P p s) (sym which) ∙ number_stimulus (suc place) place refl (omega arith) (omega arith) ∙ none (suc place)
