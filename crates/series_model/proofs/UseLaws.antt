-- Used items: a series on the path has each in some form.
use Rattle.std.proofs.Common.{◌≡◌, ℕ, zero, suc, ◌+◌, ◌*◌, ◌≤◌, ◌<◌, ◌⊎◌, inl, inr, Bool, true, false, cond, not, ◌&&◌, ◌||◌, ◌==◌, sym, ap, ◌∙◌, arith, nat_lt}
use Rattle.std.proofs.lemmas.Bool.{and_parts, eqb-true, ltb-true}
use Rattle.std.proofs.Math.Bool.{true≢false}
use Rattle.bank_tables.specs.Items.{Set}
use Rattle.bank_tables.specs.Sums.{any_below, sum_in, count_in}
use Rattle.bank_tables.specs.Tables.{size}
use Rattle.form_model.specs.Forms.{size_in}
use Rattle.form_model.proofs.SumLaws.{either, or_true, any_intro, any_elim, sum_in-le}
use Rattle.certificate_model.proofs.Duality.{held_is_taken_or_free}
use Rattle.series_model.specs.Series.{SeriesProblem, Forms}
use Rattle.series_model.specs.SeriesPaths.{SeriesPath, form_problem, form_path, is_free_in, is_placed, is_live, with_use, is_use_lost, are_uses_many, OnPath}
use Rattle.series_model.specs.SeriesLaws.{SeriesUses}
use Rattle.series_model.proofs.SeriesSums.{every}
use Rattle.series_model.proofs.SeriesDualityLaws.{form_under}

-- ---- the branch: the item is in some form, or in none
module _ (Q : SeriesProblem) (p : SeriesPath) (S : Forms) (on : OnPath Q p S) (i : ℕ) where
  out_of_each : ((f : ℕ) → f < Q.forms → S f i ≡ false) → OnPath Q (with_use Q p i false) S
  out_of_each none =
      record {
        series = on.series;
        holds_taken = on.holds_taken;
        holds_no_out = λ f j w e.
            elim (or_true (nat_lt f Q.forms && j == i) (p.out f j) e) [
              | inl new ↦ ap (S f) (eqb-true _ _ (and_parts (nat_lt f Q.forms) (j == i) new).1) ∙ none f w
              | inr old ↦ on.holds_no_out f j w old
            ];
        holds_used = on.holds_used;
      }

  pub some_form_or_out : ((f : ℕ) × (f < Q.forms) × (S f i ≡ true)) ⊎ OnPath Q (with_use Q p i false) S
  some_form_or_out =
      elim (either (any_below Q.forms (λ f. S f i))) [
        | inl some ↦ inl (any_elim Q.forms (λ f. S f i) some)
        | inr none ↦ inr (out_of_each (λ f w. elim (either (S f i)) [
          | inl has ↦ absurd (true≢false (sym (any_intro Q.forms (λ f. S f i) f w has) ∙ none))
          | inr has_not ↦ has_not
        ]))
      ]

  pub use_in : ((f : ℕ) × (f < Q.forms) × (S f i ≡ true)) → OnPath Q (with_use Q p i true) S
  use_in some =
      record {
        series = on.series;
        holds_taken = on.holds_taken;
        holds_no_out = on.holds_no_out;
        holds_used = λ j e.
            elim (or_true (j == i) (p.used j) e) [
              | inl new ↦ (let (f, w, has) = some in (f, w, ap (S f) (eqb-true _ _ new) ∙ has))
              | inr old ↦ on.holds_used j old
            ];
      }

-- ---- how many items are in some form
-- the items in one of the first forms
abbrev pub in_some : ℕ → Forms → Set
in_some k S i = any_below k (λ f. S f i)

either_counts : (a b : Bool) → cond (a || b) 1 0 ≤ cond a 1 0 + cond b 1 0
either_counts true b = omega arith
either_counts false true = omega arith
either_counts false false = omega arith

pub union_counts : (n : ℕ) (X Y : Set) → count_in n (λ i. X i || Y i) every ≤ count_in n X every + count_in n Y every
union_counts zero X Y = omega arith
union_counts (suc n) X Y = let rest = union_counts n X Y in let last = either_counts (X n) (Y n) in omega arith

pub some_counts : (k n : ℕ) (S : Forms) → count_in n (in_some k S) every ≤ sum_in k every (λ f. count_in n (S f) every)
some_counts zero n S = none n
  where
    none : (n : ℕ) → count_in n (in_some zero S) every ≤ 0
    none zero = omega arith
    none (suc n) = let rest = none n in omega arith
some_counts (suc k) n S =
    let rest = some_counts k n S in
    let last = union_counts n (in_some k S) (S k) in
    omega arith

pub each_n : (k n m : ℕ) (S : Forms) → ((f : ℕ) → f < k → count_in n (S f) every ≡ m) → sum_in k every (λ f. count_in n (S f) every) ≡ k * m
each_n zero n m S h = omega arith
each_n (suc k) n m S h = let rest = each_n k n m S (λ f w. h f (omega arith)) in let last = h k (omega arith) in grind arith

-- ---- on a path with a series
module _ (Q : SeriesProblem) (p : SeriesPath) (S : Forms) (on : OnPath Q p S) where
  -- an item of the series is in a form on the path, or free in one
  held_is_placed_or_live : (f i : ℕ) → f < Q.forms → S f i ≡ true → (is_placed Q p i ≡ true) ⊎ (is_live Q p i ≡ true)
  held_is_placed_or_live f i w has =
      elim (held_is_taken_or_free (form_problem Q) (form_path Q p f) (S f) (form_under Q p S on f w) i has) [
        | inl taken ↦ inl (any_intro Q.forms (λ f. p.taken f i) f w taken)
        | inr free ↦ inr (any_intro Q.forms (λ f. is_free_in Q p f i) f w free)
      ]

  both_not : (a b : Bool) → not (a || b) ≡ true → (a ≡ true) ⊎ (b ≡ true) → ⊥
  both_not true b e some = true≢false (sym e)
  both_not false true e some = true≢false (sym e)
  both_not false false e (inl a) = true≢false (sym a)
  both_not false false e (inr b) = true≢false (sym b)

  no_use_lost : is_use_lost Q p ≡ true → ⊥
  no_use_lost lost =
      let (i, w, e) = any_elim (size Q.bank) (λ i. p.used i && not (is_placed Q p i || is_live Q p i)) lost in
      let parts = and_parts (p.used i) _ e in
      let (f, v, has) = on.holds_used i parts.0 in
      both_not (is_placed Q p i) (is_live Q p i) parts.1 (held_is_placed_or_live f i v has)

  is_held : (i : ℕ) → (is_placed Q p i || p.used i) ≡ true → in_some Q.forms S i ≡ true
  is_held i e =
      elim (or_true (is_placed Q p i) (p.used i) e) [
        | inl placed ↦ (let (f, w, taken) = any_elim Q.forms (λ f. p.taken f i) placed in any_intro Q.forms (λ f. S f i) f w (on.holds_taken f i w taken))
        | inr uses ↦ (let (f, w, has) = on.holds_used i uses in any_intro Q.forms (λ f. S f i) f w has)
      ]

  few_uses : size_in Q.bank (λ i. is_placed Q p i || p.used i) ≤ Q.forms * Q.plan.length
  few_uses =
      let held = sum_in-le (size Q.bank) (λ i. is_placed Q p i || p.used i) (in_some Q.forms S) (λ i. 1) (λ i w e. is_held i e) in
      let some = some_counts Q.forms (size Q.bank) S in
      let all = each_n Q.forms (size Q.bank) Q.plan.length S (λ f w. (on.series.meets f w).right_length.n_items) in
      omega arith

  no_uses_many : are_uses_many Q p ≡ true → ⊥
  no_uses_many many = let more = ltb-true _ _ many in let few = few_uses in omega arith

pub series_uses : SeriesUses
series_uses Q p S uses on =
    elim (or_true (is_use_lost Q p) (are_uses_many Q p) uses) [
      | inl lost ↦ no_use_lost Q p S on lost
      | inr many ↦ no_uses_many Q p S on many
    ]
