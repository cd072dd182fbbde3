-- The parts of the pool, one form after the other.
use Rattle.std.proofs.Common.{◌≡◌, ℕ, suc, ◌+◌, ◌*◌, ◌<◌, ◌⊎◌, inl, inr, Bool, true, false, cond, not, ◌&&◌, ◌||◌, Option, Some, None, ℤ, pos, ◌+ℤ◌, ◌-ℤ◌, ◌*ℤ◌, ◌≤ℤ◌, refl, sym, ap, ◌∙◌, subst, arith}
use Rattle.std.proofs.lemmas.Int.{ints}
use Rattle.std.proofs.lemmas.Bool.{cases_lt}
use Rattle.std.proofs.lemmas.List.{get_or-replicate, get_or_past, length-replicate}
use Rattle.std.proofs.Math.ListN.{replicate}
use Rattle.std.proofs.Math.Bool.{true≢false}
use Rattle.bank_tables.specs.Items.{Set, has}
use Rattle.bank_tables.specs.Sums.{total_z}
use Rattle.bank_tables.specs.Tables.{size}
use Rattle.form_model.specs.Forms.{stimuli_of}
use Rattle.form_model.proofs.SumLaws.{any_intro}
use Rattle.certificate_model.specs.Ranges.{IsWithin, at}
use Rattle.certificate_model.specs.Paths.{Path}
use Rattle.certificate_model.specs.Relaxed.{Multipliers, multiplier}
use Rattle.certificate_model.specs.Weights.{price, rows_constant}
use Rattle.series_model.specs.Series.{SeriesProblem}
use Rattle.series_model.specs.SeriesBounds.{uses}
use Rattle.series_model.specs.SeriesPaths.{SeriesPath, form_problem, form_path, is_placed, is_use_lost}
use Rattle.series_model.specs.SeriesPools.{length_side, IsPoolMaximum}
use Rattle.series_check.specs.declared.pool.Part.{Part}
use Rattle.series_check.specs.Gains.{gain_of}
use Rattle.series_check.specs.Maximum.{IsAnswer}
use Rattle.series_check.specs.Pools.{share_top, own_multiplier, holds, count_at, share_of, CountsIn, IsPart, IsPoolTo, IsGreater, IsJoined, others_of, IsFilled}
use Rattle.series_check.specs.Tops.{item_top}
use Rattle.series_check.specs.Values.{AreApart}
use Rattle.series_check.proofs.PoolMaximumLaws.{none_filled, pool_is}

last_or : (i n : ℕ) → i < suc n → (i < n) ⊎ (i ≡ n)
last_or i n w = grind arith

or_both : (a b c d : Bool) → a ≡ c → b ≡ d → (a || b) ≡ (c || d)
or_both a b c d e h = cc

pub less_both : (a b c d : ℤ) → a ≡ c → b ≡ d → a -ℤ b ≡ c -ℤ d
less_both a b c d e h = cc

-- ---- what a form adds beside its items
pub share_is : (Q : SeriesProblem) (p : SeriesPath) (v : Multipliers) (f : ℕ) (path : Path) (N : ℕ → ℕ) (a b c : ℤ) → path ≡ form_path Q p f → N ≡ own_multiplier v f → a ≡ price (multiplier v) (length_side f) *ℤ pos Q.plan.length → b ≡ rows_constant (form_problem Q) N → c ≡ total_z (stimuli_of Q.bank) (λ k. gain_of (form_problem Q) path N (suc k)) → a +ℤ (b +ℤ c) ≡ share_of Q p v f
share_is Q p v f path N a b c on own lengths rows stimuli =
    joined a b c (price (multiplier v) (length_side f) *ℤ pos Q.plan.length) (rows_constant (form_problem Q) (own_multiplier v f)) (total_z (stimuli_of Q.bank) (λ k. gain_of (form_problem Q) (form_path Q p f) (own_multiplier v f) (suc k)))
    lengths (rows ∙ ap (λ (M : ℕ → ℕ). rows_constant (form_problem Q) M) own)
    (stimuli ∙ ap (λ (q : Path). total_z (stimuli_of Q.bank) (λ k. gain_of (form_problem Q) q N (suc k))) on ∙ ap (λ (M : ℕ → ℕ). total_z (stimuli_of Q.bank) (λ k. gain_of (form_problem Q) (form_path Q p f) M (suc k))) own)
  where
    joined : (a b c d e g : ℤ) → a ≡ d → b ≡ e → c ≡ g → a +ℤ (b +ℤ c) ≡ d +ℤ (e +ℤ g)
    joined a b c d e g h i j = cc

pub share_near : (a b c : ℤ) → IsWithin (4294967295 * 65535) a → IsWithin (128 * (4294967295 * 33553920)) b → IsWithin (64 * 200000000000000000) c → IsWithin share_top (a +ℤ (b +ℤ c))
share_near a b c v w u = record { low = omega (arith, ints, v.low, w.low, u.low); high = omega (arith, ints, v.high, w.high, u.high) }

-- ---- numbers near 0
zero_near : (z : ℤ) → z ≡ pos 0 → IsWithin item_top z
zero_near z e = record { low = omega (arith, ints); high = omega (arith, ints) }

pub zeros_near : (i : ℕ) → IsWithin item_top (at (replicate {A = ℤ} 512 (pos 0)) i)
zeros_near i =
    elim (cases_lt i 512) [
      | inl low ↦ zero_near _ (get_or-replicate {A = ℤ} 512 i (pos 0) (pos 0) low)
      | inr high ↦ zero_near _ (get_or_past (replicate {A = ℤ} 512 (pos 0)) i (pos 0) (omega (arith, length-replicate {A = ℤ} 512 (pos 0))))
    ]

same_near : (a b : ℤ) → b ≡ a → IsWithin item_top a → IsWithin item_top b
same_near a b e near = subst (IsWithin item_top) (sym e) near

pub greater_near : (h k : Bool) (a b c : ℤ) → IsWithin item_top a → IsWithin item_top b → IsGreater (cond h (Some a) None) (cond k (Some b) None) c → IsWithin item_top c
greater_near true true a b c first second (inl old) = same_near a c old.0 first
greater_near true true a b c first second (inr new) = same_near b c new.0 second
greater_near true false a b c first second is = same_near a c is first
greater_near false true a b c first second is = same_near b c is second
greater_near false false a b c first second is = zero_near c is

-- ---- the greater of two counts is one of them
one_of_two : (h k : Bool) (a b c : ℤ) → IsGreater (cond h (Some a) None) (cond k (Some b) None) c → (h || k) ≡ true → ((h ≡ true) × (c ≡ a)) ⊎ ((k ≡ true) × (c ≡ b))
one_of_two true true a b c (inl old) some = inl (refl, old.0)
one_of_two true true a b c (inr new) some = inr (refl, new.0)
one_of_two true false a b c is some = inl (refl, is)
one_of_two false true a b c is some = inr (refl, is)
one_of_two false false a b c is some = absurd (true≢false (sym some))

not_above : (h k : Bool) (a b c : ℤ) → IsGreater (cond h (Some a) None) (cond k (Some b) None) c → ((h ≡ true → a ≤ℤ c) × (k ≡ true → b ≤ℤ c))
not_above true true a b c (inl old) = (λ e. (let d = old.0 in omega (arith, ints)), λ e. (let d = old.0 in let le = old.1 in omega (arith, ints)))
not_above true true a b c (inr new) = (λ e. (let d = new.0 in let le = new.1 in omega (arith, ints)), λ e. (let d = new.0 in omega (arith, ints)))
not_above true false a b c is = (λ e. omega (arith, ints), λ e. absurd (true≢false (sym e)))
not_above false true a b c is = (λ e. absurd (true≢false (sym e)), λ e. omega (arith, ints))
not_above false false a b c is = (λ e. absurd (true≢false (sym e)), λ e. absurd (true≢false (sym e)))

-- ---- one part after the other
pub no_parts : (Q : SeriesProblem) (p : SeriesPath) (v : Multipliers) (ray : Bool) (part : Part) → ((i : ℕ) → has part.holds i ≡ false) → part.rest ≡ pos (uses Q v) → IsPoolTo Q p v ray 0 part
no_parts Q p v ray part none e =
    record {
      holders = none;
      reached = λ i w h. absurd (true≢false (sym h ∙ none i));
      greatest = λ f i w u h. absurd (omega arith);
      rest = omega (arith, ints);
    }

pub one_more_part : (Q : SeriesProblem) (p : SeriesPath) (v : Multipliers) (ray : Bool) (k : ℕ) (sum part new : Part) → IsPoolTo Q p v ray k sum → IsPart Q p v ray k part → IsJoined (size Q.bank) sum part new → IsPoolTo Q p v ray (suc k) new
one_more_part Q p v ray k sum part new so_far here joins =
    record {
      holders = λ i. joins.holders i ∙ or_both _ _ _ _ (so_far.holders i) (here.holders i);
      reached = λ i w h. reached i w (one_of_two (has sum.holds i) (has part.holds i) (at sum.counts i) (at part.counts i) (at new.counts i) (joins.counts i w) (sym (joins.holders i) ∙ h));
      greatest = λ f i u w h. greatest f i w h (last_or f k u);
      rest = (let a = joins.rest in let b = so_far.rest in let c = here.rest in omega (arith, ints));
    }
  where
    reached : (i : ℕ) → i < size Q.bank → ((has sum.holds i ≡ true) × (at new.counts i ≡ at sum.counts i)) ⊎ ((has part.holds i ≡ true) × (at new.counts i ≡ at part.counts i)) → (f : ℕ) × CountsIn Q p v ray (suc k) i (at new.counts i) f
    reached i w (inl old) =
        let (f, in_f) = so_far.reached i w old.0 in
        (f, record { form = omega (arith, in_f.form); holder = in_f.holder; count = old.1 ∙ in_f.count })
    reached i w (inr last) = (k, record { form = omega arith; holder = sym (here.holders i) ∙ last.0; count = last.1 ∙ here.counts i w })

    greatest : (f i : ℕ) → i < size Q.bank → holds Q p f i ≡ true → (f < k) ⊎ (f ≡ k) → count_at Q v ray f i ≤ℤ at new.counts i
    greatest f i w h (inl old) =
        let low = so_far.greatest f i old w h in
        let held : has sum.holds i ≡ true = so_far.holders i ∙ any_intro k (λ f. holds Q p f i) f old h in
        let high = (not_above (has sum.holds i) (has part.holds i) (at sum.counts i) (at part.counts i) (at new.counts i) (joins.counts i w)).0 held in
        omega (arith, ints)
    greatest f i w h (inr last) =
        let same : at part.counts i ≡ count_at Q v ray f i = here.counts i w ∙ ap (λ (g : ℕ). count_at Q v ray g i) (sym last) in
        let held : has part.holds i ≡ true = here.holders i ∙ ap (λ (g : ℕ). holds Q p g i) (sym last) ∙ h in
        let high = (not_above (has sum.holds i) (has part.holds i) (at sum.counts i) (at part.counts i) (at new.counts i) (joins.counts i w)).1 held in
        omega (arith, ints)

-- ---- the forms that are filled
pub filled_answer : (Q : SeriesProblem) (p : SeriesPath) (v : Multipliers) (ray : Bool) (part : Part) (sure : Set) (result : Option ℤ) → AreApart Q.forms p.taken → is_use_lost Q p ≡ false → IsPoolTo Q p v ray Q.forms part
    → ((i : ℕ) → sure i ≡ (is_placed Q p i || p.used i)) → IsFilled Q.bank (Q.forms * Q.plan.length) part sure result → IsAnswer true Q p v ray result
filled_answer Q p v ray part sure None apart kept pool is_sure impossible = none_filled Q p v ray sure (others_of part sure) is_sure (λ i. ap (λ (b : Bool). b && not (sure i)) (pool.holders i)) impossible
filled_answer Q p v ray part sure (Some r) apart kept pool is_sure fills =
    let (T, k, top, number, e) = fills in
    subst (IsPoolMaximum Q p v ray) (sym e) (pool_is Q p v ray apart kept part pool sure (others_of part sure) T k is_sure (λ i. refl) top number)
