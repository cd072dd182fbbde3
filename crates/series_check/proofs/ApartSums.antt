-- Forms that have no item in common: what their items count together, and how many they are.
use Rattle.std.proofs.Common.{◌≡◌, ℕ, zero, suc, ◌+◌, ◌*◌, ◌<◌, ◌⊎◌, inl, inr, Bool, true, false, cond, not, ◌&&◌, ◌||◌, ℤ, pos, ◌+ℤ◌, ◌-ℤ◌, ◌*ℤ◌, ◌≤ℤ◌, refl, sym, ap, ◌∙◌, arith}
use Rattle.std.proofs.lemmas.Int.{ints}
use Rattle.std.proofs.lemmas.Bool.{and_parts}
use Rattle.std.proofs.Math.Bool.{true≢false}
use Rattle.std.proofs.Math.IntN.{*ℤ_comm}
use borrow.Author.Differences.{up, down}
use Rattle.bank_tables.specs.Items.{Set}
use Rattle.bank_tables.specs.Sums.{sum_in, sum_in_z, total_z, any_below, count_in}
use Rattle.form_model.proofs.SumLaws.{either, any_intro, any_elim}
use Rattle.certificate_model.proofs.Greatest.{greatest_of_size, count_in-split, rest_of}
use Rattle.series_model.specs.Series.{Forms}
use Rattle.series_model.proofs.SeriesSums.{every, by_items}
use Rattle.series_model.proofs.UseLaws.{in_some}
use Rattle.series_check.proofs.LinearLaws.{sum_in_z-split, not_true}

-- ---- what a form lacks, and what it has, times the price of its length
mul_add : (m a b : ℤ) → m *ℤ (a +ℤ b) ≡ (m *ℤ a) +ℤ (m *ℤ b)
mul_add m a b =
    let e : up (a +ℤ b) + (down a + down b) ≡ down (a +ℤ b) + (up a + up b) = omega (arith, ints) in
    let e-up : up m * (up (a +ℤ b) + (down a + down b)) ≡ up m * (down (a +ℤ b) + (up a + up b)) = ap (λ (x : ℕ). up m * x) e in
    let e-down : down m * (up (a +ℤ b) + (down a + down b)) ≡ down m * (down (a +ℤ b) + (up a + up b)) = ap (λ (x : ℕ). down m * x) e in
    omega (arith, ints)

pub lack_and_have : (m : ℤ) (n k : ℕ) → (m *ℤ (pos n -ℤ pos k)) +ℤ (pos k *ℤ m) ≡ m *ℤ pos n
lack_and_have m n k =
    let parts = mul_add m (pos n -ℤ pos k) (pos k) in
    let turned = *ℤ_comm m (pos k) in
    let all : m *ℤ ((pos n -ℤ pos k) +ℤ pos k) ≡ m *ℤ pos n = (let e : (pos n -ℤ pos k) +ℤ pos k ≡ pos n = omega (arith, ints) in ap (λ (z : ℤ). m *ℤ z) e) in
    omega (arith, ints)

-- a sum of differences from one number
pub sum_in_z-shift : (n : ℕ) (X : Set) (f : ℕ → ℤ) (t : ℤ) → sum_in_z n X f ≡ sum_in_z n X (λ i. f i -ℤ t) +ℤ (pos (count_in n X (λ _. true)) *ℤ t)
sum_in_z-shift zero X f t = omega (arith, ints)
sum_in_z-shift (suc n) X f t =
    let rest = sum_in_z-shift n X f t in
    elim (either (X n)) [ inl in_X ↦ rw in_X (omega (arith, ints)) | inr not_in_X ↦ rw not_in_X (omega (arith, ints)) ]

-- ---- sums over forms and items
pub total_z-plus : (k : ℕ) (f g : ℕ → ℤ) → total_z k (λ i. f i +ℤ g i) ≡ total_z k f +ℤ total_z k g
total_z-plus zero f g = omega (arith, ints)
total_z-plus (suc k) f g = let rest = total_z-plus k f g in omega (arith, ints)

no_terms : (k : ℕ) → total_z k (λ _. pos 0) ≡ pos 0
no_terms zero = refl
no_terms (suc k) = let rest = no_terms k in omega (arith, ints)

by_items_z : (k n : ℕ) (X : Forms) (W : ℕ → ℕ → ℤ) → total_z k (λ f. sum_in_z n (X f) (W f)) ≡ total_z n (λ i. total_z k (λ f. cond (X f i) (W f i) (pos 0)))
by_items_z k zero X W = no_terms k
by_items_z k (suc n) X W =
    let rest = by_items_z k n X W in
    let split = total_z-plus k (λ f. sum_in_z n (X f) (W f)) (λ f. cond (X f n) (W f n) (pos 0)) in
    omega (arith, ints)

last_or : (i n : ℕ) → i < suc n → (i < n) ⊎ (i ≡ n)
last_or i n w = grind arith

-- ---- one item, in one form at most
abbrev pub Once : ℕ → Set → Type 0
Once k x = (f g : ℕ) → f < k → g < k → x f ≡ true → x g ≡ true → f ≡ g

none_of : (k : ℕ) (x : Set) (w : ℕ → ℤ) → ((f : ℕ) → f < k → x f ≡ false) → total_z k (λ f. cond (x f) (w f) (pos 0)) ≡ pos 0
none_of zero x w h = refl
none_of (suc k) x w h = let rest = none_of k x w (λ f v. h f (omega arith)) in let last = h k (omega arith) in rw last (omega (arith, ints))

one_of : (k : ℕ) (x : Set) (w : ℕ → ℤ) (f : ℕ) → f < k → x f ≡ true → ((g : ℕ) → g < k → x g ≡ true → g ≡ f) → total_z k (λ g. cond (x g) (w g) (pos 0)) ≡ w f
one_of zero x w f v e only = absurd (omega arith)
one_of (suc k) x w f v e only =
    elim (last_or f k v) [
      | inl old ↦
          let rest = one_of k x w f old e (λ g u d. only g (omega arith) d) in
          let last : x k ≡ false = elim (either (x k)) [ inl also ↦ absurd (let d = only k (omega arith) also in omega arith) | inr other ↦ other ] in
          rw last (omega (arith, ints))
      | inr new ↦
          let here : x k ≡ true = ap x (sym new) ∙ e in
          let same : w k ≡ w f = ap w (sym new) in
          let none = none_of k x w (λ g u. elim (either (x g)) [ inl also ↦ absurd (let d = only g (omega arith) also in omega arith) | inr other ↦ other ]) in
          rw here (omega (arith, ints))
    ]

in_none : (k : ℕ) (x : Set) → any_below k x ≡ false → (f : ℕ) → f < k → x f ≡ false
in_none k x none f u = elim (either (x f)) [ inl has ↦ absurd (true≢false (sym (any_intro k x f u has) ∙ none)) | inr has_not ↦ has_not ]

item_at_most : (k : ℕ) (x : Set) (w : ℕ → ℤ) (c : ℤ) → Once k x → ((f : ℕ) → f < k → x f ≡ true → w f ≤ℤ c) → total_z k (λ f. cond (x f) (w f) (pos 0)) ≤ℤ cond (any_below k x) c (pos 0)
item_at_most k x w c once low =
    elim (either (any_below k x)) [
      | inl some ↦
          let (f, u, e) = any_elim k x some in
          let is = one_of k x w f u e (λ g v d. once g f v u d e) in
          let le = low f u e in
          rw some (omega (arith, ints))
      | inr none ↦ let is = none_of k x w (in_none k x none) in rw none (omega (arith, ints))
    ]

item_is : (k : ℕ) (x : Set) (w : ℕ → ℤ) (c : ℤ) → Once k x → ((f : ℕ) → f < k → x f ≡ true → w f ≡ c) → total_z k (λ f. cond (x f) (w f) (pos 0)) ≡ cond (any_below k x) c (pos 0)
item_is k x w c once same =
    elim (either (any_below k x)) [
      | inl some ↦
          let (f, u, e) = any_elim k x some in
          let is = one_of k x w f u e (λ g v d. once g f v u d e) in
          let eq = same f u e in
          rw some (omega (arith, ints))
      | inr none ↦ let is = none_of k x w (in_none k x none) in rw none (omega (arith, ints))
    ]

counted_once : (k : ℕ) (x : Set) → Once k x → ◌≡◌ {A = ℕ} (sum_in k x (λ _. 1)) (cond (any_below k x) 1 0)
counted_once zero x once = refl
counted_once (suc k) x once =
    step (any_below k x) (x k) (sum_in k x (λ _. 1)) (counted_once k x (λ f g u v. once f g (omega arith) (omega arith)))
    (λ a b. let (f, u, e) = any_elim k x a in let d = once f k (omega arith) (omega arith) e b in omega arith)
  where
    step : (a b : Bool) (m : ℕ) → ◌≡◌ {A = ℕ} m (cond a 1 0) → (a ≡ true → b ≡ true → ⊥) → ◌≡◌ {A = ℕ} (m + cond b 1 0) (cond (a || b) 1 0)
    step true true m e never = absurd (never refl refl)
    step true false m e never = omega (arith, e)
    step false true m e never = omega (arith, e)
    step false false m e never = omega (arith, e)

-- ---- all items, each in one form at most
abbrev pub Apart : ℕ → Forms → Type 0
Apart k X = (f g i : ℕ) → f < k → g < k → X f i ≡ true → X g i ≡ true → f ≡ g

pub items_at_most : (k n : ℕ) (X : Forms) (W : ℕ → ℕ → ℤ) (C : ℕ → ℤ) → Apart k X → ((f i : ℕ) → f < k → i < n → X f i ≡ true → W f i ≤ℤ C i) → total_z k (λ f. sum_in_z n (X f) (W f)) ≤ℤ sum_in_z n (in_some k X) C
items_at_most k n X W C apart low = let swap = by_items_z k n X W in let le = each n low in omega (arith, ints)
  where
    each : (n : ℕ) → ((f i : ℕ) → f < k → i < n → X f i ≡ true → W f i ≤ℤ C i) → total_z n (λ i. total_z k (λ f. cond (X f i) (W f i) (pos 0))) ≤ℤ sum_in_z n (in_some k X) C
    each zero low = omega (arith, ints)
    each (suc n) low =
        let rest = each n (λ f i u v. low f i u (omega arith)) in
        let last = item_at_most k (λ f. X f n) (λ f. W f n) (C n) (λ f g u v. apart f g n u v) (λ f u. low f n u (omega arith)) in
        omega (arith, ints)

pub items_are : (k n : ℕ) (X : Forms) (W : ℕ → ℕ → ℤ) (C : ℕ → ℤ) → Apart k X → ((f i : ℕ) → f < k → i < n → X f i ≡ true → W f i ≡ C i) → total_z k (λ f. sum_in_z n (X f) (W f)) ≡ sum_in_z n (in_some k X) C
items_are k n X W C apart same = let swap = by_items_z k n X W in let eq = each n same in omega (arith, ints)
  where
    each : (n : ℕ) → ((f i : ℕ) → f < k → i < n → X f i ≡ true → W f i ≡ C i) → total_z n (λ i. total_z k (λ f. cond (X f i) (W f i) (pos 0))) ≡ sum_in_z n (in_some k X) C
    each zero same = refl
    each (suc n) same =
        let rest = each n (λ f i u v. same f i u (omega arith)) in
        let last = item_is k (λ f. X f n) (λ f. W f n) (C n) (λ f g u v. apart f g n u v) (λ f u. same f n u (omega arith)) in
        omega (arith, ints)

pub items_counted : (k n : ℕ) (X : Forms) → Apart k X → sum_in k (λ _. true) (λ f. count_in n (X f) (λ _. true)) ≡ count_in n (in_some k X) (λ _. true)
items_counted k n X apart = by_items k n X (λ _. 1) ∙ each n
  where
    each : (n : ℕ) → sum_in n every (λ i. sum_in k (λ f. X f i) (λ _. 1)) ≡ count_in n (in_some k X) (λ _. true)
    each zero = refl
    each (suc n) = let rest = each n in let last = counted_once k (λ f. X f n) (λ f g u v. apart f g n u v) in omega arith

-- ---- of the sets that have M and otherwise members of F, as many as M and T together, that of M
-- and T has the greatest sum
pub set_at_most : (n : ℕ) (M F T U : Set) (C : ℕ → ℤ) (t : ℤ)
    → ((i : ℕ) → i < n → T i ≡ true → t ≤ℤ C i)
    → ((i : ℕ) → i < n → F i ≡ true → T i ≡ false → C i ≤ℤ t)
    → ((i : ℕ) → i < n → M i ≡ true → U i ≡ true)
    → ((i : ℕ) → i < n → U i ≡ true → M i ≡ false → F i ≡ true)
    → count_in n U (λ _. true) ≡ count_in n M (λ _. true) + count_in n T (λ _. true)
    → sum_in_z n U C ≤ℤ (sum_in_z n M C +ℤ sum_in_z n T C)
set_at_most n M F T U C t above others held else_open number =
    let rest : Set = λ i. U i && not (M i) in
    let split : (i : ℕ) → i < n → (U i ≡ (M i || rest i)) × ((M i && rest i) ≡ false) = λ i w. rest_of (M i) (U i) (held i w) in
    let sums = sum_in_z-split n U M rest C split in
    let counts = count_in-split n U M rest split in
    let within : (i : ℕ) → i < n → rest i ≡ true → F i ≡ true = λ i w e. (let parts = and_parts (U i) (not (M i)) e in else_open i w parts.0 (not_true (M i) parts.1)) in
    let same : count_in n rest (λ _. true) ≡ count_in n T (λ _. true) = omega arith in
    let more = greatest_of_size n F T rest C t above others within same in
    omega (arith, ints)
