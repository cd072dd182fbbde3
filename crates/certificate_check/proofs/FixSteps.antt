-- What is settled, and the path below it.
use Rattle.std.proofs.Common.{◌≡◌, ℕ, zero, suc, ◌+◌, ◌*◌, ◌<◌, ◌≤◌, ◌⊎◌, inl, inr, Bool, true, false, cond, not, ◌&&◌, ◌||◌, ◌==◌, refl, ap, ◌∙◌, arith}
use Rattle.std.proofs.Math.Path.{fun_ext}
use Rattle.bank_tables.specs.Items.{Set, has}
use Rattle.bank_tables.specs.Sums.{any_below, count_in}
use Rattle.bank_tables.specs.Tables.{size, stimulus}
use Rattle.form_model.specs.Forms.{stimuli_of, items_of}
use Rattle.form_model.specs.Problem.{Problem}
use Rattle.certificate_model.specs.Fixing.{is_free_of, is_too_dear, is_put_out, is_taken_in, is_settled_on, fixed_path, settles}
use Rattle.certificate_model.specs.Paths.{Path, is_free}
use Rattle.certificate_model.specs.Relaxed.{Multipliers}
use Rattle.certificate_check.specs.Cuts.{path_of}
use Rattle.certificate_check.specs.Fixes.{AreFixed}
use Rattle.certificate_check.specs.declared.cut.Cut.{Cut}
use Rattle.certificate_check.specs.declared.fixing.Fixed.{Fixed}

-- ---- items that are left
abbrev one_if : Bool → Bool → ℕ
one_if a b = cond a (cond b 1 0) 0

counts_alike : (n : ℕ) (X Y p q : Set) → ((i : ℕ) → i < n → one_if (X i) (p i) ≡ one_if (Y i) (q i)) → count_in n X p ≡ count_in n Y q
counts_alike zero X Y p q h = refl
counts_alike (suc n) X Y p q h =
    let rest : count_in n X p ≡ count_in n Y q = counts_alike n X Y p q (λ i w. h i (omega arith)) in
    let last : one_if (X n) (p n) ≡ one_if (Y n) (q n) = h n (omega arith) in
    omega arith

swapped : (free dear here : Bool) → one_if (free && not dear) here ≡ one_if (free && here) (not dear)
swapped true true true = refl
swapped true true false = refl
swapped true false true = refl
swapped true false false = refl
swapped false dear here = refl

pub left_of : (P : Problem) (p : Path) (v : Multipliers) (goal s : ℕ) (left : Set) → ((i : ℕ) → left i ≡ (is_free P p i && not (is_too_dear P p v goal i)))
    → items_of P.bank s left ≡ count_in (size P.bank) (is_free_of P p s) (λ i. not (is_too_dear P p v goal i))
left_of P p v goal s left is =
    counts_alike (size P.bank) left (is_free_of P p s) (λ i. stimulus P.bank i == s) (λ i. not (is_too_dear P p v goal i))
    (λ i w. ap (λ (b : Bool). one_if b (stimulus P.bank i == s)) (is i) ∙ swapped (is_free P p i) (is_too_dear P p v goal i) (stimulus P.bank i == s))

-- ---- the path below
abbrev path : Set → Set → Set → Path
path a b d = record { taken = a; out = b; branched_on = d }

path_same : (a a' b b' d d' : Set) → a ≡ a' → b ≡ b' → d ≡ d' → path a b d ≡ path a' b' d'
path_same a a' b b' d d' e f g = ap (λ (x : Set). path x b d) e ∙ ap (λ (x : Set). path a' x d) f ∙ ap (λ (x : Set). path a' b' x) g

pub below_path : (P : Problem) (cut below : Cut) (v : Multipliers) (goal : ℕ) (f : Fixed) → AreFixed P (path_of cut) v goal f
    → ((i : ℕ) → has below.taken i ≡ (has f.taken i || has cut.taken i))
    → ((i : ℕ) → has below.out i ≡ (has f.out i || has cut.out i))
    → ((s : ℕ) → has below.branched_on s ≡ (has f.branched_on s || has cut.branched_on s))
    → path_of below ≡ fixed_path P (path_of cut) v goal
below_path P cut below v goal f are taken out chosen =
    let p : Path = path_of cut in
    path_same (has below.taken) (λ i. is_taken_in P p v goal i || has cut.taken i) (has below.out) (λ i. is_put_out P p v goal i || has cut.out i) (has below.branched_on) (λ s. is_settled_on P p v goal s || has cut.branched_on s)
    (fun_ext (λ (i : ℕ). taken i ∙ ap (λ (b : Bool). b || has cut.taken i) (are.taken i)))
    (fun_ext (λ (i : ℕ). out i ∙ ap (λ (b : Bool). b || has cut.out i) (are.out i)))
    (fun_ext (λ (s : ℕ). chosen s ∙ ap (λ (b : Bool). b || has cut.branched_on s) (are.branched_on s)))

-- ---- something is settled
any_alike : (n : ℕ) (X Y : Set) → ((i : ℕ) → X i ≡ Y i) → any_below n X ≡ any_below n Y
any_alike zero X Y h = refl
any_alike (suc n) X Y h = ap (λ (b : Bool). b || X n) (any_alike n X Y h) ∙ ap (λ (b : Bool). any_below n Y || b) (h n)

pub any_item : (n : ℕ) (X a b : Set) → ((i : ℕ) → X i ≡ (a i || b i)) → any_below n X ≡ any_below n (λ i. a i || b i)
any_item n X a b h = any_alike n X (λ i. a i || b i) h

pub settled_is : (P : Problem) (p : Path) (v : Multipliers) (goal : ℕ) (f : Fixed) → AreFixed P p v goal f
    → (any_below (size P.bank) (λ i. has f.out i || has f.taken i) || any_below (stimuli_of P.bank) (λ k. has f.branched_on (suc k))) ≡ settles P p v goal
settled_is P p v goal f are =
    let items = any_alike (size P.bank) (λ i. has f.out i || has f.taken i) (λ i. is_put_out P p v goal i || is_taken_in P p v goal i) (λ i. ap (λ (b : Bool). b || has f.taken i) (are.out i) ∙ ap (λ (b : Bool). is_put_out P p v goal i || b) (are.taken i)) in
    let stimuli = any_alike (stimuli_of P.bank) (λ k. has f.branched_on (suc k)) (λ k. is_settled_on P p v goal (suc k)) (λ k. are.branched_on (suc k)) in
    ap (λ (b : Bool). b || any_below (stimuli_of P.bank) (λ k. has f.branched_on (suc k))) items ∙ ap (λ (b : Bool). any_below (size P.bank) (λ i. is_put_out P p v goal i || is_taken_in P p v goal i) || b) stimuli

-- ---- a side of the plan is below 386
pub low_side : (side rows stimuli : ℕ) → rows ≤ 128 → stimuli ≤ 64 → (side < 2 * rows + 2 * stimuli) ⊎ ((side ≡ 384) ⊎ (side ≡ 385)) → side < 386
low_side side rows stimuli few most (inl own) = omega arith
low_side side rows stimuli few most (inr (inl low)) = omega arith
low_side side rows stimuli few most (inr (inr high)) = omega arith
