-- Each branch decides an item or a stimulus: so the Open leaves of a spent tree are few, and a tree
-- with an Open leaf is small.
use Rattle.std.proofs.Common.{◌≡◌, ℕ, zero, suc, ◌+◌, ◌^◌, ◌≤◌, ◌<◌, ◌⊎◌, inl, inr, Bool, true, false, cond, not, ◌&&◌, ◌||◌, ◌==◌, max, List, [], ◌∷◌, ◌++◌, length, refl, sym, ap, ◌∙◌, add-one, arith, nat_lt, Option, Some, None}
use Rattle.std.proofs.lemmas.Bool.{ltb-true, and_parts, and_from, not-true, eq-eqb}
use Rattle.std.proofs.Math.Bool.{true≢false}
use Rattle.std.proofs.Math.Nat.{pow-suc}
use Rattle.std.proofs.Math.Pow.{pow_mono}
use Rattle.bank_tables.specs.Items.{Set}
use Rattle.bank_tables.specs.Sums.{sum_in, any_below}
use Rattle.bank_tables.specs.Tables.{Tables, size, stimulus}
use Rattle.certificate_model.specs.declared.node.Node.{Node}
use Rattle.certificate_model.specs.declared.node.Node.TheVariants.{BranchItem, BranchStimulus, Bound, Ray, Count, Whole, Open, Fix}
use Rattle.certificate_model.specs.declared.verdict.Verdict.TheVariants.{Partial}
use Rattle.form_model.specs.Forms.{used, stimuli_of}
use Rattle.certificate_model.specs.Paths.{Path, root, is_free, is_chosen, is_open, undecided, with_item, with_stimulus}
use Rattle.form_model.specs.Problem.{Problem}
use Rattle.certificate_model.specs.Fixing.{is_put_out, is_taken_in, is_settled_on, fixed_path, settles}
use Rattle.certificate_model.specs.ProofTrees.{ProofTree, vector_at}
use Rattle.certificate_model.specs.Relaxed.{Multipliers}
use Rattle.certificate_model.specs.Verdicts.{IsStimulusBranch, only_candidate, below, open_leaf, GivesFrom, IsVerdict}
use Rattle.certificate_model.specs.Spending.{open_leaves, HasNoBranch, IsDepthFirst, AreSpentNodes, IsSpent}
use Rattle.form_model.proofs.SumLaws.{either, or_true, or_left, or_right, any_intro, any_elim, sum_in-le, more}

-- ---- a set with one member more
last_or : (i n : ℕ) → i < suc n → (i < n) ⊎ (i ≡ n)
last_or i n w = grind arith

sum_in-more : (n : ℕ) (X Y : Set) (i : ℕ) → ((j : ℕ) → X j ≡ true → Y j ≡ true) → i < n → X i ≡ false → Y i ≡ true → sum_in n X (λ _. 1) + 1 ≤ sum_in n Y (λ _. 1)
sum_in-more zero X Y i h w x y = absurd (omega arith)
sum_in-more (suc n) X Y i h w x y =
    elim (last_or i n w) [
      | inl before ↦
          let rest = sum_in-more n X Y i h before x y in
          let last : ◌≤◌ (cond (X n) 1 0) (cond (Y n) 1 0) = more (X n) (Y n) 1 (h n) in
          omega arith
      | inr at ↦
          let rest = sum_in-le n X Y (λ _. 1) (λ j w. h j) in
          let out : ◌≡◌ {A = ℕ} (cond (X n) 1 0) 0 = ap (λ (b : Bool). cond b 1 0) (ap X (sym at) ∙ x) in
          let in_it : ◌≡◌ {A = ℕ} (cond (Y n) 1 0) 1 = ap (λ (b : Bool). cond b 1 0) (ap Y (sym at) ∙ y) in
          omega arith
    ]

-- ---- on a longer path less is free, and less open
not_back : (a b : Bool) → (a ≡ true → b ≡ true) → not b ≡ true → not a ≡ true
not_back true b h e = absurd (true≢false (sym (h refl) ∙ not-true b e))
not_back false b h e = refl

used_more : (b : Tables) (X Y : Set) (s : ℕ) → ((i : ℕ) → X i ≡ true → Y i ≡ true) → used b X s ≡ true → used b Y s ≡ true
used_more b X Y s h e =
    let parts = and_parts (nat_lt 0 s) _ e in
    let (i, within, at) = any_elim (size b) (λ i. X i && stimulus b i == s) parts.1 in
    let item = and_parts (X i) _ at in
    and_from _ _ parts.0 (any_intro (size b) (λ i. Y i && stimulus b i == s) i within (and_from _ _ (h i item.0) item.1))

-- q goes on from p
record GoesOn (p q : Path) : Type 0 where
  taken : (i : ℕ) → p.taken i ≡ true → q.taken i ≡ true
  out : (i : ℕ) → p.out i ≡ true → q.out i ≡ true
  branched_on : (s : ℕ) → p.branched_on s ≡ true → q.branched_on s ≡ true

module _ (P : Problem) (p q : Path) (on : GoesOn p q) where
  less_free : (i : ℕ) → is_free P q i ≡ true → is_free P p i ≡ true
  less_free i e =
      let parts = and_parts (nat_lt i (size P.bank)) _ e in
      let rest = and_parts (not (q.taken i)) _ parts.1 in
      and_from _ _ parts.0 (and_from _ _ (not_back (p.taken i) (q.taken i) (on.taken i) rest.0) (not_back (p.out i) (q.out i) (on.out i) rest.1))

  more_chosen : (s : ℕ) → is_chosen P p s ≡ true → is_chosen P q s ≡ true
  more_chosen s e =
      elim (or_true (p.branched_on s) _ e) [
        | inl branched ↦ or_left _ _ (on.branched_on s branched)
        | inr uses ↦ or_right (q.branched_on s) _ (used_more P.bank p.taken q.taken s on.taken uses)
      ]

  less_open : (s : ℕ) → is_open P q s ≡ true → is_open P p s ≡ true
  less_open s e =
      let parts = and_parts (not (is_chosen P q s)) _ e in
      and_from _ _ (not_back (is_chosen P p s) (is_chosen P q s) (more_chosen s) parts.0) (used_more P.bank (is_free P q) (is_free P p) s less_free parts.1)

  item_decided : (i : ℕ) → is_free P p i ≡ true → is_free P q i ≡ false → undecided P q + 1 ≤ undecided P p
  item_decided i free not_free =
      let items = sum_in-more (size P.bank) (is_free P q) (is_free P p) i less_free (ltb-true _ _ (and_parts (nat_lt i (size P.bank)) _ free).0) not_free free in
      let stimuli = sum_in-le (stimuli_of P.bank) (λ k. is_open P q (suc k)) (λ k. is_open P p (suc k)) (λ _. 1) (λ k w. less_open (suc k)) in
      omega arith

  stimulus_decided : (s : ℕ) → 0 < s → s ≤ stimuli_of P.bank → is_open P p s ≡ true → is_open P q s ≡ false → undecided P q + 1 ≤ undecided P p
  stimulus_decided zero first last open_before not_open = absurd (omega arith)
  stimulus_decided (suc k) first last open_before not_open =
      let items = sum_in-le (size P.bank) (is_free P q) (is_free P p) (λ _. 1) (λ i w. less_free i) in
      let stimuli = sum_in-more (stimuli_of P.bank) (λ k. is_open P q (suc k)) (λ k. is_open P p (suc k)) k (λ j. less_open (suc j)) (omega arith) not_open open_before in
      omega arith

-- ---- each branch decides one
not_both : (w t o : Bool) → (t || o) ≡ true → (w && (not t && not o)) ≡ false
not_both true true o h = refl
not_both true false true h = refl
not_both true false false h = absurd (true≢false (sym h))
not_both false t o h = refl

module _ (P : Problem) (p : Path) where
  item_side : (i : ℕ) (side : Bool) → is_free P p i ≡ true → undecided P (with_item p i side) + 1 ≤ undecided P p
  item_side i true free =
      item_decided P p (with_item p i true)
      (record { taken = λ j e. or_right (j == i) _ e; out = λ j e. e; branched_on = λ s e. e })
      i free (not_both (nat_lt i (size P.bank)) (i == i || p.taken i) (p.out i) (or_left _ _ (or_left _ _ (eq-eqb i i refl))))
  item_side i false free =
      item_decided P p (with_item p i false)
      (record { taken = λ j e. e; out = λ j e. or_right (j == i) _ e; branched_on = λ s e. e })
      i free (not_both (nat_lt i (size P.bank)) (p.taken i) (i == i || p.out i) (or_right (p.taken i) _ (or_left _ _ (eq-eqb i i refl))))

  left_not_open : (s : ℕ) → is_open P (with_stimulus P p s true) s ≡ false
  left_not_open s = ap (λ (b : Bool). not b && used P.bank (is_free P (with_stimulus P p s true)) s) (or_left _ (used P.bank p.taken s) (or_left (s == s) (p.branched_on s) (eq-eqb s s refl)))

  right_free : (s i : ℕ) → is_free P (with_stimulus P p s false) i ≡ true → (stimulus P.bank i == s) ≡ false
  right_free s i e =
      elim (either (stimulus P.bank i == s)) [
        | inl of_it ↦
            let less = less_free P p (with_stimulus P p s false) (record { taken = λ j e. e; out = λ j e. or_right _ _ e; branched_on = λ s e. e }) i e in
            let is_out : (with_stimulus P p s false).out i ≡ true = or_left _ (p.out i) (and_from _ _ less of_it) in
            absurd (true≢false (sym e ∙ not_both (nat_lt i (size P.bank)) (p.taken i) ((with_stimulus P p s false).out i) (or_right (p.taken i) _ is_out)))
        | inr other ↦ other
      ]

  right_not_open : (s : ℕ) → is_open P (with_stimulus P p s false) s ≡ false
  right_not_open s =
      elim (either (is_open P (with_stimulus P p s false) s)) [
        | inl opened ↦
            let uses = (and_parts (not (is_chosen P (with_stimulus P p s false) s)) _ opened).1 in
            let (i, within, at) = any_elim (size P.bank) (λ i. is_free P (with_stimulus P p s false) i && stimulus P.bank i == s) (and_parts (nat_lt 0 s) _ uses).1 in
            let parts = and_parts (is_free P (with_stimulus P p s false) i) _ at in
            absurd (true≢false (sym parts.1 ∙ right_free s i parts.0))
        | inr closed ↦ closed
      ]

  stimulus_side : (s : ℕ) (side : Bool) → IsStimulusBranch P p s → undecided P (with_stimulus P p s side) + 1 ≤ undecided P p
  stimulus_side s true is =
      stimulus_decided P p (with_stimulus P p s true)
      (record { taken = λ j e. e; out = λ j e. e; branched_on = λ t e. or_right (t == s) _ e })
      s is.first is.last is.is_open (left_not_open s)
  stimulus_side s false is =
      stimulus_decided P p (with_stimulus P p s false)
      (record { taken = λ j e. e; out = λ j e. or_right _ _ e; branched_on = λ t e. e })
      s is.first is.last is.is_open (right_not_open s)

-- ---- so does a Fix that settles something
module _ (P : Problem) (p : Path) (v : Multipliers) (goal : ℕ) where
  fix_goes_on : GoesOn p (fixed_path P p v goal)
  fix_goes_on = record { taken = λ i e. or_right (is_taken_in P p v goal i) _ e; out = λ i e. or_right (is_put_out P p v goal i) _ e; branched_on = λ s e. or_right (is_settled_on P p v goal s) _ e }

  settled_item : (i : ℕ) → (is_put_out P p v goal i || is_taken_in P p v goal i) ≡ true → undecided P (fixed_path P p v goal) + 1 ≤ undecided P p
  settled_item i e =
      elim (or_true (is_put_out P p v goal i) _ e) [
        | inl out ↦ item_decided P p (fixed_path P p v goal) fix_goes_on i (and_parts (is_free P p i) _ out).0 (not_both (nat_lt i (size P.bank)) ((fixed_path P p v goal).taken i) ((fixed_path P p v goal).out i) (or_right ((fixed_path P p v goal).taken i) _ (or_left _ _ out)))
        | inr taken ↦ item_decided P p (fixed_path P p v goal) fix_goes_on i (and_parts (is_free P p i) _ taken).0 (not_both (nat_lt i (size P.bank)) ((fixed_path P p v goal).taken i) ((fixed_path P p v goal).out i) (or_left _ _ (or_left _ _ taken)))
      ]

  settled_stimulus : (k : ℕ) → k < stimuli_of P.bank → is_settled_on P p v goal (suc k) ≡ true → undecided P (fixed_path P p v goal) + 1 ≤ undecided P p
  settled_stimulus k within e =
      let chosen : is_chosen P (fixed_path P p v goal) (suc k) ≡ true = or_left _ _ (or_left _ _ e) in
      stimulus_decided P p (fixed_path P p v goal) fix_goes_on (suc k) (omega arith) (omega arith) (and_parts (is_open P p (suc k)) _ e).0
      (ap (λ (b : Bool). not b && used P.bank (is_free P (fixed_path P p v goal)) (suc k)) chosen)

  pub fix_decided : settles P p v goal ≡ true → undecided P (fixed_path P p v goal) + 1 ≤ undecided P p
  fix_decided e =
      elim (or_true (any_below (size P.bank) (λ i. is_put_out P p v goal i || is_taken_in P p v goal i)) _ e) [
        | inl items ↦ let (i, within, at) = any_elim (size P.bank) (λ i. is_put_out P p v goal i || is_taken_in P p v goal i) items in settled_item i at
        | inr stimuli ↦ let (k, within, at) = any_elim (stimuli_of P.bank) (λ k. is_settled_on P p v goal (suc k)) stimuli in settled_stimulus k within at
      ]

-- ---- a spent tree has few Open leaves
-- one Open leaf more than what is undecided and waits, at the path where that is most
room : Problem → List Path → ℕ
room P [] = 0
room P (p ∷ paths) = max (room P paths) (undecided P p + 1 + length paths)

no_branch_few : (P : Problem) (T : ProofTree) (nodes : List Node) (paths : List Path) → HasNoBranch nodes → AreSpentNodes P T nodes paths → open_leaves nodes ≤ length paths
no_branch_few P T [] [] none spent = omega arith
no_branch_few P T [] (p ∷ paths) none spent = absurd spent
no_branch_few P T (node ∷ nodes) [] none spent = absurd spent
no_branch_few P T (BranchItem i ∷ nodes) (p ∷ paths) none spent = absurd (none.0 tt)
no_branch_few P T (BranchStimulus s ∷ nodes) (p ∷ paths) none spent = absurd (none.0 tt)
no_branch_few P T (Fix v goal ∷ nodes) (p ∷ paths) none spent = absurd (none.0 tt)
no_branch_few P T (Bound v ∷ nodes) (p ∷ paths) none spent = omega (arith, no_branch_few P T nodes paths none.1 spent.1)
no_branch_few P T (Ray v ∷ nodes) (p ∷ paths) none spent = omega (arith, no_branch_few P T nodes paths none.1 spent.1)
no_branch_few P T (Count r ∷ nodes) (p ∷ paths) none spent = omega (arith, no_branch_few P T nodes paths none.1 spent.1)
no_branch_few P T (Whole ∷ nodes) (p ∷ paths) none spent = omega (arith, no_branch_few P T nodes paths none.1 spent.1)
no_branch_few P T (Open ∷ nodes) (p ∷ paths) none spent = omega (arith, no_branch_few P T nodes paths none.1 spent.1)

open_in_room : (P : Problem) (T : ProofTree) (nodes : List Node) (paths : List Path) → IsDepthFirst nodes → AreSpentNodes P T nodes paths → open_leaves nodes ≤ room P paths
unfolding room
open_in_room P T [] [] first spent = omega arith
open_in_room P T [] (p ∷ paths) first spent = absurd spent
open_in_room P T (node ∷ nodes) [] first spent = absurd spent
open_in_room P T (BranchItem i ∷ nodes) (p ∷ paths) first spent =
    omega (arith, open_in_room P T nodes (with_item p i true ∷ with_item p i false ∷ paths) first spent.1, item_side P p i true spent.0.0, item_side P p i false spent.0.0)
open_in_room P T (BranchStimulus s ∷ nodes) (p ∷ paths) first spent =
    omega (arith, open_in_room P T nodes (with_stimulus P p s true ∷ with_stimulus P p s false ∷ paths) first spent.1, stimulus_side P p s true spent.0.0, stimulus_side P p s false spent.0.0)
open_in_room P T (Fix v goal ∷ nodes) (p ∷ paths) first spent =
    omega (arith, open_in_room P T nodes (fixed_path P p (vector_at T v) goal ∷ paths) first spent.1, fix_decided P p (vector_at T v) goal spent.0.0.2)
open_in_room P T (Bound v ∷ nodes) (p ∷ paths) first spent = omega (arith, open_in_room P T nodes paths first spent.1)
open_in_room P T (Ray v ∷ nodes) (p ∷ paths) first spent = omega (arith, open_in_room P T nodes paths first spent.1)
open_in_room P T (Count r ∷ nodes) (p ∷ paths) first spent = omega (arith, open_in_room P T nodes paths first spent.1)
open_in_room P T (Whole ∷ nodes) (p ∷ paths) first spent = omega (arith, open_in_room P T nodes paths first spent.1)
open_in_room P T (Open ∷ nodes) (p ∷ paths) first spent = omega (arith, no_branch_few P T nodes paths first spent.1)

pub few_open : (P : Problem) (T : ProofTree) (budget : ℕ) → IsSpent P T budget → open_leaves T.nodes ≤ undecided P (root P) + 1
unfolding room
few_open P T budget spent = let most : open_leaves T.nodes ≤ room P (root P ∷ []) = open_in_room P T T.nodes (root P ∷ []) spent.depth_first spent.unresolved in omega arith

-- ---- a tree of sound nodes with an Open leaf is small
-- the nodes of full binary trees over what is undecided, and one for each tree
full : Problem → List Path → ℕ
full P [] = 0
full P (p ∷ paths) = 2 ^ (undecided P p + 1) + full P paths

double : (u : ℕ) → 2 ^ (u + 1) ≡ 2 ^ u + 2 ^ u
double u = rw add-one (omega (arith, pow-suc 2 u))

halves : (u l r : ℕ) → l + 1 ≤ u → r + 1 ≤ u → 2 ^ (l + 1) + 2 ^ (r + 1) ≤ 2 ^ (u + 1)
halves u l r a b = omega (arith, pow_mono a, pow_mono b, double u)

one_less : (u l : ℕ) → l + 1 ≤ u → 2 ^ (l + 1) + 1 ≤ 2 ^ (u + 1)
one_less u l a = let e : 2 ^ 0 ≤ 2 ^ u = pow_mono {i = 0} (omega arith) in omega (arith, pow_mono a, double u)

leaf_room : (u : ℕ) → 2 ≤ 2 ^ (u + 1)
leaf_room u = let e : 2 ^ 1 ≤ 2 ^ (u + 1) = pow_mono {i = 1} (omega arith) in e

open_room : (u : ℕ) → 0 < u → 4 ≤ 2 ^ (u + 1)
open_room u some = let e : 2 ^ 2 ≤ 2 ^ (u + 1) = pow_mono {i = 2} (omega arith) in e

some_undecided : (P : Problem) (p : Path) → only_candidate P p ≡ None → 0 < undecided P p
some_undecided P p e =
    elim (either (any_below (size P.bank) (is_free P p))) [
      | inl some ↦
          let (i, within, free) = any_elim (size P.bank) (is_free P p) some in
          let most = sum_in-more (size P.bank) (λ _. false) (is_free P p) i (λ j e. absurd (true≢false (sym e))) within refl free in
          omega arith
      | inr none ↦ absurd (let clash : Some p.taken ≡ None = (rw none at e) in cc)
    ]

small : (P : Problem) (X : Option Set) (T : ProofTree) (at met : ℕ) (nodes : List Node) (paths : List Path) (k : ℕ) → GivesFrom P X T at met nodes paths (Partial k) → (length nodes + length paths + open_leaves nodes ≤ full P paths) × (k ≡ met + open_leaves nodes)
unfolding full
small P X T at met [] (p ∷ paths) k gives = absurd gives
small P X T at met (node ∷ nodes) [] k gives = absurd gives
small P X T at (suc met) [] [] k gives = (omega arith, number k met gives)
  where
    number : (k met : ℕ) → Partial k ≡ Partial (suc met) → k ≡ suc met + 0
    number k met e = let same : k ≡ suc met = cc in omega arith
small P None T at zero [] [] k gives = absurd (cc)
small P (Some X) T at zero [] [] k gives = absurd (cc)
small P X T at met (node ∷ nodes) (p ∷ paths) k (inr bad) = absurd (let e = bad.2 in cc)
small P X T at met (BranchItem i ∷ nodes) (p ∷ paths) k (inl s) =
    let rest = small P X T (at + 1) (met + 0) nodes (with_item p i true ∷ with_item p i false ∷ paths) k s.1 in
    (omega (arith, rest.0, halves (undecided P p) _ _ (item_side P p i true s.0) (item_side P p i false s.0)), omega (arith, rest.1))
small P X T at met (BranchStimulus t ∷ nodes) (p ∷ paths) k (inl s) =
    let rest = small P X T (at + 1) (met + 0) nodes (with_stimulus P p t true ∷ with_stimulus P p t false ∷ paths) k s.1 in
    (omega (arith, rest.0, halves (undecided P p) _ _ (stimulus_side P p t true s.0) (stimulus_side P p t false s.0)), omega (arith, rest.1))
small P X T at met (Fix v goal ∷ nodes) (p ∷ paths) k (inl s) =
    let rest = small P X T (at + 1) (met + 0) nodes (fixed_path P p (vector_at T v) goal ∷ paths) k s.1 in
    let less = fix_decided P p (vector_at T v) goal s.0.3 in
    (omega (arith, rest.0, one_less (undecided P p) _ less), omega (arith, rest.1))
small P X T at met (Bound v ∷ nodes) (p ∷ paths) k (inl s) =
    let rest = small P X T (at + 1) (met + 0) nodes paths k s.1 in (omega (arith, rest.0, leaf_room (undecided P p)), omega (arith, rest.1))
small P X T at met (Ray v ∷ nodes) (p ∷ paths) k (inl s) =
    let rest = small P X T (at + 1) (met + 0) nodes paths k s.1 in (omega (arith, rest.0, leaf_room (undecided P p)), omega (arith, rest.1))
small P X T at met (Count r ∷ nodes) (p ∷ paths) k (inl s) =
    let rest = small P X T (at + 1) (met + 0) nodes paths k s.1 in (omega (arith, rest.0, leaf_room (undecided P p)), omega (arith, rest.1))
small P X T at met (Whole ∷ nodes) (p ∷ paths) k (inl s) =
    let rest = small P X T (at + 1) (met + 0) nodes paths k s.1 in (omega (arith, rest.0, leaf_room (undecided P p)), omega (arith, rest.1))
small P X T at met (Open ∷ nodes) (p ∷ paths) k (inl s) =
    let rest = small P X T (at + 1) (met + 1) nodes paths k s.1 in (omega (arith, rest.0, open_room (undecided P p) (some_undecided P p s.0)), omega (arith, rest.1))

-- a Partial verdict has an Open leaf
some_met : (P : Problem) (X : Option Set) (T : ProofTree) (at met : ℕ) (nodes : List Node) (paths : List Path) (k : ℕ) → GivesFrom P X T at met nodes paths (Partial k) → 0 < k
some_met P X T at met [] (p ∷ paths) k gives = absurd gives
some_met P X T at met (node ∷ nodes) [] k gives = absurd gives
some_met P X T at (suc met) [] [] k gives = let same : k ≡ suc met = (let e : Partial k ≡ Partial (suc met) = gives in cc) in omega arith
some_met P None T at zero [] [] k gives = absurd (cc)
some_met P (Some X) T at zero [] [] k gives = absurd (cc)
some_met P X T at met (node ∷ nodes) (p ∷ paths) k (inl s) = some_met P X T (at + 1) (met + open_leaf node) nodes (below P T p node ++ paths) k s.1
some_met P X T at met (node ∷ nodes) (p ∷ paths) k (inr bad) = absurd (let e = bad.2 in cc)

pub partial_counts_open : (P : Problem) (X : Option Set) (T : ProofTree) (k : ℕ) → IsVerdict P X T (Partial k) → (0 < k) × (k ≡ open_leaves T.nodes)
partial_counts_open P X T k (inl gives) = (some_met P X T 0 0 T.nodes (root P ∷ []) k gives.1, omega (arith, (small P X T 0 0 T.nodes (root P ∷ []) k gives.1).1))
partial_counts_open P X T k (inr bad) = absurd (let e = bad.1 in cc)

pub partial_is_small : (P : Problem) (X : Option Set) (T : ProofTree) (k : ℕ) → IsVerdict P X T (Partial k) → length T.nodes + 1 < 2 ^ (undecided P (root P) + 1)
unfolding full
partial_is_small P X T k (inl gives) =
    let most = (small P X T 0 0 T.nodes (root P ∷ []) k gives.1) in
    let some = some_met P X T 0 0 T.nodes (root P ∷ []) k gives.1 in
    omega (arith, most.0, most.1)
partial_is_small P X T k (inr bad) = absurd (let e = bad.1 in cc)
