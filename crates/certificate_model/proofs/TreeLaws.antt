-- Sound nodes make the form best, or leave no form.
use Rattle.std.proofs.Common.{◌≡◌, ℕ, zero, suc, ◌+◌, ◌≤◌, ◌<◌, ◌⊎◌, inl, inr, Bool, true, false, not, ◌&&◌, ◌||◌, ◌==◌, List, [], ◌∷◌, ◌++◌, negsuc, refl, sym, ap, ◌∙◌, subst, arith, nat_lt, Option, Some, None}
use Rattle.std.proofs.lemmas.Int.{ints}
use Rattle.std.proofs.lemmas.Bool.{lt-ltb, ltb-true, ltb-false, and_parts, and_from, eqb-true}
use Rattle.std.proofs.Math.Bool.{true≢false}
use Rattle.std.proofs.Math.Path.{fun_ext}
use Rattle.bank_tables.specs.Items.{Set}
use Rattle.bank_tables.specs.Tables.{size, stimulus}
use Rattle.certificate_model.specs.declared.node.Node.{Node}
use Rattle.certificate_model.specs.declared.node.Node.TheVariants.{BranchItem, BranchStimulus, Bound, Ray, Count, Whole, Open, Fix}
use Rattle.certificate_model.specs.declared.verdict.Verdict.{Verdict}
use Rattle.certificate_model.specs.declared.verdict.Verdict.TheVariants.{Optimal, NoForm, Bad}
use Rattle.certificate_model.specs.declared.verdict.Reason.{Reason}
use Rattle.bank_tables.specs.Sums.{any_below}
use Rattle.certificate_model.specs.Counting.{taken_or_free}
use Rattle.form_model.specs.Forms.{Form, used, size_in, objective}
use Rattle.certificate_model.specs.Laws.{OptimalIsBest, NoFormIsNone}
use Rattle.certificate_model.specs.Paths.{Path, root, Under, is_free, with_item, with_stimulus}
use Rattle.form_model.specs.Problem.{Problem}
use Rattle.certificate_model.specs.ProofTrees.{ProofTree, vector_at}
use Rattle.certificate_model.specs.Relaxed.{Multipliers}
use Rattle.certificate_model.specs.Fixing.{fixed_path, is_taken_in, settles}
use Rattle.certificate_model.specs.Verdicts.{ReachesGoal, only_candidate, MaximumIsAtMost, IsAtLeast, CandidateIsSettled, ClosesByBound, IsSound, below, open_leaf, verdict_of, GivesFrom}
use Rattle.form_model.proofs.SumLaws.{either, or_true, or_left, any_intro, any_elim, same_from_count}
use Rattle.certificate_model.proofs.Duality.{held_is_taken_or_free, weak_duality, weak_ray}
use Rattle.certificate_model.proofs.FixLaws.{fix_keeps}
use Rattle.certificate_model.proofs.CountingLaws.{in_may_hold, impossible_leaves_no_form}

-- the items taken are of the bank
abbrev InBank : Problem → Path → Type 0
InBank P p = (i : ℕ) → p.taken i ≡ true → i < size P.bank

-- no form on the path is better than X
abbrev Closed : Problem → Option Set → Path → Type 0
Closed P X p = InBank P p → (Y : Set) → Under P p Y → IsAtLeast P X Y

-- ---- the one set left
module _ (P : Problem) (p : Path) (X : Set) (under : Under P p X) (in_bank : InBank P p) where
  outside : (Y : Set) → ((i : ℕ) → Y i ≡ true → i < size P.bank) → (i : ℕ) → size P.bank ≤ i → Y i ≡ false
  outside Y inside i past = elim (either (Y i)) [ inl has ↦ absurd (omega (arith, inside i has)) | inr has_not ↦ has_not ]

  may_hold_in_bank : (i : ℕ) → taken_or_free P p i ≡ true → i < size P.bank
  may_hold_in_bank i e = elim (or_true _ _ e) [ inl taken ↦ in_bank i taken | inr free ↦ ltb-true _ _ (and_parts _ _ free).0 ]

  -- two sets of items of the bank that agree there are one
  one_set : (Y Z : Set) → ((i : ℕ) → Y i ≡ true → i < size P.bank) → ((i : ℕ) → Z i ≡ true → i < size P.bank) → ((i : ℕ) → i < size P.bank → Y i ≡ Z i) → Y ≡ Z
  one_set Y Z y z same =
      fun_ext (λ i. elim (either (nat_lt i (size P.bank))) [
        | inl within ↦ same i (ltb-true _ _ within)
        | inr past ↦ outside Y y i (ltb-false _ _ past) ∙ sym (outside Z z i (ltb-false _ _ past))
      ])

  -- where no item is free
  no_free : any_below (size P.bank) (is_free P p) ≡ false → p.taken ≡ X
  no_free none =
      one_set p.taken X in_bank under.form.meets.right_length.in_bank (λ i within. elim (either (X i)) [
        | inl has ↦
            elim (held_is_taken_or_free P p X under i has) [
              | inl taken ↦ taken ∙ sym has
              | inr free ↦ absurd (true≢false (sym (any_intro (size P.bank) (is_free P p) i within free) ∙ none))
            ]
        | inr has_not ↦
            elim (either (p.taken i)) [
              | inl taken ↦ absurd (true≢false (sym (under.holds_taken i taken) ∙ has_not))
              | inr not_taken ↦ not_taken ∙ sym has_not
            ]
      ])

  all_taken : size_in P.bank p.taken ≡ P.plan.length → p.taken ≡ X
  all_taken e = one_set p.taken X in_bank under.form.meets.right_length.in_bank (same_from_count (size P.bank) p.taken X (λ i w. under.holds_taken i) (e ∙ sym under.form.meets.right_length.n_items))

  all_held : size_in P.bank (taken_or_free P p) ≡ P.plan.length → X ≡ taken_or_free P p
  all_held e = one_set X (taken_or_free P p) under.form.meets.right_length.in_bank may_hold_in_bank (same_from_count (size P.bank) X (taken_or_free P p) (λ i w. in_may_hold P p X under i) (under.form.meets.right_length.n_items ∙ sym e))

  done : (best : Option Set) (Y : Set) → Y ≡ X → CandidateIsSettled P best p (Some Y) → IsAtLeast P best X
  done best Y e settled =
      elim settled [
        | inl no_form ↦ absurd (no_form (subst (Form P) (sym e) under.form))
        | inr rest ↦
            elim rest [
              | inl lacks ↦ absurd (true≢false (sym (under.uses_chosen lacks.missing lacks.first lacks.last lacks.chosen) ∙ ap (λ Z. used P.bank Z lacks.missing) (sym e) ∙ lacks.unused))
              | inr no_better ↦ subst (IsAtLeast P best) e no_better
            ]
      ]

  settled_closed : (best : Option Set) → CandidateIsSettled P best p (only_candidate P p) → IsAtLeast P best X
  settled_closed best settled =
      elim (either (not (any_below (size P.bank) (is_free P p)) || size_in P.bank p.taken == P.plan.length)) [
        | inl first ↦
            done best p.taken (elim (or_true _ _ first) [ inl none ↦ no_free (not_true _ none) | inr n ↦ all_taken (eqb-true _ _ n) ]) (rw first at settled)
        | inr not_first ↦
            elim (either (size_in P.bank (taken_or_free P p) == P.plan.length)) [
              | inl third ↦ done best (taken_or_free P p) (sym (all_held (eqb-true _ _ third))) (rw (not_first, third) at settled)
              | inr neither ↦ absurd (rw (not_first, neither) at settled)
            ]
      ]
    where
      not_true : (b : Bool) → not b ≡ true → b ≡ false
      not_true true h = absurd (true≢false (sym h))
      not_true false h = refl

-- ---- branches
module _ (P : Problem) (p : Path) (Y : Set) (under : Under P p Y) where
  keeps : (left : Path) → ((i : ℕ) → left.taken i ≡ true → Y i ≡ true) → ((i : ℕ) → left.out i ≡ true → Y i ≡ false) → ((s : ℕ) → left.branched_on s ≡ true → (p.branched_on s ≡ true) ⊎ (used P.bank Y s ≡ true)) → Under P left Y
  keeps left taken out branched_on =
      record {
        form = under.form;
        holds_taken = taken;
        holds_no_out = out;
        uses_chosen = λ s first last chosen.
            elim (or_true _ _ chosen) [
              | inl mark ↦ elim (branched_on s mark) [ inl old ↦ under.uses_chosen s first last (or_left _ _ old) | inr new ↦ new ]
              | inr uses ↦
                  let (i, within, e) = any_elim (size P.bank) (λ i. left.taken i && stimulus P.bank i == s) (and_parts (nat_lt 0 s) _ uses).1 in
                  let parts = and_parts _ _ e in
                  and_from _ _ (and_parts (nat_lt 0 s) _ uses).0 (any_intro (size P.bank) (λ i. Y i && stimulus P.bank i == s) i within (and_from _ _ (taken i parts.0) parts.1))
            ];
      }

  item_in : (i : ℕ) → Y i ≡ true → Under P (with_item p i true) Y
  item_in i has =
      keeps (with_item p i true)
      (λ j e. elim (or_true _ _ e) [ inl at ↦ ap Y (eqb-true _ _ at) ∙ has | inr old ↦ under.holds_taken j old ])
      under.holds_no_out
      (λ s mark. inl mark)

  item_out : (i : ℕ) → Y i ≡ false → Under P (with_item p i false) Y
  item_out i has_not =
      keeps (with_item p i false)
      under.holds_taken
      (λ j e. elim (or_true _ _ e) [ inl at ↦ ap Y (eqb-true _ _ at) ∙ has_not | inr old ↦ under.holds_no_out j old ])
      (λ s mark. inl mark)

  stimulus_in : (s : ℕ) → used P.bank Y s ≡ true → Under P (with_stimulus P p s true) Y
  stimulus_in s uses =
      keeps (with_stimulus P p s true)
      under.holds_taken
      under.holds_no_out
      (λ t mark. elim (or_true _ _ mark) [ inl at ↦ inr (ap (used P.bank Y) (eqb-true _ _ at) ∙ uses) | inr old ↦ inl old ])

  stimulus_out : (s : ℕ) → 0 < s → used P.bank Y s ≡ false → Under P (with_stimulus P p s false) Y
  stimulus_out s first unused =
      keeps (with_stimulus P p s false)
      under.holds_taken
      (λ j e. elim (or_true _ _ e) [
        | inl left ↦
            elim (either (Y j)) [
              | inl has ↦ absurd (true≢false (sym (and_from _ _ (lt-ltb 0 s first) (any_intro (size P.bank) (λ i. Y i && stimulus P.bank i == s) j (under.form.meets.right_length.in_bank j has) (and_from _ _ has (and_parts _ _ left).1))) ∙ unused))
              | inr has_not ↦ has_not
            ]
        | inr old ↦ under.holds_no_out j old
      ])
      (λ t mark. inl mark)

-- ---- the tree
abbrev AllClosed : Problem → Option Set → List Path → Type 0
AllClosed P X [] = Unit {0}
AllClosed P X (p ∷ paths) = Closed P X p × AllClosed P X paths

-- a leaf that is sound and not open closes its path
module _ (P : Problem) (X : Option Set) (T : ProofTree) (p : Path) where
  bound_closed : (best : Option Set) (v : Multipliers) → ClosesByBound P best p v → Closed P best p
  bound_closed None v holds in_bank Y under = absurd holds
  bound_closed (Some best) v holds in_bank Y under =
      let weak = weak_duality P p v holds.maximum Y holds.is_maximum under in
      let top = holds.below in
      omega (arith, ints)

  ray_closed : (v : Multipliers) → MaximumIsAtMost P p v true (negsuc 0) → Closed P X p
  ray_closed v holds in_bank Y under =
      let weak = weak_ray P p v holds.maximum Y holds.is_maximum under in
      let top = holds.below in
      absurd (omega (arith, ints))

  fix_closed : (best : Option Set) (v : Multipliers) (goal : ℕ) → ReachesGoal P best goal → settles P p v goal ≡ true → Closed P best (fixed_path P p v goal) → Closed P best p
  fix_closed None v goal reached some below in_bank Y under = absurd reached
  fix_closed (Some best) v goal reached some below in_bank Y under =
      elim (either (nat_lt goal (objective P Y))) [
        | inl better ↦ below (λ i e. elim (or_true (is_taken_in P p v goal i) (p.taken i) e) [ inl fixed ↦ ltb-true _ _ (and_parts (nat_lt i (size P.bank)) _ (and_parts (is_free P p i) _ fixed).0).0 | inr old ↦ in_bank i old ]) Y (fix_keeps P p v goal Y under (ltb-true _ _ better))
        | inr no_better ↦ let low = ltb-false _ _ no_better in omega arith
      ]

  item_closed : (i : ℕ) → is_free P p i ≡ true → Closed P X (with_item p i true) → Closed P X (with_item p i false) → Closed P X p
  item_closed i free left right in_bank Y under =
      elim (either (Y i)) [
        | inl has ↦ left (λ j e. elim (or_true (j == i) (p.taken j) e) [ inl at ↦ subst (λ (k : ℕ). k < size P.bank) (sym (eqb-true j i at)) (ltb-true _ _ (and_parts _ _ free).0) | inr old ↦ in_bank j old ]) Y (item_in P p Y under i has)
        | inr has_not ↦ right in_bank Y (item_out P p Y under i has_not)
      ]

  stimulus_closed : (s : ℕ) → 0 < s → Closed P X (with_stimulus P p s true) → Closed P X (with_stimulus P p s false) → Closed P X p
  stimulus_closed s first left right in_bank Y under =
      elim (either (used P.bank Y s)) [
        | inl uses ↦ left in_bank Y (stimulus_in P p Y under s uses)
        | inr unused ↦ right in_bank Y (stimulus_out P p Y under s first unused)
      ]

-- a verdict that all is settled comes only where no leaf is open
none_met : (P : Problem) (X : Option Set) (T : ProofTree) (at met : ℕ) (nodes : List Node) (paths : List Path) (verdict : Verdict) → 0 < met → verdict ≡ verdict_of X 0 → GivesFrom P X T at met nodes paths verdict → ⊥
none_met P X T at met [] (p ∷ paths) verdict some e gives = gives
none_met P X T at zero [] [] verdict some e gives = absurd (omega arith)
none_met P None T at (suc met) [] [] verdict some e gives = cc
none_met P (Some X) T at (suc met) [] [] verdict some e gives = cc
none_met P X T at met (node ∷ nodes) [] verdict some e gives = gives
none_met P X T at met (node ∷ nodes) (p ∷ paths) verdict some e gives =
    elim gives [
      | inl sound ↦ none_met P X T (at + 1) (met + open_leaf node) nodes (below P T p node ++ paths) verdict (omega arith) e sound.1
      | inr bad ↦ not_bad X at bad.0 (sym e ∙ bad.2)
    ]
  where
    not_bad : (X : Option Set) (at : ℕ) (reason : Reason) → verdict_of X 0 ≡ Bad at reason → ⊥
    not_bad None at reason e = cc
    not_bad (Some X) at reason e = cc

-- each path that waits is closed by the nodes to come
pub all_closed : (P : Problem) (X : Option Set) (T : ProofTree) (at met : ℕ) (nodes : List Node) (paths : List Path) (verdict : Verdict) → verdict ≡ verdict_of X 0 → GivesFrom P X T at met nodes paths verdict → AllClosed P X paths
all_closed P X T at met [] [] verdict e gives = tt
all_closed P X T at met [] (p ∷ paths) verdict e gives = absurd gives
all_closed P X T at met (node ∷ nodes) [] verdict e gives = absurd gives
all_closed P X T at met (node ∷ nodes) (p ∷ paths) verdict e gives =
    elim gives [
      | inl sound ↦ closes node sound.0 (λ some. none_met P X T (at + 1) (met + open_leaf node) nodes (below P T p node ++ paths) verdict some e sound.1) (all_closed P X T (at + 1) (met + open_leaf node) nodes (below P T p node ++ paths) verdict e sound.1)
      | inr bad ↦ absurd (not_bad X at bad.0 (sym e ∙ bad.2))
    ]
  where
    not_bad : (X : Option Set) (at : ℕ) (reason : Reason) → verdict_of X 0 ≡ Bad at reason → ⊥
    not_bad None at reason e = cc
    not_bad (Some X) at reason e = cc

    closes : (node : Node) → IsSound P X T p node → (0 < met + open_leaf node → ⊥) → AllClosed P X (below P T p node ++ paths) → AllClosed P X (p ∷ paths)
    closes (BranchItem i) sound none rest = (item_closed P X T p i sound rest.0 rest.1.0, rest.1.1)
    closes (BranchStimulus s) sound none rest = (stimulus_closed P X T p s sound.first rest.0 rest.1.0, rest.1.1)
    closes (Bound v) sound none rest = (bound_closed P X T p X (vector_at T v) sound.2, rest)
    closes (Ray v) sound none rest = (ray_closed P X T p (vector_at T v) sound.2, rest)
    closes (Count r) sound none rest = (λ in_bank Y under. absurd (impossible_leaves_no_form P p Y under r sound), rest)
    closes Whole sound none rest = (λ in_bank Y under. settled_closed P p Y under in_bank X sound, rest)
    closes Open sound none rest = absurd (none (omega arith))
    closes (Fix v goal) sound none rest = (fix_closed P X T p X (vector_at T v) goal sound.2 sound.3 rest.0, rest.1)

-- at the root every form is on the path
pub at_root : (P : Problem) (Y : Set) → Form P Y → Under P (root P) Y
at_root P Y form =
    record {
      form = form;
      holds_taken = form.holds_given;
      holds_no_out = form.holds_no_barred;
      uses_chosen = λ s first last chosen.
          let (i, within, e) = any_elim (size P.bank) (λ i. P.given i && stimulus P.bank i == s) (and_parts (nat_lt 0 s) _ chosen).1 in
          let parts = and_parts _ _ e in
          and_from _ _ (and_parts (nat_lt 0 s) _ chosen).0 (any_intro (size P.bank) (λ i. Y i && stimulus P.bank i == s) i within (and_from _ _ (form.holds_given i parts.0) parts.1));
    }

pub optimal_is_best : OptimalIsBest
optimal_is_best P X T verdict =
    elim verdict [
      | inl gives ↦ record { form = gives.0; greatest = λ Y form. (all_closed P (Some X) T 0 0 T.nodes (root P ∷ []) Optimal refl gives.1).0 (λ i given. form.meets.right_length.in_bank i (form.holds_given i given)) Y (at_root P Y form) }
      | inr bad ↦ absurd (let e = bad.1 in cc)
    ]

pub no_form_is_none : NoFormIsNone
no_form_is_none P T verdict =
    elim verdict [
      | inl gives ↦ record { none = λ Y form. (all_closed P None T 0 0 T.nodes (root P ∷ []) NoForm refl gives.1).0 (λ i given. form.meets.right_length.in_bank i (form.holds_given i given)) Y (at_root P Y form) }
      | inr bad ↦ absurd (let e = bad.1 in cc)
    ]
