-- What the tests at one path decide.
use Rattle.std.proofs.Common.{◌≡◌, ℕ, zero, suc, ◌+◌, ◌-◌, ◌≤◌, ◌<◌, inl, inr, Bool, true, false, not, ◌&&◌, ◌||◌, ◌==◌, nat_lt, [], ◌∷◌, length, refl, sym, ap, ◌∙◌, subst, arith, Option, Some, None}
use Rattle.std.specs.Prelude.{ℤ, IsSome}
use Rattle.std.proofs.lemmas.Int.{ints}
use Rattle.std.proofs.lemmas.Bool.{and_parts, eq-eqb, eqb-true, ltb-true, le-ltb, cases_lt}
use Rattle.std.proofs.lemmas.List.Elements.{All-nil}
use Rattle.std.proofs.Math.Bool.{true≢false}
use Rattle.bank_tables.specs.Items.{Set}
use Rattle.bank_tables.specs.Sums.{any_below, size_of}
use Rattle.bank_tables.specs.Tables.{Tables, size, stimulus}
use Rattle.bank_tables.specs.Validity.{IsBank, HoldsItems}
use Rattle.bank_tables.proofs.Bits.{size_of-below}
use Rattle.bank_tables.proofs.BankLaws.{greatest_at_most}
use Rattle.certificate_model.specs.declared.node.Node.TheVariants.{BranchItem, BranchStimulus, Bound, Ray, Count, Whole, Open, Fix}
use Rattle.certificate_model.specs.declared.node.Node.{Node}
use Rattle.certificate_model.specs.Counting.{taken_or_free, length_impossible, is_impossible, stimulus_impossible, IsFirstImpossible}
use Rattle.form_model.specs.Forms.{objective, size_in, stimuli_of}
use Rattle.certificate_model.specs.Paths.{Path, is_free, is_open, is_chosen}
use Rattle.form_model.specs.Problem.{Problem}
use Rattle.certificate_model.specs.Relaxed.{Multipliers}
use Rattle.lagrange_bound.specs.Bounds.{IsBound}
use Rattle.form_model.specs.Validity.{IsWellMade}
use Rattle.certificate_model.specs.ProofTrees.{ProofTree}
use Rattle.certificate_model.specs.Verdicts.{IsStimulusBranch, only_candidate, CandidateIsSettled, ClosesByBound, IsFormOrNone, below}
use Rattle.certificate_model.specs.Spending.{IsBranch, ExceedsStart}
use Rattle.form_model.proofs.SumLaws.{at_most_greatest, either, any_elim, any_intro, or_right, or_true}
use Rattle.branch_bound.specs.Comparing.{IsAsGood}
use Rattle.branch_bound.specs.Searches.{Suits, ExceedsForm, Ends, GoesOn, IsBranchOn, side_of}
use Rattle.branch_bound.proofs.Comparisons.{as_good-refl}

not_true : (b : Bool) → (b ≡ true → ⊥) → b ≡ false
not_true true h = absurd (h refl)
not_true false h = refl

-- ---- sets of items of the bank are counted there
pub counted : (b : Tables) (X : Set) → IsBank b → HoldsItems b X → size_of X ≡ size_in b X
counted b X bank below = size_of-below (size b) X bank.few (λ i past. elim (either (X i)) [ inl has_i ↦ absurd (omega (arith, below i has_i)) | inr not_i ↦ not_i ])

pub free_in_bank : (P : Problem) (p : Path) → HoldsItems P.bank (is_free P p)
free_in_bank P p i e = ltb-true _ _ (and_parts _ _ e).0

pub may_hold_in_bank : (P : Problem) (p : Path) → HoldsItems P.bank p.taken → HoldsItems P.bank (taken_or_free P p)
may_hold_in_bank P p below i e = elim (or_true _ _ e) [ inl taken ↦ below i taken | inr free ↦ free_in_bank P p i free ]

-- ---- the only candidate
module _ (P : Problem) (p : Path) where
  pub none_free : ((i : ℕ) → is_free P p i ≡ false) → only_candidate P p ≡ Some p.taken
  none_free none =
      let e : any_below (size P.bank) (is_free P p) ≡ false = not_true _ (λ some. let (i, w, free) = any_elim (size P.bank) (is_free P p) some in true≢false (sym free ∙ none i)) in
      rw e refl

  pub full_of_taken : size_in P.bank p.taken ≡ P.plan.length → only_candidate P p ≡ Some p.taken
  full_of_taken e = let full : (not (any_below (size P.bank) (is_free P p)) || size_in P.bank p.taken == P.plan.length) ≡ true = or_right _ _ (eq-eqb _ _ e) in rw full refl

  some_free : (i : ℕ) → is_free P p i ≡ true → any_below (size P.bank) (is_free P p) ≡ true
  some_free i free = any_intro (size P.bank) (is_free P p) i (free_in_bank P p i free) free

  unequal : (a b : ℕ) → (a ≡ b → ⊥) → (a == b) ≡ false
  unequal a b h = not_true _ (λ e. h (eqb-true a b e))

  pub full_of_all : (i : ℕ) → is_free P p i ≡ true → (size_in P.bank p.taken ≡ P.plan.length → ⊥) → size_in P.bank (taken_or_free P p) ≡ P.plan.length → only_candidate P p ≡ Some (taken_or_free P p)
  full_of_all i free not_full full = rw (some_free i free, unequal _ _ not_full, eq-eqb _ _ full) refl

  pub several_left : (i : ℕ) → is_free P p i ≡ true → (size_in P.bank p.taken ≡ P.plan.length → ⊥) → (size_in P.bank (taken_or_free P p) ≡ P.plan.length → ⊥) → only_candidate P p ≡ None
  several_left i free not_full not_all = rw (some_free i free, unequal _ _ not_full, unequal _ _ not_all) refl

-- ---- open stimuli
pub open_is_branch : (P : Problem) (p : Path) (s : ℕ) → is_open P p s ≡ true → IsStimulusBranch P p s
open_is_branch P p s e =
    let uses = and_parts (nat_lt 0 s) _ (and_parts (not (is_chosen P p s)) _ e).1 in
    let (i, within, at) = any_elim (size P.bank) (λ i. is_free P p i && stimulus P.bank i == s) uses.1 in
    let same : stimulus P.bank i ≡ s = eqb-true _ _ (and_parts (is_free P p i) _ at).1 in
    record { first = ltb-true 0 s uses.0; last = omega (arith, at_most_greatest (size P.bank) (stimulus P.bank) i within); is_open = e }

pub few_stimuli : (P : Problem) → IsBank P.bank → stimuli_of P.bank ≤ 64
few_stimuli P bank = greatest_at_most (size P.bank) 64 (stimulus P.bank) bank.stimulus_high

-- ---- rows by number
pub row_number : (P : Problem) (p : Path) (r : ℕ) → IsWellMade P → is_impossible P p r ≡ true → r ≤ 192
unfolding is_impossible
row_number P p zero well e = omega arith
row_number P p (suc r) well e =
    let rows : length P.plan.rows ≤ 128 = well.plan.few_rows in
    let stimuli = few_stimuli P well.bank in
    elim (cases_lt r (length P.plan.rows)) [
      | inl within ↦ omega arith
      | inr past ↦
          let of_stimulus : (nat_lt r (length P.plan.rows + stimuli_of P.bank) && stimulus_impossible P p (suc r - length P.plan.rows)) ≡ true = rw (le-ltb r (length P.plan.rows) past) at e in
          let within : r < length P.plan.rows + stimuli_of P.bank = ltb-true r (length P.plan.rows + stimuli_of P.bank) (and_parts (nat_lt r (length P.plan.rows + stimuli_of P.bank)) (stimulus_impossible P p (suc r - length P.plan.rows)) of_stimulus).0 in
          omega arith
    ]

-- ---- the leaves that end a path
module _ (P : Problem) (p : Path) where
  -- no row is impossible
  abbrev pub AllPossible : Type 0
  AllPossible = (r : ℕ) → is_impossible P p r ≡ false

  pub one_first : (r q : ℕ) → IsFirstImpossible P p (Some r) → IsFirstImpossible P p (Some q) → r ≡ q
  one_first r q a b =
      elim (cases_lt r q) [
        | inl before ↦ absurd (true≢false (sym a.0 ∙ b.1 r before))
        | inr past ↦ elim (cases_lt q r) [ inl before ↦ absurd (true≢false (sym b.0 ∙ a.1 q before)) | inr not_before ↦ omega arith ]
      ]

  none_first : AllPossible → (node : Node) (r : ℕ) → IsFirstImpossible P p (Some r) → node ≡ Count r
  none_first possible node r first = absurd (true≢false (sym first.0 ∙ possible r))

  pub count_ends : (B : Option Set) (row : ℕ) → IsWellMade P → IsFormOrNone P B → IsFirstImpossible P p (Some row) → Ends P p B B (Count row)
  count_ends B row well form first =
      record {
        leaf = refl;
        no_branch = λ is. is;
        not_open = refl;
        form = form;
        no_worse = as_good-refl P B;
        suits = record { sound = first.0; spent = tt; pruned = λ r other. ap (λ (k : ℕ). Count k) (one_first row r first other); number = row_number P p row well first.0 };
      }

  settled_by : (C : Option Set) (Y : Set) → IsAsGood P (Some Y) C → CandidateIsSettled P C p (Some Y)
  settled_by None Y as_good = inl as_good
  settled_by (Some X) Y as_good =
      elim (cases_lt (objective P X) (objective P Y)) [
        | inl less ↦ inl (λ form. let at_least = as_good form in omega arith)
        | inr at_least ↦ inr (inr at_least)
      ]

  pub whole_ends : (B C : Option Set) (Y : Set) → IsFormOrNone P C → IsAsGood P B C → IsAsGood P (Some Y) C → Some Y ≡ only_candidate P p → AllPossible → Ends P p B C Whole
  whole_ends B C Y form no_worse as_good candidate possible =
      record {
        leaf = refl;
        no_branch = λ is. is;
        not_open = refl;
        form = form;
        no_worse = no_worse;
        suits = record { sound = subst (CandidateIsSettled P C p) candidate (settled_by C Y as_good); spent = tt; pruned = none_first possible Whole; number = tt };
      }

  pub bound_ends : (B : Option Set) → IsFormOrNone P B → ClosesByBound P B p [] → AllPossible → Ends P p B B (Bound 0)
  bound_ends B form closes possible =
      record {
        leaf = refl;
        no_branch = λ is. is;
        not_open = refl;
        form = form;
        no_worse = as_good-refl P B;
        suits = record { sound = (omega arith, All-nil _, closes); spent = tt; pruned = none_first possible (Bound 0); number = omega arith };
      }

  exceeds_start : (S B : Option Set) → IsAsGood P S B → ExceedsForm P p B → ExceedsStart P p S
  exceeds_start None B as_good exceeds = tt
  exceeds_start (Some S) None as_good exceeds = λ form. absurd (as_good form)
  exceeds_start (Some S) (Some B) as_good exceeds = λ form.
      let no_more : objective P S ≤ objective P B = as_good form in
      let above = exceeds.above in
      record { maximum = exceeds.maximum; is_maximum = exceeds.is_maximum; above = omega (arith, ints) }

  pub goes_on : (B : Option Set) → IsAsGood P P.start B → ExceedsForm P p B → AllPossible → None ≡ only_candidate P p → GoesOn P p B B
  goes_on B start exceeds possible none = record { same = refl; unresolved = record { possible = possible; exceeds = exceeds_start P.start B start exceeds }; several = sym none }

  pub length_possible : AllPossible → length_impossible P p ≡ false
  unfolding is_impossible
  length_possible possible = possible 0

  -- ---- the nodes that may be where no leaf ends the path
  pub open_suits : (B C X : Option Set) → GoesOn P p B C → Suits P X p Open
  open_suits B C X on = record { sound = on.several; spent = on.unresolved; pruned = none_first on.unresolved.possible Open; number = tt }

  pub branch_suits : (B C X : Option Set) (node : Node) → IsBank P.bank → GoesOn P p B C → IsBranchOn P p node → Suits P X p node
  branch_suits B C X (BranchItem i) bank on is = record { sound = is; spent = (is, on.unresolved); pruned = none_first on.unresolved.possible (BranchItem i); number = let within = free_in_bank P p i is in omega (arith, bank.few) }
  branch_suits B C X (BranchStimulus s) bank on is = record { sound = is; spent = (is, on.unresolved); pruned = none_first on.unresolved.possible (BranchStimulus s); number = (is.first, omega (arith, is.last, few_stimuli P bank)) }
  branch_suits B C X (Fix v goal) bank on is = absurd is
  branch_suits B C X (Bound v) bank on is = absurd is
  branch_suits B C X (Ray v) bank on is = absurd is
  branch_suits B C X (Count r) bank on is = absurd is
  branch_suits B C X Whole bank on is = absurd is
  branch_suits B C X Open bank on is = absurd is

  pub is_branch : (node : Node) → IsBranchOn P p node → IsBranch node
  is_branch (BranchItem i) is = tt
  is_branch (BranchStimulus s) is = tt
  is_branch (Fix v goal) is = tt
  is_branch (Bound v) is = is
  is_branch (Ray v) is = is
  is_branch (Count r) is = is
  is_branch Whole is = is
  is_branch Open is = is

  pub two_sides : (T : ProofTree) (node : Node) → IsBranchOn P p node → below P T p node ≡ side_of P p node true ∷ side_of P p node false ∷ []
  two_sides T (BranchItem i) is = refl
  two_sides T (BranchStimulus s) is = refl
  two_sides T (Fix v goal) is = absurd is
  two_sides T (Bound v) is = absurd is
  two_sides T (Ray v) is = absurd is
  two_sides T (Count r) is = absurd is
  two_sides T Whole is = absurd is
  two_sides T Open is = absurd is

  -- the items taken on a side are of the bank
  pub side_in_bank : (node : Node) (side : Bool) → IsBranchOn P p node → HoldsItems P.bank p.taken → HoldsItems P.bank ((side_of P p node side).taken)
  side_in_bank (BranchItem i) true is within = λ j e.
      elim (or_true (j == i) (p.taken j) e) [
        | inl at ↦ let same = eqb-true j i at in omega (arith, free_in_bank P p i is)
        | inr taken ↦ within j taken
      ]
  side_in_bank (BranchItem i) false is within = within
  side_in_bank (BranchStimulus s) true is within = within
  side_in_bank (BranchStimulus s) false is within = within
  side_in_bank (Fix v goal) side is within = absurd is
  side_in_bank (Bound v) side is within = absurd is
  side_in_bank (Ray v) side is within = absurd is
  side_in_bank (Count r) side is within = absurd is
  side_in_bank Whole side is within = absurd is
  side_in_bank Open side is within = absurd is

-- ---- what the only candidate is, from a cut of the path
pub candidate_found : (P : Problem) (p : Path) (X Y : Set) → X ≡ Y → only_candidate P p ≡ Some Y → Some X ≡ only_candidate P p
candidate_found P p X Y same e = ap (λ (Z : Set). Some Z) same ∙ sym e

pub counts_as : (P : Problem) (X Y : Set) (count length : ℕ) → IsBank P.bank → HoldsItems P.bank X → X ≡ Y → count ≡ size_of X → length ≡ P.plan.length → (count ≡ length → size_in P.bank Y ≡ P.plan.length) × (size_in P.bank Y ≡ P.plan.length → count ≡ length)
counts_as P X Y count length bank below same is number =
    let e : count ≡ size_in P.bank Y = is ∙ counted P.bank X bank below ∙ ap (λ (Z : Set). size_in P.bank Z) same in
    (λ h. sym e ∙ h ∙ number, λ h. e ∙ h ∙ sym number)

-- ---- there is a bound where the length is possible
pub bound_there : (P : Problem) (p : Path) (v : Multipliers) (r : Option ℤ) → IsBound P p v false r → length_impossible P p ≡ false → IsSome r
bound_there P p v None none possible = absurd (true≢false (sym none ∙ possible))
bound_there P p v (Some r) is possible = refl
