-- Under a plan with a row of each kind: what is possible by counting and what isn't, on each side.
use Rattle.std.proofs.Common.{◌≡◌, ℕ, zero, suc, ◌<◌, inl, inr, Bool, true, false, ◌||◌, ◌==◌, [], ◌∷◌, pos, negsuc, None, Some, refl, arith}
use Rattle.std.specs.Prelude.{is_some}
use Rattle.std.proofs.Math.Dec.{lit≤}
use Rattle.bank_tables.specs.Items.{has}
use Rattle.form_model.specs.Forms.{stimuli_of}
use Rattle.certificate_model.specs.Paths.{Path, root, with_item, with_stimulus, is_free, is_chosen, is_open, undecided}
use Rattle.certificate_model.specs.Counting.{is_impossible, IsFirstImpossible}
use Rattle.certificate_model.specs.Relaxed.{multiplier, lagrangian_without_links, link_multiplier, lagrangian}
use Rattle.certificate_model.specs.Verdicts.{only_candidate, CandidateIsSettled}
use Rattle.form_model.proofs.Computed.{these}
use Rattle.form_model.proofs.EveryRow.{item_r, bank_r, plan_r, problem_r}

-- ---- rows possible and impossible by counting, on each side
unfoldable pub at_root : Path
at_root = root problem_r

abbrev taking : ℕ → Path → Path
taking i p = with_item p i true

abbrev dropping : ℕ → Path → Path
dropping i p = with_item p i false

-- whether a row is impossible on a path
abbrev impossible : Path → ℕ → Bool
impossible = is_impossible problem_r

-- the length, row 0: four in exceed three; two in or free are fewer
length_counted : (impossible (taking 0 (taking 1 (taking 3 at_root))) 0 ≡ false) × (impossible (taking 0 (taking 1 (taking 2 (taking 3 at_root)))) 0 ≡ true) × (impossible (dropping 0 (dropping 1 (dropping 2 at_root))) 0 ≡ false) × (impossible (dropping 3 (dropping 0 (dropping 1 (dropping 2 at_root)))) 0 ≡ true)
unfolding at_root problem_r bank_r item_r plan_r is_impossible has
length_counted = (refl, refl, refl, refl)

-- the Count row, row 1: three in exceed two; none in or free is fewer than one
count_counted : (impossible (taking 0 (taking 1 at_root)) 1 ≡ false) × (impossible (taking 0 (taking 1 (taking 2 at_root))) 1 ≡ true) × (impossible (dropping 0 (dropping 1 at_root)) 1 ≡ false) × (impossible (dropping 0 (dropping 1 (dropping 2 at_root))) 1 ≡ true)
unfolding at_root problem_r bank_r item_r plan_r is_impossible has
count_counted = (refl, refl, refl, refl)

-- the Quantity row, row 2: 110 in exceed 100, 90 don't; 30 in or free are below 60, 60 aren't
quantity_counted : (impossible (taking 3 (taking 4 at_root)) 2 ≡ false) × (impossible (taking 4 (taking 5 at_root)) 2 ≡ true) × (impossible (dropping 5 (dropping 4 (dropping 3 at_root))) 2 ≡ false) × (impossible (dropping 5 (dropping 4 (dropping 3 (dropping 2 at_root)))) 2 ≡ true)
unfolding at_root problem_r bank_r item_r plan_r is_impossible has
quantity_counted = (refl, refl, refl, refl)

-- the Enemies row, row 3: two in are too many; none is not too few
enemies_counted : (impossible (taking 3 at_root) 3 ≡ false) × (impossible (taking 3 (taking 4 at_root)) 3 ≡ true) × (impossible (dropping 3 (dropping 4 at_root)) 3 ≡ false)
unfolding at_root problem_r bank_r item_r plan_r is_impossible has
enemies_counted = (refl, refl, refl)

-- the Stimuli row, row 4: two chosen exceed one; none chosen or open is fewer than one
stimuli_counted : (impossible (taking 0 at_root) 4 ≡ false) × (impossible (taking 0 (taking 5 at_root)) 4 ≡ true) × (impossible (dropping 0 (dropping 1 (dropping 2 at_root))) 4 ≡ false) × (impossible (dropping 0 (dropping 1 (dropping 2 (dropping 5 at_root)))) 4 ≡ true)
unfolding at_root problem_r bank_r item_r plan_r is_impossible has
stimuli_counted = (refl, refl, refl, refl)

-- the stimuli, rows 5 and 6: three in exceed two; once stimulus 1 is chosen, one in or free is
-- fewer than two; not before
stimulus_counted : (impossible (taking 0 (taking 1 (taking 2 at_root))) 5 ≡ true) × (impossible (taking 0 (dropping 1 (dropping 2 at_root))) 5 ≡ true) × (impossible (dropping 0 (dropping 1 at_root)) 5 ≡ false) × (impossible (with_stimulus problem_r (dropping 0 (dropping 1 at_root)) 1 true) 5 ≡ true) × (impossible (taking 5 at_root) 6 ≡ false)
unfolding at_root problem_r bank_r item_r plan_r is_impossible has
stimulus_counted = (refl, refl, refl, refl, refl)

-- row 6 is the last: no row past it is impossible, whatever is in
past_counted : (impossible (taking 0 (taking 1 (taking 2 (taking 3 (taking 4 (taking 5 at_root)))))) 7 ≡ false) × (impossible (taking 0 (taking 1 (taking 2 (taking 3 (taking 4 (taking 5 at_root)))))) 600 ≡ false)
unfolding at_root problem_r bank_r item_r plan_r is_impossible has
past_counted = (refl, refl)

-- the lowest of several: rows 1 and 5 are impossible with items 0, 1 and 2 in
lowest_counted : IsFirstImpossible problem_r (taking 0 (taking 1 (taking 2 at_root))) (Some 1)
unfolding at_root problem_r bank_r item_r plan_r is_impossible has
lowest_counted = (refl, before)
  where
    before : (q : ℕ) → q < 1 → is_impossible problem_r (taking 0 (taking 1 (taking 2 at_root))) q ≡ false
    before zero w = refl
    before (suc q) w = absurd (omega arith)

-- ---- branches on a stimulus
-- left: chosen, its items stay free; right: neither chosen nor open, its items out, the others free
left_branch : (let p = with_stimulus problem_r at_root 1 true in (is_chosen problem_r p 1 ≡ true) × (is_open problem_r p 1 ≡ false) × (is_free problem_r p 0 ≡ true) × (is_open problem_r p 2 ≡ true))
unfolding at_root problem_r bank_r item_r
left_branch = (refl, refl, refl, refl)

right_branch : (let p = with_stimulus problem_r at_root 1 false in (is_chosen problem_r p 1 ≡ false) × (is_open problem_r p 1 ≡ false) × (is_free problem_r p 0 ≡ false) × (is_free problem_r p 3 ≡ true) × (is_open problem_r p 2 ≡ true) × (p.out 1 ≡ true) × (p.out 5 ≡ false))
unfolding at_root problem_r bank_r item_r
right_branch = (refl, refl, refl, refl, refl, refl, refl)

-- an item in chooses its stimulus
item_chooses : (is_chosen problem_r (taking 0 at_root) 1 ≡ true) × (is_open problem_r (taking 0 at_root) 1 ≡ false) × (is_open problem_r at_root 1 ≡ true) × (is_open problem_r (dropping 5 at_root) 2 ≡ false)
unfolding at_root problem_r bank_r item_r
item_chooses = (refl, refl, refl, refl)

-- 0 is no stimulus: neither chosen nor open, though items without one are in and free
no_stimulus_zero : (is_chosen problem_r (taking 3 at_root) 0 ≡ false) × (is_open problem_r at_root 0 ≡ false) × (stimuli_of bank_r ≡ 2)
unfolding at_root problem_r bank_r item_r
no_stimulus_zero = (refl, refl, refl)

-- an item beyond the bank is never free; six items and two stimuli are left to decide at the root
left_to_decide : (is_free problem_r at_root 6 ≡ false) × (undecided problem_r at_root ≡ 8) × (undecided problem_r (with_stimulus problem_r at_root 1 true) ≡ 7) × (undecided problem_r (with_stimulus problem_r at_root 1 false) ≡ 4)
unfolding at_root problem_r bank_r item_r
left_to_decide = (refl, refl, refl, refl)

-- ---- the only candidate: none at the root; the three in; the three in or free; where nothing is
-- free; not with four in and items free
candidates : (is_some (only_candidate problem_r at_root) ≡ false) × (is_some (only_candidate problem_r (taking 0 (taking 1 (taking 2 at_root)))) ≡ true) × (is_some (only_candidate problem_r (dropping 0 (dropping 1 (dropping 2 at_root)))) ≡ true) × (is_some (only_candidate problem_r (taking 0 (taking 1 (taking 2 (taking 3 at_root))))) ≡ false) × (is_some (only_candidate problem_r (dropping 5 (dropping 4 (taking 0 (taking 1 (taking 2 (taking 3 at_root))))))) ≡ true)
unfolding at_root problem_r bank_r item_r plan_r
candidates = (refl, refl, refl, refl, refl)

-- it is what is in, though more is free; or what is in or free
candidate_members : (only_candidate problem_r (taking 0 (taking 1 (taking 2 at_root))) ≡ Some (taking 0 (taking 1 (taking 2 at_root))).taken) × (only_candidate problem_r (taking 3 (dropping 0 (dropping 1 (dropping 2 at_root)))) ≡ Some (λ i. (taking 3 (dropping 0 (dropping 1 (dropping 2 at_root)))).taken i || is_free problem_r (taking 3 (dropping 0 (dropping 1 (dropping 2 at_root)))) i))
unfolding at_root problem_r bank_r item_r plan_r
candidate_members = (refl, refl)

-- a candidate that is a form, but lacks the stimulus that a left branch chose, is settled: it
-- belongs on the right side
lacks_stimulus_2 : (let p = taking 0 (taking 1 (taking 3 (with_stimulus problem_r at_root 2 true))) in CandidateIsSettled problem_r None p (only_candidate problem_r p))
unfolding at_root problem_r bank_r item_r plan_r
lacks_stimulus_2 = inr (inl (record { missing = 2; first = lit≤ tt; last = lit≤ tt; chosen = refl; unused = refl }))

-- ---- the Lagrangian, every side at once
-- items 0, 1 and 3, stimulus 1: 256 times 20 is 5,120. The slacks, low and high, are: Count 1 and
-- 0; Quantity 10 and 30; Enemies 1 and 0; Stimuli 0 and 0; stimulus 1: 0 and 0; stimulus 2, not
-- chosen: 0 and 0
lagrangian_r : lagrangian problem_r at_root ((0, 1) ∷ (1, 2) ∷ (2, 3) ∷ (3, 5) ∷ (4, 7) ∷ (5, 11) ∷ (6, 13) ∷ (7, 17) ∷ (8, 19) ∷ (9, 23) ∷ (10, 29) ∷ (11, 31) ∷ []) false (these (0 ∷ 1 ∷ 3 ∷ [])) (λ s. s == 1) ≡ pos 5308
unfolding problem_r bank_r item_r plan_r has lagrangian lagrangian_without_links link_multiplier at_root
lagrangian_r = refl

-- items 0, 4 and 5, both stimuli: a ray has no objective. The slacks are: Count 0 and 1; Quantity
-- 60 and -20; Enemies 1 and 0; Stimuli 1 and -1; stimulus 1: -1 and 1; stimulus 2: 0 and 0
ray_r : lagrangian problem_r at_root ((0, 1) ∷ (1, 2) ∷ (2, 3) ∷ (3, 5) ∷ (4, 7) ∷ (5, 11) ∷ (6, 13) ∷ (7, 17) ∷ (8, 19) ∷ (9, 23) ∷ (10, 29) ∷ (11, 31) ∷ []) true (these (0 ∷ 4 ∷ 5 ∷ [])) (λ s. s == 1 || s == 2) ≡ pos 89
unfolding problem_r bank_r item_r plan_r has lagrangian lagrangian_without_links link_multiplier at_root
ray_r = refl

-- items 0, 4 and 5 with no stimulus chosen: Stimuli -1 and 1; stimulus 1: 1 and -1; stimulus 2: 1
-- and -1
dropped_r : lagrangian problem_r at_root ((6, 13) ∷ (7, 17) ∷ (8, 19) ∷ (9, 23) ∷ (10, 29) ∷ (11, 31) ∷ []) true (these (0 ∷ 4 ∷ 5 ∷ [])) (λ _. false) ≡ negsuc 1
unfolding problem_r bank_r item_r plan_r has lagrangian lagrangian_without_links link_multiplier at_root
dropped_r = refl

-- a side not named has the multiplier 0
not_named : (multiplier ((3, 5) ∷ (7, 9) ∷ []) 3 ≡ 5) × (multiplier ((3, 5) ∷ (7, 9) ∷ []) 7 ≡ 9) × (multiplier ((3, 5) ∷ (7, 9) ∷ []) 4 ≡ 0)
not_named = (refl, refl, refl)
