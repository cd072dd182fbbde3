-- Fixing by reduced costs: which items each form better than a goal has or lacks, and which stimuli
-- it uses, by one vector (reduced cost fixing; Nemhauser and Wolsey, Integer and Combinatorial
-- Optimization, 1988).
use Rattle.std.specs.Prelude.{ℕ, suc, ◌+◌, ◌-◌, ◌*◌, Bool, false, cond, not, ◌&&◌, ◌||◌, ◌==◌, nat_lt, int_le, ℤ, pos, ◌+ℤ◌, ◌-ℤ◌, ◌*ℤ◌, neg_ℤ}
use Rattle.std.specs.Int.{int_max}
use Rattle.bank_tables.specs.Items.{Set}
use Rattle.bank_tables.specs.Sums.{any_below, count_in, sum_in_z, total_z}
use Rattle.bank_tables.specs.Tables.{size, stimulus}
use Rattle.form_model.specs.Plan.{bound_at}
use Rattle.form_model.specs.Problem.{Problem}
use Rattle.form_model.specs.Forms.{stimuli_of, size_in}
use Rattle.certificate_model.specs.Paths.{Path, is_free, is_chosen, is_open}
use Rattle.certificate_model.specs.Relaxed.{Multipliers, multiplier, cap_side}
use Rattle.certificate_model.specs.Weights.{price, item_weight, stimulus_weight, rows_constant}

-- the price of a place in the test: the cap of the vector, 0 where it names neither of its sides
abbrev pub place_price : Multipliers → ℤ
place_price v = price (multiplier v) cap_side

-- how much more an item weighs than its place costs
unfoldable pub margin : Problem → Multipliers → ℕ → ℤ
margin P v i = item_weight P (multiplier v) false i -ℤ place_price v

-- what is above 0
abbrev pub above_zero : ℤ → ℤ
above_zero z = int_max (pos 0) z

-- a free item of no open stimulus; and one of stimulus s
abbrev pub is_single : Problem → Path → Set
is_single P p i = is_free P p i && not (is_open P p (stimulus P.bank i))

abbrev pub is_free_of : Problem → Path → ℕ → Set
is_free_of P p s i = is_free P p i && stimulus P.bank i == s

-- the most that an open stimulus adds if it is used: its weight, and the margins above 0 of its
-- free items
unfoldable pub stimulus_margin : Problem → Path → Multipliers → ℕ → ℤ
stimulus_margin P p v s = stimulus_weight P (multiplier v) s
    +ℤ sum_in_z (size P.bank) (is_free_of P p s) (λ i. above_zero (margin P v i))

-- the most that a stimulus adds: its weight if it is chosen, its margin above 0 if it is open
unfoldable pub stimulus_most : Problem → Path → Multipliers → ℕ → ℤ
stimulus_most P p v s = cond (is_chosen P p s) (stimulus_weight P (multiplier v) s)
    (cond (is_open P p s) (above_zero (stimulus_margin P p v s)) (pos 0))

-- the places that are left
abbrev pub places_left : Problem → Path → ℕ
places_left P p = P.plan.length - size_in P.bank p.taken

-- a bound of the forms on the path: the constant, the items taken, the price of the places left,
-- the margins above 0 of the single items, and the most of each stimulus
unfoldable pub fixing_bound : Problem → Path → Multipliers → ℤ
fixing_bound P p v = (rows_constant P (multiplier v)
    +ℤ sum_in_z (size P.bank) p.taken (item_weight P (multiplier v) false))
    +ℤ ((pos (places_left P p) *ℤ place_price v)
    +ℤ (sum_in_z (size P.bank) (is_single P p) (λ i. above_zero (margin P v i))
    +ℤ total_z (stimuli_of P.bank) (λ k. stimulus_most P p v (suc k))))

-- how far the bound is above what a form no better than the goal may have
unfoldable pub room : Problem → Path → Multipliers → ℕ → ℤ
room P p v goal = fixing_bound P p v -ℤ pos (256 * goal + 255)

module _ (P : Problem) (p : Path) (v : Multipliers) (goal : ℕ) where
  -- the number is at least the room: a form that loses it is no better than the goal
  abbrev pub fills_room : ℤ → Bool
  fills_room z = int_le (room P p v goal) z

  -- what a form loses if it has an item: the margin below 0, and that of its stimulus if it is open
  unfoldable pub loss_with : ℕ → ℤ
  loss_with i = above_zero (neg_ℤ (margin P v i)) +ℤ cond (is_open P p (stimulus P.bank i))
      (above_zero (neg_ℤ (stimulus_margin P p v (stimulus P.bank i)))) (pos 0)

  -- a free item that costs too much to have
  abbrev pub is_too_dear : Set
  is_too_dear i = is_free P p i && fills_room (loss_with i)

  -- an open stimulus with fewer items left than a form that uses it has
  abbrev pub has_too_few : ℕ → Bool
  has_too_few s = is_open P p s
      && nat_lt (count_in (size P.bank) (is_free_of P p s) (λ i. not (is_too_dear i)))
      (bound_at P.plan s).low

  -- a free item is put out if it is too dear, or if its stimulus has too few left
  abbrev pub is_put_out : Set
  is_put_out i = is_free P p i && (is_too_dear i || has_too_few (stimulus P.bank i))

  -- another one is taken if it costs too much to lack it, and its stimulus too if it is open
  abbrev pub is_taken_in : Set
  is_taken_in i = is_free P p i && (not (is_put_out i) && (fills_room (above_zero (margin P v i))
      && (not (is_open P p (stimulus P.bank i))
      || fills_room (stimulus_margin P p v (stimulus P.bank i)))))

  -- an open stimulus is chosen if it costs too much to leave it, unless it costs too much to use it
  abbrev pub is_settled_on : ℕ → Bool
  is_settled_on s = is_open P p s && (not (has_too_few s)
      && (not (fills_room (above_zero (neg_ℤ (stimulus_margin P p v s))))
      && fills_room (above_zero (stimulus_margin P p v s))))

  -- the path of the forms that are better than the goal
  abbrev pub fixed_path : Path
  fixed_path = record {
    taken = λ i. is_taken_in i || p.taken i;
    out = λ i. is_put_out i || p.out i;
    branched_on = λ s. is_settled_on s || p.branched_on s;
  }

  -- something is settled
  abbrev pub settles : Bool
  settles = any_below (size P.bank) (λ i. is_put_out i || is_taken_in i)
      || any_below (stimuli_of P.bank) (λ k. is_settled_on (suc k))
