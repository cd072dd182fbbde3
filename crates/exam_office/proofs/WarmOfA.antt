-- The vectors of sessions of the worked bank without stimuli, whose plan has two rows: its sides
-- are 0 to 3.
use Rattle.std.proofs.Common.{◌≡◌, ℕ, true, List, [], ◌∷◌, None, Some, refl}
use Rattle.certificate_model.specs.declared.node.Node.TheVariants.{Bound}
use Rattle.certificate_model.specs.Relaxed.{Multipliers}
use Rattle.form_model.proofs.BankA.{item_a, bank_a, plan_of_rows, plan_a}
use Rattle.history_model.specs.declared.entry.Entry.TheVariants.{Started, Served, Answered}
use Rattle.history_model.specs.Judging.{Record}
use Rattle.exam_office.specs.Warm.{warm_of}

unfoldable started : ℕ → Record
started s = record { entry = Started s 70 (record { count = 1; sets = (0 ∷ 1 ∷ 2 ∷ 3 ∷ 4 ∷ 5 ∷ []) ∷ [] }) None; tree = None }

-- an item is served in a session at a step, and its tree has these vectors
unfoldable served : ℕ → ℕ → List Multipliers → Record
served s step vectors = record { entry = Served s step 2 (1 ∷ 2 ∷ 3 ∷ []) true 1; tree = Some (record { vectors = vectors; nodes = Bound 0 ∷ [] }) }

unfoldable answered : ℕ → Record
answered s = record { entry = Answered s 0 1; tree = None }

-- side 3 at 1
one_served : warm_of bank_a plan_a (started 0 ∷ served 0 0 (((3, 1) ∷ []) ∷ []) ∷ []) 0 ≡ Some ((3, 1) ∷ [])
unfolding started served bank_a item_a plan_of_rows plan_a
one_served = refl

-- none is served in the other session
none_served : warm_of bank_a plan_a (started 0 ∷ started 1 ∷ served 0 0 (((3, 1) ∷ []) ∷ []) ∷ []) 1 ≡ None
unfolding started served bank_a item_a plan_of_rows plan_a
none_served = refl

-- the last serving counts, and of its vectors the first
last_counts : warm_of bank_a plan_a (served 0 0 (((3, 1) ∷ []) ∷ []) ∷ answered 0 ∷ served 0 1 (((0, 7) ∷ []) ∷ ((1, 9) ∷ []) ∷ []) ∷ served 1 0 (((2, 5) ∷ []) ∷ []) ∷ []) 0 ≡ Some ((0, 7) ∷ [])
unfolding served answered bank_a item_a plan_of_rows plan_a
last_counts = refl

-- also where its tree has no vector, or one with a side of neither the plan nor the cap
no_vector : warm_of bank_a plan_a (served 0 0 (((3, 1) ∷ []) ∷ []) ∷ served 0 1 [] ∷ []) 0 ≡ None
unfolding served bank_a item_a plan_of_rows plan_a
no_vector = refl

no_side_4 : warm_of bank_a plan_a (served 0 0 (((1, 9) ∷ (4, 9) ∷ []) ∷ []) ∷ []) 0 ≡ None
unfolding served bank_a item_a plan_of_rows plan_a
no_side_4 = refl

-- the sides of the cap are of each plan
of_cap : warm_of bank_a plan_a (served 0 0 (((3, 1) ∷ (384, 2) ∷ (385, 2) ∷ []) ∷ []) ∷ []) 0 ≡ Some ((3, 1) ∷ (384, 2) ∷ (385, 2) ∷ [])
unfolding served bank_a item_a plan_of_rows plan_a
of_cap = refl
