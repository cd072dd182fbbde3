-- What is ready, on a desk with two results that lead to one problem and one of another session.
use Rattle.std.proofs.Common.{◌≡◌, ℕ, List, [], ◌∷◌, Some, None, refl}
use Rattle.history_model.specs.declared.request.Request.TheVariants.{Answer, Look}
use Rattle.branch_bound.specs.Assembled.{Assembly}
use Rattle.prepare_desk.specs.Desks.{ready_at, left_at, ready_for}
use Rattle.prepare_desk.specs.declared.key.Key.{Key}
use Rattle.prepare_desk.specs.declared.desk.Ready.{Ready}
use Rattle.prepare_desk.specs.declared.desk.Ready.TheVariants.{Made, SameAs}

module _ (made other : Assembly) where
  key : ℕ → ℕ → Key
  key session response = record { session = session; step = 1; response = response }

  desk : List (Key × Ready)
  desk = (key 3 1, SameAs 0) ∷ (key 4 0, Made other) ∷ (key 3 0, Made made) ∷ []

  -- the second response is answered by the result of the first one, and both are gone then
  second : ready_at desk (key 3 1) ≡ Some made
  unfolding desk key
  second = refl

  second_left : left_at desk (key 3 1) ≡ (key 4 0, Made other) ∷ []
  unfolding desk key
  second_left = refl

  -- the first one leaves what names it, which then has no result
  first_left : left_at desk (key 3 0) ≡ (key 3 1, SameAs 0) ∷ (key 4 0, Made other) ∷ []
  unfolding desk key
  first_left = refl

  named : ready_at (left_at desk (key 3 0)) (key 3 1) ≡ None
  unfolding desk key
  named = refl

  -- another step, another request
  later : ready_for desk (Answer 3 2 1 None) ≡ None
  unfolding desk key
  later = refl

  asked : ready_for desk (Answer 4 1 0 None) ≡ Some other
  unfolding desk key
  asked = refl

  looked : ready_for desk (Look 3) ≡ None
  unfolding desk key
  looked = refl
