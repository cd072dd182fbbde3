-- Along a legal run the steps of a session are in order.
use Rattle.std.proofs.Common.{◌≡◌, ℕ, zero, suc, ◌+◌, ◌≤◌, inl, inr, ◌==◌, List, [], ◌∷◌, ◌++◌, length, slice_get, Some, None, refl, sym, ap, ◌∙◌, subst, arith, length-append}
use Rattle.std.specs.Prelude.{find}
use Rattle.std.specs.List.{filter_map}
use Rattle.std.proofs.lemmas.Bool.{eqb-true}
use Rattle.bank_tables.specs.Tables.{Tables}
use Rattle.form_model.specs.Plan.{Plan}
use Rattle.form_model.proofs.SumLaws.{either}
use Rattle.history_model.specs.declared.entry.Entry.{Entry}
use Rattle.history_model.specs.declared.entry.Entry.TheVariants.{Started, SetAside, Served, Answered, Closed}
use Rattle.history_model.specs.declared.place.Place.TheVariants.{Pending, Waiting}
use Rattle.history_model.specs.Entries.{Serving, StepAnswer, servings, step_answers}
use Rattle.history_model.proofs.SessionEntries.{session_serving, session_answer}
use Rattle.history_model.specs.Places.{serving_at, place}
use Rattle.history_model.specs.Legality.{Legal, LegalRun, empty, more}
use Rattle.history_model.specs.Laws.{AreInOrder}
use Rattle.history_model.proofs.Pushed.{list_end, servings-push, answers-push}
use Rattle.history_model.proofs.Standing.{past_end, before_end, find_step, pending, waiting}

-- steps from a number on go on with the one pushed
steps_push : {A : Type 0} (step : A → ℕ) (xs : List A) (x : A) (from : ℕ) → ((k : ℕ) (y : A) → slice_get xs k ≡ Some y → step y ≡ from + k) → step x ≡ from + length xs → (k : ℕ) (y : A) → slice_get (xs ++ x ∷ []) k ≡ Some y → step y ≡ from + k
steps_push {A} step [] x from old new zero y e = let f : x ≡ y = cc in subst (λ (z : A). step z ≡ from + 0) f new
steps_push step [] x from old new (suc k) y e = absurd (cc)
steps_push step (z ∷ xs) x from old new zero y e = old 0 y e
steps_push step (z ∷ xs) x from old new (suc k) y e = let r = steps_push step xs x (suc from) (λ j w f. let o = old (suc j) w f in omega arith) (omega arith) k y e in omega arith

-- the serving of step k has k servings before it
pub found_at : (H : List Entry) (s k : ℕ) → AreInOrder H s → serving_at H s k ≡ slice_get (servings H s) k
found_at H s k order =
    let e : 0 + k ≡ k = omega arith in
    sym (ap (λ (n : ℕ). find (λ (x : Serving). x.step == n) (servings H s)) e) ∙ find_step (servings H s) 0 k (λ j x f. let o = order.servings_steps j x f in omega arith)

module _ (H : List Entry) (e : Entry) (s : ℕ) (order : AreInOrder H s) where
  same_servings : filter_map (session_serving s) (e ∷ []) ≡ [] → servings (H ++ e ∷ []) s ≡ servings H s
  same_servings none = servings-push H e s ∙ (ap (λ (xs : List Serving). servings H s ++ xs) none ∙ list_end (servings H s))

  same_answers : filter_map (session_answer s) (e ∷ []) ≡ [] → step_answers (H ++ e ∷ []) s ≡ step_answers H s
  same_answers none = answers-push H e s ∙ (ap (λ (xs : List StepAnswer). step_answers H s ++ xs) none ∙ list_end (step_answers H s))

  by_lists : (S : List Serving) (A : List StepAnswer) → servings (H ++ e ∷ []) s ≡ S → step_answers (H ++ e ∷ []) s ≡ A → length A ≤ length S → length S ≤ length A + 1 → ((k : ℕ) (x : Serving) → slice_get S k ≡ Some x → x.step ≡ k) → ((k : ℕ) (x : StepAnswer) → slice_get A k ≡ Some x → x.step ≡ k) → AreInOrder (H ++ e ∷ []) s
  by_lists S A e-S e-A few many steps-S steps-A =
      record {
        few = rw (e-S, e-A) few;
        many = rw (e-S, e-A) many;
        servings_steps = λ k x f. steps-S k x (sym (ap (λ (xs : List Serving). slice_get xs k) e-S) ∙ f);
        answers_steps = λ k x f. steps-A k x (sym (ap (λ (xs : List StepAnswer). slice_get xs k) e-A) ∙ f);
      }

  unchanged : filter_map (session_serving s) (e ∷ []) ≡ [] → filter_map (session_answer s) (e ∷ []) ≡ [] → AreInOrder (H ++ e ∷ []) s
  unchanged no_serving no_answer =
      by_lists (servings H s) (step_answers H s) (same_servings no_serving) (same_answers no_answer) order.few order.many order.servings_steps order.answers_steps

  more_served : (x : Serving) → filter_map (session_serving s) (e ∷ []) ≡ x ∷ [] → filter_map (session_answer s) (e ∷ []) ≡ [] → x.step ≡ length (step_answers H s) → serving_at H s (length (step_answers H s)) ≡ None → AreInOrder (H ++ e ∷ []) s
  more_served x serving no_answer at none =
      let little = past_end (servings H s) (length (step_answers H s)) (sym (found_at H s (length (step_answers H s)) order) ∙ none) in
      let few = order.few in
      let long = length-append (servings H s) (x ∷ []) in
      by_lists (servings H s ++ x ∷ []) (step_answers H s) (servings-push H e s ∙ ap (λ (xs : List Serving). servings H s ++ xs) serving) (same_answers no_answer) (omega arith) (omega arith)
      (λ k y f. let r = steps_push (λ (z : Serving). z.step) (servings H s) x 0 (λ j z g. let o = order.servings_steps j z g in omega arith) (omega arith) k y f in omega arith)
      order.answers_steps

  more_answered : (x : StepAnswer) (serving : Serving) → filter_map (session_serving s) (e ∷ []) ≡ [] → filter_map (session_answer s) (e ∷ []) ≡ x ∷ [] → x.step ≡ length (step_answers H s) → serving_at H s (length (step_answers H s)) ≡ Some serving → AreInOrder (H ++ e ∷ []) s
  more_answered x serving no_serving answer at some =
      let room = before_end (servings H s) (length (step_answers H s)) serving (sym (found_at H s (length (step_answers H s)) order) ∙ some) in
      let many = order.many in
      let long = length-append (step_answers H s) (x ∷ []) in
      by_lists (servings H s) (step_answers H s ++ x ∷ []) (same_servings no_serving) (answers-push H e s ∙ ap (λ (xs : List StepAnswer). step_answers H s ++ xs) answer) (omega arith) (omega arith)
      order.servings_steps
      (λ k y f. let r = steps_push (λ (z : StepAnswer). z.step) (step_answers H s) x 0 (λ j z g. let o = order.answers_steps j z g in omega arith) (omega arith) k y f in omega arith)

order_step : (b : Tables) (plan : Plan) (H : List Entry) (e : Entry) (s : ℕ) → AreInOrder H s → Legal b plan H e → AreInOrder (H ++ e ∷ []) s
order_step b plan H (Started session booking eligible without) s order legal = unchanged H (Started session booking eligible without) s order refl refl
order_step b plan H (SetAside session step band cause nodes) s order legal = unchanged H (SetAside session step band cause nodes) s order refl refl
order_step b plan H (Closed session) s order legal = unchanged H (Closed session) s order refl refl
order_step b plan H (Served session step item form proved nodes) s order legal =
    elim (either (session == s)) [
      | inl same ↦
          let here = pending plan H s step (subst (λ (t : ℕ). place plan H t ≡ Some (Pending step)) (eqb-true session s same) legal.is_problem.pending) in
          more_served H (Served session step item form proved nodes) s order (record { step = step; item = item; form = form; proved = proved }) (rw same refl) refl (sym here.number) here.not_served
      | inr other ↦ unchanged H (Served session step item form proved nodes) s order (rw other refl) refl
    ]
order_step b plan H (Answered session step response) s order legal =
    elim (either (session == s)) [
      | inl same ↦
          let here = waiting plan H s step legal.item legal.proved (subst (λ (t : ℕ). place plan H t ≡ Some (Waiting step legal.item legal.proved)) (eqb-true session s same) legal.waiting) in
          more_answered H (Answered session step response) s order (record { step = step; response = response }) here.serving refl (rw same refl) (sym here.number) here.served
      | inr other ↦ unchanged H (Answered session step response) s order refl (rw other refl)
    ]

pub in_order : (b : Tables) (plan : Plan) (H : List Entry) (s : ℕ) → LegalRun b plan H → AreInOrder H s
in_order b plan H s empty = record { few = omega arith; many = omega arith; servings_steps = λ k x e. absurd (cc); answers_steps = λ k x e. absurd (cc) }
in_order b plan H s (more before entry run legal) = order_step b plan before entry s (in_order b plan before s run) legal
