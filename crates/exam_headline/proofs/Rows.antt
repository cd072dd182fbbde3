-- The definitions on a few bytes, and on the worked history of bank A.
use Rattle.std.proofs.Common.{◌≡◌, ℕ, false, true, List, [], ◌∷◌, ◌++◌, None, Some, refl, subst, arith}
use Rattle.answer_journal.specs.Frames.{shadowj1}
use Rattle.exam_headline.specs.Journals.{Frames, ended, framed, Holds, moved}
use Rattle.exam_headline.specs.Requests.{IsFirstOf, start, start_without, answer, close, started, answered, IsStop, Tells, place, counts, refused, stopped}
use Rattle.form_model.proofs.BankA.{bank_a, plan_of_rows, plan_a}
use Rattle.form_model.proofs.Computed.{one_word}
use Rattle.history_model.specs.declared.entry.Entry.{Entry}
use Rattle.history_model.specs.declared.place.Place.{Place}
use Rattle.history_model.specs.declared.place.Place.TheVariants.{Pending, Waiting}
use Rattle.history_model.specs.declared.refusal.Refusal.{Refusal}
use Rattle.history_model.specs.declared.refusal.Refusal.TheVariants.{WrongStep}
use Rattle.history_model.specs.declared.request.Reply.{Reply}
use Rattle.history_model.specs.declared.request.Request.{Request}
use Rattle.history_model.specs.declared.request.Reply.TheVariants as reply
use Rattle.history_model.specs.declared.request.Request.TheVariants.{Begin, Answer, Look}
use Rattle.history_model.proofs.HistoriesOfA.{one_band, started_a, served_a, answered_a}

-- ---- bytes
-- one payload of two bytes; what follows the first closed gate does not count
one_payload : Frames ((5 ∷ 6 ∷ []) ∷ []) (1 ∷ 0 ∷ 0 ∷ 0 ∷ 2 ∷ 5 ∷ 6 ∷ 0 ∷ 9 ∷ [])
one_payload = framed 0 0 0 2 (5 ∷ 6 ∷ []) (0 ∷ 9 ∷ []) [] refl (ended 0 (9 ∷ []) (λ e. cc))

-- a file that ends before its gate has no payloads
no_gate : (payloads : List (List ℕ)) (bytes : List ℕ) → bytes ≡ [] → Frames payloads bytes → ⊥
no_gate _ _ is (ended gate rest shut) = cc
no_gate _ _ is (framed a b c d payload rest payloads size frames) = cc

-- after the mark those after it count
after_the_mark : Holds (shadowj1.bytes ++ (1 ∷ 0 ∷ 0 ∷ 0 ∷ 1 ∷ 8 ∷ 1 ∷ 0 ∷ 0 ∷ 0 ∷ 1 ∷ 7 ∷ 0 ∷ [])) 2 ((7 ∷ []) ∷ [])
after_the_mark =
    moved (1 ∷ 0 ∷ 0 ∷ 0 ∷ 1 ∷ 8 ∷ 1 ∷ 0 ∷ 0 ∷ 0 ∷ 1 ∷ 7 ∷ 0 ∷ []) [] ((7 ∷ []) ∷ [])
    (framed 0 0 0 1 (8 ∷ []) (1 ∷ 0 ∷ 0 ∷ 0 ∷ 1 ∷ 7 ∷ 0 ∷ []) ((7 ∷ []) ∷ []) refl (framed 0 0 0 1 (7 ∷ []) (0 ∷ []) [] refl (ended 0 [] (λ e. cc))))

-- ---- requests of bank A
-- booking 70 begins, and item 2 waits for its answer
begins : Tells bank_a plan_a (Begin 70) served_a served_a (reply.At 0 (Waiting 0 2 true) true)
unfolding plan_of_rows plan_a started_a served_a
begins = place 0 (Waiting 0 2 true) true (started 70 0 (one_band (one_word 63)) None (0, omega arith, refl)) tt (omega arith) refl refl

-- a begin that is repeated starts nothing
not_fresh : (answer : Reply) (at : Place) → answer ≡ reply.At 0 at true → Tells bank_a plan_a (Begin 70) served_a [] answer → ⊥
not_fresh _ at same (place session now fresh is asked below at_is fresh_is) = let one : fresh ≡ true = cc in let other : fresh ≡ false = fresh_is in cc
not_fresh _ at same (counts exposure asked none finished number each) = cc
not_fresh _ at same (refused why none) = cc
not_fresh _ at same (stopped why stop) = cc

-- an answer that names its booking
answers : Tells bank_a plan_a (Answer 0 0 1 (Some 70)) answered_a [] (reply.At 0 (Pending 1) false)
unfolding plan_of_rows plan_a started_a served_a answered_a
answers = place 0 (Pending 1) false (answered 0 0 1 (Some 70) (2, omega arith, refl)) (one_band (one_word 63), None, (0, omega arith, refl)) (omega arith) refl refl

-- a look adds nothing first, and a wrong step adds nothing
looks : (asked : Request) (session : ℕ) (entry : Entry) → asked ≡ Look session → IsFirstOf asked entry → ⊥
looks _ session _ is (start booking number eligible) = cc
looks _ session _ is (start_without booking number eligible list) = cc
looks _ session _ is (answer number step response booking) = cc
looks _ session _ is (close number booking) = cc

wrong_step : (entry : Entry) (given : Reply) (step : ℕ) → given ≡ reply.Refused (WrongStep step) → Tells bank_a plan_a (Answer 0 0 1 None) answered_a (entry ∷ []) given → ⊥
wrong_step entry _ step same (place session at fresh is asked below at_is fresh_is) = cc
wrong_step entry _ step same (counts exposure asked none finished number each) = cc
wrong_step entry _ step same (refused why none) = cc
wrong_step entry _ step same (stopped why stop) = let is : why ≡ WrongStep step = cc in subst (λ (r : Refusal). IsStop r) is stop
