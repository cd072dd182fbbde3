-- Requests on bank A: what they are refused, what they do, and the histories in numbers.
use Rattle.std.proofs.Common.{◌≡◌, ℕ, zero, suc, ◌<◌, false, true, Bool, List, [], ◌∷◌, slice_get, None, Some, refl, arith}
use Rattle.bank_tables.specs.Items.{has}
use Rattle.form_model.specs.Plan.{Plan}
use Rattle.form_model.specs.Problem.{Problem}
use Rattle.form_model.specs.Forms.{Best, Firm}
use Rattle.form_model.proofs.Computed.{one_word}
use Rattle.form_model.proofs.BankA.{item_a, bank_a, plan_of_rows, plan_a}
use Rattle.certificate_model.proofs.BankA.{one_bound}
use Rattle.history_model.specs.declared.counts.Counts.{Counts}
use Rattle.history_model.specs.declared.entry.Entry.TheVariants.{Served}
use Rattle.history_model.specs.declared.place.Place.TheVariants.{Waiting, Complete, Closed as IsClosed}
use Rattle.history_model.specs.declared.refusal.Refusal.TheVariants as refusal
use Rattle.history_model.specs.declared.request.Reply.TheVariants as reply
use Rattle.history_model.specs.declared.request.Request.TheVariants.{Begin, Answer, Close, Look, Exposure}
use Rattle.history_model.specs.Counts.{counts}
use Rattle.history_model.specs.Refusals.{refusal_of}
use Rattle.history_model.specs.Requests.{Begins, RecordsAnswer, by_begin, by_answer, IsFirmServing, at_once, Does}
use Rattle.history_model.specs.Summaries.{summary}
use Rattle.history_model.proofs.Edges.{complete_0, three}
use Rattle.history_model.proofs.HistoriesOfA.{one_band, started_a, served_a, answered_a, served_1, answered_1, served_2, answered_2, two_a, closed_a}
use Rattle.history_model.proofs.JudgingLaws.{may_is_legal}
use Rattle.history_model.proofs.RecordsOfA.{may_start, may_serve_0, may_answer_0, may_serve_1, may_answer_2}

-- ---- two sessions, the second closed, and the first waiting for its second answer
answers_there : (refusal_of bank_a plan_a closed_a (Answer 0 0 1 None) ≡ None) × (refusal_of bank_a plan_a closed_a (Answer 0 0 0 None) ≡ Some (refusal.Other 1)) × (refusal_of bank_a plan_a closed_a (Answer 0 2 1 None) ≡ Some (refusal.WrongStep 1)) × (refusal_of bank_a plan_a closed_a (Answer 0 1 2 None) ≡ Some (refusal.BadResponse 2)) × (refusal_of bank_a plan_a closed_a (Answer 0 1 1 None) ≡ None)
unfolding bank_a item_a plan_of_rows plan_a two_a closed_a
answers_there = (refl, refl, refl, refl, refl)

others_there : (refusal_of bank_a plan_a closed_a (Begin 1) ≡ None) × (refusal_of bank_a plan_a closed_a (Begin 3) ≡ None) × (refusal_of bank_a plan_a closed_a (Answer 9 0 0 None) ≡ Some (refusal.NoSession 2)) × (refusal_of bank_a plan_a closed_a (Answer 1 0 0 None) ≡ Some (refusal.IsClosed IsClosed)) × (refusal_of bank_a plan_a closed_a (Close 1 None) ≡ Some (refusal.IsClosed IsClosed)) × (refusal_of bank_a plan_a closed_a (Close 0 None) ≡ None) × (refusal_of bank_a plan_a closed_a (Look 2) ≡ Some (refusal.NoSession 2)) × (refusal_of bank_a plan_a closed_a (Look 1) ≡ None) × (refusal_of bank_a plan_a closed_a Exposure ≡ None)
unfolding bank_a item_a plan_of_rows plan_a two_a closed_a
others_there = (refl, refl, refl, refl, refl, refl, refl, refl, refl)

-- a session that waits for an item, or is complete, takes no answer but one that is recorded
ends_there : (refusal_of bank_a plan_a started_a (Answer 0 0 1 None) ≡ Some (refusal.WrongStep 0)) × (refusal_of bank_a plan_a answered_2 (Answer 0 1 0 None) ≡ None) × (refusal_of bank_a plan_a answered_2 (Answer 0 3 0 None) ≡ Some (refusal.IsClosed Complete)) × (refusal_of bank_a plan_a answered_2 (Close 0 None) ≡ Some (refusal.IsClosed Complete))
unfolding bank_a item_a plan_of_rows plan_a started_a served_a answered_a served_1 answered_1 served_2 answered_2
ends_there = (refl, refl, refl, refl)

-- with a limit of one session no second booking has one, and the first has its own
one_session : Plan
one_session = record plan_a { sessions = 1 }

full_there : (refusal_of bank_a one_session started_a (Begin 71) ≡ Some (refusal.SessionsFull 1)) × (refusal_of bank_a one_session started_a (Begin 70) ≡ None) × (refusal_of bank_a one_session [] (Begin 71) ≡ None)
unfolding one_session plan_of_rows plan_a started_a
full_there = (refl, refl, refl)

-- ---- the requests of a test
firm_of : (P : Problem) (X : ℕ → Bool) → Best P X → Firm P X
firm_of P X best = record { form = best.form; exchanges = λ Y form others. best.greatest Y form }

firm_0 : IsFirmServing bank_a plan_a started_a 0 (Served 0 0 2 (one_word 14) true 1)
firm_0 =
    let legal = may_is_legal bank_a plan_a started_a (Served 0 0 2 (one_word 14) true 1) (Some (one_bound ((3, 1) ∷ []))) may_serve_0 in
    record { step = 0; item = 2; form = one_word 14; proved = true; nodes = 1; is = refl; legal = legal; problem = legal.problem; is_problem = legal.is_problem; firm = firm_of legal.problem (has (one_word 14)) (legal.best refl) }

begin_70 : Does bank_a plan_a [] (Begin 70) served_a (reply.At 0 (Waiting 0 2 true) true)
unfolding plan_of_rows plan_a started_a served_a
begin_70 =
    record {
      session = 0;
      fresh = true;
      begun = started_a;
      leads = by_begin 70 0 true started_a (Begins.is_new 0 (one_band (one_word 63)) refl may_start.0);
      advances = at_once (Served 0 0 2 (one_word 14) true 1) firm_0;
      at = Waiting 0 2 true;
      stands = refl;
      reply = refl;
    }

firm_1 : IsFirmServing bank_a plan_a answered_a 0 (Served 0 1 4 (one_word 22) true 1)
firm_1 =
    let legal = may_is_legal bank_a plan_a answered_a (Served 0 1 4 (one_word 22) true 1) (Some (one_bound ((0, 1536) ∷ []))) may_serve_1 in
    record { step = 1; item = 4; form = one_word 22; proved = true; nodes = 1; is = refl; legal = legal; problem = legal.problem; is_problem = legal.is_problem; firm = firm_of legal.problem (has (one_word 22)) (legal.best refl) }

answer_0 : Does bank_a plan_a served_a (Answer 0 0 1 None) served_1 (reply.At 0 (Waiting 1 4 true) false)
unfolding bank_a item_a plan_of_rows plan_a started_a served_a answered_a served_1
answer_0 =
    record {
      session = 0;
      fresh = false;
      begun = answered_a;
      leads = by_answer 0 0 1 None answered_a (RecordsAnswer.is_new refl may_answer_0);
      advances = at_once (Served 0 1 4 (one_word 22) true 1) firm_1;
      at = Waiting 1 4 true;
      stands = refl;
      reply = refl;
    }

-- the last answer, and one that is recorded, are followed by no item
answer_2 : Does bank_a plan_a served_2 (Answer 0 2 1 None) answered_2 (reply.At 0 Complete false)
unfolding bank_a item_a plan_of_rows plan_a started_a served_a answered_a served_1 answered_1 served_2 answered_2
answer_2 =
    record {
      session = 0;
      fresh = false;
      begun = answered_2;
      leads = by_answer 0 2 1 None answered_2 (RecordsAnswer.is_new refl may_answer_2);
      advances = refl;
      at = Complete;
      stands = refl;
      reply = refl;
    }

answer_again : Does bank_a plan_a closed_a (Answer 0 0 1 None) closed_a (reply.At 0 (Waiting 1 4 true) false)
unfolding bank_a item_a plan_of_rows plan_a two_a closed_a
answer_again =
    record {
      session = 0;
      fresh = false;
      begun = closed_a;
      leads = by_answer 0 0 1 None closed_a (RecordsAnswer.is_there refl);
      advances = refl;
      at = Waiting 1 4 true;
      stands = refl;
      reply = refl;
    }

-- closing a session that waits for an answer, and closing it again
close_1 : Does bank_a plan_a two_a (Close 1 None) closed_a (reply.At 1 IsClosed false)
unfolding plan_of_rows plan_a two_a closed_a
close_1 = record { legal = record { at = Waiting 0 2 true; stands = refl; goes_on = tt }; closed = refl; at = IsClosed; stands = refl; reply = refl }

close_again : Does bank_a plan_a closed_a (Close 1 None) closed_a (reply.Refused (refusal.IsClosed IsClosed))
unfolding plan_of_rows plan_a two_a closed_a
close_again = (refl, refl)

-- the exposure of a finished session of items 1, 2 and 4
row : ℕ → Counts
row alpha = record { alpha = alpha; eps = 1 }

rows : List Counts
rows = row 0 ∷ row 1 ∷ row 1 ∷ row 0 ∷ row 1 ∷ row 0 ∷ []

exposure_3 : Does bank_a plan_a answered_2 Exposure answered_2 (reply.Exposure (record { finished = 1; rows = rows }))
unfolding bank_a item_a plan_of_rows plan_a started_a served_a answered_a served_1 answered_1 served_2 answered_2 row rows has
exposure_3 = record { same = refl; exposure = record { finished = 1; rows = rows }; is_exposure = record { finished_is = refl; number = refl; each = each }; reply = refl }
  where
    each : (i : ℕ) → i < 6 → slice_get rows i ≡ Some (counts bank_a plan_a answered_2 i)
    each zero w = refl
    each (suc zero) w = refl
    each (suc (suc zero)) w = refl
    each (suc (suc (suc zero))) w = refl
    each (suc (suc (suc (suc zero)))) w = refl
    each (suc (suc (suc (suc (suc zero))))) w = refl
    each (suc (suc (suc (suc (suc (suc i)))))) w = absurd (omega arith)

-- ---- in numbers
summaries : (summary plan_a [] ≡ record { entries = 0; sessions = 0; finished = 0; proved = 0; unproved = 0; aside = 0; nodes = 0 }) × (summary plan_a answered_2 ≡ record { entries = 7; sessions = 1; finished = 1; proved = 3; unproved = 0; aside = 0; nodes = 3 }) × (summary plan_a three ≡ record { entries = 13; sessions = 3; finished = 2; proved = 4; unproved = 1; aside = 1; nodes = 6 })
unfolding plan_of_rows plan_a started_a served_a answered_a served_1 answered_1 served_2 answered_2 complete_0 three
summaries = (refl, refl, refl)
