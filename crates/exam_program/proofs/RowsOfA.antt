-- The definitions of a replay, computed on the worked session of bank A: its lines, its history,
-- its file, and what a crash may leave; and on a disk that fails at the first write.
use Rattle.std.proofs.Common.{◌≡◌, ℕ, zero, suc, ◌^◌, ◌<◌, ◌≤◌, nat_le, Bool, true, false, inl, inr, List, [], ◌∷◌, ◌++◌, length, map, get_or, Option, None, Some, refl, sym, ap, ◌∙◌, subst, codes, arith}
use Rattle.std.proofs.Math.Dec.{lit≤}
use Rattle.std.specs.List.{AllByRecursion}
use Rattle.std.specs.Option.{option_map}
use Rattle.std.proofs.lemmas.Bool.{cases_Bool, le-leb}
use Rattle.std.proofs.lemmas.List.{append-nil}
use Rattle.std.specs.Fmt.{digits}
use Rattle.bank_tables.specs.Items.{has, AreWords}
use Rattle.exam_edge.specs.Images.{settled, written}
use Rattle.exam_edge.specs.ImageLaws.{within_refl, only, started}
use Rattle.certificate_model.specs.declared.node.Node.TheVariants.{Bound}
use Rattle.form_model.specs.Problem.{Problem}
use Rattle.form_model.specs.Forms.{Best, Firm}
use Rattle.certificate_model.specs.ProofTrees.{ProofTree}
use Rattle.certificate_model.specs.Relaxed.{Multipliers}
use Rattle.form_model.proofs.Computed.{one_word}
use Rattle.form_model.proofs.BankA.{item_a, bank_a, plan_of_rows, plan_a}
use Rattle.certificate_model.proofs.BankA.{one_bound}
use Rattle.history_model.specs.declared.entry.Bands.{Bands}
use Rattle.history_model.specs.declared.entry.Entry.{Entry}
use Rattle.history_model.specs.declared.entry.Entry.TheVariants.{Started, Served, Answered}
use Rattle.history_model.specs.declared.place.Place.TheVariants.{Waiting, Complete}
use Rattle.history_model.specs.declared.request.Reply.{Reply}
use Rattle.history_model.specs.declared.request.Reply.TheVariants as reply
use Rattle.history_model.specs.declared.request.Request.{Request}
use Rattle.history_model.specs.declared.request.Request.TheVariants.{Begin, Answer}
use Rattle.history_model.specs.Draws.{AreDrawn, SameItems, draw}
use Rattle.history_model.specs.Entries.{items_in}
use Rattle.history_model.specs.Judging.{MayFollow, MayServe, Record, Backed, entries_of, empty, more}
use Rattle.history_model.specs.Legality.{IsLegalAnswer, Legal, LegalRun}
use Rattle.history_model.specs.Requests.{Begins, RecordsAnswer, by_begin, by_answer, IsFirmServing, at_once, Does}
use Rattle.history_model.specs.SessionProblems.{IsProblemOf}
use Rattle.history_model.proofs.Bounds.{no_set}
use Rattle.history_model.proofs.HistoriesOfA.{started_a as old_started, served_a as old_served_a, answered_a as old_answered_a, served_1 as old_served_1, answered_1 as old_answered_1}
use Rattle.history_model.proofs.JudgingLaws.{may_is_legal}
use Rattle.history_model.proofs.RecordsOfA.{may_start as old_start, may_serve_0 as old_serve_0, may_serve_1 as old_serve_1, may_serve_2 as old_serve_2, none_past}
use Rattle.exam_records.specs.Shape.{IsRecord}
use Rattle.exam_records.specs.Spelling.{payload_of}
use Rattle.exam_records.proofs.SecondLaws.{record_len}
use Rattle.answer_journal.specs.Frames.{IsPayload, begins, front, payloads, shadowj1, shadowj2}
use Rattle.answer_journal.specs.Versions.{counted, contents, second, version_of}
use Rattle.answer_journal.specs.FrameLaws.{payloads-front}
use Rattle.proof_tree.specs.Shape.{IsTree}
use Rattle.proof_tree.proofs.TreeLaws.{is_tree}
use Rattle.replay_cli.specs.Replies.{place_line, line_of, lines_of}
use Rattle.exam_office.specs.Asking.{IsGood, AreGood, no_more, one_more as good_more}
use Rattle.exam_office.specs.Files.{IsImageOrStands, IsImageOrStandsSecond, Stands, StandsSecond}
use Rattle.exam_office.proofs.FileLaws.{one_history}
use Rattle.exam_office.proofs.Records.{all_in_second}
use Rattle.exam_program.specs.Outside.{DiskSeen}
use Rattle.exam_program.specs.Replays.{AreDone, none, one_more, IsFileOf, IsFileOnTheWay, IsUnderWay, IsOpeningFailed}
use Rattle.exam_program.proofs.ScriptLaws.{not_yet}

-- ---- the script, its replies and their lines: a session of three items, answered by 1, 0 and 1
script_a : List Request
script_a = Begin 70 ∷ Answer 0 0 1 None ∷ Answer 0 1 0 None ∷ Answer 0 2 1 None ∷ []

replies_a : List Reply
replies_a = reply.At 0 (Waiting 0 2 true) true ∷ reply.At 0 (Waiting 1 4 true) false ∷ reply.At 0 (Waiting 2 1 true) false ∷ reply.At 0 Complete false ∷ []

lines_a : lines_of replies_a ≡ codes "session 0 step 0 item 2 proved\nsession 0 step 1 item 4 proved\nsession 0 step 2 item 1 proved\nsession 0 complete\n"
unfolding replies_a line_of place_line digits
lines_a = refl

-- ---- the history of the session, with a set of items for each of eight bands, as a journal spells
-- it; the plan has one band
unfoldable eligible_a : Bands
eligible_a = record { count = 1; sets = one_word 63 ∷ one_word 0 ∷ one_word 0 ∷ one_word 0 ∷ one_word 0 ∷ one_word 0 ∷ one_word 0 ∷ one_word 0 ∷ [] }

unfoldable started_a : List Entry
started_a = Started 0 70 eligible_a None ∷ []

unfoldable served_a : List Entry
unfolding started_a
served_a = started_a ++ Served 0 0 2 (one_word 14) true 1 ∷ []

unfoldable answered_a : List Entry
unfolding served_a started_a
answered_a = served_a ++ Answered 0 0 1 ∷ []

unfoldable served_1 : List Entry
unfolding answered_a served_a started_a
served_1 = answered_a ++ Served 0 1 4 (one_word 22) true 1 ∷ []

unfoldable answered_1 : List Entry
unfolding served_1 answered_a served_a started_a
answered_1 = served_1 ++ Answered 0 1 0 ∷ []

unfoldable served_2 : List Entry
unfolding answered_1 served_1 answered_a served_a started_a
served_2 = answered_1 ++ Served 0 2 1 (one_word 22) true 1 ∷ []

unfoldable answered_2 : List Entry
unfolding served_2 answered_1 served_1 answered_a served_a started_a
answered_2 = served_2 ++ Answered 0 2 1 ∷ []

-- the sets past the first are empty
no_item : (i : ℕ) → has (one_word 0) i ≡ false
unfolding has
no_item zero = refl
no_item (suc zero) = refl
no_item (suc (suc zero)) = refl
no_item (suc (suc (suc zero))) = refl
no_item (suc (suc (suc (suc zero)))) = refl
no_item (suc (suc (suc (suc (suc zero))))) = refl
no_item (suc (suc (suc (suc (suc (suc j)))))) = none_past 0 (suc (suc (suc (suc (suc (suc j)))))) refl (λ low. omega arith)

past_first : (k i : ℕ) → items_in eligible_a.sets (suc k) i ≡ false
unfolding eligible_a
past_first zero i = no_item i
past_first (suc zero) i = no_item i
past_first (suc (suc zero)) i = no_item i
past_first (suc (suc (suc zero))) i = no_item i
past_first (suc (suc (suc (suc zero)))) i = no_item i
past_first (suc (suc (suc (suc (suc zero))))) i = no_item i
past_first (suc (suc (suc (suc (suc (suc zero)))))) i = no_item i
past_first (suc (suc (suc (suc (suc (suc (suc k))))))) i = no_set k i

drawn_a : AreDrawn bank_a plan_a [] 0 eligible_a
unfolding eligible_a plan_of_rows plan_a
drawn_a = record { number = refl; each = each }
  where
    each : (band : ℕ) → SameItems (items_in eligible_a.sets band) (draw bank_a plan_a [] 0 band)
    each zero i = old_start.0.drawn.each 0 i
    each (suc k) i = past_first k i ∙ (sym (no_set k i) ∙ old_start.0.drawn.each (suc k) i)

may_start : MayFollow bank_a plan_a [] (Started 0 70 eligible_a None) None
may_start = (record { number = old_start.0.number; not_booked = old_start.0.not_booked; drawn = drawn_a; listed = tt }, refl)

-- the problems are those of the history with one set
moved : (H K : List Entry) (step item : ℕ) (form : ℕ → Bool) (proved : Bool) (nodes : ℕ) (tree : Option ProofTree) → ((P : Problem) → IsProblemOf bank_a plan_a H 0 step P → IsProblemOf bank_a plan_a K 0 step P)
    → MayServe bank_a plan_a H 0 step item form proved nodes tree → MayServe bank_a plan_a K 0 step item form proved nodes tree
moved H K step item form proved nodes tree on m = record { problem = m.problem; is_problem = on m.problem m.is_problem; is_form = m.is_form; next = m.next; shows = m.shows }

may_serve_0 : MayServe bank_a plan_a started_a 0 0 2 (has (one_word 14)) true 1 (Some (one_bound ((3, 1) ∷ [])))
unfolding plan_of_rows plan_a old_started eligible_a started_a
may_serve_0 = moved old_started started_a 0 2 (has (one_word 14)) true 1 (Some (one_bound ((3, 1) ∷ []))) on old_serve_0
  where
    on : (P : Problem) → IsProblemOf bank_a plan_a old_started 0 0 P → IsProblemOf bank_a plan_a started_a 0 0 P
    on P h = record { pending = refl; of_seat = record { theta = h.of_seat.theta; mode = h.of_seat.mode; is = h.of_seat.is } }

may_answer_0 : IsLegalAnswer bank_a plan_a served_a 0 0 1
unfolding bank_a item_a plan_of_rows plan_a eligible_a started_a served_a
may_answer_0 = record { item = 2; proved = true; waiting = refl; in_range = lit≤ tt }

may_serve_1 : MayServe bank_a plan_a answered_a 0 1 4 (has (one_word 22)) true 1 (Some (one_bound ((0, 1536) ∷ [])))
unfolding plan_of_rows plan_a old_started old_served_a old_answered_a eligible_a started_a served_a answered_a
may_serve_1 = moved old_answered_a answered_a 1 4 (has (one_word 22)) true 1 (Some (one_bound ((0, 1536) ∷ []))) on old_serve_1
  where
    on : (P : Problem) → IsProblemOf bank_a plan_a old_answered_a 0 1 P → IsProblemOf bank_a plan_a answered_a 0 1 P
    on P h = record { pending = refl; of_seat = record { theta = h.of_seat.theta; mode = h.of_seat.mode; is = h.of_seat.is } }

may_answer_1 : IsLegalAnswer bank_a plan_a served_1 0 1 0
unfolding bank_a item_a plan_of_rows plan_a eligible_a started_a served_a answered_a served_1
may_answer_1 = record { item = 4; proved = true; waiting = refl; in_range = lit≤ tt }

may_serve_2 : MayServe bank_a plan_a answered_1 0 2 1 (has (one_word 22)) true 1 (Some (one_bound []))
unfolding plan_of_rows plan_a old_started old_served_a old_answered_a old_served_1 old_answered_1 eligible_a started_a served_a answered_a served_1 answered_1
may_serve_2 = moved old_answered_1 answered_1 2 1 (has (one_word 22)) true 1 (Some (one_bound [])) on old_serve_2
  where
    on : (P : Problem) → IsProblemOf bank_a plan_a old_answered_1 0 2 P → IsProblemOf bank_a plan_a answered_1 0 2 P
    on P h = record { pending = refl; of_seat = record { theta = h.of_seat.theta; mode = h.of_seat.mode; is = h.of_seat.is } }

may_answer_2 : IsLegalAnswer bank_a plan_a served_2 0 2 1
unfolding bank_a item_a plan_of_rows plan_a eligible_a started_a served_a answered_a served_1 answered_1 served_2
may_answer_2 = record { item = 1; proved = true; waiting = refl; in_range = lit≤ tt }

-- ---- each item is served from a form that is best, so no exchange betters it
legal_0 : Legal bank_a plan_a started_a (Served 0 0 2 (one_word 14) true 1)
legal_0 = may_is_legal bank_a plan_a started_a (Served 0 0 2 (one_word 14) true 1) (Some (one_bound ((3, 1) ∷ []))) may_serve_0

legal_1 : Legal bank_a plan_a answered_a (Served 0 1 4 (one_word 22) true 1)
legal_1 = may_is_legal bank_a plan_a answered_a (Served 0 1 4 (one_word 22) true 1) (Some (one_bound ((0, 1536) ∷ []))) may_serve_1

legal_2 : Legal bank_a plan_a answered_1 (Served 0 2 1 (one_word 22) true 1)
legal_2 = may_is_legal bank_a plan_a answered_1 (Served 0 2 1 (one_word 22) true 1) (Some (one_bound [])) may_serve_2

firm_of : (P : Problem) (X : ℕ → Bool) → Best P X → Firm P X
firm_of P X best = record { form = best.form; exchanges = λ Y form others. best.greatest Y form }

firm_0 : IsFirmServing bank_a plan_a started_a 0 (Served 0 0 2 (one_word 14) true 1)
firm_0 = record { step = 0; item = 2; form = one_word 14; proved = true; nodes = 1; is = refl; legal = legal_0; problem = legal_0.problem; is_problem = legal_0.is_problem; firm = firm_of legal_0.problem (has (one_word 14)) (legal_0.best refl) }

firm_1 : IsFirmServing bank_a plan_a answered_a 0 (Served 0 1 4 (one_word 22) true 1)
firm_1 = record { step = 1; item = 4; form = one_word 22; proved = true; nodes = 1; is = refl; legal = legal_1; problem = legal_1.problem; is_problem = legal_1.is_problem; firm = firm_of legal_1.problem (has (one_word 22)) (legal_1.best refl) }

firm_2 : IsFirmServing bank_a plan_a answered_1 0 (Served 0 2 1 (one_word 22) true 1)
firm_2 = record { step = 2; item = 1; form = one_word 22; proved = true; nodes = 1; is = refl; legal = legal_2; problem = legal_2.problem; is_problem = legal_2.is_problem; firm = firm_of legal_2.problem (has (one_word 22)) (legal_2.best refl) }

begin_70 : Does bank_a plan_a [] (Begin 70) served_a (reply.At 0 (Waiting 0 2 true) true)
unfolding plan_of_rows plan_a eligible_a started_a served_a
begin_70 = record {
  session = 0;
  fresh = true;
  begun = started_a;
  leads = by_begin 70 0 true started_a (Begins.is_new 0 eligible_a refl may_start.0);
  advances = at_once (Served 0 0 2 (one_word 14) true 1) firm_0;
  at = Waiting 0 2 true;
  stands = refl;
  reply = refl;
}

answer_0 : Does bank_a plan_a served_a (Answer 0 0 1 None) served_1 (reply.At 0 (Waiting 1 4 true) false)
unfolding bank_a item_a plan_of_rows plan_a eligible_a started_a served_a answered_a served_1
answer_0 = record {
  session = 0;
  fresh = false;
  begun = answered_a;
  leads = by_answer 0 0 1 None answered_a (RecordsAnswer.is_new refl may_answer_0);
  advances = at_once (Served 0 1 4 (one_word 22) true 1) firm_1;
  at = Waiting 1 4 true;
  stands = refl;
  reply = refl;
}

answer_1 : Does bank_a plan_a served_1 (Answer 0 1 0 None) served_2 (reply.At 0 (Waiting 2 1 true) false)
unfolding bank_a item_a plan_of_rows plan_a eligible_a started_a served_a answered_a served_1 answered_1 served_2
answer_1 = record {
  session = 0;
  fresh = false;
  begun = answered_1;
  leads = by_answer 0 1 0 None answered_1 (RecordsAnswer.is_new refl may_answer_1);
  advances = at_once (Served 0 2 1 (one_word 22) true 1) firm_2;
  at = Waiting 2 1 true;
  stands = refl;
  reply = refl;
}

answer_2 : Does bank_a plan_a served_2 (Answer 0 2 1 None) answered_2 (reply.At 0 Complete false)
unfolding bank_a item_a plan_of_rows plan_a eligible_a started_a served_a answered_a served_1 answered_1 served_2 answered_2
answer_2 = record {
  session = 0;
  fresh = false;
  begun = answered_2;
  leads = by_answer 0 2 1 None answered_2 (RecordsAnswer.is_new refl may_answer_2);
  advances = refl;
  at = Complete;
  stands = refl;
  reply = refl;
}

-- ---- the journal's file: the records of the seven entries, each with its tree
with_tree : Entry → Multipliers → Record
with_tree entry v = record { entry = entry; tree = Some (one_bound v) }

bare : Entry → Record
bare entry = record { entry = entry; tree = None }

records_1 : List Record
records_1 = bare (Started 0 70 eligible_a None) ∷ with_tree (Served 0 0 2 (one_word 14) true 1) ((3, 1) ∷ []) ∷ bare (Answered 0 0 1) ∷ []

records_3 : List Record
records_3 = records_1 ++ with_tree (Served 0 1 4 (one_word 22) true 1) ((0, 1536) ∷ []) ∷ bare (Answered 0 1 0) ∷ []

records_a : List Record
records_a = records_3 ++ with_tree (Served 0 2 1 (one_word 22) true 1) [] ∷ bare (Answered 0 2 1) ∷ []

backed_1 : Backed bank_a plan_a records_1
unfolding records_1 with_tree bare started_a served_a
backed_1 =
    more (bare (Started 0 70 eligible_a None) ∷ with_tree (Served 0 0 2 (one_word 14) true 1) ((3, 1) ∷ []) ∷ []) (bare (Answered 0 0 1))
    (more (bare (Started 0 70 eligible_a None) ∷ []) (with_tree (Served 0 0 2 (one_word 14) true 1) ((3, 1) ∷ [])) (more [] (bare (Started 0 70 eligible_a None)) empty may_start) may_serve_0)
    (may_answer_0, refl)

backed_3 : Backed bank_a plan_a records_3
unfolding records_1 records_3 with_tree bare started_a served_a answered_a served_1
backed_3 =
    more (records_1 ++ with_tree (Served 0 1 4 (one_word 22) true 1) ((0, 1536) ∷ []) ∷ []) (bare (Answered 0 1 0))
    (more records_1 (with_tree (Served 0 1 4 (one_word 22) true 1) ((0, 1536) ∷ [])) backed_1 may_serve_1)
    (may_answer_1, refl)

backed_a : Backed bank_a plan_a records_a
unfolding records_1 records_3 records_a with_tree bare started_a served_a answered_a served_1 answered_1 served_2
backed_a =
    more (records_3 ++ with_tree (Served 0 2 1 (one_word 22) true 1) [] ∷ []) (bare (Answered 0 2 1))
    (more records_3 (with_tree (Served 0 2 1 (one_word 22) true 1) []) backed_3 may_serve_2)
    (may_answer_2, refl)

entries_a : entries_of records_a ≡ answered_2
unfolding records_1 records_3 records_a with_tree bare started_a served_a answered_a served_1 answered_1 served_2 answered_2
entries_a = refl

are_words : (word : ℕ) → word < 2 ^ 64 → AreWords (one_word word)
are_words word small = record { eight = refl; small = each }
  where
    each : (k : ℕ) → k < 8 → get_or (one_word word) k 0 < 2 ^ 64
    each zero w = small
    each (suc zero) w = lit≤ tt
    each (suc (suc zero)) w = lit≤ tt
    each (suc (suc (suc zero))) w = lit≤ tt
    each (suc (suc (suc (suc zero)))) w = lit≤ tt
    each (suc (suc (suc (suc (suc zero))))) w = lit≤ tt
    each (suc (suc (suc (suc (suc (suc zero)))))) w = lit≤ tt
    each (suc (suc (suc (suc (suc (suc (suc zero))))))) w = lit≤ tt
    each (suc (suc (suc (suc (suc (suc (suc (suc k)))))))) w = absurd (omega arith)

tree_0 : IsTree (one_bound ((3, 1) ∷ []))
unfolding one_bound
tree_0 = is_tree (((3, 1) ∷ []) ∷ []) (Bound 0 ∷ []) (omega arith) (((omega arith, omega arith, omega arith, tt), (omega arith, tt), omega arith), tt) (lit≤ tt) (omega arith) tt (omega arith, tt)

tree_1 : IsTree (one_bound ((0, 1536) ∷ []))
unfolding one_bound
tree_1 = is_tree (((0, 1536) ∷ []) ∷ []) (Bound 0 ∷ []) (omega arith) (((omega arith, omega arith, omega arith, tt), (omega arith, tt), omega arith), tt) (lit≤ tt) (omega arith) tt (omega arith, tt)

tree_2 : IsTree (one_bound [])
unfolding one_bound
tree_2 = is_tree ([] ∷ []) (Bound 0 ∷ []) (omega arith) ((tt, tt, omega arith), tt) (lit≤ tt) (omega arith) tt (omega arith, tt)

payload_fits : (r : Record) → IsRecord r → IsPayload (payload_of r)
payload_fits r is = let len = record_len r is.goes_with is.bands is.tree in record { some = omega (arith, len.0); few = omega (arith, len.1) }

started_spelled : IsRecord (bare (Started 0 70 eligible_a None))
unfolding bare eligible_a
started_spelled = record {
  goes_with = tt;
  bands = (record { some = omega arith; few = omega arith; none_past = none_later }, tt);
  fits = (omega arith, omega arith, record { eight = refl; each = each }, tt);
  tree = tt;
}
  where
    none_later : (band : ℕ) → 1 ≤ band → SameItems (items_in eligible_a.sets band) (λ _. false)
    none_later zero low i = absurd (omega arith)
    none_later (suc k) low i = past_first k i

    each : (k : ℕ) → k < 8 → AreWords (get_or eligible_a.sets k [])
    each zero w = are_words 63 (omega arith)
    each (suc zero) w = are_words 0 (omega arith)
    each (suc (suc zero)) w = are_words 0 (omega arith)
    each (suc (suc (suc zero))) w = are_words 0 (omega arith)
    each (suc (suc (suc (suc zero)))) w = are_words 0 (omega arith)
    each (suc (suc (suc (suc (suc zero))))) w = are_words 0 (omega arith)
    each (suc (suc (suc (suc (suc (suc zero)))))) w = are_words 0 (omega arith)
    each (suc (suc (suc (suc (suc (suc (suc zero))))))) w = are_words 0 (omega arith)
    each (suc (suc (suc (suc (suc (suc (suc (suc k)))))))) w = absurd (omega arith)

answer_spelled : (step response : ℕ) → step < 2 ^ 16 → response < 2 ^ 8 → IsRecord (bare (Answered 0 step response))
unfolding bare
answer_spelled step response low small = record { goes_with = tt; bands = tt; fits = (omega arith, low, small); tree = tt }

served_spelled : (step item word : ℕ) (v : Multipliers) → step < 2 ^ 16 → item < 2 ^ 16 → word < 2 ^ 64 → IsTree (one_bound v) → IsRecord (with_tree (Served 0 step item (one_word word) true 1) v)
unfolding with_tree one_bound
served_spelled step item word v low few small tree = record { goes_with = refl; bands = tt; fits = (omega arith, low, few, are_words word small); tree = tree }

spelled_a : AllByRecursion IsRecord records_a
unfolding records_1 records_3 records_a
spelled_a = (started_spelled, (served_spelled 0 2 14 ((3, 1) ∷ []) (omega arith) (omega arith) (omega arith) tree_0, (answer_spelled 0 1 (omega arith) (omega arith), (served_spelled 1 4 22 ((0, 1536) ∷ []) (omega arith) (omega arith) (omega arith) tree_1, (answer_spelled 1 0 (omega arith) (omega arith), (served_spelled 2 1 22 [] (omega arith) (omega arith) (omega arith) tree_2, (answer_spelled 2 1 (omega arith) (omega arith), tt)))))))

file_a : List ℕ
file_a = front shadowj2 (map payload_of records_a) ++ 0 ∷ []

gives_a : payloads shadowj2 file_a ≡ Some (map payload_of records_a)
unfolding file_a records_1 records_3 records_a
gives_a = payloads-front shadowj2 (map payload_of records_a) 0 [] (payload_fits _ spelled_a.0, (payload_fits _ spelled_a.1.0, (payload_fits _ spelled_a.1.1.0, (payload_fits _ spelled_a.1.1.1.0, (payload_fits _ spelled_a.1.1.1.1.0, (payload_fits _ spelled_a.1.1.1.1.1.0, (payload_fits _ spelled_a.1.1.1.1.1.1.0, tt))))))) (λ e. omega (arith, e))

none_short : (file : List ℕ) → nat_le (length file) 9 ≡ true → payloads shadowj2 file ≡ Some []
unfolding payloads
none_short file short = rw short refl

long_a : nat_le (length file_a) 9 ≡ false
unfolding records_1 records_3 records_a
long_a = elim (cases_Bool (nat_le (length file_a) 9)) [
  | inl short ↦ (let none = none_short file_a short in let some = gives_a in absurd cc)
  | inr long ↦ long
]

begins_a : begins shadowj1 file_a ≡ false
unfolding file_a
begins_a = refl

holds_a : contents file_a ≡ Some (second (map payload_of records_a))
unfolding contents version_of
holds_a = rw (long_a, begins_a) (ap (option_map (counted 2)) gives_a)

short_holds : (file : List ℕ) → length file ≤ 9 → contents file ≡ Some (second [])
unfolding contents version_of
short_holds file short = let e : nat_le (length file) 9 ≡ true = le-leb (length file) 9 short in rw e (ap (option_map (counted 2)) (none_short file e))

file_stands : Stands bank_a plan_a answered_2 file_a
file_stands = record { records = records_a; are = record { spell = all_in_second records_a spelled_a; backed = backed_a; entries = entries_a }; version = 2; holds = holds_a }

file_moved : StandsSecond bank_a plan_a answered_2 file_a
unfolding file_stands
file_moved = record { stands = file_stands; second = refl }

empty_stands : Stands bank_a plan_a [] []
empty_stands = record { records = []; are = record { spell = tt; backed = empty; entries = refl }; version = 2; holds = short_holds [] (omega arith) }

empty_moved : StandsSecond bank_a plan_a [] []
unfolding empty_stands
empty_moved = record { stands = empty_stands; second = refl }

-- ---- the requests, one after another, each with its reply
reply_at : ℕ → ℕ → Bool → Reply
reply_at step item fresh = reply.At 0 (Waiting step item true) fresh

done_a : AreDone bank_a plan_a [] script_a answered_2 replies_a
unfolding script_a replies_a reply_at
done_a =
    one_more (Begin 70 ∷ Answer 0 0 1 None ∷ Answer 0 1 0 None ∷ []) served_2 (reply_at 0 2 true ∷ reply_at 1 4 false ∷ reply_at 2 1 false ∷ []) (Answer 0 2 1 None) answered_2 (reply.At 0 Complete false)
    (one_more (Begin 70 ∷ Answer 0 0 1 None ∷ []) served_1 (reply_at 0 2 true ∷ reply_at 1 4 false ∷ []) (Answer 0 1 0 None) served_2 (reply_at 2 1 false)
    (one_more (Begin 70 ∷ []) served_a (reply_at 0 2 true ∷ []) (Answer 0 0 1 None) served_1 (reply_at 1 4 false)
    (one_more [] [] [] (Begin 70) served_a (reply_at 0 2 true) none begin_70 refl) answer_0 refl) answer_1 refl) answer_2 refl

-- what is best is no worse than the base and the form before
base_a : List ℕ
base_a = one_word 14

good_serving : (H : List Entry) (step item : ℕ) (form : List ℕ) → Legal bank_a plan_a H (Served 0 step item form true 1) → IsGood bank_a plan_a base_a H (Served 0 step item form true 1)
good_serving H step item form legal = record {
  problem = legal.problem;
  is_problem = legal.is_problem;
  base_is = λ is_form. (legal.best refl).greatest (has base_a) is_form;
  start = λ X e is_form. (legal.best refl).greatest X is_form;
}

good_a : AreGood bank_a plan_a base_a [] answered_2
unfolding started_a served_a answered_a served_1 answered_1 served_2 answered_2
good_a =
    good_more served_2 (Answered 0 2 1)
    (good_more answered_1 (Served 0 2 1 (one_word 22) true 1)
    (good_more served_1 (Answered 0 1 0)
    (good_more answered_a (Served 0 1 4 (one_word 22) true 1)
    (good_more served_a (Answered 0 0 1)
    (good_more started_a (Served 0 0 2 (one_word 14) true 1)
    (good_more [] (Started 0 70 eligible_a None) no_more tt) (good_serving started_a 0 2 (one_word 14) legal_0)) tt) (good_serving answered_a 1 4 (one_word 22) legal_1)) tt) (good_serving answered_1 2 1 (one_word 22) legal_2)) tt

-- ---- the whole replay, from an empty file to that of the session, which is synced
disk_a : DiskSeen
disk_a = record { told = true; before = 0; after = 0; found = []; left = file_a; images_before = settled []; images = settled file_a; moments_before = settled [] ∷ []; moments = settled [] ∷ settled file_a ∷ [] }

is_file_a : IsFileOf bank_a plan_a base_a answered_2 [] file_a
is_file_a = record { so_far = answered_2; is_one = refl; stands = file_moved }

-- before the first request, and after the last
on_the_way_first : IsFileOnTheWay bank_a plan_a base_a script_a [] []
on_the_way_first = record {
  so_far = [];
  is_one = record { done = []; rest = script_a; G = []; replies = []; whole = refl; are_done = none; good = no_more; begins = not_yet bank_a plan_a base_a [] script_a };
  stands = empty_moved;
}

on_the_way_last : IsFileOnTheWay bank_a plan_a base_a script_a [] file_a
on_the_way_last = record {
  so_far = answered_2;
  is_one = record { done = script_a; rest = []; G = answered_2; replies = replies_a; whole = sym (append-nil script_a); are_done = done_a; good = good_a; begins = refl };
  stands = file_moved;
}

replayed_a : IsUnderWay bank_a plan_a base_a disk_a script_a [] answered_2 [] replies_a
unfolding disk_a
replayed_a = record {
  legal = LegalRun.empty;
  found = λ t. empty_moved;
  left = λ t. is_file_a;
  going_on = record {
    done = script_a;
    whole = sym (append-nil script_a);
    are_done = done_a;
    good = good_a;
    each = λ t file image. subst (λ (f : List ℕ). IsFileOf bank_a plan_a base_a answered_2 [] f) (sym (only (settled file_a) file_a file (within_refl (settled file_a)) image)) is_file_a;
  };
  moments = λ t. record {
    opened = settled [] ∷ [];
    opening = record {
      each = started (IsImageOrStandsSecond bank_a plan_a [] (settled [])) (settled [] ∷ []) (λ file image. inl image);
      opened = λ file image. subst (StandsSecond bank_a plan_a []) (sym (only (settled []) [] file (within_refl (settled [])) image)) empty_moved;
    };
    requests = record {
      more = settled file_a ∷ [];
      grown = refl;
      start = λ file image. subst (λ (f : List ℕ). IsFileOnTheWay bank_a plan_a base_a script_a [] f) (sym (only (settled []) [] file (within_refl (settled [])) image)) on_the_way_first;
      each = (λ file image. subst (λ (f : List ℕ). IsFileOnTheWay bank_a plan_a base_a script_a [] f) (sym (only (settled file_a) file_a file (within_refl (settled file_a)) image)) on_the_way_last, tt);
    };
  };
}

-- ---- a disk that fails at the first write of an empty journal: any file of at most nine bytes may
-- be left
torn : List ℕ → DiskSeen
torn left = record { told = true; before = 0; after = 1; found = []; left = left; images_before = settled []; images = written 0 9 (settled []); moments_before = settled [] ∷ []; moments = settled [] ∷ written 0 9 (settled []) ∷ [] }

short_stands : (file : List ℕ) → length file ≤ 9 → Stands bank_a plan_a [] file
short_stands file short = record { records = []; are = record { spell = tt; backed = empty; entries = refl }; version = 2; holds = short_holds file short }

opening_failed : IsOpeningFailed bank_a plan_a (torn (83 ∷ 72 ∷ []))
unfolding torn
opening_failed = record {
  rose = omega arith;
  keeps = record {
    left = λ t H stands. inr (stands_here H stands (83 ∷ 72 ∷ []) (omega arith));
    images = λ t H stands file image. inr (stands_here H stands file (omega (arith, image.greatest)));
    moments = λ t H stands. record {
      more = written 0 9 (settled []) ∷ [];
      grown = refl;
      start = λ file image. inl image;
      each = (λ file image. inr (stands_here H stands file (omega (arith, image.greatest))), tt);
    };
  };
}
  where
    stands_here : (H : List Entry) → Stands bank_a plan_a H [] → (file : List ℕ) → length file ≤ 9 → Stands bank_a plan_a H file
    stands_here H stands file short = subst (λ (G : List Entry). Stands bank_a plan_a G file) (one_history bank_a plan_a [] H [] empty_stands stands) (short_stands file short)

-- but a file with other entries may not be left
no_other_file : IsOpeningFailed bank_a plan_a (torn file_a) → ⊥
unfolding torn started_a served_a answered_a served_1 answered_1 served_2 answered_2
no_other_file is =
    let e : answered_2 ≡ [] = one_history bank_a plan_a answered_2 [] file_a file_stands (stands_so (is.keeps.left refl [] empty_stands)) in
    cc
  where
    stands_so : IsImageOrStands bank_a plan_a [] (settled []) file_a → Stands bank_a plan_a [] file_a
    stands_so (inl image) = subst (Stands bank_a plan_a []) (sym (only (settled []) [] file_a (within_refl (settled [])) image)) empty_stands
    stands_so (inr stands) = stands
