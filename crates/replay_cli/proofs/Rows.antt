-- The definitions, computed on scripts and replies that were worked out by hand.
use Rattle.std.proofs.Common.{◌≡◌, ℕ, zero, suc, true, false, List, [], ◌∷◌, Some, None, Err, refl, inl, inr, codes, subst, arith}
use Rattle.std.specs.List.{All}
use Rattle.std.specs.Fmt.{digits}
use Rattle.exam_text.specs.Numbers.{number_of}
use Rattle.exam_text.specs.Runs.{is_set, run_of}
use Rattle.exam_text.specs.Words.{lines_of as lines_of_text}
use Rattle.history_model.specs.declared.counts.Counts.{Counts}
use Rattle.history_model.specs.declared.place.Place.TheVariants.{Pending, Waiting, Complete, Closed}
use Rattle.history_model.specs.declared.refusal.Refusal.TheVariants.{NoSession, WrongStep, Other, BadResponse, IsClosed, OtherList, NoItem, NoForm, NoneFound, OtherBooking, SessionsFull, JournalFull, Disk, Memory, Stale}
use Rattle.history_model.specs.declared.request.Reply.TheVariants as reply
use Rattle.history_model.specs.declared.request.Request.{Request}
use Rattle.history_model.specs.declared.request.Request.TheVariants.{Begin, Answer, Close, Look, Exposure}
use Rattle.replay_cli.specs.declared.script_fault.ScriptFault.TheVariants.{Line}
use Rattle.replay_cli.specs.Scripts.{IsInRange, text_of_requests, IsScript, IsFirstFaultyLine}
use Rattle.replay_cli.specs.Reading.{number_after, booking_in, answer_in, close_in, exposure_in, request_in, without_in, request_from, requests_of}
use Rattle.replay_cli.specs.Replies.{place_line, counts_line, exposure_lines, refusal_line, line_of, lines_of}
use Rattle.replay_cli.proofs.ReadLaws.{fault_is}

-- ---- scripts

-- each request is in range, one after the other
abbrev Each : List Request → Type 0
Each [] = Unit {0}
Each (r ∷ rs) = IsInRange r × Each rs

all : (rs : List Request) → Each rs → All IsInRange rs
all [] h k d lt = absurd (omega arith)
all (r ∷ rs) h zero d lt = h.0
all (r ∷ rs) h (suc k) d lt = all rs h.1 k d (omega (arith, lt))

-- the session of three items on bank A, and its counts
session_of_a : List Request
session_of_a = Begin 70 ∷ Answer 0 0 1 None ∷ Answer 0 1 0 None ∷ Answer 0 2 1 None ∷ Exposure ∷ []

each_of_a : Each session_of_a
unfolding session_of_a
each_of_a = (omega arith, ((omega arith, omega arith, omega arith, tt), ((omega arith, omega arith, omega arith, tt), ((omega arith, omega arith, omega arith, tt), (tt, tt)))))

script_of_a : IsScript (codes "begin 70\nanswer 0 0 1\nanswer 0 1 0\nanswer 0 2 1\nexposure\n") session_of_a
unfolding session_of_a text_of_requests digits
script_of_a = record { in_range = all session_of_a each_of_a; lines = inl refl }

-- the last line may lack its line feed
script_unended : IsScript (codes "begin 70\nanswer 0 0 1\nanswer 0 1 0\nanswer 0 2 1\nexposure") session_of_a
unfolding session_of_a text_of_requests digits
script_unended = record { in_range = all session_of_a each_of_a; lines = inr refl }

-- the greatest numbers
greatest : List Request
greatest = Begin 18446744073709551615 ∷ Answer 4294967295 65535 255 None ∷ Close 4294967295 None ∷ Look 4294967295 ∷ []

script_of_greatest : IsScript (codes "begin 18446744073709551615\nanswer 4294967295 65535 255\nclose 4294967295\nlook 4294967295\n") greatest
unfolding greatest text_of_requests digits
script_of_greatest = record {
  in_range = all greatest (omega arith, ((omega arith, omega arith, omega arith, tt), ((omega arith, tt), (omega arith, tt))));
  lines = inl refl;
}

-- an answer and a closing that name a booking, the greatest and the least
named : List Request
named = Answer 3 0 1 (Some 18446744073709551615) ∷ Close 3 (Some 0) ∷ []

script_of_named : IsScript (codes "answer 3 0 1 for 18446744073709551615\nclose 3 for 0\n") named
unfolding named text_of_requests digits
script_of_named = record {
  in_range = all named ((omega arith, omega arith, omega arith, omega arith), ((omega arith, omega arith), tt));
  lines = inl refl;
}

-- an empty text asks nothing
empty_script : IsScript [] []
unfolding text_of_requests
empty_script = record { in_range = all [] tt; lines = inl refl }

-- ---- texts that are no scripts

first_faulty : (text : List ℕ) (n : ℕ) → requests_of (lines_of_text text) ≡ Err (Line n) → IsFirstFaultyLine text n
first_faulty text n e =
    let is = fault_is text (Line n) e in
    subst (IsFirstFaultyLine text) (number n is.line is.is) is.first
  where
    number : (n m : ℕ) → Line n ≡ Line m → m ≡ n
    number n m e = cc

-- an answer lacks its response
answer_too_short : IsFirstFaultyLine (codes "answer 0 0\n") 1
unfolding requests_of request_from without_in request_in number_after booking_in answer_in close_in exposure_in number_of
answer_too_short = first_faulty (codes "answer 0 0\n") 1 refl

empty_line : IsFirstFaultyLine (codes "begin 1\n\nbegin 2\n") 2
unfolding requests_of request_from without_in request_in number_after booking_in answer_in close_in exposure_in number_of
empty_line = first_faulty (codes "begin 1\n\nbegin 2\n") 2 refl

leading_zero : IsFirstFaultyLine (codes "begin 1\nclose 00\nlook\n") 2
unfolding requests_of request_from without_in request_in number_after booking_in answer_in close_in exposure_in number_of
leading_zero = first_faulty (codes "begin 1\nclose 00\nlook\n") 2 refl

step_too_great : IsFirstFaultyLine (codes "answer 0 65536 0\n") 1
unfolding requests_of request_from without_in request_in number_after booking_in answer_in close_in exposure_in number_of
step_too_great = first_faulty (codes "answer 0 65536 0\n") 1 refl

space_too_many : IsFirstFaultyLine (codes "exposure\nlook 0 \n") 2
unfolding requests_of request_from without_in request_in number_after booking_in answer_in close_in exposure_in number_of
space_too_many = first_faulty (codes "exposure\nlook 0 \n") 2 refl

-- a booking that is named is a number below 2^64, after the one word `for`
booking_missing : IsFirstFaultyLine (codes "close 0\nclose 0 for\n") 2
unfolding requests_of request_from without_in request_in number_after booking_in answer_in close_in exposure_in number_of
booking_missing = first_faulty (codes "close 0\nclose 0 for\n") 2 refl

booking_without_for : IsFirstFaultyLine (codes "answer 0 0 1 7\n") 1
unfolding requests_of request_from without_in request_in number_after booking_in answer_in close_in exposure_in number_of
booking_without_for = first_faulty (codes "answer 0 0 1 7\n") 1 refl

other_word_for : IsFirstFaultyLine (codes "answer 0 0 1 of 7\n") 1
unfolding requests_of request_from without_in request_in number_after booking_in answer_in close_in exposure_in number_of
other_word_for = first_faulty (codes "answer 0 0 1 of 7\n") 1 refl

booking_too_great : IsFirstFaultyLine (codes "answer 0 0 1 for 18446744073709551616\n") 1
unfolding requests_of request_from without_in request_in number_after booking_in answer_in close_in exposure_in number_of
booking_too_great = first_faulty (codes "answer 0 0 1 for 18446744073709551616\n") 1 refl

booking_spelled_otherwise : IsFirstFaultyLine (codes "close 0 for 07\n") 1
unfolding requests_of request_from without_in request_in number_after booking_in answer_in close_in exposure_in number_of
booking_spelled_otherwise = first_faulty (codes "close 0 for 07\n") 1 refl

two_bookings : IsFirstFaultyLine (codes "close 0 for 7 for 7\n") 1
unfolding requests_of request_from without_in request_in number_after booking_in answer_in close_in exposure_in number_of
two_bookings = first_faulty (codes "close 0 for 7 for 7\n") 1 refl

look_names_none : IsFirstFaultyLine (codes "look 0 for 7\n") 1
unfolding requests_of request_from without_in request_in number_after booking_in answer_in close_in exposure_in number_of
look_names_none = first_faulty (codes "look 0 for 7\n") 1 refl

-- a list has an item
no_item : IsFirstFaultyLine (codes "begin 1 without\n") 1
unfolding requests_of request_from without_in request_in number_after booking_in answer_in close_in exposure_in number_of
no_item = first_faulty (codes "begin 1 without\n") 1 refl

-- a word in the place of `without`
other_word : IsFirstFaultyLine (codes "begin 1 with 2\n") 1
unfolding requests_of request_from without_in request_in number_after booking_in answer_in close_in exposure_in number_of
other_word = first_faulty (codes "begin 1 with 2\n") 1 refl

-- no item has the number 512
past_the_items : IsFirstFaultyLine (codes "begin 1 without 512\n") 1
unfolding requests_of request_from without_in request_in number_after booking_in answer_in close_in exposure_in number_of is_set run_of
past_the_items = first_faulty (codes "begin 1 without 512\n") 1 refl

-- ---- replies

waiting : (line_of (reply.At 0 (Waiting 0 2 true) true) ≡ codes "session 0 step 0 item 2 proved\n")
    × (line_of (reply.At 0 (Waiting 1 4 true) false) ≡ codes "session 0 step 1 item 4 proved\n")
    × (line_of (reply.At 1 (Waiting 0 5 true) true) ≡ codes "session 1 step 0 item 5 proved\n")
    × (line_of (reply.At 0 (Waiting 0 0 false) true) ≡ codes "session 0 step 0 item 0 unproved\n")
unfolding line_of place_line digits
waiting = (refl, refl, refl, refl)

ended : (line_of (reply.At 0 Complete false) ≡ codes "session 0 complete\n")
    × (line_of (reply.At 2 Closed false) ≡ codes "session 2 closed\n")
    × (line_of (reply.At 3 (Pending 1) false) ≡ codes "session 3 pending 1\n")
unfolding line_of place_line digits
ended = (refl, refl, refl)

-- a session that was answered, closed, asked for another response, and so on
refused : (lines_of (reply.Refused (Other 1) ∷ reply.Refused (WrongStep 1) ∷ reply.Refused (BadResponse 2) ∷ [])
    ≡ codes "refused other 1\nrefused wrong-step 1\nrefused bad-response 2\n")
    × (lines_of (reply.Refused (NoSession 2) ∷ reply.Refused (IsClosed Closed) ∷ reply.Refused (IsClosed Complete) ∷ [])
    ≡ codes "refused no-session 2\nrefused is-closed closed\nrefused is-closed complete\n")
unfolding line_of refusal_line digits
refused = (refl, refl)

refused_lists : lines_of (reply.Refused (OtherList 1) ∷ reply.Refused (NoItem 6) ∷ reply.Refused NoForm ∷ reply.Refused NoneFound ∷ reply.Refused OtherBooking ∷ [])
    ≡ codes "refused other-list 1\nrefused no-item 6\nrefused no-form\nrefused none-found\nrefused other-booking\n"
unfolding line_of refusal_line digits
refused_lists = refl

without_line : lines_of (reply.Refused (SessionsFull 1) ∷ reply.Refused (JournalFull 91) ∷ reply.Refused Disk ∷ reply.Refused Memory
    ∷ reply.Refused (Stale Complete true) ∷ reply.Refused (IsClosed (Pending 0)) ∷ []) ≡ []
unfolding line_of refusal_line
without_line = refl

of : ℕ → ℕ → Counts
of alpha eps = record { alpha = alpha; eps = eps }

exposure_of_a : line_of (reply.Exposure (record { finished = 1; rows = of 0 1 ∷ of 1 1 ∷ of 1 1 ∷ of 0 1 ∷ of 1 1 ∷ of 0 1 ∷ [] }))
    ≡ codes "exposure finished 1\nitem 0 shown 0 eligible 1\nitem 1 shown 1 eligible 1\nitem 2 shown 1 eligible 1\nitem 3 shown 0 eligible 1\nitem 4 shown 1 eligible 1\nitem 5 shown 0 eligible 1\n"
unfolding of line_of exposure_lines counts_line digits
exposure_of_a = refl

exposure_of_three : line_of (reply.Exposure (record { finished = 3; rows = of 1 3 ∷ of 1 2 ∷ of 2 2 ∷ of 1 3 ∷ of 1 2 ∷ of 1 3 ∷ [] }))
    ≡ codes "exposure finished 3\nitem 0 shown 1 eligible 3\nitem 1 shown 1 eligible 2\nitem 2 shown 2 eligible 2\nitem 3 shown 1 eligible 3\nitem 4 shown 1 eligible 2\nitem 5 shown 1 eligible 3\n"
unfolding of line_of exposure_lines counts_line digits
exposure_of_three = refl

exposure_at_first : line_of (reply.Exposure (record { finished = 0; rows = of 0 0 ∷ of 0 0 ∷ [] }))
    ≡ codes "exposure finished 0\nitem 0 shown 0 eligible 0\nitem 1 shown 0 eligible 0\n"
unfolding of line_of exposure_lines counts_line digits
exposure_at_first = refl
