-- The script of a drill.
use Rattle.std.specs.Prelude.{ℕ, ◌+◌, ◌-◌, ◌*◌, ◌/◌, ◌%◌, min, nat_lt, ◌==◌, if◌then◌else◌, List, [], ◌∷◌, ◌++◌, map, Option, Some, None}
use Rattle.std.specs.Option.{option_to_list}
use Rattle.std.specs.List.{flat_map, range_with_len}
use Rattle.history_model.specs.declared.request.Request.{Request}
use Rattle.history_model.specs.declared.request.Request.TheVariants.{Begin, Answer, Close}
use Rattle.replay_cli.specs.Scripts.{text_of_requests}
use Rattle.bank_maker.specs.declared.act.Act.{Act}
use Rattle.bank_maker.specs.declared.act.Act.TheVariants.{Begins, Answers, Closes}
use Rattle.bank_maker.specs.Draws.{next_state, upper_bits}

-- the sessions from first on that are in its group of ten
abbrev pub group : ℕ → ℕ → List ℕ
group sessions first = range_with_len first (min 10 (sessions - first))

-- each session answers at each step, but the last of all closes at step 10 and ends there
abbrev pub act_of : ℕ → ℕ → ℕ → Option Act
act_of sessions session step =
    if nat_lt (session + 1) sessions then Some (Answers session step)
    else if nat_lt step 10 then Some (Answers session step)
    else if (step == 10) then Some (Closes session)
    else None

-- the acts of a group at a step
abbrev pub step_acts : ℕ → ℕ → ℕ → List Act
step_acts sessions first step =
    flat_map (λ session. option_to_list (act_of sessions session step)) (group sessions first)

-- a group begins all its sessions, and then takes its twenty steps, each session in turn
unfoldable pub group_acts : ℕ → ℕ → List Act
group_acts sessions first = map (λ session. Begins session) (group sessions first)
    ++ flat_map (step_acts sessions first) (range_with_len 0 20)

-- groups of ten, in order
unfoldable pub acts : ℕ → List Act
acts sessions =
    flat_map (λ g. group_acts sessions (10 * g)) (range_with_len 0 ((sessions + 9) / 10))

-- what is asked at an act: session s has the booking s + 1, an answer takes the next draw for its
-- response, and no answer and no closing names a booking
abbrev pub request_at : ℕ → Act → Request
request_at state (Begins s) = Begin (s + 1)
request_at state (Answers s k) = Answer s k (upper_bits (next_state state) % 2) None
request_at state (Closes s) = Close s None

-- the state after an act
abbrev pub state_behind : ℕ → Act → ℕ
state_behind state (Answers s k) = next_state state
state_behind state _ = state

-- the requests of acts, in order
unfoldable pub requests_from : ℕ → List Act → List Request
requests_from state [] = []
requests_from state (act ∷ acts) =
    request_at state act ∷ requests_from (state_behind state act) acts

unfoldable pub script_text : ℕ → List Act → List ℕ
script_text state ts = text_of_requests (requests_from state ts)
