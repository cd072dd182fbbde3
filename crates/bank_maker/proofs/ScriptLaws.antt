-- The text of a script, act by act.
use Rattle.std.proofs.Common.{◌≡◌, ℕ, ◌+◌, ◌<◌, List, [], ◌∷◌, ◌++◌, length, get_or, drop, refl, sym, ap, ◌∙◌, append_assoc, add-one, drop-cons}
use Rattle.std.proofs.lemmas.List.{append-nil}
use Rattle.std.proofs.Math.Seq.{drop-length}
use Rattle.replay_cli.specs.Scripts.{request_line, text_of_requests}
use Rattle.bank_maker.specs.declared.act.Act.{Act}
use Rattle.bank_maker.specs.Scripts.{request_at, state_behind, requests_from, script_text}

pub script_cons : (state : ℕ) (t : Act) (ts : List Act) → script_text state (t ∷ ts) ≡ (request_line (request_at state t) ++ 10 ∷ []) ++ script_text (state_behind state t) ts
unfolding script_text requests_from text_of_requests
script_cons state t ts = sym (append_assoc (request_line (request_at state t)) (10 ∷ []) (script_text (state_behind state t) ts))

-- an act's line goes from what is left to what is written
pub one_act : (whole out now : List ℕ) (state behind : ℕ) (ts : List Act) (i : ℕ) (d : Act) → i < length ts
    → whole ≡ out ++ script_text state (drop i ts)
    → now ≡ out ++ (request_line (request_at state (get_or ts i d)) ++ 10 ∷ [])
    → behind ≡ state_behind state (get_or ts i d)
    → whole ≡ now ++ script_text behind (drop (i + 1) ts)
one_act whole out now state behind ts i d lt e f g =
    let t : Act = get_or ts i d in
    let first : drop i ts ≡ t ∷ drop (i + 1) ts = rw add-one (drop-cons ts i d lt) in
    e ∙ ap (λ (rest : List Act). out ++ script_text state rest) first
    ∙ ap (λ (text : List ℕ). out ++ text) (script_cons state t (drop (i + 1) ts))
    ∙ sym (append_assoc out (request_line (request_at state t) ++ 10 ∷ []) (script_text (state_behind state t) (drop (i + 1) ts)))
    ∙ (rw (f, g) refl)

nothing_left : (state : ℕ) → script_text state [] ≡ []
unfolding script_text requests_from text_of_requests
nothing_left state = refl

-- no act is left
pub last_act : (whole out : List ℕ) (state : ℕ) (ts : List Act) (i : ℕ) → i ≡ length ts → whole ≡ out ++ script_text state (drop i ts) → out ≡ whole
last_act whole out state ts i e is =
    sym (is ∙ ap (λ (rest : List Act). out ++ script_text state rest) (ap (λ (n : ℕ). drop n ts) e ∙ drop-length ts)
    ∙ ap (λ (rest : List ℕ). out ++ rest) (nothing_left state) ∙ append-nil out)
