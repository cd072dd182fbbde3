-- What clap makes of words of which none begins with a hyphen: its one argument has all of them,
-- and no test of it fails.
use Rattle.std.proofs.Common.{◌≡◌, ◌≢◌, ℕ, List, [], ◌∷◌, ◌++◌, Bool, true, false, Some, None, refl, sym, ap, ◌∙◌, codes, length, ◌||◌, ◌==◌, map, append_assoc, option_and_then, fold, subst, is_some}
use Rattle.std.proofs.lemmas.Bool.{ne_eqb, eqb-false, cond-false, and_left, and_from, or_right, or_parts}
use Rattle.std.specs.Str.{bytes_eq}
use Rattle.std.specs.List.{list_any}
use Rattle.std.specs.Option.{option_map_or, unwrap_or}
use Rattle.clap.specs.Lexer.{long_of, long_of_rest, short_of, short_of_rest, strip_byte}
use Rattle.clap.specs.Walk.{Row, Rule, Text, Walk, Held, walked, walk_from, walk, nothing_held, finished, used, all_of, reading_by, positional, idle, Waiting, Step, after_step, plain_word, subcommand_or_other, long_or_other, short_or_plain}
use Rattle.clap.specs.Simple.{App, is_simple, new_shape, new_rule, with_rule, built, filled, with_index, matches_of, Shape, entered}
use Rattle.clap.specs.Takes.{takes, walk_passes, settle_passes, flag_word_passes, bundle_passes, turn_passes, step_passes, entered_passes, level_passes}
use Rattle.clap.specs.declared.builder.action.ArgAction.TheVariants.{Append}
use Rattle.clap.specs.declared.parser.matches.ValueSource.TheVariants.{CommandLine}
use Rattle.clap.proofs.OnLiterals.{clap_on_literals}
use Rattle.command_line.specs.Commands.{is_no_name}

-- the word doesn't begin with a hyphen
abbrev NoHyphen : Text → Type 0
NoHyphen [] = Unit {0}
NoHyphen (b ∷ bs) = b ≢ 45

abbrev AllNoHyphen : List Text → Type 0
AllNoHyphen [] = Unit {0}
AllNoHyphen (w ∷ ws) = NoHyphen w × AllNoHyphen ws

no_hyphen : (w : Text) → is_no_name w ≡ false → NoHyphen w
no_hyphen [] h = tt
no_hyphen (b ∷ bs) h = eqb-false b 45 (or_parts (length (b ∷ bs) == 0) (b == 45) h).1

none_hyphen : (ws : List Text) → list_any is_no_name ws ≡ false → AllNoHyphen ws
none_hyphen [] h = tt
none_hyphen (w ∷ ws) h =
    let (one, others) = or_parts (is_no_name w) (list_any is_no_name ws) h in
    (no_hyphen w one, none_hyphen ws others)

-- ---- the argument, and the command that has it
abbrev pub words_rule : Rule
words_rule = record (new_rule (codes "words")) { action = Some Append }

abbrev pub app : App
app = with_rule (record { top = record (new_shape (codes "shadowd")) { no_binary_name = true; disable_help_flag = true }; subs = [] }) words_rule

abbrev pub rule : Rule
rule = with_index 1 (filled words_rule)

pub simple : is_simple app ≡ true
unfolding clap_on_literals
simple = refl

pub the_rules : (built app).top.rules ≡ rule ∷ []
the_rules = refl

-- ---- the walk over the words
abbrev row : List Text → Row
row vs = record { id = codes "words"; values = vs; count = None; source = Some CommandLine; reading = reading_by rule }

abbrev rows : List Text → List Row
rows [] = []
rows (v ∷ vs) = row (v ∷ vs) ∷ []

abbrev state : List Text → Text → Walk
state vs last = record { held = record { rows = rows vs; pending = Some (codes "words", last ∷ []); skip = 0 }; waiting = positional; position = 1; is_trailing = false; stopped = None }

-- one more use of the argument
once_more : (vs : List Text) (w : Text) → used rule (w ∷ []) (rows vs) ≡ rows (vs ++ w ∷ [])
unfolding clap_on_literals
once_more [] w = refl
once_more (v ∷ vs) w = refl

dashes : (w : Text) → NoHyphen w → bytes_eq w (45 ∷ 45 ∷ []) ≡ false
dashes [] h = refl
dashes (b ∷ bs) h = and_left (b == 45) _ (ne_eqb b 45 h)

long_none : (w : Text) → NoHyphen w → long_of w ≡ None
long_none [] h = refl
long_none (b ∷ bs) h = ap (λ o. option_and_then long_of_rest (option_and_then (strip_byte 45) o)) (cond-false (b == 45) (Some bs) None (ne_eqb b 45 h))

short_none : (w : Text) → NoHyphen w → short_of w ≡ None
short_none [] h = refl
short_none (b ∷ bs) h = ap (option_and_then short_of_rest) (cond-false (b == 45) (Some bs) None (ne_eqb b 45 h))

other : (c : List Rule) (waiting : Waiting) (position : ℕ) (w : Text) (h : Held) → NoHyphen w → subcommand_or_other c None waiting position w h ≡ plain_word c waiting w h
other c waiting position w h nh =
    cond-false (bytes_eq w (45 ∷ 45 ∷ [])) _ _ (dashes w nh) ∙ ap (λ o. long_or_other c waiting w o h) (long_none w nh) ∙ ap (λ o. short_or_plain c waiting w o h) (short_none w nh)

first_word : (w : Text) → NoHyphen w → walked (rule ∷ []) [] (walk_from nothing_held) w ≡ state [] w
unfolding walked
first_word w nh = ap (λ (m : Held × Step). after_step (rule ∷ []) w (walk_from nothing_held) m.0 m.1) (other (rule ∷ []) idle 1 w nothing_held nh)

next_word : (vs : List Text) (last w : Text) → NoHyphen w → walked (rule ∷ []) [] (state vs last) w ≡ record (state vs last) { held = record { rows = used rule (last ∷ []) (rows vs); pending = Some (codes "words", w ∷ []); skip = 0 } }
unfolding walked
next_word vs last w nh = ap (λ (m : Held × Step). after_step (rule ∷ []) w (state vs last) m.0 m.1) (other (rule ∷ []) positional 1 w (state vs last).held nh)

on_state : (vs : List Text) (last w : Text) → NoHyphen w → walked (rule ∷ []) [] (state vs last) w ≡ state (vs ++ last ∷ []) w
on_state vs last w nh = next_word vs last w nh ∙ ap (λ (r : List Row). record (state vs last) { held = record { rows = r; pending = Some (codes "words", w ∷ []); skip = 0 } }) (once_more vs last)

ends : (vs : List Text) (last : Text) → finished (rule ∷ []) (state vs last).held ≡ rows (vs ++ last ∷ [])
unfolding clap_on_literals
ends [] last = refl
ends (v ∷ vs) last = refl

along : (vs : List Text) (last : Text) (ws : List Text) → AllNoHyphen ws → finished (rule ∷ []) (fold (walked (rule ∷ []) []) (state vs last) ws).held ≡ rows (vs ++ last ∷ ws)
along vs last [] h = ends vs last
along vs last (w ∷ ws) h =
    ap (λ (x : Walk). finished (rule ∷ []) (fold (walked (rule ∷ []) []) x ws).held) (on_state vs last w h.0)
    ∙ along (vs ++ last ∷ []) w ws h.1 ∙ ap rows (append_assoc vs (last ∷ []) (w ∷ ws))

all_rows : (ws : List Text) → AllNoHyphen ws → matches_of app ws ≡ rows ws
all_rows [] h = refl
all_rows (w ∷ ws) h = ap (λ (x : Walk). finished (rule ∷ []) (fold (walked (rule ∷ []) []) x ws).held) (first_word w h.0) ∙ along [] w ws h.1

of_rows : (vs : List Text) → unwrap_or (all_of (codes "words") (rows vs)) [] ≡ vs
of_rows [] = refl
of_rows (v ∷ vs) = refl

pub all_given : (ws : List Text) → list_any is_no_name ws ≡ false → unwrap_or (all_of (codes "words") (matches_of app ws)) [] ≡ ws
all_given ws h = ap (λ (r : List Row). unwrap_or (all_of (codes "words") r) []) (all_rows ws (none_hyphen ws h)) ∙ of_rows ws

-- ---- each test passes
abbrev shape : Shape
shape = (built app).top

held_at : List Text → Text → Held
held_at vs last = (state vs last).held

plain_passes : (w : Text) (h : Held) → NoHyphen w → flag_word_passes shape.rules shape.args_override_self (long_of w) w h ≡ true
plain_passes w h nh =
    ap (λ o. flag_word_passes shape.rules shape.args_override_self o w h) (long_none w nh)
    ∙ ap (λ o. option_map_or (λ flags. bundle_passes shape.rules shape.args_override_self flags h) o true) (short_none w nh)

turn_first : (w : Text) → NoHyphen w → turn_passes shape [] (walk_from nothing_held) w ≡ true
turn_first w nh =
    and_from _ _ (or_right (bytes_eq w (45 ∷ 45 ∷ [])) _ (plain_passes w nothing_held nh))
    (ap (λ (m : Held × Step). step_passes shape 1 m.0 m.1) (other (rule ∷ []) idle 1 w nothing_held nh))

turn_next : (vs : List Text) (last w : Text) → NoHyphen w → turn_passes shape [] (state vs last) w ≡ true
turn_next vs last w nh =
    and_from _ _ (or_right (bytes_eq w (45 ∷ 45 ∷ [])) _ (plain_passes w (state vs last).held nh))
    (ap (λ (m : Held × Step). step_passes shape 1 m.0 m.1) (other (rule ∷ []) positional 1 w (state vs last).held nh))

passes_from : (vs : List Text) (last : Text) (ws : List Text) → AllNoHyphen ws → walk_passes shape [] (state vs last) ws ≡ true
unfolding walk_passes
passes_from vs last [] h = refl
passes_from vs last (w ∷ ws) h =
    and_from _ _ (turn_next vs last w h.0) (ap (λ (x : Walk). walk_passes shape [] x ws) (on_state vs last w h.0) ∙ passes_from (vs ++ last ∷ []) w ws h.1)

-- a walk over some words ends so
pub record Ends (x : Walk) : Type 0 where
  pub stopped : x.stopped ≡ None
  pub settles : settle_passes shape.rules shape.args_override_self x.held ≡ true

ends_well : (vs : List Text) (last : Text) (ws : List Text) → AllNoHyphen ws → Ends (fold (walked (rule ∷ []) []) (state vs last) ws)
ends_well vs last [] h = record { stopped = refl; settles = refl }
ends_well vs last (w ∷ ws) h = subst (λ (x : Walk). Ends (fold (walked (rule ∷ []) []) x ws)) (sym (on_state vs last w h.0)) (ends_well (vs ++ last ∷ []) w ws h.1)

taken : (ws : List Text) (x : Walk) → Ends x → walk (rule ∷ []) [] nothing_held ws ≡ x → walk_passes shape [] (walk_from nothing_held) ws ≡ true → takes app ws ≡ true
unfolding clap_on_literals
taken ws x e is passes =
    let stop : (walk (rule ∷ []) [] nothing_held ws).stopped ≡ None = ap (λ (y : Walk). y.stopped) is ∙ e.stopped in
    let settle : settle_passes shape.rules shape.args_override_self (walk (rule ∷ []) [] nothing_held ws).held ≡ true = ap (λ (y : Walk). settle_passes shape.rules shape.args_override_self y.held) is ∙ e.settles in
    and_from _ _ (ap (entered_passes (built app)) stop)
    (ap (λ b. level_passes shape [] nothing_held ws b) (ap (λ o. is_some (entered (built app) o)) stop) ∙ and_from _ _ passes (and_from _ _ settle refl))

none_passes : walk_passes shape [] (walk_from nothing_held) [] ≡ true
unfolding walk_passes
none_passes = refl

some_pass : (w : Text) (ws : List Text) → AllNoHyphen (w ∷ ws) → walk_passes shape [] (walk_from nothing_held) (w ∷ ws) ≡ true
unfolding walk_passes
some_pass w ws h = and_from _ _ (turn_first w h.0) (ap (λ (x : Walk). walk_passes shape [] x ws) (first_word w h.0) ∙ passes_from [] w ws h.1)

all_pass : (ws : List Text) → AllNoHyphen ws → takes app ws ≡ true
all_pass [] h = taken [] (walk_from nothing_held) (record { stopped = refl; settles = refl }) refl none_passes
all_pass (w ∷ ws) h =
    let start = first_word w h.0 in
    taken (w ∷ ws) (fold (walked (rule ∷ []) []) (state [] w) ws) (ends_well [] w ws h.1) (ap (λ (x : Walk). fold (walked (rule ∷ []) []) x ws) start) (some_pass w ws h)

pub all_taken : (ws : List Text) → list_any is_no_name ws ≡ false → takes app ws ≡ true
all_taken ws h = all_pass ws (none_hyphen ws h)

-- a test of some word
pub any_mapped : {A B : Type 0} (p : B → Bool) (f : A → B) (xs : List A) → list_any p (map f xs) ≡ list_any (λ x. p (f x)) xs
any_mapped p f [] = refl
any_mapped p f (x ∷ xs) = ap (λ (b : Bool). p (f x) || b) (any_mapped p f xs)
