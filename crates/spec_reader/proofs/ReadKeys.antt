-- The key of the plan that a text means is a key.
use Rattle.std.proofs.Common.{◌≡◌, ℕ, zero, suc, ◌+◌, ◌<◌, List, [], ◌∷◌, ◌++◌, length, get_or, not, ◌&&◌, Option, Some, None, Result, Ok, Err, refl, sym, ap, subst, arith, inl, inr}
use Rattle.std.specs.Prelude.{replicate, slice_index}
use Rattle.std.specs.List.{fold}
use Rattle.std.proofs.lemmas.Bool.{cases_Bool}
use Rattle.exam_text.specs.First.{◌>>=◌, or_fault, unless, fault_where, steps_below}
use Rattle.exam_text.specs.Keys.{IsKey}
use Rattle.exam_text.specs.Words.{words_of, lines_of, word, none_empty}
use Rattle.exam_text.proofs.Firsts.{bind_ok, unless_ok, or_fault_ok, ok_is}
use Rattle.bank_tables.specs.Tables.{Tables}
use Rattle.form_model.specs.Plan.{Plan}
use Rattle.form_model.specs.Forms.{stimuli_of}
use Rattle.spec_reader.specs.declared.keyword.Setting.{Setting}
use Rattle.spec_reader.specs.declared.keyword.Setting.TheVariants as setting
use Rattle.spec_reader.specs.declared.keyword.Constraint.{Constraint}
use Rattle.spec_reader.specs.declared.keyword.Constraint.TheVariants as constraint
use Rattle.spec_reader.specs.declared.keyword.Keyword.{Keyword}
use Rattle.spec_reader.specs.declared.keyword.Keyword.TheVariants as keyword
use Rattle.spec_reader.specs.declared.line_fault.Kind.TheVariants as kind
use Rattle.spec_reader.specs.declared.line_fault.LineFault.{LineFault}
use Rattle.spec_reader.specs.declared.line_fault.LineFault.TheVariants.{Line, Twice}
use Rattle.spec_reader.specs.Keywords.{keyword_of, fits_count}
use Rattle.spec_reader.specs.Rules.{Said, Length, Prior, Rate, Key, Bands, Budget, BaseBudget, Sessions, Journal, Count, Quantity, Enemies, Stimuli, Stimulus, Base, number_in, signeds_in, points_in, key_in, set_in, key_of, setting_said, constraint_said, rule_said, line_of}
use Rattle.spec_reader.specs.Lines.{is_skipped, mark_of, stands, next_rule, rules_of}
use Rattle.spec_reader.specs.Plans.{SaidPlan, blank, with_rule}
use Rattle.spec_reader.specs.Reading.{IsPlanText}
use Rattle.spec_reader.proofs.Keys.{key_is}

-- the key that a rule gives, if it gives one, is a key
abbrev HasKey : Said → Type 0
HasKey (Key k) = IsKey k
HasKey _ = Unit {0}

abbrev HaveKeys : List Said → Type 0
HaveKeys [] = Unit {0}
HaveKeys (rule ∷ rules) = HasKey rule × HaveKeys rules

-- what is read is such a rule
abbrev GivesKey : Result Said LineFault → Type 0
GivesKey (Ok rule) = HasKey rule
GivesKey (Err e) = Unit {0}

bind_gives : {A : Type 0} (r : Result A LineFault) (f : A → Result Said LineFault) → ((x : A) → r ≡ Ok x → GivesKey (f x)) → GivesKey (r >>= f)
bind_gives (Ok x) f h = h x refl
bind_gives (Err e) f h = tt

unless_gives : (o : Option LineFault) (r : Result Said LineFault) → GivesKey r → GivesKey (unless o r)
unless_gives None r h = h
unless_gives (Some e) r h = tt

given : (r : Result Said LineFault) (rule : Said) → GivesKey r → r ≡ Ok rule → HasKey rule
given (Ok x) rule h e = subst HasKey (ok_is {F = LineFault} x rule e) h
given (Err x) rule h e = absurd cc

abbrev number : ℕ → ℕ → List (List ℕ) → Result ℕ LineFault
number at i words = number_in at 999999999 i words

setting_key : (at : ℕ) (s : Setting) (words : List (List ℕ)) → GivesKey (setting_said at s words)
unfolding setting_said
setting_key at setting.Length words = bind_gives (number at 1 words) (λ n. Ok (Length n)) (λ n e. tt)
setting_key at setting.Prior words = bind_gives (signeds_in at words) (λ vs. Ok (Prior vs)) (λ vs e. tt)
setting_key at setting.Rate words = bind_gives (number at 1 words) (λ n. number at 2 words >>= λ d. Ok (Rate n d)) (λ n e. bind_gives (number at 2 words) (λ d. Ok (Rate n d)) (λ d e. tt))
setting_key at setting.Key words =
    bind_gives (key_in at words) (λ k. Ok (Key k))
    (λ k e. let is = key_is (word words 1) k (or_fault_ok (key_of (word words 1)) (Line at kind.Number) k e) in record { count = is.0; bytes = is.1 })
setting_key at setting.Bands words = bind_gives (points_in at words) (λ points. Ok (Bands points)) (λ points e. tt)
setting_key at setting.Budget words = bind_gives (number at 1 words) (λ n. Ok (Budget n)) (λ n e. tt)
setting_key at setting.BaseBudget words = bind_gives (number at 1 words) (λ n. Ok (BaseBudget n)) (λ n e. tt)
setting_key at setting.Sessions words = bind_gives (number at 1 words) (λ n. Ok (Sessions n)) (λ n e. tt)
setting_key at setting.Journal words = bind_gives (number at 1 words) (λ n. Ok (Journal n)) (λ n e. tt)
setting_key at setting.Base words = bind_gives (set_in at 1 words) (λ s. Ok (Base s)) (λ s e. tt)

constraint_key : (at : ℕ) (s : Constraint) (words : List (List ℕ)) → GivesKey (constraint_said at s words)
unfolding constraint_said
constraint_key at constraint.Count words =
    bind_gives (number at 1 words) (λ low. number at 2 words >>= λ high. set_in at 3 words >>= λ s. Ok (Count low high s))
    (λ low e. bind_gives (number at 2 words) (λ high. set_in at 3 words >>= λ s. Ok (Count low high s))
    (λ high e. bind_gives (set_in at 3 words) (λ s. Ok (Count low high s)) (λ s e. tt)))
constraint_key at constraint.Quantity words =
    bind_gives (number_in at 255 1 words) (λ q. number at 2 words >>= λ low. number at 3 words >>= λ high. set_in at 4 words >>= λ s. Ok (Quantity q low high s))
    (λ q e. bind_gives (number at 2 words) (λ low. number at 3 words >>= λ high. set_in at 4 words >>= λ s. Ok (Quantity q low high s))
    (λ low e. bind_gives (number at 3 words) (λ high. set_in at 4 words >>= λ s. Ok (Quantity q low high s))
    (λ high e. bind_gives (set_in at 4 words) (λ s. Ok (Quantity q low high s)) (λ s e. tt))))
constraint_key at constraint.Enemies words = bind_gives (set_in at 1 words) (λ s. Ok (Enemies s)) (λ s e. tt)
constraint_key at constraint.Stimuli words =
    bind_gives (number at 1 words) (λ low. number at 2 words >>= λ high. Ok (Stimuli low high))
    (λ low e. bind_gives (number at 2 words) (λ high. Ok (Stimuli low high)) (λ high e. tt))
constraint_key at constraint.Stimulus words =
    bind_gives (number_in at 255 1 words) (λ s. number at 2 words >>= λ low. number at 3 words >>= λ high. Ok (Stimulus s low high))
    (λ s e. bind_gives (number at 2 words) (λ low. number at 3 words >>= λ high. Ok (Stimulus s low high))
    (λ low e. bind_gives (number at 3 words) (λ high. Ok (Stimulus s low high)) (λ high e. tt)))

rule_key : (at : ℕ) (k : Keyword) (words : List (List ℕ)) → GivesKey (rule_said at k words)
rule_key at (keyword.Setting s) words = setting_key at s words
rule_key at (keyword.Constraint c) words = constraint_key at c words

line_key : (at : ℕ) (words : List (List ℕ)) → GivesKey (line_of at words)
unfolding line_of
line_key at words =
    bind_gives (or_fault (keyword_of (word words 0)) (Line at kind.Word)) (λ first. unless (fault_where (not (fits_count first (length words) && none_empty words)) (Line at kind.Shape)) (rule_said at first words))
    (λ first e. unless_gives (fault_where (not (fits_count first (length words) && none_empty words)) (Line at kind.Shape)) (rule_said at first words) (rule_key at first words))

more_keys : (rules : List Said) (rule : Said) → HaveKeys rules → HasKey rule → HaveKeys (rules ++ rule ∷ [])
more_keys [] rule h k = (k, tt)
more_keys (first ∷ rules) rule h k = (h.0, more_keys rules rule h.1 k)

next_keys : (at : ℕ) (line : List ℕ) (rules read : List Said) → next_rule at line rules ≡ Ok read → HaveKeys rules → HaveKeys read
unfolding next_rule
next_keys at line rules read e h = elim (cases_Bool (is_skipped line)) [
  | inl skipped ↦ subst HaveKeys (ok_is {F = LineFault} rules read (rw skipped at e)) h
  | inr said ↦ (let r = bind_ok (line_of at (words_of line)) (λ rule. unless (fault_where (stands (mark_of rule) rules) (Twice at)) (Ok (rules ++ rule ∷ []))) read (rw said at e) in
      let u = unless_ok (fault_where (stands (mark_of r.0) rules) (Twice at)) (Ok (rules ++ r.0 ∷ [])) read r.2 in
      subst HaveKeys (ok_is {F = LineFault} (rules ++ r.0 ∷ []) read u.1) (more_keys rules r.0 h (given (line_of at (words_of line)) r.0 (line_key at (words_of line)) r.1)))
]

steps_keys : (n : ℕ) (f : ℕ → List Said → Result (List Said) LineFault) (rules read : List Said) → ((i : ℕ) (a c : List Said) → f i a ≡ Ok c → HaveKeys a → HaveKeys c) → steps_below n f rules ≡ Ok read → HaveKeys rules → HaveKeys read
steps_keys zero f rules read keeps e h = subst HaveKeys (ok_is {F = LineFault} rules read e) h
steps_keys (suc n) f rules read keeps e h =
    let r = bind_ok (steps_below n f rules) (f n) read e in
    keeps n r.0 read r.2 (steps_keys n f rules r.0 keeps r.1 h)

rules_keys : (lines : List (List ℕ)) (rules : List Said) → rules_of lines ≡ Ok rules → HaveKeys rules
unfolding rules_of
rules_keys lines rules e = steps_keys (length lines) (λ i read. next_rule (i + 1) (get_or lines i []) read) [] rules (λ i a c. next_keys (i + 1) (get_or lines i []) a c) e tt

rule_keeps : (p : SaidPlan) (rule : Said) → IsKey p.key → HasKey rule → IsKey (with_rule p rule).key
unfolding with_rule
rule_keeps p (Length n) h k = h
rule_keeps p (Prior vs) h k = h
rule_keeps p (Rate n d) h k = h
rule_keeps p (Key key) h k = k
rule_keeps p (Bands points) h k = h
rule_keeps p (Budget n) h k = h
rule_keeps p (BaseBudget n) h k = h
rule_keeps p (Sessions n) h k = h
rule_keeps p (Journal n) h k = h
rule_keeps p (Count low high s) h k = h
rule_keeps p (Quantity q low high s) h k = h
rule_keeps p (Enemies s) h k = h
rule_keeps p (Stimuli low high) h k = h
rule_keeps p (Stimulus s low high) h k = h
rule_keeps p (Base s) h k = h

fold_keeps : (rules : List Said) (p : SaidPlan) → IsKey p.key → HaveKeys rules → IsKey (fold with_rule p rules).key
fold_keeps [] p h k = h
fold_keeps (rule ∷ rules) p h k = fold_keeps rules (with_rule p rule) (rule_keeps p rule h k.0) k.1

zero_bytes : (n i : ℕ) → slice_index (replicate n 0) i < 256
zero_bytes zero i = omega arith
zero_bytes (suc n) zero = omega arith
zero_bytes (suc n) (suc i) = zero_bytes n i

-- the key of the plan that a text means is a key
pub text_key : (b : Tables) (text : List ℕ) (plan : Plan) → IsPlanText b text plan → IsKey plan.key
text_key b text plan h =
    let start : IsKey (replicate 32 0) = record { count = refl; bytes = zero_bytes 32 } in
    subst IsKey (sym (ap (λ (s : SaidPlan). s.key) h.draft)) (fold_keeps h.rules (blank (stimuli_of b)) start (rules_keys (lines_of text) h.rules h.are.lines))
