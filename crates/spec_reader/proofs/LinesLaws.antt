-- Lines of the grammar are read, one after the other.
use Rattle.std.proofs.Common.{◌≡◌, ℕ, zero, suc, ◌+◌, true, false, List, [], ◌∷◌, ◌++◌, length, get_or, Result, Ok, Err, refl, sym, ap, ◌∙◌, arith, inl, inr, add-zero, zero-add}
use Rattle.std.proofs.Math.Path.{fun_ext}
use Rattle.exam_text.specs.First.{◌>>=◌, steps_below}
use Rattle.exam_text.specs.Words.{words_of}
use Rattle.spec_reader.specs.declared.line_fault.LineFault.{LineFault}
use Rattle.spec_reader.specs.Rules.{Said, line_of}
use Rattle.spec_reader.specs.Lines.{is_skipped, mark_of, stands, next_rule, rules_of}
use Rattle.spec_reader.specs.Grammar.{SayBehind}
use Rattle.spec_reader.proofs.SayLaws.{line_again}

bind_done : {A F : Type 0} (r : Result A F) → (r >>= λ x. Ok x) ≡ r
bind_done (Ok x) = refl
bind_done (Err e) = refl

bind_assoc : {A B C F : Type 0} (r : Result A F) (f : A → Result B F) (g : B → Result C F) → ((r >>= f) >>= g) ≡ (r >>= λ x. f x >>= g)
bind_assoc (Ok x) f g = refl
bind_assoc (Err e) f g = refl

steps_same : {A F : Type 0} (n : ℕ) (f g : ℕ → A → Result A F) (a : A) → ((i : ℕ) (b : A) → f i b ≡ g i b) → steps_below n f a ≡ steps_below n g a
steps_same zero f g a h = refl
steps_same {A} {F} (suc n) f g a h =
    ap (λ (r : Result A F). r >>= f n) (steps_same n f g a h) ∙ ap (λ (k : A → Result A F). steps_below n g a >>= k) (fun_ext (h n))

-- the first step, and then the others
steps_front : {A F : Type 0} (n : ℕ) (f : ℕ → A → Result A F) (a : A) → steps_below (suc n) f a ≡ (f 0 a >>= λ b. steps_below n (λ i. f (suc i)) b)
steps_front zero f a = sym (bind_done (f 0 a))
steps_front {A} {F} (suc n) f a =
    ap (λ (r : Result A F). r >>= f (suc n)) (steps_front n f a) ∙ bind_assoc (f 0 a) (λ b. steps_below n (λ i. f (suc i)) b) (f (suc n))

-- the lines after the first k
unfoldable pub read_from : ℕ → List (List ℕ) → List Said → Result (List Said) LineFault
read_from k [] rules = Ok rules
read_from k (line ∷ lines) rules = next_rule (k + 1) line rules >>= read_from (k + 1) lines

from_front : (lines : List (List ℕ)) (k : ℕ) (rules : List Said) → steps_below (length lines) (λ i rules. next_rule (k + i + 1) (get_or lines i []) rules) rules ≡ read_from k lines rules
unfolding read_from
from_front [] k rules = refl
from_front (line ∷ lines) k rules =
    let f : ℕ → List Said → Result (List Said) LineFault = λ i rules. next_rule (k + i + 1) (get_or (line ∷ lines) i []) rules in
    let g : ℕ → List Said → Result (List Said) LineFault = λ i rules. next_rule (k + 1 + i + 1) (get_or lines i []) rules in
    let first : f 0 rules ≡ next_rule (k + 1) line rules = rw (add-zero k) refl in
    let others : (b : List Said) → steps_below (length lines) (λ i. f (suc i)) b ≡ read_from (k + 1) lines b =
    λ b. steps_same (length lines) (λ i. f (suc i)) g b (λ i rules. let e : k + suc i + 1 ≡ k + 1 + i + 1 = omega arith in ap (λ (at : ℕ). next_rule at (get_or lines i []) rules) e) ∙ from_front lines (k + 1) b in
    steps_front (length lines) f rules
    ∙ (ap (λ (r : Result (List Said) LineFault). r >>= λ b. steps_below (length lines) (λ i. f (suc i)) b) first
    ∙ ap (λ (h : List Said → Result (List Said) LineFault). next_rule (k + 1) line rules >>= h) (fun_ext others))

pub rules_from_front : (lines : List (List ℕ)) → rules_of lines ≡ read_from 0 lines []
unfolding rules_of
rules_from_front lines =
    steps_same (length lines) (λ i rules. next_rule (i + 1) (get_or lines i []) rules) (λ i rules. next_rule (0 + i + 1) (get_or lines i []) rules) [] (λ i rules. ap (λ (at : ℕ). next_rule (at + 1) (get_or lines i []) rules) (sym (zero-add i)))
    ∙ from_front lines 0 []

next_skips : (at : ℕ) (line : List ℕ) (rules : List Said) → is_skipped line ≡ true → next_rule at line rules ≡ Ok rules
unfolding next_rule
next_skips at line rules h = rw h refl

next_says : (at : ℕ) (line : List ℕ) (rules : List Said) (rule : Said) → is_skipped line ≡ false → line_of at (words_of line) ≡ Ok rule → stands (mark_of rule) rules ≡ false → next_rule at line rules ≡ Ok (rules ++ rule ∷ [])
unfolding next_rule
next_says at line rules rule h e free = rw (h, e, free) refl

say_again : (lines : List (List ℕ)) (k : ℕ) (before rules : List Said) → SayBehind before lines rules → read_from k lines before ≡ Ok rules
unfolding read_from
say_again [] k before rules h = ap (λ (rs : List Said). Ok rs) h
say_again (line ∷ lines) k before rules (inl h) = rw (next_skips (k + 1) line before h.0) (say_again lines (k + 1) before rules h.1)
say_again (line ∷ lines) k before rules (inr h) =
    rw (next_says (k + 1) line before h.1.0 h.0 (line_again (k + 1) (words_of line) h.1.0 h.1.1) h.1.2) (say_again lines (k + 1) (before ++ h.1.0 ∷ []) rules h.1.3)

-- lines of the grammar are read as the rules that they mean
pub lines_again : (lines : List (List ℕ)) (rules : List Said) → SayBehind [] lines rules → rules_of lines ≡ Ok rules
lines_again lines rules h = rules_from_front lines ∙ say_again lines 0 [] rules h
