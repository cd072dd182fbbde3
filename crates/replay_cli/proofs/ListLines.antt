-- A list is read exactly where it is spelled in its maximal runs.
use Rattle.std.proofs.Common.{◌≡◌, ℕ, zero, suc, ◌<◌, inl, inr, Bool, true, false, ◌&&◌, cond, ltb, List, length, drop, Option, Some, None, refl, sym, ap, subst, ◌∙◌, arith, codes}
use Rattle.std.specs.Prelude.{bytes_eq}
use Rattle.std.proofs.Math.Path.{fun_ext}
use Rattle.std.proofs.lemmas.Bool.{and_parts, and_from, cases_lt, cases_eq, lt-ltb, ltb-true, le-leb, or_left, or_right, true≢false}
use Rattle.std.proofs.lemmas.List.{length-map}
use Rattle.bank_tables.specs.Items.{Set, has, AreWords}
use Rattle.bank_tables.proofs.Bits.{has_past}
use Rattle.bank_tables.specs.Sums.{any_below}
use Rattle.exam_text.specs.First.{all_below}
use Rattle.exam_text.specs.Numbers.{number_of}
use Rattle.exam_text.specs.Words.{word}
use Rattle.exam_text.specs.declared.run.Run.{Run}
use Rattle.exam_text.specs.Runs.{IsRun, run_of, run_word, is_run_from, fits, in_run, is_set}
use Rattle.exam_text.proofs.Numerals.{number_is, number_again}
use Rattle.exam_text.proofs.RunLaws.{run_is}
use Rattle.history_model.specs.declared.request.Request.{Request}
use Rattle.history_model.specs.declared.request.Request.TheVariants.{BeginWithout}
use Rattle.spec_reader.specs.Sets.{in_set, runs_of}
use Rattle.spec_reader.specs.Canonical.{set_words}
use Rattle.spec_reader.specs.Grammar.{AreRuns, in_runs, IsSet}
use Rattle.spec_reader.proofs.RunsLaws.{runs_items}
use Rattle.spec_reader.proofs.SayLaws as say
use Rattle.replay_cli.specs.Scripts.{request_words, IsInRange}
use Rattle.replay_cli.specs.Reading.{words_below, list_in, begin_with, without_in}
use Rattle.replay_cli.proofs.WordLists.{are_words, has_words, same_words}

-- ---- what is written is read

pub list_again : (items : List ℕ) → AreWords items → IsSet (has items) → list_in (set_words (has items)) ≡ Some items
list_again items words is =
    let of : AreRuns (runs_of (has items)) × ((x : ℕ) → has items x ≡ in_runs (runs_of (has items)) x) = runs_items (has items) is in
    let same : in_set (set_words (has items)) ≡ has items = fun_ext (λ x. say.runs_items (runs_of (has items)) of.0 x ∙ sym (of.1 x)) in
    rw (say.runs_are_set (runs_of (has items)) of.0, same, sym (same_words items (has items) words (λ i lt. refl))) refl

pub without_again : (booking : ℕ) (items : List ℕ) → IsInRange (BeginWithout booking items) → without_in (request_words (BeginWithout booking items)) ≡ Some (BeginWithout booking items)
unfolding without_in
without_again booking items h =
    let of = runs_items (has items) h.2 in
    let many : length (set_words (has items)) ≡ length (runs_of (has items)) = length-map (runs_of (has items)) run_word in
    let long : 3 < length (request_words (BeginWithout booking items)) = omega (arith, many, of.0.some) in
    rw (lt-ltb 3 (length (request_words (BeginWithout booking items))) long, number_again 18446744073709551615 booking (omega arith) h.0, list_again items h.1 h.2) refl

-- ---- what is read is written

chosen : {A : Type 0} (b : Bool) (o : Option A) (x : A) → cond b o None ≡ Some x → (b ≡ true) × (o ≡ Some x)
chosen true o x e = (refl, e)
chosen false o x e = absurd cc

some_is : {A : Type 0} (a b : A) → Some a ≡ Some b → a ≡ b
some_is a b e = cc

both : (a : Option ℕ) (c : Option (List ℕ)) (r : Request) → begin_with a c ≡ Some r → (booking : ℕ) × (items : List ℕ) × (a ≡ Some booking) × (c ≡ Some items) × (BeginWithout booking items ≡ r)
both None c r e = absurd cc
both (Some n) None r e = absurd cc
both (Some n) (Some items) r e = (n, items, refl, refl, cc)

first_fits : (n : ℕ) (p : ℕ → Bool) → 0 < n → all_below n p ≡ true → p 0 ≡ true
first_fits zero p some all = absurd (omega arith)
first_fits (suc zero) p some all = (and_parts true (p 0) all).1
first_fits (suc (suc n)) p some all = first_fits (suc n) p (omega arith) (and_parts (all_below (suc n) p) (p (suc n)) all).0

any_intro : (n : ℕ) (p : Set) (i : ℕ) → i < n → p i ≡ true → any_below n p ≡ true
any_intro zero p i lt e = absurd (omega (arith, lt))
any_intro (suc n) p i lt e = elim (cases_eq i n) [
  | inl same ↦ or_right (any_below n p) (p n) (ap p (sym same) ∙ e)
  | inr other ↦ or_left (any_below n p) (p n) (any_intro n p i (omega (arith, lt, other)) e)
]

a_run : (o : Option Run) → is_run_from 0 o ≡ true → (r : Run) × (o ≡ Some r)
a_run None e = absurd (true≢false (sym e))
a_run (Some r) e = (r, refl)

-- the words of a set have an item, the first of the first run
a_member : (words : List (List ℕ)) → is_set words ≡ true → (x : ℕ) × (x < 512) × (in_set words x ≡ true)
unfolding is_set in_set
a_member words e =
    let p = and_parts (ltb 0 (length words)) (all_below (length words) (fits words)) e in
    let some : 0 < length words = ltb-true 0 (length words) p.0 in
    let first = a_run (run_of (word words 0)) (first_fits (length words) (fits words) some p.1) in
    let is : IsRun first.0 = (run_is (word words 0) first.0 first.1).0 in
    let here : in_run first.0.low (run_of (word words 0)) ≡ true = subst (λ (o : Option Run). in_run first.0.low o ≡ true) (sym first.1) (and_from _ _ (le-leb first.0.low first.0.low (omega arith)) (le-leb first.0.low first.0.high is.order)) in
    (first.0.low, omega (arith, is.order, is.high), any_intro (length words) (λ i. in_run first.0.low (run_of (word words i))) 0 some here)

list_is : (words : List (List ℕ)) (items : List ℕ) → list_in words ≡ Some items → AreWords items × IsSet (has items)
list_is words items e =
    let c = chosen (is_set words) (Some (words_below 8 (in_set words))) items e in
    let same : words_below 8 (in_set words) ≡ items = some_is (words_below 8 (in_set words)) items c.1 in
    subst (λ (ws : List ℕ). AreWords ws × IsSet (has ws)) same (are_words (in_set words), set_is words c.0)
  where
    set_is : (words : List (List ℕ)) → is_set words ≡ true → IsSet (has (words_below 8 (in_set words)))
    set_is words e =
        let x = a_member words e in
        record {
          member = x.0;
          is_member = has_words (in_set words) x.0 x.1 ∙ x.2;
          few = λ i in_it. elim (cases_lt i 512) [
            | inl lt ↦ lt
            | inr past ↦ absurd (true≢false (sym in_it ∙ has_past (words_below 8 (in_set words)) i (are_words (in_set words)).eight past))
          ];
        }

pub without_is : (words : List (List ℕ)) (r : Request) → without_in words ≡ Some r → IsInRange r
unfolding without_in
without_is words r e =
    let c = chosen (ltb 3 (length words) && (bytes_eq (word words 0) (codes "begin") && bytes_eq (word words 2) (codes "without"))) (begin_with (number_of 18446744073709551615 (word words 1)) (list_in (drop 3 words))) r e in
    let p = both (number_of 18446744073709551615 (word words 1)) (list_in (drop 3 words)) r c.1 in
    let number = number_is 18446744073709551615 (word words 1) p.0 (omega arith) p.2 in
    let list = list_is (drop 3 words) p.1 p.3 in
    subst IsInRange p.4 (number.0, list.0, list.1)
