-- A text is read exactly where it is a script, and else its first faulty line is found.
use Rattle.std.proofs.Common.{◌≡◌, ℕ, zero, suc, ◌+◌, ◌<◌, ◌⊎◌, inl, inr, List, [], ◌∷◌, ◌++◌, length, get_or, map, Option, Some, None, Result, Ok, Err, refl, sym, ap, ◌∙◌, arith}
use Rattle.std.proofs.lemmas.List.{ext_get_or, get_or-map, length-map}
use Rattle.exam_text.specs.First.{or_fault, each_below, ◌>>=◌}
use Rattle.exam_text.specs.Words.{lines_of, word}
use Rattle.exam_text.proofs.Firsts.{or_fault_ok, each_is, each_from, ok_is}
use Rattle.history_model.specs.declared.request.Request.{Request}
use Rattle.history_model.specs.declared.request.Request.TheVariants.{Exposure}
use Rattle.replay_cli.specs.declared.script_fault.ScriptFault.{ScriptFault}
use Rattle.replay_cli.specs.declared.script_fault.ScriptFault.TheVariants.{Line}
use Rattle.replay_cli.specs.Scripts.{request_line, IsInRange, IsScript, IsRequestLine, IsFirstFaultyLine}
use Rattle.replay_cli.specs.Reading.{request_on, request_at, requests_of}
use Rattle.replay_cli.proofs.RequestLines.{line_read, line_is}
use Rattle.replay_cli.proofs.ScriptLines.{script_lines, script_from_lines}

-- ---- lines that are read

read_at : (lines : List (List ℕ)) (i : ℕ) (r : Request) → request_at lines i ≡ Ok r → (word lines i ≡ request_line r) × IsInRange r
read_at lines i r e = line_is (word lines i) r (or_fault_ok (request_on (word lines i)) (Line (i + 1)) r e)

again_at : (lines : List (List ℕ)) (i : ℕ) (r : Request) → word lines i ≡ request_line r → IsInRange r → request_at lines i ≡ Ok r
again_at lines i r e range = rw (e, line_read r range) refl

pub read_is : (text : List ℕ) (rs : List Request) → requests_of (lines_of text) ≡ Ok rs → IsScript text rs
unfolding requests_of
read_is text rs e =
    let lines = lines_of text in
    let is = each_is (length lines) (request_at lines) rs e in
    let at : (i : ℕ) (d : Request) → i < length rs → (word lines i ≡ request_line (get_or rs i d)) × IsInRange (get_or rs i d) =
    λ i d lt. read_at lines i (get_or rs i d) (is.1 i d (omega (arith, lt, is.0))) in
    let count : length lines ≡ length (map request_line rs) = sym (length-map rs request_line ∙ is.0) in
    let same : lines ≡ map request_line rs = ext_get_or [] lines (map request_line rs) count (λ i lt.
    let lt2 : i < length rs = omega (arith, lt, is.0) in
    (at i Exposure lt2).0 ∙ sym (get_or-map request_line rs i Exposure [] lt2)) in
    script_from_lines text rs (λ i d lt. (at i d lt).1) same

pub script_read : (text : List ℕ) (rs : List Request) → IsScript text rs → requests_of (lines_of text) ≡ Ok rs
unfolding requests_of
script_read text rs is =
    rw (script_lines text rs is) (each_from (length (map request_line rs)) (request_at (map request_line rs)) rs Exposure (sym (length-map rs request_line)) (λ i lt.
    let lt2 : i < length rs = omega (arith, lt, length-map rs request_line) in
    again_at (map request_line rs) i (get_or rs i Exposure) (get_or-map request_line rs i Exposure [] lt2) (is.in_range i Exposure lt2)))

-- ---- the first line that isn't read

last_or_below : (i n : ℕ) → i < suc n → (i < n) ⊎ (i ≡ n)
last_or_below i n lt = grind arith

-- the first fault of values at the numbers below n
record IsFirstErr {A F : Type 0} (n : ℕ) (f : ℕ → Result A F) (fault : F) : Type 0 where
  at : ℕ
  below : at < n
  here : f at ≡ Err fault
  before : (i : ℕ) → i < at → (x : A) × (f i ≡ Ok x)

split_err : {A F : Type 0} (a : Result (List A) F) (b : Result A F) (fault : F) → (a >>= λ xs. b >>= λ x. Ok (xs ++ x ∷ [])) ≡ Err fault
    → (a ≡ Err fault) ⊎ ((xs : List A) × (a ≡ Ok xs) × (b ≡ Err fault))
split_err (Err f) b fault e = inl cc
split_err (Ok xs) (Err f) fault e = inr (xs, refl, cc)
split_err (Ok xs) (Ok x) fault e = absurd cc

each_err : {A F : Type 0} (n : ℕ) (f : ℕ → Result A F) (fault : F) → each_below n f ≡ Err fault → IsFirstErr n f fault
each_err zero f fault e = absurd cc
each_err {A} {F} (suc n) f fault e = elim (split_err (each_below n f) (f n) fault e) [
  | inl front ↦ (let r = each_err n f fault front in
      record { at = r.at; below = omega (arith, r.below); here = r.here; before = r.before })
  | inr last ↦ record {
    at = n;
    below = omega arith;
    here = last.2;
    before = λ i lt. some_at n f last.0 last.1 i lt;
  }
]
  where
    some_at : (n : ℕ) (f : ℕ → Result A F) (xs : List A) → each_below n f ≡ Ok xs → (i : ℕ) → i < n → (x : A) × (f i ≡ Ok x)
    some_at n f [] e i lt = absurd (omega (arith, lt, (each_is n f [] e).0))
    some_at n f (x ∷ xs) e i lt = (get_or (x ∷ xs) i x, (each_is n f (x ∷ xs) e).1 i x lt)

missing : (o : Option Request) (f e : ScriptFault) → or_fault o f ≡ Err e → (o ≡ None) × (e ≡ f)
missing None f e h = (refl, cc)
missing (Some r) f e h = absurd cc

unread : (line : List ℕ) → request_on line ≡ None → IsRequestLine line → ⊥
unread line none is =
    let some : request_on line ≡ Some is.request = rw is.words (line_read is.request is.in_range) in
    differ is.request (sym none ∙ some)
  where
    differ : (r : Request) → None ≡ Some r → ⊥
    differ r e = absurd cc

-- the fault of a text is the number of its first faulty line
pub record IsLineFault (text : List ℕ) (fault : ScriptFault) : Type 0 where
  pub line : ℕ
  pub is : fault ≡ Line line
  pub first : IsFirstFaultyLine text line

pub fault_is : (text : List ℕ) (fault : ScriptFault) → requests_of (lines_of text) ≡ Err fault → IsLineFault text fault
unfolding requests_of
fault_is text fault e =
    let lines = lines_of text in
    let first = each_err (length lines) (request_at lines) fault e in
    let m = missing (request_on (word lines first.at)) (Line (first.at + 1)) fault first.here in
    record {
      line = first.at + 1;
      is = m.1;
      first = record {
        at = first.at;
        number = refl;
        within = first.below;
        here = unread (word lines first.at) m.0;
        before = λ i lt. let b = first.before i lt in let is = read_at lines i b.0 b.1 in record { request = b.0; in_range = is.1; words = is.0 };
      };
    }

-- ---- a text is a script of one list, or has one first faulty line

pub some_reading : (text : List ℕ) → ((rs : List Request) × IsScript text rs) ⊎ ((n : ℕ) × IsFirstFaultyLine text n)
some_reading text = from (requests_of (lines_of text)) refl
  where
    from : (r : Result (List Request) ScriptFault) → requests_of (lines_of text) ≡ r → ((rs : List Request) × IsScript text rs) ⊎ ((n : ℕ) × IsFirstFaultyLine text n)
    from (Ok rs) e = inl (rs, read_is text rs e)
    from (Err fault) e = let is = fault_is text fault e in inr (is.line, is.first)

pub one_list : (text : List ℕ) (rs qs : List Request) → IsScript text rs → IsScript text qs → rs ≡ qs
one_list text rs qs a b = ok_is {F = ScriptFault} rs qs (sym (script_read text rs a) ∙ script_read text qs b)

pub one_line : (text : List ℕ) (n m : ℕ) → IsFirstFaultyLine text n → IsFirstFaultyLine text m → n ≡ m
one_line text n m a b = elim (order a.at b.at) [
  | inl less ↦ absurd (a.here (b.before a.at less))
  | inr rest ↦ elim rest [
    | inl more ↦ absurd (b.here (a.before b.at more))
    | inr same ↦ a.number ∙ ap (λ (k : ℕ). k + 1) same ∙ sym b.number
  ]
]
  where
    order : (i j : ℕ) → (i < j) ⊎ ((j < i) ⊎ (i ≡ j))
    order i j = grind arith

pub no_fault : (text : List ℕ) (rs : List Request) (n : ℕ) → IsScript text rs → IsFirstFaultyLine text n → ⊥
no_fault text rs n is fault =
    let same = script_lines text rs is in
    let lt : fault.at < length rs = omega (arith, fault.within, ap length same, length-map rs request_line) in
    fault.here (record {
      request = get_or rs fault.at Exposure;
      in_range = is.in_range fault.at Exposure lt;
      words = rw same (get_or-map request_line rs fault.at Exposure [] lt);
    })
