-- What a loop over fields finds, and sizes that are written.
use Rattle.std.proofs.Common.{◌≡◌, ℕ, ◌+◌, ◌<◌, ◌≤◌, ◌^◌, Bool, true, false, cond, List, [], ◌∷◌, ◌++◌, length, get_or, map, take, refl, sym, ap, ◌∙◌, arith, inl, inr, ◌⊎◌, rules, length-append}
use Rattle.std.proofs.Math.ListN.{get_or-map}
use Rattle.std.proofs.lemmas.List.{length-map, map-append}
use Rattle.std.specs.Prelude.{Ok, Err, ◌==◌}
use Rattle.std.specs.List.{list_any}
use Rattle.std.specs.Str.{IsUtf8}
use Rattle.std.specs.Str.Parse.{digits_value, ParsesUnsigned}
use Rattle.std.proofs.lemmas.Bool.{and_parts, lt-ltb, ltb-true, eqb-false}
use Rattle.std.proofs.lemmas.List.Folds.{list_any_at, list_any_more}
use Rattle.std.proofs.lemmas.List.Elements.{filter_more}
use Rattle.std.proofs.lemmas.Str.{IsUtf8-from_ascii}
use Rattle.std.proofs.lemmas.Str.Parse.{parse_digits}
use Rattle.std.proofs.lemmas.Fmt.{IsAscii-from_digits}
use Rattle.httparse.specs.declared.spans.HeaderSpan.{HeaderSpan}
use Rattle.exam_text.proofs.Numerals.{own}
use Rattle.wire_http.specs.declared.message.WireFault.TheVariants.{BodyTooLong}
use Rattle.wire_http.specs.Fields.{is_length, size_of, values_of, first_of, is_named}

pub here : {A B : Type 0} (p : B → Bool) (g : A → B) (xs : List A) (i : ℕ) (d : A) → i < length xs → p (g (get_or xs i d)) ≡ true
    → true ≡ list_any p (map g xs)
here p g xs i d h t =
    let n : length (map g xs) ≡ length xs = length-map xs g in
    sym (list_any_at p (map g xs) i (g d) (omega (arith, n, h)) (rw (get_or-map g xs i d) t))

pub not_here : {A B : Type 0} (p : B → Bool) (g : A → B) (xs : List A) (i : ℕ) (d : A) → i < length xs
    → list_any p (take i (map g xs)) ≡ false → p (g (get_or xs i d)) ≡ false → list_any p (take (i + 1) (map g xs)) ≡ false
not_here p g xs i d h before f =
    let n : length (map g xs) ≡ length xs = length-map xs g in
    list_any_more p (map g xs) i (g d) (omega (arith, n, h)) ∙ rw (before, get_or-map g xs i d, f) refl

-- the values of one field more
pub values_more : {A : Type 0} (name : List ℕ) (g : A → List ℕ × List ℕ) (xs : List A) (i : ℕ) (d : A) (b : Bool) → i < length xs
    → is_named name (g (get_or xs i d)) ≡ b
    → values_of name (take (i + 1) (map g xs))
    ≡ values_of name (take i (map g xs)) ++ map (λ field. field.1) (cond b (g (get_or xs i d) ∷ []) [])
values_more name g xs i d b h e =
    let n : length (map g xs) ≡ length xs = length-map xs g in
    ap (map (λ (field : List ℕ × List ℕ). field.1)) (filter_more (is_named name) (map g xs) i (g d) (omega (arith, n, h)))
    ∙ rw (get_or-map g xs i d, e) (map-append _ _ _)

pub first_more : (xs : List (List ℕ)) (x : List ℕ) → length xs ≡ 0 → first_of (xs ++ x ∷ []) ≡ x
first_more [] x h = refl
first_more (y ∷ ys) x h = absurd (omega arith)

pub first_kept : (xs : List (List ℕ)) (x : List ℕ) → 0 < length xs → first_of (xs ++ x ∷ []) ≡ first_of xs
first_kept [] x h = absurd (omega arith)
first_kept (y ∷ ys) x h = refl

pub is_text : (text : List ℕ) → is_length text ≡ true → IsUtf8 text
is_text text h = IsUtf8-from_ascii text (IsAscii-from_digits text (own.to text (and_parts _ _ h).0))

pub too_long : (text : List ℕ) → 4096 < digits_value 10 text → Err BodyTooLong ≡ size_of text
too_long text h = rw (lt-ltb _ _ h) refl

-- what isn't read of digits is too long
pub not_read : {E : Type 0} (text : List ℕ) (e : E) → is_length text ≡ true → ParsesUnsigned 64 10 text (Err e)
    → Err BodyTooLong ≡ size_of text
not_read {E} text e h p =
    let some : 0 < length text = ltb-true 0 (length text) (and_parts _ _ (and_parts _ _ h).1).0 in
    let q = parse_digits own {E = E} 64 text (Err e) p (and_parts _ _ h).0 in
    elim (cases (digits_value 10 text)) [
      | inl lt ↦ absurd (q (some, lt))
      | inr le ↦ too_long text (omega (arith, le))
    ]
  where
    cases : (n : ℕ) → (n < 2 ^ 64) ⊎ (2 ^ 64 ≤ n)
    cases n = search rules

-- the span of an empty name and an empty value
abbrev pub blank : HeaderSpan
blank = record { name = record { start = 0; end = 0 }; value = record { start = 0; end = 0 } }

-- what is read of digits is their value
pub read : (E : Type 0) (text : List ℕ) (n : ℕ) → is_length text ≡ true → ParsesUnsigned {E = E} 64 10 text (Ok n)
    → n ≡ digits_value 10 text
read E text n h p = (parse_digits own {E = E} 64 text (Ok n) p (and_parts _ _ h).0).1

-- what isn't empty has the form of a length
pub is_length_of : (text : List ℕ) → (text ≡ []) ⊎ (is_length text ≡ true) → (length text == 0) ≡ false → is_length text ≡ true
is_length_of text (inl e) h = absurd (eqb-false _ _ h (ap (λ (x : List ℕ). length x) e))
is_length_of text (inr l) h = l

pub count_more : (before after : List (List ℕ)) (x : List ℕ) (m n : ℕ) → after ≡ before ++ x ∷ [] → m ≡ length before → n ≡ m + 1
    → n ≡ length after
count_more before after x m n e b h =
    let l = length-append before (x ∷ []) in
    let a = ap (λ (v : List (List ℕ)). length v) e in
    omega (arith, l, a, b, h)
