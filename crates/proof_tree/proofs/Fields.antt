-- A number that is read is the number that was written there, and what was written is read.
use Rattle.std.proofs.Common.{◌≡◌, ℕ, ◌+◌, ◌^◌, ◌<◌, ◌≤◌, Bool, true, false, cond, ltb, List, [], ◌∷◌, ◌++◌, length, get_or, take, drop, Ok, Err, refl, sym, ap, ◌∙◌, append_assoc, arith, add-one, length-append, length-drop, inl, inr}
use Rattle.std.specs.Int.{Width, w16, w32, byte_len, from_be_bytes, to_be_bytes}
use Rattle.std.proofs.Math.Seq.{drop-cons}
use Rattle.std.proofs.lemmas.Bool.{ltb-false, ltb-true, le-ltb, lt-ltb}
use Rattle.std.proofs.lemmas.List.{take_at, drop_at, take-append-drop, length-take, get_or-drop, get_or-take, get_or_past, drop-drop}
use Rattle.std.proofs.lemmas.Nat.{be_bytes_2, be_bytes_4, from_be_bytes-to_be_bytes_2, from_be_bytes-to_be_bytes_4}
use Rattle.std.proofs.lemmas.Bool.{cases_lt}
use Rattle.proof_tree.specs.declared.fault.TreeFault.{TreeFault}
use Rattle.proof_tree.specs.declared.fault.TreeFault.TheVariants.{Short}
use Rattle.proof_tree.specs.Reading.{number_at, byte_at}

abbrev pub IsBytes : List ℕ → Type 0
IsBytes bytes = (i : ℕ) → get_or bytes i 0 < 256

-- the bytes have the text from `at` up to `next`
pub record Stands (bytes : List ℕ) (at : ℕ) (text : List ℕ) (next : ℕ) : Type 0 where
  pub parts : drop at bytes ≡ text ++ drop next bytes
  pub ends : next ≡ at + length text

pub nothing_stands : (bytes : List ℕ) (at : ℕ) → Stands bytes at [] at
nothing_stands bytes at = record { parts = refl; ends = omega arith }

pub stand_both : (bytes : List ℕ) (at : ℕ) (x : List ℕ) (mid : ℕ) (y : List ℕ) (next : ℕ) → Stands bytes at x mid → Stands bytes mid y next → Stands bytes at (x ++ y) next
stand_both bytes at x mid y next p q = record {
  parts = p.parts ∙ ap (λ (t : List ℕ). x ++ t) q.parts ∙ sym (append_assoc x y (drop next bytes));
  ends = omega (arith, p.ends, q.ends, length-append x y);
}

pub stand_first : (bytes : List ℕ) (at : ℕ) (x y : List ℕ) (next : ℕ) → Stands bytes at (x ++ y) next → Stands bytes at x (at + length x)
stand_first bytes at x y next p =
    let whole : drop at bytes ≡ x ++ (y ++ drop next bytes) = p.parts ∙ append_assoc x y (drop next bytes) in
    let rest : drop (at + length x) bytes ≡ y ++ drop next bytes = sym (drop-drop (length x) at bytes) ∙ ap (drop (length x)) whole ∙ drop_at x (y ++ drop next bytes) (length x) refl in
    record { parts = whole ∙ ap (λ (t : List ℕ). x ++ t) (sym rest); ends = refl }

pub stand_second : (bytes : List ℕ) (at : ℕ) (x y : List ℕ) (next : ℕ) → Stands bytes at (x ++ y) next → Stands bytes (at + length x) y next
stand_second bytes at x y next p =
    let whole : drop at bytes ≡ x ++ (y ++ drop next bytes) = p.parts ∙ append_assoc x y (drop next bytes) in
    record {
      parts = sym (drop-drop (length x) at bytes) ∙ ap (drop (length x)) whole ∙ drop_at x (y ++ drop next bytes) (length x) refl;
      ends = omega (arith, p.ends, length-append x y);
    }

-- a text that the bytes have at a place ends within them
pub stands_within : (bytes : List ℕ) (at : ℕ) (text : List ℕ) (next : ℕ) → Stands bytes at text next → 0 < length text → next ≤ length bytes
stands_within bytes at text next p some =
    omega (arith, p.ends, ap length p.parts, length-append text (drop next bytes), length-drop at bytes)

IsBytes-drop : (n : ℕ) (bytes : List ℕ) → IsBytes bytes → IsBytes (drop n bytes)
IsBytes-drop n bytes h i = rw get_or-drop (h (n + i))

IsBytes-take : (n : ℕ) (bytes : List ℕ) → IsBytes bytes → IsBytes (take n bytes)
IsBytes-take n bytes h i =
    elim (cases_lt i n) [
      | inl lt ↦ rw (get_or-take n bytes i 0 lt) (h i)
      | inr le ↦ rw (get_or_past (take n bytes) i 0 (omega (arith, length-take n bytes))) (omega arith)
    ]

-- a test that did not fail
pub guard_ok : {A : Type 0} (b : Bool) (d : TreeFault) (x y : A) → cond b (Err d) (Ok x) ≡ Ok y → (b ≡ false) × (x ≡ y)
guard_ok true d x y e = absurd cc
guard_ok false d x y e = (refl, cc)

pub there_ok : {A : Type 0} (b : Bool) (d : TreeFault) (x y : A) → cond b (Ok x) (Err d) ≡ Ok y → (b ≡ true) × (x ≡ y)
there_ok true d x y e = (refl, cc)
there_ok false d x y e = absurd cc

-- ---- numbers

pub record IsWide (w : Width) (limit : ℕ) : Type 0 where
  pub some : 0 < byte_len w
  pub len : (n : ℕ) → length (to_be_bytes w n) ≡ byte_len w
  pub back : (bytes : List ℕ) → length bytes ≡ byte_len w → IsBytes bytes → to_be_bytes w (from_be_bytes w bytes) ≡ bytes
  pub again : (n : ℕ) → n < limit → from_be_bytes w (to_be_bytes w n) ≡ n
  pub below : (bytes : List ℕ) → IsBytes bytes → from_be_bytes w bytes < limit

pub wide16 : IsWide w16 (2 ^ 16)
wide16 = record {
  some = omega arith;
  len = λ n. refl;
  back = λ bytes len fits. be_bytes_2 bytes _ len fits refl;
  again = λ n lt. from_be_bytes-to_be_bytes_2 n lt;
  below = λ bytes fits. omega (arith, fits 0, fits 1);
}

pub wide32 : IsWide w32 (2 ^ 32)
wide32 = record {
  some = omega arith;
  len = λ n. refl;
  back = λ bytes len fits. be_bytes_4 bytes _ len fits refl;
  again = λ n lt. from_be_bytes-to_be_bytes_4 n lt;
  below = λ bytes fits. omega (arith, fits 0, fits 1, fits 2, fits 3);
}

pub number_stands : (w : Width) (limit : ℕ) (wide : IsWide w limit) (bytes : List ℕ) (at n : ℕ) → IsBytes bytes → number_at w bytes at ≡ Ok n → Stands bytes at (to_be_bytes w n) (at + byte_len w) × (n < limit)
number_stands w limit wide bytes at n fits e =
    let rest = drop at bytes in
    let g = guard_ok (ltb (length bytes) (at + byte_len w)) Short (from_be_bytes w (take (byte_len w) (drop at bytes))) n e in
    let long : at + byte_len w ≤ length bytes = ltb-false _ _ g.0 in
    let some = wide.some in
    let rest_fits = IsBytes-drop at bytes fits in
    let front_fits = IsBytes-take (byte_len w) (drop at bytes) rest_fits in
    let front : to_be_bytes w n ≡ take (byte_len w) (drop at bytes) = rw (← g.1) (wide.back (take (byte_len w) (drop at bytes)) (omega (arith, length-take (byte_len w) (drop at bytes), length-drop at bytes)) front_fits) in
    let behind : drop (byte_len w) (drop at bytes) ≡ drop (at + byte_len w) bytes = drop-drop (byte_len w) at bytes in
    (record { parts = rw (front, ← behind) (sym (take-append-drop (byte_len w) (drop at bytes))); ends = omega (arith, wide.len n) }, rw (← g.1) (wide.below (take (byte_len w) (drop at bytes)) front_fits))

pub number_again : (w : Width) (limit : ℕ) (wide : IsWide w limit) (bytes : List ℕ) (at n next : ℕ) → Stands bytes at (to_be_bytes w n) next → n < limit → number_at w bytes at ≡ Ok n
number_again w limit wide bytes at n next p lt =
    let len = wide.len n in
    let within = stands_within bytes at (to_be_bytes w n) next p (omega (arith, len, wide.some)) in
    let long : ltb (length bytes) (at + byte_len w) ≡ false = le-ltb _ _ (omega (arith, p.ends, len, within)) in
    let front : take (byte_len w) (drop at bytes) ≡ to_be_bytes w n = ap (take (byte_len w)) p.parts ∙ take_at (to_be_bytes w n) (drop next bytes) (byte_len w) len in
    rw (long, front, wide.again n lt) refl

-- ---- bytes

pub byte_stands : (bytes : List ℕ) (at b : ℕ) → IsBytes bytes → byte_at bytes at ≡ Ok b → Stands bytes at (b ∷ []) (at + 1) × (b < 256)
byte_stands bytes at b fits e =
    let g = there_ok (ltb at (length bytes)) Short (get_or bytes at 0) b e in
    let lt : at < length bytes = ltb-true _ _ g.0 in
    (record { parts = rw (← g.1, add-one at) (drop-cons bytes at 0 lt); ends = refl }, rw (← g.1) (fits at))

pub byte_again : (bytes : List ℕ) (at b next : ℕ) → Stands bytes at (b ∷ []) next → byte_at bytes at ≡ Ok b
byte_again bytes at b next p =
    let within : next ≤ length bytes = stands_within bytes at (b ∷ []) next p (omega arith) in
    let lt : at < length bytes = omega (arith, p.ends, within) in
    let same : get_or (drop at bytes) 0 0 ≡ b = ap (λ (t : List ℕ). get_or t 0 0) p.parts in
    let here : get_or bytes at 0 ≡ b = ap (λ (i : ℕ). get_or bytes i 0) (omega arith) ∙ sym (get_or-drop at bytes 0 0) ∙ same in
    rw (lt-ltb at (length bytes) lt, here) refl
