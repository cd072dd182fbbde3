-- A word is a key just where it is what hexadecimal writes of 32 bytes.
use Rattle.std.proofs.Common.{◌≡◌, ◌≢◌, ℕ, ◌*◌, ◌<◌, List, length, get_or, Some, None, Result, Ok, Err, refl, sym, ap, ◌∙◌, arith, inl, inr}
use Rattle.std.proofs.lemmas.Bool.{cases_Bool}
use Rattle.std.proofs.lemmas.Slice.Eq.{bytes_eq-Decides}
use Rattle.std.specs.Str.{bytes_eq}
use Rattle.hex.specs.Hex.{encode_lower, decode_sized, IsBytes}
use Rattle.hex.specs.declared.error.FromHexError.{FromHexError}
use Rattle.hex.proofs.HexLemmas.{decode_sized-encode_lower, decode_sized-ok, decode_sized-twice, decode_of-even, decode_pairs-ok}
use Rattle.spec_reader.specs.Rules.{key_of, key_where}

pub key_some : (text k : List ℕ) → length k ≡ 32 → IsBytes k → text ≡ encode_lower k → key_of text ≡ Some k
unfolding key_of
key_some text k len fits e = rw (ap (λ (t : List ℕ). decode_sized t 32) e, decode_sized-encode_lower k 32 len fits, (bytes_eq-Decides text (encode_lower k)).1 e) refl

-- what is decoded is 32 bytes
decoded : (text bytes : List ℕ) → decode_sized text 32 ≡ Ok bytes → (length bytes ≡ 32) × IsBytes bytes
decoded text bytes e =
    let len : length text ≡ 2 * 32 = decode_sized-ok text 32 bytes e in
    let pairs = decode_pairs-ok 0 text bytes (sym (decode_of-even text (omega (arith, len))) ∙ (sym (decode_sized-twice text 32 len) ∙ e)) in
    (omega (arith, len, pairs.1), pairs.2)

pub key_none : (text : List ℕ) → ((k : List ℕ) → length k ≡ 32 → ((i : ℕ) → get_or k i 0 < 256) → text ≢ encode_lower k) → key_of text ≡ None
unfolding key_of
key_none text h = by_decoding (decode_sized text 32) refl
  where
    by_decoding : (r : Result (List ℕ) FromHexError) → decode_sized text 32 ≡ r → key_where text r ≡ None
    by_decoding (Err e) is = refl
    by_decoding (Ok bytes) is =
        let d = decoded text bytes is in
        elim (cases_Bool (bytes_eq text (encode_lower bytes))) [
          | inl same ↦ absurd (h bytes d.0 d.1 ((bytes_eq-Decides text (encode_lower bytes)).0 same))
          | inr other ↦ rw other refl
        ]

some_is : (a b : List ℕ) → Some a ≡ Some b → a ≡ b
some_is a b e = cc

none_is : (b : List ℕ) → None ≡ Some b → ⊥
none_is b e = cc

-- what is read is what is written of it
pub key_is : (text k : List ℕ) → key_of text ≡ Some k → (length k ≡ 32) × IsBytes k × (text ≡ encode_lower k)
unfolding key_of
key_is text k e = by_decoding (decode_sized text 32) refl e
  where
    by_decoding : (r : Result (List ℕ) FromHexError) → decode_sized text 32 ≡ r → key_where text r ≡ Some k → (length k ≡ 32) × IsBytes k × (text ≡ encode_lower k)
    by_decoding (Err e) is some = absurd cc
    by_decoding (Ok bytes) is some =
        let d = decoded text bytes is in
        elim (cases_Bool (bytes_eq text (encode_lower bytes))) [
          | inl same ↦ (let e : bytes ≡ k = some_is bytes k (rw same at some) in (sym (ap length e) ∙ d.0, (λ i. rw (← e) (d.1 i)), (bytes_eq-Decides text (encode_lower bytes)).0 same ∙ ap encode_lower e))
          | inr other ↦ absurd (none_is k (rw other at some))
        ]
