-- Sets of items in numbers: each bit is an item, and the 64 bytes and the 8 words of a set
-- determine each other.
use Rattle.std.proofs.Common.{◌≡◌, ℕ, zero, suc, ◌+◌, ◌-◌, ◌*◌, ◌/◌, ◌%◌, ◌^◌, ◌<◌, ◌≤◌, ◌==◌, ◌&&◌, ◌||◌, ◌⊎◌, cond, ltb, Bool, true, false, List, [], ◌∷◌, ◌++◌, length, get_or, take, drop, refl, sym, ap, subst, ◌∙◌, arith, inl, inr, length-append, add-one}
use Rattle.std.specs.Int.{bit_at}
use Rattle.std.proofs.lemmas.Bool.{cases_eq, cases_lt, cases_Bool, lt-ltb, le-ltb, eq-eqb, ne_eqb}
use Rattle.std.proofs.Math.Bool.{or-true, or-false}
use Rattle.std.proofs.lemmas.Nat.Bits.{bit_at-lt, bit_at-zero, bit_at_cat_low, bit_at_cat_high, same_from_bits_below}
use Rattle.std.proofs.lemmas.List.{get_or_append_left, get_or_at, get_or-drop, get_or-take, get_or-append_right, length-take-le, length-drop}
use Rattle.std.proofs.lemmas.Grind.{same_number_lists}
use Rattle.std.proofs.Math.Nat.{pow-suc}
use Rattle.bank_tables.specs.Items.{Set, has, AreWords}
use Rattle.bank_tables.proofs.Bits.{has_past, same_sets}
use Rattle.proof_tree.proofs.Fields.{IsBytes, Stands}
use Rattle.exam_records.specs.Sets.{number_of, numbers_of, set_bytes, words_of, items_at}

-- ---- one number

pub number_none : (X : Set) (first : ℕ) → number_of 0 X first ≡ 0
unfolding number_of
number_none X first = refl

-- an item more is the next bit
pub number_more : (n : ℕ) (X : Set) (first : ℕ) → number_of (n + 1) X first ≡ number_of n X first + cond (X (first + n)) (2 ^ n) 0
unfolding number_of
number_more n X first = rw add-one refl

pub number_below : (n : ℕ) (X : Set) (first : ℕ) → number_of n X first < 2 ^ n
unfolding number_of
number_below zero X first = omega arith
number_below (suc n) X first =
    let fewer = number_below n X first in
    elim (cases_Bool (X (first + n))) [ inl t ↦ rw t (omega (arith, pow-suc 2 n)) | inr f ↦ rw f (omega (arith, pow-suc 2 n)) ]

bit_alone : (b : Bool) → bit_at (cond b 1 0) 0 ≡ cond b 1 0
bit_alone true = refl
bit_alone false = refl

as_high : (n a : ℕ) (b : Bool) → a + cond b (2 ^ n) 0 ≡ cond b 1 0 * 2 ^ n + a
as_high n a true = omega arith
as_high n a false = omega arith

pub number_bits : (n : ℕ) (X : Set) (first j : ℕ) → j < n → bit_at (number_of n X first) j ≡ cond (X (first + j)) 1 0
unfolding number_of
number_bits zero X first j lt = absurd (omega arith)
number_bits (suc n) X first j lt =
    let below : number_of n X first < 2 ^ n = number_below n X first in
    ap (λ (m : ℕ). bit_at m j) (as_high n (number_of n X first) (X (first + n)))
    ∙ (elim (cases_eq j n) [
      | inl same ↦
          let e : j - n ≡ 0 = omega arith in
          bit_at_cat_high (cond (X (first + n)) 1 0) n (number_of n X first) j below (omega arith)
          ∙ ap (bit_at (cond (X (first + n)) 1 0)) e ∙ bit_alone (X (first + n)) ∙ ap (λ (k : ℕ). cond (X (first + k)) 1 0) (sym same)
      | inr other ↦
          let lower : j < n = omega (arith, other) in
          bit_at_cat_low (cond (X (first + n)) 1 0) n (number_of n X first) j lower ∙ number_bits n X first j lower
    ])

-- ---- many

pub numbers_len : (count bits : ℕ) (X : Set) → length (numbers_of count bits X) ≡ count
unfolding numbers_of
numbers_len zero bits X = refl
numbers_len (suc count) bits X = omega (arith, numbers_len count bits X, length-append (numbers_of count bits X) (number_of bits X (bits * count) ∷ []))

pub numbers_more : (count bits : ℕ) (X : Set) → numbers_of (count + 1) bits X ≡ numbers_of count bits X ++ number_of bits X (bits * count) ∷ []
unfolding numbers_of
numbers_more count bits X = rw add-one refl

pub numbers_at : (count bits : ℕ) (X : Set) (k : ℕ) → k < count → get_or (numbers_of count bits X) k 0 ≡ number_of bits X (bits * k)
unfolding numbers_of
numbers_at zero bits X k lt = absurd (omega arith)
numbers_at (suc count) bits X k lt =
    let len = numbers_len count bits X in
    elim (cases_eq k count) [
      | inl same ↦ get_or_at (numbers_of count bits X) (number_of bits X (bits * count)) [] 0 k (omega (arith, len)) ∙ ap (λ (n : ℕ). number_of bits X (bits * n)) (sym same)
      | inr other ↦ get_or_append_left (numbers_of count bits X) (number_of bits X (bits * count) ∷ []) 0 k (omega (arith, len, other)) ∙ numbers_at count bits X k (omega (arith, other))
    ]

-- ---- words

pub are_words : (X : Set) → AreWords (words_of X)
are_words X = record {
  eight = numbers_len 8 64 X;
  small = λ k lt. rw (numbers_at 8 64 X k lt) (number_below 64 X (64 * k));
}

is_bit : (b : Bool) → (cond b 1 0 == 1) ≡ b
is_bit true = refl
is_bit false = refl

pub has_words : (X : Set) (i : ℕ) → i < 512 → has (words_of X) i ≡ X i
unfolding has
has_words X i lt =
    let word : i / 64 < 8 = omega arith in
    let place : i % 64 < 64 = omega arith in
    let again : 64 * (i / 64) + i % 64 ≡ i = omega arith in
    rw (numbers_at 8 64 X (i / 64) word, number_bits 64 X (64 * (i / 64)) (i % 64) place, again) (is_bit (X i))

-- the items of a set determine its words
pub words_again : (words : List ℕ) (X : Set) → AreWords words → ((i : ℕ) → i < 512 → has words i ≡ X i) → words ≡ words_of X
words_again words X are same =
    same_sets words (words_of X) are (are_words X) (λ i. elim (cases_lt i 512) [
      | inl lt ↦ same i lt ∙ sym (has_words X i lt)
      | inr past ↦ has_past words i are.eight past ∙ sym (has_past (words_of X) i (numbers_len 8 64 X) past)
    ])

-- ---- bytes

-- item i is bit i % 8 of byte i / 8
pub byte_bits : (X : Set) (i : ℕ) → i < 512 → bit_at (get_or (set_bytes X) (i / 8) 0) (i % 8) ≡ cond (X i) 1 0
byte_bits X i lt =
    let byte : i / 8 < 64 = omega arith in
    let place : i % 8 < 8 = omega arith in
    let again : 8 * (i / 8) + i % 8 ≡ i = omega arith in
    rw (numbers_at 64 8 X (i / 8) byte, number_bits 8 X (8 * (i / 8)) (i % 8) place, again) refl

-- the items that bytes spell, as far as there are items
pub items_within : (bytes : List ℕ) (at i : ℕ) → i < 512 → items_at bytes at i ≡ (bit_at (get_or bytes (at + i / 8) 0) (i % 8) == 1)
unfolding items_at
items_within bytes at i lt = rw (lt-ltb i 512 lt) refl

same_bit : (n j : ℕ) → cond (bit_at n j == 1) 1 0 ≡ bit_at n j
same_bit n j =
    let small = bit_at-lt n j in
    elim (cases_eq (bit_at n j) 0) [
      | inl none ↦ rw none refl
      | inr some ↦ (let one : bit_at n j ≡ 1 = omega arith in rw one refl)
    ]

-- the bytes of the set that 64 bytes spell are those bytes
pub set_bytes_again : (bytes : List ℕ) (at : ℕ) → IsBytes bytes → at + 64 ≤ length bytes → set_bytes (has (words_of (items_at bytes at))) ≡ take 64 (drop at bytes)
set_bytes_again bytes at fits there =
    same_number_lists (set_bytes (has (words_of (items_at bytes at)))) (take 64 (drop at bytes)) (omega (arith, numbers_len 64 8 (has (words_of (items_at bytes at))), length-take-le 64 (drop at bytes) (omega (arith, length-drop at bytes)), length-drop at bytes)) (λ k lt.
    let within : k < 64 = omega (arith, numbers_len 64 8 (has (words_of (items_at bytes at)))) in
    let here : get_or (take 64 (drop at bytes)) k 0 ≡ get_or bytes (at + k) 0 = get_or-take 64 (drop at bytes) k 0 within ∙ get_or-drop at bytes k 0 in
    numbers_at 64 8 (has (words_of (items_at bytes at))) k within
    ∙ same_from_bits_below 8 (number_of 8 (has (words_of (items_at bytes at))) (8 * k)) (get_or bytes (at + k) 0) (number_below 8 (has (words_of (items_at bytes at))) (8 * k)) (fits (at + k)) (λ j lj. each k j within lj)
    ∙ sym here)
  where
    each : (k j : ℕ) → k < 64 → j < 8 → bit_at (number_of 8 (has (words_of (items_at bytes at))) (8 * k)) j ≡ bit_at (get_or bytes (at + k) 0) j
    each k j lk lj =
        let item : 8 * k + j < 512 = omega arith in
        let byte : (8 * k + j) / 8 ≡ k = omega arith in
        let place : (8 * k + j) % 8 ≡ j = omega arith in
        rw (number_bits 8 (has (words_of (items_at bytes at))) (8 * k) j lj, has_words (items_at bytes at) (8 * k + j) item, items_within bytes at (8 * k + j) item, byte, place) (same_bit (get_or bytes (at + k) 0) j)

-- and where the bytes of a set are, they spell that set
pub set_items_again : (bytes : List ℕ) (at : ℕ) (words : List ℕ) (next : ℕ) → AreWords words → Stands bytes at (set_bytes (has words)) next → words_of (items_at bytes at) ≡ words
set_items_again bytes at words next are p = sym (words_again words (items_at bytes at) are (λ i lt.
    let len = numbers_len 64 8 (has words) in
    let there : get_or bytes (at + i / 8) 0 ≡ get_or (set_bytes (has words)) (i / 8) 0 = sym (get_or-drop at bytes (i / 8) 0) ∙ (ap (λ (t : List ℕ). get_or t (i / 8) 0) p.parts ∙ get_or_append_left (set_bytes (has words)) (drop next bytes) 0 (i / 8) (omega (arith, len))) in
    sym (items_within bytes at i lt ∙ (ap (λ (n : ℕ). bit_at n (i % 8) == 1) there ∙ (ap (λ (b : ℕ). b == 1) (byte_bits (has words) i lt) ∙ is_bit (has words i))))))

-- ---- the loops

-- one bit of a byte
pub one_bit : (n : ℕ) → n < 8 → (1 * 2 ^ n % 2 ^ 8 ≡ 2 ^ n) × (2 ^ n ≤ 128)
one_bit zero lt = (refl, omega arith)
one_bit (suc zero) lt = (refl, omega arith)
one_bit (suc (suc zero)) lt = (refl, omega arith)
one_bit (suc (suc (suc zero))) lt = (refl, omega arith)
one_bit (suc (suc (suc (suc zero)))) lt = (refl, omega arith)
one_bit (suc (suc (suc (suc (suc zero))))) lt = (refl, omega arith)
one_bit (suc (suc (suc (suc (suc (suc zero)))))) lt = (refl, omega arith)
one_bit (suc (suc (suc (suc (suc (suc (suc zero))))))) lt = (refl, omega arith)
one_bit (suc (suc (suc (suc (suc (suc (suc (suc n)))))))) lt = absurd (omega arith)

-- a list of eight numbers, by place
pub eight_at : (f : ℕ → ℕ) (a b c d e g h i : ℕ) → a ≡ f 0 → b ≡ f 1 → c ≡ f 2 → d ≡ f 3 → e ≡ f 4 → g ≡ f 5 → h ≡ f 6 → i ≡ f 7 → (k : ℕ) → k < 8
    → get_or (a ∷ b ∷ c ∷ d ∷ e ∷ g ∷ h ∷ i ∷ []) k 0 ≡ f k
eight_at f a b c d e g h i p0 p1 p2 p3 p4 p5 p6 p7 zero lt = p0
eight_at f a b c d e g h i p0 p1 p2 p3 p4 p5 p6 p7 (suc zero) lt = p1
eight_at f a b c d e g h i p0 p1 p2 p3 p4 p5 p6 p7 (suc (suc zero)) lt = p2
eight_at f a b c d e g h i p0 p1 p2 p3 p4 p5 p6 p7 (suc (suc (suc zero))) lt = p3
eight_at f a b c d e g h i p0 p1 p2 p3 p4 p5 p6 p7 (suc (suc (suc (suc zero)))) lt = p4
eight_at f a b c d e g h i p0 p1 p2 p3 p4 p5 p6 p7 (suc (suc (suc (suc (suc zero))))) lt = p5
eight_at f a b c d e g h i p0 p1 p2 p3 p4 p5 p6 p7 (suc (suc (suc (suc (suc (suc zero)))))) lt = p6
eight_at f a b c d e g h i p0 p1 p2 p3 p4 p5 p6 p7 (suc (suc (suc (suc (suc (suc (suc zero))))))) lt = p7
eight_at f a b c d e g h i p0 p1 p2 p3 p4 p5 p6 p7 (suc (suc (suc (suc (suc (suc (suc (suc k)))))))) lt = absurd (omega arith)

-- eight bytes more
pub eight_more : (word : ℕ) (X : Set) (bytes : List ℕ) → length bytes ≡ 8 → ((k : ℕ) → k < 8 → get_or bytes k 0 ≡ number_of 8 X (64 * word + 8 * k))
    → numbers_of (8 * (word + 1)) 8 X ≡ numbers_of (8 * word) 8 X ++ bytes
eight_more word X bytes eight each =
    same_number_lists (numbers_of (8 * (word + 1)) 8 X) (numbers_of (8 * word) 8 X ++ bytes) (omega (arith, eight, more_len, len, length-append (numbers_of (8 * word) 8 X) bytes)) (λ k lt.
    let within : k < 8 * (word + 1) = omega (arith, more_len) in
    elim (cases_lt k (8 * word)) [
      | inl low ↦ numbers_at (8 * (word + 1)) 8 X k within ∙ sym (get_or_append_left (numbers_of (8 * word) 8 X) bytes 0 k (omega (arith, len)) ∙ numbers_at (8 * word) 8 X k low)
      | inr high ↦
          let place : 64 * word + 8 * (k - 8 * word) ≡ 8 * k = omega arith in
          numbers_at (8 * (word + 1)) 8 X k within
          ∙ sym (get_or-append_right (numbers_of (8 * word) 8 X) bytes (8 * word) k 0 len high ∙ (each (k - 8 * word) (omega arith) ∙ ap (number_of 8 X) place))
    ])
  where
    len : length (numbers_of (8 * word) 8 X) ≡ 8 * word
    len = numbers_len (8 * word) 8 X

    more_len : length (numbers_of (8 * (word + 1)) 8 X) ≡ 8 * (word + 1)
    more_len = numbers_len (8 * (word + 1)) 8 X

pub bit_fits : (n : ℕ) (X : Set) (first bits : ℕ) → n < 8 → bits ≡ number_of n X first → bits + 1 * 2 ^ n % 2 ^ 8 < 2 ^ 8
bit_fits n X first bits lt so_far =
    let one = one_bit n lt in
    let below = number_below n X first in
    omega (arith, one.0, one.1, below)

pub bit_more : (n : ℕ) (X : Set) (first bits : ℕ) → n < 8 → bits ≡ number_of n X first → X (first + n) ≡ true → bits + 1 * 2 ^ n % 2 ^ 8 ≡ number_of (n + 1) X first
bit_more n X first bits lt so_far is =
    let one = one_bit n lt in
    rw (number_more n X first, is) (omega (arith, one.0))

pub no_bit_more : (n : ℕ) (X : Set) (first bits : ℕ) → bits ≡ number_of n X first → X (first + n) ≡ false → bits ≡ number_of (n + 1) X first
no_bit_more n X first bits so_far is = rw (number_more n X first, is) (omega arith)

-- the bit of an item in bytes
abbrev pub bit_is_set : List ℕ → ℕ → Set
bit_is_set bytes at i = bit_at (get_or bytes (at + i / 8) 0) (i % 8) == 1

-- Y is X with those of so many items, from one on, whose bits are set
pub record HasBits (X : Set) (first bits n : ℕ) (Y : Set) : Type 0 where
  pub eight : (j : ℕ) → j < n → Y (first + j) ≡ (X (first + j) || (bit_at bits j == 1))
  pub others : (i : ℕ) → (i < first) ⊎ (first + n ≤ i) → Y i ≡ X i

pub no_bits_yet : (X : Set) (first bits : ℕ) → HasBits X first bits 0 X
no_bits_yet X first bits = record { eight = λ j lt. absurd (omega arith); others = λ i out. refl }

-- the next bit is set, and its item was put in
pub bit_set : (X Y Z : Set) (first bits n : ℕ) → HasBits X first bits n Y → ((i : ℕ) → Z i ≡ ((i == first + n) || Y i)) → bit_at bits n ≡ 1 → HasBits X first bits (n + 1) Z
bit_set X Y Z first bits n so_far with_it is = record {
  eight = λ j lt. elim (cases_eq j n) [
    | inl same ↦ rw (same, with_it (first + n), eq-eqb (first + n) (first + n) refl, is) (sym (or-true (X (first + n))))
    | inr other ↦ (let apart : (first + j == first + n) ≡ false = ne_eqb (first + j) (first + n) (λ e. other (omega arith)) in rw (with_it (first + j), apart) (so_far.eight j (omega (arith, other))))
  ];
  others = λ i out.
      let apart : (i == first + n) ≡ false = ne_eqb i (first + n) (λ e. elim out [ inl low ↦ absurd (omega arith) | inr high ↦ absurd (omega arith) ]) in
      rw (with_it i, apart) (so_far.others i (elim out [ inl low ↦ inl low | inr high ↦ inr (omega arith) ]));
}

pub bit_not_set : (X Y : Set) (first bits n : ℕ) → HasBits X first bits n Y → (bit_at bits n ≡ 1 → ⊥) → HasBits X first bits (n + 1) Y
bit_not_set X Y first bits n so_far not_one = record {
  eight = λ j lt. elim (cases_eq j n) [
    | inl same ↦ rw (same, ne_eqb (bit_at bits n) 1 not_one, or-false (X (first + n))) (so_far.others (first + n) (inr (omega arith)))
    | inr other ↦ so_far.eight j (omega (arith, other))
  ];
  others = λ i out. so_far.others i (elim out [ inl low ↦ inl low | inr high ↦ inr (omega arith) ]);
}

-- a byte that is 0 has no item
pub none_set : (X : Set) (first bits : ℕ) → bits ≡ 0 → HasBits X first bits 8 X
none_set X first bits is = record {
  eight = λ j lt. rw (is, bit_at-zero j) (sym (or-false (X (first + j))));
  others = λ i out. refl;
}

-- the items of a byte more
pub byte_more : (bytes : List ℕ) (at n : ℕ) (Y Z : Set) → ((i : ℕ) → Y i ≡ (ltb i (8 * n) && bit_is_set bytes at i)) → HasBits Y (8 * n) (get_or bytes (at + n) 0) 8 Z → (i : ℕ) → Z i ≡ (ltb i (8 * (n + 1)) && bit_is_set bytes at i)
byte_more bytes at n Y Z so_far more i =
    elim (cases_lt i (8 * n)) [
      | inl low ↦ (let next : ltb i (8 * (n + 1)) ≡ true = lt-ltb i (8 * (n + 1)) (omega arith) in rw (more.others i (inl low), so_far i, lt-ltb i (8 * n) low, next) refl)
      | inr le ↦ elim (cases_lt i (8 * n + 8)) [
        | inl within ↦
            let again : 8 * n + (i - 8 * n) ≡ i = omega arith in
            let byte : i / 8 ≡ n = omega arith in
            let place : i % 8 ≡ i - 8 * n = omega arith in
            let next : ltb i (8 * (n + 1)) ≡ true = lt-ltb i (8 * (n + 1)) (omega arith) in
            let here : Z i ≡ (Y i || (bit_at (get_or bytes (at + n) 0) (i - 8 * n) == 1)) = subst (λ (k : ℕ). Z k ≡ (Y k || (bit_at (get_or bytes (at + n) 0) (i - 8 * n) == 1))) again (more.eight (i - 8 * n) (omega arith)) in
            rw (here, so_far i, le-ltb i (8 * n) le, next, byte, place) refl
        | inr past ↦ (let next : ltb i (8 * (n + 1)) ≡ false = le-ltb i (8 * (n + 1)) (omega arith) in rw (more.others i (inr past), so_far i, le-ltb i (8 * n) le, next) refl)
      ]
    ]

-- the set whose items are those of the bits
pub all_items : (bytes : List ℕ) (at : ℕ) (words : List ℕ) → AreWords words → ((i : ℕ) → has words i ≡ (ltb i 512 && bit_is_set bytes at i)) → words ≡ words_of (items_at bytes at)
unfolding items_at
all_items bytes at words are items = words_again words (items_at bytes at) are (λ i lt. items i)
