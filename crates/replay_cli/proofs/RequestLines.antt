-- A line is read as a request exactly where it is that request's line.
use Rattle.std.proofs.Common.{◌≡◌, ◌≢◌, ℕ, zero, suc, ◌^◌, ◌<◌, ◌≤◌, ◌⊎◌, inl, inr, Bool, true, false, ◌&&◌, cond, eqb, ltb, List, [], ◌∷◌, ◌++◌, length, get_or, map, drop, Option, Some, None, refl, sym, ap, ap₂, subst, ◌∙◌, arith, codes}
use Rattle.std.specs.Prelude.{nat_le}
use Rattle.std.specs.Option.{option_map}
use Rattle.std.specs.List.{list_all, join_with_byte}
use Rattle.std.specs.Fmt.{decimal}
use Rattle.std.specs.Int.{IsInRange as IsWithin}
use Rattle.std.specs.Str.{bytes_eq}
use Rattle.std.proofs.lemmas.Bool.{and_parts, cases_Bool, leb-true, ltb-true, ne_eqb, eqb-true}
use Rattle.std.proofs.lemmas.List.Splits.{join_with_byte-slice_split}
use Rattle.std.proofs.lemmas.Slice.Eq.{bytes_eq-Decides}
use Rattle.std.proofs.lemmas.Str.Parse.{digit_at}
use Rattle.std.proofs.lemmas.Fmt.{digits_decimal}
use Rattle.exam_text.specs.First.{◌orelse◌}
use Rattle.bank_tables.specs.Items.{has}
use Rattle.exam_text.specs.Numbers.{number_of}
use Rattle.exam_text.specs.declared.run.Run.{Run}
use Rattle.exam_text.specs.Runs.{IsRun, run_word}
use Rattle.exam_text.specs.Words.{words_of, word, spaced, Lacks, NoneHas}
use Rattle.exam_text.proofs.Numerals.{own, number_is, number_again}
use Rattle.exam_text.proofs.WordLaws.{words_again}
use Rattle.history_model.specs.declared.request.Request.{Request}
use Rattle.history_model.specs.declared.request.Request.TheVariants.{Begin, BeginWithout, Answer, Close, Look, Exposure}
use Rattle.replay_cli.specs.Scripts.{booking_words, request_words, request_line, IsNamed, IsInRange}
use Rattle.replay_cli.specs.Reading.{number_after, booking_in, answer_with, answer_in, close_with, close_in, exposure_in, request_in, without_in, if_spelled, request_from, request_on}
use Rattle.spec_reader.specs.Sets.{runs_of}
use Rattle.spec_reader.specs.Canonical.{set_words}
use Rattle.spec_reader.specs.Grammar.{run}
use Rattle.spec_reader.proofs.RunsLaws.{runs_items}
use Rattle.replay_cli.proofs.ListLines.{without_again, without_is}

-- ---- no word has a space or a line feed, which come before the dash, the digits and the letters

lacks_from : (c : ℕ) (w : List ℕ) → ((k : ℕ) → k < length w → get_or w k 0 ≢ c) → Lacks c w
lacks_from c [] h k e lt = absurd (omega arith)
lacks_from c (b ∷ bs) h zero e lt = ne_eqb b c (h 0 (omega arith))
lacks_from c (b ∷ bs) h (suc k) e lt = lacks_from c bs (λ j lt2. h (suc j) (omega (arith, lt2))) k e (omega (arith, lt))

number_lacks : (c n : ℕ) → c < 48 → n < 2 ^ 64 → Lacks c (decimal n)
number_lacks c n low small =
    lacks_from c (decimal n) (λ k lt same. let d : IsWithin 48 57 (get_or (decimal n) k 0) = digit_at (decimal n) k (own.to (decimal n) (digits_decimal own n small)) lt in omega (arith, d.0, same, low))

name_lacks : (c : ℕ) (w : List ℕ) → c < 48 → list_all (λ b. nat_le 48 b) w ≡ true → Lacks c w
name_lacks c [] low h k e lt = absurd (omega arith)
name_lacks c (b ∷ bs) low h zero e lt =
    let p = and_parts (nat_le 48 b) (list_all (λ x. nat_le 48 x) bs) h in
    ne_eqb b c (λ same. omega (arith, low, same, leb-true 48 b p.0))
name_lacks c (b ∷ bs) low h (suc k) e lt =
    let p = and_parts (nat_le 48 b) (list_all (λ x. nat_le 48 x) bs) h in
    name_lacks c bs low p.1 k e (omega (arith, lt))

lacks_cons : (c b : ℕ) (bs : List ℕ) → eqb b c ≡ false → Lacks c bs → Lacks c (b ∷ bs)
lacks_cons c b bs h g zero e lt = h
lacks_cons c b bs h g (suc k) e lt = g k e (omega (arith, lt))

lacks_append : (c : ℕ) (a b : List ℕ) → Lacks c a → Lacks c b → Lacks c (a ++ b)
lacks_append c [] b h g k e lt = g k e lt
lacks_append c (x ∷ xs) b h g zero e lt = h 0 e (omega arith)
lacks_append c (x ∷ xs) b h g (suc k) e lt = lacks_append c xs b (λ j d lt2. h (suc j) d (omega (arith, lt2))) g k e (omega (arith, lt))

run_lacks : (c : ℕ) → c < 45 → (r : Run) → IsRun r → Lacks c (run_word r)
run_lacks c low r is =
    let front : Lacks c (decimal r.low) = number_lacks c r.low (omega (arith, low)) (omega (arith, is.order, is.high)) in
    let back : Lacks c (decimal r.high) = number_lacks c r.high (omega (arith, low)) (omega (arith, is.high)) in
    elim (cases_Bool (eqb r.low r.high)) [
      | inl one ↦ rw one front
      | inr more ↦ rw more (lacks_append c (decimal r.low) (45 ∷ decimal r.high) front (lacks_cons c 45 (decimal r.high) (ne_eqb 45 c (λ e. omega (arith, low, e))) back))
    ]

runs_lack : (c : ℕ) → c < 45 → (rs : List Run) → ((i : ℕ) → i < length rs → IsRun (run rs i)) → NoneHas c (map run_word rs)
runs_lack c low [] h = tt
runs_lack c low (r ∷ rs) h = (run_lacks c low r (h 0 (omega arith)), runs_lack c low rs (λ i lt. h (suc i) (omega (arith, lt))))

booking_lacks : (c : ℕ) → c < 45 → (b : Option ℕ) → IsNamed b → NoneHas c (booking_words b)
booking_lacks c low None h = tt
booking_lacks c low (Some b) h = (name_lacks c (codes "for") (omega (arith, low)) refl, (number_lacks c b (omega (arith, low)) (omega (arith, h)), tt))

words_lack : (c : ℕ) → c < 45 → (r : Request) → IsInRange r → NoneHas c (request_words r)
words_lack c low (Begin n) h = (name_lacks c (codes "begin") (omega (arith, low)) refl, (number_lacks c n (omega (arith, low)) (omega (arith, h)), tt))
words_lack c low (BeginWithout n items) h =
    (name_lacks c (codes "begin") (omega (arith, low)) refl, (number_lacks c n (omega (arith, low)) (omega (arith, h.0)), (name_lacks c (codes "without") (omega (arith, low)) refl, runs_lack c low (runs_of (has items)) (runs_items (has items) h.2).0.each)))
words_lack c low (Answer s k r b) h =
    (name_lacks c (codes "answer") (omega (arith, low)) refl, (number_lacks c s (omega (arith, low)) (omega (arith, h.0)), (number_lacks c k (omega (arith, low)) (omega (arith, h.1)), (number_lacks c r (omega (arith, low)) (omega (arith, h.2)), booking_lacks c low b h.3))))
words_lack c low (Close s b) h = (name_lacks c (codes "close") (omega (arith, low)) refl, (number_lacks c s (omega (arith, low)) (omega (arith, h.0)), booking_lacks c low b h.1))
words_lack c low (Look s) h = (name_lacks c (codes "look") (omega (arith, low)) refl, (number_lacks c s (omega (arith, low)) (omega (arith, h)), tt))
words_lack c low Exposure h = (name_lacks c (codes "exposure") (omega (arith, low)) refl, tt)

-- ---- what is written is read

line_words : (r : Request) → IsInRange r → words_of (request_line r) ≡ request_words r
line_words (Begin n) h = words_again (codes "begin") (decimal n ∷ []) (words_lack 32 (omega arith) (Begin n) h)
line_words (BeginWithout n items) h = words_again (codes "begin") (decimal n ∷ codes "without" ∷ set_words (has items)) (words_lack 32 (omega arith) (BeginWithout n items) h)
line_words (Answer s k r b) h = words_again (codes "answer") (decimal s ∷ decimal k ∷ decimal r ∷ booking_words b) (words_lack 32 (omega arith) (Answer s k r b) h)
line_words (Close s b) h = words_again (codes "close") (decimal s ∷ booking_words b) (words_lack 32 (omega arith) (Close s b) h)
line_words (Look s) h = words_again (codes "look") (decimal s ∷ []) (words_lack 32 (omega arith) (Look s) h)
line_words Exposure h = words_again (codes "exposure") [] (words_lack 32 (omega arith) Exposure h)

spelled : (line : List ℕ) (r : Request) (other : Option Request) → line ≡ request_line r → if_spelled line (Some r) other ≡ Some r
spelled line r other e = ap (λ (b : Bool). cond b (Some r) None) ((bytes_eq-Decides (request_line r) line).1 (sym e))

booking_read : (b : Option ℕ) → IsNamed b → booking_in (booking_words b) ≡ Some b
unfolding booking_in number_after
booking_read None h = refl
booking_read (Some n) h = rw (number_again 18446744073709551615 n (omega arith) h) refl

answer_read : (s k r : ℕ) (b : Option ℕ) → IsInRange (Answer s k r b) → answer_in (request_words (Answer s k r b)) ≡ Some (Answer s k r b)
unfolding answer_in
answer_read s k r None h = rw (number_again 4294967295 s (omega arith) h.0, number_again 65535 k (omega arith) h.1, number_again 255 r (omega arith) h.2, booking_read None h.3) refl
answer_read s k r (Some b) h = rw (number_again 4294967295 s (omega arith) h.0, number_again 65535 k (omega arith) h.1, number_again 255 r (omega arith) h.2, booking_read (Some b) h.3) refl

close_read : (s : ℕ) (b : Option ℕ) → IsInRange (Close s b) → close_in (request_words (Close s b)) ≡ Some (Close s b)
unfolding close_in
close_read s None h = rw (number_again 4294967295 s (omega arith) h.0, booking_read None h.1) refl
close_read s (Some b) h = rw (number_again 4294967295 s (omega arith) h.0, booking_read (Some b) h.1) refl

words_read : (line : List ℕ) (r : Request) → IsInRange r → line ≡ request_line r → request_from line (request_words r) ≡ Some r
unfolding request_from without_in request_in number_after answer_in close_in exposure_in
words_read line (Begin n) h e = rw (number_again 18446744073709551615 n (omega arith) h) refl
words_read line (BeginWithout n items) h e = rw (without_again n items h) (spelled line (BeginWithout n items) (request_in (request_words (BeginWithout n items))) e)
words_read line (Answer s k r None) h e = rw (answer_read s k r None h) refl
words_read line (Answer s k r (Some b)) h e = rw (answer_read s k r (Some b) h) refl
words_read line (Close s None) h e = rw (close_read s None h) refl
words_read line (Close s (Some b)) h e = rw (close_read s (Some b) h) refl
words_read line (Look s) h e = rw (number_again 4294967295 s (omega arith) h) refl
words_read line Exposure h e = refl

pub line_read : (r : Request) → IsInRange r → request_on (request_line r) ≡ Some r
line_read r h = ap (request_from (request_line r)) (line_words r h) ∙ words_read (request_line r) r h refl

-- ---- what is read is what is written

one_word : (ws : List (List ℕ)) → length ws ≡ 1 → ws ≡ word ws 0 ∷ []
one_word [] h = absurd (omega (arith, h))
one_word (a ∷ []) h = refl
one_word (a ∷ b ∷ ws) h = absurd (omega (arith, h))

two_words : (ws : List (List ℕ)) → length ws ≡ 2 → ws ≡ word ws 0 ∷ word ws 1 ∷ []
two_words [] h = absurd (omega (arith, h))
two_words (a ∷ []) h = absurd (omega (arith, h))
two_words (a ∷ b ∷ []) h = refl
two_words (a ∷ b ∷ c ∷ ws) h = absurd (omega (arith, h))

from_two : (ws : List (List ℕ)) → 1 < length ws → ws ≡ word ws 0 ∷ word ws 1 ∷ drop 2 ws
from_two [] h = absurd (omega (arith, h))
from_two (a ∷ []) h = absurd (omega (arith, h))
from_two (a ∷ b ∷ ws) h = refl

from_four : (ws : List (List ℕ)) → 3 < length ws → ws ≡ word ws 0 ∷ word ws 1 ∷ word ws 2 ∷ word ws 3 ∷ drop 4 ws
from_four [] h = absurd (omega (arith, h))
from_four (a ∷ []) h = absurd (omega (arith, h))
from_four (a ∷ b ∷ []) h = absurd (omega (arith, h))
from_four (a ∷ b ∷ c ∷ []) h = absurd (omega (arith, h))
from_four (a ∷ b ∷ c ∷ d ∷ ws) h = refl

two_are : (ws : List (List ℕ)) (a b : List ℕ) (rest : List (List ℕ)) → 1 < length ws → word ws 0 ≡ a → word ws 1 ≡ b → drop 2 ws ≡ rest → ws ≡ a ∷ b ∷ rest
two_are ws a b rest count first second last = from_two ws count ∙ rw (first, second, last) refl

four_are : (ws : List (List ℕ)) (a b c d : List ℕ) (rest : List (List ℕ)) → 3 < length ws → word ws 0 ≡ a → word ws 1 ≡ b → word ws 2 ≡ c → word ws 3 ≡ d → drop 4 ws ≡ rest → ws ≡ a ∷ b ∷ c ∷ d ∷ rest
four_are ws a b c d rest count first second third fourth last = from_four ws count ∙ rw (first, second, third, fourth, last) refl

chosen : {A : Type 0} (b : Bool) (o : Option A) (x : A) → cond b o None ≡ Some x → (b ≡ true) × (o ≡ Some x)
chosen true o x e = (refl, e)
chosen false o x e = absurd cc

either : (a b : Option Request) (r : Request) → (a orelse b) ≡ Some r → (a ≡ Some r) ⊎ (b ≡ Some r)
either None b r e = inr e
either (Some x) b r e = inl e

mapped : (f : ℕ → Request) (o : Option ℕ) (r : Request) → option_map f o ≡ Some r → (n : ℕ) × (o ≡ Some n) × (f n ≡ r)
mapped f None r e = absurd cc
mapped f (Some n) r e = (n, refl, cc)

number_after_is : (name : List ℕ) (most n : ℕ) (ws : List (List ℕ)) → most < 2 ^ 64 → number_after name most ws ≡ Some n → (n ≤ most) × (ws ≡ name ∷ decimal n ∷ [])
unfolding number_after
number_after_is name most n ws bound e =
    let c = chosen (eqb (length ws) 2 && bytes_eq (word ws 0) name) (number_of most (word ws 1)) n e in
    let p = and_parts (eqb (length ws) 2) (bytes_eq (word ws 0) name) c.0 in
    let first : word ws 0 ≡ name = (bytes_eq-Decides (word ws 0) name).0 p.1 in
    let second = number_is most (word ws 1) n bound c.1 in
    (second.0, two_words ws (eqb-true (length ws) 2 p.0) ∙ ap₂ (λ (x y : List ℕ). x ∷ y ∷ []) first second.1)

-- the words are those of the request, whose numbers are in range
abbrev Reads : List (List ℕ) → Request → Type 0
Reads ws r = (ws ≡ request_words r) × IsInRange r

begin_is : (ws : List (List ℕ)) (r : Request) → option_map Begin (number_after (codes "begin") 18446744073709551615 ws) ≡ Some r → Reads ws r
begin_is ws r e =
    let m = mapped Begin (number_after (codes "begin") 18446744073709551615 ws) r e in
    let is = number_after_is (codes "begin") 18446744073709551615 m.0 ws (omega arith) m.1 in
    subst (Reads ws) m.2 (is.1, is.0)

no_words : (ws : List (List ℕ)) → length ws ≡ 0 → ws ≡ []
no_words [] h = refl
no_words (a ∷ ws) h = absurd (omega (arith, h))

-- a booking that is read is named by the words
booking_is : (ws : List (List ℕ)) (b : Option ℕ) → booking_in ws ≡ Some b → (ws ≡ booking_words b) × IsNamed b
unfolding booking_in
booking_is ws b e = elim (cases_Bool (eqb (length ws) 0)) [
  | inl none ↦
      let same : Some None ≡ Some b = rw none at e in
      subst (λ (o : Option ℕ). (ws ≡ booking_words o) × IsNamed o) (some_booking None b same) (no_words ws (eqb-true (length ws) 0 none), tt)
  | inr more ↦
      let found : option_map Some (number_after (codes "for") 18446744073709551615 ws) ≡ Some b = rw more at e in
      named (number_after (codes "for") 18446744073709551615 ws) refl found
]
  where
    some_booking : (a b : Option ℕ) → Some a ≡ Some b → a ≡ b
    some_booking a b e = cc

    named : (o : Option ℕ) → number_after (codes "for") 18446744073709551615 ws ≡ o → option_map Some o ≡ Some b → (ws ≡ booking_words b) × IsNamed b
    named None w h = absurd cc
    named (Some n) w h =
        let is = number_after_is (codes "for") 18446744073709551615 n ws (omega arith) w in
        subst (λ (o : Option ℕ). (ws ≡ booking_words o) × IsNamed o) (some_booking (Some n) b h) (is.1, is.0)

-- the number and the booking of a closing
closing : (a : Option ℕ) (c : Option (Option ℕ)) (r : Request) → close_with a c ≡ Some r → (s : ℕ) × (b : Option ℕ) × (a ≡ Some s) × (c ≡ Some b) × (Close s b ≡ r)
closing None c r e = absurd cc
closing (Some s) None r e = absurd cc
closing (Some s) (Some b) r e = (s, b, refl, refl, cc)

close_is : (ws : List (List ℕ)) (r : Request) → close_in ws ≡ Some r → Reads ws r
unfolding close_in
close_is ws r e =
    let c = chosen (ltb 1 (length ws) && bytes_eq (word ws 0) (codes "close")) (close_with (number_of 4294967295 (word ws 1)) (booking_in (drop 2 ws))) r e in
    let p = and_parts (ltb 1 (length ws)) (bytes_eq (word ws 0) (codes "close")) c.0 in
    let t = closing (number_of 4294967295 (word ws 1)) (booking_in (drop 2 ws)) r c.1 in
    let first : word ws 0 ≡ codes "close" = (bytes_eq-Decides (word ws 0) (codes "close")).0 p.1 in
    let session = number_is 4294967295 (word ws 1) t.0 (omega arith) t.2 in
    let booking = booking_is (drop 2 ws) t.1 t.3 in
    let all = two_are ws (codes "close") (decimal t.0) (booking_words t.1) (ltb-true 1 (length ws) p.0) first session.1 booking.0 in
    subst (Reads ws) t.4 (all, (session.0, booking.1))

look_is : (ws : List (List ℕ)) (r : Request) → option_map Look (number_after (codes "look") 4294967295 ws) ≡ Some r → Reads ws r
look_is ws r e =
    let m = mapped Look (number_after (codes "look") 4294967295 ws) r e in
    let is = number_after_is (codes "look") 4294967295 m.0 ws (omega arith) m.1 in
    subst (Reads ws) m.2 (is.1, is.0)

-- the three numbers and the booking of an answer
three : (a b c : Option ℕ) (d : Option (Option ℕ)) (r : Request) → answer_with a b c d ≡ Some r → (s : ℕ) × (k : ℕ) × (x : ℕ) × (n : Option ℕ) × (a ≡ Some s) × (b ≡ Some k) × (c ≡ Some x) × (d ≡ Some n) × (Answer s k x n ≡ r)
three None b c d r e = absurd cc
three (Some s) None c d r e = absurd cc
three (Some s) (Some k) None d r e = absurd cc
three (Some s) (Some k) (Some x) None r e = absurd cc
three (Some s) (Some k) (Some x) (Some n) r e = (s, k, x, n, refl, refl, refl, refl, cc)

answer_is : (ws : List (List ℕ)) (r : Request) → answer_in ws ≡ Some r → Reads ws r
unfolding answer_in
answer_is ws r e =
    let c = chosen (ltb 3 (length ws) && bytes_eq (word ws 0) (codes "answer")) (answer_with (number_of 4294967295 (word ws 1)) (number_of 65535 (word ws 2)) (number_of 255 (word ws 3)) (booking_in (drop 4 ws))) r e in
    let p = and_parts (ltb 3 (length ws)) (bytes_eq (word ws 0) (codes "answer")) c.0 in
    let t = three (number_of 4294967295 (word ws 1)) (number_of 65535 (word ws 2)) (number_of 255 (word ws 3)) (booking_in (drop 4 ws)) r c.1 in
    let first : word ws 0 ≡ codes "answer" = (bytes_eq-Decides (word ws 0) (codes "answer")).0 p.1 in
    let session = number_is 4294967295 (word ws 1) t.0 (omega arith) t.4 in
    let step = number_is 65535 (word ws 2) t.1 (omega arith) t.5 in
    let response = number_is 255 (word ws 3) t.2 (omega arith) t.6 in
    let booking = booking_is (drop 4 ws) t.3 t.7 in
    let all = four_are ws (codes "answer") (decimal t.0) (decimal t.1) (decimal t.2) (booking_words t.3) (ltb-true 3 (length ws) p.0) first session.1 step.1 response.1 booking.0 in
    subst (Reads ws) t.8 (all, (session.0, step.0, response.0, booking.1))

exposure_is : (ws : List (List ℕ)) (r : Request) → exposure_in ws ≡ Some r → Reads ws r
unfolding exposure_in
exposure_is ws r e =
    let c = chosen (eqb (length ws) 1 && bytes_eq (word ws 0) (codes "exposure")) (Some Exposure) r e in
    let p = and_parts (eqb (length ws) 1) (bytes_eq (word ws 0) (codes "exposure")) c.0 in
    let first : word ws 0 ≡ codes "exposure" = (bytes_eq-Decides (word ws 0) (codes "exposure")).0 p.1 in
    let same : Exposure ≡ r = some_is Exposure r c.1 in
    subst (Reads ws) same (one_word ws (eqb-true (length ws) 1 p.0) ∙ ap (λ (x : List ℕ). x ∷ []) first, tt)
  where
    some_is : (a b : Request) → Some a ≡ Some b → a ≡ b
    some_is a b e = cc

words_are : (ws : List (List ℕ)) (r : Request) → request_in ws ≡ Some r → Reads ws r
unfolding request_in
words_are ws r e = elim (either _ _ r e) [
  | inl a ↦ begin_is ws r a
  | inr e1 ↦ elim (either _ _ r e1) [
    | inl a ↦ answer_is ws r a
    | inr e2 ↦ elim (either _ _ r e2) [
      | inl a ↦ close_is ws r a
      | inr e3 ↦ elim (either _ _ r e3) [
        | inl a ↦ look_is ws r a
        | inr a ↦ exposure_is ws r a
      ]
    ]
  ]
]

joined : (ws : List (List ℕ)) → join_with_byte 32 ws ≡ spaced ws
joined [] = refl
joined (w ∷ []) = refl
joined (w ∷ v ∷ vs) = ap (λ (xs : List ℕ). w ++ 32 ∷ xs) (joined (v ∷ vs))

plain_is : (line : List ℕ) (r : Request) → request_in (words_of line) ≡ Some r → (line ≡ request_line r) × IsInRange r
plain_is line r e =
    let is = words_are (words_of line) r e in
    (sym (join_with_byte-slice_split 32 line) ∙ joined (words_of line) ∙ ap spaced is.0, is.1)

some_request : (a b : Request) → Some a ≡ Some b → a ≡ b
some_request a b e = cc

pub line_is : (line : List ℕ) (r : Request) → request_on line ≡ Some r → (line ≡ request_line r) × IsInRange r
unfolding request_from
line_is line r e = from (without_in (words_of line)) refl e
  where
    from : (o : Option Request) → without_in (words_of line) ≡ o → if_spelled line o (request_in (words_of line)) ≡ Some r → (line ≡ request_line r) × IsInRange r
    from None w h = plain_is line r h
    from (Some q) w h =
        let c = chosen (bytes_eq (request_line q) line) (Some q) r h in
        let same : q ≡ r = some_request q r c.1 in
        subst (λ (p : Request). (line ≡ request_line p) × IsInRange p) same (sym ((bytes_eq-Decides (request_line q) line).0 c.0), without_is (words_of line) q w)

-- a line is that of one request
pub one_request : (r q : Request) → IsInRange r → IsInRange q → request_line r ≡ request_line q → r ≡ q
one_request r q h k e = some_request r q (sym (line_read r h) ∙ ap request_on e ∙ line_read q k)

-- ---- what the lines of a script need

line_lacks_from : (w : List ℕ) (ws : List (List ℕ)) → NoneHas 10 (w ∷ ws) → Lacks 10 (spaced (w ∷ ws))
line_lacks_from w [] h = h.0
line_lacks_from w (v ∷ vs) h = lacks_append 10 w (32 ∷ spaced (v ∷ vs)) h.0 (lacks_cons 10 32 (spaced (v ∷ vs)) refl (line_lacks_from v vs h.1))

pub line_lacks : (r : Request) → IsInRange r → Lacks 10 (request_line r)
line_lacks (Begin n) h = line_lacks_from (codes "begin") (decimal n ∷ []) (words_lack 10 (omega arith) (Begin n) h)
line_lacks (BeginWithout n items) h = line_lacks_from (codes "begin") (decimal n ∷ codes "without" ∷ set_words (has items)) (words_lack 10 (omega arith) (BeginWithout n items) h)
line_lacks (Answer s k r b) h = line_lacks_from (codes "answer") (decimal s ∷ decimal k ∷ decimal r ∷ booking_words b) (words_lack 10 (omega arith) (Answer s k r b) h)
line_lacks (Close s b) h = line_lacks_from (codes "close") (decimal s ∷ booking_words b) (words_lack 10 (omega arith) (Close s b) h)
line_lacks (Look s) h = line_lacks_from (codes "look") (decimal s ∷ []) (words_lack 10 (omega arith) (Look s) h)
line_lacks Exposure h = line_lacks_from (codes "exposure") [] (words_lack 10 (omega arith) Exposure h)

pub line_some : (r : Request) → 0 < length (request_line r)
line_some (Begin n) = omega arith
line_some (BeginWithout n items) = omega arith
line_some (Answer s k r b) = omega arith
line_some (Close s b) = omega arith
line_some (Look s) = omega arith
line_some Exposure = omega arith
