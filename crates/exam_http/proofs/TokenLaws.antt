-- Who may ask, and texts that are compared byte by byte.
use Rattle.std.proofs.Common.{◌≡◌, ◌≢◌, ℕ, ◌+◌, ◌<◌, ◌≤◌, Bool, true, false, List, [], ◌∷◌, ◌++◌, length, get_or, take, Option, Some, None, refl, sym, ap, subst, ◌∙◌, arith, inl, inr, ◌⊎◌, ◌==◌}
use Rattle.std.specs.Prelude.{Result, Ok, Err, ◌||◌, bytes_eq, codes, is_some, option_and_then}
use Rattle.std.specs.Int.Bits.{bit_or, bit_xor, xor_self, xor_add_and, or_zero_r}
use Rattle.std.proofs.Math.Seq.{take-length}
use Rattle.std.proofs.lemmas.Nat.{le_or_l, le_or_r, and_le_l, and_le_r}
use Rattle.std.proofs.lemmas.List.{take_more, take-take, get_or-take}
use Rattle.std.proofs.lemmas.Bool.{cases_Bool, eqb-true, eqb-false}
use Rattle.std.proofs.lemmas.Slice.Eq.{bytes_eq-Decides}
use Rattle.exam_text.specs.First.{or_fault, ◌>>=◌}
use Rattle.serde_json.specs.Data.{Data}
use Rattle.serde_json.specs.Find.{get, as_number, as_u64}
use Rattle.history_model.specs.declared.request.Request.TheVariants as request
use Rattle.wire_http.specs.declared.message.Message.{Message}
use Rattle.exam_http.specs.declared.asked.Asked.{Asked}
use Rattle.exam_http.specs.declared.asked.Asked.TheVariants as ask
use Rattle.exam_http.specs.declared.message_fault.MessageFault.{MessageFault}
use Rattle.exam_http.specs.declared.message_fault.MessageFault.TheVariants.{NoMethod, BadJson, BadBody, Unauthorized}
use Rattle.exam_http.specs.declared.route.Route.{Route}
use Rattle.exam_http.specs.declared.route.Route.TheVariants.{Sessions, Session, Answers, Close, Exposure, Health}
use Rattle.exam_http.specs.Asks.{Asks, AsksIf, AsksBy, AsksOn, IfJson, IsSaidBy, BeginOf, no_booking, no_list, begin, answer_of, closing_of, booking_member, named_where, number_member, numbers_of, up_to}
use Rattle.exam_http.specs.Paths.{method_of}
use Rattle.exam_http.specs.Tokens.{bears, is_for_all}

-- no bit differs
pub same_byte : (a b : ℕ) → bit_xor a b ≡ 0 → a ≡ b
same_byte a b none =
    let sum = xor_add_and a b in
    let l = and_le_l a b in
    let r = and_le_r a b in
    omega (arith, none, sum, l, r)

-- what is known of two texts by the bits that differ in their first k bytes
pub record AreAlike (k difference : ℕ) (xs ys : List ℕ) : Type 0 where
  pub same : difference ≡ 0 → take k xs ≡ take k ys
  pub none : take k xs ≡ take k ys → difference ≡ 0

-- the same of one byte more
pub alike_more : (k before after : ℕ) (xs ys : List ℕ) → k < length xs → k < length ys
    → after ≡ bit_or before (bit_xor (get_or xs k 0) (get_or ys k 0)) → AreAlike k before xs ys → AreAlike (k + 1) after xs ys
alike_more k before after xs ys x y e h =
    let a = get_or xs k 0 in
    let b = get_or ys k 0 in
    let old : before ≤ bit_or before (bit_xor a b) = le_or_l before (bit_xor a b) in
    let bits : bit_xor a b ≤ bit_or before (bit_xor a b) = le_or_r before (bit_xor a b) in
    record {
      same = λ zero.
          let none : before ≡ 0 = omega (arith, zero, e, old) in
          let no_bits : bit_xor a b ≡ 0 = omega (arith, zero, e, bits) in
          take_more xs k 0 x ∙ ap (λ (l : List ℕ). l ++ a ∷ []) (h.same none)
          ∙ ap (λ n. take k ys ++ n ∷ []) (same_byte a b no_bits) ∙ sym (take_more ys k 0 y);
      none = λ alike.
          let front : take k xs ≡ take k ys = sym (take-take k (k + 1) xs (omega arith)) ∙ ap (take k) alike ∙ take-take k (k + 1) ys (omega arith) in
          let byte : a ≡ b = sym (get_or-take (k + 1) xs k 0 (omega arith)) ∙ ap (λ (l : List ℕ). get_or l k 0) alike
          ∙ get_or-take (k + 1) ys k 0 (omega arith) in
          let no_bits : bit_xor a b ≡ 0 = ap (bit_xor a) (sym byte) ∙ xor_self a in
          e ∙ ap (bit_or before) no_bits ∙ or_zero_r before ∙ h.none front;
    }

-- the bits of all bytes tell whether the texts are the same
pub alike_all : (xs ys : List ℕ) (difference : ℕ) → length xs ≡ length ys → AreAlike (length xs) difference xs ys
    → (difference == 0) ≡ bytes_eq xs ys
alike_all xs ys difference size h = elim (cases_Bool (difference == 0)) [
  | inl t ↦ t ∙ sym ((bytes_eq-Decides xs ys).1 (whole (h.same (eqb-true difference 0 t))))
  | inr f ↦ f ∙ sym (not_same (λ e. eqb-false difference 0 f (h.none (part e))))
]
  where
    whole : take (length xs) xs ≡ take (length xs) ys → xs ≡ ys
    whole e = sym (take-length xs) ∙ e ∙ ap (λ n. take n ys) size ∙ take-length ys

    part : xs ≡ ys → take (length xs) xs ≡ take (length xs) ys
    part e = ap (take (length xs)) e

    not_same : xs ≢ ys → bytes_eq xs ys ≡ false
    not_same differ = elim (cases_Bool (bytes_eq xs ys)) [
      | inl t ↦ absurd (differ ((bytes_eq-Decides xs ys).0 t))
      | inr f ↦ f
    ]

-- ---- who may ask

-- what everyone may ask is how the examination is
for_all : (route : Option Route) (method body : List ℕ) (asked : Result Asked MessageFault) → is_for_all route method ≡ true
    → AsksBy route method body asked → asked ≡ Ok ask.Health
for_all None method body asked t h = absurd cc
for_all (Some Sessions) method body asked t h = absurd cc
for_all (Some (Session s)) method body asked t h = absurd cc
for_all (Some (Answers s)) method body asked t h = absurd cc
for_all (Some (Close s)) method body asked t h = absurd cc
for_all (Some Exposure) method body asked t h = absurd cc
for_all (Some Health) method body asked t (inl other) = absurd (other.0 ((bytes_eq-Decides method (method_of Health)).0 t))
for_all (Some Health) method body asked t (inr on) = on.1

if_for_all : (b : Bool) (route : Option Route) (method body : List ℕ) (asked : Result Asked MessageFault) → is_for_all route method ≡ b
    → AsksIf b route method body asked → (asked ≡ Err Unauthorized) ⊎ (asked ≡ Ok ask.Health)
if_for_all true route method body asked t h = inr (for_all route method body asked t h)
if_for_all false route method body asked t h = inl h

pub without_the_token : (token : List ℕ) (m : Message) (asked : Result Asked MessageFault) → bears token m.authorization.items ≡ false
    → Asks (Some token) m asked → (asked ≡ Err Unauthorized) ⊎ (asked ≡ Ok ask.Health)
without_the_token token m asked other h =
    let route = h.0 in
    let by = is_for_all route m.method in
    let asks : AsksIf by route m.method m.body.items asked =
    subst (λ (b : Bool). AsksIf (b || by) route m.method m.body.items asked) other h.2 in
    if_for_all by route m.method m.body.items asked refl asks

parsed : (value : Option Data) (f : Data → Result Asked MessageFault) → ((d : Data) → f d ≢ Err Unauthorized)
    → Err Unauthorized ≡ (or_fault value BadJson >>= f) → ⊥
parsed None f h e = absurd cc
parsed (Some d) f h e = h d (sym e)

not_of_number : (n : Option ℕ) (f : ℕ → Result Asked MessageFault) → ((k : ℕ) → f k ≢ Err Unauthorized)
    → (or_fault n BadBody >>= f) ≢ Err Unauthorized
not_of_number None f h e = absurd cc
not_of_number (Some k) f h e = h k e

not_of_member : (d : Data) (name : List ℕ) (most : ℕ) (f : ℕ → Result Asked MessageFault) → ((k : ℕ) → f k ≢ Err Unauthorized)
    → (number_member d name most >>= f) ≢ Err Unauthorized
not_of_member d name most f h = not_of_number (up_to most (option_and_then as_u64 (option_and_then as_number (get name d)))) f h

something : (r : Asked) → Ok r ≢ Err Unauthorized
something r e = absurd cc

two_faults : (asked : Result Asked MessageFault) → asked ≡ Err Unauthorized → asked ≡ Err NoMethod → ⊥
two_faults asked a b = absurd cc

other_fault : {A : Type 0} (o : Option A) (fault : MessageFault) → or_fault o BadBody ≡ Err fault → fault ≢ Unauthorized
other_fault None fault e f = absurd cc
other_fault (Some x) fault e f = absurd cc

abbrev asks_nothing : MessageFault → Result Asked MessageFault
asks_nothing f = Err f

same_fault : (f g : MessageFault) → asks_nothing f ≡ asks_nothing g → f ≡ g
same_fault f g e = cc

not_of_begin : (d : Data) (asked : Result Asked MessageFault) → BeginOf d asked → asked ≢ Err Unauthorized
not_of_begin d _ (no_booking fault none) e = other_fault (up_to 18446744073709551615 (option_and_then as_u64 (option_and_then as_number (get (codes "booking") d)))) fault none (same_fault fault Unauthorized e)
not_of_begin d _ (no_list booking fault some none) e = other_fault (numbers_of 511 (get (codes "without") d)) fault none (same_fault fault Unauthorized e)
not_of_begin d _ (begin booking items asked some list asks) e = something (ask.Request asked) e

not_said : (body : List ℕ) → IsSaidBy BeginOf body (Err Unauthorized) → ⊥
not_said body h = from h.0 h.2
  where
    from : (value : Option Data) → IfJson BeginOf value (Err Unauthorized) → ⊥
    from None e = absurd cc
    from (Some d) says = not_of_begin d (Err Unauthorized) says refl

not_where : (t : Bool) (n : Option ℕ) (f : Option ℕ → Result Asked MessageFault) → ((b : Option ℕ) → f b ≢ Err Unauthorized)
    → (named_where t (or_fault n BadBody) >>= f) ≢ Err Unauthorized
not_where false n f h e = h None e
not_where true None f h e = absurd cc
not_where true (Some k) f h e = h (Some k) e

not_of_booking : (d : Data) (f : Option ℕ → Result Asked MessageFault) → ((b : Option ℕ) → f b ≢ Err Unauthorized)
    → (booking_member d >>= f) ≢ Err Unauthorized
not_of_booking d f h = not_where (is_some (get (codes "booking") d)) (up_to 18446744073709551615 (option_and_then as_u64 (option_and_then as_number (get (codes "booking") d)))) f h

not_of_answer : (s : ℕ) (d : Data) → answer_of s d ≢ Err Unauthorized
unfolding answer_of
not_of_answer s d = not_of_member d (codes "step") 65535 _ (λ k. not_of_member d (codes "response") 255 _ (λ n. not_of_booking d _ (λ b. something (ask.Request (request.Answer s k n b)))))

not_closing : (s : ℕ) (value : Option Data) → closing_of s value ≢ Err Unauthorized
not_closing s None = something (ask.Request (request.Close s None))
not_closing s (Some d) = not_of_booking d _ (λ b. something (ask.Request (request.Close s b)))

not_on : (route : Route) (body : List ℕ) → AsksOn route body (Err Unauthorized) → ⊥
not_on Sessions body h = not_said body h
not_on (Session s) body h = absurd cc
not_on (Answers s) body h = parsed h.0 (answer_of s) (not_of_answer s) h.2
not_on (Close s) body h = not_closing s h.0 (sym h.2)
not_on Exposure body h = absurd cc
not_on Health body h = absurd cc

not_by : (route : Option Route) (method body : List ℕ) → AsksBy route method body (Err Unauthorized) → ⊥
not_by None method body h = absurd cc
not_by (Some r) method body (inl h) = two_faults (Err Unauthorized) refl h.1
not_by (Some r) method body (inr h) = not_on r body h.1

pub all_may_ask : (m : Message) → Asks None m (Err Unauthorized) → ⊥
all_may_ask m h = not_by h.0 m.method m.body.items h.2
