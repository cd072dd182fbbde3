-- The bank text of a drill, as records of fields.
use Rattle.std.proofs.Common.{◌≡◌, ◌∙◌, ℕ, zero, suc, ◌+◌, ◌-◌, ◌^◌, ◌<◌, ◌≤◌, ◌/◌, Bool, true, false, cond, nat_lt, nat_eq, codes, ◌%◌, List, [], ◌∷◌, ◌++◌, length, get_or, map, Some, refl, sym, ap, subst, arith, append_assoc, length-append, pos, neg_ℤ}
use Rattle.std.specs.Fmt.{decimal, signed_decimal}
use Rattle.std.specs.Int.{IsInRange}
use Rattle.std.specs.List.{All, AllByRecursion, flat_map, list_any, range_with_len}
use Rattle.std.proofs.lemmas.Bool.{ne_eqb, ltb-true}
use Rattle.std.proofs.lemmas.Fmt.{digits_decimal, length-decimal-le}
use Rattle.std.proofs.lemmas.Grind.{get_or_default_zero}
use Rattle.std.proofs.lemmas.List.Elements.{All-nil, All-cons, All-append}
use Rattle.std.proofs.lemmas.List.Folds.{list_any_none}
use Rattle.std.proofs.lemmas.Str.Parse.{digit_at}
use Rattle.csv.specs.Machine.{next_record}
use Rattle.csv.specs.Reading.{default_config, records_from, strip_bom}
use Rattle.csv.specs.Writing.{default_writer, fields_text, is_blank, needs_byte, row_text}
use Rattle.csv.specs.declared.parser.State.TheVariants as st
use Rattle.csv.proofs.RoundTrip.{read-write-many}
use Rattle.exam_text.proofs.Numerals.{own}
use Rattle.bank_reader.specs.Columns.{name_of, quantity_name, point_name, loglik_name}
use Rattle.bank_maker.specs.declared.item.DrawnItem.{DrawnItem}
use Rattle.bank_maker.specs.Items.{information, wrong_loss, right_loss, wrong, right, points, row_of, stimulus_of}
use Rattle.bank_maker.specs.Banks.{record_text, row_fields, item_text, no_item, shape, header, bank_text}
use Rattle.bank_maker.proofs.TextLaws.{below_zero}

-- ---- fields that need no quotes
abbrev pub IsPlain : List ℕ → Type 0
IsPlain field = list_any (needs_byte default_writer) field ≡ false

plain_byte : (b : ℕ) → 44 < b → needs_byte default_writer b ≡ false
plain_byte b h =
    rw (ne_eqb b 44 (λ e. omega (arith, h, e)), ne_eqb b 34 (λ e. omega (arith, h, e)), ne_eqb b 13 (λ e. omega (arith, h, e)), ne_eqb b 10 (λ e. omega (arith, h, e))) refl

plain_of : (field : List ℕ) → All (λ b. 44 < b) field → IsPlain field
plain_of field above = list_any_none (needs_byte default_writer) field (λ k d lt. plain_byte (get_or field k d) (above k d lt))

digits_above : (n : ℕ) → n < 2 ^ 64 → All (λ b. 44 < b) (decimal n)
digits_above n small k d lt =
    let digit : IsInRange 48 57 (get_or (decimal n) k 0) = digit_at (decimal n) k (own.to (decimal n) (digits_decimal own n small)) lt in
    subst (λ (b : ℕ). 44 < b) (sym (get_or_default_zero (decimal n) k d lt)) (omega (arith, digit.0))

-- a field that needs no quotes, and is short
pub record IsField (field : List ℕ) : Type 0 where
  pub plain : IsPlain field
  pub short : length field ≤ 25

digits_short : (n : ℕ) → n < 2 ^ 64 → length (decimal n) ≤ 20
digits_short n small = length-decimal-le 20 n (omega arith) (omega (arith, small)) small

pub plain_number : (n : ℕ) → n < 2 ^ 64 → IsField (decimal n)
plain_number n small = record { plain = plain_of (decimal n) (digits_above n small); short = omega (arith, digits_short n small) }

plain_signed : (n : ℕ) → 0 < n → n < 2 ^ 64 → IsField (signed_decimal (neg_ℤ (pos n)))
plain_signed n some small = subst IsField (sym (below_zero n some)) (record {
  plain = plain_of (45 ∷ decimal n) (All-cons (λ b. 44 < b) 45 (decimal n) (omega arith) (digits_above n small));
  short = omega (arith, digits_short n small);
})

each_append : (xs ys : List (List ℕ)) → AllByRecursion IsField xs → AllByRecursion IsField ys → AllByRecursion IsField (xs ++ ys)
each_append [] ys p q = q
each_append (x ∷ xs) ys p q = (p.0, each_append xs ys p.1 q)

-- ---- the fields of an item
-- what is drawn is within its bounds
pub record IsDrawn (x : DrawnItem) : Type 0 where
  pub peak : x.peak ≤ 10
  pub height : x.height ≤ 1000
  pub quantity : x.quantity ≤ 120

pub stimulus_low : (i : ℕ) → stimulus_of i ≤ 64
stimulus_low i = go (nat_lt i 30) refl
  where
    go : (b : Bool) → nat_lt i 30 ≡ b → cond b (1 + i / 5) 0 ≤ 64
    go true e = omega (arith, ltb-true i 30 e)
    go false e = omega arith

pub points_below : (a n : ℕ) → a + n ≤ 11 → AllByRecursion (λ p. p ≤ 10) (range_with_len a n)
points_below a zero h = tt
points_below a (suc n) h = (omega (arith, h), points_below (a + 1) n (omega (arith, h)))

module _ (x : DrawnItem) (drawn : IsDrawn x) where
  infos : (ps : List ℕ) → AllByRecursion IsField (map decimal (map (information x) ps))
  infos [] = tt
  infos (p ∷ ps) = (plain_number (information x p) (omega (arith, drawn.height)), infos ps)

  rights : (ps : List ℕ) → AllByRecursion IsField (map signed_decimal (map (right x) ps))
  rights [] = tt
  rights (p ∷ ps) = (plain_signed (right_loss x p) (omega arith) (omega (arith, drawn.peak)), rights ps)

  logliks : (ps qs : List ℕ) → AllByRecursion (λ p. p ≤ 10) ps → AllByRecursion IsField (map signed_decimal (map (wrong x) ps ++ map (right x) qs))
  logliks [] qs h = rights qs
  logliks (p ∷ ps) qs h = (plain_signed (wrong_loss x p) (omega arith) (omega (arith, h.0)), logliks ps qs h.1)

  pub fields_plain : (i : ℕ) → i < 512 → AllByRecursion IsField (row_fields (row_of i x))
  unfolding points
  fields_plain i few = (
    plain_number (stimulus_of i) (omega (arith, stimulus_low i)),
    (
      plain_number 2 (omega arith),
      each_append (map decimal (x.quantity ∷ []) ++ map decimal (map (information x) (range_with_len 0 11))) (map signed_decimal (map (wrong x) (range_with_len 0 11) ++ map (right x) (range_with_len 0 11)))
          (each_append (map decimal (x.quantity ∷ [])) (map decimal (map (information x) (range_with_len 0 11))) (plain_number x.quantity (omega (arith, drawn.quantity)), tt) (infos (range_with_len 0 11)))
          (logliks (range_with_len 0 11) (range_with_len 0 11) (points_below 0 11 (omega arith))),
    ),
  )

-- ---- a record is read
unquoted : (fs : List (List ℕ)) → AllByRecursion IsField fs → fields_text default_writer fs ≡ flat_map (λ field. 44 ∷ field) fs
unfolding fields_text
unquoted [] plain = refl
unquoted (f ∷ fs) plain = rw (plain.0.plain, unquoted fs plain.1) refl

row_is : (f g : List ℕ) (fs : List (List ℕ)) → IsField f → AllByRecursion IsField (g ∷ fs) → row_text default_writer (f ∷ g ∷ fs) ≡ record_text f (g ∷ fs)
unfolding is_blank
row_is f g fs p ps = rw (p.plain, unquoted (g ∷ fs) ps) (append_assoc f (flat_map (λ field. 44 ∷ field) (g ∷ fs)) (10 ∷ []))

pub one_row : (f g : List ℕ) (fs : List (List ℕ)) (tail : List ℕ) → IsField f → AllByRecursion IsField (g ∷ fs)
    → next_record default_config st.StartRecord [] [] (record_text f (g ∷ fs) ++ tail) ≡ Some (f ∷ g ∷ fs, st.StartRecord, tail)
one_row f g fs tail p ps =
    ap (λ (text : List ℕ). next_record default_config st.StartRecord [] [] (text ++ tail)) (sym (row_is f g fs p ps)) ∙ read-write-many f g fs tail

-- the fields of item i
abbrev pub fields_at : (ℕ → DrawnItem) → ℕ → List (List ℕ)
fields_at x i = decimal i ∷ row_fields (row_of i (x i))

-- the items from a on
pub items_read : (x : ℕ → DrawnItem) → ((i : ℕ) → IsDrawn (x i)) → (fuel a n : ℕ) → n < fuel → a + n ≤ 512
    → records_from default_config fuel st.StartRecord (flat_map (λ i. item_text i (x i)) (range_with_len a n)) ≡ map (fields_at x) (range_with_len a n)
unfolding records_from next_record item_text
items_read x drawn zero a n lt few = absurd (omega (arith, lt))
items_read x drawn (suc fuel) a zero lt few = refl
items_read x drawn (suc fuel) a (suc n) lt few =
    let rest = flat_map (λ i. item_text i (x i)) (range_with_len (a + 1) n) in
    let fields = fields_plain (x a) (drawn a) a (omega (arith, few)) in
    rw (one_row (decimal a) _ _ rest (plain_number a (omega (arith, few))) fields) (ap (λ (rows : List (List (List ℕ))). fields_at x a ∷ rows) (items_read x drawn fuel (a + 1) n (omega (arith, lt)) (omega (arith, few))))

-- ---- the header
plain_letters : (letters : List ℕ) (n : ℕ) → All (λ b. 44 < b) letters → length letters ≤ 5 → n < 2 ^ 64 → IsField (letters ++ decimal n)
plain_letters letters n above few small = record {
  plain = plain_of (letters ++ decimal n) (All-append (λ b. 44 < b) letters (decimal n) above (digits_above n small));
  short = omega (arith, few, digits_short n small, length-append letters (decimal n));
}

one_letter : (b : ℕ) → 44 < b → All (λ b. 44 < b) (b ∷ [])
one_letter b h = All-cons (λ b. 44 < b) b [] h (All-nil (λ b. 44 < b))

pub name_plain : (c : ℕ) → c < 100 → IsField (name_of shape c)
name_plain c few = go (nat_eq c 0) (nat_eq c 1) (nat_eq c 2) (nat_lt c 4) (nat_lt c 15)
  where
    loglik : IsField (loglik_name ((c - 15) / 11) ((c - 15) % 11))
    loglik = plain_letters (108 ∷ (48 + (c - 15) / 11) ∷ 95 ∷ []) ((c - 15) % 11)
        (All-cons (λ b. 44 < b) 108 ((48 + (c - 15) / 11) ∷ 95 ∷ []) (omega arith)
        (All-cons (λ b. 44 < b) (48 + (c - 15) / 11) (95 ∷ []) (omega arith) (one_letter 95 (omega arith)))) (omega arith) (omega (arith, few))

    go : (item stimulus categories quantity point : Bool)
        → IsField (cond item (codes "item") (cond stimulus (codes "stimulus") (cond categories (codes "categories") (cond quantity (quantity_name (c - 3)) (cond point (point_name (c - 4)) (loglik_name ((c - 15) / 11) ((c - 15) % 11)))))))
    go true stimulus categories quantity point = record { plain = refl; short = omega arith }
    go false true categories quantity point = record { plain = refl; short = omega arith }
    go false false true quantity point = record { plain = refl; short = omega arith }
    go false false false true point = plain_letters (113 ∷ []) (c - 3) (one_letter 113 (omega arith)) (omega arith) (omega (arith, few))
    go false false false false true = plain_letters (105 ∷ []) (c - 4) (one_letter 105 (omega arith)) (omega arith) (omega (arith, few))
    go false false false false false = loglik

pub names_plain : (a n : ℕ) → a + n < 100 → AllByRecursion IsField (map (name_of shape) (range_with_len a n))
names_plain a zero h = tt
names_plain a (suc n) h = (name_plain a (omega (arith, h)), names_plain (a + 1) n (omega (arith, h)))

abbrev pub columns : List (List ℕ)
columns = map (name_of shape) (range_with_len 0 37)

pub header_read : (tail : List ℕ) → next_record default_config st.StartRecord [] [] (header ++ tail) ≡ Some (columns, st.StartRecord, tail)
unfolding header
header_read tail = one_row (name_of shape 0) (name_of shape 1) (map (name_of shape) (range_with_len 2 35)) tail (name_plain 0 (omega arith)) (names_plain 1 36 (omega arith))

-- ---- the text
abbrev pub at : List DrawnItem → ℕ → DrawnItem
at xs i = get_or xs i no_item

abbrev pub rows_of_text : List DrawnItem → List (List (List ℕ))
rows_of_text xs = columns ∷ map (fields_at (at xs)) (range_with_len 0 (length xs))

pub no_mark : (xs : List DrawnItem) → strip_bom (bank_text xs) ≡ bank_text xs
unfolding bank_text header strip_bom
no_mark xs = refl

pub all_read : (xs : List DrawnItem) → ((i : ℕ) → IsDrawn (at xs i)) → length xs ≤ 512 → (fuel : ℕ) → length xs < fuel
    → records_from default_config (suc fuel) st.StartRecord (bank_text xs) ≡ rows_of_text xs
unfolding bank_text records_from
all_read xs drawn few fuel lt =
    rw (header_read (flat_map (λ i. item_text i (at xs i)) (range_with_len 0 (length xs)))) (ap (λ (rows : List (List (List ℕ))). columns ∷ rows) (items_read (at xs) drawn fuel 0 (length xs) lt (omega (arith, few))))
