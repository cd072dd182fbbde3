-- The bank text of a drill is the text of its bank.
use Rattle.std.proofs.Common.{◌≡◌, ◌∙◌, ℕ, zero, suc, ◌+◌, ◌-◌, ◌*◌, ◌<◌, ◌≤◌, List, [], ◌∷◌, ◌++◌, length, get_or, map, refl, sym, ap, subst, arith, length-append, ℤ, pos, negsuc, neg_ℤ}
use Rattle.std.specs.Fmt.{decimal, signed_decimal}
use Rattle.std.specs.List.{AllByRecursion, flat_map, range_with_len}
use Rattle.std.proofs.Math.Facts.{yes_leb}
use Rattle.std.proofs.lemmas.List.{length-map, get_or_append_left, get_or-append-add, get_or-map}
use Rattle.std.proofs.lemmas.List.FromFn.{length-map-range_with_len, get_or-map-range_with_len}
use Rattle.csv.specs.Reading.{default_config, records, records_from}
use Rattle.csv.specs.declared.parser.State.TheVariants as st
use Rattle.exam_text.specs.Numbers.{magnitude}
use Rattle.bank_tables.specs.Tables.{Item, size, item, no_item as no_row}
use Rattle.bank_tables.specs.Validity.{IsBank, IsLogLik}
use Rattle.bank_reader.specs.Columns.{name_of}
use Rattle.bank_reader.specs.Grammar.{records_of, IsNumber, IsItem, IsHeader, IsBankRows, IsBankText}
use Rattle.bank_maker.specs.declared.item.DrawnItem.{DrawnItem}
use Rattle.bank_maker.specs.Items.{drawn, items, information, wrong, right, points, row_of}
use Rattle.bank_maker.specs.Banks.{record_text, row_fields, item_text, no_item, shape, header, bank_text, tables_of}
use Rattle.bank_maker.proofs.ReadableBanks.{IsField, IsDrawn, stimulus_low, points_below, plain_number, fields_plain, fields_at, columns, name_plain, names_plain, at, rows_of_text, no_mark, all_read}

-- ---- lists
pub each_value : {X : Type 0} (P : X → Type 0) (xs : List X) (d : X) → AllByRecursion P xs → P d → (k : ℕ) → P (get_or xs k d)
each_value P [] d h p k = p
each_value P (x ∷ xs) d h p zero = h.0
each_value P (x ∷ xs) d h p (suc k) = each_value P xs d h.1 p k

after_four : (a b c d : List ℕ) (rest : List (List ℕ)) (g : ℕ) → get_or (a ∷ b ∷ c ∷ d ∷ rest) (4 + g) [] ≡ get_or rest g []
after_four a b c d rest g =
    let e : 4 + g ≡ suc (suc (suc (suc g))) = omega arith in
    ap (λ (n : ℕ). get_or (a ∷ b ∷ c ∷ d ∷ rest) n []) e

in_first : (vs : List ℕ) (rest : List (List ℕ)) (g : ℕ) → g < length vs → get_or (map decimal vs ++ rest) g [] ≡ decimal (get_or vs g 0)
in_first vs rest g lt =
    get_or_append_left (map decimal vs) rest [] g (subst (λ (n : ℕ). g < n) (sym (length-map vs decimal)) lt) ∙ get_or-map decimal vs g 0 [] lt

in_second : (vs : List ℕ) (zs : List ℤ) (j : ℕ) → j < length zs → get_or (map decimal vs ++ map signed_decimal zs) (length (map decimal vs) + j) [] ≡ signed_decimal (get_or zs j (pos 0))
in_second vs zs j lt = get_or-append-add (map decimal vs) (map signed_decimal zs) j [] ∙ get_or-map signed_decimal zs j (pos 0) [] lt

-- ---- the numbers of an item
record IsLoss (z : ℤ) : Type 0 where
  below : ℕ
  is : z ≡ negsuc below
  low : below ≤ 1000

loss_of : (n : ℕ) → 50 + n ≤ 1000 → IsLoss (neg_ℤ (pos (50 + n)))
loss_of n h =
    let e : 50 + n ≡ suc (49 + n) = omega arith in
    record { below = 49 + n; is = ap (λ (m : ℕ). neg_ℤ (pos m)) e; low = omega (arith, h) }

loss_small : (z : ℤ) → IsLoss z → magnitude z ≤ 999999999
loss_small z loss = subst (λ (x : ℤ). magnitude x ≤ 999999999) (sym loss.is) (omega (arith, loss.low))

loss_range : (z : ℤ) → IsLoss z → IsLogLik z
loss_range z loss = subst IsLogLik (sym loss.is) (record { le = yes_leb (omega (arith, loss.low)) }, omega arith)

zero_range : IsLogLik (pos 0)
zero_range = (omega arith, omega arith)

each_map : {X : Type 0} (P Q : X → Type 0) (xs : List X) → ((x : X) → P x → Q x) → AllByRecursion P xs → AllByRecursion Q xs
each_map P Q [] f h = tt
each_map P Q (x ∷ xs) f h = (f x h.0, each_map P Q xs f h.1)

module _ (x : DrawnItem) (is_drawn : IsDrawn x) where
  infos_low : (ps : List ℕ) → AllByRecursion (λ v. v ≤ 1000) (map (information x) ps)
  infos_low [] = tt
  infos_low (p ∷ ps) = (omega (arith, is_drawn.height), infos_low ps)

  rights_low : (ps : List ℕ) → AllByRecursion IsLoss (map (right x) ps)
  rights_low [] = tt
  rights_low (p ∷ ps) = (loss_of (40 * (x.peak - p)) (omega (arith, is_drawn.peak)), rights_low ps)

  losses : (ps qs : List ℕ) → AllByRecursion (λ p. p ≤ 10) ps → AllByRecursion IsLoss (map (wrong x) ps ++ map (right x) qs)
  losses [] qs h = rights_low qs
  losses (p ∷ ps) qs h = (loss_of (40 * (p - x.peak)) (omega (arith, h.0)), losses ps qs h.1)

  is_item : (i : ℕ) → i < 512 → IsItem shape (i + 1) (decimal i ∷ row_fields (row_of i x)) (row_of i x)
  unfolding points
  is_item i few =
      let vs = map (information x) (range_with_len 0 11) in
      let zs = map (wrong x) (range_with_len 0 11) ++ map (right x) (range_with_len 0 11) in
      let fields = decimal i ∷ row_fields (row_of i x) in
      let rest = map decimal vs ++ map signed_decimal zs in
      let lost = losses (range_with_len 0 11) (range_with_len 0 11) (points_below 0 11 (omega arith)) in
      record {
        count = refl;
        number = record { small = omega (arith, few); text = ap decimal (omega arith) };
        stimulus = record { small = omega (arith, stimulus_low i); text = refl };
        categories = record { small = omega arith; text = refl };
        quantity_count = refl;
        quantities = λ j lt.
            let e : j ≡ 0 = omega (arith, lt) in
            subst (λ (k : ℕ). IsNumber fields (3 + k) (get_or (x.quantity ∷ []) k 0)) (sym e) (record { small = omega (arith, is_drawn.quantity); text = refl });
        info_count = refl;
        info = λ g lt. record {
          small = omega (arith, each_value (λ v. v ≤ 1000) vs 0 (infos_low (range_with_len 0 11)) (omega arith) g);
          text = after_four _ _ _ _ rest g ∙ in_first vs (map signed_decimal zs) g lt;
        };
        loglik_count = refl;
        loglik = λ j lt.
            let e : 15 + j ≡ 4 + (11 + j) = omega arith in
            record {
              small = each_value (λ z. magnitude z ≤ 999999999) zs (pos 0) (each_map IsLoss (λ z. magnitude z ≤ 999999999) zs loss_small lost) (omega arith) j;
              text = ap (λ (c : ℕ). get_or fields c []) e ∙ (after_four _ _ _ _ rest (11 + j) ∙ in_second vs zs j lt);
            };
        empty = λ j lt. absurd (omega (arith, lt));
      }

-- ---- the whole text
header_is : IsHeader columns shape
header_is = record {
  shape = record { quantities = omega arith; grid_low = omega arith; grid = omega arith; responses_low = omega arith; responses = omega arith };
  count = refl;
  names = λ c lt. get_or-map-range_with_len (name_of shape) 0 37 c c [] lt (omega arith);
}

fields_short : (fs : List (List ℕ)) → AllByRecursion IsField fs → length (flat_map (λ field. 44 ∷ field) fs) ≤ 26 * length fs
fields_short [] h = omega arith
fields_short (f ∷ fs) h = omega (arith, h.0.short, fields_short fs h.1, length-append f (flat_map (λ field. 44 ∷ field) fs))

record_short : (f : List ℕ) (fs : List (List ℕ)) → IsField f → AllByRecursion IsField fs → (1 ≤ length (record_text f fs)) × (length (record_text f fs) ≤ 26 + 26 * length fs)
record_short f fs p ps =
    let whole = length-append f (flat_map (λ field. 44 ∷ field) fs ++ 10 ∷ []) in
    let back = length-append (flat_map (λ field. 44 ∷ field) fs) (10 ∷ []) in
    (omega (arith, whole, back), omega (arith, whole, back, p.short, fields_short fs ps))

header_short : (1 ≤ length header) × (length header ≤ 1000)
unfolding header
header_short =
    let h = record_short (name_of shape 0) (map (name_of shape) (range_with_len 1 36)) (name_plain 0 (omega arith)) (names_plain 1 36 (omega arith)) in
    (h.0, omega (arith, h.1))

module _ (xs : List DrawnItem) (are_drawn : (i : ℕ) → IsDrawn (at xs i)) (some : 0 < length xs) (few : length xs ≤ 512) where
  item_short : (i : ℕ) → i < 512 → (1 ≤ length (item_text i (at xs i))) × (length (item_text i (at xs i)) ≤ 1000)
  unfolding item_text points
  item_short i lt =
      let h = record_short (decimal i) (row_fields (row_of i (at xs i))) (plain_number i (omega (arith, lt))) (fields_plain (at xs i) (are_drawn i) i lt) in
      (h.0, omega (arith, h.1))

  items_short : (a n : ℕ) → a + n ≤ 512
      → (n ≤ length (flat_map (λ i. item_text i (at xs i)) (range_with_len a n))) × (length (flat_map (λ i. item_text i (at xs i)) (range_with_len a n)) ≤ 1000 * n)
  items_short a zero h = (omega arith, omega arith)
  items_short a (suc n) h =
      let first = item_short a (omega (arith, h)) in
      let rest = items_short (a + 1) n (omega (arith, h)) in
      let whole = length-append (item_text a (at xs a)) (flat_map (λ i. item_text i (at xs i)) (range_with_len (a + 1) n)) in
      (omega (arith, first.0, rest.0, whole), omega (arith, first.1, rest.1, whole))

  text_short : (length xs < length (bank_text xs)) × (length (bank_text xs) ≤ 4194304)
  unfolding bank_text
  text_short =
      let body = items_short 0 (length xs) (omega (arith, few)) in
      let whole = length-append header (flat_map (λ i. item_text i (at xs i)) (range_with_len 0 (length xs))) in
      (omega (arith, header_short.0, body.0, whole), omega (arith, header_short.1, body.1, whole, few))

  rows_are : records_of (bank_text xs) ≡ rows_of_text xs
  rows_are =
      let more : length (bank_text xs) + 1 ≡ suc (length (bank_text xs)) = omega arith in
      ap (λ (text : List ℕ). records default_config text) (no_mark xs)
      ∙ (ap (λ (n : ℕ). records_from default_config n st.StartRecord (bank_text xs)) more
      ∙ all_read xs are_drawn few (length (bank_text xs)) text_short.0)

  size_is : size (tables_of xs) ≡ length xs
  size_is = length-map-range_with_len (λ i. row_of i (at xs i)) 0 (length xs)

  item_is : (i : ℕ) → i < length xs → item (tables_of xs) i ≡ row_of i (at xs i)
  item_is i lt = get_or-map-range_with_len (λ i. row_of i (at xs i)) 0 (length xs) i i no_row lt (omega arith)

  each_item : (P : Item → Type 0) → P no_row → ((i : ℕ) → P (row_of i (at xs i))) → (i : ℕ) → P (item (tables_of xs) i)
  each_item P none rows i = each_value P (map (λ i. row_of i (at xs i)) (range_with_len 0 (length xs))) no_row (go 0 (length xs)) none i
    where
      go : (a n : ℕ) → AllByRecursion P (map (λ i. row_of i (at xs i)) (range_with_len a n))
      go a zero = tt
      go a (suc n) = (rows a, go (a + 1) n)

  at_item : (P : Item → Type 0) → ((i : ℕ) → P (row_of i (at xs i))) → (i : ℕ) → i < size (tables_of xs) → P (item (tables_of xs) i)
  at_item P rows i lt = subst P (sym (item_is i (omega (arith, lt, size_is)))) (rows i)

  is_bank : IsBank (tables_of xs)
  unfolding points
  is_bank = record {
    some = omega (arith, some, size_is);
    few = omega (arith, few, size_is);
    some_points = omega arith;
    few_points = omega arith;
    few_quantities = omega arith;
    stimulus_high = each_item (λ r. r.stimulus ≤ 64) (omega arith) stimulus_low;
    categories_low = at_item (λ r. 2 ≤ r.categories) (λ i. omega arith);
    categories_high = each_item (λ r. r.categories ≤ 5) (omega arith) (λ i. omega arith);
    quantity_number = at_item (λ r. length r.quantities ≡ 1) (λ i. refl);
    quantity_high = λ i which. each_item (λ r. get_or r.quantities which 0 ≤ 65535) (omega arith)
        (λ j. each_value (λ q. q ≤ 65535) ((at xs j).quantity ∷ []) 0 (omega (arith, (are_drawn j).quantity), tt) (omega arith) which) i;
    info_number = at_item (λ r. length r.info ≡ 11) (λ i. refl);
    info_high = λ i point. each_item (λ r. get_or r.info point 0 ≤ 1000000) (omega arith)
        (λ j. omega (arith, each_value (λ v. v ≤ 1000) (map (information (at xs j)) (range_with_len 0 11)) 0 (infos_low (at xs j) (are_drawn j) (range_with_len 0 11)) (omega arith) point)) i;
    loglik_number = at_item (λ r. length r.loglik ≡ r.categories * 11) (λ i. refl);
    loglik_range = λ i response point. each_item (λ r. IsLogLik (get_or r.loglik (response * 11 + point) (pos 0))) zero_range
        (λ j.
        let zs = map (wrong (at xs j)) (range_with_len 0 11) ++ map (right (at xs j)) (range_with_len 0 11) in
        each_value IsLogLik zs (pos 0) (each_map IsLoss IsLogLik zs loss_range (losses (at xs j) (are_drawn j) (range_with_len 0 11) (range_with_len 0 11) (points_below 0 11 (omega arith)))) zero_range (response * 11 + point)) i;
  }

  row_is : (i : ℕ) → i < length xs → get_or (rows_of_text xs) (i + 1) [] ≡ decimal i ∷ row_fields (row_of i (at xs i))
  row_is i lt =
      let next : i + 1 ≡ suc i = omega arith in
      ap (λ (n : ℕ). get_or (rows_of_text xs) n []) next
      ∙ get_or-map-range_with_len (fields_at (at xs)) 0 (length xs) i i [] lt (omega arith)

  many_rows : length (rows_of_text xs) ≡ suc (length xs)
  many_rows = ap suc (length-map-range_with_len (fields_at (at xs)) 0 (length xs))

  are_rows : IsBankRows (rows_of_text xs) (tables_of xs)
  are_rows = record {
    shape = shape;
    header = header_is;
    grid = refl;
    quantities = refl;
    count = omega (arith, size_is, many_rows);
    items = λ i lt.
        let there : i < length xs = omega (arith, lt, many_rows) in
        subst (λ (fields : List (List ℕ)). IsItem shape (i + 1) fields (item (tables_of xs) i)) (sym (row_is i there))
        (subst (λ (r : Item). IsItem shape (i + 1) (decimal i ∷ row_fields (row_of i (at xs i))) r) (sym (item_is i there)) (is_item (at xs i) (are_drawn i) i (omega (arith, there, few))));
  }

  pub is_text : IsBankText (bank_text xs) (tables_of xs)
  is_text = record { short = text_short.1; rows = subst (λ (rows : List (List (List ℕ))). IsBankRows rows (tables_of xs)) (sym rows_are) are_rows; bank = is_bank }

-- ---- the items that are drawn from a number
drawn_is : (seed i : ℕ) → IsDrawn (drawn seed i)
drawn_is seed i = record { peak = omega arith; height = omega arith; quantity = omega arith }

pub all_drawn : (seed i : ℕ) → IsDrawn (at (items seed) i)
unfolding items
all_drawn seed i = each_value IsDrawn (map (drawn seed) (range_with_len 0 120)) no_item (go 0 120) (record { peak = omega arith; height = omega arith; quantity = omega arith }) i
  where
    go : (a n : ℕ) → AllByRecursion IsDrawn (map (drawn seed) (range_with_len a n))
    go a zero = tt
    go a (suc n) = (drawn_is seed a, go (a + 1) n)

pub many_drawn : (seed : ℕ) → length (items seed) ≡ 120
unfolding items
many_drawn seed = length-map-range_with_len (drawn seed) 0 120

pub drill_text : (seed : ℕ) → IsBankText (bank_text (items seed)) (tables_of (items seed))
drill_text seed = is_text (items seed) (all_drawn seed) (omega (arith, many_drawn seed)) (omega (arith, many_drawn seed))
