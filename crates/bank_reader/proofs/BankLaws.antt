-- What is read is a bank text.
use Rattle.std.proofs.Common.{◌≡◌, ℕ, ◌+◌, ◌-◌, ◌<◌, ◌≤◌, ◌⊎◌, inl, inr, arith, List, [], length, get_or, Option, Some, None, Result, Ok, Err, refl, sym, ap, ap₂, subst, ◌∙◌}
use Rattle.std.specs.Prelude.{IfOk, IfErr, nat_lt}
use Rattle.std.specs.Option.{option_map}
use Rattle.std.proofs.lemmas.Bool.{ltb-false, ltb-true, le-ltb, lt-ltb}
use Rattle.exam_text.specs.First.{fault_where, each_below, Gives}
use Rattle.exam_text.proofs.Firsts.{bind_ok, unless_ok, none_where, ok_is, each_is, each_from}
use Rattle.bank_reader.specs.declared.fault.ReadFault.{ReadFault}
use Rattle.bank_reader.specs.declared.fault.ReadFault.TheVariants.{Source, TooLong, Header, Csv, Field, Bank, Memory}
use Rattle.bank_tables.specs.declared.bank_fault.BankFault.{BankFault}
use Rattle.bank_tables.specs.Faults.{bank_fault}
use Rattle.bank_tables.proofs.BankLaws.{bank_is, bank_from}
use Rattle.bank_reader.specs.declared.item.Shape.{Shape}
use Rattle.bank_reader.proofs.Errs.{refuse, bind_err, unless_err, where_some, some_is, each_err}
use Rattle.bank_reader.proofs.ItemFaults.{item_fault}
use Rattle.bank_reader.proofs.HeaderFaults.{header_again, header_fault}
use Rattle.text_source.specs.declared.TextFault.{TextFault}
use Rattle.text_source.specs.declared.TextFault.TheVariants as missing
use Rattle.bank_reader.specs.TextFaults.{fault_of}
use Rattle.bank_reader.specs.Grammar.{IsHeader, IsBankRows, IsBankText, IsRecordFault, IsTextFault, records_of, longest}
use Rattle.bank_reader.specs.Reading.{item_at, items_at, header_of, rows_of, bank_of, Reads}
use Rattle.bank_tables.specs.Tables.{Tables, Item, no_item}
use Rattle.bank_reader.proofs.GrammarLaws.{item_is, item_again}
use Rattle.bank_reader.proofs.HeaderLaws.{header_is}

pub rows_is : (rows : List (List (List ℕ))) (t : Tables) → rows_of rows ≡ Ok t → IsBankRows rows t
unfolding rows_of items_at
rows_is rows t e =
    let h = bind_ok (header_of (get_or rows 0 [])) _ t e in
    let s = h.0 in
    let m = bind_ok (items_at s rows) _ t h.2 in
    let each = each_is (length rows - 1) (λ i. item_at s (i + 1) (get_or rows (i + 1) [])) m.0 m.1 in
    let made : Tables = record { grid = s.grid; quantities = s.quantities; items = m.0 } in
    let is : IsBankRows rows made = record {
      shape = s;
      header = header_is (get_or rows 0 []) s h.1;
      grid = refl;
      quantities = refl;
      count = each.0;
      items = λ i lt. item_is s (i + 1) (get_or rows (i + 1) []) (get_or m.0 i no_item) (each.1 i no_item lt);
    } in
    subst (λ (u : Tables). IsBankRows rows u) (ok_is {F = ReadFault} made t m.2) is

pub rows_again : (rows : List (List (List ℕ))) (t : Tables) → IsBankRows rows t → rows_of rows ≡ Ok t
unfolding rows_of items_at
rows_again rows t h =
    let header : header_of (get_or rows 0 []) ≡ Ok h.shape = header_again (get_or rows 0 []) h.shape h.header in
    let items : each_below (length rows - 1) (λ i. item_at h.shape (i + 1) (get_or rows (i + 1) [])) ≡ Ok t.items = each_from (length rows - 1) (λ i. item_at h.shape (i + 1) (get_or rows (i + 1) [])) t.items no_item h.count (λ i lt. item_again h.shape (i + 1) (get_or rows (i + 1) []) (get_or t.items i no_item) (h.items i lt)) in
    rw (header, items) (ap₂ (λ (g q : ℕ). Ok (record { grid = g; quantities = q; items = t.items })) (sym h.grid) (sym h.quantities))

none_mapped : (o : Option BankFault) → option_map Bank o ≡ None → o ≡ None
none_mapped None e = refl
none_mapped (Some f) e = absurd cc

-- what is read is a bank text
pub text_is : (text : List ℕ) (b : Tables) → bank_of text ≡ Ok b → IsBankText text b
unfolding bank_of
text_is text b e =
    let u = unless_ok (fault_where (nat_lt longest (length text)) TooLong) _ b e in
    let r = bind_ok (rows_of (records_of text)) _ b u.1 in
    let v = unless_ok (option_map Bank (bank_fault r.0)) _ b r.2 in
    let same : r.0 ≡ b = ok_is {F = ReadFault} r.0 b v.1 in
    let is : IsBankText text r.0 = record {
      short = ltb-false longest (length text) (none_where (nat_lt longest (length text)) TooLong u.0);
      rows = rows_is (records_of text) r.0 r.1;
      bank = bank_is r.0 (none_mapped (bank_fault r.0) v.0);
    } in
    subst (λ (t : Tables). IsBankText text t) same is

-- and a bank text is read
pub text_again : (text : List ℕ) (b : Tables) → IsBankText text b → bank_of text ≡ Ok b
unfolding bank_of
text_again text b h =
    rw (le-ltb longest (length text) h.short, rows_again (records_of text) b h.rows, bank_from b h.bank) refl

-- a text is of one bank
pub one_bank : (text : List ℕ) (a b : Tables) → IsBankText text a → IsBankText text b → a ≡ b
one_bank text a b ha hb = ok_is {F = ReadFault} a b (sym (text_again text a ha) ∙ text_again text b hb)

ok_or_err : {A : Type 0} (x : A) (e : ReadFault) → (let r : Result A ReadFault = Ok x in r ≡ Err e) → ⊥
ok_or_err x e h = cc

-- a record that is refused is the first that is no item
records_fault : (rows : List (List (List ℕ))) (s : Shape) (e : ReadFault) → IsHeader (get_or rows 0 []) s → items_at s rows ≡ Err e → (k : ℕ) × IsRecordFault rows k e
unfolding items_at
records_fault rows s e header h =
    let read : ℕ → Result Item ReadFault = λ i. item_at s (i + 1) (get_or rows (i + 1) []) in
    let first = each_err (length rows - 1) read e h in
    let each = each_is first.at read first.before.0 first.before.1 in (
      first.at + 1,
      record {
        shape = s;
        header = header;
        behind = omega arith;
        there = omega (arith, first.below);
        before = λ i lt. let j : i < first.at = omega (arith, lt) in (get_or first.before.0 i no_item, item_is s (i + 1) (get_or rows (i + 1) []) (get_or first.before.0 i no_item) (each.1 i no_item j));
        here = item_fault s (first.at + 1) (get_or rows (first.at + 1) []) e first.here;
      },
    )

text_record : (text : List ℕ) (k : ℕ) (e : ReadFault) → length text ≤ longest → IsRecordFault (records_of text) k e → IsTextFault text e
text_record text k (Csv r) short h = (short, subst (λ (n : ℕ). IsRecordFault (records_of text) n (Csv r)) (sym h.here.0) h)
text_record text k (Field r c) short h = (short, subst (λ (n : ℕ). IsRecordFault (records_of text) n (Field r c)) (sym h.here.0) h)
text_record text k (Header c) short h = absurd h.here
text_record text k (Bank f) short h = absurd h.here
text_record text k Source short h = absurd h.here
text_record text k TooLong short h = absurd h.here
text_record text k Memory short h = absurd h.here

mapped_some : (o : Option BankFault) (e : ReadFault) → option_map Bank o ≡ Some e → (f : BankFault) × (o ≡ Some f) × (Bank f ≡ e)
mapped_some None e h = absurd cc
mapped_some (Some f) e h = (f, refl, some_is (Bank f) e h)

rows_fault : (text : List ℕ) (e : ReadFault) → length text ≤ longest → rows_of (records_of text) ≡ Err e → IsTextFault text e
unfolding rows_of
rows_fault text e short h =
    let rows = records_of text in
    elim (bind_err (header_of (get_or rows 0 [])) _ e h) [
      | inl header ↦ (let f = header_fault (get_or rows 0 []) e header in
          subst (λ (d : ReadFault). IsTextFault text d) (sym f.1) (short, f.2))
      | inr shape ↦ elim (bind_err (items_at shape.0 rows) _ e shape.2) [
        | inl items ↦ (let r = records_fault rows shape.0 e (header_is (get_or rows 0 []) shape.0 shape.1) items in text_record text r.0 e short r.1)
        | inr whole ↦ absurd (ok_or_err (let t : Tables = record { grid = shape.0.grid; quantities = shape.0.quantities; items = whole.0 } in t) e whole.2)
      ]
    ]

-- what is refused has this fault first
pub text_fault : (text : List ℕ) (e : ReadFault) → bank_of text ≡ Err e → IsTextFault text e
unfolding bank_of
text_fault text e h = elim (unless_err (fault_where (nat_lt longest (length text)) TooLong) _ e h) [
  | inl long ↦ (let w = where_some (nat_lt longest (length text)) TooLong e long in
      subst (λ (d : ReadFault). IsTextFault text d) w.1 (ltb-true longest (length text) w.0))
  | inr fits ↦ (let short : length text ≤ longest = ltb-false longest (length text) (none_where (nat_lt longest (length text)) TooLong fits.0) in
      elim (bind_err (rows_of (records_of text)) _ e fits.1) [
        | inl refused ↦ rows_fault text e short refused
        | inr rows ↦ elim (unless_err (option_map Bank (bank_fault rows.0)) _ e rows.2) [
          | inl faulty ↦ (let f = mapped_some (bank_fault rows.0) e faulty in
              subst (λ (d : ReadFault). IsTextFault text d) f.2 (short, (rows.0, rows_is (records_of text) rows.0 rows.1, f.1)))
          | inr whole ↦ absurd (ok_or_err rows.0 e whole.1)
        ]
      ])
]

-- no text is refused for a fault of its source
pub no_source : (text : List ℕ) (r : Result Tables ReadFault) → Gives Memory (λ b. b) r (bank_of text) → (P : Type 0) → IfErr r (λ e. e ≡ Source → P)
no_source text (Ok b) given P = tt
no_source text (Err e) given P = λ source. elim given [
  | inl memory ↦ absurd (unlike (sym source ∙ memory))
  | inr refused ↦ absurd (subst (λ (d : ReadFault). IsTextFault text d) source (text_fault text e refused))
]
  where
    unlike : (let m : ReadFault = Source in m ≡ Memory) → ⊥
    unlike e = cc

-- the same if the source reports its bytes
pub is_found : (T : Type 0) (text : List ℕ) (r : Result Tables ReadFault) → (T → Reads text r) → IfOk r (λ b. T → IsBankText text b)
is_found T text (Ok b) given = λ told. text_is text b (given told)
is_found T text (Err e) given = tt

only_memory : (text : List ℕ) (e : ReadFault) (b : Tables) → Reads text (Err e) → IsBankText text b → (e ≡ Memory) ⊎ (e ≡ Source)
only_memory text e b given h = elim given [
  | inl memory ↦ inl memory
  | inr rest ↦ elim rest [
    | inl source ↦ inr source
    | inr refused ↦ absurd (ok_or_err b e (sym (text_again text b h) ∙ refused))
  ]
]

pub is_only : (T : Type 0) (text : List ℕ) (r : Result Tables ReadFault) → (T → Reads text r) → IfErr r (λ e. T → (b : Tables) → IsBankText text b → (e ≡ Memory) ⊎ (e ≡ Source))
is_only T text (Ok b) given = tt
is_only T text (Err e) given = λ told b h. only_memory text e b (given told) h

its_fault : (text : List ℕ) (e : ReadFault) → Reads text (Err e) → (e ≡ Memory) ⊎ (e ≡ Source) ⊎ IsTextFault text e
its_fault text e given = elim given [
  | inl memory ↦ inl memory
  | inr rest ↦ elim rest [
    | inl source ↦ inr (inl source)
    | inr refused ↦ inr (inr (text_fault text e refused))
  ]
]

pub is_fault : (T : Type 0) (text : List ℕ) (r : Result Tables ReadFault) → (T → Reads text r) → IfErr r (λ e. T → (e ≡ Memory) ⊎ (e ≡ Source) ⊎ IsTextFault text e)
is_fault T text (Ok b) given = tt
is_fault T text (Err e) given = λ told. its_fault text e (given told)

long_text : (text : List ℕ) → longest < length text → bank_of text ≡ Err TooLong
unfolding bank_of
long_text text h = rw (lt-ltb longest (length text) h) refl

-- where there is no text
pub no_text : (text : List ℕ) (t : TextFault) (e : ReadFault) → e ≡ fault_of t → (t ≡ missing.TooLong → longest < length text) → Reads text (Err e)
no_text text missing.Source e same long = inr (inl same)
no_text text missing.TooLong e same long = inr (inr (long_text text (long refl) ∙ ap (λ (d : ReadFault). refuse {A = Tables} d) (sym same)))
no_text text missing.Memory e same long = inl same
