-- The list of a start: what is read was written there, what was written is read, and what a cut
-- leaves.
use Rattle.std.proofs.Common.{◌≡◌, ℕ, ◌+◌, ◌<◌, ◌≤◌, Bool, true, false, not, List, length, take, Option, Some, None, Ok, refl, sym, subst, ◌∙◌, arith, inl, inr, length-append}
use Rattle.std.specs.Prelude.{MatchOption, IfSome, is_some}
use Rattle.std.proofs.Math.Bool.{true≢false}
use Rattle.bank_tables.specs.Items.{has, AreWords, IsLowest}
use Rattle.bank_tables.specs.Sums.{any_below}
use Rattle.bank_tables.proofs.Bits.{has_past}
use Rattle.std.proofs.lemmas.Bool.{cases_lt}
use Rattle.form_model.proofs.SumLaws.{either, any_intro, any_elim}
use Rattle.exam_text.specs.First.{◌>>=◌, unless, fault_where}
use Rattle.exam_text.proofs.Firsts.{bind_ok, unless_ok, none_where, ok_is}
use Rattle.history_model.specs.declared.entry.Without.{Without}
use Rattle.proof_tree.proofs.Fields.{IsBytes, Stands, stand_both, stand_first, stand_second}
use Rattle.exam_records.specs.declared.fault.RecordFault.{RecordFault}
use Rattle.exam_records.specs.declared.fault.RecordFault.TheVariants.{Field}
use Rattle.exam_records.specs.Sets.{set_bytes}
use Rattle.exam_records.specs.Spelling.{list_bytes}
use Rattle.exam_records.specs.Reading.{set_at, some_set_at, list_at}
use Rattle.exam_records.proofs.SetLaws.{numbers_len}
use Rattle.exam_records.proofs.FieldLaws.{set_found, set_read}
use Rattle.exam_records.proofs.CutLaws.{ReadsOrShort, cut_set}

-- ---- a set that isn't empty
-- the lowest item of a set shows that there is one
pub some_of_lowest : (words : List ℕ) (o : Option ℕ) → MatchOption o ((i : ℕ) → has words i ≡ false) (λ x. IsLowest (has words) x) → IfSome o (λ x. x < 512) → is_some o ≡ any_below 512 (has words)
some_of_lowest words (Some x) is few = sym (any_intro 512 (has words) x few is.member)
some_of_lowest words None none few = elim (either (any_below 512 (has words))) [
  | inl some ↦ absurd (let at = any_elim 512 (has words) some in true≢false (sym at.2 ∙ none at.0))
  | inr empty ↦ sym empty
]

-- a list has items exactly where its words have a bit
pub some_item : (words : List ℕ) → any_below 512 (has words) ≡ true → (item : ℕ) × (has words item ≡ true)
some_item words some = let at = any_elim 512 (has words) some in (at.0, at.2)

pub some_bit : (words : List ℕ) → AreWords words → (item : ℕ) × (has words item ≡ true) → any_below 512 (has words) ≡ true
some_bit words are at = elim (cases_lt at.0 512) [
  | inl lt ↦ any_intro 512 (has words) at.0 lt at.1
  | inr past ↦ absurd (true≢false (sym at.1 ∙ has_past words at.0 are.eight past))
]

some_found : (bytes : List ℕ) (at : ℕ) (words : List ℕ) → IsBytes bytes → some_set_at bytes at ≡ Ok words → Stands bytes at (set_bytes (has words)) (at + 64) × AreWords words × (any_below 512 (has words) ≡ true)
unfolding some_set_at
some_found bytes at words fits e =
    let a = bind_ok (set_at bytes at) (λ ws. unless (fault_where (not (any_below 512 (has ws))) (Field at)) (Ok ws)) words e in
    let u = unless_ok (fault_where (not (any_below 512 (has a.0))) (Field at)) (Ok a.0) words a.2 in
    let here = set_found bytes at a.0 fits a.1 in
    let some : any_below 512 (has a.0) ≡ true = twice (any_below 512 (has a.0)) (none_where (not (any_below 512 (has a.0))) (Field at) u.0) in
    subst (λ (ws : List ℕ). Stands bytes at (set_bytes (has ws)) (at + 64) × AreWords ws × (any_below 512 (has ws) ≡ true)) (ok_is {F = RecordFault} a.0 words u.1) (here.0, here.1, some)
  where
    twice : (t : Bool) → not t ≡ false → t ≡ true
    twice true e = refl
    twice false e = absurd (true≢false e)

some_read : (bytes : List ℕ) (at : ℕ) (words : List ℕ) (next : ℕ) → AreWords words → any_below 512 (has words) ≡ true → Stands bytes at (set_bytes (has words)) next → some_set_at bytes at ≡ Ok words
unfolding some_set_at
some_read bytes at words next are some p = rw (set_read bytes at words next are p, some) refl

cut_some : (bytes : List ℕ) (k at : ℕ) (words : List ℕ) (next : ℕ) → k ≤ length bytes → AreWords words → any_below 512 (has words) ≡ true → Stands bytes at (set_bytes (has words)) next → ReadsOrShort k next (some_set_at (take k bytes) at) words
unfolding some_set_at
cut_some bytes k at words next kb are some p = elim (cut_set bytes k at words next kb are p) [
  | inl h ↦ inl (h.0, rw (h.1, some) refl)
  | inr h ↦ inr (h.0, rw h.1 refl)
]

-- ---- a list
pub list_len : (list : Without) → length (list_bytes list) ≡ 128
unfolding list_bytes
list_len list = omega (arith, length-append (set_bytes (has list.items)) (set_bytes (has list.form)), numbers_len 64 8 (has list.items), numbers_len 64 8 (has list.form))

-- a list that is at a place
pub record IsListAt (bytes : List ℕ) (at : ℕ) (list : Without) : Type 0 where
  pub stands : Stands bytes at (list_bytes list) (at + 128)
  pub some : any_below 512 (has list.items) ≡ true
  pub items : AreWords list.items
  pub form : AreWords list.form

pub list_found : (bytes : List ℕ) (at : ℕ) (list : Without) → IsBytes bytes → list_at bytes at ≡ Ok list → IsListAt bytes at list
unfolding list_at list_bytes
list_found bytes at list fits e =
    let a = bind_ok (some_set_at bytes at) (λ items. set_at bytes (at + 64) >>= λ form. Ok (record { items = items; form = form })) list e in
    let f = bind_ok (set_at bytes (at + 64)) (λ form. Ok (record { items = a.0; form = form })) list a.2 in
    let items = some_found bytes at a.0 fits a.1 in
    let form = set_found bytes (at + 64) f.0 fits f.1 in
    let end : at + 64 + 64 ≡ at + 128 = omega arith in
    let made : Without = record { items = a.0; form = f.0 } in
    let found : IsListAt bytes at made = record {
      stands = stand_both bytes at (set_bytes (has a.0)) (at + 64) (set_bytes (has f.0)) (at + 128) items.0 (subst (λ (n : ℕ). Stands bytes (at + 64) (set_bytes (has f.0)) n) end form.0);
      some = items.2;
      items = items.1;
      form = form.1;
    } in
    subst (IsListAt bytes at) (ok_is {F = RecordFault} made list f.2) found

-- where its two sets are
pub record HasSets (bytes : List ℕ) (at : ℕ) (list : Without) (next : ℕ) : Type 0 where
  pub items : Stands bytes at (set_bytes (has list.items)) (at + 64)
  pub form : Stands bytes (at + 64) (set_bytes (has list.form)) next
  pub end : next ≡ at + 128

pub list_sets : (bytes : List ℕ) (at : ℕ) (list : Without) (next : ℕ) → Stands bytes at (list_bytes list) next → HasSets bytes at list next
unfolding list_bytes
list_sets bytes at list next p =
    let I : List ℕ = set_bytes (has list.items) in
    let F : List ℕ = set_bytes (has list.form) in
    let end : at + length I ≡ at + 64 = omega (arith, numbers_len 64 8 (has list.items)) in
    record {
      items = subst (λ (n : ℕ). Stands bytes at I n) end (stand_first bytes at I F next p);
      form = subst (λ (n : ℕ). Stands bytes n F next) end (stand_second bytes at I F next p);
      end = omega (arith, p.ends, length-append I F, numbers_len 64 8 (has list.items), numbers_len 64 8 (has list.form));
    }

pub list_read : (bytes : List ℕ) (at : ℕ) (list : Without) (next : ℕ) → AreWords list.items → AreWords list.form → any_below 512 (has list.items) ≡ true → Stands bytes at (list_bytes list) next → list_at bytes at ≡ Ok list
unfolding list_at
list_read bytes at list next items form some p =
    let sets = list_sets bytes at list next p in
    rw (some_read bytes at list.items (at + 64) items some sets.items, set_read bytes (at + 64) list.form next form sets.form) refl

pub cut_list : (list : Without) (bytes : List ℕ) (k at next : ℕ) → k ≤ length bytes → AreWords list.items → AreWords list.form → any_below 512 (has list.items) ≡ true → Stands bytes at (list_bytes list) next → ReadsOrShort k next (list_at (take k bytes) at) list
unfolding list_at
cut_list list bytes k at next kb items form some p =
    let sets = list_sets bytes at list next p in
    let end = sets.end in
    elim (cut_some bytes k at list.items (at + 64) kb items some sets.items) [
      | inl h ↦ elim (cut_set bytes k (at + 64) list.form next kb form sets.form) [
        | inl g ↦ inl (g.0, rw (h.1, g.1) refl)
        | inr g ↦ inr (g.0, rw (h.1, g.1) refl)
      ]
      | inr h ↦ inr (omega (arith, h.0, end), rw h.1 refl)
    ]
