-- The plan of a drill.
use Rattle.std.specs.Prelude.{ℕ, ◌+◌, ◌*◌, ◌%◌, ◌^◌, ◌&&◌, ◌==◌, nat_lt, nat_le, List, [], ◌∷◌, ◌++◌, map, replicate, Some, pos, neg_ℤ}
use Rattle.std.specs.List.{flat_map, range_with_len, sum_by, slice_range}
use Rattle.std.specs.Int.{abs_diff, to_be_bytes}
use Rattle.std.specs.Int.Width.{w64}
use Rattle.bank_tables.specs.Items.{Set}
use Rattle.spec_reader.specs.Rules.{Said, Count, Quantity, Enemies, Stimuli}
use Rattle.spec_reader.specs.Plans.{SaidPlan}
use Rattle.spec_reader.specs.Canonical.{line_text, canonical_rules}
use Rattle.bank_maker.specs.declared.item.DrawnItem.{DrawnItem}
use Rattle.bank_maker.specs.Items.{item_count}

-- the items from low to high
abbrev pub between : ℕ → ℕ → Set
between low high i = nat_le low i && nat_le i high

-- the items whose number leaves this remainder by 5
abbrev pub in_category : ℕ → Set
in_category c i = nat_lt i item_count && (i % 5 == c)

abbrev pub category_row : ℕ → Said
category_row c = Count 3 5 (in_category c)

-- ten pairs of enemies, from item 50 on
abbrev pub pair : ℕ → Said
pair k = Enemies (between (50 + 2 * k) (51 + 2 * k))

-- the items of the base form have this much of the quantity in all
abbrev pub base_quantity : List DrawnItem → ℕ
base_quantity xs = sum_by (λ x. x.quantity) (slice_range xs 30 50)

abbrev pub rows : ℕ → List Said
rows high = map category_row (range_with_len 0 5)
    ++ (Quantity 0 600 high (between 0 119) ∷ (map pair (range_with_len 0 10) ++ Stimuli 0 2 ∷ []))

-- the number as eight bytes, the highest first
abbrev pub eight_bytes : ℕ → List ℕ
eight_bytes number = to_be_bytes w64 number

abbrev pub key_of : ℕ → List ℕ
key_of number =
    ((eight_bytes number ++ eight_bytes number) ++ eight_bytes number) ++ eight_bytes number

-- a test of twenty items; the key is the number as eight bytes, four times; the base form is the
-- items from 30 to 49, and the quantity may exceed theirs by 50
abbrev pub plan : ℕ → ℕ → List DrawnItem → SaidPlan
plan number sessions xs =
    record {
      length = 20;
      prior = map (λ g. neg_ℤ (pos (20 * abs_diff g 5 ^ 2))) (range_with_len 0 11);
      rows = rows (base_quantity xs + 50);
      bounds = replicate 6 (record { low = 2; high = 4 });
      rate = record { num = 1; den = 4 };
      key = key_of number;
      bands = [];
      budget = 501;
      base_budget = 4095;
      sessions = sessions;
      journal = 536870912;
      base = Some (between 30 49);
    }

-- the canonical text of the plan
unfoldable pub plan_text : ℕ → ℕ → List DrawnItem → List ℕ
plan_text number sessions xs = flat_map line_text (canonical_rules (plan number sessions xs))
