-- The totals go on by each entry, and fit their types.
use Rattle.std.proofs.Common.{◌≡◌, ℕ, ◌+◌, ◌-◌, ◌^◌, ◌≤◌, ◌<◌, Bool, true, false, cond, List, [], ◌∷◌, ◌++◌, length, refl, sym, ap, ◌∙◌, arith, length-append}
use Rattle.std.specs.Prelude.{count_by, sum_by}
use Rattle.std.proofs.lemmas.List.Sums.{sum_by_push, count_by-le-length}
use Rattle.history_model.specs.declared.entry.Entry.{Entry}
use Rattle.history_model.specs.declared.entry.Entry.TheVariants.{Started, SetAside, Served, Answered, Closed}
use Rattle.history_model.specs.Entries.{sets_aside}
use Rattle.history_model.specs.Summaries.{serves_proved, serves_unproved, nodes_of}
use Rattle.exam_session.specs.declared.totals.Totals.{Totals}
use Rattle.exam_session.specs.Totals.{totals_of, totals_with, HaveRoom, AreTotals}

same_totals : (p q u v a b n m : ℕ) → p ≡ q → u ≡ v → a ≡ b → n ≡ m
    → (let x : Totals = record { proved = p; unproved = u; aside = a; nodes = n } in let y : Totals = record { proved = q; unproved = v; aside = b; nodes = m } in x ≡ y)
same_totals p q u v a b n m e f g h = cc

number : (p : Entry → Bool) → Entry → ℕ
number p x = cond (p x) 1 0

pushed : (H : List Entry) (e : Entry) → (let t : Totals = record {
  proved = count_by serves_proved H + cond (serves_proved e) 1 0;
  unproved = count_by serves_unproved H + cond (serves_unproved e) 1 0;
  aside = count_by sets_aside H + cond (sets_aside e) 1 0;
  nodes = sum_by nodes_of H + nodes_of e;
} in totals_of (H ++ e ∷ []) ≡ t)
pushed H e =
    same_totals _ _ _ _ _ _ _ _
    (sum_by_push (λ (x : Entry). cond (serves_proved x) 1 0) H e)
    (sum_by_push (λ (x : Entry). cond (serves_unproved x) 1 0) H e)
    (sum_by_push (λ (x : Entry). cond (sets_aside x) 1 0) H e)
    (sum_by_push nodes_of H e)

none_more : (n : ℕ) → n + 0 ≡ n
none_more n = omega arith

pub totals_go_on : (H : List Entry) (e : Entry) → totals_of (H ++ e ∷ []) ≡ totals_with (totals_of H) e
totals_go_on H (Started session booking eligible without) = pushed H (Started session booking eligible without) ∙ same_totals _ _ _ _ _ _ _ _ (none_more _) (none_more _) (none_more _) (none_more _)
totals_go_on H (SetAside session step band cause nodes) = pushed H (SetAside session step band cause nodes) ∙ same_totals _ _ _ _ _ _ _ _ (none_more _) (none_more _) refl refl
totals_go_on H (Served session step item form true nodes) = pushed H (Served session step item form true nodes) ∙ same_totals _ _ _ _ _ _ _ _ refl refl (none_more _) refl
totals_go_on H (Served session step item form false nodes) = pushed H (Served session step item form false nodes) ∙ same_totals _ _ _ _ _ _ _ _ refl refl (none_more _) refl
totals_go_on H (Answered session step response) = pushed H (Answered session step response) ∙ same_totals _ _ _ _ _ _ _ _ (none_more _) (none_more _) (none_more _) (none_more _)
totals_go_on H (Closed session) = pushed H (Closed session) ∙ same_totals _ _ _ _ _ _ _ _ (none_more _) (none_more _) (none_more _) (none_more _)

pub no_totals : AreTotals [] (record { proved = 0; unproved = 0; aside = 0; nodes = 0 })
no_totals = record { are = refl; small = omega arith }

-- the totals of so few entries have room for one more
pub have_room : (H : List Entry) (totals : Totals) → AreTotals H totals → length H + 1 ≤ 2 ^ 47 → HaveRoom totals
have_room H totals kept few =
    let are = kept.are in
    let small = kept.small in
    let p : totals.proved ≡ count_by serves_proved H = ap (λ (t : Totals). t.proved) are in
    let u : totals.unproved ≡ count_by serves_unproved H = ap (λ (t : Totals). t.unproved) are in
    let a : totals.aside ≡ count_by sets_aside H = ap (λ (t : Totals). t.aside) are in
    let p1 = count_by-le-length serves_proved H in
    let u1 = count_by-le-length serves_unproved H in
    let a1 = count_by-le-length sets_aside H in
    record { proved = omega arith; unproved = omega arith; aside = omega arith; nodes = omega arith }

pub totals_pushed : (H : List Entry) (e : Entry) (totals after : Totals) → AreTotals H totals → nodes_of e ≤ 65535 → after ≡ totals_with totals e → AreTotals (H ++ e ∷ []) after
totals_pushed H e totals after kept low is =
    let are : after ≡ totals_of (H ++ e ∷ []) = is ∙ (ap (λ (t : Totals). totals_with t e) kept.are ∙ sym (totals_go_on H e)) in
    let more : after.nodes ≡ sum_by nodes_of H + nodes_of e = ap (λ (t : Totals). t.nodes) are ∙ sum_by_push nodes_of H e in
    let before : totals.nodes ≡ sum_by nodes_of H = ap (λ (t : Totals). t.nodes) kept.are in
    let small = kept.small in
    let longer = length-append H (e ∷ []) in
    record { are = are; small = omega arith }

-- room is left after one entry more
pub one_left : (H : List Entry) (e : Entry) (room : ℕ) → length H + room ≤ 2 ^ 47 → 0 < room → length (H ++ e ∷ []) + (room - 1) ≤ 2 ^ 47
one_left H e room fits some = omega (arith, length-append H (e ∷ []))
