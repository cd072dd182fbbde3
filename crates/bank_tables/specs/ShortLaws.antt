-- The numbers of a short list determine it: the rest of its array is 0.
use Rattle.std.proofs.Common.{◌≡◌, ℕ, ◌-◌, ◌≤◌, ◌++◌, List, length, take, drop, sym, ◌∙◌, ap, arith}
use Rattle.std.specs.Prelude.{replicate}
use Rattle.std.proofs.lemmas.List.{take-append-drop, length-take-le}
use Rattle.bank_tables.specs.declared.short.Short.TheInside.{Inside}

-- the array of a short list
pub record IsFilled (s : Inside) : Type 0 where
  pub room : length s.values ≡ 512
  pub few : s.len ≤ 512
  pub rest : drop s.len s.values ≡ replicate (512 - s.len) 0

abbrev pub filled_from : List ℕ → Inside
filled_from xs = record { values = xs ++ replicate (512 - length xs) 0; len = length xs }

same_fields : (values : List ℕ) (len : ℕ) (others : List ℕ) (other : ℕ) → values ≡ others → len ≡ other → (let s : Inside = record { values = values; len = len } in let t : Inside = record { values = others; len = other } in s ≡ t)
same_fields values len others other e f = cc

pub filled_again : (s : Inside) → IsFilled s → filled_from (take s.len s.values) ≡ s
filled_again s is =
    let few : s.len ≤ length s.values = omega (arith, is.room, is.few) in
    let number : length (take s.len s.values) ≡ s.len = length-take-le s.len s.values few in
    same_fields _ _ _ _ (ap (λ (n : ℕ). take s.len s.values ++ replicate (512 - n) 0) number ∙ (ap (λ (others : List ℕ). take s.len s.values ++ others) (sym is.rest) ∙ take-append-drop s.len s.values)) number
