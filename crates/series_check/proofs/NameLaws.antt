-- Which sides a vector may name, by the number of the side.
use Rattle.std.proofs.Common.{◌≡◌, ℕ, ◌+◌, ◌-◌, ◌*◌, ◌/◌, ◌%◌, ◌<◌, ◌≤◌, ◌⊎◌, inl, inr, Bool, true, false, length, refl, arith}
use Rattle.bank_tables.specs.Tables.{size}
use Rattle.form_model.specs.Forms.{stimuli_of}
use Rattle.series_model.specs.Series.{SeriesProblem, IsSeriesProblem}
use Rattle.series_model.specs.SeriesVerdicts.{IsCommonSide, IsSide}

module _ (Q : SeriesProblem) (is : IsSeriesProblem Q) (few_stimuli : stimuli_of Q.bank ≤ 64) (side : ℕ) where
  -- a side that the forms have in common is one of an item, or from 2,304 on
  common : (pool : Bool) → IsCommonSide Q pool side → ((pool ≡ false) × (256 ≤ side) × (side - 256 < size Q.bank)) ⊎ ((pool ≡ true) × ((side ≡ 2314) ⊎ ((2304 ≤ side) × (side - 2304 < 2 * Q.forms))))
  common false (i, w, e) = inl (refl, omega (arith, e), omega (arith, w, e))
  common true (inl (s, w, e)) = inr (refl, inr (omega (arith, e), omega (arith, w, e)))
  common true (inr e) = inr (refl, inl e)

  -- one of a form's rows and stimuli is from 768 to 2,303
  row : (f s : ℕ) → f < Q.forms → s < 2 * length Q.plan.rows + 2 * stimuli_of Q.bank → side ≡ 768 + 384 * f + s → (768 ≤ side) × (side < 2304) × ((side - 768) / 384 ≡ f) × ((side - 768) % 384 ≡ s)
  row f s w v e =
      let small : s < 384 = omega (arith, v, is.plan.few_rows, few_stimuli) in
      (omega (arith, e), omega (arith, e, small, w, is.few_forms), omega (arith, e, small), omega (arith, e, small))

  pub point_named : (pool : Bool) → side / 64 < Q.forms → side % 64 < Q.bank.grid → IsSide Q pool side
  point_named pool form point = inl (side / 64, side % 64, form, point, omega arith)

  pub named_point : (pool : Bool) → side < 256 → IsSide Q pool side → (side / 64 < Q.forms) × (side % 64 < Q.bank.grid)
  named_point pool low named =
      elim named [
        | inl point ↦
            let (f, g, w, v, e) = point in
            let few = is.bank.few_points in
            let form : side / 64 ≡ f = omega (arith, e, v, few) in
            let own : side % 64 ≡ g = omega (arith, e, v, few) in
            (omega (arith, form, w), omega (arith, own, v))
        | inr rest ↦
            elim rest [
              | inl both ↦ elim (common pool both) [ inl item ↦ absurd (omega (arith, item.1, low)) | inr length ↦ elim length.1 [ inl mark ↦ absurd (omega (arith, mark, low)) | inr price ↦ absurd (omega (arith, price.0, low)) ] ]
              | inr one ↦ (let (f, s, w, v, e) = one in absurd (omega (arith, (row f s w v e).0, low)))
            ]
      ]

  pub use_named : 256 ≤ side → side - 256 < size Q.bank → IsSide Q false side
  use_named low within = inr (inl (side - 256, within, omega arith))

  pub named_use : (pool : Bool) → 256 ≤ side → side < 768 → IsSide Q pool side → (pool ≡ false) × (side - 256 < size Q.bank)
  named_use pool low high named =
      elim named [
        | inl point ↦ (let (f, g, w, v, e) = point in absurd (omega (arith, low, w, v, e, is.few_forms, is.bank.few_points)))
        | inr rest ↦
            elim rest [
              | inl both ↦ elim (common pool both) [ inl item ↦ (item.0, item.2) | inr length ↦ elim length.1 [ inl mark ↦ absurd (omega (arith, mark, high)) | inr price ↦ absurd (omega (arith, price.0, high)) ] ]
              | inr one ↦ (let (f, s, w, v, e) = one in absurd (omega (arith, (row f s w v e).0, high)))
            ]
      ]

  pub row_named : (pool : Bool) → 768 ≤ side → (side - 768) / 384 < Q.forms → (side - 768) % 384 < 2 * (length Q.plan.rows + stimuli_of Q.bank) → IsSide Q pool side
  row_named pool low form own = inr (inr ((side - 768) / 384, (side - 768) % 384, form, omega (arith, own), omega arith))

  pub named_row : (pool : Bool) → 768 ≤ side → side < 2304 → IsSide Q pool side → ((side - 768) / 384 < Q.forms) × ((side - 768) % 384 < 2 * (length Q.plan.rows + stimuli_of Q.bank))
  named_row pool low high named =
      elim named [
        | inl point ↦ (let (f, g, w, v, e) = point in absurd (omega (arith, low, w, v, e, is.few_forms, is.bank.few_points)))
        | inr rest ↦
            elim rest [
              | inl both ↦
                  elim (common pool both) [
                    | inl item ↦ absurd (omega (arith, item.1, item.2, low, is.bank.few))
                    | inr length ↦ elim length.1 [ inl mark ↦ absurd (omega (arith, mark, high)) | inr price ↦ absurd (omega (arith, price.0, high)) ]
                  ]
              | inr one ↦ (let (f, s, w, v, e) = one in let at = row f s w v e in (omega (arith, at.2, w), omega (arith, at.3, v)))
            ]
      ]

  pub pool_named : 2304 ≤ side → (side ≡ 2314) ⊎ (side - 2304 < 2 * Q.forms) → IsSide Q true side
  pool_named low (inl mark) = inr (inl (inr mark))
  pool_named low (inr price) = inr (inl (inl (side - 2304, price, omega arith)))

  pub named_pool : (pool : Bool) → 2304 ≤ side → IsSide Q pool side → (pool ≡ true) × ((side ≡ 2314) ⊎ (side - 2304 < 2 * Q.forms))
  named_pool pool low named =
      elim named [
        | inl point ↦ (let (f, g, w, v, e) = point in absurd (omega (arith, low, w, v, e, is.few_forms, is.bank.few_points)))
        | inr rest ↦
            elim rest [
              | inl both ↦
                  elim (common pool both) [
                    | inl item ↦ absurd (omega (arith, item.2, low, is.bank.few))
                    | inr length ↦ (length.0, elim length.1 [ inl mark ↦ inl mark | inr price ↦ inr price.1 ])
                  ]
              | inr one ↦ (let (f, s, w, v, e) = one in absurd (omega (arith, (row f s w v e).1, low)))
            ]
      ]
