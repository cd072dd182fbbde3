-- The lines of bands and of a migration, computed on counts that were worked out by hand.
use Rattle.std.proofs.Common.{◌≡◌, ℕ, [], ◌∷◌, refl, codes}
use Rattle.std.specs.Fmt.{digits}
use Rattle.history_model.specs.declared.counts.Counts.{Counts}
use Rattle.exam_lines.specs.Texts.{visited_line, band_item_line, band_lines, bands_text, migrated_text}

of : ℕ → ℕ → Counts
of alpha eps = record { alpha = alpha; eps = eps }

-- two bands of a bank of three items, with three sessions in each
two_bands : bands_text (record { finished = 3; rows = of 2 2 ∷ of 1 3 ∷ of 0 3 ∷ [] } ∷ record { finished = 3; rows = of 0 3 ∷ of 2 2 ∷ of 1 3 ∷ [] } ∷ [])
    ≡ codes "band 0 visited 3\nband 0 item 0 shown 2 eligible 2\nband 0 item 1 shown 1 eligible 3\nband 0 item 2 shown 0 eligible 3\nband 1 visited 3\nband 1 item 0 shown 0 eligible 3\nband 1 item 1 shown 2 eligible 2\nband 1 item 2 shown 1 eligible 3\n"
unfolding of band_lines visited_line band_item_line digits
two_bands = refl

-- a band that no session visited
no_visit : bands_text (record { finished = 0; rows = of 0 0 ∷ [] } ∷ [])
    ≡ codes "band 0 visited 0\nband 0 item 0 shown 0 eligible 0\n"
unfolding of band_lines visited_line band_item_line digits
no_visit = refl

-- two records that a migration wrote, and none
two_records : migrated_text 2 364 ≡ codes "migrated 2 records length 364\n"
unfolding migrated_text digits
two_records = refl

no_record : migrated_text 0 364 ≡ codes "migrated 0 records length 364\n"
unfolding migrated_text digits
no_record = refl
