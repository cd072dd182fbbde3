use Rattle.std.proofs.Common.{◌≡◌, ◌+◌, ◌*◌, ℕ}
use Rattle.rand_chacha.specs.ChaCha.{key_of}
use Rattle.bank_tables.specs.Items.{has}
use Rattle.exposure_counters.specs.Tallies.{counts_at}
use Rattle.history_model.specs.Draws.{drawn}
use Rattle.eligibility_draw.proofs.drawing.draw_band.Given as goal

-- the next word is that of the item in the band
abbrev pub invariant-loop-item : goal.invariant-loop-item
invariant-loop-item l =
    record {
      words : l.words ≡ record { key = key_of l.key; stream = l.session; word_pos = 512 * l.band + l.item };
      drawn_so_far : (k : ℕ) → has l.eligible k ≡ drawn l.key l.rate l.session l.band l.item (counts_at l.counters) k;
    }
