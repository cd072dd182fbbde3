use Rattle.std.proofs.Common.{◌≡◌, ℕ, ◌<◌, true, false}
use Rattle.bank_tables.specs.Items.{has}
use Rattle.history_model.specs.Entries.{items_in}
use Rattle.exam_session.proofs.drawing.differences.Given as goal

abbrev pub invariant-loop-band : goal.invariant-loop-band
invariant-loop-band l =
    record {
      same : (i : ℕ) → has l.found i ≡ false → (band : ℕ) → band < l.band → items_in l.one band i ≡ items_in l.other band i;
      differ : (i : ℕ) → has l.found i ≡ true → (band : ℕ) × (items_in l.one band i ≡ items_in l.other band i → ⊥);
    }
