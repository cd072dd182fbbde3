-- Running exposure counts (item-ineligibility control; van der Linden and Veldkamp, Journal of
-- Educational and Behavioral Statistics, 2004).
use Rattle.std.specs.Prelude.{◌≡◌, ℕ, ◌+◌, ◌≤◌, Bool, List, length, get_or, count_by, if◌then◌else◌}
use Rattle.bank_tables.specs.Items.{Set}
use Rattle.history_model.specs.declared.counts.Counts.{Counts}

-- the counts of each item, and the number of finished sessions
pub record Tally : Type 0 where
  pub counts : List Counts
  pub finished : ℕ

abbrev pub no_counts : Counts
no_counts = record { alpha = 0; eps = 0 }

abbrev pub counts_at : Tally → ℕ → Counts
counts_at tally i = get_or tally.counts i no_counts

-- what is true of every tally: at most 512 items and 65,536 sessions, and no item counts more
-- sessions than there were
pub record IsTally (tally : Tally) : Type 0 where
  pub few_items : length tally.counts ≤ 512
  pub few_sessions : tally.finished ≤ 65536
  pub alpha_high : (i : ℕ) → (counts_at tally i).alpha ≤ tally.finished
  pub eps_high : (i : ℕ) → (counts_at tally i).eps ≤ tally.finished

-- the counts of an item after one session more, in which it was shown or not, and eligible or not
abbrev pub counted : Counts → Bool → Bool → Counts
counted counts shown eligible = record { alpha = counts.alpha + (if shown then 1 else 0); eps = counts.eps + (if eligible then 1 else 0) }

-- a finished session: the items shown in it, and the items that were eligible
pub record FinishedSession : Type 0 where
  pub shown : Set
  pub eligible : Set

-- the tally is that of these sessions: each item counts those in which it was shown, and those in
-- which it was eligible
pub record IsTallyOf (sessions : List FinishedSession) (tally : Tally) : Type 0 where
  pub alpha : (i : ℕ) → (counts_at tally i).alpha ≡ count_by (λ session. session.shown i) sessions
  pub eps : (i : ℕ) → (counts_at tally i).eps ≡ count_by (λ session. session.eligible i) sessions
  pub number : tally.finished ≡ length sessions
