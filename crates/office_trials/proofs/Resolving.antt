-- A record is in doubt after a call exactly where the journal says so.
use Rattle.std.proofs.Common.{◌≡◌, ◌+◌, ◌<◌, ℕ, List, true, Result, Ok, Err, length, sym, ◌∙◌, ap}
use Rattle.std.specs.Prelude.{is_some, OnOk, OnErr, IfErr}
use Rattle.std.proofs.lemmas.Bool.{false≢true}
use Rattle.answer_journal.specs.Journal.{JournalState, doubt_of, length_of, limit_of, payloads_of, IsReady, IsDoubtful}
use Rattle.answer_journal.specs.Outcome.{OnFull, OnDisk}
use Rattle.answer_journal.specs.declared.journal.AppendFault.{AppendFault}
use Rattle.answer_journal.specs.declared.journal.AppendFault.TheVariants.{Full, Disk}

module _ {D : Type 0} (old new : JournalState D) (says : is_some (doubt_of new) ≡ true) where
  not_ready : IsReady new → ⊥
  not_ready ready = false≢true (sym (ap is_some ready.sure) ∙ says)

  -- after a record was added
  pub doubtful_added : {T : Type 0} (payload : List ℕ) (r : Result T AppendFault) → IsReady old → OnOk r (IsReady new)
      → IfErr r (λ e. OnFull e (λ n. (n ≡ length_of old + 5 + length payload) × (limit_of old < n) × (new ≡ old)))
      → IfErr r (λ e. OnDisk e (IsDoubtful (payloads_of old) payload new)) → IsDoubtful (payloads_of old) payload new
  doubtful_added payload (Ok x) before ready full doubt = absurd (not_ready ready)
  doubtful_added payload (Err (Full n)) before ready full doubt =
      absurd (false≢true (sym (ap is_some (ap doubt_of full.2 ∙ before.sure)) ∙ says))
  doubtful_added payload (Err Disk) before ready full doubt = doubt

  -- after it was tried to resolve one
  pub doubtful_still : {T E : Type 0} (ps : List (List ℕ)) (payload : List ℕ) (r : Result T E) → IsDoubtful ps payload old → OnOk r (IsReady new)
      → OnErr r ((qs : List (List ℕ)) (other : List ℕ) → IsDoubtful qs other old → IsDoubtful qs other new) → IsDoubtful ps payload new
  doubtful_still ps payload (Ok x) doubt ready still = absurd (not_ready ready)
  doubtful_still ps payload (Err e) doubt ready still = still ps payload doubt
