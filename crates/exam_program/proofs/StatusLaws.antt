-- What a status shows of the halt that it ends.
use Rattle.std.proofs.Common.{◌≡◌, ℕ, ◌<◌, ◌≤◌, ◌==◌, ◌⊎◌, inl, inr, Bool, false, [], ◌∷◌, All, arith, rules, refl, sym, ◌∙◌, subst}
use Rattle.std.specs.List.{list_any}
use Rattle.std.proofs.lemmas.Bool.{false≢true}
use Rattle.std.proofs.lemmas.List.Elements.{All-contains}
use Rattle.exam_edge.specs.Lent.{IsLent}
use Rattle.exam_office.specs.declared.fault.OpenFault.{OpenFault}
use Rattle.exam_office.specs.declared.fault.OpenFault.TheVariants as fault
use Rattle.exam_serve.specs.declared.serve.End.{End}
use Rattle.exam_serve.specs.declared.serve.End.TheVariants.{Done, Starved, DoorFailed, Memory}
use Rattle.exam_program.specs.declared.halt.Halt.{Halt}
use Rattle.exam_program.specs.declared.halt.Halt.TheVariants as halt
use Rattle.exam_program.specs.Halts.{IsBeforeJournal}
use Rattle.exam_program.specs.Outcomes.{EndsBy, IsStatus, IsStatusBefore, IsStatusOfRun}
use Rattle.exam_program.specs.Runs.{IsOver, IsStatusOfEnding, IsStatusOfServing}
use Rattle.exam_program.specs.Stopping.{opening_halt}

-- the status of a halt whose text found memory
abbrev own : Halt → ℕ
own (halt.Bank fault) = 3
own (halt.Plan fault) = 4
own (halt.Script fault) = 5
own (halt.NoForm tree) = 11
own (halt.NoBaseForm budget tree) = 12
own (halt.Journal fault) = 6
own (halt.Sessions count most) = 13
own (halt.JournalFull size most) = 13
own halt.Weights = 16
own (halt.NoSeries tree) = 17
own (halt.NoSeriesFound budget tree) = 18
own halt.Files = 7
own halt.Disk = 9
own halt.Memory = 10
own halt.Sink = 8

own_or_10 : (h : Halt) (status : ℕ) → EndsBy h status → (status ≡ own h) ⊎ (status ≡ 10)
own_or_10 (halt.Bank fault) status ends = ends
own_or_10 (halt.Plan fault) status ends = ends
own_or_10 (halt.Script fault) status ends = ends
own_or_10 (halt.NoForm tree) status ends = ends
own_or_10 (halt.NoBaseForm budget tree) status ends = ends
own_or_10 (halt.Journal fault) status ends = ends
own_or_10 (halt.Sessions count most) status ends = ends
own_or_10 (halt.JournalFull size most) status ends = ends
own_or_10 halt.Weights status ends = inl ends
own_or_10 (halt.NoSeries tree) status ends = ends
own_or_10 (halt.NoSeriesFound budget tree) status ends = ends
own_or_10 halt.Files status ends = inl ends
own_or_10 halt.Disk status ends = inl ends
own_or_10 halt.Memory status ends = inl ends
own_or_10 halt.Sink status ends = inl ends

-- status 7 is that of the files alone
own_files : (h : Halt) → own h ≡ 7 → h ≡ halt.Files
own_files (halt.Bank fault) is = absurd (omega (arith, is))
own_files (halt.Plan fault) is = absurd (omega (arith, is))
own_files (halt.Script fault) is = absurd (omega (arith, is))
own_files (halt.NoForm tree) is = absurd (omega (arith, is))
own_files (halt.NoBaseForm budget tree) is = absurd (omega (arith, is))
own_files (halt.Journal fault) is = absurd (omega (arith, is))
own_files (halt.Sessions count most) is = absurd (omega (arith, is))
own_files (halt.JournalFull size most) is = absurd (omega (arith, is))
own_files halt.Weights is = absurd (omega (arith, is))
own_files (halt.NoSeries tree) is = absurd (omega (arith, is))
own_files (halt.NoSeriesFound budget tree) is = absurd (omega (arith, is))
own_files halt.Files is = refl
own_files halt.Disk is = absurd (omega (arith, is))
own_files halt.Memory is = absurd (omega (arith, is))
own_files halt.Sink is = absurd (omega (arith, is))

of_files : (h : Halt) (status : ℕ) → EndsBy h status → status ≡ 7 → h ≡ halt.Files
of_files h status ends is = elim (own_or_10 h status ends) [ inl e ↦ own_files h (sym e ∙ is) | inr e ↦ absurd (omega (arith, e, is)) ]

-- status 8 is that of the sink alone
own_sink : (h : Halt) → own h ≡ 8 → h ≡ halt.Sink
own_sink (halt.Bank fault) is = absurd (omega (arith, is))
own_sink (halt.Plan fault) is = absurd (omega (arith, is))
own_sink (halt.Script fault) is = absurd (omega (arith, is))
own_sink (halt.NoForm tree) is = absurd (omega (arith, is))
own_sink (halt.NoBaseForm budget tree) is = absurd (omega (arith, is))
own_sink (halt.Journal fault) is = absurd (omega (arith, is))
own_sink (halt.Sessions count most) is = absurd (omega (arith, is))
own_sink (halt.JournalFull size most) is = absurd (omega (arith, is))
own_sink halt.Weights is = absurd (omega (arith, is))
own_sink (halt.NoSeries tree) is = absurd (omega (arith, is))
own_sink (halt.NoSeriesFound budget tree) is = absurd (omega (arith, is))
own_sink halt.Files is = absurd (omega (arith, is))
own_sink halt.Disk is = absurd (omega (arith, is))
own_sink halt.Memory is = absurd (omega (arith, is))
own_sink halt.Sink is = refl

of_sink : (h : Halt) (status : ℕ) → EndsBy h status → status ≡ 8 → h ≡ halt.Sink
of_sink h status ends is = elim (own_or_10 h status ends) [ inl e ↦ own_sink h (sym e ∙ is) | inr e ↦ absurd (omega (arith, e, is)) ]

-- status 9 is that of the disk alone
own_disk : (h : Halt) → own h ≡ 9 → h ≡ halt.Disk
own_disk (halt.Bank fault) is = absurd (omega (arith, is))
own_disk (halt.Plan fault) is = absurd (omega (arith, is))
own_disk (halt.Script fault) is = absurd (omega (arith, is))
own_disk (halt.NoForm tree) is = absurd (omega (arith, is))
own_disk (halt.NoBaseForm budget tree) is = absurd (omega (arith, is))
own_disk (halt.Journal fault) is = absurd (omega (arith, is))
own_disk (halt.Sessions count most) is = absurd (omega (arith, is))
own_disk (halt.JournalFull size most) is = absurd (omega (arith, is))
own_disk halt.Weights is = absurd (omega (arith, is))
own_disk (halt.NoSeries tree) is = absurd (omega (arith, is))
own_disk (halt.NoSeriesFound budget tree) is = absurd (omega (arith, is))
own_disk halt.Files is = absurd (omega (arith, is))
own_disk halt.Disk is = refl
own_disk halt.Memory is = absurd (omega (arith, is))
own_disk halt.Sink is = absurd (omega (arith, is))

of_disk : (h : Halt) (status : ℕ) → EndsBy h status → status ≡ 9 → h ≡ halt.Disk
of_disk h status ends is = elim (own_or_10 h status ends) [ inl e ↦ own_disk h (sym e ∙ is) | inr e ↦ absurd (omega (arith, e, is)) ]

-- a status of a run that ends before the journal is opened is that of such a halt
own_before : (h : Halt) → IsStatusBefore (own h) → IsBeforeJournal h
own_before (halt.Bank fault) before = tt
own_before (halt.Plan fault) before = tt
own_before (halt.Script fault) before = tt
own_before (halt.NoForm tree) before = tt
own_before (halt.NoBaseForm budget tree) before = tt
own_before (halt.Journal fault) before = absurd (false≢true before)
own_before (halt.Sessions count most) before = absurd (false≢true before)
own_before (halt.JournalFull size most) before = absurd (false≢true before)
own_before halt.Weights before = tt
own_before (halt.NoSeries tree) before = tt
own_before (halt.NoSeriesFound budget tree) before = tt
own_before halt.Files before = tt
own_before halt.Disk before = absurd (false≢true before)
own_before halt.Memory before = absurd (false≢true before)
own_before halt.Sink before = absurd (false≢true before)

before_so : (h : Halt) (status : ℕ) → EndsBy h status → IsStatusBefore status → IsBeforeJournal h
before_so h status ends before = elim (own_or_10 h status ends) [
  | inl e ↦ own_before h (subst (λ (s : ℕ). IsStatusBefore s) e before)
  | inr e ↦ absurd (false≢true (subst (λ (s : ℕ). IsStatusBefore s) e before))
]

-- no halt has the status of faulty words, that of a door that failed, or one that only a link has
own_within : (h : Halt) → (2 < own h) × (own h ≡ 14 → ⊥) × (own h < 19)
own_within (halt.Bank fault) = (omega arith, λ is. omega (arith, is), omega arith)
own_within (halt.Plan fault) = (omega arith, λ is. omega (arith, is), omega arith)
own_within (halt.Script fault) = (omega arith, λ is. omega (arith, is), omega arith)
own_within (halt.NoForm tree) = (omega arith, λ is. omega (arith, is), omega arith)
own_within (halt.NoBaseForm budget tree) = (omega arith, λ is. omega (arith, is), omega arith)
own_within (halt.Journal fault) = (omega arith, λ is. omega (arith, is), omega arith)
own_within (halt.Sessions count most) = (omega arith, λ is. omega (arith, is), omega arith)
own_within (halt.JournalFull size most) = (omega arith, λ is. omega (arith, is), omega arith)
own_within halt.Weights = (omega arith, λ is. omega (arith, is), omega arith)
own_within (halt.NoSeries tree) = (omega arith, λ is. omega (arith, is), omega arith)
own_within (halt.NoSeriesFound budget tree) = (omega arith, λ is. omega (arith, is), omega arith)
own_within halt.Files = (omega arith, λ is. omega (arith, is), omega arith)
own_within halt.Disk = (omega arith, λ is. omega (arith, is), omega arith)
own_within halt.Memory = (omega arith, λ is. omega (arith, is), omega arith)
own_within halt.Sink = (omega arith, λ is. omega (arith, is), omega arith)

within : (h : Halt) (status : ℕ) → EndsBy h status → (2 < status) × (status ≡ 14 → ⊥) × (status < 19)
within h status ends = elim (own_or_10 h status ends) [
  | inl e ↦ subst (λ (s : ℕ). (2 < s) × (s ≡ 14 → ⊥) × (s < 19)) (sym e) (own_within h)
  | inr e ↦ subst (λ (s : ℕ). (2 < s) × (s ≡ 14 → ⊥) × (s < 19)) (sym e) (omega arith, λ is. omega (arith, is), omega arith)
]

-- a command that waits for nobody has not the status of a door that failed
pub not_14 : (status : ℕ) → IsStatus status → status ≡ 14 → ⊥
not_14 status is = All-contains (λ (s : ℕ). s ≡ 14 → ⊥) (0 ∷ 2 ∷ 3 ∷ 4 ∷ 5 ∷ 6 ∷ 7 ∷ 8 ∷ 9 ∷ 10 ∷ 11 ∷ 12 ∷ 13 ∷ 16 ∷ 17 ∷ 18 ∷ []) status here is
  where
    here : All (λ (s : ℕ). s ≡ 14 → ⊥) (0 ∷ 2 ∷ 3 ∷ 4 ∷ 5 ∷ 6 ∷ 7 ∷ 8 ∷ 9 ∷ 10 ∷ 11 ∷ 12 ∷ 13 ∷ 16 ∷ 17 ∷ 18 ∷ [])
    here = search rules

-- nor one above 18
below_19 : (status : ℕ) → IsStatus status → status < 19
below_19 status is = All-contains (λ (s : ℕ). s < 19) (0 ∷ 2 ∷ 3 ∷ 4 ∷ 5 ∷ 6 ∷ 7 ∷ 8 ∷ 9 ∷ 10 ∷ 11 ∷ 12 ∷ 13 ∷ 16 ∷ 17 ∷ 18 ∷ []) status here is
  where
    here : All (λ (s : ℕ). s < 19) (0 ∷ 2 ∷ 3 ∷ 4 ∷ 5 ∷ 6 ∷ 7 ∷ 8 ∷ 9 ∷ 10 ∷ 11 ∷ 12 ∷ 13 ∷ 16 ∷ 17 ∷ 18 ∷ [])
    here = search rules

pub not_19 : (status : ℕ) → IsStatus status → status ≡ 19 → ⊥
not_19 status status_is is = let below = below_19 status status_is in omega (arith, below, is)

pub run_not_19 : (status : ℕ) → IsStatusOfRun status → status ≡ 19 → ⊥
run_not_19 status (inl e) is = not_19 status e is
run_not_19 status (inr e) is = omega (arith, e, is)

-- ---- the status that was reported: that of the halt, or 8 where the sink failed
module _ {R : Type 0} (h : Halt) (status : ℕ) where
  pub at_files : {Q : Type 0} → (EndsBy h status) ⊎ ((status ≡ 8) × R) → (h ≡ halt.Files → Q) → status ≡ 7 → Q
  at_files (inl e) why is = why (of_files h status e is)
  at_files (inr e) why is = let is_8 : status ≡ 8 = e.0 in absurd (omega (arith, is_8, is))

  pub at_disk : {Q : Type 0} → (EndsBy h status) ⊎ ((status ≡ 8) × R) → (h ≡ halt.Disk → Q) → status ≡ 9 → Q
  at_disk (inl e) why is = why (of_disk h status e is)
  at_disk (inr e) why is = let is_8 : status ≡ 8 = e.0 in absurd (omega (arith, is_8, is))

  pub at_sink : (EndsBy h status) ⊎ ((status ≡ 8) × R) → (h ≡ halt.Sink → R) → status ≡ 8 → R
  at_sink (inl e) why is = why (of_sink h status e is)
  at_sink (inr e) why is = e.1

  pub at_before : (EndsBy h status) ⊎ ((status ≡ 8) × R) → IsStatusBefore status → IsBeforeJournal h
  at_before (inl e) before = before_so h status e before
  at_before (inr e) before = absurd (false≢true (subst (λ (s : ℕ). IsStatusBefore s) e.0 before))

  pub not_usage : (EndsBy h status) ⊎ ((status ≡ 8) × R) → status ≡ 2 → ⊥
  not_usage (inl e) is = let above = (within h status e).0 in omega (arith, above, is)
  not_usage (inr e) is = let is_8 : status ≡ 8 = e.0 in omega (arith, is_8, is)

  pub not_door : (EndsBy h status) ⊎ ((status ≡ 8) × R) → status ≡ 14 → ⊥
  not_door (inl e) is = (within h status e).1 is
  not_door (inr e) is = let is_8 : status ≡ 8 = e.0 in omega (arith, is_8, is)

  -- no halt has a status that only a link has
  pub not_link : (EndsBy h status) ⊎ ((status ≡ 8) × R) → status ≡ 19 → ⊥
  not_link (inl e) is = let below = (within h status e).2 in omega (arith, below, is)
  not_link (inr e) is = let is_8 : status ≡ 8 = e.0 in omega (arith, is_8, is)

-- ---- the status of a text that was printed: its own, or 8 where the sink failed
module _ {R : Type 0} (status n : ℕ) where
  pub no_memory_at : (status ≡ 10) ⊎ ((status ≡ 8) × R) → list_any (λ s. s == n) (8 ∷ 10 ∷ []) ≡ false → status ≡ n → ⊥
  no_memory_at (inl e) other is = false≢true (sym (subst (λ (x : ℕ). list_any (λ s. s == x) (8 ∷ 10 ∷ []) ≡ false) (sym is ∙ e) other))
  no_memory_at (inr e) other is = false≢true (sym (subst (λ (x : ℕ). list_any (λ s. s == x) (8 ∷ 10 ∷ []) ≡ false) (sym is ∙ e.0) other))

pub no_memory_unprinted : {R : Type 0} (status : ℕ) → (status ≡ 10) ⊎ ((status ≡ 8) × R) → status ≡ 8 → R
no_memory_unprinted status (inl e) is = absurd (omega (arith, e, is))
no_memory_unprinted status (inr e) is = e.1

-- ---- the status of a server, or 8 where the sink failed
module _ {R : Type 0} where
  pub serving_not_9 : (end : End) (status : ℕ) → (IsStatusOfServing end status) ⊎ ((status ≡ 8) × R) → status ≡ 9 → ⊥
  serving_not_9 end status (inr e) is = let is_8 : status ≡ 8 = e.0 in omega (arith, is_8, is)
  serving_not_9 Done status (inl (inl e)) is = omega (arith, e, is)
  serving_not_9 Done status (inl (inr e)) is = omega (arith, e, is)
  serving_not_9 Starved status (inl e) is = omega (arith, e, is)
  serving_not_9 DoorFailed status (inl e) is = omega (arith, e, is)
  serving_not_9 Memory status (inl e) is = omega (arith, e, is)

  -- the same of a server that asks the disk a last time
  pub ending_so : (end : End) (status : ℕ) → (IsStatusOfServing end status) ⊎ ((status ≡ 8) × R) → (IsStatusOfEnding end status) ⊎ ((status ≡ 8) × R)
  ending_so end status (inr e) = inr e
  ending_so Done status (inl e) = inl (inl e)
  ending_so Starved status (inl e) = inl (inl e)
  ending_so DoorFailed status (inl e) = inl e
  ending_so Memory status (inl e) = inl e

  -- and of a text or no memory, where a connection starved
  pub starved_so : (end : End) (status : ℕ) → end ≡ Starved → ((status ≡ 10) ⊎ (status ≡ 10)) ⊎ ((status ≡ 8) × R) → (IsStatusOfServing end status) ⊎ ((status ≡ 8) × R)
  starved_so end status is (inr e) = inr e
  starved_so end status is (inl (inl e)) = inl (subst (λ (x : End). IsStatusOfServing x status) (sym is) e)
  starved_so end status is (inl (inr e)) = inl (subst (λ (x : End). IsStatusOfServing x status) (sym is) e)

  pub disk_ending_so : (end : End) (status : ℕ) → IsOver end → (status ≡ 9) ⊎ ((status ≡ 8) × R) → (IsStatusOfEnding end status) ⊎ ((status ≡ 8) × R)
  disk_ending_so end status over (inr e) = inr e
  disk_ending_so Done status over (inl e) = inl (inr e)
  disk_ending_so Starved status over (inl e) = inl (inr e)
  disk_ending_so DoorFailed status over (inl e) = absurd over
  disk_ending_so Memory status over (inl e) = absurd over

  pub ending_unprinted : (end : End) (status : ℕ) → (IsStatusOfEnding end status) ⊎ ((status ≡ 8) × R) → status ≡ 8 → R
  ending_unprinted end status (inr e) is = e.1
  ending_unprinted Done status (inl (inl (inl e))) is = absurd (omega (arith, e, is))
  ending_unprinted Done status (inl (inl (inr e))) is = absurd (omega (arith, e, is))
  ending_unprinted Done status (inl (inr e)) is = absurd (omega (arith, e, is))
  ending_unprinted Starved status (inl (inl e)) is = absurd (omega (arith, e, is))
  ending_unprinted Starved status (inl (inr e)) is = absurd (omega (arith, e, is))
  ending_unprinted DoorFailed status (inl e) is = absurd (omega (arith, e, is))
  ending_unprinted Memory status (inl e) is = absurd (omega (arith, e, is))

  -- the status 6 is none of a server whose journal was opened
  pub ending_not_6 : (end : End) (status : ℕ) → (IsStatusOfEnding end status) ⊎ ((status ≡ 8) × R) → status ≡ 6 → ⊥
  ending_not_6 end status (inr e) is = let is_8 : status ≡ 8 = e.0 in omega (arith, is_8, is)
  ending_not_6 Done status (inl (inl (inl e))) is = omega (arith, e, is)
  ending_not_6 Done status (inl (inl (inr e))) is = omega (arith, e, is)
  ending_not_6 Done status (inl (inr e)) is = omega (arith, e, is)
  ending_not_6 Starved status (inl (inl e)) is = omega (arith, e, is)
  ending_not_6 Starved status (inl (inr e)) is = omega (arith, e, is)
  ending_not_6 DoorFailed status (inl e) is = omega (arith, e, is)
  ending_not_6 Memory status (inl e) is = omega (arith, e, is)

  pub ending_late : (end : End) (status : ℕ) → (IsStatusOfEnding end status) ⊎ ((status ≡ 8) × R) → IsStatusBefore status → ⊥
  ending_late end status (inr e) before = false≢true (subst (λ (s : ℕ). IsStatusBefore s) e.0 before)
  ending_late Done status (inl (inl (inl e))) before = false≢true (subst (λ (s : ℕ). IsStatusBefore s) e before)
  ending_late Done status (inl (inl (inr e))) before = false≢true (subst (λ (s : ℕ). IsStatusBefore s) e before)
  ending_late Done status (inl (inr e)) before = false≢true (subst (λ (s : ℕ). IsStatusBefore s) e before)
  ending_late Starved status (inl (inl e)) before = false≢true (subst (λ (s : ℕ). IsStatusBefore s) e before)
  ending_late Starved status (inl (inr e)) before = false≢true (subst (λ (s : ℕ). IsStatusBefore s) e before)
  ending_late DoorFailed status (inl e) before = false≢true (subst (λ (s : ℕ). IsStatusBefore s) e before)
  ending_late Memory status (inl e) before = false≢true (subst (λ (s : ℕ). IsStatusBefore s) e before)

-- ---- the halt of a journal that was not opened
pub disk_fault : (f : OpenFault) → opening_halt f ≡ halt.Disk → f ≡ fault.Disk
disk_fault fault.Disk is = refl
disk_fault fault.Memory is = cc
disk_fault (fault.Journal f) is = cc
disk_fault fault.Version is = cc
disk_fault (fault.BadRecord at f) is = cc
disk_fault (fault.BadTree at) is = cc
disk_fault (fault.Illegal at f) is = cc

pub late_fault : (f : OpenFault) → IsBeforeJournal (opening_halt f) → ⊥
late_fault fault.Disk before = before
late_fault fault.Memory before = before
late_fault (fault.Journal f) before = before
late_fault fault.Version before = before
late_fault (fault.BadRecord at f) before = before
late_fault (fault.BadTree at) before = before
late_fault (fault.Illegal at f) before = before

-- ---- what did not change, and what grew twice
pub still : (n : ℕ) → n ≤ n
still n = omega arith

pub grown : (before now after : ℕ) → before ≤ now → now ≤ after → before ≤ after
grown before now after first second = omega (arith, first, second)

pub lent_still : {S : Type 0} (is_told : S → Bool) (name count : S → ℕ) (s : S) → IsLent is_told name count s s
lent_still is_told name count s = record { grows = still (count s); tells = refl; identity = refl }
