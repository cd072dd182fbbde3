-- Where no sync fails, nothing is suspect.
use Rattle.std.proofs.Common.{◌≡◌, ◌⊎◌, inl, inr, ℕ, if◌then◌else◌, List, [], ◌∷◌, length, take, refl, sym, ◌∙◌, ap}
use Rattle.exam_edge.specs.Images.{Account, settled, written, cut_to, without, below, overwritten, latest, Grows, IsClean}
use Rattle.exam_edge.specs.ImageLaws.{within_refl, within_written, within_cut, clean_within, grows_to}
use Rattle.exam_edge.specs.Laws.{NoSyncFailed, plain_step, after_plainly, IsDone}
use Rattle.exam_edge.specs.Replay.{DiskState, are_empty, step, after, fresh}
use Rattle.exam_edge.specs.declared.memory_disk.Call.{Call}
use Rattle.exam_edge.specs.declared.memory_disk.Call.TheVariants.{Wrote, LostWrite, Renewed, CutAt, LostCut, Synced, LostSync}

without_none : (at n : ℕ) (xs : List (ℕ × ℕ)) → xs ≡ [] → without at n xs ≡ xs
without_none at n xs none = ap (without at n) none ∙ sym none

below_none : (n : ℕ) (xs : List (ℕ × ℕ)) → xs ≡ [] → below n xs ≡ xs
below_none n xs none = ap (below n) none ∙ sym none

-- one call
plain_so : (s : DiskState) (call : Call) (calls : List Call) → NoSyncFailed (call ∷ calls) → s.account.suspect ≡ [] → step s call ≡ plain_step s call
plain_so s (Wrote at bytes) calls fine none =
    let n = length bytes.items in
    let to : List (ℕ × ℕ) → DiskState = λ xs. record { content = overwritten s.content at bytes.items; account = written at n (record s.account { suspect = xs }) } in
    ap to (without_none at n s.account.suspect none)
plain_so s (LostWrite at n) calls fine none = refl
plain_so s (Renewed at n) calls fine none =
    let to : List (ℕ × ℕ) → DiskState = λ xs. record s { account = record s.account { suspect = xs } } in
    ap to (without_none at n s.account.suspect none)
plain_so s (CutAt n) calls fine none =
    let to : List (ℕ × ℕ) → DiskState = λ xs. record { content = take n s.content; account = record (cut_to n s.account) { suspect = xs } } in
    ap to (below_none n s.account.suspect none)
plain_so s (LostCut n) calls fine none = refl
plain_so s Synced calls fine none =
    let to : List (ℕ × ℕ) → DiskState = λ xs. record s { account = if are_empty xs then settled s.content else s.account } in
    ap to none
plain_so s LostSync calls fine none = absurd fine

none_still : (s : DiskState) (call : Call) → s.account.suspect ≡ [] → (plain_step s call).account.suspect ≡ []
none_still s (Wrote at bytes) none = none
none_still s (LostWrite at n) none = none
none_still s (Renewed at n) none = none
none_still s (CutAt n) none = none
none_still s (LostCut n) none = none
none_still s Synced none = refl
none_still s LostSync none = none

later : (call : Call) (calls : List Call) → NoSyncFailed (call ∷ calls) → NoSyncFailed calls
later (Wrote at bytes) calls fine = fine
later (LostWrite at n) calls fine = fine
later (Renewed at n) calls fine = fine
later (CutAt n) calls fine = fine
later (LostCut n) calls fine = fine
later Synced calls fine = fine
later LostSync calls fine = absurd fine

all_plain : (s : DiskState) (calls : List Call) → NoSyncFailed calls → s.account.suspect ≡ [] → after s calls ≡ after_plainly s calls
all_plain s [] fine none = refl
all_plain s (call ∷ calls) fine none =
    ap (λ (t : DiskState). after t calls) (plain_so s call calls fine none) ∙ all_plain (plain_step s call) calls (later call calls fine) (none_still s call none)

pub plain_from_fresh : (bytes : List ℕ) (calls : List Call) → NoSyncFailed calls → after (fresh bytes) calls ≡ after_plainly (fresh bytes) calls
plain_from_fresh bytes calls fine = all_plain (fresh bytes) calls fine refl

pub clean_done : (old new : List Account) → IsClean (latest old) → IsDone old new → IsClean (latest new)
clean_done old new clean (inl g) = clean_within (latest new) (latest old) (grows_to (latest old) old new (within_refl (latest old)) g) clean
clean_done old new clean (inr done) = by done.2
  where
    by : Grows (written done.0 done.1 (latest old)) old new ⊎ Grows (cut_to done.1 (latest old)) old new → IsClean (latest new)
    by (inl g) = clean_within (latest new) (written done.0 done.1 (latest old)) (grows_to (written done.0 done.1 (latest old)) old new (within_written done.0 done.1 (latest old)) g) clean
    by (inr g) = clean_within (latest new) (cut_to done.1 (latest old)) (grows_to (cut_to done.1 (latest old)) old new (within_cut done.1 (latest old)) g) clean
