-- The moments of opening a file.
use Rattle.std.proofs.Common.{◌≡◌, ◌⊎◌, inl, inr, ℕ, List, ◌∙◌, ap}
use Rattle.exam_edge.specs.Images.{Account, IsImage, latest, dropped, Grows, IsSettled, AtEachMoment, AllImages}
use Rattle.exam_edge.specs.ImageLaws.{only, image_of_dropped, started, goes_on, joined, still, weaker, at_end}
use Rattle.answer_journal.proofs.Staging.{dropped_moments}

-- ---- while it is read
-- a crash leaves what it might have left before
pub read_moments : (a0 a1 : List Account) → Grows (dropped (latest a0)) a0 a1 → AtEachMoment a0 a1 (IsImage (latest a0))
read_moments a0 a1 g = goes_on (IsImage (latest a0)) (dropped (latest a0)) a0 a0 a1 (started (IsImage (latest a0)) a0 (λ file i. i)) g (λ file i. image_of_dropped (latest a0) file i)

-- of a settled disk that is its content
pub settled_reading : (content : List ℕ) (a0 a1 : List Account) → Grows (dropped (latest a0)) a0 a1 → IsSettled content a0 → AtEachMoment a0 a1 (λ file. file ≡ content)
settled_reading content a0 a1 g settles = weaker (IsImage (latest a0)) (λ file. file ≡ content) (λ file i. only (latest a0) content file settles i) a0 a1 (read_moments a0 a1 g)

pub settled_images : (content : List ℕ) (accounts : List Account) → IsSettled content accounts → AllImages (λ file. file ≡ content) (latest accounts)
settled_images content accounts settles = λ file i. only (latest accounts) content file settles i

-- ---- while bytes are written again as they read
pub renewed_once : (a0 a1 : List Account) → Grows (latest a0) a0 a1 → AtEachMoment a0 a1 (IsImage (latest a0))
renewed_once a0 a1 g = still (IsImage (latest a0)) a0 a0 a1 (started (IsImage (latest a0)) a0 (λ file i. i)) g

pub renewed_on : (a0 a1 a2 : List Account) → AtEachMoment a0 a1 (IsImage (latest a0)) → Grows (latest a1) a1 a2 → AtEachMoment a0 a2 (IsImage (latest a0))
renewed_on a0 a1 a2 so_far g = still (IsImage (latest a0)) a0 a1 a2 so_far g

-- and synced
pub synced_on : (a0 a1 a2 : List Account) → AtEachMoment a0 a1 (IsImage (latest a0)) → Grows (dropped (latest a1)) a1 a2 → AtEachMoment a0 a2 (IsImage (latest a0))
synced_on a0 a1 a2 so_far g = dropped_moments (IsImage (latest a0)) a0 a1 a2 so_far (at_end (IsImage (latest a0)) a0 a1 so_far) g

-- ---- what a file gives, as its payloads by one header, or as those that count
module _ {A : Type 0} (gives : List ℕ → A) where
  -- a file that a crash might have left before, or one that gives the same
  abbrev ImageOrSame : Account → List ℕ → List ℕ → Type 0
  ImageOrSame before content file = IsImage before file ⊎ (gives file ≡ gives content)

  -- ---- while it is finished
  -- first a crash leaves what it might have left before, then the same payloads
  pub finished_moments : (content between : List ℕ) (a0 a1 a2 : List Account) → AtEachMoment a0 a1 (IsImage (latest a0)) → AtEachMoment a1 a2 (λ file. gives file ≡ gives between) → between ≡ content → AtEachMoment a0 a2 (ImageOrSame (latest a0) content)
  finished_moments content between a0 a1 a2 reading finishing same =
      let P : List ℕ → Type 0 = ImageOrSame (latest a0) content in
      joined P a0 a1 a2 (weaker (IsImage (latest a0)) P (λ file i. inl i) a0 a1 reading)
      (weaker (λ file. gives file ≡ gives between) P (λ file is. inr (is ∙ ap gives same)) a1 a2 finishing)

  -- where a crash could leave only the content before, each of these files gives the same payloads
  pub kept_moments : (content : List ℕ) (a0 a1 : List Account) → AtEachMoment a0 a1 (ImageOrSame (latest a0) content) → AllImages (λ file. file ≡ content) (latest a0) → AtEachMoment a0 a1 (λ file. gives file ≡ gives content)
  kept_moments content a0 a1 moments images =
      weaker (ImageOrSame (latest a0) content) (λ file. gives file ≡ gives content)
      (λ file either. elim either [ inl image ↦ ap gives (images file image) | inr is ↦ is ]) a0 a1 moments

  -- ---- while it is read and finished
  pub opened_moments : (content between : List ℕ) (a0 a1 a2 : List Account) → AtEachMoment a0 a1 (IsImage (latest a0)) → AtEachMoment a1 a2 (ImageOrSame (latest a1) between) → between ≡ content → AtEachMoment a0 a2 (ImageOrSame (latest a0) content)
  opened_moments content between a0 a1 a2 reading finishing same =
      let P : List ℕ → Type 0 = ImageOrSame (latest a0) content in
      joined P a0 a1 a2 (weaker (IsImage (latest a0)) P (λ file i. inl i) a0 a1 reading)
      (weaker (ImageOrSame (latest a1) between) P
      (λ file either. elim either [ inl image ↦ inl (at_end (IsImage (latest a0)) a0 a1 reading file image) | inr is ↦ inr (is ∙ ap gives same) ]) a1 a2 finishing)

  -- ---- while it is only read
  pub left_moments : (content : List ℕ) (a0 a1 : List Account) → AtEachMoment a0 a1 (IsImage (latest a0)) → AtEachMoment a0 a1 (ImageOrSame (latest a0) content)
  left_moments content a0 a1 reading = weaker (IsImage (latest a0)) (ImageOrSame (latest a0) content) (λ file i. inl i) a0 a1 reading

  -- where the disk was settled, each of these files gives the same payloads
  pub settled_moments : (content : List ℕ) (a0 a1 : List Account) → AtEachMoment a0 a1 (ImageOrSame (latest a0) content) → IsSettled content a0 → AtEachMoment a0 a1 (λ file. gives file ≡ gives content)
  settled_moments content a0 a1 moments settles = kept_moments content a0 a1 moments (settled_images content a0 settles)
