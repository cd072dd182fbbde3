-- What counts while a record is added, and while one in doubt is resolved.
use Rattle.std.proofs.Common.{◌≡◌, inl, inr, refl, ◌+◌, ◌-◌, ℕ, List, [], ◌∷◌, ◌++◌, length, take, Some, sym, ◌∙◌, ap, arith, length-append}
use Rattle.std.proofs.lemmas.List.{take_at}
use Rattle.exam_edge.specs.Images.{Account, AllImages, Allows, AtEachMoment, IsImage, latest}
use Rattle.exam_edge.specs.ImageLaws.{only, started, weaker}
use Rattle.answer_journal.specs.Frames.{FileHeader, IsPayload, frame_of, front, payloads}
use Rattle.answer_journal.specs.FrameLaws.{front-push}
use Rattle.answer_journal.specs.Journal.{CountsSecond, IsInDoubtAfter}
use Rattle.answer_journal.specs.Outcome.{payloads_after}
use Rattle.answer_journal.specs.Standing.{payload_list, IsAtRest, IsBeforeOrWith, IsEither, IsStage, Unopened}
use Rattle.answer_journal.specs.StandingLaws.{either_gives, unopened_gives}
use Rattle.answer_journal.specs.Versions.{header, contents, counted_in, second, HoldsJust, HoldsOrOneMore}
use Rattle.answer_journal.specs.declared.journal.Adopted.{Adopted}
use Rattle.answer_journal.specs.declared.journal.Adopted.TheVariants.{Kept, Dropped}
use Rattle.answer_journal.proofs.Counting.{counts_in, either_holds, holds, kept, one_more}
use Rattle.answer_journal.proofs.Lasting.{unchanged, lasting, in_doubt, doubtful_still, doubtful_lasting}

-- ---- a journal at rest after which more payloads count
module _ (version start : ℕ) (all ps : List (List ℕ)) (c : CountsSecond version start all ps)
    (content : List ℕ) (accounts : List Account) (size : ℕ) (rest : IsAtRest (header version) content accounts size)
    (list : payload_list (header version) content ≡ all) where
  rest_gives : payloads (header version) content ≡ Some all
  rest_gives = rest.gives ∙ ap Some list

  pub rest_counted : (counted_in content).payloads ≡ ps
  rest_counted = kept version start all ps c content rest_gives

  pub rest_counts : CountsSecond version start (payload_list (header version) content) (counted_in content).payloads
  rest_counts = counts_in version start all ps c content rest_gives

  pub rest_images : AllImages (λ file. contents file ≡ Some (second ps)) (latest accounts)
  rest_images = λ file i. holds version start all ps c file (ap (payloads (header version)) (only (latest accounts) content file rest.settled i) ∙ rest_gives)

-- what a crash may leave while a record is added begins as the file does, up to the closed gate
either_begins : (h : FileHeader) (all : List (List ℕ)) (p file : List ℕ) → IsEither h all p file → take (length (front h all)) file ≡ front h all
either_begins h all p file (inl u) = ap (take (length (front h all))) u.is ∙ take_at (front h all) (u.gate ∷ u.junk) (length (front h all)) refl
either_begins h all p file (inr is) =
    ap (take (length (front h all))) (is ∙ front-push h all p) ∙ take_at (front h all) (1 ∷ frame_of p) (length (front h all)) refl

module _ (h : FileHeader) (all : List (List ℕ)) (p content : List ℕ) (size : ℕ) (ends : size - 1 ≡ length (front h all)) (here : take (size - 1) content ≡ front h all) where
  pub begin_alike : (a0 a1 : List Account) → AtEachMoment a0 a1 (IsEither h all p) → AtEachMoment a0 a1 (λ file. take (size - 1) file ≡ take (size - 1) content)
  begin_alike a0 a1 moments =
      weaker (IsEither h all p) (λ file. take (size - 1) file ≡ take (size - 1) content)
      (λ file either. ap (λ (n : ℕ). take n file) ends ∙ either_begins h all p file either ∙ sym here) a0 a1 moments

-- ---- a record is added
module _ (version start : ℕ) (content : List ℕ) (a0 : List Account) (size : ℕ) (rest : IsAtRest (header version) content a0 size)
    (c : CountsSecond version start (payload_list (header version) content) (counted_in content).payloads) (p : List ℕ) where
  abbrev h : FileHeader
  h = header version

  abbrev all : List (List ℕ)
  all = payload_list (header version) content

  abbrev ps : List (List ℕ)
  ps = (counted_in content).payloads

  by_counts : (a1 : List Account) → AtEachMoment a0 a1 (IsBeforeOrWith h all p) → AtEachMoment a0 a1 (HoldsOrOneMore ps p)
  by_counts a1 moments = weaker (IsBeforeOrWith h all p) (HoldsOrOneMore ps p) (λ file either. either_holds version start all ps c p file either) a0 a1 moments

  pub none_added : AtEachMoment a0 a0 (HoldsOrOneMore (counted_in content).payloads p)
  none_added = by_counts a0 (unchanged h content a0 size rest p)

  pub adding : (a1 : List Account) → IsPayload p → AtEachMoment a0 a1 (IsEither h all p) → AtEachMoment a0 a1 (HoldsOrOneMore (counted_in content).payloads p)
  adding a1 one moments = by_counts a1 (lasting h content a0 size rest p a1 one moments)

  pub allowed : (R : List ℕ → List ℕ → Type 0) → IsPayload p → Allows R (HoldsJust (counted_in content).payloads) (HoldsOrOneMore (counted_in content).payloads p) → Allows R (Unopened (header version) (payload_list (header version) content)) (IsEither (header version) (payload_list (header version) content) p)
  allowed R one allows before file u either =
      allows before file (holds version start all ps c before (unopened_gives h all before rest.fits u)) (either_holds version start all ps c p file (either_gives h all p file rest.fits one either))

  pub doubting : (a1 : List Account) (with_it : ℕ) → IsPayload p → with_it ≡ size + 5 + length p → AtEachMoment a0 a1 (IsEither h all p) → IsStage h all p a1 size → IsInDoubtAfter version start (counted_in content).payloads p a1 size with_it
  doubting a1 with_it one with_is moments stage = record {
    all = all;
    counts = c;
    doubt = in_doubt h content a0 size rest p a1 with_it one with_is moments stage;
  }

  pub counts_one_more : CountsSecond version start (payload_list (header version) content ++ p ∷ []) ((counted_in content).payloads ++ p ∷ [])
  counts_one_more = one_more version start all ps c p

  ends : size - 1 ≡ length (front h all)
  ends = omega (arith, rest.size_is, ap length rest.file, length-append (front h all) (rest.gate ∷ []))

  begins : take (size - 1) content ≡ front h all
  begins = ap (take (size - 1)) rest.file ∙ take_at (front h all) (rest.gate ∷ []) (size - 1) (sym ends)

  pub none_before : AtEachMoment a0 a0 (λ file. take (size - 1) file ≡ take (size - 1) content)
  none_before = started (λ file. take (size - 1) file ≡ take (size - 1) content) a0 (λ file i. ap (take (size - 1)) (only (latest a0) content file rest.settled i))

  pub adding_before : (a1 : List Account) → AtEachMoment a0 a1 (IsEither (header version) (payload_list (header version) content) p) → AtEachMoment a0 a1 (λ file. take (size - 1) file ≡ take (size - 1) content)
  adding_before a1 moments = begin_alike h all p content size ends begins a0 a1 moments

  -- the bytes: the gate at the end is open, and the frame follows it
  pub bytes_added : (content1 : List ℕ) → content1 ≡ front h (all ++ p ∷ []) ++ 0 ∷ [] → content1 ≡ take (size - 1) content ++ 1 ∷ frame_of p
  bytes_added content1 is =
      is ∙ front-push h all p ∙ ap (λ (l : List ℕ). l ++ 1 ∷ frame_of p) (sym begins)

-- ---- a record in doubt
module _ (version start : ℕ) (ps : List (List ℕ)) (p : List ℕ) (a0 : List Account) (size with_it : ℕ) (d : IsInDoubtAfter version start ps p a0 size with_it) where
  pub mending : (a1 : List Account) → AtEachMoment a0 a1 (IsEither (header version) d.all p) → AtEachMoment a0 a1 (HoldsOrOneMore ps p)
  mending a1 moments =
      weaker (IsBeforeOrWith (header version) d.all p) (HoldsOrOneMore ps p) (λ file either. either_holds version start d.all ps d.counts p file either) a0 a1
      (doubtful_lasting (header version) d.all p a0 a1 size with_it d.doubt moments)

  pub allowed_again : (R : List ℕ → List ℕ → Type 0) → Allows R (HoldsJust ps) (HoldsJust ps) → Allows R (Unopened (header version) d.all) (Unopened (header version) d.all)
  allowed_again R allows before file u v =
      let all_hold : (f : List ℕ) → Unopened (header version) d.all f → HoldsJust ps f = λ f x. holds version start d.all ps d.counts f (unopened_gives (header version) d.all f d.doubt.fits x) in
      allows before file (all_hold before u) (all_hold file v)

  pub mending_before : (content : List ℕ) → IsImage (latest a0) content → (a1 : List Account) → AtEachMoment a0 a1 (IsEither (header version) d.all p) → AtEachMoment a0 a1 (λ file. take (size - 1) file ≡ take (size - 1) content)
  mending_before content image a1 moments =
      let ends : size - 1 ≡ length (front (header version) d.all) = omega (arith, d.doubt.size_is) in
      begin_alike (header version) d.all p content size ends
      (ap (λ (n : ℕ). take n content) ends ∙ either_begins (header version) d.all p content (d.doubt.each content image)) a0 a1 moments

  pub still_doubted : (a1 : List Account) → AtEachMoment a0 a1 (IsEither (header version) d.all p) → IsStage (header version) d.all p a1 size → IsInDoubtAfter version start ps p a1 size with_it
  still_doubted a1 moments stage = record {
    all = d.all;
    counts = d.counts;
    doubt = doubtful_still (header version) d.all p a0 a1 size with_it d.doubt moments stage;
  }

  pub counts_after : (adopted : Adopted) → CountsSecond version start (payloads_after adopted d.all p) (payloads_after adopted ps p)
  counts_after Kept = one_more version start d.all ps d.counts p
  counts_after Dropped = d.counts
