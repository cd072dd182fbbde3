-- What a file counts once it was read by its extent, and is finished.
use Rattle.std.proofs.Common.{◌≡◌, inl, inr, ℕ, ◌<◌, ◌==◌, Bool, true, IsTrue, List, [], length, Option, Some, None, refl, sym, ◌∙◌, ap, subst, arith}
use Rattle.std.specs.Prelude.{nat_le, unwrap_or}
use Rattle.std.proofs.lemmas.Bool.{cases_Bool, cases_lt}
use Rattle.exam_edge.specs.Images.{Account, AllImages, AtEachMoment, latest}
use Rattle.exam_edge.specs.ImageLaws.{joined, only, weaker}
use Rattle.answer_journal.specs.Frames.{FileHeader, payloads, shadowj1}
use Rattle.answer_journal.specs.Journal.{CountsSecond}
use Rattle.answer_journal.specs.Moving.{IsImageOrUnmoved, IsUnmoved, first}
use Rattle.answer_journal.specs.Opening.{IsExtent}
use Rattle.answer_journal.specs.Standing.{payload_list, IsAtRest, IsImageOrGives, IsImageOrHolds}
use Rattle.answer_journal.specs.Versions.{Counted, header, after_mark, counted, counted_from, counted_in, contents, second, first_place}
use Rattle.answer_journal.specs.Walk.{first_gate, counted_version}
use Rattle.answer_journal.specs.declared.opening.Extent.{Extent}
use Rattle.answer_journal.proofs.Counting.{holds, kept, counts_in}
use Rattle.answer_journal.proofs.VersionLaws.{contents_first, contents_short, short_none}
use Rattle.answer_journal.proofs.Walking.{extent_gives, extent_counted, extent_version}

second_of : (c : Counted) → c.version ≡ 2 → c ≡ second c.payloads
second_of c e = ap (λ (v : ℕ). record { version = v; payloads = c.payloads }) e

first_of : (c : Counted) → c.version ≡ 1 → c ≡ first c.payloads
first_of c e = ap (λ (v : ℕ). record { version = v; payloads = c.payloads }) e

pub some_skipped : (version skipped : ℕ) → version ≡ 1 → counted_version version skipped ≡ 2 → 0 < skipped
some_skipped version skipped one two = elim (cases_lt 0 skipped) [
  | inl some ↦ some
  | inr none ↦
      let zero : skipped ≡ 0 = omega (arith, none) in
      let first_version : counted_version 1 0 ≡ 2 = rw (one, zero) at two in
      absurd (omega (arith, first_version))
]

unmarked : (all ps : List (List ℕ)) (o : Option (List (List ℕ))) → counted_from all o ≡ first ps → o ≡ None
unmarked all ps None e = refl
unmarked all ps (Some after) e = let clash : 2 ≡ 1 = ap (λ (c : Counted). c.version) e in absurd (omega (arith, clash))

unmarked_first : (version : ℕ) (all ps : List (List ℕ)) → (version == 1) ≡ true → counted version all ≡ first ps → (after_mark all ≡ None) × (all ≡ ps)
unmarked_first version all ps is e =
    let from : counted_from all (after_mark all) ≡ first ps = rw is at e in
    let none = unmarked all ps (after_mark all) from in
    (none, ap (λ (c : Counted). c.payloads) (sym (ap (counted_from all) none) ∙ from))

by_none : (all : List (List ℕ)) → after_mark all ≡ None → counted_from all (after_mark all) ≡ first all
by_none all none = ap (counted_from all) none

module _ (tells : Bool) (content : List ℕ) (accounts : List Account) (extent : Extent) (x : IsExtent tells content accounts extent) (told : IsTrue tells) where
  abbrev all : List (List ℕ)
  all = payload_list (header extent.version) content

  pub start_is : extent.start ≡ first_gate content
  start_is = (x.versions told).start ∙ ap (λ (v : ℕ). first_place v (payload_list (header v) content)) (x.versions told).version

  -- ---- where the records that count are of the second version
  module _ (two : counted_version extent.version extent.skipped ≡ 2) where
    pub counts_second : CountsSecond extent.version extent.start (payload_list (header extent.version) content) (counted_in content).payloads
    counts_second = record {
      counts = sym (extent_counted tells content accounts extent x told) ∙ second_of (counted_in content) (sym (extent_version tells content accounts extent x told) ∙ two);
      starts = (x.versions told).start;
    }

    pub same_holds : (file : List ℕ) → payloads (header extent.version) file ≡ payloads (header extent.version) content → contents file ≡ contents content
    same_holds file gives =
        let is = extent_gives tells content accounts extent x told in
        holds extent.version extent.start all (counted_in content).payloads counts_second file (gives ∙ is)
        ∙ sym (holds extent.version extent.start all (counted_in content).payloads counts_second content is)

    pub holds_moments : (a0 a1 : List Account) → AtEachMoment a0 a1 (IsImageOrGives (header extent.version) (latest a0) content) → AtEachMoment a0 a1 (IsImageOrHolds (latest a0) content)
    holds_moments a0 a1 moments =
        weaker (IsImageOrGives (header extent.version) (latest a0) content) (IsImageOrHolds (latest a0) content)
        (λ file either. elim either [ inl image ↦ inl image | inr gives ↦ inr (same_holds file gives) ]) a0 a1 moments

    -- the file once it is finished
    module _ (content1 : List ℕ) (accounts1 : List Account) (size : ℕ) (rest : IsAtRest (header extent.version) content1 accounts1 size)
        (keeps : payloads (header extent.version) content ≡ Some (payload_list (header extent.version) content1)) where
      gives1 : payloads (header extent.version) content1 ≡ Some all
      gives1 = rest.gives ∙ sym keeps ∙ extent_gives tells content accounts extent x told

      pub holds_images : AllImages (λ file. contents file ≡ contents content) (latest accounts1)
      holds_images file i = same_holds file (ap (payloads (header extent.version)) (only (latest accounts1) content1 file rest.settled i) ∙ rest.gives ∙ sym keeps)

      pub kept_contents : contents content ≡ Some (second (counted_in content1).payloads)
      kept_contents =
          holds extent.version extent.start all (counted_in content).payloads counts_second content (extent_gives tells content accounts extent x told)
          ∙ ap (λ (ps : List (List ℕ)). Some (second ps)) (sym (kept extent.version extent.start all (counted_in content).payloads counts_second content1 gives1))

      pub counts_so : CountsSecond extent.version extent.start (payload_list (header extent.version) content1) (counted_in content1).payloads
      counts_so = counts_in extent.version extent.start all (counted_in content).payloads counts_second content1 gives1

  -- ---- where they are of the first version
  module _ (one : counted_version extent.version extent.skipped ≡ 1) where
    abbrev ps : List (List ℕ)
    ps = (counted_in content).payloads

    pub is_first : header extent.version ≡ shadowj1
    is_first = elim (cases_Bool (extent.version == 1)) [
      | inl is ↦ rw is refl
      | inr not ↦ let two : counted_version extent.version extent.skipped ≡ 2 = rw not refl in absurd (omega (arith, one, two))
    ]

    counted_first : counted extent.version all ≡ first ps
    counted_first = sym (extent_counted tells content accounts extent x told) ∙ first_of (counted_in content) (sym (extent_version tells content accounts extent x told) ∙ one)

    unmarked_all : (after_mark all ≡ None) × (all ≡ ps)
    unmarked_all = elim (cases_Bool (extent.version == 1)) [
      | inl is ↦ unmarked_first extent.version all ps is counted_first
      | inr not ↦ let two : counted_version extent.version extent.skipped ≡ 2 = rw not refl in absurd (omega (arith, one, two))
    ]

    none_marked : after_mark all ≡ None
    none_marked = unmarked_all.0

    these : all ≡ ps
    these = unmarked_all.1

    pub same_unmoved : (file : List ℕ) → payloads (header extent.version) file ≡ payloads (header extent.version) content → IsUnmoved (counted_in content).payloads file
    same_unmoved file gives =
        let is : payloads shadowj1 file ≡ Some ps =
        subst (λ (h : FileHeader). payloads h file ≡ Some ps) is_first (gives ∙ extent_gives tells content accounts extent x told ∙ ap Some these) in
        elim (cases_Bool (nat_le (length file) 9)) [
          | inl short ↦
              let none : Some ps ≡ Some [] = sym is ∙ short_none shadowj1 file short in
              inr (cc, contents_short file short)
          | inr long ↦
              let at_first : counted 1 ps ≡ first ps = by_none ps (subst (λ (l : List (List ℕ)). after_mark l ≡ None) these none_marked) in
              inl (contents_first file ps long is ∙ ap Some at_first)
        ]

    pub unmoved_moments : (a0 a1 : List Account) → AtEachMoment a0 a1 (IsImageOrGives (header extent.version) (latest a0) content) → AtEachMoment a0 a1 (IsImageOrUnmoved (latest a0) (counted_in content).payloads)
    unmoved_moments a0 a1 moments =
        weaker (IsImageOrGives (header extent.version) (latest a0) content) (IsImageOrUnmoved (latest a0) (counted_in content).payloads)
        (λ file either. elim either [ inl image ↦ inl image | inr gives ↦ inr (same_unmoved file gives) ]) a0 a1 moments

    pub unmoved_itself : IsUnmoved (counted_in content).payloads content
    unmoved_itself = same_unmoved content refl

    -- the file once it is finished
    module _ (content1 : List ℕ) (accounts1 : List Account) (size : ℕ) (rest : IsAtRest (header extent.version) content1 accounts1 size)
        (keeps : payloads (header extent.version) content ≡ Some (payload_list (header extent.version) content1)) where
      pub rest_first : IsAtRest shadowj1 content1 accounts1 size
      rest_first = subst (λ (h : FileHeader). IsAtRest h content1 accounts1 size) is_first rest

      pub list_first : payload_list shadowj1 content1 ≡ (counted_in content).payloads
      list_first =
          ap (λ (h : FileHeader). payload_list h content1) (sym is_first)
          ∙ ap (λ (o : Option (List (List ℕ))). unwrap_or o []) (rest.gives ∙ sym keeps) ∙ these

      pub unmoved_first : after_mark (payload_list shadowj1 content1) ≡ None
      unmoved_first = subst (λ (l : List (List ℕ)). after_mark l ≡ None) (these ∙ sym list_first) none_marked

-- ---- the moments of a move that starts
pub then_unmoved : (ps : List (List ℕ)) (a0 a1 a2 : List Account) → AtEachMoment a0 a1 (IsImageOrUnmoved (latest a0) ps) → AtEachMoment a1 a2 (IsUnmoved ps) → AtEachMoment a0 a2 (IsImageOrUnmoved (latest a0) ps)
then_unmoved ps a0 a1 a2 before after =
    joined (IsImageOrUnmoved (latest a0) ps) a0 a1 a2 before (weaker (IsUnmoved ps) (IsImageOrUnmoved (latest a0) ps) (λ file is. inr is) a1 a2 after)

pub only_unmoved : (ps : List (List ℕ)) (content : List ℕ) (a0 a1 : List Account) → IsUnmoved ps content → AtEachMoment a0 a1 (IsImageOrUnmoved (latest a0) ps) → AllImages (λ file. file ≡ content) (latest a0) → AtEachMoment a0 a1 (IsUnmoved ps)
only_unmoved ps content a0 a1 itself moments images =
    weaker (IsImageOrUnmoved (latest a0) ps) (IsUnmoved ps)
    (λ file either. elim either [ inl image ↦ subst (IsUnmoved ps) (sym (images file image)) itself | inr is ↦ is ]) a0 a1 moments
