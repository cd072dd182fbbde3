-- A walk at its start.
use Rattle.std.proofs.Common.{◌≡◌, inl, inr, ℕ, ◌+◌, ◌-◌, ◌<◌, ◌≤◌, Bool, IsTrue, List, take, sym, ◌∙◌, ap, arith}
use Rattle.std.proofs.lemmas.Bool.{cases_lt}
use Rattle.exam_edge.specs.Images.{Account}
use Rattle.answer_journal.specs.Opening.{IsExtent}
use Rattle.answer_journal.specs.Payload.{end_of}
use Rattle.answer_journal.specs.Standing.{payload_list}
use Rattle.answer_journal.specs.Versions.{header, uncounted}
use Rattle.answer_journal.specs.Walk.{IsWalk}
use Rattle.answer_journal.specs.declared.opening.Extent.{Extent}
use Rattle.answer_journal.proofs.Counting.{cut_so}

module _ (tells : Bool) (content : List ℕ) (accounts : List Account) (limit : ℕ) (extent : Extent) (x : IsExtent tells content accounts extent) where
  abbrev list : List (List ℕ)
  list = payload_list (header extent.version) content

  start_place : IsTrue tells → extent.start ≡ end_of 8 (take extent.skipped list)
  start_place told = (x.versions told).start ∙ ap (λ (k : ℕ). end_of 8 (take k list)) (sym (x.versions told).skipped)

  none_skipped : extent.skipped ≡ 0 → end_of 8 (take (extent.skipped - 1) list) ≡ 8
  none_skipped none =
      let zero : extent.skipped - 1 ≡ 0 = omega (arith, none) in
      ap (λ (k : ℕ). end_of 8 (take k list)) zero

  last_place : IsTrue tells → (last : ℕ) → (14 ≤ extent.start → last ≡ extent.start - 6) → (extent.start < 14 → last ≡ 8) → last ≡ end_of 8 (take (extent.skipped - 1) list)
  last_place told last moved unmoved = elim (cases_lt extent.start 14) [
    | inl few ↦ unmoved few ∙ sym (none_skipped (omega (arith, few, x.counts)))
    | inr many ↦ elim (cases_lt 0 extent.skipped) [
      | inl some ↦
          let v = x.versions told in
          let gate = (cut_so extent.version list).mark_gate (omega (arith, some, v.skipped)) in
          let here : extent.start ≡ end_of 8 (take (uncounted extent.version list - 1) list) + 6 = v.start ∙ gate in
          let there : last ≡ end_of 8 (take (uncounted extent.version list - 1) list) = omega (arith, moved many, here) in
          there ∙ ap (λ (k : ℕ). end_of 8 (take (k - 1) list)) (sym v.skipped)
      | inr none ↦
          let zero : extent.skipped ≡ 0 = omega (arith, none) in
          let first : extent.start ≡ 8 = start_place told ∙ ap (λ (k : ℕ). end_of 8 (take k list)) zero in
          absurd (omega (arith, many, first))
    ]
  ]

  pub starts_walk : extent.size ≤ limit → limit ≤ 536870912 → (last : ℕ) → (14 ≤ extent.start → last ≡ extent.start - 6) → (extent.start < 14 → last ≡ 8) → IsWalk tells content accounts limit extent extent.start extent.skipped last
  starts_walk within limited last moved unmoved = record {
    opening = record { within = within; limited = limited; extent_is = x };
    started = omega arith;
    in_file = x.starts_in;
    count = x.counts;
    past = omega arith;
    few = λ told. omega (arith, (x.versions told).skipped, (cut_so extent.version list).few);
    place = start_place;
    last_is = λ told. last_place told last moved unmoved;
  }
