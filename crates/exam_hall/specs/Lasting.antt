-- What a turn needs of an office, it has of the office later.
use Rattle.std.proofs.Common.{ℕ, List, ◌++◌, ap, ◌∙◌, append_assoc, Result}
use Rattle.std.proofs.lemmas.List.{map-append}
use Rattle.std.proofs.lemmas.List.Elements.{filter_map-append, Contains-append_left}
use Rattle.branch_bound.specs.Assembled.{Assembly}
use Rattle.exam_office.specs.Marks.{history, entry_of}
use Rattle.exam_office.specs.Noting.{NotedMark, marks_of}
use Rattle.history_model.specs.declared.refusal.Refusal.{Refusal}
use Rattle.history_model.specs.declared.request.Request.{Request}
use Rattle.exam_hall.specs.Leading.{IsSought}
use Rattle.exam_hall.specs.Rounds.{IsCommittable}

-- what was sought for an office is so later
pub sought_later : (q : Request) (found : Result (List ℕ) Refusal) (seen rest : List NotedMark)
    → IsSought seen q found → IsSought (seen ++ rest) q found
sought_later q found seen rest h = record {
  one = h.one;
  there = Contains-append_left seen rest h.one h.there;
  is_witness = h.is_witness;
}

-- what may be committed to an office may be committed to it later
pub committable_later : (made : Assembly) (seen rest : List NotedMark) → IsCommittable seen made
    → IsCommittable (seen ++ rest) made
committable_later made seen rest h =
    let m = h.may in
    let longer = ap history (map-append (λ (n : NotedMark). n.mark) seen rest) ∙ filter_map-append entry_of (marks_of seen) (marks_of rest) in
    record {
      one = h.one;
      there = Contains-append_left seen rest h.one h.there;
      may = record {
        before = m.before;
        since = m.since ++ history (marks_of rest);
        is = longer ∙ ap (λ H. H ++ history (marks_of rest)) m.is ∙ append_assoc m.before m.since
            (history (marks_of rest));
        asked = m.asked;
        budget = m.budget;
        of_start = m.of_start;
      };
      good = h.good;
    }
