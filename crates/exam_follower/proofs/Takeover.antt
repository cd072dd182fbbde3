-- A takeover keeps what was answered for.
use Rattle.std.proofs.Common.{◌≡◌, ℕ, List, ◌++◌, map, slice_get, IsTrue, sym, ap, ◌∙◌}
use Rattle.std.proofs.lemmas.List.{map-append}
use Rattle.history_model.specs.declared.entry.Entry.{Entry}
use Rattle.history_model.specs.Judging.{Record, entries_of}
use Rattle.exam_records.specs.Shape.{IsRecord}
use Rattle.exam_records.specs.Spelling.{payload_of}
use Rattle.answer_journal.specs.Journal.{tells_of}
use Rattle.exam_office.specs.Marks.{history}
use Rattle.record_links.proofs.WorldLaws.{follows}
use Rattle.exam_follower.specs.Followers.{FollowerState, records_of, AreSpelled, IsFollower}
use Rattle.exam_follower.specs.Takeover.{KeepsAnswered}
use Rattle.exam_follower.proofs.Marked.{all-append, same_entry}

pub spelled_all : {D : Type 0} (f : FollowerState D) → IsFollower f → IsTrue (tells_of f.office.journal) → AreSpelled (records_of f) (history f.office.marks)
spelled_all f is told =
    let s = is.first told in
    record {
      records = s.records ++ f.taken;
      spell = all-append IsRecord s.records f.taken s.spell is.spell;
      payloads = ap (λ (ps : List (List ℕ)). ps ++ map payload_of f.taken) s.payloads ∙ sym (map-append payload_of s.records f.taken);
      entries =
          map-append (λ (r : Record). r.entry) s.records f.taken
          ∙ (ap (λ (H : List Entry). H ++ entries_of f.taken) s.entries ∙ sym is.entries);
    }

pub keeps_answered : (may : List (List ℕ) → List ℕ → Type 0) (held : List (List ℕ)) (H : List Entry) → AreSpelled held H → KeepsAnswered may held H
keeps_answered may held H s start w is_start along same records spell leader k lt =
    let all = follows may start w is_start along in
    let here : slice_get (map payload_of s.records) k ≡ slice_get w.follower k = ap (λ (l : List (List ℕ)). slice_get l k) (sym s.payloads ∙ sym same) in
    let there : slice_get w.leader k ≡ slice_get (map payload_of records) k = ap (λ (l : List (List ℕ)). slice_get l k) leader in
    ap (λ (G : List Entry). slice_get G k) (sym s.entries)
    ∙ same_entry s.records records s.spell spell k (here ∙ (all.same k lt ∙ there))
