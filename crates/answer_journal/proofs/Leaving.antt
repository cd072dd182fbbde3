-- How a journal leaves its disk.
use Rattle.std.proofs.Common.{◌⊎◌, inl, inr, ℕ, List, IsTrue}
use Rattle.exam_edge.specs.Images.{latest}
use Rattle.exam_edge.specs.ImageLaws.{settled_clean}
use Rattle.answer_journal.specs.Journal.{JournalState, tells_of, content_of, accounts_of, length_of, version_of, IsReady, IsDoubtful}
use Rattle.answer_journal.specs.Standing.{IsAsLeft}

pub left_so : {D : Type 0} (j : JournalState D) → IsTrue (tells_of j) → IsReady j ⊎ ((ps : List (List ℕ)) × (payload : List ℕ) × IsDoubtful ps payload j) → IsAsLeft (accounts_of j)
left_so j told (inl ready) = inl (settled_clean (latest (accounts_of j)) (content_of j) (ready.rest told).settled)
left_so j told (inr d) =
    let doubt = d.2.is told in
    inr (inl (record {
      version = version_of j;
      doubt = record { before = doubt.all; payload = d.1; size = length_of j; with_it = d.2.with_it; doubt = doubt.doubt };
    }))
