-- A disk that was settled: what a crash might have left before is the file that was found.
use Rattle.std.proofs.Common.{inl, inr, ℕ, List, [], refl, sym, subst}
use Rattle.bank_tables.specs.Tables.{Tables}
use Rattle.exam_edge.specs.ImageLaws.{joined, only, weaker}
use Rattle.exam_office.specs.Asking.{no_more}
use Rattle.exam_office.specs.Files.{IsImageOrStands, IsImageOrStandsSecond, Stands, StandsSecond}
use Rattle.exam_program.proofs.ScriptLaws.{not_yet}
use Rattle.exam_program.specs.Laws.{SettledHistoryIsKept, SettledReplayIsOnTheWay}
use Rattle.exam_program.specs.Replays.{none, IsFileOnTheWay, IsReached}
use Rattle.form_model.specs.Plan.{Plan}
use Rattle.history_model.specs.declared.entry.Entry.{Entry}
use Rattle.history_model.specs.declared.request.Request.{Request}

pub settled_history_is_kept : SettledHistoryIsKept
settled_history_is_kept b plan disk H t settled s keeps = record {
  left = so disk.left (keeps.left t H s);
  images = λ file i. so file (keeps.images t H s file i);
  moments = weaker (IsImageOrStands b plan H disk.images_before) (Stands b plan H) so disk.moments_before disk.moments (keeps.moments t H s);
}
  where
    so : (file : List ℕ) → IsImageOrStands b plan H disk.images_before file → Stands b plan H file
    so file (inl i) = subst (Stands b plan H) (sym (only disk.images_before disk.found file settled i)) s
    so file (inr here) = here

-- before the first request
reached_first : (b : Tables) (plan : Plan) (base : List ℕ) (script : List Request) (H : List Entry) → IsReached b plan base script H H
reached_first b plan base script H = record {
  done = [];
  rest = script;
  G = H;
  replies = [];
  whole = refl;
  are_done = none;
  good = no_more;
  begins = not_yet b plan base H script;
}

pub settled_replay_is_on_the_way : SettledReplayIsOnTheWay
settled_replay_is_on_the_way b plan base disk script H G rest replies t settled under_way =
    let m = under_way.moments t in
    let way = IsFileOnTheWay b plan base script H in
    joined way disk.moments_before m.opened disk.moments
    (weaker (IsImageOrStandsSecond b plan H disk.images_before) way
    (λ file here. record { so_far = H; is_one = reached_first b plan base script H; stands = second_so file here }) disk.moments_before m.opened m.opening.each)
    m.requests
  where
    second_so : (file : List ℕ) → IsImageOrStandsSecond b plan H disk.images_before file → StandsSecond b plan H file
    second_so file (inl i) = subst (StandsSecond b plan H) (sym (only disk.images_before disk.found file settled i)) (under_way.found t)
    second_so file (inr here) = here
