-- What a replay does.
use Rattle.std.specs.Prelude.{◌≡◌, ◌⊎◌, ℕ, IsTrue, List, [], ◌∷◌, ◌++◌}
use Rattle.bank_tables.specs.Tables.{Tables}
use Rattle.exam_edge.specs.Images.{Account, AllImages, AtEachMoment, IsImage}
use Rattle.exam_program.specs.Outside.{DiskSeen}
use Rattle.exam_headline.specs.Journals.{HoldsHistory}
use Rattle.exam_headline.specs.Requests.{AreEntriesOf, AreWell, Tells}
use Rattle.form_model.specs.Plan.{Plan}
use Rattle.headline_model.specs.Legal.{IsLegal}
use Rattle.history_model.specs.declared.entry.Entry.{Entry}
use Rattle.history_model.specs.declared.request.Reply.{Reply}
use Rattle.history_model.specs.declared.request.Request.{Request}
use Rattle.replay_cli.specs.Replies.{line_of}

-- the requests were done one after another, from the history H to H ++ E, and these lines are those
-- of their replies; each history on the way is legal, and each entry is good
pub data AreDone (b : Tables) (plan : Plan) (base : List ℕ) (H : List Entry) : List Request
    → List Entry → List ℕ → Type 0 where
  none : AreDone b plan base H [] [] []
  one_more : (done : List Request) (E F : List Entry) (lines : List ℕ) (request : Request)
      (reply : Reply) → AreDone b plan base H done E lines
      → AreEntriesOf (H ++ (E ++ F)) request F → AreWell b plan base (H ++ (E ++ F)) F
      → IsLegal b plan (H ++ (E ++ F)) → Tells b plan request (H ++ (E ++ F)) F reply
      → AreDone b plan base H (done ++ request ∷ []) (E ++ F) (lines ++ line_of reply)

-- the file holds the history G, or that with the first entries of the next request
pub record HoldsOrBegins (b : Tables) (plan : Plan) (G : List Entry) (rest : List Request)
    (file : List ℕ) : Type 0 where
  pub begun : List Entry
  pub of_next : (begun ≡ []) ⊎ ((next : Request) × (more : List Request) × (rest ≡ next ∷ more)
      × AreEntriesOf (G ++ begun) next begun)
  pub holds : HoldsHistory b plan 2 (G ++ begun) file

-- the file holds a history on the way: after the first requests, or within the next one
pub record HoldsOnTheWay (b : Tables) (plan : Plan) (base : List ℕ) (H : List Entry)
    (script : List Request) (file : List ℕ) : Type 0 where
  pub done : List Request
  pub rest : List Request
  pub E : List Entry
  pub lines : List ℕ
  pub whole : script ≡ done ++ rest
  pub are_done : AreDone b plan base H done E lines
  pub holds : HoldsOrBegins b plan (H ++ E) rest file

-- the moments of the disk: while the journal was opened, each file that a crash may leave holds the
-- history that was found, or is one that an earlier crash might have left; since then it holds a
-- history on the way
pub record AreMoments (b : Tables) (plan : Plan) (base : List ℕ) (H : List Entry)
    (script : List Request) (disk : DiskSeen) : Type 0 where
  pub opened : List Account
  pub opening : AtEachMoment disk.moments_before opened
      (λ file. IsImage disk.images_before file ⊎ HoldsHistory b plan 2 H file)
  pub since : AtEachMoment opened disk.moments (HoldsOnTheWay b plan base H script)

-- a replay whose journal was opened. The first requests of the script are done, and these lines are
-- those of their replies. If the disk reports its content, the file that was found holds H; the one
-- that is left, and each that a crash may leave, holds what these requests lead to, or that with
-- the first entries of the next
pub record IsUnderWay (b : Tables) (plan : Plan) (base : List ℕ) (script : List Request)
    (disk : DiskSeen) (H E : List Entry) (rest : List Request) (lines : List ℕ) : Type 0 where
  pub legal : IsLegal b plan (H ++ E)
  pub done : List Request
  pub whole : script ≡ done ++ rest
  pub are_done : AreDone b plan base H done E lines
  pub found : IsTrue disk.told → HoldsHistory b plan 2 H disk.found
  pub left : IsTrue disk.told → HoldsOrBegins b plan (H ++ E) rest disk.left
  pub images : IsTrue disk.told → AllImages (HoldsOrBegins b plan (H ++ E) rest) disk.images
  pub moments : IsTrue disk.told → AreMoments b plan base H script disk
