-- What a stop may leave.
use Rattle.std.proofs.Common.{◌≡◌, ⊎_elim, inl, inr, ℕ, List, [], ◌∷◌, ◌++◌, length, Option, Some, refl, sym, ap, ◌∙◌, subst}
use Rattle.std.specs.List.{AllByRecursion}
use Rattle.std.specs.Prelude.{unwrap_or}
use Rattle.std.proofs.lemmas.List.{append_cancel_left}
use Rattle.exam_edge.specs.Images.{Account, AllImages, AtEachMoment, latest}
use Rattle.exam_edge.specs.ImageLaws.{started, joined, weaker}
use Rattle.answer_journal.specs.Versions.{Counted, contents, second, HoldsOrOneMore}
use Rattle.record_links.specs.Messages.{offer_of}
use Rattle.record_links.specs.Replicas.{Held, IsMended, as_they_are, with_doubt, StopLeaves}
use Rattle.record_links.specs.World.{Numbered, appended}
use Rattle.exam_follower.specs.Delivering.{IsLeftBy, IsLeftBetween, HasRecords}

-- ---- a file at some moment
at_one : (P : List ℕ → Type 0) (more : List Account) (file : List ℕ) → AllByRecursion (AllImages P) more → IsLeftBy more file → P file
at_one P [] file all left = absurd left
at_one P (a ∷ more) file all left = ⊎_elim (λ i. all.0 file i) (λ l. at_one P more file all.1 l) left

pub at_moment : (P : List ℕ → Type 0) (old new : List Account) (file : List ℕ) → AtEachMoment old new P → IsLeftBetween old new file → P file
at_moment P old new file each between =
    let same : between.more ≡ each.more = append_cancel_left old between.more each.more (sym between.grown ∙ each.grown) in
    ⊎_elim (λ i. each.start file i)
    (λ l. at_one P each.more file each.each (subst (λ (m : List Account). IsLeftBy m file) same l)) between.left

-- a file has the payloads of one list of records
pub records_there : (P : List (List ℕ) → Type 0) (file : List ℕ) (left : List (List ℕ)) → HasRecords P file → contents file ≡ Some (second left) → P left
records_there P file left has is =
    let same : has.0 ≡ left = ap (λ (c : Option Counted). (unwrap_or c (second [])).payloads) (sym has.2 ∙ is) in
    subst P same has.1

-- ---- while nothing is written
pub still : (P : List (List ℕ) → Type 0) (ps : List (List ℕ)) (accounts : List Account) → P ps → AllImages (λ file. contents file ≡ Some (second ps)) (latest accounts) → AtEachMoment accounts accounts (HasRecords P)
still P ps accounts p images = started (HasRecords P) accounts (λ file i. (ps, p, images file i))

pub still_then : (P : List (List ℕ) → Type 0) (ps : List (List ℕ)) (accounts later : List Account) → later ≡ accounts → P ps → AllImages (λ file. contents file ≡ Some (second ps)) (latest accounts) → AtEachMoment accounts later (HasRecords P)
still_then P ps accounts later e p images = subst (λ (l : List Account). AtEachMoment accounts l (HasRecords P)) (sym e) (still P ps accounts p images)

-- ---- while one more is written or resolved
pub one_of : (P : List (List ℕ) → Type 0) (ps : List (List ℕ)) (payload : List ℕ) (old new : List Account) → P ps → P (ps ++ payload ∷ []) → AtEachMoment old new (HoldsOrOneMore ps payload) → AtEachMoment old new (HasRecords P)
one_of P ps payload old new here more each =
    weaker (HoldsOrOneMore ps payload) (HasRecords P)
    (λ file w. ⊎_elim (λ e. (ps, here, e)) (λ e. (ps ++ payload ∷ [], more, e)) w) old new each

-- while the record in doubt is resolved
pub while_mended : (held : Held) (payload : List ℕ) (old new : List Account) → held.doubt ≡ Some payload → AtEachMoment old new (HoldsOrOneMore held.records payload) → AtEachMoment old new (HasRecords (IsMended held))
while_mended held payload old new is each = one_of (IsMended held) held.records payload old new as_they_are (with_doubt payload is) each

-- while a record that may follow is appended
pub while_taken : (may : List (List ℕ) → List ℕ → Type 0) (held : Held) (payload : List ℕ) (old new : List Account) → may held.records payload → AtEachMoment old new (HoldsOrOneMore held.records payload)
    → AtEachMoment old new (HasRecords (StopLeaves may held (offer_of (length held.records) payload)))
while_taken may held payload old new follows each =
    one_of (StopLeaves may held (offer_of (length held.records) payload)) held.records payload old new
    (held.records, as_they_are, inl refl) (held.records, as_they_are, inr (appended refl follows)) each

-- ---- one after the other
pub first_part : (may : List (List ℕ) → List ℕ → Type 0) (held : Held) (o : Numbered (List ℕ)) (old new : List Account) → AtEachMoment old new (HasRecords (IsMended held)) → AtEachMoment old new (HasRecords (StopLeaves may held o))
first_part may held o old new each =
    weaker (HasRecords (IsMended held)) (HasRecords (StopLeaves may held o)) (λ file w. (w.0, (w.0, w.1, inl refl), w.2)) old new each

pub both_parts : (P Q : List (List ℕ) → Type 0) (old mid new : List Account) → ((left : List (List ℕ)) → Q left → P left) → AtEachMoment old mid (HasRecords P) → AtEachMoment mid new (HasRecords Q) → AtEachMoment old new (HasRecords P)
both_parts P Q old mid new leads a b =
    joined (HasRecords P) old mid new a (weaker (HasRecords Q) (HasRecords P) (λ file w. (w.0, leads w.0 w.1, w.2)) mid new b)
