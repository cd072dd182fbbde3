-- Links that are fair as the headline asks it are fair as a server asks it.
use Rattle.std.proofs.Common.{◌≡◌, ℕ, Bool, List, [], ◌∷◌, ◌++◌, map, refl, sym, ap, ◌∙◌, subst}
use Rattle.exam_hall.specs.Known.{CallerKnown}
use Rattle.exam_headline.specs.Conversations.{Examination, MayBeWritten}
use Rattle.exam_headline.specs.Laws.{exam_of, FairIsEnough}
use Rattle.exam_headline.proofs.Talks.{grown, may_be_written}
use Rattle.exam_office.specs.declared.mark.Mark.{Mark}
use Rattle.exam_office.specs.declared.mark.Mark.TheVariants.{Old, Opened}
use Rattle.exam_office.specs.Marks.{history}
use Rattle.exam_office.specs.Noting.{OpenedWith, noted, marks_of}
use Rattle.exam_serve.specs.Allowing.{IsCallerOf}
use Rattle.history_model.specs.declared.entry.Entry.{Entry}
use Rattle.turn_lock.specs.Histories.{StartsWith}

marks_again : (office : OpenedWith) (M : List Mark) → marks_of (noted office M) ≡ M
marks_again office [] = refl
marks_again office (m ∷ M) = ap (λ (l : List Mark). m ∷ l) (marks_again office M)

old_history : (H : List Entry) (size : ℕ) → history (map Old H ++ Opened size ∷ []) ≡ H
old_history [] size = refl
old_history (e ∷ H) size = ap (λ (l : List Entry). e ∷ l) (old_history H size)

begins_with_found : (office : OpenedWith) (opened : List Mark) (found : List Entry) (size : ℕ) (caller : CallerKnown) → opened ≡ map Old found ++ Opened size ∷ [] → IsCallerOf office opened caller → StartsWith (history (marks_of caller.pass.seen)) found
begins_with_found office opened found size caller same is =
    subst (λ (H : List Entry). StartsWith (history (marks_of caller.pass.seen)) H)
    (ap (λ (M : List Mark). history M) (marks_again office opened ∙ same) ∙ old_history found size)
    (grown (noted office opened) caller.pass.seen is.begins)

exam_by : (a b : Examination) → a.bank ≡ b.bank → a.plan ≡ b.plan → a.base ≡ b.base → a ≡ b
exam_by a b e f g =
    ap (λ t. record { bank = t; plan = a.plan; base = a.base }) e
    ∙ (ap (λ t. record { bank = b.bank; plan = t; base = a.base }) f ∙ ap (λ t. record { bank = b.bank; plan = b.plan; base = t }) g)

pub fair_is_enough : {K D : Type 0} (tells : K → Bool) (left written : K → List ℕ) (allows : K → List ℕ → Type 0) (door_tells : D → Bool) (coming : D → List K) → FairIsEnough tells left written allows door_tells coming
fair_is_enough tells left written allows door_tells coming token doors office opened found size same fair door link caller there gives is told text final served =
    fair door link (history (marks_of caller.pass.seen)) text there gives told (begins_with_found office opened found size caller same is)
    (subst (λ (x : Examination). MayBeWritten x token (history (marks_of caller.pass.seen)) (left link) text)
    (exam_by (exam_of caller) (record { bank = office.bank; plan = office.plan; base = office.base }) (sym is.hall.bank) (sym is.hall.plan) (sym is.hall.base))
    (may_be_written token caller final (left link) text served))
