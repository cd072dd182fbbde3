use Rattle.std.proofs.Common.{◌≡◌, inl, ℕ, List, length, sym, ◌∙◌, subst, arith}
use Rattle.std.proofs.lemmas.List.{take_all}
use Rattle.exam_edge.specs.Images.{Account, AllImages, latest, cut_to, shortened, dropped, Grows, IsClean, IsImage, IsSettled, AtEachMoment}
use Rattle.exam_edge.specs.ImageLaws.{all_of_dropped, started, goes_on}
use Rattle.answer_journal.proofs.Settling.{own_length, short_settled}
use Rattle.answer_journal.proofs.opening.settle_short.Goals as goal

cut_moments : (content : List ℕ) (a0 a1 : List Account) (size : ℕ) → size ≡ length content → IsImage (latest a0) content → Grows (dropped (cut_to size (latest a0))) a0 a1 → AtEachMoment a0 a1 (IsImage (latest a0))
cut_moments content a0 a1 size size_is image g =
    let h = subst (λ (n : ℕ). Grows (dropped (cut_to n (latest a0))) a0 a1) size_is g in
    goes_on (IsImage (latest a0)) (dropped (cut_to (length content) (latest a0))) a0 a0 a1 (started (IsImage (latest a0)) a0 (λ file i. i)) h (own_length content a0 image)

pub cut_durably-requires-clause-place : goal.cut_durably-requires-clause-place
cut_durably-requires-clause-place g c = λ told. let size_is = c.requires.extent.size_is told in omega (arith, size_is)

pub returns-in_err-cut_durably-clause-moments : goal.returns-in_err-cut_durably-clause-moments
returns-in_err-cut_durably-clause-moments g c = λ told.
    let disk = c.args.disk.now in
    cut_moments (g.D.Disk.content disk) (g.D.Disk.accounts disk) (g.D.Disk.accounts c.cut_durably.new.disk) c.args.extent.size (c.requires.extent.size_is told) (g.met.D.Disk.is_image disk told) (c.cut_durably.ensures.crash told)

pub returns-clause-moments : goal.returns-clause-moments
returns-clause-moments g c = λ told.
    let disk = c.args.disk.now in
    cut_moments (g.D.Disk.content disk) (g.D.Disk.accounts disk) (g.D.Disk.accounts c.cut_durably.new.disk) c.args.extent.size (c.requires.extent.size_is told) (g.met.D.Disk.is_image disk told) (c.cut_durably.ensures.crash told)

pub returns-clause-content : goal.returns-clause-content
returns-clause-content g c = λ told.
    let content = g.D.Disk.content c.args.disk.now in
    let size_is = c.requires.extent.size_is told in
    c.in_ok-cut_durably.ensures.content told ∙ take_all c.args.extent.size content (omega (arith, size_is))

pub returns-clause-left : goal.returns-clause-left
returns-clause-left g c = λ told.
    let disk = c.args.disk.now in
    let content = g.D.Disk.content disk in
    let a0 = g.D.Disk.accounts disk in
    let a1 = g.D.Disk.accounts c.cut_durably.new.disk in
    let few = c.requires.short in
    let size_is : c.args.extent.size ≡ length content = c.requires.extent.size_is told in
    let synced : IsClean (shortened (length content) (latest a0)) → IsSettled content a1 = λ clean.
    subst (λ (f : List ℕ). IsSettled f a1) (returns-clause-content g c told) (c.in_ok-cut_durably.ensures.settled told (subst (λ (n : ℕ). IsClean (shortened n (latest a0))) (sym size_is) clean)) in
    short_settled content a0 (g.met.D.Disk.is_image disk told) (omega (arith, few, size_is)) a1 (c.requires.extent.left told) synced
    (subst (λ (n : ℕ). Grows (dropped (cut_to n (latest a0))) a0 a1) size_is (c.cut_durably.ensures.crash told))

-- a cut to its own length leaves no other file
pub cut_durably-requires-clause-comes : goal.cut_durably-requires-clause-comes
cut_durably-requires-clause-comes g c = λ told.
    let disk = c.args.disk.now in
    let content = g.D.Disk.content disk in
    let a0 = g.D.Disk.accounts disk in
    let size_is : c.args.extent.size ≡ length content = c.requires.extent.size_is told in
    let own : AllImages (IsImage (latest a0)) (cut_to (length content) (latest a0)) = all_of_dropped (IsImage (latest a0)) (cut_to (length content) (latest a0)) (own_length content a0 (g.met.D.Disk.is_image disk told)) in
    λ file i. inl (own file (subst (λ (n : ℕ). IsImage (cut_to n (latest a0)) file) size_is i))
