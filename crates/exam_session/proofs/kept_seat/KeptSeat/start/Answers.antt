use Rattle.std.proofs.Common.{◌∙◌, ℕ, List, [], ◌∷◌, ◌++◌, take, slice_get, refl, ap}
use Rattle.exam_session.specs.KeptSeats.{filled}
use Rattle.exam_session.proofs.FilledNotes.{filled_is, starts_with}
use Rattle.exam_session.proofs.kept_seat.KeptSeat.start.Goals as goal

pub returns-in-None-clause-seat : goal.returns-in-None-clause-seat
returns-in-None-clause-seat c =
    let kept = c.args.self.now in
    let eligible = c.args.eligible.now in
    let items = c.push_bands.ensures.sets ∙ ap (λ (xs : List (List ℕ)). xs ++ take eligible.count eligible.sets) c.requires.no_sets in
    let fill = ap filled items ∙ filled_is eligible c.requires.fit (record { eight = c.are_sets.ensures.eight; each = c.are_sets.ensures.each }) in
    let list = ap (λ (xs : List (List ℕ)). slice_get xs 0) c.new.ensures.items in
    rw c.in-None.is (starts_with kept.shown.items kept.responses.items kept.aside kept.proved kept.closed _ _ _ _ _ _ fill list c.requires.no_form)

pub returns-in-Some-clause-seat : goal.returns-in-Some-clause-seat
returns-in-Some-clause-seat c =
    let kept = c.args.self.now in
    let eligible = c.args.eligible.now in
    let words = c.in-Some.list.now.items in
    let items = c.push_bands.ensures.sets ∙ ap (λ (xs : List (List ℕ)). xs ++ take eligible.count eligible.sets) c.requires.no_sets in
    let fill = ap filled items ∙ filled_is eligible c.requires.fit (record { eight = c.are_sets.ensures.eight; each = c.are_sets.ensures.each }) in
    let pushed = c.push_reserved.ensures.items ∙ ap (λ (xs : List (List ℕ)). xs ++ words ∷ []) c.requires.no_list in
    let list = ap (λ (xs : List (List ℕ)). slice_get xs 0) pushed in
    rw c.in-Some.is (starts_with kept.shown.items kept.responses.items kept.aside kept.proved kept.closed _ _ _ _ _ _ fill list refl)
