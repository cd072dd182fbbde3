use Rattle.std.proofs.Common.{◌≡◌, ◌∙◌, ◌==◌, ℕ, false, get_or, length, take, sym, ap, subst, arith}
use Rattle.std.specs.Int.{bit_at}
use Rattle.std.proofs.lemmas.List.{take_all}
use Rattle.form_model.specs.Ability.{AnswerList, IsPosteriorMode}
use Rattle.serving_model.specs.Seats.{answers, band_at}
use Rattle.exam_session.specs.Flags.{flags_of}
use Rattle.exam_session.specs.KeptSeats.{seat_kept}
use Rattle.exam_session.proofs.FilledNotes.{eight_at}
use Rattle.exam_session.proofs.VisitNotes.{band_is}
use Rattle.exam_session.proofs.kept_seat.KeptSeat.is_aside.Goals as goal

pub returns : goal.returns
returns c = λ b sums.
    let kept = c.args.self.now in
    let plan = c.args.spec.now in
    let seat = seat_kept kept in
    let list : AnswerList = answers seat in
    let of_list = c.mode.ensures.mode b plan.prior list (c.sums.ensures.sums b plan.prior list sums) in
    let mode : IsPosteriorMode b plan.prior (take (length list) list) c.mode.result = subst (λ (x : AnswerList). IsPosteriorMode b plan.prior x c.mode.result) (sym (take_all (length list) list (omega arith))) of_list in
    let within = of_list.within in
    let band : c.band.result ≡ band_at b plan seat (length list) = band_is b plan seat (length list) c.mode.result c.band.result (omega arith) mode c.band.ensures.band in
    c.has_flag.ensures
    ∙ (sym (eight_at (λ k. bit_at kept.aside k == 1) c.band.result false c.band.ensures.few)
    ∙ ap (λ (k : ℕ). get_or (flags_of kept.aside) k false) band)
