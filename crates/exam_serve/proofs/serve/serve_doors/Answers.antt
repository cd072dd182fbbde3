use Rattle.std.proofs.Common.{◌≡◌, [], length, ap, subst, sym, ◌∙◌, append-nil}
use Rattle.std.specs.Option.{option_copied}
use Rattle.turn_lock.specs.Histories.{StartsWith}
use Rattle.exam_hall.specs.Known.{IsOfficeOf}
use Rattle.exam_office.specs.Noting.{opened_with}
use Rattle.exam_serve.specs.Results.{notes_of}
use Rattle.exam_serve.proofs.Ends.{never_memory}
use Rattle.exam_serve.proofs.Left.{all_lent, done_so, failed_so, still_lent}
use Rattle.exam_serve.proofs.Notes.{begins_marks, same_office, noted_number}
use Rattle.exam_serve.proofs.Wholes.{result_of}
use Rattle.exam_serve.proofs.serve.serve_doors.Goals as goal

pub returns-in-Err-new-clause-begins : goal.returns-in-Err-new-clause-begins
returns-in-Err-new-clause-begins g c = ([], ap (λ o. o.marks) c.in-Err-new.ensures.same ∙ sym (append-nil _))

pub returns-clause-same : goal.returns-clause-same
returns-clause-same g c =
    let first = c.in-Ok-new.made.1 in
    let begun : first.seen ≡ notes_of c.args.office = ap (λ p. p.seen) c.in-Ok-new.ensures.pass in
    same_office (opened_with c.args.office) (opened_with c.close-office.result)
    c.args.office.marks c.close-office.result.marks first.seen begun c.in-Ok-new.ensures.of.opening.noted
    (subst (λ l. StartsWith (notes_of c.close-office.result) l) begun (c.serve_at-end.ensures.served
    (notes_of c.close-office.result) c.close-office.ensures.begins c.close-office.ensures.all).grows)

pub returns-clause-begins : goal.returns-clause-begins
returns-clause-begins g c =
    let first = c.in-Ok-new.made.1 in
    let begun : first.seen ≡ notes_of c.args.office = ap (λ p. p.seen) c.in-Ok-new.ensures.pass in
    begins_marks (opened_with c.args.office) (opened_with c.close-office.result)
    c.args.office.marks c.close-office.result.marks
    (subst (λ l. StartsWith (notes_of c.close-office.result) l) begun (c.serve_at-end.ensures.served
    (notes_of c.close-office.result) c.close-office.ensures.begins c.close-office.ensures.all).grows)

pub returns-clause-result : goal.returns-clause-result
returns-clause-result g c =
    let first = c.in-Ok-new.made.1 in
    let begun : first.seen ≡ notes_of c.args.office = ap (λ p. p.seen) c.in-Ok-new.ensures.pass in
    result_of (option_copied c.args.token) g.L.Door.tells g.L.Door.coming g.L.Door.returned g.L.Door.is_out g.L.Door.faults g.L.Door.identity
    g.L.Link.Link.tells g.L.Link.Link.left g.L.Link.Link.written g.L.Link.Link.faults g.L.Link.Link.identity
    c.args.office c.close-office.result c.args.doors.items c.serve_at-end.new.doors.items
    c.serve_at-end.result first.seen begun
    (c.serve_at-end.ensures.served (notes_of c.close-office.result) c.close-office.ensures.begins c.close-office.ensures.all)

pub returns-in-Err-clause-lent : goal.returns-in-Err-clause-lent
returns-in-Err-clause-lent g c = still_lent g.L.Door.tells g.L.Door.is_out g.L.Door.faults g.L.Door.identity c.args.doors.items c.requires.home

pub returns-in-Err-new-clause-lent : goal.returns-in-Err-new-clause-lent
returns-in-Err-new-clause-lent g c = still_lent g.L.Door.tells g.L.Door.is_out g.L.Door.faults g.L.Door.identity c.args.doors.items c.requires.home

pub returns-clause-lent : goal.returns-clause-lent
returns-clause-lent g c =
    all_lent (option_copied c.args.token) g.L.Door.tells g.L.Door.coming g.L.Door.returned g.L.Door.is_out g.L.Door.faults g.L.Door.identity
    g.L.Link.Link.tells g.L.Link.Link.left g.L.Link.Link.written g.L.Link.Link.faults g.L.Link.Link.identity
    c.in-Ok-new.made.1.seen (notes_of c.close-office.result) c.args.doors.items c.serve_at-end.new.doors.items
    c.serve_at-end.result
    (c.serve_at-end.ensures.served (notes_of c.close-office.result) c.close-office.ensures.begins c.close-office.ensures.all)

pub returns-clause-unused : goal.returns-clause-unused
returns-clause-unused g c = λ is. absurd (never_memory _ _ c.serve_at-end.result
    (c.serve_at-end.ensures.served (notes_of c.close-office.result) c.close-office.ensures.begins c.close-office.ensures.all).end_is is)

pub returns-clause-done : goal.returns-clause-done
returns-clause-done g c =
    done_so (option_copied c.args.token) g.L.Door.tells g.L.Door.coming g.L.Door.returned g.L.Door.is_out g.L.Door.faults g.L.Door.identity
    g.L.Link.Link.tells g.L.Link.Link.left g.L.Link.Link.written g.L.Link.Link.faults g.L.Link.Link.identity
    c.in-Ok-new.made.1.seen (notes_of c.close-office.result) c.args.doors.items c.serve_at-end.new.doors.items
    c.serve_at-end.result
    (c.serve_at-end.ensures.served (notes_of c.close-office.result) c.close-office.ensures.begins c.close-office.ensures.all)

pub returns-clause-failed : goal.returns-clause-failed
returns-clause-failed g c =
    failed_so (option_copied c.args.token) g.L.Door.tells g.L.Door.coming g.L.Door.returned g.L.Door.is_out g.L.Door.faults g.L.Door.identity
    g.L.Link.Link.tells g.L.Link.Link.left g.L.Link.Link.written g.L.Link.Link.faults g.L.Link.Link.identity
    c.in-Ok-new.made.1.seen (notes_of c.close-office.result) c.args.doors.items c.serve_at-end.new.doors.items
    c.serve_at-end.result
    (c.serve_at-end.ensures.served (notes_of c.close-office.result) c.close-office.ensures.begins c.close-office.ensures.all)

pub serve_at-end-requires-clause-fair : goal.serve_at-end-requires-clause-fair
serve_at-end-requires-clause-fair g c κs within = λ door link caller there comes is.
    let office = opened_with c.args.office in
    let first = c.in-Ok-new.made.1 in
    let begun : first.seen ≡ notes_of c.args.office = ap (λ p. p.seen) c.in-Ok-new.ensures.pass in
    let starts_at : first.start ≡ length (notes_of c.args.office) = ap (λ p. p.start) c.in-Ok-new.ensures.pass in
    c.requires.fair door link caller there comes (record {
      hall = subst (λ h. IsOfficeOf office h) (sym is.0) c.in-Ok-new.ensures.office;
      start = is.1.start ∙ starts_at ∙ noted_number office c.args.office.marks;
      begins = subst (λ l. StartsWith caller.pass.seen l) begun is.1.seen;
    })
