use Rattle.std.proofs.Common.{inl, ◌∷◌, [], arith}
use Rattle.answer_journal.specs.Frames.{frame_of}
use Rattle.answer_journal.specs.Standing.{payload_list}
use Rattle.answer_journal.specs.Versions.{header}
use Rattle.journal_stream.proofs.Moved.{moved_stays, moving_served, served_so}
use Rattle.journal_stream.proofs.laws.a_journal_is_served.Goals as goal

pub returns-clause-rest : goal.returns-clause-rest
returns-clause-rest c = λ version ps content accounts size r e. served_so version (payload_list (header version) content) ps (8 ∷ []) content r.fits
    (record { some = omega arith; few = omega arith }) e (inl (record { gate = r.gate; junk = []; closed = r.closed; is = r.file }))

pub returns-clause-staged : goal.returns-clause-staged
returns-clause-staged c = λ version all ps payload content accounts size s e. served_so version all ps payload content s.fits s.one e
    (inl (record { gate = s.gate; junk = frame_of payload; closed = s.closed; is = s.file }))

pub returns-clause-doubt : goal.returns-clause-doubt
returns-clause-doubt c = λ version all ps payload content accounts size with_it d e image. served_so version all ps payload content d.fits d.one e (d.each content image)

pub returns-clause-kept : goal.returns-clause-kept
returns-clause-kept c = λ version all ps payload e. moved_stays version all ps payload e

pub returns-clause-moving : goal.returns-clause-moving
returns-clause-moving c = λ old records content fits more unmarked is. moving_served old records content fits more unmarked is
