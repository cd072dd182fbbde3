-- The places and lengths of a journal that is moved.
use Rattle.std.proofs.Common.{◌≡◌, ℕ, ◌+◌, ◌<◌, List, [], ◌∷◌, ◌++◌, length, map, ◌∙◌, ap, arith, length-append, w32}
use Rattle.std.proofs.lemmas.List.{map-append}
use Rattle.std.specs.Int.{to_be_bytes}
use Rattle.bank_tables.specs.Tables.{Tables}
use Rattle.form_model.specs.Plan.{Plan}
use Rattle.exam_edge.specs.Images.{Account}
use Rattle.history_model.specs.Judging.{Record}
use Rattle.exam_records.specs.Spelling.{payload_of}
use Rattle.answer_journal.specs.Frames.{shadowj1, frames, front}
use Rattle.answer_journal.specs.Moving.{IsMovingWith}
use Rattle.answer_journal.specs.Payload.{end_of}
use Rattle.answer_journal.specs.Standing.{moved_records}
use Rattle.answer_journal.specs.Versions.{mark}
use Rattle.exam_office.specs.Files.{payload_in}
use Rattle.exam_office.specs.Migrating.{moved_file}

-- ---- frames
pub frames_one : (p : List ℕ) (ps : List (List ℕ)) → length (frames (p ∷ ps)) ≡ 5 + length p + length (frames ps)
frames_one p ps = omega (arith, length-append (to_be_bytes w32 (length p) ++ p) (frames ps), length-append (to_be_bytes w32 (length p)) p)

pub frames_length : (ps qs : List (List ℕ)) → length (frames (ps ++ qs)) ≡ length (frames ps) + length (frames qs)
frames_length [] qs = omega arith
frames_length (p ∷ ps) qs = omega (arith, frames_one p (ps ++ qs), frames_one p ps, frames_length ps qs)

pub frames_more : (ps : List (List ℕ)) (p : List ℕ) → length (frames (ps ++ p ∷ [])) ≡ length (frames ps) + 5 + length p
frames_more ps p = omega (arith, frames_length ps (p ∷ []), frames_one p [])

pub end_is_after : (a : ℕ) (ps : List (List ℕ)) → end_of a ps ≡ a + length (frames ps)
end_is_after a [] = omega arith
end_is_after a (p ∷ ps) = omega (arith, end_is_after (a + 5 + length p) ps, frames_one p ps)

pub end_more : (a : ℕ) (ps : List (List ℕ)) (p : List ℕ) → end_of a (ps ++ p ∷ []) ≡ end_of a ps + 5 + length p
end_more a ps p = omega (arith, end_is_after a (ps ++ p ∷ []), end_is_after a ps, frames_more ps p)

front_length : (ps : List (List ℕ)) → length (front shadowj1 ps) ≡ 8 + length (frames ps)
front_length ps = omega (arith, length-append shadowj1.bytes (frames ps), shadowj1.eight)

-- ---- the file
module _ (b : Tables) (plan : Plan) where
  pub moved_size : (R : List Record) → length (moved_file b plan R) ≡ 15 + length (frames (map (payload_in b plan 1) R)) + length (frames (map payload_of R))
  moved_size R =
      let ps = map (payload_in b plan 1) R in
      let qs = map payload_of R in
      omega (arith, length-append (front shadowj1 (ps ++ mark ∷ qs)) (0 ∷ []), front_length (ps ++ mark ∷ qs), frames_length ps (mark ∷ qs), frames_one mark qs)

module _ (ps qs : List (List ℕ)) (content waiting : List ℕ) (accounts : List Account) (gate end : ℕ) (m : IsMovingWith ps qs content waiting accounts gate end) where
  pub gate_at : gate ≡ 8 + length (frames ps)
  gate_at = m.moving.gate_is ∙ front_length ps

  pub gate_ends : gate ≡ end_of 8 ps
  gate_ends = omega (arith, gate_at, end_is_after 8 ps)

  here_at : length content ≡ 14 + length (frames ps) + length (frames m.here)
  here_at = omega (arith, ap length m.moving.is, length-append (front shadowj1 ps) (m.moving.byte ∷ moved_records m.here), front_length ps, length-append (to_be_bytes w32 (length mark)) (mark ++ frames m.here), length-append mark (frames m.here))

  pub end_at : end ≡ 14 + length (frames ps) + length (frames qs)
  end_at = omega (arith, m.end_is, here_at, ap length m.waiting_is, ap (λ (l : List (List ℕ)). length (frames l)) m.all, frames_length m.here m.later)

-- ---- the place of a record
at_place : (a : ℕ) (ps : List (List ℕ)) (p : List ℕ) (qs : List (List ℕ)) → end_of a ps < end_of a (ps ++ p ∷ qs)
at_place a ps p qs = omega (arith, end_is_after a ps, end_is_after a (ps ++ p ∷ qs), frames_length ps (p ∷ qs), frames_one p qs)

-- a record is left exactly where the place is before the closed gate
pub is_before : (b : Tables) (plan : Plan) (R done : List Record) (r : Record) (rest : List Record) (at gate : ℕ) → R ≡ done ++ r ∷ rest → at ≡ end_of 8 (map (payload_in b plan 1) done) → gate ≡ end_of 8 (map (payload_in b plan 1) R) → at < gate
is_before b plan R done r rest at gate is place ends =
    let f = payload_in b plan 1 in
    let all : map f R ≡ map f done ++ f r ∷ map f rest = ap (map f) is ∙ map-append f done (r ∷ rest) in
    omega (arith, place, ends ∙ ap (end_of 8) all, at_place 8 (map f done) (f r) (map f rest))
