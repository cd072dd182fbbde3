-- Where the records of a journal at rest are.
use Rattle.std.proofs.Common.{◌≡◌, ℕ, ◌+◌, ◌-◌, ◌<◌, ◌≤◌, List, [], ◌∷◌, length, take, drop, get_or, sym, ◌∙◌, ap, subst, arith, length-append, length-drop}
use Rattle.std.proofs.Math.Seq.{take-add}
use Rattle.std.proofs.lemmas.List.{get_or-drop, take_at, drop_at}
use Rattle.exam_edge.specs.Images.{Account}
use Rattle.answer_journal.specs.Frames.{FileHeader, front}
use Rattle.answer_journal.specs.Journal.{CountsSecond}
use Rattle.answer_journal.specs.Payload.{end_of}
use Rattle.answer_journal.specs.Reading.{IsRead}
use Rattle.answer_journal.specs.Standing.{payload_list, IsAtRest}
use Rattle.answer_journal.specs.Versions.{Counted, header, uncounted}
use Rattle.answer_journal.specs.Walk.{HasRecord}
use Rattle.answer_journal.proofs.Counting.{cut_so}
use Rattle.answer_journal.proofs.Ends.{end_of-append}
use Rattle.answer_journal.proofs.Walking.{has_next, next_fits}

-- a journal at rest was read whole
pub rest_read : (h : FileHeader) (content : List ℕ) (accounts : List Account) (size : ℕ) → IsAtRest h content accounts size → IsRead h content (payload_list h content) (size - 1)
rest_read h content accounts size rest =
    let all = payload_list h content in
    let ends : size - 1 ≡ length (front h all) = omega (arith, rest.size_is, ap length rest.file, length-append (front h all) (rest.gate ∷ [])) in
    let at_gate : get_or content (size - 1) 0 ≡ rest.gate =
    ap (λ (i : ℕ). get_or content i 0) (zero_more (size - 1)) ∙ sym (get_or-drop (size - 1) content 0 0)
    ∙ ap (λ (l : List ℕ). get_or l 0 0) (ap (drop (size - 1)) rest.file ∙ drop_at (front h all) (rest.gate ∷ []) (size - 1) (sym ends)) in
    record {
      gives = rest.gives;
      in_file = omega (arith, rest.size_is, ap length rest.file, length-append (front h all) (rest.gate ∷ []));
      closed = λ is_open. rest.closed (sym at_gate ∙ is_open);
      before = ap (take (size - 1)) rest.file ∙ take_at (front h all) (rest.gate ∷ []) (size - 1) (sym ends);
      fits = rest.fits;
    }
  where
    zero_more : (n : ℕ) → n ≡ n + 0
    zero_more n = omega arith

module _ (version start : ℕ) (content : List ℕ) (accounts : List Account) (size : ℕ) (rest : IsAtRest (header version) content accounts size)
    (ps : List (List ℕ)) (c : CountsSecond version start (payload_list (header version) content) ps) where
  abbrev h : FileHeader
  h = header version

  abbrev all : List (List ℕ)
  all = payload_list (header version) content

  abbrev u : ℕ
  u = uncounted version (payload_list (header version) content)

  these : ps ≡ drop u all
  these = sym (ap (λ (x : Counted). x.payloads) c.counts) ∙ (cut_so version all).rest

  module _ (k at : ℕ) (lt : k < length ps) (place : at ≡ end_of start (take k ps)) where
    in_all : u + k < length all
    in_all = omega (arith, lt, ap length these, length-drop u all)

    place_in_all : at ≡ end_of 8 (take (u + k) all)
    place_in_all =
        place ∙ ap (λ (s : ℕ). end_of s (take k ps)) c.starts ∙ ap (λ (l : List (List ℕ)). end_of (end_of 8 (take u all)) (take k l)) these
        ∙ sym (end_of-append 8 (take u all) (take k (drop u all))) ∙ ap (end_of 8) (sym (take-add u k all))

    same : get_or all (u + k) [] ≡ get_or ps k []
    same = sym (get_or-drop u all k []) ∙ ap (λ (l : List (List ℕ)). get_or l k []) (sym these)

    pub record_at : HasRecord content at (get_or ps k []) × (at + 5 + length (get_or ps k []) ≤ size - 1)
    record_at =
        let r = rest_read h content accounts size rest in
        subst (λ (p : List ℕ). HasRecord content at p × (at + 5 + length p ≤ size - 1)) same
        (has_next h content all (size - 1) r (u + k) at place_in_all in_all, next_fits h content all (size - 1) r (u + k) at place_in_all in_all)
