-- The places of gates, as lengths of what is before them.
use Rattle.std.proofs.Common.{◌≡◌, ℕ, ◌+◌, List, [], ◌∷◌, ◌++◌, length, Option, refl, sym, ◌∙◌, ap, subst, arith, w32, append_assoc, length-append, length-take}
use Rattle.std.specs.Prelude.{unwrap_or}
use Rattle.std.specs.Int.{to_be_bytes}
use Rattle.answer_journal.specs.Frames.{FileHeader, frames, front}
use Rattle.answer_journal.specs.Payload.{end_of}
use Rattle.answer_journal.specs.Reading.{IsRead}
use Rattle.answer_journal.specs.Standing.{payload_list}

pub end_is_after : (a : ℕ) (ps : List (List ℕ)) → end_of a ps ≡ a + length (frames ps)
end_is_after a [] = omega arith
end_is_after a (p ∷ ps) =
    omega (arith, end_is_after (a + 5 + length p) ps, length-append (to_be_bytes w32 (length p) ++ p) (frames ps), length-append (to_be_bytes w32 (length p)) p)

pub end_of-append : (a : ℕ) (ps qs : List (List ℕ)) → end_of a (ps ++ qs) ≡ end_of (end_of a ps) qs
end_of-append a [] qs = refl
end_of-append a (p ∷ ps) qs = end_of-append (a + 5 + length p) ps qs

pub frames-append : (ps qs : List (List ℕ)) → frames (ps ++ qs) ≡ frames ps ++ frames qs
frames-append [] qs = refl
frames-append (p ∷ ps) qs =
    ap (λ (l : List ℕ). 1 ∷ l)
    (ap (λ (l : List ℕ). to_be_bytes w32 (length p) ++ p ++ l) (frames-append ps qs)
    ∙ sym (append_assoc (to_be_bytes w32 (length p) ++ p) (frames ps) (frames qs)))

module _ (h : FileHeader) where
  pub front_ends : (ps : List (List ℕ)) → length (front h ps) ≡ end_of 8 ps
  front_ends ps = omega (arith, length-append h.bytes (frames ps), h.eight, end_is_after 8 ps)

  module _ (content : List ℕ) (ps : List (List ℕ)) (end : ℕ) (r : IsRead h content ps end) where
    pub end_is : end ≡ end_of 8 ps
    end_is = omega (arith, ap length r.before, length-take end content, r.in_file, front_ends ps)

    pub list_is : payload_list h content ≡ ps
    list_is = ap (λ (o : Option (List (List ℕ))). unwrap_or o []) r.gives

    pub read_list : IsRead h content (payload_list h content) end
    read_list = subst (λ (qs : List (List ℕ)). IsRead h content qs end) (sym list_is) r
