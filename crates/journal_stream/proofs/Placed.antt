-- Where the frames of records are.
use Rattle.std.proofs.Common.{◌≡◌, ℕ, zero, suc, ◌+◌, ◌<◌, ◌≤◌, List, [], ◌∷◌, ◌++◌, length, take, drop, Option, Some, None, is_some, true, false, inl, inr, ⊎_elim, refl, sym, ◌∙◌, ap, subst, arith, w32, append_assoc, length-append}
use Rattle.std.specs.Prelude.{slice_get}
use Rattle.std.specs.Int.{to_be_bytes}
use Rattle.std.proofs.lemmas.List.{drop_at, take-append-le}
use Rattle.std.proofs.lemmas.Option.{slice_get_within}
use Rattle.answer_journal.specs.Frames.{frames}
use Rattle.answer_journal.specs.Payload.{end_of}
use Rattle.record_links.specs.Streaming.{IsGrown}
use Rattle.journal_stream.specs.Served.{first_of}
use Rattle.journal_stream.specs.Tail.{IsGateOf}

shift : (h b q f r : List ℕ) → h ++ ((1 ∷ (b ++ q ++ f)) ++ r) ≡ (h ++ (1 ∷ (b ++ q))) ++ (f ++ r)
shift h b q f r =
    ap (λ (l : List ℕ). h ++ (1 ∷ l)) (append_assoc (b ++ q) f r)
    ∙ sym (append_assoc h (1 ∷ (b ++ q)) (f ++ r))

-- from the gate of a number on: the frames of the records from it on, and what follows them
pub frames_from : (ps : List (List ℕ)) (k : ℕ) (h rest : List ℕ) (a : ℕ) → length h ≡ a → k ≤ length ps
    → drop (end_of a (take k ps)) (h ++ (frames ps ++ rest)) ≡ frames (drop k ps) ++ rest
frames_from ps zero h rest a is le = drop_at h (frames ps ++ rest) a is
frames_from [] (suc k) h rest a is le = absurd (omega (arith, le))
frames_from (q ∷ qs) (suc k) h rest a is le =
    let b = to_be_bytes w32 (length q) in
    let long : length (h ++ (1 ∷ (b ++ q))) ≡ a + 5 + length q = omega (arith, is, length-append h (1 ∷ (b ++ q)), length-append b q) in
    ap (drop (end_of (a + 5 + length q) (take k qs))) (shift h b q (frames qs) rest)
    ∙ frames_from qs k (h ++ (1 ∷ (b ++ q))) rest (a + 5 + length q) long (omega (arith, le))

-- the records from a number on: that one first
pub from_number : (ps : List (List ℕ)) (k : ℕ) → k < length ps → (p : List ℕ) × (qs : List (List ℕ)) × (slice_get ps k ≡ Some p) × (drop k ps ≡ p ∷ qs)
from_number [] k lt = absurd (omega (arith, lt))
from_number (p ∷ ps) zero lt = (p, ps, refl, refl)
from_number (p ∷ ps) (suc k) lt = from_number ps k (omega (arith, lt))

pub drop_all : (ps : List (List ℕ)) (k : ℕ) → k ≡ length ps → drop k ps ≡ []
drop_all [] zero is = refl
drop_all [] (suc k) is = absurd (omega (arith, is))
drop_all (p ∷ ps) zero is = absurd (omega (arith, is))
drop_all (p ∷ ps) (suc k) is = drop_all ps k (omega (arith, is))

pub get_front : (ps qs : List (List ℕ)) (k : ℕ) → k < length ps → slice_get (ps ++ qs) k ≡ slice_get ps k
get_front [] qs k lt = absurd (omega (arith, lt))
get_front (p ∷ ps) qs zero lt = refl
get_front (p ∷ ps) qs (suc k) lt = get_front ps qs k (omega (arith, lt))

pub end_after : (a : ℕ) (ps : List (List ℕ)) (k : ℕ) (p : List ℕ) → slice_get ps k ≡ Some p → end_of a (take (k + 1) ps) ≡ end_of a (take k ps) + 5 + length p
end_after a [] k p is = absurd cc
end_after a (q ∷ ps) zero p is = let e : q ≡ p = cc in ap (λ (x : List ℕ). a + 5 + length x) e
end_after a (q ∷ ps) (suc k) p is =
    ap (λ (n : ℕ). end_of a (take n (q ∷ ps))) (one_on k) ∙ end_after (a + 5 + length q) ps k p is
  where
    one_on : (n : ℕ) → suc n + 1 ≡ suc (n + 1)
    one_on n = omega arith

pub longer : (old new : List (List ℕ)) (n : ℕ) → IsGrown old new → n ≤ length old → n ≤ length new
longer old new n grown le = omega (arith, le, ap length grown.is, length-append old grown.more)

pub end_is_after : (a : ℕ) (ps : List (List ℕ)) → end_of a ps ≡ a + length (frames ps)
end_is_after a [] = omega arith
end_is_after a (p ∷ ps) =
    omega (arith, end_is_after (a + 5 + length p) ps, length-append (to_be_bytes w32 (length p) ++ p) (frames ps), length-append (to_be_bytes w32 (length p)) p)

pub end_of-append : (a : ℕ) (ps qs : List (List ℕ)) → end_of a (ps ++ qs) ≡ end_of (end_of a ps) qs
end_of-append a [] qs = refl
end_of-append a (p ∷ ps) qs = end_of-append (a + 5 + length p) ps qs

pub frames-append : (ps qs : List (List ℕ)) → frames (ps ++ qs) ≡ frames ps ++ frames qs
frames-append [] qs = refl
frames-append (p ∷ ps) qs =
    ap (λ (l : List ℕ). 1 ∷ l)
    (ap (λ (l : List ℕ). to_be_bytes w32 (length p) ++ p ++ l) (frames-append ps qs)
    ∙ sym (append_assoc (to_be_bytes w32 (length p) ++ p) (frames ps) (frames qs)))

pub some_of : (o : Option ℕ) → is_some o ≡ true → (x : ℕ) × (o ≡ Some x)
some_of (Some x) is = (x, refl)
some_of None is = absurd cc

pub some_not : (o : Option ℕ) → is_some o ≡ true → o ≡ None → ⊥
some_not (Some x) is none = absurd cc
some_not None is none = absurd cc

pub none_of : (o : Option ℕ) → is_some o ≡ false → o ≡ None
none_of (Some x) is = absurd cc
none_of None is = refl

-- a gate stays where it is while records are added
pub gate_stays : (moved : Option (List (List ℕ))) (old new : List (List ℕ)) (number at : ℕ) → IsGrown old new → IsGateOf moved old number at → IsGateOf moved new number at
gate_stays moved old new number at grown gate = record {
  some = omega (arith, gate.some, ap length grown.is, length-append old grown.more);
  place = gate.place ∙ ap (end_of (first_of moved)) (sym (take-append-le number old grown.more gate.some) ∙ ap (take number) (sym grown.is));
  sure = ⊎_elim (λ none. inl none) (λ some. inr (longer old new 1 grown some)) gate.sure;
}

-- the same, where the old payloads are the same
pub gate_on : (was moved : Option (List (List ℕ))) (old new : List (List ℕ)) (number at : ℕ) → moved ≡ was → IsGrown old new → IsGateOf was old number at → IsGateOf moved new number at
gate_on was moved old new number at same grown gate = subst (λ (m : Option (List (List ℕ))). IsGateOf m new number at) (sym same) (gate_stays was old new number at grown gate)

-- the gate after a record
pub gate_after : (moved : Option (List (List ℕ))) (settled : List (List ℕ)) (number at : ℕ) (p : List ℕ) → IsGateOf moved settled number at → slice_get settled number ≡ Some p
    → IsGateOf moved settled (number + 1) (at + (5 + length p))
gate_after moved settled number at p gate is = record {
  some = (let lt = slice_get_within settled number p is in omega (arith, lt));
  place = (let e : at + (5 + length p) ≡ end_of (first_of moved) (take number settled) + 5 + length p = omega (arith, gate.place) in e ∙ sym (end_after (first_of moved) settled number p is));
  sure = gate.sure;
}
