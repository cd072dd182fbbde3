-- One record more of a journal that is moved.
use Rattle.std.proofs.Common.{◌≡◌, ℕ, ◌+◌, ◌≤◌, ◌<◌, List, [], ◌∷◌, ◌++◌, length, map, take, get_or, Option, Some, None, refl, sym, ◌∙◌, ap, subst, arith, append_assoc, length-append}
use Rattle.std.specs.List.{AllByRecursion}
use Rattle.std.proofs.lemmas.List.{map-append, append-nil, take_at, get_or_at}
use Rattle.bank_tables.specs.Tables.{Tables}
use Rattle.form_model.specs.Plan.{Plan}
use Rattle.serving_model.specs.Seats.{first_band}
use Rattle.exam_edge.specs.Images.{Account}
use Rattle.history_model.specs.declared.entry.Entry.{Entry}
use Rattle.history_model.specs.Judging.{Record, MayFollow, entries_of, Backed, more}
use Rattle.history_model.proofs.RunParts.{each_may_follow}
use Rattle.exam_records.specs.Spelling.{payload_of}
use Rattle.answer_journal.specs.Frames.{frames}
use Rattle.answer_journal.specs.Moving.{IsMovingWith}
use Rattle.answer_journal.specs.Payload.{end_of}
use Rattle.answer_journal.specs.Walk.{IsJust}
use Rattle.exam_office.specs.Files.{payload_in, IsRecordIn}
use Rattle.exam_office.specs.Migrating.{IsMovedUpTo, IsTakenOver, moved_file}
use Rattle.exam_office.proofs.Backing.{first_below, same_run}
use Rattle.exam_office.proofs.MigratingLengths.{end_at, end_more, frames_length, frames_one, gate_ends, is_before, moved_size}

all_before : (P : Record → Type 0) (R : List Record) (r : Record) (rest : List Record) → AllByRecursion P (R ++ r ∷ rest) → (x : Record) → P x → AllByRecursion P (R ++ x ∷ [])
all_before P [] r rest all x here = (here, tt)
all_before P (q ∷ R) r rest all x here = (all.0, all_before P R r rest all.1 x here)

one_of : (P : Record → Type 0) (R : List Record) (r : Record) (rest : List Record) → AllByRecursion P (R ++ r ∷ rest) → P r
one_of P [] r rest all = all.0
one_of P (q ∷ R) r rest all = one_of P R r rest all.1

last_same : (R : List Record) (r q : Record) → R ++ r ∷ [] ≡ R ++ q ∷ [] → r ≡ q
last_same [] r q e = cc
last_same (x ∷ R) r q e = let rest : R ++ r ∷ [] ≡ R ++ q ∷ [] = cc in last_same R r q rest

module _ (b : Tables) (plan : Plan) where
  low : (R done : List Record) (r : Record) (rest : List Record) → AllByRecursion (IsRecordIn 1) R → Backed b plan R → R ≡ done ++ r ∷ rest → first_band b plan < 8
  low [] [] r rest spells backed e = absurd (cc)
  low [] (q ∷ done) r rest spells backed e = absurd (cc)
  low (x ∷ R) done r rest spells backed e = first_below b plan x R spells.0.is_record backed

-- the next record that is to be moved
pub record IsNextMoved (b : Tables) (plan : Plan) (R done : List Record) (entries : List Entry) : Type 0 where
  pub next : Record
  pub after : List Record
  pub is : R ≡ done ++ next ∷ after
  pub low : first_band b plan < 8
  pub spells : IsRecordIn 1 next
  pub backed : Backed b plan done
  pub all_spell : AllByRecursion (IsRecordIn 1) (done ++ next ∷ [])
  pub may : MayFollow b plan entries next.entry next.tree
  pub payloads : map (payload_in b plan 1) R ≡ map (payload_in b plan 1) done ++ payload_in b plan 1 next ∷ map (payload_in b plan 1) after

module _ (b : Tables) (plan : Plan) (R done : List Record) (content waiting : List ℕ) (accounts : List Account) (gate end : ℕ) (entries : List Entry) (at : ℕ) (m : IsMovedUpTo b plan R done content waiting accounts gate end entries at) where
  ends : gate ≡ end_of 8 (map (payload_in b plan 1) R)
  ends = gate_ends (map (payload_in b plan 1) R) (map payload_of done) content waiting accounts gate end m.moving

  is_next : (r : Record) (rest : List Record) → R ≡ done ++ r ∷ rest → IsNextMoved b plan R done entries
  is_next r rest is =
      let spell : AllByRecursion (IsRecordIn 1) (done ++ r ∷ rest) = subst (AllByRecursion (IsRecordIn 1)) is m.are.spell in
      let so = each_may_follow b plan done r rest (subst (Backed b plan) is m.are.backed) in
      record {
        next = r;
        after = rest;
        is = is;
        low = low b plan R done r rest m.are.spell m.are.backed is;
        spells = one_of (IsRecordIn 1) done r rest spell;
        backed = so.0;
        all_spell = all_before (IsRecordIn 1) done r rest spell r (one_of (IsRecordIn 1) done r rest spell);
        may = subst (λ (G : List Entry). MayFollow b plan G r.entry r.tree) (sym m.entries_are) so.1;
        payloads = ap (map (payload_in b plan 1)) is ∙ map-append (payload_in b plan 1) done (r ∷ rest);
      }

  none_left : R ≡ done ++ [] → at ≡ gate
  none_left is =
      let all : R ≡ done = is ∙ append-nil done in
      m.place ∙ (ap (λ (Q : List Record). end_of 8 (map (payload_in b plan 1) Q)) (sym all) ∙ sym ends)

  next_by : (rest : List Record) → R ≡ done ++ rest → at < gate → IsNextMoved b plan R done entries
  next_by [] is before = absurd (omega (arith, none_left is, before))
  next_by (r ∷ rest) is before = is_next r rest is

  -- there is one, where the place is before the closed gate
  pub next_moved : at < gate → IsNextMoved b plan R done entries
  next_moved before = next_by m.rest m.all before

  all_by : (rest : List Record) → R ≡ done ++ rest → gate ≤ at → R ≡ done
  all_by [] is past = is ∙ append-nil done
  all_by (r ∷ rest) is past = absurd (omega (arith, is_before b plan R done r rest at gate is m.place ends, past))

  -- else all were moved
  pub all_moved : gate ≤ at → R ≡ done
  all_moved past = all_by m.rest m.all past

  module _ (n : IsNextMoved b plan R done entries) where
    -- the file with its record and the closed gate is within that of all records
    pub room_for_next : end + 6 + length (payload_of n.next) ≤ length (moved_file b plan R)
    room_for_next =
        let all : map payload_of R ≡ map payload_of done ++ payload_of n.next ∷ map payload_of n.after = ap (map payload_of) n.is ∙ map-append payload_of done (n.next ∷ n.after) in
        omega (
          arith,
          end_at (map (payload_in b plan 1) R) (map payload_of done) content waiting accounts gate end m.moving,
          moved_size b plan R,
          ap (λ (qs : List (List ℕ)). length (frames qs)) all,
          frames_length (map payload_of done) (payload_of n.next ∷ map payload_of n.after),
          frames_one (payload_of n.next) (map payload_of n.after),
        )

    -- the same at the present end of the file
    pub room_then : (second : List ℕ) (end1 limit limit1 : ℕ) → second ≡ payload_of n.next → end1 ≡ end → limit1 ≡ limit → length (moved_file b plan R) ≤ limit → end1 + 6 + length second ≤ limit1
    room_then second end1 limit limit1 is end_is limit_is short = omega (arith, room_for_next, ap length is, end_is, limit_is, short)

    module _ (now : List Entry) (second : List ℕ) (taken : IsTakenOver b plan entries (payload_in b plan 1 n.next) now second) where
      same_next : taken.last ≡ n.next
      same_next =
          let may : MayFollow b plan (entries_of done) taken.last.entry taken.last.tree = subst (λ (G : List Entry). MayFollow b plan G taken.last.entry taken.last.tree) m.entries_are taken.may in
          let may_next : MayFollow b plan (entries_of done) n.next.entry n.next.tree = subst (λ (G : List Entry). MayFollow b plan G n.next.entry n.next.tree) m.entries_are n.may in
          last_same done taken.last n.next
          (same_run b plan 1 (done ++ taken.last ∷ []) (done ++ n.next ∷ []) (more done taken.last n.backed may) (more done n.next n.backed may_next)
          (all_before (IsRecordIn 1) done n.next [] n.all_spell taken.last (record { is_record = taken.spells; unlisted = λ _. taken.unlisted })) n.all_spell
          (map-append (payload_in b plan 1) done (taken.last ∷ []) ∙ (ap (λ (p : List ℕ). map (payload_in b plan 1) done ++ p ∷ []) taken.spelling ∙ sym (map-append (payload_in b plan 1) done (n.next ∷ [])))))

      pub second_next : second ≡ payload_of n.next
      second_next = taken.second_is ∙ ap payload_of same_next

      -- the record is moved
      pub moved_more : (content1 waiting1 : List ℕ) (accounts1 : List Account) (gate1 end1 next : ℕ) → next ≡ at + 5 + length (payload_in b plan 1 n.next)
          → IsMovingWith (map (payload_in b plan 1) R) (map payload_of done ++ second ∷ []) content1 waiting1 accounts1 gate1 end1
          → IsMovedUpTo b plan R (done ++ n.next ∷ []) content1 waiting1 accounts1 gate1 end1 now next
      moved_more content1 waiting1 accounts1 gate1 end1 next next_is moving = record {
        H = m.H;
        are = m.are;
        rest = n.after;
        all = n.is ∙ sym (append_assoc done (n.next ∷ []) n.after);
        moving = subst (λ (qs : List (List ℕ)). IsMovingWith (map (payload_in b plan 1) R) qs content1 waiting1 accounts1 gate1 end1)
            (ap (λ (p : List ℕ). map payload_of done ++ p ∷ []) second_next ∙ sym (map-append payload_of done (n.next ∷ []))) moving;
        entries_are = taken.entries
            ∙ (ap (λ (G : List Entry). G ++ taken.last.entry ∷ []) m.entries_are
            ∙ (ap (λ (r : Record). entries_of done ++ r.entry ∷ []) same_next ∙ sym (map-append (λ (r : Record). r.entry) done (n.next ∷ []))));
        place = next_is
            ∙ (ap (λ (k : ℕ). k + 5 + length (payload_in b plan 1 n.next)) m.place
            ∙ (sym (end_more 8 (map (payload_in b plan 1) done) (payload_in b plan 1 n.next)) ∙ ap (end_of 8) (sym (map-append (payload_in b plan 1) done (n.next ∷ [])))));
      }

-- ---- the payload after a gate of the old records
pub just_this : {A : Type 0} (P : A → Type 0) (found : Option A) (x : A) → found ≡ Some x → IsJust found P → P x
just_this P (Some y) x e here = let same : y ≡ x = cc in subst P same here
just_this P None x e here = absurd here

pub just_one : {A : Type 0} (P : A → Type 0) (found : Option A) → found ≡ None → IsJust found P → ⊥
just_one P (Some y) e here = cc
just_one P None e here = here

module _ (before after : List (List ℕ)) (p : List ℕ) where
  pub old_within : length before < length (before ++ p ∷ after)
  old_within = omega (arith, length-append before (p ∷ after))

  pub old_place : (at : ℕ) → at ≡ end_of 8 before → at ≡ end_of 8 (take (length before) (before ++ p ∷ after))
  old_place at is = is ∙ ap (end_of 8) (sym (take_at before (p ∷ after) (length before) refl))

  pub old_payload : get_or (before ++ p ∷ after) (length before) [] ≡ p
  old_payload = get_or_at before p after [] (length before) refl

-- ---- the same of a book with the same bank and plan
module _ (b c : Tables) (plan plan1 : Plan) (bank : c ≡ b) (same : plan1 ≡ plan) where
  pub moved_by : (R done : List Record) (content waiting : List ℕ) (accounts : List Account) (gate end : ℕ) (entries : List Entry) (at : ℕ) → IsMovedUpTo b plan R done content waiting accounts gate end entries at → IsMovedUpTo c plan1 R done content waiting accounts gate end entries at
  moved_by R done content waiting accounts gate end entries at m =
      subst (λ (x : Tables). IsMovedUpTo x plan1 R done content waiting accounts gate end entries at) (sym bank)
      (subst (λ (x : Plan). IsMovedUpTo b x R done content waiting accounts gate end entries at) (sym same) m)

  pub old_by : (R : List Record) → map (payload_in c plan1 1) R ≡ map (payload_in b plan 1) R
  old_by R = ap (λ (x : Tables). map (payload_in x plan1 1) R) bank ∙ ap (λ (x : Plan). map (payload_in b x 1) R) same

  pub short_by : (R : List Record) (limit limit1 : ℕ) → limit1 ≡ limit → length (moved_file b plan R) ≤ limit → length (moved_file c plan1 R) ≤ limit1
  short_by R limit limit1 is short =
      subst (λ (n : ℕ). length (moved_file c plan1 R) ≤ n) (sym is)
      (subst (λ (x : Tables). length (moved_file x plan1 R) ≤ limit) (sym bank) (subst (λ (x : Plan). length (moved_file b x R) ≤ limit) (sym same) short))
