-- What a follower keeps while records are taken.
use Rattle.std.proofs.Common.{◌≡◌, ◌⊎◌, inl, inr, ℕ, ◌+◌, Bool, true, false, List, [], ◌∷◌, ◌++◌, length, map, Option, Some, None, IsTrue, if◌then◌else◌, refl, sym, ap, ◌∙◌, subst, arith, length-append, append_assoc}
use Rattle.std.specs.Prelude.{unwrap_or}
use Rattle.std.specs.List.{AllByRecursion}
use Rattle.std.proofs.lemmas.List.{append-nil, map-append, append_cancel_left, length-map}
use Rattle.history_model.specs.declared.entry.Entry.{Entry}
use Rattle.history_model.specs.Judging.{Record, entries_of}
use Rattle.exam_records.specs.Shape.{IsRecord}
use Rattle.exam_records.specs.Spelling.{payload_of}
use Rattle.answer_journal.specs.Journal.{JournalState, tells_of, payloads_of}
use Rattle.answer_journal.specs.Payload.{end_of}
use Rattle.answer_journal.specs.Versions.{Counted, contents, counted_in, second}
use Rattle.exam_office.specs.declared.mark.Mark.{Mark}
use Rattle.exam_office.specs.declared.mark.Mark.TheVariants.{Old, Opened, Adopted}
use Rattle.exam_office.specs.Files.{IsRecordIn, Stands, payload_in}
use Rattle.exam_office.specs.Marks.{history, reach}
use Rattle.exam_office.specs.Payloads.{IsResolved, dropped as resolved_dropped, kept as resolved_kept}
use Rattle.exam_office.specs.Running.{Running}
use Rattle.exam_office.specs.Writing.{IsMended, sure, dropped, kept}
use Rattle.exam_follower.specs.Followers.{FollowerState, found, opened_size, bare, found_payloads, records_of, AreSpelled, IsSureOrNot, IsFollower}
use Rattle.exam_follower.proofs.Marked.{found-opened, size-opened, end-push, all-push, if_so}

-- ---- how many
found_count_by : {D : Type 0} (o : Running D) (t : Bool) → tells_of o.journal ≡ t → (IsTrue (tells_of o.journal) → AreSpelled (found_payloads o) (found o.marks)) → length (found_payloads o) ≡ length (found o.marks)
found_count_by o true is spelled =
    let s = spelled is in
    ap (λ (ps : List (List ℕ)). length ps) s.payloads ∙ (length-map s.records payload_of ∙ (sym (length-map s.records (λ (r : Record). r.entry)) ∙ ap (λ (H : List Entry). length H) s.entries))
found_count_by o false is spelled =
    ap (λ (t : Bool). length (if t then (counted_in o.opened.content).payloads else map bare (found o.marks))) is ∙ length-map (found o.marks) bare

pub found_count : {D : Type 0} (f : FollowerState D) → IsFollower f → length (found_payloads f.office) ≡ length (found f.office.marks)
found_count f is = found_count_by f.office (tells_of f.office.journal) refl is.first

pub count_is : {D : Type 0} (f : FollowerState D) → IsFollower f → length (records_of f) ≡ length (history f.office.marks)
count_is f is =
    let a = length-append (found_payloads f.office) (map payload_of f.taken) in
    let b = length-map f.taken payload_of in
    let c = found_count f is in
    let d = ap (λ (H : List Entry). length H) is.entries in
    let e = length-append (found f.office.marks) (entries_of f.taken) in
    let g = length-map f.taken (λ (r : Record). r.entry) in
    omega (arith, a, b, c, d, e, g)

-- records that have a spelling in a version have one
spelled_each : (version : ℕ) (R : List Record) → AllByRecursion (IsRecordIn version) R → AllByRecursion IsRecord R
spelled_each version [] all = tt
spelled_each version (r ∷ R) all = (all.0.is_record, spelled_each version R all.1)

-- ---- a follower just opened
module _ {D : Type 0} (o : Running D) (marks_are : o.marks ≡ map Old (history o.marks) ++ Opened (reach o.marks) ∷ []) (sure_is : o.doubt ≡ None) (holds : IsTrue (tells_of o.journal) → contents o.opened.content ≡ Some (second (payloads_of o.journal)))
    (stands : IsTrue (tells_of o.journal) → Stands o.bank o.plan (history o.marks) o.opened.content) where
  found_all : found o.marks ≡ history o.marks
  found_all = ap found marks_are ∙ found-opened (history o.marks) (reach o.marks)

  size_all : opened_size o.marks ≡ reach o.marks
  size_all = ap opened_size marks_are ∙ size-opened (history o.marks) (reach o.marks)

  pub first_is : IsTrue (tells_of o.journal) → found_payloads o ≡ payloads_of o.journal
  first_is told =
      if_so (tells_of o.journal) (counted_in o.opened.content).payloads (map bare (found o.marks)) told
      ∙ ap (λ (c : Option Counted). (unwrap_or c (second [])).payloads) (holds told)

  spelled : IsTrue (tells_of o.journal) → AreSpelled (found_payloads o) (found o.marks)
  spelled told =
      let s = stands told in
      let both : Some (record { version = s.version; payloads = map (payload_in o.bank o.plan s.version) s.records }) ≡ Some (second (payloads_of o.journal)) = sym s.holds ∙ holds told in
      let two : s.version ≡ 2 = ap (λ (c : Option Counted). (unwrap_or c (second [])).version) both in
      let ps : map (payload_in o.bank o.plan s.version) s.records ≡ payloads_of o.journal = ap (λ (c : Option Counted). (unwrap_or c (second [])).payloads) both in
      record {
        records = s.records;
        spell = spelled_each s.version s.records s.are.spell;
        payloads = first_is told ∙ sym (subst (λ (v : ℕ). map (payload_in o.bank o.plan v) s.records ≡ payloads_of o.journal) two ps);
        entries = s.are.entries ∙ sym found_all;
      }

  pub opened_follower : IsFollower (record { office = o; taken = []; doubt = None })
  opened_follower = record {
    spell = tt;
    entries = sym found_all ∙ sym (append-nil (found o.marks));
    size = sym size_all;
    first = spelled;
    sure = (sure_is, λ told. sym (first_is told) ∙ sym (append-nil (found_payloads o)));
  }

-- ---- the office went on
module _ {D : Type 0} (f : FollowerState D) (is : IsFollower f) (o : Running D) (tells_same : tells_of o.journal ≡ tells_of f.office.journal) (opened_same : o.opened ≡ f.office.opened) (found_same : found o.marks ≡ found f.office.marks)
    (size_same : opened_size o.marks ≡ opened_size f.office.marks) where
  pub first_same : found_payloads o ≡ found_payloads f.office
  first_same = rw (tells_same, opened_same, found_same) refl

  first_still : IsTrue (tells_of o.journal) → AreSpelled (found_payloads o) (found o.marks)
  first_still told =
      let s = is.first (sym tells_same ∙ told) in
      record { records = s.records; spell = s.spell; payloads = first_same ∙ s.payloads; entries = s.entries ∙ sym found_same }

  -- its records, with the same ones taken
  pub records_same : (d : Option Record) → records_of (record { office = o; taken = f.taken; doubt = d }) ≡ records_of f
  records_same d = ap (λ (ps : List (List ℕ)). ps ++ map payload_of f.taken) first_same

  -- with one more
  pub records_more : (r : Record) (d : Option Record) → records_of (record { office = o; taken = f.taken ++ r ∷ []; doubt = d }) ≡ records_of f ++ payload_of r ∷ []
  records_more r d =
      ap (λ (ps : List (List ℕ)). found_payloads o ++ ps) (map-append payload_of f.taken (r ∷ []))
      ∙ (sym (append_assoc (found_payloads o) (map payload_of f.taken) (payload_of r ∷ []))
      ∙ ap (λ (ps : List (List ℕ)). (ps ++ map payload_of f.taken) ++ payload_of r ∷ []) first_same)

  -- nothing was taken
  pub stays_follower : history o.marks ≡ history f.office.marks → reach o.marks ≡ reach f.office.marks → (d : Option Record)
      → IsSureOrNot o (records_of (record { office = o; taken = f.taken; doubt = d })) d → IsFollower (record { office = o; taken = f.taken; doubt = d })
  stays_follower entries_same reach_same d sure_now = record {
    spell = is.spell;
    entries = entries_same ∙ (is.entries ∙ ap (λ (H : List Entry). H ++ entries_of f.taken) (sym found_same));
    size = reach_same ∙ (is.size ∙ ap (λ (n : ℕ). end_of n (map payload_of f.taken)) (sym size_same));
    first = first_still;
    sure = sure_now;
  }

  -- a record was taken
  pub takes_follower : (r : Record) → IsRecord r → history o.marks ≡ history f.office.marks ++ r.entry ∷ [] → reach o.marks ≡ reach f.office.marks + 5 + length (payload_of r)
      → o.doubt ≡ None → (IsTrue (tells_of o.journal) → payloads_of o.journal ≡ records_of f ++ payload_of r ∷ [])
      → IsFollower (record { office = o; taken = f.taken ++ r ∷ []; doubt = None })
  takes_follower r spells entries_more reach_more none holds = record {
    spell = all-push IsRecord f.taken r is.spell spells;
    entries =
        entries_more ∙ (ap (λ (H : List Entry). H ++ r.entry ∷ []) is.entries
        ∙ (append_assoc (found f.office.marks) (entries_of f.taken) (r.entry ∷ [])
        ∙ (ap (λ (H : List Entry). found f.office.marks ++ H) (sym (map-append (λ (x : Record). x.entry) f.taken (r ∷ [])))
        ∙ ap (λ (H : List Entry). H ++ entries_of (f.taken ++ r ∷ [])) (sym found_same))));
    size =
        reach_more ∙ (ap (λ (n : ℕ). n + 5 + length (payload_of r)) is.size
        ∙ (sym (end-push (opened_size f.office.marks) (map payload_of f.taken) (payload_of r))
        ∙ (ap (λ (ps : List (List ℕ)). end_of (opened_size f.office.marks) ps) (sym (map-append payload_of f.taken (r ∷ [])))
        ∙ ap (λ (n : ℕ). end_of n (map payload_of (f.taken ++ r ∷ []))) (sym size_same))));
    first = first_still;
    sure = (none, λ told. holds told ∙ sym (records_more r None));
  }

-- ---- the record in doubt
-- nothing was in doubt
pub mended_none : (M : List Mark) (d : Option Entry) (N : List Mark) → IsMended M d N → d ≡ None → N ≡ M
mended_none M _ _ sure e = refl
mended_none M _ _ (dropped entry) e = refl
mended_none M _ _ (kept entry size) e = absurd (cc)

-- one more is not the same
not_more : (M : List Mark) (m : Mark) → M ≡ M ++ m ∷ [] → ⊥
not_more M m e =
    let n = ap (λ (l : List Mark). length l) e in
    let k = length-append M (m ∷ []) in
    omega (arith, n, k)

adopted_entry : (e g : Entry) (n k : ℕ) → Adopted e n ∷ [] ≡ Adopted g k ∷ [] → e ≡ g
adopted_entry e g n k same = cc

kept_entry : (M : List Mark) (d : Option Entry) (N : List Mark) → IsMended M d N → (entry : Entry) → d ≡ Some entry → (e : Entry) (n : ℕ) → N ≡ M ++ Adopted e n ∷ [] → e ≡ entry
kept_entry M _ _ sure entry is e n same = absurd (cc)
kept_entry M _ _ (dropped g) entry is e n same = absurd (not_more M (Adopted e n) same)
kept_entry M _ _ (kept g size) entry is e n same =
    let one : Adopted g size ∷ [] ≡ Adopted e n ∷ [] = append_cancel_left M (Adopted g size ∷ []) (Adopted e n ∷ []) same in
    let first : g ≡ entry = cc in
    sym (adopted_entry g e size n one) ∙ first

-- what became of it: the marks are the same, or one more with its entry
pub record IsKeptThen {D : Type 0} (M : List Mark) (ps : List (List ℕ)) (payload : List ℕ) (entry : Entry) (j : JournalState D) (N : List Mark) : Type 0 where
  pub size : ℕ
  pub size_is : size ≡ reach M + 5 + length payload
  pub marks : N ≡ M ++ Adopted entry size ∷ []
  pub holds : IsTrue (tells_of j) → payloads_of j ≡ ps ++ payload ∷ []

pub resolved_so : {D : Type 0} (M : List Mark) (ps : List (List ℕ)) (payload : List ℕ) (j : JournalState D) (N : List Mark) → IsResolved M ps payload j N → (d : Option Entry) → IsMended M d N → (entry : Entry) → d ≡ Some entry
    → ((N ≡ M) × (IsTrue (tells_of j) → payloads_of j ≡ ps)) ⊎ IsKeptThen M ps payload entry j N
resolved_so M ps payload j _ (resolved_dropped holds) d mended entry is = inl (refl, holds)
resolved_so M ps payload j _ (resolved_kept e holds) d mended entry is =
    let same : e ≡ entry = kept_entry M d (M ++ Adopted e (reach M + 5 + length payload) ∷ []) mended entry is e (reach M + 5 + length payload) refl in
    inr (record {
      size = reach M + 5 + length payload;
      size_is = refl;
      marks = ap (λ (x : Entry). M ++ Adopted x (reach M + 5 + length payload) ∷ []) same;
      holds = holds;
    })
