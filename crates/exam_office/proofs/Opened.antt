-- An office just opened.
use Rattle.std.proofs.Common.{◌≡◌, ◌≢◌, ◌⊎◌, inl, inr, ℕ, ◌+◌, ◌≤◌, Bool, true, false, List, [], ◌∷◌, ◌++◌, length, map, drop, Option, Some, None, IsTrue, refl, sym, ap, ◌∙◌, subst, arith, take-append-drop, append_assoc}
use Rattle.std.specs.Prelude.{count_by, unwrap_or}
use Rattle.std.proofs.lemmas.List.{map-append, append-nil}
use Rattle.std.proofs.lemmas.List.Elements.{filter_map-append}
use Rattle.bank_tables.specs.Items.{has}
use Rattle.bank_tables.specs.Tables.{Tables}
use Rattle.form_model.specs.Plan.{Plan}
use Rattle.form_model.specs.Forms.{Meets}
use Rattle.exam_edge.specs.Images.{Account, AllImages, AtEachMoment, IsImage, latest}
use Rattle.exam_edge.specs.ImageLaws.{joined, weaker, at_end}
use Rattle.history_model.specs.declared.entry.Entry.{Entry}
use Rattle.history_model.specs.Judging.{empty}
use Rattle.exam_session.specs.Ledgers.{Ledger}
use Rattle.answer_journal.specs.Journal.{JournalState, length_of, limit_of, start_of, tells_of, accounts_of, payloads_of, IsReady, faults_of}
use Rattle.answer_journal.specs.OpenFault.{first_fault, fault_in}
use Rattle.answer_journal.specs.Standing.{IsImageOrHolds}
use Rattle.answer_journal.specs.Versions.{Counted, contents, counted_in, second}
use Rattle.answer_journal.specs.declared.open_fault.OpenFault.TheVariants.{TooLong}
use Rattle.std.proofs.lemmas.Bool.{ltb-false}
use Rattle.std.specs.Prelude.{nat_lt}
use Rattle.answer_journal.specs.Payload.{end_of}
use Rattle.answer_journal.specs.Opening.{PutsTailAside, tail_gates}
use Rattle.answer_journal.specs.Walk.{first_gate, first_payloads}
use Rattle.exam_office.specs.declared.mark.Mark.{Mark}
use Rattle.exam_office.specs.declared.mark.Mark.TheVariants.{Old, Opened}
use Rattle.exam_office.specs.declared.fault.OpenFault.{OpenFault}
use Rattle.exam_office.specs.declared.fault.OpenFault.TheVariants.{Journal as OfJournal, Version, BadRecord, BadTree, Illegal, Disk, Memory}
use Rattle.exam_office.specs.Files.{payload_in, AreRecordsOf, Stands, StandsSecond}
use Rattle.exam_office.specs.Marks.{entry_of, history, reach, is_fault, AreMarks, opened}
use Rattle.exam_office.specs.Keeping.{IsSure, IsKept}
use Rattle.exam_office.specs.Moments.{AreMoments, AreOpeningMoments, opening}
use Rattle.exam_office.specs.Running.{HandedDisk}
use Rattle.exam_office.specs.Opening.{IsTaken, AreTaken, IsNotTaken, IsRefusedFile, IsReadAnswer, IsOpenAnswer}
use Rattle.exam_office.specs.declared.vectors.Vectors.{Vectors}
use Rattle.exam_office.specs.KeptVectors.{HasRoom, AreKeptVectors, AreOf, IsTakenWith, AreTakenWith}
use Rattle.exam_office.proofs.Records.{are_more_in, stands_by}
use Rattle.exam_office.proofs.Marking.{reach-push, faults-push}

-- these payloads of this version
abbrev counted : ℕ → List (List ℕ) → Counted
counted version ps = record { version = version; payloads = ps }

counted_is : (c : Counted) (version : ℕ) (ps : List (List ℕ)) → c.version ≡ version → c.payloads ≡ ps → c ≡ record { version = version; payloads = ps }
counted_is c version ps v p = ap (λ (k : ℕ). counted k c.payloads) v ∙ ap (counted version) p

-- ---- payload by payload
pub end-push : (a : ℕ) (ps : List (List ℕ)) (p : List ℕ) → end_of a (ps ++ p ∷ []) ≡ end_of a ps + 5 + length p
end-push a [] p = refl
end-push a (q ∷ ps) p = end-push (a + 5 + length q) ps p

pub read_answer : (b : Tables) (plan : Plan) (file : List ℕ) (fault : OpenFault) → IsRefusedFile b plan file fault → IsReadAnswer b plan file fault
read_answer b plan file (OfJournal fault) refused = absurd refused.refused
read_answer b plan file Version refused = absurd refused.refused
read_answer b plan file (BadRecord at fault) refused = refused
read_answer b plan file (BadTree at) refused = refused
read_answer b plan file (Illegal at reason) refused = refused
read_answer b plan file Disk refused = tt
read_answer b plan file Memory refused = tt

-- what reading a file answers is what opening answers, where its records are of the second version
pub open_answer : (b : Tables) (plan : Plan) (file : List ℕ) (fault : OpenFault) → (counted_in file).version ≡ 2 → IsReadAnswer b plan file fault → IsOpenAnswer b plan file fault
open_answer b plan file (OfJournal fault) second why = why
open_answer b plan file Version second why = absurd why
open_answer b plan file (BadRecord at fault) second why = record { second = second; refused = why }
open_answer b plan file (BadTree at) second why = record { second = second; refused = why }
open_answer b plan file (Illegal at reason) second why = record { second = second; refused = why }
open_answer b plan file Disk second why = tt
open_answer b plan file Memory second why = tt

module _ (b : Tables) (plan : Plan) (version start : ℕ) (tells : Bool) (file : List ℕ) where
  unfoldable pub none_taken : (H : List Entry) (given at : ℕ) → H ≡ [] → given ≡ 0 → at ≡ start → AreTaken b plan version start tells file given at H
  none_taken H given at no_entry none first = record {
    records = [];
    are = record { spell = tt; backed = empty; entries = sym no_entry };
    bytes = λ told. ap (λ (k : ℕ). first_payloads k file) (sym none);
    place = λ told. first;
  }

  pub none_with : (H : List Entry) (given at : ℕ) (vectors : Option Vectors) → H ≡ [] → given ≡ 0 → at ≡ start → AreOf b plan [] vectors → AreTakenWith b plan version start tells file given at H vectors
  unfolding none_taken
  none_with H given at vectors no_entry none first cold = record { taken = none_taken H given at no_entry none first; vectors_are = cold }

  module _ (H : List Entry) (given at : ℕ) (so_far : AreTaken b plan version start tells file given at H) where
    -- the payload is taken
    unfoldable pub taken_more : (p : List ℕ) (given1 at1 : ℕ) → at1 ≡ at + 5 + length p → (IsTrue tells → first_payloads given1 file ≡ first_payloads given file ++ p ∷ []) → (entry : Entry) → IsTaken b plan version H p entry → AreTaken b plan version start tells file given1 at1 (H ++ entry ∷ [])
    taken_more p given1 at1 at_is more entry one =
        let now : map (payload_in b plan version) (so_far.records ++ one.last ∷ []) ≡ map (payload_in b plan version) so_far.records ++ p ∷ [] =
        map-append (payload_in b plan version) so_far.records (one.last ∷ []) ∙ ap (λ (q : List ℕ). map (payload_in b plan version) so_far.records ++ q ∷ []) one.spelling in
        record {
          records = so_far.records ++ one.last ∷ [];
          are = subst (λ (e : Entry). AreRecordsOf b plan version (H ++ e ∷ []) (so_far.records ++ one.last ∷ [])) one.is_entry (are_more_in b plan H version so_far.records so_far.are one.last (record { is_record = one.spells; unlisted = one.unlisted }) one.may);
          bytes = λ told. now ∙ (ap (λ (ps : List (List ℕ)). ps ++ p ∷ []) (so_far.bytes told) ∙ sym (more told));
          place = λ told. at_is ∙ (ap (λ (k : ℕ). k + 5 + length p) (so_far.place told) ∙ (sym (end-push start (map (payload_in b plan version) so_far.records) p) ∙ ap (end_of start) (sym now)));
        }

    -- the payload is refused
    pub refused_here : IsTrue tells → start ≡ first_gate file → version ≡ (counted_in file).version → contents file ≡ Some (counted_in file) → (p : List ℕ) → first_payloads (given + 1) file ≡ first_payloads given file ++ p ∷ [] → (fault : OpenFault) → IsNotTaken b plan version H at p fault → IsReadAnswer b plan file fault
    refused_here told first version_is gives p more fault why =
        let ps = (counted_in file).payloads in
        let R = so_far.records in
        let split : ps ≡ map (payload_in b plan version) R ++ p ∷ drop (given + 1) ps =
        sym (take-append-drop (given + 1) ps)
        ∙ (ap (λ (qs : List (List ℕ)). qs ++ drop (given + 1) ps) (more ∙ ap (λ (qs : List (List ℕ)). qs ++ p ∷ []) (sym (so_far.bytes told)))
        ∙ append_assoc (map (payload_in b plan version) R) (p ∷ []) (drop (given + 1) ps)) in
        read_answer b plan file fault (record {
          H = H;
          records = R;
          are = so_far.are;
          version = version;
          first = p;
          rest = drop (given + 1) ps;
          gives = gives ∙ ap Some (counted_is (counted_in file) version (map (payload_in b plan version) R ++ p ∷ drop (given + 1) ps) (sym version_is) split);
          refused =
              subst (λ (k : ℕ). IsNotTaken b plan version H (end_of k (map (payload_in b plan version) R)) p fault) first
              (subst (λ (k : ℕ). IsNotTaken b plan version H k p fault) (so_far.place told) why);
        })

    -- all payloads were taken
    pub all_taken : IsTrue tells → first_payloads given file ≡ (counted_in file).payloads → map (payload_in b plan version) so_far.records ≡ (counted_in file).payloads
    all_taken told all = so_far.bytes told ∙ all

    pub stood : IsTrue tells → version ≡ (counted_in file).version → contents file ≡ Some (counted_in file) → first_payloads given file ≡ (counted_in file).payloads → Stands b plan H file
    stood told version_is gives all =
        stands_by b plan H version so_far.records so_far.are file
        (gives ∙ ap Some (counted_is (counted_in file) version (map (payload_in b plan version) so_far.records) (sym version_is) (sym (all_taken told all))))

    -- the same with what its record gives
    pub taken_with_more : (before after : Option Vectors) → AreOf b plan so_far.records before
        → (p : List ℕ) (given1 at1 : ℕ) → at1 ≡ at + 5 + length p → (IsTrue tells → first_payloads given1 file ≡ first_payloads given file ++ p ∷ []) → (entry : Entry) → IsTakenWith b plan version H p entry before after
        → AreTakenWith b plan version start tells file given1 at1 (H ++ entry ∷ []) after
    unfolding taken_more
    taken_with_more before after vectors_are p given1 at1 at_is more entry one =
        record { taken = taken_more p given1 at1 at_is more entry one.taken; vectors_are = one.vectors_are so_far.records vectors_are }

-- ---- the marks
history-old : (H : List Entry) → history (map Old H) ≡ H
history-old [] = refl
history-old (e ∷ H) = ap (λ (G : List Entry). e ∷ G) (history-old H)

pub history-opened : (H : List Entry) (size : ℕ) → history (map Old H ++ Opened size ∷ []) ≡ H
history-opened H size = filter_map-append entry_of (map Old H) (Opened size ∷ []) ∙ (append-nil (history (map Old H)) ∙ history-old H)

no_faults-old : (H : List Entry) → count_by is_fault (map Old H) ≡ 0
no_faults-old [] = refl
no_faults-old (e ∷ H) = omega (arith, no_faults-old H)

no_faults-opened : (H : List Entry) (size : ℕ) → count_by is_fault (map Old H ++ Opened size ∷ []) ≡ 0
no_faults-opened H size = omega (arith, faults-push (map Old H) (Opened size), no_faults-old H)

module _ (marks : List Mark) (H : List Entry) (size : ℕ) (is : marks ≡ map Old H ++ Opened size ∷ []) where
  pub history_is : history marks ≡ H
  history_is = ap history is ∙ history-opened H size

  pub reach_is : reach marks ≡ size
  reach_is = ap reach is ∙ reach-push (map Old H) (Opened size)

  pub marks_told : marks ≡ map Old (history marks) ++ Opened (reach marks) ∷ []
  marks_told = is ∙ (ap (λ (G : List Entry). map Old G ++ Opened size ∷ []) (sym history_is) ∙ ap (λ (n : ℕ). map Old (history marks) ++ Opened n ∷ []) (sym reach_is))

  pub kept_open : {D : Type 0} (b : Tables) (plan : Plan) (base : List ℕ) (was : HandedDisk) (book : Ledger) (j : JournalState D) (file : List ℕ) (start given at : ℕ) → AreTaken b plan 2 start (tells_of j) file given at H
      → book.bank ≡ b → book.plan ≡ plan → book.entries ≡ H → IsReady j → limit_of j ≡ plan.journal → (IsTrue (tells_of j) → start_of j ≡ first_gate was.content) → length_of j ≡ size
      → (IsTrue (tells_of j) → payloads_of j ≡ first_payloads given file) → was.faults ≤ faults_of j → Meets b plan (has base)
      → (IsTrue (tells_of j) → AreOpeningMoments b plan H (latest was.accounts) was.accounts (accounts_of j))
      → IsKept b plan base book j marks None was
  kept_open b plan base was book j file start given at taken bank plan_is entries ready limit start_is size_is keeps grows base_is moments = record {
    bank = bank;
    plan_is = plan_is;
    entries = entries ∙ sym history_is;
    size = size_is ∙ sym reach_is;
    limit = limit;
    start = start_is;
    marks_are = subst AreMarks (sym is) (opened H size);
    counted = let none : count_by is_fault marks ≡ 0 = ap (count_by is_fault) is ∙ no_faults-opened H size in omega arith;
    grows = grows;
    backed = subst (λ (G : List Entry). IsSure b plan G j) (sym history_is) (record { records = taken.records; are = taken.are; ready = ready; holds = λ told. keeps told ∙ sym (taken.bytes told) });
    base_is = base_is;
    moments = λ told. subst (λ (ms : List Mark). AreMoments b plan was.accounts ms (accounts_of j)) (sym is) (opening H size (accounts_of j) (moments told));
  }

  pub vectors_open : {D : Type 0} (b : Tables) (plan : Plan) (j : JournalState D) (file : List ℕ) (start given at : ℕ) (v : Vectors) → AreTakenWith b plan 2 start (tells_of j) file given at H (Some v)
      → (IsTrue (tells_of j) → payloads_of j ≡ first_payloads given file) → AreKeptVectors b plan (history marks) j None v.each.items v.doubt
  vectors_open b plan j file start given at v taken keeps =
      subst (λ (G : List Entry). AreKeptVectors b plan G j None v.each.items v.doubt) (sym history_is) (record {
        records = taken.taken.records;
        are = taken.taken.are;
        last = None;
        holds = λ told. keeps told ∙ sym (taken.taken.bytes told);
        each_is = taken.vectors_are.0;
        new_is = taken.vectors_are.1;
        room = subst (HasRoom v.each.items) (sym taken.vectors_are.1) tt;
      })

-- ---- the version
pub second_version : (found version : ℕ) → found ≡ version → (found ≡ 1) ⊎ (found ≡ 2) → found ≢ 1 → version ≡ 2
second_version found version is (inl one) not = absurd (not one)
second_version found version is (inr two) not = sym is ∙ two

-- ---- the file
-- a file with the same contents represents the same history
pub stands_too : (b : Tables) (plan : Plan) (H : List Entry) (one other : List ℕ) → Stands b plan H one → contents other ≡ contents one → Stands b plan H other
stands_too b plan H one other s e = record { records = s.records; are = s.are; version = s.version; holds = e ∙ s.holds }

-- while it is read, the file is as it was
pub stands_while_read : (b : Tables) (plan : Plan) (H : List Entry) (content : List ℕ) (old new : List Account) → Stands b plan H content → AtEachMoment old new (λ file. file ≡ content) → AtEachMoment old new (Stands b plan H)
stands_while_read b plan H content old new s moments = weaker (λ (file : List ℕ). file ≡ content) (Stands b plan H) (λ file e. subst (Stands b plan H) (sym e) s) old new moments

-- while it is finished, it has the same contents
pub stands_while_opened : (b : Tables) (plan : Plan) (H : List Entry) (content between : List ℕ) (a0 a1 a2 : List Account) → Stands b plan H content → AtEachMoment a0 a1 (λ file. file ≡ content) → between ≡ content → (AllImages (λ file. file ≡ between) (latest a1) → AtEachMoment a1 a2 (λ file. contents file ≡ contents between)) → AtEachMoment a0 a2 (Stands b plan H)
stands_while_opened b plan H content between a0 a1 a2 s reading same finishing =
    joined (Stands b plan H) a0 a1 a2 (stands_while_read b plan H content a0 a1 s reading)
    (weaker (λ (file : List ℕ). contents file ≡ contents between) (Stands b plan H) (λ file e. stands_too b plan H content file s (e ∙ ap contents same)) a1 a2
    (finishing (λ file i. at_end (λ f. f ≡ content) a0 a1 reading file i ∙ sym same)))

-- the version of the records of a file that represents a history
pub version_is : (b : Tables) (plan : Plan) (H : List Entry) (file : List ℕ) (s : Stands b plan H file) → s.version ≡ (counted_in file).version
version_is b plan H file s = sym (ap (λ (o : Option Counted). (unwrap_or o (second [])).version) s.holds)

pub stands_second : (b : Tables) (plan : Plan) (H : List Entry) (file : List ℕ) → (counted_in file).version ≡ 2 → Stands b plan H file → StandsSecond b plan H file
stands_second b plan H file two s = record { stands = s; second = version_is b plan H file s ∙ two }

-- a file with the same contents represents the same history by the same version
pub second_too : (b : Tables) (plan : Plan) (H : List Entry) (one other : List ℕ) → StandsSecond b plan H one → contents other ≡ contents one → StandsSecond b plan H other
second_too b plan H one other s e = record {
  stands = record { records = s.stands.records; are = s.stands.are; version = s.stands.version; holds = e ∙ s.stands.holds };
  second = s.second;
}

-- while it is read and finished, it has the same contents
pub second_while_opened : (b : Tables) (plan : Plan) (H : List Entry) (content between : List ℕ) (a0 a1 a2 : List Account) → StandsSecond b plan H content → AtEachMoment a0 a1 (λ file. file ≡ content) → between ≡ content → (AllImages (λ file. file ≡ between) (latest a1) → AtEachMoment a1 a2 (λ file. contents file ≡ contents between)) → AtEachMoment a0 a2 (StandsSecond b plan H)
second_while_opened b plan H content between a0 a1 a2 s reading same finishing =
    joined (StandsSecond b plan H) a0 a1 a2
    (weaker (λ (file : List ℕ). file ≡ content) (StandsSecond b plan H) (λ file e. subst (StandsSecond b plan H) (sym e) s) a0 a1 reading)
    (weaker (λ (file : List ℕ). contents file ≡ contents between) (StandsSecond b plan H) (λ file e. second_too b plan H content file s (e ∙ ap contents same)) a1 a2
    (finishing (λ file i. at_end (λ f. f ≡ content) a0 a1 reading file i ∙ sym same)))

-- while it is read and finished, a crash leaves what it might have left before, or the same
-- contents
pub while_opened : (P : List ℕ → Type 0) (content between : List ℕ) (a0 a1 a2 : List Account) → ((file : List ℕ) → contents file ≡ contents content → P file)
    → AtEachMoment a0 a1 (IsImage (latest a0)) → between ≡ content → AtEachMoment a1 a2 (IsImageOrHolds (latest a1) between) → AtEachMoment a0 a2 (λ file. IsImage (latest a0) file ⊎ P file)
while_opened P content between a0 a1 a2 so reading same finishing =
    let Q : List ℕ → Type 0 = λ (file : List ℕ). IsImage (latest a0) file ⊎ P file in
    joined Q a0 a1 a2 (weaker (IsImage (latest a0)) Q (λ file i. inl i) a0 a1 reading)
    (weaker (IsImageOrHolds (latest a1) between) Q
    (λ file here. elim here [ inl i ↦ inl (at_end (IsImage (latest a0)) a0 a1 reading file i) | inr e ↦ inr (so file (e ∙ ap contents same)) ]) a1 a2 finishing)

-- a file that represents a history is opened
pub opening_moments : (b : Tables) (plan : Plan) (H : List Entry) (content between : List ℕ) (a0 a1 a2 : List Account) → StandsSecond b plan H content
    → AtEachMoment a0 a1 (IsImage (latest a0)) → between ≡ content → AtEachMoment a1 a2 (IsImageOrHolds (latest a1) between)
    → AllImages (λ file. contents file ≡ contents between) (latest a2) → AreOpeningMoments b plan H (latest a0) a0 a2
opening_moments b plan H content between a0 a1 a2 s reading same finishing images = record {
  each = while_opened (StandsSecond b plan H) content between a0 a1 a2 (λ file. second_too b plan H content file s) reading same finishing;
  opened = λ file i. second_too b plan H content file s (images file i ∙ ap contents same);
}

-- a file was only read, and then finished in part: its tail was put aside first
pub aside_on : (before between now : List ℕ) (a0 a1 a2 : List Account) (x0 x1 x2 : List ℕ) → between ≡ before → AtEachMoment a0 a1 (IsImage (latest a0)) → x1 ≡ x0 → PutsTailAside between now a1 a2 x1 x2 → PutsTailAside before now a0 a2 x0 x2
aside_on before between now a0 a1 a2 x0 x1 x2 same reading kept (inl only) = inl (
  record {
    content = only.0.content ∙ same;
    moments = joined (IsImage (latest a0)) a0 a1 a2 reading (weaker (IsImage (latest a1)) (IsImage (latest a0)) (at_end (IsImage (latest a0)) a0 a1 reading) a1 a2 only.0.moments);
  },
  only.1 ∙ kept,
)
aside_on before between now a0 a1 a2 x0 x1 x2 same reading kept (inr cut) = inr (cut ∙ (ap (λ (x : List ℕ). x ++ tail_gates between) kept ∙ ap (λ (f : List ℕ). x0 ++ tail_gates f) same))

-- it was only read
pub aside_read : (before now : List ℕ) (a0 a1 : List Account) (x0 x1 : List ℕ) → now ≡ before → AtEachMoment a0 a1 (IsImage (latest a0)) → x1 ≡ x0 → PutsTailAside before now a0 a1 x0 x1
aside_read before now a0 a1 x0 x1 same reading kept = inl (record { content = same; moments = reading }, kept)

-- a journal over a file of the same content has the payloads that were taken
pub given_by : (file between : List ℕ) (ps : List (List ℕ)) (given : ℕ) → between ≡ file → contents between ≡ Some (second ps) → first_payloads given file ≡ (counted_in file).payloads → ps ≡ first_payloads given file
given_by file between ps given same keeps all =
    sym (ap (λ (o : Option Counted). (unwrap_or o (second [])).payloads) (ap contents (sym same) ∙ keeps)) ∙ sym all

-- a file that nothing is wrong with is within the limit
pub short_so : (limit : ℕ) (file : List ℕ) → fault_in limit file ≡ None → length file ≤ limit
unfolding first_fault
short_so limit file e = by (nat_lt limit (length file)) refl
  where
    by : (long : Bool) → nat_lt limit (length file) ≡ long → length file ≤ limit
    by false is = ltb-false limit (length file) is
    by true is = let none : Some (TooLong (length file)) ≡ None = rw is at e in cc
