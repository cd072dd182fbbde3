-- What a call does where nothing is in doubt, and how the steps of a request go together.
use Rattle.std.proofs.Common.{◌≡◌, inl, inr, ℕ, ◌+◌, ◌≤◌, List, [], ◌∷◌, ◌++◌, length, Option, Some, None, IsTrue, refl, sym, ap, ◌∙◌, subst, arith, length-append}
use Rattle.bank_tables.specs.Tables.{Tables}
use Rattle.exam_edge.specs.Images.{AtEachMoment}
use Rattle.exam_edge.specs.ImageLaws.{weaker, joined, started, at_end}
use Rattle.exam_edge.specs.Lent.{IsLent}
use Rattle.form_model.specs.Plan.{Plan}
use Rattle.history_model.specs.declared.entry.Entry.{Entry}
use Rattle.history_model.specs.declared.refusal.Refusal.{Refusal}
use Rattle.history_model.specs.declared.refusal.Refusal.TheVariants.{NoSession, OtherBooking, WrongStep, Other, BadResponse, IsClosed, Stale, OtherList, NoItem, SessionsFull, NoForm, NoneFound, JournalFull, Disk, Memory}
use Rattle.history_model.specs.Judging.{MayFollow}
use Rattle.answer_journal.specs.Journal.{tells_of, accounts_of, faults_of, identity_of}
use Rattle.exam_office.specs.declared.mark.Mark.{Mark}
use Rattle.exam_office.specs.Asking.{IsStoppedBy, IsDurable, StandsForOne, Steps}
use Rattle.exam_office.specs.Calls.{Finding, refuse, nothing, add, IsHalted, IsLeft, Calls, unmended, refused, found, written, unwritten}
use Rattle.exam_records.specs.Spelling.{payload_of}
use Rattle.exam_office.specs.Files.{StandsSecond}
use Rattle.exam_office.specs.Marks.{history, reach}
use Rattle.exam_office.specs.Running.{Running}
use Rattle.exam_office.specs.Writing.{IsOneOf, as_before, with_doubt, IsMended, sure, dropped, kept, IsSameOffice, IsUnmended}
use Rattle.exam_office.proofs.Calling.{same_same}
use Rattle.exam_office.proofs.Marking.{history-own, history-fault}

-- ---- nothing is in doubt
pub mended_none : (M N : List Mark) (doubt : Option Entry) → IsMended M doubt N → doubt ≡ None → N ≡ M
mended_none M N doubt sure e = refl
mended_none M N doubt (dropped entry) e = absurd (cc)
mended_none M N doubt (kept entry size) e = absurd (cc)

one_of_none : (H G : List Entry) (doubt : Option Entry) → IsOneOf H doubt G → doubt ≡ None → G ≡ H
one_of_none H G doubt (as_before d) e = refl
one_of_none H G doubt (with_doubt entry) e = absurd (cc)

pub no_longer : (H : List Entry) (e : Entry) → H ++ e ∷ [] ≡ H → ⊥
no_longer H e same = let n = ap length same in let k = length-append H (e ∷ []) in omega arith

-- ---- why a step stopped
pub stopped_weaker : {D : Type 0} (b : Tables) (plan : Plan) (H : List Entry) (N Q : Entry → Type 0) (leads : (e : Entry) → N e → Q e) (old mid new : Running D) → faults_of old.journal ≤ faults_of mid.journal → (old.doubt ≡ None → mid.doubt ≡ None) → (r : Refusal) → IsStoppedBy b plan H N mid new r → IsStoppedBy b plan H Q old new r
stopped_weaker b plan H N Q leads old mid new grows stays Memory why = λ e. why (stays e)
stopped_weaker b plan H N Q leads old mid new grows stays Disk why = omega (arith, grows, why)
stopped_weaker b plan H N Q leads old mid new grows stays (JournalFull size) why = record { last = why.last; next = leads why.last.entry why.next; spells = why.spells; may = why.may; size_is = why.size_is; above = why.above; sure = why.sure }
stopped_weaker b plan H N Q leads old mid new grows stays (NoSession count) why = absurd why
stopped_weaker b plan H N Q leads old mid new grows stays OtherBooking why = absurd why
stopped_weaker b plan H N Q leads old mid new grows stays (WrongStep k) why = absurd why
stopped_weaker b plan H N Q leads old mid new grows stays (Other k) why = absurd why
stopped_weaker b plan H N Q leads old mid new grows stays (BadResponse k) why = absurd why
stopped_weaker b plan H N Q leads old mid new grows stays (IsClosed at) why = absurd why
stopped_weaker b plan H N Q leads old mid new grows stays (Stale at aside) why = absurd why
stopped_weaker b plan H N Q leads old mid new grows stays (SessionsFull count) why = absurd why
stopped_weaker b plan H N Q leads old mid new grows stays (OtherList session) why = absurd why
stopped_weaker b plan H N Q leads old mid new grows stays (NoItem number) why = absurd why
stopped_weaker b plan H N Q leads old mid new grows stays NoForm why = absurd why
stopped_weaker b plan H N Q leads old mid new grows stays NoneFound why = absurd why

-- ---- one call
-- it is refused; there is nothing to add; an entry is added; or none is, though one was to be
pub data CallsSurely {D : Type 0} (finds : List Entry → Finding → Type 0) (old new : Running D) : Option Refusal → Type 0 where
  is_refused : (r : Refusal) → finds (history old.marks) (refuse r) → history new.marks ≡ history old.marks → new.doubt ≡ None → CallsSurely finds old new (Some r)
  is_found : finds (history old.marks) nothing → history new.marks ≡ history old.marks → new.doubt ≡ None → CallsSurely finds old new None
  is_written : (e : Entry) → finds (history old.marks) (add e) → history new.marks ≡ history old.marks ++ e ∷ [] → new.doubt ≡ None → CallsSurely finds old new None
  is_stopped : (r : Refusal) (e : Entry) → finds (history old.marks) (add e) → history new.marks ≡ history old.marks
      → IsStoppedBy old.bank old.plan (history old.marks) (λ e. finds (history old.marks) (add e)) old new r → CallsSurely finds old new (Some r)

-- where nothing is in doubt, there is nothing to resolve
pub no_unmended : {D : Type 0} (old new : Running D) → old.doubt ≡ None → (r : Refusal) → IsUnmended old new r → ⊥
no_unmended old new no_doubt Memory why = let e : ◌≡◌ {A = Option Entry} (Some why.1) None = sym why.2 ∙ no_doubt in absurd (cc)
no_unmended old new no_doubt Disk why = let e : ◌≡◌ {A = Option Entry} (Some why.0) None = sym why.1 ∙ no_doubt in absurd (cc)
no_unmended old new no_doubt (JournalFull size) why = why
no_unmended old new no_doubt (NoSession count) why = why
no_unmended old new no_doubt OtherBooking why = why
no_unmended old new no_doubt (WrongStep k) why = why
no_unmended old new no_doubt (Other k) why = why
no_unmended old new no_doubt (BadResponse k) why = why
no_unmended old new no_doubt (IsClosed at) why = why
no_unmended old new no_doubt (Stale at aside) why = why
no_unmended old new no_doubt (SessionsFull count) why = why
no_unmended old new no_doubt (OtherList session) why = why
no_unmended old new no_doubt (NoItem number) why = why
no_unmended old new no_doubt NoForm why = why
no_unmended old new no_doubt NoneFound why = why

module _ {D : Type 0} (finds : List Entry → Finding → Type 0) (old new : Running D) (no_doubt : old.doubt ≡ None) where
  module _ (M : List Mark) (is : M ≡ old.marks) where
    there : (f : Finding) → finds (history M) f → finds (history old.marks) f
    there f says = subst (λ (N : List Mark). finds (history N) f) is says

    not_written : (e : Entry) (r : Refusal) → finds (history M) (add e) → IsHalted old new M e r → CallsSurely finds old new (Some r)
    not_written e Memory says why = is_stopped Memory e (there (add e) says) (ap history (why.marks_are ∙ is)) (λ none. why.sure)
    not_written e Disk says why = is_stopped Disk e (there (add e) says) (ap history why.mark ∙ history-fault M e ∙ ap history is) why.rose
    not_written e (JournalFull size) says why =
        let t = why.1 in
        is_stopped (JournalFull size) e (there (add e) says) (ap history (why.0.marks_are ∙ is))
        (record {
          last = t.last;
          next = subst (λ (x : Entry). finds (history old.marks) (add x)) (sym t.is_entry) (there (add e) says);
          spells = t.spells;
          may = subst (λ (N : List Mark). MayFollow old.bank old.plan (history N) t.last.entry t.last.tree) is t.may;
          size_is = t.size_is ∙ ap (λ (N : List Mark). reach N + 5 + length (payload_of t.last)) (sym why.0.marks_are);
          above = t.above;
          sure = why.0.sure;
        })
    not_written e (NoSession count) says why = absurd why
    not_written e OtherBooking says why = absurd why
    not_written e (WrongStep k) says why = absurd why
    not_written e (Other k) says why = absurd why
    not_written e (BadResponse k) says why = absurd why
    not_written e (IsClosed at) says why = absurd why
    not_written e (Stale at aside) says why = absurd why
    not_written e (SessionsFull count) says why = absurd why
    not_written e (OtherList session) says why = absurd why
    not_written e (NoItem number) says why = absurd why
    not_written e NoForm says why = absurd why
    not_written e NoneFound says why = absurd why

  pub surely : (o : Option Refusal) → Calls finds old new o → CallsSurely finds old new o
  surely o (unmended r why) = absurd (no_unmended old new no_doubt r why)
  surely o (refused M r mended says at) =
      let is = mended_none old.marks M old.doubt mended no_doubt in
      is_refused r (there M is (refuse r) says) (ap history (at.marks_are ∙ is)) at.sure
  surely o (found M mended says at) =
      let is = mended_none old.marks M old.doubt mended no_doubt in
      is_found (there M is nothing says) (ap history (at.marks_are ∙ is)) at.sure
  surely o (written M e size mended says at) =
      let is = mended_none old.marks M old.doubt mended no_doubt in
      is_written e (there M is (add e) says) (ap history at.marks_are ∙ (history-own M e size ∙ ap (λ (N : List Mark). history N ++ e ∷ []) is)) at.sure
  surely o (unwritten M e r mended says why) = not_written M (mended_none old.marks M old.doubt mended no_doubt) e r says why

  -- ---- what a crash leaves during it
  abbrev LeftAtEach : Type 0
  LeftAtEach = IsTrue (tells_of old.journal) → AtEachMoment (accounts_of old.journal) (accounts_of new.journal) (IsLeft old.bank old.plan finds (history old.marks) old.doubt)

  module _ (histories : List Entry → Type 0) (here : histories (history old.marks)) (next : (e : Entry) → finds (history old.marks) (add e) → histories (history old.marks ++ e ∷ [])) where
    left_one : (file : List ℕ) → IsLeft old.bank old.plan finds (history old.marks) old.doubt file → StandsForOne old.bank old.plan histories file
    left_one file left =
        let H = history old.marks in
        let is : left.so_far ≡ H = one_of_none H left.so_far old.doubt left.is_one_of no_doubt in
        elim left.stands [
          | inl before ↦ record { so_far = H; is_one = here; stands = subst (λ (G : List Entry). StandsSecond old.bank old.plan G file) is before }
          | inr after ↦ record {
            so_far = H ++ after.0 ∷ [];
            is_one = next after.0 (subst (λ (G : List Entry). finds G (add after.0)) is after.1);
            stands = subst (λ (G : List Entry). StandsSecond old.bank old.plan (G ++ after.0 ∷ []) file) is after.2;
          }
        ]

    pub call_steps : IsSameOffice old new → IsLent tells_of identity_of faults_of old.journal new.journal → LeftAtEach → Steps histories old new
    call_steps same frame moments = record {
      same = same;
      frame = frame;
      moments = λ told. weaker (IsLeft old.bank old.plan finds (history old.marks) old.doubt) (StandsForOne old.bank old.plan histories) left_one (accounts_of old.journal) (accounts_of new.journal) (moments told);
    }

  -- where nothing is to be added, each file is one of the history
  pub nothing_added : ((e : Entry) → finds (history old.marks) (add e) → ⊥) → history new.marks ≡ history old.marks → new.doubt ≡ None → IsLent tells_of identity_of faults_of old.journal new.journal → LeftAtEach → IsDurable old.bank old.plan new
  nothing_added never grown sure_new frame moments = record {
    sure = sure_new;
    images = λ told file i.
        let H = history old.marks in
        let left = at_end (IsLeft old.bank old.plan finds H old.doubt) (accounts_of old.journal) (accounts_of new.journal) (moments (subst IsTrue frame.tells told)) file i in
        let is : left.so_far ≡ H = one_of_none H left.so_far old.doubt left.is_one_of no_doubt in
        let stands : StandsSecond old.bank old.plan H file = elim left.stands [
          | inl before ↦ subst (λ (G : List Entry). StandsSecond old.bank old.plan G file) is before
          | inr after ↦ absurd (never after.0 (subst (λ (G : List Entry). finds G (add after.0)) is after.1))
        ] in
        subst (λ (G : List Entry). StandsSecond old.bank old.plan G file) (sym grown) stands;
  }

-- ---- steps after steps
-- what holds of the bank, the plan and the base of the same office
pub moved : {D : Type 0} (old mid : Running D) (same : IsSameOffice old mid) (F : Tables → Plan → List ℕ → Type 0) → F mid.bank mid.plan mid.base → F old.bank old.plan old.base
moved old mid same F x =
    subst (λ (c : List ℕ). F old.bank old.plan c) same.base
    (subst (λ (p : Plan). F old.bank p mid.base) same.plan (subst (λ (t : Tables). F t mid.plan mid.base) same.bank x))

pub moved_back : {D : Type 0} (old mid : Running D) (same : IsSameOffice old mid) (F : Tables → Plan → List ℕ → Type 0) → F old.bank old.plan old.base → F mid.bank mid.plan mid.base
moved_back old mid same F x =
    subst (λ (c : List ℕ). F mid.bank mid.plan c) (sym same.base)
    (subst (λ (p : Plan). F mid.bank p old.base) (sym same.plan) (subst (λ (t : Tables). F t old.plan old.base) (sym same.bank) x))

pub lent_lent : {D : Type 0} (old mid new : Running D) → IsLent tells_of identity_of faults_of old.journal mid.journal → IsLent tells_of identity_of faults_of mid.journal new.journal → IsLent tells_of identity_of faults_of old.journal new.journal
lent_lent old mid new a c = record { grows = omega (arith, a.grows, c.grows); tells = c.tells ∙ a.tells; identity = c.identity ∙ a.identity }

one_weaker : (b : Tables) (plan : Plan) (P Q : List Entry → Type 0) → ((G : List Entry) → P G → Q G) → (file : List ℕ) → StandsForOne b plan P file → StandsForOne b plan Q file
one_weaker b plan P Q leads file s = record { so_far = s.so_far; is_one = leads s.so_far s.is_one; stands = s.stands }

pub steps_weaker : {D : Type 0} (old new : Running D) (P Q : List Entry → Type 0) → ((G : List Entry) → P G → Q G) → Steps P old new → Steps Q old new
steps_weaker old new P Q leads s = record {
  same = s.same;
  frame = s.frame;
  moments = λ told. weaker (StandsForOne old.bank old.plan P) (StandsForOne old.bank old.plan Q) (one_weaker old.bank old.plan P Q leads) (accounts_of old.journal) (accounts_of new.journal) (s.moments told);
}

pub steps_joined : {D : Type 0} (old mid new : Running D) (P Q R : List Entry → Type 0) → ((G : List Entry) → P G → R G) → ((G : List Entry) → Q G → R G) → Steps P old mid → Steps Q mid new → Steps R old new
steps_joined old mid new P Q R first then a c =
    let c1 = steps_weaker mid new Q R then c in
    record {
      same = same_same old mid new a.same c.same;
      frame = lent_lent old mid new a.frame c.frame;
      moments = λ told.
          joined (StandsForOne old.bank old.plan R) (accounts_of old.journal) (accounts_of mid.journal) (accounts_of new.journal) ((steps_weaker old mid P R first a).moments told)
          (moved old mid a.same (λ (t : Tables) (p : Plan) (k : List ℕ). AtEachMoment (accounts_of mid.journal) (accounts_of new.journal) (StandsForOne t p R)) (c1.moments (subst IsTrue (sym a.frame.tells) told)));
    }

-- no call
pub stayed_steps : {D : Type 0} (office : Running D) (P : List Entry → Type 0) → P (history office.marks) → IsDurable office.bank office.plan office → Steps P office office
stayed_steps office P here durable = record {
  same = record { bank = refl; plan = refl; base = refl; opened = refl };
  frame = record { grows = omega arith; tells = refl; identity = refl };
  moments = λ told. started (StandsForOne office.bank office.plan P) (accounts_of office.journal) (λ file i. record { so_far = history office.marks; is_one = here; stands = durable.images told file i });
}
