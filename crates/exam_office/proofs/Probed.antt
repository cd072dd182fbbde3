-- A look at the health from its steps.
use Rattle.std.proofs.Common.{◌≡◌, None, Ok, Err, IsTrue, ◌∙◌, ap, subst}
use Rattle.form_model.specs.Plan.{Plan}
use Rattle.exam_edge.specs.Images.{AllImages, AtEachMoment, latest}
use Rattle.exam_edge.specs.ImageLaws.{weaker}
use Rattle.exam_edge.specs.Lent.{IsLent}
use Rattle.exam_handler.specs.Handling.{IsProbeRefusal}
use Rattle.exam_handler.specs.declared.health.Health.{Health}
use Rattle.history_model.specs.declared.refusal.Refusal.{Refusal}
use Rattle.history_model.specs.declared.refusal.Refusal.TheVariants.{NoSession, OtherBooking, WrongStep, Other, BadResponse, IsClosed, Stale, OtherList, NoItem, SessionsFull, NoForm, NoneFound, JournalFull, Disk, Memory}
use Rattle.answer_journal.specs.Journal.{tells_of, accounts_of, faults_of, identity_of}
use Rattle.exam_office.specs.Asking.{StandsForOne, Steps}
use Rattle.exam_office.specs.Files.{StandsSecond}
use Rattle.exam_office.specs.Health.{health, IsProbed}
use Rattle.exam_office.specs.Marks.{history}
use Rattle.exam_office.specs.Running.{Running}
use Rattle.exam_office.specs.Writing.{IsOneOf, IsMending, IsMended, IsSameOffice, IsUnmended}

module _ {D : Type 0} (old mid : Running D) (same : IsSameOffice old mid) (frame : IsLent tells_of identity_of faults_of old.journal mid.journal)
    (mending : IsTrue (tells_of old.journal) → AtEachMoment (accounts_of old.journal) (accounts_of mid.journal) (IsMending old.bank old.plan (history old.marks) old.doubt)) where
  steps : Steps (IsOneOf (history old.marks) old.doubt) old mid
  steps = record {
    same = same;
    frame = frame;
    moments = λ told.
        weaker (IsMending old.bank old.plan (history old.marks) old.doubt) (StandsForOne old.bank old.plan (IsOneOf (history old.marks) old.doubt))
        (λ file m. record { so_far = m.so_far; is_one = m.is_one_of; stands = m.stands }) (accounts_of old.journal) (accounts_of mid.journal) (mending told);
  }

  -- the entry in doubt is resolved
  pub found_so : mid.doubt ≡ None → IsMended old.marks old.doubt mid.marks → (IsTrue (tells_of old.journal) → AllImages (StandsSecond old.bank old.plan (history mid.marks)) (latest (accounts_of mid.journal)))
      → (found : Health) → found ≡ health mid.plan mid.marks → IsProbed old (Ok found) mid
  found_so sure mended images found is = record {
    finds = record {
      mended = mended;
      durable = record { sure = sure; images = λ told. images (subst IsTrue frame.tells told) };
      is_health = is ∙ ap (λ (plan : Plan). health plan mid.marks) same.plan;
    };
    steps = steps;
  }

  -- or isn't
  pub not_found : (refusal : Refusal) → IsUnmended old mid refusal → IsProbed old (Err refusal) mid
  not_found refusal why = record { finds = why; steps = steps }

  pub why_not : (refusal : Refusal) → IsUnmended old mid refusal → IsProbeRefusal refusal
  why_not Memory why = tt
  why_not Disk why = tt
  why_not (JournalFull size) why = absurd why
  why_not (NoSession count) why = absurd why
  why_not OtherBooking why = absurd why
  why_not (WrongStep k) why = absurd why
  why_not (Other k) why = absurd why
  why_not (BadResponse k) why = absurd why
  why_not (IsClosed at) why = absurd why
  why_not (Stale at flag) why = absurd why
  why_not (SessionsFull count) why = absurd why
  why_not (OtherList session) why = absurd why
  why_not (NoItem number) why = absurd why
  why_not NoForm why = absurd why
  why_not NoneFound why = absurd why
