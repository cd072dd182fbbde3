use Rattle.std.proofs.Common.{◌≡◌, ◌∙◌, inl, inr, false, refl, sym, ap, subst}
use Rattle.form_model.specs.Plan.{band_of}
use Rattle.history_model.specs.Entries.{starts, sets_aside}
use Rattle.exam_session.specs.Ledgers.{Ledger}
use Rattle.serving_model.specs.Seats.{first_band}
use Rattle.history_model.specs.declared.entry.Entry.{Entry}
use Rattle.history_model.specs.declared.entry.Entry.TheVariants.{SetAside}
use Rattle.history_model.specs.Lifting.{IsLifted}
use Rattle.constraint_model.specs.Views.{problem_of}
use Rattle.exam_records.specs.Spelling.{old_entry_bytes}
use Rattle.exam_session.proofs.LiftLaws.{no_list_unless_start, start_bytes, aside_bytes, aside_at, other_bytes, others_stay}
use Rattle.exam_session.proofs.book.Book.lift_entry.Goals as goal

pub returns-in-Started-clause-spelling : goal.returns-in-Started-clause-spelling
returns-in-Started-clause-spelling c =
    start_bytes (first_band c.args.self.now.bank c.args.self.now.plan) c.in-Started.session c.in-Started.booking c.in-Started.eligible c.lift_sets.result c.in-Started.without c.lift_sets.ensures.first
    ∙ ap (old_entry_bytes 0) (sym c.in-Started.is)

pub returns-in-Some-clause-lifted : goal.returns-in-Some-clause-lifted
returns-in-Some-clause-lifted c =
    let book = c.args.self.now in
    let b = book.bank in
    let plan = book.plan in
    let H = book.entries in
    let p = c.in-Some.problem in
    let is = c.in-Some.ensures.problem in
    let s = c.in-SetAside.session in
    subst (λ (e : Entry). IsLifted b plan H e (SetAside s p.step c.band.result c.in-SetAside.cause c.in-SetAside.nodes)) (sym c.in-SetAside.is) (record {
      pending = λ now P other. aside_at b plan H s p.step now c.band.result c.in-SetAside.nodes c.in-SetAside.cause (problem_of p) P is (c.band.ensures.band ∙ ap (λ (l : Ledger). band_of l.plan p.theta) c.self.view_is) other;
      stays = λ none. absurd (none p.step is.pending);
    })

pub returns-in-Some-clause-spelling : goal.returns-in-Some-clause-spelling
returns-in-Some-clause-spelling c =
    aside_bytes (first_band c.args.self.now.bank c.args.self.now.plan) c.in-SetAside.session c.in-Some.problem.step c.band.result c.in-SetAside.step c.in-SetAside.band c.in-SetAside.nodes c.in-SetAside.cause
    ∙ ap (old_entry_bytes 0) (sym c.in-SetAside.is)

pub returns-in-None-clause-lifted : goal.returns-in-None-clause-lifted
returns-in-None-clause-lifted c =
    let book = c.args.self.now in
    subst (λ (e : Entry). IsLifted book.bank book.plan book.entries e e) (sym c.in-SetAside.is) (record {
      pending = λ now P other. absurd (c.in-None.ensures.none now other.pending);
      stays = λ none. refl;
    })

pub returns-in-None-clause-spelling : goal.returns-in-None-clause-spelling
returns-in-None-clause-spelling c =
    let first = first_band c.args.self.now.bank c.args.self.now.plan in
    let aside = c.in-SetAside in
    ap (old_entry_bytes first) aside.is ∙ (aside_bytes first aside.session aside.step aside.band aside.step aside.band aside.nodes aside.cause ∙ ap (old_entry_bytes 0) (sym aside.is))

pub returns-in-Served : goal.returns-in-Served
returns-in-Served c =
    let book = c.args.self.now in
    let e = c.args.old.now in
    let kind : (starts e ≡ false) × (sets_aside e ≡ false) = elim c.in-Served.is [
      | inl h ↦ (ap starts h.6, ap sets_aside h.6)
      | inr r ↦ elim r [
        | inl h ↦ (ap starts h.3, ap sets_aside h.3)
        | inr h ↦ (ap starts h.1, ap sets_aside h.1)
      ]
    ] in
    record {
      lifted = others_stay book.bank book.plan book.entries e kind.0 kind.1;
      spelling = other_bytes (first_band book.bank book.plan) e kind.0;
      goes_with = λ tree h. h;
      bands = λ h. h;
      unlisted = no_list_unless_start e kind.0;
    }
