-- A replay that is under way is one as the headline states it.
use Rattle.std.proofs.Common.{◌≡◌, ℕ, ◌+◌, ◌≤◌, ◌⊎◌, inl, inr, List, [], ◌∷◌, ◌++◌, length, refl, sym, ap, ◌∙◌, subst, arith, append_assoc, length-append}
use Rattle.std.specs.List.{AllByRecursion}
use Rattle.std.proofs.lemmas.List.{append-nil}
use Rattle.bank_tables.specs.Tables.{Tables}
use Rattle.exam_edge.specs.Images.{Account, AllImages, AtEachMoment}
use Rattle.exam_headline.specs.Replays.{AreDone as Done, none as none_done, one_more as one_more_done, HoldsOrBegins, HoldsOnTheWay, AreMoments}
use Rattle.exam_headline.specs.Requests.{AreEntriesOf, AreWell, Tells}
use Rattle.exam_headline.specs.Laws.{ReplayIsUnderWay}
use Rattle.exam_headline.proofs.Adding.{does_adds}
use Rattle.exam_headline.proofs.Journaled.{holds_history}
use Rattle.exam_headline.proofs.Nexts.{begun_entries, does_grows, done_grows}
use Rattle.exam_office.specs.Asking.{AreGood, no_more, one_more as one_good, IsGood}
use Rattle.exam_office.specs.Files.{StandsSecond}
use Rattle.exam_program.specs.Outside.{DiskSeen}
use Rattle.exam_program.specs.Replays.{AreDone, none, one_more, IsFileOf, IsFileOnTheWay, AreMomentsOfReplay}
use Rattle.form_model.specs.Plan.{Plan}
use Rattle.headline_model.proofs.Told.{is_legal}
use Rattle.headline_model.specs.Legal.{IsLegal}
use Rattle.history_model.specs.declared.entry.Entry.{Entry}
use Rattle.history_model.specs.declared.request.Reply.{Reply}
use Rattle.history_model.specs.declared.request.Request.{Request}
use Rattle.history_model.specs.Legality.{LegalRun}
use Rattle.history_model.specs.Refusals.{refusal_of}
use Rattle.replay_cli.specs.Replies.{line_of, lines_of}

-- ---- good entries
snoc_parts : (xs : List Entry) (x : Entry) (A : List Entry) (e : Entry) (B : List Entry) → xs ++ x ∷ [] ≡ A ++ e ∷ B → ((xs ≡ A) × (x ≡ e)) ⊎ ((C : List Entry) × (xs ≡ A ++ e ∷ C))
snoc_parts [] x [] e B f = inl (refl, cc)
snoc_parts [] x (a ∷ A) e B f = absurd (no_tail A e B (tail_of x a [] (A ++ e ∷ B) f))
  where
    tail_of : (y z : Entry) (ys zs : List Entry) → y ∷ ys ≡ z ∷ zs → ys ≡ zs
    tail_of y z ys zs g = cc

    no_tail : (ys : List Entry) (z : Entry) (zs : List Entry) → [] ≡ ys ++ z ∷ zs → ⊥
    no_tail [] z zs g = cc
    no_tail (y ∷ ys) z zs g = cc
snoc_parts (y ∷ xs) x [] e B f = inr (xs, let h : y ≡ e = cc in ap (λ (z : Entry). z ∷ xs) h)
snoc_parts (y ∷ xs) x (a ∷ A) e B f =
    let same : y ≡ a = cc in
    let rest : xs ++ x ∷ [] ≡ A ++ e ∷ B = cc in
    elim (snoc_parts xs x A e B rest) [
      | inl at ↦ inl (ap (λ (z : Entry). z ∷ xs) same ∙ ap (λ (zs : List Entry). a ∷ zs) at.0, at.1)
      | inr there ↦ inr (there.0, ap (λ (z : Entry). z ∷ xs) same ∙ ap (λ (zs : List Entry). a ∷ zs) there.1)
    ]

each_good : (b : Tables) (plan : Plan) (base : List ℕ) (H K : List Entry) → AreGood b plan base H K → (A : List Entry) (e : Entry) (B : List Entry) → K ≡ A ++ e ∷ B → length H ≤ length A → IsGood b plan base A e
each_good b plan base H K no_more A e B same long = absurd (let n = ap (λ (l : List Entry). length l) same in let m = length-append A (e ∷ B) in omega (arith, n, m))
each_good b plan base H K (one_good G entry good is_good) A e B same long =
    elim (snoc_parts G entry A e B same) [
      | inl at ↦ subst (λ (l : List Entry). IsGood b plan base l e) at.0 (subst (λ (x : Entry). IsGood b plan base G x) at.1 is_good)
      | inr there ↦ each_good b plan base H G good A e there.0 there.1 long
    ]

-- ---- the requests that are done
pub record Went (b : Tables) (plan : Plan) (base : List ℕ) (H : List Entry) (done : List Request) (G : List Entry) (replies : List Reply) : Type 0 where
  pub entries : List Entry
  pub grown : G ≡ H ++ entries
  pub are : Done b plan base H done entries (lines_of replies)

flat_snoc : (xs : List Reply) (x : Reply) → lines_of (xs ++ x ∷ []) ≡ lines_of xs ++ line_of x
flat_snoc [] x = append-nil (line_of x)
flat_snoc (y ∷ xs) x = ap (λ (l : List ℕ). line_of y ++ l) (flat_snoc xs x) ∙ sym (append_assoc (line_of y) (lines_of xs) (line_of x))

went : (b : Tables) (plan : Plan) (base : List ℕ) (H : List Entry) (done : List Request) (G : List Entry) (replies : List Reply) → LegalRun b plan H → AreDone b plan H done G replies
    → ((A : List Entry) (e : Entry) (B : List Entry) → G ≡ A ++ e ∷ B → length H ≤ length A → IsGood b plan base A e) → Went b plan base H done G replies
went b plan base H _ _ _ run none good = record { entries = []; grown = sym (append-nil H); are = none_done }
went b plan base H _ _ _ run (one_more done G replies request K reply are does goes) good =
    let before = done_grows b plan H done G replies run are in
    let after = does_grows b plan G request K reply (refusal_of b plan G request) before.legal does in
    let long = before.long in
    let added = does_adds b plan base G request K reply (refusal_of b plan G request) refl before.legal after.legal does (λ A e B same w. good A e B same (omega arith)) in
    let first = went b plan base H done G replies run are
    (λ A e B same w. good A e (B ++ added.entries) (added.grown ∙ (ap (λ (l : List Entry). l ++ added.entries) same ∙ append_assoc A (e ∷ B) added.entries)) w) in
    let grown : K ≡ H ++ (first.entries ++ added.entries) = added.grown ∙ (ap (λ (l : List Entry). l ++ added.entries) first.grown ∙ append_assoc H first.entries added.entries) in
    record {
      entries = first.entries ++ added.entries;
      grown = grown;
      are = subst (λ (l : List ℕ). Done b plan base H (done ++ request ∷ []) (first.entries ++ added.entries) l) (sym (flat_snoc replies reply))
          (one_more_done done first.entries added.entries (lines_of replies) request reply first.are
          (subst (λ (l : List Entry). AreEntriesOf l request added.entries) grown added.are)
          (subst (λ (l : List Entry). AreWell b plan base l added.entries) grown added.well)
          (subst (λ (l : List Entry). IsLegal b plan l) grown (is_legal b plan K after.legal))
          (subst (λ (l : List Entry). Tells b plan request l added.entries reply) grown added.tells));
    }

-- ---- files
holds_or_begins : (b : Tables) (plan : Plan) (base : List ℕ) (G : List Entry) (rest : List Request) (file : List ℕ) → LegalRun b plan G → IsFileOf b plan base G rest file → HoldsOrBegins b plan G rest file
holds_or_begins b plan base G [] file run is = record {
  begun = [];
  of_next = inl refl;
  holds = holds_history b plan (G ++ []) file (subst (λ (l : List Entry). StandsSecond b plan l file) (is.is_one ∙ sym (append-nil G)) is.stands);
}
holds_or_begins b plan base G (q ∷ rest) file run is =
    let some = begun_entries b plan base G q is.so_far run is.is_one in
    record {
      begun = some.entries;
      of_next = elim some.are [ inl empty ↦ inl empty | inr are ↦ inr (q, rest, refl, subst (λ (l : List Entry). AreEntriesOf l q some.entries) some.grown are) ];
      holds = holds_history b plan (G ++ some.entries) file (subst (λ (l : List Entry). StandsSecond b plan l file) some.grown is.stands);
    }

on_the_way : (b : Tables) (plan : Plan) (base : List ℕ) (script : List Request) (H : List Entry) (file : List ℕ) → LegalRun b plan H → IsFileOnTheWay b plan base script H file → HoldsOnTheWay b plan base H script file
on_the_way b plan base script H file run is =
    let at = is.is_one in
    let w = went b plan base H at.done at.G at.replies run at.are_done (each_good b plan base H at.G at.good) in
    record {
      done = at.done;
      rest = at.rest;
      E = w.entries;
      lines = lines_of at.replies;
      whole = at.whole;
      are_done = w.are;
      holds = subst (λ (l : List Entry). HoldsOrBegins b plan l at.rest file) w.grown
          (holds_or_begins b plan base at.G at.rest file (done_grows b plan H at.done at.G at.replies run at.are_done).legal (record { so_far = is.so_far; is_one = at.begins; stands = is.stands }));
    }

all_images : (P Q : List ℕ → Type 0) → ((file : List ℕ) → P file → Q file) → (xs : List Account) → AllByRecursion (AllImages P) xs → AllByRecursion (AllImages Q) xs
all_images P Q f [] h = tt
all_images P Q f (x ∷ xs) h = (λ file image. f file (h.0 file image), all_images P Q f xs h.1)

at_each : (old new : List Account) (P Q : List ℕ → Type 0) → ((file : List ℕ) → P file → Q file) → AtEachMoment old new P → AtEachMoment old new Q
at_each old new P Q f h = record { more = h.more; grown = h.grown; start = λ file image. f file (h.start file image); each = all_images P Q f h.more h.each }

moments_of : (b : Tables) (plan : Plan) (base : List ℕ) (disk : DiskSeen) (script : List Request) (H : List Entry) → LegalRun b plan H → AreMomentsOfReplay b plan base disk script H → AreMoments b plan base H script disk
moments_of b plan base disk script H run m = record {
  opened = m.opened;
  opening = at_each disk.moments_before m.opened _ _ (λ file p. elim p [ inl image ↦ inl image | inr stands ↦ inr (holds_history b plan H file stands) ]) m.opening.each;
  since = at_each m.opened disk.moments _ _ (λ file p. on_the_way b plan base script H file run p) m.requests;
}

pub under_way : ReplayIsUnderWay
under_way b plan base disk script H G rest replies is =
    let going = is.going_on in
    let w = went b plan base H going.done G replies is.legal going.are_done (each_good b plan base H G going.good) in
    let after = (done_grows b plan H going.done G replies is.legal going.are_done).legal in
    let files = λ (file : List ℕ) (p : IsFileOf b plan base G rest file). subst (λ (l : List Entry). HoldsOrBegins b plan l rest file) w.grown (holds_or_begins b plan base G rest file after p) in (
      w.entries,
      w.grown,
      record {
        legal = subst (λ (l : List Entry). IsLegal b plan l) w.grown (is_legal b plan G after);
        done = going.done;
        whole = going.whole;
        are_done = w.are;
        found = λ told. holds_history b plan H disk.found (is.found told);
        left = λ told. files disk.left (is.left told);
        images = λ told file image. files file (going.each told file image);
        moments = λ told. moments_of b plan base disk script H is.legal (is.moments told);
      },
    )
