-- What a desk has after a response was prepared, and after some of them.
use Rattle.std.proofs.Common.{◌≡◌, ⊎_elim, inl, inr, ℕ, List, Contains, Option, Some, None, Result, Ok, Err, sym, ap, ◌∙◌, subst}
use Rattle.std.proofs.lemmas.Bool.{eqb-true}
use Rattle.lru.specs.LruCache.{lru_cache, put_entries}
use Rattle.lru.proofs.CallerLemmas.{Contains-put_entries}
use Rattle.form_model.proofs.SumLaws.{and_true}
use Rattle.prepare_desk.specs.Desks.{DeskKnown, is_key}
use Rattle.prepare_desk.specs.Preparing.{IsAfterOne, AddsFor}
use Rattle.prepare_desk.specs.declared.key.Key.{Key}
use Rattle.prepare_desk.specs.declared.desk.Ready.{Ready}
use Rattle.prepare_desk.specs.declared.next.Before.{Before}

put_adds : (session : ℕ) (d : DeskKnown) (key : Key) (ready : Ready) → key.session ≡ session → AddsFor session d.results (put_entries is_key (lru_cache d.results d.room) key ready)
put_adds session d key ready is r there = ⊎_elim
    (λ was. inl was)
    (λ put. inr (⊎_elim
    (λ same. ap (λ (k : Key). k.session) same ∙ is)
    (λ w. sym (eqb-true key.session r.0.session (and_true _ _ w.2).0) ∙ is)
    put.1))
    (Contains-put_entries is_key (lru_cache d.results d.room) key ready r there)

none_added : (session : ℕ) (old new : DeskKnown) → new ≡ old → AddsFor session old.results new.results
none_added session old new is = λ r there. inl (subst (λ (d : DeskKnown). Contains d.results r) is there)

-- one response adds results for its session alone
pub one_adds : {E : Type 0} (session response : ℕ) (before : Option Before) (old new : DeskKnown) (o : Result (Option Before) E) → IsAfterOne session response before old new o
    → (new.purpose ≡ old.purpose) × AddsFor session old.results new.results
one_adds session response before old new (Ok (Some now)) h = (
  ap (λ (d : DeskKnown). d.purpose) h.3,
  subst (λ (d : DeskKnown). AddsFor session old.results d.results) (sym h.3) (put_adds session old h.0.key h.0.ready h.1.session_is),
)
one_adds session response before old new (Ok None) h = (ap (λ (d : DeskKnown). d.purpose) h, none_added session old new h)
one_adds session response before old new (Err e) h = (ap (λ (d : DeskKnown). d.purpose) h, none_added session old new h)

-- one after another
pub adds_through : (session : ℕ) (a b c : List (Key × Ready)) → AddsFor session a b → AddsFor session b c → AddsFor session a c
adds_through session a b c p q = λ r there. ⊎_elim (λ was. p r was) (λ new. inr new) (q r there)
