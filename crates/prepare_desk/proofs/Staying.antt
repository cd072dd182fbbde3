-- What is ready stays ready while the desk changes.
use Rattle.std.proofs.Common.{◌≡◌, ⊎_elim, Bool, List, Option, Some, sym, ap, subst}
use Rattle.std.specs.Map.{lookup, remove_entry}
use Rattle.lru.specs.LruCache.{LruCache, put_entries}
use Rattle.lru.proofs.CallerLemmas.{Contains-lookup, Contains-remove_entry, Contains-put_entries}
use Rattle.prepare_desk.specs.Desks.{DeskPurpose, DeskKnown, IsReadyFor, AreReadyFor, made_of, put_for, ready_by, ready_at, left_by, left_at}
use Rattle.prepare_desk.specs.declared.key.Key.{Key}
use Rattle.prepare_desk.specs.declared.desk.Ready.{Ready}

-- what is found is ready
pub found_ready : (p : DeskPurpose) (test : Key → Bool) (results : List (Key × Ready)) → AreReadyFor p results
    → (ready : Ready) → lookup test results ≡ Some ready → IsReadyFor p ready
found_ready p test results all ready found =
    let at = Contains-lookup test results ready found in
    all (at.0, ready) at.1

-- what is left is ready
pub left_ready : (p : DeskPurpose) (test : Key → Bool) (results : List (Key × Ready)) → AreReadyFor p results
    → AreReadyFor p (remove_entry test results)
left_ready p test results all r there = all r (Contains-remove_entry test results r there)

-- after a result was put, each is ready
pub put_ready : (p : DeskPurpose) (eq : Key → Key → Bool) (c : LruCache Key Ready) (key : Key) (ready : Ready)
    → AreReadyFor p c.entries → IsReadyFor p ready → AreReadyFor p (put_entries eq c key ready)
put_ready p eq c key ready all is r there = ⊎_elim
    (λ was. all r was)
    (λ new. subst (IsReadyFor p) (sym new.0) is)
    (Contains-put_entries eq c key ready r there)

-- ---- what is taken out
-- a desk with these results
abbrev pub known : DeskPurpose → LruCache Key Ready → DeskKnown
known p results = record { purpose = p; results = results.entries; room = results.cap }

module _ (p : DeskPurpose) (results : LruCache Key Ready) (key : Key) (desk : DeskKnown) (o : Option Ready) (is : known p results ≡ desk) (found : put_for results.entries key ≡ o) where
  pub made_found : made_of o ≡ made_of (put_for desk.results key)
  made_found = subst (λ (d : DeskKnown). made_of o ≡ made_of (put_for d.results key)) is (ap made_of (sym found))

  pub ready_found : ready_by results.entries key o ≡ ready_at desk.results key
  ready_found = subst (λ (d : DeskKnown). ready_by results.entries key o ≡ ready_at d.results key) is (ap (ready_by results.entries key) (sym found))

  pub left_found : record (known p results) { results = left_by results.entries key o } ≡ record desk { results = left_at desk.results key }
  left_found = subst (λ (d : DeskKnown). record (known p results) { results = left_by results.entries key o } ≡ record d { results = left_at d.results key }) is
      (ap (λ (x : Option Ready). record (known p results) { results = left_by results.entries key x }) (sym found))
