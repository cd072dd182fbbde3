use Rattle.std.proofs.Common.{◌≡◌, ℕ, List, map, slice_get, Some, Vec, Global, is_ok, sym, subst}
use Rattle.record_links.specs.Messages.{IsPayload}
use Rattle.record_links.proofs.Payloads.{fit_push}
use Rattle.record_links.proofs.memory.MemoryRecords.add.Goals as goal

pub invariant_of-self : goal.invariant_of-self
invariant_of-self c =
    let fits : IsPayload c.in_ok-copy.copy.items = subst IsPayload (sym (c.in_ok-copy.ensures.items_if_clones_equal (λ _ _ e. e))) c.requires in
    record {
      fit = λ k payload e.
          fit_push c.args.self.now.payloads.items c.in_ok-copy.copy (is_ok c.push.result) c.args.self.now.fit fits k payload
          (subst (λ (l : List (Vec ℕ Global)). slice_get (map (λ (v : Vec ℕ Global). v.items) l) k ≡ Some payload) c.push.ensures.items e);
    }
