use Rattle.std.proofs.Common.{◌≡◌, Contains, sym, ap, subst}
use Rattle.lru.specs.LruCache.{LruCache, lru_cache, put_entries}
use Rattle.prepare_desk.specs.Desks.{DeskKnown, IsReadyFor, is_key}
use Rattle.prepare_desk.specs.declared.key.Key.{Key}
use Rattle.prepare_desk.specs.declared.desk.Ready.{Ready}
use Rattle.prepare_desk.specs.contracts.key.KeyPartialEq.TheImpl.{ghosts}
use Rattle.prepare_desk.proofs.Staying.{put_ready, known}
use Rattle.prepare_desk.proofs.desk.Desk.put.Goals as goal

pub invariant_of-self : goal.invariant_of-self
invariant_of-self c = λ r there.
    put_ready c.self.inside.purpose ghosts.eq c.self.inside.results c.args.key c.args.ready c.self.invariant
    (subst (λ (d : DeskKnown). IsReadyFor d.purpose c.args.ready) (sym c.self.view_is) c.requires) r
    (subst (λ (x : LruCache Key Ready). Contains x.entries r) c.in-Ok.ensures.entries there)

pub invariant_of-self-2 : goal.invariant_of-self-2
invariant_of-self-2 c = λ r there.
    c.self.invariant r (subst (λ (x : LruCache Key Ready). Contains x.entries r) c.in-Err.ensures.err there)

pub returns-in-Ok-clause-put : goal.returns-in-Ok-clause-put
returns-in-Ok-clause-put c =
    subst (λ (d : DeskKnown). known c.self.inside.purpose c.put.new.self ≡ record d { results = put_entries is_key (lru_cache d.results d.room) c.args.key c.args.ready }) c.self.view_is
    (ap (known c.self.inside.purpose) c.in-Ok.ensures.entries)
