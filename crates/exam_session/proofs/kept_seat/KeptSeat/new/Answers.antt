use Rattle.std.proofs.Common.{◌≡◌, ◌∙◌, ℕ, ℤ, List, [], length, slice_get, None, false, refl, sym, ap, subst, arith}
use Rattle.serving_model.specs.declared.seat.Seat.{Seat}
use Rattle.ability_grid.specs.Running.{IsSumsOf}
use Rattle.history_model.specs.Laws.{no_seat}
use Rattle.exam_session.specs.Flags.{flags_of}
use Rattle.exam_session.specs.KeptSeats.{filled}
use Rattle.exam_session.proofs.kept_seat.KeptSeat.new.Goals as goal

same : (shown responses : List ℕ) (eligible without : List (List ℕ)) → shown ≡ [] → responses ≡ [] → eligible ≡ [] → without ≡ [] →
    (let one : Seat = record { shown = shown; responses = responses; eligible = filled eligible; aside = flags_of 0; without = slice_get without 0; form = None; proved = false; closed = false } in
    let other : Seat = record no_seat { eligible = filled [] } in one ≡ other)
same shown responses eligible without e f g h = rw (e, f, g, h) refl

pub returns : goal.returns
returns c = record {
  unused = record {
    empty = same _ _ _ _ c.in_ok-with_capacity.ensures.items c.in_ok-with_capacity-2.ensures.items c.in_ok-with_capacity-3.ensures.items c.in_ok-with_capacity-4.ensures.items;
    no_sets = c.in_ok-with_capacity-3.ensures.items;
    no_list = c.in_ok-with_capacity-4.ensures.items;
  };
  room = record {
    shown = omega (arith, c.in_ok-with_capacity.ensures.exact, c.length-items.ensures);
    responses = omega (arith, c.in_ok-with_capacity-2.ensures.exact, c.length-items.ensures);
    eligible = (let exact = c.in_ok-with_capacity-3.ensures.exact in let number = ap (λ (points : List ℕ). length points) c.bands.ensures.points in omega arith);
  };
  list = omega (arith, c.in_ok-with_capacity-4.ensures.exact);
  sums = λ b grid. subst (λ (prior : List ℤ). IsSumsOf b prior [] c.in_ok-of_prior.field-0) c.prior.ensures (c.in_ok-of_prior.ensures.sums b (grid ∙ ap (λ (prior : List ℤ). length prior) (sym c.prior.ensures)));
}
