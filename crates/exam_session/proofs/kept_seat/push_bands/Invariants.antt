use Rattle.std.proofs.Common.{◌≡◌, ◌+◌, ◌++◌, take}
use Rattle.std.specs.Vec.{vec_len, vec_capacity}
use Rattle.exam_session.proofs.kept_seat.push_bands.Given as goal

abbrev pub invariant-loop-band : goal.invariant-loop-band
invariant-loop-band l =
    record {
      sets : l.sets.items ≡ l.fn.sets.items ++ take l.band l.eligible.sets;
      number : vec_len l.sets ≡ vec_len l.fn.sets + l.band;
      capacity : vec_capacity l.sets ≡ vec_capacity l.fn.sets;
    }
