use Rattle.std.proofs.Common.{ℕ, List, map, Some, sym, ap}
use Rattle.spec_reader.specs.Sets.{in_set}
use Rattle.replay_cli.proofs.WordLists.{same_words}
use Rattle.replay_cli.proofs.script.list_in.Goals as goal

pub returns : goal.returns
returns c =
    let words : List (List ℕ) = map (λ w. w.now) c.args.words.now in
    rw (sym c.in_ok-set.ensures.found) (ap (λ (x : List ℕ). Some x) (same_words c.in_ok-set.set (in_set words) c.count.ensures.words (λ i lt. c.in_ok-set.ensures.members i)))
