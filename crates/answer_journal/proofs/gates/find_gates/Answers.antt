use Rattle.std.proofs.Common.{◌≡◌, ◌+◌, ℕ, List, [], ◌∷◌, ◌++◌, length, take, drop, inl, inr, refl, sym, ◌∙◌, ap, subst, arith, length-append}
use Rattle.answer_journal.specs.Frames.{BadLength, CutOff}
use Rattle.answer_journal.specs.OpenFaultLaws.{scanned_fault}
use Rattle.answer_journal.specs.Reading.{IsFound, IsPast, IsRoomFor, IsSmallAt, Walked}
use Rattle.answer_journal.specs.Versions.{header}
use Rattle.answer_journal.specs.declared.frames.Found.TheVariants.{Closed, NoLength, Short, Record}
use Rattle.answer_journal.proofs.Passing.{pushed}
use Rattle.answer_journal.proofs.Reading.{closed, refused_length, refused_cut, next}
use Rattle.answer_journal.proofs.gates.find_gates.Goals as goal

pub returns-in-Ok-Closed-clause-read : goal.returns-in-Ok-Closed-clause-read
returns-in-Ok-Closed-clause-read g c = λ told.
    let c0 = g.D.Disk.content c.args.disk.now in
    let i = c.walk.invariant in
    let w = i.walked told in
    let found : IsFound c0 c.walk.gates.end Closed = rw (c.in-Ok-Closed.field-0-is, i.content told) at (c.in-Ok-Closed.ensures.found (i.frame.tells ∙ told)) in
    (w.0, closed (header c.args.version) c0 w.0 c.walk.gates.end w.1 (omega (arith, c.requires.all told, c.requires.long)) found, w.3, w.4)

pub returns-in-Ok-NoLength-clause-why : goal.returns-in-Ok-NoLength-clause-why
returns-in-Ok-NoLength-clause-why g c = λ told.
    let c0 = g.D.Disk.content c.args.disk.now in
    let at = c.walk.gates.end in
    let h = header c.args.version in
    let i = c.walk.invariant in
    let w = i.walked told in
    let found : IsFound c0 at NoLength = rw (c.in-Ok-NoLength.field-0-is, i.content told) at (c.in-Ok-NoLength.ensures.found (i.frame.tells ∙ told)) in
    scanned_fault h c0 (BadLength at) w.1.header (refused_length h c0 w.0 at w.1 found)

pub returns-in-Ok-Short-clause-why : goal.returns-in-Ok-Short-clause-why
returns-in-Ok-Short-clause-why g c = λ told.
    let c0 = g.D.Disk.content c.args.disk.now in
    let at = c.walk.gates.end in
    let h = header c.args.version in
    let i = c.walk.invariant in
    let w = i.walked told in
    let found : IsFound c0 at Short = rw (c.in-Ok-Short.field-0-is, i.content told) at (c.in-Ok-Short.ensures.found (i.frame.tells ∙ told)) in
    scanned_fault h c0 (CutOff at) w.1.header (refused_cut h c0 w.0 at w.1 found)

pub walk-preserved : goal.walk-preserved
walk-preserved g c =
    let c0 = g.D.Disk.content c.args.disk.now in
    let v = c.args.version in
    let gates = c.walk.gates in
    let at = gates.end in
    let n = c.in-Ok-Record.count in
    let past = c.in-Ok.next in
    let i = c.walk.invariant in
    let room : IsRoomFor at c.args.size n = rw c.in-Ok-Record.field-0-is at c.in-Ok-Record.ensures.room in
    let ends : past.end ≡ at + 5 + n = c.in-Ok.ensures.end in
    record {
      inside = elim c.in-Ok.ensures.range [
        | inl same ↦ record {
          after_header = omega (arith, i.inside.after_header, same.0);
          counts = omega (arith, i.inside.counts, same.0, same.1);
          starts_in = omega (arith, i.inside.starts_in, same.0, ends);
          in_file = omega (arith, ends, room.within);
        }
        | inr met ↦ record {
          after_header = omega (arith, met.0, ends, i.inside.after_header, i.inside.starts_in);
          counts = omega (arith, met.0, met.1, ends, i.count, room.some);
          starts_in = omega (arith, met.0);
          in_file = omega (arith, ends, room.within);
        }
      ];
      count = omega (arith, i.count, ends, room.some);
      walked = λ told.
          let told1 = i.frame.tells ∙ told in
          let told2 = c.find_frame.ensures.frame.tells ∙ told1 in
          let same = c.find_frame.ensures.content told1 ∙ i.content told in
          let w = i.walked told in
          let found : IsFound c0 at (Record n) = rw (c.in-Ok-Record.field-0-is, i.content told) at (c.in-Ok-Record.ensures.found told1) in
          let small : IsSmallAt c0 at = subst (λ (f : List ℕ). IsSmallAt f at) (i.content told) (c.in-Ok-Record.ensures.small told1) in
          let p : List ℕ = take n (drop (at + 5) c0) in
          let all = w.0 ++ p ∷ [] in
          let walked : Walked (header v) c0 all past.end = subst (Walked (header v) c0 all) (sym ends) (next (header v) c0 w.0 at w.1 n found p refl small) in
          let count_is : c.walk.passed + 1 ≡ length all = omega (arith, w.2, length-append w.0 (p ∷ [])) in
          let goes_on = subst (λ (f : List ℕ). IsPast v gates (c.walk.passed + 1) (take n (drop (at + 5) f)) past) same (c.in-Ok.ensures.goes_on told2 (omega (arith, found.3, ap length same))) in
          let counted = pushed v gates past w.0 p (subst (λ (k : ℕ). IsPast v gates k p past) count_is goes_on) walked.place w.3 w.4 in
          (all, walked, count_is, counted.0, counted.1);
      content = λ told.
          let told1 = i.frame.tells ∙ told in
          c.pass_record.ensures.content (c.find_frame.ensures.frame.tells ∙ told1) ∙ c.find_frame.ensures.content told1 ∙ i.content told;
      accounts = λ told.
          let told1 = i.frame.tells ∙ told in
          c.pass_record.ensures.accounts (c.find_frame.ensures.frame.tells ∙ told1) ∙ c.find_frame.ensures.accounts told1 ∙ i.accounts told;
      aside = λ told.
          let told1 = i.frame.tells ∙ told in
          c.pass_record.ensures.aside (c.find_frame.ensures.frame.tells ∙ told1) ∙ c.find_frame.ensures.aside told1 ∙ i.aside told;
      frame = record {
        grows = omega (arith, i.frame.grows, c.find_frame.ensures.frame.grows, c.pass_record.ensures.frame.grows);
        tells = c.pass_record.ensures.frame.tells ∙ c.find_frame.ensures.frame.tells ∙ i.frame.tells;
        identity = c.pass_record.ensures.frame.identity ∙ c.find_frame.ensures.frame.identity ∙ i.frame.identity;
      };
    }
