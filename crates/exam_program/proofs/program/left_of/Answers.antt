use Rattle.std.proofs.Common.{rules, ℕ, List, Some, inl, inr, refl, sym, ap, ◌∙◌, subst}
use Rattle.exam_program.specs.Runs.{idle}
use Rattle.std.specs.Prelude.{map, string_bytes}
use Rattle.std.specs.Option.{option_map}
use Rattle.command_line.specs.Commands.{IsOfJournal, IsOfDoors, IsOfLinked, said}
use Rattle.exam_text.specs.Texts.{no_memory}
use Rattle.exam_serve.proofs.Left.{still_lent}
use Rattle.exam_program.specs.Outside.{outside, disk_seen}
use Rattle.exam_program.proofs.CauseLaws.{ends_at_10}
use Rattle.exam_program.proofs.OutcomeLaws.{as_it_is, halts_without_memory, is_8, is_10, also}
use Rattle.exam_program.proofs.StatusLaws.{not_14, not_19, run_not_19, no_memory_at, no_memory_unprinted, still, lent_still}
use Rattle.exam_program.proofs.LinkLaws.{follow_linked, ship_linked}
use Rattle.exam_program.proofs.program.left_of.Goals as goal

pub returns-in-Ok-clause-doors : goal.returns-in-Ok-clause-doors
returns-in-Ok-clause-doors g c = still_lent g.L.Door.tells g.L.Door.is_out g.L.Door.faults g.L.Door.identity c.args.doors.items c.requires.home

pub returns-in-Ok-clause-door : goal.returns-in-Ok-clause-door
returns-in-Ok-clause-door g c = λ is. absurd (not_14 _ c.status_of-disk.ensures.status is)

pub returns-in-Ok-clause-answers : goal.returns-in-Ok-clause-answers
returns-in-Ok-clause-answers g c = λ told. inl (idle refl (c.status_of-disk.ensures.answers told (map (λ w. string_bytes w) c.args.words.now) (search rules)))

pub returns-in-Ok-clause-cause : goal.returns-in-Ok-clause-cause
returns-in-Ok-clause-cause g c = λ told. c.status_of-disk.ensures.cause told (map (λ w. string_bytes w) c.args.words.now) (search rules)

pub returns-in-Ok-clause-link : goal.returns-in-Ok-clause-link
returns-in-Ok-clause-link g c = λ is. absurd (not_19 _ c.status_of-disk.ensures.status is)

pub returns-in-Err : goal.returns-in-Err
unfolding no_memory
returns-in-Err g c =
    record {
      answers = λ told.
          let words : List (List ℕ) = map (λ w. string_bytes w) c.args.words.now in
          let faults : ℕ = g.F.Files.faults c.args.files.now in
          let o = outside (g.F.Files.has c.args.files.now) (g.F.Files.content c.args.files.now) faults faults (disk_seen g.D.Disk.tells g.D.Disk.content g.D.Disk.accounts g.D.Disk.faults c.args.disk c.args.disk) in
          inl (idle refl (c.print.ensures.answers words o (g.O.Sink.written c.args.out.now)
          (halts_without_memory words o (g.O.Sink.tells c.args.out.now) (g.O.Sink.written c.args.out.now) (as_it_is g.D.Disk.tells g.D.Disk.content g.D.Disk.accounts g.D.Disk.faults c.args.disk))));
      cause = λ told. ends_at_10 (map (λ w. string_bytes w) c.args.words.now) c.print.result c.print.ensures.status;
      faulty = λ none. elim c.print.ensures.status [ inl e ↦ inr (inr e) | inr e ↦ inr (inl e.0) ];
      usage = λ is. absurd (no_memory_at c.print.result 2 c.print.ensures.status refl is);
      files = λ is. absurd (no_memory_at c.print.result 7 c.print.ensures.status refl is);
      sink = no_memory_unprinted c.print.result c.print.ensures.status;
      failed = λ is. absurd (no_memory_at c.print.result 9 c.print.ensures.status refl is);
      door = λ is. absurd (no_memory_at c.print.result 14 c.print.ensures.status refl is);
      link = λ is. absurd (no_memory_at c.print.result 19 c.print.ensures.status refl is);
      kept = λ _. refl;
      unused = λ _. refl;
      idle = λ _. refl;
      status = inl (inl (elim c.print.ensures.status [ inl e ↦ also 10 c.print.result e is_10 | inr e ↦ also 8 c.print.result e.0 is_8 ]));
      unlinked = λ _. inl (elim c.print.ensures.status [ inl e ↦ also 10 c.print.result e is_10 | inr e ↦ also 8 c.print.result e.0 is_8 ]);
      files_grow = still (g.F.Files.faults c.args.files.now);
      sink_grows = c.print.ensures.grows;
      files_tell = refl;
      sink_tells = c.print.ensures.tells;
      disk = lent_still g.D.Disk.tells g.D.Disk.identity g.D.Disk.faults c.args.disk;
      doors = still_lent g.L.Door.tells g.L.Door.is_out g.L.Door.faults g.L.Door.identity c.args.doors.items c.requires.home;
    }

pub returns-in-Ok-Some-Serve : goal.returns-in-Ok-Some-Serve
returns-in-Ok-Some-Serve g c =
    record {
      answers = λ told.
          inl (c.serve.ensures.answers told (map (λ w. string_bytes w) c.args.words.now) (sym c.in-Ok-Some-Serve.ensures.command ∙ ap (λ x. option_map said x) c.in-Ok-Some-Serve.field-0-is ∙ ap (λ x. Some (said x)) c.in-Ok-Some-Serve.field-0-0-is));
      cause = λ told.
          c.serve.ensures.cause told (map (λ w. string_bytes w) c.args.words.now) (sym c.in-Ok-Some-Serve.ensures.command ∙ ap (λ x. option_map said x) c.in-Ok-Some-Serve.field-0-is ∙ ap (λ x. Some (said x)) c.in-Ok-Some-Serve.field-0-0-is);
      faulty = λ none. let e = sym c.in-Ok-Some-Serve.ensures.command ∙ ap (λ x. option_map said x) c.in-Ok-Some-Serve.field-0-is ∙ ap (λ x. Some (said x)) c.in-Ok-Some-Serve.field-0-0-is in cc;
      usage = λ is. absurd (c.serve.ensures.usage is);
      files = c.serve.ensures.files;
      sink = c.serve.ensures.sink;
      failed = c.serve.ensures.failed;
      door = c.serve.ensures.door;
      link = λ is. absurd (run_not_19 c.serve.result.status c.serve.ensures.status is);
      kept = c.serve.ensures.kept;
      unused = λ no. absurd (no (subst IsOfJournal (sym (sym c.in-Ok-Some-Serve.ensures.command ∙ ap (λ x. option_map said x) c.in-Ok-Some-Serve.field-0-is ∙ ap (λ x. Some (said x)) c.in-Ok-Some-Serve.field-0-0-is)) tt));
      idle = λ no. absurd (no (subst IsOfDoors (sym (sym c.in-Ok-Some-Serve.ensures.command ∙ ap (λ x. option_map said x) c.in-Ok-Some-Serve.field-0-is ∙ ap (λ x. Some (said x)) c.in-Ok-Some-Serve.field-0-0-is)) tt));
      status = inl c.serve.ensures.status;
      unlinked = λ _. c.serve.ensures.status;
      files_grow = c.serve.ensures.files_grow;
      sink_grows = c.serve.ensures.sink_grows;
      files_tell = c.serve.ensures.files_tell;
      sink_tells = c.serve.ensures.sink_tells;
      disk = c.serve.ensures.disk;
      doors = c.serve.ensures.doors;
    }

pub returns-in-Ok-Some-Follow : goal.returns-in-Ok-Some-Follow
returns-in-Ok-Some-Follow g c =
    let asked = (sym c.in-Ok-Some-Follow.ensures.command ∙ ap (λ x. option_map said x) c.in-Ok-Some-Follow.field-0-is ∙ ap (λ x. Some (said x)) c.in-Ok-Some-Follow.field-0-0-is) in
    record {
      answers = λ told.
          elim (c.follow.ensures.answers told (map (λ w. string_bytes w) c.args.words.now) asked) [ inl e ↦ inl (idle e.0 e.1) | inr e ↦ inr (inl e) ];
      cause = λ told. c.follow.ensures.cause told (map (λ w. string_bytes w) c.args.words.now) asked;
      faulty = λ none. let e = asked in cc;
      usage = λ is. absurd (c.follow.ensures.usage is);
      files = c.follow.ensures.files;
      sink = c.follow.ensures.sink;
      failed = c.follow.ensures.failed;
      door = c.follow.ensures.door;
      link = c.follow.ensures.link;
      kept = c.follow.ensures.kept;
      unused = λ no. absurd (no (subst IsOfJournal (sym asked) tt));
      idle = λ no. absurd (no (subst IsOfDoors (sym asked) tt));
      status = c.follow.ensures.status;
      unlinked = λ no. absurd (follow_linked _ _ _ asked no);
      files_grow = c.follow.ensures.files_grow;
      sink_grows = c.follow.ensures.sink_grows;
      files_tell = c.follow.ensures.files_tell;
      sink_tells = c.follow.ensures.sink_tells;
      disk = c.follow.ensures.disk;
      doors = c.follow.ensures.doors;
    }

pub returns-in-Ok-Some-Ship : goal.returns-in-Ok-Some-Ship
returns-in-Ok-Some-Ship g c =
    let asked = (sym c.in-Ok-Some-Ship.ensures.command ∙ ap (λ x. option_map said x) c.in-Ok-Some-Ship.field-0-is ∙ ap (λ x. Some (said x)) c.in-Ok-Some-Ship.field-0-0-is) in
    record {
      answers = λ told.
          elim (c.ship.ensures.answers told (map (λ w. string_bytes w) c.args.words.now) asked) [ inl e ↦ inl (idle e.0 e.1) | inr e ↦ inr (inr e) ];
      cause = λ told. c.ship.ensures.cause told (map (λ w. string_bytes w) c.args.words.now) asked;
      faulty = λ none. let e = asked in cc;
      usage = λ is. absurd (c.ship.ensures.usage is);
      files = c.ship.ensures.files;
      sink = c.ship.ensures.sink;
      failed = c.ship.ensures.failed;
      door = c.ship.ensures.door;
      link = c.ship.ensures.link;
      kept = c.ship.ensures.kept;
      unused = λ no. absurd (no (subst IsOfJournal (sym asked) tt));
      idle = λ no. absurd (no (subst IsOfDoors (sym asked) tt));
      status = c.ship.ensures.status;
      unlinked = λ no. absurd (ship_linked _ _ _ asked no);
      files_grow = c.ship.ensures.files_grow;
      sink_grows = c.ship.ensures.sink_grows;
      files_tell = c.ship.ensures.files_tell;
      sink_tells = c.ship.ensures.sink_tells;
      disk = c.ship.ensures.disk;
      doors = c.ship.ensures.doors;
    }

-- ---- what is asked of the links
pub serve-requires-clause-fair : goal.serve-requires-clause-fair
serve-requires-clause-fair g c κs within = λ office opened reads base first.
    let asked = (sym c.in-Ok-Some-Serve.ensures.command ∙ ap (λ x. option_map said x) c.in-Ok-Some-Serve.field-0-is ∙ ap (λ x. Some (said x)) c.in-Ok-Some-Serve.field-0-0-is) in
    c.requires.fair office opened (record { bank = _; plan = _; ahead = _; asked = asked; reads = reads; is_base = base; first = first })

pub follow-requires-clause-allowed : goal.follow-requires-clause-allowed
follow-requires-clause-allowed g c κs within =
    let asked = (sym c.in-Ok-Some-Follow.ensures.command ∙ ap (λ x. option_map said x) c.in-Ok-Some-Follow.field-0-is ∙ ap (λ x. Some (said x)) c.in-Ok-Some-Follow.field-0-0-is) in
    c.requires.allowed (subst IsOfLinked (sym asked) tt)

pub ship-requires-clause-allowed : goal.ship-requires-clause-allowed
ship-requires-clause-allowed g c κs within =
    let asked = (sym c.in-Ok-Some-Ship.ensures.command ∙ ap (λ x. option_map said x) c.in-Ok-Some-Ship.field-0-is ∙ ap (λ x. Some (said x)) c.in-Ok-Some-Ship.field-0-0-is) in
    c.requires.allowed (subst IsOfLinked (sym asked) tt)
