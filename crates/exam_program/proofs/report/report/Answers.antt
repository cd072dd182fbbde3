use Rattle.std.proofs.Common.{subst}
use Rattle.bank_reader.specs.Texts.{bank_text}
use Rattle.spec_reader.specs.Texts.{plan_text}
use Rattle.replay_cli.specs.Texts.{script_text}
use Rattle.form_lines.specs.Texts.{no_series, no_series_within}
use Rattle.exam_program.specs.declared.halt.Halt.{Halt}
use Rattle.exam_program.specs.Outcomes.{Halts}
use Rattle.exam_program.specs.Texts.{journal_text, sessions_limit, journal_limit, no_form, no_base_form}
use Rattle.exam_program.proofs.report.report.Goals as goal

pub returns-in-Bank-clause-answers : goal.returns-in-Bank-clause-answers
returns-in-Bank-clause-answers g c = λ words o first halts. c.print_text.ensures.answers words o first (bank_text c.in-Bank.fault) c.text.ensures (subst (λ (h : Halt). Halts words o (g.O.Sink.tells c.args.out.now) first (g.O.Sink.written c.args.out.now) h) c.in-Bank.is halts)

pub returns-in-Plan-clause-answers : goal.returns-in-Plan-clause-answers
returns-in-Plan-clause-answers g c = λ words o first halts. c.print_text-in-Plan.ensures.answers words o first (plan_text c.in-Plan.fault) c.text-in-Plan.ensures (subst (λ (h : Halt). Halts words o (g.O.Sink.tells c.args.out.now) first (g.O.Sink.written c.args.out.now) h) c.in-Plan.is halts)

pub returns-in-Script-clause-answers : goal.returns-in-Script-clause-answers
returns-in-Script-clause-answers g c = λ words o first halts. c.print_text-in-Script.ensures.answers words o first (script_text c.in-Script.fault) c.text-in-Script.ensures (subst (λ (h : Halt). Halts words o (g.O.Sink.tells c.args.out.now) first (g.O.Sink.written c.args.out.now) h) c.in-Script.is halts)

pub returns-in-Journal-clause-answers : goal.returns-in-Journal-clause-answers
returns-in-Journal-clause-answers g c = λ words o first halts. c.print_text-in-Journal.ensures.answers words o first (journal_text c.in-Journal.fault) c.journal_text.ensures (subst (λ (h : Halt). Halts words o (g.O.Sink.tells c.args.out.now) first (g.O.Sink.written c.args.out.now) h) c.in-Journal.is halts).1

pub returns-in-Sessions-clause-answers : goal.returns-in-Sessions-clause-answers
returns-in-Sessions-clause-answers g c = λ words o first halts. c.print_text-in-Sessions.ensures.answers words o first (sessions_limit c.in-Sessions.count c.in-Sessions.most) c.sessions_limit.ensures (subst (λ (h : Halt). Halts words o (g.O.Sink.tells c.args.out.now) first (g.O.Sink.written c.args.out.now) h) c.in-Sessions.is halts)

pub returns-in-JournalFull-clause-answers : goal.returns-in-JournalFull-clause-answers
returns-in-JournalFull-clause-answers g c = λ words o first halts. c.print_text-in-JournalFull.ensures.answers words o first (journal_limit c.in-JournalFull.size c.in-JournalFull.most) c.journal_limit.ensures (subst (λ (h : Halt). Halts words o (g.O.Sink.tells c.args.out.now) first (g.O.Sink.written c.args.out.now) h) c.in-JournalFull.is halts)

pub returns-in-NoForm-clause-answers : goal.returns-in-NoForm-clause-answers
returns-in-NoForm-clause-answers g c = λ words o first halts. c.print_bytes.ensures.answers words o first (no_form c.in-NoForm.tree) c.no_form_text.ensures (subst (λ (h : Halt). Halts words o (g.O.Sink.tells c.args.out.now) first (g.O.Sink.written c.args.out.now) h) c.in-NoForm.is halts).1

pub returns-in-NoBaseForm-clause-answers : goal.returns-in-NoBaseForm-clause-answers
returns-in-NoBaseForm-clause-answers g c = λ words o first halts. c.print_bytes-in-NoBaseForm.ensures.answers words o first (no_base_form c.in-NoBaseForm.budget c.in-NoBaseForm.tree) c.no_base_form_text.ensures (subst (λ (h : Halt). Halts words o (g.O.Sink.tells c.args.out.now) first (g.O.Sink.written c.args.out.now) h) c.in-NoBaseForm.is halts).1

pub returns-in-NoSeries-clause-answers : goal.returns-in-NoSeries-clause-answers
returns-in-NoSeries-clause-answers g c = λ words o first halts. c.print_bytes-in-NoSeries.ensures.answers words o first (no_series c.in-NoSeries.tree) c.no_series_text.ensures (subst (λ (h : Halt). Halts words o (g.O.Sink.tells c.args.out.now) first (g.O.Sink.written c.args.out.now) h) c.in-NoSeries.is halts).1

pub returns-in-NoSeriesFound-clause-answers : goal.returns-in-NoSeriesFound-clause-answers
returns-in-NoSeriesFound-clause-answers g c = λ words o first halts. c.print_bytes-in-NoSeriesFound.ensures.answers words o first (no_series_within c.in-NoSeriesFound.budget c.in-NoSeriesFound.tree) c.none_found_text.ensures (subst (λ (h : Halt). Halts words o (g.O.Sink.tells c.args.out.now) first (g.O.Sink.written c.args.out.now) h) c.in-NoSeriesFound.is halts).1
