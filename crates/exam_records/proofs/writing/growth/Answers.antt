use Rattle.std.proofs.Common.{◌≡◌, ◌-◌, ◌*◌, ◌∙◌, ℕ, ap, sym, subst, rules, arith}
use Rattle.exam_records.specs.Shape.{HasNoList}
use Rattle.exam_records.specs.Spelling.{more_bytes}
use Rattle.exam_records.proofs.VersionLaws.{more_unlisted, longer_by}
use Rattle.exam_records.proofs.writing.growth.Goals as goal

pub returns-in-Started-clause-more : goal.returns-in-Started-clause-more
returns-in-Started-clause-more c =
    sym (ap more_bytes c.in-Started.is ∙ (more_unlisted c.in-Started.session c.in-Started.booking c.in-Started.eligible c.in-Started.without (subst HasNoList c.in-Started.is c.requires.unlisted) ∙ ap (λ (n : ℕ). 64 * n - 63) (sym c.from.ensures)))

pub returns-in-Started-clause-longer : goal.returns-in-Started-clause-longer
returns-in-Started-clause-longer c = λ first tree.
    let more : more_bytes c.args.entry.now ≡ 64 * c.from.result - 63 = ap more_bytes c.in-Started.is ∙ (more_unlisted c.in-Started.session c.in-Started.booking c.in-Started.eligible c.in-Started.without (subst HasNoList c.in-Started.is c.requires.unlisted) ∙ ap (λ (n : ℕ). 64 * n - 63) (sym c.from.ensures)) in
    omega (arith, longer_by first (record { entry = c.args.entry.now; tree = tree }) c.requires.bands)

pub returns-in-SetAside-clause-longer : goal.returns-in-SetAside-clause-longer
returns-in-SetAside-clause-longer c = λ first tree.
    let more : more_bytes c.args.entry.now ≡ 3 = search rules in
    omega (arith, longer_by first (record { entry = c.args.entry.now; tree = tree }) c.requires.bands)

pub returns-in-Served-clause-longer : goal.returns-in-Served-clause-longer
returns-in-Served-clause-longer c = λ first tree.
    let more : more_bytes c.args.entry.now ≡ 0 = search rules in
    omega (arith, longer_by first (record { entry = c.args.entry.now; tree = tree }) c.requires.bands)

pub returns-in-Served-2-clause-longer : goal.returns-in-Served-2-clause-longer
returns-in-Served-2-clause-longer c = λ first tree.
    let more : more_bytes c.args.entry.now ≡ 0 = search rules in
    omega (arith, longer_by first (record { entry = c.args.entry.now; tree = tree }) c.requires.bands)

pub returns-in-Served-3-clause-longer : goal.returns-in-Served-3-clause-longer
returns-in-Served-3-clause-longer c = λ first tree.
    let more : more_bytes c.args.entry.now ≡ 0 = search rules in
    omega (arith, longer_by first (record { entry = c.args.entry.now; tree = tree }) c.requires.bands)
