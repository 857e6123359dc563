use Rattle.std.proofs.Common.{List, ◌∙◌, subst, sym}
use Rattle.ov_event.specs.Spelling.{IsEvent}
use Rattle.ov_event.specs.declared.event.Event.TheVariants as says
use Rattle.ov_value.specs.declared.column.Column.{Column}
use Rattle.ov_version_bytes.proofs.Following.{wide_spelled}
use Rattle.ov_version_bytes.proofs.next.with_columns.Goals as goal

pub returns-in_ok-copies_of-in-Commit-clause-spelled : goal.returns-in_ok-copies_of-in-Commit-clause-spelled
returns-in_ok-copies_of-in-Commit-clause-spelled c =
    let e = c.in-Commit
    in subst
    (λ (columns : List Column). IsEvent (says.Wide e.cvd e.vid e.message columns e.parents e.rows e.fresh e.place e.records e.list e.segment))
    (sym (c.new.ensures ∙ c.in_ok-copies_of-in-Commit.ensures))
    (wide_spelled c.args.added.now e.cvd e.vid e.message e.parents e.rows e.fresh e.place e.records e.list e.segment c.requires.columns (subst IsEvent e.is c.requires.event))
