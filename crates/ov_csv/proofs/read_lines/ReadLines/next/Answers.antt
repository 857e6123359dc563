-- A read takes the first of the records that are left.
use Rattle.ov_csv.proofs.Steps.{read-takes, read-reads}
use Rattle.ov_csv.proofs.read_lines.ReadLines.next.Goals as goal

pub invariant_of-self-2 : goal.invariant_of-self-2
invariant_of-self-2 c =
    let before = c.self.invariant c.if-self.false in
    let is = c.in_ok-found.ensures in
    let read = (rw is at c.read_byte_record.ensures.reads) before.plain before.ready in
    let goes = rw is at c.read_byte_record.ensures.goes in
    let first = (rw is at c.read_byte_record.ensures.ready) before.plain in
    λ e. read-reads _ c.self.inside.reader c.read_byte_record.new.self c.in_ok-found.found _ before read goes first e

pub returns-clause-ok : goal.returns-clause-ok
returns-clause-ok c =
    let before = c.self.invariant c.if-self.false in
    let is = c.in_ok-found.ensures in
    let read = (rw is at c.read_byte_record.ensures.reads) before.plain before.ready in
    let goes = rw is at c.read_byte_record.ensures.goes in
    let first = (rw is at c.read_byte_record.ensures.ready) before.plain in
    rw (← c.self.view_is, c.if-self.false) (read-takes _ c.self.inside.reader c.read_byte_record.new.self c.in_ok-found.found _ before read goes first)
