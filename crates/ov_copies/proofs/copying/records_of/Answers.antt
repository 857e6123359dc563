use Rattle.std.proofs.Common.{◌≡◌, Bool, true, false, List}
use Rattle.std.proofs.lemmas.List.Sorted.{All-permutation}
use Rattle.ov_catalog.specs.Sets.{set_in}
use Rattle.ov_segment.specs.declared.numbered.Record.{Record}
use Rattle.ov_fetch.specs.Extents.{page_bytes, rids_of}
use Rattle.ov_copies.specs.Copies.{IsFrom}
use Rattle.ov_copies.proofs.Counting.{records_are, sorted_rids}
use Rattle.ov_copies.proofs.Passing.{some_versions}
use Rattle.ov_copies.proofs.copying.records_of.Goals as goal

clash : (b : Bool) → b ≡ true → b ≡ false → ⊥
clash true t f = absurd cc
clash false t f = absurd cc

pub first_page-requires-clause-some : goal.first_page-requires-clause-some
first_page-requires-clause-some g c = some_versions c.args.versions.now c.args.lists.now c.args.rids.now c.requires.some c.requires.listed c.requires.paired

pub returns-then-not-branch-clause-answer : goal.returns-then-not-branch-clause-answer
returns-then-not-branch-clause-answer g c told =
    let found : List Record = c.in_ok-records.records.records in
    let sorted : List Record = c.sort_by_rid.new.self.records in
    let gathered = c.in_ok-records.ensures.answer told in
    let is : rids_of sorted ≡ c.args.rids.now =
    sorted_rids c.args.d.now.schema found sorted c.args.rids.now c.requires.set c.in_ok-sort_by_rid.ensures.permutation c.in_ok-sort_by_rid.ensures.sorted c.in_ok-records.ensures.are gathered.once in
    absurd (clash c.in_ok-has_rids.field-0 (c.in_ok-has_rids.ensures.1 is) c.if-not-branch.true)

pub returns-clause-are : goal.returns-clause-are
returns-clause-are g c =
    records_are c.args.d.now.schema c.in_ok-records.records.records c.sort_by_rid.new.self.records c.args.rids.now c.requires.set c.in_ok-sort_by_rid.ensures.permutation
    c.in_ok-records.ensures.are (c.in_ok-has_rids.ensures.0 c.if-not-branch.false)

pub returns-clause-answer : goal.returns-clause-answer
returns-clause-answer g c told =
    let found : List Record = c.in_ok-records.records.records in
    let sorted : List Record = c.sort_by_rid.new.self.records in
    let gathered = c.in_ok-records.ensures.answer told in
    let is : rids_of sorted ≡ c.args.rids.now = c.in_ok-has_rids.ensures.0 c.if-not-branch.false in
    record {
      rids_are = is;
      are = records_are c.args.d.now.schema found sorted c.args.rids.now c.requires.set c.in_ok-sort_by_rid.ensures.permutation c.in_ok-records.ensures.are is;
      each = All-permutation (IsFrom (page_bytes (g.H.Host.state c.args.host.now)) (set_in c.args.d.now) c.args.versions.now c.args.lists.now) found sorted c.in_ok-sort_by_rid.ensures.permutation gathered.each;
    }
