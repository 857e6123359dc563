use Rattle.std.proofs.Common.{◌≡◌, ℕ, true, false, List, Option, subst}
use Rattle.std.specs.Prelude.{MatchOption}
use Rattle.ov_member.specs.Rids.{has}
use Rattle.ov_fetch.specs.Extents.{page_bytes}
use Rattle.ov_fetch.specs.Gathering.{SharesAt}
use Rattle.ov_fetch.specs.Rows.{is_asked}
use Rattle.ov_fetch.specs.Firsts.{AreFirstRows, RefusesFirstRows}
use Rattle.ov_fetch.proofs.Asked.{AreSorted, sorted_are}
use Rattle.ov_fetch.proofs.Gathered.{passed_on}
use Rattle.ov_fetch.proofs.Needed.{fetched_of, first_rows, first_rows_lack, refuses_of}
use Rattle.ov_fetch.proofs.firsts.first_rows_of.Goals as goal

pub returns-in_err-kept-clause-no_more : goal.returns-in_err-kept-clause-no_more
returns-in_err-kept-clause-no_more g c =
    fetched_of c.args.schema.now (g.H.Host.state c.args.host.now) (g.H.Host.state c.gather_firsts.new.host) c.args.segments.now c.args.members.now c.in_ok-wanted.wanted c.in_ok-wanted.ensures c.in_err-kept.ensures.no_more

pub returns-in_err-kept-clause-answer : goal.returns-in_err-kept-clause-answer
returns-in_err-kept-clause-answer g c told =
    let area : List ℕ = page_bytes (g.H.Host.state c.args.host.now) in
    passed_on (λ found. AreFirstRows c.args.schema.now area c.args.segments.now c.args.members.now found.records)
    (λ e. RefusesFirstRows e c.args.schema.now area c.args.segments.now c.args.lists.now c.args.members.now) c.from_residual-in_err-kept.result c.in_err-kept.field-0.0 c.from_residual-in_err-kept.ensures
    (refuses_of c.args.schema.now area c.args.segments.now c.args.lists.now c.args.members.now c.in_ok-wanted.wanted c.in_err-kept.field-0.0 c.in_ok-wanted.ensures (c.in_err-kept.ensures.answer told))

pub returns-in_err-sort_by_rid-clause-no_more : goal.returns-in_err-sort_by_rid-clause-no_more
returns-in_err-sort_by_rid-clause-no_more g c =
    fetched_of c.args.schema.now (g.H.Host.state c.args.host.now) (g.H.Host.state c.gather_firsts.new.host) c.args.segments.now c.args.members.now c.in_ok-wanted.wanted c.in_ok-wanted.ensures c.in_ok-kept.ensures.no_more

pub returns-in-None-clause-no_more : goal.returns-in-None-clause-no_more
returns-in-None-clause-no_more g c =
    fetched_of c.args.schema.now (g.H.Host.state c.args.host.now) (g.H.Host.state c.gather_firsts.new.host) c.args.segments.now c.args.members.now c.in_ok-wanted.wanted c.in_ok-wanted.ensures c.in_ok-kept.ensures.no_more

pub returns-in-None-clause-records : goal.returns-in-None-clause-records
returns-in-None-clause-records g c =
    let sorted : AreSorted c.in_ok-kept.field-0.kept.records c.drop_repeats.new.self.records = record {
      sorted = c.sort_by_rid.new.self.records;
      permutation = c.in_ok-sort_by_rid.ensures.permutation;
      rising = c.in_ok-sort_by_rid.ensures.sorted;
      stable = c.in_ok-sort_by_rid.ensures.stable;
      got_is = c.drop_repeats.ensures.records;
    } in
    sorted_are c.args.schema.now c.in_ok-kept.field-0.kept.records c.drop_repeats.new.self.records sorted c.in_ok-kept.ensures.records

pub returns-in-None-clause-answer : goal.returns-in-None-clause-answer
returns-in-None-clause-answer g c told =
    let sorted : AreSorted c.in_ok-kept.field-0.kept.records c.drop_repeats.new.self.records = record {
      sorted = c.sort_by_rid.new.self.records;
      permutation = c.in_ok-sort_by_rid.ensures.permutation;
      rising = c.in_ok-sort_by_rid.ensures.sorted;
      stable = c.in_ok-sort_by_rid.ensures.stable;
      got_is = c.drop_repeats.ensures.records;
    } in
    let left : List ℕ = c.in_ok-kept.field-0.left in
    let none = subst (λ (o : Option ℕ). MatchOption o ((rid : ℕ) → is_asked c.args.members.now rid ≡ true → has left rid ≡ false) (SharesAt c.args.members.now left)) c.in-None.is c.place_lacking.ensures.found in
    first_rows c.args.schema.now (page_bytes (g.H.Host.state c.args.host.now)) c.args.segments.now c.args.members.now c.in_ok-wanted.wanted left c.in_ok-kept.field-0.kept.records c.drop_repeats.new.self.records
    c.in_ok-wanted.ensures (c.in_ok-kept.ensures.answer told) sorted none

pub returns-clause-no_more : goal.returns-clause-no_more
returns-clause-no_more g c =
    fetched_of c.args.schema.now (g.H.Host.state c.args.host.now) (g.H.Host.state c.gather_firsts.new.host) c.args.segments.now c.args.members.now c.in_ok-wanted.wanted c.in_ok-wanted.ensures c.in_ok-kept.ensures.no_more

pub returns-clause-answer : goal.returns-clause-answer
returns-clause-answer g c told =
    let sorted : AreSorted c.in_ok-kept.field-0.kept.records c.drop_repeats.new.self.records = record {
      sorted = c.sort_by_rid.new.self.records;
      permutation = c.in_ok-sort_by_rid.ensures.permutation;
      rising = c.in_ok-sort_by_rid.ensures.sorted;
      stable = c.in_ok-sort_by_rid.ensures.stable;
      got_is = c.drop_repeats.ensures.records;
    } in
    let left : List ℕ = c.in_ok-kept.field-0.left in
    let shares = subst (λ (o : Option ℕ). MatchOption o ((rid : ℕ) → is_asked c.args.members.now rid ≡ true → has left rid ≡ false) (SharesAt c.args.members.now left)) c.in-Some.is c.place_lacking.ensures.found in
    first_rows_lack c.args.schema.now (page_bytes (g.H.Host.state c.args.host.now)) c.args.segments.now c.args.lists.now c.args.members.now c.in_ok-wanted.wanted left c.in_ok-kept.field-0.kept.records c.drop_repeats.new.self.records
    c.in-Some.place (record { page = 0; bytes = 0 }) c.in_ok-wanted.ensures (c.in_ok-kept.ensures.answer told) sorted shares c.requires
