use Rattle.std.proofs.Common.{◌≡◌, ℕ, true, false, List, length, Option, refl, subst, ◌∙◌, ap, rules}
use Rattle.std.specs.Prelude.{MatchOption}
use Rattle.ov_member.specs.Rids.{has, left_out}
use Rattle.ov_segment.specs.declared.numbered.Record.{Record}
use Rattle.ov_segment.proofs.WrittenLemmas.{records_ascend}
use Rattle.ov_fetch.specs.Extents.{page_bytes, rids_of}
use Rattle.ov_fetch.specs.Rows.{is_asked, joined}
use Rattle.ov_fetch.specs.Gathering.{SharesAt}
use Rattle.ov_fetch.proofs.Asked.{AreSorted, sorted_are, rows_are, rows_lack}
use Rattle.ov_fetch.proofs.Counted.{none_missing}
use Rattle.ov_fetch.proofs.rows.rows_and_rids_of.Goals as goal

pub rids_in-requires : goal.rids_in-requires
rids_in-requires g c =
    let sorted : AreSorted c.in_ok-kept.field-0.kept.records c.drop_repeats.new.self.records = record {
      sorted = c.sort_by_rid.new.self.records;
      permutation = c.in_ok-sort_by_rid.ensures.permutation;
      rising = c.in_ok-sort_by_rid.ensures.sorted;
      stable = c.in_ok-sort_by_rid.ensures.stable;
      got_is = c.drop_repeats.ensures.records;
    } in
    records_ascend c.args.schema.now 0 c.drop_repeats.new.self.records (sorted_are c.args.schema.now c.in_ok-kept.field-0.kept.records c.drop_repeats.new.self.records sorted c.in_ok-kept.ensures.records)

pub returns-in-None-clause-records : goal.returns-in-None-clause-records
returns-in-None-clause-records g c =
    let sorted : AreSorted c.in_ok-kept.field-0.kept.records c.drop_repeats.new.self.records = record {
      sorted = c.sort_by_rid.new.self.records;
      permutation = c.in_ok-sort_by_rid.ensures.permutation;
      rising = c.in_ok-sort_by_rid.ensures.sorted;
      stable = c.in_ok-sort_by_rid.ensures.stable;
      got_is = c.drop_repeats.ensures.records;
    } in
    sorted_are c.args.schema.now c.in_ok-kept.field-0.kept.records c.drop_repeats.new.self.records sorted c.in_ok-kept.ensures.records

pub returns-in-None-clause-answer : goal.returns-in-None-clause-answer
returns-in-None-clause-answer g c told =
    let sorted : AreSorted c.in_ok-kept.field-0.kept.records c.drop_repeats.new.self.records = record {
      sorted = c.sort_by_rid.new.self.records;
      permutation = c.in_ok-sort_by_rid.ensures.permutation;
      rising = c.in_ok-sort_by_rid.ensures.sorted;
      stable = c.in_ok-sort_by_rid.ensures.stable;
      got_is = c.drop_repeats.ensures.records;
    } in
    let found : c.in_ok-found.found ≡ rids_of c.drop_repeats.new.self.records = c.in_ok-found.ensures in
    let missing : c.in_ok-missing.missing ≡ left_out c.in_ok-wanted.wanted (rids_of c.drop_repeats.new.self.records) = c.in_ok-missing.ensures.members ∙ ap (left_out c.in_ok-wanted.wanted) found in
    let none = subst (λ (o : Option ℕ). MatchOption o ((rid : ℕ) → is_asked c.args.members.now rid ≡ true → has c.in_ok-missing.missing rid ≡ false) (SharesAt c.args.members.now c.in_ok-missing.missing)) c.in-None.is c.place_lacking.ensures.found in
    rows_are c.args.schema.now (page_bytes (g.H.Host.state c.args.host.now)) c.args.segments.now c.args.members.now c.in_ok-wanted.wanted c.in_ok-kept.field-0.kept.records c.drop_repeats.new.self.records c.in_ok-missing.missing
    c.in_ok-wanted.ensures (c.in_ok-kept.ensures.answer told) sorted missing none

pub returns-clause-answer : goal.returns-clause-answer
returns-clause-answer g c told =
    let sorted : AreSorted c.in_ok-kept.field-0.kept.records c.drop_repeats.new.self.records = record {
      sorted = c.sort_by_rid.new.self.records;
      permutation = c.in_ok-sort_by_rid.ensures.permutation;
      rising = c.in_ok-sort_by_rid.ensures.sorted;
      stable = c.in_ok-sort_by_rid.ensures.stable;
      got_is = c.drop_repeats.ensures.records;
    } in
    let found : c.in_ok-found.found ≡ rids_of c.drop_repeats.new.self.records = c.in_ok-found.ensures in
    let missing : c.in_ok-missing.missing ≡ left_out c.in_ok-wanted.wanted (rids_of c.drop_repeats.new.self.records) = c.in_ok-missing.ensures.members ∙ ap (left_out c.in_ok-wanted.wanted) found in
    let shares = subst (λ (o : Option ℕ). MatchOption o ((rid : ℕ) → is_asked c.args.members.now rid ≡ true → has c.in_ok-missing.missing rid ≡ false) (SharesAt c.args.members.now c.in_ok-missing.missing)) c.in-Some.is c.place_lacking.ensures.found in
    rows_lack c.args.schema.now (page_bytes (g.H.Host.state c.args.host.now)) c.args.segments.now c.args.lists.now c.args.members.now c.in_ok-wanted.wanted c.in_ok-kept.field-0.kept.records c.drop_repeats.new.self.records
    c.in_ok-missing.missing c.in-Some.place (record { page = 0; bytes = 0 }) c.in_ok-wanted.ensures (c.in_ok-kept.ensures.answer told) sorted missing shares c.requires

pub returns-then-len-clause-records : goal.returns-then-len-clause-records
returns-then-len-clause-records g c =
    let sorted : AreSorted c.in_ok-kept.field-0.kept.records c.drop_repeats.new.self.records = record {
      sorted = c.sort_by_rid.new.self.records;
      permutation = c.in_ok-sort_by_rid.ensures.permutation;
      rising = c.in_ok-sort_by_rid.ensures.sorted;
      stable = c.in_ok-sort_by_rid.ensures.stable;
      got_is = c.drop_repeats.ensures.records;
    } in
    sorted_are c.args.schema.now c.in_ok-kept.field-0.kept.records c.drop_repeats.new.self.records sorted c.in_ok-kept.ensures.records

pub returns-then-len-clause-answer : goal.returns-then-len-clause-answer
returns-then-len-clause-answer g c told =
    let sorted : AreSorted c.in_ok-kept.field-0.kept.records c.drop_repeats.new.self.records = record {
      sorted = c.sort_by_rid.new.self.records;
      permutation = c.in_ok-sort_by_rid.ensures.permutation;
      rising = c.in_ok-sort_by_rid.ensures.sorted;
      stable = c.in_ok-sort_by_rid.ensures.stable;
      got_is = c.drop_repeats.ensures.records;
    } in
    let got : List Record = c.drop_repeats.new.self.records in
    let kept : List Record = c.in_ok-kept.field-0.kept.records in
    let wanted : List ℕ = c.in_ok-wanted.wanted in
    let gathered = c.in_ok-kept.ensures.answer told in
    let are = sorted_are c.args.schema.now kept got sorted c.in_ok-kept.ensures.records in
    let count : length got ≡ length wanted = search rules in
    rows_are c.args.schema.now (page_bytes (g.H.Host.state c.args.host.now)) c.args.segments.now c.args.members.now wanted kept got (left_out wanted (rids_of got))
    c.in_ok-wanted.ensures gathered sorted refl
    (λ rid asked. none_missing c.args.schema.now wanted (joined gathered.contents) kept got c.in_ok-wanted.ensures.rids are sorted gathered.kept_are count rid (c.in_ok-wanted.ensures.members_are rid ∙ asked))
