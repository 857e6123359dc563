use Rattle.std.proofs.Common.{Some, List, sym, subst}
use Rattle.std.specs.List.{All}
use Rattle.ov_segment.specs.declared.numbered.Record.{Record}
use Rattle.ov_catalog.specs.Sets.{set_in}
use Rattle.ov_records.specs.Records.{lists_of, RowsFit}
use Rattle.law_commits.specs.Differing.{HasNoRidTwice, IsFirstDisagreeing}
use Rattle.ov_parents.proofs.Differ.{none_twice, place_there}
use Rattle.ov_parents.proofs.reading.parents_of.Goals as goal

pub first_disagreeing-requires : goal.first_disagreeing-requires
first_disagreeing-requires g c =
    record {
      once = subst (λ (ps : List (List Record)). All HasNoRidTwice ps) (sym c.deref.ensures.value) (none_twice (set_in c.args.d.now) c.args.vids.now c.in_ok-parents.parents.records.items c.in_ok-parents.ensures.each);
      fit = (c.args.d.now.schema, subst (λ (ps : List (List Record)). All (RowsFit c.args.d.now.schema) ps) (sym c.deref.ensures.value) c.in_ok-parents.ensures.fit);
    }

pub bounds-vids-place : goal.bounds-vids-place
bounds-vids-place g c =
    place_there (set_in c.args.d.now) c.args.vids.now c.in_ok-parents.parents.records.items c.in-Some.place c.in_ok-parents.ensures.each
    (subst (λ (ps : List (List Record)). IsFirstDisagreeing (lists_of ps) (Some c.in-Some.place)) c.deref.ensures.value
    (subst (IsFirstDisagreeing (lists_of c.deref.result.now)) c.in-Some.is c.in_ok-place.ensures.exactly))

pub list_page-page-requires : goal.list_page-page-requires
list_page-page-requires g c =
    c.requires.there c.in-Some.place 0
    (place_there (set_in c.args.d.now) c.args.vids.now c.in_ok-parents.parents.records.items c.in-Some.place c.in_ok-parents.ensures.each
    (subst (λ (ps : List (List Record)). IsFirstDisagreeing (lists_of ps) (Some c.in-Some.place)) c.deref.ensures.value
    (subst (IsFirstDisagreeing (lists_of c.deref.result.now)) c.in-Some.is c.in_ok-place.ensures.exactly)))
