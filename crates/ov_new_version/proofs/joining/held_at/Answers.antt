use Rattle.std.proofs.Common.{◌≡◌, ◌<◌, ℕ, [], List, length, get_or, sym, ◌∙◌, ap, subst}
use Rattle.std.specs.Prelude.{None, Some, Result, Ok, Err, IfOk, MatchOption, MatchResult, Option, slice_get}
use Rattle.ov_host.specs.declared.area.Extent.{Extent}
use Rattle.ov_layout.specs.declared.part.Part.{Part}
use Rattle.ov_layout.specs.Parts.{part_numbered}
use Rattle.ov_member.specs.Rids.{AreRids}
use Rattle.ov_catalog.specs.Applying.{part_numbered as number_in}
use Rattle.ov_catalog.specs.Numbers.{PartNumbers}
use Rattle.ov_catalog.specs.Sets.{part_in, set_in}
use Rattle.ov_fetch.specs.Rows.{HaveRids}
use Rattle.ov_fetch.proofs.Gathered.{same_default}
use Rattle.ov_fetch.proofs.Lacking.{get_at}
use Rattle.law_commits.specs.Agreeing.{HeldAgrees}
use Rattle.law_commits.specs.Committing.{JoinedAgrees}
use Rattle.ov_read.specs.Agreement.{IsBorneOut, Numbers}
use Rattle.ov_read.specs.Partitions.{IsPartRead}
use Rattle.ov_new_version.specs.declared.errors.CommitErr.{CommitErr}
use Rattle.ov_new_version.specs.declared.errors.CommitErr.TheVariants.{Memory, Damaged, TooManyRecords, TooLong}
use Rattle.ov_new_version.specs.Held.{IsServed, RefusesHeld, RefusesRids}
use Rattle.ov_new_version.specs.Joined.{part_at, IsPlaceThere, IsReadOf}
use Rattle.ov_new_version.proofs.Finding.{held_of}
use Rattle.ov_new_version.proofs.Holding.{held_agrees, both_ok}
use Rattle.ov_new_version.proofs.Placing.{none_in, part_seen}
use Rattle.ov_new_version.proofs.joining.held_at.Goals as goal

pub unreachable-requires : goal.unreachable-requires
unreachable-requires c =
    let parts = c.parts-parts.result.now
    in let there = subst (IsPlaceThere (set_in c.args.d.now)) c.in-Join.is c.requires.there
    in let none = subst (λ (o : Option ℕ). MatchOption o (part_numbered c.in-Join.id parts ≡ None) (λ place. (place < length parts) × (part_numbered c.in-Join.id parts ≡ slice_get parts place))) c.in-None.is c.place_with.ensures
    in there (none_in c.in-Join.id c.args.d.now.layout.parts (ap (part_numbered c.in-Join.id) (sym c.parts-parts.ensures.parts) ∙ none))

pub returns-in-Some-clause-agrees : goal.returns-in-Some-clause-agrees
returns-in-Some-clause-agrees c =
    let d = c.args.d.now
    in let s = set_in d
    in let parts : List Part = c.parts-parts.result.now
    in let here : Part = c.index-parts-at.result
    in let part = part_in here
    in let numbered : Some here ≡ part_numbered c.in-Join.id parts = sym (c.in-Some.ensures.1 ∙ get_at parts c.in-Some.at here c.in-Some.ensures.0 ∙ ap Some (sym c.index-parts-at.is))
    in let is : part_at s c.args.place ≡ Some part = part_seen d c.args.place c.in-Join.id parts (Some here) c.in-Join.is c.parts-parts.ensures.parts numbered
    in let number : number_in s.parts c.in-Join.id ≡ Some part = subst (λ place. part_at s place ≡ Some part) c.in-Join.is is
    in subst (λ place. IfOk c.rids_of.result (JoinedAgrees s place)) (sym c.in-Join.is)
    (both_ok c.rids_of.result AreRids (IsBorneOut part.records s.records) (HeldAgrees s c.in-Join.id) c.rids_of.ensures.set c.rids_of.ensures.agree
    (λ held are borne. held_agrees s c.in-Join.id part held number are borne))

pub returns-in-Some-clause-answer : goal.returns-in-Some-clause-answer
returns-in-Some-clause-answer c = λ area vids have served.
    let d = c.args.d.now
    in let s = set_in d
    in let parts : List Part = c.parts-parts.result.now
    in let here : Part = c.index-parts-at.result
    in let part = part_in here
    in let numbered : Some here ≡ part_numbered c.in-Join.id parts = sym (c.in-Some.ensures.1 ∙ get_at parts c.in-Some.at here c.in-Some.ensures.0 ∙ ap Some (sym c.index-parts-at.is))
    in let is : part_at s c.args.place ≡ Some part = part_seen d c.args.place c.in-Join.id parts (Some here) c.in-Join.is c.parts-parts.ensures.parts numbered
    in let held : List (List (List ℕ)) = c.args.held.now
    in let low : c.in-Some.at < length d.layout.parts = subst (λ (ps : List Part). c.in-Some.at < length ps) c.parts-parts.ensures.parts c.in-Some.ensures.0
    in let sets : c.as_slice.result.now ≡ get_or held c.in-Some.at [] =
    c.as_slice.ensures ∙ c.index-held-at.is ∙ same_default held c.in-Some.at c.index-held-at.result [] (subst (λ n. c.in-Some.at < n) (sym c.requires.held) low)
    in let rids : HaveRids d.schema area here.segments (get_or held c.in-Some.at []) =
    held_of d area vids held c.in-Some.at here have low (subst (λ (ps : List Part). here ≡ get_or ps c.in-Some.at here) c.parts-parts.ensures.parts c.index-parts-at.is) (subst (IsServed vids) is served)
    in subst (λ o. MatchResult c.rids_of.result (IsReadOf s area o) (λ e. RefusesHeld e s area o)) (sym is)
    (refused c.rids_of.result s area part c.rids_of.ensures.agree (c.rids_of.ensures.answer d.schema area (subst (HaveRids d.schema area here.segments) (sym sets) rids)))
  where
    refused : (r : Result (List ℕ) CommitErr) (s : Numbers) (area : List ℕ) (part : PartNumbers Extent) → IfOk r (IsBorneOut part.records s.records)
        → MatchResult r (IsPartRead s.schema area part.segments) (λ e. RefusesRids e s.schema area part.segments part.records s.records)
        → MatchResult r (IsReadOf s area (Some part)) (λ e. RefusesHeld e s area (Some part))
    refused (Ok held) s area part borne is = (is, borne)
    refused (Err Memory) s area part borne is = tt
    refused (Err (Damaged page)) s area part borne is = is
    refused (Err TooManyRecords) s area part borne is = is
    refused (Err (TooLong list_pages segment_pages)) s area part borne is = is
