use Rattle.std.proofs.Common.{◌≡◌, ◌∙◌, None, Some, length, subst}
use Rattle.std.specs.Prelude.{IfSome}
use Rattle.ov_catalog.specs.Sets as sets
use Rattle.ov_lineage.specs.Resolved.{refusal_of}
use Rattle.ov_lineage.specs.declared.resolve_err.ResolveErr.{ResolveErr}
use Rattle.ov_model.specs.Asking.{lineages_of, missing_version, name_read}
use Rattle.ov_query.proofs.Answered.{found_in}
use Rattle.ov_query.proofs.Listed.{listed_missing, listed_nowhere, listed_resolved}
use Rattle.ov_query.proofs.listing.lists_for.Goals as goal

pub returns-in_default : goal.returns-in_default
returns-in_default c =
    let query = c.args.query.now
    in let n = c.args.store.now.held.numbers
    in listed_nowhere n query c.in_ok-copy.field-0
    (found_in c.catalog.result.now.numbers n c.as_str.result.now (name_read query.source) None c.catalog.ensures (c.as_str.ensures.text ∙ c.name_of-name.ensures) c.in_default.ensures.found)
    (c.in_ok-copy.ensures.ok ∙ c.name_of-name.ensures)

pub returns-in-Ok : goal.returns-in-Ok
returns-in-Ok c =
    let query = c.args.query.now
    in let n = c.args.store.now.held.numbers
    in let set = sets.set_in c.in-Some.d.now
    in listed_resolved n query set
    (found_in c.catalog.result.now.numbers n c.as_str.result.now (name_read query.source) (Some set) c.catalog.ensures (c.as_str.ensures.text ∙ c.name_of-name.ensures) c.in-Some.ensures.found)
    c.in_ok-lineage.lineage c.in_ok-lineage.ensures c.in-Ok.resolved c.in-Ok.ensures.refused c.in-Ok.ensures.resolved

pub returns-in-Err-NoVersion : goal.returns-in-Err-NoVersion
returns-in-Err-NoVersion c =
    let query = c.args.query.now
    in let n = c.args.store.now.held.numbers
    in let set = sets.set_in c.in-Some.d.now
    in listed_missing n query set
    (found_in c.catalog.result.now.numbers n c.as_str.result.now (name_read query.source) (Some set) c.catalog.ensures (c.as_str.ensures.text ∙ c.name_of-name.ensures) c.in-Some.ensures.found)
    c.in_ok-lineage.lineage c.in_ok-lineage.ensures c.in-Err-NoVersion.vid
    (subst (λ (e : ResolveErr). IfSome (refusal_of e) (λ first. missing_version (length c.in_ok-lineage.lineage) (lineages_of query) ≡ Some first))
    c.in-Err-NoVersion.field-0-is c.in-Err-NoVersion.ensures.refused)
