use Rattle.std.proofs.Common.{◌≡◌, get_or, true, false, sym, subst, ap, ◌∙◌}
use Rattle.std.specs.Prelude.{Some}
use Rattle.ov_layout.specs.declared.part.Part.{Part}
use Rattle.ov_layout.specs.Parts.{has, Ascend}
use Rattle.ov_layout.proofs.FlipLemmas.{numbered-here}
use Rattle.ov_catalog.specs.Sets.{part_in, target_in}
use Rattle.ov_catalog.specs.Seen.{is_kept_by}
use Rattle.ov_catalog.proofs.SeenLemmas.{placed-at, source-none, source-some}
use Rattle.ov_catalog.proofs.targets.is_source.Goals as goal

pub part_at-requires : goal.part_at-requires
part_at-requires c = c.requires.numbers

pub may_keep-requires-clause-ascend : goal.may_keep-requires-clause-ascend
may_keep-requires-clause-ascend c =
    let part = c.index-parts-at.result in
    subst (λ (p : Part). Ascend 0 p.versions) (sym c.index-parts-at.is) (c.requires.versions c.in-Some.at part c.in-Some.ensures.0)

pub may_keep-requires-clause-there : goal.may_keep-requires-clause-there
may_keep-requires-clause-there c vid there =
    let part = c.index-parts-at.result in
    let own : has (get_or c.args.parts.now c.in-Some.at part).versions vid ≡ true = subst (λ (p : Part). has p.versions vid ≡ true) c.index-parts-at.is there in
    c.requires.below vid (placed-at c.args.parts.now c.in-Some.at vid part c.in-Some.ensures.0 own)

pub returns-in-None : goal.returns-in-None
returns-in-None c = sym (source-none (λ vid. get_or c.args.seen.now vid false) c.args.parts.now (target_in c.args.t.now) c.if-t-eq0.false c.in-None.ensures)

pub returns-in-Some : goal.returns-in-Some
returns-in-Some c =
    let parts = c.args.parts.now in
    let part = c.index-parts-at.result in
    let found = numbered-here 0 parts c.in-Some.at c.args.t.now.source part c.requires.numbers c.in-Some.ensures.0 (c.in-Some.ensures.1 part) in
    c.may_keep.ensures ∙ ap (λ (p : Part). is_kept_by (λ vid. get_or c.args.seen.now vid false) (target_in c.args.t.now) (Some (part_in p))) c.index-parts-at.is
    ∙ sym (source-some (λ vid. get_or c.args.seen.now vid false) parts (target_in c.args.t.now) (get_or parts c.in-Some.at part) c.if-t-eq0.false found)
