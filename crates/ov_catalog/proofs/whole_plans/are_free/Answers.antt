use Rattle.std.proofs.Common.{sym, ◌∙◌, arith}
use Rattle.std.specs.Prelude.{nat_le}
use Rattle.std.specs.List.{list_all}
use Rattle.std.proofs.lemmas.Bool.{and_parts, leb-true}
use Rattle.ov_catalog.specs.Planning.{ascend_from}
use Rattle.ov_catalog.proofs.WholeParts.{all-at}
use Rattle.ov_catalog.proofs.whole_plans.are_free.Goals as goal

pub is_seen-requires : goal.is_seen-requires
is_seen-requires c vid is =
    let vids = c.args.versions.now in
    let there = and_parts (ascend_from 1 vids) (list_all (λ vid. nat_le vid c.args.count) vids) (sym c.are_there.ensures ∙ c.if-are_there.true) in
    let le = leb-true vid c.args.count (all-at (λ v. nat_le v c.args.count) vids vid there.1 is) in
    let long = c.requires in
    omega (arith, le, long)
