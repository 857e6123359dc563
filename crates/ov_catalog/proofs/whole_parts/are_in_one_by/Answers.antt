use Rattle.std.proofs.Common.{Bool, List, true, false, length, sym, subst, ap, ◌∙◌, arith}
use Rattle.std.specs.List.{list_all}
use Rattle.std.proofs.lemmas.List.Folds.{list_all-map}
use Rattle.ov_catalog.specs.Seen.{IsOnce}
use Rattle.ov_catalog.specs.Sets.{part_in}
use Rattle.ov_catalog.specs.Wholes.{is_part}
use Rattle.ov_catalog.proofs.TargetLemmas.{rest-drop}
use Rattle.ov_catalog.proofs.WholeMarks.{each-once, not-once}
use Rattle.ov_catalog.proofs.WholeParts.{placed-within}
use Rattle.ov_catalog.proofs.whole_parts.are_in_one_by.Goals as goal

pub mark_once-requires-clause-within : goal.mark_once-requires-clause-within
mark_once-requires-clause-within c vid there =
    let d = c.args.d.now in
    let count = length d.versions.items in
    let each = list_all-map (is_part count d.records) part_in d.parts.items ∙ c.requires.parts in
    let within = placed-within count d.records d.parts.items each vid (rw c.deref.ensures.value at there) in
    let le = within.1 in
    let long = c.requires.long in
    omega (arith, le, long)

pub returns-then-mark_once : goal.returns-then-mark_once
returns-then-mark_once c =
    let d = c.args.d.now in
    let seen = c.mark_once.new.seen in
    let marked : IsOnce c.mark_once.result seen d.parts.items = rw c.deref.ensures.value at c.mark_once.ensures in
    let once : IsOnce true seen d.parts.items = subst (λ (b : Bool). IsOnce b seen d.parts.items) c.if-mark_once.true marked in
    let kept = c.mark_once.auto.seen in
    let long = c.requires.long in
    c.are_all.ensures ∙ ap (λ (bs : List Bool). list_all (λ b. b) bs) (rest-drop seen 1)
    ∙ each-once (length d.versions.items) d.parts.items seen (omega (arith, kept, long)) once

pub returns-else-mark_once : goal.returns-else-mark_once
returns-else-mark_once c =
    let d = c.args.d.now in
    let count = length d.versions.items in
    let seen = c.mark_once.new.seen in
    let each = list_all-map (is_part count d.records) part_in d.parts.items ∙ c.requires.parts in
    let marked : IsOnce c.mark_once.result seen d.parts.items = rw c.deref.ensures.value at c.mark_once.ensures in
    let twice : IsOnce false seen d.parts.items = subst (λ (b : Bool). IsOnce b seen d.parts.items) c.if-mark_once.false marked in
    c.if-mark_once.false ∙ sym (not-once count d.records d.parts.items seen each twice)
