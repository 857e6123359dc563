use Rattle.std.proofs.Common.{◌≡◌, not, rules, sym, ◌∙◌, ap, arith, List}
use Rattle.std.proofs.lemmas.Fn.{filter_same}
use Rattle.std.proofs.lemmas.List.{append-nil}
use Rattle.ov_layout.specs.declared.part.Part.{Part}
use Rattle.std.specs.Prelude.{filter}
use Rattle.ov_layout.specs.Parts.{stored_of}
use Rattle.ov_layout.specs.Flips.{is_empty}
use Rattle.ov_layout.proofs.GoneLemmas.{none-empty, none-gone, gone-within, stored_gone, stored-parted, take-all}
use Rattle.ov_layout.proofs.flips.give_up.Goals as goal

pub overflow_add-gone : goal.overflow_add-gone
overflow_add-gone c =
    let within = gone-within c.deref-part-items.result.now c.loop-part.part-index c.part-item.result c.loop-part-test.true in
    let all = ap (λ (parts : List Part). stored_of parts) c.deref-part-items.ensures.value in
    let here = ap (λ (part : Part). part.records) c.part-item.is in
    let same = c.from-gone.ensures in
    omega (arith, within, all, here, same, c.loop-part.invariant.sum, c.requires.stored)

pub returns-clause-left : goal.returns-clause-left
returns-clause-left c = filter_same _ (λ part. not (is_empty part)) _ (λ x b f' k. search rules) _ _ c.retain.ensures.filtered

pub returns-clause-gone : goal.returns-clause-gone
returns-clause-gone c =
    let left : c.retain.new.self.items ≡ filter (λ part. not (is_empty part)) c.args.parts.now.items = filter_same _ (λ part. not (is_empty part)) _ (λ x b f' k. search rules) _ _ c.retain.ensures.filtered in
    let all = take-all c.loop-part.part-index c.deref-part-items.result.now c.loop-part-test.false in
    let gone : c.loop-part.gone ≡ stored_gone c.args.parts.now.items = c.loop-part.invariant.sum ∙ ap (λ (parts : List Part). stored_gone parts) (all ∙ c.deref-part-items.ensures.value) in
    rw (gone, left) (stored-parted c.args.parts.now.items)

pub returns-then-not-emptied-clause-left : goal.returns-then-not-emptied-clause-left
returns-then-not-emptied-clause-left c = sym (none-empty c.args.parts.now.items (c.requires.emptied c.if-not-emptied.true))

pub returns-then-not-emptied-clause-freed : goal.returns-then-not-emptied-clause-freed
returns-then-not-emptied-clause-freed c = rw (none-gone c.args.source c.args.kept.now c.args.parts.now.items (c.requires.emptied c.if-not-emptied.true)) (sym (append-nil c.args.freed.now.items))
