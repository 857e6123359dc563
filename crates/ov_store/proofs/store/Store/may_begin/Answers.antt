use Rattle.std.proofs.Common.{◌≡◌, ◌∙◌, sym, ap, length, subst, arith, ◌<◌, ◌≤◌}
use Rattle.std.specs.List.{list_any}
use Rattle.std.proofs.lemmas.List.{length-map}
use Rattle.ov_host.specs.declared.area.Extent.{Extent}
use Rattle.ov_catalog.specs.Applying.{is_named}
use Rattle.ov_catalog.specs.Numbers.{Numbers}
use Rattle.ov_catalog.specs.Sets.{set_in}
use Rattle.ov_store.specs.Refusals.{new_off, refused}
use Rattle.ov_store.proofs.Beginning.{found_any, off_taken, off_many, off_numbers, off_none}
use Rattle.ov_store.proofs.Deciding.{may_begin_refused}
use Rattle.ov_store.proofs.store.Store.may_begin.Goals as goal

pub returns-then-is_some-clause-answer : goal.returns-then-is_some-clause-answer
returns-then-is_some-clause-answer c =
    let found : list_any (is_named c.args.name.now) c.catalog-catalog.result.now.numbers.sets ≡ c.is_some.result
    = found_any set_in c.cvd.result c.args.name.now c.catalog-catalog.result.now.numbers.sets c.cvd.ensures.found ∙ sym c.is_some.ensures
    in let same : new_off c.args.self.now.held.numbers c.args.name.now ≡ new_off c.catalog-catalog.result.now.numbers c.args.name.now
    = sym (ap (λ (n : Numbers Extent Extent). new_off n c.args.name.now) (c.catalog-catalog.ensures ∙ ap (λ kept. kept.held.numbers) c.self.view_is))
    in same ∙ off_taken c.catalog-catalog.result.now.numbers c.args.name.now (found ∙ c.if-is_some.true)

pub returns-then-cvds-ge-MOST_CVDS-clause-answer : goal.returns-then-cvds-ge-MOST_CVDS-clause-answer
returns-then-cvds-ge-MOST_CVDS-clause-answer c =
    let found : list_any (is_named c.args.name.now) c.catalog-catalog.result.now.numbers.sets ≡ c.is_some.result
    = found_any set_in c.cvd.result c.args.name.now c.catalog-catalog.result.now.numbers.sets c.cvd.ensures.found ∙ sym c.is_some.ensures
    in let many : length c.cvds.result.now ≡ length c.catalog-catalog.result.now.numbers.sets
    = sym (length-map c.cvds.result.now set_in) ∙ ap length c.cvds.ensures.sets
    in let same : new_off c.args.self.now.held.numbers c.args.name.now ≡ new_off c.catalog-catalog.result.now.numbers c.args.name.now
    = sym (ap (λ (n : Numbers Extent Extent). new_off n c.args.name.now) (c.catalog-catalog.ensures ∙ ap (λ kept. kept.held.numbers) c.self.view_is))
    in same ∙ off_many c.catalog-catalog.result.now.numbers c.args.name.now (found ∙ c.if-is_some.false) (subst (λ n. 1024 ≤ n) many c.if-cvds-ge-MOST_CVDS.true)

pub returns-then-next_number-clause-answer : goal.returns-then-next_number-clause-answer
returns-then-next_number-clause-answer c =
    let found : list_any (is_named c.args.name.now) c.catalog-catalog.result.now.numbers.sets ≡ c.is_some.result
    = found_any set_in c.cvd.result c.args.name.now c.catalog-catalog.result.now.numbers.sets c.cvd.ensures.found ∙ sym c.is_some.ensures
    in let many : length c.cvds.result.now ≡ length c.catalog-catalog.result.now.numbers.sets
    = sym (length-map c.cvds.result.now set_in) ∙ ap length c.cvds.ensures.sets
    in let same : new_off c.args.self.now.held.numbers c.args.name.now ≡ new_off c.catalog-catalog.result.now.numbers c.args.name.now
    = sym (ap (λ (n : Numbers Extent Extent). new_off n c.args.name.now) (c.catalog-catalog.ensures ∙ ap (λ kept. kept.held.numbers) c.self.view_is))
    in same ∙ off_numbers c.catalog-catalog.result.now.numbers c.args.name.now (found ∙ c.if-is_some.false) (subst (λ n. n < 1024) many c.if-cvds-ge-MOST_CVDS.false)
    (sym c.next_number.ensures ∙ c.if-next_number.true)

pub returns-clause-answer : goal.returns-clause-answer
returns-clause-answer c =
    let found : list_any (is_named c.args.name.now) c.catalog-catalog.result.now.numbers.sets ≡ c.is_some.result
    = found_any set_in c.cvd.result c.args.name.now c.catalog-catalog.result.now.numbers.sets c.cvd.ensures.found ∙ sym c.is_some.ensures
    in let many : length c.cvds.result.now ≡ length c.catalog-catalog.result.now.numbers.sets
    = sym (length-map c.cvds.result.now set_in) ∙ ap length c.cvds.ensures.sets
    in let same : new_off c.args.self.now.held.numbers c.args.name.now ≡ new_off c.catalog-catalog.result.now.numbers c.args.name.now
    = sym (ap (λ (n : Numbers Extent Extent). new_off n c.args.name.now) (c.catalog-catalog.ensures ∙ ap (λ kept. kept.held.numbers) c.self.view_is))
    in let below : c.catalog-catalog.result.now.numbers.next < 4294967295 = omega (arith, c.next_number.type_inv, c.next_number.ensures, c.if-next_number.false)
    in same ∙ off_none c.catalog-catalog.result.now.numbers c.args.name.now (found ∙ c.if-is_some.false) (subst (λ n. n < 1024) many c.if-cvds-ge-MOST_CVDS.false) below

pub returns-then-is_some-clause-world : goal.returns-then-is_some-clause-world
returns-then-is_some-clause-world c = λ w s at. sym (may_begin_refused w c.args.self.now.held s at c.args.name.now) ∙ ap (refused c.args.name.now) (returns-then-is_some-clause-answer c)

pub returns-then-cvds-ge-MOST_CVDS-clause-world : goal.returns-then-cvds-ge-MOST_CVDS-clause-world
returns-then-cvds-ge-MOST_CVDS-clause-world c = λ w s at. sym (may_begin_refused w c.args.self.now.held s at c.args.name.now) ∙ ap (refused c.args.name.now) (returns-then-cvds-ge-MOST_CVDS-clause-answer c)

pub returns-then-next_number-clause-world : goal.returns-then-next_number-clause-world
returns-then-next_number-clause-world c = λ w s at. sym (may_begin_refused w c.args.self.now.held s at c.args.name.now) ∙ ap (refused c.args.name.now) (returns-then-next_number-clause-answer c)

pub returns-clause-world : goal.returns-clause-world
returns-clause-world c = λ w s at. sym (may_begin_refused w c.args.self.now.held s at c.args.name.now) ∙ ap (refused c.args.name.now) (returns-clause-answer c)
