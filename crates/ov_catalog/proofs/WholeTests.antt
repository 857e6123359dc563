-- What holds of a Whole that applies, test by test.
use Rattle.std.proofs.Common.{◌≡◌, Bool, true, false, ◌&&◌, length, refl}
use Rattle.std.specs.Prelude.{Option, Some, None, nat_le}
use Rattle.std.specs.List.{list_all}
use Rattle.std.specs.Option.{option_or}
use Rattle.ov_event.specs.declared.whole.Whole.{Whole}
use Rattle.ov_host.specs.declared.area.Extent.{Extent}
use Rattle.ov_catalog.specs.declared.field.Field.{Field}
use Rattle.ov_catalog.specs.declared.field.Field.TheVariants as off
use Rattle.ov_catalog.specs.Numbers.{SetNumbers, Numbers}
use Rattle.ov_catalog.specs.Raw.{whole_in}
use Rattle.ov_catalog.specs.Testing.{name_off, is_schema, off_unless}
use Rattle.ov_catalog.specs.Wholes.{are_versions, are_records, are_parts, is_threshold_for, is_plan, are_placed, whole_off}

pub record Passes (said : Whole) (d : SetNumbers Extent Extent) (n : Numbers Extent Extent) : Type 0 where
  pub name : name_off said.name n ≡ None
  pub schema : is_schema said.schema ≡ true
  pub versions : are_versions d.versions ≡ true
  pub messages : list_all (λ v. nat_le (length v.message) 1024) d.versions ≡ true
  pub records : are_records d ≡ true
  pub parts : are_parts d ≡ true
  pub plan : (is_threshold_for said.p said.q d.plan && is_plan d d.plan) ≡ true
  pub placed : are_placed d ≡ true

both_none : (a b : Option Field) → option_or a b ≡ None → (a ≡ None) × (b ≡ None)
both_none None b none = (refl, none)
both_none (Some field) b none = absurd cc

holds : (b : Bool) (field : Field) → off_unless b field ≡ None → b ≡ true
holds true field none = refl
holds false field none = absurd cc

pub passes : (said : Whole) (n : Numbers Extent Extent) → whole_off said (whole_in said) n ≡ None → Passes said (whole_in said) n
passes said n none =
    let d : SetNumbers Extent Extent = whole_in said
    in let a = both_none (name_off said.name n) _ none
    in let b = both_none (off_unless (is_schema said.schema) off.Schema) _ a.1
    in let e = both_none (off_unless (are_versions d.versions) off.Parent) _ b.1
    in let f = both_none (off_unless (list_all (λ v. nat_le (length v.message) 1024) d.versions) off.Message) _ e.1
    in let g = both_none (off_unless (are_records d) off.Rows) _ f.1
    in let h = both_none (off_unless (are_parts d) off.Placing) _ g.1
    in let k = both_none (off_unless (is_threshold_for said.p said.q d.plan && is_plan d d.plan) off.Plan) (off_unless (are_placed d) off.Place) h.1
    in record {
      name = a.0;
      schema = holds (is_schema said.schema) off.Schema b.0;
      versions = holds (are_versions d.versions) off.Parent e.0;
      messages = holds (list_all (λ v. nat_le (length v.message) 1024) d.versions) off.Message f.0;
      records = holds (are_records d) off.Rows g.0;
      parts = holds (are_parts d) off.Placing h.0;
      plan = holds (is_threshold_for said.p said.q d.plan && is_plan d d.plan) off.Plan k.0;
      placed = holds (are_placed d) off.Place k.1;
    }
