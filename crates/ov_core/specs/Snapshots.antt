-- The events of a snapshot, of which each has a spelling or is longer than a journal.
--     IsOfSnapshot e      it is a Base, or a Whole whose schema and whose versions' parents are few enough for their counts
use Rattle.std.specs.List.{All}
use Rattle.ov_event.specs.declared.event.Event as raw
use Rattle.ov_event.specs.declared.event.Event.TheVariants as says
use Rattle.ov_event.specs.Fitting.{Few, SchemaFits}

abbrev pub IsOfSnapshot : raw.Event → Type 0
IsOfSnapshot (says.Init name schema rows list segment) = ⊥
IsOfSnapshot (says.Commit cvd vid message parents rows fresh place added list segment) = ⊥
IsOfSnapshot (says.Plan cvd p q targets) = ⊥
IsOfSnapshot (says.Copy cvd count segment) = ⊥
IsOfSnapshot (says.Flip cvd) = ⊥
IsOfSnapshot (says.Drop cvd) = ⊥
IsOfSnapshot (says.Base next) = Unit {0}
IsOfSnapshot (says.Whole said) = SchemaFits said.schema × All (λ v. Few 16 v.parents) said.versions
IsOfSnapshot (says.Wide cvd vid message columns parents rows fresh place added list segment) = ⊥
