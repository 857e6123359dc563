-- What of an event no spelling says: how long its extents are, and where.
--     IsSoundEvent e      they are those of so many rows, and of so many records
use Rattle.std.specs.Prelude.{IsTrue, not, ◌==◌}
use Rattle.ov_event.specs.declared.event.Event as raw
use Rattle.ov_event.specs.declared.event.Event.TheVariants as says
use Rattle.ov_catalog.specs.Applying.{is_extent, is_list, is_segment}
use Rattle.ov_catalog.specs.Raw.{whole_in}
use Rattle.ov_catalog.specs.Wholes.{are_placed}

abbrev pub IsSoundEvent : raw.Event → Type 0
IsSoundEvent (says.Init name schema rows list segment) = IsTrue (is_list rows list) × IsTrue (is_segment rows segment)
IsSoundEvent (says.Commit cvd vid message parents rows fresh place added list segment) = IsTrue (is_list rows list) × IsTrue (is_segment added segment)
IsSoundEvent (says.Plan cvd p q targets) = Unit {0}
IsSoundEvent (says.Copy cvd count segment) = IsTrue (not (segment.bytes == 0)) × IsTrue (is_extent segment)
IsSoundEvent (says.Flip cvd) = Unit {0}
IsSoundEvent (says.Drop cvd) = Unit {0}
IsSoundEvent (says.Base next) = Unit {0}
IsSoundEvent (says.Whole said) = IsTrue (are_placed (whole_in said))
IsSoundEvent (says.Wide cvd vid message columns parents rows fresh place added list segment) = IsTrue (is_list rows list) × IsTrue (is_segment added segment)
