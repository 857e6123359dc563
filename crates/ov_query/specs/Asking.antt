-- From a text to what it asks.
--     IsReadOf asked read      this was read of a text that asks this
use Rattle.std.specs.Prelude.{◌≡◌}
use Rattle.ov_model.specs.QueryTexts.{Asked, BadByte, NoQuery, AsksQuery, AsksJoin}
use Rattle.ov_query.specs.declared.asking.Read.{Read}
use Rattle.ov_query.specs.declared.asking.Read.TheVariants as read

abbrev pub IsReadOf : Asked → Read → Type 0
IsReadOf asked (read.Query query) = asked ≡ AsksQuery query
IsReadOf asked (read.Join join) = asked ≡ AsksJoin join
IsReadOf asked (read.BadByte at) = asked ≡ BadByte at
IsReadOf asked read.NoQuery = asked ≡ NoQuery
