-- The commands on staged tables.
--     table_change owner table      its row less, where it is there
--     tables_reply, AreShown      the reply to `tables`, by the rows of the staged tables
use Rattle.std.specs.Prelude.{◌≡◌, ◌⊎◌, ℕ, not, List, Option, Some, None, filter, is_some, map}
use Rattle.ov_host.specs.Host.{State}
use Rattle.ov_model.specs.Act.{if_so}
use Rattle.ov_model.specs.Book.{Row}
use Rattle.ov_model.specs.Deed.{is_own, table_named, table_shown}
use Rattle.ov_model.specs.Registry.{stage_schema, table_in, without_row}
use Rattle.ov_model.specs.declared.refusal.Refusal.TheVariants as no
use Rattle.ov_model.specs.declared.refusal.Refusal.{Refusal}
use Rattle.ov_model.specs.declared.reply.Reply.{Reply}
use Rattle.ov_model.specs.declared.reply.Reply.TheVariants as says
use Rattle.ov_registry.specs.Last.{AreLast}
use Rattle.ov_store.specs.Committing.{Set}
use Rattle.ov_staging.specs.Changing.{Change}
use Rattle.ov_staging.specs.Reading.{foreign_off}
use Rattle.ov_staging.specs.declared.reading.Found.{Found}
use Rattle.ov_staging.specs.declared.reading.Found.TheVariants as found

abbrev pub table_rows : List ℕ → List ℕ → List Row → List Row
table_rows owner table rows = without_row rows owner table

abbrev pub table_change : List ℕ → List ℕ → Change
table_change owner table =
    record { off = λ rows. if_so (not (is_some (table_in rows owner table))) (no.NoTable (table_named owner table)); rows = table_rows owner table }

-- the user's own, by name
abbrev pub tables_reply : List ℕ → List Row → Reply
tables_reply user rows = says.Tables (map table_shown (filter (is_own user) rows))

-- by what was found of the staged tables
abbrev pub AreShownBy : List ℕ → Found → Reply → Type 0
AreShownBy user found.Foreign reply = reply ≡ says.Refused no.ForeignRegistry
AreShownBy user (found.Rows rows) reply = reply ≡ tables_reply user rows.items

abbrev pub AreShown : List ℕ → Option Set → State → Reply → Type 0
AreShown user set s reply =
    ((refusal : Refusal) × (foreign_off stage_schema set ≡ Some refusal) × (reply ≡ says.Refused refusal))
    ⊎ ((foreign_off stage_schema set ≡ None) × (rows : List Row) × AreLast set s rows × (reply ≡ tables_reply user rows))
