-- A change that is asked for, and what it makes of what was found.
--     which_of, change_of, said_of      its dataset, what it makes of the rows, and what is said of it
--     IsDecidedBy change last next, IsDecided change found next      what comes next, by these rows, and by what was found
use Rattle.std.specs.Prelude.{◌≡◌, List, Some, None}
use Rattle.ov_model.specs.Book.{Row}
use Rattle.ov_model.specs.declared.refusal.Refusal.TheVariants as no
use Rattle.ov_model.specs.declared.reply.Reply.{Reply}
use Rattle.ov_model.specs.declared.reply.Reply.TheVariants as says
use Rattle.ov_registry.specs.declared.registry.Registry.{Registry}
use Rattle.ov_registry.specs.declared.registry.Registry.TheVariants as registry
use Rattle.ov_staging.specs.Changing.{Change}
use Rattle.ov_staging.specs.Tables.{table_change}
use Rattle.ov_staging.specs.Users.{user_change}
use Rattle.ov_staging.specs.declared.changing.Next.{Next}
use Rattle.ov_staging.specs.declared.changing.Next.TheVariants as next
use Rattle.ov_staging.specs.declared.deciding.Asked.{Asked}
use Rattle.ov_staging.specs.declared.deciding.Asked.TheVariants as asked
use Rattle.ov_staging.specs.declared.reading.Found.{Found}
use Rattle.ov_staging.specs.declared.reading.Found.TheVariants as found

abbrev pub which_of : Asked → Registry
which_of (asked.User name) = registry.Users
which_of (asked.Unstage owner table) = registry.Stage

abbrev pub change_of : Asked → Change
change_of (asked.User name) = user_change name
change_of (asked.Unstage owner table) = table_change owner table

abbrev pub said_of : Asked → Reply
said_of (asked.User name) = says.User name
said_of (asked.Unstage owner table) = says.Unstaged owner table

abbrev pub IsDecidedBy : Change → List Row → Next → Type 0
IsDecidedBy change last (next.Refused refusal) = change.off last ≡ Some refusal
IsDecidedBy change last (next.Rows rows) = (change.off last ≡ None) × (rows.items ≡ change.rows last)

abbrev pub IsDecided : Change → Found → Next → Type 0
IsDecided change found.Foreign n = n ≡ next.Refused no.ForeignRegistry
IsDecided change (found.Rows last) n = IsDecidedBy change last.items n
