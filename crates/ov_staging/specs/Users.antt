-- The commands on users.
--     user_change name      a row more, where the user isn't there
--     create_off name set      why the numbers refuse a `create_user`: 63 and 76
--     config_off name set      why they refuse a `config`: 76, and 72 of what is no name
--     config_reply, IsConfigured      the reply to a `config`, by the rows of the users
use Rattle.std.specs.Prelude.{◌≡◌, ◌⊎◌, ℕ, true, false, not, List, Option, Some, None}
use Rattle.std.specs.Option.{option_or}
use Rattle.ov_host.specs.Host.{State}
use Rattle.ov_model.specs.Act.{if_so}
use Rattle.ov_model.specs.Book.{Row}
use Rattle.ov_model.specs.Registry.{is_user, user_row, users_schema, with_row}
use Rattle.ov_model.specs.declared.refusal.Refusal.{Refusal}
use Rattle.ov_model.specs.declared.refusal.Refusal.TheVariants as no
use Rattle.ov_model.specs.declared.reply.Reply.{Reply}
use Rattle.ov_model.specs.declared.reply.Reply.TheVariants as says
use Rattle.ov_registry.specs.Last.{AreLast}
use Rattle.ov_registry.specs.declared.registry.Registry.TheVariants as registry
use Rattle.ov_store.specs.Committing.{Set}
use Rattle.ov_store.specs.Kept.{Kept}
use Rattle.ov_value.specs.Naming.{is_name}
use Rattle.ov_staging.specs.Changing.{Change, IsAnswered}
use Rattle.ov_staging.specs.Reading.{answer_or, foreign_off}
use Rattle.ov_staging.specs.declared.reading.Found.{Found}
use Rattle.ov_staging.specs.declared.reading.Found.TheVariants as found

abbrev pub user_rows : List ℕ → List Row → List Row
user_rows name rows = with_row rows (user_row name)

abbrev pub user_change : List ℕ → Change
user_change name = record { off = λ rows. if_so (is_user rows name) (no.UserExists name); rows = user_rows name }

abbrev pub create_off : List ℕ → Option Set → Option Refusal
create_off name set = option_or (if_so (not (is_name name)) (no.BadName name)) (foreign_off users_schema set)

abbrev pub IsCreated : List ℕ → Option Set → Reply → Kept → Kept → State → State → Type 0
IsCreated name set reply before now old new =
    ((is_name name ≡ false) × (reply ≡ says.Refused (no.BadName name)) × (now ≡ before) × (new ≡ old))
    ⊎ ((is_name name ≡ true) × IsAnswered registry.Users set (user_change name) (says.User name) reply before now old new)

abbrev pub config_off : List ℕ → Option Set → Option Refusal
config_off name set = option_or (foreign_off users_schema set) (if_so (not (is_name name)) (no.NoUser name))

abbrev pub config_reply : List ℕ → List Row → Reply
config_reply name rows = answer_or (if_so (not (is_user rows name)) (no.NoUser name)) (says.User name)

-- by what was found of the users
abbrev pub IsConfiguredBy : List ℕ → Found → Reply → Type 0
IsConfiguredBy name found.Foreign reply = reply ≡ says.Refused no.ForeignRegistry
IsConfiguredBy name (found.Rows rows) reply = reply ≡ config_reply name rows.items

abbrev pub IsConfigured : List ℕ → Option Set → State → Reply → Type 0
IsConfigured name set s reply =
    ((refusal : Refusal) × (config_off name set ≡ Some refusal) × (reply ≡ says.Refused refusal))
    ⊎ ((config_off name set ≡ None) × (rows : List Row) × AreLast set s rows × (reply ≡ config_reply name rows))
