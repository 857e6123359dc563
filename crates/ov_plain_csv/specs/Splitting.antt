-- The states and actions of a reader of CSV, and a record that it read, as the `csv` crate's definitions have them.
use Rattle.std.specs.Prelude.{ℕ, List}
use Rattle.csv.specs.Machine.{Read}
use Rattle.csv.specs.declared.parser.Action.{Action as KnownAction}
use Rattle.csv.specs.declared.parser.Action.TheVariants as act
use Rattle.csv.specs.declared.parser.State.{State as KnownState}
use Rattle.csv.specs.declared.parser.State.TheVariants as st
use Rattle.ov_plain_csv.specs.declared.csv_state.Action.{Action}
use Rattle.ov_plain_csv.specs.declared.csv_state.Action.TheVariants as does
use Rattle.ov_plain_csv.specs.declared.csv_state.State.{State}
use Rattle.ov_plain_csv.specs.declared.csv_state.State.TheVariants as is

abbrev pub state_of : State → KnownState
state_of is.StartRecord = st.StartRecord
state_of is.StartField = st.StartField
state_of is.InField = st.InField
state_of is.InQuoted = st.InQuoted
state_of is.AfterQuote = st.AfterQuote
state_of is.AfterCr = st.AfterCr

abbrev pub action_of : Action → KnownAction
action_of does.Copy = act.Copy
action_of does.EndField = act.EndField
action_of does.EndRecord = act.EndRecord
action_of does.Skip = act.Skip
