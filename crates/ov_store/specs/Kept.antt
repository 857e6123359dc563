-- What contracts see of a store, and what its calls keep to.
use Rattle.std.specs.Prelude.{◌≡◌, Bool, true}
use Rattle.ov_host.specs.Host.{State}
use Rattle.ov_core.specs.Held.{GoesOn, Held}
use Rattle.ov_fetch.specs.Extents.{Looked}
use Rattle.ov_store.specs.declared.errors.StoreErr.{StoreErr}
use Rattle.ov_store.specs.declared.errors.StoreErr.TheVariants as why

-- what the core keeps, and whether the store can be used
pub record Kept : Type 0 where
  pub held : Held
  pub usable : Bool

-- what a call that takes a host asks
pub record MayCall (store : Kept) (s : State) : Type 0 where
  pub usable : store.usable ≡ true
  pub goes_on : s.tells ≡ true → GoesOn store.held s

-- after a refusal the store is as it was, and the host was at most looked at
abbrev pub Stays : StoreErr → Kept → Kept → State → State → Type 0
Stays why.Host old new s t = Unit {0}
Stays _ old new s t = (new ≡ old) × Looked s t
