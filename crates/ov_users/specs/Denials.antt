-- A denial as the refusal that it is.
use Rattle.std.specs.Prelude.{Option, Some, None, Result, Ok, Err}
use Rattle.ov_model.specs.declared.refusal.Refusal.{Refusal}
use Rattle.ov_model.specs.declared.refusal.Refusal.TheVariants as no
use Rattle.ov_users.specs.declared.denying.Denied.{Denied}

abbrev pub denial_of : Result (Unit {0}) Denied → Option Refusal
denial_of (Ok allowed) = None
denial_of (Err denied) = Some (no.Denied denied.rule)
