-- What a command means that looked at the host first.
use Rattle.std.proofs.Common.{◌≡◌, ◌∙◌, ℕ, Bool, true, false, List, [], sym, ap, subst}
use Rattle.std.specs.Prelude.{Option, Ok, Err, Result, not}
use Rattle.std.specs.Option.{option_or}
use Rattle.ov_core.specs.Held.{Held}
use Rattle.ov_host.specs.Host.{State}
use Rattle.ov_host.specs.Stops.{Only}
use Rattle.ov_host.specs.Tape.{Tape}
use Rattle.ov_model.specs.Act.{Deed, Session, if_so, refuses, unless}
use Rattle.ov_model.specs.Book.{Row}
use Rattle.ov_model.specs.Course.{Makes, attempts}
use Rattle.ov_model.specs.Deed.{changes, create_user_deed}
use Rattle.ov_model.specs.Registry.{last_rows, users_name, users_schema}
use Rattle.ov_model.specs.World.{Dataset, World, set_named}
use Rattle.ov_model.specs.declared.refusal.Refusal.{Refusal}
use Rattle.ov_model.specs.declared.refusal.Refusal.TheVariants as no
use Rattle.ov_model.specs.declared.reply.Reply.{Reply}
use Rattle.ov_model.specs.declared.reply.Reply.TheVariants as says
use Rattle.ov_registry.specs.Last.{name_of, schema_of}
use Rattle.ov_registry.specs.declared.registry.Registry.{Registry}
use Rattle.ov_registry.specs.declared.registry.Registry.TheVariants as registry
use Rattle.ov_value.specs.Naming.{is_name}
use Rattle.law_runs.specs.Serving.{Does}
use Rattle.law_runs.specs.Stops.{IsFound}
use Rattle.std.specs.Prelude.{map}
use Rattle.ov_staging.specs.Changing.{Change, IsNextIn, change_deed, change_off, next_deed}
use Rattle.ov_staging.specs.Errors.{Acts}
use Rattle.ov_staging.specs.Users.{user_change}
use Rattle.ov_staging.specs.declared.changing.Next.{Next}
use Rattle.ov_staging.specs.declared.changing.Next.TheVariants as next
use Rattle.ov_staging.specs.declared.errors.StagingErr.{StagingErr}

-- ---- a look before it

module _ (d : Deed) (s : Session) (w : World) (before now : Held) (old mid new : State) (tape : mid.tape ≡ old.tape) where
  does_behind : (reply : Reply) → Does d s s w reply before now mid new → Does d s s w reply before now old new
  does_behind reply is = record {
    moves = is.moves;
    world = is.world;
    used = is.used;
    did = is.did;
    licensed = is.licensed;
    within = is.within;
    stops = subst (λ (t : Tape). Only t new.tape (IsFound w t.disk.printed (map Makes is.moves))) tape is.stops;
    at = is.at;
    printed = is.printed ∙ ap (λ (t : Tape). t.disk.printed) tape;
  }

  pub acts_behind : (r : Result Reply StagingErr) → Acts d s w r before now mid new → Acts d s w r before now old new
  acts_behind (Ok reply) is = does_behind reply is
  acts_behind (Err e) is = subst (λ (t : Tape). Only t new.tape (IsFound w t.disk.printed (attempts d s 0 d.moves w []).items)) tape is

-- ---- what comes next

pub next_is : (w : World) (s : Session) (which : Registry) (change : Change) (said : Reply) (n : Next)
    → IsNextIn (schema_of which) change (set_named w (name_of which)) n → next_deed w s which n said ≡ change_deed w s which change said (set_named w (name_of which))
next_is w s which change said (next.Refused refusal) is =
    let d = set_named w (name_of which)
    in sym (ap (λ (o : Option Refusal). unless s o (changes w s s (name_of which) (schema_of which) (change.rows (last_rows d)) said d)) is)
next_is w s which change said (next.Rows rows) is =
    let d = set_named w (name_of which)
    in ap (λ (l : List Row). changes w s s (name_of which) (schema_of which) l said d) is.1
    ∙ sym (ap (λ (o : Option Refusal). unless s o (changes w s s (name_of which) (schema_of which) (change.rows (last_rows d)) said d)) is.0)

-- of a name
pub create_is : (w : World) (s : Session) (name : List ℕ) (d : Option Dataset) → is_name name ≡ true
    → change_deed w s registry.Users (user_change name) (says.User name) d ≡ create_user_deed w s name d
create_is w s name d named =
    sym (ap (λ (t : Bool). unless s (option_or (if_so (not t) (no.BadName name)) (change_off users_schema (user_change name) d))
    (changes w s s users_name users_schema ((user_change name).rows (last_rows d)) (says.User name) d)) named)

-- of what is none
pub unnamed_is : (w : World) (s : Session) (name : List ℕ) (d : Option Dataset) → is_name name ≡ false → create_user_deed w s name d ≡ refuses s (no.BadName name)
unnamed_is w s name d bad =
    ap (λ (t : Bool). unless s (option_or (if_so (not t) (no.BadName name)) (change_off users_schema (user_change name) d))
    (changes w s s users_name users_schema ((user_change name).rows (last_rows d)) (says.User name) d)) bad
