-- One run after another.
use Rattle.std.proofs.Common.{◌≡◌, inl, inr, ℕ, Bool, List, sym, ◌∙◌, ap, subst}
use Rattle.ov_host.specs.Disk.{AllSettled, Image, as_read}
use Rattle.ov_host.specs.Host.{State}
use Rattle.ov_host.specs.Stage.{Staged}
use Rattle.ov_host.specs.Tape.{clock, left_since}
use Rattle.ov_journal.specs.Journal.{IsJournal, IsUnmade}
use Rattle.ov_catalog.specs.Stands.{StandsFor}
use Rattle.law_image.specs.Images.{StandsAs}
use Rattle.law_image.specs.Pages.{readings_of}
use Rattle.ov_model.specs.Course.{world_at}
use Rattle.ov_model.specs.World.{World}
use Rattle.ov_top.specs.declared.status.Status.{Status}
use Rattle.ov_top.specs.declared.status.Status.TheVariants.{Done, Refused, Usage, HostFault, InputFault, Memory, NotAStore, Damaged, Format, ScriptTooLong}
use Rattle.ov_top.specs.Composing.{BeginsFrom, Continues}
use Rattle.ov_top.specs.Ending.{Ends, IsTold, Keeps, Played, PlayedTaken, Plays, Stops, course_of}

-- what was printed doesn't matter
stands_by_bytes : (w : World) (c e : Image) → e.pages ≡ c.pages → e.journal ≡ c.journal → StandsAs w c → StandsAs w e
stands_by_bytes w c e pages journal (inl new) =
    inl (record { journal = subst IsUnmade (sym journal) new.journal; pages = pages ∙ new.pages; world = new.world })
stands_by_bytes w c e pages journal (inr made) =
    inr (record {
      kept = made.kept;
      events = made.events;
      by = record {
        journal = subst (IsJournal made.kept) (sym journal) made.by.journal;
        spell = made.by.spell;
        stands = subst (λ (ps : List ℕ). StandsFor made.kept.format made.events (readings_of ps) w) (sym pages) made.by.stands;
        epoch = made.by.epoch;
        format = made.by.format;
        records = made.by.records;
      };
    })

module _ (w v : World) (old new next : Ends) (told : IsTold w old) (keeps : Keeps old new) (settled : AllSettled new.host.tape.disk)
    (stands : StandsAs v (as_read new.host.tape.disk)) (then : Continues new next) where
  pub goes_on : IsTold v next
  goes_on = record {
    host = ap (λ (s : State). s.tells) then.host ∙ keeps.host.told ∙ told.host;
    settled = subst (λ (s : State). AllSettled s.tape.disk) (sym then.host) settled;
    stands = subst (λ (s : State). StandsAs v (as_read s.tape.disk)) (sym then.host) stands;
    script = then.script;
    stage = ap (λ (s : Staged). s.tells) then.stage ∙ keeps.stage.told ∙ told.stage;
  }

pub begins_from : (v : World) (c : Image) (next : Ends) → StandsAs v c → BeginsFrom c next → IsTold v next
begins_from v c next stands from = record {
  host = from.host;
  settled = from.settled;
  stands = stands_by_bytes v c (as_read next.host.tape.disk) from.pages from.journal stands;
  script = from.script;
  stage = from.stage;
}

-- ---- a run that is told of has stops, however it ended

stops_played : (steps : ℕ) (w : World) (failed : Bool) (old new : Ends) → Played steps w failed old new → Stops steps w old new
stops_played steps w failed old new is = record { space = is.space; licensed = is.licensed; stops = is.stops }

stops_taken : (steps : ℕ) (w : World) (old new : Ends) → PlayedTaken steps w old new → Stops steps w old new
stops_taken steps w old new is = record { space = is.space; licensed = is.licensed; stops = is.stops }

pub stops_in : (status : Status) (steps : ℕ) (w : World) (old new : Ends) → Plays status steps w old new → Stops steps w old new
stops_in Done steps w old new plays = stops_played steps w _ old new plays
stops_in Refused steps w old new plays = stops_played steps w _ old new plays
stops_in HostFault steps w old new plays = plays
stops_in InputFault steps w old new plays = plays.0
stops_in Memory steps w old new plays = plays
stops_in ScriptTooLong steps w old new plays = stops_taken steps w old new plays
stops_in Usage steps w old new plays = absurd plays
stops_in NotAStore steps w old new plays = absurd plays
stops_in (Damaged area at) steps w old new plays = absurd plays
stops_in (Format found) steps w old new plays = absurd plays

pub goes_on_after : (status : Status) (steps : ℕ) (w : World) (old new next : Ends) (c : Image) → Plays status steps w old new
    → (left : left_since new.host.tape (clock old.host.tape) c) → BeginsFrom c next
    → (stops : Stops steps w old new) × IsTold (world_at w (course_of steps w old stops.space).items (stops.stops c left).k) next
goes_on_after status steps w old new next c plays left from =
    let stops = stops_in status steps w old new plays
    in let due = stops.stops c left
    in (stops, begins_from (world_at w (course_of steps w old stops.space).items due.k) c next due.stands from)
