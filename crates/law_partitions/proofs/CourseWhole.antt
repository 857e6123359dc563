-- In a run from a sound World partitions have the records of their versions, so that a finished plan meets its bounds.
use Rattle.std.proofs.Common.{◌≡◌, ℕ, List, [], ◌∷◌, sym, subst, inl, inr}
use Rattle.std.specs.Prelude.{None}
use Rattle.ov_model.specs.Act.{Session}
use Rattle.ov_model.specs.Deed.{deed}
use Rattle.ov_model.specs.Course.{Space, course, world_at}
use Rattle.ov_model.specs.Forms.{Form}
use Rattle.ov_model.specs.Lists.{IsIn}
use Rattle.ov_model.specs.Moves.{Move, moved}
use Rattle.ov_model.specs.World.{Dataset, World}
use Rattle.ov_model.specs.declared.command.Command.{Command}
use Rattle.law_partitions.specs.Courses.{HasPartitions, IsBegun}
use Rattle.law_partitions.specs.OldOrNew.{AllTight, AreOldOrNew}
use Rattle.law_partitions.specs.Pieces.{ArePieces, HasPieces}
use Rattle.law_partitions.specs.PlanBounds.{AreExact, IsBounded}
use Rattle.law_partitions.specs.PlanEnds.{ArePlanned, IsPlanned, IsSplit}
use Rattle.law_partitions.specs.Sound.{AllMay, AllNameVersions, IsSound, NamesVersions}
use Rattle.law_partitions.proofs.CourseMoves.{AreDue, course_due, deed_due, due_at}
use Rattle.law_partitions.proofs.SoundMoves.{moved_sound}
use Rattle.law_partitions.proofs.PlanBounds.{bounded_at}
use Rattle.law_partitions.proofs.PlanExact.{parts_exact}
use Rattle.law_partitions.proofs.PlanMoves.{planned_at, planned_in}

all_may : (ms : List Move) (w : World) → AreDue w ms → AllMay ms w
all_may [] w due = tt
all_may (m ∷ ms) w due = (due.0.may, all_may ms (moved m w) due.1)

begun_of : (w : World) → IsSound w → IsBegun w
begun_of w sound = record { numbered = sound.numbered; begun = sound.begun }

pub deed_may : (w : World) (s : Session) (command : Command) → NamesVersions command → IsSound w → AllMay (deed w s command).moves w
deed_may w s command names sound = all_may (deed w s command).moves w (deed_due w s command (begun_of w sound) names)

pub each_sound : (forms : List Form) (n : ℕ) (w : World) (s : Session) (lines : List (List ℕ)) (space : Space) (k : ℕ) → AllNameVersions forms lines → IsSound w
    → IsSound (world_at w (course forms n w s lines space).items k)
each_sound forms n w s lines space k names sound =
    due_at IsSound (λ m v due is. moved_sound m v due.may is) w (course forms n w s lines space).items k (course_due forms n w s lines space names (begun_of w sound)) sound

partitions_of : (w : World) → IsSound w → HasPartitions w
partitions_of w sound = record { begun = begun_of w sound; placed = sound.placed; held = sound.held }

pieces_in : (sets : List Dataset) (d : Dataset) → ArePieces sets → IsIn sets d → HasPieces d
pieces_in [] d are is = absurd is
pieces_in (x ∷ sets) d are (inl same) = subst HasPieces (sym same) are.0
pieces_in (x ∷ sets) d are (inr later) = pieces_in sets d are.1 later

pub tight_exact : (d : Dataset) → IsPlanned d → HasPieces d → AllTight d.parts → AreExact d
tight_exact d planned pieces tight = parts_exact d planned.rows pieces tight

pub sound_bounded : (forms : List Form) (n : ℕ) (w : World) (s : Session) (lines : List (List ℕ)) (space : Space) → AllNameVersions forms lines → IsSound w → AreOldOrNew w.sets → ArePlanned w.sets
    → (k : ℕ) (d : Dataset) (p q : ℕ) → IsIn (world_at w (course forms n w s lines space).items k).sets d → IsSplit d p q → d.plan ≡ None → IsBounded d p q
sound_bounded forms n w s lines space names sound old are k d p q there split idle =
    let has : HasPartitions w = partitions_of w sound
    in let here : IsSound (world_at w (course forms n w s lines space).items k) = each_sound forms n w s lines space k names sound
    in let planned : IsPlanned d = planned_in (world_at w (course forms n w s lines space).items k).sets d (planned_at forms n w s lines space names has old are k) there
    in bounded_at forms n w s lines space names has old are k d p q there split idle
    (tight_exact d planned (pieces_in (world_at w (course forms n w s lines space).items k).sets d here.pieces there) split.tight)
