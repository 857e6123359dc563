-- What stands on the disk behind a run in which a plan ended, or that began with a split.
use Rattle.std.proofs.Common.{◌≡◌, ◌≤◌, ◌<◌, ◌+◌, ℕ, Bool, List, [], length, refl, sym, ◌∙◌, ap, subst, inl, inr}
use Rattle.std.specs.Prelude.{None}
use Rattle.std.proofs.lemmas.Option.{slice_get_within}
use Rattle.ov_model.specs.Forms.{all_forms}
use Rattle.ov_model.proofs.AllFormed.{all_ask}
use Rattle.law_image.specs.Images.{IsMade, IsNew, StandsAs, StandsBy}
use Rattle.law_partitions.specs.PlanEnds.{HasAllVersions, IsSplit}
use Rattle.law_partitions.proofs.SoundLines.{lines_name}
use Rattle.law_plans.specs.Ends.{EndsPlan, LeavesParts}
use Rattle.law_plans.specs.Runs.{Between, IsRun}
use Rattle.law_plans.proofs.Finishing.{split_later, split_stays}
use Rattle.law_plans.proofs.Images.{run_by}
use Rattle.law_plans.proofs.OnDisk.{plan_on_disk, split_on_disk}
use Rattle.ov_host.specs.Disk.{Image, as_read}
use Rattle.ov_model.specs.Course.{Item, Served, moves_of, world_after, world_at}
use Rattle.ov_model.specs.Lists.{IsIn}
use Rattle.ov_model.specs.Moves.{Flip}
use Rattle.ov_model.specs.Plans.{flipped}
use Rattle.ov_model.specs.Words.{lines_of}
use Rattle.ov_model.specs.World.{Dataset, Plan, World, empty_world}
use Rattle.ov_model.proofs.Courses.{at_last, course_ends}
use Rattle.ov_top.specs.Ending.{Ends, IsTold, Played, course_of, session_at}
use Rattle.law_complete.specs.OnDisk.{LeavesSplit}

-- an image of no journal stands for no World that has a dataset
none_new : (w : World) (c : Image) (d : Dataset) → IsNew w c → IsIn w.sets d → ⊥
none_new w c d new is = subst (λ v. IsIn v.sets d) new.world is

module _ (steps : ℕ) (w : World) (failed : Bool) (old new : Ends) (told : IsTold w old) (played : Played steps w failed old new) where
  abbrev it : Served
  it = course_of steps w old played.space

  abbrev last : ℕ
  last = length (moves_of it.items)

  abbrev image : Image
  image = as_read new.host.tape.disk

  run : IsRun w it.items
  run =
      run_by all_forms (as_read old.host.tape.disk) w steps (session_at old) (lines_of old.script.left) played.space
      (lines_name all_forms (lines_of old.script.left) (all_ask (lines_of old.script.left))) told.stands

  at_end : it.world ≡ world_at w it.items last
  at_end = course_ends all_forms steps w (session_at old) (lines_of old.script.left) played.space ∙ sym (at_last w it.items)

  stands_there : StandsAs (world_at w it.items last) image
  stands_there = subst (λ v. StandsAs v image) at_end played.stands

  -- where the image stands for that World by a journal and its events
  by_events : (d : Dataset) (p q : ℕ) (e : Dataset) → IsIn (world_at w it.items last).sets e
      → ((made : IsMade (world_at w it.items last) image) → LeavesSplit (world_at w it.items last) image d p q)
      → StandsAs (world_at w it.items last) image → LeavesSplit it.world image d p q
  by_events d p q e there more (inl none) = absurd (none_new (world_at w it.items last) image e none there)
  by_events d p q e there more (inr made) = subst (λ v. LeavesSplit v image d p q) (sym at_end) (more made)

  pub plan_left : (k : ℕ) (d : Dataset) (plan : Plan) → EndsPlan w it.items k d plan → HasAllVersions d plan
      → Between it.items (k + 1) last (LeavesParts d.cvd.number) → LeavesSplit it.world image (flipped d) plan.p plan.q
  plan_left k d plan ends all leaves =
      let before : k < last = slice_get_within (moves_of it.items) k (Flip d.cvd.number) ends.flips
      in let stays = split_stays w it.items k last d plan run ends all before leaves
      in by_events (flipped d) plan.p plan.q stays.set stays.there
      (λ made. record {
        kept = made.kept;
        events = made.events;
        stands = made.by;
        split = plan_on_disk w it.items k last d plan image made.kept made.events run ends all before leaves made.by;
      })
      stands_there

  pub split_left : (d : Dataset) (p q : ℕ) → IsIn w.sets d → IsSplit d p q → d.plan ≡ None → Between it.items 0 last (LeavesParts d.cvd.number)
      → LeavesSplit it.world image d p q
  split_left d p q there split idle leaves =
      let stays = split_later w it.items last d p q run there split idle leaves
      in by_events d p q stays.set stays.there
      (λ made. record {
        kept = made.kept;
        events = made.events;
        stands = made.by;
        split = split_on_disk w it.items last d p q image made.kept made.events run there split idle leaves made.by;
      })
      stands_there
