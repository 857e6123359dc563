-- An image whose journal says the snapshot stands for the World after a checkpoint.
use Rattle.std.proofs.Common.{◌≡◌, ◌<◌, ◌+◌, ◌-◌, ◌^◌, ℕ, List, length, map, refl, sym, ◌∙◌, ap, subst, arith}
use Rattle.std.specs.Prelude.{Some}
use Rattle.std.proofs.lemmas.List.{length-map}
use Rattle.ov_host.specs.declared.area.Extent.{Extent}
use Rattle.ov_host.specs.Disk.{Image}
use Rattle.ov_event.specs.declared.event.Event.{Event}
use Rattle.ov_event.specs.Spelling.{spelling}
use Rattle.ov_journal.specs.Journal.{Kept}
use Rattle.ov_model.specs.Moves.{Checkpoint, moved}
use Rattle.ov_model.specs.World.{World}
use Rattle.ov_catalog.specs.Applying.{AllFollow, start_of}
use Rattle.ov_catalog.specs.Events as says
use Rattle.ov_catalog.specs.Extents.{AreApart, live}
use Rattle.ov_catalog.specs.Numbers.{Numbers, each_set, nothing_yet}
use Rattle.ov_catalog.specs.Raw.{event_in, numbers_in}
use Rattle.ov_catalog.specs.Reached.{Reached, old_checkpoint}
use Rattle.ov_catalog.specs.Shown.{shown_set}
use Rattle.ov_catalog.specs.Snapshots.{IsSnapshot, events_of}
use Rattle.ov_catalog.specs.Stands.{Readings, asked, seen}
use Rattle.ov_catalog.proofs.Good.{reached_more, reached_old}
use Rattle.ov_catalog.proofs.Moving.{snapshot_numbers}
use Rattle.ov_catalog.proofs.Standing.{seen_same}
use Rattle.law_snapshots.proofs.Carrying.{all_whole}
use Rattle.law_snapshots.proofs.Followed.{snapshot_follows}
use Rattle.law_snapshots.proofs.Saying.{one_snapshot}
use Rattle.law_snapshots.specs.Said.{snapshot_in}
use Rattle.law_image.specs.Checkpoints.{IsCheckpointed, IsOldCheckpointed, IsTurned}
use Rattle.law_image.specs.Images.{StandsBy}
use Rattle.law_image.specs.Pages.{readings_of}
use Rattle.law_image.proofs.Standing.{read_same}

-- as many records as datasets, and one more
counted : (w : World) (r : Readings) (snapshot : List Event) (n : Numbers Extent Extent) → IsSnapshot snapshot n → seen r n ≡ asked w → length snapshot ≡ length w.sets + 1
counted w r snapshot n is shows =
    let events : length (map event_in snapshot) ≡ length snapshot = length-map snapshot event_in
    in let said : length (map event_in snapshot) ≡ length (events_of n) = ap length is
    in let wholes : length (map (λ d. says.Whole d) n.sets) ≡ length n.sets = length-map n.sets (λ d. says.Whole d)
    in let sets : length (map (each_set r.list r.segment) n.sets) ≡ length (map (each_set Some Some) (map shown_set w.sets)) = ap (λ (m : Numbers _ _). length m.sets) shows
    in let left : length (map (each_set r.list r.segment) n.sets) ≡ length n.sets = length-map n.sets (each_set r.list r.segment)
    in let right : length (map (each_set Some Some) (map shown_set w.sets)) ≡ length (map shown_set w.sets) = length-map (map shown_set w.sets) (each_set Some Some)
    in let all : length (map shown_set w.sets) ≡ length w.sets = length-map w.sets shown_set
    in omega (arith, events, said, wholes, sets, left, right, all)

module _ (number : ℕ) (kept next : Kept) (events snapshot : List Event) (w v : World) (old new : Image) (is : IsTurned number kept events next snapshot old new)
    (same : asked v ≡ asked w) (epoch_is : v.epoch ≡ w.epoch + 1) (format_is : v.format ≡ number) (records_are : v.records ≡ length w.sets + 1) where
  abbrev n : Numbers Extent Extent
  n = numbers_in events

  there : numbers_in snapshot ≡ n
  there = snapshot_numbers snapshot n is.says

  long : (r : Readings) → seen r n ≡ asked w → length w.sets + 1 ≡ length next.payloads
  long r shows =
      let count = counted w r snapshot n is.says shows
      in let said : length next.payloads ≡ length snapshot = ap length is.spell.written ∙ length-map snapshot spelling
      in omega (arith, count, said)

  shown : (r : Readings) → seen r n ≡ asked w → seen r (numbers_in snapshot) ≡ asked w
  shown r shows = ap (seen r) there ∙ shows

  apart : AreApart (live n) (readings_of old.pages).pages → AreApart (live (numbers_in snapshot)) (readings_of new.pages).pages
  apart are = subst (λ k. AreApart (live k) (readings_of new.pages).pages) (sym there) (record { once = are.once; inside = is.pages.there })

  turned : StandsBy kept events w old → Reached v → StandsBy next snapshot v new
  turned stands reached =
      let follows : AllFollow (start_of number) (snapshot_in n) nothing_yet = snapshot_follows number n (all_whole kept.format events stands.stands.follow)
      in record {
        journal = is.journal;
        spell = is.spell;
        stands = record {
          reached = reached;
          follow = subst (λ format. AllFollow (start_of format) snapshot nothing_yet) (sym is.format)
              (subst (λ es. AllFollow (start_of number) es nothing_yet) (sym (one_snapshot snapshot n is.says)) follows);
          shows = shown (readings_of new.pages)
              (seen_same n (readings_of old.pages) (readings_of new.pages) (read_same (live n) old.pages new.pages stands.stands.apart.inside is.pages) ∙ stands.stands.shows)
              ∙ sym same;
          apart = apart stands.stands.apart;
        };
        epoch = epoch_is ∙ (ap (λ k. k + 1) stands.epoch ∙ sym is.epoch);
        format = format_is ∙ sym is.format;
        records = records_are ∙ long (readings_of old.pages) stands.stands.shows;
      }

module _ (kept next : Kept) (events snapshot : List Event) (w : World) (old new : Image) where
  pub next_stands : IsCheckpointed kept events next snapshot old new → StandsBy kept events w old → kept.epoch < 2 ^ 32 - 1
      → StandsBy next snapshot (moved Checkpoint w) new
  next_stands is stands left =
      let epoch = stands.epoch
      in turned 2 kept next events snapshot w (moved Checkpoint w) old new is refl refl refl refl stands
      (reached_more Checkpoint w stands.stands.reached (omega (arith, left, epoch)))

  -- one that left format 1
  pub old_stands : IsOldCheckpointed kept events next snapshot old new → StandsBy kept events w old → kept.epoch < 2 ^ 32 - 1
      → StandsBy next snapshot (old_checkpoint w) new
  old_stands is stands left =
      let epoch = stands.epoch
      in turned 1 kept next events snapshot w (old_checkpoint w) old new is.1 refl refl (stands.format ∙ is.0) refl stands
      (reached_old w stands.stands.reached (stands.format ∙ is.0) (omega (arith, left, epoch)))
