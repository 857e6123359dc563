-- Where the image stands for a World, the store opens at it.
use Rattle.std.proofs.Common.{◌≡◌, ◌<◌, ◌⊎◌, inl, inr, ℕ, List, [], Result, Ok, Err, refl, sym, ◌∙◌, ap, subst, arith}
use Rattle.std.specs.Prelude.{MatchResult}
use Rattle.ov_host.specs.declared.area.Area.TheVariants.{Pages, Journal}
use Rattle.ov_host.specs.declared.area.Extent.{Extent}
use Rattle.ov_host.specs.Disk.{Disk, Image, MayLeave, AllSettled, Leaves, as_read, settled}
use Rattle.ov_host.specs.Host.{State}
use Rattle.ov_host.specs.Stops.{Only}
use Rattle.ov_host.specs.Tape.{Tape}
use Rattle.ov_host.proofs.Stops.{only_wider}
use Rattle.ov_host.proofs.Writes.{settled_leaves}
use Rattle.ov_journal.specs.Journal.{Kept, IsJournal, IsUnmade, Unmade, Holds, new_kept}
use Rattle.ov_journal.specs.Held.{kept_by}
use Rattle.ov_journal.specs.Opened.{HasStood, IsMade, IsLeftByOpen}
use Rattle.ov_journal.proofs.Unique.{one_thing}
use Rattle.ov_model.specs.World.{World, empty_world}
use Rattle.ov_catalog.specs.Extents.{AreApart, live}
use Rattle.ov_catalog.specs.Numbers.{Numbers}
use Rattle.ov_catalog.specs.Raw.{numbers_in}
use Rattle.law_image.specs.Images.{Spell, StandsBy, StandsAs}
use Rattle.law_image.specs.Pages.{pages_in}
use Rattle.law_image.proofs.Standing.{stands_by, no_pages, not_foreign, not_of_format, not_damaged, new_stands}
use Rattle.ov_core.specs.Held.{IsReplay}
use Rattle.ov_open.proofs.Stopping.{not_stopped}
use Rattle.ov_core.specs.Held.{Held}
use Rattle.ov_core.specs.AtWorld.{IsAtWorld}
use Rattle.ov_open.specs.declared.errors.OpenErr.{OpenErr}
use Rattle.ov_open.specs.declared.errors.OpenErr.TheVariants as errors
use Rattle.ov_open.specs.Opening.{IsOpened, IsOutside, IsWorld}
use Rattle.ov_open.specs.Refusing.{Refuses, StopsAt, HasPageOff, IsOff}

-- ---- no payload stops what stands

kept_same : (a b : Kept) → Holds a ≡ Holds b → a ≡ b
kept_same a b e = cc

stops_nowhere : (w : World) (c : Image) (place : ℕ) → StandsAs w c → StopsAt place c.journal → ⊥
stops_nowhere w c place (inl new) off =
    let same : Unmade ≡ Holds off.kept = one_thing Unmade (Holds off.kept) c.journal new.journal off.stands in cc
stops_nowhere w c place (inr made) off =
    let same : made.kept ≡ off.kept = kept_same made.kept off.kept (one_thing (Holds made.kept) (Holds off.kept) c.journal made.by.journal off.stands)
    in let by : StandsBy off.kept made.events w c = subst (λ (k : Kept). StandsBy k made.events w c) same made.by
    in not_stopped off.kept.format off.kept.payloads (numbers_in made.events) off.nth
    (record { events = made.events; are = by.spell.are; written = by.spell.written; follow = by.stands.follow; end = refl })
    off.stops

-- ---- pages of live extents are apart and there

spelled : (format : ℕ) (payloads : List (List ℕ)) (n : Numbers Extent Extent) (is : IsReplay format payloads n) → Spell is.events payloads
spelled format payloads n is = record { are = is.are; written = is.written }

no_page_off : (es : List Extent) (there page : ℕ) → AreApart es there → IsOff es there page → ⊥
no_page_off es there page apart (inl two) = absurd (omega (arith, apart.once page, two.twice))
no_page_off es there page apart (inr missing) =
    let low : page < there = apart.inside page missing.1.covered in absurd (omega (arith, low, missing.1.beyond))

off_nowhere : (w : World) (c : Image) (page : ℕ) → StandsAs w c → HasPageOff page c.pages c.journal → ⊥
off_nowhere w c page stands off =
    let by : StandsBy off.kept off.replays.events w c = stands_by off.kept off.replays.events w c stands off.stands (spelled off.kept.format off.kept.payloads off.numbers off.replays)
    in let apart : AreApart (live off.numbers) (pages_in c.pages) =
    subst (λ (n : Numbers Extent Extent). AreApart (live n) (pages_in c.pages)) (sym off.replays.end) by.stands.apart
    in no_page_off (live off.numbers) (pages_in c.pages) page apart off.off

-- ---- no refusal

pub no_refusal : (w : World) (why : OpenErr) (d e : Disk) → StandsAs w (as_read d) → Refuses why d e → IsOutside why
no_refusal w errors.Host d e stands why = tt
no_refusal w errors.Memory d e stands why = tt
no_refusal w errors.NotAStore d e stands why =
    elim why.0 [
      | inl foreign ↦ not_foreign w (as_read d) stands foreign
      | inr pages ↦ no_pages w (as_read d) stands pages.0 pages.1
    ]
no_refusal w (errors.Format found) d e stands why = not_of_format w (as_read d) found stands why.0
no_refusal w (errors.Damaged Journal place) d e stands why =
    elim why.0 [
      | inl damaged ↦ not_damaged w (as_read d) place stands damaged
      | inr stops ↦ stops_nowhere w (as_read d) place stands stops
    ]
no_refusal w (errors.Damaged Pages page) d e stands why = off_nowhere w (as_read d) page stands why.0

-- ---- the core is at the World

empty_where_unmade : (w : World) (c : Image) → StandsAs w c → IsUnmade c.journal → (w ≡ empty_world) × (c.pages ≡ [])
empty_where_unmade w c (inl new) unmade = (new.world, new.pages)
empty_where_unmade w c (inr made) unmade =
    let same : Unmade ≡ Holds made.kept = one_thing Unmade (Holds made.kept) c.journal unmade made.by.journal in cc

new_world : (w : World) (c : Image) → w ≡ empty_world → IsJournal new_kept c.journal → StandsAs w c
new_world w c is journal = inr (record { kept = new_kept; events = []; by = subst (λ (v : World). StandsBy new_kept [] v c) (sym is) (new_stands c journal) })

made_kept : (d : Disk) (held : Held) (payloads : List (List ℕ)) → IsMade d held.journal payloads → kept_by held.journal payloads ≡ new_kept
made_kept d held payloads made = λ i. kept_by (made.numbers_new i) (made.no_records i)

stands_then : (w : World) (d : Disk) (held : Held) (s : State) (is : IsOpened d held s) → StandsAs w (as_read d)
    → HasStood d s.tape.disk held.journal is.payloads ⊎ IsMade d held.journal is.payloads → StandsAs w (as_read s.tape.disk)
stands_then w d held s is stands (inl stood) = subst (λ (c : Image). StandsAs w c) (sym stood.same) stands
stands_then w d held s is stands (inr made) =
    new_world w (as_read s.tape.disk) (empty_where_unmade w (as_read d) stands made.unmade).0
    (subst (λ (k : Kept). IsJournal k s.tape.disk.journal.bytes) (made_kept d held is.payloads made) is.at.spells)

at_world : (w : World) (d : Disk) (held : Held) (s : State) → StandsAs w (as_read d) → IsOpened d held s → IsAtWorld w held s
at_world w d held s stands is = record {
  payloads = is.payloads;
  events = is.replays.events;
  at = is.at;
  rest = record {
    told = is.at.told;
    rest = is.settled.pages ∙ ap settled (sym (ap (λ a. a.bytes) is.settled.pages));
  };
  stands =
      stands_by (kept_by held.journal is.payloads) is.replays.events w (as_read s.tape.disk)
      (stands_then w d held s is stands is.journal) is.at.spells (spelled held.journal.format is.payloads held.numbers is.replays);
  numbers_are = is.replays.end;
}

pub answers_world : (w : World) (d : Disk) (r : Result Held OpenErr) (s : State) → StandsAs w (as_read d)
    → MatchResult r (λ held. IsOpened d held s) (λ why. Refuses why d s.tape.disk) → MatchResult r (λ held. IsAtWorld w held s) IsOutside
answers_world w d (Ok held) s stands is = at_world w d held s stands is
answers_world w d (Err why) s stands is = no_refusal w why d s.tape.disk stands is

-- ---- stops

same_image : (d : Disk) (c : Image) → AllSettled d → MayLeave d c → c ≡ as_read d
same_image d c rest left =
    let pages : c.pages ≡ d.pages.bytes = settled_leaves d.pages.bytes c.pages (subst (λ a. Leaves a c.pages) rest.pages left.pages)
    in let journal : c.journal ≡ d.journal.bytes = settled_leaves d.journal.bytes c.journal (subst (λ a. Leaves a c.journal) rest.journal left.journal)
    in λ i. record { pages = pages i; journal = journal i; printed = left.printed i }

left_world : (w : World) (d : Disk) (c : Image) → AllSettled d → StandsAs w (as_read d) → IsLeftByOpen d c → IsWorld w d.printed c
left_world w d c rest stands (inl left) =
    let same : c ≡ as_read d = same_image d c rest left
    in record { stands = subst (λ (x : Image). StandsAs w x) (sym same) stands; printed_is = left.printed }
left_world w d c rest stands (inr making) =
    let is = empty_where_unmade w (as_read d) stands making.0
    in record {
      stands =
          elim making.1.journal [
            | inl unmade ↦ inl (record { journal = unmade; pages = making.1.pages ∙ is.1; world = is.0 })
            | inr new ↦ new_world w c is.0 new
          ];
      printed_is = making.1.printed;
    }

pub stops_world : (w : World) (s t : Tape) → AllSettled s.disk → StandsAs w (as_read s.disk) → Only s t (IsLeftByOpen s.disk) → Only s t (IsWorld w s.disk.printed)
stops_world w s t rest stands stops =
    only_wider s t (IsLeftByOpen s.disk) (IsWorld w s.disk.printed) (λ c left. left_world w s.disk c rest stands left) stops
