-- The laws of what images stand for.
use Rattle.std.proofs.Common.{◌≡◌, ◌/◌, ◌≢◌, ◌<◌, ◌≤◌, ◌+◌, ◌*◌, ◌-◌, ◌==◌, inl, inr, ℕ, zero, suc, slice_index, Bool, true, if◌then◌else◌, List, [], ◌∷◌, ◌++◌, length, take, drop, map, Option, Some, None, refl, sym, ◌∙◌, ap, subst, arith, length-append}
use Rattle.std.specs.List.{AllByRecursion}
use Rattle.std.proofs.lemmas.Bool.Decides.{nat_tests}
use Rattle.std.proofs.lemmas.List.{map-append}
use Rattle.ov_host.specs.declared.area.Extent.{Extent}
use Rattle.ov_host.specs.Disk.{Image}
use Rattle.ov_host.specs.Extent.{pages_of}
use Rattle.ov_event.specs.declared.event.Event.{Event}
use Rattle.ov_event.specs.Spelling.{IsEvent, spelling}
use Rattle.ov_event.proofs.Events.{spelled_once}
use Rattle.ov_journal.specs.Journal.{Kept, IsJournal, IsUnmade, IsForeign, IsOfFormat, Standing, AreaIs, Unmade, Foreign, OfFormat, DamagedAt, Holds, and_one, end_of, new_kept}
use Rattle.ov_journal.proofs.Records.{same_journal}
use Rattle.ov_journal.proofs.Slots.{piece_same}
use Rattle.ov_journal.proofs.Unique.{one_thing}
use Rattle.ov_model.specs.Lists.{IsIn}
use Rattle.ov_model.specs.Moves.{Move, Init, Commit, BeginPlan, Copy, Flip, Drop, Checkpoint, moved}
use Rattle.ov_model.specs.World.{World, empty_world}
use Rattle.ov_catalog.specs.Events as numbered
use Rattle.ov_catalog.specs.Extents.{covers, has_page, live}
use Rattle.ov_catalog.specs.Raw.{numbers_in}
use Rattle.ov_catalog.specs.Reached.{Fits}
use Rattle.ov_catalog.specs.Shown.{Rids, Records}
use Rattle.ov_catalog.specs.Stands.{StandsFor, ReadSame, IsMove, asked_event, seen_event}
use Rattle.ov_catalog.proofs.Standing as catalog
use Rattle.law_image.specs.Lists.{list_in}
use Rattle.law_image.specs.Segments.{segment_in}
use Rattle.law_image.specs.Pages.{pages_in, extent_bytes, readings_of, IsUsed, SameLive}
use Rattle.law_image.specs.Images.{Spell, StandsBy, StandsAs, SaysSame}

-- ---- one journal, and its events

kept_once : (a b : Kept) (bytes : List ℕ) → IsJournal a bytes → IsJournal b bytes → a ≡ b
kept_once a b bytes here there = let same : Holds a ≡ Holds b = one_thing (Holds a) (Holds b) bytes here there in cc

not_unmade : (kept : Kept) (bytes : List ℕ) → IsUnmade bytes → IsJournal kept bytes → ⊥
not_unmade kept bytes unmade is = let same : Unmade ≡ Holds kept = one_thing Unmade (Holds kept) bytes unmade is in cc

head_is : {X : Type 0} (x y : X) (xs ys : List X) → x ∷ xs ≡ y ∷ ys → x ≡ y
head_is x y xs ys e = cc

tail_is : {X : Type 0} (x y : X) (xs ys : List X) → x ∷ xs ≡ y ∷ ys → xs ≡ ys
tail_is x y xs ys e = cc

events_once : (xs ys : List Event) → AllByRecursion IsEvent xs → AllByRecursion IsEvent ys → map spelling xs ≡ map spelling ys → xs ≡ ys
events_once [] [] here there e = refl
events_once [] (y ∷ ys) here there e = absurd cc
events_once (x ∷ xs) [] here there e = absurd cc
events_once (x ∷ xs) (y ∷ ys) here there e = λ i.
    spelled_once x y here.0 there.0 (head_is (spelling x) (spelling y) (map spelling xs) (map spelling ys) e) i
    ∷ events_once xs ys here.1 there.1 (tail_is (spelling x) (spelling y) (map spelling xs) (map spelling ys) e) i

spelled_events : (xs ys : List Event) (payloads : List (List ℕ)) → Spell xs payloads → Spell ys payloads → xs ≡ ys
spelled_events xs ys payloads here there = events_once xs ys here.are there.are (sym here.written ∙ there.written)

-- an image that stands for a World does so by its journal and that journal's events
pub stands_by : (kept : Kept) (events : List Event) (w : World) (c : Image) → StandsAs w c → IsJournal kept c.journal → Spell events kept.payloads → StandsBy kept events w c
stands_by kept events w c (inl new) journal spell = absurd (not_unmade kept c.journal new.journal journal)
stands_by kept events w c (inr made) journal spell =
    let same : made.kept ≡ kept = kept_once made.kept kept c.journal made.by.journal journal
    in let there : StandsBy kept made.events w c = subst (λ k. StandsBy k made.events w c) same made.by
    in subst (λ es. StandsBy kept es w c) (spelled_events made.events events kept.payloads there.spell spell) there

-- ---- one World

by_once : (kept : Kept) (events : List Event) (w v : World) (c : Image) → StandsBy kept events w c → StandsBy kept events v c → w ≡ v
by_once kept events w v c here there =
    let same = catalog.at_most_one kept.format events (readings_of c.pages) w v here.stands there.stands
    in λ i. record {
      sets = same.0 i;
      next = same.1 i;
      epoch = (here.epoch ∙ sym there.epoch) i;
      records = (here.records ∙ sym there.records) i;
      format = (here.format ∙ sym there.format) i;
    }

pub one_world : (w v : World) (c : Image) → StandsAs w c → StandsAs v c → w ≡ v
one_world w v c (inl new) (inl also) = new.world ∙ sym also.world
one_world w v c (inl new) (inr made) = absurd (not_unmade made.kept c.journal new.journal made.by.journal)
one_world w v c (inr made) (inl new) = absurd (not_unmade made.kept c.journal new.journal made.by.journal)
one_world w v c (inr made) (inr also) =
    by_once also.kept also.events w v c (stands_by also.kept also.events w c (inr made) also.by.journal also.by.spell) also.by

-- ---- no World

-- any other thing that a journal's bytes may be
other_thing : (s : Standing) (w : World) (c : Image) → StandsAs w c → AreaIs s c.journal → (Unmade ≡ s → ⊥) → ((kept : Kept) → Holds kept ≡ s → ⊥) → ⊥
other_thing s w c (inl new) is unmade held = unmade (one_thing Unmade s c.journal new.journal is)
other_thing s w c (inr made) is unmade held = held made.kept (one_thing (Holds made.kept) s c.journal made.by.journal is)

pub no_pages : (w : World) (c : Image) → StandsAs w c → IsUnmade c.journal → c.pages ≢ [] → ⊥
no_pages w c (inl new) unmade some = some new.pages
no_pages w c (inr made) unmade some = not_unmade made.kept c.journal unmade made.by.journal

pub not_foreign : (w : World) (c : Image) → StandsAs w c → IsForeign c.journal → ⊥
not_foreign w c stands is = other_thing Foreign w c stands is (λ e. absurd cc) (λ kept e. absurd cc)

pub not_of_format : (w : World) (c : Image) (found : ℕ) → StandsAs w c → IsOfFormat found c.journal → ⊥
not_of_format w c found stands is = other_thing (OfFormat found) w c stands is (λ e. absurd cc) (λ kept e. absurd cc)

pub not_damaged : (w : World) (c : Image) (place : ℕ) → StandsAs w c → AreaIs (DamagedAt place) c.journal → ⊥
not_damaged w c place stands is = other_thing (DamagedAt place) w c stands is (λ e. absurd cc) (λ kept e. absurd cc)

-- ---- the pages

covered : (es : List Extent) (e : Extent) (page : ℕ) → IsIn es e → has_page e page ≡ true → 1 ≤ covers es page
covered [] e page is has = absurd is
covered (x ∷ xs) e page (inl same) has =
    let here : has_page x page ≡ true = ap (λ (y : Extent). has_page y page) (sym same) ∙ has
    in let count : ℕ = if has_page x page then 1 else 0
    in let one : count ≡ 1 = ap (λ (b : Bool). let n : ℕ = (if b then 1 else 0) in n) here
    in omega (arith, one)
covered (x ∷ xs) e page (inr later) has = let more : 1 ≤ covers xs page = covered xs e page later has in omega (arith, more)

has_between : (e : Extent) (page : ℕ) → e.page ≤ page → page < e.page + pages_of e → has_page e page ≡ true
has_between e page low high = grind (arith, nat_tests)

has_last : (e : Extent) → 0 < e.bytes → has_page e (e.page + (pages_of e - 1)) ≡ true
has_last e some =
    let pages : 1 ≤ pages_of e = omega (arith, some)
    in let low : e.page ≤ e.page + (pages_of e - 1) = omega arith
    in let high : e.page + (pages_of e - 1) < e.page + pages_of e = omega (arith, pages)
    in grind (arith, nat_tests)

-- the pages of the extents are there
abbrev AreThere : List Extent → List ℕ → Type 0
AreThere es pages = (page : ℕ) → 1 ≤ covers es page → page < pages_in pages

pub long : (es : List Extent) (e : Extent) (pages : List ℕ) → IsIn es e → AreThere es pages → 0 < e.bytes → 4096 * e.page + e.bytes ≤ length pages
long es e pages is there some =
    let last : e.page + (pages_of e - 1) < pages_in pages = there (e.page + (pages_of e - 1)) (covered es e (e.page + (pages_of e - 1)) is (has_last e some))
    in omega (arith, last, some)

used : (es : List Extent) (e : Extent) (p : ℕ) → IsIn es e → 4096 * e.page ≤ p → p < 4096 * e.page + e.bytes → IsUsed es p
used [] e p is low high = absurd is
used (x ∷ xs) e p (inl same) low high = inl (subst (λ (y : Extent). (4096 * y.page ≤ p) × (p < 4096 * y.page + y.bytes)) same (low, high))
used (x ∷ xs) e p (inr later) low high = inr (used xs e p later low high)

bytes_same : (es : List Extent) (old new : List ℕ) → AreThere es old → SameLive es old new → (e : Extent) → IsIn es e → extent_bytes new e ≡ extent_bytes old e
bytes_same es old new there kept_live e is = by e.bytes refl
  where
    by : (n : ℕ) → e.bytes ≡ n → take n (drop (4096 * e.page) new) ≡ take n (drop (4096 * e.page) old)
    by zero none = refl
    by (suc n) more =
        let some : 0 < e.bytes = omega (arith, more)
        in let long_old : 4096 * e.page + e.bytes ≤ length old = long es e old is there some
        in let long_new : 4096 * e.page + e.bytes ≤ length new = long es e new is kept_live.there some
        in piece_same old new (4096 * e.page) (suc n) (omega (arith, long_old, more)) (omega (arith, long_new, more))
        (λ p low high. kept_live.same p (used es e p is low (omega (arith, high, more))))

used_covered : (es : List Extent) (p : ℕ) → IsUsed es p → 1 ≤ covers es (p / 4096)
used_covered [] p is = absurd is
used_covered (e ∷ es) p (inl at) =
    let low : e.page ≤ p / 4096 = omega (arith, at.0)
    in let high : p / 4096 < e.page + pages_of e = omega (arith, at.0, at.1)
    in let has : has_page e (p / 4096) ≡ true = has_between e (p / 4096) low high
    in covered (e ∷ es) e (p / 4096) (inl refl) has
used_covered (e ∷ es) p (inr later) = let more : 1 ≤ covers es (p / 4096) = used_covered es p later in omega (arith, more)

pub same_pages : (es : List Extent) (old new : List ℕ) → AreThere es new → ((p : ℕ) → 1 ≤ covers es (p / 4096) → slice_index new p ≡ slice_index old p) → SameLive es old new
same_pages es old new there same = record { there = there; same = λ p is. same p (used_covered es p is) }

pub read_same : (es : List Extent) (old new : List ℕ) → AreThere es old → SameLive es old new → ReadSame es (readings_of old) (readings_of new)
read_same es old new there kept_live = record {
  lists = λ e is. ap (λ (bytes : List ℕ). if length bytes == e.bytes then list_in bytes else None) (bytes_same es old new there kept_live e is);
  segments = λ e is. ap (λ (bytes : List ℕ). if length bytes == e.bytes then segment_in bytes else None) (bytes_same es old new there kept_live e is);
  there = kept_live.there;
}

-- ---- other images that stand for the same World

pub stands_on : (format : ℕ) (events : List Event) (w : World) (old new : List ℕ) → StandsFor format events (readings_of old) w → SameLive (live (numbers_in events)) old new
    → StandsFor format events (readings_of new) w
stands_on format events w old new stands kept_live =
    catalog.same_readings format events (readings_of old) (readings_of new) w stands (read_same (live (numbers_in events)) old new stands.apart.inside kept_live)

pub same_world : (kept other : Kept) (events : List Event) (w : World) (old new : Image) → StandsBy kept events w old
    → IsJournal other new.journal → SaysSame kept other → SameLive (live (numbers_in events)) old.pages new.pages → StandsBy other events w new
same_world kept other events w old new stands journal says kept_live = record {
  journal = journal;
  spell = record { are = stands.spell.are; written = says.payloads ∙ stands.spell.written };
  stands = subst (λ format. StandsFor format events (readings_of new.pages) w) (sym says.format) (stands_on kept.format events w old.pages new.pages stands.stands kept_live);
  epoch = stands.epoch ∙ sym says.epoch;
  format = stands.format ∙ sym says.format;
  records = stands.records ∙ ap length (sym says.payloads);
}

says_itself : (kept : Kept) → SaysSame kept kept
says_itself kept = record { epoch = refl; format = refl; payloads = refl }

pub same_front : (kept : Kept) (events : List Event) (w : World) (old new : Image) → StandsBy kept events w old
    → take (end_of kept + 1) new.journal ≡ take (end_of kept + 1) old.journal → new.pages ≡ old.pages → StandsBy kept events w new
same_front kept events w old new stands same pages =
    let es : List Extent = live (numbers_in events)
    in let itself : SameLive es old.pages old.pages = record { there = stands.stands.apart.inside; same = λ p is. refl }
    in same_world kept kept events w old new stands (same_journal kept old.journal new.journal stands.journal same) (says_itself kept)
    (subst (λ ps. SameLive es old.pages ps) (sym pages) itself)

pub other_pages : (kept : Kept) (events : List Event) (w : World) (old new : Image) → StandsBy kept events w old
    → new.journal ≡ old.journal → SameLive (live (numbers_in events)) old.pages new.pages → StandsBy kept events w new
other_pages kept events w old new stands same kept_live =
    same_world kept kept events w old new stands (subst (λ j. IsJournal kept j) (sym same) stands.journal) (says_itself kept) kept_live

-- ---- one payload more

-- a checkpoint has no event of its own
pub no_event : (w : World) (e : numbered.Event (Option Rids) (Option Records)) → Some e ≡ asked_event Checkpoint w → ⊥
no_event w e is = absurd cc

pub counted : (m : Move) (w : World) → m ≢ Checkpoint → Fits m w → ((moved m w).epoch ≡ w.epoch) × ((moved m w).format ≡ w.format) × ((moved m w).records ≡ w.records + 1)
counted (Init name schema rows) w other fits = (refl, refl, refl)
counted (Commit cvd parents message added rows) w other fits = (refl, refl, refl)
counted (BeginPlan cvd p q) w other fits = (refl, refl, refl)
counted (Copy cvd) w other fits = (refl, refl, refl)
counted (Flip cvd) w other fits = (refl, refl, refl)
counted (Drop cvd) w other fits = (refl, refl, refl)
counted Checkpoint w other fits = absurd (other refl)

all_more : (es : List Event) (e : Event) → AllByRecursion IsEvent es → IsEvent e → AllByRecursion IsEvent (es ++ e ∷ [])
all_more [] e all is = (is, tt)
all_more (x ∷ es) e all is = (all.0, all_more es e all.1 is)

spell_more : (es : List Event) (e : Event) (payloads : List (List ℕ)) → Spell es payloads → IsEvent e → Spell (es ++ e ∷ []) (payloads ++ spelling e ∷ [])
spell_more es e payloads spell is = record {
  are = all_more es e spell.are is;
  written = ap (λ (ps : List (List ℕ)). ps ++ spelling e ∷ []) spell.written ∙ sym (map-append spelling es (e ∷ []));
}

pub one_more : (kept : Kept) (events : List Event) (w : World) (old new : Image) (e : Event) (m : Move) → StandsBy kept events w old
    → IsEvent e → IsJournal (and_one kept (spelling e)) new.journal → SameLive (live (numbers_in events)) old.pages new.pages
    → IsMove kept.format e m w (numbers_in events) (readings_of new.pages) → StandsBy (and_one kept (spelling e)) (events ++ e ∷ []) (moved m w) new
one_more kept events w old new e m stands is journal kept_live move =
    let count = counted m w (λ same. no_event w (seen_event (readings_of new.pages) e) (subst (λ k. Some (seen_event (readings_of new.pages) e) ≡ asked_event k w) same move.spells)) move.fits
    in record {
      journal = journal;
      spell = spell_more events e kept.payloads stands.spell is;
      stands = catalog.one_more kept.format events (readings_of new.pages) w e m (stands_on kept.format events w old.pages new.pages stands.stands kept_live) move;
      epoch = count.0 ∙ stands.epoch;
      format = count.1 ∙ stands.format;
      records = omega (arith, count.2, stands.records, length-append kept.payloads (spelling e ∷ []));
    }

-- ---- no payload

pub unmade_stands : (c : Image) → IsUnmade c.journal → c.pages ≡ [] → StandsAs empty_world c
unmade_stands c journal pages = inl (record { journal = journal; pages = pages; world = refl })

pub new_stands : (c : Image) → IsJournal new_kept c.journal → StandsBy new_kept [] empty_world c
new_stands c journal = record {
  journal = journal;
  spell = record { are = tt; written = refl };
  stands = catalog.nothing_stands 2 (readings_of c.pages);
  epoch = refl;
  format = refl;
  records = refl;
}
