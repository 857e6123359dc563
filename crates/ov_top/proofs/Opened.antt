-- Bytes that open aren't refused, and say one thing.
use Rattle.std.proofs.Common.{◌≡◌, ◌<◌, ◌⊎◌, inl, inr, ℕ, List, [], ◌∷◌, map, refl, sym, ◌∙◌, ap, subst, arith}
use Rattle.std.specs.List.{AllByRecursion}
use Rattle.ov_host.specs.declared.area.Area.TheVariants.{Pages, Journal}
use Rattle.ov_host.specs.declared.area.Extent.{Extent}
use Rattle.ov_host.specs.Disk.{Disk}
use Rattle.ov_host.specs.Host.{State}
use Rattle.ov_event.specs.declared.event.Event.{Event}
use Rattle.ov_event.specs.Spelling.{IsEvent, spelling}
use Rattle.ov_event.proofs.Events.{spelled_once}
use Rattle.ov_journal.specs.Journal.{Kept, Foreign, OfFormat, DamagedAt, Unmade, Holds}
use Rattle.ov_journal.specs.Held.{kept_by}
use Rattle.ov_journal.specs.Opened.{HasStood, IsMade}
use Rattle.ov_journal.proofs.Unique.{one_thing}
use Rattle.ov_catalog.specs.Extents.{AreApart, live}
use Rattle.ov_catalog.specs.Numbers.{Numbers}
use Rattle.ov_catalog.specs.Raw.{numbers_in}
use Rattle.law_image.specs.Pages.{pages_in}
use Rattle.ov_core.specs.Held.{Held, IsByJournal, IsReplay}
use Rattle.ov_open.specs.declared.errors.OpenErr.{OpenErr}
use Rattle.ov_open.specs.declared.errors.OpenErr.TheVariants as errors
use Rattle.ov_open.specs.Opening.{IsOpened, IsOutside}
use Rattle.ov_open.specs.Refusing.{HasPageOff, IsOff, Refuses, StopsAt}
use Rattle.ov_open.proofs.Stopping.{head_is, not_stopped, tail_is}
use Rattle.ov_top.specs.Bytes.{IsStore, Opens, OpensAs}

-- ---- payloads spell one list of events

one_list : (a b : List Event) → AllByRecursion IsEvent a → AllByRecursion IsEvent b → map spelling a ≡ map spelling b → a ≡ b
one_list [] [] are others e = refl
one_list [] (y ∷ b) are others e = absurd cc
one_list (x ∷ a) [] are others e = absurd cc
one_list (x ∷ a) (y ∷ b) are others e =
    let same : x ≡ y = spelled_once x y are.0 others.0 (head_is (spelling x) (spelling y) (map spelling a) (map spelling b) e)
    in let rest : a ≡ b = one_list a b are.1 others.1 (tail_is (spelling x) (spelling y) (map spelling a) (map spelling b) e)
    in λ i. same i ∷ rest i

one_replay : (format : ℕ) (payloads : List (List ℕ)) (m n : Numbers Extent Extent) → IsReplay format payloads m → IsReplay format payloads n → m ≡ n
one_replay format payloads m n a b = a.end ∙ ap numbers_in (one_list a.events b.events a.are b.are (sym a.written ∙ b.written)) ∙ sym b.end

nothing_spelled : (events : List Event) → [] ≡ map spelling events → events ≡ []
nothing_spelled [] e = refl
nothing_spelled (event ∷ events) e = absurd cc

-- ---- no page is off

no_page_off : (es : List Extent) (there page : ℕ) → AreApart es there → IsOff es there page → ⊥
no_page_off es there page apart (inl two) = absurd (omega (arith, apart.once page, two.twice))
no_page_off es there page apart (inr missing) =
    let low : page < there = apart.inside page missing.1.covered in absurd (omega (arith, low, missing.1.beyond))

-- ---- a store's bytes

kept_same : (a b : Kept) → Holds a ≡ Holds b → a ≡ b
kept_same a b e = cc

-- what another reading of the same journal has, it has too
replays_as : (n : Numbers Extent Extent) (d : Disk) (store : IsStore n d) (other : Kept) → Holds store.kept ≡ Holds other → IsReplay other.format other.payloads n
replays_as n d store other e = subst (λ (k : Kept). IsReplay k.format k.payloads n) (kept_same store.kept other e) store.replays

store_stops : (n : Numbers Extent Extent) (d : Disk) (place : ℕ) → IsStore n d → StopsAt place d.journal.bytes → ⊥
store_stops n d place store off =
    not_stopped off.kept.format off.kept.payloads n off.nth
    (replays_as n d store off.kept (one_thing (Holds store.kept) (Holds off.kept) d.journal.bytes store.journal off.stands)) off.stops

store_off : (n : Numbers Extent Extent) (d : Disk) (page : ℕ) → IsStore n d → HasPageOff page d.pages.bytes d.journal.bytes → ⊥
store_off n d page store off =
    let same : n ≡ off.numbers =
    one_replay off.kept.format off.kept.payloads n off.numbers
    (replays_as n d store off.kept (one_thing (Holds store.kept) (Holds off.kept) d.journal.bytes store.journal off.stands)) off.replays
    in no_page_off (live n) (pages_in d.pages.bytes) page store.apart
    (subst (λ (m : Numbers Extent Extent). IsOff (live m) (pages_in d.pages.bytes) page) (sym same) off.off)

-- ---- no refusal

pub not_refused : (why : OpenErr) (d e : Disk) → Opens d → Refuses why d e → IsOutside why
not_refused errors.Host d e opens why = tt
not_refused errors.Memory d e opens why = tt
not_refused errors.NotAStore d e (n, inl store) (inl foreign, same) =
    let x : Holds store.kept ≡ Foreign = one_thing (Holds store.kept) Foreign d.journal.bytes store.journal foreign in cc
not_refused errors.NotAStore d e (n, inl store) (inr unmade, same) =
    let x : Holds store.kept ≡ Unmade = one_thing (Holds store.kept) Unmade d.journal.bytes store.journal unmade.0 in cc
not_refused errors.NotAStore d e (n, inr empty) (inl foreign, same) =
    let x : Unmade ≡ Foreign = one_thing Unmade Foreign d.journal.bytes empty.journal foreign in cc
not_refused errors.NotAStore d e (n, inr empty) (inr unmade, same) = absurd (unmade.1 empty.no_pages)
not_refused (errors.Format found) d e (n, inl store) (other, same) =
    let x : Holds store.kept ≡ OfFormat found = one_thing (Holds store.kept) (OfFormat found) d.journal.bytes store.journal other in cc
not_refused (errors.Format found) d e (n, inr empty) (other, same) =
    let x : Unmade ≡ OfFormat found = one_thing Unmade (OfFormat found) d.journal.bytes empty.journal other in cc
not_refused (errors.Damaged Journal place) d e (n, inl store) (inl damaged, same) =
    let x : Holds store.kept ≡ DamagedAt place = one_thing (Holds store.kept) (DamagedAt place) d.journal.bytes store.journal damaged in cc
not_refused (errors.Damaged Journal place) d e (n, inl store) (inr stops, same) = absurd (store_stops n d place store stops)
not_refused (errors.Damaged Journal place) d e (n, inr empty) (inl damaged, same) =
    let x : Unmade ≡ DamagedAt place = one_thing Unmade (DamagedAt place) d.journal.bytes empty.journal damaged in cc
not_refused (errors.Damaged Journal place) d e (n, inr empty) (inr stops, same) =
    let x : Unmade ≡ Holds stops.kept = one_thing Unmade (Holds stops.kept) d.journal.bytes empty.journal stops.stands in cc
not_refused (errors.Damaged Pages page) d e (n, inl store) (off, same) = absurd (store_off n d page store off)
not_refused (errors.Damaged Pages page) d e (n, inr empty) (off, same) =
    let x : Unmade ≡ Holds off.kept = one_thing Unmade (Holds off.kept) d.journal.bytes empty.journal off.stands in cc

-- ---- one thing

pub says_one : (a b : Numbers Extent Extent) (d : Disk) → OpensAs a d → OpensAs b d → a ≡ b
says_one a b d (inl store) (inl other) =
    one_replay other.kept.format other.kept.payloads a b
    (replays_as a d store other.kept (one_thing (Holds store.kept) (Holds other.kept) d.journal.bytes store.journal other.journal)) other.replays
says_one a b d (inl store) (inr empty) =
    let x : Holds store.kept ≡ Unmade = one_thing (Holds store.kept) Unmade d.journal.bytes store.journal empty.journal in absurd cc
says_one a b d (inr empty) (inl store) =
    let x : Unmade ≡ Holds store.kept = one_thing Unmade (Holds store.kept) d.journal.bytes empty.journal store.journal in absurd cc
says_one a b d (inr empty) (inr other) = empty.nothing ∙ sym other.nothing

-- ---- what was opened

opens_by : (d : Disk) (held : Held) (s : State) (is : IsOpened d held s) → HasStood d s.tape.disk held.journal is.payloads ⊎ IsMade d held.journal is.payloads → OpensAs held.numbers d
opens_by d held s is (inl stood) =
    inl (record { kept = kept_by held.journal is.payloads; journal = stood.stands; replays = is.replays; apart = is.apart })
opens_by d held s is (inr made) =
    inr (record {
      journal = made.unmade;
      no_pages = made.no_pages;
      nothing = is.replays.end ∙ ap numbers_in (nothing_spelled is.replays.events (sym made.no_records ∙ is.replays.written));
    })

pub opens_as : (d : Disk) (held : Held) (s : State) → IsOpened d held s → OpensAs held.numbers d
opens_as d held s is = opens_by d held s is is.journal

pub opens : (d : Disk) (held : Held) (s : State) → IsOpened d held s → Opens d
opens d held s is = (held.numbers, opens_as d held s is)

-- the store's numbers are by the journal then
pub by_opened : (d : Disk) (held : Held) (s : State) → IsOpened d held s → IsByJournal held s
by_opened d held s is = record { payloads = is.payloads; at = is.at; replays = is.replays }
