-- The laws of what events and readings stand for.
use Rattle.std.proofs.Common.{◌≡◌, ◌≤◌, ◌<◌, ℕ, zero, suc, ◌+◌, List, [], ◌∷◌, ◌++◌, map, refl, sym, ◌∙◌, ap, subst, inl, inr, arith}
use Rattle.std.specs.Prelude.{Option, Some, None, unwrap_or}
use Rattle.std.specs.List.{flat_map}
use Rattle.std.specs.Option.{option_map}
use Rattle.std.proofs.lemmas.List.{map-append}
use Rattle.ov_host.specs.declared.area.Extent.{Extent}
use Rattle.ov_model.specs.Lists.{IsIn}
use Rattle.ov_model.specs.Moves.{Move, moved}
use Rattle.ov_model.specs.World.{World, empty_world}
use Rattle.ov_catalog.specs.Numbers.{VersionNumbers, PartNumbers, PlanNumbers, SetNumbers, Numbers, each_version, each_part, each_plan, each_set, each, nothing_yet}
use Rattle.ov_catalog.specs.Events.{Event, applied, replayed}
use Rattle.ov_event.specs.declared.event.Event as raw
use Rattle.ov_catalog.specs.Applying.{start_of}
use Rattle.ov_catalog.specs.Raw.{event_in, numbers_in}
use Rattle.ov_catalog.specs.Extents.{of_plan, of_set, live, brought, covers, AreApart}
use Rattle.ov_catalog.specs.Shown.{Rids, Records, shown, event_of}
use Rattle.ov_catalog.specs.Stands.{Readings, seen, asked, seen_event, asked_as, StandsFor, ReadSame, IsMove}
use Rattle.ov_catalog.proofs.Following.{follow_more}
use Rattle.ov_catalog.proofs.Covering.{live_applied, apart_events}
use Rattle.ov_catalog.proofs.Emptying.{flip_fits}
use Rattle.ov_catalog.proofs.Filling.{applied_each, replayed_more}
use Rattle.ov_catalog.proofs.Good.{told, good, reached_more}
use Rattle.ov_catalog.proofs.Moving.{some_same, events_are_moves}
use Rattle.ov_catalog.proofs.Only.{shown_once}

-- ---- the same is read

ext_left : (xs ys : List Extent) (e : Extent) → IsIn xs e → IsIn (xs ++ ys) e
ext_left [] ys e is = absurd is
ext_left (x ∷ xs) ys e (inl same) = inl same
ext_left (x ∷ xs) ys e (inr later) = inr (ext_left xs ys e later)

ext_right : (xs ys : List Extent) (e : Extent) → IsIn ys e → IsIn (xs ++ ys) e
ext_right [] ys e is = is
ext_right (x ∷ xs) ys e is = inr (ext_right xs ys e is)

module _ (old new : Readings) where
  abbrev SameLists : List Extent → Type 0
  SameLists es = (e : Extent) → IsIn es e → new.list e ≡ old.list e

  abbrev SameSegments : List Extent → Type 0
  SameSegments es = (e : Extent) → IsIn es e → new.segment e ≡ old.segment e

  versions_same : (vs : List (VersionNumbers Extent)) → SameLists (map (λ v. v.list) vs) → map (each_version new.list) vs ≡ map (each_version old.list) vs
  versions_same [] same = refl
  versions_same (v ∷ vs) same = λ i.
      record { parents = v.parents; message = v.message; rows = v.rows; fresh = v.fresh; list = same v.list (inl refl) i }
      ∷ versions_same vs (λ e is. same e (inr is)) i

  segments_same : (es : List Extent) → SameSegments es → map new.segment es ≡ map old.segment es
  segments_same [] same = refl
  segments_same (e ∷ es) same = λ i. same e (inl refl) i ∷ segments_same es (λ x is. same x (inr is)) i

  parts_same : (parts : List (PartNumbers Extent)) → SameSegments (flat_map (λ p. p.segments) parts) → map (each_part new.segment) parts ≡ map (each_part old.segment) parts
  parts_same [] same = refl
  parts_same (part ∷ parts) same = λ i.
      record {
        id = part.id;
        versions = part.versions;
        holds = part.holds;
        records = part.records;
        segments = segments_same part.segments (λ e is. same e (ext_left part.segments (flat_map (λ p. p.segments) parts) e is)) i;
      }
      ∷ parts_same parts (λ e is. same e (ext_right part.segments (flat_map (λ p. p.segments) parts) e is)) i

  plan_same : (plan : Option (PlanNumbers Extent)) → SameSegments (of_plan plan) → each_plan new.segment plan ≡ each_plan old.segment plan
  plan_same None same = refl
  plan_same (Some plan) same = λ i. Some (record { p = plan.p; q = plan.q; targets = plan.targets; at = plan.at; copied = plan.copied; segments = segments_same plan.segments same i })

  set_same : (d : SetNumbers Extent Extent) → SameLists (of_set d) → SameSegments (of_set d) → each_set new.list new.segment d ≡ each_set old.list old.segment d
  set_same d lists segments = λ i. record {
    number = d.number;
    name = d.name;
    schema = d.schema;
    versions = versions_same d.versions (λ e is. lists e (ext_left (map (λ v. v.list) d.versions) rest e is)) i;
    parts = parts_same d.parts (λ e is. segments e (ext_right (map (λ v. v.list) d.versions) rest e (ext_left (flat_map (λ p. p.segments) d.parts) (of_plan d.plan) e is))) i;
    next_part = d.next_part;
    threshold = d.threshold;
    plan = plan_same d.plan (λ e is. segments e (ext_right (map (λ v. v.list) d.versions) rest e (ext_right (flat_map (λ p. p.segments) d.parts) (of_plan d.plan) e is))) i;
    records = d.records;
  }
    where
      rest : List Extent
      rest = flat_map (λ p. p.segments) d.parts ++ of_plan d.plan

  sets_same : (sets : List (SetNumbers Extent Extent)) → SameLists (flat_map of_set sets) → SameSegments (flat_map of_set sets) → map (each_set new.list new.segment) sets ≡ map (each_set old.list old.segment) sets
  sets_same [] lists segments = refl
  sets_same (d ∷ sets) lists segments = λ i.
      set_same d (λ e is. lists e (ext_left (of_set d) (flat_map of_set sets) e is)) (λ e is. segments e (ext_left (of_set d) (flat_map of_set sets) e is)) i
      ∷ sets_same sets (λ e is. lists e (ext_right (of_set d) (flat_map of_set sets) e is)) (λ e is. segments e (ext_right (of_set d) (flat_map of_set sets) e is)) i

-- events one after another, and one more
mapped_more : (es : List raw.Event) (e : raw.Event) → map event_in (es ++ e ∷ []) ≡ map event_in es ++ event_in e ∷ []
mapped_more es e = map-append event_in es (e ∷ [])

numbers_more : (es : List raw.Event) (e : raw.Event) → numbers_in (es ++ e ∷ []) ≡ applied (event_in e) (numbers_in es)
numbers_more es e = ap (λ xs. replayed xs nothing_yet) (mapped_more es e) ∙ replayed_more (map event_in es) (event_in e) nothing_yet

-- numbers whose extents read the same
pub seen_same : (n : Numbers Extent Extent) (old new : Readings) → ReadSame (live n) old new → seen new n ≡ seen old n
seen_same n old new same = λ i. record { next = n.next; sets = sets_same old new n.sets same.lists same.segments i }

pub same_readings : (format : ℕ) (events : List raw.Event) (old new : Readings) (w : World) → StandsFor format events old w → ReadSame (live (numbers_in events)) old new
    → StandsFor format events new w
same_readings format events old new w stands same = record {
  reached = stands.reached;
  follow = stands.follow;
  shows = seen_same (numbers_in events) old new same ∙ stands.shows;
  apart = record { once = stands.apart.once; inside = same.there };
}

-- ---- one event more

pub one_more : (format : ℕ) (events : List raw.Event) (r : Readings) (w : World) (e : raw.Event) (m : Move)
    → StandsFor format events r w → IsMove format e m w (numbers_in events) r → StandsFor format (events ++ e ∷ []) r (moved m w)
one_more format events r w e m stands is =
    let n : Numbers Extent Extent = numbers_in events
    in let more : numbers_in (events ++ e ∷ []) ≡ applied (event_in e) n = numbers_more events e
    in let come : (page : ℕ) → covers (live (applied (event_in e) n)) page ≤ covers (brought (event_in e)) page + covers (live n) page =
    λ page. live_applied page e n (apart_events e n (flip_fits w n r (good w stands.reached) stands.shows))
    in record {
      reached = reached_more m w stands.reached is.fits;
      follow = follow_more (start_of format) events e nothing_yet stands.follow is.applies;
      shows = ap (seen r) more
          ∙ applied_each r.list r.segment (event_in e) n
          ∙ of_event (event_of m w) refl is.spells;
      apart = subst (λ k. AreApart (live k) r.pages) (sym more) (record {
        once = λ page. omega (arith, come page, is.apart page);
        inside = λ page some. inside page (covers (brought (event_in e)) page) (covers (live n) page) (covers (live (applied (event_in e) n)) page)
            (come page) some (is.inside page) (stands.apart.inside page);
      });
    }
  where
    -- what is read says the event, which makes the World's numbers those after the move
    of_event : (said : Option (Event Rids Records)) → event_of m w ≡ said → Some (seen_event r e) ≡ option_map asked_as said
        → applied (seen_event r e) (seen r (numbers_in events)) ≡ asked (moved m w)
    of_event None same spells = absurd cc
    of_event (Some x) same spells =
        ap (λ f. applied f (seen r (numbers_in events))) (some_same (seen_event r e) (asked_as x) spells)
        ∙ ap (applied (asked_as x)) stands.shows
        ∙ sym (applied_each Some Some x (shown w))
        ∙ ap (each Some Some) (sym (events_are_moves m w is.fits (good w stands.reached) x same))

    inside : (page a b c : ℕ) → c ≤ a + b → 1 ≤ c → (1 ≤ a → page < r.pages) → (1 ≤ b → page < r.pages) → page < r.pages
    inside page zero b c most some new old = old (omega (arith, most, some))
    inside page (suc a) b c most some new old = new (omega arith)

-- no event, and any readings
pub nothing_stands : (format : ℕ) (r : Readings) → StandsFor format [] r empty_world
nothing_stands format r = record {
  reached = (2, inr refl, [], refl);
  follow = tt;
  shows = refl;
  apart = record { once = λ page. omega arith; inside = λ page some. absurd (omega (arith, some)) };
}

-- ---- at most one World

-- what fills the holes, without the Some around it
out_all : {X : Type 0} (xs : List (List X)) → map (λ o. unwrap_or o []) (map Some xs) ≡ xs
out_all [] = refl
out_all (x ∷ xs) = ap (λ ys. x ∷ ys) (out_all xs)

out_versions : (vs : List (VersionNumbers Rids)) → map (each_version (λ o. unwrap_or o [])) (map (each_version Some) vs) ≡ vs
out_versions [] = refl
out_versions (v ∷ vs) = ap (λ us. v ∷ us) (out_versions vs)

out_parts : (parts : List (PartNumbers Records)) → map (each_part (λ o. unwrap_or o [])) (map (each_part Some) parts) ≡ parts
out_parts [] = refl
out_parts (part ∷ parts) = λ i.
    record { id = part.id; versions = part.versions; holds = part.holds; records = part.records; segments = out_all part.segments i } ∷ out_parts parts i

out_plan : (plan : Option (PlanNumbers Records)) → each_plan (λ o. unwrap_or o []) (each_plan Some plan) ≡ plan
out_plan None = refl
out_plan (Some plan) = λ i. Some (record { p = plan.p; q = plan.q; targets = plan.targets; at = plan.at; copied = plan.copied; segments = out_all plan.segments i })

out_sets : (sets : List (SetNumbers Rids Records)) → map (each_set (λ o. unwrap_or o []) (λ o. unwrap_or o [])) (map (each_set Some Some) sets) ≡ sets
out_sets [] = refl
out_sets (d ∷ sets) = λ i.
    record {
      number = d.number;
      name = d.name;
      schema = d.schema;
      versions = out_versions d.versions i;
      parts = out_parts d.parts i;
      next_part = d.next_part;
      threshold = d.threshold;
      plan = out_plan d.plan i;
      records = d.records;
    }
    ∷ out_sets sets i

out_of : (n : Numbers Rids Records) → each (λ o. unwrap_or o []) (λ o. unwrap_or o []) (each Some Some n) ≡ n
out_of n = λ i. record { next = n.next; sets = out_sets n.sets i }

pub at_most_one : (format : ℕ) (events : List raw.Event) (r : Readings) (w v : World) → StandsFor format events r w → StandsFor format events r v → (w.sets ≡ v.sets) × (w.next ≡ v.next)
at_most_one format events r w v here there =
    let same : asked w ≡ asked v = sym here.shows ∙ there.shows
    in shown_once w v (told w (good w here.reached)) (told v (good v there.reached))
    (sym (out_of (shown w)) ∙ ap (each (λ o. unwrap_or o []) (λ o. unwrap_or o [])) same ∙ out_of (shown v))
