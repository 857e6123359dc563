-- What a move writes is one thing: its event, its list and its segment have one spelling each.
use Rattle.std.proofs.Common.{◌≡◌, ◌⊎◌, inl, inr, ℕ, List, [], ◌∷◌, length, map, refl, sym, ◌∙◌, ap, subst, arith}
use Rattle.std.specs.Prelude.{Option, Some, None, codes}
use Rattle.std.specs.Option.{option_map}
use Rattle.ov_host.specs.declared.area.Extent.{Extent}
use Rattle.ov_event.specs.declared.event.Event as raw
use Rattle.ov_event.specs.declared.event.Event.TheVariants as says
use Rattle.ov_event.specs.declared.event.Placed.{Placed}
use Rattle.ov_event.specs.declared.event.Placed.TheVariants as at
use Rattle.ov_event.specs.declared.event.PlanTarget.{PlanTarget}
use Rattle.ov_event.specs.declared.event.RawSchema.{RawSchema}
use Rattle.ov_member.specs.Lists.{Spells, bytes_of, ranges_of}
use Rattle.ov_member.proofs.RangeLemmas.{ranges_of-rids_of}
use Rattle.ov_place.specs.declared.place_facts.Place.{Place}
use Rattle.ov_place.specs.declared.place_facts.Place.TheVariants.{Own, Join}
use Rattle.ov_value.specs.Shapes.{Shape}
use Rattle.ov_value.specs.declared.column.Column.{Column}
use Rattle.ov_model.specs.Book.{Row}
use Rattle.ov_model.specs.Moves.{Move, Init as InitMove, Commit as CommitMove, BeginPlan, Copy as CopyMove, Flip as FlipMove, Drop as DropMove, Checkpoint, numbered, version_of, wide}
use Rattle.ov_model.specs.World as worlds
use Rattle.ov_model.specs.World.{Dataset, World, first_set}
use Rattle.ov_catalog.specs.Events.{Event, Init, Commit, Plan, Copy, Flip, Drop, Base, Whole, Wide}
use Rattle.ov_catalog.specs.Raw.{event_in, place_in, shape_in}
use Rattle.ov_catalog.specs.Reached.{CommitFits, Fits, IfThere}
use Rattle.ov_catalog.specs.Shown.{Records, Rids, init_event, commit_event, commit_in, copy_event, copy_for, event_of, in_set, plan_event, wide_event}
use Rattle.ov_catalog.specs.Stands.{asked_as, asked_event}
use Rattle.ov_catalog.proofs.Moving.{some_same}
use Rattle.law_image.specs.Lists.{list_in}
use Rattle.law_image.specs.Segments.{segment_bytes, segment_in}
use Rattle.law_image.proofs.Readers.{list_read, segment_read}
use Rattle.ov_core.specs.Brought.{content, extent_at, segments_in, with_extents}
use Rattle.ov_core.specs.Rooms.{pages_for}
use Rattle.ov_event.specs.Spelling.{spelling}
use Rattle.law_room.proofs.Lengths.{same_size}
use Rattle.law_room.specs.Room.{AllFit, Entry, HasRuns, LacksRun, Made, Take, Takes, Writes}

-- ---- bytes

list_is : (bytes rids : List ℕ) → list_in bytes ≡ Some rids → bytes ≡ bytes_of (ranges_of rids)
list_is bytes rids is =
    let spells : Spells bytes rids = list_read bytes rids is
    in spells.written ∙ ap bytes_of (sym (ap ranges_of spells.listed ∙ ranges_of-rids_of 0 spells.ranges spells.apart))

segment_is : (bytes : List ℕ) (records : Records) → segment_in bytes ≡ Some records → bytes ≡ segment_bytes records
segment_is bytes records is = (segment_read bytes records is).1

head_is : {X : Type 0} (x y : X) (xs ys : List X) → x ∷ xs ≡ y ∷ ys → x ≡ y
head_is x y xs ys e = cc

-- the segments of two bytes that have the same
segments_once : (a b : List ℕ) (segments : List Records) → segments_in a ≡ map Some segments → segments_in b ≡ map Some segments → a ≡ b
segments_once [] [] segments here there = refl
segments_once [] (y ∷ b) segments here there = absurd (by segments here there)
  where
    by : (s : List Records) → [] ≡ map Some s → segment_in (y ∷ b) ∷ [] ≡ map Some s → ⊥
    by [] one two = cc
    by (x ∷ s) one two = cc
segments_once (x ∷ a) [] segments here there = absurd (by segments here there)
  where
    by : (s : List Records) → segment_in (x ∷ a) ∷ [] ≡ map Some s → [] ≡ map Some s → ⊥
    by [] one two = cc
    by (y ∷ s) one two = cc
segments_once (x ∷ a) (y ∷ b) segments here there = by segments here there
  where
    by : (s : List Records) → segment_in (x ∷ a) ∷ [] ≡ map Some s → segment_in (y ∷ b) ∷ [] ≡ map Some s → x ∷ a ≡ y ∷ b
    by [] one two = absurd cc
    by (records ∷ s) one two =
        segment_is (x ∷ a) records (head_is (segment_in (x ∷ a)) (Some records) [] (map Some s) one)
        ∙ sym (segment_is (y ∷ b) records (head_is (segment_in (y ∷ b)) (Some records) [] (map Some s) two))

-- ---- events

abbrev placed_of : Place → Placed
placed_of Own = at.Own
placed_of (Join id) = at.Join id

placed_back : (p : Placed) → placed_of (place_in p) ≡ p
placed_back at.Own = refl
placed_back (at.Join id) = refl

abbrev schema_of : Shape → RawSchema
schema_of s = record { columns = s.columns; key = s.key }

-- what an event is whose extents are those of these bytes
abbrev IsSized : raw.Event → List ℕ → List ℕ → Type 0
IsSized e list segment = with_extents (extent_at 0 list) (extent_at 0 segment) e ≡ e

-- the one event that says so, of those of moves
abbrev said_by : Event Rids Records → Extent → Extent → raw.Event
said_by (Init name schema rows list segments) l s = says.Init name (schema_of schema) rows l s
said_by (Commit cvd vid message parents rows fresh place added list segments) l s = says.Commit cvd vid message parents rows fresh (placed_of place) added l s
said_by (Plan cvd p q targets) l s = says.Plan cvd p q targets
said_by (Copy cvd count segments) l s = says.Copy cvd count s
said_by (Flip cvd) l s = says.Flip cvd
said_by (Drop cvd) l s = says.Drop cvd
said_by (Base next) l s = says.Base next
said_by (Whole d) l s = says.Base 0
said_by (Wide cvd vid message columns parents rows fresh place added list segments) l s =
    says.Wide cvd vid message columns parents rows fresh (placed_of place) added l s

-- it is the event of a move
abbrev IsOwn : Event Rids Records → Type 0
IsOwn (Init name schema rows list segments) = Unit {0}
IsOwn (Commit cvd vid message parents rows fresh place added list segments) = Unit {0}
IsOwn (Plan cvd p q targets) = Unit {0}
IsOwn (Copy cvd count segments) = Unit {0}
IsOwn (Flip cvd) = Unit {0}
IsOwn (Drop cvd) = Unit {0}
IsOwn (Base next) = ⊥
IsOwn (Whole d) = ⊥
IsOwn (Wide cvd vid message columns parents rows fresh place added list segments) = Unit {0}

-- what the bytes have is what the event asks for; a plan, a flip and a drop have none, and a copy has a segment alone
abbrev Have : Event Rids Records → List ℕ → List ℕ → Type 0
Have (Init name schema rows list segments) xs ys = (list_in xs ≡ Some list) × (segments_in ys ≡ map Some segments)
Have (Commit cvd vid message parents rows fresh place added list segments) xs ys = (list_in xs ≡ Some list) × (segments_in ys ≡ map Some segments)
Have (Plan cvd p q targets) xs ys = (xs ≡ []) × (ys ≡ [])
Have (Copy cvd count segments) xs ys = (xs ≡ []) × (segments_in ys ≡ map Some segments)
Have (Flip cvd) xs ys = (xs ≡ []) × (ys ≡ [])
Have (Drop cvd) xs ys = (xs ≡ []) × (ys ≡ [])
Have (Base next) xs ys = ⊥
Have (Whole d) xs ys = ⊥
Have (Wide cvd vid message columns parents rows fresh place added list segments) xs ys = (list_in xs ≡ Some list) × (segments_in ys ≡ map Some segments)

record IsSaid (x : Event Rids Records) (e : raw.Event) (list segment : List ℕ) : Type 0 where
  event : e ≡ said_by x (extent_at 0 list) (extent_at 0 segment)
  have : Have x list segment

said_init : (name : List ℕ) (schema : Shape) (rows : ℕ) (rids : Rids) (segments : List Records) (e : raw.Event) (list segment : List ℕ)
    → content (event_in e) list segment ≡ asked_as (Init name schema rows rids segments) → IsSized e list segment → IsSaid (Init name schema rows rids segments) e list segment
said_init name schema rows rids segments (says.Init n s r l t) list segment is sized =
    let name_is : n ≡ name = cc
    in let schema_is : shape_in s ≡ schema = cc
    in let rows_are : r ≡ rows = cc
    in let list_has : list_in list ≡ Some rids = cc
    in let segment_has : segments_in segment ≡ map Some segments = cc
    in record {
      event = sym sized ∙ (λ i. says.Init (name_is i) (schema_of (schema_is i)) (rows_are i) (extent_at 0 list) (extent_at 0 segment));
      have = (list_has, segment_has);
    }
said_init name schema rows rids segments (says.Commit cvd vid message parents r fresh place added l s) list segment is sized = absurd cc
said_init name schema rows rids segments (says.Plan cvd p q targets) list segment is sized = absurd cc
said_init name schema rows rids segments (says.Copy cvd count run) list segment is sized = absurd cc
said_init name schema rows rids segments (says.Flip cvd) list segment is sized = absurd cc
said_init name schema rows rids segments (says.Drop cvd) list segment is sized = absurd cc
said_init name schema rows rids segments (says.Base next) list segment is sized = absurd cc
said_init name schema rows rids segments (says.Whole set) list segment is sized = absurd cc
said_init name schema rows rids segments (says.Wide cvd vid message columns parents r fresh place added l s) list segment is sized = absurd cc

said_commit : (cvd vid : ℕ) (message : List ℕ) (parents : List (ℕ × ℕ)) (rows fresh : ℕ) (place : Place) (added : ℕ) (rids : Rids) (segments : List Records) (e : raw.Event) (list segment : List ℕ)
    → content (event_in e) list segment ≡ asked_as (Commit cvd vid message parents rows fresh place added rids segments) → IsSized e list segment
    → IsSaid (Commit cvd vid message parents rows fresh place added rids segments) e list segment
said_commit cvd vid message parents rows fresh place added rids segments (says.Init n s r l t) list segment is sized = absurd cc
said_commit cvd vid message parents rows fresh place added rids segments (says.Commit c v m ps r f p a l s) list segment is sized =
    let cvd_is : c ≡ cvd = cc
    in let vid_is : v ≡ vid = cc
    in let message_is : m ≡ message = cc
    in let parents_are : ps ≡ parents = cc
    in let rows_are : r ≡ rows = cc
    in let fresh_are : f ≡ fresh = cc
    in let place_is : place_in p ≡ place = cc
    in let added_are : a ≡ added = cc
    in let list_has : list_in list ≡ Some rids = cc
    in let segment_has : segments_in segment ≡ map Some segments = cc
    in record {
      event = sym sized
          ∙ (λ i. says.Commit (cvd_is i) (vid_is i) (message_is i) (parents_are i) (rows_are i) (fresh_are i) ((sym (placed_back p) ∙ ap placed_of place_is) i) (added_are i) (extent_at 0 list) (extent_at 0 segment));
      have = (list_has, segment_has);
    }
said_commit cvd vid message parents rows fresh place added rids segments (says.Plan c p q targets) list segment is sized = absurd cc
said_commit cvd vid message parents rows fresh place added rids segments (says.Copy c count run) list segment is sized = absurd cc
said_commit cvd vid message parents rows fresh place added rids segments (says.Flip c) list segment is sized = absurd cc
said_commit cvd vid message parents rows fresh place added rids segments (says.Drop c) list segment is sized = absurd cc
said_commit cvd vid message parents rows fresh place added rids segments (says.Base next) list segment is sized = absurd cc
said_commit cvd vid message parents rows fresh place added rids segments (says.Whole set) list segment is sized = absurd cc
said_commit cvd vid message parents rows fresh place added rids segments (says.Wide c v m columns ps r f p a l s) list segment is sized = absurd cc

said_wide : (cvd vid : ℕ) (message : List ℕ) (columns : List Column) (parents : List (ℕ × ℕ)) (rows fresh : ℕ) (place : Place) (added : ℕ) (rids : Rids) (segments : List Records)
    (e : raw.Event) (list segment : List ℕ) → content (event_in e) list segment ≡ asked_as (Wide cvd vid message columns parents rows fresh place added rids segments)
    → IsSized e list segment → IsSaid (Wide cvd vid message columns parents rows fresh place added rids segments) e list segment
said_wide cvd vid message columns parents rows fresh place added rids segments (says.Init n s r l t) list segment is sized = absurd cc
said_wide cvd vid message columns parents rows fresh place added rids segments (says.Commit c v m ps r f p a l s) list segment is sized = absurd cc
said_wide cvd vid message columns parents rows fresh place added rids segments (says.Plan c p q targets) list segment is sized = absurd cc
said_wide cvd vid message columns parents rows fresh place added rids segments (says.Copy c count run) list segment is sized = absurd cc
said_wide cvd vid message columns parents rows fresh place added rids segments (says.Flip c) list segment is sized = absurd cc
said_wide cvd vid message columns parents rows fresh place added rids segments (says.Drop c) list segment is sized = absurd cc
said_wide cvd vid message columns parents rows fresh place added rids segments (says.Base next) list segment is sized = absurd cc
said_wide cvd vid message columns parents rows fresh place added rids segments (says.Whole set) list segment is sized = absurd cc
said_wide cvd vid message columns parents rows fresh place added rids segments (says.Wide c v m cs ps r f p a l s) list segment is sized =
    let cvd_is : c ≡ cvd = cc
    in let vid_is : v ≡ vid = cc
    in let message_is : m ≡ message = cc
    in let columns_are : cs ≡ columns = cc
    in let parents_are : ps ≡ parents = cc
    in let rows_are : r ≡ rows = cc
    in let fresh_are : f ≡ fresh = cc
    in let place_is : place_in p ≡ place = cc
    in let added_are : a ≡ added = cc
    in let list_has : list_in list ≡ Some rids = cc
    in let segment_has : segments_in segment ≡ map Some segments = cc
    in record {
      event = sym sized
          ∙ (λ i. says.Wide (cvd_is i) (vid_is i) (message_is i) (columns_are i) (parents_are i) (rows_are i) (fresh_are i) ((sym (placed_back p) ∙ ap placed_of place_is) i) (added_are i)
          (extent_at 0 list) (extent_at 0 segment));
      have = (list_has, segment_has);
    }

said_drop : (cvd : ℕ) (e : raw.Event) (list segment : List ℕ) → content (event_in e) list segment ≡ Drop cvd → HasRuns e list segment → IsSaid (Drop cvd) e list segment
said_drop cvd (says.Init n s r l t) list segment is runs = absurd cc
said_drop cvd (says.Commit c v m ps r f p a l s) list segment is runs = absurd cc
said_drop cvd (says.Plan c p q targets) list segment is runs = absurd cc
said_drop cvd (says.Copy c count run) list segment is runs = absurd cc
said_drop cvd (says.Flip c) list segment is runs = absurd cc
said_drop cvd (says.Drop c) list segment is runs =
    let cvd_is : c ≡ cvd = cc
    in record { event = λ i. says.Drop (cvd_is i); have = runs }
said_drop cvd (says.Base next) list segment is runs = absurd cc
said_drop cvd (says.Whole set) list segment is runs = absurd cc
said_drop cvd (says.Wide c v m columns ps r f p a l s) list segment is runs = absurd cc

said_plan : (cvd p q : ℕ) (targets : List PlanTarget) (e : raw.Event) (list segment : List ℕ) → content (event_in e) list segment ≡ Plan cvd p q targets → HasRuns e list segment
    → IsSaid (Plan cvd p q targets) e list segment
said_plan cvd p q targets (says.Init n s r l t) list segment is runs = absurd cc
said_plan cvd p q targets (says.Commit c v m ps r f place a l s) list segment is runs = absurd cc
said_plan cvd p q targets (says.Plan c a b ts) list segment is runs =
    let cvd_is : c ≡ cvd = cc
    in let p_is : a ≡ p = cc
    in let q_is : b ≡ q = cc
    in let targets_are : ts ≡ targets = cc
    in record { event = λ i. says.Plan (cvd_is i) (p_is i) (q_is i) (targets_are i); have = runs }
said_plan cvd p q targets (says.Copy c count run) list segment is runs = absurd cc
said_plan cvd p q targets (says.Flip c) list segment is runs = absurd cc
said_plan cvd p q targets (says.Drop c) list segment is runs = absurd cc
said_plan cvd p q targets (says.Base next) list segment is runs = absurd cc
said_plan cvd p q targets (says.Whole set) list segment is runs = absurd cc
said_plan cvd p q targets (says.Wide c v m columns ps r f place a l s) list segment is runs = absurd cc

said_copy : (cvd count : ℕ) (segments : List Records) (e : raw.Event) (list segment : List ℕ) → content (event_in e) list segment ≡ asked_as (Copy cvd count segments)
    → IsSized e list segment → HasRuns e list segment → IsSaid (Copy cvd count segments) e list segment
said_copy cvd count segments (says.Init n s r l t) list segment is sized runs = absurd cc
said_copy cvd count segments (says.Commit c v m ps r f place a l s) list segment is sized runs = absurd cc
said_copy cvd count segments (says.Plan c p q targets) list segment is sized runs = absurd cc
said_copy cvd count segments (says.Copy c n run) list segment is sized runs =
    let cvd_is : c ≡ cvd = cc
    in let count_is : n ≡ count = cc
    in let segment_has : segments_in segment ≡ map Some segments = cc
    in record { event = sym sized ∙ (λ i. says.Copy (cvd_is i) (count_is i) (extent_at 0 segment)); have = (runs, segment_has) }
said_copy cvd count segments (says.Flip c) list segment is sized runs = absurd cc
said_copy cvd count segments (says.Drop c) list segment is sized runs = absurd cc
said_copy cvd count segments (says.Base next) list segment is sized runs = absurd cc
said_copy cvd count segments (says.Whole set) list segment is sized runs = absurd cc
said_copy cvd count segments (says.Wide c v m columns ps r f place a l s) list segment is sized runs = absurd cc

said_flip : (cvd : ℕ) (e : raw.Event) (list segment : List ℕ) → content (event_in e) list segment ≡ Flip cvd → HasRuns e list segment → IsSaid (Flip cvd) e list segment
said_flip cvd (says.Init n s r l t) list segment is runs = absurd cc
said_flip cvd (says.Commit c v m ps r f p a l s) list segment is runs = absurd cc
said_flip cvd (says.Plan c p q targets) list segment is runs = absurd cc
said_flip cvd (says.Copy c count run) list segment is runs = absurd cc
said_flip cvd (says.Flip c) list segment is runs =
    let cvd_is : c ≡ cvd = cc
    in record { event = λ i. says.Flip (cvd_is i); have = runs }
said_flip cvd (says.Drop c) list segment is runs = absurd cc
said_flip cvd (says.Base next) list segment is runs = absurd cc
said_flip cvd (says.Whole set) list segment is runs = absurd cc
said_flip cvd (says.Wide c v m columns ps r f p a l s) list segment is runs = absurd cc

said : (x : Event Rids Records) → IsOwn x → (e : raw.Event) (list segment : List ℕ) → content (event_in e) list segment ≡ asked_as x → IsSized e list segment
    → HasRuns e list segment → IsSaid x e list segment
said (Init name schema rows rids segments) own e list segment is sized runs = said_init name schema rows rids segments e list segment is sized
said (Commit cvd vid message parents rows fresh place added rids segments) own e list segment is sized runs =
    said_commit cvd vid message parents rows fresh place added rids segments e list segment is sized
said (Drop cvd) own e list segment is sized runs = said_drop cvd e list segment is runs
said (Plan cvd p q targets) own e list segment is sized runs = said_plan cvd p q targets e list segment is runs
said (Copy cvd count segments) own e list segment is sized runs = said_copy cvd count segments e list segment is sized runs
said (Flip cvd) own e list segment is sized runs = said_flip cvd e list segment is runs
said (Base next) own e list segment is sized runs = absurd own
said (Whole d) own e list segment is sized runs = absurd own
said (Wide cvd vid message columns parents rows fresh place added rids segments) own e list segment is sized runs =
    said_wide cvd vid message columns parents rows fresh place added rids segments e list segment is sized

have_once : (x : Event Rids Records) (a b s t : List ℕ) → Have x a s → Have x b t → (a ≡ b) × (s ≡ t)
have_once (Init name schema rows rids segments) a b s t here there =
    (list_is a rids here.0 ∙ sym (list_is b rids there.0), segments_once s t segments here.1 there.1)
have_once (Commit cvd vid message parents rows fresh place added rids segments) a b s t here there =
    (list_is a rids here.0 ∙ sym (list_is b rids there.0), segments_once s t segments here.1 there.1)
have_once (Plan cvd p q targets) a b s t here there = (here.0 ∙ sym there.0, here.1 ∙ sym there.1)
have_once (Copy cvd count segments) a b s t here there = (here.0 ∙ sym there.0, segments_once s t segments here.1 there.1)
have_once (Flip cvd) a b s t here there = (here.0 ∙ sym there.0, here.1 ∙ sym there.1)
have_once (Drop cvd) a b s t here there = (here.0 ∙ sym there.0, here.1 ∙ sym there.1)
have_once (Base next) a b s t here there = absurd here
have_once (Whole d) a b s t here there = absurd here
have_once (Wide cvd vid message columns parents rows fresh place added rids segments) a b s t here there =
    (list_is a rids here.0 ∙ sym (list_is b rids there.0), segments_once s t segments here.1 there.1)

-- ---- moves

own_commit : (w : World) (cvd : ℕ) (parents message : List ℕ) (rows : List Row) (found : Option Dataset)
    → IfThere (λ d. CommitFits w d (version_of parents message rows)) found
    → (x : Event Rids Records) → commit_in cvd (version_of parents message rows) found ≡ Some x → IsOwn x
own_commit w cvd parents message rows None fits x is = absurd fits
own_commit w cvd parents message rows (Some d) fits x is = subst IsOwn (some_same (commit_event cvd d (version_of parents message rows)) x is) tt

own_in : (f : Dataset → Option (Event Rids Records)) (found : Option Dataset) → ((d : Dataset) (x : Event Rids Records) → f d ≡ Some x → IsOwn x)
    → (x : Event Rids Records) → in_set f found ≡ Some x → IsOwn x
own_in f None own x is = absurd cc
own_in f (Some d) own x is = own d x is

own_copy : (cvd : ℕ) (d : Dataset) (plan : Option worlds.Plan) (x : Event Rids Records) → copy_for cvd d plan ≡ Some x → IsOwn x
own_copy cvd d None x is = absurd cc
own_copy cvd d (Some plan) x is = subst IsOwn (some_same (copy_event cvd d plan) x is) tt

own_event : (m : Move) (w : World) → Fits m w → (x : Event Rids Records) → event_of m w ≡ Some x → IsOwn x
own_event (InitMove name schema rows) w fits x is = subst IsOwn (some_same (init_event name (version_of [] (codes "init") rows) schema) x is) tt
own_event (CommitMove cvd parents message [] rows) w fits x is = own_commit w cvd parents message rows (first_set (numbered cvd) w.sets) fits x is
own_event (CommitMove cvd parents message (column ∷ added) rows) w fits x is =
    own_in (λ d. Some (wide_event cvd (column ∷ added) (wide (column ∷ added) d) (version_of parents message rows))) (first_set (numbered cvd) w.sets)
    (λ d y said_. subst IsOwn (some_same (wide_event cvd (column ∷ added) (wide (column ∷ added) d) (version_of parents message rows)) y said_) tt) x is
own_event (BeginPlan cvd p q) w fits x is =
    own_in (λ d. Some (plan_event cvd p q d)) (first_set (numbered cvd) w.sets) (λ d y said_. subst IsOwn (some_same (plan_event cvd p q d) y said_) tt) x is
own_event (CopyMove cvd) w fits x is = own_in (λ d. copy_for cvd d d.plan) (first_set (numbered cvd) w.sets) (λ d y said_. own_copy cvd d d.plan y said_) x is
own_event (FlipMove cvd) w fits x is = subst IsOwn (some_same (Flip cvd) x is) tt
own_event (DropMove cvd) w fits x is = subst IsOwn (some_same (Drop cvd) x is) tt
own_event Checkpoint w fits x is = absurd cc

pub written_once : (m : Move) (w : World) (a b : Writes m w) → Fits m w → (a.event ≡ b.event) × (a.list ≡ b.list) × (a.segment ≡ b.segment)
written_once m w a b fits = by (event_of m w) refl a.says b.says
  where
    by : (said_event : Option (Event Rids Records)) → event_of m w ≡ said_event
        → Some (content (event_in a.event) a.list a.segment) ≡ option_map asked_as said_event
        → Some (content (event_in b.event) b.list b.segment) ≡ option_map asked_as said_event
        → (a.event ≡ b.event) × (a.list ≡ b.list) × (a.segment ≡ b.segment)
    by None is one other = absurd cc
    by (Some x) is one other =
        let own : IsOwn x = own_event m w fits x is
        in let here : IsSaid x a.event a.list a.segment =
        said x own a.event a.list a.segment (some_same (content (event_in a.event) a.list a.segment) (asked_as x) one) a.sized a.runs
        in let there : IsSaid x b.event b.list b.segment =
        said x own b.event b.list b.segment (some_same (content (event_in b.event) b.list b.segment) (asked_as x) other) b.sized b.runs
        in let same = have_once x a.list b.list a.segment b.segment here.have there.have
        in (
          here.event ∙ (λ i. said_by x (extent_at 0 (same.0 i)) (extent_at 0 (same.1 i))) ∙ sym there.event,
          same.0,
          same.1,
        )

-- a checkpoint has no event
no_checkpoint : (m : Move) (w : World) → m ≡ Checkpoint → Writes m w → ⊥
no_checkpoint m w is writes =
    let says : Some (content (event_in writes.event) writes.list writes.segment) ≡ asked_event Checkpoint w = writes.says ∙ ap (λ (x : Move). asked_event x w) is
    in absurd cc

takes_once : (m : Move) (w : World) (own size others more : ℕ) → Fits m w → Takes m w own size → Takes m w others more → (own ≡ others) × (size ≡ more)
takes_once m w own size others more fits (inl a) (inl b) =
    let same = written_once m w a.writes b.writes fits
    in let list : pages_for a.writes.list ≡ pages_for b.writes.list = ap pages_for same.1
    in let segment : pages_for a.writes.segment ≡ pages_for b.writes.segment = ap pages_for same.2
    in let record_ : length (spelling a.writes.event) ≡ length (spelling b.writes.event) = ap (λ (e : raw.Event). length (spelling e)) same.0
    in (omega (arith, a.pages_are, b.pages_are, list, segment), omega (arith, a.size_is, b.size_is, record_))
takes_once m w own size others more fits (inl a) (inr b) = absurd (no_checkpoint m w b.checkpoint a.writes)
takes_once m w own size others more fits (inr a) (inl b) = absurd (no_checkpoint m w a.checkpoint b.writes)
takes_once m w own size others more fits (inr a) (inr b) =
    (a.pages_are ∙ sym b.pages_are, a.size_is ∙ same_size w a.writes b.writes ∙ sym b.size_is)

-- so many pages and bytes
pub taken_once : (before : List Made) (pages bytes others more : ℕ) → AllFit before → Take before pages bytes → Take before others more → (pages ≡ others) × (bytes ≡ more)
taken_once [] pages bytes others more fit here there = (here.0 ∙ sym there.0, here.1 ∙ sym there.1)
taken_once (made ∷ before) pages bytes others more fit (own, size, p, n, here, rest, pages_are, bytes_are) (own_too, size_too, q, k, there, rest_too, others_are, more_are) =
    let one = takes_once made.move made.world own size own_too size_too fit.0 here there
    in let behind = taken_once before p n q k fit.1 rest rest_too
    in (omega (arith, pages_are, others_are, one.0, behind.0), omega (arith, bytes_are, more_are, one.1, behind.1))

pub drop_lacks_no_run : (entry : Entry) (before : List Made) (cvd : ℕ) (w : World) (pages : ℕ) → LacksRun entry before (DropMove cvd) w pages → ⊥
drop_lacks_no_run entry before cvd w pages lacks = by lacks.which
  where
    none : (lacks.writes.list ≡ []) × (lacks.writes.segment ≡ [])
    none = (said_drop cvd lacks.writes.event lacks.writes.list lacks.writes.segment
        (some_same (content (event_in lacks.writes.event) lacks.writes.list lacks.writes.segment) (asked_as (Drop cvd)) lacks.writes.says) lacks.writes.runs).have

    by : (pages ≡ pages_for lacks.writes.list) ⊎ (pages ≡ pages_for lacks.writes.segment) → ⊥
    by (inl is) = let empty : pages_for lacks.writes.list ≡ 0 = ap pages_for none.0 in omega (arith, is, empty, lacks.some)
    by (inr is) = let empty : pages_for lacks.writes.segment ≡ 0 = ap pages_for none.1 in omega (arith, is, empty, lacks.some)
