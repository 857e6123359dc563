-- Each event is read as it is spelled, and from no other bytes.
use Rattle.std.proofs.Common.{◌≡◌, ℕ, zero, suc, eqb, Bool, true, false, cond, List, [], ◌∷◌, ◌++◌, length, Option, Some, None, refl, sym, ap, subst, ◌∙◌}
use Rattle.std.specs.List.{All, AllByRecursion}
use Rattle.std.proofs.lemmas.List.Elements.{All-from_recursion}
use Rattle.std.proofs.lemmas.Bool.{eqb-true}
use Rattle.std.proofs.lemmas.List.{append-nil, nil_from_length}
use Rattle.ov_value.specs.declared.column.Column.{Column}
use Rattle.ov_event.specs.declared.commit.Tail.{Tail}
use Rattle.ov_event.specs.declared.event.Event.{Event}
use Rattle.ov_event.specs.declared.event.Event.TheVariants.{Init, Commit, Plan, Copy, Flip, Drop, Base, Whole, Wide}
use Rattle.ov_event.specs.declared.event.RawSchema.{RawSchema}
use Rattle.ov_event.specs.declared.whole.RawPlan.{RawPlan}
use Rattle.ov_event.specs.Fields.{fields, u32, extent, IsU32, IsExtent}
use Rattle.ov_event.specs.Reading.{Reading, made_at}
use Rattle.ov_event.specs.Events.{init_at, tail_at, commit_at, wide_at, plan_at, copy_at, fields_at, event_at, all_of}
use Rattle.ov_event.specs.Spelling.{parents, place, spelling, AreColumns, IsSchema, AreParents, IsPlaced, IsMaybePlan, IsEvent}
use Rattle.ov_event.specs.Fitting.{ColumnFits, ColumnsFit, SchemaFits, TargetFits, VersionFits, PartFits, RawTargetFits, MaybePlanFits, Fits}
use Rattle.ov_event.proofs.Formats.{IsBytes, IsBytes-rest, Takes, IsFormat, some_is, bind_some, u32_format, text_format, end_format, and_then, making, counting}
use Rattle.ov_event.proofs.Records.{extent_format, columns_format, schema_format, parents_format, place_format, target_format, dataset_format}

-- the bytes of what a commit has behind its message and its columns
abbrev tail : Tail → List ℕ
tail t = fields (parents t.parents ∷ u32 t.rows ∷ u32 t.fresh ∷ place t.place ∷ u32 t.added ∷ extent t.list ∷ extent t.segment ∷ [])

abbrev IsTail : Tail → Type 0
IsTail t = AreParents t.parents × IsU32 t.rows × IsU32 t.fresh × IsPlaced t.place × IsU32 t.added × IsExtent t.list × IsExtent t.segment

tail_format : IsFormat tail_at tail IsTail
unfolding tail_at
tail_format =
    making (λ t. record {
      parents = t.0;
      rows = t.1.0;
      fresh = t.1.1.0;
      place = t.1.1.1.0;
      added = t.1.1.1.1.0;
      list = t.1.1.1.1.1.0;
      segment = t.1.1.1.1.1.1.0;
    })
    (λ b. (b.parents, (b.rows, (b.fresh, (b.place, (b.added, (b.list, (b.segment, tt))))))))
    (λ b. refl) (λ x. refl)
    (λ b h. (h.0, h.1.0, h.1.1.0, h.1.1.1.0, h.1.1.1.1.0, h.1.1.1.1.1.0, h.1.1.1.1.1.1.0))
    (λ b h. (h.0, (h.1, (h.2, (h.3, (h.4, (h.5, (h.6, tt))))))))
    (and_then parents_format (and_then u32_format (and_then u32_format (and_then place_format (and_then u32_format (and_then extent_format (and_then extent_format end_format)))))))

-- what is made of the fields behind a tag is the event that the tag and they spell
takes_event : {A : Type 0} {a : Reading A} {s : A → List ℕ} {P : A → Type 0} → IsFormat a s P → (make : A → Event) (tag : ℕ)
    → ((t : A) → spelling (make t) ≡ tag ∷ s t) → ((t : A) → P t → IsEvent (make t))
    → (bytes : List ℕ) (x : Event × List ℕ) → IsBytes bytes → made_at make a bytes ≡ Some x → Takes spelling IsEvent (tag ∷ bytes) x
takes_event {A} {a} {s} {P} f make tag spelled good bytes x fits e =
    let c = bind_some (a bytes) (λ t. Some (make t.0, t.1)) x e in
    let t = f.takes bytes c.0 fits c.1 in
    subst (Takes spelling IsEvent (tag ∷ bytes)) (some_is (make c.0.0, c.0.1) x c.2) (record {
      parts = ap (λ (r : List ℕ). tag ∷ r) t.parts ∙ ap (λ (r : List ℕ). r ++ c.0.1) (sym (spelled c.0.0));
      good = good c.0.0 t.good;
      rest_fits = t.rest_fits;
    })

made_again : {A : Type 0} {a : Reading A} {s : A → List ℕ} {P : A → Type 0} → IsFormat a s P → (make : A → Event) (t : A) (rest : List ℕ) → P t → made_at make a (s t ++ rest) ≡ Some (make t, rest)
made_again f make t rest h = rw (f.again t rest h) refl

fields_take : (tag : ℕ) (bytes : List ℕ) (x : Event × List ℕ) → IsBytes bytes → fields_at tag bytes ≡ Some x → Takes spelling IsEvent (tag ∷ bytes) x
unfolding fields_at init_at commit_at plan_at copy_at wide_at spelling IsEvent
fields_take zero bytes x fits e = absurd cc
fields_take (suc zero) bytes x fits e =
    takes_event (and_then text_format (and_then schema_format (and_then u32_format (and_then extent_format (and_then extent_format end_format)))))
    (λ t. Init t.0 t.1.0 t.1.1.0 t.1.1.1.0 t.1.1.1.1.0) 1 (λ t. refl) (λ t h. (h.0, h.1.0, h.1.1.0, h.1.1.1.0, h.1.1.1.1.0)) bytes x fits e
fields_take (suc (suc zero)) bytes x fits e =
    takes_event (and_then u32_format (and_then u32_format (and_then text_format tail_format)))
    (λ t. let l = t.1.1.1 in Commit t.0 t.1.0 t.1.1.0 l.parents l.rows l.fresh l.place l.added l.list l.segment) 2 (λ t. refl)
    (λ t h. let l = h.1.1.1 in (h.0, h.1.0, h.1.1.0, l.0, l.1, l.2, l.3, l.4, l.5, l.6)) bytes x fits e
fields_take (suc (suc (suc zero))) bytes x fits e =
    takes_event (and_then u32_format (and_then u32_format (and_then u32_format (and_then (counting 32 u32_format target_format) end_format))))
    (λ t. Plan t.0 t.1.0 t.1.1.0 t.1.1.1.0) 3 (λ t. refl) (λ t h. (h.0, h.1.0, h.1.1.0, h.1.1.1.0)) bytes x fits e
fields_take (suc (suc (suc (suc zero)))) bytes x fits e =
    takes_event (and_then u32_format (and_then u32_format (and_then extent_format end_format)))
    (λ t. Copy t.0 t.1.0 t.1.1.0) 4 (λ t. refl) (λ t h. (h.0, h.1.0, h.1.1.0)) bytes x fits e
fields_take (suc (suc (suc (suc (suc zero))))) bytes x fits e = takes_event (and_then u32_format end_format) (λ t. Flip t.0) 5 (λ t. refl) (λ t h. h.0) bytes x fits e
fields_take (suc (suc (suc (suc (suc (suc zero)))))) bytes x fits e = takes_event (and_then u32_format end_format) (λ t. Drop t.0) 6 (λ t. refl) (λ t h. h.0) bytes x fits e
fields_take (suc (suc (suc (suc (suc (suc (suc zero))))))) bytes x fits e = takes_event (and_then u32_format end_format) (λ t. Base t.0) 7 (λ t. refl) (λ t h. h.0) bytes x fits e
fields_take (suc (suc (suc (suc (suc (suc (suc (suc zero)))))))) bytes x fits e = takes_event (and_then dataset_format end_format) (λ t. Whole t.0) 8 (λ t. refl) (λ t h. h.0) bytes x fits e
fields_take (suc (suc (suc (suc (suc (suc (suc (suc (suc zero))))))))) bytes x fits e =
    takes_event (and_then u32_format (and_then u32_format (and_then text_format (and_then columns_format tail_format))))
    (λ t. let l = t.1.1.1.1 in Wide t.0 t.1.0 t.1.1.0 t.1.1.1.0 l.parents l.rows l.fresh l.place l.added l.list l.segment) 9 (λ t. refl)
    (λ t h. let l = h.1.1.1.1 in (h.0, h.1.0, h.1.1.0, h.1.1.1.0, l.0, l.1, l.2, l.3, l.4, l.5, l.6)) bytes x fits e
fields_take (suc (suc (suc (suc (suc (suc (suc (suc (suc (suc n)))))))))) bytes x fits e = absurd cc

event_takes : (bytes : List ℕ) (x : Event × List ℕ) → IsBytes bytes → event_at bytes ≡ Some x → Takes spelling IsEvent bytes x
unfolding event_at
event_takes [] x fits e = absurd cc
event_takes (tag ∷ bytes) x fits e = fields_take tag bytes x (IsBytes-rest tag bytes fits) e

event_again : (e : Event) (rest : List ℕ) → IsEvent e → event_at (spelling e ++ rest) ≡ Some (e, rest)
unfolding event_at fields_at init_at commit_at plan_at copy_at wide_at spelling IsEvent
event_again (Init name s rows list segment) rest h =
    made_again (and_then text_format (and_then schema_format (and_then u32_format (and_then extent_format (and_then extent_format end_format)))))
    (λ t. Init t.0 t.1.0 t.1.1.0 t.1.1.1.0 t.1.1.1.1.0) (name, (s, (rows, (list, (segment, tt))))) rest (h.0, (h.1, (h.2, (h.3, (h.4, tt)))))
event_again (Commit cvd vid message ps rows fresh placed added list segment) rest h =
    let l : Tail = record { parents = ps; rows = rows; fresh = fresh; place = placed; added = added; list = list; segment = segment } in
    made_again (and_then u32_format (and_then u32_format (and_then text_format tail_format)))
    (λ t. let l = t.1.1.1 in Commit t.0 t.1.0 t.1.1.0 l.parents l.rows l.fresh l.place l.added l.list l.segment) (cvd, (vid, (message, l))) rest
    (h.0, (h.1, (h.2, (h.3, h.4, h.5, h.6, h.7, h.8, h.9))))
event_again (Plan cvd p q targets) rest h =
    made_again (and_then u32_format (and_then u32_format (and_then u32_format (and_then (counting 32 u32_format target_format) end_format))))
    (λ t. Plan t.0 t.1.0 t.1.1.0 t.1.1.1.0) (cvd, (p, (q, (targets, tt)))) rest (h.0, (h.1, (h.2, (h.3, tt))))
event_again (Copy cvd count segment) rest h =
    made_again (and_then u32_format (and_then u32_format (and_then extent_format end_format)))
    (λ t. Copy t.0 t.1.0 t.1.1.0) (cvd, (count, (segment, tt))) rest (h.0, (h.1, (h.2, tt)))
event_again (Flip cvd) rest h = made_again (and_then u32_format end_format) (λ t. Flip t.0) (cvd, tt) rest (h, tt)
event_again (Drop cvd) rest h = made_again (and_then u32_format end_format) (λ t. Drop t.0) (cvd, tt) rest (h, tt)
event_again (Base next) rest h = made_again (and_then u32_format end_format) (λ t. Base t.0) (next, tt) rest (h, tt)
event_again (Whole w) rest h = made_again (and_then dataset_format end_format) (λ t. Whole t.0) (w, tt) rest (h, tt)
event_again (Wide cvd vid message columns ps rows fresh placed added list segment) rest h =
    let l : Tail = record { parents = ps; rows = rows; fresh = fresh; place = placed; added = added; list = list; segment = segment } in
    made_again (and_then u32_format (and_then u32_format (and_then text_format (and_then columns_format tail_format))))
    (λ t. let l = t.1.1.1.1 in Wide t.0 t.1.0 t.1.1.0 t.1.1.1.0 l.parents l.rows l.fresh l.place l.added l.list l.segment) (cvd, (vid, (message, (columns, l)))) rest
    (h.0, (h.1, (h.2, (h.3, (h.4, h.5, h.6, h.7, h.8, h.9, h.10)))))

-- ---- all of the bytes

guard_ended : {A : Type 0} (b : Bool) (x y : A) → cond b (Some x) None ≡ Some y → (b ≡ true) × (x ≡ y)
guard_ended true x y e = (refl, cc)
guard_ended false x y e = absurd cc

all_take : (bytes : List ℕ) (e : Event) → IsBytes bytes → all_of bytes ≡ Some e → IsEvent e × (bytes ≡ spelling e)
unfolding all_of
all_take bytes e fits h =
    let c = bind_some (event_at bytes) (λ x. cond (eqb (length x.1) 0) (Some x.0) None) e h in
    let g = guard_ended (eqb (length c.0.1) 0) c.0.0 e c.2 in
    let t = event_takes bytes c.0 fits c.1 in
    let nothing : c.0.1 ≡ [] = nil_from_length c.0.1 (eqb-true _ _ g.0) in
    subst (λ (y : Event). IsEvent y × (bytes ≡ spelling y)) g.1 (t.good, t.parts ∙ ap (λ (r : List ℕ). spelling c.0.0 ++ r) nothing ∙ append-nil (spelling c.0.0))

all_again : (e : Event) → IsEvent e → all_of (spelling e) ≡ Some e
unfolding all_of
all_again e good =
    let read : event_at (spelling e) ≡ Some (e, []) = ap event_at (sym (append-nil (spelling e))) ∙ event_again e [] good in
    rw read refl

pub is_found : (bytes : List ℕ) (e : Event) → IsBytes bytes → all_of bytes ≡ Some e → IsEvent e × (bytes ≡ spelling e)
is_found bytes e fits h = all_take bytes e fits h

pub is_read : (bytes : List ℕ) (e : Event) → IsEvent e → bytes ≡ spelling e → all_of bytes ≡ Some e
is_read bytes e good h = ap all_of h ∙ all_again e good

-- no bytes spell two events
pub spelled_once : (a b : Event) → IsEvent a → IsEvent b → spelling a ≡ spelling b → a ≡ b
spelled_once a b p q h = some_is a b (sym (all_again a p) ∙ ap all_of h ∙ all_again b q)

-- ---- what has a spelling fits

each : {A : Type 0} {P Q : A → Type 0} → ((x : A) → P x → Q x) → (xs : List A) → AllByRecursion P xs → AllByRecursion Q xs
each f [] h = tt
each f (x ∷ xs) h = (f x h.0, each f xs h.1)

all_fit : {A : Type 0} {P : A → Type 0} (Q : A → Type 0) → ((x : A) → P x → Q x) → (xs : List A) → AllByRecursion P xs → All Q xs
all_fit Q f xs h = All-from_recursion Q xs (each f xs h)

columns_fit : (cs : List Column) → AreColumns cs → ColumnsFit cs
columns_fit cs h = (h.0, all_fit ColumnFits (λ c p. p.1) cs h.1)

schema_fits : (s : RawSchema) → IsSchema s → SchemaFits s
schema_fits s h = (columns_fit s.columns h.0, h.1.0)

plan_fits : (p : Option RawPlan) → IsMaybePlan p → MaybePlanFits p
plan_fits None h = tt
plan_fits (Some p) h = (h.2.0, all_fit RawTargetFits (λ t q. (q.0.0, q.3.0)) p.targets h.2.1, h.3.0)

pub fits_of : (e : Event) → IsEvent e → Fits e
unfolding IsEvent
fits_of (Init name s rows list segment) h = (h.0.1, schema_fits s h.1)
fits_of (Commit cvd vid message ps rows fresh placed added list segment) h = (h.2.1, h.3.0)
fits_of (Plan cvd p q targets) h = (h.3.0, all_fit TargetFits (λ t g. g.2.0) targets h.3.1)
fits_of (Copy cvd count segment) h = tt
fits_of (Flip cvd) h = tt
fits_of (Drop cvd) h = tt
fits_of (Base next) h = tt
fits_of (Whole w) h = record {
  name = h.name.1;
  schema = schema_fits w.schema h.schema;
  versions = h.versions.0;
  each_version = all_fit VersionFits (λ v g. (g.0.0, g.1.1)) w.versions h.versions.1;
  parts = h.parts.0;
  each_part = all_fit PartFits (λ p g. (g.1.0, g.2.0, g.4.0)) w.parts h.parts.1;
  plan = plan_fits w.plan h.plan;
}
fits_of (Wide cvd vid message columns ps rows fresh placed added list segment) h = (h.2.1, columns_fit columns h.3, h.4.0)
