-- Each record of an event is read as it is spelled.
use Rattle.std.proofs.Common.{◌≡◌, ℕ, zero, suc, List, [], ◌∷◌, ◌++◌, Option, Some, None, refl, ap, subst}
use Rattle.ov_value.specs.declared.column.Kind.{Kind}
use Rattle.ov_value.specs.declared.column.Kind.TheVariants as kind
use Rattle.ov_event.specs.declared.event.Placed.{Placed}
use Rattle.ov_event.specs.declared.event.Placed.TheVariants.{Own, Join}
use Rattle.ov_event.specs.declared.whole.RawPlan.{RawPlan}
use Rattle.ov_event.specs.Fields.{u8, u32, extent, counted, IsU32, IsExtent, AreFew}
use Rattle.ov_event.specs.Reading.{u32_at, extent_at, counted_at}
use Rattle.ov_event.specs.Records.{kind_at, column_at, columns_at, schema_at, parent_at, parents_at, numbers_at, place_at, target_at, version_at, part_at, raw_target_at, raw_plan_at, maybe_plan_at, dataset_at}
use Rattle.ov_event.specs.Spelling.{kind_code, column, schema, parent, parents, place, target, version, part, raw_target, raw_plan, maybe_plan, dataset, IsColumn, AreColumns, IsSchema, AreParents, IsPlaced, AreNumbers, IsTarget, IsVersion, IsPart, IsRawTarget, IsRawPlan, IsMaybePlan, IsDataset}
use Rattle.ov_event.proofs.Formats.{IsBytes, IsBytes-rest, Takes, IsFormat, some_is, bind_some, u8_format, u16_format, u32_format, text_format, end_format, and_then, making, counting}

pub extent_format : IsFormat extent_at extent IsExtent
unfolding extent_at extent
extent_format =
    making (λ t. record { page = t.0; bytes = t.1.0 }) (λ e. (e.page, (e.bytes, tt)))
    (λ b. refl) (λ x. refl) (λ b h. (h.0, h.1.0)) (λ b h. (h.0, (h.1, tt)))
    (and_then u32_format (and_then u32_format end_format))

kind_takes : (bytes : List ℕ) (x : Kind × List ℕ) → IsBytes bytes → kind_at bytes ≡ Some x → Takes (λ k. u8 (kind_code k)) (λ _. Unit {0}) bytes x
unfolding kind_at
kind_takes [] x fits e = absurd cc
kind_takes (zero ∷ bytes) x fits e = absurd cc
kind_takes (suc zero ∷ bytes) x fits e = subst (Takes (λ k. u8 (kind_code k)) (λ _. Unit {0}) (1 ∷ bytes)) (some_is (kind.Int, bytes) x e) (record { parts = refl; good = tt; rest_fits = IsBytes-rest 1 bytes fits })
kind_takes (suc (suc zero) ∷ bytes) x fits e = subst (Takes (λ k. u8 (kind_code k)) (λ _. Unit {0}) (2 ∷ bytes)) (some_is (kind.Text, bytes) x e) (record { parts = refl; good = tt; rest_fits = IsBytes-rest 2 bytes fits })
kind_takes (suc (suc (suc zero)) ∷ bytes) x fits e = subst (Takes (λ k. u8 (kind_code k)) (λ _. Unit {0}) (3 ∷ bytes)) (some_is (kind.Flag, bytes) x e) (record { parts = refl; good = tt; rest_fits = IsBytes-rest 3 bytes fits })
kind_takes (suc (suc (suc (suc n))) ∷ bytes) x fits e = absurd cc

kind_again : (k : Kind) (rest : List ℕ) → Unit {0} → kind_at (u8 (kind_code k) ++ rest) ≡ Some (k, rest)
unfolding kind_at
kind_again kind.Int rest h = refl
kind_again kind.Text rest h = refl
kind_again kind.Flag rest h = refl

kind_format : IsFormat kind_at (λ k. u8 (kind_code k)) (λ _. Unit {0})
kind_format = record { takes = kind_takes; again = kind_again }

pub column_format : IsFormat column_at column IsColumn
unfolding column_at column
column_format =
    making (λ t. record { name = t.0; kind = t.1.0 }) (λ c. (c.name, (c.kind, tt)))
    (λ b. refl) (λ x. refl) (λ b h. h.0) (λ b h. (h, (tt, tt)))
    (and_then text_format (and_then kind_format end_format))

pub columns_format : IsFormat columns_at (counted u8 column) AreColumns
columns_format = counting 8 u8_format column_format

pub schema_format : IsFormat schema_at schema IsSchema
unfolding schema_at schema
schema_format =
    making (λ t. record { columns = t.0; key = t.1.0 }) (λ s. (s.columns, (s.key, tt)))
    (λ b. refl) (λ x. refl) (λ b h. (h.0, h.1.0)) (λ b h. (h.0, (h.1, tt)))
    (and_then columns_format (and_then (counting 8 u8_format u8_format) end_format))

parent_format : IsFormat parent_at parent (λ p. IsU32 p.0 × IsU32 p.1)
unfolding parent_at parent
parent_format =
    making (λ t. (t.0, t.1.0)) (λ p. (p.0, (p.1, tt)))
    (λ b. refl) (λ x. refl) (λ b h. (h.0, h.1.0)) (λ b h. (h.0, (h.1, tt)))
    (and_then u32_format (and_then u32_format end_format))

pub parents_format : IsFormat parents_at parents AreParents
parents_format = counting 16 u16_format parent_format

numbers_format : IsFormat numbers_at (counted u32 u32) AreNumbers
numbers_format = counting 32 u32_format u32_format

place_takes : (bytes : List ℕ) (x : Placed × List ℕ) → IsBytes bytes → place_at bytes ≡ Some x → Takes place IsPlaced bytes x
unfolding place_at place
place_takes [] x fits e = absurd cc
place_takes (zero ∷ bytes) x fits e = subst (Takes place IsPlaced (0 ∷ bytes)) (some_is (Own, bytes) x e) (record { parts = refl; good = tt; rest_fits = IsBytes-rest 0 bytes fits })
place_takes (suc zero ∷ bytes) x fits e =
    let c = bind_some (u32_at bytes) (λ n. Some (Join n.0, n.1)) x e in
    let n = u32_format.takes bytes c.0 (IsBytes-rest 1 bytes fits) c.1 in
    subst (Takes place IsPlaced (1 ∷ bytes)) (some_is (Join c.0.0, c.0.1) x c.2) (record { parts = ap (λ (r : List ℕ). 1 ∷ r) n.parts; good = n.good; rest_fits = n.rest_fits })
place_takes (suc (suc n) ∷ bytes) x fits e = absurd cc

place_again : (p : Placed) (rest : List ℕ) → IsPlaced p → place_at (place p ++ rest) ≡ Some (p, rest)
unfolding place_at place
place_again Own rest h = refl
place_again (Join n) rest h = rw (u32_format.again n rest h) refl

pub place_format : IsFormat place_at place IsPlaced
place_format = record { takes = place_takes; again = place_again }

pub target_format : IsFormat target_at target IsTarget
unfolding target_at target
target_format =
    making (λ t. record { size = t.0; source = t.1.0; kept = t.1.1.0; kept_records = t.1.1.1.0 }) (λ b. (b.size, (b.source, (b.kept, (b.kept_records, tt)))))
    (λ b. refl) (λ x. refl) (λ b h. (h.0, h.1.0, h.1.1.0, h.1.1.1.0)) (λ b h. (h.0, (h.1, (h.2, (h.3, tt)))))
    (and_then u32_format (and_then u32_format (and_then numbers_format (and_then u32_format end_format))))

version_format : IsFormat version_at version IsVersion
unfolding version_at version
version_format =
    making (λ t. record { parents = t.0; message = t.1.0; rows = t.1.1.0; fresh = t.1.1.1.0; list = t.1.1.1.1.0 }) (λ b. (b.parents, (b.message, (b.rows, (b.fresh, (b.list, tt))))))
    (λ b. refl) (λ x. refl) (λ b h. (h.0, h.1.0, h.1.1.0, h.1.1.1.0, h.1.1.1.1.0)) (λ b h. (h.0, (h.1, (h.2, (h.3, (h.4, tt))))))
    (and_then parents_format (and_then text_format (and_then u32_format (and_then u32_format (and_then extent_format end_format)))))

extents_format : IsFormat (counted_at u32_at extent_at) (counted u32 extent) (AreFew 32 IsExtent)
extents_format = counting 32 u32_format extent_format

part_format : IsFormat part_at part IsPart
unfolding part_at part
part_format =
    making (λ t. record { id = t.0; versions = t.1.0; holds = t.1.1.0; records = t.1.1.1.0; segments = t.1.1.1.1.0 }) (λ b. (b.id, (b.versions, (b.holds, (b.records, (b.segments, tt))))))
    (λ b. refl) (λ x. refl) (λ b h. (h.0, h.1.0, h.1.1.0, h.1.1.1.0, h.1.1.1.1.0)) (λ b h. (h.0, (h.1, (h.2, (h.3, (h.4, tt))))))
    (and_then u32_format (and_then numbers_format (and_then numbers_format (and_then u32_format (and_then extents_format end_format)))))

raw_target_format : IsFormat raw_target_at raw_target IsRawTarget
unfolding raw_target_at raw_target
raw_target_format =
    making (λ t. record { versions = t.0; size = t.1.0; source = t.1.1.0; kept = t.1.1.1.0; kept_records = t.1.1.1.1.0 }) (λ b. (b.versions, (b.size, (b.source, (b.kept, (b.kept_records, tt))))))
    (λ b. refl) (λ x. refl) (λ b h. (h.0, h.1.0, h.1.1.0, h.1.1.1.0, h.1.1.1.1.0)) (λ b h. (h.0, (h.1, (h.2, (h.3, (h.4, tt))))))
    (and_then numbers_format (and_then u32_format (and_then u32_format (and_then numbers_format (and_then u32_format end_format)))))

raw_plan_format : IsFormat raw_plan_at raw_plan IsRawPlan
unfolding raw_plan_at raw_plan
raw_plan_format =
    making (λ t. record { at = t.0; copied = t.1.0; targets = t.1.1.0; segments = t.1.1.1.0 }) (λ b. (b.at, (b.copied, (b.targets, (b.segments, tt)))))
    (λ b. refl) (λ x. refl) (λ b h. (h.0, h.1.0, h.1.1.0, h.1.1.1.0)) (λ b h. (h.0, (h.1, (h.2, (h.3, tt)))))
    (and_then u32_format (and_then u32_format (and_then (counting 32 u32_format raw_target_format) (and_then extents_format end_format))))

maybe_plan_takes : (bytes : List ℕ) (x : Option RawPlan × List ℕ) → IsBytes bytes → maybe_plan_at bytes ≡ Some x → Takes maybe_plan IsMaybePlan bytes x
unfolding maybe_plan_at maybe_plan
maybe_plan_takes [] x fits e = absurd cc
maybe_plan_takes (zero ∷ bytes) x fits e = subst (Takes maybe_plan IsMaybePlan (0 ∷ bytes)) (some_is (None, bytes) x e) (record { parts = refl; good = tt; rest_fits = IsBytes-rest 0 bytes fits })
maybe_plan_takes (suc zero ∷ bytes) x fits e =
    let c = bind_some (raw_plan_at bytes) (λ p. Some (Some p.0, p.1)) x e in
    let p = raw_plan_format.takes bytes c.0 (IsBytes-rest 1 bytes fits) c.1 in
    subst (Takes maybe_plan IsMaybePlan (1 ∷ bytes)) (some_is (Some c.0.0, c.0.1) x c.2) (record { parts = ap (λ (r : List ℕ). 1 ∷ r) p.parts; good = p.good; rest_fits = p.rest_fits })
maybe_plan_takes (suc (suc n) ∷ bytes) x fits e = absurd cc

maybe_plan_again : (p : Option RawPlan) (rest : List ℕ) → IsMaybePlan p → maybe_plan_at (maybe_plan p ++ rest) ≡ Some (p, rest)
unfolding maybe_plan_at maybe_plan
maybe_plan_again None rest h = refl
maybe_plan_again (Some p) rest h = rw (raw_plan_format.again p rest h) refl

maybe_plan_format : IsFormat maybe_plan_at maybe_plan IsMaybePlan
maybe_plan_format = record { takes = maybe_plan_takes; again = maybe_plan_again }

pub dataset_format : IsFormat dataset_at dataset IsDataset
unfolding dataset_at dataset
dataset_format =
    making (λ t. record {
      number = t.0;
      name = t.1.0;
      schema = t.1.1.0;
      records = t.1.1.1.0;
      p = t.1.1.1.1.0;
      q = t.1.1.1.1.1.0;
      next = t.1.1.1.1.1.1.0;
      versions = t.1.1.1.1.1.1.1.0;
      parts = t.1.1.1.1.1.1.1.1.0;
      plan = t.1.1.1.1.1.1.1.1.1.0;
    })
    (λ b. (b.number, (b.name, (b.schema, (b.records, (b.p, (b.q, (b.next, (b.versions, (b.parts, (b.plan, tt)))))))))))
    (λ b. refl) (λ x. refl)
    (λ b h. record {
      number = h.0;
      name = h.1.0;
      schema = h.1.1.0;
      records = h.1.1.1.0;
      p = h.1.1.1.1.0;
      q = h.1.1.1.1.1.0;
      next = h.1.1.1.1.1.1.0;
      versions = h.1.1.1.1.1.1.1.0;
      parts = h.1.1.1.1.1.1.1.1.0;
      plan = h.1.1.1.1.1.1.1.1.1.0;
    })
    (λ b h. (h.number, (h.name, (h.schema, (h.records, (h.p, (h.q, (h.next, (h.versions, (h.parts, (h.plan, tt)))))))))))
    (and_then u32_format (and_then text_format (and_then schema_format (and_then u32_format (and_then u32_format (and_then u32_format (and_then u32_format
    (and_then (counting 32 u32_format version_format) (and_then (counting 32 u32_format part_format) (and_then maybe_plan_format end_format))))))))))
