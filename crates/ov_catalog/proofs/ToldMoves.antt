-- A World stays told by its numbers with every move.
use Rattle.std.proofs.Common.{◌≡◌, ℕ, zero, suc, Bool, true, false, ◌==◌, List, [], ◌∷◌, ◌++◌, length, map, filter, refl, sym, ◌∙◌, subst, arith}
use Rattle.std.specs.Prelude.{◌≢◌, not, replicate, if◌then◌else◌, Option, Some, None, Ok}
use Rattle.std.specs.List.{All}
use Rattle.std.proofs.lemmas.Bool.{eqb-true}
use Rattle.std.proofs.lemmas.List.Elements.{All-nil, All-cons, All-head, All-tail, All-append, All-replicate}
use Rattle.ov_value.specs.Making.{answer_of, column_refusal}
use Rattle.ov_value.specs.Rows.{HasKinds, value_at, key_cmp}
use Rattle.ov_value.specs.Shapes.{Shape}
use Rattle.ov_value.specs.Spelling.{IsRow, IsTyped, IsShort}
use Rattle.ov_value.specs.declared.column.Column.{Column}
use Rattle.ov_value.specs.declared.schema_err.SchemaErr.{SchemaErr}
use Rattle.ov_value.specs.declared.schema_err.SchemaErr.TheVariants.{NoColumns}
use Rattle.ov_value.specs.declared.value.Value.TheVariants.{Null}
use Rattle.ov_model.specs.Book.{Row, Version, extended}
use Rattle.ov_model.specs.Holding.{MayFlip}
use Rattle.ov_model.specs.Lists.{IsBelow, Rises}
use Rattle.ov_model.specs.Moves.{Move, Init, Commit, BeginPlan, Copy, Flip, Drop, Checkpoint, moved, change, numbered, committed, version_of, wide, wide_schema, wide_version, accepted_or, new_set}
use Rattle.ov_model.specs.Ordered.{HasOrder, HaveOrder}
use Rattle.ov_model.specs.Placed.{NamesParents}
use Rattle.ov_model.specs.Plans.{planned, copied_more, flipped, flipped_by}
use Rattle.ov_model.specs.Records.{AllRise}
use Rattle.ov_model.specs.World.{Plan, Dataset, World, empty_world}
use Rattle.ov_model.proofs.Holds.{moved_held}
use Rattle.ov_model.proofs.Ordering.{version_ordered, wide_ordered, new_ordered, planned_ordered, copied_ordered, flipped_ordered, have_append, have_filter, have_changed}
use Rattle.ov_model.proofs.Placing.{moved_placed}
use Rattle.ov_model.proofs.Rids.{order_of_once}
use Rattle.ov_model.proofs.Widening.{value_wide, cmp_wide}
use Rattle.ov_catalog.specs.Told.{HaveRows, IsRowed, AreRowed, IsTold, AreAccepted, BringsTo, AllBringTo, BringsRows}

pub all_rise : (schema : Shape) (vs : List Version) → HaveRows schema vs → AllRise schema vs
all_rise schema [] have = tt
all_rise schema (v ∷ vs) have = (have.0.0, all_rise schema vs have.1)

pub rows_append : (schema : Shape) (a b : List Version) → HaveRows schema a → HaveRows schema b → HaveRows schema (a ++ b)
rows_append schema [] b have more = more
rows_append schema (v ∷ a) b have more = (have.0, rows_append schema a b have.1 more)

pub rowed_append : (a b : List Dataset) → AreRowed a → AreRowed b → AreRowed (a ++ b)
rowed_append [] b are more = more
rowed_append (d ∷ a) b are more = (are.0, rowed_append a b are.1 more)

pub rowed_filter : (test : Dataset → Bool) (sets : List Dataset) → AreRowed sets → AreRowed (filter test sets)
rowed_filter test [] are = tt
rowed_filter test (d ∷ sets) are = by (test d) (rowed_filter test sets are.1)
  where
    by : (b : Bool) → AreRowed (filter test sets) → AreRowed (if b then d ∷ filter test sets else filter test sets)
    by true rest = (are.0, rest)
    by false rest = rest

rowed_changed : (cvd : ℕ) (f : Dataset → Dataset) (sets : List Dataset) → ((d : Dataset) → IsRowed d → IsRowed (f d)) → AreRowed sets → AreRowed (change cvd f sets)
rowed_changed cvd f [] keeps are = tt
rowed_changed cvd f (d ∷ sets) keeps are = (by (numbered cvd d), rowed_changed cvd f sets keeps are.1)
  where
    by : (b : Bool) → IsRowed (if b then f d else d)
    by true = keeps d are.0
    by false = are.0

-- ---- rows with columns more

nulls_fit : (n : ℕ) (added : List Column) → length added ≡ n → HasKinds (replicate n Null) added
nulls_fit zero [] long = tt
nulls_fit zero (column ∷ added) long = absurd (omega (arith, long))
nulls_fit (suc n) [] long = absurd (omega (arith, long))
nulls_fit (suc n) (column ∷ added) long = (tt, nulls_fit n added (omega (arith, long)))

module _ (schema : Shape) (added : List Column) where
  abbrev count : ℕ
  count = length added

  abbrev wider : Shape
  wider = record { columns = schema.columns ++ added; key = schema.key }

  kinds_wide : (row : Row) (columns : List Column) → HasKinds row columns → HasKinds (extended count row) (columns ++ added)
  kinds_wide [] [] has = nulls_fit count added refl
  kinds_wide [] (column ∷ columns) has = absurd has
  kinds_wide (value ∷ row) [] has = absurd has
  kinds_wide (value ∷ row) (column ∷ columns) has = (has.0, kinds_wide row columns has.1)

  keyed_wide : (row : Row) (places : List ℕ) → All (λ place. value_at row place ≢ Null) places → All (λ place. value_at (extended count row) place ≢ Null) places
  keyed_wide row [] all = All-nil (λ place. value_at (extended count row) place ≢ Null)
  keyed_wide row (place ∷ places) all =
      All-cons (λ k. value_at (extended count row) k ≢ Null) place places
      (λ none. All-head (λ k. value_at row k ≢ Null) place places all (sym (value_wide row count place) ∙ none))
      (keyed_wide row places (All-tail (λ k. value_at row k ≢ Null) place places all))

  row_wide : (row : Row) → IsRow schema row → IsRow wider (extended count row)
  row_wide row is = record {
    fits = record { kinds = kinds_wide row schema.columns is.fits.kinds; keyed = keyed_wide row schema.key is.fits.keyed };
    typed = All-append IsTyped row (replicate count Null) is.typed (All-replicate IsTyped count Null tt);
    short = All-append IsShort row (replicate count Null) is.short (All-replicate IsShort count Null tt);
  }

  all_wide : (rows : List Row) → All (IsRow schema) rows → All (IsRow wider) (map (extended count) rows)
  all_wide [] all = All-nil (IsRow wider)
  all_wide (row ∷ rows) all =
      All-cons (IsRow wider) (extended count row) (map (extended count) rows) (row_wide row (All-head (IsRow schema) row rows all)) (all_wide rows (All-tail (IsRow schema) row rows all))

  below_wide : (row : Row) (rows : List Row) → IsBelow (key_cmp schema) row rows → IsBelow (key_cmp wider) (extended count row) (map (extended count) rows)
  below_wide row [] below = tt
  below_wide row (x ∷ rows) below = (cmp_wide schema wider count row x refl ∙ below.0, below_wide row rows below.1)

  rises_wide : (rows : List Row) → Rises (key_cmp schema) rows → Rises (key_cmp wider) (map (extended count) rows)
  rises_wide [] rise = tt
  rises_wide (row ∷ rows) rise = (below_wide row rows rise.0, rises_wide rows rise.1)

  have_wide : (vs : List Version) → HaveRows schema vs → HaveRows wider (map (wide_version count) vs)
  have_wide [] have = tt
  have_wide (v ∷ vs) have = ((rises_wide v.rows have.0.0, all_wide v.rows have.0.1), have_wide vs have.1)

accepted_by : (schema wider : Shape) (refusal : Option SchemaErr) → answer_of refusal wider ≡ Ok (accepted_or schema (answer_of refusal wider)) → accepted_or schema (answer_of refusal wider) ≡ wider
accepted_by schema wider None e = refl
accepted_by schema wider (Some refusal) e = cc

pub wide_rowed : (added : List Column) (d : Dataset) → AreAccepted d.cvd.schema added → IsRowed d → IsRowed (wide added d)
wide_rowed [] d accepted is = is
wide_rowed (column ∷ added) d accepted is =
    let all : List Column = column ∷ added
    in let schema : wide_schema d.cvd.schema all ≡ wider d.cvd.schema all =
    accepted_by d.cvd.schema (wider d.cvd.schema all) (if length all == 0 then Some NoColumns else column_refusal (d.cvd.schema.columns ++ all)) accepted
    in record { rows = subst (λ s. HaveRows s (map (wide_version (length all)) d.cvd.versions)) (sym schema) (have_wide d.cvd.schema all d.cvd.versions is.rows) }

commit_rowed : (parents message : List ℕ) (added : List Column) (rows : List Row) (d : Dataset) → BringsTo d added rows → IsRowed d → IsRowed (committed parents message added rows d)
commit_rowed parents message added rows d brings is =
    let wide_is : IsRowed (wide added d) = wide_rowed added d brings.accepted is
    in record { rows = rows_append (wide added d).cvd.schema (wide added d).cvd.versions (version_of parents message rows ∷ []) wide_is.rows (brings.fit, tt) }

rowed_committed : (cvd : ℕ) (parents message : List ℕ) (added : List Column) (rows : List Row) (sets : List Dataset) → AllBringTo cvd added rows sets → AreRowed sets
    → AreRowed (change cvd (committed parents message added rows) sets)
rowed_committed cvd parents message added rows [] brings are = tt
rowed_committed cvd parents message added rows (d ∷ sets) brings are =
    (by (d.cvd.number == cvd) (λ t. eqb-true d.cvd.number cvd t), rowed_committed cvd parents message added rows sets brings.1 are.1)
  where
    by : (b : Bool) → (b ≡ true → d.cvd.number ≡ cvd) → IsRowed (if b then committed parents message added rows d else d)
    by true is = commit_rowed parents message added rows d (brings.0 (is refl)) are.0
    by false is = are.0

flip_rowed : (d : Dataset) (plan : Option Plan) → IsRowed d → IsRowed (flipped_by d plan)
flip_rowed d None is = is
flip_rowed d (Some plan) is = record { rows = is.rows }

-- ---- moves

pub moved_rowed : (m : Move) (w : World) → BringsRows m w → AreRowed w.sets → AreRowed (moved m w).sets
moved_rowed (Init name schema rows) w brings are = rowed_append w.sets (new_set w.next name schema rows ∷ []) are (record { rows = (brings, tt) }, tt)
moved_rowed (Commit cvd parents message added rows) w brings are = rowed_committed cvd parents message added rows w.sets brings are
moved_rowed (BeginPlan cvd p q) w brings are = rowed_changed cvd (planned p q) w.sets (λ d is. record { rows = is.rows }) are
moved_rowed (Copy cvd) w brings are = rowed_changed cvd copied_more w.sets (λ d is. record { rows = is.rows }) are
moved_rowed (Flip cvd) w brings are = rowed_changed cvd flipped w.sets (λ d is. flip_rowed d d.plan is) are
moved_rowed (Drop cvd) w brings are = rowed_filter (λ d. not (numbered cvd d)) w.sets are
moved_rowed Checkpoint w brings are = are

ordered_copied : (cvd : ℕ) (sets : List Dataset) → AreRowed sets → HaveOrder sets → HaveOrder (change cvd copied_more sets)
ordered_copied cvd [] are have = tt
ordered_copied cvd (d ∷ sets) are have = (by (numbered cvd d), ordered_copied cvd sets are.1 have.1)
  where
    by : (b : Bool) → HasOrder (if b then copied_more d else d)
    by true = copied_ordered d (order_of_once d.cvd.schema d.cvd.versions (all_rise d.cvd.schema d.cvd.versions are.0.rows)) have.0
    by false = have.0

moved_ordered : (m : Move) (w : World) → AreRowed w.sets → HaveOrder w.sets → HaveOrder (moved m w).sets
moved_ordered (Init name schema rows) w are have = have_append w.sets (new_set w.next name schema rows ∷ []) have (new_ordered w.next name schema rows, tt)
moved_ordered (Commit cvd parents message added rows) w are have =
    have_changed cvd (committed parents message added rows) w.sets (λ d is. version_ordered (version_of parents message rows) (wide added d) (wide_ordered added d is)) have
moved_ordered (BeginPlan cvd p q) w are have = have_changed cvd (planned p q) w.sets (planned_ordered p q) have
moved_ordered (Copy cvd) w are have = ordered_copied cvd w.sets are have
moved_ordered (Flip cvd) w are have = have_changed cvd flipped w.sets flipped_ordered have
moved_ordered (Drop cvd) w are have = have_filter (λ d. not (numbered cvd d)) w.sets have
moved_ordered Checkpoint w are have = have

pub empty_told : IsTold empty_world
empty_told = record { placed = tt; held = tt; ordered = tt; rowed = tt }

pub moved_told : (m : Move) (w : World) → NamesParents m w → MayFlip m w → BringsRows m w → IsTold w → IsTold (moved m w)
moved_told m w names may brings is = record {
  placed = moved_placed m w names is.placed;
  held = moved_held m w may is.placed is.held;
  ordered = moved_ordered m w is.rowed is.ordered;
  rowed = moved_rowed m w brings is.rowed;
}
