-- A change of a dataset of the registry: one read of the last rows, and then a refusal, or one Init or Commit of others.
--     Change      what a command makes of the last rows: its refusal by them, or the rows that come in their place
--     IsNextBy schema change set s next      what comes next, by the last rows as they are read
--     IsNextIn schema change d next      and in a World
--     change_deed, next_deed      what that means over a World
--     IsKeptBy which set next said reply ..      what was done then, and what the reply is
--     IsAnswered which set change said reply ..      that it is refused, or that the rows came in the place of the last ones
--     IsChangeDamaged which set rows held s page      what the Commit reads is damaged: the last version, as its parent, or the
--                                                     partition that the new version joins
--     IsDamagedBy which set rows held s page      the last rows are, or else what the Commit reads
use Rattle.std.specs.Prelude.{◌≡◌, ◌⊎◌, ℕ, true, List, [], ◌∷◌, length, Option, Some, None}
use Rattle.std.specs.Option.{option_or}
use Rattle.ov_core.specs.Held.{Held}
use Rattle.ov_fetch.specs.Extents.{Looked}
use Rattle.ov_host.specs.Host.{State}
use Rattle.ov_model.specs.Act.{Deed, Session, if_so, refuses, unless}
use Rattle.ov_model.specs.Book.{Row}
use Rattle.ov_model.specs.Deed.{changes}
use Rattle.ov_model.specs.Registry.{is_foreign, last_rows}
use Rattle.ov_model.specs.World.{Dataset, World, set_named}
use Rattle.ov_model.specs.declared.refusal.Refusal.{Refusal}
use Rattle.ov_model.specs.declared.refusal.Refusal.TheVariants as no
use Rattle.ov_model.specs.declared.reply.Reply.{Reply}
use Rattle.ov_model.specs.declared.reply.Reply.TheVariants as says
use Rattle.ov_registry.specs.Changing.{IsChanged, IsOrdered, IsUnchanged, wish_of}
use Rattle.ov_registry.specs.Last.{AreLast, IsLast, IsLastDamaged, name_of, schema_of}
use Rattle.ov_registry.specs.declared.registry.Registry.{Registry}
use Rattle.ov_store.specs.Committing.{IfSet, IsDamagedAt, Set, commit_off}
use Rattle.ov_store.specs.Kept.{Kept}
use Rattle.ov_store.specs.declared.errors.StoreErr.{StoreErr}
use Rattle.ov_value.specs.Shapes.{Shape}
use Rattle.ov_staging.specs.Errors.{reply_of}
use Rattle.ov_staging.specs.Reading.{foreign_off}
use Rattle.ov_staging.specs.declared.changing.Next.{Next}
use Rattle.ov_staging.specs.declared.changing.Next.TheVariants as next

pub record Change : Type 0 where
  pub off : List Row → Option Refusal
  pub rows : List Row → List Row

-- ---- what comes next

abbrev pub IfNext : (List Row → Type 0) → Next → Type 0
IfNext P (next.Refused refusal) = Unit {0}
IfNext P (next.Rows rows) = P rows.items

-- 76, and then the refusal by the rows
abbrev pub IsRefusedBy : Shape → Change → Option Set → State → Refusal → Type 0
IsRefusedBy schema change set s refusal =
    (foreign_off schema set ≡ Some refusal)
    ⊎ ((foreign_off schema set ≡ None) × (last : List Row) × AreLast set s last × (change.off last ≡ Some refusal))

-- or these rows
abbrev pub AreRowsBy : Shape → Change → Option Set → State → List Row → Type 0
AreRowsBy schema change set s rows =
    (foreign_off schema set ≡ None) × (last : List Row) × AreLast set s last × (change.off last ≡ None) × (rows ≡ change.rows last)

abbrev pub IsNextBy : Shape → Change → Option Set → State → Next → Type 0
IsNextBy schema change set s (next.Refused refusal) = IsRefusedBy schema change set s refusal
IsNextBy schema change set s (next.Rows rows) = AreRowsBy schema change set s rows.items

abbrev pub change_off : Shape → Change → Option Dataset → Option Refusal
change_off schema change d = option_or (if_so (is_foreign schema d) no.ForeignRegistry) (change.off (last_rows d))

abbrev pub IsNextIn : Shape → Change → Option Dataset → Next → Type 0
IsNextIn schema change d (next.Refused refusal) = change_off schema change d ≡ Some refusal
IsNextIn schema change d (next.Rows rows) = (change_off schema change d ≡ None) × (rows.items ≡ change.rows (last_rows d))

abbrev pub change_deed : World → Session → Registry → Change → Reply → Option Dataset → Deed
change_deed w s which change said d =
    unless s (change_off (schema_of which) change d) (changes w s s (name_of which) (schema_of which) (change.rows (last_rows d)) said d)

abbrev pub next_deed : World → Session → Registry → Next → Reply → Deed
next_deed w s which (next.Refused refusal) said = refuses s refusal
next_deed w s which (next.Rows rows) said = changes w s s (name_of which) (schema_of which) rows.items said (set_named w (name_of which))

-- ---- what was done

-- the change was made, and the reply is what is said of it; or the store refused it, and all is as it was
abbrev pub IsChangedAs : Registry → Option Set → List Row → Reply → Reply → Kept → Kept → State → State → Type 0
IsChangedAs which set rows said reply before now old new =
    ((reply ≡ said) × IsChanged set (name_of which) (schema_of which) rows old before.held now.held)
    ⊎ ((off : StoreErr) × (reply_of (name_of which) off ≡ Some reply)
    × IsUnchanged set (name_of which) (schema_of which) rows old new before.held off × (now ≡ before) × Looked old new)

abbrev pub IsKeptBy : Registry → Option Set → Next → Reply → Reply → Kept → Kept → State → State → Type 0
IsKeptBy which set (next.Refused refusal) said reply before now old new = (reply ≡ says.Refused refusal) × (now ≡ before) × (new ≡ old)
IsKeptBy which set (next.Rows rows) said reply before now old new = IsChangedAs which set rows.items said reply before now old new

-- it is refused, and all is as it was
pub record IsRefusedAs (schema : Shape) (change : Change) (set : Option Set) (reply : Reply) (before now : Kept) (old new : State) : Type 0 where
  pub refusal : Refusal
  pub by : IsRefusedBy schema change set old refusal
  pub reply_is : reply ≡ says.Refused refusal
  pub same : now ≡ before
  pub looked : Looked old new

-- or the rows come in the place of the last ones; `mid` is the host once these were read
pub record IsKeptAs (which : Registry) (set : Option Set) (change : Change) (said reply : Reply) (before now : Kept) (old new : State) : Type 0 where
  pub rows : List Row
  pub mid : State
  pub by : AreRowsBy (schema_of which) change set old rows
  pub looked : Looked old mid
  pub changed : IsChangedAs which set rows said reply before now mid new

abbrev pub IsAnswered : Registry → Option Set → Change → Reply → Reply → Kept → Kept → State → State → Type 0
IsAnswered which set change said reply before now old new =
    IsRefusedAs (schema_of which) change set reply before now old new ⊎ IsKeptAs which set change said reply before now old new

-- ---- what is damaged

-- the rows in the order of their keys, for which the numbers allow a version whose one parent is the last one
abbrev pub AreRowsDamaged : Registry → Option Set → List Row → Held → State → ℕ → Type 0
AreRowsDamaged which set rows held s page =
    IfSet (λ d. (made : List Row) × IsOrdered (schema_of which) rows made × (commit_off held (name_of which) (length d.versions ∷ []) [] made ≡ None)
    × IsDamagedAt d (wish_of d made) s page) set

-- `rows` of the last version's, as they are read
abbrev pub IsChangeDamaged : Registry → Option Set → (List Row → List Row) → Held → State → ℕ → Type 0
IsChangeDamaged which set rows held s page =
    IfSet (λ d. s.tells ≡ true → (last : List Row) × IsLast d s last × AreRowsDamaged which (Some d) (rows last) held s page) set

abbrev pub IsDamagedBy : Registry → Option Set → (List Row → List Row) → Held → State → ℕ → Type 0
IsDamagedBy which set rows held s page =
    IsLastDamaged set s page ⊎ (((other : ℕ) → IsLastDamaged set s other → ⊥) × IsChangeDamaged which set rows held s page)

-- the refused read no more
abbrev pub IsNextDamaged : Registry → Option Set → Next → Held → State → ℕ → Type 0
IsNextDamaged which set (next.Refused refusal) held s page = ⊥
IsNextDamaged which set (next.Rows rows) held s page = AreRowsDamaged which set rows.items held s page
