-- Positions of rows among records, in the order of the rows' keys.
--     place_cmp s records p q      the keys of the rows at two positions
--     IsFirstPlace s records places p      the position stands there where no row before it has its row's key
--     IsMerge R places merge      the first places of all keys, in order
use Rattle.std.specs.Prelude.{◌≡◌, ◌⊎◌, ℕ, false, List, [], ◌∷◌, ◌++◌}
use Rattle.std.specs.Ordering.{is_eq}
use Rattle.std.specs.declared.cmp.Ordering.{Ordering}
use Rattle.ov_value.specs.Rows.{key_cmp}
use Rattle.ov_value.specs.Shapes.{Shape}
use Rattle.ov_segment.specs.declared.numbered.Record.{Record}
use Rattle.ov_model.specs.Lists.{IsIn, Rises}
use Rattle.ov_model.specs.Merge.{has_key}
use Rattle.ov_fetch.specs.Scans.{row_at, rows_at}

abbrev pub place_cmp : Shape → List Record → ℕ → ℕ → Ordering
place_cmp schema records p q = key_cmp schema (row_at records p) (row_at records q)

pub record IsFirstPlace (schema : Shape) (records : List Record) (places : List ℕ) (p : ℕ) : Type 0 where
  pub before : List ℕ
  pub after : List ℕ
  pub there : places ≡ before ++ p ∷ after
  pub first : has_key schema (rows_at records before) (row_at records p) ≡ false

-- it stands among these, and none before it ties with it
abbrev pub IsFirstIn : {X : Type 0} → (X → X → Ordering) → List X → X → Type 0
IsFirstIn R [] x = ⊥
IsFirstIn R (y ∷ ys) x = (x ≡ y) ⊎ ((is_eq (R x y) ≡ false) × IsFirstIn R ys x)

pub record IsMerge {X : Type 0} (R : X → X → Ordering) (all merge : List X) : Type 0 where
  pub rises : Rises R merge
  pub first : (x : X) → IsIn merge x → IsFirstIn R all x
  pub every : (x : X) → IsFirstIn R all x → IsIn merge x
