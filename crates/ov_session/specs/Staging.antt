-- A checkout as a staged table, behind what the registry says of it.
--     with_merge s file d vids      the session in which the file is the merge
--     keeps w s rows d vids file      these rows come in the place of those of the staged tables, and the file is then the merge
--     IsPutDamaged set vids stage rows held s page      the versions that are read are damaged, or else what the one change reads
use Rattle.std.specs.Prelude.{◌⊎◌, ℕ, List, length, Option}
use Rattle.ov_core.specs.Held.{Held}
use Rattle.ov_host.specs.Host.{State}
use Rattle.ov_model.specs.Act.{Deed, Session, merge_of, put}
use Rattle.ov_model.specs.Book.{Row}
use Rattle.ov_model.specs.Csv.{text_of}
use Rattle.ov_model.specs.Deed.{changes}
use Rattle.ov_model.specs.Registry.{stage_name, stage_schema}
use Rattle.ov_model.specs.World.{Dataset, World, set_named}
use Rattle.ov_model.specs.declared.reply.Reply.TheVariants as says
use Rattle.ov_registry.specs.declared.registry.Registry.TheVariants as registry
use Rattle.ov_staging.specs.Changing.{AreRowsDamaged}
use Rattle.ov_store.specs.Committing.{Set}
use Rattle.ov_store.specs.Scanning.{IsDamagedIn}

abbrev pub with_merge : Session → List ℕ → Dataset → List ℕ → Session
with_merge s file d vids = record s { files = put s.files file (text_of d.cvd.schema (merge_of d.cvd vids)) }

abbrev pub keeps : World → Session → List Row → Dataset → List ℕ → List ℕ → Deed
keeps w s rows d vids file =
    changes w s (with_merge s file d vids) stage_name stage_schema rows (says.ToFile d.cvd.name (length (merge_of d.cvd vids)) file) (set_named w stage_name)

abbrev pub IsPutDamaged : Option Set → List ℕ → Option Set → List Row → Held → State → ℕ → Type 0
IsPutDamaged set vids stage rows held s page =
    IsDamagedIn set vids s page ⊎ (((other : ℕ) → IsDamagedIn set vids s other → ⊥) × AreRowsDamaged registry.Stage stage rows held s page)
