-- A query and what was found of it.
--     IsPlan plan      the conditions, columns, keys and items of a plan say what those of its query say, over its columns
--     keyless columns      these columns, without a key
use Rattle.std.specs.Prelude.{◌≡◌, List, []}
use Rattle.ov_value.specs.declared.column.Column.{Column}
use Rattle.ov_value.specs.Shapes.{Shape}
use Rattle.ov_model.specs.Answers.{Pair, group_key}
use Rattle.ov_model.specs.declared.query.Col.{Col}
use Rattle.ov_model.specs.declared.query.Key.{Key}
use Rattle.ov_terms.specs.Finding.{IsFoundGuard, IsFoundItems}
use Rattle.ov_terms.specs.declared.found_term.FoundTerm.{FoundTerm}
use Rattle.ov_terms.specs.declared.lookup.Lookup.{Lookup}
use Rattle.ov_qrun.specs.Keys.{key_in, keys_for, named_keys}
use Rattle.ov_qrun.specs.declared.plan.Plan.{Plan}

abbrev pub AreLookups : Shape → List Col → List Lookup → Type 0
AreLookups schema cols found = (pair : Pair) → key_in found pair ≡ group_key schema cols pair

abbrev pub AreKeys : Shape → List Key → List FoundTerm → Type 0
AreKeys schema order found = (group : List Pair) → keys_for found group ≡ named_keys schema order group

pub record IsPlan (plan : Plan) : Type 0 where
  pub filter : IsFoundGuard plan.shape.now plan.query.now.filter plan.filter
  pub groups : AreLookups plan.shape.now plan.query.now.groups plan.groups.items
  pub having : IsFoundGuard plan.shape.now plan.query.now.having plan.having
  pub order : AreKeys plan.shape.now plan.query.now.order plan.order.items
  pub items : IsFoundItems plan.shape.now plan.query.now.items plan.items

abbrev pub keyless : List Column → Shape
keyless columns = record { columns = columns; key = [] }
