-- Whose tables are told of and committed.
use Rattle.std.proofs.Common.{◌≡◌, ◌⊎◌, ℕ, Bool, true, false, List, [], ◌∷◌, map, refl, sym, ◌∙◌, ap, inl, inr}
use Rattle.std.specs.Prelude.{not, slice_get, Option, Some, None}
use Rattle.std.specs.List.{position}
use Rattle.std.specs.Option.{option_and_then}
use Rattle.std.specs.Ordering.{is_eq, ordering_then}
use Rattle.std.specs.declared.cmp.Ordering.{Ordering}
use Rattle.std.specs.declared.cmp.Ordering.TheVariants.{Less, Equal, Greater}
use Rattle.std.specs.Cmp.Lexicographic.{slice_cmp}
use Rattle.std.specs.Str.{bytes_eq}
use Rattle.std.proofs.lemmas.List.Quantifiers.{position-Some}
use Rattle.std.proofs.lemmas.Option.{get_or_from_slice_get}
use Rattle.std.proofs.lemmas.Slice.Eq.{bytes_eq-Decides}
use Rattle.ov_value.specs.declared.value.Value.{Value}
use Rattle.ov_value.specs.declared.value.Value.TheVariants.{Text}
use Rattle.ov_value.specs.Order.{value_tie_decides}
use Rattle.ov_value.specs.Rows.{value_at, value_cmp}
use Rattle.ov_model.specs.Act.{Session, Deed, if_so, refuses, tells, unless}
use Rattle.ov_model.specs.Book.{Row}
use Rattle.ov_model.specs.Deed.{CommitsStaged, commit_from, commit_staged_deed, deed, own_rows, staged_by, table_named, table_shown}
use Rattle.ov_model.specs.Registry.{is_foreign, is_table, last_rows, stage_name, stage_schema, staged_of, table_in}
use Rattle.ov_model.specs.Users.{permit}
use Rattle.ov_model.specs.World.{Dataset, World, set_named}
use Rattle.ov_model.specs.declared.command.Command.TheVariants as asks
use Rattle.ov_model.specs.declared.refusal.Refusal.{Refusal}
use Rattle.ov_model.specs.declared.refusal.Refusal.TheVariants as no
use Rattle.ov_model.specs.declared.reply.Reply.TheVariants as says
use Rattle.ov_model.proofs.Ruling.{silent-permits}

-- ---- tables

pub tables-same : (w v : World) (s : Session) → own_rows s.user (set_named w stage_name) ≡ own_rows s.user (set_named v stage_name)
    → is_foreign stage_schema (set_named w stage_name) ≡ is_foreign stage_schema (set_named v stage_name) → deed w s asks.Tables ≡ deed v s asks.Tables
tables-same w v s rows foreign =
    λ i. unless s (permit s.user asks.Tables) (unless s (if_so (foreign i) no.ForeignRegistry) (tells s (says.Tables (map table_shown (rows i)))))

-- ---- the row of a table

both-equal : (a b : Ordering) → is_eq (ordering_then a b) ≡ true → (is_eq a ≡ true) × (is_eq b ≡ true)
both-equal Less b e = absurd cc
both-equal Equal b e = (refl, e)
both-equal Greater b e = absurd cc

text-is : (value : Value) (text : List ℕ) → is_eq (value_cmp value (Text text)) ≡ true → value ≡ Text text
text-is value text e = (value_tie_decides value (Text text)).0 e

pub table-texts : (owner name : List ℕ) (row : Row) → is_table owner name row ≡ true → (value_at row 0 ≡ Text owner) × (value_at row 1 ≡ Text name)
table-texts owner name row e =
    let later : Ordering = slice_cmp value_cmp (value_at row 1 ∷ []) (Text name ∷ [])
    in let one = both-equal (value_cmp (value_at row 0) (Text owner)) later e
    in let two = both-equal (value_cmp (value_at row 1) (Text name)) (slice_cmp value_cmp [] []) one.1
    in (text-is (value_at row 0) owner one.0, text-is (value_at row 1) name two.0)

found-at : (owner name : List ℕ) (rows : List Row) (row : Row) (place : Option ℕ) → position (is_table owner name) rows ≡ place
    → option_and_then (slice_get rows) place ≡ Some row → is_table owner name row ≡ true
found-at owner name rows row None at e = absurd cc
found-at owner name rows row (Some k) at e =
    let passes = (position-Some (is_table owner name) rows k row at).1
    in ap (is_table owner name) (sym (get_or_from_slice_get rows k row row e)) ∙ passes

pub table-is : (owner name : List ℕ) (rows : List Row) (row : Row) → table_in rows owner name ≡ Some row → is_table owner name row ≡ true
table-is owner name rows row e = found-at owner name rows row (position (is_table owner name) rows) refl e

-- ---- who commits it

not-false : (t : Bool) → not t ≡ false → t ≡ true
not-false true e = refl
not-false false e = absurd cc

module _ (w : World) (s : Session) (user table message : List ℕ) where
  abbrev Ends : Deed → Type 0
  Ends d = ((refusal : Refusal) × (d ≡ refuses s refusal)) ⊎ CommitsStaged w s user table message d

  abbrev stage : Option Dataset
  stage = set_named w stage_name

  by-from : (row : Row) → table_in (last_rows stage) user table ≡ Some row → user ≡ s.user → (from : Option (Dataset × List ℕ)) → staged_of w row ≡ from
      → Ends (commit_from w s user table message from)
  by-from row there named None is = inl (no.NoTable (table_named user table), refl)
  by-from row there named (Some from) is =
      let texts = table-texts user table row (table-is user table (last_rows stage) row there)
      in inr (record {
        row = row;
        there = there;
        named = named;
        owner = texts.0 ∙ ap Text named;
        table_is = texts.1;
        from = from;
        staged = is;
        is = refl;
      })

  by-row : user ≡ s.user → (found : Option Row) → table_in (last_rows stage) user table ≡ found → Ends (commit_from w s user table message (staged_by w found))
  by-row named None there = inl (no.NoTable (table_named user table), refl)
  by-row named (Some row) there = by-from row there named (staged_of w row) refl

  by-refusal : (refusal : Option Refusal) (d : Deed) → (refusal ≡ None → Ends d) → Ends (unless s refusal d)
  by-refusal None d more = more refl
  by-refusal (Some refusal) d more = inl (refusal, refl)

  same-user : permit s.user (asks.CommitStaged user table message) ≡ None → user ≡ s.user
  same-user e =
      let silent = (silent-permits s.user (asks.CommitStaged user table message)).0 e
      in (bytes_eq-Decides user s.user).0 (not-false (bytes_eq user s.user) silent.1.0)

  pub staged-goes : Ends (deed w s (asks.CommitStaged user table message))
  staged-goes =
      by-refusal (permit s.user (asks.CommitStaged user table message)) (commit_staged_deed w s user table message stage)
      (λ permitted. by-refusal (if_so (is_foreign stage_schema stage) no.ForeignRegistry) _
      (λ own. by-row (same-user permitted) (table_in (last_rows stage) user table) refl))
