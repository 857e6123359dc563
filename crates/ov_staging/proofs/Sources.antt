-- Where a staged table came from by the numbers, it came from in a World.
use Rattle.std.proofs.Common.{◌≡◌, ◌∙◌, ℕ, Bool, true, false, List, [], ◌∷◌, length, refl, sym, ap, subst, arith}
use Rattle.std.specs.Prelude.{◌≢◌, ◌==◌, Some, None, Option, if◌then◌else◌, option_map}
use Rattle.std.specs.List.{slice_split}
use Rattle.std.specs.Option.{option_and_then}
use Rattle.std.proofs.lemmas.List.Splits.{length-slice_split}
use Rattle.std.proofs.lemmas.Option.{same_Some}
use Rattle.ov_core.specs.AtWorld.{IsAtWorld}
use Rattle.ov_core.specs.Held.{Held}
use Rattle.ov_host.specs.Host.{State}
use Rattle.ov_model.specs.Act.{Session, commit_deed, if_so, refuses, unless}
use Rattle.ov_model.specs.Book.{Row}
use Rattle.ov_model.specs.Deed.{commit_from, commit_staged_deed, file_of_table, staged_by, table_named}
use Rattle.ov_model.specs.Registry.{as_text, both, is_foreign, is_number, last_rows, made_as, set_staged, stage_name, stage_schema, table_in, unreserved, vids_staged}
use Rattle.ov_model.specs.Users.{is_reserved}
use Rattle.ov_model.specs.Values.{all_some, number_of, vids_of}
use Rattle.ov_model.specs.World.{Dataset, World, set_named}
use Rattle.ov_model.specs.declared.refusal.Refusal.TheVariants as no
use Rattle.ov_store.specs.Committing.{Set}
use Rattle.ov_store.specs.Scanning.{set_in}
use Rattle.ov_store.proofs.Deciding.{counts, none_named, world_named}
use Rattle.ov_value.specs.Rows.{value_at}
use Rattle.ov_value.specs.declared.value.Value.{Value}
use Rattle.ov_staging.specs.Origins.{IsOriginIn, IsOriginOf, made_in, set_staged_in, unreserved_in}
use Rattle.ov_staging.specs.declared.origins.Origin.{Origin}
use Rattle.ov_staging.specs.declared.origins.Origin.TheVariants as origin
use Rattle.ov_staging.proofs.Taken.{named_is}

-- ---- a list of versions has one

some_of : (parts : List (List ℕ)) → (length parts ≡ 0 → ⊥) → (vids : List ℕ) → all_some number_of parts ≡ Some vids → vids ≢ []
some_of [] some vids is = absurd (some refl)
some_of (part ∷ parts) some vids is = by (number_of part) (all_some number_of parts) is
  where
    by : (one : Option ℕ) (rest : Option (List ℕ)) → option_and_then (λ y. option_map (λ ys. y ∷ ys) rest) one ≡ Some vids → vids ≢ []
    by None rest is = absurd cc
    by (Some n) None is = absurd cc
    by (Some n) (Some ns) is = λ none. let two : n ∷ ns ≡ [] = same_Some (n ∷ ns) vids is ∙ none in cc

pub vids_some : (text vids : List ℕ) → vids_of text ≡ Some vids → vids ≢ []
vids_some text vids is =
    some_of (slice_split (λ (c : ℕ). c == 44) text) (λ none. omega (arith, none, length-slice_split (λ (c : ℕ). c == 44) text)) vids is

pub listed_some : (row : Row) (vids : List ℕ) → vids_staged row ≡ Some vids → vids ≢ []
listed_some row vids is = by (as_text (value_at row 4)) is
  where
    by : (o : Option (List ℕ)) → option_and_then vids_of o ≡ Some vids → vids ≢ []
    by None is = absurd cc
    by (Some text) is = vids_some text vids is

-- ---- by the row

none_some : (p : Set × List ℕ) → (let none : Option (Set × List ℕ) = None in none) ≡ Some p → ⊥
none_some p e = cc

module _ (w : World) (held : Held) (t : State) (at : IsAtWorld w held t) where
  -- the same dataset, or none
  abbrev IsSeenAs : Option Set → Option Dataset → Type 0
  IsSeenAs None None = Unit {0}
  IsSeenAs None (Some d) = ⊥
  IsSeenAs (Some set) None = ⊥
  IsSeenAs (Some set) (Some d) = (set_named w set.name ≡ Some d) × (d.cvd.name ≡ set.name) × (set.number ≡ d.cvd.number)

  named_seen : (name : List ℕ) → IsSeenAs (set_in held.numbers name) (set_named w name)
  named_seen name = by (set_in held.numbers name) refl
    where
      by : (o : Option Set) → set_in held.numbers name ≡ o → IsSeenAs o (set_named w name)
      by None none = subst (IsSeenAs None) (sym (none_named w held t at name none)) tt
      by (Some set) found =
          let there = world_named w held t at name set found
          in let has = counts w held t at name there.0 there.1 set found
          in let name_is : set.name ≡ name = has.name ∙ named_is w name there.0 there.1
          in subst (IsSeenAs (Some set)) (sym there.1) (ap (set_named w) name_is ∙ there.1, sym has.name, has.number)

  unreserved_seen : (name : List ℕ) → IsSeenAs (unreserved_in held.numbers name) (unreserved w name)
  unreserved_seen name = by (is_reserved name)
    where
      by : (b : Bool) → IsSeenAs (if b then None else set_in held.numbers name) (if b then None else set_named w name)
      by true = tt
      by false = named_seen name

  text_seen : (o : Option (List ℕ)) → IsSeenAs (option_and_then (unreserved_in held.numbers) o) (option_and_then (unreserved w) o)
  text_seen None = tt
  text_seen (Some name) = unreserved_seen name

  made_seen : (made : Value) (o : Option Set) (d : Option Dataset) → IsSeenAs o d → IsSeenAs (option_and_then (made_in made) o) (option_and_then (made_as made) d)
  made_seen made None None is = tt
  made_seen made None (Some d) is = absurd is
  made_seen made (Some set) None is = absurd is
  made_seen made (Some set) (Some d) is =
      subst (λ (b : Bool). IsSeenAs (if b then Some set else None) (made_as made d)) (sym (ap (is_number made) is.2)) (by (is_number made d.cvd.number))
    where
      by : (b : Bool) → IsSeenAs (if b then Some set else None) (if b then Some d else None)
      by true = is
      by false = tt

  row_seen : (row : Row) → IsSeenAs (set_staged_in held.numbers row) (set_staged w row)
  row_seen row = made_seen (value_at row 3) _ _ (text_seen (as_text (value_at row 2)))

  module _ (owner table : List ℕ) where
    abbrev IsPair : Option Set → Option (List ℕ) → Origin → Type 0
    IsPair a v (origin.Refused refusal) = (both a v ≡ None) × (refusal ≡ no.NoTable (table_named owner table))
    IsPair a v (origin.From cvd vids) = (set : Set) × (both a v ≡ Some (set, vids)) × (cvd ≡ set.name)

    abbrev IsDeedOf : Option (Dataset × List ℕ) → Origin → Type 0
    IsDeedOf from (origin.Refused refusal) = (s : Session) (message : List ℕ) → commit_from w s owner table message from ≡ refuses s refusal
    IsDeedOf from (origin.From cvd vids) =
        (s : Session) (message : List ℕ) → commit_from w s owner table message from ≡ commit_deed w s cvd vids message [] (file_of_table owner table) (set_named w cvd)

    -- the dataset and the versions
    came_from : (set : Set) (d : Dataset) (ns : List ℕ) → IsSeenAs (Some set) (Some d) → (found : Set × List ℕ) → (set, ns) ≡ found → (cvd : List ℕ) → cvd ≡ found.0.name
        → IsDeedOf (Some (d, ns)) (origin.From cvd found.1)
    came_from set d ns seen found same cvd is = λ s message.
        let name : set.name ≡ cvd = ap (λ (p : Set × List ℕ). p.0.name) same ∙ sym is
        in let vids : ns ≡ found.1 = ap (λ (p : Set × List ℕ). p.1) same
        in (λ i. commit_deed w s (seen.1 i) ns message [] (file_of_table owner table) (Some d))
        ∙ (λ i. commit_deed w s set.name ns message [] (file_of_table owner table) (sym seen.0 i))
        ∙ (λ i. commit_deed w s (name i) (vids i) message [] (file_of_table owner table) (set_named w (name i)))

    pair_from : (a : Option Set) (b : Option Dataset) (v : Option (List ℕ)) → IsSeenAs a b → (from : Origin) → IsPair a v from → IsDeedOf (both b v) from
    pair_from None None None seen (origin.Refused refusal) is = λ s message. ap (refuses s) (sym is.1)
    pair_from None None (Some ns) seen (origin.Refused refusal) is = λ s message. ap (refuses s) (sym is.1)
    pair_from None None None seen (origin.From cvd vids) is = absurd (none_some (is.0, vids) is.1)
    pair_from None None (Some ns) seen (origin.From cvd vids) is = absurd (none_some (is.0, vids) is.1)
    pair_from None (Some d) v seen from is = absurd seen
    pair_from (Some set) None v seen from is = absurd seen
    pair_from (Some set) (Some d) None seen (origin.Refused refusal) is = λ s message. ap (refuses s) (sym is.1)
    pair_from (Some set) (Some d) None seen (origin.From cvd vids) is = absurd (none_some (is.0, vids) is.1)
    pair_from (Some set) (Some d) (Some ns) seen (origin.Refused refusal) is = absurd (none_some (set, ns) (sym is.0))
    pair_from (Some set) (Some d) (Some ns) seen (origin.From cvd vids) is =
        came_from set d ns seen (is.0, vids) (same_Some (set, ns) (is.0, vids) is.1) cvd is.2

    row_from : (row : Option Row) (from : Origin) → IsOriginOf held.numbers owner table row from → IsDeedOf (staged_by w row) from
    row_from None (origin.Refused refusal) is = λ s message. ap (refuses s) (sym is.1)
    row_from None (origin.From cvd vids) is = absurd (none_some (is.0, vids) is.1)
    row_from (Some row) (origin.Refused refusal) is = pair_from (set_staged_in held.numbers row) (set_staged w row) (vids_staged row) (row_seen row) (origin.Refused refusal) is
    row_from (Some row) (origin.From cvd vids) is = pair_from (set_staged_in held.numbers row) (set_staged w row) (vids_staged row) (row_seen row) (origin.From cvd vids) is

    abbrev the_stage : Option Dataset
    the_stage = set_named w stage_name

    pub foreign_from : is_foreign stage_schema the_stage ≡ true → IsOriginIn w owner table (origin.Refused no.ForeignRegistry)
    foreign_from foreign = λ s message.
        ap (λ (b : Bool). unless s (if_so b no.ForeignRegistry) (commit_from w s owner table message (staged_by w (table_in (last_rows the_stage) owner table)))) foreign

    deed_from : (rows : List Row) → is_foreign stage_schema the_stage ≡ false → rows ≡ last_rows the_stage → (s : Session) (message : List ℕ)
        → commit_staged_deed w s owner table message the_stage ≡ commit_from w s owner table message (staged_by w (table_in rows owner table))
    deed_from rows own are s message =
        ap (λ (b : Bool). unless s (if_so b no.ForeignRegistry) (commit_from w s owner table message (staged_by w (table_in (last_rows the_stage) owner table)))) own
        ∙ ap (λ (l : List Row). commit_from w s owner table message (staged_by w (table_in l owner table))) (sym are)

    pub rows_from : (rows : List Row) (from : Origin) → is_foreign stage_schema the_stage ≡ false → rows ≡ last_rows the_stage
        → IsOriginOf held.numbers owner table (table_in rows owner table) from → IsOriginIn w owner table from
    rows_from rows (origin.Refused refusal) own are is = λ s message. deed_from rows own are s message ∙ row_from (table_in rows owner table) (origin.Refused refusal) is s message
    rows_from rows (origin.From cvd vids) own are is = λ s message. deed_from rows own are s message ∙ row_from (table_in rows owner table) (origin.From cvd vids) is s message
