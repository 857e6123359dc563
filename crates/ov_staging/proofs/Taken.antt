-- What the numbers and the rows say of a checkout as a staged table is what it means in a World.
use Rattle.std.proofs.Common.{◌≡◌, ◌∙◌, inl, inr, ℕ, Bool, true, false, List, [], ◌∷◌, length, refl, sym, ap}
use Rattle.std.specs.Prelude.{Some, None, Option, Ok, Err, Result, IfOk, MatchResult, if◌then◌else◌, is_some, nat_lt, not}
use Rattle.std.specs.Option.{option_or}
use Rattle.std.specs.Str.{bytes_eq}
use Rattle.std.proofs.lemmas.Option.{same_Some}
use Rattle.std.proofs.lemmas.Slice.Eq.{bytes_eq-Decides}
use Rattle.ov_core.specs.AtWorld.{IsAtWorld}
use Rattle.ov_core.specs.Held.{Held}
use Rattle.ov_host.specs.Host.{State}
use Rattle.ov_model.specs.Act.{Session, if_so, merge_of, refuses, unless, vids_refusal}
use Rattle.ov_model.specs.Book.{Row}
use Rattle.ov_model.specs.Deed.{changes, file_of_table, stage_deed, stage_of, stage_refusal, staged, table_named, with_staged}
use Rattle.ov_model.specs.Registry.{is_foreign, is_same_schema, last_rows, stage_name, stage_schema, table_in, table_row, with_row}
use Rattle.ov_model.specs.World.{Dataset, World, first_set, named, set_named}
use Rattle.ov_model.specs.declared.refusal.Refusal.{Refusal}
use Rattle.ov_model.specs.declared.refusal.Refusal.TheVariants as no
use Rattle.ov_model.specs.declared.reply.Reply.TheVariants as says
use Rattle.ov_registry.specs.Last.{is_foreign_in}
use Rattle.ov_store.specs.Committing.{Set}
use Rattle.ov_store.specs.Refusals.{refusal_of, refused}
use Rattle.ov_store.specs.Scanning.{IsUnscanned, scan_off, set_in, versions_off}
use Rattle.ov_store.specs.declared.errors.StoreErr.{StoreErr}
use Rattle.ov_store.specs.declared.errors.StoreErr.TheVariants as why
use Rattle.ov_store.proofs.Deciding.{counts, none_named, world_named}
use Rattle.ov_store.proofs.Refusing.{vids_refused}
use Rattle.ov_value.specs.Naming.{is_name}
use Rattle.ov_value.specs.Shapes.{Shape}
use Rattle.ov_staging.specs.Changing.{Change, IsNextBy, IsNextIn}
use Rattle.ov_staging.specs.Errors.{IsNoDamage}
use Rattle.ov_staging.specs.Reading.{foreign_off}
use Rattle.ov_staging.specs.Taking.{IsTakenBy, IsTakenIn, number_in, stage_change, stage_off, staged_row, unfit_off}
use Rattle.ov_staging.specs.declared.changing.Next.{Next}
use Rattle.ov_staging.specs.declared.changing.Next.TheVariants as next
use Rattle.ov_staging.specs.declared.errors.StagingErr.{StagingErr}

-- ---- a dataset of a name

first_named : (name : List ℕ) (sets : List Dataset) (d : Dataset) → first_set (named name) sets ≡ Some d → d.cvd.name ≡ name
first_named name [] d e = absurd cc
first_named name (x ∷ sets) d e = by (bytes_eq x.cvd.name name) (λ same. (bytes_eq-Decides x.cvd.name name).0 same) e (first_named name sets d)
  where
    by : (b : Bool) → (b ≡ true → x.cvd.name ≡ name) → (if b then Some x else first_set (named name) sets) ≡ Some d
        → (first_set (named name) sets ≡ Some d → d.cvd.name ≡ name) → d.cvd.name ≡ name
    by true same is later = ap (λ (y : Dataset). y.cvd.name) (sym (same_Some x d is)) ∙ same refl
    by false same is later = later is

pub named_is : (w : World) (name : List ℕ) (d : Dataset) → set_named w name ≡ Some d → d.cvd.name ≡ name
named_is w name d e = first_named name w.sets d e

-- ---- what the numbers refuse

-- a refusal of the store's numbers is the one that they have
pub unlisted_is : (cvd vids : List ℕ) (off : Option StoreErr) (set : Option Set) (old new : State) (e : StoreErr) (refusal : Refusal)
    → IsUnscanned off set vids old new e → refusal_of cvd e ≡ Some refusal → Some refusal ≡ refused cvd off
unlisted_is cvd vids off set old new why.Host refusal is said = absurd cc
unlisted_is cvd vids off set old new why.Memory refusal is said = absurd cc
unlisted_is cvd vids off set old new (why.Damaged area at) refusal is said = absurd cc
unlisted_is cvd vids off set old new (why.Full pages) refusal is said = sym said ∙ ap (refused cvd) (sym is.0)
unlisted_is cvd vids off set old new why.JournalFull refusal is said = sym said ∙ ap (refused cvd) (sym is.0)
unlisted_is cvd vids off set old new why.NoCvd refusal is said = sym said ∙ ap (refused cvd) (sym is.0)
unlisted_is cvd vids off set old new why.CvdExists refusal is said = sym said ∙ ap (refused cvd) (sym is.0)
unlisted_is cvd vids off set old new (why.NoVersion vid) refusal is said = sym said ∙ ap (refused cvd) (sym is.0)
unlisted_is cvd vids off set old new (why.RepeatedVersion vid) refusal is said = sym said ∙ ap (refused cvd) (sym is.0)
unlisted_is cvd vids off set old new (why.DuplicateKey row) refusal is said = sym said ∙ ap (refused cvd) (sym is.0)
unlisted_is cvd vids off set old new why.TooManyVersions refusal is said = sym said ∙ ap (refused cvd) (sym is.0)
unlisted_is cvd vids off set old new why.TooManyRecords refusal is said = sym said ∙ ap (refused cvd) (sym is.0)
unlisted_is cvd vids off set old new why.TooManyRows refusal is said = sym said ∙ ap (refused cvd) (sym is.0)
unlisted_is cvd vids off set old new why.TooManyCvds refusal is said = sym said ∙ ap (refused cvd) (sym is.0)
unlisted_is cvd vids off set old new why.NoNumbers refusal is said = sym said ∙ ap (refused cvd) (sym is.0)
unlisted_is cvd vids off set old new (why.FormatOne row) refusal is said = sym said ∙ ap (refused cvd) (sym is.0)

first_none : (a b : Option Refusal) → option_or a b ≡ None → a ≡ None
first_none None b is = refl
first_none (Some x) b is = is

second_none : (a b : Option Refusal) → option_or a b ≡ None → b ≡ None
second_none None b is = is
second_none (Some x) b is = absurd cc

-- where nothing of all is refused, the registry is no foreign one
pub own_of : (vids table : List ℕ) (set : Option Set) (rest : Option Refusal) → option_or (unfit_off vids table set) rest ≡ None → foreign_off stage_schema set ≡ None
own_of vids table set rest none =
    first_none (foreign_off stage_schema set) (if_so (nat_lt 1000 (length vids)) no.TooManyListed)
    (second_none (if_so (not (is_name table)) (no.BadName table)) (option_or (foreign_off stage_schema set) (if_so (nat_lt 1000 (length vids)) no.TooManyListed)) (first_none (unfit_off vids table set) rest none))

-- ---- what comes next

pub taken_by : (off : Option Refusal) (change : Change) (set : Option Set) (s : State) (n : Next) → off ≡ None → foreign_off stage_schema set ≡ None
    → IsNextBy stage_schema change set s n → IsTakenBy off change set s n
taken_by off change set s (next.Refused refusal) none own (inl foreign) = let two : None ≡ Some refusal = sym own ∙ foreign in absurd cc
taken_by off change set s (next.Refused refusal) none own (inr by) = inr (none, by.1, by.2, by.3)
taken_by off change set s (next.Rows rows) none own by = (none, by.1, by.2, by.3, by.4)

pub taken_ok : (off : Option Refusal) (change : Change) (set : Option Set) (s : State) (r : Result Next StagingErr) → off ≡ None → foreign_off stage_schema set ≡ None
    → IfOk r (IsNextBy stage_schema change set s) → IfOk r (IsTakenBy off change set s)
taken_ok off change set s (Ok n) none own by = taken_by off change set s n none own by
taken_ok off change set s (Err e) none own by = tt

-- ---- in a World

or_all : (a b c : Option Refusal) → option_or a (option_or b c) ≡ None → (a ≡ None) × (b ≡ None) × (c ≡ None)
or_all None None c is = (refl, refl, is)
or_all None (Some x) c is = absurd cc
or_all (Some x) b c is = absurd cc

abbrev pub listed_off : List ℕ → List ℕ → Option Dataset → Option Refusal
listed_off cvd vids None = Some (no.NoCvd cvd)
listed_off cvd vids (Some d) = vids_refusal (length d.cvd.versions) [] vids

module _ (w : World) (held : Held) (s : State) (at : IsAtWorld w held s) where
  pub foreign_world : (schema : Shape) (name : List ℕ) → is_foreign_in schema (set_in held.numbers name) ≡ is_foreign schema (set_named w name)
  foreign_world schema name = by (set_in held.numbers name) refl
    where
      by : (o : Option Set) → set_in held.numbers name ≡ o → is_foreign_in schema o ≡ is_foreign schema (set_named w name)
      by None none = sym (ap (is_foreign schema) (none_named w held s at name none))
      by (Some set) found =
          let there = world_named w held s at name set found
          in ap (λ (x : Shape). not (is_same_schema x schema)) (counts w held s at name there.0 there.1 set found).schema
          ∙ sym (ap (is_foreign schema) there.1)

  listed_world : (cvd vids : List ℕ) → refused cvd (scan_off held.numbers cvd vids) ≡ listed_off cvd vids (set_named w cvd)
  listed_world cvd vids = by (set_in held.numbers cvd) refl
    where
      by : (o : Option Set) → set_in held.numbers cvd ≡ o → refused cvd (versions_off o vids) ≡ listed_off cvd vids (set_named w cvd)
      by None none = sym (ap (listed_off cvd vids) (none_named w held s at cvd none))
      by (Some set) found =
          let there = world_named w held s at cvd set found
          in vids_refused cvd (length set.versions) [] vids
          ∙ ap (λ (n : ℕ). vids_refusal n [] vids) (counts w held s at cvd there.0 there.1 set found).versions
          ∙ sym (ap (listed_off cvd vids) there.1)

  unfit_world : (vids table : List ℕ) → unfit_off vids table (set_in held.numbers stage_name) ≡ stage_refusal table vids (set_named w stage_name)
  unfit_world vids table =
      ap (λ (t : Bool). option_or (if_so (not (is_name table)) (no.BadName table))
      (option_or (if_so t no.ForeignRegistry) (if_so (nat_lt 1000 (length vids)) no.TooManyListed))) (foreign_world stage_schema stage_name)

  pub stage_world : (cvd vids table : List ℕ) → stage_off held.numbers cvd vids table
      ≡ option_or (stage_refusal table vids (set_named w stage_name)) (listed_off cvd vids (set_named w cvd))
  stage_world cvd vids table = λ i. option_or (unfit_world vids table i) (listed_world cvd vids i)

-- ---- the command

module _ (w : World) (s : Session) (cvd table vids : List ℕ) (stage : Option Dataset) where
  abbrev staged_off : Option Refusal
  staged_off = if_so (is_some (table_in (last_rows stage) s.user table)) (no.TableStaged (table_named s.user table))

  deed_refused : (d : Option Dataset) (refusal : Refusal) → option_or (stage_refusal table vids stage) (listed_off cvd vids d) ≡ Some refusal
      → stage_deed w s cvd table vids stage d ≡ refuses s refusal
  deed_refused d refusal is = by (stage_refusal table vids stage) d is
    where
      by : (o : Option Refusal) (d : Option Dataset) → option_or o (listed_off cvd vids d) ≡ Some refusal
          → unless s o (stage_of w s cvd table vids stage d) ≡ refuses s refusal
      by (Some x) d is = ap (refuses s) (same_Some x refusal is)
      by None None is = ap (refuses s) (same_Some (no.NoCvd cvd) refusal is)
      by None (Some d) is = ap (λ (o : Option Refusal). unless s (option_or o staged_off) (staged w s table vids d stage)) is

  deed_goes : (d : Dataset) → option_or (stage_refusal table vids stage) (listed_off cvd vids (Some d)) ≡ None
      → stage_deed w s cvd table vids stage (Some d) ≡ unless s staged_off (staged w s table vids d stage)
  deed_goes d is = by (stage_refusal table vids stage) is
    where
      by : (o : Option Refusal) → option_or o (listed_off cvd vids (Some d)) ≡ None
          → unless s o (stage_of w s cvd table vids stage (Some d)) ≡ unless s staged_off (staged w s table vids d stage)
      by (Some x) is = absurd cc
      by None is = ap (λ (o : Option Refusal). unless s (option_or o staged_off) (staged w s table vids d stage)) is

module _ (w : World) (held : Held) (t : State) (at : IsAtWorld w held t) (owner cvd vids table : List ℕ) where
  abbrev the_stage : Option Dataset
  the_stage = set_named w stage_name

  abbrev the_change : Change
  the_change = stage_change owner table (staged_row held.numbers owner cvd vids table)

  pub refused_in : (refusal : Refusal) → stage_off held.numbers cvd vids table ≡ Some refusal → IsTakenIn w owner cvd vids table (next.Refused refusal)
  refused_in refusal is = λ s same. deed_refused w s cvd table vids the_stage (set_named w cvd) refusal (sym (stage_world w held t at cvd vids table) ∙ is)

  -- the dataset is there
  listed_there : refused cvd (scan_off held.numbers cvd vids) ≡ None → (set : Set) × (set_in held.numbers cvd ≡ Some set)
  listed_there none = by (set_in held.numbers cvd) refl none
    where
      by : (o : Option Set) → set_in held.numbers cvd ≡ o → refused cvd (versions_off o vids) ≡ None → (set : Set) × (set_in held.numbers cvd ≡ Some set)
      by None missing is = absurd cc
      by (Some set) found is = (set, found)

  module _ (none : stage_off held.numbers cvd vids table ≡ None) (set : Set) (found : set_in held.numbers cvd ≡ Some set) where
    abbrev the_set : Dataset
    the_set = (world_named w held t at cvd set found).0

    named_so : set_named w cvd ≡ Some the_set
    named_so = (world_named w held t at cvd set found).1

    goes_so : (s : Session) → stage_deed w s cvd table vids the_stage (set_named w cvd) ≡ unless s (staged_off w s cvd table vids the_stage) (staged w s table vids the_set the_stage)
    goes_so s =
        ap (stage_deed w s cvd table vids the_stage) named_so
        ∙ deed_goes w s cvd table vids the_stage the_set
        (ap (λ (d : Option Dataset). option_or (stage_refusal table vids the_stage) (listed_off cvd vids d)) (sym named_so)
        ∙ sym (stage_world w held t at cvd vids table) ∙ none)

    own_so : is_foreign stage_schema the_stage ≡ false
    own_so = not_so (is_foreign stage_schema the_stage)
        (ap (λ (b : Bool). if_so b no.ForeignRegistry) (sym (foreign_world w held t at stage_schema stage_name)) ∙ own_of vids table (set_in held.numbers stage_name) (refused cvd (scan_off held.numbers cvd vids)) none)
      where
        not_so : (b : Bool) → if_so b no.ForeignRegistry ≡ None → b ≡ false
        not_so true is = absurd cc
        not_so false is = refl

    rows_off : (o : Option Refusal) → option_or (if_so (is_foreign stage_schema the_stage) no.ForeignRegistry) (the_change.off (last_rows the_stage)) ≡ o
        → the_change.off (last_rows the_stage) ≡ o
    rows_off o is = sym (ap (λ (b : Bool). option_or (if_so b no.ForeignRegistry) (the_change.off (last_rows the_stage))) own_so) ∙ is

    row_is : staged_row held.numbers owner cvd vids table ≡ table_row owner table the_set.cvd.name the_set.cvd.number vids
    row_is =
        let has = counts w held t at cvd the_set named_so set found
        in ap (λ (o : Option Set). table_row owner table cvd (number_in o) vids) found
        ∙ (λ i. table_row owner table (sym (named_is w cvd the_set named_so) i) (has.number i) vids)

    taken_so : (n : Next) → IsNextIn stage_schema the_change the_stage n → IsTakenIn w owner cvd vids table n
    taken_so (next.Refused refusal) is = λ s same.
        goes_so s
        ∙ ap (λ (user : List ℕ). unless s (if_so (is_some (table_in (last_rows the_stage) user table)) (no.TableStaged (table_named user table))) (staged w s table vids the_set the_stage)) same
        ∙ ap (λ (o : Option Refusal). unless s o (staged w s table vids the_set the_stage)) (rows_off (Some refusal) is)
    taken_so (next.Rows rows) is = (
      the_set,
      named_so,
      (λ s same.
          goes_so s
          ∙ ap (λ (user : List ℕ). unless s (if_so (is_some (table_in (last_rows the_stage) user table)) (no.TableStaged (table_named user table))) (staged w s table vids the_set the_stage)) same
          ∙ ap (λ (o : Option Refusal). unless s o (staged w s table vids the_set the_stage)) (rows_off None is.0)
          ∙ (λ i. changes w s (with_staged s table vids the_set) stage_name stage_schema
          (with_row (last_rows the_stage) (table_row (same i) table the_set.cvd.name the_set.cvd.number vids))
          (says.ToFile the_set.cvd.name (length (merge_of the_set.cvd vids)) (file_of_table (same i) table)) the_stage)
          ∙ ap (λ (made : List Row). changes w s (with_staged s table vids the_set) stage_name stage_schema made
          (says.ToFile the_set.cvd.name (length (merge_of the_set.cvd vids)) (file_of_table owner table)) the_stage)
          (ap (with_row (last_rows the_stage)) (sym row_is) ∙ sym is.1)),
    )

  pub taken_in : stage_off held.numbers cvd vids table ≡ None → (r : Result Next StagingErr) → MatchResult r (IsNextIn stage_schema the_change the_stage) IsNoDamage
      → MatchResult r (IsTakenIn w owner cvd vids table) IsNoDamage
  taken_in none (Ok n) is =
      let there = listed_there (second_none (unfit_off vids table (set_in held.numbers stage_name)) (refused cvd (scan_off held.numbers cvd vids)) none)
      in taken_so none there.0 there.1 n is
  taken_in none (Err e) is = is
