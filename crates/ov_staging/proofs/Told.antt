-- What is found, decided and told, by the numbers and in a World.
use Rattle.std.proofs.Common.{◌≡◌, ◌∙◌, inl, inr, ℕ, Bool, true, false, List, refl, sym, ap, subst}
use Rattle.std.specs.Prelude.{Some, None, Option, Ok, Err, Result, IfErr, IfOk, MatchResult, not, ◌&&◌}
use Rattle.std.specs.Option.{option_or}
use Rattle.std.proofs.lemmas.Option.{same_Some}
use Rattle.ov_host.specs.Host.{State}
use Rattle.ov_model.specs.Act.{if_so}
use Rattle.ov_model.specs.Book.{Row}
use Rattle.ov_model.specs.Deed.{config_refusal}
use Rattle.ov_model.specs.Registry.{is_foreign, is_user, last_rows, stage_schema, users_schema}
use Rattle.ov_model.specs.World.{Dataset}
use Rattle.ov_model.specs.declared.refusal.Refusal.{Refusal}
use Rattle.ov_model.specs.declared.refusal.Refusal.TheVariants as no
use Rattle.ov_model.specs.declared.reply.Reply.{Reply}
use Rattle.ov_model.specs.declared.reply.Reply.TheVariants as says
use Rattle.ov_registry.specs.Last.{AreLast, is_foreign_in}
use Rattle.ov_store.specs.Committing.{Set}
use Rattle.ov_value.specs.Naming.{is_name}
use Rattle.ov_value.specs.Shapes.{Shape}
use Rattle.ov_staging.specs.Changing.{Change, IsNextBy, IsNextIn}
use Rattle.ov_staging.specs.Deciding.{IsDecided}
use Rattle.ov_staging.specs.Errors.{IsNoDamage}
use Rattle.ov_staging.specs.Reading.{IfRows, IsFoundIn, answer_or, foreign_off, is_foreign_found}
use Rattle.ov_staging.specs.Tables.{AreShownBy, tables_reply}
use Rattle.ov_staging.specs.Users.{IsConfigured, IsConfiguredBy, config_reply, create_off}
use Rattle.ov_staging.specs.declared.changing.Next.{Next}
use Rattle.ov_staging.specs.declared.changing.Next.TheVariants as next
use Rattle.ov_staging.specs.declared.errors.StagingErr.{StagingErr}
use Rattle.ov_staging.specs.declared.errors.StagingErr.TheVariants as ending
use Rattle.ov_staging.specs.declared.reading.Found.{Found}
use Rattle.ov_staging.specs.declared.reading.Found.TheVariants as found

-- ---- a registry that is foreign

foreign_so : (t : Bool) (refusal : Refusal) → if_so t no.ForeignRegistry ≡ Some refusal → (t ≡ true) × (refusal ≡ no.ForeignRegistry)
foreign_so true refusal is = (refl, sym (same_Some no.ForeignRegistry refusal is))
foreign_so false refusal is = absurd cc

pub own_so : (t : Bool) → if_so t no.ForeignRegistry ≡ None → t ≡ false
own_so true is = cc
own_so false is = refl

pub first_none : (a b : Option Refusal) → option_or a b ≡ None → a ≡ None
first_none None b is = refl
first_none (Some refusal) b is = is

foreign_next : (change : Change) (f : Found) (n : Next) → IsDecided change f n → is_foreign_found f ≡ true → n ≡ next.Refused no.ForeignRegistry
foreign_next change found.Foreign n is foreign = is
foreign_next change (found.Rows rows) n is foreign = absurd cc

pub foreign_is : (schema : Shape) (set : Option Set) (refusal : Refusal) → foreign_off schema set ≡ Some refusal → is_foreign_in schema set ≡ true
foreign_is schema set refusal is = (foreign_so (is_foreign_in schema set) refusal is).0

pub next_refused : (schema : Shape) (change : Change) (set : Option Set) (f : Found) (n : Next) (refusal : Refusal) → IsDecided change f n
    → is_foreign_found f ≡ is_foreign_in schema set → foreign_off schema set ≡ Some refusal → n ≡ next.Refused refusal
next_refused schema change set f n refusal decided own is =
    let so = foreign_so (is_foreign_in schema set) refusal is
    in foreign_next change f n decided (own ∙ so.0) ∙ ap next.Refused (sym so.1)

-- ---- what comes next

module _ (schema : Shape) (change : Change) where
  pub next_by : (set : Option Set) (s : State) (f : Found) (n : Next) → IsDecided change f n → is_foreign_found f ≡ is_foreign_in schema set → IfRows (AreLast set s) f
      → IsNextBy schema change set s n
  next_by set s found.Foreign n is own are =
      subst (IsNextBy schema change set s) (sym is) (inl (ap (λ (t : Bool). if_so t no.ForeignRegistry) (sym own)))
  next_by set s (found.Rows last) (next.Refused refusal) is own are = inr (ap (λ (t : Bool). if_so t no.ForeignRegistry) (sym own), last.items, are, is)
  next_by set s (found.Rows last) (next.Rows rows) is own are = (ap (λ (t : Bool). if_so t no.ForeignRegistry) (sym own), last.items, are, is.0, is.1)

  off_by : (d : Option Dataset) (rows : List Row) → is_foreign schema d ≡ false → rows ≡ last_rows d
      → option_or (if_so (is_foreign schema d) no.ForeignRegistry) (change.off (last_rows d)) ≡ change.off rows
  off_by d rows own are =
      ap (λ (t : Bool). option_or (if_so t no.ForeignRegistry) (change.off (last_rows d))) own ∙ ap (λ (l : List Row). change.off l) (sym are)

  pub next_in : (d : Option Dataset) (f : Found) (n : Next) → IsDecided change f n → IsFoundIn schema d f → IsNextIn schema change d n
  next_in d found.Foreign n is foreign =
      subst (IsNextIn schema change d) (sym is) (ap (λ (t : Bool). option_or (if_so t no.ForeignRegistry) (change.off (last_rows d))) foreign)
  next_in d (found.Rows last) (next.Refused refusal) is in_ = off_by d last.items in_.0 in_.1 ∙ is
  next_in d (found.Rows last) (next.Rows rows) is in_ = (off_by d last.items in_.0 in_.1 ∙ is.0, is.1 ∙ ap (λ (l : List Row). change.rows l) in_.1)

-- ---- a config

module _ (name : List ℕ) (d : Option Dataset) where
  abbrev told : Bool → Bool → Reply
  told foreign named =
      answer_or (option_or (if_so foreign no.ForeignRegistry) (if_so (not (named && is_user (last_rows d) name)) (no.NoUser name))) (says.User name)

  pub foreign_told : is_foreign users_schema d ≡ true → says.Refused no.ForeignRegistry ≡ answer_or (config_refusal name d) (says.User name)
  foreign_told foreign = ap (λ (t : Bool). told t (is_name name)) (sym foreign)

  pub unnamed_told : is_foreign users_schema d ≡ false → is_name name ≡ false → says.Refused (no.NoUser name) ≡ answer_or (config_refusal name d) (says.User name)
  unnamed_told own bad = ap (λ (t : Bool). told false t) (sym bad) ∙ ap (λ (t : Bool). told t (is_name name)) (sym own)

  pub configured_told : (f : Found) (reply : Reply) → is_name name ≡ true → IsConfiguredBy name f reply → IsFoundIn users_schema d f
      → reply ≡ answer_or (config_refusal name d) (says.User name)
  configured_told found.Foreign reply named is foreign = is ∙ foreign_told foreign
  configured_told (found.Rows rows) reply named is in_ =
      is
      ∙ ap (config_reply name) in_.1
      ∙ ap (λ (t : Bool). told false t) (sym named)
      ∙ ap (λ (t : Bool). told t (is_name name)) (sym in_.0)

pub configured_by : (name : List ℕ) (set : Option Set) (s : State) (f : Found) (reply : Reply) → is_name name ≡ true → IsConfiguredBy name f reply
    → is_foreign_found f ≡ is_foreign_in users_schema set → IfRows (AreLast set s) f → IsConfigured name set s reply
configured_by name set s found.Foreign reply named is own are =
    inl (no.ForeignRegistry, ap (λ (t : Bool). option_or (if_so t no.ForeignRegistry) (if_so (not (is_name name)) (no.NoUser name))) (sym own), is)
configured_by name set s (found.Rows rows) reply named is own are = inr (
  ap (λ (t : Bool). option_or (if_so t no.ForeignRegistry) (if_so (not (is_name name)) (no.NoUser name))) (sym own)
      ∙ ap (λ (t : Bool). if_so (not t) (no.NoUser name)) named,
  rows.items,
  are,
  is,
)

pub match_of : (P : Reply → Type 0) (r : Result Reply StagingErr) → IfOk r P → IfErr r (λ e. e ≡ ending.Memory) → MatchResult r P IsNoDamage
match_of P (Ok reply) is memory = is
match_of P (Err e) is memory = subst IsNoDamage (sym memory) tt

-- ---- of a name

pub named_off : (name : List ℕ) (set : Option Set) → is_name name ≡ true → create_off name set ≡ foreign_off users_schema set
named_off name set named = ap (λ (t : Bool). option_or (if_so (not t) (no.BadName name)) (foreign_off users_schema set)) named

pub unnamed_off : (name : List ℕ) (set : Option Set) → is_name name ≡ false → create_off name set ≡ Some (no.BadName name)
unnamed_off name set bad = ap (λ (t : Bool). option_or (if_so (not t) (no.BadName name)) (foreign_off users_schema set)) bad

-- ---- the tables

pub shown_told : (user : List ℕ) (d : Option Dataset) (f : Found) (reply : Reply) → AreShownBy user f reply → IsFoundIn stage_schema d f
    → reply ≡ answer_or (if_so (is_foreign stage_schema d) no.ForeignRegistry) (tables_reply user (last_rows d))
shown_told user d found.Foreign reply is foreign =
    is ∙ ap (λ (t : Bool). answer_or (if_so t no.ForeignRegistry) (tables_reply user (last_rows d))) (sym foreign)
shown_told user d (found.Rows rows) reply is in_ =
    is
    ∙ ap (tables_reply user) in_.1
    ∙ ap (λ (t : Bool). answer_or (if_so t no.ForeignRegistry) (tables_reply user (last_rows d))) (sym in_.0)
