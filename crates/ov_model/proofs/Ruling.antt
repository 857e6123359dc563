-- The first rule that denies, a schema that is another, and a change that is one move.
use Rattle.std.proofs.Common.{◌≡◌, ◌≤◌, ℕ, zero, suc, ◌+◌, Bool, true, false, List, [], ◌∷◌, refl, sym, ◌∙◌, ap, inl, inr, arith, subst}
use Rattle.std.specs.Prelude.{◌↔◌, Option, Some, None, not, ◌&&◌, nat_eq, if◌then◌else◌}
use Rattle.std.specs.Bool.{Decides}
use Rattle.std.specs.Cmp.{unsigned_Decides}
use Rattle.std.specs.Cmp.Lexicographic.{pointwise}
use Rattle.std.specs.Str.{bytes_eq}
use Rattle.std.proofs.lemmas.Slice.Eq.{bytes_eq-Decides, slice_eq-Decides}
use Rattle.ov_value.specs.declared.column.Column.{Column}
use Rattle.ov_value.specs.declared.column.Kind.{Kind}
use Rattle.ov_value.specs.declared.column.Kind.TheVariants as kind
use Rattle.ov_value.specs.Shapes.{Shape}
use Rattle.ov_model.specs.Act.{Session, Deed, does, unless}
use Rattle.ov_model.specs.Book.{Row}
use Rattle.ov_model.specs.Deed.{ChangesOnce, IsOneMore, IsStagedMore, changes, create_refusal, deed, stage_of, stage_refusal, staged_refusal, with_staged, unstage_refusal}
use Rattle.ov_model.specs.Kinds.{is_same_kind}
use Rattle.ov_model.specs.Registry.{is_same_column, is_same_schema, is_foreign, change_of, change_refusal, last_rows, stage_name, stage_schema, table_row, user_row, users_name, users_schema, with_row, without_row, version_rows}
use Rattle.ov_model.specs.Users.{Rule, rules, denied_from, permit, IsLeast, AreSilent}
use Rattle.ov_model.specs.World.{Dataset, World, set_named}
use Rattle.ov_model.specs.declared.command.Command.{Command}
use Rattle.ov_model.specs.declared.command.Command.TheVariants as asks
use Rattle.ov_model.specs.declared.refusal.Refusal.{Refusal}
use Rattle.ov_model.specs.declared.refusal.Refusal.TheVariants as no
use Rattle.ov_model.specs.declared.reply.Reply.{Reply}

-- ---- the first rule that denies

the-number : (a b : ℕ) → Some (no.Denied a) ≡ Some (no.Denied b) → a ≡ b
the-number a b e = cc

at-least-if : (t : Bool) (first n : ℕ) (later : Option Refusal) → (later ≡ Some (no.Denied n) → first + 1 ≤ n)
    → (if t then Some (no.Denied first) else later) ≡ Some (no.Denied n) → first ≤ n
at-least-if true first n later more e = omega (arith, the-number first n e)
at-least-if false first n later more e = omega (arith, more e)

-- no rule is denied under a number before the first one's
at-least : (rules : List Rule) (first n : ℕ) (user : List ℕ) (command : Command) → denied_from first rules user command ≡ Some (no.Denied n) → first ≤ n
at-least [] first n user command e = cc
at-least (rule ∷ later) first n user command e =
    at-least-if (rule user command) first n (denied_from (first + 1) later user command) (at-least later (first + 1) n user command) e

abbrev Least : ℕ → ℕ → List Rule → List ℕ → Command → Type 0
Least before nth rules user command = (denied_from (before + 1) rules user command ≡ Some (no.Denied (before + nth))) ↔ IsLeast rules nth user command

first-by : (t : Bool) (before : ℕ) (later : Option Refusal) → (later ≡ Some (no.Denied (before + 1)) → before + 1 + 1 ≤ before + 1)
    → ((if t then Some (no.Denied (before + 1)) else later) ≡ Some (no.Denied (before + 1))) ↔ (t ≡ true)
first-by true before later more = (λ e. refl, λ e. refl)
first-by false before later more = (λ e. absurd (omega (arith, more e)), λ e. absurd cc)

later-by : (t : Bool) (before nth : ℕ) (later : Option Refusal) (more : Type 0) → (later ≡ Some (no.Denied (before + 1 + suc nth))) ↔ more
    → ((if t then Some (no.Denied (before + 1)) else later) ≡ Some (no.Denied (before + suc (suc nth)))) ↔ ((t ≡ false) × more)
later-by true before nth later more same = (λ e. absurd (omega (arith, the-number (before + 1) (before + suc (suc nth)) e)), λ e. absurd cc)
later-by false before nth later more same =
    let number : before + suc (suc nth) ≡ before + 1 + suc nth = omega arith
    in (λ e. (refl, same.0 (e ∙ ap (λ n. Some (no.Denied n)) number)), λ e. same.1 e.1 ∙ ap (λ n. Some (no.Denied n)) (sym number))

least-from : (before nth : ℕ) (rules : List Rule) (user : List ℕ) (command : Command) → Least before nth rules user command
least-from before nth [] user command = (λ e. cc, λ e. absurd e)
least-from before zero (rule ∷ later) user command =
    (λ e. absurd (omega (arith, at-least (rule ∷ later) (before + 1) (before + zero) user command e)), λ e. absurd e)
least-from before (suc zero) (rule ∷ later) user command =
    first-by (rule user command) before (denied_from (before + 1 + 1) later user command) (at-least later (before + 1 + 1) (before + 1) user command)
least-from before (suc (suc nth)) (rule ∷ later) user command =
    later-by (rule user command) before nth (denied_from (before + 1 + 1) later user command) (IsLeast later (suc nth) user command)
    (least-from (before + 1) (suc nth) later user command)

pub least-denies : (user : List ℕ) (command : Command) (nth : ℕ) → (permit user command ≡ Some (no.Denied nth)) ↔ IsLeast rules nth user command
least-denies user command nth =
    let same : 0 + nth ≡ nth = omega arith
    in subst (λ (n : ℕ). (permit user command ≡ Some (no.Denied n)) ↔ IsLeast rules nth user command) same (least-from 0 nth rules user command)

silent-by : (t : Bool) (first : ℕ) (later : Option Refusal) (more : Type 0) → (later ≡ None) ↔ more
    → ((if t then Some (no.Denied first) else later) ≡ None) ↔ ((t ≡ false) × more)
silent-by true first later more same = (λ e. absurd cc, λ e. absurd cc)
silent-by false first later more same = (λ e. (refl, same.0 e), λ e. same.1 e.1)

silent-from : (first : ℕ) (rules : List Rule) (user : List ℕ) (command : Command) → (denied_from first rules user command ≡ None) ↔ AreSilent rules user command
silent-from first [] user command = (λ e. tt, λ e. refl)
silent-from first (rule ∷ later) user command =
    silent-by (rule user command) first (denied_from (first + 1) later user command) (AreSilent later user command) (silent-from (first + 1) later user command)

pub silent-permits : (user : List ℕ) (command : Command) → (permit user command ≡ None) ↔ AreSilent rules user command
silent-permits user command = silent-from 1 rules user command

alone-by : (t : Bool) (first : ℕ) (later : Option Refusal) (refusal : Refusal) → (later ≡ Some refusal → (nth : ℕ) × (refusal ≡ no.Denied nth))
    → (if t then Some (no.Denied first) else later) ≡ Some refusal → (nth : ℕ) × (refusal ≡ no.Denied nth)
alone-by true first later refusal more e = (first, cc)
alone-by false first later refusal more e = more e

denial-from : (first : ℕ) (rules : List Rule) (user : List ℕ) (command : Command) (refusal : Refusal) → denied_from first rules user command ≡ Some refusal → (nth : ℕ) × (refusal ≡ no.Denied nth)
denial-from first [] user command refusal e = absurd cc
denial-from first (rule ∷ later) user command refusal e =
    alone-by (rule user command) first (denied_from (first + 1) later user command) refusal (denial-from (first + 1) later user command refusal) e

pub denial-alone : (user : List ℕ) (command : Command) (refusal : Refusal) → permit user command ≡ Some refusal → (nth : ℕ) × (refusal ≡ no.Denied nth)
denial-alone user command refusal = denial-from 1 rules user command refusal

-- ---- another schema

kind-decides : (a b : Kind) → Decides (is_same_kind a b) (a ≡ b)
kind-decides kind.Int kind.Int = (λ e. refl, λ e. refl)
kind-decides kind.Text kind.Text = (λ e. refl, λ e. refl)
kind-decides kind.Flag kind.Flag = (λ e. refl, λ e. refl)
kind-decides kind.Int kind.Text = (λ e. absurd cc, λ e. absurd cc)
kind-decides kind.Int kind.Flag = (λ e. absurd cc, λ e. absurd cc)
kind-decides kind.Text kind.Int = (λ e. absurd cc, λ e. absurd cc)
kind-decides kind.Text kind.Flag = (λ e. absurd cc, λ e. absurd cc)
kind-decides kind.Flag kind.Int = (λ e. absurd cc, λ e. absurd cc)
kind-decides kind.Flag kind.Text = (λ e. absurd cc, λ e. absurd cc)

both-decide : {P Q R : Type 0} (s t : Bool) → Decides s P → Decides t Q → (P → Q → R) → (R → P) → (R → Q) → Decides (s && t) R
both-decide true t p q make left right = (λ e. make (p.0 refl) (q.0 e), λ r. q.1 (right r))
both-decide false t p q make left right = (λ e. absurd cc, λ r. p.1 (left r))

column-decides : (a b : Column) → Decides (is_same_column a b) (a ≡ b)
column-decides a b =
    both-decide (bytes_eq a.name b.name) (is_same_kind a.kind b.kind) (bytes_eq-Decides a.name b.name) (kind-decides a.kind b.kind)
    (λ name of i. record { name = name i; kind = of i }) (ap (λ c. c.name)) (ap (λ c. c.kind))

pub schema-decides : (a b : Shape) → Decides (is_same_schema a b) (a ≡ b)
schema-decides a b =
    both-decide (pointwise is_same_column a.columns b.columns) (pointwise nat_eq a.key b.key)
    (slice_eq-Decides column-decides a.columns b.columns (pointwise is_same_column a.columns b.columns) refl)
    (slice_eq-Decides unsigned_Decides a.key b.key (pointwise nat_eq a.key b.key) refl)
    (λ columns key i. record { columns = columns i; key = key i }) (ap (λ s. s.columns)) (ap (λ s. s.key))

a-false : false ≡ true → ⊥
a-false e = cc

not-decides : {P : Type 0} (t : Bool) → Decides t P → (not t ≡ false) ↔ P
not-decides true d = (λ e. d.0 refl, λ p. refl)
not-decides false d = (λ e. absurd cc, λ p. absurd (a-false (d.1 p)))

pub foreign-is : (schema : Shape) (d : Dataset) → (is_foreign schema (Some d) ≡ false) ↔ (d.cvd.schema ≡ schema)
foreign-is schema d = not-decides (is_same_schema d.cvd.schema schema) (schema-decides d.cvd.schema schema)

-- ---- one move

once-unless : (s : Session) (name : List ℕ) (schema : Shape) (before : Option Dataset) (P : List Row → Type 0) (refusal : Option Refusal) (d : Deed) → ChangesOnce s name schema before P d → ChangesOnce s name schema before P (unless s refusal d)
once-unless s name schema before P None d once = once
once-unless s name schema before P (Some refusal) d once = inl (refusal, refl)

once-changes : (w : World) (s t : Session) (name : List ℕ) (schema : Shape) (before : Option Dataset) (P : List Row → Type 0) (rows : List Row) (reply : Reply) → P rows → ChangesOnce s name schema before P (changes w s t name schema rows reply before)
once-changes w s t name schema before P rows reply is =
    once-unless s name schema before P (change_refusal w name (version_rows schema rows) before) (does t (change_of name schema (version_rows schema rows) before) reply) (inr (rows, is, refl))

pub create-once : (w : World) (s : Session) (name : List ℕ) → ChangesOnce s users_name users_schema (set_named w users_name) (IsOneMore (set_named w users_name) (user_row name)) (deed w s (asks.CreateUser name))
create-once w s name =
    let before : Option Dataset = set_named w users_name
    in let P : List Row → Type 0 = IsOneMore before (user_row name)
    in once-unless s users_name users_schema before P (permit s.user (asks.CreateUser name)) _
    (once-unless s users_name users_schema before P (create_refusal name before) _
    (once-changes w s s users_name users_schema before P (with_row (last_rows before) (user_row name)) _ refl))

stage-once-of : (w : World) (s : Session) (cvd table vids : List ℕ) (before d : Option Dataset) → set_named w cvd ≡ d
    → ChangesOnce s stage_name stage_schema before (IsStagedMore w s cvd table vids before) (stage_of w s cvd table vids before d)
stage-once-of w s cvd table vids before None found = inl (no.NoCvd cvd, refl)
stage-once-of w s cvd table vids before (Some d) found =
    once-unless s stage_name stage_schema before (IsStagedMore w s cvd table vids before) (staged_refusal s table vids d before) _
    (once-changes w s (with_staged s table vids d) stage_name stage_schema before (IsStagedMore w s cvd table vids before)
    (with_row (last_rows before) (table_row s.user table d.cvd.name d.cvd.number vids)) _ (d, found, refl))

pub stage-once : (w : World) (s : Session) (cvd vids table : List ℕ) (file : Option (List ℕ))
    → ChangesOnce s stage_name stage_schema (set_named w stage_name) (IsStagedMore w s cvd table vids (set_named w stage_name)) (deed w s (asks.Checkout cvd vids file (Some table)))
stage-once w s cvd vids table file =
    let before : Option Dataset = set_named w stage_name
    in let P : List Row → Type 0 = IsStagedMore w s cvd table vids before
    in once-unless s stage_name stage_schema before P (permit s.user (asks.Checkout cvd vids file (Some table))) _
    (once-unless s stage_name stage_schema before P (stage_refusal table vids before) _ (stage-once-of w s cvd table vids before (set_named w cvd) refl))

pub unstage-once : (w : World) (s : Session) (user table : List ℕ) → ChangesOnce s stage_name stage_schema (set_named w stage_name) (λ rows. rows ≡ without_row (last_rows (set_named w stage_name)) user table) (deed w s (asks.Unstage user table))
unstage-once w s user table =
    let before : Option Dataset = set_named w stage_name
    in let P : List Row → Type 0 = λ rows. rows ≡ without_row (last_rows before) user table
    in once-unless s stage_name stage_schema before P (permit s.user (asks.Unstage user table)) _
    (once-unless s stage_name stage_schema before P (unstage_refusal user table before) _
    (once-changes w s s stage_name stage_schema before P (without_row (last_rows before) user table) _ refl))
