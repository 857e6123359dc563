-- The table of a dataset, as it was read, and why it isn't.
use Rattle.std.proofs.Common.{◌≡◌, ◌∙◌, ℕ, true, List, map, refl, sym, ap, subst}
use Rattle.std.specs.Prelude.{Option, Some, None, is_some}
use Rattle.std.specs.List.{AllZip}
use Rattle.ov_host.specs.Host.{State}
use Rattle.ov_budget.specs.Choices as choices
use Rattle.ov_budget.specs.declared.thresholds.Line.{Line}
use Rattle.ov_fetch.specs.Extents.{Looked, page_bytes}
use Rattle.ov_fetch.proofs.Looks.{same_pages}
use Rattle.ov_model.specs.Budget as model
use Rattle.ov_model.specs.World.{Dataset, World, set_named}
use Rattle.ov_model.specs.declared.refusal.Refusal.{Refusal}
use Rattle.ov_model.specs.declared.refusal.Refusal.TheVariants as no
use Rattle.ov_model.specs.declared.reply.BudgetLine.{BudgetLine}
use Rattle.ov_optimize.specs.Damages.{IsListDamage}
use Rattle.ov_optimize.specs.Reading.{IsListAt, all_vids}
use Rattle.law_budget.specs.Told.{told, told_best}
use Rattle.law_budget.proofs.Same.{best_is, least_is}
use Rattle.std.specs.Option.{option_map}
use Rattle.ov_store.specs.Committing.{Set}
use Rattle.ov_store.specs.Scanning.{IsUndamaged}
use Rattle.ov_store.specs.Thresholds.{AreListsOf, IsUnlisted}
use Rattle.ov_store.specs.declared.errors.StoreErr.{StoreErr}
use Rattle.ov_store.specs.declared.errors.StoreErr.TheVariants as lists
use Rattle.ov_store.proofs.Unhurt.{lists_whole}
use Rattle.ov_choose.specs.Choices.{AreLines, IsUnpicked, IsUnread, there_off}
use Rattle.ov_choose.specs.Errors.{of_lists}
use Rattle.ov_choose.specs.Worlds.{IsRefusedTo, IsWhole, best_of, least_in, over_budget}
use Rattle.ov_choose.specs.declared.errors.ChooseErr.{ChooseErr}
use Rattle.ov_choose.specs.declared.errors.ChooseErr.TheVariants as why

inside : (x y : ChooseErr) → Some x ≡ Some y → x ≡ y
inside x y e = ap (λ o. elim o as (λ _. ChooseErr) [ None ↦ x | Some z ↦ z ]) e

-- ---- why lists aren't read

pub is_of_lists : (o : Option Set) (s t : State) (off : StoreErr) → IsUnlisted o s t off → is_some (of_lists off) ≡ true
is_of_lists o s t lists.Host is = refl
is_of_lists o s t lists.Memory is = refl
is_of_lists o s t (lists.Damaged area at) is = refl
is_of_lists o s t lists.NoCvd is = refl
is_of_lists o s t _ is = absurd is

pub unread_by : (o : Option Set) (s t : State) (off : StoreErr) (e : ChooseErr) → IsUnlisted o s t off → of_lists off ≡ Some e → IsUnread o s t e
unread_by o s t lists.Host e is same = subst (IsUnread o s t) (inside why.Host e same) is
unread_by o s t lists.Memory e is same = subst (IsUnread o s t) (inside why.Memory e same) is
unread_by o s t (lists.Damaged area at) e is same = subst (IsUnread o s t) (inside (why.Damaged area at) e same) is
unread_by o s t lists.NoCvd e is same = subst (IsUnread o s t) (inside why.NoCvd e same) is
unread_by o s t _ e is same = absurd is

pub whole_by : (off : StoreErr) (e : ChooseErr) → IsUndamaged off → of_lists off ≡ Some e → IsWhole e
whole_by lists.Host e is same = subst IsWhole (inside why.Host e same) tt
whole_by lists.Memory e is same = subst IsWhole (inside why.Memory e same) tt
whole_by (lists.Damaged area at) e is same = absurd is
whole_by lists.NoCvd e is same = subst IsWhole (inside why.NoCvd e same) tt
whole_by _ e is same = absurd cc

pub unread_unpicked : (o : Option Set) (budget : ℕ) (s t : State) (e : ChooseErr) → IsUnread o s t e → IsUnpicked (there_off o) o budget s t e
unread_unpicked o budget s t why.Host is = is
unread_unpicked o budget s t why.Memory is = is
unread_unpicked None budget s t (why.Damaged area at) is = absurd is.1
unread_unpicked (Some set) budget s t (why.Damaged area at) is = (is.0, refl, is.1)
unread_unpicked o budget s t why.NoCvd is = (ap there_off is.0, is.1)
unread_unpicked o budget s t why.JournalFull is = absurd is
unread_unpicked o budget s t why.BadThreshold is = absurd is
unread_unpicked o budget s t why.Migrating is = absurd is
unread_unpicked o budget s t (why.NoThreshold least) is = absurd is
unread_unpicked o budget s t why.NoNumbers is = absurd is

-- a dataset that is there, of which nothing is damaged
pub unread_spared : (o : Option Set) (s t : State) (name : List ℕ) (budget : ℕ) (off : Option Refusal) (e : ChooseErr) → (o ≡ None → ⊥) → IsUnread o s t e → IsWhole e
    → IsRefusedTo name budget off e
unread_spared o s t name budget off why.Host there is whole = tt
unread_spared o s t name budget off why.Memory there is whole = tt
unread_spared o s t name budget off (why.Damaged area at) there is whole = absurd whole
unread_spared o s t name budget off why.NoCvd there is whole = absurd (there is.0)
unread_spared o s t name budget off why.JournalFull there is whole = absurd is
unread_spared o s t name budget off why.BadThreshold there is whole = absurd is
unread_spared o s t name budget off why.Migrating there is whole = absurd is
unread_spared o s t name budget off (why.NoThreshold least) there is whole = absurd is
unread_spared o s t name budget off why.NoNumbers there is whole = absurd is

pub named_there : (w : World) (d : Dataset) (name : List ℕ) → set_named w name ≡ Some d → set_named w name ≡ None → ⊥
named_there w d name named none = let clash : Some d ≡ None = sym named ∙ none in cc

-- ---- lists that were read

-- they stand so on a host that was only looked at
pub lists_after : (set : Set) (s t : State) (ls : List (List ℕ)) → Looked s t → AreListsOf set s ls → AreListsOf set t ls
lists_after set s t ls looked are = record {
  are = are.are;
  read = λ told.
      let before : s.tells ≡ true = sym looked.told ∙ told
      in subst (λ area. AllZip (IsListAt area set) (all_vids set) ls) (sym (same_pages s t looked before)) (are.read before);
}

pub lines_whole : (set : Set) (t : State) (lines : List Line) → t.tells ≡ true → AreLines set t lines → (page : ℕ) → IsListDamage (page_bytes t) set page → ⊥
lines_whole set t lines told are page = lists_whole (page_bytes t) set are.lists (are.is.listed.read told) page

-- ---- what the World's table gives

chosen_from : (budget : ℕ) (shown : List BudgetLine) (lines : List Line) → map told lines ≡ shown → model.choice budget shown ≡ option_map told_best (choices.choice budget lines)
chosen_from budget shown lines same = ap (model.choice budget) (sym same) ∙ best_is budget 1 lines

least_from : (shown : List BudgetLine) (lines : List Line) → map told lines ≡ shown → model.least_of shown ≡ choices.least_of lines
least_from shown lines same = ap model.least_of (sym same) ∙ least_is lines

pub best_shown : (budget : ℕ) (d : Dataset) (lines : List Line) → map told lines ≡ model.table d → best_of budget d ≡ option_map told_best (choices.choice budget lines)
unfolding best_of
best_shown budget d lines same = chosen_from budget (model.table d) lines same

pub least_shown : (d : Dataset) (lines : List Line) → map told lines ≡ model.table d → least_in d ≡ choices.least_of lines
unfolding least_in
least_shown d lines same = least_from (model.table d) lines same

pub best_is_choice : (budget : ℕ) (d : Dataset) → best_of budget d ≡ model.choice budget (model.table d)
unfolding best_of
best_is_choice budget d = refl

pub least_is_least : (d : Dataset) → least_in d ≡ model.least_of (model.table d)
unfolding least_in
least_is_least d = refl

-- no line is within the budget
pub over_shown : (budget : ℕ) (d : Dataset) (lines : List Line) (least : ℕ) → map told lines ≡ model.table d → choices.choice budget lines ≡ None → least ≡ choices.least_of lines
    → over_budget budget d (best_of budget d) ≡ Some (no.NoThreshold budget least)
over_shown budget d lines least same none is =
    ap (over_budget budget d) (best_shown budget d lines same ∙ ap (option_map told_best) none)
    ∙ ap (λ n. Some (no.NoThreshold budget n)) (least_shown d lines same ∙ sym is)
