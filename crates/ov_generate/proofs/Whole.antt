-- A whole dataset, move by move: done, refused, or broken off.
use Rattle.std.proofs.Common.{◌≡◌, ◌≤◌, ◌+◌, ◌-◌, ℕ, suc, Bool, true, false, List, [], ◌∷◌, ◌++◌, length, map, refl, sym, ◌∙◌, ap, subst, arith, append-nil, length-append}
use Rattle.std.specs.Prelude.{Some, None}
use Rattle.std.specs.Option.{option_or}
use Rattle.std.specs.List.{sum_by}
use Rattle.std.proofs.lemmas.List.Sums.{sum_by-cons, sum_by_push, sum-map}
use Rattle.ov_host.specs.Host.{State}
use Rattle.ov_host.specs.declared.area.Extent.{Extent}
use Rattle.ov_catalog.specs.Numbers.{Numbers}
use Rattle.ov_core.specs.AtWorld.{IsAtWorld}
use Rattle.ov_core.specs.Held.{Held}
use Rattle.ov_fetch.specs.Extents.{Looked}
use Rattle.ov_gen.specs.Versions.{IsGrown}
use Rattle.ov_gen.proofs.Growing.{begin-few}
use Rattle.ov_model.specs.Act.{Deed, Session, generate_by, generated_reply, init_refusal, members_of, unless}
use Rattle.ov_model.specs.Book.{Row, Version}
use Rattle.ov_model.specs.Course.{Makes, world_after}
use Rattle.ov_model.specs.Generator.{commits, fresh_rows, generated, generated_schema}
use Rattle.ov_model.specs.Moves.{Init, Move, moved}
use Rattle.ov_model.specs.Records.{order_of}
use Rattle.ov_model.specs.Steps.{all_moved}
use Rattle.ov_model.specs.World.{World, set_named}
use Rattle.ov_model.specs.declared.refusal.Refusal.TheVariants as no
use Rattle.ov_model.specs.declared.reply.Reply.TheVariants as says
use Rattle.ov_store.specs.Kept.{Kept, Stays}
use Rattle.ov_store.specs.Refusals.{new_off, off_if, refusal_of}
use Rattle.ov_store.specs.declared.errors.StoreErr.{StoreErr}
use Rattle.ov_store.specs.declared.errors.StoreErr.TheVariants as why
use Rattle.law_runs.specs.Serving.{Does}
use Rattle.law_runs.proofs.Doing.{does_told}
use Rattle.law_moves.specs.Doing.{IsDoing, IsMoved}
use Rattle.law_moves.proofs.Doing.{breaks_here, breaks_next, does_all, does_full, does_no_run, doing_looked, doing_more, doing_none}
use Rattle.law_generated.specs.Grown.{Grown, HasGrown, begun, grown_more, move_next, rows_next}
use Rattle.law_generated.proofs.Steps.{has_begun, has_more}
use Rattle.ov_generate.specs.Making.{Ends, IsUnmoved}

-- ---- a move that isn't made

module _ (d : Deed) (s : Session) (w v : World) (m : Move) (left : List Move) (silent : d.counts_steps ≡ false) (name : List ℕ) (before : Held) (kept later : Kept) (old mid new : State)
    (is : IsDoing d w v (m ∷ left) before kept.held old mid) where
  -- the host was at most looked at
  still : later ≡ kept → Looked mid new → IsDoing d w v (m ∷ left) before kept.held old new
  still same looked = doing_looked d w v (m ∷ left) before kept.held old mid new is looked.told (looked.tape is.at.at.told)

  pub ends_by : (off : StoreErr) → IsUnmoved m v kept.held mid new off → Stays off kept later mid new → Ends name d s w before later.held old new off
  ends_by why.Host not_made stays = breaks_next d w v m left before kept.held old mid is s new not_made
  ends_by why.Memory not_made stays = breaks_here d w v m left before kept.held old new (still stays.0 stays.1) s
  ends_by (why.Full pages) not_made stays =
      subst (λ (k : Kept). Does d s s w (says.Refused (no.NoRun pages None)) before k.held old new) (sym stays.0)
      (does_no_run d w v m left before kept.held old new (still stays.0 stays.1) s pages silent not_made)
  ends_by why.JournalFull not_made stays =
      subst (λ (k : Kept). Does d s s w (says.Refused (no.JournalFull None)) before k.held old new) (sym stays.0)
      (does_full d w v m left before kept.held old new (still stays.0 stays.1) s silent not_made)
  ends_by (why.Damaged area at) not_made stays = absurd not_made
  ends_by why.NoCvd not_made stays = absurd not_made
  ends_by why.CvdExists not_made stays = absurd not_made
  ends_by (why.NoVersion vid) not_made stays = absurd not_made
  ends_by (why.RepeatedVersion vid) not_made stays = absurd not_made
  ends_by (why.DuplicateKey row) not_made stays = absurd not_made
  ends_by why.TooManyVersions not_made stays = absurd not_made
  ends_by why.TooManyRecords not_made stays = absurd not_made
  ends_by why.TooManyRows not_made stays = absurd not_made
  ends_by why.TooManyCvds not_made stays = absurd not_made
  ends_by why.NoNumbers not_made stays = absurd not_made
  ends_by (why.FormatOne row) not_made stays = absurd not_made

-- ---- it is refused by numbers

pub none_some : (off : StoreErr) → None ≡ Some off → ⊥
none_some off e = absurd cc

abbrev pub IsNew : StoreErr → Type 0
IsNew why.CvdExists = Unit {0}
IsNew why.TooManyCvds = Unit {0}
IsNew why.NoNumbers = Unit {0}
IsNew _ = ⊥

pub some_off : (x y : StoreErr) → Some x ≡ Some y → x ≡ y
some_off x y e = ap (λ o. elim o as (λ _. StoreErr) [ None ↦ x | Some z ↦ z ]) e

pub new_is : (n : Numbers Extent Extent) (name : List ℕ) (off : StoreErr) → new_off n name ≡ Some off → IsNew off
new_is n name off is = by _ _ _ is
  where
    by : (a b c : Bool) → option_or (off_if a why.CvdExists) (option_or (off_if b why.TooManyCvds) (off_if c why.NoNumbers)) ≡ Some off → IsNew off
    by true b c e = subst IsNew (some_off why.CvdExists off e) tt
    by false true c e = subst IsNew (some_off why.TooManyCvds off e) tt
    by false false true e = subst IsNew (some_off why.NoNumbers off e) tt
    by false false false e = absurd cc

pub refused_first : (w : World) (s : Session) (name : List ℕ) (deed : Deed) (off : StoreErr) (held : Held) (old : State) → IsAtWorld w held old → IsNew off
    → refusal_of name off ≡ init_refusal w name → Ends name (unless s (init_refusal w name) deed) s w held held old old off
refused_first w s name deed off held old at new is =
    subst (λ o. Ends name (unless s o deed) s w held held old old off) is (by off new)
  where
    by : (e : StoreErr) → IsNew e → Ends name (unless s (refusal_of name e) deed) s w held held old old e
    by why.CvdExists n = does_told _ s s w (says.Refused (no.CvdExists name)) held old old refl at refl refl
    by why.TooManyCvds n = does_told _ s s w (says.Refused no.TooManyCvds) held old old refl at refl refl
    by why.NoNumbers n = does_told _ s s w (says.Refused (no.NoNumbers name)) held old old refl at refl refl
    by why.Host n = absurd n
    by why.Memory n = absurd n
    by (why.Damaged area place) n = absurd n
    by (why.Full pages) n = absurd n
    by why.JournalFull n = absurd n
    by why.NoCvd n = absurd n
    by (why.NoVersion vid) n = absurd n
    by (why.RepeatedVersion vid) n = absurd n
    by (why.DuplicateKey row) n = absurd n
    by why.TooManyVersions n = absurd n
    by why.TooManyRecords n = absurd n
    by why.TooManyRows n = absurd n
    by (why.FormatOne row) n = absurd n

-- ---- a dataset that grows

abbrev pub the_deed : World → Session → List ℕ → ℕ → ℕ → ℕ → Deed
the_deed w s name seed count versions = generate_by w s name (generated w.next name seed count versions)

-- so many versions are left to be made; the next parent is drawn from `state`, and so many rows the versions have together
pub record IsGrowing (w : World) (s : Session) (name : List ℕ) (seed count versions left state members : ℕ) (before now : Held) (old new : State) : Type 0 where
  pub g : Grown
  pub v : World
  pub doing : IsDoing (the_deed w s name seed count versions) w v (commits left w.next count g.state g.done) before now old new
  pub has : HasGrown v name w.next count g
  pub versions_are : length g.done + left ≡ versions
  pub state_is : state ≡ g.state
  pub members_are : members ≡ sum_by (λ (rows : List Row). length rows) g.done

sum_last : (done : List (List Row)) (rows : List Row) → sum_by (λ (r : List Row). length r) (done ++ rows ∷ []) ≡ sum_by (λ (r : List Row). length r) done + length rows
sum_last done rows = sum_by_push (λ (r : List Row). length r) done rows

module _ (w : World) (s : Session) (name : List ℕ) (seed count versions : ℕ) (before : Held) (old : State) where
  -- after the first version
  pub growing_first : (now : Held) (new : State) (state members : ℕ) → IsAtWorld w before old → set_named w name ≡ None → 1 ≤ versions → state ≡ (fresh_rows count 1 seed).state
      → members ≡ length (fresh_rows count 1 seed).is → IsMoved (Init name generated_schema (fresh_rows count 1 seed).is) w before now old new
      → IsGrowing w s name seed count versions (versions - 1) state members before now old new
  growing_first now new state members at free some drawn counted step = record {
    g = begun seed count;
    v = moved (Init name generated_schema (fresh_rows count 1 seed).is) w;
    doing = doing_more (the_deed w s name seed count versions) w w (Init name generated_schema (fresh_rows count 1 seed).is)
        (commits (versions - 1) w.next count (fresh_rows count 1 seed).state ((fresh_rows count 1 seed).is ∷ [])) before before old old
        (doing_none (the_deed w s name seed count versions) w before old at) now new step;
    has = has_begun w name count seed free;
    versions_are = omega (arith, some);
    state_is = drawn;
    members_are = counted ∙ sym none_more ∙ sym (sum_by-cons (λ (r : List Row). length r) (fresh_rows count 1 seed).is []);
  }
    where
      none_more : length (fresh_rows count 1 seed).is + 0 ≡ length (fresh_rows count 1 seed).is
      none_more = omega arith

  -- the first one isn't made
  pub first_off : (kept later : Kept) (new : State) (off : StoreErr) → kept.held ≡ before → IsAtWorld w before old → init_refusal w name ≡ None
      → IsUnmoved (Init name generated_schema (fresh_rows count 1 seed).is) w kept.held old new off → Stays off kept later old new
      → Ends name (unless s (init_refusal w name) (the_deed w s name seed count versions)) s w before later.held old new off
  first_off kept later new off held at free not_made stays =
      let d : Deed = the_deed w s name seed count versions
      in subst (λ o. Ends name (unless s o d) s w before later.held old new off) (sym free)
      (ends_by d s w w (Init name generated_schema (fresh_rows count 1 seed).is)
      (commits (versions - 1) w.next count (fresh_rows count 1 seed).state ((fresh_rows count 1 seed).is ∷ [])) refl name before kept later old old new
      (subst (λ (h : Held). IsDoing d w w d.moves before h old old) (sym held) (doing_none d w before old at)) off not_made stays)

  module _ (left state members : ℕ) (now : Held) (mid : State) (is : IsGrowing w s name seed count versions (suc left) state members before now old mid) where
    pub growing_more : (later : Held) (new : State) (after_ more : ℕ) → IsMoved (move_next w.next count is.g) is.v now later mid new → after_ ≡ (grown_more count is.g).state
        → more ≡ members + length (rows_next count is.g).is → IsGrowing w s name seed count versions left after_ more before later old new
    growing_more later new after_ more step drawn counted = record {
      g = grown_more count is.g;
      v = moved (move_next w.next count is.g) is.v;
      doing = doing_more (the_deed w s name seed count versions) w is.v (move_next w.next count is.g)
          (commits left w.next count (grown_more count is.g).state (grown_more count is.g).done) before now old mid is.doing later new step;
      has = has_more is.v name w.next count is.g is.has;
      versions_are = omega (arith, is.versions_are, length-append is.g.done ((rows_next count is.g).is ∷ []));
      state_is = drawn;
      members_are = counted ∙ ap (λ n. n + length (rows_next count is.g).is) is.members_are ∙ sym (sum_last is.g.done (rows_next count is.g).is);
    }

    pub growing_off : (kept later : Kept) (new : State) (off : StoreErr) → kept.held ≡ now → IsUnmoved (move_next w.next count is.g) is.v kept.held mid new off → Stays off kept later mid new
        → Ends name (the_deed w s name seed count versions) s w before later.held old new off
    growing_off kept later new off held not_made stays =
        ends_by (the_deed w s name seed count versions) s w is.v (move_next w.next count is.g)
        (commits left w.next count (grown_more count is.g).state (grown_more count is.g).done) refl name before kept later old mid new
        (subst (λ (h : Held). IsDoing (the_deed w s name seed count versions) w is.v (commits (suc left) w.next count is.g.state is.g.done) before h old mid) (sym held) is.doing)
        off not_made stays

  -- ---- all versions are made

  all_moved_is : (moves : List Move) (u : World) → all_moved moves u ≡ world_after u (map Makes moves)
  all_moved_is [] u = refl
  all_moved_is (m ∷ moves) u = all_moved_is moves (moved m u)

  members_sum : (vs : List Version) → sum_by (λ (v : Version). length v.rows) vs ≡ sum_by (λ (r : List Row). length r) (map (λ (v : Version). v.rows) vs)
  members_sum [] = refl
  members_sum (v ∷ vs) =
      sum_by-cons (λ (x : Version). length x.rows) v vs ∙ ap (λ n. length v.rows + n) (members_sum vs)
      ∙ sym (sum_by-cons (λ (r : List Row). length r) v.rows (map (λ (x : Version). x.rows) vs))

  map_long : (vs : List Version) → length (map (λ (v : Version). v.rows) vs) ≡ length vs
  map_long [] = refl
  map_long (v ∷ vs) = ap suc (map_long vs)

  pub growing_done : (state members records : ℕ) (now : Held) (new : State) → (is : IsGrowing w s name seed count versions 0 state members before now old new)
      → records ≡ length (order_of is.has.set.cvd.versions)
      → Does (the_deed w s name seed count versions) s s w (says.Generate name versions records members) before now old new
  growing_done state members records now new is counted =
      let d : Deed = the_deed w s name seed count versions
      in let there : all_moved d.moves w ≡ is.v
      = ap (λ ms. all_moved ms w) (is.doing.split ∙ append-nil is.doing.moves) ∙ all_moved_is is.doing.moves w ∙ sym is.doing.world_is
      in let reply : d.reply ≡ says.Generate name (length is.has.set.cvd.versions) (length (order_of is.has.set.cvd.versions)) (members_of is.has.set.cvd.versions)
      = ap (λ u. generated_reply name (set_named u name)) there ∙ ap (generated_reply name) is.has.named
      in let long : length is.has.set.cvd.versions ≡ versions = omega (arith, map_long is.has.set.cvd.versions, ap (λ (l : List (List Row)). length l) is.has.rows_are, is.versions_are)
      in let all : members_of is.has.set.cvd.versions ≡ members
      = sum-map (λ (v : Version). length v.rows) is.has.set.cvd.versions ∙ members_sum is.has.set.cvd.versions
      ∙ ap (λ l. sum_by (λ (r : List Row). length r) l) is.has.rows_are ∙ sym is.members_are
      in subst (λ r. Does d s s w r before now old new)
      (reply ∙ (λ i. says.Generate name (long i) (sym counted i) (all i)))
      (does_all d w is.v s before now old new is.doing)

pub first_long : (count : ℕ) (rows : List Row) → IsGrown count 2 rows → length rows ≤ count + 1
first_long count rows grown = omega (arith, begin-few count 1 (count + 2) rows (omega arith) grown)
