-- A threshold within a budget: a plan that began, an advice, or why there is none.
use Rattle.std.proofs.Common.{◌≡◌, ◌∙◌, ◌+◌, ◌⊎◌, inl, inr, ℕ, Bool, true, false, List, Some, None, refl, sym, ap, subst, arith}
use Rattle.std.specs.Prelude.{◌≤◌, IfErr, IfOk, IsErrOf, OnOk, Option, Ok, Err, Result, is_some, nat_lt, not}
use Rattle.std.specs.Option.{option_or}
use Rattle.ov_host.specs.declared.area.Area.{Area}
use Rattle.ov_host.specs.declared.area.Area.TheVariants.{Pages}
use Rattle.ov_host.specs.Host.{Rose, State}
use Rattle.ov_host.specs.Stops.{Only}
use Rattle.ov_core.specs.AtWorld.{IsAtNext, IsAtWorld, IsEither}
use Rattle.ov_core.specs.Held.{Held}
use Rattle.ov_choose.specs.Choices.{AreLines, FindsNoPlaceWithin, HasNoThreshold, HasPartDamage, IsDamagedWithin, IsUnchosen, IsUnpicked, advise_off, off_if, within_off}
use Rattle.ov_choose.specs.Worlds.{IsAdviceOn, IsPlanLackOf, IsRefusedTo, IsToldOf, advise_refused, advise_refused_of, best_of, least_in, over_budget, with_best, within_in, within_of, within_refused, within_refused_of}
use Rattle.ov_choose.specs.declared.advising.Advice.{Advice}
use Rattle.ov_choose.specs.declared.choosing.Chosen.{Chosen}
use Rattle.ov_choose.specs.declared.errors.ChooseErr.{ChooseErr}
use Rattle.ov_choose.specs.declared.errors.ChooseErr.TheVariants as why
use Rattle.ov_choose.proofs.Tables.{best_is_choice, least_is_least, lines_whole}
use Rattle.ov_fetch.specs.Extents.{Looked, page_bytes}
use Rattle.ov_fetch.proofs.Looks.{same_pages}
use Rattle.law_room.specs.Room.{Entry, IsWithin, Made}
use Rattle.law_runs.proofs.Doing.{breaks_looked, breaks_move, breaks_where, does_full, does_move, does_told}
use Rattle.law_runs.specs.Serving.{Breaks, Does}
use Rattle.law_runs.specs.Stops.{printed_of}
use Rattle.ov_model.specs.Act.{Deed, Session, does, if_so, is_threshold, refuses, tells, unless}
use Rattle.ov_model.specs.Budget.{advise_by, advise_deed, is_worth, table, within_by, within_deed, within_refusal, within_reply}
use Rattle.ov_model.specs.Moves.{BeginPlan, Move, moved}
use Rattle.ov_model.specs.Plans.{parts_at}
use Rattle.ov_model.specs.World.{Dataset, World, cost, set_named}
use Rattle.ov_model.specs.declared.refusal.Refusal.{Refusal}
use Rattle.ov_model.specs.declared.refusal.Refusal.TheVariants as no
use Rattle.ov_model.specs.declared.reply.BudgetLine.{BudgetLine}
use Rattle.ov_model.specs.declared.reply.Reply.{Reply}
use Rattle.ov_model.specs.declared.reply.Reply.TheVariants as says
use Rattle.ov_open.specs.Opening.{IsWorld}
use Rattle.ov_optimize.specs.Damages.{HasBadPart, IsListDamage}
use Rattle.ov_read.specs.Sizes.{bytes_for, list_bytes_for}
use Rattle.ov_session.proofs.Bounds.{fetched_allowed}
use Rattle.ov_session.proofs.Replying.{other_refusal}
use Rattle.ov_session.proofs.Standing.{the_end}
use Rattle.ov_session.specs.Bounds.{if_allowed}
use Rattle.ov_session.specs.Commands.{Acts, AreListsDamaged, IfDamaged, IfNoFile, IsAdviceDamaged, IsDamageOf, IsListsDamaged, IsNoDamage, IsSegmentsDamaged}
use Rattle.ov_session.specs.Errors.{choose_end, choose_reply}
use Rattle.ov_session.specs.Reads as reads
use Rattle.ov_session.specs.Reads.{lists_in, segments_in, within_set_off}
use Rattle.ov_session.specs.declared.errors.EndErr.{EndErr}
use Rattle.ov_session.specs.declared.errors.EndErr.TheVariants as ending
use Rattle.ov_store.specs.Committing.{IfSet, Set}
use Rattle.ov_store.specs.Kept.{Kept}
use Rattle.ov_store.specs.Scanning.{all_vids, set_in, vids_in}
use Rattle.ov_store.specs.Thresholds.{IsListsDamage}
use Rattle.ov_store.specs.Worlds.{and_made}

some_reply : (a b : Reply) → Some a ≡ Some b → a ≡ b
some_reply a b e = cc

some_refusal : (a b : Refusal) → Some a ≡ Some b → a ≡ b
some_refusal a b e = cc

-- ---- what the numbers refuse

within_tests : (name : List ℕ) (a b : Bool) → option_or (if_so a (no.Migrating name)) (if_so b (no.NoNumbers name)) ≡ None
    → option_or (off_if a why.Migrating) (off_if b why.NoNumbers) ≡ None
within_tests name true b e = absurd cc
within_tests name false true e = absurd cc
within_tests name false false e = refl

tests_within : (name : List ℕ) (a b : Bool) → option_or (off_if a why.Migrating) (off_if b why.NoNumbers) ≡ None
    → option_or (if_so a (no.Migrating name)) (if_so b (no.NoNumbers name)) ≡ None
tests_within name true b e = absurd cc
tests_within name false true e = absurd cc
tests_within name false false e = refl

pub within_none : (name : List ℕ) (o : Option Set) → within_set_off name o ≡ None → within_off o ≡ None
within_none name None e = absurd cc
within_none name (Some set) e = within_tests name (is_some set.plan) (nat_lt 4294000000 set.next_part) e

none_within : (name : List ℕ) (o : Option Set) → within_off o ≡ None → within_set_off name o ≡ None
none_within name None e = absurd cc
none_within name (Some set) e = tests_within name (is_some set.plan) (nat_lt 4294000000 set.next_part) e

advise_test : (t : Bool) → if_so t no.BadThreshold ≡ None → off_if t why.BadThreshold ≡ None
advise_test true e = absurd cc
advise_test false e = refl

test_advise : (t : Bool) → off_if t why.BadThreshold ≡ None → if_so t no.BadThreshold ≡ None
test_advise true e = absurd cc
test_advise false e = refl

pub advise_none : (name : List ℕ) (a b : ℕ) (o : Option Set) → reads.advise_off name a b o ≡ None → advise_off a b o ≡ None
advise_none name a b None e = absurd cc
advise_none name a b (Some set) e = advise_test (not (is_threshold b a)) e

none_advise : (name : List ℕ) (a b : ℕ) (o : Option Set) → advise_off a b o ≡ None → reads.advise_off name a b o ≡ None
none_advise name a b None e = absurd cc
none_advise name a b (Some set) e = test_advise (not (is_threshold b a)) e

-- one refuses where the other does
refuses_too : {A B : Type 0} (x : Option A) (y : Option B) → (y ≡ None → x ≡ None) → is_some x ≡ true → (off : B) × (y ≡ Some off)
refuses_too x None both some = absurd (none_some x (both refl) some)
  where
    none_some : {A : Type 0} (x : Option A) → x ≡ None → is_some x ≡ true → ⊥
    none_some None none some = cc
    none_some (Some a) none some = cc
refuses_too x (Some off) both some = (off, refl)

pub within_there : (name : List ℕ) (o : Option Set) → is_some (within_set_off name o) ≡ true → (off : ChooseErr) × (within_off o ≡ Some off)
within_there name o some = refuses_too (within_set_off name o) (within_off o) (none_within name o) some

pub advise_there : (name : List ℕ) (a b : ℕ) (o : Option Set) → is_some (reads.advise_off name a b o) ≡ true → (off : ChooseErr) × (advise_off a b o ≡ Some off)
advise_there name a b o some = refuses_too (reads.advise_off name a b o) (advise_off a b o) (none_advise name a b o) some

some_is : {A : Type 0} (o : Option A) (x : A) → o ≡ Some x → is_some o ≡ true
some_is None x e = absurd cc
some_is (Some y) x e = refl

pub within_refuses : (o : Option Set) (off : ChooseErr) → within_off o ≡ Some off → is_some (within_off o) ≡ true
within_refuses o off is = some_is (within_off o) off is

never_both : {A : Type 0} (o : Option A) (x : A) → o ≡ None → o ≡ Some x → ⊥
never_both o x none is = cc

-- ---- what is read

pub within_fetched : (name : List ℕ) (o : Option Set) (a b : ℕ) → ((s : Set) → o ≡ Some s → b ≤ a + bytes_for s (vids_in s)) → ((off : ChooseErr) → within_off o ≡ Some off → b ≡ a)
    → b ≤ a + if_allowed (within_set_off name o) (lists_in o (all_vids o) + segments_in o (all_vids o))
within_fetched name None a b within none = let same : b ≡ a = none why.NoCvd refl in omega (arith, same)
within_fetched name (Some s) a b within none =
    fetched_allowed (within_set_off name (Some s)) (bytes_for s (vids_in s)) a b (within s refl)
    (λ refusal is. let there = within_there name (Some s) (some_is (within_set_off name (Some s)) refusal is) in none there.0 there.1)

pub advise_fetched : (name : List ℕ) (p q : ℕ) (o : Option Set) (a b : ℕ) → ((s : Set) → o ≡ Some s → b ≤ a + list_bytes_for s (vids_in s))
    → ((off : ChooseErr) → advise_off p q o ≡ Some off → b ≡ a) → b ≤ a + if_allowed (reads.advise_off name p q o) (lists_in o (all_vids o))
advise_fetched name p q None a b within none = let same : b ≡ a = none why.NoCvd refl in omega (arith, same)
advise_fetched name p q (Some s) a b within none =
    fetched_allowed (reads.advise_off name p q (Some s)) (list_bytes_for s (vids_in s)) a b (within s refl)
    (λ refusal is. let there = advise_there name p q (Some s) (some_is (reads.advise_off name p q (Some s)) refusal is) in none there.0 there.1)

-- ---- a reply, or the end of the run

host_end : (off : ChooseErr) → choose_end off ≡ Some ending.Host → off ≡ why.Host
host_end why.Host e = refl
host_end why.Memory e = absurd cc
host_end (why.Damaged area at) e = absurd cc
host_end why.JournalFull e = absurd cc
host_end why.NoCvd e = absurd cc
host_end why.BadThreshold e = absurd cc
host_end why.Migrating e = absurd cc
host_end (why.NoThreshold least) e = absurd cc
host_end why.NoNumbers e = absurd cc

-- what holds of each end, by its error
by_end : (P : EndErr → Type 0) (off : ChooseErr) (e : EndErr) → choose_end off ≡ Some e → P ending.Host → P ending.Memory
    → ((area : Area) (at : ℕ) → off ≡ why.Damaged area at → P (ending.Damaged area at)) → P e
by_end P why.Host e is host memory damaged = subst P (the_end ending.Host e is) host
by_end P why.Memory e is host memory damaged = subst P (the_end ending.Memory e is) memory
by_end P (why.Damaged area at) e is host memory damaged = subst P (the_end (ending.Damaged area at) e is) (damaged area at refl)
by_end P why.JournalFull e is host memory damaged = absurd cc
by_end P why.NoCvd e is host memory damaged = absurd cc
by_end P why.BadThreshold e is host memory damaged = absurd cc
by_end P why.Migrating e is host memory damaged = absurd cc
by_end P (why.NoThreshold least) e is host memory damaged = absurd cc
by_end P why.NoNumbers e is host memory damaged = absurd cc

module _ (name : List ℕ) (budget : ℕ) where
  reply_seen : (off : ChooseErr) (r : Reply) → choose_reply name budget off ≡ Some r → IfNoFile ⊥ r
  reply_seen why.Host r said = absurd cc
  reply_seen why.Memory r said = absurd cc
  reply_seen (why.Damaged area at) r said = absurd cc
  reply_seen why.JournalFull r said = other_refusal _ r said (λ file is. cc)
  reply_seen why.NoCvd r said = other_refusal _ r said (λ file is. cc)
  reply_seen why.BadThreshold r said = other_refusal _ r said (λ file is. cc)
  reply_seen why.Migrating r said = other_refusal _ r said (λ file is. cc)
  reply_seen (why.NoThreshold least) r said = other_refusal _ r said (λ file is. cc)
  reply_seen why.NoNumbers r said = other_refusal _ r said (λ file is. cc)

  -- a fault of the host has no reply
  no_host : (off : ChooseErr) (r : Reply) → choose_reply name budget off ≡ Some r → off ≡ why.Host → ⊥
  no_host off r said is = let none : choose_reply name budget why.Host ≡ Some r = subst (λ x. choose_reply name budget x ≡ Some r) is said in absurd cc

  module _ (off : ChooseErr) where
    pub on_reply : (result : Result Reply EndErr) → IfOk result (λ r. choose_reply name budget off ≡ Some r) → (P : Type 0) → ((off ≡ why.Host → ⊥) → P) → OnOk result P
    on_reply (Ok r) said P then_ = then_ (no_host off r said)
    on_reply (Err e) said P then_ = tt

    pub chosen_seen : (result : Result Reply EndErr) → IfOk result (λ r. choose_reply name budget off ≡ Some r) → IfOk result (IfNoFile ⊥)
    chosen_seen (Ok r) said = reply_seen off r said
    chosen_seen (Err e) said = tt

    pub spared_host : (result : Result Reply EndErr) → IfOk result (λ r. choose_reply name budget off ≡ Some r) → IfErr result (λ e. choose_end off ≡ Some e)
        → (IsErrOf result ending.Host → ⊥) → off ≡ why.Host → ⊥
    spared_host (Ok r) said ends fine is = no_host off r said is
    spared_host (Err e) said ends fine is = fine (ap Err (sym (the_end ending.Host e (subst (λ o. choose_end o ≡ Some e) is ends))))

module _ (off : ChooseErr) where
  pub ended_host : (result : Result Reply EndErr) → IfErr result (λ e. choose_end off ≡ Some e) → IsErrOf result ending.Host → off ≡ why.Host
  ended_host result ends is = host_end off (subst (λ (r : Result Reply EndErr). IfErr r (λ e. choose_end off ≡ Some e)) is ends)

  pub ended_damaged : (P : ℕ → Type 0) (result : Result Reply EndErr) → IfErr result (λ e. choose_end off ≡ Some e)
      → ((area : Area) (at : ℕ) → off ≡ why.Damaged area at → (area ≡ Pages) × P at) → IfErr result (IsDamageOf P)
  ended_damaged P (Ok r) ends damaged = tt
  ended_damaged P (Err e) ends damaged = by_end (IsDamageOf P) off e ends tt tt damaged

  pub ended_idle : (P : Type 0) (result : Result Reply EndErr) → IfErr result (λ e. choose_end off ≡ Some e) → ((off ≡ why.Host → ⊥) → P) → IfErr result (IfDamaged P)
  ended_idle P (Ok r) ends stays = tt
  ended_idle P (Err e) ends stays =
      by_end (IfDamaged P) off e ends tt tt (λ area at is. stays (λ host. let clash : why.Damaged area at ≡ why.Host = sym is ∙ host in absurd cc))

  pub ended_spared : (name : List ℕ) (budget : ℕ) (refusal : Option Refusal) (result : Result Reply EndErr) → IfErr result (λ e. choose_end off ≡ Some e)
      → IsRefusedTo name budget refusal off → IfErr result IsNoDamage
  ended_spared name budget refusal (Ok r) ends fine = tt
  ended_spared name budget refusal (Err e) ends fine =
      by_end IsNoDamage off e ends tt tt (λ area at is. subst (IsRefusedTo name budget refusal) is fine)

-- ---- what is damaged

module _ (o : Option Set) (budget : ℕ) (held : Held) (old new : State) (off : ChooseErr) where
  pub within_cause : IsUnchosen o budget held old new off → off ≡ why.Host → Rose old.faults new.faults
  within_cause is host = subst (IsUnchosen o budget held old new) host is

  module _ (name : List ℕ) (looked : Looked old new) where
    -- it is so of a host that was only looked at since
    lists_then : (set : Set) (page : ℕ) → new.tells ≡ true → IsListDamage (page_bytes old) set page → IsListsDamaged set new page
    lists_then set page told bad = λ tells. subst (λ area. IsListDamage area set page) (sym (same_pages old new looked (sym looked.told ∙ told))) bad

    -- a threshold was chosen, so that no list is damaged
    parts_then : (set : Set) (page : ℕ) → new.tells ≡ true → HasPartDamage set budget old page
        → ((other : ℕ) → IsListsDamaged set new other → ⊥) × IsSegmentsDamaged set new page
    parts_then set page told bad =
        let before : old.tells ≡ true = sym looked.told ∙ told
        in let pages = same_pages old new looked before
        in (
          (λ other lists. lines_whole set old bad.lines before bad.choice.are other (subst (λ area. IsListDamage area set other) pages (lists told))),
          (λ tells. subst (λ area. HasBadPart area set page) (sym pages) bad.bad),
        )

    abbrev Damage : Set → ℕ → Type 0
    Damage set page = IsListsDamaged set new page ⊎ (((other : ℕ) → IsListsDamaged set new other → ⊥) × IsSegmentsDamaged set new page)

    by_damage : (set : Set) (page : ℕ) → new.tells ≡ true → IsListDamage (page_bytes old) set page ⊎ HasPartDamage set budget old page → Damage set page
    by_damage set page told (inl lists) = inl (lists_then set page told lists)
    by_damage set page told (inr parts) = inr (parts_then set page told parts)

    -- a host that tells nothing says nothing of it
    by_told : (set : Set) (page : ℕ) (t : Bool) → new.tells ≡ t → IsDamagedWithin set budget old page → Damage set page
    by_told set page true told is = by_damage set page told (is (sym looked.told ∙ told))
    by_told set page false told is = inl (λ tells. let clash : false ≡ true = sym told ∙ tells in absurd cc)

    damage_in : (o : Option Set) (page : ℕ) → IfSet (λ set. IsDamagedWithin set budget old page) o
        → IfSet (λ set. IsListsDamaged set new page) o ⊎ (((other : ℕ) → IfSet (λ set. IsListsDamaged set new other) o → ⊥) × IfSet (λ set. IsSegmentsDamaged set new page) o)
    damage_in None page is = absurd is
    damage_in (Some set) page is = by_told set page new.tells refl is

    pub within_damaged : IsUnchosen o budget held old new off → (area : Area) (at : ℕ) → off ≡ why.Damaged area at
        → (area ≡ Pages) × ((within_set_off name o ≡ None)
        × (IfSet (λ set. IsListsDamaged set new at) o ⊎ (((other : ℕ) → IfSet (λ set. IsListsDamaged set new other) o → ⊥) × IfSet (λ set. IsSegmentsDamaged set new at) o)))
    within_damaged is area at damaged =
        let it : IsUnchosen o budget held old new (why.Damaged area at) = subst (IsUnchosen o budget held old new) damaged is
        in (it.0, (none_within name o it.1, damage_in o at it.2))

pub advice_cause : (offs : Option ChooseErr) (o : Option Set) (budget : ℕ) (old new : State) (off : ChooseErr) → IsUnpicked offs o budget old new off → off ≡ why.Host
    → Rose old.faults new.faults
advice_cause offs o budget old new off is host = subst (IsUnpicked offs o budget old new) host is

lists_after : (o : Option Set) (old new : State) (page : ℕ) → Looked old new → IfSet (λ set. IsListsDamage set old page) o → IfSet (λ set. IsListsDamaged set new page) o
lists_after None old new page looked is = is
lists_after (Some set) old new page looked is = λ tells.
    let before : old.tells ≡ true = sym looked.told ∙ tells
    in subst (λ area. IsListDamage area set page) (sym (same_pages old new looked before)) (is before)

pub advice_damaged : (name : List ℕ) (a b : ℕ) (o : Option Set) (budget : ℕ) (old new : State) (off : ChooseErr) → Looked old new → IsUnpicked (advise_off a b o) o budget old new off
    → (area : Area) (at : ℕ) → off ≡ why.Damaged area at → (area ≡ Pages) × ((reads.advise_off name a b o ≡ None) × IfSet (λ set. IsListsDamaged set new at) o)
advice_damaged name a b o budget old new off looked is area at damaged =
    let it : IsUnpicked (advise_off a b o) o budget old new (why.Damaged area at) = subst (IsUnpicked (advise_off a b o) o budget old new) damaged is
    in (it.0, (none_advise name a b o it.1, lists_after o old new at looked it.2))

-- ---- what was read whole

module _ (old : State) (page : ℕ) (told : old.tells ≡ true) where
  pub whole_in : (o : Option Set) → ((s : Set) → o ≡ Some s → IsListDamage (page_bytes old) s page → ⊥) → IfSet (λ set. IsListsDamaged set old page) o → ⊥
  whole_in None whole met = met
  whole_in (Some set) whole met = whole set refl (met told)

  -- a table was made of them
  table_whole : (o : Option Set) (P : Set → Type 0) → ((set : Set) → P set → (lines : _) × AreLines set old lines) → IfSet P o → IfSet (λ set. IsListsDamaged set old page) o → ⊥
  table_whole None P made is met = met
  table_whole (Some set) P made is met = let it = made set is in lines_whole set old it.0 told it.1 page (met told)

  module _ (o : Option Set) (budget : ℕ) (offs : Option ChooseErr) (none : offs ≡ None) (new : State) (name : List ℕ) where
    unpicked_whole : (off : ChooseErr) (r : Reply) → choose_reply name budget off ≡ Some r → IsUnpicked offs o budget old new off → IfSet (λ set. IsListsDamaged set old page) o → ⊥
    unpicked_whole why.Host r said is met = absurd cc
    unpicked_whole why.Memory r said is met = absurd cc
    unpicked_whole (why.Damaged area at) r said is met = absurd cc
    unpicked_whole why.JournalFull r said is met = is
    unpicked_whole (why.NoThreshold least) r said is met = table_whole o (λ set. HasNoThreshold set budget old least) (λ set has. (has.lines, has.are)) is.1 met
    unpicked_whole why.NoCvd r said is met = never_both offs why.NoCvd none is.0
    unpicked_whole why.BadThreshold r said is met = never_both offs why.BadThreshold none is.0
    unpicked_whole why.Migrating r said is met = never_both offs why.Migrating none is.0
    unpicked_whole why.NoNumbers r said is met = never_both offs why.NoNumbers none is.0

  module _ (name : List ℕ) (budget : ℕ) (held : Held) (new : State) where
    within_by_reply : (cvd : List ℕ) (off : ChooseErr) (r : Reply) → choose_reply cvd budget off ≡ Some r → IsUnchosen (set_in held.numbers name) budget held old new off
        → AreListsDamaged name held old page → ⊥
    within_by_reply cvd why.JournalFull r said is met =
        table_whole (set_in held.numbers name) (λ set. FindsNoPlaceWithin set budget old held) (λ set full. (full.lines, full.choice.are)) is.1 met.1
    within_by_reply cvd why.Host r said is met = absurd cc
    within_by_reply cvd why.Memory r said is met = absurd cc
    within_by_reply cvd (why.Damaged area at) r said is met = absurd cc
    within_by_reply cvd (why.NoThreshold least) r said is met =
        unpicked_whole (set_in held.numbers name) budget (within_off (set_in held.numbers name)) (within_none name (set_in held.numbers name) met.0) new cvd (why.NoThreshold least) r said is met.1
    within_by_reply cvd why.NoCvd r said is met =
        unpicked_whole (set_in held.numbers name) budget (within_off (set_in held.numbers name)) (within_none name (set_in held.numbers name) met.0) new cvd why.NoCvd r said is met.1
    within_by_reply cvd why.BadThreshold r said is met =
        unpicked_whole (set_in held.numbers name) budget (within_off (set_in held.numbers name)) (within_none name (set_in held.numbers name) met.0) new cvd why.BadThreshold r said is met.1
    within_by_reply cvd why.Migrating r said is met =
        unpicked_whole (set_in held.numbers name) budget (within_off (set_in held.numbers name)) (within_none name (set_in held.numbers name) met.0) new cvd why.Migrating r said is met.1
    within_by_reply cvd why.NoNumbers r said is met =
        unpicked_whole (set_in held.numbers name) budget (within_off (set_in held.numbers name)) (within_none name (set_in held.numbers name) met.0) new cvd why.NoNumbers r said is met.1

    pub within_whole : (cvd : List ℕ) (off : ChooseErr) (result : Result Reply EndErr) → IfOk result (λ r. choose_reply cvd budget off ≡ Some r)
        → IsUnchosen (set_in held.numbers name) budget held old new off → OnOk result (AreListsDamaged name held old page → ⊥)
    within_whole cvd off (Ok r) said is = within_by_reply cvd off r said is
    within_whole cvd off (Err e) said is = tt

    pub advice_whole : (cvd : List ℕ) (a b : ℕ) (off : ChooseErr) (result : Result Reply EndErr) → IfOk result (λ r. choose_reply cvd budget off ≡ Some r)
        → IsUnpicked (advise_off a b (set_in held.numbers name)) (set_in held.numbers name) budget old new off → OnOk result (IsAdviceDamaged name a b held old page → ⊥)
    advice_whole cvd a b off (Ok r) said is = λ met.
        unpicked_whole (set_in held.numbers name) budget (advise_off a b (set_in held.numbers name)) (advise_none name a b (set_in held.numbers name) met.0) new cvd off r said is met.1
    advice_whole cvd a b off (Err e) said is = tt

-- ---- what they mean

-- by whether the numbers refuse it, and by what is chosen
abbrev choice_of : Session → Dataset → ℕ → Option (ℕ × BudgetLine) → Deed
choice_of s d budget best = unless s (within_refusal d) (within_by s d budget best)

within_is : (s : Session) (name : List ℕ) (budget : ℕ) (d : Dataset) → within_deed s name budget (Some d) ≡ choice_of s d budget (best_of budget d)
within_is s name budget d = ap (choice_of s d budget) (sym (best_is_choice budget d))

within_refuses_by : (s : Session) (d : Dataset) (budget : ℕ) (x : Option Refusal) (best : Option (ℕ × BudgetLine)) (refusal : Refusal)
    → option_or x (over_budget budget d best) ≡ Some refusal → unless s x (within_by s d budget best) ≡ refuses s refusal
within_refuses_by s d budget (Some r) best refusal is = ap (refuses s) (some_refusal r refusal is)
within_refuses_by s d budget None None refusal is =
    ap (λ n. refuses s (no.NoThreshold budget n)) (sym (least_is_least d)) ∙ ap (refuses s) (some_refusal (no.NoThreshold budget (least_in d)) refusal is)
within_refuses_by s d budget None (Some best) refusal is = absurd cc

within_does_by : (s : Session) (d : Dataset) (budget : ℕ) (x : Option Refusal) (b : Option (ℕ × BudgetLine)) (best : ℕ × BudgetLine)
    → option_or x (over_budget budget d b) ≡ None → b ≡ Some best
    → unless s x (within_by s d budget b) ≡ does s (BeginPlan d.cvd.number best.0 100) (within_reply d best.0 (parts_at d best.0 100))
within_does_by s d budget (Some r) b best none is = absurd cc
within_does_by s d budget None b best none is = ap (within_by s d budget) is

-- the reply tells the same of the plan as an optimize's
abbrev told_by : Dataset → ℕ → Reply → Reply
told_by d p (says.Optimize depth partitions stored records members cost steps) = says.Within (table d) p depth partitions stored records members cost steps
told_by d p r = r

reply_is : (d : Dataset) (budget : ℕ) (chosen : Chosen) → IsToldOf d budget chosen
    → says.Within chosen.lines chosen.p chosen.report.depth chosen.report.partitions chosen.report.stored chosen.report.records chosen.report.members chosen.report.cost chosen.report.steps
    ≡ within_reply d chosen.p (parts_at d chosen.p 100)
reply_is d budget chosen is =
    (λ i. says.Within (is.lines_are i) chosen.p chosen.report.depth chosen.report.partitions chosen.report.stored chosen.report.records chosen.report.members chosen.report.cost chosen.report.steps)
    ∙ ap (told_by d chosen.p) is.report

module _ (w : World) (s : Session) (name : List ℕ) (budget : ℕ) (before now : Kept) (old new : State) (at : IsAtWorld w before.held old) where
  abbrev deed_is : Deed
  deed_is = within_deed s name budget (set_named w name)

  deed_refused : (refusal : Refusal) → within_refused w name budget ≡ Some refusal → deed_is ≡ refuses s refusal
  deed_refused refusal = by (set_named w name)
    where
      by : (o : Option Dataset) → within_refused_of name budget o ≡ Some refusal → within_deed s name budget o ≡ refuses s refusal
      by None is = ap (refuses s) (some_refusal (no.NoCvd name) refusal is)
      by (Some d) is = within_is s name budget d ∙ within_refuses_by s d budget (within_refusal d) (best_of budget d) refusal is

  -- what is chosen where nothing is refused
  pub record Chooses : Type 0 where
    pub d : Dataset
    pub named : set_named w name ≡ Some d
    pub best : ℕ × BudgetLine
    pub best_is : best_of budget d ≡ Some best

  best_there : (d : Dataset) (x : Option Refusal) (b : Option (ℕ × BudgetLine)) → option_or x (over_budget budget d b) ≡ None → (best : ℕ × BudgetLine) × (b ≡ Some best)
  best_there d (Some r) b none = absurd cc
  best_there d None None none = absurd cc
  best_there d None (Some best) none = (best, refl)

  chooses : within_refused w name budget ≡ None → Chooses
  chooses none = by (set_named w name) refl none
    where
      by : (o : Option Dataset) → set_named w name ≡ o → within_refused_of name budget o ≡ None → Chooses
      by None is none = absurd cc
      by (Some d) is none = let there = best_there d (within_refusal d) (best_of budget d) none in record { d = d; named = is; best = there.0; best_is = there.1 }

  module _ (allowed : within_refused w name budget ≡ None) (it : Chooses) where
    abbrev move_is : Move
    move_is = BeginPlan it.d.cvd.number it.best.0 100

    abbrev reply_at : Reply
    reply_at = within_reply it.d it.best.0 (parts_at it.d it.best.0 100)

    world_is : within_in name budget w ≡ moved move_is w
    world_is = ap (λ o. within_of budget o w) it.named ∙ ap (λ o. with_best it.d o w) it.best_is

    deed_does : deed_is ≡ does s move_is reply_at
    deed_does =
        ap (within_deed s name budget) it.named ∙ within_is s name budget it.d
        ∙ within_does_by s it.d budget (within_refusal it.d) (best_of budget it.d) it.best (sym (ap (within_refused_of name budget) it.named) ∙ allowed) it.best_is

    either_is : Only old.tape new.tape (IsEither w (within_in name budget w) (printed_of old)) → Only old.tape new.tape (IsEither w (moved move_is w) (printed_of old))
    either_is stops = subst (λ (v : World). Only old.tape new.tape (IsEither w v (printed_of old))) world_is stops

    within_does : (r : Reply) → r ≡ reply_at → Only old.tape new.tape (IsEither w (within_in name budget w) (printed_of old)) → IsAtNext (within_in name budget w) now.held old new
        → ((entry : Entry) (past : List Made) → IsWithin entry past before.held → IsWithin entry (and_made past move_is w) now.held)
        → Does deed_is s s w r before.held now.held old new
    within_does r same stops next within =
        subst (λ (x : Reply). Does deed_is s s w x before.held now.held old new) (sym same)
        (does_move deed_is s s w move_is reply_at before.held now.held old new deed_does (either_is stops) (subst (λ (v : World). IsAtNext v now.held old new) world_is next) within)

    within_breaks : Only old.tape new.tape (IsEither w (within_in name budget w) (printed_of old)) → Breaks deed_is s w old new
    within_breaks stops = breaks_move deed_is s s w move_is reply_at old new deed_does (either_is stops)

    within_full : new.tells ≡ old.tells → new.tape ≡ old.tape → ((entry : Entry) (past : List Made) → IsWithin entry past before.held → IsPlanLackOf entry past move_is w why.JournalFull)
        → Does deed_is s s w (says.Refused (no.JournalFull None)) before.held before.held old new
    within_full told tape lacks = does_full deed_is s s w move_is reply_at before.held old new deed_does at told tape lacks

  same_best : (a b : ℕ × BudgetLine) → Some a ≡ Some b → a ≡ b
  same_best a b is = ap (λ o. elim o as (λ _. ℕ × BudgetLine) [ None ↦ a | Some x ↦ x ]) is

  -- it began
  pub within_done : (chosen : Chosen) → within_refused w name budget ≡ None → ((d : Dataset) → set_named w name ≡ Some d → IsToldOf d budget chosen)
      → Only old.tape new.tape (IsEither w (within_in name budget w) (printed_of old)) → IsAtNext (within_in name budget w) now.held old new
      → ((d : Dataset) (best : ℕ × BudgetLine) (entry : Entry) (past : List Made) → set_named w name ≡ Some d → best_of budget d ≡ Some best → IsWithin entry past before.held
      → IsWithin entry (and_made past (BeginPlan d.cvd.number best.0 100) w) now.held)
      → Does deed_is s s w (says.Within chosen.lines chosen.p chosen.report.depth chosen.report.partitions chosen.report.stored chosen.report.records chosen.report.members chosen.report.cost chosen.report.steps)
      before.held now.held old new
  within_done chosen allowed told stops next within =
      let it = chooses allowed
      in let is : IsToldOf it.d budget chosen = told it.d it.named
      in let same : chosen.p ≡ it.best.0 = ap (λ (x : ℕ × BudgetLine). x.0) (same_best (chosen.p, is.line) it.best (sym is.best ∙ it.best_is))
      in within_does allowed it _ (reply_is it.d budget chosen is ∙ ap (λ p. within_reply it.d p (parts_at it.d p 100)) same) stops next
      (λ entry past in_. within it.d it.best entry past it.named it.best_is in_)

  -- or it didn't
  module _ (stays : (now ≡ before) × Looked old new) where
    tape_is : new.tape ≡ old.tape
    tape_is = stays.1.tape at.at.told

    refused_for : (refusal : Refusal) (r : Reply) → within_refused w name budget ≡ Some refusal → Some (says.Refused refusal) ≡ Some r → Does deed_is s s w r before.held before.held old new
    refused_for refusal r is said =
        subst (λ (x : Reply). Does deed_is s s w x before.held before.held old new) (some_reply (says.Refused refusal) r said)
        (does_told deed_is s s w (says.Refused refusal) before.held old new (deed_refused refusal is) at stays.1.told tape_is)

    refused_so : (off : ChooseErr) (r : Reply) → choose_reply name budget off ≡ Some r → IsRefusedTo name budget (within_refused w name budget) off
        → ((d : Dataset) (best : ℕ × BudgetLine) (entry : Entry) (past : List Made) → set_named w name ≡ Some d → best_of budget d ≡ Some best → IsWithin entry past before.held
        → IsPlanLackOf entry past (BeginPlan d.cvd.number best.0 100) w off)
        → Does deed_is s s w r before.held before.held old new
    refused_so why.Host r said is lacks = absurd cc
    refused_so why.Memory r said is lacks = absurd cc
    refused_so (why.Damaged area place) r said is lacks = absurd cc
    refused_so why.JournalFull r said is lacks =
        let it = chooses is
        in subst (λ (x : Reply). Does deed_is s s w x before.held before.held old new) (some_reply (says.Refused (no.JournalFull None)) r said)
        (within_full is it stays.1.told tape_is (λ entry past in_. lacks it.d it.best entry past it.named it.best_is in_))
    refused_so why.NoCvd r said is lacks = refused_for (no.NoCvd name) r is said
    refused_so why.BadThreshold r said is lacks = refused_for no.BadThreshold r is said
    refused_so why.Migrating r said is lacks = refused_for (no.Migrating name) r is said
    refused_so (why.NoThreshold least) r said is lacks = refused_for (no.NoThreshold budget least) r is said
    refused_so why.NoNumbers r said is lacks = refused_for (no.NoNumbers name) r is said

  within_cut : Only old.tape new.tape (IsEither w (within_in name budget w) (printed_of old))
      → ((refusal : Refusal) → within_refused w name budget ≡ Some refusal → Only old.tape new.tape (IsWorld w (printed_of old))) → Breaks deed_is s w old new
  within_cut stops still = by (within_refused w name budget) refl
    where
      by : (o : Option Refusal) → within_refused w name budget ≡ o → Breaks deed_is s w old new
      by None none = within_breaks none (chooses none) stops
      by (Some refusal) is = breaks_where deed_is s w old new (IsWorld w (printed_of old)) (λ c on. on.stands) (λ c on. on.printed_is) (still refusal is)

  pub within_off_by : (off : ChooseErr) (result : Result Reply EndErr) → IfOk result (λ r. choose_reply name budget off ≡ Some r)
      → IsRefusedTo name budget (within_refused w name budget) off
      → ((d : Dataset) (best : ℕ × BudgetLine) (entry : Entry) (past : List Made) → set_named w name ≡ Some d → best_of budget d ≡ Some best → IsWithin entry past before.held
      → IsPlanLackOf entry past (BeginPlan d.cvd.number best.0 100) w off)
      → ((off ≡ why.Host → ⊥) → (now ≡ before) × Looked old new) → Only old.tape new.tape (IsEither w (within_in name budget w) (printed_of old))
      → ((refusal : Refusal) → within_refused w name budget ≡ Some refusal → Only old.tape new.tape (IsWorld w (printed_of old)))
      → Acts deed_is s s w result before.held now.held old new
  within_off_by off (Ok r) said is lacks stays stops still =
      let kept = stays (no_host name budget off r said)
      in subst (λ (k : Kept). Does deed_is s s w r before.held k.held old new) (sym kept.0) (refused_so kept off r said is lacks)
  within_off_by off (Err e) said is lacks stays stops still = within_cut stops still

-- ---- an advice

abbrev advice_by : Session → Dataset → ℕ → ℕ → ℕ → Option (ℕ × BudgetLine) → Deed
advice_by s d budget a b best = unless s (if_so (not (is_threshold b a)) no.BadThreshold) (advise_by s d budget a b best)

advice_is : (s : Session) (name : List ℕ) (budget a b : ℕ) (d : Dataset) → advise_deed s name budget a b (Some d) ≡ advice_by s d budget a b (best_of budget d)
advice_is s name budget a b d = ap (advice_by s d budget a b) (sym (best_is_choice budget d))

advice_refuses_by : (s : Session) (d : Dataset) (budget a b : ℕ) (x : Option Refusal) (best : Option (ℕ × BudgetLine)) (refusal : Refusal)
    → option_or x (over_budget budget d best) ≡ Some refusal → unless s x (advise_by s d budget a b best) ≡ refuses s refusal
advice_refuses_by s d budget a b (Some r) best refusal is = ap (refuses s) (some_refusal r refusal is)
advice_refuses_by s d budget a b None None refusal is =
    ap (λ n. refuses s (no.NoThreshold budget n)) (sym (least_is_least d)) ∙ ap (refuses s) (some_refusal (no.NoThreshold budget (least_in d)) refusal is)
advice_refuses_by s d budget a b None (Some best) refusal is = absurd cc

advice_tells_by : (s : Session) (d : Dataset) (budget a b : ℕ) (x : Option Refusal) (o : Option (ℕ × BudgetLine)) (best : ℕ × BudgetLine)
    → option_or x (over_budget budget d o) ≡ None → o ≡ Some best
    → unless s x (advise_by s d budget a b o) ≡ tells s (says.Advise (cost d) best.1.cost (is_worth a b (cost d) best.1.cost))
advice_tells_by s d budget a b (Some r) o best none is = absurd cc
advice_tells_by s d budget a b None o best none is = ap (advise_by s d budget a b) is

module _ (w : World) (s : Session) (name : List ℕ) (budget a b : ℕ) where
  dataset_there : advise_refused w name budget a b ≡ None → (d : Dataset) × (set_named w name ≡ Some d)
  dataset_there none = by (set_named w name) none
    where
      by : (o : Option Dataset) → advise_refused_of name budget a b o ≡ None → (d : Dataset) × (o ≡ Some d)
      by None none = absurd cc
      by (Some d) none = (d, refl)

  pub advice_told : (advice : Advice) → advise_refused w name budget a b ≡ None → ((d : Dataset) → set_named w name ≡ Some d → IsAdviceOn d budget a b advice)
      → advise_deed s name budget a b (set_named w name) ≡ tells s (says.Advise advice.cost advice.best advice.worth)
  advice_told advice none told =
      let there = dataset_there none
      in let is : IsAdviceOn there.0 budget a b advice = told there.0 there.1
      in ap (advise_deed s name budget a b) there.1 ∙ advice_is s name budget a b there.0
      ∙ advice_tells_by s there.0 budget a b (if_so (not (is_threshold b a)) no.BadThreshold) (best_of budget there.0) is.best
      (sym (ap (advise_refused_of name budget a b) there.1) ∙ none) is.best_is
      ∙ (λ i. tells s (says.Advise (sym is.cost_is i) (sym is.least_is i) (sym is.worth_is i)))

  advice_refused_is : (refusal : Refusal) → advise_refused w name budget a b ≡ Some refusal → advise_deed s name budget a b (set_named w name) ≡ refuses s refusal
  advice_refused_is refusal = by (set_named w name)
    where
      by : (o : Option Dataset) → advise_refused_of name budget a b o ≡ Some refusal → advise_deed s name budget a b o ≡ refuses s refusal
      by None is = ap (refuses s) (some_refusal (no.NoCvd name) refusal is)
      by (Some d) is =
          advice_is s name budget a b d
          ∙ advice_refuses_by s d budget a b (if_so (not (is_threshold b a)) no.BadThreshold) (best_of budget d) refusal is

  told_for : (refusal : Refusal) (r : Reply) → advise_refused w name budget a b ≡ Some refusal → Some (says.Refused refusal) ≡ Some r
      → advise_deed s name budget a b (set_named w name) ≡ tells s r
  told_for refusal r is said = advice_refused_is refusal is ∙ ap (tells s) (some_reply (says.Refused refusal) r said)

  advice_so : (off : ChooseErr) (r : Reply) → (off ≡ why.JournalFull → ⊥) → choose_reply name budget off ≡ Some r → IsRefusedTo name budget (advise_refused w name budget a b) off
      → advise_deed s name budget a b (set_named w name) ≡ tells s r
  advice_so why.Host r full said is = absurd cc
  advice_so why.Memory r full said is = absurd cc
  advice_so (why.Damaged area place) r full said is = absurd cc
  advice_so why.JournalFull r full said is = absurd (full refl)
  advice_so why.NoCvd r full said is = told_for (no.NoCvd name) r is said
  advice_so why.BadThreshold r full said is = told_for no.BadThreshold r is said
  advice_so why.Migrating r full said is = told_for (no.Migrating name) r is said
  advice_so (why.NoThreshold least) r full said is = told_for (no.NoThreshold budget least) r is said
  advice_so why.NoNumbers r full said is = told_for (no.NoNumbers name) r is said

  pub advice_off_by : (offs : Option ChooseErr) (o : Option Set) (old new : State) (off : ChooseErr) (result : Result Reply EndErr) → IsUnpicked offs o budget old new off
      → IfOk result (λ r. choose_reply name budget off ≡ Some r) → IsRefusedTo name budget (advise_refused w name budget a b) off
      → IfOk result (λ r. advise_deed s name budget a b (set_named w name) ≡ tells s r)
  advice_off_by offs o old new off (Ok r) unpicked said is = advice_so off r (λ full. subst (IsUnpicked offs o budget old new) full unpicked) said is
  advice_off_by offs o old new off (Err e) unpicked said is = tt

-- a command that only looks
pub looked_acts : (d : Deed) (s : Session) (w : World) (held : Held) (old new : State) → IsAtWorld w held old → Looked old new → (result : Result Reply EndErr)
    → IfOk result (λ reply. d ≡ tells s reply) → Acts d s s w result held held old new
looked_acts d s w held old new at looked (Ok reply) told = does_told d s s w reply held old new told at looked.told (looked.tape at.at.told)
looked_acts d s w held old new at looked (Err e) told = breaks_looked d s w held old new at (looked.tape at.at.told)
