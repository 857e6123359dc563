-- A plan that began, that was refused, or in which the run ended.
use Rattle.std.proofs.Common.{◌≡◌, ◌∙◌, ◌+◌, ℕ, true, List, Some, None, refl, sym, ap, subst, arith}
use Rattle.std.specs.Prelude.{◌≤◌, IfErr, IfOk, IsErrOf, OnOk, Option, Ok, Err, Result, is_some}
use Rattle.ov_host.specs.Host.{Rose, State}
use Rattle.ov_host.specs.Stops.{Only}
use Rattle.ov_host.specs.Tape.{Tape}
use Rattle.ov_core.specs.AtWorld.{IsAtNext, IsAtWorld, IsEither}
use Rattle.ov_core.specs.Held.{Held}
use Rattle.ov_fetch.specs.declared.errors.FetchErr.TheVariants as fetch
use Rattle.ov_fetch.specs.Extents.{Looked, page_bytes}
use Rattle.law_room.specs.Room.{Entry, IsWithin, Made}
use Rattle.law_runs.proofs.Doing.{breaks_move, breaks_where, does_full, does_move, does_told}
use Rattle.law_runs.specs.Serving.{Breaks, Does}
use Rattle.law_runs.specs.Stops.{printed_of}
use Rattle.law_steps.specs.Turns.{running}
use Rattle.ov_model.specs.Act.{Deed, Session, does, optimize_deed, optimized, refuses, unless}
use Rattle.ov_model.specs.Moves.{BeginPlan, Move, moved}
use Rattle.ov_model.specs.Plans.{parts_at}
use Rattle.ov_model.specs.World.{Dataset, World, set_named}
use Rattle.ov_model.specs.declared.refusal.Refusal.{Refusal}
use Rattle.ov_model.specs.declared.refusal.Refusal.TheVariants as no
use Rattle.ov_model.specs.declared.reply.Reply.{Reply}
use Rattle.ov_model.specs.declared.reply.Reply.TheVariants as says
use Rattle.ov_open.specs.Opening.{IsWorld}
use Rattle.ov_optimize.specs.Damages.{RefusesPlan}
use Rattle.ov_optimize.specs.Planned.{IsReport}
use Rattle.ov_optimize.specs.declared.report.Report.{Report}
use Rattle.ov_read.specs.Sizes.{bytes_for}
use Rattle.ov_session.proofs.Bounds.{fetched_allowed}
use Rattle.ov_session.proofs.Replying.{other_refusal}
use Rattle.ov_session.proofs.Standing.{at_looked, the_end}
use Rattle.ov_session.specs.Bounds.{bytes_in, if_allowed}
use Rattle.ov_session.specs.Commands.{Acts, IfDamaged, IfNoFile, IsDamageOf, IsNoDamage, IsPlanDamaged}
use Rattle.ov_session.specs.Errors.{plan_end, plan_reply}
use Rattle.ov_session.specs.Standing.{Idle, IsAtSilently}
use Rattle.ov_session.specs.declared.errors.EndErr.{EndErr}
use Rattle.ov_session.specs.declared.errors.EndErr.TheVariants as ending
use Rattle.ov_store.proofs.Unhurt.{planned_whole}
use Rattle.ov_store.specs.Committing.{IfSet, Set}
use Rattle.ov_store.specs.Kept.{Kept}
use Rattle.ov_store.specs.Planning.{FindsNoPlace, IsDamagedFor, IsPlanLack, IsPlanRefused, IsUnbegun, begun_in, optimize_off, optimize_refused, plan_off, refused_in, with_plan}
use Rattle.ov_store.specs.Scanning.{all_vids, set_in, vids_in}
use Rattle.ov_store.specs.Worlds.{and_made}
use Rattle.ov_store.specs.declared.plan_errors.PlanErr.{PlanErr}
use Rattle.ov_store.specs.declared.plan_errors.PlanErr.TheVariants as why

-- ---- what is read

-- nothing of a plan that is refused, and else all that the dataset has
pub plan_fetched : (o : Option Set) (p q a b : ℕ) → ((s : Set) → o ≡ Some s → b ≤ a + bytes_for s (vids_in s)) → ((off : PlanErr) → plan_off o p q ≡ Some off → b ≡ a)
    → b ≤ a + if_allowed (plan_off o p q) (bytes_in o (all_vids o))
plan_fetched None p q a b within none = let same : b ≡ a = none why.NoCvd refl in omega (arith, same)
plan_fetched (Some s) p q a b within none = fetched_allowed (plan_off (Some s) p q) (bytes_for s (vids_in s)) a b (within s refl) none

-- ---- by what the store answered

-- a plan that isn't recorded left the store as it was, but after a fault of the host
abbrev StaysBy : PlanErr → Kept → Kept → State → State → Type 0
StaysBy off before now old new = (off ≡ why.Host → ⊥) → (now ≡ before) × Looked old new

-- a fault of the host has no reply
no_host : (name : List ℕ) (off : PlanErr) (r : Reply) → plan_reply name off ≡ Some r → off ≡ why.Host → ⊥
no_host name off r said is = let none : plan_reply name why.Host ≡ Some r = subst (λ o. plan_reply name o ≡ Some r) is said in absurd cc

module _ (name : List ℕ) (off : PlanErr) (result : Result Reply EndErr) (said : IfOk result (λ r. plan_reply name off ≡ Some r)) where
  -- what holds where the host didn't fail holds of a reply
  pub on_reply : (P : Type 0) → ((off ≡ why.Host → ⊥) → P) → OnOk result P
  on_reply P then_ = by result said
    where
      by : (q : Result Reply EndErr) → IfOk q (λ r. plan_reply name off ≡ Some r) → OnOk q P
      by (Ok r) said = then_ (no_host name off r said)
      by (Err e) said = tt

  pub spared_host : IfErr result (λ e. plan_end off ≡ Some e) → (IsErrOf result ending.Host → ⊥) → off ≡ why.Host → ⊥
  spared_host ends fine is = by result said ends fine
    where
      by : (q : Result Reply EndErr) → IfOk q (λ r. plan_reply name off ≡ Some r) → IfErr q (λ e. plan_end off ≡ Some e) → (IsErrOf q ending.Host → ⊥) → ⊥
      by (Ok r) said ends fine = no_host name off r said is
      by (Err e) said ends fine = fine (ap Err (sym (the_end ending.Host e (subst (λ o. plan_end o ≡ Some e) is ends))))

plan_reply_seen : (name : List ℕ) (off : PlanErr) (r : Reply) → plan_reply name off ≡ Some r → IfNoFile ⊥ r
plan_reply_seen name why.Host r said = absurd cc
plan_reply_seen name why.Memory r said = absurd cc
plan_reply_seen name (why.Damaged area at) r said = absurd cc
plan_reply_seen name why.JournalFull r said = other_refusal _ r said (λ file is. cc)
plan_reply_seen name why.NoCvd r said = other_refusal _ r said (λ file is. cc)
plan_reply_seen name why.BadThreshold r said = other_refusal _ r said (λ file is. cc)
plan_reply_seen name why.Migrating r said = other_refusal _ r said (λ file is. cc)
plan_reply_seen name why.NoNumbers r said = other_refusal _ r said (λ file is. cc)

pub plan_seen : (name : List ℕ) (off : PlanErr) (result : Result Reply EndErr) → IfOk result (λ r. plan_reply name off ≡ Some r) → IfOk result (IfNoFile ⊥)
plan_seen name off (Ok r) said = plan_reply_seen name off r said
plan_seen name off (Err e) said = tt

-- ---- how the run ends

-- what holds of the end that an error comes to
ends_with : (P : EndErr → Type 0) (a e : EndErr) → Some a ≡ Some e → P a → P e
ends_with P a e is has = subst P (the_end a e is) has

module _ (name : List ℕ) (p q : ℕ) (before now : Kept) (old new : State) where
  pub plan_cause : (off : PlanErr) (result : Result Reply EndErr) → IfErr result (λ e. plan_end off ≡ Some e) → IsUnbegun name p q before.held old new off → IsErrOf result ending.Host
      → Rose old.faults new.faults
  plan_cause off result ends unbegun is = by off (subst (λ (r : Result Reply EndErr). IfErr r (λ e. plan_end off ≡ Some e)) is ends) unbegun
    where
      by : (off : PlanErr) → plan_end off ≡ Some ending.Host → IsUnbegun name p q before.held old new off → Rose old.faults new.faults
      by why.Host ends rose = rose
      by why.Memory ends unbegun = absurd cc
      by (why.Damaged area at) ends unbegun = absurd cc
      by why.JournalFull ends unbegun = absurd cc
      by why.NoCvd ends unbegun = absurd cc
      by why.BadThreshold ends unbegun = absurd cc
      by why.Migrating ends unbegun = absurd cc
      by why.NoNumbers ends unbegun = absurd cc

  -- what is damaged is so of a host that was only looked at since
  damaged_then : (o : Option Set) (page : ℕ) → Looked old new → IfSet (λ s. IsDamagedFor s old page) o → IfSet (λ s. IsDamagedFor s new page) o
  damaged_then None page looked is = absurd is
  damaged_then (Some s) page looked is = λ tells.
      let told : old.tells ≡ true = sym looked.told ∙ tells
      in subst (λ (b : List ℕ). RefusesPlan (fetch.Damaged page) b s) (ap (λ (t : Tape). page_bytes (record old { tape = t })) (sym (looked.tape told))) (is told)

  end_damaged : (off : PlanErr) (e : EndErr) → plan_end off ≡ Some e → IsUnbegun name p q before.held old new off → StaysBy off before now old new
      → IsDamageOf (IsPlanDamaged name p q before.held new) e
  end_damaged why.Host e is unbegun stays = ends_with (IsDamageOf (IsPlanDamaged name p q before.held new)) ending.Host e is tt
  end_damaged why.Memory e is unbegun stays = ends_with (IsDamageOf (IsPlanDamaged name p q before.held new)) ending.Memory e is tt
  end_damaged (why.Damaged area at) e is unbegun stays =
      ends_with (IsDamageOf (IsPlanDamaged name p q before.held new)) (ending.Damaged area at) e is
      (unbegun.0, (unbegun.1, damaged_then (set_in before.held.numbers name) at (stays (λ host. cc)).1 unbegun.2))
  end_damaged why.JournalFull e is unbegun stays = absurd cc
  end_damaged why.NoCvd e is unbegun stays = absurd cc
  end_damaged why.BadThreshold e is unbegun stays = absurd cc
  end_damaged why.Migrating e is unbegun stays = absurd cc
  end_damaged why.NoNumbers e is unbegun stays = absurd cc

  pub plan_damaged : (off : PlanErr) (result : Result Reply EndErr) → IfErr result (λ e. plan_end off ≡ Some e) → IsUnbegun name p q before.held old new off
      → StaysBy off before now old new → IfErr result (IsDamageOf (IsPlanDamaged name p q before.held new))
  plan_damaged off (Ok r) ends unbegun stays = tt
  plan_damaged off (Err e) ends unbegun stays = end_damaged off e ends unbegun stays

  end_idle : (off : PlanErr) (e : EndErr) → plan_end off ≡ Some e → StaysBy off before now old new → IfDamaged (Idle before now old new) e
  end_idle why.Host e is stays = ends_with (IfDamaged (Idle before now old new)) ending.Host e is tt
  end_idle why.Memory e is stays = ends_with (IfDamaged (Idle before now old new)) ending.Memory e is tt
  end_idle (why.Damaged area at) e is stays =
      let still = stays (λ host. cc)
      in ends_with (IfDamaged (Idle before now old new)) (ending.Damaged area at) e is (record { store = still.0; looked = still.1 })
  end_idle why.JournalFull e is stays = absurd cc
  end_idle why.NoCvd e is stays = absurd cc
  end_idle why.BadThreshold e is stays = absurd cc
  end_idle why.Migrating e is stays = absurd cc
  end_idle why.NoNumbers e is stays = absurd cc

  pub plan_idle : (off : PlanErr) (result : Result Reply EndErr) → IfErr result (λ e. plan_end off ≡ Some e) → StaysBy off before now old new
      → IfErr result (IfDamaged (Idle before now old new))
  plan_idle off (Ok r) ends stays = tt
  plan_idle off (Err e) ends stays = end_idle off e ends stays

end_spared : (name : List ℕ) (refusal : Option Refusal) (off : PlanErr) (e : EndErr) → plan_end off ≡ Some e → IsPlanRefused name refusal off → IsNoDamage e
end_spared name refusal why.Host e is fine = ends_with IsNoDamage ending.Host e is tt
end_spared name refusal why.Memory e is fine = ends_with IsNoDamage ending.Memory e is tt
end_spared name refusal (why.Damaged area at) e is fine = absurd fine
end_spared name refusal why.JournalFull e is fine = absurd cc
end_spared name refusal why.NoCvd e is fine = absurd cc
end_spared name refusal why.BadThreshold e is fine = absurd cc
end_spared name refusal why.Migrating e is fine = absurd cc
end_spared name refusal why.NoNumbers e is fine = absurd cc

pub plan_spared : (name : List ℕ) (refusal : Option Refusal) (off : PlanErr) (result : Result Reply EndErr) → IfErr result (λ e. plan_end off ≡ Some e) → IsPlanRefused name refusal off
    → IfErr result IsNoDamage
plan_spared name refusal off (Ok r) ends fine = tt
plan_spared name refusal off (Err e) ends fine = end_spared name refusal off e ends fine

-- ---- what was read whole

none_some : {E : Type 0} → (o : Option E) (e : E) → o ≡ None → o ≡ Some e → ⊥
none_some o e none is = cc

pub some_refused : {E : Type 0} → (o : Option E) → o ≡ None → is_some o ≡ true → ⊥
some_refused None none is = cc
some_refused (Some e) none is = cc

module _ (name : List ℕ) (p q : ℕ) (held : Held) (old new : State) (page : ℕ) (told : old.tells ≡ true) where
  pub begun_whole : ((s : Set) → set_in held.numbers name ≡ Some s → RefusesPlan (fetch.Damaged page) (page_bytes old) s → ⊥) → IsPlanDamaged name p q held old page → ⊥
  begun_whole whole met = by (set_in held.numbers name) whole met.1
    where
      by : (o : Option Set) → ((s : Set) → o ≡ Some s → RefusesPlan (fetch.Damaged page) (page_bytes old) s → ⊥) → IfSet (λ s. IsDamagedFor s old page) o → ⊥
      by None whole met = met
      by (Some s) whole met = whole s refl (met told)

  -- there was no room for its record, and it was made of what was read
  unplaced_whole : (o : Option Set) → IfSet (λ s. FindsNoPlace s p q old held) o → IfSet (λ s. IsDamagedFor s old page) o → ⊥
  unplaced_whole None found met = met
  unplaced_whole (Some s) found met = planned_whole (page_bytes old) s p q found.planned.event (found.by.read told) page (met told)

  refused_by : (other : List ℕ) (off : PlanErr) (r : Reply) → plan_reply other off ≡ Some r → IsUnbegun name p q held old new off → IsPlanDamaged name p q held old page → ⊥
  refused_by other why.Host r said unbegun met = absurd cc
  refused_by other why.Memory r said unbegun met = absurd cc
  refused_by other (why.Damaged area at) r said unbegun met = absurd cc
  refused_by other why.JournalFull r said unbegun met = unplaced_whole (set_in held.numbers name) unbegun.1 met.1
  refused_by other why.NoCvd r said unbegun met = none_some (optimize_off held.numbers name p q) why.NoCvd met.0 unbegun.0
  refused_by other why.BadThreshold r said unbegun met = none_some (optimize_off held.numbers name p q) why.BadThreshold met.0 unbegun.0
  refused_by other why.Migrating r said unbegun met = none_some (optimize_off held.numbers name p q) why.Migrating met.0 unbegun.0
  refused_by other why.NoNumbers r said unbegun met = none_some (optimize_off held.numbers name p q) why.NoNumbers met.0 unbegun.0

  pub refused_whole : (other : List ℕ) (off : PlanErr) (result : Result Reply EndErr) → IfOk result (λ r. plan_reply other off ≡ Some r) → IsUnbegun name p q held old new off
      → OnOk result (IsPlanDamaged name p q held old page → ⊥)
  refused_whole other off (Ok r) said unbegun = refused_by other off r said unbegun
  refused_whole other off (Err e) said unbegun = tt

-- ---- where a refused plan leaves the store

pub plan_at : (w : World) (before now : Kept) (old new : State) → IsAtWorld w before.held old → (now ≡ before) × Looked old new → IsAtSilently now.held old new
plan_at w before now old new at still = subst (λ (k : Kept). IsAtSilently k.held old new) (sym still.0) (at_looked w before.held old new at still.1)

-- ---- what it means

some_refusal : (a b : Refusal) → Some a ≡ Some b → a ≡ b
some_refusal a b e = cc

some_reply : (a b : Reply) → Some a ≡ Some b → a ≡ b
some_reply a b e = cc

module _ (w : World) (s : Session) (name : List ℕ) (p q : ℕ) (before now : Kept) (old new : State) (at : IsAtWorld w before.held old) where
  abbrev deed_is : Deed
  deed_is = optimize_deed s name p q (set_named w name)

  deed_refused : (refusal : Refusal) → optimize_refused w name p q ≡ Some refusal → deed_is ≡ refuses s refusal
  deed_refused refusal = by (set_named w name)
    where
      by : (o : Option Dataset) → refused_in name o p q ≡ Some refusal → optimize_deed s name p q o ≡ refuses s refusal
      by None is = ap (refuses s) (some_refusal (no.NoCvd name) refusal is)
      by (Some d) is = ap (λ o. unless s o (does s (BeginPlan d.cvd.number p q) (optimized d p q (parts_at d p q)))) is

  -- where nothing refuses it the dataset is there
  plan_there : optimize_refused w name p q ≡ None → (d : Dataset) × (set_named w name ≡ Some d)
  plan_there = by (set_named w name)
    where
      by : (o : Option Dataset) → refused_in name o p q ≡ None → (d : Dataset) × (o ≡ Some d)
      by None none = absurd cc
      by (Some d) none = (d, refl)

  module _ (allowed : optimize_refused w name p q ≡ None) (d : Dataset) (is : set_named w name ≡ Some d) where
    abbrev move_is : Move
    move_is = BeginPlan d.cvd.number p q

    abbrev reply_is : Reply
    reply_is = optimized d p q (parts_at d p q)

    world_is : begun_in name p q w ≡ moved move_is w
    world_is = ap (λ o. with_plan o p q w) is

    deed_does : deed_is ≡ does s move_is reply_is
    deed_does =
        ap (optimize_deed s name p q) is
        ∙ ap (λ o. unless s o (does s move_is reply_is)) (sym (ap (λ o. refused_in name o p q) is) ∙ allowed)

    either_is : Only old.tape new.tape (IsEither w (begun_in name p q w) (printed_of old)) → Only old.tape new.tape (IsEither w (moved move_is w) (printed_of old))
    either_is stops = subst (λ (v : World). Only old.tape new.tape (IsEither w v (printed_of old))) world_is stops

    plan_does : (r : Reply) → r ≡ reply_is → Only old.tape new.tape (IsEither w (begun_in name p q w) (printed_of old)) → IsAtNext (begun_in name p q w) now.held old new
        → ((entry : Entry) (past : List Made) → IsWithin entry past before.held → IsWithin entry (and_made past move_is w) now.held)
        → Does deed_is s s w r before.held now.held old new
    plan_does r same stops next within =
        subst (λ (x : Reply). Does deed_is s s w x before.held now.held old new) (sym same)
        (does_move deed_is s s w move_is reply_is before.held now.held old new deed_does (either_is stops) (subst (λ (v : World). IsAtNext v now.held old new) world_is next) within)

    plan_breaks : Only old.tape new.tape (IsEither w (begun_in name p q w) (printed_of old)) → Breaks deed_is s w old new
    plan_breaks stops = breaks_move deed_is s s w move_is reply_is old new deed_does (either_is stops)

    plan_full : new.tells ≡ old.tells → new.tape ≡ old.tape → ((entry : Entry) (past : List Made) → IsWithin entry past before.held → IsPlanLack entry past move_is w why.JournalFull)
        → Does deed_is s s w (says.Refused (no.JournalFull None)) before.held before.held old new
    plan_full told tape lacks = does_full deed_is s s w move_is reply_is before.held old new deed_does at told tape lacks

  -- it began
  pub plan_done : (report : Report) → optimize_refused w name p q ≡ None → ((d : Dataset) → set_named w name ≡ Some d → IsReport d p q report)
      → Only old.tape new.tape (IsEither w (begun_in name p q w) (printed_of old)) → IsAtNext (begun_in name p q w) now.held old new
      → ((d : Dataset) (entry : Entry) (past : List Made) → set_named w name ≡ Some d → IsWithin entry past before.held
      → IsWithin entry (and_made past (BeginPlan d.cvd.number p q) w) now.held)
      → Does deed_is s s w (says.Optimize report.depth report.partitions report.stored report.records report.members report.cost report.steps) before.held now.held old new
  plan_done report allowed tells stops next within =
      let there = plan_there allowed
      in plan_does allowed there.0 there.1 _ (tells there.0 there.1) stops next (λ entry past in_. within there.0 entry past there.1 in_)

  -- or it didn't
  module _ (stays : (now ≡ before) × Looked old new) where
    tape_is : new.tape ≡ old.tape
    tape_is = stays.1.tape at.at.told

    refused_for : (refusal : Refusal) (r : Reply) → optimize_refused w name p q ≡ Some refusal → Some (says.Refused refusal) ≡ Some r → Does deed_is s s w r before.held before.held old new
    refused_for refusal r is said =
        subst (λ (x : Reply). Does deed_is s s w x before.held before.held old new) (some_reply (says.Refused refusal) r said)
        (does_told deed_is s s w (says.Refused refusal) before.held old new (deed_refused refusal is) at stays.1.told tape_is)

    refused_so : (off : PlanErr) (r : Reply) → plan_reply name off ≡ Some r → IsPlanRefused name (optimize_refused w name p q) off
        → ((d : Dataset) (entry : Entry) (past : List Made) → set_named w name ≡ Some d → IsWithin entry past before.held → IsPlanLack entry past (BeginPlan d.cvd.number p q) w off)
        → Does deed_is s s w r before.held before.held old new
    refused_so why.Host r said is lacks = absurd cc
    refused_so why.Memory r said is lacks = absurd cc
    refused_so (why.Damaged area place) r said is lacks = absurd cc
    refused_so why.JournalFull r said is lacks =
        let there = plan_there is
        in subst (λ (x : Reply). Does deed_is s s w x before.held before.held old new) (some_reply (says.Refused (no.JournalFull None)) r said)
        (plan_full is there.0 there.1 stays.1.told tape_is (λ entry past in_. lacks there.0 entry past there.1 in_))
    refused_so why.NoCvd r said is lacks = refused_for (no.NoCvd name) r is said
    refused_so why.BadThreshold r said is lacks = refused_for no.BadThreshold r is said
    refused_so why.Migrating r said is lacks = refused_for (no.Migrating name) r is said
    refused_so why.NoNumbers r said is lacks = refused_for (no.NoNumbers name) r is said

  plan_cut : Only old.tape new.tape (IsEither w (begun_in name p q w) (printed_of old))
      → ((refusal : Refusal) → optimize_refused w name p q ≡ Some refusal → Only old.tape new.tape (IsWorld w (printed_of old))) → Breaks deed_is s w old new
  plan_cut stops still = by (optimize_refused w name p q) refl
    where
      by : (o : Option Refusal) → optimize_refused w name p q ≡ o → Breaks deed_is s w old new
      by None none = let there = plan_there none in plan_breaks none there.0 there.1 stops
      by (Some refusal) is = breaks_where deed_is s w old new (IsWorld w (printed_of old)) (λ c on. on.stands) (λ c on. on.printed_is) (still refusal is)

  pub plan_off_by : (off : PlanErr) (result : Result Reply EndErr) → IfOk result (λ r. plan_reply name off ≡ Some r) → IsPlanRefused name (optimize_refused w name p q) off
      → ((d : Dataset) (entry : Entry) (past : List Made) → set_named w name ≡ Some d → IsWithin entry past before.held → IsPlanLack entry past (BeginPlan d.cvd.number p q) w off)
      → StaysBy off before now old new → Only old.tape new.tape (IsEither w (begun_in name p q w) (printed_of old))
      → ((refusal : Refusal) → optimize_refused w name p q ≡ Some refusal → Only old.tape new.tape (IsWorld w (printed_of old)))
      → Acts deed_is s s w result before.held now.held old new
  plan_off_by off (Ok r) said is lacks stays stops still =
      let kept = stays (no_host name off r said)
      in subst (λ (k : Kept). Does deed_is s s w r before.held k.held old new) (sym kept.0) (refused_so kept off r said is lacks)
  plan_off_by off (Err e) said is lacks stays stops still = plan_cut stops still

-- ---- as a command

-- where it is refused no plan runs that ran before
pub refused_none : (r : Result Reply EndErr) (before now : Kept) → OnOk r (now ≡ before) → running before.held.numbers ≡ None → OnOk r (running now.held.numbers ≡ None)
refused_none (Ok reply) before now same none = subst (λ (k : Kept). running k.held.numbers ≡ None) (sym same) none
refused_none (Err e) before now same none = tt
