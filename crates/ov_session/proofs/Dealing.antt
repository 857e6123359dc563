-- What a command is dealt with by, and that nothing is damaged at a World.
use Rattle.std.proofs.Common.{◌≡◌, ◌∙◌, ℕ, List, Some, None, true, inl, inr, refl, sym, ap, subst}
use Rattle.std.specs.List.{AllZip}
use Rattle.std.specs.Prelude.{IfErr, Ok, Err, Option, Result}
use Rattle.ov_host.specs.declared.area.Area.{Area}
use Rattle.ov_host.specs.Host.{State}
use Rattle.ov_host.specs.Stage.{Staged}
use Rattle.ov_host.specs.Tape.{Tape}
use Rattle.ov_fetch.specs.Extents.{Looked, page_bytes}
use Rattle.ov_fetch.specs.declared.errors.FetchErr.TheVariants as fetch
use Rattle.ov_parents.specs.Parents.{IsParent, RefusesParents}
use Rattle.ov_new_version.specs.Joined.{RefusesJoined, joined_of}
use Rattle.ov_value.specs.declared.column.Column.{Column}
use Rattle.ov_core.specs.AtWorld.{IsAtWorld}
use Rattle.ov_core.specs.Held.{Held}
use Rattle.ov_model.specs.Book.{Row}
use Rattle.ov_read.specs.Damages.{IsDamage as IsDamageRead}
use Rattle.ov_model.specs.World.{Dataset, World, set_named}
use Rattle.ov_model.specs.declared.reply.Reply.{Reply}
use Rattle.ov_session.specs.Commands.{AreRowsOf, IsCommitDamaged, IsDamageOf, IsNoDamage, IsNoHost, IsScanDamaged}
use Rattle.ov_session.specs.Errors.{end_of}
use Rattle.ov_session.specs.Reads.{commit_row_off}
use Rattle.ov_session.specs.declared.errors.EndErr.{EndErr}
use Rattle.ov_session.specs.declared.errors.EndErr.TheVariants as ending
use Rattle.ov_store.proofs.Deciding.{world_named}
use Rattle.ov_store.proofs.Finishing.{set_there}
use Rattle.ov_store.specs.Committing.{IfSet, IsDamagedAt, IsUncommitted, Set, Wish, asked_of, commit_off, schema_for}
use Rattle.ov_store.specs.Kept.{Kept, Stays}
use Rattle.ov_store.specs.Scanning.{IsDamagedIn, IsUndamaged, IsUnscanned, scan_off, set_in, versions_off}
use Rattle.ov_store.specs.Worlds.{IsRefusedAs, version_refusal}
use Rattle.ov_store.specs.declared.errors.StoreErr.{StoreErr}
use Rattle.ov_store.specs.declared.errors.StoreErr.TheVariants as why

-- ---- no damage

some_end : (a b : EndErr) → Some a ≡ Some b → IsNoDamage a → IsNoDamage b
some_end a b is fine = subst IsNoDamage (ap (λ o. elim o as (λ _. EndErr) [ None ↦ a | Some x ↦ x ]) is) fine

pub end_spared : (off : StoreErr) (e : EndErr) → end_of off ≡ Some e → IsUndamaged off → IsNoDamage e
end_spared why.Host e is fine = some_end ending.Host e is tt
end_spared why.Memory e is fine = some_end ending.Memory e is tt
end_spared (why.Damaged area at) e is fine = absurd fine
end_spared (why.Full pages) e is fine = absurd cc
end_spared why.JournalFull e is fine = absurd cc
end_spared why.NoCvd e is fine = absurd cc
end_spared why.CvdExists e is fine = absurd cc
end_spared (why.NoVersion vid) e is fine = absurd cc
end_spared (why.RepeatedVersion vid) e is fine = absurd cc
end_spared (why.DuplicateKey row) e is fine = absurd cc
end_spared why.TooManyVersions e is fine = absurd cc
end_spared why.TooManyRecords e is fine = absurd cc
end_spared why.TooManyRows e is fine = absurd cc
end_spared why.TooManyCvds e is fine = absurd cc
end_spared why.NoNumbers e is fine = absurd cc
end_spared (why.FormatOne row) e is fine = absurd cc

pub result_spared : (off : StoreErr) (result : Result Reply EndErr) → IfErr result (λ e. end_of off ≡ Some e) → IsUndamaged off → IfErr result IsNoDamage
result_spared off (Ok reply) ends fine = tt
result_spared off (Err e) ends fine = end_spared off e ends fine

-- ---- damage

-- what is damaged is so of a host that was only looked at since
damaged_there : (s : Set) (wish : Wish) (page : ℕ) (old new : State) → Looked old new → IsDamagedAt s wish old page → IsDamagedAt s wish new page
damaged_there s wish page old new looked is = λ tells.
    let told : old.tells ≡ true = sym looked.told ∙ tells
    in let bytes : page_bytes old ≡ page_bytes new = ap (λ (t : Tape). page_bytes (record old { tape = t })) (sym (looked.tape told))
    in elim (is told) [
      | inl parents ↦ inl (subst (λ (b : List ℕ). RefusesParents (fetch.Damaged page) b s wish.vids) bytes parents)
      | inr joined ↦ inr (
        joined.0,
        record { agree = joined.1.agree; read = λ t. subst (λ (b : List ℕ). AllZip (IsParent b s) wish.vids joined.0) bytes (joined.1.read told) },
        joined.2,
        subst (λ (b : List ℕ). RefusesJoined (fetch.Damaged page) s b (joined_of (asked_of s wish joined.0))) bytes joined.3,
      )
    ]

damaged_in : (set : Option Set) (wish : Wish) (page : ℕ) (old new : State) → Looked old new → IfSet (λ s. IsDamagedAt s wish old page) set → IfSet (λ s. IsDamagedAt s wish new page) set
damaged_in None wish page old new looked is = absurd is
damaged_in (Some s) wish page old new looked is = damaged_there s wish page old new looked is

the_end : (a b : EndErr) → Some a ≡ Some b → a ≡ b
the_end a b is = ap (λ o. elim o as (λ _. EndErr) [ None ↦ a | Some x ↦ x ]) is

module _ (held : Held) (name cvd : List ℕ) (wish : Wish) (before now : Kept) (old new : State) (same : name ≡ cvd) where
  abbrev IsDamageAt : ℕ → Type 0
  IsDamageAt page = (commit_off held cvd wish.vids wish.added wish.rows ≡ None) × IfSet (λ s. IsDamagedAt s wish new page) (set_in held.numbers cvd)

  abbrev IsDamage : EndErr → Type 0
  IsDamage e = IsDamageOf IsDamageAt e

  end_damaged : (off : StoreErr) (e : EndErr) → end_of off ≡ Some e → IsUncommitted held name wish old new off → Stays off before now old new → IsDamage e
  end_damaged why.Host e is off stays = subst IsDamage (the_end ending.Host e is) tt
  end_damaged why.Memory e is off stays = subst IsDamage (the_end ending.Memory e is) tt
  end_damaged (why.Damaged area at) e is off stays =
      let none : commit_off held cvd wish.vids wish.added wish.rows ≡ None = subst (λ (n : List ℕ). commit_off held n wish.vids wish.added wish.rows ≡ None) same off.1
      in let damaged = damaged_in (set_in held.numbers cvd) wish at old new stays.1
      (subst (λ (n : List ℕ). IfSet (λ s. IsDamagedAt s wish old at) (set_in held.numbers n)) same off.2)
      in subst IsDamage (the_end (ending.Damaged area at) e is) (off.0, (none, damaged))
  end_damaged (why.Full pages) e is off stays = absurd cc
  end_damaged why.JournalFull e is off stays = absurd cc
  end_damaged why.NoCvd e is off stays = absurd cc
  end_damaged why.CvdExists e is off stays = absurd cc
  end_damaged (why.NoVersion vid) e is off stays = absurd cc
  end_damaged (why.RepeatedVersion vid) e is off stays = absurd cc
  end_damaged (why.DuplicateKey row) e is off stays = absurd cc
  end_damaged why.TooManyVersions e is off stays = absurd cc
  end_damaged why.TooManyRecords e is off stays = absurd cc
  end_damaged why.TooManyRows e is off stays = absurd cc
  end_damaged why.TooManyCvds e is off stays = absurd cc
  end_damaged why.NoNumbers e is off stays = absurd cc
  end_damaged (why.FormatOne row) e is off stays = absurd cc

  pub result_damaged : (off : StoreErr) (result : Result Reply EndErr) → IfErr result (λ e. end_of off ≡ Some e) → IsUncommitted held name wish old new off
      → Stays off before now old new → IfErr result IsDamage
  result_damaged off (Ok reply) ends is stays = tt
  result_damaged off (Err e) ends is stays = end_damaged off e ends is stays

-- the rows that are asked for are those of the file
module _ (held : Held) (cvd vids : List ℕ) (added : List Column) (message file : List ℕ) (stage : Staged) (rows : List Row) (s : State)
    (are : (set : Set) → set_in held.numbers cvd ≡ Some set → AreRowsOf (schema_for set.schema added) file stage rows)
    (none : commit_off held cvd vids added rows ≡ None → commit_row_off held.numbers cvd vids added ≡ None) where
  abbrev its_wish : Wish
  its_wish = record { vids = vids; message = message; added = added; rows = rows }

  abbrev IsDamagedYet : ℕ → Type 0
  IsDamagedYet page = (commit_off held cvd vids added rows ≡ None) × IfSet (λ set. IsDamagedAt set its_wish s page) (set_in held.numbers cvd)

  abbrev IsDamagedSo : ℕ → Type 0
  IsDamagedSo page = (commit_row_off held.numbers cvd vids added ≡ None) × IsCommitDamaged cvd vids added file message stage held s page

  and_rows : (page : ℕ) → IsDamagedYet page → IsDamagedSo page
  and_rows page is = (none is.0, (rows, is.0, by (set_in held.numbers cvd) are is.1))
    where
      by : (o : Option Set) → ((set : Set) → o ≡ Some set → AreRowsOf (schema_for set.schema added) file stage rows) → IfSet (λ set. IsDamagedAt set its_wish s page) o
          → IfSet (λ set. AreRowsOf (schema_for set.schema added) file stage rows × IsDamagedAt set its_wish s page) o
      by None are is = absurd is
      by (Some set) are is = (are set refl, is)

  pub result_and_rows : (result : Result Reply EndErr) → IfErr result (IsDamageOf IsDamagedYet) → IfErr result (IsDamageOf IsDamagedSo)
  result_and_rows (Ok reply) is = tt
  result_and_rows (Err ending.Host) is = tt
  result_and_rows (Err ending.Memory) is = tt
  result_and_rows (Err ending.Stage) is = tt
  result_and_rows (Err (ending.Damaged area at)) is = (is.0, and_rows at is.1)

-- ---- damage that a checkout meets

pub scanned_in : (set : Option Set) (vids : List ℕ) (page : ℕ) (old new : State) → Looked old new → IsDamagedIn set vids old page → IsDamagedIn set vids new page
scanned_in None vids page old new looked is = absurd is
scanned_in (Some set) vids page old new looked is = λ tells.
    let told : old.tells ≡ true = sym looked.told ∙ tells
    in subst (λ (b : List ℕ). IsDamageRead b set vids page) (ap (λ (t : Tape). page_bytes (record old { tape = t })) (sym (looked.tape told))) (is told)

module _ (held : Held) (name cvd vids : List ℕ) (old new : State) (same : name ≡ cvd) (looked : Looked old new) where
  abbrev IsScanDamage : EndErr → Type 0
  IsScanDamage e = IsDamageOf (IsScanDamaged cvd vids held new) e

  scan_end : (off : StoreErr) (e : EndErr) → end_of off ≡ Some e → IsUnscanned (scan_off held.numbers name vids) (set_in held.numbers name) vids old new off → IsScanDamage e
  scan_end why.Host e is off = subst IsScanDamage (the_end ending.Host e is) tt
  scan_end why.Memory e is off = subst IsScanDamage (the_end ending.Memory e is) tt
  scan_end (why.Damaged area at) e is off =
      let none : scan_off held.numbers cvd vids ≡ None = subst (λ (n : List ℕ). scan_off held.numbers n vids ≡ None) same off.1
      in let damaged = scanned_in (set_in held.numbers cvd) vids at old new looked (subst (λ (n : List ℕ). IsDamagedIn (set_in held.numbers n) vids old at) same off.2)
      in subst IsScanDamage (the_end (ending.Damaged area at) e is) (off.0, (none, damaged))
  scan_end (why.Full pages) e is off = absurd cc
  scan_end why.JournalFull e is off = absurd cc
  scan_end why.NoCvd e is off = absurd cc
  scan_end why.CvdExists e is off = absurd cc
  scan_end (why.NoVersion vid) e is off = absurd cc
  scan_end (why.RepeatedVersion vid) e is off = absurd cc
  scan_end (why.DuplicateKey row) e is off = absurd cc
  scan_end why.TooManyVersions e is off = absurd cc
  scan_end why.TooManyRecords e is off = absurd cc
  scan_end why.TooManyRows e is off = absurd cc
  scan_end why.TooManyCvds e is off = absurd cc
  scan_end why.NoNumbers e is off = absurd cc
  scan_end (why.FormatOne row) e is off = absurd cc

  pub scan_damaged : (off : StoreErr) (result : Result Reply EndErr) → IfErr result (λ e. end_of off ≡ Some e)
      → IsUnscanned (scan_off held.numbers name vids) (set_in held.numbers name) vids old new off → IfErr result IsScanDamage
  scan_damaged off (Ok reply) ends is = tt
  scan_damaged off (Err e) ends is = scan_end off e ends is

  -- no damage at all
  pub spared_damaged : (result : Result Reply EndErr) → IfErr result IsNoHost → IfErr result IsScanDamage
  spared_damaged (Ok reply) alone = tt
  spared_damaged (Err ending.Host) alone = tt
  spared_damaged (Err ending.Memory) alone = tt
  spared_damaged (Err ending.Stage) alone = tt
  spared_damaged (Err (ending.Damaged area at)) alone = absurd alone

-- ---- what damage comes to

pub damage_wider : (P Q : ℕ → Type 0) (e : EndErr) → ((page : ℕ) → P page → Q page) → IsDamageOf P e → IsDamageOf Q e
damage_wider P Q ending.Host wider is = tt
damage_wider P Q ending.Memory wider is = tt
damage_wider P Q ending.Stage wider is = tt
damage_wider P Q (ending.Damaged area at) wider is = (is.0, wider at is.1)

-- ---- no host

pub no_host : (e : EndErr) → IsNoHost e → IsNoDamage e
no_host ending.Host is = tt
no_host ending.Stage is = tt
no_host ending.Memory is = tt
no_host (ending.Damaged area at) is = absurd is

pub result_no_host : (result : Result Reply EndErr) → IfErr result IsNoHost → IfErr result IsNoDamage
result_no_host (Ok reply) is = tt
result_no_host (Err e) is = no_host e is

module _ (w : World) (held : Held) (s : State) (at : IsAtWorld w held s) (name : List ℕ) where
  pub commit_spared : (wish : Wish) (t : State) (e : StoreErr) → IsUncommitted held name wish s t e
      → ((d : Dataset) → set_named w name ≡ Some d → IsRefusedAs name (version_refusal w d wish) e) → IsUndamaged e
  commit_spared wish t (why.Damaged area place) is refused =
      let there = set_there held name wish.vids wish.added wish.rows is.1
      in let d = world_named w held s at name there.0 there.1
      in refused d.0 d.1
  commit_spared wish t why.Host is refused = tt
  commit_spared wish t why.Memory is refused = tt
  commit_spared wish t (why.Full pages) is refused = tt
  commit_spared wish t why.JournalFull is refused = tt
  commit_spared wish t why.NoCvd is refused = tt
  commit_spared wish t why.CvdExists is refused = tt
  commit_spared wish t (why.NoVersion vid) is refused = tt
  commit_spared wish t (why.RepeatedVersion vid) is refused = tt
  commit_spared wish t (why.DuplicateKey row) is refused = tt
  commit_spared wish t why.TooManyVersions is refused = tt
  commit_spared wish t why.TooManyRecords is refused = tt
  commit_spared wish t why.TooManyRows is refused = tt
  commit_spared wish t why.TooManyCvds is refused = tt
  commit_spared wish t why.NoNumbers is refused = tt
  commit_spared wish t (why.FormatOne row) is refused = tt

  pub scan_spared : (vids : List ℕ) (t : State) (e : StoreErr) → IsUnscanned (scan_off held.numbers name vids) (set_in held.numbers name) vids s t e
      → ((d : Dataset) → set_named w name ≡ Some d → IsUndamaged e) → IsUndamaged e
  scan_spared vids t e is spared = by (set_in held.numbers name) refl e is spared
    where
      gone : (area : Area) (page : ℕ) → versions_off None vids ≡ None → ⊥
      gone area page off = cc

      by : (o : Option Set) → set_in held.numbers name ≡ o → (e : StoreErr) → IsUnscanned (scan_off held.numbers name vids) (set_in held.numbers name) vids s t e
          → ((d : Dataset) → set_named w name ≡ Some d → IsUndamaged e) → IsUndamaged e
      by (Some set) found e is spared = let d = world_named w held s at name set found in spared d.0 d.1
      by None none (why.Damaged area place) is spared = gone area place (sym (ap (λ o. versions_off o vids) none) ∙ is.1)
      by None none why.Host is spared = tt
      by None none why.Memory is spared = tt
      by None none (why.Full pages) is spared = tt
      by None none why.JournalFull is spared = tt
      by None none why.NoCvd is spared = tt
      by None none why.CvdExists is spared = tt
      by None none (why.NoVersion vid) is spared = tt
      by None none (why.RepeatedVersion vid) is spared = tt
      by None none (why.DuplicateKey row) is spared = tt
      by None none why.TooManyVersions is spared = tt
      by None none why.TooManyRecords is spared = tt
      by None none why.TooManyRows is spared = tt
      by None none why.TooManyCvds is spared = tt
      by None none why.NoNumbers is spared = tt
      by None none (why.FormatOne row) is spared = tt
