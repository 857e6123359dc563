-- What is read of a host is the same after a look at it.
use Rattle.std.proofs.Common.{◌≡◌, ◌≤◌, ◌∙◌, inl, inr, ℕ, Bool, true, false, List, [], ◌∷◌, length, refl, sym, ap, subst, arith}
use Rattle.std.specs.Prelude.{Some, None, Option, Ok, Err, Result, IfErr, IfOk, OnOk}
use Rattle.std.specs.List.{AllZip}
use Rattle.ov_core.specs.Held.{Held}
use Rattle.ov_fetch.specs.declared.errors.FetchErr.TheVariants as fetch
use Rattle.ov_fetch.specs.Extents.{Looked, page_bytes}
use Rattle.ov_fetch.proofs.Looks.{looked_again}
use Rattle.ov_host.specs.Host.{Rose, State}
use Rattle.ov_host.specs.Tape.{Tape}
use Rattle.ov_model.specs.Book.{Row}
use Rattle.ov_new_version.specs.Joined.{RefusesJoined, joined_of}
use Rattle.ov_parents.specs.Parents.{IsParent, RefusesParents}
use Rattle.ov_read.specs.Damages.{IsDamage}
use Rattle.ov_read.specs.Found.{IsScanned}
use Rattle.ov_registry.specs.Changing.{wish_of}
use Rattle.ov_registry.specs.Last.{IsLast, IsLastDamaged}
use Rattle.ov_registry.specs.declared.registry.Registry.{Registry}
use Rattle.ov_store.specs.Committing.{AreRead, IsDamagedAt, Set, Wish, asked_of}
use Rattle.ov_store.specs.Kept.{Kept}
use Rattle.ov_staging.specs.Changing.{AreRowsDamaged, IsChangeDamaged, IsDamagedBy}
use Rattle.ov_staging.specs.Errors.{IsEnd, Stays}
use Rattle.ov_staging.specs.declared.errors.StagingErr.{StagingErr}
use Rattle.ov_staging.specs.declared.errors.StagingErr.TheVariants as ending

-- the pages of one are those of the other
pub record AreAlike (a b : State) : Type 0 where
  pub told : b.tells ≡ a.tells
  pub pages : a.tells ≡ true → page_bytes b ≡ page_bytes a

pub alike : (a b : State) → Looked a b → AreAlike a b
alike a b looked = record { told = looked.told; pages = λ told. ap (λ (t : Tape). t.disk.pages.bytes) (looked.tape told) }

pub alike_back : (a b : State) → AreAlike a b → AreAlike b a
alike_back a b are = record { told = sym are.told; pages = λ told. sym (are.pages (sym are.told ∙ told)) }

pub alike_same : (s : State) → AreAlike s s
alike_same s = record { told = refl; pages = λ told. refl }

module _ (a b : State) (are : AreAlike a b) where
  before : b.tells ≡ true → a.tells ≡ true
  before told = sym are.told ∙ told

  pub last_again : (d : Set) (rows : List Row) → b.tells ≡ true → IsLast d a rows → IsLast d b rows
  last_again d rows told is = record {
    records = is.records;
    pick = is.pick;
    scanned = subst (λ (bytes : List ℕ). IsScanned bytes d is.records (length d.versions) is.pick) (sym (are.pages (before told))) is.scanned;
    rows_are = is.rows_are;
  }

  -- damage of the last rows
  pub damaged_again : (set : Option Set) (page : ℕ) → IsLastDamaged set a page → IsLastDamaged set b page
  damaged_again None page (inl is) = absurd is
  damaged_again None page (inr is) = absurd is
  damaged_again (Some d) page (inl is) =
      inl (λ told. subst (λ (bytes : List ℕ). IsDamage bytes d (length d.versions ∷ []) page) (sym (are.pages (before told))) (is (before told)))
  damaged_again (Some d) page (inr is) =
      inr (λ told. let twice = is (before told) in (twice.0, last_again d twice.0 told twice.1, twice.2, twice.3))

  -- damage of what a Commit reads
  read_again : (d : Set) (wish : Wish) (parents : _) → b.tells ≡ true → AreRead d wish a parents → AreRead d wish b parents
  read_again d wish parents told is = record {
    agree = is.agree;
    read = λ again. subst (λ (bytes : List ℕ). AllZip (IsParent bytes d) wish.vids parents) (sym (are.pages (before told))) (is.read (before told));
  }

  commit_again : (d : Set) (wish : Wish) (page : ℕ) → IsDamagedAt d wish a page → IsDamagedAt d wish b page
  commit_again d wish page is = λ told.
      let same : page_bytes a ≡ page_bytes b = sym (are.pages (before told))
      in elim (is (before told)) [
        | inl parent ↦ inl (subst (λ (bytes : List ℕ). RefusesParents (fetch.Damaged page) bytes d wish.vids) same parent)
        | inr joined ↦
            inr (
              joined.0,
              read_again d wish joined.0 told joined.1,
              joined.2,
              subst (λ (bytes : List ℕ). RefusesJoined (fetch.Damaged page) d bytes (joined_of (asked_of d wish joined.0))) same joined.3,
            )
      ]

  pub rows_again : (which : Registry) (set : Option Set) (rows : List Row) (held : Held) (page : ℕ) → AreRowsDamaged which set rows held a page
      → AreRowsDamaged which set rows held b page
  rows_again which None rows held page is = is
  rows_again which (Some d) rows held page is = (is.0, is.1, is.2, commit_again d (wish_of d is.0) page is.3)

-- ---- ends

pub rose_later : (a b c : ℕ) → a ≤ b → Rose b c → Rose a c
rose_later a b c less rose = omega (arith, less, rose)

pub end_wider : (P Q : ℕ → Type 0) (old new : State) (e : StagingErr) → ((page : ℕ) → P page → Q page) → IsEnd P old new e → IsEnd Q old new e
end_wider P Q old new ending.Host wider is = is
end_wider P Q old new ending.Memory wider is = tt
end_wider P Q old new (ending.Damaged area at) wider is = (is.0, wider at is.1)

-- behind a look
pub end_later : (P Q : ℕ → Type 0) (old mid new : State) (e : StagingErr) → Looked old mid → ((page : ℕ) → P page → Q page) → IsEnd P mid new e → IsEnd Q old new e
end_later P Q old mid new ending.Host looked wider is = rose_later old.faults mid.faults new.faults looked.faults is
end_later P Q old mid new ending.Memory looked wider is = tt
end_later P Q old mid new (ending.Damaged area at) looked wider is = (is.0, wider at is.1)

pub stays_later : (e : StagingErr) (k l : Kept) (s t u : State) → Looked s t → Stays e k l t u → Stays e k l s u
stays_later ending.Host k l s t u looked is = tt
stays_later ending.Memory k l s t u looked is = (is.0, looked_again s t u looked is.1)
stays_later (ending.Damaged area at) k l s t u looked is = (is.0, looked_again s t u looked is.1)

pub looked_stays : (e : StagingErr) (k : Kept) (s t : State) → Looked s t → Stays e k k s t
looked_stays ending.Host k s t looked = tt
looked_stays ending.Memory k s t looked = (refl, looked)
looked_stays (ending.Damaged area at) k s t looked = (refl, looked)

-- ---- results

pub map_err : {A E : Type 0} (P Q : E → Type 0) (r : Result A E) → ((e : E) → P e → Q e) → IfErr r P → IfErr r Q
map_err P Q (Ok a) to p = tt
map_err P Q (Err e) to p = to e p

pub map_if : {A E : Type 0} (P Q : A → Type 0) (r : Result A E) → ((a : A) → P a → Q a) → IfOk r P → IfOk r Q
map_if P Q (Ok a) to p = to a p
map_if P Q (Err e) to p = tt

pub map_ok : {A B : Type 0} (P Q : Type 0) (r : Result A B) → (P → Q) → OnOk r P → OnOk r Q
map_ok P Q (Ok a) to p = to p
map_ok P Q (Err e) to p = tt

pub on_any : {A B : Type 0} (P : Type 0) (r : Result A B) → P → OnOk r P
on_any P (Ok a) p = p
on_any P (Err e) p = tt

-- the last rows, or else what the Commit reads; a host that tells nothing may name any page
pub damaged_by : (which : Registry) (set : Option Set) (rows : List Row → List Row) (held : Held) (s : State) (page : ℕ)
    → (s.tells ≡ true → (other : ℕ) → IsLastDamaged set s other → ⊥) → IsChangeDamaged which set rows held s page → IsDamagedBy which set rows held s page
damaged_by which None rows held s page whole is = absurd is
damaged_by which (Some d) rows held s page whole is = by s.tells refl
  where
    by : (t : Bool) → s.tells ≡ t → IsDamagedBy which (Some d) rows held s page
    by true told = inr (whole told, is)
    by false silent = inl (inl (λ told. absurd (true_false (sym told ∙ silent))))
      where
        true_false : true ≡ false → ⊥
        true_false e = cc
