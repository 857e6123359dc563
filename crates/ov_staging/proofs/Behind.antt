-- What came next, behind the read of the last rows.
use Rattle.std.proofs.Common.{◌≡◌, ◌∙◌, inl, inr, ℕ, true, List, sym, subst}
use Rattle.std.specs.Prelude.{Some, None, Option, Ok, Err, Result, IfErr, IfOk}
use Rattle.ov_fetch.specs.Extents.{Looked}
use Rattle.ov_host.specs.Host.{State}
use Rattle.ov_model.specs.Book.{Row}
use Rattle.ov_model.specs.declared.refusal.Refusal.{Refusal}
use Rattle.ov_model.specs.declared.reply.Reply.{Reply}
use Rattle.ov_model.specs.declared.reply.Reply.TheVariants as says
use Rattle.ov_registry.specs.Last.{AreLast, IsLastDamaged, schema_of}
use Rattle.ov_registry.specs.declared.registry.Registry.{Registry}
use Rattle.ov_store.specs.Committing.{Set}
use Rattle.ov_store.specs.Kept.{Kept}
use Rattle.ov_staging.specs.Changing.{AreRowsDamaged, Change, IsAnswered, IsChangeDamaged, IsDamagedBy, IsKeptBy, IsNextBy, IsNextDamaged}
use Rattle.ov_staging.specs.Errors.{IsEnd, Stays}
use Rattle.ov_staging.specs.Reading.{foreign_off}
use Rattle.ov_staging.specs.declared.changing.Next.{Next}
use Rattle.ov_staging.specs.declared.changing.Next.TheVariants as next
use Rattle.ov_staging.specs.declared.errors.StagingErr.{StagingErr}
use Rattle.ov_staging.specs.declared.errors.StagingErr.TheVariants as ending
use Rattle.ov_staging.proofs.Looks.{alike, alike_back, damaged_again, damaged_by, last_again, rose_later, rows_again}

pub is_said : (r : Result Reply StagingErr) (refusal : Refusal) → r ≡ Ok (says.Refused refusal) → IfOk r (λ reply. reply ≡ says.Refused refusal)
is_said (Ok reply) refusal is = cc
is_said (Err e) refusal is = tt

module _ (which : Registry) (change : Change) (before now : Kept) (old mid new : State) (looked : Looked old mid) where
  told_then : Looked mid new → new.tells ≡ true → mid.tells ≡ true
  told_then later told = sym later.told ∙ told

  told_first : Looked mid new → new.tells ≡ true → old.tells ≡ true
  told_first later told = sym looked.told ∙ told_then later told

  change_met : (set : Option Set) (rows last : List Row) (page : ℕ) → Looked mid new → AreLast set old last → rows ≡ change.rows last
      → AreRowsDamaged which set rows before.held mid page → IsChangeDamaged which set change.rows before.held new page
  change_met None rows last page later are is bad = absurd bad
  change_met (Some d) rows last page later are is bad = λ told. (
    last,
    last_again mid new (alike mid new later) d last told (last_again old mid (alike old mid looked) d last (told_then later told) (are (told_first later told))),
    subst (λ (l : List Row). AreRowsDamaged which (Some d) l before.held new page) is (rows_again mid new (alike mid new later) which (Some d) rows before.held page bad),
  )

  answered_by : (set : Option Set) (said reply : Reply) (n : Next) → IsNextBy (schema_of which) change set old n → IsKeptBy which set n said reply before now mid new
      → IsAnswered which set change said reply before now old new
  answered_by set said reply (next.Refused refusal) by kept =
      inl (record { refusal = refusal; by = by; reply_is = kept.0; same = kept.1; looked = subst (Looked old) (sym kept.2) looked })
  answered_by set said reply (next.Rows rows) by kept = inr (record { rows = rows.items; mid = mid; by = by; looked = looked; changed = kept })

  pub answered_as : (set : Option Set) (said : Reply) (n : Next) (r : Result Reply StagingErr) → IsNextBy (schema_of which) change set old n
      → IfOk r (λ reply. IsKeptBy which set n said reply before now mid new) → IfOk r (λ reply. IsAnswered which set change said reply before now old new)
  answered_as set said n (Ok reply) by kept = answered_by set said reply n by kept
  answered_as set said n (Err e) by kept = tt

  module _ (set : Option Set) where
    abbrev pub IsMet : ℕ → Type 0
    IsMet page = (foreign_off (schema_of which) set ≡ None) × IsDamagedBy which set change.rows before.held new page

    module _ (whole : (page : ℕ) → old.tells ≡ true → foreign_off (schema_of which) set ≡ None → IsLastDamaged set old page → ⊥) where
      -- the last rows are not damaged
      clear : Looked mid new → foreign_off (schema_of which) set ≡ None → new.tells ≡ true → (other : ℕ) → IsLastDamaged set new other → ⊥
      clear later own told other bad =
          whole other (told_first later told) own
          (damaged_again mid old (alike_back old mid (alike old mid looked)) set other
          (damaged_again new mid (alike_back mid new (alike mid new later)) set other bad))

      next_met : (n : Next) (page : ℕ) → IsNextBy (schema_of which) change set old n → Looked mid new → IsNextDamaged which set n before.held mid page → IsMet page
      next_met (next.Refused refusal) page by later bad = absurd bad
      next_met (next.Rows rows) page by later bad =
          (by.0, damaged_by which set change.rows before.held new page (clear later by.0) (change_met set rows.items by.1 page later by.2 by.4 bad))

      pub kept_end : (n : Next) (e : StagingErr) → IsNextBy (schema_of which) change set old n → Stays e before now mid new
          → IsEnd (λ page. IsNextDamaged which set n before.held mid page) mid new e → IsEnd IsMet old new e
      kept_end n ending.Host by stays is = rose_later old.faults mid.faults new.faults looked.faults is
      kept_end n ending.Memory by stays is = tt
      kept_end n (ending.Damaged area at) by stays is = (is.0, next_met n at by stays.1 is.1)

      pub kept_ends : (n : Next) (r : Result Reply StagingErr) → IsNextBy (schema_of which) change set old n → IfErr r (λ e. Stays e before now mid new)
          → IfErr r (IsEnd (λ page. IsNextDamaged which set n before.held mid page) mid new) → IfErr r (IsEnd IsMet old new)
      kept_ends n (Ok reply) by stays is = tt
      kept_ends n (Err e) by stays is = kept_end n e by stays is
