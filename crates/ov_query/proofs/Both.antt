-- Two readings, one after the other.
use Rattle.std.proofs.Common.{◌≡◌, ◌∙◌, inl, inr, ℕ, true, List, [], ◌∷◌, Some, None, sym, subst}
use Rattle.std.specs.Prelude.{Option}
use Rattle.ov_host.specs.Host.{State}
use Rattle.ov_fetch.proofs.Looks.{same_pages}
use Rattle.ov_fetch.specs.Extents.{Looked}
use Rattle.ov_read.specs.Damages.{IsDamage}
use Rattle.ov_store.specs.Scanning.{IsDamagedIn}
use Rattle.ov_query.specs.Queries.{AreDamaged, Reading, Set}

-- ---- damage stays where a host is only looked at

damaged_since : (o : Option Set) (vids : List ℕ) (old new : State) → Looked old new → (page : ℕ) → IsDamagedIn o vids old page → IsDamagedIn o vids new page
damaged_since None vids old new looked page is = absurd is
damaged_since (Some set) vids old new looked page is = λ tells.
    let told : old.tells ≡ true = sym looked.told ∙ tells
    in subst (λ (area : List ℕ). IsDamage area set vids page) (sym (same_pages old new looked told)) (is told)

module _ (a b : Reading) (old mid new : State) (looked : Looked old mid) (whole : (page : ℕ) → old.tells ≡ true → IsDamagedIn a.set a.vids old page → ⊥) where
  -- an answer over both readings
  pub both_whole : old.tells ≡ true → (page : ℕ) → (IsDamagedIn b.set b.vids mid page → ⊥) → AreDamaged (a ∷ b ∷ []) old page → ⊥
  both_whole told page sound (inl first) = whole page told first
  both_whole told page sound (inr second) = sound (damaged_since b.set b.vids old mid looked page second.1)
