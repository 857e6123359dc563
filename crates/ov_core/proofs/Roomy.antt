-- Where there are runs for both, neither finds none.
use Rattle.std.proofs.Common.{◌≡◌, inl, inr, ℕ, ◌<◌, List, [], ◌∷◌, refl, sym, ◌∙◌, subst, arith}
use Rattle.ov_host.specs.declared.area.Extent.{Extent}
use Rattle.ov_core.specs.Rooms.{HasNone, HaveRuns, IsFull, IsLowest, IsNoRun, IsRun, pages_for}

finds_one : (live : List Extent) (bytes : List ℕ) (e : Extent) (pages : ℕ) → IsRun live bytes e → IsNoRun live bytes pages → ⊥
finds_one live bytes e pages run none = by (run.lowest none.some) none.none
  where
    by : IsLowest live (pages_for bytes) e.page → HasNone live (pages_for bytes) → ⊥
    by low (inl many) = omega (arith, low.few, many)
    by low (inr nowhere) = nowhere e.page low.run

-- of one run there is one extent
same_page : (live : List Extent) (bytes : List ℕ) (a b : Extent) → IsRun live bytes a → IsRun live bytes b → a.page ≡ b.page
same_page live [] a b here there = here.empty refl ∙ sym (there.empty refl)
same_page live (byte ∷ bytes) a b here there =
    let one = here.lowest (omega arith)
    in let two = there.lowest (omega arith)
    in equal (λ lower. two.lowest a.page lower one.run) (λ lower. one.lowest b.page lower two.run) where
      equal : (a.page < b.page → ⊥) → (b.page < a.page → ⊥) → a.page ≡ b.page
      equal before after = omega (arith, before, after)

same_run : (live : List Extent) (bytes : List ℕ) (a b : Extent) → IsRun live bytes a → IsRun live bytes b → a ≡ b
same_run live bytes a b here there =
    let page : a.page ≡ b.page = same_page live bytes a b here there
    in let size : a.bytes ≡ b.bytes = here.size ∙ sym there.size
    in λ i. record { page = page i; bytes = size i }

pub not_full : (live : List Extent) (list segment : List ℕ) (pages : ℕ) → HaveRuns live list segment → IsFull live list segment pages → ⊥
not_full live list segment pages (l, s, placed) (inl none) = finds_one live list l pages placed.list_run none
not_full live list segment pages (l, s, placed) (inr (other, run, none)) =
    let same : other ≡ l = same_run live list other l run placed.list_run
    in finds_one (l ∷ live) segment s pages placed.segment_run (subst (λ (e : Extent). IsNoRun (e ∷ live) segment pages) same none)
