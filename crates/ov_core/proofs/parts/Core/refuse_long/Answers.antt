use Rattle.std.proofs.Common.{◌≡◌, ◌<◌, ◌≤◌, ◌^◌, ◌∷◌, ℕ, List, length, arith, subst, sym, inl, inr}
use Rattle.ov_host.specs.declared.area.Extent.{Extent}
use Rattle.ov_catalog.specs.Extents.{live}
use Rattle.ov_core.specs.Held.{Held}
use Rattle.ov_core.specs.Rooms.{IsFull, IsNoRun, pages_for}
use Rattle.ov_core.proofs.Reserving.{a_run, nowhere, no_run, none_is}
use Rattle.ov_core.proofs.parts.Core.refuse_long.Goals as goal

-- a segment of 2^20 pages or more finds no run
too_long : (es : List Extent) (segment : List ℕ) (pages : ℕ) → pages_for segment ≡ pages → 2 ^ 20 ≤ pages → IsNoRun es segment pages
too_long es segment pages is long = record {
  some = omega (arith, is, long);
  none = inl (omega (arith, is, long));
  pages_are = sym is;
}

pub returns-then-list_pages-eq0-clause-why : goal.returns-then-list_pages-eq0-clause-why
returns-then-list_pages-eq0-clause-why c = λ list segment few many.
    let none : length list ≡ 0 = omega (arith, few, c.if-list_pages-eq0.true)
    in inr (nowhere, no_run (live c.args.self.now.numbers) list none, too_long (nowhere ∷ live c.args.self.now.numbers) segment c.args.segment_pages many c.requires.segment)

pub returns-in-Ok-clause-why : goal.returns-in-Ok-clause-why
returns-in-Ok-clause-why c = λ list segment few many.
    let some : 0 < length list = omega (arith, few, c.if-list_pages-eq0.false)
    in let l : Extent = record { page = c.in-Ok.page; bytes = length list }
    in subst (λ (held : Held). IsFull (live held.numbers) list segment c.args.segment_pages) c.self.view_is
    (inr (
      l,
      a_run (live c.self.inside.catalog.numbers) c.self.inside.pages c.self.invariant.0 list c.args.list_pages c.in-Ok.page some (sym few) c.in-Ok.ensures.lowest
          (λ refused. let no = c.in-Ok.ensures.full.1 refused in absurd cc),
      too_long (l ∷ live c.self.inside.catalog.numbers) segment c.args.segment_pages many c.requires.segment,
    ))

pub returns-in-Err-Full-clause-why : goal.returns-in-Err-Full-clause-why
returns-in-Err-Full-clause-why c = λ list segment few many.
    let some : 0 < length list = omega (arith, few, c.if-list_pages-eq0.false)
    in subst (λ (held : Held). IsFull (live held.numbers) list segment c.args.list_pages) c.self.view_is
    (inl (none_is (live c.self.inside.catalog.numbers) c.self.inside.pages c.self.invariant.0 list c.args.list_pages 0 some (sym few)
    (c.reserve.ensures.full.0 (let is = c.in-Err-Full.is in let full = c.in-Err-Full.field-0-is in cc))))
