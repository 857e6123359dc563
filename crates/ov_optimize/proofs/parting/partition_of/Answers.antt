use Rattle.std.proofs.Common.{◌≡◌, false, true, ℕ, List, sym, ◌∙◌, ap, subst, inr, rules}
use Rattle.ov_fetch.specs.Extents.{page_bytes}
use Rattle.ov_fetch.specs.Rows.{HaveRids}
use Rattle.ov_read.specs.Agreement.{PartAgrees}
use Rattle.ov_read.specs.Damages.{first_page}
use Rattle.ov_optimize.specs.Reading.{AreFilled}
use Rattle.ov_optimize.proofs.SegmentSets.{sets_off}
use Rattle.ov_optimize.proofs.parting.partition_of.Goals as goal

clash : true ≡ false → ⊥
clash e = cc

pub returns-then-not-branch-clause-answer : goal.returns-then-not-branch-clause-answer
returns-then-not-branch-clause-answer g c told =
    let d = c.args.d.now in
    let part = c.args.part.now in
    let area : List ℕ = page_bytes (g.H.Host.state c.args.host.now) in
    let sets : List (List ℕ) = c.in_ok-sets.sets.items in
    let no : c.in_ok-are_borne_out.field-0 ≡ false = search rules in
    let have : HaveRids d.schema area part.segments sets =
    subst (λ es. HaveRids d.schema area es sets) c.as_slice-segments.ensures (c.in_ok-sets.ensures.answer told) in
    inr (
      c.first_page.ensures ∙ ap first_page c.as_slice-segments.ensures,
      sets_off d.schema area part.segments part.records d.records sets have
          (λ both. clash (sym (c.in_ok-are_borne_out.ensures.tested.1 (subst (λ ss. AreFilled ss × PartAgrees part.records d.records ss) (sym c.deref.ensures.value) both)) ∙ no)),
    )
