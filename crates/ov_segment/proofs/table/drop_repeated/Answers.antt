use Rattle.std.proofs.Common.{eqb, sym, ◌∙◌, of_calls}
use Rattle.std.proofs.RetainMut.{IsDeduped-is_dedup}
use Rattle.ov_segment.proofs.table.drop_repeated.Goals as goal

pub dedup_by-requires : goal.dedup_by-requires
dedup_by-requires c = search of_calls parts 8

pub returns : goal.returns
returns c = IsDeduped-is_dedup _ _ _ _ c.dedup_by.ensures.filtered (λ x k. eqb x.rid k.rid) (λ s x k b t x' k' h. let met = h.called.met.0 in (met.0 ∙ (λ i. eqb (h.shows.0 i).rid (h.shows.1 i).rid), (sym h.leaves.0 ∙ met.1.0 ∙ h.shows.0, sym h.leaves.1 ∙ met.1.1 ∙ h.shows.1)))
