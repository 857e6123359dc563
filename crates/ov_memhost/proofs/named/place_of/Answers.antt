use Rattle.std.proofs.Common.{sym, ◌∙◌, arith, below_more}
use Rattle.ov_memhost.proofs.Files.{name_at, same_text, other_text, entries_length}
use Rattle.ov_memhost.proofs.named.place_of.Goals as goal

pub returns-then-eq : goal.returns-then-eq
returns-then-eq c =
    record {
      there = omega (arith, entries_length c.args.files.now);
      named =
          name_at c.args.files.now c.loop-place.place c.index-files-place.result (omega arith) c.index-files-place.is
          ∙ sym c.as_str.ensures.value
          ∙ same_text c.as_str.result.now c.args.name.now (sym c.eq.ensures ∙ c.if-eq.true);
      first = c.loop-place.invariant;
    }

pub loop-place-preserved : goal.loop-place-preserved
loop-place-preserved c =
    below_more _ _ c.loop-place.invariant
    (λ same. other_text c.as_str.result.now c.args.name.now (sym c.eq.ensures ∙ c.if-eq.false)
    (c.as_str.ensures.value ∙ sym (name_at c.args.files.now c.loop-place.place c.index-files-place.result (omega arith) c.index-files-place.is) ∙ same))
