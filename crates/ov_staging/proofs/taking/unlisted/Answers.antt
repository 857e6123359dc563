use Rattle.std.proofs.Common.{◌≡◌, ℕ, List, Some, subst}
use Rattle.ov_store.specs.Refusals.{refusal_of}
use Rattle.ov_store.specs.Scanning.{IsUnscanned, scan_off, set_in}
use Rattle.ov_staging.proofs.Taken.{unlisted_is}
use Rattle.ov_staging.proofs.taking.unlisted.Goals as goal

pub returns-in-Ok-refusal_in-clause-off : goal.returns-in-Ok-refusal_in-clause-off
returns-in-Ok-refusal_in-clause-off c = λ s.
    let n = c.args.store.now.held.numbers
    in let cvd = c.args.cvd.now
    in let vids = c.args.vids.now
    in let said : refusal_of cvd c.in-Err.off ≡ Some c.in-Ok-refusal_in.refusal
    = subst (λ (name : List ℕ). refusal_of name c.in-Err.off ≡ Some c.in-Ok-refusal_in.refusal) c.in_ok-name.ensures.ok c.in-Ok-refusal_in.ensures.refusal
    in unlisted_is cvd vids (scan_off n cvd vids) (set_in n cvd) s s c.in-Err.off c.in-Ok-refusal_in.refusal
    (subst (λ (name : List ℕ). IsUnscanned (scan_off n name vids) (set_in n name) vids s s c.in-Err.off) c.as_str.ensures.text (c.in-Err.ensures.why s)) said
