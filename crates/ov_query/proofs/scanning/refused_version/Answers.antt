use Rattle.std.proofs.Common.{rules, ◌≡◌, ◌∙◌, length, sym}
use Rattle.ov_store.specs.declared.errors.StoreErr.TheVariants as why
use Rattle.ov_query.proofs.Scans.{allowed_listed, for_version, found_by, only_memory, refusal_is}
use Rattle.ov_query.proofs.scanning.refused_version.Goals as goal

pub returns-in-Ok-clause-refused : goal.returns-in-Ok-clause-refused
returns-in-Ok-clause-refused c = λ set found.
    let n = c.args.store.now.held.numbers
    in sym (allowed_listed n c.as_str.result.now c.as_slice.result.now set
    (found_by n c.args.source.now c.in-Listed.vids c.in-Listed.cvd c.as_str.result.now c.as_slice.result.now c.in-Listed.is c.as_str.ensures.text c.as_slice.ensures set found)
    c.in-Ok.ensures.allowed)
    ∙ refusal_is n c.args.source.now c.in-Listed.vids c.in-Listed.cvd c.as_str.result.now c.as_slice.result.now c.in-Listed.is c.as_str.ensures.text c.as_slice.ensures (length set.versions)

pub returns-in_ok-refusal_by-in-Err-clause-refused : goal.returns-in_ok-refusal_by-in-Err-clause-refused
returns-in_ok-refusal_by-in-Err-clause-refused c = λ set found.
    let n = c.args.store.now.held.numbers
    in sym (for_version n c.as_str.result.now c.as_slice.result.now set
    (found_by n c.args.source.now c.in-Listed.vids c.in-Listed.cvd c.as_str.result.now c.as_slice.result.now c.in-Listed.is c.as_str.ensures.text c.as_slice.ensures set found)
    c.in-Err.off c.in_ok-refusal_by-in-Err.field-0 (sym c.refusal_by.ensures ∙ c.in_ok-refusal_by-in-Err.was) c.in-Err.ensures.why)
    ∙ refusal_is n c.args.source.now c.in-Listed.vids c.in-Listed.cvd c.as_str.result.now c.as_slice.result.now c.in-Listed.is c.as_str.ensures.text c.as_slice.ensures (length set.versions)

pub returns-in_err-refusal_by-in-Err-clause-memory : goal.returns-in_err-refusal_by-in-Err-clause-memory
returns-in_err-refusal_by-in-Err-clause-memory c = λ set found.
    let n = c.args.store.now.held.numbers
    in let memory : c.in_err-refusal_by-in-Err.field-0.0 ≡ why.Memory
    = only_memory n c.as_str.result.now c.as_slice.result.now set
    (found_by n c.args.source.now c.in-Listed.vids c.in-Listed.cvd c.as_str.result.now c.as_slice.result.now c.in-Listed.is c.as_str.ensures.text c.as_slice.ensures set found)
    c.in-Err.off c.in_err-refusal_by-in-Err.field-0.0 (sym c.refusal_by.ensures ∙ c.in_err-refusal_by-in-Err.was) c.in-Err.ensures.why c.in-Err.ensures.undamaged
    in search (rules, memory)
