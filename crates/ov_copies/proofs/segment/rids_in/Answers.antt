use Rattle.std.proofs.Common.{◌≡◌, ◌<◌, ◌+◌, ℕ, List, [], ◌∷◌, ◌++◌, length, take, get_or, sym, ◌∙◌, ap, rules}
use Rattle.std.proofs.lemmas.List.{take_more, map-append}
use Rattle.ov_segment.specs.declared.numbered.Record.{Record}
use Rattle.ov_fetch.specs.Extents.{rids_of}
use Rattle.ov_copies.proofs.segment.rids_in.Goals as goal

one_more : (records : List Record) (i : ℕ) (none : Record) → i < length records → rids_of (take (i + 1) records) ≡ rids_of (take i records) ++ (get_or records i none).rid ∷ []
one_more records i none low = ap (λ (rs : List Record). rids_of rs) (take_more records i none low) ∙ map-append (λ (r : Record). r.rid) (take i records) (get_or records i none ∷ [])

pub loop-i-preserved : goal.loop-i-preserved
loop-i-preserved c =
    let none : Record = record { rid = 0; row = [] } in
    let low : c.loop-i.i < length c.args.records.now.records = search rules in
    c.in_ok-push.ensures.items ∙ ap (λ (l : List ℕ). l ++ c.rid.result ∷ []) c.loop-i.invariant
    ∙ ap (λ n. rids_of (take c.loop-i.i c.args.records.now.records) ++ n ∷ []) (c.rid.ensures none)
    ∙ sym (one_more c.args.records.now.records c.loop-i.i none low)
