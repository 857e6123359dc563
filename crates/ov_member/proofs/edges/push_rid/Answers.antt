use Rattle.std.proofs.Common.{◌≡◌, ℕ, ◌+◌, ◌-◌, Option, Some, List, [], ◌∷◌, ◌++◌, length, eqb, refl, ap, sym, false, ◌∙◌, inl, inr, append_assoc, arith}
use Rattle.std.specs.List.{slice_get, slice_set}
use Rattle.std.specs.Option.{option_eq}
use Rattle.ov_member.specs.Edges.{AreEdges, rids_between}
use Rattle.ov_member.specs.Rids.{RiseFrom}
use Rattle.ov_member.proofs.RidLemmas.{RiseFrom-right}
use Rattle.ov_member.proofs.PutLemmas.{put_rid, before_last, last_is, last_put, is_last, is_last-some, is_last-true, Kept}
use Rattle.ov_member.proofs.edges.push_rid.Goals as goal

pub overflow_add-rid : goal.overflow_add-rid
overflow_add-rid c = let above = RiseFrom-right 1 (rids_between c.args.edges.now.items) (c.args.rid ∷ []) c.requires.above in omega arith

pub overflow_add-rid-2 : goal.overflow_add-rid-2
overflow_add-rid-2 c = let above = RiseFrom-right 1 (rids_between c.args.edges.now.items) (c.args.rid ∷ []) c.requires.above in omega arith

pub returns-then-ends_here : goal.returns-then-ends_here
returns-then-ends_here c =
    let old = c.args.edges.now.items in
    let rid = c.args.rid in
    let tested = c.eq-ends_here.ensures ∙ ap (λ (o : Option ℕ). option_eq eqb o (Some rid)) (c.copied.ensures ∙ c.last.ensures.value ∙ ap (λ (xs : List ℕ). slice_get xs (length xs - 1)) c.deref.ensures.value) in
    let here = sym tested ∙ c.if-ends_here.true in
    let some = is_last-some old rid here in
    let len : c.len-last.result ≡ length old = c.len-last.ensures ∙ sym c.deref.ensures.len ∙ ap (λ (xs : List ℕ). length xs) c.deref.ensures.value in
    let is : slice_set old (c.len-last.result - 1) (rid + 1) ≡ before_last old ++ (rid + 1) ∷ [] = ap (λ (n : ℕ). slice_set old (n - 1) (rid + 1)) len ∙ last_put old (rid + 1) some in
    let kept = put_rid old (before_last old) _ rid c.requires.sound c.requires.above (inl (last_is old rid some (is_last-true old rid here))) is in
    record { sound = record { ascend = kept.ascend; closed = kept.closed }; put = kept.listed; unchanged = tt }

-- a rid that begins a range
more : (old new : List ℕ) (rid : ℕ) → AreEdges old → RiseFrom 1 (rids_between old ++ rid ∷ []) → is_last old rid ≡ false → new ≡ old ++ rid ∷ (rid + 1) ∷ [] → Kept 0 new (rids_between old ++ rid ∷ [])
more old new rid sound above other is = put_rid old (old ++ rid ∷ []) new rid sound above (inr (refl, other)) (is ∙ sym (append_assoc old (rid ∷ []) ((rid + 1) ∷ [])))

pub returns-clause-sound : goal.returns-clause-sound
returns-clause-sound c =
    let tested = c.eq-ends_here.ensures ∙ ap (λ (o : Option ℕ). option_eq eqb o (Some c.args.rid)) (c.copied.ensures ∙ c.last.ensures.value ∙ ap (λ (xs : List ℕ). slice_get xs (length xs - 1)) c.deref.ensures.value) in
    let kept = more c.args.edges.now.items _ c.args.rid c.requires.sound c.requires.above (sym tested ∙ c.if-ends_here.false) c.in_ok-extend_from_slice.ensures.items in
    record { ascend = kept.ascend; closed = kept.closed }

pub returns-clause-put : goal.returns-clause-put
returns-clause-put c =
    let tested = c.eq-ends_here.ensures ∙ ap (λ (o : Option ℕ). option_eq eqb o (Some c.args.rid)) (c.copied.ensures ∙ c.last.ensures.value ∙ ap (λ (xs : List ℕ). slice_get xs (length xs - 1)) c.deref.ensures.value) in
    let kept = more c.args.edges.now.items _ c.args.rid c.requires.sound c.requires.above (sym tested ∙ c.if-ends_here.false) c.in_ok-extend_from_slice.ensures.items in
    kept.listed
