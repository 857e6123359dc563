use Rattle.std.proofs.Common.{◌∷◌, [], ℕ, List, take, drop, ap, ◌∙◌, arith}
use Rattle.std.proofs.lemmas.List.{map-append}
use Rattle.std.specs.Borrow.{Bor}
use Rattle.ov_csv.specs.Plain.{slices}
use Rattle.ov_csv.proofs.PlainLemmas.{IsCut, ascii_cut, ascii_rest, back_plain, end_low, last_cut, line_cut, next_cut, rest_plain}
use Rattle.ov_csv.proofs.plain.cut_record.Goals as goal

pub split_at-requires : goal.split_at-requires
split_at-requires c = omega (arith, end_low c.loop-byte.rest.now, c.field_end.ensures)

pub returns-in_default : goal.returns-in_default
returns-in_default c =
    let rest = c.loop-byte.rest.now in
    let fields : List (List ℕ) = slices c.loop-byte.fields.items in
    let new : List (List ℕ) = slices c.push.new.self.items in
    let cut : IsCut fields rest c.split_at.result.0.now c.split_at.result.1.now new = (record { plain = c.loop-byte.invariant.plain; front_is = c.split_at.ensures.front ∙ ap (λ n. take n rest) c.field_end.ensures; back_is = c.split_at.ensures.back ∙ ap (λ n. drop n rest) c.field_end.ensures; new_is = ap slices c.in_ok-push.ensures.items ∙ map-append (λ (s : Bor (List ℕ)). s.now) c.loop-byte.fields.items (c.split_at.result.0 ∷ []) }) in
    (c.loop-byte.invariant.same ∙ last_cut fields rest c.split_at.result.0.now c.split_at.result.1.now new cut c.in_default.ensures.cases, back_plain fields rest c.split_at.result.0.now c.split_at.result.1.now new cut, λ all. ascii_cut fields rest c.split_at.result.0.now c.split_at.result.1.now new cut (c.loop-byte.invariant.ascii all))

pub returns-then-byte-eq10 : goal.returns-then-byte-eq10
returns-then-byte-eq10 c =
    let rest = c.loop-byte.rest.now in
    let fields : List (List ℕ) = slices c.loop-byte.fields.items in
    let new : List (List ℕ) = slices c.push.new.self.items in
    let cut : IsCut fields rest c.split_at.result.0.now c.split_at.result.1.now new = (record { plain = c.loop-byte.invariant.plain; front_is = c.split_at.ensures.front ∙ ap (λ n. take n rest) c.field_end.ensures; back_is = c.split_at.ensures.back ∙ ap (λ n. drop n rest) c.field_end.ensures; new_is = ap slices c.in_ok-push.ensures.items ∙ map-append (λ (s : Bor (List ℕ)). s.now) c.loop-byte.fields.items (c.split_at.result.0 ∷ []) }) in
    (c.loop-byte.invariant.same ∙ line_cut fields rest c.split_at.result.0.now c.split_at.result.1.now new c.in-Some.byte.now c.in-Some.more.now cut c.in-Some.ensures.cases.0 c.if-byte-eq10.true, rest_plain c.split_at.result.1.now c.in-Some.byte.now c.in-Some.more.now c.in-Some.ensures.cases.0 (back_plain fields rest c.split_at.result.0.now c.split_at.result.1.now new cut), λ all. let h = ascii_cut fields rest c.split_at.result.0.now c.split_at.result.1.now new cut (c.loop-byte.invariant.ascii all) in (h.0, ascii_rest c.split_at.result.1.now c.in-Some.byte.now c.in-Some.more.now c.in-Some.ensures.cases.0 h.1))

pub loop-byte-preserved : goal.loop-byte-preserved
loop-byte-preserved c =
    let rest = c.loop-byte.rest.now in
    let fields : List (List ℕ) = slices c.loop-byte.fields.items in
    let new : List (List ℕ) = slices c.push.new.self.items in
    let cut : IsCut fields rest c.split_at.result.0.now c.split_at.result.1.now new = (record { plain = c.loop-byte.invariant.plain; front_is = c.split_at.ensures.front ∙ ap (λ n. take n rest) c.field_end.ensures; back_is = c.split_at.ensures.back ∙ ap (λ n. drop n rest) c.field_end.ensures; new_is = ap slices c.in_ok-push.ensures.items ∙ map-append (λ (s : Bor (List ℕ)). s.now) c.loop-byte.fields.items (c.split_at.result.0 ∷ []) }) in
    record {
      plain = rest_plain c.split_at.result.1.now c.in-Some.byte.now c.in-Some.more.now c.in-Some.ensures.cases.0 (back_plain fields rest c.split_at.result.0.now c.split_at.result.1.now new cut);
      ascii = λ all. let h = ascii_cut fields rest c.split_at.result.0.now c.split_at.result.1.now new cut (c.loop-byte.invariant.ascii all) in (h.0, ascii_rest c.split_at.result.1.now c.in-Some.byte.now c.in-Some.more.now c.in-Some.ensures.cases.0 h.1);
      same = c.loop-byte.invariant.same ∙ next_cut fields rest c.split_at.result.0.now c.split_at.result.1.now new c.in-Some.byte.now c.in-Some.more.now cut c.in-Some.ensures.cases.0 c.if-byte-eq10.false;
    }
