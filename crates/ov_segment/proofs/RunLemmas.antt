-- Readers that are fed and asked in turn.
use Rattle.std.proofs.Common.{inl, inr, ◌≡◌, ◌<◌, ◌≤◌, ◌%◌, ◌^◌, ◌⊎◌, ℕ, true, false, nat_le, List, [], ◌∷◌, ◌++◌, length, take, drop, refl, sym, ◌∙◌, ap, subst, arith, append_assoc, length-append}
use Rattle.std.proofs.lemmas.List.{append-nil, take_at, take-append-le, drop-append-le, length-drop}
use Rattle.std.specs.Int.{w32, from_be_bytes}
use mathlib.Core.Bool.{true≢false}
use Rattle.ov_value.specs.Shapes.{Shape}
use Rattle.ov_value.specs.Spelling.{row_spelling}
use Rattle.ov_segment.specs.declared.numbered.Record.{Record}
use Rattle.ov_segment.specs.declared.next.Next.{Next}
use Rattle.ov_segment.specs.declared.next.Next.TheVariants as next
use Rattle.ov_segment.specs.Segments.{record_bytes, segment_spelling, AreRecords}
use Rattle.ov_segment.specs.Held.{Reader}
use Rattle.ov_segment.specs.Reading.{fresh, rid_at, number_at, len_at, InBounds, WantsMore, IsOff, Begins, Answers}
use Rattle.ov_segment.specs.Runs.{Step, Feed, Ask, Run, fed, given, Gives}
use Rattle.ov_segment.proofs.RecordLemmas.{front}
use Rattle.ov_segment.proofs.SegmentLemmas.{begins_same, begins_whole, begins_good, next_is, tail_front}

pub after_bad : (schema : Shape) (old new : Reader) (answer : Next) → old.over ≡ true → Answers schema old answer new → (answer ≡ next.Bad) × (new ≡ old)
after_bad schema old new (next.Record r) over h = absurd (true≢false (sym over ∙ h.0))
after_bad schema old new next.More over h = absurd (true≢false (sym over ∙ h.0))
after_bad schema old new next.Bad over h = (refl, h.1 ∙ (λ i. record { held = old.held; last = old.last; over = sym over i }))

-- where more bytes are wanted, none are off
wants_good : (schema : Shape) (last : ℕ) (held : List ℕ) → WantsMore last held → IsOff schema last held → ⊥
wants_good schema last held wants off =
    elim wants [
      | inl few ↦ omega (arith, few, off.0)
      | inr short ↦ elim off.1 [
        | inl out ↦ out short.0
        | inr none ↦ omega (arith, short.1, none.whole)
      ]
    ]

off_of : (schema : Shape) (old : Reader) → old.over ≡ false → (old.over ≡ true) ⊎ IsOff schema old.last old.held → IsOff schema old.last old.held
off_of schema old over (inl e) = absurd (true≢false (sym e ∙ over))
off_of schema old over (inr off) = off

pub answers_same : (schema : Shape) (old x y : Reader) (a b : Next) → Answers schema old a x → Answers schema old b y → (a ≡ b) × (x ≡ y)
answers_same schema old x y (next.Record r) (next.Record s) p q =
    let same = begins_same schema old.last old.held r s x.held y.held p.1 q.1 in
    (ap next.Record same.0, λ i. record { held = same.1 i; last = (p.2 ∙ ap (λ (z : Record). z.rid) same.0 ∙ sym q.2) i; over = (p.3 ∙ sym q.3) i })
answers_same schema old x y (next.Record r) next.More p q = absurd (begins_whole schema old.last old.held r x.held p.1 q.1)
answers_same schema old x y (next.Record r) next.Bad p q = absurd (begins_good schema old.last old.held r x.held p.1 (off_of schema old p.0 q.0))
answers_same schema old x y next.More (next.Record s) p q = absurd (begins_whole schema old.last old.held s y.held q.1 p.1)
answers_same schema old x y next.More next.More p q = (refl, p.2 ∙ sym q.2)
answers_same schema old x y next.More next.Bad p q = absurd (wants_good schema old.last old.held p.1 (off_of schema old p.0 q.0))
answers_same schema old x y next.Bad (next.Record s) p q = absurd (begins_good schema old.last old.held s y.held q.1 (off_of schema old q.0 p.0))
answers_same schema old x y next.Bad next.More p q = absurd (wants_good schema old.last old.held q.1 (off_of schema old q.0 p.0))
answers_same schema old x y next.Bad next.Bad p q = (refl, p.1 ∙ sym q.1)

-- eight bytes have the two numbers, whatever follows
head_of : (held more : List ℕ) → 8 ≤ length held → (rid_at (held ++ more) ≡ rid_at held) × (number_at (held ++ more) ≡ number_at held)
head_of held more eight =
    let first : take 4 (held ++ more) ≡ take 4 held = take-append-le 4 held more (omega (arith, eight)) in
    let room : 4 ≤ length (drop 4 held) = omega (arith, length-drop 4 held, eight) in
    let second : take 4 (drop 4 (held ++ more)) ≡ take 4 (drop 4 held) =
    ap (take 4) (drop-append-le 4 held more (omega (arith, eight))) ∙ take-append-le 4 (drop 4 held) more room in
    (ap (from_be_bytes w32) first, ap (from_be_bytes w32) second)

-- a front of the bytes of records is not off
pub front_good : (schema : Shape) (last : ℕ) (held more : List ℕ) (records : List Record) → AreRecords schema last records → held ++ more ≡ segment_spelling records → IsOff schema last held → ⊥
front_good schema last held more [] are e off = omega (arith, off.0, length-append held more, ap length e)
front_good schema last held more (r ∷ records) are e off =
    let p = front schema last (held ++ more) r (segment_spelling records) (tail_front schema last (held ++ more) r records are e) in
    let heads = head_of held more off.0 in
    let len : len_at held ≡ length (row_spelling r.row).bytes = ap (λ n. n % 2 ^ 31) (sym heads.1) ∙ p.len in
    let bounds : InBounds last held = record {
      above = subst (λ n. last < n) (sym (sym heads.0 ∙ p.rid)) are.0.above;
      below = subst (λ n. n ≤ 2 ^ 31) (sym (sym heads.0 ∙ p.rid)) are.0.below;
      small = subst (λ n. n ≤ 65536) (sym len) are.0.small;
    } in
    elim off.1 [
      | inl out ↦ out bounds
      | inr none ↦
          let behind : drop 8 held ++ more ≡ (row_spelling r.row).bytes ++ segment_spelling records = sym (drop-append-le 8 held more off.0) ∙ p.behind in
          let room : len_at held ≤ length (drop 8 held) = omega (arith, length-drop 8 held, none.whole) in
          let bytes : take (len_at held) (drop 8 held) ≡ (row_spelling r.row).bytes =
          sym (take-append-le (len_at held) (drop 8 held) more room) ∙ (λ i. take (len i) (behind i)) ∙ take_at (row_spelling r.row).bytes (segment_spelling records) (length (row_spelling r.row).bytes) refl in
          none.none r.row are.0.row (ap (λ n. nat_le (2 ^ 31) n) (sym heads.1) ∙ p.marked, bytes)
    ]

-- from a state that has not answered Bad: the records that the bytes held and those to come are the bytes of
pub runs : (schema : Shape) (old : Reader) (steps : List Step) (new : Reader) (records : List Record) (more : List ℕ)
    → old.over ≡ false → Run schema old steps new → AreRecords schema old.last records → old.held ++ (fed steps ++ more) ≡ segment_spelling records → Gives schema steps new more records
runs schema old [] new records more over run are e = record {
  others = records;
  records_are = refl;
  follow = subst (λ n. AreRecords schema n records) (ap (λ (r : Reader). r.last) (sym run)) are;
  none_bad = tt;
  held_is = ap (λ (r : Reader). r.held ++ more) run ∙ e;
}
runs schema old (Feed bytes ∷ steps) new records more over run are e =
    let held : run.0.held ++ (fed steps ++ more) ≡ segment_spelling records =
    ap (λ (r : Reader). r.held ++ (fed steps ++ more)) run.1
    ∙ append_assoc old.held bytes (fed steps ++ more)
    ∙ ap (λ (l : List ℕ). old.held ++ l) (sym (append_assoc bytes (fed steps) more)) ∙ e in
    let gives = runs schema run.0 steps new records more (ap (λ (r : Reader). r.over) run.1 ∙ over) run.2
    (subst (λ n. AreRecords schema n records) (ap (λ (r : Reader). r.last) (sym run.1)) are) held in
    record { others = gives.others; records_are = gives.records_are; follow = gives.follow; none_bad = gives.none_bad; held_is = gives.held_is }
runs schema old (Ask (next.Record r) ∷ steps) new records more over run are e =
    let begins : Begins schema old.last (old.held ++ (fed steps ++ more)) r (run.0.held ++ (fed steps ++ more)) = record {
      next = run.1.1.next;
      held_is = ap (λ (l : List ℕ). l ++ (fed steps ++ more)) run.1.1.held_is ∙ append_assoc (record_bytes r) run.0.held (fed steps ++ more);
    } in
    let next = next_is schema old.last (old.held ++ (fed steps ++ more)) r (run.0.held ++ (fed steps ++ more)) begins records are e in
    let gives = runs schema run.0 steps new next.0 more run.1.3 run.2 (subst (λ n. AreRecords schema n next.0) (sym run.1.2) next.2) next.3 in
    record {
      others = gives.others;
      records_are = next.1 ∙ ap (λ (l : List Record). r ∷ l) gives.records_are;
      follow = gives.follow;
      none_bad = ((λ b. b), gives.none_bad);
      held_is = gives.held_is;
    }
runs schema old (Ask next.More ∷ steps) new records more over run are e =
    let same : run.0 ≡ old = run.1.2 in
    let gives = runs schema run.0 steps new records more (ap (λ (r : Reader). r.over) same ∙ over) run.2
    (subst (λ n. AreRecords schema n records) (ap (λ (r : Reader). r.last) (sym same)) are)
    (ap (λ (r : Reader). r.held ++ (fed steps ++ more)) same ∙ e) in
    record { others = gives.others; records_are = gives.records_are; follow = gives.follow; none_bad = ((λ b. b), gives.none_bad); held_is = gives.held_is }
runs schema old (Ask next.Bad ∷ steps) new records more over run are e =
    absurd (front_good schema old.last old.held (fed steps ++ more) records are e (off_of schema old over run.1.0))

pub whole_run : (schema : Shape) (steps : List Step) (new : Reader) (records : List Record)
    → Run schema fresh steps new → AreRecords schema 0 records → fed steps ≡ segment_spelling records → WantsMore new.last new.held → (given steps ≡ records) × (new.held ≡ [])
whole_run schema steps new records run are e wants =
    let gives = runs schema fresh steps new records [] refl run are (append-nil (fed steps) ∙ e) in
    let none = by gives.others gives.follow (sym (append-nil new.held) ∙ gives.held_is) in (
      sym (gives.records_are ∙ ap (λ (l : List Record). given steps ++ l) none ∙ append-nil (given steps)),
      sym (append-nil new.held) ∙ gives.held_is ∙ ap segment_spelling none,
    )
  where
    by : (others : List Record) → AreRecords schema new.last others → new.held ≡ segment_spelling others → others ≡ []
    by [] follow is = refl
    by (r ∷ rs) follow is = absurd (begins_whole schema new.last new.held r (segment_spelling rs) (tail_front schema new.last new.held r rs follow is) wants)
