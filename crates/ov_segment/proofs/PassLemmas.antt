-- A pass over records, one record further.
use Rattle.std.proofs.Common.{◌≡◌, ◌≤◌, ◌+◌, ◌-◌, ℕ, zero, suc, length-append, length-drop, Bool, true, false, List, [], ◌∷◌, ◌++◌, length, drop, map, refl, sym, ◌∙◌, ap, subst, append_assoc, arith}
use Rattle.std.specs.Prelude.{if◌then◌else◌, cond}
use Rattle.std.proofs.lemmas.List.{append-nil, map-append, drop_at}
use Rattle.ov_member.specs.Rids.{AreRids}
use Rattle.ov_value.specs.Shapes.{Shape}
use Rattle.ov_value.specs.Decoding.{row_of}
use Rattle.ov_segment.specs.declared.numbered.Record.{Record}
use Rattle.ov_segment.specs.Fronts.{IsFront}
use Rattle.ov_segment.specs.Keeping.{Walk, wants, wanted_of, put, Passes, TakesFrom}
use Rattle.ov_segment.specs.Segments.{AreRecords, IsNext, record_bytes, segment_spelling}
use Rattle.ov_segment.specs.Tables.{Content}
use Rattle.ov_segment.proofs.SegmentLemmas.{records-push, last_of-push}
use Rattle.ov_segment.proofs.WrittenLemmas.{records_ascend}

spelled_push : (rs : List Record) (r : Record) (rest : List ℕ) → segment_spelling rs ++ (record_bytes r ++ rest) ≡ segment_spelling (rs ++ r ∷ []) ++ rest
spelled_push [] r rest = ap (λ l. l ++ rest) (sym (append-nil (record_bytes r)))
spelled_push (x ∷ rs) r rest =
    append_assoc (record_bytes x) (segment_spelling rs) (record_bytes r ++ rest)
    ∙ ap (λ l. record_bytes x ++ l) (spelled_push rs r rest)
    ∙ sym (append_assoc (record_bytes x) (segment_spelling (rs ++ r ∷ [])) rest)

wanted_push : (walk : Walk) (rs : List Record) (r : Record) (t : Bool) → wants walk r.rid ≡ t → wanted_of walk (rs ++ r ∷ []) ≡ wanted_of walk rs ++ (if t then r ∷ [] else [])
wanted_push walk [] r true is = rw is refl
wanted_push walk [] r false is = rw is refl
wanted_push walk (x ∷ rs) r t is = by (wants walk x.rid) (wanted_push walk rs r t is)
  where
    by : (b : Bool) → wanted_of walk (rs ++ r ∷ []) ≡ wanted_of walk rs ++ (if t then r ∷ [] else [])
        → cond b (x ∷ wanted_of walk (rs ++ r ∷ [])) (wanted_of walk (rs ++ r ∷ [])) ≡ cond b (x ∷ wanted_of walk rs) (wanted_of walk rs) ++ (if t then r ∷ [] else [])
    by true e = ap (λ l. x ∷ l) e
    by false e = e

table_push : (walk : Walk) (table : Content) (rs : List Record) (r : Record) (t : Bool) → wants walk r.rid ≡ t
    → put t (record table { records = table.records ++ wanted_of walk rs }) r ≡ record table { records = table.records ++ wanted_of walk (rs ++ r ∷ []) }
table_push walk table rs r true is =
    ap (λ (l : List Record). record table { records = l }) (append_assoc table.records (wanted_of walk rs) (r ∷ []) ∙ ap (λ l. table.records ++ l) (sym (wanted_push walk rs r true is)))
table_push walk table rs r false is =
    ap (λ (l : List Record). record table { records = l }) (ap (λ l. table.records ++ l) (sym (append-nil (wanted_of walk rs)) ∙ sym (wanted_push walk rs r false is)))

pub passes_none : (schema : Shape) (last : ℕ) (bytes : List ℕ) (ahead walk : Walk) (rids : List ℕ) (table : Content) → ((n : ℕ) → last ≤ n → wants walk n ≡ wants ahead n)
    → Passes schema last bytes ahead rids table last bytes walk rids table
passes_none schema last bytes ahead walk rids table same = record {
  passed = [];
  are = tt;
  bytes_are = refl;
  last_is = refl;
  ahead_is = same;
  rids_are = sym (append-nil rids);
  table_is = ap (λ (l : List Record). record table { records = l }) (sym (append-nil table.records));
}

-- the rids so far, and those of the records passed with one more
rids_push : (rids : List ℕ) (rs : List Record) (r : Record) → (rids ++ map (λ x. x.rid) rs) ++ r.rid ∷ [] ≡ rids ++ map (λ x. x.rid) (rs ++ r ∷ [])
rids_push rids rs r = append_assoc rids (map (λ x. x.rid) rs) (r.rid ∷ []) ∙ ap (λ l. rids ++ l) (sym (map-append (λ (x : Record). x.rid) rs (r ∷ [])))

-- the rid of the record in front may come behind those that came
pub takes_next : (schema : Shape) (last : ℕ) (bytes : List ℕ) (ahead : Walk) (rids : List ℕ) (table : Content)
    (now : ℕ) (rest : List ℕ) (walk : Walk) (rids_now : List ℕ) (table_now : Content) (rid : ℕ) (marked : Bool) (row : List ℕ)
    → TakesFrom last rids → Passes schema last bytes ahead rids table now rest walk rids_now table_now → IsFront schema now rest rid marked row → AreRids (rids_now ++ rid ∷ [])
takes_next schema last bytes ahead rids table now rest walk rids_now table_now rid marked row takes p front =
    let r : Record = record { rid = rid; row = row_of schema.columns marked row } in
    let are : AreRecords schema last (p.passed ++ r ∷ []) = records-push schema last p.passed r p.are (subst (λ n. IsNext schema n r) p.last_is front.begins.next) in
    subst AreRids (sym (ap (λ l. l ++ rid ∷ []) p.rids_are ∙ rids_push rids p.passed r)) (takes (map (λ x. x.rid) (p.passed ++ r ∷ [])) (records_ascend schema last (p.passed ++ r ∷ []) are))

pub passes_more : (schema : Shape) (last : ℕ) (bytes : List ℕ) (ahead : Walk) (rids : List ℕ) (table : Content)
    (now : ℕ) (rest : List ℕ) (walk : Walk) (rids_now : List ℕ) (table_now : Content)
    (rid : ℕ) (marked : Bool) (row : List ℕ) (walk_after : Walk) (table_after : Content)
    → Passes schema last bytes ahead rids table now rest walk rids_now table_now → IsFront schema now rest rid marked row
    → wants walk_after rid ≡ wants walk rid → ((n : ℕ) → rid ≤ n → wants walk_after n ≡ wants walk n)
    → table_after ≡ put (wants walk rid) table_now (record { rid = rid; row = row_of schema.columns marked row })
    → Passes schema last bytes ahead rids table rid (drop (8 + length row) rest) walk_after (rids_now ++ rid ∷ []) table_after
passes_more schema last bytes ahead rids table now rest walk rids_now table_now rid marked row walk_after table_after p front here later put_is =
    let r : Record = record { rid = rid; row = row_of schema.columns marked row } in
    let low : now ≤ rid = omega (arith, front.begins.next.above) in
    let same : wants walk rid ≡ wants ahead rid = p.ahead_is rid low in
    record {
      passed = p.passed ++ r ∷ [];
      are = records-push schema last p.passed r p.are (subst (λ n. IsNext schema n r) p.last_is front.begins.next);
      bytes_are = p.bytes_are ∙ ap (λ l. segment_spelling p.passed ++ l) front.begins.held_is ∙ spelled_push p.passed r (drop (8 + length row) rest);
      last_is = sym (last_of-push last p.passed r);
      ahead_is = λ n at. later n at ∙ p.ahead_is n (omega (arith, low, at));
      rids_are = ap (λ l. l ++ rid ∷ []) p.rids_are ∙ rids_push rids p.passed r;
      table_is = put_is ∙ (λ i. put (same i) (p.table_is i) r) ∙ table_push ahead table p.passed r (wants ahead rid) refl;
    }

drop_two : (xs : List ℕ) (n k : ℕ) → drop (n + k) xs ≡ drop k (drop n xs)
drop_two xs zero k = let e : 0 + k ≡ k = omega arith in ap (λ m. drop m xs) e
drop_two [] (suc n) k = let e : suc n + k ≡ suc (n + k) = omega arith in ap (λ m. drop m nothing) e ∙ sym (none k)
  where
    nothing : List ℕ
    nothing = []

    none : (k : ℕ) → drop k nothing ≡ nothing
    none zero = refl
    none (suc k) = refl
drop_two (x ∷ xs) (suc n) k = let e : suc n + k ≡ suc (n + k) = omega arith in ap (λ m. drop m (x ∷ xs)) e ∙ drop_two xs n k

-- what is left of bytes from some place on
pub rest_is : (items spelled rest : List ℕ) (start size : ℕ) → start ≤ length items → size ≡ length items → drop start items ≡ spelled ++ rest → drop (size - length rest) items ≡ rest
rest_is items spelled rest start size low is e =
    let long : length items - start ≡ length spelled + length rest = sym (length-drop start items) ∙ ap (λ l. length l) e ∙ length-append spelled rest in
    let place : size - length rest ≡ start + length spelled = omega (arith, long, low, is) in
    ap (λ n. drop n items) place ∙ drop_two items start (length spelled) ∙ ap (drop (length spelled)) e ∙ drop_at spelled rest (length spelled) refl
