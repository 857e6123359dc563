-- A read of a record, seen as a step down the list of records that are left.
use Rattle.std.proofs.Common.{◌≡◌, ◌∷◌, ◌∙◌, [], ℕ, List, Bool, Option, Some, None, refl, true, false, inl}
use Rattle.std.specs.Prelude.{IsSome, not}
use Rattle.csv.specs.Machine.{Read, next_record}
use Rattle.csv.specs.Reading.{default_config, has_failed, pending_of, reader_state, source_of, took_first, NextIs, ReadRecord, ReadsNext}
use Rattle.csv.specs.declared.parser.State.{State}
use Rattle.csv.specs.declared.reader.Reader.{Reader}
use Rattle.ov_csv.specs.Lines.{is_between, left_of, records_after, Reads}
use Rattle.ov_csv.specs.Taking.{Takes}
use Rattle.ov_csv.proofs.Between.{record-shorter, records_after-next, records_after-none}

-- what a read finds, in words of the records that are left
pub record Found (s : State) (xs : List ℕ) (fields : List (List ℕ)) (s2 : State) (ys : List ℕ) : Type 0 where
  pub list : records_after s (Some xs) ≡ fields ∷ records_after s2 (Some ys)
  pub between : is_between s2 ≡ true

found-next : (s : State) (xs : List ℕ) (o : Option Read) (fields : List (List ℕ)) (s2 : State) (ys : List ℕ) → is_between s ≡ true
    → next_record default_config s [] [] xs ≡ o → NextIs o true fields s2 ys → Found s xs fields s2 ys
found-next s xs None fields s2 ys b e n = cc
found-next s xs (Some p) fields s2 ys b e n = record {
  list = rw (n.1, n.2, n.3) (records_after-next s xs p b e);
  between = rw n.2 ((record-shorter xs s p b e).0);
}

ends-next : (s : State) (xs : List ℕ) (o : Option Read) (fields : List (List ℕ)) (s2 : State) (ys : List ℕ)
    → next_record default_config s [] [] xs ≡ o → NextIs o false fields s2 ys → records_after s (Some xs) ≡ []
ends-next s xs None fields s2 ys e n = records_after-none s xs e
ends-next s xs (Some p) fields s2 ys e n = cc

-- of sources that may be unknown
record Taken (s : State) (before : Option (List ℕ)) (fields : List (List ℕ)) (s2 : State) (after : Option (List ℕ)) : Type 0 where
  list : records_after s before ≡ fields ∷ records_after s2 after
  between : is_between s2 ≡ true
  source : IsSome after

taken : (s : State) (before : Option (List ℕ)) (fields : List (List ℕ)) (s2 : State) (after : Option (List ℕ)) → is_between s ≡ true
    → IsSome before → ReadsNext default_config s before after true fields s2 → Taken s before fields s2 after
taken s None fields s2 after b i r = cc i
taken s (Some xs) fields s2 None b i r = absurd r
taken s (Some xs) fields s2 (Some ys) b i r =
    let f = found-next s xs _ fields s2 ys b refl r in
    record { list = f.list; between = f.between; source = refl }

ended : (s : State) (before : Option (List ℕ)) (fields : List (List ℕ)) (s2 : State) (after : Option (List ℕ))
    → ReadsNext default_config s before after false fields s2 → records_after s before ≡ []
ended s None fields s2 after r = refl
ended s (Some xs) fields s2 None r = absurd r
ended s (Some xs) fields s2 (Some ys) r = ends-next s xs _ fields s2 ys refl r

-- what is pending after a read is the reader's source
pending-source : {R : Type 0} (known : R → Option (List ℕ)) (r : Reader R) → r.bom_checked ≡ true → pending_of (known r.rdr) r ≡ source_of known r
pending-source known r b = rw b refl

pub record Step {R : Type 0} (known : R → Option (List ℕ)) (before after : Reader R) (fields : List (List ℕ)) : Type 0 where
  pub list : records_after (reader_state before) (source_of known before) ≡ fields ∷ records_after (reader_state after) (source_of known after)
  pub reads : Reads known after

pub read-step : {R : Type 0} (known : R → Option (List ℕ)) (before after : Reader R) (found : Bool) (fields : List (List ℕ)) → Reads known before → found ≡ true
    → ReadRecord known before after found fields → has_failed after ≡ has_failed before → took_first after ≡ true → Step known before after fields
read-step known before after found fields r t n g first =
    let source : pending_of (known after.rdr) after ≡ source_of known after = pending-source known after n.1 in
    let next = rw (r.config, source, t) at n.0 in
    let step = taken (reader_state before) (source_of known before) fields (reader_state after) (source_of known after) r.between r.source next in
    record {
      list = step.list;
      reads = record {
        going = g ∙ r.going;
        plain = n.3 ∙ r.plain;
        ready = inl first;
        config = n.2 ∙ r.config;
        source = step.source;
        between = step.between;
      };
    }

pub read-end : {R : Type 0} (known : R → Option (List ℕ)) (before after : Reader R) (found : Bool) (fields : List (List ℕ)) → Reads known before → found ≡ false
    → ReadRecord known before after found fields → records_after (reader_state before) (source_of known before) ≡ []
read-end known before after found fields r t n =
    ended (reader_state before) (source_of known before) fields (reader_state after) _ (rw (r.config, t) at n.0)

-- the same, of the list that contracts see
pub read-takes : {R : Type 0} (known : R → Option (List ℕ)) (before after : Reader R) (found : Bool) (fields : List (List ℕ)) → Reads known before
    → ReadRecord known before after found fields → has_failed after ≡ has_failed before → took_first after ≡ true
    → Takes (records_after (reader_state before) (source_of known before)) found fields (left_of (not found) (reader_state after) (source_of known after))
read-takes known before after true fields r n g first = (read-step known before after true fields r refl n g first).list
read-takes known before after false fields r n g first = (read-end known before after false fields r refl n, refl)

pub read-reads : {R : Type 0} (known : R → Option (List ℕ)) (before after : Reader R) (found : Bool) (fields : List (List ℕ)) → Reads known before
    → ReadRecord known before after found fields → has_failed after ≡ has_failed before → took_first after ≡ true → not found ≡ false → Reads known after
read-reads known before after true fields r n g first e = (read-step known before after true fields r refl n g first).reads
read-reads known before after false fields r n g first e = cc
