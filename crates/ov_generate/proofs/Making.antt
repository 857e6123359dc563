-- A commit of a generated version, at a World.
use Rattle.std.proofs.Common.{◌≡◌, ◌≤◌, ◌+◌, ◌*◌, ◌^◌, ◌==◌, ◌||◌, ℕ, suc, Bool, true, false, List, [], ◌∷◌, length, map, codes, refl, sym, ◌∙◌, ap, subst, arith}
use Rattle.std.specs.Prelude.{nat_le, nat_lt, if◌then◌else◌, Some, None}
use Rattle.std.specs.Option.{option_or}
use Rattle.std.proofs.lemmas.Bool.{le-ltb, ne_eqb}
use Rattle.ov_host.specs.Host.{State}
use Rattle.ov_host.specs.Stops.{Only}
use Rattle.ov_core.specs.AtWorld.{IsAtNext, IsAtWorld, IsEither}
use Rattle.ov_core.specs.Held.{Held}
use Rattle.ov_fetch.specs.Extents.{Looked}
use Rattle.ov_gen.specs.Versions.{IsGrown}
use Rattle.ov_gen.proofs.Fitting.{begin-ordered}
use Rattle.ov_gen.proofs.Growing.{begin-few, begin-whole}
use Rattle.ov_gen.proofs.Orders.{in-order, not-repeated}
use Rattle.ov_model.specs.Act.{commit_refusal, format_one, format_refusal, fresh_of, if_so, null_row, records_refusal, repeated_key, rows_refusal, vids_refusal}
use Rattle.ov_model.specs.Book.{Row, Version}
use Rattle.ov_model.specs.Generator.{generated_schema}
use Rattle.ov_model.specs.Merge.{in_key_order}
use Rattle.ov_model.specs.Moves.{Commit, Move, moved}
use Rattle.ov_model.specs.Records.{order_of}
use Rattle.ov_model.specs.World.{World}
use Rattle.ov_model.specs.declared.refusal.Refusal.TheVariants as no
use Rattle.ov_store.specs.Committing.{Wish, commit_move, committed, fresh_in_world, with_commit}
use Rattle.ov_store.specs.Worlds.{IsLack, IsRefusedAs, and_made, content_refusal, version_refusal}
use Rattle.ov_store.specs.declared.errors.StoreErr.{StoreErr}
use Rattle.ov_store.specs.declared.errors.StoreErr.TheVariants as why
use Rattle.law_room.specs.Room.{Entry, IsWithin, Made}
use Rattle.law_runs.specs.Stops.{printed_of}
use Rattle.law_moves.specs.Doing.{IsMoved}
use Rattle.law_generated.specs.Grown.{Grown, HasGrown, fresh_most, move_next, parent_next, rows_next}
use Rattle.law_generated.proofs.Steps.{next_fresh, next_grown, parent_least, parent_most}
use Rattle.ov_generate.specs.Making.{IsUnmoved}

-- ---- nothing refuses it

vid_passes : (count vid : ℕ) → 1 ≤ vid → vid ≤ count → vids_refusal count [] (vid ∷ []) ≡ None
vid_passes count vid some most =
    let some_ : (vid == 0) ≡ false = ne_eqb vid 0 (λ e. omega (arith, e, some))
    in let there : nat_lt count vid ≡ false = le-ltb count vid most
    in ap (λ b. if b || nat_lt count vid then Some (no.NoVersion vid) else None) some_ ∙ ap (λ b. if b then Some (no.NoVersion vid) else None) there

whole_format : (format : ℕ) (rows : List Row) → null_row 1 rows ≡ None → format_one format false rows ≡ None
whole_format format rows whole = by (format == 1)
  where
    by : (b : Bool) → (if b then format_refusal (null_row 1 rows) false else None) ≡ None
    by true = ap (λ o. format_refusal o false) whole
    by false = refl

pub rows_pass : (w : World) (count vid : ℕ) (rows : List Row) → IsGrown count vid rows → 1 ≤ vid → count + vid ≤ 1000001 → rows_refusal w generated_schema false rows ≡ None
rows_pass w count vid rows are some most =
    let few : 1 + length rows ≤ count + vid = begin-few count 1 (count + vid) rows (omega (arith, some)) are
    in let not_many : nat_lt 1000000 (length rows) ≡ false = le-ltb 1000000 (length rows) (omega (arith, few, most))
    in let once : repeated_key generated_schema [] 1 rows ≡ None = not-repeated generated_schema [] rows 1 _ (begin-ordered count 1 (count + vid) rows are)
    in ap (λ b. option_or (if_so b no.TooManyRows) (option_or (repeated_key generated_schema [] 1 rows) (format_one w.format false rows))) not_many
    ∙ ap (λ o. option_or o (format_one w.format false rows)) once
    ∙ whole_format w.format rows (begin-whole count 1 (count + vid) 1 rows are)

product_most : (n k : ℕ) → n ≤ 65535 → k ≤ 10002 → n * k ≤ 65535 * 10002
product_most n k le most = grind arith

hundredth : (count : ℕ) → count ≤ 1000000 → fresh_most count ≤ 10002
hundredth count most = grind arith

module _ (w : World) (name : List ℕ) (number count : ℕ) (g : Grown) (h : HasGrown w name number count g) (wish : Wish) (vids_are : wish.vids ≡ (parent_next g).is ∷ []) (message_is : wish.message ≡ codes "gen") (none_added : wish.added ≡ [])
    (rows_are : wish.rows ≡ (rows_next count g).is) (versions : length g.done + 1 ≤ 65535) (most : count + (length g.done + 1) ≤ 1000000) where
  rows_grown : IsGrown count (length g.done + 1 + 1) (rows_next count g).is
  rows_grown = next_grown w name number count g h

  ordered : in_key_order h.set.cvd.schema wish.rows ≡ (rows_next count g).is
  ordered =
      (λ i. in_key_order (h.schema_is i) (rows_are i))
      ∙ in-order generated_schema (rows_next count g).is (begin-ordered count 1 (count + (length g.done + 1 + 1)) (rows_next count g).is rows_grown)

  -- what is asked adds no columns
  abbrev plain : Wish
  plain = record { vids = wish.vids; message = wish.message; added = []; rows = wish.rows }

  wish_is : wish ≡ plain
  wish_is = λ i. record { vids = wish.vids; message = wish.message; added = none_added i; rows = wish.rows }

  pub move_is : commit_move h.set wish.vids wish.message wish.added wish.rows ≡ move_next number count g
  move_is =
      ap (λ (x : Wish). commit_move h.set x.vids x.message x.added x.rows) wish_is
      ∙ (λ i. Commit (h.number_is i) (vids_are i) (message_is i) [] (ordered i))

  pub committed_is : committed name wish w ≡ moved (move_next number count g) w
  committed_is = ap (λ o. with_commit o wish w) h.named ∙ ap (λ m. moved m w) move_is

  long : length h.set.cvd.versions ≡ length g.done
  long = sym (map_length (λ (v : Version). v.rows) h.set.cvd.versions) ∙ ap length h.rows_are
    where
      map_length : (f : Version → List Row) (vs : List Version) → length (map f vs) ≡ length vs
      map_length f [] = refl
      map_length f (v ∷ vs) = ap suc (map_length f vs)

  parents_pass : commit_refusal h.set wish.vids ≡ None
  parents_pass =
      let there : (parent_next g).is ≤ length h.set.cvd.versions = omega (arith, long, parent_most g h.some)
      in let not_full : nat_le 65535 (length h.set.cvd.versions) ≡ false = ap (λ n. nat_le 65535 n) long ∙ below_full
      in ap (λ vids. option_or (vids_refusal (length h.set.cvd.versions) [] vids) (if_so (nat_le 65535 (length h.set.cvd.versions)) (no.TooManyVersions h.set.cvd.name))) vids_are
      ∙ ap (λ o. option_or o (if_so (nat_le 65535 (length h.set.cvd.versions)) (no.TooManyVersions h.set.cvd.name)))
      (vid_passes (length h.set.cvd.versions) (parent_next g).is (parent_least g h.some) there)
      ∙ ap (λ b. if_so b (no.TooManyVersions h.set.cvd.name)) not_full
    where
      below_full : nat_le 65535 (length g.done) ≡ false
      below_full = grind arith

  few_fresh : length (order_of h.set.cvd.versions) + fresh_in_world h.set plain ≤ 2 ^ 31
  few_fresh =
      let fresh_is : fresh_in_world h.set plain ≡ fresh_of h.set ((parent_next g).is ∷ []) (codes "gen") (rows_next count g).is
      = λ i. fresh_of h.set (vids_are i) (message_is i) (ordered i)
      in omega (
        arith,
        fresh_is,
        next_fresh w name number count g h,
        h.few,
        product_most (length g.done) (fresh_most count) (omega (arith, versions)) (hundredth count (omega (arith, most))),
        most,
      )

  pub none_refused : version_refusal w h.set wish ≡ None
  none_refused =
      ap (version_refusal w h.set) wish_is
      ∙ ap (λ o. option_or o (content_refusal w h.set plain)) parents_pass
      ∙ ap (λ o. option_or o (records_refusal h.set (fresh_in_world h.set plain)))
      ((λ i. rows_refusal w (h.schema_is i) false (rows_are i)) ∙ rows_pass w count (length g.done + 1 + 1) (rows_next count g).is rows_grown (omega arith) (omega (arith, most)))
      ∙ ap (λ b. if_so b (no.TooManyRecords h.set.cvd.name)) (le-ltb (2 ^ 31) (length (order_of h.set.cvd.versions) + fresh_in_world h.set plain) few_fresh)

  module _ (before : Held) (old mid new : State) (at : IsAtWorld w before old) (looked : Looked old mid) where
    abbrev m : Move
    m = move_next number count g

    tape : mid.tape ≡ old.tape
    tape = looked.tape at.at.told

    stops_from : Only mid.tape new.tape (IsEither w (committed name wish w) (printed_of mid)) → Only old.tape new.tape (IsEither w (moved m w) (printed_of old))
    stops_from only =
        subst (λ t. Only t new.tape (IsEither w (moved m w) t.disk.printed)) tape
        (subst (λ (v : World). Only mid.tape new.tape (IsEither w v (printed_of mid))) committed_is only)

    pub is_moved : (now : Held) → Only mid.tape new.tape (IsEither w (committed name wish w) (printed_of mid)) → IsAtNext (committed name wish w) now mid new
        → ((entry : Entry) (past : List Made) → IsWithin entry past before → IsWithin entry (and_made past (commit_move h.set wish.vids wish.message wish.added wish.rows) w) now)
        → IsMoved m w before now old new
    is_moved now only next within = record {
      stops = stops_from only;
      next = record {
        at = subst (λ (v : World). IsAtWorld v now new) committed_is next.at;
        printed_same = next.printed_same ∙ ap (λ t. t.disk.printed) tape;
      };
      within = λ entry past in_. subst (λ (x : Move). IsWithin entry (and_made past x w) now) move_is (within entry past in_);
    }

    pub un_moved : (off : StoreErr) → Only mid.tape new.tape (IsEither w (committed name wish w) (printed_of mid)) → IsRefusedAs name (version_refusal w h.set wish) off
        → ((entry : Entry) (past : List Made) → IsWithin entry past before → IsLack entry past (commit_move h.set wish.vids wish.message wish.added wish.rows) w off)
        → IsUnmoved m w before old new off
    un_moved off only refused lack =
        by off (subst (λ o. IsRefusedAs name o off) none_refused refused) (λ entry past in_. subst (λ (x : Move). IsLack entry past x w off) move_is (lack entry past in_))
      where
        by : (e : StoreErr) → IsRefusedAs name None e → ((entry : Entry) (past : List Made) → IsWithin entry past before → IsLack entry past m w e) → IsUnmoved m w before old new e
        by why.Host is l = stops_from only
        by why.Memory is l = tt
        by (why.Damaged area place) is l = is
        by (why.Full pages) is l = l
        by why.JournalFull is l = l
        by why.NoCvd is l = absurd cc
        by why.CvdExists is l = absurd cc
        by (why.NoVersion vid) is l = absurd cc
        by (why.RepeatedVersion vid) is l = absurd cc
        by (why.DuplicateKey row) is l = absurd cc
        by why.TooManyVersions is l = absurd cc
        by why.TooManyRecords is l = absurd cc
        by why.TooManyRows is l = absurd cc
        by why.TooManyCvds is l = absurd cc
        by why.NoNumbers is l = absurd cc
        by (why.FormatOne row) is l = absurd cc
