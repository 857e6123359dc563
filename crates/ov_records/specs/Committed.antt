-- What the records of a dataset's versions have for one version more.
--     AreRecords versions v rids weights fresh      the rids of v's records, their weights with its parents, and how many of
--         them are new, where v is the next version
use Rattle.std.specs.Prelude.{◌≡◌, ℕ, ◌+◌, List, [], ◌∷◌, ◌++◌, length, map}
use Rattle.ov_model.specs.Book.{Version}
use Rattle.ov_model.specs.Records.{recs, records_of, order_of, rid_in, fresh_in, weights as weights_of}

pub record AreRecords (versions : List Version) (v : Version) (rids weights : List ℕ) (fresh : ℕ) : Type 0 where
  pub rids_are : rids ≡ map (rid_in (order_of (versions ++ v ∷ []))) (records_of v (recs versions []))
  pub weights_are : weights ≡ map (λ w. w.1) (weights_of v.parents (records_of v (recs versions [])) (recs versions []))
  pub fresh_is : fresh ≡ length (fresh_in (records_of v (recs versions [])) (length versions + 1))
