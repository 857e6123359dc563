-- What is chosen from a list, as a test of one item.
use Rattle.std.specs.Prelude.{ℕ, Bool, List}
use Rattle.std.specs.List.{list_any}
use Rattle.ov_model.specs.Records.{Rec, of_version, is_among}

-- whether a record is one of these versions'
unfoldable pub is_of_one : List (List Rec) → List ℕ → Rec → Bool
is_of_one each vids r = list_any (λ vid. is_among (of_version each vid) r) vids
