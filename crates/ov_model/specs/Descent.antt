-- What the relatives of a version are to be, apart from how they are computed.
--     AreEarlier n versions      each version's parents are versions before it; n is the first version's number
--     IsDescent versions vid path child      a way from a version up to another: each one on it is a parent of the one before
--     IsRelated versions kind vid other      what each kind of relative is
use Rattle.std.specs.Prelude.{◌≤◌, ◌<◌, ℕ, ◌+◌, List, [], ◌∷◌}
use Rattle.ov_model.specs.Book.{Version}
use Rattle.ov_model.specs.Lineages.{parents_at}
use Rattle.ov_model.specs.Lists.{IsIn}
use Rattle.ov_model.specs.World.{Dataset}
use Rattle.ov_model.specs.declared.query.LineageKind.{LineageKind}
use Rattle.ov_model.specs.declared.query.LineageKind.TheVariants.{Parents, Ancestors, Descendants}

-- from 1 on and below n
abbrev pub AreBefore : ℕ → List ℕ → Type 0
AreBefore n [] = Unit {0}
AreBefore n (p ∷ ps) = ((1 ≤ p) × (p < n)) × AreBefore n ps

abbrev pub AreEarlier : ℕ → List Version → Type 0
AreEarlier n [] = Unit {0}
AreEarlier n (v ∷ versions) = AreBefore n v.parents × AreEarlier (n + 1) versions

abbrev pub HaveEarlierParents : List Dataset → Type 0
HaveEarlierParents [] = Unit {0}
HaveEarlierParents (d ∷ sets) = AreEarlier 1 d.cvd.versions × HaveEarlierParents sets

abbrev pub IsDescent : List Version → ℕ → List ℕ → ℕ → Type 0
IsDescent versions vid [] child = IsIn (parents_at versions child) vid
IsDescent versions vid (mid ∷ path) child = IsIn (parents_at versions child) mid × IsDescent versions vid path mid

-- some way leads up to it
abbrev pub IsAncestor : List Version → ℕ → ℕ → Type 0
IsAncestor versions vid child = (path : List ℕ) × IsDescent versions vid path child

abbrev pub IsRelated : List Version → LineageKind → ℕ → ℕ → Type 0
IsRelated versions Parents vid other = IsIn (parents_at versions vid) other
IsRelated versions Ancestors vid other = IsAncestor versions other vid
IsRelated versions Descendants vid other = IsAncestor versions vid other
