-- The files of a store's folder.
use Rattle.std.specs.Prelude.{pos, ◌<ℤ◌, List, ℕ, codes}
use Rattle.std.specs.declared.fs.File.{File}
use Rattle.std.specs.Fd.{file_raw_fd}
use Rattle.ov_host.specs.declared.area.Area.{Area}
use Rattle.ov_host.specs.declared.area.Area.TheVariants.{Pages, Journal}

-- an area's file in the folder of a store
abbrev pub name_of : Area → List ℕ
name_of Pages = codes "pages"
name_of Journal = codes "journal"

-- a file with a number of its own: 0, 1 and 2 are standard input, output and error
abbrev pub IsNoStream : File → Type 0
IsNoStream file = pos 2 <ℤ file_raw_fd file
