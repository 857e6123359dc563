-- A store in whose empty areas one dataset was made, byte by byte: a journal of 104 bytes with one record, a page with a list
-- and a page with a segment.
--     the_image      the bytes
--     the_world      the World after that Init
use Rattle.std.specs.Prelude.{ℕ, zero, suc, List, [], ◌∷◌, ◌++◌, codes}
use Rattle.std.specs.Prelude.{pos}
use Rattle.ov_host.specs.Disk.{Image}
use Rattle.ov_event.specs.declared.event.Event.{Event}
use Rattle.ov_event.specs.declared.event.Event.TheVariants as says
use Rattle.ov_value.specs.declared.column.Column.{Column}
use Rattle.ov_value.specs.declared.column.Kind.TheVariants as kind
use Rattle.ov_value.specs.declared.value.Value.TheVariants.{Int, Text}
use Rattle.ov_value.specs.Shapes.{Shape}
use Rattle.ov_model.specs.Book.{Row}
use Rattle.ov_model.specs.Moves.{Move, Init, moved}
use Rattle.ov_model.specs.World.{World, empty_world}
use Rattle.ov_journal.specs.Journal.{Kept}

abbrev pub the_columns : List Column
the_columns =
    record { name = codes "id"; kind = kind.Int }
    ∷ record { name = codes "name"; kind = kind.Text }
    ∷ record { name = codes "score"; kind = kind.Int }
    ∷ []

abbrev pub the_schema : Shape
the_schema = record { columns = the_columns; key = 0 ∷ [] }

abbrev pub the_rows : List Row
the_rows =
    (Int (pos 1) ∷ Text (codes "ann") ∷ Int (pos 10) ∷ [])
    ∷ (Int (pos 2) ∷ Text (codes "bob") ∷ Int (pos 20) ∷ [])
    ∷ []

abbrev pub the_move : Move
the_move = Init (codes "people") the_schema the_rows

abbrev pub the_world : World
the_world = moved the_move empty_world

abbrev pub the_event : Event
the_event =
    says.Init (codes "people") (record { columns = the_columns; key = 0 ∷ [] }) 2
    (record { page = 0; bytes = 8 })
    (record { page = 1; bytes = 62 })

-- ---- the bytes

abbrev pub the_payload : List ℕ
the_payload =
    1 ∷ 0 ∷ 0 ∷ 0 ∷ 6 ∷ 112 ∷ 101 ∷ 111 ∷ 112 ∷ 108 ∷ 101 ∷ 3 ∷ 0 ∷ 0 ∷ 0 ∷ 2 ∷ 105 ∷ 100 ∷ 1 ∷ 0 ∷ 0 ∷ 0 ∷ 4 ∷ 110 ∷
    97 ∷ 109 ∷ 101 ∷ 2 ∷ 0 ∷ 0 ∷ 0 ∷ 5 ∷ 115 ∷ 99 ∷ 111 ∷ 114 ∷ 101 ∷ 1 ∷ 1 ∷ 0 ∷ 0 ∷ 0 ∷ 0 ∷ 2 ∷ 0 ∷ 0 ∷ 0 ∷ 0 ∷ 0 ∷
    0 ∷ 0 ∷ 8 ∷ 0 ∷ 0 ∷ 0 ∷ 1 ∷ 0 ∷ 0 ∷ 0 ∷ 62 ∷ []

-- the header, and the record with its gate
abbrev pub the_front : List ℕ
the_front =
    165 ∷ 111 ∷ 114 ∷ 112 ∷ 104 ∷ 101 ∷ 117 ∷ 115 ∷ 45 ∷ 99 ∷ 118 ∷ 100 ∷ 165 ∷ 0 ∷ 0 ∷ 0 ∷ 1 ∷ 0 ∷ 0 ∷ 0 ∷ 38 ∷ 0 ∷
    0 ∷ 0 ∷ 2 ∷ 0 ∷ 0 ∷ 0 ∷ 0 ∷ 0 ∷ 0 ∷ 0 ∷ 0 ∷ 0 ∷ 0 ∷ 0 ∷ 0 ∷ 0 ∷ 165 ∷ 0 ∷ 0 ∷ 0 ∷ 60 ∷ the_payload

abbrev pub zeros : ℕ → List ℕ
zeros zero = []
zeros (suc n) = 0 ∷ zeros n

abbrev pub the_list : List ℕ
the_list = 0 ∷ 0 ∷ 0 ∷ 1 ∷ 0 ∷ 0 ∷ 0 ∷ 2 ∷ []

abbrev pub the_segment : List ℕ
the_segment =
    0 ∷ 0 ∷ 0 ∷ 1 ∷ 0 ∷ 0 ∷ 0 ∷ 23 ∷ 0 ∷ 0 ∷ 0 ∷ 0 ∷ 0 ∷ 0 ∷ 0 ∷ 1 ∷ 0 ∷ 0 ∷ 0 ∷ 3 ∷ 97 ∷ 110 ∷ 110 ∷ 0 ∷ 0 ∷ 0 ∷ 0 ∷
    0 ∷ 0 ∷ 0 ∷ 10 ∷ 0 ∷ 0 ∷ 0 ∷ 2 ∷ 0 ∷ 0 ∷ 0 ∷ 23 ∷ 0 ∷ 0 ∷ 0 ∷ 0 ∷ 0 ∷ 0 ∷ 0 ∷ 2 ∷ 0 ∷ 0 ∷ 0 ∷ 3 ∷ 98 ∷ 111 ∷ 98 ∷
    0 ∷ 0 ∷ 0 ∷ 0 ∷ 0 ∷ 0 ∷ 0 ∷ 20 ∷ []

-- a page with the list, and one with the segment
abbrev pub the_pages : List ℕ
the_pages = (the_list ++ zeros 4088) ++ (the_segment ++ zeros 4034)

abbrev pub the_image : Image
the_image = record { pages = the_pages; journal = the_front ++ 0 ∷ []; printed = [] }

abbrev pub the_kept : Kept
the_kept = record { epoch = 1; start = 38; format = 2; payloads = the_payload ∷ [] }
