-- What the pieces of a line spell.
--     piece_text p      a text as it is, a number in decimal, numbers with commas between them
--     pieces_text ps      one after another
use Rattle.std.specs.Prelude.{ℕ, List}
use Rattle.std.specs.Fmt.{decimal}
use Rattle.std.specs.List.{flat_map}
use Rattle.ov_model.specs.Replies.{numbers}
use Rattle.ov_reply.specs.declared.pieces.Piece.{Piece}
use Rattle.ov_reply.specs.declared.pieces.Piece.TheVariants.{Text, Number, Numbers}

abbrev pub piece_text : Piece → List ℕ
piece_text (Text text) = text.now
piece_text (Number n) = decimal n
piece_text (Numbers ns) = numbers ns.now

abbrev pub pieces_text : List Piece → List ℕ
pieces_text pieces = flat_map piece_text pieces
