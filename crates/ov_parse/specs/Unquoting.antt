-- What stands between the quotes of a name and of a text.
--     Between bytes      the bytes stand between two quotes of one kind
--     IsEscaped bytes      the bytes spell a text between its quotes
use Rattle.std.specs.Prelude.{◌≡◌, ℕ, ◌<◌, List, [], ◌∷◌, ◌++◌}
use Rattle.std.specs.List.{flat_map}
use Rattle.ov_lex.specs.Spellings.{escaped}

pub record Between (bytes : List ℕ) : Type 0 where
  pub quote : ℕ
  pub inner : List ℕ
  pub ascii : quote < 128
  pub bytes_are : bytes ≡ quote ∷ (inner ++ quote ∷ [])

pub record IsEscaped (bytes : List ℕ) : Type 0 where
  pub text : List ℕ
  pub bytes_are : bytes ≡ flat_map escaped text
