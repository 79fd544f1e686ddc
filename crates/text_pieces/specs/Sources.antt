-- What is laid out: characters with their tags, and markers between them.
use Rattle.std.specs.Prelude.{◌&&◌, ◌||◌, ◌==◌, [], ◌∷◌, Bool, List, String, chars, false, flat_map, map, not}
use Rattle.std.specs.Prelude.{string_bytes, true, unwrap_or, ℕ}
use Rattle.std.specs.Option.{option_map}
use Rattle.std.specs.Global.{Global}
use Rattle.std.specs.Char.{is_whitespace}
use Rattle.text_pieces.specs.declared.piece.Piece.{Piece}
use Rattle.text_pieces.specs.declared.piece.TextPiece.{TextPiece}
use Rattle.text_pieces.specs.declared.piece.Piece.TheVariants.{Text, Fragment}

-- White space: std's, other than U+00A0.
abbrev pub is_white_space : ℕ → Bool
is_white_space c = is_whitespace c && not (c == 0xA0)

-- A break point: U+200B or such white space.
abbrev pub is_break_point : ℕ → Bool
is_break_point c = (c == 0x200B) || is_white_space c

-- a character with its tag and the one that it has on a preserved line from where it was wrapped; or a marker, with the
-- name of the fragment that starts there
pub data Source (S : Type 0) : Type 0 where
  letter : ℕ → S → S → Source S
  fragment : List ℕ → Source S

-- a text, each character with the tags
abbrev pub sourced : {S : Type 0} → List ℕ → S → S → List (Source S)
sourced cs main further = map (λ c. letter c main further) cs

abbrev pub fragments : {S : Type 0} → List (List ℕ) → List (Source S)
fragments names = map (λ name. fragment name) names

-- the tag of a piece's characters where a preserved line was wrapped: the main one, where the piece has no other
abbrev pub wrap_seen : {T S : Type 0} → (T → S) → TextPiece T → S
wrap_seen seen piece = unwrap_or (option_map seen piece.wrap_tag) (seen piece.main_tag)

abbrev pub text_sources : {T S : Type 0} → (T → S) → TextPiece T → List (Source S)
text_sources seen piece = sourced (chars (string_bytes piece.text)) (seen piece.main_tag) (wrap_seen seen piece)

abbrev pub piece_sources : {T S : Type 0} → (T → S) → Piece T → List (Source S)
piece_sources seen (Text piece) = text_sources seen piece
piece_sources seen (Fragment name) = fragment (chars (string_bytes name)) ∷ []

abbrev pub sources_of : {T S : Type 0} → (T → S) → List (Piece T) → List (Source S)
sources_of seen pieces = flat_map (piece_sources seen) pieces

-- the names that strings are
abbrev pub names : List (String Global) → List (List ℕ)
names strings = map (λ name. chars (string_bytes name)) strings

abbrev pub is_filled : {A : Type 0} → List A → Bool
is_filled [] = false
is_filled (x ∷ xs) = true

-- the names of the markers
abbrev pub names_of : {S : Type 0} → List (Source S) → List (List ℕ)
names_of [] = []
names_of (letter c main further ∷ rest) = names_of rest
names_of (fragment name ∷ rest) = name ∷ names_of rest
