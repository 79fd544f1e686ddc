-- Blocks of text: what a block holds, and what each call makes of it.
use Rattle.std.specs.Prelude.{◌-◌, ◌==◌, ◌&&◌, ◌||◌, [], ◌∷◌, ◌++◌, if◌then◌else◌, All, Bool, List, None, Option, Some}
use Rattle.std.specs.Prelude.{false, fold, map, nat_lt, not, replicate, ℕ}
use Rattle.std.specs.List.{list_any}
use Rattle.std.specs.Option.{option_map, option_and_then}
use Rattle.text_lines.specs.Tagged.{Item, character, line_items, line_columns, IsJoined}
use Rattle.text_lines.specs.Columns.{width_of}
use Rattle.text_pieces.specs.Sources.{Source, letter, fragment, fragments, sources_of, is_white_space}
use Rattle.text_preserved.specs.Preserved.{names_of}
use Rattle.text_pieces.specs.Modes.{is_preserved, is_same_mode}
use Rattle.text_pieces.specs.declared.white_space.WhiteSpace.{WhiteSpace}
use Rattle.text_pieces.specs.declared.white_space.WhiteSpace.TheVariants.{Normal}
use Rattle.text_wrapping.specs.Lines.{lines_in, waiting_in, is_wide_in}
use Rattle.text_wrapping.specs.declared.text_block.TextBlock.{TextBlock}
use Rattle.text_wrapping.specs.declared.block.WrappedBlock.{WrappedBlock}

-- LF
abbrev pub line_feed : ℕ
line_feed = 0xA

-- a line filled with spaces up to the width; a wider one stays
abbrev pub padded : {S : Type 0} → ℕ → Option S → List (Item S) → List (Item S)
padded width None items = items
padded width (Some tag) items = items ++ replicate (width - line_columns items) (character 0x20 tag)

-- A block: the columns of its lines; whether a wider character may stand alone; the tag of the spaces that fill its
-- lines, where they are filled; the lines of what has ended; the mode and the text so far of what has not.
pub record Block (S : Type 0) : Type 0 where
  pub width : ℕ
  pub overflow : Bool
  pub padding : Option S
  pub lines : List (List (Item S))
  pub mode : WhiteSpace
  pub source : List (Source S)

abbrev pub empty_block : {S : Type 0} → ℕ → Bool → Option S → Block S
empty_block width overflow padding = record {
  width = width;
  overflow = overflow;
  padding = padding;
  lines = [];
  mode = Normal;
  source = [];
}

abbrev pub lines_after : {S : Type 0} → Block S → List (List (Item S)) → Block S
lines_after b lines = record b {
  lines = b.lines ++ map (padded b.width b.padding) lines;
  source = fragments (waiting_in b.mode b.width b.source);
}

-- a character is wider than the block's lines
abbrev pub is_too_narrow : {S : Type 0} → Block S → Bool
is_too_narrow b = not b.overflow && is_wide_in b.mode b.width b.source

-- the text so far ends; markers after its last word wait for what comes
abbrev pub ended : {S : Type 0} → Block S → Option (Block S)
ended b = if is_too_narrow b then None else Some (lines_after b (lines_in b.mode b.width b.source))

-- an ended source line of which nothing is shown is an empty line
abbrev pub lines_or_empty : {A : Type 0} → List (List A) → List (List A)
lines_or_empty [] = [] ∷ []
lines_or_empty (line ∷ lines) = line ∷ lines

abbrev pub line_ended : {S : Type 0} → Block S → Option (Block S)
line_ended b =
    if is_too_narrow b then None else Some (lines_after b (lines_or_empty (lines_in b.mode b.width b.source)))

abbrev pub with_letter : {S : Type 0} → S → S → ℕ → Block S → Block S
with_letter main further c b = record b { source = b.source ++ letter c main further ∷ [] }

-- Where white space is preserved, LF ends the source line; so what is held is one source line.
abbrev pub took : {S : Type 0} → S → S → ℕ → Block S → Option (Block S)
took main further c b =
    if is_preserved b.mode && (c == line_feed) then line_ended b else Some (with_letter main further c b)

abbrev pub took_all : {S : Type 0} → S → S → List ℕ → Block S → Option (Block S)
took_all main further [] b = Some b
took_all main further (c ∷ cs) b = option_and_then (took_all main further cs) (took main further c b)

abbrev pub with_mode : {S : Type 0} → WhiteSpace → Block S → Block S
with_mode mode b = record b { mode = mode }

-- the text so far ends where it is of another mode
abbrev pub in_mode : {S : Type 0} → WhiteSpace → Block S → Option (Block S)
in_mode mode b = if is_same_mode mode b.mode then Some b else option_map (with_mode mode) (ended b)

-- text is added; an empty one changes nothing
abbrev pub added : {S : Type 0} → WhiteSpace → List ℕ → S → S → Block S → Option (Block S)
added mode [] main further b = Some b
added mode (c ∷ cs) main further b = option_and_then (took_all main further (c ∷ cs)) (in_mode mode b)

abbrev pub marked_by : {S : Type 0} → List ℕ → Block S → Block S
marked_by name b = record b { source = b.source ++ fragment name ∷ [] }

abbrev pub with_lines : {S : Type 0} → List (List (Item S)) → Block S → Block S
with_lines lines b = record b { lines = b.lines ++ map (padded b.width b.padding) lines }

abbrev pub with_source : {S : Type 0} → List (Source S) → Block S → Block S
with_source source b = record b { source = source }

abbrev pub after_sources : {S : Type 0} → List (Source S) → Block S → Block S
after_sources sources b = record b { source = b.source ++ sources }

-- what contracts see of a block
abbrev pub padding_of : {T S : Type 0} → (T → S) → TextBlock T → Option S
padding_of seen block = if block.pad_blocks then Some (seen block.default_tag) else None

abbrev pub text_of : {T S : Type 0} → (T → S) → TextBlock T → Block S
text_of seen block = record {
  width = block.width;
  overflow = block.allow_overflow;
  padding = padding_of seen block;
  lines = map (line_items seen) block.lines.items;
  mode = block.mode;
  source = sources_of seen block.pieces.items;
}

abbrev pub block_of : {T S : Type 0} → (T → S) → WrappedBlock T → Block S
block_of seen block = text_of seen block.text

abbrev pub lines_of : {S : Type 0} → Block S → List (List (Item S))
lines_of b = b.lines

abbrev pub without_source : {S : Type 0} → Block S → Block S
without_source b = record b { source = [] }

-- the text so far ends, and the markers after its last word are taken off
abbrev pub fragments_taken : {S : Type 0} → Block S → Option (List (List ℕ) × Block S)
fragments_taken b = option_map (λ e. (names_of e.source, without_source e)) (ended b)

-- the lines of all of a block's text
abbrev pub ended_lines : {S : Type 0} → Block S → Option (List (List (Item S)))
ended_lines b = option_map lines_of (ended b)

-- the last of the lines has columns
abbrev pub ends_in_columns : {S : Type 0} → List (List (Item S)) → Bool
ends_in_columns lines = fold (λ ends line. nat_lt 0 (line_columns line)) false lines

-- the text so far ends, and whether its last line has columns
abbrev pub broken : {S : Type 0} → Block S → Option (Bool × Block S)
broken b = option_map (λ e. (ends_in_columns (lines_in b.mode b.width b.source), e)) (ended b)

-- a character that takes a column wherever it stands
abbrev pub is_visible : ℕ → Bool
is_visible c = not (is_white_space c) && nat_lt 0 (width_of c)

abbrev pub has_visible : {S : Type 0} → List (Source S) → Bool
has_visible [] = false
has_visible (letter c main further ∷ rest) = is_visible c || has_visible rest
has_visible (fragment name ∷ rest) = has_visible rest

-- a line that has ended has columns, or such a character is held
abbrev pub has_columns : {S : Type 0} → Block S → Bool
has_columns b = list_any (λ line. nat_lt 0 (line_columns line)) b.lines || has_visible b.source

-- no text of the lines is empty, and none stands next to one with an equal tag
abbrev pub AreJoinedLines : {T S : Type 0} → (T → S) → TextBlock T → Type 0
AreJoinedLines seen block = All (IsJoined seen) block.lines.items

abbrev pub HasJoinedLines : {T S : Type 0} → (T → S) → WrappedBlock T → Type 0
HasJoinedLines seen block = AreJoinedLines seen block.text

-- a call was refused
abbrev pub has_failed : {T : Type 0} → WrappedBlock T → Bool
has_failed block = block.failed
