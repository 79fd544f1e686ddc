-- The lines of a text hold no control character, whatever text is added.
use Rattle.std.proofs.Common.{◌-◌, ◌&&◌, ◌==◌, [], ◌∷◌, if◌then◌else◌, All, Bool, IfSome, List, None, Option}
use Rattle.std.proofs.Common.{Some, false, map, replicate, true, ℕ}
use Rattle.std.specs.Option.{option_map}
use Rattle.std.proofs.lemmas.List.Elements.{All-append, All-cons, All-head, All-nil, All-tail}
use Rattle.text_lines.specs.Tagged.{Item, character, line_columns}
use Rattle.text_pieces.specs.Sources.{Source}
use Rattle.text_pieces.specs.Modes.{is_preserved, is_same_mode, is_wrapped}
use Rattle.text_pieces.specs.declared.white_space.WhiteSpace.{WhiteSpace}
use Rattle.text_preserved.specs.Preserved.{preserved_lines}
use Rattle.text_normal.specs.Riders.{normal_lines}
use Rattle.text_wrapping.specs.Lines.{lines_in}
use Rattle.text_wrapping.specs.Blocks.{Block, added, ended, ended_lines, in_mode, is_too_narrow, line_ended, line_feed}
use Rattle.text_wrapping.specs.Blocks.{lines_after, lines_of, lines_or_empty, padded, took, took_all, with_letter}
use Rattle.text_wrapping.specs.Blocks.{with_mode}
use Rattle.block_layout_laws.proofs.OptionLemmas.{chained, mapped}
use Rattle.printed_block_laws.specs.Printed.{ArePrinted}
use Rattle.printed_block_laws.proofs.PrintedItems.{none_printed, printed_both, printed_spaces}
use Rattle.printed_block_laws.proofs.NormalLines.{normal_lines_printed}
use Rattle.printed_block_laws.proofs.PreservedLines.{preserved_lines_printed}

abbrev pub IsPrintedText : {S : Type 0} → Block S → Type 0
IsPrintedText b = All ArePrinted b.lines

pub padded_printed : {S : Type 0} (width : ℕ) (padding : Option S) (items : List (Item S)) → ArePrinted items
    → ArePrinted (padded width padding items)
padded_printed width None items h = h
padded_printed width (Some tag) items h =
    printed_both items (replicate (width - line_columns items) (character 0x20 tag)) h
    (printed_spaces (width - line_columns items) tag)

text_lines_printed : {S : Type 0} (mode : WhiteSpace) (width : ℕ) (source : List (Source S))
    → All ArePrinted (lines_in mode width source)
text_lines_printed mode width source = by_mode (is_preserved mode)
  where
    by_mode : (b : Bool) → All ArePrinted (if b then preserved_lines width (is_wrapped mode) source
        else normal_lines width source)
    by_mode true = preserved_lines_printed width (is_wrapped mode) source
    by_mode false = normal_lines_printed width source

or_empty_printed : {S : Type 0} (lines : List (List (Item S))) → All ArePrinted lines
    → All ArePrinted (lines_or_empty lines)
or_empty_printed [] all = All-cons ArePrinted [] [] none_printed (All-nil ArePrinted)
or_empty_printed (line ∷ lines) all = all

all_padded : {S : Type 0} (width : ℕ) (padding : Option S) (lines : List (List (Item S))) → All ArePrinted lines
    → All ArePrinted (map (padded width padding) lines)
all_padded width padding [] all = All-nil ArePrinted
all_padded width padding (line ∷ lines) all =
    All-cons ArePrinted (padded width padding line) (map (padded width padding) lines)
    (padded_printed width padding line (All-head ArePrinted line lines all))
    (all_padded width padding lines (All-tail ArePrinted line lines all))

-- ---- what ends

after_printed : {S : Type 0} (b : Block S) (lines : List (List (Item S))) → IsPrintedText b → All ArePrinted lines
    → IsPrintedText (lines_after b lines)
after_printed b lines h all =
    All-append ArePrinted b.lines (map (padded b.width b.padding) lines) h (all_padded b.width b.padding lines all)

unless_narrow : {S : Type 0} (narrow : Bool) (mid : Block S) → IsPrintedText mid
    → IfSome (if narrow then None else Some mid) IsPrintedText
unless_narrow true mid h = tt
unless_narrow false mid h = h

pub ended_printed : {S : Type 0} (b : Block S) → IsPrintedText b → IfSome (ended b) IsPrintedText
ended_printed b h =
    unless_narrow (is_too_narrow b) (lines_after b (lines_in b.mode b.width b.source))
    (after_printed b (lines_in b.mode b.width b.source) h (text_lines_printed b.mode b.width b.source))

line_printed : {S : Type 0} (b : Block S) → IsPrintedText b → IfSome (line_ended b) IsPrintedText
line_printed b h =
    unless_narrow (is_too_narrow b) (lines_after b (lines_or_empty (lines_in b.mode b.width b.source)))
    (after_printed b (lines_or_empty (lines_in b.mode b.width b.source)) h
    (or_empty_printed (lines_in b.mode b.width b.source) (text_lines_printed b.mode b.width b.source)))

pub ended_lines_printed : {S : Type 0} (b : Block S) → IsPrintedText b → IfSome (ended_lines b) (All ArePrinted)
ended_lines_printed b h = mapped IsPrintedText (All ArePrinted) lines_of (ended b) (λ e all. all) (ended_printed b h)

-- ---- what is taken

took_printed : {S : Type 0} (main further : S) (c : ℕ) (b : Block S) → IsPrintedText b
    → IfSome (took main further c b) IsPrintedText
took_printed main further c b h = by_end (is_preserved b.mode && (c == line_feed))
  where
    by_end : (t : Bool) → IfSome (if t then line_ended b else Some (with_letter main further c b)) IsPrintedText
    by_end true = line_printed b h
    by_end false = h

took_all_printed : {S : Type 0} (main further : S) (cs : List ℕ) (b : Block S) → IsPrintedText b
    → IfSome (took_all main further cs b) IsPrintedText
took_all_printed main further [] b h = h
took_all_printed main further (c ∷ cs) b h =
    chained IsPrintedText IsPrintedText (took_all main further cs) (took main further c b)
    (λ x all. took_all_printed main further cs x all) (took_printed main further c b h)

entered_printed : {S : Type 0} (mode : WhiteSpace) (b : Block S) → IsPrintedText b
    → IfSome (in_mode mode b) IsPrintedText
entered_printed mode b h = by_mode (is_same_mode mode b.mode)
  where
    by_mode : (t : Bool) → IfSome (if t then Some b else option_map (with_mode mode) (ended b)) IsPrintedText
    by_mode true = h
    by_mode false = mapped IsPrintedText IsPrintedText (with_mode mode) (ended b) (λ x all. all) (ended_printed b h)

pub added_printed : {S : Type 0} (mode : WhiteSpace) (cs : List ℕ) (main further : S) (b : Block S) → IsPrintedText b
    → IfSome (added mode cs main further b) IsPrintedText
added_printed mode [] main further b h = h
added_printed mode (c ∷ cs) main further b h =
    chained IsPrintedText IsPrintedText (took_all main further (c ∷ cs)) (in_mode mode b)
    (λ x all. took_all_printed main further (c ∷ cs) x all) (entered_printed mode b h)
