-- The bytes of a line, element by element.
use Rattle.std.proofs.Common.{◌≡◌, ℕ, List, [], ◌∷◌, ◌++◌, map, refl, ap, ◌∙◌, append_assoc, sym, rules, IsUtf8}
use Rattle.std.specs.Prelude.{string_bytes}
use Rattle.std.specs.Str.{chars}
use Rattle.std.proofs.lemmas.Str.{chars-nil, chars-append, IsUtf8-string_bytes, IsUtf8-append, IsUtf8-nil}
use Rattle.text_lines.specs.Tagged.{Item, characters, element_text, elements_items, elements_text, line_items}
use Rattle.text_lines.specs.Tagged.{line_text, tagged}
use Rattle.text_lines.specs.declared.tagged_line.TaggedLine.{TaggedLine}
use Rattle.text_lines.specs.declared.tagged_string.TaggedLineElement.{TaggedLineElement}
use Rattle.text_lines.specs.declared.tagged_string.TaggedLineElement.TheVariants.{Str, FragmentStart}
use Rattle.html2text.specs.LinesText.{elements_bytes, line_bytes, lines_bytes, newline}
use Rattle.page_config.specs.PageAnswers.{lines_text}

characters-tagged : {S : Type 0} (cs : List ℕ) (tag : S) (rest : List (Item S))
    → characters (tagged cs tag ++ rest) ≡ cs ++ characters rest
characters-tagged [] tag rest = refl
characters-tagged (c ∷ cs) tag rest = ap (λ l. c ∷ l) (characters-tagged cs tag rest)

characters-elements : {T S : Type 0} (seen : T → S) (es : List (TaggedLineElement T))
    → characters (elements_items seen es) ≡ elements_text es
characters-elements seen [] = refl
characters-elements seen (Str string ∷ es) =
    characters-tagged (chars (string_bytes string.s)) (seen string.tag) (elements_items seen es)
    ∙ ap (λ l. chars (string_bytes string.s) ++ l) (characters-elements seen es)
characters-elements seen (FragmentStart name ∷ es) = characters-elements seen es
    ∙ ap (λ l. l ++ elements_text es) (sym chars-nil)

-- the characters of a line's items are its text
characters-line : {T S : Type 0} (seen : T → S) (line : TaggedLine T) → characters (line_items seen line)
    ≡ line_text line
characters-line seen line = characters-elements seen line.elements.items

pub elements_bytes-step : {T : Type 0} (es : List (TaggedLineElement T)) (e : TaggedLineElement T)
    (rest : List (TaggedLineElement T)) (bytes : List ℕ)
    → es ≡ e ∷ rest → bytes ≡ element_text e → elements_bytes es ++ newline ≡ bytes ++ (elements_bytes rest ++ newline)
elements_bytes-step es e rest bytes h is =
    ap (λ l. elements_bytes l ++ newline) h ∙ append_assoc (element_text e) (elements_bytes rest) newline ∙
    ap (λ l. l ++ (elements_bytes rest ++ newline)) (sym is)

pub elements_bytes-end : {T : Type 0} (es : List (TaggedLineElement T)) → es ≡ [] →
    elements_bytes es ++ newline ≡ newline ++ []
elements_bytes-end es h = ap (λ l. elements_bytes l ++ newline) h

pub lines_bytes-step : {T : Type 0} (ls : List (TaggedLine T)) (l : TaggedLine T) (rest : List (TaggedLine T)) →
    ls ≡ l ∷ rest → lines_bytes ls ≡ line_bytes l ++ lines_bytes rest
lines_bytes-step ls l rest h = ap lines_bytes h

element_utf8 : {T : Type 0} (e : TaggedLineElement T) → IsUtf8 (element_text e)
element_utf8 (Str string) = IsUtf8-string_bytes string.s
element_utf8 (FragmentStart name) = IsUtf8-nil

elements_utf8 : {T : Type 0} (es : List (TaggedLineElement T)) → IsUtf8 (elements_bytes es)
elements_utf8 [] = IsUtf8-nil
elements_utf8 (e ∷ es) = IsUtf8-append (element_text e) (elements_bytes es) (element_utf8 e) (elements_utf8 es)

chars-elements_bytes : {T : Type 0} (es : List (TaggedLineElement T)) → chars (elements_bytes es) ≡ elements_text es
chars-elements_bytes [] = chars-nil
chars-elements_bytes (e ∷ es) =
    chars-append (element_text e) (elements_bytes es) (element_utf8 e) ∙ ap (λ l. chars (element_text e) ++ l)
    (chars-elements_bytes es)

chars-newline : chars newline ≡ newline
unfolding chars
chars-newline = refl

newline_utf8 : IsUtf8 newline
newline_utf8 = search rules

line_utf8 : {T : Type 0} (line : TaggedLine T) → IsUtf8 (line_bytes line)
line_utf8 line =
    IsUtf8-append (elements_bytes line.elements.items) newline (elements_utf8 line.elements.items) newline_utf8

pub lines_utf8 : {T : Type 0} (lines : List (TaggedLine T)) → IsUtf8 (lines_bytes lines)
lines_utf8 [] = IsUtf8-nil
lines_utf8 (line ∷ lines) = IsUtf8-append (line_bytes line) (lines_bytes lines) (line_utf8 line) (lines_utf8 lines)

chars-line_bytes : {T : Type 0} (line : TaggedLine T) → chars (line_bytes line) ≡ line_text line ++ newline
chars-line_bytes line =
    chars-append (elements_bytes line.elements.items) newline (elements_utf8 line.elements.items) ∙
    ap (λ l. l ++ chars newline) (chars-elements_bytes line.elements.items) ∙
    ap (λ l. line_text line ++ l) chars-newline

-- the bytes that are written are those of the lines' text
pub chars-lines_bytes : {T S : Type 0} (seen : T → S) (lines : List (TaggedLine T)) →
    chars (lines_bytes lines) ≡ lines_text (map (line_items seen) lines)
chars-lines_bytes seen [] = chars-nil
chars-lines_bytes seen (line ∷ lines) =
    chars-append (line_bytes line) (lines_bytes lines) (line_utf8 line) ∙ ap (λ l. l ++ chars (lines_bytes lines))
    (chars-line_bytes line)
    ∙ ap (λ l. (l ++ newline) ++ chars (lines_bytes lines)) (sym (characters-line seen line))
    ∙ ap (λ l. (characters (line_items seen line) ++ newline) ++ l) (chars-lines_bytes seen lines)
