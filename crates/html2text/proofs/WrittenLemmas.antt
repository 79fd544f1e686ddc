-- What was written of a page's lines.
use Rattle.std.proofs.Common.{ℕ, List, Vec, Global, map, Option, None, Some, IfSome, chars, ◌∙◌}
use Rattle.std.specs.Io.KnownBytes.{Appends}
use Rattle.block_renderer.specs.Seen.{IsTagging, marking, tags_seen}
use Rattle.lex_base.specs.KnownPart.{AppendsPart}
use Rattle.html2text.proofs.LinesTextLemmas.{chars-lines_bytes, lines_utf8}
use Rattle.html2text.specs.LinesText.{lines_bytes}
use Rattle.html2text.specs.Written.{Gains, GainsPart}
use Rattle.page_config.specs.PageAnswers.{HasText, IsEmitted, lines_text}
use Rattle.html_render_tree.specs.PageLaws.{IsTextWithin}
use Rattle.page_config.specs.Settings.{PageSetting}
use Rattle.text_lines.specs.Tagged.{line_items}
use Rattle.text_lines.specs.declared.tagged_line.TaggedLine.{TaggedLine}
use Rattle.text_decorators.specs.Marks.{DecoratorView, Mark}

-- what was gained is also of another kind
pub gains_weaker : {IsText : (bytes text : List ℕ) → Type 0} {IsOther : List ℕ → Type 0} (all old new : Option (List ℕ))
    → ((bytes text : List ℕ) → IsText bytes text → IsOther text) → IfSome all (λ bytes. Gains (IsText bytes) old new)
    → IfSome all (λ bytes. Gains IsOther old new)
gains_weaker None old new weaker gains = tt
gains_weaker (Some bytes) old new weaker gains = record {
  text = gains.text;
  utf8 = gains.utf8;
  page = weaker bytes (chars gains.text) gains.page;
  added = gains.added;
}

module _ {D T H A : Type 0} (seen : T → A) (view : DecoratorView D H T) (c : PageSetting H) (width : ℕ) where
  abbrev pub IsTextOf : List ℕ → List ℕ → Type 0
  IsTextOf bytes emitted = IsEmitted seen view c width bytes emitted

  abbrev pub HasLines : List (TaggedLine (Vec T Global)) → List ℕ → Type 0
  HasLines shown bytes = IsTextOf bytes (lines_text (map (line_items (tags_seen seen)) shown))

  emitted_of : (bytes : List ℕ) (shown : List (TaggedLine (Vec T Global))) → HasLines shown bytes
      → IsTextOf bytes (chars (lines_bytes shown))
  emitted_of bytes shown has = λ tag p. record {
    shown = (has tag p).shown;
    answer = (has tag p).answer;
    emitted = chars-lines_bytes (tags_seen seen) shown ∙ (has tag p).emitted;
  }

  pub written_page : (all old new : Option (List ℕ)) (shown : List (TaggedLine (Vec T Global)))
      → IfSome all (HasLines shown) → Appends old new (lines_bytes shown)
      → IfSome all (λ bytes. Gains (IsTextOf bytes) old new)
  written_page None old new shown has added = tt
  written_page (Some bytes) old new shown has added = record {
    text = lines_bytes shown;
    utf8 = lines_utf8 shown;
    page = emitted_of bytes shown has;
    added = added;
  }

  pub written_part : (all old new : Option (List ℕ)) (shown : List (TaggedLine (Vec T Global)))
      → IfSome all (HasLines shown) → AppendsPart old new (lines_bytes shown)
      → IfSome all (λ bytes. GainsPart (IsTextOf bytes) old new)
  written_part None old new shown has part = tt
  written_part (Some bytes) old new shown has part = record {
    text = lines_bytes shown;
    utf8 = lines_utf8 shown;
    page = emitted_of bytes shown has;
    part = part;
  }

  -- where the text that a decorator's annotations are seen by keeps the width, so does what is written
  pub written_within : (tag : H → Mark → A) → IsTagging seen view tag → ((bytes emitted : List ℕ)
      → HasText (marking view tag) seen view.closes c width bytes emitted → IsTextWithin width emitted)
      → (all old new : Option (List ℕ)) (shown : List (TaggedLine (Vec T Global)))
      → IfSome all (HasLines shown) → Appends old new (lines_bytes shown)
      → IfSome all (λ bytes. Gains (IsTextWithin width) old new)
  written_within tag tagging keeps all old new shown has added =
      gains_weaker {IsText = IsTextOf} {IsOther = IsTextWithin width} all old new
      (λ bytes emitted is. keeps bytes emitted (is tag tagging)) (written_page all old new shown has added)
