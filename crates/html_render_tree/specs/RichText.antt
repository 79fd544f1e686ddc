-- Pages as rich text: what its decorator marks and notes, and what it closes a page with.
use Rattle.std.specs.Prelude.{ℕ, true, List}
use Rattle.block_trait.specs.Renderers.{Marking}
use Rattle.text_lines.specs.Tagged.{Item}
use Rattle.text_decorators.specs.Annotations.{RichTag}
use Rattle.text_decorators.specs.Laws.{rich_mark_tag}
use Rattle.text_decorators.specs.Texts.{footnote_lines, is_colour, rich_text}
use Rattle.text_decorators.specs.declared.annotation.RichAnnotation.{RichAnnotation}
use Rattle.text_decorators.specs.declared.annotation.RichAnnotation.TheVariants.{Default}

abbrev pub rich_marking : Marking (Unit {0}) RichTag
rich_marking = record {
  mark_text = λ _ m. rich_text m;
  mark_tag = λ _ m. rich_mark_tag m;
  has_tag = λ _ m. is_colour m;
  after = λ h _. h;
  ends_tag = λ _ _. true;
  sub = λ h. h;
}

abbrev pub rich_closes : Unit {0} → List (List ℕ) → List (List (Item RichAnnotation))
rich_closes _ targets = footnote_lines Default targets
