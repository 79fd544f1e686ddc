use Rattle.paragraph_laws.proofs.OwnLines.{KnowsNormalText}
use Rattle.paragraph_laws.proofs.RenderedLines.{are_laid}
use Rattle.paragraph_laws.proofs.lines.paragraphs_are_laid.Goals as goal

pub returns : goal.returns
returns c =
    let known : KnowsNormalText = record {
      letters = c.letters_of_texts.ensures.text;
      no_marker = c.letters_of_texts.ensures.no_marker;
      fullest = c.normal_lines_are_fullest.ensures;
      never = c.wide_text_never_fits.ensures;
      one = c.one_fullest_layout.ensures;
      markers = c.normal_lines_keep_markers.ensures;
      kept = c.normal_text_is_kept.ensures.added;
    } in
    λ setting width texts is_plain. are_laid known setting width texts is_plain
