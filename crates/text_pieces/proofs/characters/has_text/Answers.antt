use Rattle.std.proofs.Common.{◌∙◌}
use Rattle.text_lines.specs.Tagged.{line_elements}
use Rattle.text_pieces.proofs.CharacterLemmas.{filled_text}
use Rattle.text_pieces.proofs.characters.has_text.Goals as goal

pub returns : goal.returns
returns g c = c.holds_text.ensures ∙ filled_text g.T.EqualCopy.seen (line_elements c.args.line.now)
