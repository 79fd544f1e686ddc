use Rattle.std.proofs.Common.{ap, sym, ◌∙◌}
use Rattle.text_lines.specs.Columns.{text_columns}
use Rattle.text_lines.proofs.Joins.{elements_characters}
use Rattle.text_lines.proofs.tagged_line.TaggedLine.width.Goals as goal

pub returns : goal.returns
returns g c =
    c.args.self.now.counted ∙ ap text_columns (sym
    (elements_characters g.T.EqualCopy.seen c.args.self.now.elements.items))
