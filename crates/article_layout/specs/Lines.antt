-- What contracts see of a line.
use Rattle.std.specs.Prelude.{Vec, map}
use Rattle.std.specs.Global.{Global}
use Rattle.article_layout.specs.declared.line_list.Line.{Line as CodeLine}
use Rattle.article_definitions.specs.Layouts.{Line, Tag}
use Rattle.text_lines.specs.Tagged.{line_items}

-- a list of annotations
abbrev pub tag_of : Vec (Unit {0}) Global → Tag
tag_of tags = map (λ _. tt) tags.items

abbrev pub line_of : CodeLine → Line
line_of l = record { items = line_items tag_of l.line; content = l.content; number = l.paragraph }
