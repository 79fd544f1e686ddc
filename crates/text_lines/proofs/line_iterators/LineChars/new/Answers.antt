use Rattle.std.proofs.Common.{◌++◌, ap}
use Rattle.std.proofs.lemmas.Str.{chars-nil}
use Rattle.text_lines.specs.Elements.{elements_text}
use Rattle.text_lines.proofs.line_iterators.LineChars.new.Goals as goal

pub returns : goal.returns
returns g c = ap (λ cs. cs ++ elements_text c.args.elements.now) chars-nil
