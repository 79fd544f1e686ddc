use Rattle.article_definitions.proofs.Narrow.{always_lines}
use Rattle.article_definitions.proofs.laws.paragraphs_are_never_refused.Goals as goal

pub returns : goal.returns
returns c = λ o width a room h. always_lines o width a room h
