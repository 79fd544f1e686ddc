use Rattle.article_definitions.proofs.Called.{paragraph_called}
use Rattle.article_definitions.proofs.laws.calls_of_a_paragraph.Goals as goal

pub returns : goal.returns
returns c = λ o width number links is before hanging.
    paragraph_called c.normal_lines_keep_markers.ensures o width number hanging links is before
