use Rattle.text_borders.proofs.RowRetagged.{across_retagged, as_text_retagged, line_shown_retagged, filled_to_retagged}
use Rattle.text_borders.proofs.laws.rows_heed_no_tags.Goals as goal

pub returns-clause-across : goal.returns-clause-across
returns-clause-across g c = λ f draws collapse tag above cells hanging.
    across_retagged f draws collapse tag above cells hanging

pub returns-clause-text : goal.returns-clause-text
returns-clause-text g c = λ f tag line. as_text_retagged f tag line

pub returns-clause-shown : goal.returns-clause-shown
returns-clause-shown g c = λ f line. line_shown_retagged f line

pub returns-clause-filled : goal.returns-clause-filled
returns-clause-filled g c = λ f width b. filled_to_retagged f width b
