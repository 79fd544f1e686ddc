use Rattle.block_laws.proofs.BareLemmas.{step_bare, lines_bare, text_bare}
use Rattle.block_laws.proofs.BareNoteLemmas.{bare_stays, footnotes_bare}
use Rattle.block_laws.proofs.bare.annotations_change_no_text.Goals as goal

pub returns-clause-step : goal.returns-clause-step
returns-clause-step g c = λ m call s. step_bare m call s

pub returns-clause-footnotes : goal.returns-clause-footnotes
returns-clause-footnotes g c = λ notes s. footnotes_bare notes s

pub returns-clause-bare : goal.returns-clause-bare
returns-clause-bare g c = λ s. bare_stays s

pub returns-clause-lines : goal.returns-clause-lines
returns-clause-lines g c = λ s. lines_bare s

pub returns-clause-text : goal.returns-clause-text
returns-clause-text g c = λ s. text_bare s
