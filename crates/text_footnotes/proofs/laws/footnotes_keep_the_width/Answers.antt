use Rattle.text_footnotes.proofs.WidthLemmas.{footnotes_fit}
use Rattle.text_footnotes.proofs.laws.footnotes_keep_the_width.Goals as goal

pub returns : goal.returns
returns g c = λ width items wide. footnotes_fit width items wide
