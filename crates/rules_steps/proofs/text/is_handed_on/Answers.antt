use Rattle.std.proofs.Common.{◌∙◌, sym}
use Rattle.rules_steps.proofs.TextLemmas.{false_true}
use Rattle.rules_steps.proofs.text.is_handed_on.Goals as goal

pub returns-then-not-takes_text_here-clause-no : goal.returns-then-not-takes_text_here-clause-no
returns-then-not-takes_text_here-clause-no g c =
    λ e here h. false_true (sym c.if-not-takes_text_here.true ∙ (c.takes_text_here.ensures.text 0 ∙ here 0))
