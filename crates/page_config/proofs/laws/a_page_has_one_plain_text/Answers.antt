use Rattle.html_render_tree.specs.PlainText.{plain_closes, plain_marking}
use Rattle.page_config.proofs.PlainLemmas.{plain_alike}
use Rattle.page_config.proofs.SeenSettings.{texts_alike}
use Rattle.page_config.proofs.laws.a_page_has_one_plain_text.Goals as goal

pub returns : goal.returns
returns c = λ table width bytes one other first second.
    c.a_page_has_one_text.ensures (λ _ _. tt) second.setting width bytes one other
    (texts_alike plain_marking (λ _. tt) plain_closes first.setting second.setting
    (plain_alike table first.setting second.setting first.plain second.plain) width bytes one first.has) second.has
