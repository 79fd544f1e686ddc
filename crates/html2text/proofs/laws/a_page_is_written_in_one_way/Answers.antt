use Rattle.html2text.proofs.OneWay.{asked_alike, narrow_or_none, one_look, text_or_narrow, text_or_none}
use Rattle.text_decorators.specs.Laws.{rich_mark_tag}
use Rattle.html2text.proofs.laws.a_page_is_written_in_one_way.Goals as goal

pub returns-clause-text : goal.returns-clause-text
returns-clause-text c = λ asked names bytes one other first second.
    one_look asked.rich first.setting second.setting asked.width bytes one other
    (asked_alike asked names first.setting second.setting first.is second.is)
    (c.a_page_has_one_text-2.ensures (λ _ m. rich_mark_tag m)) (c.a_page_has_one_text.ensures (λ _ _. tt))
    first.has second.has

pub returns-clause-narrow : goal.returns-clause-narrow
returns-clause-narrow c = λ asked names bytes text first second.
    text_or_narrow asked.rich first.setting second.setting asked.width bytes text
    (asked_alike asked names first.setting second.setting first.is second.is)
    (c.a_page_has_one_answer-2.ensures (λ _ m. rich_mark_tag m)) (c.a_page_has_one_answer.ensures (λ _ _. tt))
    first.has second.has

pub returns-clause-other : goal.returns-clause-other
returns-clause-other c = λ asked names bytes text first second.
    text_or_none asked.rich first.setting second.setting asked.width bytes text
    (asked_alike asked names first.setting second.setting first.is second.is)
    (c.a_page_has_one_answer-2.ensures (λ _ m. rich_mark_tag m)) (c.a_page_has_one_answer.ensures (λ _ _. tt))
    first.has second.has

pub returns-clause-neither : goal.returns-clause-neither
returns-clause-neither c = λ asked names bytes first second.
    narrow_or_none asked.rich first.setting second.setting asked.width bytes
    (asked_alike asked names first.setting second.setting first.is second.is)
    (c.a_page_has_one_answer-2.ensures (λ _ m. rich_mark_tag m)) (c.a_page_has_one_answer.ensures (λ _ _. tt))
    first.has second.has
