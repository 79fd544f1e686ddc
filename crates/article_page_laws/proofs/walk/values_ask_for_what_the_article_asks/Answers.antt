use Rattle.article_page_laws.proofs.Leasts.{bullet_columns, least_of_inlines, least_of_item_values, least_of_values}
use Rattle.article_page_laws.proofs.Leasts.{numbers_columns}
use Rattle.article_page_laws.proofs.Prefixes.{heading_columns_are, quote_columns_are}
use Rattle.article_page_laws.proofs.walk.values_ask_for_what_the_article_asks.Goals as goal

pub returns-clause-blocks : goal.returns-clause-blocks
returns-clause-blocks c = λ o blocks. least_of_values o blocks

pub returns-clause-items : goal.returns-clause-items
returns-clause-items c = λ o items. least_of_item_values o items

pub returns-clause-inlines : goal.returns-clause-inlines
returns-clause-inlines c = λ o inlines. least_of_inlines o inlines

pub returns-clause-headings : goal.returns-clause-headings
returns-clause-headings c = λ level. heading_columns_are level

pub returns-clause-quotes : goal.returns-clause-quotes
returns-clause-quotes c = quote_columns_are

pub returns-clause-bullets : goal.returns-clause-bullets
returns-clause-bullets c = bullet_columns

pub returns-clause-numbers : goal.returns-clause-numbers
returns-clause-numbers c = λ o first items. numbers_columns o first items
