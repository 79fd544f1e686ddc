-- The render values of an article's page, and the rules of style by which it has them.
use Rattle.std.specs.Prelude.{◌≡◌, Bool, List, [], map, if◌then◌else◌}
use Rattle.render_conversion.specs.Decorating.{decorating_rules, seen_rule}
use Rattle.dom_styles.specs.declared.rules.StyleRule.{StyleRule}
pub use Rattle.article_definitions.specs.ArticleValues.{link_before, marked, page_values, style_info, text_before}
pub use Rattle.article_definitions.specs.ArticleValues.{values_of_blocks, values_of_inlines, values_of_items}

-- the rules that mark emphasis, strong text, terms and code, or none
abbrev pub AreRulesOf : (decorates : Bool) → List StyleRule → Type 0
AreRulesOf decorates rules = map seen_rule rules ≡ (if decorates then decorating_rules else [])
