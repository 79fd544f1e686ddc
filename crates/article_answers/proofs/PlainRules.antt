-- Rules that mark texts, where these were asked for.
use Rattle.std.proofs.Common.{◌≡◌, Bool, true, false, List, map}
use Rattle.article_page_laws.specs.ArticleValues.{AreRulesOf}
use Rattle.render_conversion.specs.Decorating.{decorating_rules, seen_rule}
use Rattle.dom_styles.specs.declared.rules.StyleRule.{StyleRule}

pub rules_of_plain : (decorates : Bool) (rules : List StyleRule) → decorates ≡ true →
    map seen_rule rules ≡ decorating_rules → AreRulesOf decorates rules
rules_of_plain true rules is same = same
rules_of_plain false rules is same = cc
