-- The rules of the program that mark emphasis, strong text, terms and code by characters around them.
use Rattle.std.specs.Prelude.{ℕ, List, [], ◌∷◌, codes}
use Rattle.dom_styles.specs.declared.cascade.Importance.TheVariants.{Default}
use Rattle.dom_styles.specs.declared.cascade.StyleOrigin.{StyleOrigin}
use Rattle.dom_styles.specs.declared.cascade.StyleOrigin.TheVariants.{Agent}
use Rattle.dom_styles.specs.declared.rules.Style.TheVariants.{Content}
use Rattle.dom_styles.specs.declared.rules.StyleDecl.{StyleDecl}
use Rattle.dom_styles.specs.declared.rules.StylePlace.{StylePlace}
use Rattle.dom_styles.specs.declared.rules.StylePlace.TheVariants.{After, Before}
use Rattle.dom_styles.specs.declared.rules.StyleRule.{StyleRule}

pub record SeenRule : Type 0 where
  pub origin : StyleOrigin
  pub element : List ℕ
  pub place : StylePlace
  pub declarations : List StyleDecl

-- what the cascade reads of a rule
abbrev pub seen_rule : StyleRule → SeenRule
seen_rule rule = record {
  origin = rule.origin;
  element = rule.element;
  place = rule.place;
  declarations = rule.declarations.items;
}

abbrev pub content_rule : (element : List ℕ) → StylePlace → (mark : List ℕ) → SeenRule
content_rule element place mark = record {
  origin = Agent;
  element = element;
  place = place;
  declarations = record { style = Content mark; importance = Default } ∷ [];
}

abbrev pub decorating_rules : List SeenRule
decorating_rules =
    content_rule (codes "em") Before (codes "*") ∷ content_rule (codes "em") After (codes "*")
    ∷ content_rule (codes "dt") Before (codes "*") ∷ content_rule (codes "dt") After (codes "*")
    ∷ content_rule (codes "strong") Before (codes "**") ∷ content_rule (codes "strong") After (codes "**")
    ∷ content_rule (codes "b") Before (codes "**") ∷ content_rule (codes "b") After (codes "**")
    ∷ content_rule (codes "code") Before (codes "`") ∷ content_rule (codes "code") After (codes "`") ∷ []
