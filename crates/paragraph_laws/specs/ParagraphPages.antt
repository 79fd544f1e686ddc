-- How pages of paragraphs are laid out: each text in its fullest layout, an empty line between what shows something.
use Rattle.std.specs.Prelude.{◌≡◌, ◌≢◌, ◌⊎◌, ◌↔◌, ℕ, ◌<◌, Any, List, [], None, Some, map}
use Rattle.html_render_tree.specs.PageLines.{Setting, page_lines}
use Rattle.html_render_tree.specs.PlainText.{plain_closes, plain_marking}
use Rattle.render_conversion.specs.Conversion.{document_values}
use Rattle.render_conversion.specs.Decorating.{decorating_rules, seen_rule}
use Rattle.render_conversion.specs.declared.options.ConversionOptions.{ConversionOptions}
use Rattle.render_values.specs.Values.{Values, none}
use Rattle.block_trait.specs.Defaults.{default_options}
use Rattle.dom_styles.specs.declared.rules.StyleRule.{StyleRule}
use Rattle.paragraph_laws.specs.ParagraphLines.{AreLinesAfter, IsWiderText, PlainItems}
use Rattle.paragraph_laws.specs.ParagraphTrees.{paragraph_tree}

-- rules of style that say nothing of paragraphs: none, or those that mark emphasis, strong text, terms and code
abbrev pub AreQuiet : List StyleRule → Type 0
AreQuiet rules = (rules ≡ []) ⊎ (map seen_rule rules ≡ decorating_rules)

-- options as they are by default, but for the targets of links, and whether columns of tables are fitted
abbrev pub IsPlain : Setting (Unit {0}) → Type 0
IsPlain c = c.options ≡ record default_options {
  include_link_footnotes = c.options.include_link_footnotes;
  shared_footnotes = c.options.shared_footnotes;
  printable_targets = c.options.printable_targets;
  fit_columns = c.options.fit_columns;
}

-- What a page of paragraphs has: values that are rendered as its paragraphs' lines and no others, and for which a width
-- is too narrow just where it is for one of the texts.
pub record AreLaid (c : Setting (Unit {0})) (width : ℕ) (texts : List (List ℕ)) (values : Values) : Type 0 where
  pub some : values ≢ none
  pub lines : (lines : List PlainItems)
      → (page_lines plain_marking (λ _. tt) plain_closes c width values ≡ Some lines)
      ↔ AreLinesAfter width [] texts lines
  pub narrow : (page_lines plain_marking (λ _. tt) plain_closes c width values ≡ None)
      ↔ Any (IsWiderText width) texts

abbrev pub ParagraphPagesAreLaid : Type 0
ParagraphPagesAreLaid =
    (o : ConversionOptions) (rules : List StyleRule) (c : Setting (Unit {0})) (width : ℕ) (texts : List (List ℕ)) →
    AreQuiet rules → IsPlain c → 0 < width →
    AreLaid c width texts (document_values o rules (paragraph_tree texts))
