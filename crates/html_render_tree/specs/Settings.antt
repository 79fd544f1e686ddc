-- What contracts see of how a page is rendered.
use Rattle.std.specs.Prelude.{◌≡◌, List, ◌++◌, map}
use Rattle.render_conversion.specs.Decorating.{decorating_rules, seen_rule}
use Rattle.render_conversion.specs.declared.options.ConversionOptions.{ConversionOptions}
use Rattle.block_trait.specs.declared.options.RenderOptions.{RenderOptions}
use Rattle.dom_styles.specs.declared.rules.StyleRule.{StyleRule}
use Rattle.html_render_tree.specs.PageLines.{Setting}
use Rattle.text_decorators.specs.Marks.{DecoratorView}
use Rattle.html_render_tree.specs.declared.config.RenderConfig.{RenderConfig}

-- A page is rendered by a decorator that was made for it.
abbrev pub setting_of : {D T H : Type 0} → DecoratorView D H T → RenderConfig D T → Setting H
setting_of view c = record {
  options = c.options;
  min_wrap = c.min_wrap_width;
  held = view.sub (view.held c.decorator);
}

abbrev pub rules_of : {D T : Type 0} → RenderConfig D T → List StyleRule
rules_of c = c.rules.items

abbrev pub conversion_of : {D T : Type 0} → RenderConfig D T → ConversionOptions
conversion_of c = c.conversion

-- the same with other options
abbrev pub with_options : {H : Type 0} → Setting H → RenderOptions → Setting H
with_options c options = record c { options = options }

-- The rules that mark emphasis, strong text, terms and code stand before these.
pub record IsDecorated (before after : List StyleRule) : Type 0 where
  pub marks : List StyleRule
  pub seen : map seen_rule marks ≡ decorating_rules
  pub whole : after ≡ marks ++ before
