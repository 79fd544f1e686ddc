-- What contracts see of a `Config`.
use Rattle.std.specs.Prelude.{ℕ, Bool, false, List, []}
use Rattle.lex_base.specs.References.{References}
use Rattle.html_render_tree.specs.PageLines.{Setting}
use Rattle.text_decorators.specs.Marks.{DecoratorView}
use Rattle.html_render_tree.specs.Settings.{conversion_of, rules_of, setting_of}
use Rattle.html_tree_builder.specs.Defaults.{default_parse}
use Rattle.html_tree_builder.specs.declared.options.ParseOpts.{ParseOpts}
use Rattle.page_config.specs.declared.config.Config.{Config}
use Rattle.render_conversion.specs.Options.{default_conversion}
use Rattle.render_conversion.specs.declared.options.ConversionOptions.{ConversionOptions}
use Rattle.block_trait.specs.Defaults.{default_options}
use Rattle.block_trait.specs.declared.options.RenderOptions.{RenderOptions}
use Rattle.dom_styles.specs.declared.rules.StyleRule.{StyleRule}

-- the table of references and the options by which a page is parsed; what is asked of its conversion, the rules of
-- style, and what it is rendered by; and whether the rules that mark emphasis, strong text, terms and code were asked
-- for
pub record PageSetting (H : Type 0) : Type 0 where
  pub table : References
  pub parsing : ParseOpts
  pub conversion : ConversionOptions
  pub rules : List StyleRule
  pub rendering : Setting H
  pub decorates : Bool

-- what pages are read and rendered by, as a decorator that is made for each holds it
abbrev pub page_setting : {D T H : Type 0} → DecoratorView D H T → Config D T → PageSetting H
page_setting view c = record {
  table = c.table;
  parsing = c.parsing;
  conversion = conversion_of c.rendering;
  rules = rules_of c.rendering;
  rendering = setting_of view c.rendering;
  decorates = c.decorates;
}

-- a decorator that holds nothing, as far as settings see it
abbrev bare_view : {D T : Type 0} → DecoratorView D (Unit {0}) T
bare_view = record {
  held = λ _. tt;
  text = λ _ _. [];
  gives = λ _ _ _. Unit {0};
  marks = λ _ _. false;
  after = λ h _. h;
  pops = λ _ _. false;
  sub = λ h. h;
  closes = λ _ _. [];
}

-- the same of a decorator that holds nothing
abbrev pub bare_setting : {D T : Type 0} → Config D T → PageSetting (Unit {0})
bare_setting c = page_setting bare_view c

-- parsed with scripting or without it
abbrev pub scripted : Bool → ParseOpts → ParseOpts
scripted enabled parsing =
    record parsing { tree_builder = record parsing.tree_builder { scripting_enabled = enabled } }

-- at most so many bytes are read of a page
abbrev pub max_bytes_of : {D T : Type 0} → Config D T → ℕ
max_bytes_of c = c.max_bytes

-- where nothing else is said: parsed and rendered as pages are by default, without rules of style or marks
abbrev pub by_default : {H : Type 0} → References → (held : H) → PageSetting H
by_default table held = record {
  table = table;
  parsing = default_parse;
  conversion = default_conversion;
  rules = [];
  rendering = record { options = default_options; min_wrap = 3; held = held };
  decorates = false;
}

-- the same, rendered with other options
abbrev pub rendered_with : {H : Type 0} → PageSetting H → RenderOptions → PageSetting H
rendered_with c options = record c { rendering = record c.rendering { options = options } }

-- where nothing else is said, by a decorator that holds nothing
abbrev pub bare_default : References → PageSetting (Unit {0})
bare_default table = by_default table tt
