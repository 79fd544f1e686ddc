-- Trees and values to write rows with.
use Rattle.std.specs.Prelude.{ℕ, false, List, [], None, Some}
use Rattle.tree_forest.specs.Trees.{Trees, followed_by, node}
use Rattle.tree_forest.specs.Trees as of_trees
use Rattle.tree_forest.specs.Forest.{element, text}
use Rattle.html_lexemes.specs.declared.names.Attribute.{Attribute}
use Rattle.html_lexemes.specs.declared.names.Namespace.TheVariants.{Html, Other, Svg}
use Rattle.render_values.specs.Looks.{plain}
use Rattle.render_values.specs.Values.{Values, none, value}
use Rattle.render_values.specs.declared.info.RenderInfo.{RenderInfo}
use Rattle.render_values.specs.declared.info.RenderInfo.TheVariants as infos
use Rattle.render_conversion.specs.Conversion.{values}
use Rattle.render_conversion.specs.Options.{default_conversion}
use Rattle.render_conversion.specs.Styles.{Styles, all_unset}
use Rattle.render_conversion.specs.declared.place.Place.TheVariants.{Flow}

abbrev pub attribute : List ℕ → List ℕ → Attribute
attribute name cs = record { name = record { ns = Other []; local = name }; value = cs }

-- an element of HTML alone
abbrev pub html : List ℕ → List Attribute → Trees → Trees
html name attributes kids = node (element (record {
  name = record { ns = Html; local = name };
  attributes = attributes;
  contents = None;
  integration_point = false;
})) kids of_trees.none

-- an element of SVG alone
abbrev pub svg : List ℕ → Trees → Trees
svg name kids = node (element (record {
  name = record { ns = Svg; local = name };
  attributes = [];
  contents = None;
  integration_point = false;
})) kids of_trees.none

abbrev pub words : List ℕ → Trees
words cs = node (text cs) of_trees.none of_trees.none

abbrev pub beside : Trees → Trees → Trees
beside ts us = followed_by ts us

abbrev pub no_rules : Styles
no_rules name = all_unset

abbrev pub by_rules : Styles → Trees → Values
by_rules styles ts = values default_conversion styles Flow ts

abbrev pub without_rules : Trees → Values
without_rules ts = by_rules no_rules ts

-- a value in the style of no rule, before others
abbrev pub holding : RenderInfo → (inside rest : Values) → Values
holding info inside rest = value (record { info = info; style = plain; fragment = None }) inside rest

abbrev pub alone : RenderInfo → Values
alone info = holding info none none

abbrev pub shown : List ℕ → Values
shown cs = alone (infos.Text cs)

-- a value in which a fragment starts
abbrev pub marked : List ℕ → RenderInfo → (inside : Values) → Values
marked name info inside = value (record { info = info; style = plain; fragment = Some name }) inside none
