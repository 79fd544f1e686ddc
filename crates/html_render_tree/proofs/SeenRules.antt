-- Rules of style that are seen alike: of them only what they declare counts.
use std.Path.{fun_ext}
use Rattle.std.proofs.Common.{◌≡◌, ◌&&◌, [], ◌∷◌, ◌++◌, ◌∙◌, if◌then◌else◌, Bool, List, ap, false, map, refl, sym, true}
use Rattle.std.proofs.Common.{ℕ}
use Rattle.std.specs.Prelude.{bytes_eq, filter, flat_map, is_some, option_map}
use Rattle.tree_forest.specs.Trees.{trees}
use Rattle.tree_forest.specs.Forest.{Forest}
use Rattle.render_conversion.specs.Conversion.{document_values, values}
use Rattle.render_conversion.specs.Decorating.{SeenRule, seen_rule}
use Rattle.render_conversion.specs.Styles.{Part, Parts, Styles, styles_of}
use Rattle.render_conversion.specs.declared.options.ConversionOptions.{ConversionOptions}
use Rattle.render_conversion.specs.declared.place.Place.TheVariants.{Flow}
use Rattle.dom_styles.specs.Cascade.{cascade}
use Rattle.dom_styles.specs.Styles.{background_of, colour_of, content_of, declared_at, declared_by, display_of}
use Rattle.dom_styles.specs.Styles.{is_same_place, of_property, rule_declares, white_space_of}
use Rattle.dom_styles.specs.declared.cascade.Declared.{Declared}
use Rattle.dom_styles.specs.declared.rules.Style.{Style}
use Rattle.dom_styles.specs.declared.rules.StylePlace.{StylePlace}
use Rattle.dom_styles.specs.declared.rules.StylePlace.TheVariants.{After, Before, Itself}
use Rattle.dom_styles.specs.declared.rules.StyleRule.{StyleRule}

-- what rules declare, by what is seen of them
abbrev seen_declares : SeenRule → List (Declared Style)
seen_declares rule = map (declared_by rule.origin) rule.declarations

abbrev pub seen_at : List ℕ → StylePlace → List SeenRule → List (Declared Style)
seen_at name place rules =
    flat_map seen_declares (filter (λ rule. bytes_eq rule.element name && is_same_place rule.place place) rules)

same_step : (b : Bool) (rule : StyleRule) (kept : List StyleRule) (seen : List SeenRule) →
    flat_map rule_declares kept ≡ flat_map seen_declares seen →
    flat_map rule_declares (if b then rule ∷ kept else kept)
    ≡ flat_map seen_declares (if b then seen_rule rule ∷ seen else seen)
same_step true rule kept seen e = ap (λ ds. rule_declares rule ++ ds) e
same_step false rule kept seen e = e

pub same_seen : (name : List ℕ) (place : StylePlace) (rules : List StyleRule) →
    declared_at name place rules ≡ seen_at name place (map seen_rule rules)
same_seen name place [] = refl
same_seen name place (rule ∷ rules) =
    same_step (bytes_eq rule.element name && is_same_place rule.place place) rule
    (filter (λ rule. bytes_eq rule.element name && is_same_place rule.place place) rules)
    (filter (λ rule. bytes_eq rule.element name && is_same_place rule.place place) (map seen_rule rules))
    (same_seen name place rules)

-- ---- the styles of elements

abbrev pub part_by : List (Declared Style) → Part
part_by ds = record {
  look = record {
    colour = option_map (λ d. d.val) (cascade (of_property colour_of ds));
    background = option_map (λ d. d.val) (cascade (of_property background_of ds));
    white_space = option_map (λ d. d.val) (cascade (of_property white_space_of ds));
  };
  hidden = is_some (option_map (λ d. d.val) (cascade (of_property display_of ds)));
  content = option_map (λ d. d.val) (cascade (of_property content_of ds));
}

abbrev parts_from : (StylePlace → List (Declared Style)) → Parts
parts_from declares = record {
  itself = part_by (declares Itself);
  before = part_by (declares Before);
  after = part_by (declares After);
}

abbrev styles_from : (List ℕ → StylePlace → List (Declared Style)) → Styles
styles_from declares name = parts_from (declares name)

by_seen : (rules : List StyleRule) → styles_of rules
    ≡ styles_from (λ name place. seen_at name place (map seen_rule rules))
by_seen rules = ap styles_from (fun_ext (λ name. fun_ext (λ place. same_seen name place rules)))

styles_alike : (rules other : List StyleRule) → map seen_rule rules ≡ map seen_rule other
    → styles_of rules ≡ styles_of other
styles_alike rules other e =
    by_seen rules ∙ ap (λ seen. styles_from (λ name place. seen_at name place seen)) e ∙ sym (by_seen other)

pub values_alike : (o : ConversionOptions) (rules other : List StyleRule) (f : Forest)
    → map seen_rule rules ≡ map seen_rule other → document_values o rules f ≡ document_values o other f
values_alike o rules other f e = ap (λ styles. values o styles Flow (trees f (0 ∷ []))) (styles_alike rules other e)
