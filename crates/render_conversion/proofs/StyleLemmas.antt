-- What rules say of a node, by its places.
use Rattle.std.proofs.Common.{◌≡◌, ℕ, List, [], ap, ◌∙◌}
use Rattle.std.specs.Prelude.{Option, None, Some}
use Rattle.html_lexemes.specs.declared.names.QualName.{QualName}
use Rattle.html_render_dom.specs.Styled.{IsStyledBy}
use Rattle.dom_styles.specs.Seen.{IsStyled}
use Rattle.dom_styles.specs.Styles.{declared_at}
use Rattle.dom_styles.specs.declared.computed.ComputedStyle.{ComputedStyle}
use Rattle.dom_styles.specs.declared.computed.PlaceStyle.{PlaceStyle}
use Rattle.dom_styles.specs.declared.rules.StylePlace.{StylePlace}
use Rattle.dom_styles.specs.declared.rules.StylePlace.TheVariants.{After, Before, Itself}
use Rattle.dom_styles.specs.declared.rules.StyleRule.{StyleRule}
use Rattle.render_conversion.specs.Styles.{Part, Parts, part_at, parts_by, styles_of}

abbrev pub Says : PlaceStyle → Part → Type 0
Says s p =
    (place : StylePlace) (rules : List StyleRule) (name : List ℕ) → IsStyled (declared_at name place rules) s
    → p ≡ part_at place rules name

abbrev parts : Part → Part → Part → Parts
parts i b a = record { itself = i; before = b; after = a }

three : (i j b d a e : Part) → i ≡ j → b ≡ d → a ≡ e → parts i b a ≡ parts j d e
three i j b d a e p q r = ap (λ x. parts x b a) p ∙ (ap (λ x. parts j x a) q ∙ ap (λ x. parts j d x) r)

pub parts_are : (rules : List StyleRule) (name : Option QualName) (s : ComputedStyle) (i b a : Part)
    → Says s.itself i → Says s.before b → Says s.after a → IsStyledBy name rules s
    → parts i b a ≡ parts_by (styles_of rules) name
parts_are rules None s i b a of_i of_b of_a h =
    three i (part_at Itself [] []) b (part_at Before [] []) a (part_at After [] []) (of_i Itself [] [] h.itself)
    (of_b Before [] [] h.before) (of_a After [] [] h.after)
parts_are rules (Some name) s i b a of_i of_b of_a h =
    three i (part_at Itself rules name.local) b (part_at Before rules name.local) a (part_at After rules name.local)
    (of_i Itself rules name.local h.itself) (of_b Before rules name.local h.before)
    (of_a After rules name.local h.after)
