-- Rules that mark emphasis, strong text, terms and code say nothing of other elements.
use Rattle.std.proofs.Common.{◌≡◌, ℕ, ⊎_elim, List, [], ap, ◌∙◌}
use Rattle.html_render_tree.proofs.SeenRules.{part_by, same_seen, seen_at}
use Rattle.render_conversion.specs.Decorating.{decorating_rules}
use Rattle.render_conversion.specs.Styles.{Part, Parts, all_unset, part_at, styles_of, unset}
use Rattle.dom_styles.specs.Styles.{declared_at}
use Rattle.dom_styles.specs.declared.rules.StylePlace.{StylePlace}
use Rattle.dom_styles.specs.declared.rules.StylePlace.TheVariants.{After, Before, Itself}
use Rattle.dom_styles.specs.declared.rules.StyleRule.{StyleRule}
use Rattle.paragraph_laws.specs.ParagraphPages.{AreQuiet}

nothing_declared : (rules : List StyleRule) → AreQuiet rules → (name : List ℕ) (place : StylePlace) →
    seen_at name place decorating_rules ≡ [] → declared_at name place rules ≡ []
nothing_declared rules quiet name place e = ⊎_elim (λ none. ap (declared_at name place) none)
    (λ marks. same_seen name place rules ∙ ap (seen_at name place) marks ∙ e) quiet

part_unset : (rules : List StyleRule) (name : List ℕ) (place : StylePlace) → declared_at name place rules ≡ [] →
    part_at place rules name ≡ unset
part_unset rules name place e = ap part_by e

abbrev pub parts_by : Part → Part → Part → Parts
parts_by itself before after = record { itself = itself; before = before; after = after }

-- an element of which the marking rules say nothing has no style
pub styles_unset : (rules : List StyleRule) → AreQuiet rules → (name : List ℕ) →
    ((place : StylePlace) → seen_at name place decorating_rules ≡ []) → styles_of rules name ≡ all_unset
styles_unset rules quiet name none =
    let at : (place : StylePlace) → part_at place rules name ≡ unset =
    λ place. part_unset rules name place (nothing_declared rules quiet name place (none place)) in
    ap (λ part. parts_by part (part_at Before rules name) (part_at After rules name)) (at Itself)
    ∙ ap (λ part. parts_by unset part (part_at After rules name)) (at Before)
    ∙ ap (λ part. parts_by unset unset part) (at After)
