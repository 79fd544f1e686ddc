-- What the rules that mark emphasis, strong text, terms and code say of an article's elements.
use Rattle.std.proofs.Common.{◌≡◌, ℕ, Bool, true, false, List, [], ◌∷◌, refl, ap, ◌∙◌, if◌then◌else◌}
use Rattle.std.specs.Prelude.{Some}
use Rattle.article_definitions.specs.Layouts.{style_mark}
use Rattle.article_values.specs.Articles.{Style, bold, code, emphasis, italic, strong}
use Rattle.article_page_laws.specs.ArticleValues.{AreRulesOf}
use Rattle.html_render_tree.proofs.SeenRules.{part_by, same_seen, seen_at}
use Rattle.paragraph_laws.proofs.QuietRules.{parts_by}
use Rattle.render_conversion.specs.Decorating.{SeenRule, decorating_rules}
use Rattle.render_conversion.specs.Styles.{Part, Parts, all_unset, part_at, styles_of, unset}
use Rattle.render_values.specs.Looks.{plain}
use Rattle.dom_styles.specs.declared.rules.StylePlace.{StylePlace}
use Rattle.dom_styles.specs.declared.rules.StylePlace.TheVariants.{After, Before, Itself}
use Rattle.dom_styles.specs.declared.rules.StyleRule.{StyleRule}
use Rattle.article_writing.specs.Contents.{style_name}

abbrev rules_seen : (decorates : Bool) → List SeenRule
rules_seen decorates = if decorates then decorating_rules else []

-- by what is seen of rules
abbrev pub style_seen : (decorates : Bool) → List ℕ → Parts
style_seen decorates name = parts_by (part_by (seen_at name Itself (rules_seen decorates)))
    (part_by (seen_at name Before (rules_seen decorates))) (part_by (seen_at name After (rules_seen decorates)))

pub styles_are_seen : (rules : List StyleRule) (decorates : Bool) → AreRulesOf decorates rules → (name : List ℕ) →
    styles_of rules name ≡ style_seen decorates name
styles_are_seen rules decorates marks name =
    let seen : StylePlace → Part = λ place. part_by (seen_at name place (rules_seen decorates)) in
    let at : (place : StylePlace) → part_at place rules name ≡ part_by (seen_at name place (rules_seen decorates)) =
    λ place. ap part_by (same_seen name place rules ∙ ap (seen_at name place) marks) in
    ap (λ part. parts_by part (part_at Before rules name) (part_at After rules name)) (at Itself)
    ∙ ap (λ part. parts_by (seen Itself) part (part_at After rules name)) (at Before)
    ∙ ap (λ part. parts_by (seen Itself) (seen Before) part) (at After)

-- of an element without marks no rule says anything
pub unset_by : (name : List ℕ) → style_seen true name ≡ all_unset → (decorates : Bool) →
    style_seen decorates name ≡ all_unset
unset_by name e true = e
unset_by name e false = refl

-- of an element with marks they say what stands before and after its contents
abbrev part_of : List ℕ → Part
part_of mark = record { look = plain; hidden = false; content = Some mark }

abbrev pub style_by : (mark : List ℕ) → Parts
style_by [] = all_unset
style_by (c ∷ cs) = record { itself = unset; before = part_of (c ∷ cs); after = part_of (c ∷ cs) }

pub marks_are_seen : (decorates : Bool) (style : Style) →
    style_seen decorates (style_name style) ≡ style_by (if decorates then style_mark style else [])
marks_are_seen true bold = refl
marks_are_seen true italic = refl
marks_are_seen true emphasis = refl
marks_are_seen true code = refl
marks_are_seen true strong = refl
marks_are_seen false style = refl
