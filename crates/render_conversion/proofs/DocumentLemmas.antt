-- The whole page.
use Rattle.std.proofs.Common.{◌≡◌, ℕ, ◌==◌, true, List, [], ◌∷◌, ◌++◌, length, refl, sym, ap, ◌∙◌, arith}
use Rattle.std.proofs.lemmas.Bool.{eqb-true}
use Rattle.tree_forest.specs.Trees.{trees}
use Rattle.tree_forest.specs.Forest.{Forest}
use Rattle.html_render_dom.specs.Numbers.{number_of}
use Rattle.html_render_dom.specs.declared.node.Handle.{Handle}
use Rattle.render_values.specs.Arena.{flat, values_of}
use Rattle.render_values.specs.Reading.{read_back}
use Rattle.render_values.specs.Values.{Values, none as no_values}
use Rattle.render_values.specs.declared.node.RenderNode.{RenderNode}
use Rattle.dom_styles.specs.declared.rules.StyleRule.{StyleRule}
use Rattle.render_conversion.specs.Conversion.{document_values, values}
use Rattle.render_conversion.specs.Styles.{styles_of}
use Rattle.render_conversion.specs.Turns.{later}
use Rattle.render_conversion.specs.declared.options.ConversionOptions.{ConversionOptions}
use Rattle.render_conversion.specs.declared.place.Place.TheVariants.{Flow}
use Rattle.render_conversion.specs.declared.turns.Turn.{Turn}
use Rattle.render_conversion.specs.declared.turns.Turn.TheVariants.{Visit}

pub document_is : (o : ConversionOptions) (rules : List StyleRule) (f : Forest) (d : Handle) (turns none : List Turn)
    (nodes empty : List RenderNode) → number_of d ≡ 0 → turns ≡ Visit d Flow ∷ none → none ≡ [] → empty ≡ []
    → nodes ≡ later o (styles_of rules) f turns empty → nodes ≡ flat (document_values o rules f)
document_is o rules f d turns none nodes empty first is end start done =
    done ∙ (ap (λ l. later o (styles_of rules) f l empty) (is ∙ ap (λ l. Visit d Flow ∷ l) end)
    ∙ (ap (λ l. l ++ flat (values o (styles_of rules) Flow (trees f (number_of d ∷ [])))) start
    ∙ ap (λ n. flat (values o (styles_of rules) Flow (trees f (n ∷ [])))) first))

pub document_read : (o : ConversionOptions) (rules : List StyleRule) (f : Forest) (nodes : List RenderNode)
    (tree : Values)
    → nodes ≡ flat (document_values o rules f) → tree ≡ values_of nodes → tree ≡ document_values o rules f
document_read o rules f nodes tree is same = same ∙ (ap values_of is ∙ read_back (document_values o rules f))

no_nodes : (nodes : List RenderNode) → length nodes ≡ 0 → nodes ≡ []
no_nodes [] e = refl
no_nodes (x ∷ nodes) e = absurd (omega (arith, e))

-- a page without nodes has no values
pub none_read : (o : ConversionOptions) (rules : List StyleRule) (f : Forest) (nodes : List RenderNode) (n : ℕ)
    → nodes ≡ flat (document_values o rules f) → n ≡ length nodes → (n == 0) ≡ true
    → document_values o rules f ≡ no_values
none_read o rules f nodes n is size empty =
    sym (document_read o rules f nodes (values_of nodes) is refl)
    ∙ (ap values_of (no_nodes nodes (sym size ∙ eqb-true n 0 empty)) ∙ read_back no_values)
