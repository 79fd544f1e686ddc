-- Captions among children.
use Rattle.std.proofs.Common.{◌≡◌, ◌||◌, [], ◌∷◌, ◌∙◌, Bool, List, ap, codes, refl, ℕ}
use Rattle.std.specs.Prelude.{None, Option, Some}
use Rattle.tree_forest.specs.Trees.{trees}
use Rattle.tree_forest.specs.Forest.{Forest, kind_at}
use Rattle.render_conversion.specs.CompleteRows.{has_caption}
use Rattle.render_conversion.specs.Meanings.{by_pages}
use Rattle.render_conversion.specs.declared.kinds.Meaning.{Meaning}
use Rattle.render_conversion.specs.declared.options.Pages.TheVariants.{Plain}
use Rattle.render_conversion.specs.Places.{is_element}
use Rattle.render_conversion.proofs.StepLemmas.{Law}

-- a child is a caption or not, and then the others count
pub caption_here : (f : Forest) (ns : List ℕ) (n : ℕ) (rest : List ℕ) (is : Bool) → Law f → ns ≡ n ∷ rest
    → is_element (codes "caption" ∷ []) (kind_at n f) ≡ is
    → has_caption (trees f ns) ≡ (is || has_caption (trees f rest))
caption_here f ns n rest is law first e = ap (λ l. has_caption (trees f l)) first ∙ ap has_caption (law n rest)
    ∙ ap (λ b. b || has_caption (trees f rest)) e

-- other pages have the other rows
pub by_plain : (row : Option Meaning) (m : Meaning) → m ≡ by_pages Plain row m
by_plain None m = refl
by_plain (Some complete) m = refl
