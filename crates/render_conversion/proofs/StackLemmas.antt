-- Nodes before other turns.
use Rattle.std.proofs.Common.{◌≡◌, ℕ, List, ◌∷◌, ◌++◌, sym, ap, ◌∙◌}
use Rattle.html_render_dom.specs.Numbers.{number_of}
use Rattle.html_render_dom.specs.declared.node.Handle.{Handle}
use Rattle.render_conversion.specs.Turns.{visits}
use Rattle.render_conversion.specs.declared.place.Place.{Place}
use Rattle.render_conversion.specs.declared.turns.Turn.{Turn}
use Rattle.render_conversion.specs.declared.turns.Turn.TheVariants.{Row}

pub visits-put : (place : Place) (ns others : List ℕ) (n : Handle) (ts new : List Turn)
    → ns ≡ number_of n ∷ others → new ≡ Row n others place ∷ ts → new ≡ visits place ns ++ ts
visits-put place ns others n ts new e put = put ∙ ap (λ l. visits place l ++ ts) (sym e)
