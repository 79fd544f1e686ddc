-- Items of a list, counted.
use Rattle.std.proofs.Common.{◌≡◌, List, [], ◌∷◌, suc, length, refl, ap, Vec, Global}
use Rattle.article_definitions.specs.Layouts.{how_many}
use Rattle.article_values.specs.Views.{items_view}
use Rattle.article_values.specs.declared.values.Block.{Block}

pub items_counted : (items : List (Vec Block Global)) → how_many (items_view items) ≡ length items
items_counted [] = refl
items_counted (v ∷ items) = ap suc (items_counted items)
