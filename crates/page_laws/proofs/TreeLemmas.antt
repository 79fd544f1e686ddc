-- A page begins where the laws of its items ask it to.
use Rattle.std.proofs.Common.{◌≡◌, ℕ, ◌+◌, refl, subst, sym, None, Some}
use Rattle.tree_forest.specs.Forest.{Forest}
use Rattle.tree_forest.specs.Orders.{IsForest}
use Rattle.tree_forest.specs.declared.sink.QuirksMode.{QuirksMode}
use Rattle.page_tree_laws.specs.KeptText.{IsAtBeginning, in_texts, in_emitted}
use Rattle.page_tree_laws.specs.PageTexts.{KeepsTextOfPage, items_of}
use Rattle.page_laws.specs.Trees.{HasSkeletonOfTree, KeepsTextOfTree}
use Rattle.page_tree_laws.specs.Skeleton.{HasSkeletonOfPage, IsSkeleton}
use Rattle.html_tree_builder.specs.Begun.{begun}
use Rattle.rules_table.specs.Settling.{Ready}
use Rattle.rules_table.specs.declared.options.TreeBuilderOpts.{TreeBuilderOpts}

pub begun_ready : (options : TreeBuilderOpts) (forest : Forest) (quirks : QuirksMode) → IsForest forest →
    Ready (begun options forest quirks)
begun_ready options forest quirks is_forest = record {
  sound = record {
    forest = is_forest;
    elements = λ n h. absurd h;
    distinct = tt;
    ordered = tt;
    templates = λ n h e. absurd h;
    listed = λ n tag h. absurd h;
    few = tt;
    counted = refl;
  };
  head = λ n e. absurd (let k : None ≡ Some n = e in cc);
  context = λ n e. absurd (let k : None ≡ Some n = e in cc);
}

pub begun_at_beginning : (options : TreeBuilderOpts) (forest : Forest) (quirks : QuirksMode) → IsForest forest →
    IsAtBeginning (begun options forest quirks)
begun_at_beginning options forest quirks is_forest = record {
  ready = begun_ready options forest quirks is_forest;
  page = refl;
  mode = refl;
  original = refl;
  templates = refl;
  head = refl;
  form = refl;
  pending = refl;
  goes_on = refl;
  stack = refl;
  formatting = refl;
  fostering = refl;
}

pub tree_keeps_text : {H : Type 0} (handle : ℕ → H) → KeepsTextOfPage H → KeepsTextOfTree handle
tree_keeps_text handle law from text forest quirks tree is_forest plain c kept =
    let in_final = law from.table handle _ _ _ tree.final tree.reading
    (begun_at_beginning from.options.tree_builder from.forest from.quirks is_forest) plain c kept in
    subst (λ f. in_texts c f ≡ in_texts c from.forest + in_emitted c (items_of tree.reading)) (sym tree.nodes) in_final

pub tree_has_skeleton : {H : Type 0} (handle : ℕ → H) → HasSkeletonOfPage H → HasSkeletonOfTree handle
tree_has_skeleton handle law from text forest quirks tree is_forest bare is_framed unframed =
    subst (IsSkeleton is_framed) (sym tree.nodes)
    (law from.table handle _ _ _ tree.final tree.reading
    (begun_at_beginning from.options.tree_builder from.forest from.quirks is_forest) bare is_framed unframed)
