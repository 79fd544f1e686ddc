use Rattle.page_tree_laws.proofs.PageReady.{for_building, keep_pages}
use Rattle.page_tree_laws.proofs.SkeletonPages.{page_has_skeleton}
use Rattle.page_tree_laws.proofs.skeleton.a_page_has_its_skeleton.Goals as goal

pub returns : goal.returns
returns g c = page_has_skeleton (record {
  keep = keep_pages c.actions_keep_what_is_ready.ensures;
  falls = λ mark s ready. c.the_rank_falls.ensures mark s (for_building s ready);
  comes = λ mark s ready. c.a_mark_comes_to_what_its_rule_gives.ensures mark s (for_building s ready);
})
