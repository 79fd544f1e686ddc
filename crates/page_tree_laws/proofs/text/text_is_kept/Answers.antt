use Rattle.page_tree_laws.proofs.KeptItems.{text_kept}
use Rattle.page_tree_laws.proofs.text.text_is_kept.Goals as goal

pub returns : goal.returns
returns c = text_kept (record {
  comes = c.a_mark_comes_to_what_its_rule_gives.ensures;
  falls = c.the_rank_falls.ensures;
  actions = c.actions_keep_what_is_ready.ensures;
})
