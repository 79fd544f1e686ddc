use Rattle.page_tree_laws.proofs.KeptPages.{page_kept}
use Rattle.page_tree_laws.proofs.text.the_text_of_a_page_is_kept.Goals as goal

pub returns : goal.returns
returns g c = λ table handle. page_kept (record {
  comes = c.a_mark_comes_to_what_its_rule_gives.ensures;
  falls = c.the_rank_falls.ensures;
  actions = c.actions_keep_what_is_ready.ensures;
}) table handle
