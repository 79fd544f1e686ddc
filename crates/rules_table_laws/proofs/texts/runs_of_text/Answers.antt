use Rattle.rules_table_laws.proofs.TextLemmas.{all_runs}
use Rattle.rules_table_laws.proofs.texts.runs_of_text.Goals as goal

pub returns : goal.returns
returns c = all_runs (record {
  comes = c.a_mark_comes_to_what_its_rule_gives.ensures;
  falls = c.the_rank_falls.ensures;
  actions = c.actions_keep_what_is_ready.ensures;
  words = c.words_keep_a_tree_sound.ensures;
  nodes = record {
    put_stays = c.what_was_not_named_stays.ensures.put_kinds;
    leaf_stays = c.elements_stay.ensures.made;
    made_leaf = c.what_was_made_may_be_put.ensures.kind;
    size_leaf = c.how_many_nodes_there_are.ensures.made;
    element_there = c.elements_stay.ensures.there;
  };
})
