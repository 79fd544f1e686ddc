use Rattle.rules_table_laws.proofs.ActionLemmas.{Facts}
use Rattle.rules_table_laws.proofs.FallLemmas.{rule_falls}
use Rattle.rules_table_laws.proofs.ranks.the_rank_falls.Goals as goal

pub returns : goal.returns
returns c =
    let facts : Facts = record {
      words_keep = c.words_keep_a_tree_sound.ensures;
      actions_keep = c.actions_keep_what_is_ready.ensures;
      element_there = c.elements_stay.ensures.there;
      leaf_stays = c.elements_stay.ensures.made;
      element_stays = c.elements_stay.ensures.made_element;
      put_stays = c.what_was_not_named_stays.ensures.put_kinds;
      words_stay = c.elements_stay.ensures.words;
      made_leaf = c.what_was_made_may_be_put.ensures.kind;
      size_leaf = c.how_many_nodes_there_are.ensures.made;
    } in
    rule_falls facts
