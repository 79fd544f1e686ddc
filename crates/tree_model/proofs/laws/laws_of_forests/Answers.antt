use Rattle.tree_model.proofs.laws.laws_of_forests.Goals as goal

pub returns : goal.returns
returns c = record {
  put_keeps = c.putting_keeps_a_forest.ensures;
  leaf_keeps = c.making_keeps_a_forest.ensures.leaf;
  element_keeps = c.making_keeps_a_forest.ensures.element;
  attributes_keep = c.attributes_keep_a_forest.ensures;
  leaf_may = c.what_was_made_may_be_put.ensures.leaf;
  element_may = c.what_was_made_may_be_put.ensures.element;
  parent = c.where_children_stand.ensures.parent;
  there = c.what_stands_above_what.ensures.there;
  above_leaf = c.what_stands_above_what.ensures.made;
  above_element = c.what_stands_above_what.ensures.made_element;
  above_put = c.what_stands_above_what.ensures.put;
  above_words = c.what_stands_above_what.ensures.words;
  above_attributes = c.what_stands_above_what.ensures.attributes;
  element_there = c.elements_stay.ensures.there;
  leaf_stays = c.elements_stay.ensures.made;
  element_stays = c.elements_stay.ensures.made_element;
  put_stays = c.what_was_not_named_stays.ensures.put_kinds;
  texts_as_one = c.texts_side_by_side_are_one.ensures;
  words_stay = c.elements_stay.ensures.words;
  attributes_stay = c.elements_stay.ensures.attributes;
  attribute_names = c.elements_stay.ensures.attribute_names;
  attribute_contents = c.elements_stay.ensures.attribute_contents;
  size_leaf = c.how_many_nodes_there_are.ensures.made;
  attributes_size = c.how_many_nodes_there_are.ensures.attributes;
  made_leaf = c.what_was_made_may_be_put.ensures.kind;
  out_keeps = c.taking_out_keeps_a_forest.ensures.forest;
  out_free = c.taking_out_keeps_a_forest.ensures.free;
  above_out = c.what_stands_above_what.ensures.taken_out;
  out_stays = c.what_was_not_named_stays.ensures.taken_out_kinds;
  out_size = c.how_many_nodes_there_are.ensures.taken_out;
  given_keep = c.reparenting_keeps_a_forest.ensures;
  above_given = c.what_stands_above_what.ensures.reparented;
  given_stay = c.what_was_not_named_stays.ensures.reparented_kinds;
  given_size = c.how_many_nodes_there_are.ensures.reparented;
  put_size = c.how_many_nodes_there_are.ensures.put;
  few_pushed = c.at_most_three_are_alike.ensures.pushed;
  few_marked = c.at_most_three_are_alike.ensures.marked;
  few_cleared = c.at_most_three_are_alike.ensures.cleared;
  few_removed = c.at_most_three_are_alike.ensures.removed;
  few_handed = c.at_most_three_are_alike.ensures.handed_over;
  few_moved = c.at_most_three_are_alike.ensures.moved;
  few_given = c.at_most_three_are_alike.ensures.given;
}
