-- The pages of texts, step by step, and what may be put into each.
use Rattle.std.proofs.Common.{◌≡◌, [], refl}
use Rattle.std.specs.Prelude.{codes}
use Rattle.tree_forest.specs.Changes.{detached}
use Rattle.tree_forest.specs.Conditions.{IsPlace}
use Rattle.tree_forest.specs.Places.{based_on, before, below, put_words}
use Rattle.html_lexemes.specs.declared.names.QualName.{QualName}
use Rattle.test_trees.specs.Pages.{one_element, said_four, said_one, said_page, said_three, said_two}
use Rattle.test_trees.proofs.Computed.{words_before, words_below}

pub one_is : (name : QualName) → put_words (below 0) (codes "x") (one_element name) ≡ said_one name
unfolding said_one
one_is name = refl

pub two_is : (name : QualName) → put_words (below 0) (codes "y") (said_one name) ≡ said_two name
unfolding said_two
two_is name = refl

pub three_is : (name : QualName) → put_words (before 1) (codes "x") (said_two name) ≡ said_three name
unfolding said_three
three_is name = refl

pub one_at : (name : QualName) → IsPlace (below 0) (said_one name)
unfolding said_one
one_at name = words_below 0 [] (said_one name) refl

pub two_at : (name : QualName) → IsPlace (before 1) (said_two name)
unfolding said_two said_one
two_at name = words_before 0 1 [] (said_two name) refl

pub three_at : (name : QualName) → IsPlace (based_on 1 0 (said_three name)) (said_three name)
unfolding said_three said_two said_one
three_at name = words_before 0 1 [] (said_three name) refl

pub four_is : (name : QualName) →
    put_words (based_on 1 0 (said_three name)) (codes "y") (said_three name) ≡ said_four name
unfolding said_four said_three said_two said_one
four_is name = refl

pub gone_at : (name : QualName) →
    IsPlace (based_on 1 0 (detached 1 (said_four name))) (detached 1 (said_four name))
unfolding said_four said_three said_two said_one
gone_at name = words_below 0 [] (detached 1 (said_four name)) refl

pub page_is : (name : QualName) →
    put_words (based_on 1 0 (detached 1 (said_four name))) (codes "x") (detached 1 (said_four name)) ≡ said_page name
unfolding said_page said_four said_three said_two said_one
page_is name = refl
