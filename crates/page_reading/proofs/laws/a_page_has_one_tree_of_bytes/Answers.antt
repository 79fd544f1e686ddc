use Rattle.page_reading.proofs.laws.a_page_has_one_tree_of_bytes.Goals as goal
use Rattle.page_reading.specs.PageTrees.{first_of_page}
use Rattle.page_decoding.specs.ReplacedText.{replaced_text}

pub returns-clause-forest : goal.returns-clause-forest
returns-clause-forest c = λ table options bytes.
    c.a_page_has_one_tree.ensures.forest (first_of_page table options) (replaced_text bytes)

pub returns-clause-quirks : goal.returns-clause-quirks
returns-clause-quirks c = λ table options bytes.
    c.a_page_has_one_tree.ensures.quirks (first_of_page table options) (replaced_text bytes)
