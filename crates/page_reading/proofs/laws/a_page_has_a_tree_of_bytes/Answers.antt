use Rattle.page_reading.proofs.laws.a_page_has_a_tree_of_bytes.Goals as goal
use Rattle.page_reading.specs.PageTrees.{first_of_page}
use Rattle.page_decoding.specs.ReplacedText.{replaced_text}

pub returns : goal.returns
returns c = λ table options bytes. c.a_page_has_a_tree.ensures (first_of_page table options) (replaced_text bytes)
