use Rattle.std.proofs.Common.{◌≡◌, ◌+◌, arith}
use Rattle.tree_forest.proofs.KeptForests.{page_alone_kept}
use Rattle.page_tree_laws.specs.KeptText.{in_texts, in_emitted}
use Rattle.page_tree_laws.specs.PageTexts.{items_of}
use Rattle.page_decoding.specs.ReplacedText.{replaced_text}
use Rattle.page_reading.specs.PageTrees.{first_of_page}
use Rattle.page_laws.proofs.laws.the_text_of_bytes_is_kept.Goals as goal

pub returns : goal.returns
returns c = λ table options bytes forest quirks tree plain n kept.
    let same : in_texts n forest ≡ 0 + in_emitted n (items_of tree.reading) =
    c.a_tree_keeps_the_text_of_its_page.ensures (first_of_page table options) (replaced_text bytes) forest quirks tree
    page_alone_kept plain n kept in omega (arith, same)
