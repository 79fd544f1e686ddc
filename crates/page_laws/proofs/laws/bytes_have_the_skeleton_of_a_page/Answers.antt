use Rattle.std.proofs.Common.{refl}
use Rattle.tree_forest.proofs.KeptForests.{page_alone_kept}
use Rattle.page_decoding.specs.ReplacedText.{replaced_text}
use Rattle.page_reading.specs.PageTrees.{first_of_page}
use Rattle.page_laws.proofs.laws.bytes_have_the_skeleton_of_a_page.Goals as goal

pub returns : goal.returns
returns c = λ table options bytes forest quirks tree is_framed frames. c.a_tree_has_its_skeleton.ensures
    (first_of_page table options) (replaced_text bytes) forest quirks tree page_alone_kept refl is_framed frames
