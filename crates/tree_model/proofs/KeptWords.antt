-- Each word of tree construction keeps a sound tree sound, and its elements.
use Rattle.std.proofs.Common.{ℕ, Bool, refl}
use Rattle.tree_forest.specs.Changes.{detached}
use Rattle.tree_forest.specs.Places.{below}
use Rattle.tree_model.specs.Adoption.{out_of_place}
use Rattle.tree_model.specs.Formatting.{cleared, marked, unlisted}
use Rattle.tree_model.specs.Insertions.{here, root_of}
use Rattle.tree_model.specs.Laws.{Laws}
use Rattle.tree_model.specs.Scopes.{popped, taken_off}
use Rattle.tree_model.specs.Words.{Keeps, Words}
use Rattle.tree_model.proofs.AdoptionLemmas.{taken_off_sound, unlisted_sound}
use Rattle.tree_model.proofs.CalmLemmas.{reconstructed_once}
use Rattle.tree_model.proofs.InsertedLemmas.{attributed_sound}
use Rattle.tree_model.proofs.KeptAdoption.{adoption_kept, reconstructed_kept}
use Rattle.tree_model.proofs.KeptLemmas.{broken_out_kept, closed_foreign_kept, closed_item_kept, closed_other_kept}
use Rattle.tree_model.proofs.KeptLemmas.{closed_p_kept, commented_kept, doctyped_kept, formatting_kept, implied_kept}
use Rattle.tree_model.proofs.KeptLemmas.{inserted_kept, kept_nodes, popped_down_kept, popped_to_kept, root_place}
use Rattle.tree_model.proofs.KeptLemmas.{said_kept, with_element_kept}
use Rattle.tree_model.proofs.KeptSizes.{attributes_grow, out_grows}
use Rattle.tree_model.proofs.ListedLemmas.{cleared_sound, marked_sound}
use Rattle.tree_model.proofs.PlaceLemmas.{here_there}
use Rattle.tree_model.proofs.SaidLemmas.{said_as_one}
use Rattle.tree_model.proofs.SoundLemmas.{by_kinds, popped_sound, quirks_sound, stays_sound}

fostering_kept : (is_on : Bool) → Keeps (λ b. record b { fostering = is_on })
fostering_kept is_on b sound = kept_nodes b _ refl (record {
  forest = sound.forest;
  elements = sound.elements;
  distinct = sound.distinct;
  ordered = sound.ordered;
  templates = sound.templates;
  listed = sound.listed;
  few = sound.few;
  counted = sound.counted;
})

taken_out_kept : Laws → (n : ℕ) → Keeps (out_of_place n)
taken_out_kept laws n b sound = record {
  sound = stays_sound b (detached n b.forest) sound (laws.out_keeps n b.forest sound.forest)
      (by_kinds b.forest (detached n b.forest) b.stack (λ m is. laws.out_stays n m b.forest)
      (λ a c i j up. laws.above_out n a c b.forest up));
  grown = out_grows laws n b.forest;
}

pub words_kept : Laws → Words
words_kept laws = record {
  pops = λ b sound. kept_nodes b (popped b) refl (popped_sound b sound);
  implies = implied_kept;
  pops_to = popped_to_kept;
  pops_down_to = popped_down_kept;
  takes_off = λ n b sound. kept_nodes b (taken_off n b) refl (taken_off_sound n b sound);
  closes_p = closed_p_kept;
  closes_item = closed_item_kept;
  inserts = λ name attributes b sound. inserted_kept laws (here b) name attributes b sound (here_there laws b sound);
  inserts_void = λ name attributes b sound.
      with_element_kept laws (here b) name attributes b sound (here_there laws b sound);
  inserts_into = λ n name attributes b sound held. inserted_kept laws (below n) name attributes b sound held;
  inserts_void_into = λ n name attributes b sound held.
      with_element_kept laws (below n) name attributes b sound held;
  says = said_kept laws;
  comments = λ cs b sound. commented_kept laws (here b) cs b sound (here_there laws b sound);
  comments_the_document = λ cs b sound. commented_kept laws (below 0) cs b sound sound.forest.page.0;
  comments_the_root = λ cs b sound. commented_kept laws (below (root_of b.stack)) cs b sound
      (root_place laws b sound);
  takes_a_doctype = doctyped_kept laws;
  takes_attributes = λ n attributes b sound is. record {
    sound = attributed_sound laws n attributes b sound;
    grown = attributes_grow laws n attributes b.forest;
  };
  takes_out = taken_out_kept laws;
  marks = λ b sound. kept_nodes b (marked b) refl (marked_sound laws b sound);
  clears = λ b sound. kept_nodes b (cleared b) refl (cleared_sound laws b sound);
  lists = formatting_kept laws;
  unlists = λ n b sound. kept_nodes b (unlisted n b) refl (unlisted_sound n b laws sound);
  reconstructs = reconstructed_kept laws;
  adopts = adoption_kept laws;
  closes_other = closed_other_kept;
  breaks_out = broken_out_kept;
  closes_foreign = closed_foreign_kept;
  fosters = fostering_kept;
  takes_quirks = λ mode b sound. kept_nodes b _ refl (quirks_sound b mode sound);
  says_as_one = said_as_one laws;
  says_elsewhere = λ cs n b is. laws.words_stay (here b) cs n b.forest is;
  reconstructs_once = reconstructed_once;
}
