-- The first start tag of a paragraph makes `html`, `head` and `body`, and so does the end of an empty page.
use Rattle.std.proofs.Common.{◌≡◌, Bool, true, false, [], ◌∷◌, Some, None, refl, sym, subst}
use Rattle.tree_forest.specs.Forest.{Forest, page_alone}
use Rattle.tree_forest.specs.declared.sink.QuirksMode.TheVariants.{NoQuirks, Quirks}
use Rattle.token_grammar.specs.Items.{end_of_file}
use Rattle.document_laws.specs.Contents.{Content}
use Rattle.document_laws.specs.Planted.{standing}
use Rattle.tree_names.specs.Groups.{tag_group}
use Rattle.html_tree_builder.specs.Begun.{begun}
use Rattle.rules_table.specs.Actions.{act}
use Rattle.rules_table.specs.Defaults.{default_options}
use Rattle.rules_table.specs.Settling.{step, taken_tag}
use Rattle.rules_table.specs.State.{State}
use Rattle.tree_predicates.specs.declared.modes.InsertionMode.TheVariants.{InBody, Initial}
use Rattle.paragraph_laws.proofs.PagesRead.{opening}
use Rattle.paragraph_laws.specs.ParagraphTrees.{body_alone}

abbrev pub at_first : State
at_first = begun default_options page_alone NoQuirks

-- in an empty body
abbrev pub in_body : Bool → Forest → State
in_body ok forest = record {
  options = default_options;
  mode = InBody;
  original = Initial;
  template_modes = [];
  head = Some 2;
  form = None;
  context = None;
  frameset_ok = ok;
  skip_lf = false;
  pending = [];
  quirks = Quirks;
  is_over = false;
  has_failed = false;
  tree = record {
    stack = 3 ∷ 1 ∷ [];
    formatting = [];
    fostering = false;
    forest = forest;
    quirks = Quirks;
    counted = true;
  };
}

pub first_start : taken_tag opening at_first ≡ taken_tag opening (in_body true body_alone)
unfolding act tag_group
first_start = refl

pub nothing_emitted : (step at_first end_of_file).tree.forest ≡ body_alone
unfolding act
nothing_emitted = refl

-- the end of the page changes nothing below a body
ends_standing : (ok : Bool) (content : Content) →
    (step (in_body ok (standing 3 content body_alone)) end_of_file).tree.forest ≡ standing 3 content body_alone
ends_standing ok content = refl

pub end_changes_nothing : (ok : Bool) (content : Content) (forest : Forest) →
    forest ≡ standing 3 content body_alone → (step (in_body ok forest) end_of_file).tree.forest ≡ forest
end_changes_nothing ok content forest e =
    subst (λ f. (step (in_body ok f) end_of_file).tree.forest ≡ f) (sym e) (ends_standing ok content)
