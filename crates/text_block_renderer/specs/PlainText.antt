-- Pages as plain text: what its decorator marks, and what it closes a page with.
use Rattle.std.specs.Prelude.{ℕ, false, List}
use Rattle.block_trait.specs.Renderers.{Marking}
use Rattle.text_lines.specs.Tagged.{Item}
use Rattle.text_decorators.specs.Texts.{footnote_lines, plain_text}

abbrev pub plain_marking : Marking (Unit {0}) (Unit {0})
plain_marking = record {
  mark_text = λ _ m. plain_text m;
  mark_tag = λ _ _. tt;
  has_tag = λ _ _. false;
  after = λ h _. h;
  ends_tag = λ _ _. false;
  sub = λ h. h;
}

abbrev pub plain_closes : Unit {0} → List (List ℕ) → List (List (Item (Unit {0})))
plain_closes _ targets = footnote_lines tt targets
