-- What contracts see of a `PageReader`.
use Rattle.std.specs.Prelude.{◌≡◌, ℕ, Bool, false, List, ◌++◌}
use Rattle.tree_forest.specs.Forest.{Forest}
use Rattle.tree_forest.specs.Sinks.{SinkView}
use Rattle.tree_forest.specs.declared.sink.QuirksMode.{QuirksMode}
use Rattle.html_render_dom.specs.Dom.{Dom}
use Rattle.html_render_dom.specs.Numbers.{handle_of, number_of}
use Rattle.html_render_dom.specs.declared.node.Handle.{Handle}
use Rattle.html_tree_builder.specs.Grown.{IsGrown}
use Rattle.html_tree_builder.specs.Parsers as parsers
use Rattle.html_tree_builder.specs.declared.parser.Parser.{Parser}
use Rattle.page_decoding.specs.Decoding.{Decoding}
use Rattle.page_decoding.specs.ReplacedText.{replaced_text}

-- the bytes of an unfinished character, what parses the text, how many bytes may still come, and whether a call was
-- refused
pub record Paging : Type 0 where
  pub decoding : Decoding
  pub parser : Parser Dom Handle Dom
  pub left : ℕ
  pub has_failed : Bool

abbrev pub paging : Decoding → Parser Dom Handle Dom → ℕ → Bool → Paging
paging decoding parser left has_failed = record {
  decoding = decoding;
  parser = parser;
  left = left;
  has_failed = has_failed;
}

-- what the tree in memory is seen as, as a sink of trees
abbrev pub dom_view : SinkView Dom Handle
dom_view = record {
  number = number_of;
  handle = handle_of;
  forest = λ dom. dom.forest;
  quirks = λ dom. dom.quirks;
}

-- What was pushed, and these further bytes, come to this finished tree.
unfoldable pub Comes : Paging → (rest : List ℕ) → Forest → QuirksMode → Type 0
Comes page rest forest quirks =
    IsGrown (parsers.Completes dom_view page.parser (replaced_text (page.decoding.held ++ rest))) forest quirks

-- its parser may be called, and works where no call was refused, as its decoder does
pub record IsWorking (page : Paging) : Type 0 where
  pub fit : parsers.IsFit dom_view page.parser
  pub decodes : page.has_failed ≡ false → page.decoding.has_failed ≡ false
  pub parses : page.has_failed ≡ false → parsers.has_failed page.parser ≡ false
