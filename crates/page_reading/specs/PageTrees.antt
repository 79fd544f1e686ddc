-- The tree of a page that comes in bytes: that of the text which its bytes are read as.
use Rattle.std.specs.Prelude.{ℕ, List}
use Rattle.tree_forest.specs.Forest.{Forest, page_alone}
use Rattle.tree_forest.specs.declared.sink.QuirksMode.{QuirksMode}
use Rattle.tree_forest.specs.declared.sink.QuirksMode.TheVariants.{NoQuirks}
use Rattle.lex_base.specs.References.{References}
use Rattle.html_render_dom.specs.Numbers.{handle_of}
use Rattle.html_tree_builder.specs.Grown.{Beginning, IsTreeOfPage, beginning}
use Rattle.html_tree_builder.specs.declared.options.ParseOpts.{ParseOpts}
use Rattle.page_decoding.specs.ReplacedText.{replaced_text}

-- a page begins with its document alone
abbrev pub first_of_page : References → ParseOpts → Beginning
first_of_page table options = beginning table options page_alone NoQuirks

-- Bytes are read as UTF-8, each ill-formed part as U+FFFD (Unicode Standard, 3.9), and the text is parsed (WHATWG HTML,
-- 13.2).
abbrev pub IsTreeOfBytes : References → ParseOpts → (bytes : List ℕ) → Forest → QuirksMode → Type 0
IsTreeOfBytes table options bytes forest quirks =
    IsTreeOfPage handle_of (first_of_page table options) (replaced_text bytes) forest quirks
