use Rattle.std.proofs.Common.{List, append-nil, subst, sym, ℕ}
use Rattle.html_tree_builder.specs.Grown.{IsGrown}
use Rattle.html_tree_builder.specs.Parsers.{Completes}
use Rattle.page_reading.proofs.reader.PageReader.finish.Goals as goal
use Rattle.page_reading.specs.Readers.{Comes, dom_view}
use Rattle.page_decoding.specs.ReplacedText.{replaced_text}

pub returns-clause-tree : goal.returns-clause-tree
unfolding Comes
returns-clause-tree c =
    rw (← c.self.view_is)
    (subst (λ (held : List ℕ). IsGrown (Completes dom_view c.self.inside.parser (replaced_text held))
    c.in_ok-end.field-0.forest c.in_ok-end.field-0.quirks)
    (sym (append-nil c.self.inside.decoder.held)) c.in_ok-end.ensures.grown)
