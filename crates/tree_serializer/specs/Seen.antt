-- What is seen of a serializer that writes HTML.
use Rattle.std.specs.Prelude.{Bool, List, ℕ, Option}
use Rattle.tree_serializer.specs.Parts.{writing_in}
use Rattle.tree_serializer.specs.Writing.{Writing}
use Rattle.tree_serializer.specs.declared.html_serializer.HtmlSerializer.{HtmlSerializer}

abbrev pub writing_of : {W : Type 0} → (W → Option (List ℕ)) → (W → Bool) → HtmlSerializer W → Writing
writing_of contents has_failed s =
    writing_in contents has_failed s.scripting s.makes_parents s.entries.items s.writer
