-- What a list of attributes lists.
use Rattle.std.specs.Prelude.{List, take}
use Rattle.html_lexemes.specs.declared.attributes.Items.{Items}
use Rattle.html_lexemes.specs.declared.attributes.Items.TheVariants.{Owned, Shared}
use Rattle.html_lexemes.specs.declared.names.Attribute.{Attribute}

-- those of a vector, or the first of one that others may have too
abbrev pub listed : Items → List Attribute
listed (Owned items) = items.items
listed (Shared vector count) = take count vector.value.items
