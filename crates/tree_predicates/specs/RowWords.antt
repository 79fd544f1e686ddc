-- Words of the worked rows.
use Rattle.std.specs.Prelude.{ℕ, false, List, [], Option, Some, codes}
use Rattle.html_lexemes.specs.declared.names.Attribute.{Attribute}
use Rattle.html_lexemes.specs.declared.names.Namespace.TheVariants.{Other}
use Rattle.html_lexemes.specs.declared.token.Doctype.{Doctype}
use Rattle.html_lexemes.specs.declared.token.Tag.{Tag}
use Rattle.html_lexemes.specs.declared.token.TagKind.{TagKind}
use Rattle.html_lexemes.specs.declared.token.TagKind.TheVariants.{EndTag, StartTag}
use Rattle.tree_names.specs.RowWords.{html}
use Rattle.tree_predicates.specs.Modes.{own_mode}
use Rattle.tree_predicates.specs.declared.modes.InsertionMode.{InsertionMode}
use Rattle.tree_predicates.specs.declared.modes.InsertionMode.TheVariants.{InTemplate}

-- an attribute, a tag, and tags without attributes
abbrev pub attribute : (name value : List ℕ) → Attribute
attribute name value = record { name = record { ns = Other []; local = name }; value = value }

abbrev pub tag : TagKind → List ℕ → List Attribute → Tag
tag kind name attributes = record {
  kind = kind;
  name = name;
  self_closing = false;
  attrs = attributes;
  had_duplicate_attributes = false;
}

abbrev pub start : List ℕ → Tag
start name = tag StartTag name []

abbrev pub end : List ℕ → Tag
end name = tag EndTag name []

-- doctypes with these identifiers: of any name, and of the name `html`
abbrev pub doctype_of : (name public_id system_id : Option (List ℕ)) → Doctype
doctype_of name public_id system_id =
    record { name = name; public_id = public_id; system_id = system_id; force_quirks = false }

abbrev pub doctype : (public_id system_id : Option (List ℕ)) → Doctype
doctype public_id system_id = doctype_of (Some (codes "html")) public_id system_id

-- what an open element of HTML asks for, where the head isn't known and the last template's mode is in template
abbrev pub own : List ℕ → Option InsertionMode
own word = own_mode (html word) false false (Some InTemplate)
