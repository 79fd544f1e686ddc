-- Prints of names and of tags: what is the same, or alike, has one print. What has one print need not be the same.
use Rattle.std.specs.Prelude.{ℕ, ◌+◌, ◌*◌, ◌^◌, ◌%◌, List, fold, sum_by}
use Rattle.html_lexemes.specs.declared.names.Attribute.{Attribute}
use Rattle.html_lexemes.specs.declared.token.Tag.{Tag}

-- a character more is taken into a print
unfoldable pub mixed : ℕ → ℕ → ℕ
mixed print c = ((print * 1099511628211) % 2 ^ 64 + c) % 2 ^ 64

unfoldable pub squared : ℕ → ℕ
squared print = (print * print) % 2 ^ 64

abbrev pub text_print : ℕ → List ℕ → ℕ
text_print print text = fold mixed print text

abbrev pub name_print : List ℕ → ℕ
name_print name = text_print 1 name

-- of its name and its value, with a "=" between them
abbrev pub attribute_print : Attribute → ℕ
attribute_print attribute = squared (text_print (mixed (name_print attribute.name.local) 61) attribute.value)

-- the attributes count in any order
abbrev pub tag_print : Tag → ℕ
tag_print tag = (name_print tag.name + sum_by attribute_print tag.attrs) % 2 ^ 64
