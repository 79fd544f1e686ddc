use Rattle.std.proofs.lemmas.Slice.Eq.{bytes_eq-Decides}
use Rattle.html_lexemes.proofs.SameAttributes.{name_decides, attribute_decides}
use Rattle.html_lexemes.proofs.laws.equal_names_are_the_same.Goals as goal

pub returns-clause-local_name : goal.returns-clause-local_name
returns-clause-local_name c = bytes_eq-Decides

pub returns-clause-qualified_name : goal.returns-clause-qualified_name
returns-clause-qualified_name c = name_decides

pub returns-clause-attribute : goal.returns-clause-attribute
returns-clause-attribute c = attribute_decides
