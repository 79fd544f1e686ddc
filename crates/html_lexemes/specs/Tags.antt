-- When two tags are the same but for the order of their attributes.
use Rattle.std.specs.Prelude.{◌≡◌, IsPermutation}
use Rattle.html_lexemes.specs.declared.token.Tag.{Tag}

-- one kind, one name, and the same attributes in some order
pub record IsEquivalent (a b : Tag) : Type 0 where
  pub kind : a.kind ≡ b.kind
  pub name : a.name ≡ b.name
  pub attributes : IsPermutation a.attrs b.attrs
