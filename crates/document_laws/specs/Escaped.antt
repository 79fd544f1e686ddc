-- When escaped text is read back (WHATWG HTML, 13.3 and 13.2.5).
use Rattle.std.specs.Prelude.{◌≡◌, ℕ, false, List, [], ◌∷◌, ◌++◌, codes, None, Some}
use Rattle.std.specs.FinMap as finite
use Rattle.tree_forest.specs.Forest.{is_in}
use Rattle.token_grammar.specs.declared.modes.TextKind.{TextKind}
use Rattle.token_grammar.specs.declared.modes.TextKind.TheVariants.{Ordinary, Raw}
use Rattle.lex_base.specs.References.{References}
use Rattle.html_lexemes.specs.declared.states.RawKind.TheVariants.{Rcdata}

-- A table of references that knows those of escaped text, and no name with a semicolon before its end.
pub record KnowsEscapes (table : References) : Type 0 where
  pub ampersand : finite.get table (codes "amp;") ≡ Some (38 ∷ [])
  pub less : finite.get table (codes "lt;") ≡ Some (60 ∷ [])
  pub greater : finite.get table (codes "gt;") ≡ Some (62 ∷ [])
  pub quote : finite.get table (codes "quot;") ≡ Some (34 ∷ [])
  pub space : finite.get table (codes "nbsp;") ≡ Some (160 ∷ [])
  pub ends : (front : List ℕ) (c : ℕ) (more : List ℕ) → finite.get table (front ++ 59 ∷ c ∷ more) ≡ None

-- NUL is distinguished from text, and escapes don't hide it
abbrev pub HasNoNul : List ℕ → Type 0
HasNoNul cs = is_in 0 cs ≡ false

-- the kinds of text in which references are read
abbrev pub ReadsReferences : TextKind → Type 0
ReadsReferences Ordinary = Unit {0}
ReadsReferences (Raw Rcdata) = Unit {0}
ReadsReferences _ = ⊥
