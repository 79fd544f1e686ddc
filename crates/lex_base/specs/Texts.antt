-- Texts as lists of code points.
use Rattle.std.specs.Prelude.{◌≡◌, ℕ, IsTrue, List, string_bytes}
use Rattle.std.specs.Bool.{nat_eq}
use Rattle.std.specs.Cmp.Lexicographic.{pointwise}
use Rattle.std.proofs.Common.{rules}
use Rattle.std.proofs.lemmas.Slice.Eq.{bytes_eq-Decides}
use Rattle.lex_base.specs.declared.text.Characters.{Characters}
use Rattle.lex_base.specs.declared.text.Characters.TheVariants.{Short, Long}

-- the UTF-8 of a text, wherever it is kept
abbrev pub utf8_of : Characters → List ℕ
utf8_of (Short _ text) = text.bytes
utf8_of (Long text) = string_bytes text

-- texts that are found equal are the same
pub same_texts : (xs ys : List ℕ) → IsTrue (pointwise nat_eq xs ys) → xs ≡ ys
same_texts xs ys e = (bytes_eq-Decides xs ys).0 (Prim.search rules)
