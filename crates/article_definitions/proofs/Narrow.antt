-- An article has lines where it is laid out and a line has a column.
use Rattle.std.proofs.Common.{◌≡◌, ◌≤◌, [], if◌then◌else◌, ◌∙◌, Bool, List, None, Option, Some, ap, arith, false}
use Rattle.std.proofs.Common.{nat_lt, option_map, true, ℕ}
use Rattle.std.proofs.lemmas.Bool.Decides.{nat_tests}
use Rattle.std.specs.Prelude.{min, unwrap_or}
use Rattle.article_values.specs.Articles.{Blocks}
use Rattle.article_definitions.specs.Layouts.{Line, Options, article_lines, lay, layout, notes, wrap_at}
use Rattle.article_definitions.specs.Paragraphs.{AreParagraphs}
use Rattle.article_definitions.proofs.NeverRefused.{never_refused}

held : {A : Type 0} (b : Bool) (x : Option A) (y : A) → (if b then x else None) ≡ Some y → x ≡ Some y
held true x y h = h
held false x y h = cc

pub is_wide : (o : Options) (width : ℕ) (a : Blocks) (ls : List Line) → article_lines o width a ≡ Some ls →
    layout o (notes o width) width a ≡ Some ls
is_wide o width a ls h = held (nat_lt 0 width) (layout o (notes o width) width a) ls h

some_column : (w m : ℕ) → 2 ≤ min w m → nat_lt 0 w ≡ true
some_column w m h = grind (arith, nat_tests)

mapped : {A B : Type 0} (f : A → B) (x : Option A) (y : A) → x ≡ Some y → option_map f x ≡ Some (f y)
mapped f x y h = ap (option_map f) h

pub always_lines : (o : Options) (width : ℕ) (a : Blocks) → 2 ≤ wrap_at o width → AreParagraphs a →
    (lines : List Line) × (article_lines o width a ≡ Some lines)
always_lines o width a room h =
    let all = never_refused o width room 0 [] a [] h in
    let laid = mapped _ (lay o width 0 [] a []) all.0 all.1 in (
      _,
      ap (λ b. if b then layout o (notes o width) width a else None)
          (some_column width (unwrap_or o.wrap_width width) room) ∙ laid,
    )
