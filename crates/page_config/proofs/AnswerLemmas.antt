-- Of equal values there is one answer at a width.
use Rattle.std.proofs.Common.{◌≡◌, ◌∙◌, ◌<◌, List, None, Some, ap, arith, inl, inr, refl, sym, ℕ}
use Rattle.std.specs.Prelude.{unwrap_or}
use Rattle.html_render_tree.specs.PageLines.{Setting, page_lines}
use Rattle.page_config.specs.PageAnswers.{IsAnswerOf, PageAnswer, fail, lines, too_narrow}
use Rattle.render_values.specs.Values.{Values}
use Rattle.block_trait.specs.Renderers.{Marking}
use Rattle.text_lines.specs.Tagged.{Item}

some_is_one : {X : Type 0} (x y : X) → Some x ≡ Some y → x ≡ y
some_is_one x y same = ap (λ o. unwrap_or o x) same

some_is_not_none : {X : Type 0} (x : X) → Some x ≡ None → ⊥
some_is_not_none x same = cc

module _ {T H A : Type 0} (m : Marking H A) (seen : T → A) (closes : H → List (List ℕ) → List (List (Item T))) where
  rendered_is_one : (c : Setting H) (width : ℕ) (values : Values) (shown others : List (List (Item (List A))))
      → page_lines m seen closes c width values ≡ Some shown → page_lines m seen closes c width values ≡ Some others
      → shown ≡ others
  rendered_is_one c width values shown others one other = some_is_one shown others (sym one ∙ other)

  rendered_or_narrow : (c : Setting H) (width : ℕ) (values : Values) (shown : List (List (Item (List A))))
      → page_lines m seen closes c width values ≡ Some shown → page_lines m seen closes c width values ≡ None → ⊥
  rendered_or_narrow c width values shown one none = some_is_not_none shown (sym one ∙ none)

  no_columns : (width : ℕ) → 0 < width → width ≡ 0 → ⊥
  no_columns width wide none = omega (arith, wide, none)

  lines_or_narrow : (c : Setting H) (width : ℕ) (values : Values) (shown : List (List (Item (List A))))
      → IsAnswerOf m seen closes c width values (lines shown) → IsAnswerOf m seen closes c width values too_narrow → ⊥
  lines_or_narrow c width values shown one (some, inl none) = no_columns width one.1.0 none
  lines_or_narrow c width values shown one (some, inr narrow) = rendered_or_narrow c width values shown one.1.1 narrow

  lines_or_fail : (c : Setting H) (width : ℕ) (values : Values) (shown : List (List (Item (List A))))
      → IsAnswerOf m seen closes c width values (lines shown) → IsAnswerOf m seen closes c width values fail → ⊥
  lines_or_fail c width values shown one none = one.0 none

  narrow_or_fail : (c : Setting H) (width : ℕ) (values : Values) → IsAnswerOf m seen closes c width values too_narrow
      → IsAnswerOf m seen closes c width values fail → ⊥
  narrow_or_fail c width values (some, narrow) none = some none

  pub answer_is_one : (c : Setting H) (width : ℕ) (values : Values) (one other : PageAnswer A)
      → IsAnswerOf m seen closes c width values one → IsAnswerOf m seen closes c width values other → one ≡ other
  answer_is_one c width values (lines shown) (lines others) a b =
      ap lines (rendered_is_one c width values shown others a.1.1 b.1.1)
  answer_is_one c width values (lines shown) too_narrow a b = absurd (lines_or_narrow c width values shown a b)
  answer_is_one c width values (lines shown) fail a b = absurd (lines_or_fail c width values shown a b)
  answer_is_one c width values too_narrow (lines shown) a b = absurd (lines_or_narrow c width values shown b a)
  answer_is_one c width values too_narrow too_narrow a b = refl
  answer_is_one c width values too_narrow fail a b = absurd (narrow_or_fail c width values a b)
  answer_is_one c width values fail (lines shown) a b = absurd (lines_or_fail c width values shown b a)
  answer_is_one c width values fail too_narrow a b = absurd (narrow_or_fail c width values b a)
  answer_is_one c width values fail fail a b = refl
