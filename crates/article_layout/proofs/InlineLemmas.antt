-- Inlines, one after another, and whether there are any.
use Rattle.std.proofs.Common.{◌≡◌, ◌==◌, [], ◌∷◌, ◌∙◌, List, arith, false, length, max, ne_eqb, refl, subst, suc, sym}
use Rattle.std.proofs.Common.{ℕ}
use Rattle.article_definitions.specs.Layouts.{has_none}
use Rattle.article_values.specs.Articles.{Inlines}
use Rattle.article_values.specs.Views.{inline_step, inline_view, inlines_view}
use Rattle.article_values.specs.declared.values.Inline.{Inline, map-Inline}
use Rattle.article_values.specs.declared.values.Inline.TheFolds.{fold-roll-Inline, ind-Inline}
use Rattle.article_values.specs.declared.values.Inline.TheOpen.{Inline-F}

suc_is_some : (n : ℕ) → (suc n == 0) ≡ false
suc_is_some n = ne_eqb (suc n) 0 (λ e. cc)

abbrev IsOne : Inline → Type 0
IsOne i = (rest : Inlines) → has_none (inline_view i rest) ≡ false

is_one : (i : Inline) → IsOne i
is_one = ind-Inline IsOne (λ x y is. λ rest. subst (λ view. has_none (view rest) ≡ false)
    (sym (fold-roll-Inline (Inlines → Inlines) inline_step x))
    (subst (λ z. has_none (inline_step (map-Inline Inline (Inlines → Inlines) inline_view z) rest) ≡ false) is
    (by y rest)))
  where
    by : (y : Inline-F ((i : Inline) × IsOne i)) (rest : Inlines) →
        has_none (inline_step (map-Inline Inline (Inlines → Inlines) inline_view
        (map-Inline ((x : Inline) × IsOne x) Inline (λ e. e.0) y)) rest) ≡ false
    by (Inline-F.Text text) rest = refl
    by Inline-F.Break rest = refl
    by (Inline-F.Bold contents) rest = refl
    by (Inline-F.Italic contents) rest = refl
    by (Inline-F.Emphasis contents) rest = refl
    by (Inline-F.Code contents) rest = refl
    by (Inline-F.Strong contents) rest = refl
    by (Inline-F.Link target contents) rest = refl

pub empty_holds_none : (inlines : List Inline) → (length inlines == 0) ≡ has_none (inlines_view inlines)
empty_holds_none [] = refl
empty_holds_none (i ∷ inlines) = suc_is_some (length inlines) ∙ sym (is_one i (inlines_view inlines))

-- the greatest of three
pub max_three : (a b c r : ℕ) → r ≡ max a b → max a (max b c) ≡ max r c
max_three a b c r e = omega (arith, e)
