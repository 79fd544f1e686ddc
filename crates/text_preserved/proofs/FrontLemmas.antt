-- Fronts of texts.
use Rattle.std.proofs.Common.{◌≡◌, ◌+◌, ◌-◌, ◌<◌, ◌≤◌, [], ◌∷◌, ◌++◌, ◌∙◌, Bool, List, ap, append_assoc, arith, chars}
use Rattle.std.proofs.Common.{encode_utf8, false, inr, refl, subst, sym, true, ℕ}
use Rattle.std.specs.Prelude.{◌||◌, nat_lt, Option, None, Some, IfSome, unwrap_or}
use Rattle.std.specs.Char.{IsScalar}
use Rattle.std.proofs.lemmas.List.Sums.{sum_by-append, sum_by-cons}
use Rattle.std.proofs.lemmas.Bool.Decides.{nat_tests}
use Rattle.std.proofs.lemmas.Str.{chars-nil, chars-append, IsUtf8-nil, IsUtf8-append, IsUtf8-encode}
use Rattle.text_lines.proofs.Joins.{chars_of_one}
use Rattle.text_lines.specs.Columns.{columns_of, columns_of-at_most_two, width_of, text_columns}
use Rattle.text_preserved.specs.Preserved.{kind_of}
use Rattle.text_preserved.specs.Fronts.{HasFront, goes_on_with, JoinsBody, Fits, has_wider}

-- ---- a front that grows

pub front_none : (Holds : List ℕ → Type 0) (text : List ℕ) → Holds [] → HasFront Holds text text
front_none Holds text h = record {
  parts = record { front = []; whole = refl; utf8 = IsUtf8-nil };
  holds = subst Holds (sym chars-nil) h;
}

pub front_more : (Holds Next : List ℕ → Type 0) (text rest after : List ℕ) (c : ℕ) → HasFront Holds text rest
    → rest ≡ encode_utf8 c ++ after → IsScalar c → ((cs : List ℕ) → Holds cs → Next (cs ++ c ∷ []))
    → HasFront Next text after
front_more Holds Next text rest after c has split scalar next =
    let p = has.parts in
    record {
      parts = record {
        front = p.front ++ encode_utf8 c;
        whole = p.whole ∙ ap (λ l. p.front ++ l) split ∙ sym (append_assoc p.front (encode_utf8 c) after);
        utf8 = IsUtf8-append p.front (encode_utf8 c) p.utf8 (IsUtf8-encode c scalar);
      };
      holds = subst Next (sym (chars-append p.front (encode_utf8 c) p.utf8
          ∙ ap (λ l. chars p.front ++ l) (chars_of_one c scalar))) (next (chars p.front) has.holds);
    }

pub joins_more : (width : ℕ) (wraps : Bool) (c : ℕ) → goes_on_with wraps (kind_of width wraps c) ≡ true
    → (cs : List ℕ) → JoinsBody width wraps cs → JoinsBody width wraps (cs ++ c ∷ [])
joins_more width wraps c goes [] h = (goes, tt)
joins_more width wraps c goes (d ∷ cs) h = (h.0, joins_more width wraps c goes cs h.1)

pub columns_more : (room left columns : ℕ) (c : ℕ) → columns ≡ width_of c → columns ≤ left → (cs : List ℕ)
    → text_columns cs + left ≡ room → text_columns (cs ++ c ∷ []) + (left - columns) ≡ room
columns_more room left columns c is fits cs h =
    omega (arith, sum_by-append width_of cs (c ∷ []), sum_by-cons width_of c [], is)

pub columns_within : (room left : ℕ) (text rest : List ℕ) → HasFront (λ cs. text_columns cs + left ≡ room) text rest
    → HasFront (λ cs. text_columns cs ≤ room) text rest
columns_within room left text rest has = record { parts = has.parts; holds = omega (arith, has.holds) }

-- ---- a text that is cut

pub holds_here : (Holds : List ℕ → Type 0) (text rest here : List ℕ) → HasFront Holds text rest
    → ((front : List ℕ) → text ≡ front ++ rest → here ≡ front) → Holds (chars here)
holds_here Holds text rest here has only =
    subst (λ l. Holds (chars l)) (sym (only has.parts.front has.parts.whole)) has.holds

pub fits_here : (width taken room : ℕ) (text rest here : List ℕ)
    → HasFront (λ cs. text_columns cs ≤ room) text rest → room + taken ≡ width
    → ((front : List ℕ) → text ≡ front ++ rest → here ≡ front) → Fits width taken (chars here)
fits_here width taken room text rest here has room_is only =
    inr (omega (arith, holds_here (λ cs. text_columns cs ≤ room) text rest here has only, room_is))

-- ---- characters that are wider than a width

two_at_most : (o : Option ℕ) → IfSome o (λ n. n ≤ 2) → unwrap_or o 0 ≤ 2
two_at_most None h = omega arith
two_at_most (Some n) h = h

pub width_of-two : (c : ℕ) → width_of c ≤ 2
unfolding width_of
width_of-two c = two_at_most (columns_of c) (columns_of-at_most_two c)

not_below : (a b : ℕ) → b ≤ a → nat_lt a b ≡ false
not_below a b h = grind (arith, nat_tests)

or_false : (a b : Bool) → a ≡ false → (a || b) ≡ b
or_false a b e = ap (λ x. x || b) e

or_true : (a b : Bool) → a ≡ true → (a || b) ≡ true
or_true a b e = ap (λ x. x || b) e

pub has_wider-none : (width : ℕ) (cs : List ℕ) → 2 ≤ width → has_wider width cs ≡ false
has_wider-none width [] h = refl
has_wider-none width (c ∷ cs) h =
    or_false (nat_lt width (width_of c)) (has_wider width cs)
    (not_below width (width_of c) (omega (arith, width_of-two c))) ∙ has_wider-none width cs h

pub wider_here : (width c : ℕ) (cs all : List ℕ) → all ≡ c ∷ cs → width < width_of c → has_wider width all ≡ true
wider_here width c cs all whole h =
    ap (has_wider width) whole ∙ or_true (nat_lt width (width_of c)) (has_wider width cs) (grind (arith, nat_tests))

pub wider_after : (width c : ℕ) (cs all : List ℕ) → all ≡ c ∷ cs → width_of c ≤ width
    → has_wider width cs ≡ has_wider width all
wider_after width c cs all whole h =
    sym (ap (has_wider width) whole
    ∙ or_false (nat_lt width (width_of c)) (has_wider width cs) (not_below width (width_of c) h))
