-- Words and the spaces between them, that are laid on a line all at once.
use Rattle.std.proofs.Common.{◌≡◌, ◌+◌, ◌-◌, ◌≤◌, [], ◌∷◌, ◌++◌, if◌then◌else◌, ◌∙◌, Bool, IsUtf8, List, ap, arith}
use Rattle.std.proofs.Common.{chars, encode_utf8, false, inl, inr, refl, subst, sym, true, ℕ}
use Rattle.std.specs.Prelude.{◌⊎◌, not, ◌||◌, ◌&&◌, ◌==◌, is_some}
use Rattle.std.specs.Char.{IsScalar}
use Rattle.std.proofs.lemmas.Bool.Decides.{nat_tests}
use Rattle.std.proofs.Math.Utf8.{encodes}
use Rattle.std.proofs.lemmas.Str.{chars_past_char, encodes-chars}
use Rattle.text_lines.specs.Columns.{columns_of, width_of, text_columns}
use Rattle.text_preserved.specs.Preserved.{Kind, solid, white, tab, cut, nothing, kind_of, is_solid}
use Rattle.text_preserved.specs.Fronts.{HasFront, AreWordsAndSpaces, ends_solid, AreWords, AreWordsOrNone, WordsFit}
use Rattle.text_preserved.proofs.FrontLemmas.{front_none, front_more, columns_more}

-- ---- finding them

-- what was read of the text, with so many columns left of the room, and whether a word is at hand after it
pub record AreRead (width room left : ℕ) (in_word : Bool) (cs : List ℕ) : Type 0 where
  pub all : AreWordsAndSpaces width cs
  pub columns : text_columns cs + left ≡ room
  pub word : ends_solid width false cs ≡ in_word

pub nothing_read : (width room : ℕ) (text : List ℕ) → HasFront (AreRead width room room false) text text
nothing_read width room text =
    front_none (AreRead width room room false) text (record { all = tt; columns = omega arith; word = refl })

pub no_words : (width room : ℕ) (text : List ℕ) → HasFront (λ cs. AreWordsOrNone width room cs (chars text)) text text
no_words width room text = front_none (λ cs. AreWordsOrNone width room cs (chars text)) text (inl refl)

-- U+0020 ends a word
space_kind : (is_white is_joint is_narrow : Bool) (has_columns : Bool) → is_white ≡ true
    → is_solid (if is_white then (if is_narrow || not has_columns then cut else white)
    else (if is_joint then cut else (if has_columns then solid else nothing))) ≡ false
space_kind true is_joint true has_columns e = refl
space_kind true is_joint false true e = refl
space_kind true is_joint false false e = refl
space_kind false is_joint is_narrow has_columns e = cc

pub space_is_not_solid : (width : ℕ) → is_solid (kind_of width true 0x20) ≡ false
unfolding kind_of
space_is_not_solid width = space_kind true false (width == 0) (is_some (columns_of 0x20)) refl

pub all_more : (width c : ℕ) → (kind_of width true c ≡ solid) ⊎ (c ≡ 0x20) → (cs : List ℕ)
    → AreWordsAndSpaces width cs → AreWordsAndSpaces width (cs ++ c ∷ [])
all_more width c is [] h = (is, tt)
all_more width c is (d ∷ cs) h = (h.0, all_more width c is cs h.1)

ends_more : (width c : ℕ) (begun : Bool) (cs : List ℕ)
    → ends_solid width begun (cs ++ c ∷ []) ≡ is_solid (kind_of width true c)
ends_more width c begun [] = refl
ends_more width c begun (d ∷ cs) = ends_more width c (is_solid (kind_of width true d)) cs

pub solid_kind : (k : Kind) → is_solid k ≡ true → k ≡ solid
solid_kind solid e = refl
solid_kind white e = cc
solid_kind tab e = cc
solid_kind cut e = cc
solid_kind nothing e = cc

-- such a character is solid or U+0020
pub which : (width c : ℕ) (is : Bool) → is ≡ ((c == 0x20) || is_solid (kind_of width true c)) → is ≡ true
    → (kind_of width true c ≡ solid) ⊎ (c ≡ 0x20)
which width c is is_is has = by_space (c == 0x20) refl (sym is_is ∙ has)
  where
    by_space : (b : Bool) → (c == 0x20) ≡ b → (b || is_solid (kind_of width true c)) ≡ true
        → (kind_of width true c ≡ solid) ⊎ (c ≡ 0x20)
    by_space true e h = inr (grind (arith, nat_tests))
    by_space false e h = inl (solid_kind (kind_of width true c) h)

word_goes_on : (width c : ℕ) (in_word : Bool) → in_word ≡ not (c == 0x20)
    → (kind_of width true c ≡ solid) ⊎ (c ≡ 0x20) → is_solid (kind_of width true c) ≡ in_word
word_goes_on width c in_word is (inl h) =
    ap is_solid h ∙ sym (is ∙ ap not (no_space width c h))
  where
    no_space : (w d : ℕ) → kind_of w true d ≡ solid → (d == 0x20) ≡ false
    no_space w d h = by_space (d == 0x20) refl
      where
        by_space : (b : Bool) → (d == 0x20) ≡ b → b ≡ false
        by_space false e = refl
        by_space true e =
            let is : d ≡ 0x20 = grind (arith, nat_tests) in
            sym (ap is_solid h) ∙ ap (λ x. is_solid (kind_of w true x)) is ∙ space_is_not_solid w
word_goes_on width c in_word is (inr h) =
    ap (λ d. is_solid (kind_of width true d)) h ∙ space_is_not_solid width
    ∙ sym (is ∙ ap (λ d. not (d == 0x20)) h)

pub more_read : (width room left columns c : ℕ) (in_word next_word : Bool) (text rest after : List ℕ)
    → HasFront (AreRead width room left in_word) text rest → rest ≡ encode_utf8 c ++ after → IsScalar c
    → columns ≡ width_of c → columns ≤ left → (kind_of width true c ≡ solid) ⊎ (c ≡ 0x20)
    → next_word ≡ not (c == 0x20) → HasFront (AreRead width room (left - columns) next_word) text after
more_read width room left columns c in_word next_word text rest after has split scalar wide fits is next_is =
    front_more (AreRead width room left in_word) (AreRead width room (left - columns) next_word) text rest after c has
    split scalar (λ cs h. record {
      all = all_more width c is cs h.all;
      columns = columns_more room left columns c wide fits cs h.columns;
      word = ends_more width c false cs ∙ word_goes_on width c next_word next_is is;
    })

-- the words up to here
words_here : (width room left c : ℕ) (in_word : Bool) (text rest after : List ℕ)
    → HasFront (AreRead width room left in_word) text rest → IsUtf8 rest → rest ≡ encode_utf8 c ++ after
    → in_word ≡ true → c ≡ 0x20 → HasFront (λ cs. AreWordsOrNone width room cs (chars rest)) text rest
words_here width room left c in_word text rest after has utf8 split on is = record {
  parts = has.parts;
  holds = inr (record {
    all = has.holds.all;
    columns = omega (arith, has.holds.columns);
    word = has.holds.word ∙ on;
    ends = record {
      after = chars after;
      whole = chars_past_char rest after c utf8 split ∙ ap (λ d. d ∷ chars after) is;
    };
  });
}

pub words_next : (width room left c : ℕ) (in_word : Bool) (text rest trailing next after : List ℕ)
    → HasFront (AreRead width room left in_word) text rest
    → HasFront (λ cs. AreWordsOrNone width room cs (chars trailing)) text trailing → IsUtf8 rest
    → rest ≡ encode_utf8 c ++ after → next ≡ (if in_word && (c == 0x20) then rest else trailing)
    → HasFront (λ cs. AreWordsOrNone width room cs (chars next)) text next
words_next width room left c in_word text rest trailing next after has words utf8 split next_is =
    by_end in_word (c == 0x20) refl refl next_is
  where
    Goal : List ℕ → Type 0
    Goal l = HasFront (λ cs. AreWordsOrNone width room cs (chars l)) text l

    by_end : (on space : Bool) → in_word ≡ on → (c == 0x20) ≡ space → next ≡ (if on && space then rest else trailing)
        → Goal next
    by_end true true e f h =
        subst Goal (sym h) (words_here width room left c in_word text rest after has utf8 split e
        (grind (arith, nat_tests)))
    by_end true false e f h = subst Goal (sym h) words
    by_end false space e f h = subst Goal (sym h) words

-- ---- the text cut there

pub words_fit : (width taken room : ℕ) (text rest here trailing : List ℕ)
    → HasFront (λ cs. AreWordsOrNone width room cs (chars rest)) text rest → room + taken ≡ width
    → ((front : List ℕ) → text ≡ front ++ rest → here ≡ front) → trailing ≡ rest
    → WordsFit width taken (chars here) (chars trailing)
words_fit width taken room text rest here trailing has room_is only after_is =
    by_words (subst (λ l. AreWordsOrNone width room (chars l) (chars rest))
    (sym (only has.parts.front has.parts.whole)) has.holds)
  where
    by_words : AreWordsOrNone width room (chars here) (chars rest) → WordsFit width taken (chars here) (chars trailing)
    by_words (inl none) = inl none
    by_words (inr words) = inr (
      room,
      omega (arith, room_is),
      subst (λ l. AreWords width room (chars here) (chars l))
          (sym after_is) words,
    )

-- a text without characters is empty
pub no_text : (bs : List ℕ) → IsUtf8 bs → chars bs ≡ [] → bs ≡ []
no_text bs utf8 none = sym (encodes-chars bs utf8) ∙ ap encodes none
