-- The lines of paragraphs as a function, which the relation says.
use Rattle.std.proofs.Common.{◌≡◌, ◌||◌, [], ◌∷◌, ◌++◌, if◌then◌else◌, ◌∙◌, Bool, List, None, Option, Some, ap}
use Rattle.std.proofs.Common.{append-nil, arith, false, not, refl, subst, suc, sym, true, ℕ}
use Rattle.std.proofs.lemmas.List.Elements.{All-cons, All-get_or, All-nil}
use Rattle.std.proofs.lemmas.Option.{none-some, same_Some}
use Rattle.std.specs.Option.{option_and_then}
use Rattle.std.specs.Prelude.{All, Any, flat_map}
use Rattle.text_normal.specs.Layout.{AreLinesOf, HasNoLayout, NeverFits, marks}
use Rattle.text_normal.specs.Letters.{has_marker, letters_of}
use Rattle.text_normal.specs.Riders.{has_wide_text, normal_lines, normal_waiting}
use Rattle.text_normal.specs.Units.{Letter, lettered}
use Rattle.text_pieces.specs.Items.{markers_of}
use Rattle.text_pieces.specs.Sources.{Source, names_of, sourced}
use Rattle.text_pieces.specs.declared.white_space.WhiteSpace.TheVariants.{Normal}
use Rattle.text_wrapping.specs.Blocks.{added}
use Rattle.text_wrapping.specs.NormalBlocks.{normal_block}
use Rattle.paragraph_laws.specs.ParagraphLines.{AreLinesAfter, AreParagraphLines, IsWiderText, Plain, PlainItems}
use Rattle.paragraph_laws.specs.ParagraphLines.{block_start}

-- ---- what is known of normal text

abbrev pub TextsHaveLetters : Type 0
TextsHaveLetters = (cs : List ℕ) (main further : Plain) → letters_of (sourced cs main further) ≡ lettered cs main

abbrev pub TextsHaveNoMarkers : Type 0
TextsHaveNoMarkers = (cs : List ℕ) (main further : Plain) → has_marker (sourced cs main further) ≡ false

abbrev pub LinesAreFullest : Type 0
LinesAreFullest = (width : ℕ) (overflow : Bool) (source : List (Source Plain)) → has_marker source ≡ false →
    (overflow || not (has_wide_text width source)) ≡ true →
    AreLinesOf width overflow (letters_of source) (normal_lines width source)

abbrev pub WideTextNeverFits : Type 0
WideTextNeverFits = (width : ℕ) (source : List (Source Plain)) → has_wide_text width source ≡ true →
    NeverFits width false (letters_of source)

abbrev pub OneFullest : Type 0
OneFullest = (width : ℕ) (overflow : Bool) (read : List (Letter Plain)) (lines others : List PlainItems) →
    AreLinesOf width overflow read lines → AreLinesOf width overflow read others → lines ≡ others

abbrev pub LinesKeepMarkers : Type 0
LinesKeepMarkers = (width : ℕ) (source : List (Source Plain)) →
    flat_map (markers_of {S = Plain}) (normal_lines width source) ++ normal_waiting width source ≡ names_of source

abbrev pub TextIsKept : Type 0
TextIsKept = (width : ℕ) (overflow : Bool) (source : List (Source Plain)) (cs : List ℕ) (main further : Plain) →
    added Normal cs main further (normal_block width overflow source)
    ≡ Some (normal_block width overflow (source ++ sourced cs main further))

pub record KnowsNormalText : Type 0 where
  pub letters : TextsHaveLetters
  pub no_marker : TextsHaveNoMarkers
  pub fullest : LinesAreFullest
  pub never : WideTextNeverFits
  pub one : OneFullest
  pub markers : LinesKeepMarkers
  pub kept : TextIsKept

-- ---- of one paragraph

abbrev pub source_of : List ℕ → List (Source Plain)
source_of cs = sourced cs [] []

abbrev pub own_by : Bool → (width : ℕ) → List ℕ → Option (List PlainItems)
own_by wide width cs = if wide then None else Some (normal_lines width (source_of cs))

-- none where a character is wider than the lines
abbrev pub own_lines : ℕ → List ℕ → Option (List PlainItems)
own_lines width cs = own_by (has_wide_text width (source_of cs)) width cs

module _ (k : KnowsNormalText) (width : ℕ) where
  has_lines : (cs : List ℕ) → has_wide_text width (source_of cs) ≡ false →
      AreParagraphLines width cs (normal_lines width (source_of cs))
  has_lines cs e = subst (λ read. AreLinesOf width false read (normal_lines width (source_of cs)))
      (k.letters cs [] [])
      (k.fullest width false (source_of cs) (k.no_marker cs [] []) (ap (λ b. not b) e))

  is_wider : (cs : List ℕ) → has_wide_text width (source_of cs) ≡ true → IsWiderText width cs
  is_wider cs e =
      let never = k.never width (source_of cs) e in
      let P : List (Letter Plain) → Type 0 = λ read. HasNoLayout width false (marks width read) in
      subst P (append-nil (lettered cs [])) (subst (NeverFits width false) (k.letters cs [] []) never [] [])

  not_wider : (cs : List ℕ) (own : List PlainItems) → AreParagraphLines width cs own → IsWiderText width cs → ⊥
  not_wider cs own laid wider = wider laid.layout laid.fullest.layout

  own_are : (cs : List ℕ) (wide : Bool) (own : List PlainItems) → has_wide_text width (source_of cs) ≡ wide →
      own_by wide width cs ≡ Some own → AreParagraphLines width cs own
  own_are cs true own e h = absurd (none-some own h)
  own_are cs false own e h = subst (AreParagraphLines width cs) (same_Some _ own h) (has_lines cs e)

  none_is_wider : (cs : List ℕ) (wide : Bool) → has_wide_text width (source_of cs) ≡ wide →
      own_by wide width cs ≡ None → IsWiderText width cs
  none_is_wider cs true e h = is_wider cs e
  none_is_wider cs false e h = absurd (none-some _ (sym h))

  are_own : (cs : List ℕ) (wide : Bool) (own : List PlainItems) → has_wide_text width (source_of cs) ≡ wide →
      AreParagraphLines width cs own → own_by wide width cs ≡ Some own
  are_own cs true own e laid = absurd (not_wider cs own laid (is_wider cs e))
  are_own cs false own e laid =
      ap Some (k.one width false (lettered cs []) (normal_lines width (source_of cs)) own (has_lines cs e) laid)

-- ---- of all

abbrev pub lines_after : ℕ → List PlainItems → List (List ℕ) → Option (List PlainItems)
lines_after width before [] = Some before
lines_after width before (cs ∷ texts) = option_and_then
    (λ own. lines_after width (before ++ (block_start before ++ own)) texts) (own_lines width cs)

abbrev IsLaid : ℕ → List ℕ → Type 0
IsLaid width cs = (own : List PlainItems) × AreParagraphLines width cs own

Any-here : {X : Type 0} (P : X → Type 0) (x : X) (xs : List X) → P x → Any P (x ∷ xs)
Any-here P x xs p = (0, x, omega arith, refl, p)

Any-there : {X : Type 0} (P : X → Type 0) (x : X) (xs : List X) → Any P xs → Any P (x ∷ xs)
Any-there P x xs a = (suc a.0, a.1, omega (arith, a.2), a.3, a.4)

module _ (k : KnowsNormalText) (width : ℕ) where
  first_emitted : (cs : List ℕ) (texts : List (List ℕ)) (before lines : List PlainItems)
      (own : Option (List PlainItems)) → own_lines width cs ≡ own →
      option_and_then (λ own. lines_after width (before ++ (block_start before ++ own)) texts) own ≡ Some lines →
      ((more : List PlainItems) → lines_after width more texts ≡ Some lines →
      AreLinesAfter width more texts lines) →
      AreLinesAfter width before (cs ∷ texts) lines
  first_emitted cs texts before lines None e h rest = absurd (none-some lines h)
  first_emitted cs texts before lines (Some own) e h rest = (
    own,
    own_are k width cs (has_wide_text width (source_of cs)) own refl e,
    rest (before ++ (block_start before ++ own)) h,
  )

  pub are_lines : (texts : List (List ℕ)) (before lines : List PlainItems) →
      lines_after width before texts ≡ Some lines → AreLinesAfter width before texts lines
  are_lines [] before lines h = sym (same_Some before lines h)
  are_lines (cs ∷ texts) before lines h = first_emitted cs texts before lines (own_lines width cs) refl h
      (λ more e. are_lines texts more lines e)

  pub lines_are : (texts : List (List ℕ)) (before lines : List PlainItems) →
      AreLinesAfter width before texts lines → lines_after width before texts ≡ Some lines
  lines_are [] before lines a = ap Some (sym a)
  lines_are (cs ∷ texts) before lines a =
      ap (option_and_then (λ own. lines_after width (before ++ (block_start before ++ own)) texts))
      (are_own k width cs (has_wide_text width (source_of cs)) a.0 refl a.1)
      ∙ lines_are texts (before ++ (block_start before ++ a.0)) lines a.2

  first_wider : (cs : List ℕ) (texts : List (List ℕ)) (before : List PlainItems)
      (own : Option (List PlainItems)) → own_lines width cs ≡ own →
      option_and_then (λ own. lines_after width (before ++ (block_start before ++ own)) texts) own ≡ None →
      ((more : List PlainItems) → lines_after width more texts ≡ None → Any (IsWiderText width) texts) →
      Any (IsWiderText width) (cs ∷ texts)
  first_wider cs texts before None e h rest = Any-here (IsWiderText width) cs texts
      (none_is_wider k width cs (has_wide_text width (source_of cs)) refl e)
  first_wider cs texts before (Some own) e h rest = Any-there (IsWiderText width) cs texts
      (rest (before ++ (block_start before ++ own)) h)

  pub some_wider : (texts : List (List ℕ)) (before : List PlainItems) →
      lines_after width before texts ≡ None → Any (IsWiderText width) texts
  some_wider [] before h = absurd (none-some before (sym h))
  some_wider (cs ∷ texts) before h = first_wider cs texts before (own_lines width cs) refl h
      (λ more e. some_wider texts more e)

  each_laid : (texts : List (List ℕ)) (before lines : List PlainItems) → AreLinesAfter width before texts lines →
      All (IsLaid width) texts
  each_laid [] before lines a = All-nil (IsLaid width)
  each_laid (cs ∷ texts) before lines a = All-cons (IsLaid width) cs texts (a.0, a.1)
      (each_laid texts (before ++ (block_start before ++ a.0)) lines a.2)

  none_wider : (texts : List (List ℕ)) → All (IsLaid width) texts → Any (IsWiderText width) texts → ⊥
  none_wider texts laid some =
      let here = subst (IsLaid width) some.3 (All-get_or (IsLaid width) texts some.0 some.1 some.2 laid) in
      not_wider k width some.1 here.0 here.1 some.4

  wider_by : (texts : List (List ℕ)) (before : List PlainItems) (lines : Option (List PlainItems)) →
      lines_after width before texts ≡ lines → Any (IsWiderText width) texts → lines ≡ None
  wider_by texts before None e some = refl
  wider_by texts before (Some lines) e some =
      absurd (none_wider texts (each_laid texts before lines (are_lines texts before lines e)) some)

  pub wider_none : (texts : List (List ℕ)) (before : List PlainItems) → Any (IsWiderText width) texts →
      lines_after width before texts ≡ None
  wider_none texts before some = wider_by texts before (lines_after width before texts) refl some
