-- Strings and lines that a map has made something of so far, and what it will make of the others.
use Rattle.std.proofs.Common.{◌≡◌, ◌∙◌, ◌++◌, ◌∷◌, [], Global, List, Vec, ap, append-nil, append_assoc, arith, length}
use Rattle.std.proofs.Common.{refl, string_bytes, subst, sym, ℕ}
use Rattle.text_lines.specs.Tagged.{line_strings}
use Rattle.text_lines.specs.declared.tagged_line.TaggedLine.{TaggedLine}
use Rattle.text_lines.specs.declared.tagged_string.TaggedString.{TaggedString}
use Rattle.html_render_tree.specs.Coloured.{AreColoured, AreColouredLines}

module _ {T : Type 0} (Makes : List T → List ℕ → List ℕ → Type 0) where
  -- the text grew by what is made of the strings in front of those that are left
  pub record HasColoured (all left : List (TaggedString (Vec T Global))) (old new : List ℕ) : Type 0 where
    pub front : List ℕ
    pub is : new ≡ old ++ front
    pub gives : (rest : List ℕ) → AreColoured Makes left rest → AreColoured Makes all (front ++ rest)

  pub none_coloured : (all : List (TaggedString (Vec T Global))) (old : List ℕ) → HasColoured all all old old
  none_coloured all old = record { front = []; is = sym (append-nil old); gives = λ rest is. is }

  pub one_coloured : (all left : List (TaggedString (Vec T Global))) (string : TaggedString (Vec T Global))
      (old middle new made : List ℕ) → HasColoured all (string ∷ left) old middle
      → Makes string.tag.items (string_bytes string.s) made → new ≡ middle ++ made → HasColoured all left old new
  one_coloured all left string old middle new made has makes is = record {
    front = has.front ++ made;
    is = is ∙ ap (λ text. text ++ made) has.is ∙ append_assoc old has.front made;
    gives = λ rest others. subst (AreColoured Makes all) (sym (append_assoc has.front made rest))
        (has.gives (made ++ rest) (made, rest, refl, makes, others));
  }

  pub all_coloured : (all : List (TaggedString (Vec T Global))) (old middle new : List ℕ)
      → HasColoured all [] old middle → new ≡ middle ++ 10 ∷ []
      → (made : List ℕ) × (new ≡ old ++ made ++ 10 ∷ []) × AreColoured Makes all made
  all_coloured all old middle new has is = (
    has.front,
    is ∙ ap (λ text. text ++ 10 ∷ []) has.is,
    subst (AreColoured Makes all) (append-nil has.front) (has.gives [] refl),
  )

  -- the same of lines
  pub record HasColouredLines (all left : List (TaggedLine (Vec T Global))) (new : List ℕ) : Type 0 where
    pub gives : (rest : List ℕ) → AreColouredLines Makes left rest → AreColouredLines Makes all (new ++ rest)

  pub no_lines_coloured : (all : List (TaggedLine (Vec T Global))) → HasColouredLines all all []
  no_lines_coloured all = record { gives = λ rest is. is }

  pub line_coloured : (all left : List (TaggedLine (Vec T Global))) (line : TaggedLine (Vec T Global))
      (middle new : List ℕ) → HasColouredLines all (line ∷ left) middle
      → (made : List ℕ) × (new ≡ middle ++ made ++ 10 ∷ []) × AreColoured Makes (line_strings line) made
      → HasColouredLines all left new
  line_coloured all left line middle new has (made, is, coloured) = record {
    gives = λ rest others.
        let whole : new ++ rest ≡ middle ++ (made ++ 10 ∷ rest) =
        ap (λ text. text ++ rest) is ∙ append_assoc (middle ++ made) (10 ∷ []) rest
        ∙ append_assoc middle made (10 ∷ rest) in
        subst (AreColouredLines Makes all) (sym whole)
        (has.gives (made ++ 10 ∷ rest) (made, rest, refl, coloured, others));
  }

  pub lines_coloured : (all left : List (TaggedLine (Vec T Global))) (new : List ℕ) → length left ≡ 0
      → HasColouredLines all left new → AreColouredLines Makes all new
  lines_coloured all [] new none has = subst (AreColouredLines Makes all) (append-nil new) (has.gives [] refl)
  lines_coloured all (line ∷ left) new none has = absurd (omega (arith, none))
