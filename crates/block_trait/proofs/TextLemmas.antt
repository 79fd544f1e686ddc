-- The text of lines.
use Rattle.std.specs.Prelude.{◌≡◌, ℕ, List, [], ◌∷◌, ◌++◌, refl}
use Rattle.std.proofs.Common.{sym, ap, ◌∙◌, length, map, arith, chars, string_bytes}
use Rattle.std.proofs.lemmas.Str.{chars-nil}
use Rattle.std.proofs.lemmas.List.{append_assoc, append-nil}
use Rattle.text_lines.specs.Tagged.{characters, tagged, element_items, element_text}
use Rattle.text_lines.specs.declared.tagged_string.TaggedLineElement.{TaggedLineElement}
use Rattle.text_lines.specs.declared.tagged_string.TaggedLineElement.TheVariants.{Str, FragmentStart}
use Rattle.text_borders.specs.Lines.{BlockLine}
use Rattle.block_trait.specs.Texts.{line_text, text_of_lines}

characters_tagged : {S : Type 0} (cs : List ℕ) (tag : S) → characters (tagged cs tag) ≡ cs
characters_tagged [] tag = refl
characters_tagged (c ∷ cs) tag = ap (λ rest. c ∷ rest) (characters_tagged cs tag)

pub element_characters : {T S : Type 0} (seen : T → S) (e : TaggedLineElement T)
    → chars (element_text e) ≡ characters (element_items seen e)
element_characters seen (Str string) = sym (characters_tagged (chars (string_bytes string.s)) (seen string.tag))
element_characters seen (FragmentStart name) = chars-nil

pub text_begun : {S : Type 0} (old : List ℕ) (items lines : List (BlockLine S)) → old ≡ [] → items ≡ lines
    → old ++ text_of_lines items ≡ text_of_lines lines
text_begun old items lines empty same = ap (λ front. front ++ text_of_lines items) empty ∙ ap text_of_lines same

-- one more line
pub text_more : {S : Type 0} (old new whole : List ℕ) (line : BlockLine S) (rest items : List (BlockLine S))
    → items ≡ line ∷ rest → new ≡ old ++ line_text line → old ++ text_of_lines items ≡ whole
    → new ++ text_of_lines rest ≡ whole
text_more old new whole line rest items split one so_far =
    ap (λ front. front ++ text_of_lines rest) one ∙ append_assoc old (line_text line) (text_of_lines rest)
    ∙ sym (ap (λ all. old ++ text_of_lines all) split) ∙ so_far

pub text_whole : {S : Type 0} (old whole : List ℕ) (items : List (BlockLine S)) → items ≡ []
    → old ++ text_of_lines items ≡ whole → old ≡ whole
text_whole old whole items none so_far =
    sym (append-nil old) ∙ sym (ap (λ all. old ++ text_of_lines all) none) ∙ so_far

pub no_items : {A B : Type 0} (f : A → B) (xs : List A) → length xs ≡ 0 → map f xs ≡ []
no_items f [] e = refl
no_items f (x ∷ xs) e = absurd (omega arith)
