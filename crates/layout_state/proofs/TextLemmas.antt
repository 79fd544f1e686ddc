-- Spaces after a text.
use Rattle.std.proofs.Common.{◌≡◌, ◌+◌, [], ◌∷◌, ◌++◌, ◌∙◌, Global, List, String, ap, append_assoc, refl, string_bytes}
use Rattle.std.proofs.Common.{ℕ}
use Rattle.std.proofs.lemmas.List.{replicate_more}
use Rattle.std.proofs.lemmas.Str.{chars-append, IsUtf8-string_bytes}
use Rattle.std.specs.Prelude.{codes}
use Rattle.std.specs.Str.{chars}
use Rattle.layout_state.specs.Items.{spaces}

one_space : chars (codes " ") ≡ 0x20 ∷ []
unfolding chars
one_space = refl

pub space_added : (before new : List ℕ) (text : String Global) (n : ℕ)
    → chars (string_bytes text) ≡ before ++ spaces n → new ≡ string_bytes text ++ codes " "
    → chars new ≡ before ++ spaces (n + 1)
space_added before new text n h pushed =
    ap chars pushed ∙ (chars-append (string_bytes text) (codes " ") (IsUtf8-string_bytes text)
    ∙ (ap (λ (cs : List ℕ). cs ++ chars (codes " ")) h ∙ (ap (λ (cs : List ℕ). (before ++ spaces n) ++ cs) one_space
    ∙ (append_assoc before (spaces n) (0x20 ∷ []) ∙ ap (λ (cs : List ℕ). before ++ cs) (replicate_more n 0x20)))))
