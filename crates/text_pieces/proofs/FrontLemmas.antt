-- Texts that are cut before a rest.
use Rattle.std.proofs.Common.{◌≡◌, ◌-◌, ◌++◌, ◌∙◌, IsUtf8, List, ap, arith, chars, drop, length, refl, subst, sym, take}
use Rattle.std.proofs.Common.{ℕ}
use Rattle.std.specs.Str.{IsCharBoundary}
use Rattle.std.proofs.lemmas.List.{take_at, take-append-drop, length-append}
use Rattle.std.proofs.lemmas.Str.{chars-append, IsCharBoundary-at_seam}
use Rattle.text_pieces.specs.Cuts.{IsAfter}

front_length : (text front rest : List ℕ) → text ≡ front ++ rest → length text - length rest ≡ length front
front_length text front rest whole = omega (arith, ap length whole, length-append front rest)

pub front_taken : (text front rest : List ℕ) (n : ℕ) → text ≡ front ++ rest → n ≡ length text - length rest
    → take n text ≡ front
front_taken text front rest n whole n_is = ap (take n) whole
    ∙ take_at front rest n (sym (n_is ∙ front_length text front rest whole))

pub front_boundary : (text rest : List ℕ) → IsAfter text rest → IsUtf8 rest
    → IsCharBoundary text (length text - length rest)
front_boundary text rest p utf8 = subst (IsCharBoundary text) (sym (front_length text p.front rest p.whole))
    (IsCharBoundary-at_seam text p.front rest p.whole utf8)

pub parts_are : (text rest here trailing : List ℕ) → IsAfter text rest → here ≡ take (length text - length rest) text
    → trailing ≡ drop (length text - length rest) text → chars text ≡ chars here ++ chars trailing
parts_are text rest here trailing p here_is after_is =
    let front_is : here ≡ p.front = here_is
    ∙ front_taken text p.front rest (length text - length rest) p.whole refl in
    let whole : text ≡ here ++ trailing = sym (take-append-drop (length text - length rest) text)
    ∙ ap (λ l. l ++ drop (length text - length rest) text) (sym here_is) ∙ ap (λ l. here ++ l) (sym after_is) in
    ap chars whole ∙ chars-append here trailing (subst IsUtf8 (sym front_is) p.utf8)
