-- What the calls that look for a mark in a text's bytes say of its characters.
use Rattle.std.proofs.Common.{◌≡◌, ◌<◌, [], ◌∷◌, ◌++◌, ◌∙◌, Bor, IfSome, IsNone, IsUtf8, List, None, Option, Some, ap}
use Rattle.std.proofs.Common.{arith, chars, drop, eqb, length, length-drop, subst, suc, sym, take, zero, ℕ}
use Rattle.std.proofs.lemmas.Bool.{eqb-false}
use Rattle.std.proofs.lemmas.List.{take-append-drop}
use Rattle.std.proofs.lemmas.Str.{IsCharBoundary-before_ascii, IsUtf8-from_ascii, IsUtf8-take, chars-IsAscii}
use Rattle.std.proofs.lemmas.Str.{chars-append, chars_from_encodes}
use Rattle.std.proofs.lemmas.Str.Pattern.{IsSplitOnceResult, drop_at_char}
use Rattle.std.specs.Str.{IsAscii, NoCharPasses, NonePass}
use Rattle.std.specs.Str.Pattern.{FindsChar}
use Rattle.text_pieces.specs.Cuts.{Lacks, IsCutAt}

-- none of these characters is the mark, as a test
pub Lacks-from_none : (mark : ℕ) (cs : List ℕ) → NonePass (λ d. eqb d mark) cs → Lacks mark cs
Lacks-from_none mark [] h = tt
Lacks-from_none mark (c ∷ cs) h = (eqb-false c mark h.0, Lacks-from_none mark cs h.1)

-- a text of which no character is the mark
pub lacks_in_text : (mark : ℕ) (bs : List ℕ) → IsUtf8 bs → NoCharPasses (λ d. eqb d mark) bs → Lacks mark (chars bs)
lacks_in_text mark bs u h = subst (Lacks mark) (chars_from_encodes h.0 bs u h.1) (Lacks-from_none mark h.0 h.2)

one_ascii : (c : ℕ) → c < 128 → IsAscii (c ∷ [])
one_ascii c low zero = low
one_ascii c low (suc n) = omega arith

chars-ascii : (c : ℕ) (bs : List ℕ) → c < 128 → chars (c ∷ bs) ≡ c ∷ chars bs
chars-ascii c bs low =
    let ascii : IsAscii (c ∷ []) = one_ascii c low in
    chars-append (c ∷ []) bs (IsUtf8-from_ascii (c ∷ []) ascii) ∙ ap (λ l. l ++ chars bs) (chars-IsAscii (c ∷ []) ascii)

-- a mark that was found cuts the text at its first
pub found_at : (mark : ℕ) (bs : List ℕ) (i j : ℕ) → IsUtf8 bs → mark < 128 → FindsChar mark bs (Some (i, j))
    → IsCutAt mark (chars bs) (chars (take i bs)) (chars (drop j bs))
found_at mark bs i j u low h =
    let rest = drop_at_char mark bs i j h.1 low in
    let inside : i < length bs = omega (arith, ap length rest, length-drop i bs) in
    let front_text = IsUtf8-take bs i u (IsCharBoundary-before_ascii bs i inside (omega (arith, h.1.byte low))) in
    record {
      whole = ap chars (sym (take-append-drop i bs)) ∙ chars-append (take i bs) (drop i bs) front_text
          ∙ ap (λ l. chars (take i bs) ++ l) (ap chars rest ∙ chars-ascii mark (drop j bs) low);
      lacks = lacks_in_text mark (take i bs) front_text h.0;
    }

pub split_once-parts : (mark : ℕ) (bs : List ℕ) (r : Option (Bor (List ℕ) × Bor (List ℕ))) → IsUtf8 bs → mark < 128
    → IsSplitOnceResult mark bs r
    → IfSome r (λ parts. IsCutAt mark (chars bs) (chars parts.0.now) (chars parts.1.now))
split_once-parts mark bs None u low h = tt
split_once-parts mark bs (Some parts) u low h =
    subst (λ l. IsCutAt mark (chars bs) (chars l) (chars parts.1.now)) (sym h.3)
    (subst (λ l. IsCutAt mark (chars bs) (chars (take h.0 bs)) (chars l)) (sym h.4)
    (found_at mark bs h.0 h.1 u low h.2))

pub split_once-none : (mark : ℕ) (bs : List ℕ) (r : Option (Bor (List ℕ) × Bor (List ℕ))) → IsUtf8 bs
    → IsSplitOnceResult mark bs r → IsNone r → Lacks mark (chars bs)
split_once-none mark bs None u h none = lacks_in_text mark bs u h
split_once-none mark bs (Some parts) u h none = cc
