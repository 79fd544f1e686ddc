-- A text that is read one character more.
use Rattle.std.proofs.Common.{◌≡◌, ◌+◌, ◌≤◌, [], ◌∷◌, ◌++◌, ◌∙◌, IsUtf8, List, ap, append-nil, append_assoc, arith}
use Rattle.std.proofs.Common.{chars, drop, encode_utf8, length, length-append, subst, sym, take, ℕ}
use Rattle.std.proofs.lemmas.Bool.{and_parts}
use Rattle.std.proofs.lemmas.List.{take-append-drop, take-append-le, take_all, length-take-le}
use Rattle.std.proofs.lemmas.Str.{IsCharBoundary-from_take, IsCharBoundary-past_char, IsUtf8-drop, IsUtf8-encode}
use Rattle.std.proofs.lemmas.Str.{IsUtf8-take, chars-append, chars-nil, chars_past_char, cons_from_encodes}
use Rattle.std.proofs.lemmas.Str.{drop_past_char, length-encode}
use Rattle.std.proofs.Math.Utf8.{scalar}
use Rattle.std.specs.Char.{IsScalar, len_utf8}
use Rattle.std.specs.Str.{IsCharBoundary, all_scalars}

scalar_first : (bs rest : List ℕ) (c : ℕ) → IsUtf8 bs → bs ≡ encode_utf8 c ++ rest → IsScalar c
scalar_first bs rest c u e =
    let cut = cons_from_encodes u.0 rest c (u.1.1 ∙ e) in
    (and_parts (scalar c) (all_scalars cut.0) (ap all_scalars (sym cut.1) ∙ u.1.0)).0

pub chars-encode : (c : ℕ) → IsScalar c → chars (encode_utf8 c) ≡ c ∷ []
chars-encode c scalar =
    chars_past_char (encode_utf8 c) [] c (IsUtf8-encode c scalar) (sym (append-nil (encode_utf8 c))) ∙
    ap (λ l. c ∷ l) chars-nil

-- One character more was read: c, of w bytes, after the first n bytes of the text bs.
pub record IsReadOn (bs rest : List ℕ) (n c w : ℕ) : Type 0 where
  pub seam : IsCharBoundary bs (n + w)
  pub read : IsUtf8 (take (n + w) bs)
  pub left : rest ≡ drop (n + w) bs
  pub text : chars (take (n + w) bs) ≡ chars (take n bs) ++ c ∷ []
  pub whole : chars bs ≡ chars (take n bs) ++ c ∷ chars rest

-- n bytes of the text were read, and what is left begins with the character c, which takes w bytes
module _ (bs left rest : List ℕ) (n c w : ℕ) (u : IsUtf8 bs) (le : n ≤ length bs) (read : IsUtf8 (take n bs))
    (is_left : left ≡ drop n bs) (e : left ≡ encode_utf8 c ++ rest) (width : w ≡ len_utf8 c) where
  trailing : drop n bs ≡ encode_utf8 c ++ rest
  trailing = sym is_left ∙ e

  after_text : IsUtf8 (drop n bs)
  after_text = IsUtf8-drop bs n u (IsCharBoundary-from_take bs n u le read)

  edge : IsCharBoundary bs (n + w)
  edge = subst (λ k. IsCharBoundary bs (n + k)) (sym width) (IsCharBoundary-past_char bs rest n c le after_text trailing)

  more_read : IsUtf8 (take (n + w) bs)
  more_read = IsUtf8-take bs (n + w) u edge

  left_after : rest ≡ drop (n + w) bs
  left_after = sym (drop_past_char bs rest n c trailing) ∙ ap (λ k. drop (n + k) bs) (sym width)

  whole_text : chars bs ≡ chars (take n bs) ++ c ∷ chars rest
  whole_text =
      ap chars (sym (take-append-drop n bs)) ∙ chars-append (take n bs) (drop n bs) read
      ∙ ap (λ l. chars (take n bs) ++ l) (chars_past_char (drop n bs) rest c after_text trailing)

  front : take (n + w) bs ≡ take n bs ++ encode_utf8 c
  front =
      let long : length (take n bs ++ encode_utf8 c) ≡ n + w =
      omega (arith, length-append (take n bs) (encode_utf8 c), length-take-le n bs le, length-encode c) in
      let whole : bs ≡ (take n bs ++ encode_utf8 c) ++ rest =
      sym (take-append-drop n bs) ∙ ap (λ l. take n bs ++ l) trailing ∙ sym
      (append_assoc (take n bs) (encode_utf8 c) rest) in
      ap (take (n + w)) whole ∙ take-append-le (n + w) (take n bs ++ encode_utf8 c) rest (omega arith) ∙
      take_all (n + w) (take n bs ++ encode_utf8 c) (omega arith)

  read_text : chars (take (n + w) bs) ≡ chars (take n bs) ++ c ∷ []
  read_text =
      ap chars front ∙ chars-append (take n bs) (encode_utf8 c) read
      ∙ ap (λ l. chars (take n bs) ++ l) (chars-encode c (scalar_first (drop n bs) rest c after_text trailing))

  pub read_on : IsReadOn bs rest n c w
  read_on = record { seam = edge; read = more_read; left = left_after; text = read_text; whole = whole_text }
