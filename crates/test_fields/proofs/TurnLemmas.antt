-- Loops over the characters of a text, one turn more.
use Rattle.std.proofs.Common.{◌≡◌, ◌<◌, ◌≤◌, [], ◌∷◌, ◌++◌, ◌∙◌, List, ap, arith, drop, get_or, length, map, subst, suc}
use Rattle.std.proofs.Common.{sym, take, true, zero, ℕ}
use Rattle.std.proofs.Math.Utf8.{scalar}
use Rattle.std.specs.Char.{IsScalar}
use Rattle.std.specs.Str.{all_scalars}
use Rattle.std.proofs.lemmas.Bool.{and_parts}
use Rattle.std.proofs.lemmas.Grind.{flat_map-append}
use Rattle.std.proofs.lemmas.List.{append-nil, append_assoc, drop-append-le, drop_all, length-take-le, length_push}
use Rattle.std.proofs.lemmas.List.{map-append, take-append-le, take_all, take_more}
use Rattle.test_fields.specs.Escapes.{escape_of, field_of}

scalar_at : (cs : List ℕ) (i c : ℕ) → all_scalars cs ≡ true → i < length cs → c ≡ get_or cs i c → IsScalar c
scalar_at [] i c h lt e = absurd (omega (arith, lt))
scalar_at (d ∷ ds) zero c h lt e = subst IsScalar (sym e) (and_parts (scalar d) (all_scalars ds) h).0
scalar_at (d ∷ ds) (suc i) c h lt e =
    scalar_at ds i c (and_parts (scalar d) (all_scalars ds) h).1 (omega (arith, lt)) e

module _ (cs ys : List ℕ) (c : ℕ) (turn : (length ys < length cs) × (c ≡ get_or cs (length ys) c)) where
  next_taken : take (length (ys ++ c ∷ [])) cs ≡ take (length ys) cs ++ c ∷ []
  next_taken = ap (λ n. take n cs) (length_push ys c) ∙ take_more cs (length ys) c turn.0
      ∙ ap (λ e. take (length ys) cs ++ e ∷ []) (sym turn.1)

  pub turn_scalar : all_scalars cs ≡ true → IsScalar c
  turn_scalar h = scalar_at cs (length ys) c h turn.0 turn.1

  pub next_escaped : (old mid new : List ℕ) → mid ≡ old ++ field_of (take (length ys) cs) → new ≡ mid ++ escape_of c
      → new ≡ old ++ field_of (take (length (ys ++ c ∷ [])) cs)
  next_escaped old mid new so_far one =
      let xs = take (length ys) cs in
      one ∙ ap (λ l. l ++ escape_of c) so_far ∙ append_assoc old (field_of xs) (escape_of c)
      ∙ ap (λ l. old ++ (field_of xs ++ l)) (sym (append-nil (escape_of c)))
      ∙ ap (λ l. old ++ l) (sym (flat_map-append escape_of xs (c ∷ [])))
      ∙ ap (λ l. old ++ field_of l) (sym next_taken)

  pub next_piece : (old new : List (List ℕ)) → old ≡ map (λ d. d ∷ []) (take (length ys) cs)
      → new ≡ old ++ (c ∷ []) ∷ []
      → new ≡ map (λ d. d ∷ []) (take (length (ys ++ c ∷ [])) cs)
  next_piece old new so_far one =
      one ∙ ap (λ l. l ++ (c ∷ []) ∷ []) so_far ∙ sym (map-append (λ d. d ∷ []) (take (length ys) cs) (c ∷ []))
      ∙ ap (map (λ d. d ∷ [])) (sym next_taken)

  -- the first n are not all there yet: what comes goes to them
  module _ (n : ℕ) (more : length ys < n) where
    short : length (take (length ys) cs ++ c ∷ []) ≤ n
    short = omega (
      arith,
      length_push (take (length ys) cs) c,
      more,
      length-take-le (length ys) cs (omega (arith, turn.0)),
    )

    shorter : length (take (length ys) cs) ≤ n
    shorter = omega (arith, length-take-le (length ys) cs (omega (arith, turn.0)), more)

    pub next_in_front : take n (take (length (ys ++ c ∷ [])) cs) ≡ take n (take (length ys) cs) ++ c ∷ []
    next_in_front = ap (take n) next_taken ∙ take_all n (take (length ys) cs ++ c ∷ []) short
        ∙ ap (λ l. l ++ c ∷ []) (sym (take_all n (take (length ys) cs) shorter))

    pub none_in_back : drop n (take (length (ys ++ c ∷ [])) cs) ≡ drop n (take (length ys) cs)
    none_in_back = ap (drop n) next_taken ∙ drop_all n (take (length ys) cs ++ c ∷ []) short
        ∙ sym (drop_all n (take (length ys) cs) shorter)

  -- they are: what comes goes after them
  module _ (n : ℕ) (full : n ≤ length ys) where
    long : n ≤ length (take (length ys) cs)
    long = omega (arith, length-take-le (length ys) cs (omega (arith, turn.0)), full)

    pub none_in_front : take n (take (length (ys ++ c ∷ [])) cs) ≡ take n (take (length ys) cs)
    none_in_front = ap (take n) next_taken ∙ take-append-le n (take (length ys) cs) (c ∷ []) long

    pub next_in_back : drop n (take (length (ys ++ c ∷ [])) cs) ≡ drop n (take (length ys) cs) ++ c ∷ []
    next_in_back = ap (drop n) next_taken ∙ drop-append-le n (take (length ys) cs) (c ∷ []) long

pub all_taken : (cs ys : List ℕ) → length ys ≡ length cs → take (length ys) cs ≡ cs
all_taken cs ys h = take_all (length ys) cs (omega (arith, h))
