-- The order of texts by their bytes is that by their code points.
use Rattle.std.proofs.Common.{◌≡◌, ◌+◌, ◌<◌, ◌≤◌, ◌/◌, ◌%◌, ◌⊎◌, [], ◌∷◌, ◌++◌, ◌∙◌, List, ap, arith, inl, inr, refl}
use Rattle.std.proofs.Common.{sym, ℕ}
use Rattle.std.proofs.lemmas.Bool.{cases_lt}
use Rattle.std.proofs.lemmas.Bool.Decides.{nat_tests, same_from_decides, Decides-like}
use Rattle.std.proofs.lemmas.Slice.Eq.{bytes_eq-Decides}
use Rattle.std.proofs.lemmas.Str.{encodes-chars}
use Rattle.std.specs.Str.{IsUtf8, chars, bytes_eq}
use Rattle.std.specs.Ordering.{nat_cmp, ordering_then, ordering_reverse}
use Rattle.std.specs.declared.cmp.Ordering.{Ordering}
use Rattle.std.specs.declared.cmp.Ordering.TheVariants.{Less, Equal, Greater}
use Rattle.std.specs.Cmp.Lexicographic.{slice_cmp, nat_list_cmp_total}
use lib.Utf8.{encode, encodes, next}

abbrev by_bytes : List ℕ → List ℕ → Ordering
by_bytes xs ys = slice_cmp nat_cmp xs ys

nat_less : (x y : ℕ) → x < y → nat_cmp x y ≡ Less
nat_less x y h = grind (arith, nat_tests)

nat_same : (x : ℕ) → nat_cmp x x ≡ Equal
nat_same x = grind (arith, nat_tests)

first_less : (x y : ℕ) (xs ys : List ℕ) → x < y → by_bytes (x ∷ xs) (y ∷ ys) ≡ Less
first_less x y xs ys h = ap (λ r. ordering_then r (by_bytes xs ys)) (nat_less x y h)

first_same : (x y : ℕ) (xs ys : List ℕ) → x ≡ y → by_bytes (x ∷ xs) (y ∷ ys) ≡ by_bytes xs ys
first_same x y xs ys e =
    ap (λ z. ordering_then (nat_cmp x z) (by_bytes xs ys)) (sym e) ∙ ap (λ r. ordering_then r (by_bytes xs ys))
    (nat_same x)

-- the first numbers decide, or are the same and the rest does
step : (x y : ℕ) (xs ys : List ℕ) → (x < y) ⊎ ((x ≡ y) × (by_bytes xs ys ≡ Less)) → by_bytes (x ∷ xs) (y ∷ ys) ≡ Less
step x y xs ys (inl h) = first_less x y xs ys h
step x y xs ys (inr p) = first_same x y xs ys p.0 ∙ p.1

-- the last byte, the last two, three and four
one_less : (c d : ℕ) (xs ys : List ℕ) → c % 64 < d % 64 → by_bytes (next c ∷ xs) (next d ∷ ys) ≡ Less
one_less c d xs ys h = let l : next c < next d = omega arith in first_less (next c) (next d) xs ys l

next_same : (c d : ℕ) → c ≡ d → next c ≡ next d
next_same c d e = ap next e

two_parts : (c d : ℕ) → c < d → (c / 64 < d / 64) ⊎ ((c / 64 ≡ d / 64) × (c % 64 < d % 64))
two_parts c d h = elim (cases_lt (c / 64) (d / 64)) [ inl l ↦ inl l | inr l ↦ inr (omega arith, omega arith) ]

two_less : (c d : ℕ) (xs ys : List ℕ) → c < d → (x y : ℕ) → (c / 64 < d / 64 → x < y) → (c / 64 ≡ d / 64 → x ≡ y) →
    by_bytes (x ∷ next c ∷ xs) (y ∷ next d ∷ ys) ≡ Less
two_less c d xs ys lt x y less same = elim (two_parts c d lt) [
  | inl h ↦ step x y (next c ∷ xs) (next d ∷ ys) (inl (less h))
  | inr h ↦ step x y (next c ∷ xs) (next d ∷ ys) (inr (same h.0, one_less c d xs ys h.1))
]

quarter : (c : ℕ) → c / 64 / 64 ≡ c / 4096
quarter c = omega arith

eighth : (c : ℕ) → c / 4096 / 64 ≡ c / 262144
eighth c = omega arith

three_less : (c d : ℕ) (xs ys : List ℕ) → c < d → (x y : ℕ) → (c / 4096 < d / 4096 → x < y) →
    (c / 4096 ≡ d / 4096 → x ≡ y) → by_bytes (x ∷ next (c / 64) ∷ next c ∷ xs) (y ∷ next (d / 64) ∷ next d ∷ ys) ≡ Less
three_less c d xs ys lt x y less same =
    let p = quarter c in
    let q = quarter d in
    elim (two_parts c d lt) [
      | inl h ↦ two_less (c / 64) (d / 64) (next c ∷ xs) (next d ∷ ys) h x y (λ l. less (omega arith))
          (λ e. same (omega arith))
      | inr h ↦ step x y (next (c / 64) ∷ next c ∷ xs) (next (d / 64) ∷ next d ∷ ys) (inr (
        same (omega arith),
        step (next (c / 64)) (next (d / 64)) (next c ∷ xs) (next d ∷ ys)
            (inr (next_same _ _ h.0, one_less c d xs ys h.1)),
      ))
    ]

four_less : (c d : ℕ) (xs ys : List ℕ) → c < d → (x y : ℕ) → (c / 262144 < d / 262144 → x < y) →
    (c / 262144 ≡ d / 262144 → x ≡ y) →
    by_bytes (x ∷ next (c / 4096) ∷ next (c / 64) ∷ next c ∷ xs) (y ∷ next (d / 4096) ∷ next (d / 64) ∷ next d ∷ ys)
    ≡ Less
four_less c d xs ys lt x y less same =
    let p = quarter c in
    let q = quarter d in
    let r = eighth c in
    let s = eighth d in
    elim (cases_lt (c / 4096) (d / 4096)) [
      | inl h ↦ two_less (c / 4096) (d / 4096) (next (c / 64) ∷ next c ∷ xs) (next (d / 64) ∷ next d ∷ ys) h x y
          (λ l. less (omega arith)) (λ e. same (omega arith))
      | inr h ↦ let e : c / 4096 ≡ d / 4096 = omega arith in
          step x y (next (c / 4096) ∷ next (c / 64) ∷ next c ∷ xs) (next (d / 4096) ∷ next (d / 64) ∷ next d ∷ ys)
          (inr (
            same (omega arith),
            three_less c d xs ys lt (next (c / 4096)) (next (d / 4096)) (λ l. absurd (omega arith))
                (λ f. next_same _ _ e),
          ))
    ]

-- the four forms of a character
encode_1 : (c : ℕ) → c < 128 → encode c ≡ c ∷ []
unfolding encode
encode_1 c h = grind (arith, nat_tests)

encode_2 : (c : ℕ) → 128 ≤ c → c < 2048 → encode c ≡ (192 + c / 64) ∷ next c ∷ []
unfolding encode
encode_2 c g h = grind (arith, nat_tests)

encode_3 : (c : ℕ) → 2048 ≤ c → c < 65536 → encode c ≡ (224 + c / 4096) ∷ next (c / 64) ∷ next c ∷ []
unfolding encode
encode_3 c g h = grind (arith, nat_tests)

encode_4 : (c : ℕ) → 65536 ≤ c → encode c ≡ (240 + c / 262144) ∷ next (c / 4096) ∷ next (c / 64) ∷ next c ∷ []
unfolding encode
encode_4 c g = grind (arith, nat_tests)

pub encode_less : (c d : ℕ) (xs ys : List ℕ) → c < d → by_bytes (encode c ++ xs) (encode d ++ ys) ≡ Less
encode_less c d xs ys lt = elim (cases_lt c 128) [
  | inl c1 ↦ rw (encode_1 c c1) (elim (cases_lt d 128) [
    | inl d1 ↦ rw (encode_1 d d1) (first_less c d xs ys lt)
    | inr d2 ↦ elim (cases_lt d 2048) [
      | inl e2 ↦ rw (encode_2 d d2 e2) (first_less c (192 + d / 64) xs (next d ∷ ys) (omega arith))
      | inr d3 ↦ elim (cases_lt d 65536) [
        | inl e3 ↦ rw (encode_3 d d3 e3) (first_less c (224 + d / 4096) xs (next (d / 64) ∷ next d ∷ ys) (omega arith))
        | inr d4 ↦
            rw (encode_4 d d4) (first_less c (240 + d / 262144) xs (next (d / 4096) ∷ next (d / 64) ∷ next d ∷ ys)
            (omega arith))
      ]
    ]
  ])
  | inr c2 ↦ elim (cases_lt c 2048) [
    | inl f2 ↦ rw (encode_2 c c2 f2) (elim (cases_lt d 2048) [
      | inl e2 ↦
          rw (encode_2 d (omega arith) e2) (two_less c d xs ys lt (192 + c / 64) (192 + d / 64) (λ l. omega arith)
          (λ e. ap (λ n. 192 + n) e))
      | inr d3 ↦ elim (cases_lt d 65536) [
        | inl e3 ↦
            rw (encode_3 d d3 e3) (first_less (192 + c / 64) (224 + d / 4096) (next c ∷ xs)
            (next (d / 64) ∷ next d ∷ ys) (omega arith))
        | inr d4 ↦
            rw (encode_4 d d4) (first_less (192 + c / 64) (240 + d / 262144) (next c ∷ xs)
            (next (d / 4096) ∷ next (d / 64) ∷ next d ∷ ys) (omega arith))
      ]
    ])
    | inr c3 ↦ elim (cases_lt c 65536) [
      | inl f3 ↦ rw (encode_3 c c3 f3) (elim (cases_lt d 65536) [
        | inl e3 ↦ rw (encode_3 d (omega arith) e3)
            (three_less c d xs ys lt (224 + c / 4096) (224 + d / 4096) (λ l. omega arith) (λ e. ap (λ n. 224 + n) e))
        | inr d4 ↦
            rw (encode_4 d d4) (first_less (224 + c / 4096) (240 + d / 262144) (next (c / 64) ∷ next c ∷ xs)
            (next (d / 4096) ∷ next (d / 64) ∷ next d ∷ ys) (omega arith))
      ])
      | inr c4 ↦ rw (encode_4 c c4, encode_4 d (omega arith))
          (four_less c d xs ys lt (240 + c / 262144) (240 + d / 262144) (λ l. omega arith) (λ e. ap (λ n. 240 + n) e))
    ]
  ]
]

encode_before : (d : ℕ) (ys : List ℕ) → by_bytes [] (encode d ++ ys) ≡ Less
encode_before d ys = elim (cases_lt d 128) [
  | inl d1 ↦ rw (encode_1 d d1)
  | inr d2 ↦ elim (cases_lt d 2048) [
    | inl e2 ↦ rw (encode_2 d d2 e2)
    | inr d3 ↦ elim (cases_lt d 65536) [
      | inl e3 ↦ rw (encode_3 d d3 e3)
      | inr d4 ↦ rw (encode_4 d d4)
    ]
  ]
]

turned : (xs ys : List ℕ) → by_bytes xs ys ≡ Less → by_bytes ys xs ≡ Greater
turned xs ys e = nat_list_cmp_total.antisymm ys xs ∙ ap ordering_reverse e

same_front : (front xs ys : List ℕ) → by_bytes (front ++ xs) (front ++ ys) ≡ by_bytes xs ys
same_front [] xs ys = refl
same_front (x ∷ front) xs ys = first_same x x (front ++ xs) (front ++ ys) refl ∙ same_front front xs ys

encodes_order : (cs ds : List ℕ) → by_bytes (encodes cs) (encodes ds) ≡ by_bytes cs ds
encodes_order [] [] = refl
encodes_order [] (d ∷ ds) = encode_before d (encodes ds)
encodes_order (c ∷ cs) [] = turned [] (encode c ++ encodes cs) (encode_before c (encodes cs))
encodes_order (c ∷ cs) (d ∷ ds) = elim (cases_lt c d) [
  | inl lt ↦ encode_less c d (encodes cs) (encodes ds) lt ∙ sym (first_less c d cs ds lt)
  | inr le ↦ elim (cases_lt d c) [
    | inl gt ↦ turned (encode d ++ encodes ds) (encode c ++ encodes cs) (encode_less d c (encodes ds) (encodes cs) gt) ∙
        sym (turned (d ∷ ds) (c ∷ cs) (first_less d c ds cs gt))
    | inr ge ↦ let e : c ≡ d = omega arith in
        ap (λ x. by_bytes (encode c ++ encodes cs) (encode x ++ encodes ds)) (sym e)
        ∙ (same_front (encode c) (encodes cs) (encodes ds) ∙ (encodes_order cs ds ∙ sym (first_same c d cs ds e)))
  ]
]

pub order_of_bytes : (xs ys : List ℕ) → IsUtf8 xs → IsUtf8 ys → slice_cmp nat_cmp xs ys
    ≡ slice_cmp nat_cmp (chars xs) (chars ys)
order_of_bytes xs ys u v =
    ap (λ zs. by_bytes zs ys) (sym (encodes-chars xs u))
    ∙ (ap (λ zs. by_bytes (encodes (chars xs)) zs) (sym (encodes-chars ys v)) ∙ encodes_order (chars xs) (chars ys))

-- texts are equal by their bytes where they are by their code points
pub same_by_bytes : (xs ys : List ℕ) → IsUtf8 xs → IsUtf8 ys → bytes_eq xs ys ≡ bytes_eq (chars xs) (chars ys)
same_by_bytes xs ys u v = same_from_decides (bytes_eq xs ys) (bytes_eq (chars xs) (chars ys)) (bytes_eq-Decides xs ys)
    (Decides-like (bytes_eq (chars xs) (chars ys)) (λ e. sym (encodes-chars xs u) ∙ (ap encodes e ∙ encodes-chars ys v))
    (λ e. ap chars e) (bytes_eq-Decides (chars xs) (chars ys)))
