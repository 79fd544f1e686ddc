-- An escape emits its text, and holds no markup.
use Rattle.std.proofs.Common.{◌≡◌, ◌==◌, ◌&&◌, [], ◌∷◌, ◌++◌, if◌then◌else◌, ◌∙◌, Bool, List, None, Option, Some, ap}
use Rattle.std.proofs.Common.{arith, codes, drop, false, refl, sym, true, ℕ}
use Rattle.std.proofs.lemmas.Bool.Decides.{nat_tests}
use Rattle.std.proofs.lemmas.Option.{none-some}
use Rattle.tree_forest.specs.Forest.{is_in}
use Rattle.tree_serializer.specs.Escapes.{escaped, escaped_character}

-- the first character of an escaped text, and what follows its escape
abbrev after_ampersand : List ℕ → Option (ℕ × List ℕ)
after_ampersand [] = None
after_ampersand (y ∷ ys) = if y == 97 then Some (38, drop 3 ys)
    else if y == 110 then Some (160, drop 4 ys)
    else if y == 108 then Some (60, drop 2 ys)
    else if y == 103 then Some (62, drop 2 ys)
    else Some (34, drop 4 ys)

abbrev first_escaped : List ℕ → Option (ℕ × List ℕ)
first_escaped [] = None
first_escaped (x ∷ xs) = if x == 38 then after_ampersand xs else Some (x, xs)

is_number : (c n : ℕ) → (c == n) ≡ true → c ≡ n
is_number c n h = grind (arith, nat_tests)

is_quote : (in_value : Bool) (c : ℕ) → (in_value && c == 34) ≡ true → c ≡ 34
is_quote true c h = is_number c 34 h
is_quote false c h = cc

-- an escape by the five tests
abbrev escape_by : (b38 b160 b60 b62 b34 : Bool) → ℕ → List ℕ
escape_by b38 b160 b60 b62 b34 c = if b38 then codes "&amp;"
    else if b160 then codes "&nbsp;"
    else if b60 then codes "&lt;"
    else if b62 then codes "&gt;"
    else if b34 then codes "&quot;"
    else c ∷ []

first_by : (in_value : Bool) (c : ℕ) (rest : List ℕ) (b38 b160 b60 b62 b34 : Bool) → (c == 38) ≡ b38
    → (c == 160) ≡ b160 → (c == 60) ≡ b60 → (c == 62) ≡ b62 → (in_value && c == 34) ≡ b34
    → first_escaped (escape_by b38 b160 b60 b62 b34 c ++ rest) ≡ Some (c, rest)
first_by v c rest true b160 b60 b62 b34 p q r s t = ap (λ d. Some (d, rest)) (sym (is_number c 38 p))
first_by v c rest false true b60 b62 b34 p q r s t = ap (λ d. Some (d, rest)) (sym (is_number c 160 q))
first_by v c rest false false true b62 b34 p q r s t = ap (λ d. Some (d, rest)) (sym (is_number c 60 r))
first_by v c rest false false false true b34 p q r s t = ap (λ d. Some (d, rest)) (sym (is_number c 62 s))
first_by v c rest false false false false true p q r s t = ap (λ d. Some (d, rest)) (sym (is_quote v c t))
first_by v c rest false false false false false p q r s t =
    ap (λ b. if b then after_ampersand rest else Some (c, rest)) p

first_is : (in_value : Bool) (c : ℕ) (rest : List ℕ)
    → first_escaped (escaped_character in_value c ++ rest) ≡ Some (c, rest)
first_is v c rest =
    first_by v c rest (c == 38) (c == 160) (c == 60) (c == 62) (v && c == 34) refl refl refl refl refl

pair_same : {A : Type 0} (a b : A) → Some a ≡ Some b → a ≡ b
pair_same a b h = cc

pub escaped-same : (in_value : Bool) (cs ds : List ℕ) → escaped in_value cs ≡ escaped in_value ds → cs ≡ ds
escaped-same v [] [] h = refl
escaped-same v [] (d ∷ ds) h =
    absurd (none-some (d, escaped v ds) (ap first_escaped h ∙ first_is v d (escaped v ds)))
escaped-same v (c ∷ cs) [] h =
    absurd (none-some (c, escaped v cs) (ap first_escaped (sym h) ∙ first_is v c (escaped v cs)))
escaped-same v (c ∷ cs) (d ∷ ds) h =
    let e = pair_same (c, escaped v cs) (d, escaped v ds)
    (sym (first_is v c (escaped v cs)) ∙ ap first_escaped h ∙ first_is v d (escaped v ds)) in
    ap (λ (x : ℕ). x ∷ cs) (ap (λ (p : ℕ × List ℕ). p.0) e)
    ∙ ap (λ l. d ∷ l) (escaped-same v cs ds (ap (λ (p : ℕ × List ℕ). p.1) e))

-- a number that is in none of two lists is in none after the other
none_first : (b : Bool) (rest : Bool) → (if b then true else rest) ≡ false → (b ≡ false) × (rest ≡ false)
none_first true rest h = cc
none_first false rest h = (refl, h)

none_in : (n : ℕ) (xs ys : List ℕ) → is_in n xs ≡ false → is_in n ys ≡ false → is_in n (xs ++ ys) ≡ false
none_in n [] ys h k = k
none_in n (x ∷ xs) ys h k =
    let e = none_first (n == x) (is_in n xs) h in
    ap (λ b. if b then true else is_in n (xs ++ ys)) e.0 ∙ none_in n xs ys e.1 k

other_way : (c n : ℕ) (b : Bool) → (c == n) ≡ b → (n == c) ≡ b
other_way c n b h = sym (swapped c n) ∙ h where
  swapped : (c n : ℕ) → (c == n) ≡ (n == c)
  swapped c n = grind (arith, nat_tests)

no_less : (c : ℕ) (b38 b160 b60 b62 b34 : Bool) → (c == 60) ≡ b60
    → is_in 60 (escape_by b38 b160 b60 b62 b34 c) ≡ false
no_less c true b160 b60 b62 b34 r = refl
no_less c false true b60 b62 b34 r = refl
no_less c false false true b62 b34 r = refl
no_less c false false false true b34 r = refl
no_less c false false false false true r = refl
no_less c false false false false false r = ap (λ b. if b then true else false) (other_way c 60 false r)

no_greater : (c : ℕ) (b38 b160 b60 b62 b34 : Bool) → (c == 62) ≡ b62
    → is_in 62 (escape_by b38 b160 b60 b62 b34 c) ≡ false
no_greater c true b160 b60 b62 b34 r = refl
no_greater c false true b60 b62 b34 r = refl
no_greater c false false true b62 b34 r = refl
no_greater c false false false true b34 r = refl
no_greater c false false false false true r = refl
no_greater c false false false false false r = ap (λ b. if b then true else false) (other_way c 62 false r)

no_quote : (c : ℕ) (b38 b160 b60 b62 b34 : Bool) → (c == 34) ≡ b34
    → is_in 34 (escape_by b38 b160 b60 b62 b34 c) ≡ false
no_quote c true b160 b60 b62 b34 r = refl
no_quote c false true b60 b62 b34 r = refl
no_quote c false false true b62 b34 r = refl
no_quote c false false false true b34 r = refl
no_quote c false false false false true r = refl
no_quote c false false false false false r = ap (λ b. if b then true else false) (other_way c 34 false r)

pub escaped-no_less : (in_value : Bool) (cs : List ℕ) → is_in 60 (escaped in_value cs) ≡ false
escaped-no_less v [] = refl
escaped-no_less v (c ∷ cs) =
    none_in 60 (escaped_character v c) (escaped v cs)
    (no_less c (c == 38) (c == 160) (c == 60) (c == 62) (v && c == 34) refl) (escaped-no_less v cs)

pub escaped-no_greater : (in_value : Bool) (cs : List ℕ) → is_in 62 (escaped in_value cs) ≡ false
escaped-no_greater v [] = refl
escaped-no_greater v (c ∷ cs) =
    none_in 62 (escaped_character v c) (escaped v cs)
    (no_greater c (c == 38) (c == 160) (c == 60) (c == 62) (v && c == 34) refl) (escaped-no_greater v cs)

pub escaped-no_quote : (cs : List ℕ) → is_in 34 (escaped true cs) ≡ false
escaped-no_quote [] = refl
escaped-no_quote (c ∷ cs) =
    none_in 34 (escaped_character true c) (escaped true cs)
    (no_quote c (c == 38) (c == 160) (c == 60) (c == 62) (c == 34) refl) (escaped-no_quote cs)
