-- The element that was opened first, and the second: the first two in memory.
use Rattle.std.proofs.Common.{◌≡◌, ◌<◌, ◌≤◌, [], ◌∷◌, ◌++◌, ◌∙◌, Bor, HoldsAt, IfSome, List, MatchOption, None, Option}
use Rattle.std.proofs.Common.{Some, ap, arith, length, map, option_copied, option_map, refl, reverse, slice_get, subst}
use Rattle.std.proofs.Common.{sym, true, ℕ}
use Rattle.std.proofs.lemmas.List.{reverse-append}
use Rattle.tree_forest.specs.Forest.{is_in}
use Rattle.html_tree_state.specs.Building.{stack_of}
use Rattle.tree_model.proofs.OpenLemmas.{is_in_of}
use Rattle.rules_table.specs.Asking.{first_opened, second_opened}

first_last : (ns : List ℕ) (n : ℕ) → first_opened (ns ++ n ∷ []) ≡ Some n
first_last [] n = refl
first_last (m ∷ []) n = refl
first_last (m ∷ k ∷ ns) n = first_last (k ∷ ns) n

second_last : (ns : List ℕ) (m n : ℕ) → second_opened (ns ++ m ∷ n ∷ []) ≡ Some m
second_last [] m n = refl
second_last (k ∷ []) m n = refl
second_last (k ∷ l ∷ []) m n = refl
second_last (k ∷ l ∷ j ∷ ns) m n = second_last (l ∷ j ∷ ns) m n

pub is_first : {H : Type 0} → (number : H → ℕ) (xs : List H) (r : Option H) → r ≡ slice_get xs 0 →
    option_map number r ≡ first_opened (stack_of number xs)
is_first number [] r e = ap (option_map number) e
is_first number (x ∷ xs) r e = ap (option_map number) e
    ∙ sym (ap first_opened (reverse-append (number x ∷ []) (map number xs))
    ∙ first_last (reverse (map number xs)) (number x))

pub is_second : {H : Type 0} → (number : H → ℕ) (xs : List H) (r : Option H) → r ≡ slice_get xs 1 →
    option_map number r ≡ second_opened (stack_of number xs)
is_second number [] r e = ap (option_map number) e
is_second number (x ∷ []) r e = ap (option_map number) e
is_second number (x ∷ y ∷ xs) r e = ap (option_map number) e
    ∙ sym (ap second_opened (reverse-append (number x ∷ number y ∷ []) (map number xs))
    ∙ second_last (reverse (map number xs)) (number y) (number x))

pub first_is_there : {H : Type 0} → (number : H → ℕ) (xs : List H) (r : Option H) → r ≡ slice_get xs 0 →
    IfSome r (λ x. is_in (number x) (stack_of number xs) ≡ true)
first_is_there {H} number [] r e =
    subst (λ (r : Option H). IfSome r (λ x. is_in (number x) [] ≡ true)) (sym e) tt
first_is_there {H} number (x ∷ xs) r e =
    subst (λ (r : Option H). IfSome r (λ y. is_in (number y) (stack_of number (x ∷ xs)) ≡ true)) (sym e)
    (ap (is_in (number x)) (reverse-append (number x ∷ []) (map number xs))
    ∙ is_in_of (number x) (reverse (map number xs)) [])

pub second_is_there : {H : Type 0} → (number : H → ℕ) (xs : List H) (r : Option H) → r ≡ slice_get xs 1 →
    IfSome r (λ x. is_in (number x) (stack_of number xs) ≡ true)
second_is_there {H} number [] r e =
    subst (λ (r : Option H). IfSome r (λ x. is_in (number x) [] ≡ true)) (sym e) tt
second_is_there {H} number (x ∷ []) r e =
    subst (λ (r : Option H). IfSome r (λ y. is_in (number y) (number x ∷ []) ≡ true)) (sym e) tt
second_is_there {H} number (x ∷ y ∷ xs) r e =
    subst (λ (r : Option H). IfSome r (λ z. is_in (number z) (stack_of number (x ∷ y ∷ xs)) ≡ true)) (sym e)
    (ap (is_in (number y)) (reverse-append (number x ∷ number y ∷ []) (map number xs))
    ∙ is_in_of (number y) (reverse (map number xs)) (number x ∷ []))

pub at_one : {H : Type 0} → (xs : List H) (r : Option (Bor H)) →
    MatchOption r (length xs ≤ 1) (λ x. (1 < length xs) × HoldsAt (λ y. x.now ≡ y) xs 1) →
    option_copied r ≡ slice_get xs 1
at_one [] None found = refl
at_one (x ∷ []) None found = refl
at_one (x ∷ y ∷ xs) None found = absurd (omega arith)
at_one [] (Some z) found = absurd (omega arith)
at_one (x ∷ []) (Some z) found = absurd (omega arith)
at_one (x ∷ y ∷ xs) (Some z) found = ap Some (found.1 y)
