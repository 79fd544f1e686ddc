-- A run in front of a text, and what is after it.
use Rattle.std.proofs.Common.{◌≡◌, ◌<◌, ◌≤◌, if◌then◌else◌, [], ◌∷◌, ◌++◌, ◌∙◌, ◌&&◌, Bool, List, ap, arith, false, inl}
use Rattle.std.proofs.Common.{inr, length, not, refl, subst, suc, sym, true, ℕ}
use Rattle.std.specs.List.{list_all}
use Rattle.tree_forest.specs.Orders.{IsIn}
use Rattle.token_grammar.specs.Slices.{first_passes, front_while, rest_while}
use Rattle.rules_table.specs.Asking.{all_are}
use Rattle.rules_table.specs.Rows.{is_white_space}
use Rattle.rules_table.specs.Settling.{taken_character}
use Rattle.rules_table.specs.State.{State}
use Rattle.rules_steps.specs.Runs.{is_alike}
use Rattle.rules_table_laws.specs.TextRuns.{took}

pub alike_is : (b : Bool) (c : ℕ) → is_alike b c ≡ true → is_white_space c ≡ b
alike_is true c e = e
alike_is false c e = by (is_white_space c) e where
  by : (x : Bool) → not x ≡ true → x ≡ false
  by true e = absurd (cc)
  by false e = refl

in_front : (p : ℕ → Bool) (x : Bool) (c d : ℕ) (cs : List ℕ) → p c ≡ x → IsIn d (if x then c ∷ cs else []) →
    (IsIn d cs → p d ≡ true) → p d ≡ true
in_front p true c d cs is (inl e) more = ap p e ∙ is
in_front p true c d cs is (inr i) more = more i
in_front p false c d cs is i more = absurd i

pub front_passes : (p : ℕ → Bool) (cs : List ℕ) (d : ℕ) → IsIn d (front_while p cs) → p d ≡ true
front_passes p [] d i = absurd i
front_passes p (c ∷ cs) d i = in_front p (p c) c d (front_while p cs) refl i (front_passes p cs d)

whole_by : (x : Bool) (c : ℕ) (cs front rest : List ℕ) → front ++ rest ≡ cs →
    (if x then c ∷ front else []) ++ (if x then rest else c ∷ cs) ≡ c ∷ cs
whole_by true c cs front rest e = ap (λ l. c ∷ l) e
whole_by false c cs front rest e = refl

pub whole : (p : ℕ → Bool) (cs : List ℕ) → front_while p cs ++ rest_while p cs ≡ cs
whole p [] = refl
whole p (c ∷ cs) = whole_by (p c) c cs (front_while p cs) (rest_while p cs) (whole p cs)

no_longer : (x : Bool) (c : ℕ) (cs rest : List ℕ) → length rest ≤ length cs →
    length (if x then rest else c ∷ cs) ≤ suc (length cs)
no_longer true c cs rest le = omega arith
no_longer false c cs rest le = omega arith

rest_fits : (p : ℕ → Bool) (cs : List ℕ) → length (rest_while p cs) ≤ length cs
rest_fits p [] = omega arith
rest_fits p (c ∷ cs) = no_longer (p c) c cs (rest_while p cs) (rest_fits p cs)

pub rest_less : (p : ℕ → Bool) (cs : List ℕ) → first_passes p cs ≡ true → length (rest_while p cs) < length cs
rest_less p [] e = absurd (cc)
rest_less p (c ∷ cs) e =
    let le = rest_fits p cs in
    subst (λ x. length (if x then rest_while p cs else c ∷ cs) < length (c ∷ cs)) (sym e) (omega arith)

pub took_on : (front rest : List ℕ) (s : State) → took (front ++ rest) s ≡ took rest (took front s)
took_on [] rest s = refl
took_on (c ∷ front) rest s = took_on front rest (taken_character s c)

-- the two words for "all"
one_more : (x : Bool) {a b : Bool} → a ≡ b → x && a ≡ (if x then b else false)
one_more true e = e
one_more false e = refl

pub all_alike : (holds : ℕ → Bool) (cs : List ℕ) → list_all holds cs ≡ all_are holds cs
all_alike holds [] = refl
all_alike holds (c ∷ cs) = one_more (holds c) (all_alike holds cs)
