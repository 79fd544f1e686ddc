-- Slices of a text.
use Rattle.std.specs.Prelude.{◌≡◌, ◌<◌, ◌==◌, ◌&&◌, if◌then◌else◌, [], ◌∷◌, ◌++◌, Bool, List, None, Option, Some, drop}
use Rattle.std.specs.Prelude.{false, length, option_map, true, ℕ}
use Rattle.std.specs.Char.{to_ascii_lowercase}

-- the longest front of a text whose characters all pass, and what follows it
abbrev pub front_while : (ℕ → Bool) → List ℕ → List ℕ
front_while p [] = []
front_while p (c ∷ cs) = if p c then c ∷ front_while p cs else []

abbrev pub rest_while : (ℕ → Bool) → List ℕ → List ℕ
rest_while p [] = []
rest_while p (c ∷ cs) = if p c then rest_while p cs else c ∷ cs

-- the text begins with a mark; and with a word, ASCII case aside, which is given in lower case
abbrev pub begins : List ℕ → List ℕ → Bool
begins [] cs = true
begins (m ∷ ms) [] = false
begins (m ∷ ms) (c ∷ cs) = c == m && begins ms cs

abbrev pub begins_word : List ℕ → List ℕ → Bool
begins_word [] cs = true
begins_word (w ∷ ws) [] = false
begins_word (w ∷ ws) (c ∷ cs) = to_ascii_lowercase c == w && begins_word ws cs

-- the first character passes
abbrev pub first_passes : (ℕ → Bool) → List ℕ → Bool
first_passes p [] = false
first_passes p (c ∷ cs) = p c

-- what follows a mark, where a text begins with it
abbrev pub after : List ℕ → List ℕ → Option (List ℕ)
after mark cs = if begins mark cs then Some (drop (length mark) cs) else None

-- what follows a word, where a text begins with it, ASCII case aside
abbrev pub after_word : List ℕ → List ℕ → Option (List ℕ)
after_word word cs = if begins_word word cs then Some (drop (length word) cs) else None

-- a slice of a text, and what follows the mark after it
pub record Cut : Type 0 where
  pub slice : List ℕ
  pub rest : List ℕ

abbrev pub longer : ℕ → Cut → Cut
longer c cut = record cut { slice = c ∷ cut.slice }

-- The shortest slice before a mark, where there is one; `mark` gives what follows a mark that a text begins with.
abbrev pub cut_here : ℕ → Option (List ℕ) → Option Cut → Option Cut
cut_here c (Some rest) later = Some (record { slice = []; rest = rest })
cut_here c None later = option_map (longer c) later

abbrev pub cut : (List ℕ → Option (List ℕ)) → List ℕ → Option Cut
cut mark [] = None
cut mark (c ∷ cs) = cut_here c (mark (c ∷ cs)) (cut mark cs)

-- a cut stands before a mark, and no mark begins earlier
pub record IsShortest (mark : List ℕ → Option (List ℕ)) (cs : List ℕ) (cut : Cut) : Type 0 where
  pub marked : List ℕ
  pub text_is : cs ≡ cut.slice ++ marked
  pub stands : mark marked ≡ Some cut.rest
  pub none_earlier : (front back : List ℕ) → cs ≡ front ++ back → length front < length cut.slice → mark back ≡ None

-- no mark begins anywhere
abbrev pub HasNoMark : (List ℕ → Option (List ℕ)) → List ℕ → Type 0
HasNoMark mark cs = (front : List ℕ) (c : ℕ) (back : List ℕ) → cs ≡ front ++ c ∷ back → mark (c ∷ back) ≡ None

-- where no mark comes, the slice is all of the text
abbrev pub cut_or_all : Option Cut → List ℕ → Cut
cut_or_all None cs = record { slice = cs; rest = [] }
cut_or_all (Some cut) cs = cut
