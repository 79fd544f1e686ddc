-- A queue of characters as one text, with a count of what was taken from it.
use Rattle.std.specs.Prelude.{◌≡◌, ◌+◌, ◌^◌, ◌-◌, ◌==◌, [], ◌∷◌, ◌++◌, Bool, List, None, Option, Some, false, length}
use Rattle.std.specs.Prelude.{min, not, refl, true, ℕ}
use Rattle.std.specs.List.{list_any, list_all}
use Rattle.std.specs.Coded.{Coded, code_by, coded×, coded_ℕ, coded_list}

-- the characters that are left, and how many were taken, counted up to 2 ^ 64 - 1
pub record Queue : Type 0 where
  pub text : List ℕ
  pub taken : ℕ

-- a queue is stored as the pair of its fields
abbrev pub queue_code : Coded Queue
queue_code =
    code_by (List ℕ × ℕ) (coded× (coded_list coded_ℕ) coded_ℕ) (λ q. (q.text, q.taken))
    (λ p. record { text = p.0; taken = p.1 }) (λ _. refl)

-- a count and one for each of some characters
abbrev pub counted : ℕ → List ℕ → ℕ
counted taken cs = min (taken + length cs) (2 ^ 64 - 1)

-- the characters were taken from the front, and counted
pub record Takes (old : Queue) (cs : List ℕ) (new : Queue) : Type 0 where
  pub text : old.text ≡ cs ++ new.text
  pub taken : new.taken ≡ counted old.taken cs

-- the character is one of the set
abbrev pub is_in : List ℕ → ℕ → Bool
is_in set c = list_any (λ d. c == d) set

-- none of the characters is in the set
abbrev pub is_free_of : List ℕ → List ℕ → Bool
is_free_of set cs = list_all (λ c. not (is_in set c)) cs

-- Two texts of one length, character by character alike, where `alike a b r` says what a comparison may answer.
abbrev pub IsAlike : (ℕ → ℕ → Bool → Type 0) → List ℕ → List ℕ → Type 0
IsAlike alike [] [] = Unit {0}
IsAlike alike [] (p ∷ ps) = ⊥
IsAlike alike (c ∷ cs) [] = ⊥
IsAlike alike (c ∷ cs) (p ∷ ps) = alike c p true × IsAlike alike cs ps

-- the text began with the pattern, which was taken
pub record Eaten (alike : ℕ → ℕ → Bool → Type 0) (old : Queue) (pattern : List ℕ) (new : Queue) : Type 0 where
  pub front : List ℕ
  pub takes : Takes old front new
  pub same : IsAlike alike front pattern

-- the text ends inside a match: more of the pattern is to come
pub record EndsInside (alike : ℕ → ℕ → Bool → Type 0) (text pattern : List ℕ) : Type 0 where
  pub begun : List ℕ
  pub next : ℕ
  pub more : List ℕ
  pub pattern_is : pattern ≡ begun ++ next ∷ more
  pub same : IsAlike alike text begun

-- the text and the pattern differ at a character, after fronts that are alike
pub record Differs (alike : ℕ → ℕ → Bool → Type 0) (text pattern : List ℕ) : Type 0 where
  pub front : List ℕ
  pub begun : List ℕ
  pub found : ℕ
  pub wanted : ℕ
  pub after : List ℕ
  pub more : List ℕ
  pub text_is : text ≡ front ++ found ∷ after
  pub pattern_is : pattern ≡ begun ++ wanted ∷ more
  pub same : IsAlike alike front begun
  pub differs : alike found wanted false

-- What `eat` answers: none exactly where the text ends inside a match, and then nothing is taken; true and the match is
-- taken; or false, and nothing is.
abbrev pub Eats : (ℕ → ℕ → Bool → Type 0) → Queue → List ℕ → Option Bool → Queue → Type 0
Eats alike old pattern None new = EndsInside alike old.text pattern × (new ≡ old)
Eats alike old pattern (Some true) new = Eaten alike old pattern new
Eats alike old pattern (Some false) new = Differs alike old.text pattern × (new ≡ old)
