-- Slices of a text to which more is added after, where something of it was left.
use Rattle.std.proofs.Common.{◌≡◌, ◌≢◌, if◌then◌else◌, [], ◌∷◌, ◌++◌, Bool, List, None, Option, Some, ap, false}
use Rattle.std.proofs.Common.{option_map, refl, true, ℕ}
use Rattle.token_grammar.specs.Slices.{Cut, after, begins, cut, cut_here, front_while, longer, rest_while}

-- ---- the longest front of a class

front_grows : (b : Bool) (c : ℕ) (front grown rest whole : List ℕ) → (rest ≢ [] → grown ≡ front) → (if b then rest
    else whole) ≢ [] → (if b then c ∷ grown else []) ≡ (if b then c ∷ front else [])
front_grows true c front grown rest whole same left = ap (λ l. c ∷ l) (same left)
front_grows false c front grown rest whole same left = refl

pub front-same : (p : ℕ → Bool) (cs more : List ℕ) → rest_while p cs ≢ [] → front_while p (cs ++ more)
    ≡ front_while p cs
front-same p [] more left = absurd (left refl)
front-same p (c ∷ cs) more left =
    front_grows (p c) c (front_while p cs) (front_while p (cs ++ more)) (rest_while p cs) (c ∷ cs)
    (front-same p cs more) left

rest_grows : (b : Bool) (c : ℕ) (cs rest grown more : List ℕ) → (rest ≢ [] → grown ≡ rest ++ more) → (if b then rest
    else c ∷ cs) ≢ [] → (if b then grown else c ∷ (cs ++ more)) ≡ (if b then rest else c ∷ cs) ++ more
rest_grows true c cs rest grown more same left = same left
rest_grows false c cs rest grown more same left = refl

pub rest-grows : (p : ℕ → Bool) (cs more : List ℕ) → rest_while p cs ≢ [] → rest_while p (cs ++ more)
    ≡ rest_while p cs ++ more
rest-grows p [] more left = absurd (left refl)
rest-grows p (c ∷ cs) more left =
    rest_grows (p c) c cs (rest_while p cs) (rest_while p (cs ++ more)) more (rest-grows p cs more) left

-- what a larger class leaves is left by a smaller one
rest_within : (b d : Bool) (c : ℕ) (cs small large : List ℕ) → (b ≡ true → d ≡ true) → (large ≢ [] → small ≢ []) →
    (if d then large else c ∷ cs) ≢ [] → (if b then small else c ∷ cs) ≢ []
rest_within true true c cs small large within smaller left = smaller left
rest_within true false c cs small large within smaller left = absurd cc (within refl)
rest_within false d c cs small large within smaller left = λ e. absurd cc

pub rest-within : (p q : ℕ → Bool) (cs : List ℕ) → ((c : ℕ) → p c ≡ true → q c ≡ true) → rest_while q cs ≢ [] →
    rest_while p cs ≢ []
rest-within p q [] within left = left
rest-within p q (c ∷ cs) within left =
    rest_within (p c) (q c) c cs (rest_while p cs) (rest_while q cs) (within c) (rest-within p q cs within) left

-- ---- cuts before a character

abbrev pub cut_and : List ℕ → Cut → Cut
cut_and more cut = record cut { rest = cut.rest ++ more }

-- a cut is there in the longer text too
abbrev pub Grows : List ℕ → Option Cut → Option Cut → Type 0
Grows more None later = Unit
Grows more (Some cut) later = later ≡ Some (cut_and more cut)

later_grows : (c : ℕ) (more : List ℕ) (o later : Option Cut) → Grows more o later →
    Grows more (option_map (longer c) o) (option_map (longer c) later)
later_grows c more None later h = tt
later_grows c more (Some cut) later h = ap (option_map (longer c)) h

here_grows : (b : Bool) (c : ℕ) (cs more : List ℕ) (o later : Option Cut) → Grows more o later →
    Grows more (cut_here c (if b then Some cs else None) o) (cut_here c (if b then Some (cs ++ more) else None) later)
here_grows true c cs more o later h = refl
here_grows false c cs more o later h = later_grows c more o later h

pub cut-grows : (q : ℕ) (cs more : List ℕ) → Grows more (cut (after (q ∷ [])) cs) (cut (after (q ∷ [])) (cs ++ more))
cut-grows q [] more = tt
cut-grows q (c ∷ cs) more =
    here_grows (begins (q ∷ []) (c ∷ cs)) c cs more (cut (after (q ∷ [])) cs) (cut (after (q ∷ [])) (cs ++ more))
    (cut-grows q cs more)
