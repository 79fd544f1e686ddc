-- What is found at the front of a text is the longest name of a table.
use Rattle.std.proofs.Common.{◌≡◌, ◌+◌, [], ◌∷◌, ◌++◌, ◌∙◌, IsTrue, List, MatchOption, None, Option, Some, ap}
use Rattle.std.proofs.Common.{append-nil, append_assoc, arith, is_some, length, option_map, refl, subst, sym, ℕ}
use Rattle.std.specs.Option.{option_or}
use Rattle.std.specs.FinMap as finite
use Rattle.lex_base.specs.References.{References}
use Rattle.lex_base.specs.Lookup.{BeginsWithNoName, IsLongestName}
use Rattle.token_grammar.specs.References.{Found, named, named_from}
use Rattle.token_grammar.proofs.NameLemmas.{named_as, NoneLonger}

-- no name begins with the front and goes on in the text
abbrev NoneNamed : References → List ℕ → List ℕ → Type 0
NoneNamed table front cs = (k more : List ℕ) → cs ≡ k ++ more → finite.get table (front ++ k) ≡ None

-- what is found begins with the front and k, and no longer name goes on in the text
record IsLongestFrom (table : References) (front cs : List ℕ) (f : Found) : Type 0 where
  k : List ℕ
  whole : cs ≡ k ++ f.rest
  is_name : finite.get table (front ++ k) ≡ Some f.characters
  longest : NoneLonger table front cs (length k)

abbrev Answers : References → List ℕ → List ℕ → Option Found → Type 0
Answers table front cs r = MatchOption r (NoneNamed table front cs) (IsLongestFrom table front cs)

-- a front of a text that goes on with c
record GoesOn (front : List ℕ) (c d : ℕ) (cs j more : List ℕ) : Type 0 where
  name : front ++ d ∷ j ≡ (front ++ c ∷ []) ++ j
  rest : cs ≡ j ++ more

goes_on : (front : List ℕ) (c d : ℕ) (cs j more : List ℕ) → c ∷ cs ≡ d ∷ (j ++ more) → GoesOn front c d cs j more
goes_on front c d cs j more e =
    let same : c ≡ d = cc in
    let tails : cs ≡ j ++ more = cc in
    record { name = ap (λ x. front ++ x ∷ j) (sym same) ∙ sym (append_assoc front (c ∷ []) j); rest = tails }

not_there : {A : Type 0} (o : Option A) → o ≡ None → IsTrue (is_some o) → ⊥
not_there None e s = cc
not_there (Some a) e s = cc

module _ (table : References) (front : List ℕ) where
  -- the front itself is a name, or not
  here : (v : Option (List ℕ)) → finite.get table front ≡ v → finite.get table (front ++ []) ≡ v
  here v e = subst (λ l. finite.get table l ≡ v) (sym (append-nil front)) e

  at_end : (o : Option (List ℕ)) → finite.get table front ≡ o →
      Answers table front [] (option_map (named_as front []) o)
  at_end None e = none_at_end where
    none_at_end : NoneNamed table front []
    none_at_end [] more is = here None e
    none_at_end (d ∷ k) more is = cc
  at_end (Some value) e = record { k = []; whole = refl; is_name = here (Some value) e; longest = short } where
    short : NoneLonger table front [] 0
    short [] more is there = omega arith
    short (d ∷ k) more is there = cc

  module _ (c : ℕ) (cs : List ℕ) where
    none_more : finite.get table front ≡ None → NoneNamed table (front ++ c ∷ []) cs → NoneNamed table front (c ∷ cs)
    none_more e h [] more is = here None e
    none_more e h
        (d ∷ k) more is = let on = goes_on front c d cs k more is in ap (finite.get table) on.name ∙ h k more on.rest

    none_longer : NoneNamed table (front ++ c ∷ []) cs → NoneLonger table front (c ∷ cs) 0
    none_longer h [] more is there = omega arith
    none_longer h (d ∷ k) more is there =
        let on = goes_on front c d cs k more is in absurd
        (not_there (finite.get table (front ++ d ∷ k)) (ap (finite.get table) on.name ∙ h k more on.rest) there)

    longer_on : (n : ℕ) → NoneLonger table (front ++ c ∷ []) cs n → NoneLonger table front (c ∷ cs) (n + 1)
    longer_on n h [] more is there = omega arith
    longer_on n h (d ∷ k) more is there =
        let on = goes_on front c d cs k more is in
        omega (arith, h k more on.rest (subst (λ l. IsTrue (finite.contains_key table l)) on.name there))

    one_more : (r : Option Found) (o : Option (List ℕ)) → finite.get table front ≡ o →
        Answers table (front ++ c ∷ []) cs r →
        Answers table front (c ∷ cs) (option_or r (option_map (named_as front (c ∷ cs)) o))
    one_more None None e h = none_more e h
    one_more None (Some value) e h =
        record { k = []; whole = refl; is_name = here (Some value) e; longest = none_longer h }
    one_more (Some f) o e h = record {
      k = c ∷ h.k;
      whole = ap (λ l. c ∷ l) h.whole;
      is_name = subst (λ l. finite.get table l ≡ Some f.characters) (append_assoc front (c ∷ []) h.k) h.is_name;
      longest = λ k more is there. omega (arith, longer_on (length h.k) h.longest k more is there);
    }

answers : (table : References) (front cs : List ℕ) → Answers table front cs (named_from table front cs)
answers table front [] = at_end table front (finite.get table front) refl
answers table front (c ∷ cs) =
    one_more table front c cs (named_from table (front ++ c ∷ []) cs) (finite.get table front) refl
    (answers table (front ++ c ∷ []) cs)

-- what is said of the name that is found
abbrev pub Named : References → List ℕ → Option Found → Type 0
Named table cs r =
    MatchOption r (BeginsWithNoName table cs) (λ f. (name : List ℕ) × IsLongestName table cs name f.characters
    × (cs ≡ name ++ f.rest))

emitted : (table : References) (cs : List ℕ) (r : Option Found) → Answers table [] cs r → Named table cs r
emitted table cs None h = λ k more is. h k more is
emitted table cs (Some f) h = (
  h.k,
  record {
    rest = f.rest;
    begins = h.whole;
    named = h.is_name;
    longest = λ k more is there. h.longest k more is there;
  },
  h.whole,
)

pub named_longest : (table : References) (cs : List ℕ) → Named table cs (named table cs)
named_longest table cs = emitted table cs (named table cs) (answers table [] cs)
