-- A table of references that has the names of escapes knows them: in no name of a table a semicolon stands before the
-- end.
use Rattle.std.proofs.Common.{◌≡◌, ◌==◌, ◌&&◌, [], ◌∷◌, ◌++◌, if◌then◌else◌, ◌∙◌, IsTrue, List, None, Option, Some, ap}
use Rattle.std.proofs.Common.{arith, codes, false, length, nat_lt, refl, subst, sym, true, ℕ}
use Rattle.std.proofs.lemmas.Bool.{and_parts}
use Rattle.std.proofs.lemmas.Bool.Decides.{nat_tests}
use Rattle.std.specs.FinMap as finite
use Rattle.std.specs.List.{list_all}
use Rattle.lex_base.specs.References.{References, is_alphanumeric, is_name, is_value, without_semicolon}
use Rattle.document_laws.proofs.BasicTable.{goes_on, goes_on_after}
use Rattle.document_laws.specs.Escaped.{KnowsEscapes}

no_semicolon : (c : ℕ) → is_alphanumeric c ≡ true → (c == 59) ≡ false
no_semicolon c h = grind (arith, nat_tests)

some_longer : (c d : ℕ) (cs : List ℕ) → (length (d ∷ cs) == 0 && c == 59) ≡ false
some_longer c d cs = grind (arith, nat_tests)

ends_there : (cs : List ℕ) → list_all is_alphanumeric (without_semicolon cs) ≡ true → goes_on cs ≡ false
ends_there [] h = refl
ends_there (c ∷ []) h = refl
ends_there (c ∷ d ∷ cs) h =
    let others : List ℕ = without_semicolon (d ∷ cs) in
    let parts = and_parts (is_alphanumeric c) (list_all is_alphanumeric others)
    (subst (λ b. list_all is_alphanumeric (if b then [] else c ∷ others) ≡ true) (some_longer c d cs) h) in
    ap (λ b. if b then true else goes_on (d ∷ cs)) (no_semicolon c parts.0) ∙ ends_there (d ∷ cs) parts.1

module _ (table : References) (names : (name value : List ℕ) → finite.get table name ≡ Some value →
    IsTrue (is_name name) × IsTrue (is_value value)) where
  not_there : (q : List ℕ) → goes_on q ≡ true → (found : Option (List ℕ)) → finite.get table q ≡ found → found ≡ None
  not_there q longer None e = refl
  not_there q longer (Some value) e =
      let word = (names q value e).0 in
      let ends = ends_there q (and_parts (nat_lt 0 (length (without_semicolon q)))
      (list_all is_alphanumeric (without_semicolon q)) word).1 in
      absurd (let wrong : true ≡ false = sym longer ∙ ends in cc)

  pub knows : finite.get table (codes "amp;") ≡ Some (38 ∷ []) → finite.get table (codes "lt;") ≡ Some (60 ∷ []) →
      finite.get table (codes "gt;") ≡ Some (62 ∷ []) → finite.get table (codes "quot;") ≡ Some (34 ∷ []) →
      finite.get table (codes "nbsp;") ≡ Some (160 ∷ []) → KnowsEscapes table
  knows ampersand less greater quote space = record {
    ampersand = ampersand;
    less = less;
    greater = greater;
    quote = quote;
    space = space;
    ends = λ front c more. not_there (front ++ 59 ∷ c ∷ more) (goes_on_after front c more) _ refl;
  }
