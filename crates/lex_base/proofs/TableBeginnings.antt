-- What the place of a text among the stored references says of the names that begin with it.
use Rattle.std.proofs.Common.{◌≡◌, ◌≢◌, ◌⊎◌, ◌↔◌, ◌<◌, ◌≤◌, ◌++◌, ◌∙◌, Bool, Err, IsTrue, IsUtf8, List, MatchBool, None}
use Rattle.std.proofs.Common.{Ok, Result, ap, arith, chars, drop, encode_utf8_all, false, get_or, inl, inr, is_some}
use Rattle.std.proofs.Common.{length, refl, string_bytes, subst, sym, true, ℕ}
use Rattle.std.proofs.lemmas.Str.{IsUtf8-string_bytes, chars-append, encodes-chars, encodes-append}
use Rattle.std.specs.Str.Pattern.{HasPrefixMatch, FindsTextPrefix}
use Rattle.std.specs.Ordering.{nat_cmp}
use Rattle.std.specs.Cmp.{tied_itself}
use Rattle.std.specs.Cmp.Lexicographic.{slice_cmp, nat_list_cmp_total}
use Rattle.std.specs.FinMap as finite
use Rattle.lex_base.specs.declared.table.Reference as stored
use Rattle.lex_base.specs.References.{References}
use Rattle.lex_base.specs.Lookup.{HasNameBeginning}
use Rattle.lex_base.specs.Table.{reference_of, references_of, table_of, AreInOrder}
use Rattle.lex_base.proofs.SortedEntries.{find_at, placed, place_in, get_sorted}
use Rattle.lex_base.proofs.TableSearch.{Searched}
use Rattle.lex_base.proofs.TextOrder.{place_begins}

-- what `starts_with` says of the characters
pub begins_with : (text name : List ℕ) (b : Bool) → IsUtf8 text → IsUtf8 name →
    MatchBool b (HasPrefixMatch (FindsTextPrefix text) name) (FindsTextPrefix text name None)
    → MatchBool b ((rest : List ℕ) × (chars name ≡ chars text ++ rest)) ((rest : List ℕ) →
    chars name ≢ chars text ++ rest)
begins_with text name true t u h = (chars (drop h.0 name), ap chars h.1.1 ∙ chars-append text (drop h.0 name) t)
begins_with text name false t u h = λ rest e.
    h (encode_utf8_all rest) (sym (encodes-chars name u) ∙ ap encode_utf8_all e ∙ encodes-append (chars text) rest ∙
    ap (λ l. l ++ encode_utf8_all rest) (encodes-chars text t))

-- the place is the one that the search answered
pub at_place : (r : Result ℕ ℕ) (at i : ℕ) → at ≡ i → (r ≡ Ok i) ⊎ (r ≡ Err i) →
    at ≡ place_in nat_list_cmp_total reference_of r
at_place r at i e (inl is) = e ∙ ap (place_in nat_list_cmp_total reference_of) (sym is)
at_place r at i e (inr is) = e ∙ ap (place_in nat_list_cmp_total reference_of) (sym is)

module _ (l items : List stored.Reference) (table : References) (q : List ℕ) (same : l ≡ items) (is : table_of items
    ≡ table) (order : AreInOrder items) where
  pub got : (k : List ℕ) → finite.get table k ≡ finite.find (slice_cmp nat_cmp) k (references_of items)
  got k = ap (λ t. finite.get t k) (sym is) ∙ get_sorted nat_list_cmp_total (references_of items) k order

  -- each stored name is a name of the table
  pub is_name_of : (i : ℕ) (d : stored.Reference) → i < length l →
      IsTrue (finite.contains_key table (chars (string_bytes (get_or l i d).name)))
  is_name_of i d lt =
      let name = chars (string_bytes (get_or items i d).name) in
      let lt' = subst (λ x. i < length x) same lt in
      let there =
      got name ∙ find_at nat_list_cmp_total reference_of items name i d order lt'
      (tied_itself nat_list_cmp_total name) in
      subst (λ x. IsTrue (finite.contains_key table (chars (string_bytes (get_or x i d).name)))) (sym same)
      (ap is_some there)

  pub beginning_at : (r : Result ℕ ℕ) (i : ℕ) → i ≡ place_in nat_list_cmp_total reference_of r → Searched q l r →
      HasNameBeginning table q
      → (i < length l) × ((d : stored.Reference) →
      (rest : List ℕ) × (chars (string_bytes (get_or l i d).name) ≡ q ++ rest))
  beginning_at r i at h begins =
      let searched = subst (λ x. Searched q x r) same h in
      let place = placed nat_list_cmp_total reference_of items q r order searched.0 searched.1 in
      let found = sym (ap is_some (got (q ++ begins.0))) ∙ begins.1 in
      subst (λ x. (i < length x) × ((d : stored.Reference) →
      (rest : List ℕ) × (chars (string_bytes (get_or x i d).name) ≡ q ++ rest))) (sym same)
      (subst (λ k. (k < length items) × ((d : stored.Reference) → (rest : List ℕ)
      × (chars (string_bytes (get_or items k d).name) ≡ q ++ rest))) (sym at)
      (place_begins reference_of items q begins.0 (place_in nat_list_cmp_total reference_of r) order place found))

-- what `starts_with` says of the stored name at the place
begins_of : (b : Bool) (q name : List ℕ) (table : References) →
    MatchBool b ((rest : List ℕ) × (name ≡ q ++ rest)) ((rest : List ℕ) → name ≢ q ++ rest) →
    IsTrue (finite.contains_key table name)
    → (HasNameBeginning table q → (rest : List ℕ) × (name ≡ q ++ rest)) → IsTrue b ↔ HasNameBeginning table q
begins_of true q name table h there begins =
    (λ _. (h.0, subst (λ n. IsTrue (finite.contains_key table n)) h.1 there), λ _. refl)
begins_of false q name table h there begins = (λ wrong. cc, λ has. let found = begins has in absurd (h found.0 found.1))

pub some_place : (l items : List stored.Reference) (table : References) (text name : List ℕ) (r : Result ℕ ℕ) (i : ℕ)
    (d : stored.Reference) (b : Bool)
    → l ≡ items → table_of items ≡ table → AreInOrder items → i ≡ place_in nat_list_cmp_total reference_of r →
    Searched (chars text) l r → d ≡ get_or l i d → i < length l → name ≡ string_bytes d.name → IsUtf8 text
    → MatchBool b (HasPrefixMatch (FindsTextPrefix text) name) (FindsTextPrefix text name None) →
    IsTrue b ↔ HasNameBeginning table (chars text)
some_place l items table text name r i d b same is order at h here lt e t cases =
    let u : IsUtf8 name = subst IsUtf8 (sym e) (IsUtf8-string_bytes d.name) in
    let stands : chars name ≡ chars (string_bytes (get_or l i d).name) =
    ap chars e ∙ ap (λ s. chars (string_bytes s.name)) here in
    begins_of b (chars text) (chars name) table (begins_with text name b t u cases)
    (subst (λ n. IsTrue (finite.contains_key table n)) (sym stands)
    (is_name_of l items table (chars text) same is order i d lt))
    (λ has. let found = (beginning_at l items table (chars text) same is order r i at h has).1 d in (found.0, stands ∙ found.1))

pub no_place : (l items : List stored.Reference) (table : References) (text : List ℕ) (r : Result ℕ ℕ) (i : ℕ)
    → l ≡ items → table_of items ≡ table → AreInOrder items → i ≡ place_in nat_list_cmp_total reference_of r →
    Searched (chars text) l r → length l ≤ i → IsTrue false ↔ HasNameBeginning table (chars text)
no_place l items table text r i same is order at h le =
    (λ wrong. cc, λ has. let lt = (beginning_at l items table (chars text) same is order r i at h has).0 in absurd (omega arith))
