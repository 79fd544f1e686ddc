-- What the place after a text among the stored references says of the longer names that begin with it.
use Rattle.std.proofs.Common.{◌≡◌, ◌≢◌, ◌↔◌, ◌+◌, ◌<◌, ◌≤◌, ◌∷◌, ◌++◌, ◌∙◌, Bool, Err, IsTrue, IsUtf8, List, MatchBool}
use Rattle.std.proofs.Common.{None, Ok, Result, ap, arith, chars, false, get_or, is_some, length, refl, string_bytes}
use Rattle.std.proofs.Common.{subst, sym, true, ℕ}
use Rattle.std.proofs.lemmas.Str.{IsUtf8-string_bytes}
use Rattle.std.specs.declared.cmp.Ordering.TheVariants.{Greater}
use Rattle.std.specs.Str.Pattern.{HasPrefixMatch, FindsTextPrefix}
use Rattle.std.specs.Cmp.Lexicographic.{nat_list_cmp_total}
use Rattle.std.specs.FinMap as finite
use Rattle.lex_base.specs.declared.table.Reference as stored
use Rattle.lex_base.specs.References.{References}
use Rattle.lex_base.specs.Lookup.{HasLongerName}
use Rattle.lex_base.specs.Table.{reference_of, table_of, AreInOrder}
use Rattle.lex_base.proofs.SortedEntries.{placed_after, place_after}
use Rattle.lex_base.proofs.TableBeginnings.{begins_with, got, is_name_of}
use Rattle.lex_base.proofs.TableSearch.{Searched}
use Rattle.lex_base.proofs.TextOrder.{order, longer_than, place_longer}

pub after_found_name : (r : Result ℕ ℕ) (trailing at : ℕ) → trailing ≡ at + 1 → r ≡ Ok at →
    trailing ≡ place_after nat_list_cmp_total reference_of r
after_found_name r trailing at e is = e ∙ ap (place_after nat_list_cmp_total reference_of) (sym is)

pub after_missed_name : (r : Result ℕ ℕ) (trailing at : ℕ) → trailing ≡ at → r ≡ Err at →
    trailing ≡ place_after nat_list_cmp_total reference_of r
after_missed_name r trailing at e is = e ∙ ap (place_after nat_list_cmp_total reference_of) (sym is)

module _ (items : List stored.Reference) (table : References) (q : List ℕ) (is : table_of items ≡ table)
    (ordered : AreInOrder items) (r : Result ℕ ℕ) (searched : Searched q items r) where
  longer_at : HasLongerName table q → (place_after nat_list_cmp_total reference_of r < length items)
      × ((d : stored.Reference) →
      (rest : List ℕ) × (chars (string_bytes (get_or items (place_after nat_list_cmp_total reference_of r) d).name)
      ≡ q ++ rest))
  longer_at longer =
      let place = placed_after nat_list_cmp_total reference_of items q r ordered searched.0 searched.1 in
      let found = sym (ap is_some (got items items table q refl is ordered (q ++ longer.0 ∷ longer.1))) ∙ longer.2 in
      place_longer reference_of items q longer.0 longer.1
      (place_after nat_list_cmp_total reference_of r) ordered place found

  above_at : (d : stored.Reference) → place_after nat_list_cmp_total reference_of r < length items →
      order (chars (string_bytes (get_or items (place_after nat_list_cmp_total reference_of r) d).name)) q ≡ Greater
  above_at d lt =
      (placed_after nat_list_cmp_total reference_of items q r ordered searched.0 searched.1).trailing _ d
      (omega arith) lt

-- what `starts_with` says of the stored name after the place
longer_of : (b : Bool) (q name : List ℕ) (table : References) →
    MatchBool b ((rest : List ℕ) × (name ≡ q ++ rest)) ((rest : List ℕ) → name ≢ q ++ rest) →
    IsTrue (finite.contains_key table name) → order name q ≡ Greater
    → (HasLongerName table q → (rest : List ℕ) × (name ≡ q ++ rest)) → IsTrue b ↔ HasLongerName table q
longer_of true q name table h there above begins =
    let more = longer_than q name h.0 above h.1 in (
      λ _. (
        more.0,
        more.1,
        subst (λ n. IsTrue (finite.contains_key table n)) (h.1 ∙ ap (λ rest. q ++ rest) more.2) there,
      ),
      λ _. refl,
    )
longer_of false q name table h there above begins =
    (λ wrong. cc, λ has. let found = begins has in absurd (h found.0 found.1))

module _ (l items : List stored.Reference) (table : References) (text : List ℕ) (r : Result ℕ ℕ) (i : ℕ)
    (same : l ≡ items) (is : table_of items ≡ table) (ordered : AreInOrder items) (at : i
    ≡ place_after nat_list_cmp_total reference_of r) (h : Searched (chars text) l r) where
  pub some_longer : (name : List ℕ) (d : stored.Reference) (b : Bool) → d ≡ get_or l i d → i < length l →
      name ≡ string_bytes d.name → IsUtf8 text
      → MatchBool b (HasPrefixMatch (FindsTextPrefix text) name) (FindsTextPrefix text name None) →
      IsTrue b ↔ HasLongerName table (chars text)
  some_longer name d b here lt e t cases =
      let searched = subst (λ x. Searched (chars text) x r) same h in
      let u : IsUtf8 name = subst IsUtf8 (sym e) (IsUtf8-string_bytes d.name) in
      let here' : d ≡ get_or items (place_after nat_list_cmp_total reference_of r) d =
      here ∙ ap (λ x. get_or x i d) same ∙ ap (λ k. get_or items k d) at in
      let lt' : place_after nat_list_cmp_total reference_of r < length items =
      subst (λ k. k < length items) at (subst (λ x. i < length x) same lt) in
      let stands : chars name
      ≡ chars (string_bytes (get_or items (place_after nat_list_cmp_total reference_of r) d).name) =
      ap chars e ∙ ap (λ s. chars (string_bytes s.name)) here' in
      longer_of b (chars text) (chars name) table (begins_with text name b t u cases)
      (subst (λ n. IsTrue (finite.contains_key table n)) (sym stands)
      (is_name_of items items table (chars text) refl is ordered _ d lt'))
      (subst (λ n. order n (chars text) ≡ Greater) (sym stands)
      (above_at items table (chars text) is ordered r searched d lt'))
      (λ has. let found = (longer_at items table (chars text) is ordered r searched has).1 d in (found.0, stands ∙ found.1))

  pub no_longer : length l ≤ i → IsTrue false ↔ HasLongerName table (chars text)
  no_longer le = (
    λ wrong. cc,
    λ has.
        let lt = (longer_at items table (chars text) is ordered r (subst (λ x. Searched (chars text) x r) same h) has).0
        in
        let le' : length items ≤ place_after nat_list_cmp_total reference_of r =
        subst (λ k. length items ≤ k) at (subst (λ x. length x ≤ i) same le) in
        absurd (omega arith),
  )
