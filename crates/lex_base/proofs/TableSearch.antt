-- What the search for a name among the stored references says of the table.
use Rattle.std.proofs.Common.{◌≡◌, ◌∙◌, Err, List, None, Ok, Result, Some, ap, chars, get_or, length, set, string_bytes}
use Rattle.std.proofs.Common.{subst, sym, ℕ}
use Rattle.std.specs.List.{insert}
use Rattle.std.specs.List.Sorted.{IsBinarySearchResult, IsSearchInRange}
use Rattle.std.specs.Ordering.{nat_cmp}
use Rattle.std.specs.Cmp.Lexicographic.{slice_cmp, nat_list_cmp_total}
use Rattle.std.specs.FinMap as finite
use Rattle.lex_base.specs.declared.table.Reference as stored
use Rattle.lex_base.specs.References.{References}
use Rattle.lex_base.specs.Table.{reference_of, references_of, table_of, AreInOrder}
use Rattle.lex_base.proofs.SortedEntries.{find_found, find_missed, get_sorted, put_found, put_inserts, put_missed}
use Rattle.lex_base.proofs.SortedEntries.{put_rises}

-- what the search for a name ensures
abbrev pub Searched : List ℕ → List stored.Reference → Result ℕ ℕ → Type 0
Searched q l r =
    IsSearchInRange r (length l) × IsBinarySearchResult (λ s. slice_cmp nat_cmp (chars (string_bytes s.name)) q) l r

module _ (l items : List stored.Reference) (table : References) (q : List ℕ) (same : l ≡ items) (is : table_of items
    ≡ table) (order : AreInOrder items) where
  got : finite.get table q ≡ finite.find (slice_cmp nat_cmp) q (references_of items)
  got = ap (λ t. finite.get t q) (sym is) ∙ get_sorted nat_list_cmp_total (references_of items) q order

  pub value_found : (i : ℕ) (d : stored.Reference) → Searched q l (Ok i) → finite.get table q
      ≡ Some (chars (string_bytes (get_or items i d).value))
  value_found i d h =
      let found = subst (λ x. Searched q x (Ok i)) same h in
      got ∙ find_found nat_list_cmp_total reference_of items q i d order found.0 found.1

  pub value_missed : (i : ℕ) → Searched q l (Err i) → finite.get table q ≡ None
  value_missed i h =
      let missed = subst (λ x. Searched q x (Err i)) same h in
      got ∙ find_missed nat_list_cmp_total reference_of items q i order missed.1

  -- to set the value of a name that stands is to insert it
  module _ (i : ℕ) (d new : stored.Reference) (h : Searched q l (Ok i)) (name : chars (string_bytes new.name)
      ≡ chars (string_bytes (get_or items i d).name)) where
    put_there : finite.put (slice_cmp nat_cmp) q (chars (string_bytes new.value)) (references_of items)
        ≡ references_of (set items i new)
    put_there =
        let found = subst (λ x. Searched q x (Ok i)) same h in
        put_found nat_list_cmp_total reference_of items q (chars (string_bytes new.value)) new i d order found.0 found.1
        (ap (λ n. (n, chars (string_bytes new.value))) name)

    pub set_in_order : AreInOrder (set items i new)
    set_in_order = put_rises nat_list_cmp_total (references_of items) _ q _ order put_there

    pub set_inserts : table_of (set items i new) ≡ finite.insert table q (chars (string_bytes new.value))
    set_inserts =
        put_inserts nat_list_cmp_total (references_of items) _ q _ order put_there ∙
        ap (λ t. finite.insert t q (chars (string_bytes new.value))) is

  -- and so is to insert a name that does not stand
  module _ (i : ℕ) (new : stored.Reference) (h : Searched q l (Err i)) (name : chars (string_bytes new.name) ≡ q) where
    put_between : finite.put (slice_cmp nat_cmp) q (chars (string_bytes new.value)) (references_of items)
        ≡ references_of (insert items i new)
    put_between =
        let missed = subst (λ x. Searched q x (Err i)) same h in
        put_missed nat_list_cmp_total reference_of items q
        (chars (string_bytes new.value)) new i order missed.0 missed.1
        (ap (λ n. (n, chars (string_bytes new.value))) name)

    pub insert_in_order : AreInOrder (insert items i new)
    insert_in_order = put_rises nat_list_cmp_total (references_of items) _ q _ order put_between

    pub insert_inserts : table_of (insert items i new) ≡ finite.insert table q (chars (string_bytes new.value))
    insert_inserts =
        put_inserts nat_list_cmp_total (references_of items) _ q _ order put_between ∙
        ap (λ t. finite.insert t q (chars (string_bytes new.value))) is
