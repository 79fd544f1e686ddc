-- Names of tags and their groups: what is neither `template` nor `frameset` is of neither group, and what is of the
-- group of `colgroup` has that name.
use Rattle.std.proofs.Common.{◌≡◌, ◌⊎◌, ◌||◌, if◌then◌else◌, [], ◌∷◌, ◌∙◌, Bool, List, bytes_eq, codes, false, inl, inr}
use Rattle.std.proofs.Common.{refl, subst, sym, true, ℕ}
use Rattle.std.proofs.lemmas.Bool.{cases_Bool}
use Rattle.std.proofs.lemmas.Slice.Eq.{bytes_eq-Decides}
use Rattle.tree_names.specs.Sets.{is_one_of}
use Rattle.tree_names.specs.Groups.{group_in, tag_group, tag_groups}
use Rattle.tree_names.specs.declared.group.TagGroup.{TagGroup}
use Rattle.tree_names.specs.declared.group.TagGroup.TheVariants as groups
use Rattle.rules_table.specs.Actions.{in_html}
use Rattle.page_tree_laws.proofs.CleanLists.{is_barred}
use Rattle.page_tree_laws.proofs.MildRows.{IsPlainGroup}

abbrev pub is_template : TagGroup → Bool
is_template groups.Template = true
is_template _ = false

abbrev pub is_frameset : TagGroup → Bool
is_frameset groups.Frameset = true
is_frameset _ = false

abbrev pub is_column_group : TagGroup → Bool
is_column_group groups.ColumnGroup = true
is_column_group _ = false

-- rows of a group that have one word alone
abbrev has_word : List ℕ → List (List ℕ) → Bool
has_word word [] = true
has_word word (w ∷ []) = bytes_eq w word
has_word word (w ∷ v ∷ ws) = false

abbrev have_word : (TagGroup → Bool) → List ℕ → List (List (List ℕ) × TagGroup) → Bool
have_word is word [] = true
have_word is word (row ∷ rows) = if is row.1 then (if has_word word row.0 then have_word is word rows else false)
    else have_word is word rows

one_word : (word name : List ℕ) (words : List (List ℕ)) → has_word word words ≡ true → is_one_of words name ≡ true →
    is_one_of (word ∷ []) name ≡ true
one_word word name [] has is = absurd (let k : false ≡ true = is in cc)
one_word word name (w ∷ []) has is =
    subst (λ v. is_one_of (v ∷ []) name ≡ true) ((bytes_eq-Decides w word).0 has) is
one_word word name (w ∷ v ∷ ws) has is = absurd (let k : false ≡ true = has in cc)

-- a row is of the group, or another one is
found_by : (is : TagGroup → Bool) (b c : Bool) (word name : List ℕ) (words : List (List ℕ)) (g rest : TagGroup)
    (later : Bool) → is g ≡ b → is_one_of words name ≡ c →
    (if b then (if has_word word words then later else false) else later) ≡ true →
    is (if c then g else rest) ≡ true → (later ≡ true → is rest ≡ true → is_one_of (word ∷ []) name ≡ true) →
    is_one_of (word ∷ []) name ≡ true
found_by is true true word name words g rest later e f have found more =
    by (has_word word words) refl have where
      by : (x : Bool) → has_word word words ≡ x → (if x then later else false) ≡ true →
          is_one_of (word ∷ []) name ≡ true
      by true h k = one_word word name words h f
      by false h k = absurd (let j : false ≡ true = k in cc)
found_by is false true word name words g rest later e f have found more =
    absurd (let k : false ≡ true = sym e ∙ found in cc)
found_by is true false word name words g rest later e f have found more =
    more (by (has_word word words) have) found where
      by : (x : Bool) → (if x then later else false) ≡ true → later ≡ true
      by true k = k
      by false k = absurd (let j : false ≡ true = k in cc)
found_by is false false word name words g rest later e f have found more = more have found

found_in : (is : TagGroup → Bool) (word : List ℕ) (rows : List (List (List ℕ) × TagGroup)) (name : List ℕ) →
    is groups.Other ≡ false → have_word is word rows ≡ true → is (group_in rows name) ≡ true →
    is_one_of (word ∷ []) name ≡ true
found_in is word [] name none have found = absurd (let k : false ≡ true = sym none ∙ found in cc)
found_in is word (row ∷ rows) name none have found =
    found_by is (is row.1) (is_one_of row.0 name) word name row.0 row.1 (group_in rows name)
    (have_word is word rows) refl refl have found (found_in is word rows name none)

template_named : (name : List ℕ) → is_template (tag_group name) ≡ true → is_one_of (codes "template" ∷ []) name ≡ true
unfolding tag_group
template_named name found = found_in is_template (codes "template") tag_groups name refl refl found

frameset_named : (name : List ℕ) → is_frameset (tag_group name) ≡ true → is_one_of (codes "frameset" ∷ []) name ≡ true
unfolding tag_group
frameset_named name found = found_in is_frameset (codes "frameset") tag_groups name refl refl found

pub colgroup_named : (name : List ℕ) → is_column_group (tag_group name) ≡ true →
    is_one_of (codes "colgroup" ∷ []) name ≡ true
unfolding tag_group
colgroup_named name found = found_in is_column_group (codes "colgroup") tag_groups name refl refl found

-- what a plain name is in
colgroup_group : tag_group (codes "colgroup") ≡ groups.ColumnGroup
unfolding tag_group
colgroup_group = refl

plain_by : (g : TagGroup) (name : List ℕ) → is_barred (in_html name) ≡ false → ¬ (is_template g ≡ true) →
    ¬ (is_frameset g ≡ true) → IsPlainGroup g name
plain_by groups.Template name free out off = out refl
plain_by groups.Frameset name free out off = off refl
plain_by groups.ColumnGroup name free out off = tt
plain_by g name free out off = free

abbrev plain_test : Bool → Bool → Bool
plain_test x y = if x || (y || false) then false else true

not_first : (x y : Bool) → plain_test x y ≡ true → (x || false) ≡ true → ⊥
not_first true y e h = absurd (let k : false ≡ true = e in cc)
not_first false y e h = absurd (let k : false ≡ true = h in cc)

not_second : (x y : Bool) → plain_test x y ≡ true → (y || false) ≡ true → ⊥
not_second true y e h = absurd (let k : false ≡ true = e in cc)
not_second false true e h = absurd (let k : false ≡ true = e in cc)
not_second false false e h = absurd (let k : false ≡ true = h in cc)

none_barred : (x y z : Bool) → plain_test x y ≡ true → z ≡ false → (x || (y || (z || false))) ≡ false
none_barred true y z e h = absurd (let k : false ≡ true = e in cc)
none_barred false true z e h = absurd (let k : false ≡ true = e in cc)
none_barred false false true e h = absurd (let k : true ≡ false = h in cc)
none_barred false false false e h = refl

pub plain_group : (name : List ℕ) →
    (if is_one_of (codes "template" ∷ codes "frameset" ∷ []) name then false else true) ≡ true →
    IsPlainGroup (tag_group name) name
plain_group name plain = by (cases_Bool (bytes_eq name (codes "colgroup"))) where
  by : (bytes_eq name (codes "colgroup") ≡ true) ⊎ (bytes_eq name (codes "colgroup") ≡ false) →
      IsPlainGroup (tag_group name) name
  by (inl e) = subst (λ w. IsPlainGroup (tag_group w) w) (sym ((bytes_eq-Decides name (codes "colgroup")).0 e))
      (subst (λ g. IsPlainGroup g (codes "colgroup")) (sym colgroup_group) tt)
  by (inr e) = plain_by (tag_group name) name
      (none_barred (bytes_eq name (codes "template")) (bytes_eq name (codes "frameset"))
      (bytes_eq name (codes "colgroup")) plain e)
      (λ g. not_first (bytes_eq name (codes "template")) (bytes_eq name (codes "frameset")) plain
      (template_named name g))
      (λ g. not_second (bytes_eq name (codes "template")) (bytes_eq name (codes "frameset")) plain
      (frameset_named name g))
