-- A set keeps the names of attributes as more are added.
use Rattle.std.proofs.Common.{◌≡◌, ◌+◌, ◌<◌, ◌||◌, if◌then◌else◌, [], ◌∷◌, ◌++◌, ◌∙◌, Bool, List, ap, append-nil}
use Rattle.std.proofs.Common.{append_assoc, cond, drop, false, length, refl, slice_index_or, subst, sym, take, true, ℕ}
use Rattle.std.proofs.Math.Bool.{or-false}
use Rattle.std.proofs.lemmas.List.{take_more, drop_more}
use Rattle.std.specs.Cmp.{both_ways}
use Rattle.std.specs.HashSet.{HashSet, Updates}
use Rattle.std.specs.List.{list_any}
use Rattle.std.specs.declared.hash.BuildHasherDefault.{BuildHasherDefault}
use Rattle.std.specs.declared.hash.FoldHasher.{FoldHasher}
use Rattle.html_lexemes.specs.contracts.names.QualNamePartialEq.TheImpl as names
use Rattle.html_lexemes.specs.declared.names.Attribute.{Attribute}
use Rattle.html_lexemes.specs.declared.names.QualName.{QualName}
use Rattle.tree_forest.specs.Changes.{has_name, with_missing}
use Rattle.html_render_dom.specs.Names.{HasNames}

abbrev pub NameSet : Type 0
NameSet = HashSet QualName (BuildHasherDefault FoldHasher)

-- names are found equal where they are the same
abbrev pub AreSame : Type 0
AreSame = (a b : QualName) → (names.eq-value.it a b ≡ true → a ≡ b) × (a ≡ b → names.eq-value.it a b ≡ true)

turned : AreSame → (a b : QualName) → names.eq-value.it a b ≡ names.eq-value.it b a
turned same a b = both_ways (names.eq-value.it a b) (names.eq-value.it b a)
    (λ e. (same b a).1 (sym ((same a b).0 e))) (λ e. (same a b).1 (sym ((same b a).0 e)))

or_assoc : (x y z : Bool) → (x || (y || z)) ≡ ((x || y) || z)
or_assoc true y z = refl
or_assoc false y z = refl

or_after : (b o : Bool) → cond b true o ≡ (o || b)
or_after true true = refl
or_after true false = refl
or_after false true = refl
or_after false false = refl

named_after : (name : QualName) (held : List Attribute) (a : Attribute) →
    has_name name (held ++ a ∷ []) ≡ (has_name name held || names.eq-value.it name a.name)
named_after name [] a = or-false (names.eq-value.it name a.name)
named_after name (b ∷ held) a =
    ap (λ v. names.eq-value.it name b.name || v) (named_after name held a)
    ∙ or_assoc (names.eq-value.it name b.name) (has_name name held) (names.eq-value.it name a.name)

-- no names
pub no_names : (set : NameSet) → set.keys ≡ [] → HasNames set []
no_names set none = λ name. ap (list_any (names.eq-value.it name)) none

-- a name more
pub one_name_more : AreSame → (old new : NameSet) (held : List Attribute) (a : Attribute) → HasNames old held →
    Updates names.eq-value.it old new a.name true → HasNames new (held ++ a ∷ [])
one_name_more same old new held a has updates = λ name.
    updates.0 name
    ∙ ap (cond (names.eq-value.it a.name name) true) (has name)
    ∙ or_after (names.eq-value.it a.name name) (has_name name held)
    ∙ ap (λ b. has_name name held || b) (turned same a.name name)
    ∙ sym (named_after name held a)

-- the names of a front, and of one attribute more
pub front_named : AreSame → (old new : NameSet) (attributes : List Attribute) (i : ℕ) (a : Attribute) →
    i < length attributes → a ≡ slice_index_or attributes i a → HasNames old (take i attributes) →
    Updates names.eq-value.it old new a.name true → HasNames new (take (i + 1) attributes)
front_named same old new attributes i a more is has updates =
    subst (HasNames new) (ap (λ v. take i attributes ++ v ∷ []) is ∙ sym (take_more attributes i a more))
    (one_name_more same old new (take i attributes) a has updates)

-- attributes are added to those at first; what is held takes the rest as those took all
pub record IsPushing (first more held rest : List Attribute) (set : NameSet) : Type 0 where
  pub same : with_missing held rest ≡ with_missing first more
  pub trailing : (added : List Attribute) × (held ≡ first ++ added)
  pub named : HasNames set held

one_missing : (held rest : List Attribute) (a : Attribute) (b : Bool) →
    (if b then with_missing held rest else with_missing (held ++ a ∷ []) rest)
    ≡ with_missing (if b then held else held ++ a ∷ []) rest
one_missing held rest a true = refl
one_missing held rest a false = refl

added_more : (first held : List Attribute) (a : Attribute) (b : Bool) →
    (added : List Attribute) × (held ≡ first ++ added) →
    (added : List Attribute) × ((if b then held else held ++ a ∷ []) ≡ first ++ added)
added_more first held a true p = p
added_more first held a false (added, is) =
    (added ++ a ∷ [], ap (λ v. v ++ a ∷ []) is ∙ append_assoc first added (a ∷ []))

pub pushing_at : (first more : List Attribute) (set : NameSet) → HasNames set first →
    IsPushing first more first more set
pushing_at first more set named = record { same = refl; trailing = ([], sym (append-nil first)); named = named }

pub pushed_on : (first more held rest next : List Attribute) (a : Attribute) (old new : NameSet) →
    IsPushing first more held (a ∷ rest) old →
    next ≡ (if has_name a.name held then held else held ++ a ∷ []) → HasNames new next →
    IsPushing first more next rest new
pushed_on first more held rest next a old new pushing is named = record {
  same = ap (λ v. with_missing v rest) is ∙ sym (one_missing held rest a (has_name a.name held)) ∙ pushing.same;
  trailing = subst (λ v. (added : List Attribute) × (v ≡ first ++ added)) (sym is)
      (added_more first held a (has_name a.name held) pushing.trailing);
  named = named;
}

-- so for the one at an index
pub pushed_at : (first more held items next : List Attribute) (i : ℕ) (a : Attribute) (old new : NameSet) →
    i < length items → a ≡ slice_index_or items i a → IsPushing first more held (drop i items) old →
    next ≡ (if has_name a.name held then held else held ++ a ∷ []) → HasNames new next →
    IsPushing first more next (drop (i + 1) items) new
pushed_at first more held items next i a old new lt at pushing is named =
    pushed_on first more held (drop (i + 1) items) next a old new
    (subst (λ rest. IsPushing first more held rest old)
    (drop_more items i a lt ∙ ap (λ v. v ∷ drop (i + 1) items) (sym at)) pushing) is named
