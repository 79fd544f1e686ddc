-- The names of stored references are names, and their values values.
use Rattle.std.proofs.Common.{◌≡◌, ◌<◌, ◌&&◌, [], ◌∷◌, ◌∙◌, Bool, IsTrue, List, None, Option, Some, ap, arith, chars}
use Rattle.std.proofs.Common.{cond, false, get_or, length, refl, set, string_bytes, suc, sym, true, zero, ℕ}
use Rattle.std.proofs.lemmas.Bool.{and_parts}
use Rattle.std.proofs.lemmas.Option.{none-some, same_Some}
use Rattle.std.specs.List.{insert, list_all}
use Rattle.std.specs.Ordering.{is_eq}
use Rattle.std.specs.Cmp.Lexicographic.{nat_list_cmp_total}
use Rattle.std.specs.FinMap as finite
use Rattle.lex_base.specs.declared.table.Reference as stored
use Rattle.lex_base.specs.References.{Reference, References, is_name, is_value}
use Rattle.lex_base.specs.Table.{reference_of, references_of, table_of, is_sound, AreInOrder, AreSound}
use Rattle.lex_base.proofs.SortedEntries.{equal, get_sorted}
use Rattle.lex_base.proofs.TextOrder.{order}

pub both_true : (a b : Bool) → a ≡ true → b ≡ true → (a && b) ≡ true
both_true true b p q = q
both_true false b p q = cc

sound_at : (rs : List stored.Reference) (i : ℕ) (d : stored.Reference) → AreSound rs → i < length rs →
    is_sound (reference_of (get_or rs i d)) ≡ true
sound_at [] i d h lt = absurd (omega arith)
sound_at (r ∷ rs) zero d h lt = (and_parts _ _ h).0
sound_at (r ∷ rs) (suc i) d h lt = sound_at rs i d (and_parts _ _ h).1 (omega arith)

sound_set : (rs : List stored.Reference) (i : ℕ) (new : stored.Reference) → AreSound rs →
    is_sound (reference_of new) ≡ true → AreSound (set rs i new)
sound_set [] i new h sound = refl
sound_set (r ∷ rs) zero new h sound = both_true _ _ sound (and_parts _ _ h).1
sound_set (r ∷ rs) (suc i) new h sound =
    both_true _ _ (and_parts _ _ h).0 (sound_set rs i new (and_parts _ _ h).1 sound)

-- another value for a name
pub set_sound : (items : List stored.Reference) (i : ℕ) (d new : stored.Reference) → AreSound items → i < length items →
    chars (string_bytes new.name) ≡ chars (string_bytes (get_or items i d).name)
    → IsTrue (is_value (chars (string_bytes new.value))) → AreSound (set items i new)
set_sound items i d new h lt name value =
    sound_set items i new h (both_true _ _ (ap is_name name ∙ (and_parts _ _ (sound_at items i d h lt)).0) value)

sound_insert : (rs : List stored.Reference) (i : ℕ) (new : stored.Reference) → AreSound rs →
    is_sound (reference_of new) ≡ true → AreSound (insert rs i new)
sound_insert [] zero new h sound = both_true _ _ sound refl
sound_insert [] (suc i) new h sound = both_true _ _ sound refl
sound_insert (r ∷ rs) zero new h sound = both_true _ _ sound h
sound_insert (r ∷ rs) (suc i) new h sound =
    both_true _ _ (and_parts _ _ h).0 (sound_insert rs i new (and_parts _ _ h).1 sound)

-- another name
pub insert_sound : (items : List stored.Reference) (i : ℕ) (new : stored.Reference) → AreSound items →
    IsTrue (is_name (chars (string_bytes new.name))) → IsTrue (is_value (chars (string_bytes new.value)))
    → AreSound (insert items i new)
insert_sound items i new h name value = sound_insert items i new h (both_true _ _ name value)

sound_found : (es : List Reference) (q v : List ℕ) → list_all is_sound es ≡ true → finite.find order q es ≡ Some v →
    IsTrue (is_name q) × IsTrue (is_value v)
sound_found [] q v h found = absurd (none-some v found)
sound_found (e ∷ es) q v h found = by (is_eq (order q e.0)) refl found (sound_found es q v (and_parts _ _ h).1)
  where
    by : (t : Bool) → is_eq (order q e.0) ≡ t → cond t (Some e.1) (finite.find order q es) ≡ Some v →
        (finite.find order q es ≡ Some v → IsTrue (is_name q) × IsTrue (is_value v)) →
        IsTrue (is_name q) × IsTrue (is_value v)
    by true same here _ =
        let key : q ≡ e.0 = finite.slice_cmp-IsAntisymmetric finite.nat_cmp-IsAntisymmetric q e.0 (equal _ same) in
        let parts = and_parts (is_name e.0) (is_value e.1) (and_parts _ _ h).0 in
        (ap is_name key ∙ parts.0, ap is_value (sym (same_Some e.1 v here)) ∙ parts.1)
    by false _ there later = later there

-- a name that the table has
pub found_sound : (items : List stored.Reference) (table : References) → table_of items ≡ table → AreInOrder items →
    AreSound items → (name value : List ℕ) → finite.get table name ≡ Some value
    → IsTrue (is_name name) × IsTrue (is_value value)
found_sound items table is ordered sound name value found =
    sound_found (references_of items) name value sound
    (sym (ap (λ t. finite.get t name) (sym is) ∙ get_sorted nat_list_cmp_total (references_of items) name ordered) ∙
    found)

-- no name is empty
pub none_empty : (table : References) → ((name value : List ℕ) → finite.get table name ≡ Some value →
    IsTrue (is_name name) × IsTrue (is_value value)) → finite.get table [] ≡ None
none_empty table law = by (finite.get table []) refl
  where
    by : (o : Option (List ℕ)) → finite.get table [] ≡ o → o ≡ None
    by None e = refl
    by (Some v) e = let wrong : false ≡ true = (law [] v e).0 in cc
