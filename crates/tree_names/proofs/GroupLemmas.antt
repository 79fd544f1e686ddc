-- The groups of known names, and of others.
use Rattle.std.proofs.Common.{◌≡◌, ◌||◌, [], ◌∷◌, if◌then◌else◌, ◌∙◌, Bool, List, None, Option, Some, ap, false, map}
use Rattle.std.proofs.Common.{not, refl, slice_index_or, subst, sym, true, true≢false, ℕ}
use Rattle.std.specs.List.{list_all}
use Rattle.std.proofs.lemmas.Bool.{and_parts}
use denote.Enum.Declared.{tag_of}
use Rattle.lex_base.specs.Known.{all_known, is_known, known_at, known_text}
use Rattle.lex_base.specs.contracts.known.KnownName.{the_type}
use Rattle.lex_base.specs.declared.known.KnownName.{KnownName}
use Rattle.lex_base.proofs.KnownLemmas.{at_number, everywhere}
use Rattle.lex_base.proofs.NameLemmas.{found_at, none_of}
use Rattle.tree_names.specs.Sets.{is_one_of}
use Rattle.tree_names.specs.TagSets.{formatting}
use Rattle.tree_names.specs.declared.group.TagGroup.{TagGroup}
use Rattle.tree_names.specs.declared.group.TagGroup.TheVariants as groups
use Rattle.tree_names.specs.Groups.{group_in, is_formatting, tag_group, tag_groups}

pub group_in_table : (table : List TagGroup) (d : TagGroup) (known : KnownName) →
    table ≡ map (λ name. group_in tag_groups (known_text name)) all_known →
    slice_index_or table (tag_of the_type known) d ≡ tag_group (known_text known)
unfolding tag_group
group_in_table table d known e = ap (λ l. slice_index_or l (tag_of the_type known) d) e
    ∙ at_number (λ name. group_in tag_groups (known_text name)) d known

none_in : (rows : List (List (List ℕ) × TagGroup)) (name : List ℕ) →
    list_all (λ row. list_all is_known row.0) rows ≡ true → known_at name ≡ None → group_in rows name ≡ groups.Other
none_in [] name all none = refl
none_in (row ∷ rows) name all none =
    let parts = and_parts (list_all is_known row.0) (list_all (λ row. list_all is_known row.0) rows) all in
    ap (λ b. if b then row.1 else group_in rows name) (none_of row.0 name parts.0 none) ∙ none_in rows name parts.1 none

pub no_group : (name : List ℕ) → known_at name ≡ None → tag_group name ≡ groups.Other
unfolding tag_group
no_group name none = none_in tag_groups name refl none

-- the groups of elements with formatting
sound_by : (is_formatted is_found : Bool) → not is_formatted || is_found ≡ true → is_formatted ≡ true → is_found ≡ true
sound_by true is_found h is = h
sound_by false is_found h is = absurd (true≢false (sym is))

known_sound : (known : KnownName) → is_formatting (tag_group (known_text known)) ≡ true →
    is_one_of formatting (known_text known) ≡ true
unfolding tag_group
known_sound known is = sound_by (is_formatting (group_in tag_groups (known_text known)))
    (is_one_of formatting (known_text known))
    (everywhere (λ name. not (is_formatting (group_in tag_groups (known_text name)))
    || is_one_of formatting (known_text name))
    (λ name. true) refl known) is

sound_at : (name : List ℕ) (found : Option KnownName) → known_at name ≡ found →
    is_formatting (tag_group name) ≡ true → is_one_of formatting name ≡ true
sound_at name None none is = absurd (true≢false (sym is ∙ ap is_formatting (no_group name none)))
sound_at name (Some known) e is =
    let text = found_at name known e in
    subst (λ word. is_one_of formatting word ≡ true) (sym text)
    (known_sound known (subst (λ word. is_formatting (tag_group word) ≡ true) text is))

pub is_of_formatting : (name : List ℕ) → is_formatting (tag_group name) ≡ true → is_one_of formatting name ≡ true
is_of_formatting name is = sound_at name (known_at name) refl is
