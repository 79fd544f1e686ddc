-- Words on the list of active formatting elements keep a guarded tree guarded.
use Rattle.std.proofs.Common.{◌≡◌, ℕ, true, false, List, [], ◌∷◌}
use Rattle.std.proofs.lemmas.Bool.{cond_both}
use Rattle.tree_formatting.specs.Entries.{Entry, before_marker, formatted, marker, without_entry}
use Rattle.tree_formatting.specs.Pushing.{pushed}
use Rattle.tree_forest.specs.Forest.{Forest, Holds, nodes}
use Rattle.html_lexemes.specs.declared.token.Tag.{Tag}
use Rattle.html_tree_state.specs.Building.{Building}
use Rattle.html_tree_state.specs.Formatting.{all_made_anew, cleared, inserted_for, inserted_formatting, made_already}
use Rattle.html_tree_state.specs.Formatting.{made_anew, marked, name_for, reconstructed, to_make, unlisted}
use Rattle.html_tree_state.specs.Insertions.{here}
use Rattle.page_tree_laws.proofs.CleanWords.{element_put}
use Rattle.tree_names.specs.Sets.{is_one_of}
use Rattle.tree_names.specs.TagSets.{formatting}
use Rattle.page_tree_laws.proofs.GuardedEntries.{AreAll, all_after, all_already, all_before_marker, all_of, all_pushed}
use Rattle.page_tree_laws.proofs.GuardedEntries.{all_to_make, all_weaker, all_without, each_of}
use Rattle.page_tree_laws.proofs.GuardedForests.{IsLike, new_is_free, still_held}
use Rattle.page_tree_laws.proofs.GuardedPlaces.{here_good}
use Rattle.page_tree_laws.proofs.GuardedWords.{inserted_guarded, made_and_put}
use Rattle.page_tree_laws.proofs.Guards.{Guard, IsFree, IsGuard, IsGuarded, is_barred}
use Rattle.rules_table.specs.Actions.{inserted_and_listed}

-- what is listed: free elements that are there, formatting elements by their tags
abbrev pub IsFreeEntry : Guard → Forest → ℕ → Tag → Type 0
IsFreeEntry g f n tag = IsFree g n × (Holds n f × (is_one_of formatting tag.name ≡ true))

abbrev pub IsOfFormatting : ℕ → Tag → Type 0
IsOfFormatting n tag = is_one_of formatting tag.name ≡ true

pub all_listed : (g : Guard) (b : Building) → IsGuarded g b → AreAll (IsFreeEntry g b.forest) b.formatting
all_listed g b is = all_of (IsFreeEntry g b.forest) b.formatting is.listed

pub all_on_like : (g : Guard) (f h : Forest) (es : List Entry) → IsLike f h → AreAll (IsFreeEntry g f) es →
    AreAll (IsFreeEntry g h) es
all_on_like g f h es like = all_weaker (IsFreeEntry g f) (IsFreeEntry g h)
    (λ n tag is. (is.0, (still_held n (nodes f) (nodes h) is.1.0 like.size, is.1.1))) es

pub listed_as : (g : Guard) (b : Building) (es : List Entry) → AreAll (IsFreeEntry g b.forest) es → IsGuarded g b →
    IsGuarded g (record b { formatting = es })
listed_as g b es all is = record {
  nodes = is.nodes;
  standing = is.standing;
  unbarred = is.unbarred;
  listed = each_of (IsFreeEntry g b.forest) es all;
  fostering = is.fostering;
}

pub marked_guarded : (g : Guard) (b : Building) → IsGuard g → IsGuarded g b → IsGuarded g (marked b)
marked_guarded g b guard is = listed_as g b (marker ∷ b.formatting) (all_listed g b is) is

pub cleared_guarded : (g : Guard) (b : Building) → IsGuard g → IsGuarded g b → IsGuarded g (cleared b)
cleared_guarded g b guard is = listed_as g b (before_marker b.formatting)
    (all_before_marker (IsFreeEntry g b.forest) b.formatting (all_listed g b is)) is

pub unlisted_guarded : (n : ℕ) (g : Guard) (b : Building) → IsGuard g → IsGuarded g b → IsGuarded g (unlisted n b)
unlisted_guarded n g b guard is = listed_as g b (without_entry n b.formatting)
    (all_without (IsFreeEntry g b.forest) n b.formatting (all_listed g b is)) is

-- the entry of a new element, in its tree
module _ (tag : Tag) (g : Guard) (b : Building) (guard : IsGuard g) (is : IsGuarded g b)
    (formats : is_one_of formatting tag.name ≡ true) where
  abbrev after : Forest
  after = (inserted_for tag b).forest

  formatting_inserted : IsGuarded g (inserted_for tag b)
  formatting_inserted = inserted_guarded (name_for tag) tag.attrs g b guard is (guard.formatting_free tag.name formats)

  new_entry : IsFreeEntry g after (nodes b.forest) tag
  new_entry = (
    new_is_free g b.forest is.nodes,
    ((element_put (here b) (name_for tag) tag.attrs b).held, formats),
  )

  old_entries : (es : List Entry) → AreAll (IsFreeEntry g b.forest) es → AreAll (IsFreeEntry g after) es
  old_entries es = all_on_like g b.forest after es
      (made_and_put g (here b) (name_for tag) tag.attrs b (here_good g b guard is) is.nodes).like

  pub formatting_guarded : IsGuarded g (inserted_formatting tag b)
  formatting_guarded = listed_as g (inserted_for tag b) (pushed (nodes b.forest) tag b.formatting)
      (all_pushed (IsFreeEntry g after) (nodes b.forest) tag b.formatting new_entry
      (old_entries b.formatting (all_listed g b is))) formatting_inserted

  anew_guarded : (n : ℕ) → IsGuarded g (made_anew (formatted n tag) b)
  anew_guarded n = listed_as g (inserted_for tag b) (formatted (nodes b.forest) tag ∷ b.formatting)
      (new_entry, old_entries b.formatting (all_listed g b is)) formatting_inserted

pub listed_guarded : (tag : Tag) (g : Guard) (b : Building) → IsGuard g → IsGuarded g b →
    is_barred g (name_for tag) ≡ false → IsGuarded g (inserted_and_listed tag b)
listed_guarded tag g b guard is free = cond_both (is_one_of formatting tag.name) (inserted_formatting tag b)
    (inserted_for tag b) (IsGuarded g) (λ e. formatting_guarded tag g b guard is e)
    (λ e. inserted_guarded (name_for tag) tag.attrs g b guard is free)

-- reconstruction: each entry is made anew, the earliest first
entry_anew : (entry : Entry) (earlier : List Entry) (g : Guard) (b : Building) → IsGuard g → IsGuarded g b →
    AreAll IsOfFormatting (entry ∷ earlier) → IsGuarded g (made_anew entry b)
entry_anew marker earlier g b guard is all = marked_guarded g b guard is
entry_anew (formatted n tag) earlier g b guard is all = anew_guarded tag g b guard is all.0 n

all_anew : (entries : List Entry) (g : Guard) (b : Building) → IsGuard g → IsGuarded g b →
    AreAll IsOfFormatting entries → IsGuarded g (all_made_anew entries b)
all_anew [] g b guard is all = is
all_anew (entry ∷ earlier) g b guard is all = entry_anew entry earlier g (all_made_anew earlier b) guard
    (all_anew earlier g b guard is (all_after IsOfFormatting entry earlier all)) all

pub reconstructed_guarded : (g : Guard) (b : Building) → IsGuard g → IsGuarded g b → IsGuarded g (reconstructed b)
reconstructed_guarded g b guard is =
    let all = all_listed g b is in
    all_anew (to_make b.stack b.formatting) g (record b { formatting = made_already b.stack b.formatting }) guard
    (listed_as g b (made_already b.stack b.formatting)
    (all_already (IsFreeEntry g b.forest) b.stack b.formatting all) is)
    (all_weaker (IsFreeEntry g b.forest) IsOfFormatting (λ n tag entry. entry.1.1) (to_make b.stack b.formatting)
    (all_to_make (IsFreeEntry g b.forest) b.stack b.formatting all))
