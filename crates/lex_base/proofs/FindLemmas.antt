-- A text is looked up by its place.
use Rattle.std.proofs.Common.{◌≡◌, ◌<◌, ◌≤◌, [], ◌∷◌, if◌then◌else◌, ◌+◌, ◌*◌, ◌%◌, ◌-◌, ◌∙◌, IsUtf8, List, None}
use Rattle.std.proofs.Common.{Option, Some, ap, bytes_eq, chars, false, length, map, refl, slice_get, slice_index_or}
use Rattle.std.proofs.Common.{sym, true, true≢false, ℕ}
use Rattle.std.proofs.lemmas.Option.{slice_get-get_or, slice_get_past}
use Rattle.std.specs.List.{list_all}
use Rattle.std.proofs.lemmas.Bool.{and_parts}
use Rattle.std.proofs.lemmas.Slice.Eq.{bytes_eq-Decides}
use Rattle.lex_base.specs.Words.{is_ascii_word}
use Rattle.lex_base.specs.declared.known.KnownName.{KnownName}
use Rattle.lex_base.specs.Known.{all_known, known_at, known_in, known_text, place_of}
use Rattle.lex_base.proofs.KnownLemmas.{everywhere, known_back}
use Rattle.lex_base.proofs.NameLemmas.{found_at}
use Rattle.lex_base.proofs.WordLemmas.{same_word}

-- the names are ASCII: their bytes are their characters
same_in : (all : List KnownName) (name : List ℕ) → IsUtf8 name →
    list_all (λ known. is_ascii_word (known_text known)) all ≡ true → known_in all name ≡ known_in all (chars name)
same_in [] name u ascii = refl
same_in (known ∷ others) name u ascii =
    let parts = and_parts (is_ascii_word (known_text known))
    (list_all (λ known. is_ascii_word (known_text known)) others) ascii in
    ap (λ b. if b then Some known else known_in others name) (same_word name (known_text known) u parts.0)
    ∙ ap (λ r. if bytes_eq (chars name) (known_text known) then Some known else r) (same_in others name u parts.1)

pub same_by_chars : (name : List ℕ) → IsUtf8 name → known_at name ≡ known_at (chars name)
unfolding known_at
same_by_chars name u = same_in all_known name u refl

-- the name whose text it is stands in the list of all at the number that stands at its place
pub at_place : (numbers : List ℕ) (all : List KnownName) (name : List ℕ) (place number : ℕ) (known : KnownName) →
    place ≡ place_of name → number ≡ slice_index_or numbers place 0 → name ≡ known_text known →
    map (λ known. slice_get all (slice_index_or numbers (place_of (known_text known)) 0)) all_known
    ≡ map (λ known. Some known) all_known → slice_get all number ≡ Some known
at_place numbers all name place number known is_place is_number is e =
    ap (slice_get all) (is_number ∙ ap (λ at. slice_index_or numbers at 0) (is_place ∙ ap place_of is))
    ∙ everywhere (λ known. slice_get all (slice_index_or numbers (place_of (known_text known)) 0)) (λ known. Some known)
    e known

pub found_number : (all : List KnownName) (number : ℕ) (found known : KnownName) →
    ((number < length all) × ((d : KnownName) → found ≡ slice_index_or all number d)) →
    slice_get all number ≡ Some known → Some found ≡ Some known
found_number all number found known within is =
    ap (λ name. Some name) (within.1 known) ∙ sym (slice_get-get_or all number known within.0) ∙ is

pub no_number : (all : List KnownName) (number : ℕ) (known : KnownName) → length all ≤ number →
    slice_get all number ≡ Some known → None ≡ Some known
no_number all number known past is = sym (slice_get_past all number past) ∙ is

pub same_place : (name : List ℕ) (first third last : ℕ) → first ≡ slice_index_or name 0 0 →
    third ≡ slice_index_or name 2 0 → last ≡ slice_index_or name (length name - 1) 0 →
    (first + third * 105 + last * 18) % 1024 ≡ place_of name
unfolding place_of
same_place name first third last is_first is_third is_last =
    ap (λ byte. (byte + third * 105 + last * 18) % 1024) is_first
    ∙ ap (λ byte. (slice_index_or name 0 0 + byte * 105 + last * 18) % 1024) is_third
    ∙ ap (λ byte. (slice_index_or name 0 0 + slice_index_or name 2 0 * 105 + byte * 18) % 1024) is_last

-- the one candidate is the name, or no known name is
pub is_candidate : (name : List ℕ) (known : KnownName) (text : List ℕ) → text ≡ known_text known →
    true ≡ bytes_eq text name → Some known ≡ known_at name
is_candidate name known text held is =
    let same : known_text known ≡ name = sym held ∙ (bytes_eq-Decides text name).0 (sym is) in
    sym (known_back known) ∙ ap known_at same

no_other : (name : List ℕ) (found : Option KnownName) → known_at name ≡ found →
    ((known : KnownName) → name ≡ known_text known → found ≡ None) → None ≡ known_at name
no_other name None e none = sym e
no_other name (Some known) e none = sym (none known (found_at name known e)) ∙ sym e

pub other_candidate : (name : List ℕ) (candidate : KnownName) (text : List ℕ) → text ≡ known_text candidate →
    ((known : KnownName) → name ≡ known_text known → Some candidate ≡ Some known) →
    false ≡ bytes_eq text name → None ≡ known_at name
other_candidate name candidate text held one isnt = no_other name (known_at name) refl λ known is.
    let same : candidate ≡ known = by_some (one known is) in
    absurd (true≢false (sym ((bytes_eq-Decides text name).1 (held ∙ ap known_text same ∙ sym is)) ∙ sym isnt))
  where
    by_some : {a b : KnownName} → Some a ≡ Some b → a ≡ b
    by_some e = cc

pub no_candidate : (name : List ℕ) → ((known : KnownName) → name ≡ known_text known → None ≡ Some known) →
    None ≡ known_at name
no_candidate name none = no_other name (known_at name) refl λ known is. absurd (not_some (none known is))
  where
    not_some : {a : KnownName} → None ≡ Some a → ⊥
    not_some e = cc
