-- What text a known name has, and which texts are none's.
use Rattle.std.proofs.Common.{◌≡◌, ◌||◌, [], ◌∷◌, if◌then◌else◌, ◌∙◌, Bool, List, None, Option, Some, ap, bytes_eq}
use Rattle.std.proofs.Common.{false, is_some, refl, sym, true, true≢false, ℕ}
use Rattle.std.specs.List.{list_all}
use Rattle.std.proofs.lemmas.Bool.{and_parts}
use Rattle.std.proofs.lemmas.Slice.Eq.{bytes_eq-Decides}
use denote.Enum.Bare.{same_true, true_same, sameb}
use Rattle.lex_base.specs.Words.{is_one_of}
use Rattle.lex_base.specs.declared.known.KnownName.{KnownName}
use Rattle.lex_base.specs.contracts.known.KnownName.{the_type}
use Rattle.lex_base.specs.Known.{all_known, is_known, known_at, known_in, known_text}
use Rattle.lex_base.proofs.KnownLemmas.{known_back}

found_by : (first known : KnownName) (name : List ℕ) (others : Option KnownName) →
    (others ≡ Some known → name ≡ known_text known) → (found : Bool) → bytes_eq name (known_text first) ≡ found →
    (if found then Some first else others) ≡ Some known → name ≡ known_text known
found_by first known name others rest true is e =
    let same : first ≡ known = cc in
    (bytes_eq-Decides name (known_text first)).0 is ∙ ap known_text same
found_by first known name others rest false is e = rest e

found_in : (all : List KnownName) (name : List ℕ) (known : KnownName) → known_in all name ≡ Some known →
    name ≡ known_text known
found_in [] name known e = absurd cc
found_in (first ∷ others) name known e =
    found_by first known name (known_in others name) (found_in others name known)
    (bytes_eq name (known_text first)) refl e

pub found_at : (name : List ℕ) (known : KnownName) → known_at name ≡ Some known → name ≡ known_text known
unfolding known_at
found_at name known e = found_in all_known name known e

-- names are the same where their texts are
pub same_known : (a b : KnownName) → sameb the_type a b ≡ bytes_eq (known_text a) (known_text b)
same_known a b = same_by a b (sameb the_type a b) refl (bytes_eq (known_text a) (known_text b)) refl
  where
    one : (a b : KnownName) → known_text a ≡ known_text b → a ≡ b
    one a b e =
        let both : Some a ≡ Some b = sym (known_back a) ∙ ap known_at e ∙ known_back b in
        cc

    same_by : (a b : KnownName) → (x : Bool) → sameb the_type a b ≡ x → (y : Bool) →
        bytes_eq (known_text a) (known_text b) ≡ y → x ≡ y
    same_by a b true p true q = refl
    same_by a b false p false q = refl
    same_by a b true p false q = absurd (true≢false (sym ((bytes_eq-Decides (known_text a) (known_text b)).1
        (ap known_text (same_true the_type tt a b p))) ∙ q))
    same_by a b false p true q = absurd (true≢false (sym (true_same the_type a b
        (one a b ((bytes_eq-Decides (known_text a) (known_text b)).0 q))) ∙ p))

apart_by : (known : KnownName) (name : List ℕ) → known_at name ≡ None → (found : Bool) →
    bytes_eq name (known_text known) ≡ found → found ≡ false
apart_by known name none false e = refl
apart_by known name none true e =
    let is : name ≡ known_text known = (bytes_eq-Decides name (known_text known)).0 e in
    let both : None ≡ Some known = sym none ∙ ap known_at is ∙ known_back known in
    absurd cc

pub apart : (known : KnownName) (name : List ℕ) → known_at name ≡ None → bytes_eq name (known_text known) ≡ false
apart known name none = apart_by known name none (bytes_eq name (known_text known)) refl

pub apart_back : (known : KnownName) (name : List ℕ) → known_at name ≡ None → bytes_eq (known_text known) name ≡ false
apart_back known name none = back (bytes_eq (known_text known) name) refl
  where
    back : (found : Bool) → bytes_eq (known_text known) name ≡ found → found ≡ false
    back false e = refl
    back true e =
        let is : known_text known ≡ name = (bytes_eq-Decides (known_text known) name).0 e in
        let both : None ≡ Some known = sym none ∙ ap known_at (sym is) ∙ known_back known in
        absurd cc

-- a name that is none of the known ones is in no set of known ones
word_apart : (word name : List ℕ) (found : Option KnownName) → known_at word ≡ found → is_some found ≡ true →
    known_at name ≡ None → bytes_eq name word ≡ false
word_apart word name None e is none = absurd (true≢false (sym is))
word_apart word name (Some known) e is none =
    ap (bytes_eq name) (found_at word known e) ∙ apart known name none

by_table : (word name : List ℕ) → is_known word ≡ true → known_at name ≡ None → bytes_eq name word ≡ false
unfolding known_at
by_table word name is none = word_apart word name (known_at word) refl is none

pub none_of : (words : List (List ℕ)) (name : List ℕ) → list_all is_known words ≡ true → known_at name ≡ None →
    is_one_of words name ≡ false
none_of [] name all none = refl
none_of (word ∷ words) name all none =
    let parts = and_parts (is_known word) (list_all is_known words) all in
    ap (λ b. b || is_one_of words name) (by_table word name parts.0 none) ∙ none_of words name parts.1 none
