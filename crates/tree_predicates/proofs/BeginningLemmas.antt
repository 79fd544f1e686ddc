-- Words are tried as beginnings of a text, one after the other.
use Rattle.std.proofs.Common.{◌≡◌, ◌+◌, ◌<◌, ◌≤◌, ◌||◌, ◌∙◌, Bool, List, ap, arith, drop, false, length, length-drop}
use Rattle.std.proofs.Common.{slice_index_or, sym, true, ℕ}
use Rattle.std.specs.Borrow.{Bor}
use Rattle.std.proofs.lemmas.List.{drop_more, nil_from_length}
use Rattle.tree_names.specs.Sets.{words_of}
use Rattle.tree_predicates.specs.Quirks.{begins_with, begins_with_one}

module _ (words : List (Bor (List ℕ))) (i : ℕ) (d : Bor (List ℕ)) (text : List ℕ) (more : i < length words) where
  here : (b : Bool) → b ≡ begins_with text (slice_index_or words i d).now →
      begins_with_one (words_of (drop i words)) text ≡ (b || begins_with_one (words_of (drop (i + 1) words)) text)
  here b is = ap (λ l. begins_with_one (words_of l) text) (drop_more words i d more)
      ∙ ap (λ t. t || begins_with_one (words_of (drop (i + 1) words)) text) (sym is)

  pub begins_here : true ≡ begins_with text (slice_index_or words i d).now →
      true ≡ begins_with_one (words_of (drop i words)) text
  begins_here is = sym (here true is)

  pub begins_later : false ≡ begins_with text (slice_index_or words i d).now →
      begins_with_one (words_of (drop i words)) text ≡ begins_with_one (words_of (drop (i + 1) words)) text
  begins_later is = here false is

pub none_begins : (words : List (Bor (List ℕ))) (i : ℕ) (text : List ℕ) → length words ≤ i →
    false ≡ begins_with_one (words_of (drop i words)) text
none_begins words i text h = ap (λ l. begins_with_one (words_of l) text)
    (sym (nil_from_length (drop i words) (omega (arith, length-drop i words))))
