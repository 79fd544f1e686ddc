-- Counts of names, one by one.
use Rattle.std.proofs.Common.{◌≡◌, ◌+◌, ◌-◌, ◌<◌, ◌≤◌, ◌||◌, if◌then◌else◌, [], ◌∷◌, ◌++◌, ◌∙◌, ◌==◌, ◌&&◌, ◌*◌, ◌%◌}
use Rattle.std.proofs.Common.{Bool, List, None, ap, ap₂, arith, bytes_eq, drop, false, length, length-drop, map, refl}
use Rattle.std.proofs.Common.{slice_index_or, slice_set, subst, suc, sym, true, zero, ℕ}
use Rattle.std.proofs.lemmas.Bool.{and_parts, eqb-false, eqb-true, false≢true, lt-ltb, ltb-true, or_parts}
use Rattle.std.proofs.lemmas.Str.Ascii.{lowercase-lowercase}
use Rattle.std.specs.Bool.{nat_lt}
use Rattle.std.specs.Char.{to_ascii_lowercase}
use Rattle.std.proofs.lemmas.List.{drop_more, nil_from_length}
use Rattle.html_lexemes.specs.declared.names.QualName.{QualName}
use Rattle.html_lexemes.specs.declared.names.Namespace.{Namespace}
use Rattle.html_lexemes.specs.declared.names.Namespace.TheVariants.{Html, MathMl, Svg, Other}
use Rattle.std.proofs.lemmas.Slice.Eq.{bytes_eq-Decides}
use Rattle.tree_names.specs.Counts.{count_in, count_of, counted_names, counts_of, has_counts, has_foreign, has_one}
use Rattle.tree_names.specs.Counts.{is_foreign_in, one_more, own_or_shared, share_of, shared_count, words_before, zeros}
use Rattle.tree_names.specs.Sets.{html_elements, is_element_of, is_one_of, words_in}
use Rattle.tree_names.specs.Wanted.{one}
use denote.Enum.Declared.{tag_of}
use Rattle.lex_base.specs.Known.{all_known, known_at, known_text}
use Rattle.lex_base.specs.contracts.known.KnownName.{the_type}
use Rattle.lex_base.specs.declared.known.KnownName.{KnownName}
use Rattle.lex_base.proofs.KnownLemmas.{at_number}
use Rattle.lex_base.proofs.NameLemmas.{none_of}

-- the count of a known name stands at its number, and a name that is not known shares one
pub place_in_table : (places : List ℕ) (d : ℕ) (known : KnownName) →
    places ≡ map (λ name. count_in Html (known_text name)) all_known →
    slice_index_or places (tag_of the_type known) d ≡ count_in Html (known_text known)
place_in_table places d known e = ap (λ l. slice_index_or l (tag_of the_type known) d) e
    ∙ at_number (λ name. count_in Html (known_text name)) d known

all_before : (words : List (List ℕ)) (name : List ℕ) → is_one_of words name ≡ false →
    words_before words name ≡ length words
all_before [] name none = refl
all_before (word ∷ words) name none =
    let parts = or_parts (bytes_eq name word) (is_one_of words name) none in
    ap (λ b. if b then 0 else suc (words_before words name)) parts.0 ∙ ap (λ n. suc n) (all_before words name parts.1)

pub shares : (name : List ℕ) → known_at name ≡ None → shared_count name ≡ count_in Html name
shares name none = ap (λ place. own_or_shared place name)
    (sym (all_before counted_names name (none_of counted_names name refl none)))

-- one more, as a place of the list that is set
pub more_is_set : (k : ℕ) (cs : List ℕ) → one_more k cs ≡ slice_set cs k (slice_index_or cs k 0 + 1)
more_is_set k [] = refl
more_is_set zero (c ∷ cs) = ap (λ n. n ∷ cs) (omega arith)
more_is_set (suc k) (c ∷ cs) = ap (λ l. c ∷ l) (more_is_set k cs)

more_length : (k : ℕ) (cs : List ℕ) → length (one_more k cs) ≡ length cs
more_length k [] = refl
more_length zero (c ∷ cs) = refl
more_length (suc k) (c ∷ cs) = ap (λ n. suc n) (more_length k cs)

more_there : (k : ℕ) (cs : List ℕ) → k < length cs →
    slice_index_or (one_more k cs) k 0 ≡ suc (slice_index_or cs k 0)
more_there k [] h = absurd (omega (arith, h))
more_there zero (c ∷ cs) h = refl
more_there (suc k) (c ∷ cs) h = more_there k cs (omega (arith, h))

-- a count grows by one at most
more_least : (j k : ℕ) (cs : List ℕ) → slice_index_or cs j 0 ≤ slice_index_or (one_more k cs) j 0
more_least j k [] = omega arith
more_least zero zero (c ∷ cs) = omega arith
more_least zero (suc k) (c ∷ cs) = omega arith
more_least (suc j) zero (c ∷ cs) = omega arith
more_least (suc j) (suc k) (c ∷ cs) = more_least j k cs

more_most : (j k : ℕ) (cs : List ℕ) → slice_index_or (one_more k cs) j 0 ≤ suc (slice_index_or cs j 0)
more_most j k [] = omega arith
more_most zero zero (c ∷ cs) = omega arith
more_most zero (suc k) (c ∷ cs) = omega arith
more_most (suc j) zero (c ∷ cs) = omega arith
more_most (suc j) (suc k) (c ∷ cs) = more_most j k cs

more_swap : (j k : ℕ) (cs : List ℕ) → one_more j (one_more k cs) ≡ one_more k (one_more j cs)
more_swap j k [] = refl
more_swap zero zero (c ∷ cs) = refl
more_swap zero (suc k) (c ∷ cs) = refl
more_swap (suc j) zero (c ∷ cs) = refl
more_swap (suc j) (suc k) (c ∷ cs) = ap (λ l. c ∷ l) (more_swap j k cs)

more_undone : (k : ℕ) (cs : List ℕ) →
    slice_set (one_more k cs) k (slice_index_or (one_more k cs) k 0 - 1) ≡ cs
more_undone k [] = refl
more_undone zero (c ∷ cs) = ap (λ n. n ∷ cs) (omega arith)
more_undone (suc k) (c ∷ cs) = ap (λ l. c ∷ l) (more_undone k cs)

within_by : (is_word : Bool) (k size : ℕ) → k ≤ size → (if is_word then 0 else suc k) ≤ suc size
within_by true k size h = omega arith
within_by false k size h = omega (arith, h)

within : (words : List (List ℕ)) (name : List ℕ) → words_before words name ≤ length words
within [] name = omega arith
within (word ∷ words) name = within_by (bytes_eq name word) (words_before words name) (length words) (within words name)

-- a number that is made of letters stays below 128
pub share_within : (cs : List ℕ) (share : ℕ) → share < 128 → share_of share cs < 128
share_within [] share h = h
share_within (c ∷ cs) share h = share_within cs ((share * 31 + c) % 128) (omega arith)

pub shared_within : (name : List ℕ) → shared_count name < 188
shared_within name = omega (arith, share_within (map to_ascii_lowercase name) 0 (omega arith))

own_within : (place : ℕ) (name : List ℕ) (is_own : Bool) → nat_lt place 60 ≡ is_own →
    (if is_own then place else shared_count name) < 188
own_within place name true own = omega (arith, ltb-true place 60 own)
own_within place name false own = shared_within name

pub has_count_in : (ns : Namespace) (local : List ℕ) → count_in ns local < 188
has_count_in Html local =
    own_within (words_before counted_names local) local (nat_lt (words_before counted_names local) 60) refl
has_count_in MathMl local = shared_within local
has_count_in Svg local = shared_within local
has_count_in (Other text) local = shared_within local

-- each element has a count
pub has_count : (name : QualName) → count_of name < 188
has_count name = has_count_in name.ns name.local

pub as_many_counts : (names : List QualName) → length (counts_of names) ≡ 188
as_many_counts [] = refl
as_many_counts (name ∷ names) = more_length (count_of name) (counts_of names) ∙ as_many_counts names

zeros_at : (size k : ℕ) → slice_index_or (zeros size) k 0 ≡ 0
zeros_at zero k = refl
zeros_at (suc size) zero = refl
zeros_at (suc size) (suc k) = zeros_at size k

-- no count is greater than the number of elements
pub at_most : (names : List QualName) (k : ℕ) → slice_index_or (counts_of names) k 0 ≤ length names
at_most [] k = omega (arith, zeros_at 188 k)
at_most (name ∷ names) k = omega (arith, more_most k (count_of name) (counts_of names), at_most names k)

-- an element that stands among others counts as the first one does
pub in_between : (front back : List QualName) (name : QualName) →
    counts_of (front ++ name ∷ back) ≡ one_more (count_of name) (counts_of (front ++ back))
in_between [] back name = refl
in_between (x ∷ front) back name = ap (one_more (count_of x)) (in_between front back name)
    ∙ more_swap (count_of x) (count_of name) (counts_of (front ++ back))

-- one element less, as a place of the list that is set
pub taken_out : (front back : List QualName) (name : QualName) (k : ℕ) (cs : List ℕ) → k ≡ count_of name →
    cs ≡ counts_of (front ++ name ∷ back) →
    slice_set cs k (slice_index_or cs k 0 - 1) ≡ counts_of (front ++ back)
taken_out front back name k cs is are =
    let there = are ∙ in_between front back name ∙ ap (λ n. one_more n (counts_of (front ++ back))) (sym is) in
    ap (λ l. slice_set l k (slice_index_or l k 0 - 1)) there ∙ more_undone k (counts_of (front ++ back))

-- an element that is counted leaves no count of its name empty
pub counts_one : (front back : List QualName) (name : QualName) (k : ℕ) (cs : List ℕ) → k ≡ count_of name →
    cs ≡ counts_of (front ++ name ∷ back) → 1 ≤ slice_index_or cs k 0
counts_one front back name k cs is are =
    let there = are ∙ in_between front back name ∙ ap (λ n. one_more n (counts_of (front ++ back))) (sym is) in
    omega (
      arith,
      ap (λ l. slice_index_or l k 0) there,
      more_there k (counts_of (front ++ back)) (omega (arith, is, has_count name, as_many_counts (front ++ back))),
    )

-- an element more, as a place of the list that is set
pub added : (front back : List QualName) (name : QualName) (k : ℕ) (cs : List ℕ) → k ≡ count_of name →
    cs ≡ counts_of (front ++ back) →
    slice_set cs k (slice_index_or cs k 0 + 1) ≡ counts_of (front ++ name ∷ back)
added front back name k cs is are = ap (λ l. slice_set l k (slice_index_or l k 0 + 1)) are
    ∙ sym (more_is_set k (counts_of (front ++ back))) ∙ ap (λ n. one_more n (counts_of (front ++ back))) is
    ∙ sym (in_between front back name)

module _ (word : List ℕ) (names : List QualName) where
  abbrev place : ℕ
  place = count_in Html word

  other_word : (local : List ℕ) (is_word : Bool) → bytes_eq local word ≡ is_word →
      slice_index_or (one_more (count_in Html local) (counts_of names)) place 0 ≡ 0 → is_word ≡ false
  other_word local false is none = refl
  other_word local true is none = absurd (omega (
    arith,
    none,
    ap (λ w. slice_index_or (one_more (count_in Html w) (counts_of names)) place 0)
        ((bytes_eq-Decides local word).0 is),
    more_there place (counts_of names) (omega (arith, has_count_in Html word, as_many_counts names)),
  ))

  other_name : (ns : Namespace) (local : List ℕ) →
      slice_index_or (one_more (count_in ns local) (counts_of names)) place 0 ≡ 0 →
      is_one_of (words_in (one word) ns) local ≡ false
  other_name Html local none = ap (λ b. b || false) (other_word local (bytes_eq local word) refl none)
  other_name MathMl local none = refl
  other_name Svg local none = refl
  other_name (Other text) local none = refl

-- where the count of a word is 0, no element of HTML has it for its name
pub none_counted : (word : List ℕ) (names : List QualName) →
    slice_index_or (counts_of names) (count_in Html word) 0 ≡ 0 → has_one (one word) names ≡ false
none_counted word [] none = refl
none_counted word (name ∷ names) none =
    let here = other_name word names name.ns name.local none in
    let there = none_counted word names (omega (
      arith,
      none,
      more_least (count_in Html word) (count_of name) (counts_of names),
    )) in
    ap (λ b. b || has_one (one word) names) here ∙ there

module _ (word : List ℕ) (words : List (List ℕ)) where
  one_fewer_in : (ns : Namespace) (local : List ℕ) → is_one_of (words_in (one word) ns) local ≡ false →
      is_one_of (words_in (html_elements (word ∷ words)) ns) local ≡ is_one_of (words_in (html_elements words) ns) local
  one_fewer_in Html local isnt = ap (λ b. b || is_one_of words local) (or_parts (bytes_eq local word) false isnt).0
  one_fewer_in MathMl local isnt = refl
  one_fewer_in Svg local isnt = refl
  one_fewer_in (Other text) local isnt = refl

  -- a word that no element has for its name may be left out
  pub one_fewer : (names : List QualName) → has_one (one word) names ≡ false →
      has_one (html_elements (word ∷ words)) names ≡ has_one (html_elements words) names
  one_fewer [] none = refl
  one_fewer (name ∷ names) none =
      let parts = or_parts (is_element_of (one word) name) (has_one (one word) names) none in
      ap (λ b. b || has_one (html_elements (word ∷ words)) names) (one_fewer_in name.ns name.local parts.0)
      ∙ ap (λ b. is_element_of (html_elements words) name || b) (one_fewer names parts.1)

none_in : (ns : Namespace) (local : List ℕ) → is_one_of (words_in (html_elements []) ns) local ≡ false
none_in Html local = refl
none_in MathMl local = refl
none_in Svg local = refl
none_in (Other text) local = refl

none_of_none : (names : List QualName) → has_one (html_elements []) names ≡ false
none_of_none [] = refl
none_of_none (name ∷ names) = ap (λ b. b || has_one (html_elements []) names) (none_in name.ns name.local)
    ∙ none_of_none names

pub fewer_left : (wanted : List KnownName) (i : ℕ) (d : KnownName) (names : List QualName) → i < length wanted →
    has_one (one (known_text (slice_index_or wanted i d))) names ≡ false →
    has_one (html_elements (map known_text (drop i wanted))) names
    ≡ has_one (html_elements (map known_text (drop (i + 1) wanted))) names
fewer_left wanted i d names more none =
    ap (λ l. has_one (html_elements (map known_text l)) names) (drop_more wanted i d more)
    ∙ one_fewer (known_text (slice_index_or wanted i d)) (map known_text (drop (i + 1) wanted)) names none

pub none_left : (wanted : List KnownName) (i : ℕ) (names : List QualName) → length wanted ≤ i →
    has_one (html_elements (map known_text (drop i wanted))) names ≡ false
none_left wanted i names h =
    ap (λ l. has_one (html_elements (map known_text l)) names)
    (nil_from_length (drop i wanted) (omega (arith, length-drop i wanted)))
    ∙ none_of_none names

-- a word that has a count of its own
same_first : (w word local : List ℕ) (ws : List (List ℕ)) (a b : Bool) → bytes_eq word w ≡ a → bytes_eq local w ≡ b →
    (is_one_of ws word ≡ true → words_before ws local ≡ words_before ws word → local ≡ word) →
    (a || is_one_of ws word) ≡ true →
    (if b then 0 else suc (words_before ws local)) ≡ (if a then 0 else suc (words_before ws word)) → local ≡ word
same_first w word local ws true true e k more there same =
    (bytes_eq-Decides local w).0 k ∙ sym ((bytes_eq-Decides word w).0 e)
same_first w word local ws true false e k more there same = absurd (omega (arith, same))
same_first w word local ws false true e k more there same = absurd (omega (arith, same))
same_first w word local ws false false e k more there same = more there (omega (arith, same))

same_place : (words : List (List ℕ)) (word local : List ℕ) → is_one_of words word ≡ true →
    words_before words local ≡ words_before words word → local ≡ word
same_place [] word local there same = absurd (false≢true there)
same_place (w ∷ ws) word local there same = same_first w word local ws (bytes_eq word w) (bytes_eq local w) refl refl
    (same_place ws word local) there same

within_first : (a : Bool) (ws : List (List ℕ)) (word : List ℕ) →
    (is_one_of ws word ≡ true → words_before ws word < length ws) → (a || is_one_of ws word) ≡ true →
    (if a then 0 else suc (words_before ws word)) < suc (length ws)
within_first true ws word more there = omega arith
within_first false ws word more there = omega (arith, more there)

found_within : (words : List (List ℕ)) (word : List ℕ) → is_one_of words word ≡ true →
    words_before words word < length words
found_within [] word there = absurd (false≢true there)
found_within (w ∷ ws) word there = within_first (bytes_eq word w) ws word (found_within ws word) there

more_elsewhere : (j k : ℕ) (cs : List ℕ) → ¬ (j ≡ k) → slice_index_or (one_more k cs) j 0 ≡ slice_index_or cs j 0
more_elsewhere j k [] off = refl
more_elsewhere zero zero (c ∷ cs) off = absurd (off refl)
more_elsewhere zero (suc k) (c ∷ cs) off = refl
more_elsewhere (suc j) zero (c ∷ cs) off = refl
more_elsewhere (suc j) (suc k) (c ∷ cs) off = more_elsewhere j k cs (λ e. off (ap suc e))

or_else : (a b : Bool) → b ≡ true → (a || b) ≡ true
or_else true b e = refl
or_else false b e = e

module _ (word : List ℕ) (counted : is_one_of counted_names word ≡ true) where
  own_place : count_in Html word ≡ words_before counted_names word
  own_place = ap (λ b. if b then words_before counted_names word else shared_count word)
      (lt-ltb (words_before counted_names word) 60 (found_within counted_names word counted))

  -- an element that is counted with it has it for its name
  own_so : (local : List ℕ) (is_own : Bool) → nat_lt (words_before counted_names local) 60 ≡ is_own →
      words_before counted_names word ≡ (if is_own then words_before counted_names local else shared_count local) →
      local ≡ word
  own_so local true own e = same_place counted_names word local counted (sym e)
  own_so local false own e = absurd (omega (arith, e, found_within counted_names word counted))

  named_so : (ns : Namespace) (local : List ℕ) → words_before counted_names word ≡ count_in ns local →
      is_one_of (words_in (one word) ns) local ≡ true
  named_so Html local e = ap (λ b. b || false) ((bytes_eq-Decides local word).1
      (own_so local (nat_lt (words_before counted_names local) 60) refl e))
  named_so MathMl local e = absurd (omega (arith, e, found_within counted_names word counted))
  named_so Svg local e = absurd (omega (arith, e, found_within counted_names word counted))
  named_so (Other text) local e = absurd (omega (arith, e, found_within counted_names word counted))

  some_by : (t : Bool) (name : QualName) (names : List QualName) →
      (words_before counted_names word == count_of name) ≡ t →
      (¬ (slice_index_or (counts_of names) (words_before counted_names word) 0 ≡ 0) → has_one (one word) names ≡ true) →
      ¬ (slice_index_or (one_more (count_of name) (counts_of names)) (words_before counted_names word) 0 ≡ 0) →
      (is_element_of (one word) name || has_one (one word) names) ≡ true
  some_by true name names e more some = ap (λ b. b || has_one (one word) names)
      (named_so name.ns name.local (eqb-true (words_before counted_names word) (count_of name) e))
  some_by false name names e more some = or_else (is_element_of (one word) name) (has_one (one word) names)
      (more (λ none. some (more_elsewhere (words_before counted_names word) (count_of name) (counts_of names)
      (eqb-false (words_before counted_names word) (count_of name) e) ∙ none)))

  some_there : (names : List QualName) →
      ¬ (slice_index_or (counts_of names) (words_before counted_names word) 0 ≡ 0) → has_one (one word) names ≡ true
  some_there [] some = absurd (some (zeros_at 188 (words_before counted_names word)))
  some_there (name ∷ names) some = some_by (words_before counted_names word == count_of name) name names refl
      (some_there names) some

  -- where its count is not 0, an element of HTML has it for its name
  pub some_counted : (names : List QualName) →
      ¬ (slice_index_or (counts_of names) (count_in Html word) 0 ≡ 0) → has_one (one word) names ≡ true
  some_counted names some = some_there names
      (λ none. some (ap (λ k. slice_index_or (counts_of names) k 0) own_place ∙ none))

-- more words leave no element out
module _ (word : List ℕ) (words : List (List ℕ)) where
  named_still : (ns : Namespace) (local : List ℕ) → is_one_of (words_in (one word) ns) local ≡ true →
      is_one_of (words_in (html_elements (word ∷ words)) ns) local ≡ true
  named_still Html local is = first (bytes_eq local word) is where
    first : (a : Bool) → (a || false) ≡ true → (a || is_one_of words local) ≡ true
    first true e = refl
    first false e = absurd (false≢true e)
  named_still MathMl local is = is
  named_still Svg local is = is
  named_still (Other text) local is = is

  one_by : (a b c d : Bool) → (a ≡ true → c ≡ true) → (b ≡ true → d ≡ true) → (a || b) ≡ true → (c || d) ≡ true
  one_by true b c d f g is = ap (λ x. x || d) (f refl)
  one_by false b c d f g is = or_else c d (g is)

  one_among : (names : List QualName) → has_one (one word) names ≡ true →
      has_one (html_elements (word ∷ words)) names ≡ true
  one_among [] is = absurd (false≢true is)
  one_among (name ∷ names) is = one_by (is_element_of (one word) name) (has_one (one word) names)
      (is_element_of (html_elements (word ∷ words)) name) (has_one (html_elements (word ∷ words)) names)
      (named_still name.ns name.local) (one_among names) is

-- what is left of some words has counts as these have, and where one of its first is open, one of them is
pub counts_left : (wanted : List KnownName) (i : ℕ) (d : KnownName) → i < length wanted →
    has_counts (html_elements (map known_text (drop i wanted))) ≡ true →
    has_counts (one (known_text (slice_index_or wanted i d))) ≡ true
    × (has_counts (html_elements (map known_text (drop (i + 1) wanted))) ≡ true)
counts_left wanted i d more h =
    let word = known_text (slice_index_or wanted i d) in
    let rest = map known_text (drop (i + 1) wanted) in
    let parts = and_parts (is_one_of counted_names word) (has_counts (html_elements rest))
    (subst (λ l. has_counts (html_elements (map known_text l)) ≡ true) (drop_more wanted i d more) h) in
    (ap (λ b. b && true) parts.0, parts.1)

pub one_left : (wanted : List KnownName) (i : ℕ) (d : KnownName) (names : List QualName) → i < length wanted →
    (has_counts (one (known_text (slice_index_or wanted i d))) ≡ true →
    has_one (one (known_text (slice_index_or wanted i d))) names ≡ true) →
    has_counts (html_elements (map known_text (drop i wanted))) ≡ true →
    has_one (html_elements (map known_text (drop i wanted))) names ≡ true
one_left wanted i d names more is counts =
    ap (λ l. has_one (html_elements (map known_text l)) names) (drop_more wanted i d more)
    ∙ one_among (known_text (slice_index_or wanted i d)) (map known_text (drop (i + 1) wanted)) names
    (is (counts_left wanted i d more counts).0)

-- where the count that a word shares is 0, no element of another namespace has it for its name in lower case
same_share : (word name : List ℕ) → map to_ascii_lowercase name ≡ word → shared_count name ≡ shared_count word
same_share word name is = ap (λ cs. 60 + share_of 0 cs) (sym (twice_lower name) ∙ ap (map to_ascii_lowercase) is) where
  twice_lower : (cs : List ℕ) → map to_ascii_lowercase (map to_ascii_lowercase cs) ≡ map to_ascii_lowercase cs
  twice_lower [] = refl
  twice_lower (c ∷ cs) = ap₂ (λ d ds. d ∷ ds) (lowercase-lowercase c) (twice_lower cs)

module _ (word : List ℕ) (names : List QualName) where
  not_shared : (name : List ℕ) (is_word : Bool) → bytes_eq (map to_ascii_lowercase name) word ≡ is_word →
      slice_index_or (one_more (shared_count name) (counts_of names)) (shared_count word) 0 ≡ 0 → is_word ≡ false
  not_shared name false is none = refl
  not_shared name true is none = absurd (omega (
    arith,
    none,
    ap (λ k. slice_index_or (one_more k (counts_of names)) (shared_count word) 0)
        (same_share word name ((bytes_eq-Decides (map to_ascii_lowercase name) word).0 is)),
    more_there (shared_count word) (counts_of names) (omega (arith, shared_within word, as_many_counts names)),
  ))

  not_foreign : (ns : Namespace) (name : List ℕ) →
      slice_index_or (one_more (count_in ns name) (counts_of names)) (shared_count word) 0 ≡ 0 →
      is_foreign_in word ns name ≡ false
  not_foreign Html name none = refl
  not_foreign MathMl name none = not_shared name (bytes_eq (map to_ascii_lowercase name) word) refl none
  not_foreign Svg name none = not_shared name (bytes_eq (map to_ascii_lowercase name) word) refl none
  not_foreign (Other text) name none = not_shared name (bytes_eq (map to_ascii_lowercase name) word) refl none

pub none_foreign : (word : List ℕ) (names : List QualName) →
    slice_index_or (counts_of names) (shared_count word) 0 ≡ 0 → has_foreign word names ≡ false
none_foreign word [] none = refl
none_foreign word (name ∷ names) none =
    let there = none_foreign word names (omega (
      arith,
      none,
      more_least (shared_count word) (count_of name) (counts_of names),
    )) in
    ap (λ b. b || has_foreign word names) (not_foreign word names name.ns name.local none) ∙ there
