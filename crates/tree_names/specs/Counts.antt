-- How many elements of each name are open (WHATWG HTML, 13.2.4.2): the names that tests of scope ask about have a count
-- each, all others share 128.
use Rattle.std.specs.Prelude.{◌+◌, ◌*◌, ◌%◌, [], ◌∷◌, ◌||◌, if◌then◌else◌, Bool, List, bytes_eq, codes, false, map, suc}
use Rattle.std.specs.Prelude.{zero, ℕ}
use Rattle.std.specs.Bool.{nat_lt}
use Rattle.std.specs.Char.{to_ascii_lowercase}
use Rattle.std.specs.List.{list_all}
use Rattle.html_lexemes.specs.declared.names.Namespace.{Namespace}
use Rattle.html_lexemes.specs.declared.names.Namespace.TheVariants.{Html, MathMl, Svg, Other}
use Rattle.html_lexemes.specs.declared.names.QualName.{QualName}
use Rattle.tree_names.specs.Sets.{Elements, is_element_of, is_one_of}

-- the names that tests of scope ask about (13.2.6.4.7 to 13.2.6.4.15), what is asked most often first
abbrev pub counted_names : List (List ℕ)
counted_names = codes "p" ∷ codes "div" ∷ codes "li" ∷ codes "ul" ∷ codes "a" ∷ codes "button" ∷ codes "table"
    ∷ codes "td" ∷ codes "th" ∷ codes "tr" ∷ codes "tbody" ∷ codes "thead" ∷ codes "tfoot" ∷ codes "caption"
    ∷ codes "template"
    ∷ codes "select" ∷ codes "form" ∷ codes "body" ∷ codes "html" ∷ codes "dd" ∷ codes "dt" ∷ codes "dl" ∷ codes "ol"
    ∷ codes "h1" ∷ codes "h2" ∷ codes "h3" ∷ codes "h4" ∷ codes "h5" ∷ codes "h6" ∷ codes "nobr" ∷ codes "ruby"
    ∷ codes "option" ∷ codes "optgroup" ∷ codes "rtc" ∷ codes "colgroup" ∷ codes "section" ∷ codes "article"
    ∷ codes "header" ∷ codes "footer" ∷ codes "nav" ∷ codes "main" ∷ codes "aside" ∷ codes "figure"
    ∷ codes "figcaption" ∷ codes "blockquote" ∷ codes "pre" ∷ codes "details" ∷ codes "summary" ∷ codes "fieldset"
    ∷ codes "address" ∷ codes "center" ∷ codes "menu" ∷ codes "hgroup" ∷ codes "dialog" ∷ codes "dir"
    ∷ codes "listing" ∷ codes "search" ∷ codes "applet" ∷ codes "marquee" ∷ codes "object" ∷ []

-- how many words stand before a name; all of them where it is none of them
abbrev pub words_before : List (List ℕ) → List ℕ → ℕ
words_before [] name = 0
words_before (word ∷ words) name = if bytes_eq name word then 0 else suc (words_before words name)

-- the count that a name shares, by a number that is made of its letters, in either case alike
abbrev pub share_of : ℕ → List ℕ → ℕ
share_of share [] = share
share_of share (c ∷ cs) = share_of ((share * 31 + c) % 128) cs

abbrev pub shared_count : List ℕ → ℕ
shared_count name = 60 + share_of 0 (map to_ascii_lowercase name)

-- which count an element has: that of its name, or one that it shares
abbrev pub own_or_shared : ℕ → List ℕ → ℕ
own_or_shared place name = if nat_lt place 60 then place else shared_count name

abbrev pub count_in : Namespace → List ℕ → ℕ
count_in Html name = own_or_shared (words_before counted_names name) name
count_in MathMl name = shared_count name
count_in Svg name = shared_count name
count_in (Other text) name = shared_count name

abbrev pub count_of : QualName → ℕ
count_of name = count_in name.ns name.local

-- one more in one of some counts
abbrev pub one_more : ℕ → List ℕ → List ℕ
one_more k [] = []
one_more zero (count ∷ counts) = suc count ∷ counts
one_more (suc k) (count ∷ counts) = count ∷ one_more k counts

abbrev pub zeros : ℕ → List ℕ
zeros zero = []
zeros (suc k) = 0 ∷ zeros k

-- the counts of elements of these names
abbrev pub counts_of : List QualName → List ℕ
counts_of [] = zeros 188
counts_of (name ∷ names) = one_more (count_of name) (counts_of names)

-- some of these names is one of a set
abbrev pub has_one : Elements → List QualName → Bool
has_one set [] = false
has_one set (name ∷ names) = is_element_of set name || has_one set names

-- some of these names is one of another namespace than HTML, and in lower case a word
abbrev pub is_foreign_in : List ℕ → Namespace → List ℕ → Bool
is_foreign_in word Html name = false
is_foreign_in word MathMl name = bytes_eq (map to_ascii_lowercase name) word
is_foreign_in word Svg name = bytes_eq (map to_ascii_lowercase name) word
is_foreign_in word (Other text) name = bytes_eq (map to_ascii_lowercase name) word

abbrev pub has_foreign : List ℕ → List QualName → Bool
has_foreign word [] = false
has_foreign word (name ∷ names) = is_foreign_in word name.ns name.local || has_foreign word names

-- each word of a set of elements of HTML has a count of its own
abbrev pub has_counts : Elements → Bool
has_counts set = list_all (is_one_of counted_names) set.html
