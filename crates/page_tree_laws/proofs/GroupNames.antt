-- Names of tags by their groups, and sets of names that have none in common: each is known by a test on its words.
use Rattle.std.proofs.Common.{◌≡◌, ◌||◌, ◌&&◌, if◌then◌else◌, [], ◌∷◌, ◌∙◌, Bool, List, ap, bytes_eq, codes, false, not}
use Rattle.std.proofs.Common.{refl, subst, sym, true, ℕ}
use Rattle.std.proofs.lemmas.Slice.Eq.{bytes_eq-Decides}
use Rattle.html_lexemes.specs.declared.names.Namespace.{Namespace}
use Rattle.html_lexemes.specs.declared.names.Namespace.TheVariants.{Html, MathMl, Other, Svg}
use Rattle.html_lexemes.specs.declared.names.QualName.{QualName}
use Rattle.tree_names.specs.ElementSets.{implied_end_tags, section_names}
use Rattle.tree_names.specs.Sets.{Elements, html_elements, is_element_of, is_one_of, words_in}
use Rattle.tree_names.specs.Wanted.{is_implied}
use Rattle.page_tree_laws.proofs.Guards.{base_names}
use Rattle.tree_names.specs.Groups.{group_in, tag_group, tag_groups}
use Rattle.tree_names.specs.declared.group.TagGroup.{TagGroup}
use Rattle.tree_names.specs.declared.group.TagGroup.TheVariants as groups

-- each word passes a test, and a test turned round
abbrev pub all_pass : (List ℕ → Bool) → List (List ℕ) → Bool
all_pass test [] = true
all_pass test (word ∷ words) = if test word then all_pass test words else false

abbrev pub fails : (List ℕ → Bool) → List ℕ → Bool
fails test word = if test word then false else true

pub opposite : {A : Type 0} (b : Bool) → b ≡ true → b ≡ false → A
opposite b is off = absurd (let k : true ≡ false = sym is ∙ off in cc)

-- what is one of these words passes where each does
pass_by : (test : List ℕ → Bool) (word name : List ℕ) (b c later found : Bool) → bytes_eq name word ≡ b →
    test word ≡ c → (if c then later else false) ≡ true → (b || found) ≡ true →
    (later ≡ true → found ≡ true → test name ≡ true) → test name ≡ true
pass_by test word name b false later found e f all is more = absurd (let k : false ≡ true = all in cc)
pass_by test word name true true later found e f all is more =
    subst (λ v. test v ≡ true) (sym ((bytes_eq-Decides name word).0 e)) f
pass_by test word name false true later found e f all is more = more all is

pub passes : (test : List ℕ → Bool) (words : List (List ℕ)) (name : List ℕ) → all_pass test words ≡ true →
    is_one_of words name ≡ true → test name ≡ true
passes test [] name all is = absurd (let k : false ≡ true = is in cc)
passes test (word ∷ words) name all is = pass_by test word name (bytes_eq name word) (test word)
    (all_pass test words) (is_one_of words name) refl refl all is (passes test words name)

turned : (b : Bool) → (if b then false else true) ≡ true → b ≡ false
turned true e = absurd (let k : false ≡ true = e in cc)
turned false e = refl

-- it fails where each does
pub fails_too : (test : List ℕ → Bool) (words : List (List ℕ)) (name : List ℕ) → all_pass (fails test) words ≡ true →
    is_one_of words name ≡ true → test name ≡ false
fails_too test words name all is = turned (test name) (passes (fails test) words name all is)

-- what passes is none of the words that fail
pub apart : (test : List ℕ → Bool) (words : List (List ℕ)) (name : List ℕ) → all_pass (fails test) words ≡ true →
    test name ≡ true → is_one_of words name ≡ false
apart test words name all is = by (is_one_of words name) refl where
  by : (b : Bool) → is_one_of words name ≡ b → is_one_of words name ≡ false
  by true e = opposite (test name) is (fails_too test words name all e)
  by false e = e

one_by : (b : Bool) → b ≡ false → (if (if b then false else true) then true else false) ≡ true
one_by true e = absurd (let k : true ≡ false = e in cc)
one_by false e = refl

-- one word that fails
pub one_fails : (test : List ℕ → Bool) (word : List ℕ) → test word ≡ false → all_pass (fails test) (word ∷ []) ≡ true
one_fails test word e = one_by (test word) e

-- the same of elements of HTML
fails_in : (words others : List (List ℕ)) (ns : Namespace) (local : List ℕ) →
    all_pass (fails (is_one_of others)) words ≡ true →
    is_one_of (words_in (html_elements words) ns) local ≡ true →
    is_one_of (words_in (html_elements others) ns) local ≡ false
fails_in words others Html local all is = fails_too (is_one_of others) words local all is
fails_in words others MathMl local all is = refl
fails_in words others Svg local all is = refl
fails_in words others (Other text) local all is = refl

pub element_fails : (words others : List (List ℕ)) (name : QualName) →
    all_pass (fails (is_one_of others)) words ≡ true → is_element_of (html_elements words) name ≡ true →
    is_element_of (html_elements others) name ≡ false
element_fails words others name all is = fails_in words others name.ns name.local all is

pub element_apart : (words others : List (List ℕ)) (name : QualName) →
    all_pass (fails (is_one_of others)) words ≡ true → is_element_of (html_elements others) name ≡ true →
    is_element_of (html_elements words) name ≡ false
element_apart words others name all is = by (is_element_of (html_elements words) name) refl where
  by : (b : Bool) → is_element_of (html_elements words) name ≡ b → is_element_of (html_elements words) name ≡ false
  by true e = opposite (is_element_of (html_elements others) name) is (element_fails words others name all e)
  by false e = e

passes_in : (words others : List (List ℕ)) (ns : Namespace) (local : List ℕ) →
    all_pass (is_one_of others) words ≡ true → is_one_of (words_in (html_elements words) ns) local ≡ true →
    is_one_of (words_in (html_elements others) ns) local ≡ true
passes_in words others Html local all is = passes (is_one_of others) words local all is
passes_in words others MathMl local all is = is
passes_in words others Svg local all is = is
passes_in words others (Other text) local all is = is

pub element_passes : (words others : List (List ℕ)) (name : QualName) → all_pass (is_one_of others) words ≡ true →
    is_element_of (html_elements words) name ≡ true → is_element_of (html_elements others) name ≡ true
element_passes words others name all is = passes_in words others name.ns name.local all is

-- an element of a set that has no implied name, or is excepted, isn't implied
abbrev pub IsUnimplied : Elements → Elements → Type 0
IsUnimplied except set = (name : QualName) → is_element_of set name ≡ true → is_implied except name ≡ false

both_off : (b c : Bool) → b ≡ false → (b && c) ≡ false
both_off true c e = absurd (let k : true ≡ false = e in cc)
both_off false c e = refl

second_off : (b c : Bool) → c ≡ true → (b && not c) ≡ false
second_off true true e = refl
second_off false true e = refl
second_off b false e = absurd (let k : false ≡ true = e in cc)

pub unimplied_words : (except : Elements) (words : List (List ℕ)) →
    all_pass (fails (is_one_of implied_end_tags.html)) words ≡ true → IsUnimplied except (html_elements words)
unimplied_words except words all name is = both_off (is_element_of implied_end_tags name)
    (not (is_element_of except name)) (element_fails words implied_end_tags.html name all is)

pub excepted : (set : Elements) → IsUnimplied set set
excepted set name is = second_off (is_element_of implied_end_tags name) (is_element_of set name) is

-- names of a group are none of the words of other groups
pub group_apart : (is : TagGroup → Bool) (words : List (List ℕ)) (name : List ℕ) (group : TagGroup) →
    all_pass (fails (λ word. is (tag_group word))) words ≡ true → tag_group name ≡ group → is group ≡ true →
    is_one_of words name ≡ false
group_apart is words name group all e own = apart (λ word. is (tag_group word)) words name all (ap is e ∙ own)

-- groups without a name of what stands lowest, and without one that is implied
abbrev pub is_free_group : TagGroup → Bool
is_free_group groups.Html = false
is_free_group groups.Head = false
is_free_group groups.Body = false
is_free_group groups.Frameset = false
is_free_group groups.Template = false
is_free_group _ = true

abbrev pub is_unimplied_group : TagGroup → Bool
is_unimplied_group groups.Definition = false
is_unimplied_group groups.ListItem = false
is_unimplied_group groups.OptionGroup = false
is_unimplied_group groups.OptionItem = false
is_unimplied_group groups.Paragraph = false
is_unimplied_group groups.RubyBase = false
is_unimplied_group groups.RubyText = false
is_unimplied_group _ = true

base_fails : all_pass (fails (λ word. is_free_group (tag_group word))) base_names ≡ true
unfolding tag_group
base_fails = refl

pub no_base_name : (name : List ℕ) (group : TagGroup) → tag_group name ≡ group → is_free_group group ≡ true →
    is_one_of base_names name ≡ false
no_base_name name group e own = group_apart is_free_group base_names name group base_fails e own

implied_fails : all_pass (fails (λ word. is_unimplied_group (tag_group word))) implied_end_tags.html ≡ true
unfolding tag_group
implied_fails = refl

pub no_implied_name : (name : List ℕ) (group : TagGroup) → tag_group name ≡ group →
    is_unimplied_group group ≡ true → is_one_of implied_end_tags.html name ≡ false
no_implied_name name group e own =
    group_apart is_unimplied_group implied_end_tags.html name group implied_fails e own

-- names of a group are among the words of its rows
abbrev rows_pass : (TagGroup → Bool) → List (List ℕ) → List (List (List ℕ) × TagGroup) → Bool
rows_pass is words [] = true
rows_pass is words (row ∷ rows) = if is row.1
    then (if all_pass (is_one_of words) row.0 then rows_pass is words rows else false) else rows_pass is words rows

found_by : (is : TagGroup → Bool) (words own : List (List ℕ)) (name : List ℕ) (g rest : TagGroup)
    (b c all later : Bool) → is g ≡ b → is_one_of own name ≡ c → all_pass (is_one_of words) own ≡ all →
    (if b then (if all then later else false) else later) ≡ true → is (if c then g else rest) ≡ true →
    (later ≡ true → is rest ≡ true → is_one_of words name ≡ true) → is_one_of words name ≡ true
found_by is words own name g rest true true true later e f h pass found more = passes (is_one_of words) own name h f
found_by is words own name g rest true false true later e f h pass found more = more pass found
found_by is words own name g rest true c false later e f h pass found more =
    absurd (let k : false ≡ true = pass in cc)
found_by is words own name g rest false true all later e f h pass found more = opposite (is g) found e
found_by is words own name g rest false false all later e f h pass found more = more pass found

found_in : (is : TagGroup → Bool) (words : List (List ℕ)) (rows : List (List (List ℕ) × TagGroup)) (name : List ℕ) →
    is groups.Other ≡ false → rows_pass is words rows ≡ true → is (group_in rows name) ≡ true →
    is_one_of words name ≡ true
found_in is words [] name none pass found = opposite (is groups.Other) found none
found_in is words (row ∷ rows) name none pass found =
    found_by is words row.0 name row.1 (group_in rows name) (is row.1) (is_one_of row.0 name)
    (all_pass (is_one_of words) row.0) (rows_pass is words rows) refl refl refl pass found
    (found_in is words rows name none)

abbrev is_section : TagGroup → Bool
is_section groups.Section = true
is_section _ = false

pub section_named : (name : List ℕ) → tag_group name ≡ groups.Section → is_one_of section_names name ≡ true
unfolding tag_group
section_named name e = found_in is_section section_names tag_groups name refl refl (ap is_section e)

-- names of a group of one word
one_word : (b : Bool) (word name : List ℕ) → bytes_eq name word ≡ b → (b || false) ≡ true → name ≡ word
one_word true word name e is = (bytes_eq-Decides name word).0 e
one_word false word name e is = absurd (let k : false ≡ true = is in cc)

pub group_word : (is : TagGroup → Bool) (word name : List ℕ) (group : TagGroup) → is groups.Other ≡ false →
    rows_pass is (word ∷ []) tag_groups ≡ true → tag_group name ≡ group → is group ≡ true → name ≡ word
unfolding tag_group
group_word is word name group none pass e own = one_word (bytes_eq name word) word name refl
    (found_in is (word ∷ []) tag_groups name none pass (ap is e ∙ own))

abbrev is_head : TagGroup → Bool
is_head groups.Head = true
is_head _ = false

abbrev is_body : TagGroup → Bool
is_body groups.Body = true
is_body _ = false

abbrev is_frameset : TagGroup → Bool
is_frameset groups.Frameset = true
is_frameset _ = false

abbrev is_template : TagGroup → Bool
is_template groups.Template = true
is_template _ = false

pub head_named : (name : List ℕ) → tag_group name ≡ groups.Head → name ≡ codes "head"
head_named name e = group_word is_head (codes "head") name groups.Head refl refl e refl

pub body_named : (name : List ℕ) → tag_group name ≡ groups.Body → name ≡ codes "body"
body_named name e = group_word is_body (codes "body") name groups.Body refl refl e refl

pub frameset_named : (name : List ℕ) → tag_group name ≡ groups.Frameset → name ≡ codes "frameset"
frameset_named name e = group_word is_frameset (codes "frameset") name groups.Frameset refl refl e refl

pub template_named : (name : List ℕ) → tag_group name ≡ groups.Template → name ≡ codes "template"
template_named name e = group_word is_template (codes "template") name groups.Template refl refl e refl

abbrev is_root_group : TagGroup → Bool
is_root_group groups.Html = true
is_root_group _ = false

abbrev is_noscript : TagGroup → Bool
is_noscript groups.Noscript = true
is_noscript _ = false

pub html_named : (name : List ℕ) → tag_group name ≡ groups.Html → name ≡ codes "html"
html_named name e = group_word is_root_group (codes "html") name groups.Html refl refl e refl

pub noscript_named : (name : List ℕ) → tag_group name ≡ groups.Noscript → name ≡ codes "noscript"
noscript_named name e = group_word is_noscript (codes "noscript") name groups.Noscript refl refl e refl
