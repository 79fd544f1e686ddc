-- Names that are barred from the stack of open elements: `template`, `frameset` and `colgroup` of HTML. Formatting
-- elements have other names; and which elements are left on a stack, and which tags in a list of formatting elements.
use Rattle.std.proofs.Common.{◌≡◌, ◌⊎◌, ◌==◌, ◌||◌, if◌then◌else◌, [], ◌∷◌, Bool, List, None, Option, Some, bytes_eq}
use Rattle.std.proofs.Common.{codes, false, inl, inr, refl, subst, sym, true, ℕ}
use Rattle.std.proofs.lemmas.Slice.Eq.{bytes_eq-Decides}
use Rattle.std.specs.Bool.{nat_lt}
use Rattle.tree_formatting.specs.Alike.{count_alike}
use Rattle.tree_formatting.specs.Entries.{Entry, before_marker, formatted, given_to, handed_over, is_of, marker}
use Rattle.tree_formatting.specs.Entries.{moved_after, put_after, tag_if, tag_in, up_to_marker, without_entry}
use Rattle.tree_formatting.specs.Pushing.{pushed, without_earliest}
use Rattle.tree_forest.specs.Changes.{left_out}
use Rattle.tree_forest.specs.Forest.{Forest, is_integration_point, name_of}
use Rattle.tree_forest.specs.Orders.{IsIn}
use Rattle.tree_forest.specs.Places.{put_before}
use Rattle.html_lexemes.specs.declared.names.Namespace.TheVariants.{Html}
use Rattle.html_lexemes.specs.declared.names.QualName.{QualName}
use Rattle.html_lexemes.specs.declared.token.Tag.{Tag}
use Rattle.html_tree_state.specs.Adoption.{replaced}
use Rattle.html_tree_state.specs.Foreign.{from_html}
use Rattle.html_tree_state.specs.Formatting.{is_kept, made_already, to_make}
use Rattle.html_tree_state.specs.OpenElements.{below_current, below_first, farther, from_first}
use Rattle.html_tree_state.specs.Scopes.{without_implied}
use Rattle.html_tree_state.specs.Sound.{IsFormatting, IsListed}
use Rattle.tree_names.specs.Sets.{Elements, html_elements, is_element_of, is_one_of}
use Rattle.tree_names.specs.TagSets.{formatting}
use Rattle.tree_names.specs.Wanted.{is_implied}
use Rattle.tree_predicates.specs.Foreign.{stops_break_out}

abbrev pub barred : List (List ℕ)
barred = codes "template" ∷ codes "frameset" ∷ codes "colgroup" ∷ []

abbrev pub is_barred : QualName → Bool
is_barred name = is_element_of (html_elements barred) name

-- a formatting element is none of them
isnt : (word name : List ℕ) (b : Bool) → bytes_eq name word ≡ b → is_one_of formatting word ≡ false →
    is_one_of formatting name ≡ true → b ≡ false
isnt word name true same none is = absurd (
    let one : name ≡ word = (bytes_eq-Decides name word).0 same in
    let other : is_one_of formatting word ≡ true = subst (λ n. is_one_of formatting n ≡ true) one is in cc)
isnt word name false same none is = refl

none_of : (a b c : Bool) → a ≡ false → b ≡ false → c ≡ false → (a || (b || (c || false))) ≡ false
none_of a b c h i j = cc

pub formatting_free : (name : List ℕ) → is_one_of formatting name ≡ true →
    is_barred (record { ns = Html; local = name }) ≡ false
formatting_free name is = none_of _ _ _
    (isnt (codes "template") name (bytes_eq name (codes "template")) refl refl is)
    (isnt (codes "frameset") name (bytes_eq name (codes "frameset")) refl refl is)
    (isnt (codes "colgroup") name (bytes_eq name (codes "colgroup")) refl refl is)

-- what is left of a stack was there
abbrev pub AreLeft : List ℕ → List ℕ → Type 0
AreLeft ms ns = (n : ℕ) → IsIn n ms → IsIn n ns

left_by : (b : Bool) (n : ℕ) (ns ms ks : List ℕ) → AreLeft ms (n ∷ ns) → AreLeft ks (n ∷ ns) →
    AreLeft (if b then ms else ks) (n ∷ ns)
left_by true n ns ms ks f g = f
left_by false n ns ms ks f g = g

deeper : (n : ℕ) (ns ms : List ℕ) → AreLeft ms ns → AreLeft ms (n ∷ ns)
deeper n ns ms f k i = inr (f k i)

with_first : (n : ℕ) (ns ms : List ℕ) → AreLeft ms ns → AreLeft (n ∷ ms) (n ∷ ns)
with_first n ns ms f k (inl e) = inl e
with_first n ns ms f k (inr i) = inr (f k i)

all_left : (ns : List ℕ) → AreLeft ns ns
all_left ns n i = i

pub below_current_left : (ns : List ℕ) → AreLeft (below_current ns) ns
below_current_left [] n i = absurd i
below_current_left (m ∷ ms) n i = inr i

pub below_first_left : (set : Elements) (f : Forest) (ns : List ℕ) → AreLeft (below_first set f ns) ns
below_first_left set f [] = all_left []
below_first_left set f (n ∷ ns) = left_by (is_element_of set (name_of n f)) n ns ns (below_first set f ns)
    (deeper n ns ns (all_left ns)) (deeper n ns (below_first set f ns) (below_first_left set f ns))

pub from_first_left : (set : Elements) (f : Forest) (ns : List ℕ) → AreLeft (from_first set f ns) ns
from_first_left set f [] = all_left []
from_first_left set f (n ∷ ns) = left_by (is_element_of set (name_of n f)) n ns (n ∷ ns) (from_first set f ns)
    (all_left (n ∷ ns)) (deeper n ns (from_first set f ns) (from_first_left set f ns))

pub from_html_left : (f : Forest) (ns : List ℕ) → AreLeft (from_html f ns) ns
from_html_left f [] = all_left []
from_html_left f (n ∷ ns) = left_by (stops_break_out (name_of n f) (is_integration_point n f)) n ns (n ∷ ns)
    (from_html f ns) (all_left (n ∷ ns)) (deeper n ns (from_html f ns) (from_html_left f ns))

pub without_implied_left : (except : Elements) (f : Forest) (ns : List ℕ) → AreLeft (without_implied except f ns) ns
without_implied_left except f [] = all_left []
without_implied_left except f (n ∷ ns) = left_by (is_implied except (name_of n f)) n ns (without_implied except f ns)
    (n ∷ ns) (deeper n ns (without_implied except f ns) (without_implied_left except f ns)) (all_left (n ∷ ns))

pub left_out_left : (m : ℕ) (ns : List ℕ) → AreLeft (left_out m ns) ns
left_out_left m [] = all_left []
left_out_left m (n ∷ ns) = left_by (n == m) n ns (left_out m ns) (n ∷ left_out m ns)
    (deeper n ns (left_out m ns) (left_out_left m ns)) (with_first n ns (left_out m ns) (left_out_left m ns))

pub farther_left : (m : ℕ) (ns : List ℕ) → AreLeft (farther m ns) ns
farther_left m [] = all_left []
farther_left m (n ∷ ns) = left_by (n == m) n ns ns (farther m ns)
    (deeper n ns ns (all_left ns)) (deeper n ns (farther m ns) (farther_left m ns))

-- one more, or one in the place of another
abbrev pub AreLeftOr : ℕ → List ℕ → List ℕ → Type 0
AreLeftOr c ms ns = (n : ℕ) → IsIn n ms → (n ≡ c) ⊎ IsIn n ns

one_or : (c n : ℕ) (ns ms : List ℕ) → AreLeftOr c ms ns → AreLeftOr c (n ∷ ms) (n ∷ ns)
one_or c n ns ms f k (inl e) = inr (inl e)
one_or c n ns ms f k (inr i) = shifted (f k i) where
  shifted : (k ≡ c) ⊎ IsIn k ns → (k ≡ c) ⊎ IsIn k (n ∷ ns)
  shifted (inl e) = inl e
  shifted (inr j) = inr (inr j)

new_or : (c n : ℕ) (ns ms : List ℕ) → AreLeftOr c ms ns → AreLeftOr c (c ∷ ms) (n ∷ ns)
new_or c n ns ms f k (inl e) = inl e
new_or c n ns ms f k (inr i) = shifted (f k i) where
  shifted : (k ≡ c) ⊎ IsIn k ns → (k ≡ c) ⊎ IsIn k (n ∷ ns)
  shifted (inl e) = inl e
  shifted (inr j) = inr (inr j)

new_first : (c : ℕ) (ns : List ℕ) → AreLeftOr c (c ∷ ns) ns
new_first c ns k (inl e) = inl e
new_first c ns k (inr i) = inr i

put_by : (b : Bool) (c n : ℕ) (ns ms : List ℕ) → AreLeftOr c ms ns →
    AreLeftOr c (if b then c ∷ n ∷ ns else n ∷ ms) (n ∷ ns)
put_by true c n ns ms f = new_first c (n ∷ ns)
put_by false c n ns ms f = one_or c n ns ms f

pub put_before_left : (s c : ℕ) (ns : List ℕ) → AreLeftOr c (put_before s c ns) ns
put_before_left s c [] = λ k i. absurd i
put_before_left s c (n ∷ ns) = put_by (n == s) c n ns (put_before s c ns) (put_before_left s c ns)

replaced_by : (b : Bool) (c n : ℕ) (ns ms : List ℕ) → AreLeftOr c ms ns →
    AreLeftOr c ((if b then c else n) ∷ ms) (n ∷ ns)
replaced_by true c n ns ms f = new_or c n ns ms f
replaced_by false c n ns ms f = one_or c n ns ms f

pub replaced_left : (m c : ℕ) (ns : List ℕ) → AreLeftOr c (replaced m c ns) ns
replaced_left m c [] = λ k i. absurd i
replaced_left m c (n ∷ ns) = replaced_by (n == m) c n ns (replaced m c ns) (replaced_left m c ns)

-- each tag of a list is one of formatting
abbrev pub AreFormatting : List Entry → Type 0
AreFormatting [] = Unit {0}
AreFormatting (marker ∷ rest) = AreFormatting rest
AreFormatting (formatted n tag ∷ rest) = (is_one_of formatting tag.name ≡ true) × AreFormatting rest

pub listed_formatting : (f : Forest) (entries : List Entry) →
    ((n : ℕ) (tag : Tag) → IsListed n tag entries → IsFormatting n tag f) → AreFormatting entries
listed_formatting f [] listed = tt
listed_formatting f (marker ∷ rest) listed = listed_formatting f rest listed
listed_formatting f (formatted n tag ∷ rest) listed =
    ((listed n tag (inl (refl, refl))).kind, listed_formatting f rest (λ m held i. listed m held (inr i)))

pub after_entry : (entry : Entry) (rest : List Entry) → AreFormatting (entry ∷ rest) → AreFormatting rest
after_entry marker rest are = are
after_entry (formatted n tag) rest are = are.1

-- an entry and others after it
entry_on : (entry : Entry) (rest more : List Entry) → AreFormatting (entry ∷ rest) → AreFormatting more →
    AreFormatting (entry ∷ more)
entry_on marker rest more are further = further
entry_on (formatted n tag) rest more are further = (are.0, further)

pub formatting_by : (b : Bool) (xs ys : List Entry) → AreFormatting xs → AreFormatting ys →
    AreFormatting (if b then xs else ys)
formatting_by true xs ys f g = f
formatting_by false xs ys f g = g

pub before_marker_formatting : (es : List Entry) → AreFormatting es → AreFormatting (before_marker es)
before_marker_formatting [] are = are
before_marker_formatting (marker ∷ rest) are = are
before_marker_formatting (formatted n tag ∷ rest) are = before_marker_formatting rest are.1

pub without_formatting : (n : ℕ) (es : List Entry) → AreFormatting es → AreFormatting (without_entry n es)
without_formatting n [] are = are
without_formatting n (e ∷ rest) are = formatting_by (is_of n e) rest (e ∷ without_entry n rest)
    (after_entry e rest are)
    (entry_on e rest (without_entry n rest) are (without_formatting n rest (after_entry e rest are)))

given_formatting : (m : ℕ) (e : Entry) (rest : List Entry) → AreFormatting (e ∷ rest) →
    AreFormatting (given_to m e ∷ rest)
given_formatting m marker rest are = are
given_formatting m (formatted n tag) rest are = are

pub handed_formatting : (n m : ℕ) (es : List Entry) → AreFormatting es → AreFormatting (handed_over n m es)
handed_formatting n m [] are = are
handed_formatting n m (e ∷ rest) are = formatting_by (is_of n e) (given_to m e ∷ rest) (e ∷ handed_over n m rest)
    (given_formatting m e rest are)
    (entry_on e rest (handed_over n m rest) are (handed_formatting n m rest (after_entry e rest are)))

put_after_formatting : (n m : ℕ) (tag : Tag) (es : List Entry) → is_one_of formatting tag.name ≡ true →
    AreFormatting es → AreFormatting (put_after n (formatted m tag) es)
put_after_formatting n m tag [] is are = (is, tt)
put_after_formatting n m tag (e ∷ rest) is are =
    formatting_by (is_of n e) (formatted m tag ∷ e ∷ rest) (e ∷ put_after n (formatted m tag) rest) (is, are)
    (entry_on e rest (put_after n (formatted m tag) rest) are
    (put_after_formatting n m tag rest is (after_entry e rest are)))

-- the tag that an element is listed with
tag_by : (b : Bool) (e : Entry) (rest : List Entry) (tag : Tag) (later : Option Tag) → AreFormatting (e ∷ rest) →
    (later ≡ Some tag → is_one_of formatting tag.name ≡ true) → (if b then tag_if e else later) ≡ Some tag →
    is_one_of formatting tag.name ≡ true
tag_by true marker rest tag later are more e = absurd (let k : None ≡ Some tag = e in cc)
tag_by true (formatted n held) rest tag later are more e =
    let same : held ≡ tag = cc in subst (λ (t : Tag). is_one_of formatting t.name ≡ true) same are.0
tag_by false entry rest tag later are more e = more e

pub tag_formatting : (n : ℕ) (es : List Entry) (tag : Tag) → AreFormatting es → tag_in n es ≡ Some tag →
    is_one_of formatting tag.name ≡ true
tag_formatting n [] tag are e = absurd (let k : None ≡ Some tag = e in cc)
tag_formatting n (entry ∷ rest) tag are e = tag_by (is_of n entry) entry rest tag (tag_in n rest) are
    (tag_formatting n rest tag (after_entry entry rest are)) e

moved_none : (n m after : ℕ) (es : List Entry) → tag_in n es ≡ None → moved_after n m after es ≡ es
moved_none n m after es e = rw e

moved_some : (n m after : ℕ) (tag : Tag) (es : List Entry) → tag_in n es ≡ Some tag →
    moved_after n m after es ≡ put_after after (formatted m tag) (without_entry n es)
moved_some n m after tag es e = rw e

moved_by : (n m after : ℕ) (es : List Entry) (found : Option Tag) → tag_in n es ≡ found → AreFormatting es →
    AreFormatting (moved_after n m after es)
moved_by n m after es None e are = subst AreFormatting (sym (moved_none n m after es e)) are
moved_by n m after es (Some tag) e are = subst AreFormatting (sym (moved_some n m after tag es e))
    (put_after_formatting after m tag (without_entry n es) (tag_formatting n es tag are e)
    (without_formatting n es are))

pub moved_formatting : (n m after : ℕ) (es : List Entry) → AreFormatting es →
    AreFormatting (moved_after n m after es)
moved_formatting n m after es are = moved_by n m after es (tag_in n es) refl are

earliest_formatting : (tag : Tag) (es : List Entry) → AreFormatting es → AreFormatting (without_earliest tag es)
earliest_formatting tag [] are = are
earliest_formatting tag (marker ∷ rest) are = are
earliest_formatting tag (formatted n held ∷ rest) are =
    formatting_by _ rest (formatted n held ∷ without_earliest tag rest) are.1
    (are.0, earliest_formatting tag rest are.1)

pub pushed_formatting : (n : ℕ) (tag : Tag) (es : List Entry) → is_one_of formatting tag.name ≡ true →
    AreFormatting es → AreFormatting (pushed n tag es)
pushed_formatting n tag es is are = (
  is,
  formatting_by (nat_lt 2 (count_alike tag (up_to_marker es))) (without_earliest tag es) es
      (earliest_formatting tag es are) are,
)

pub to_make_formatting : (stack : List ℕ) (es : List Entry) → AreFormatting es → AreFormatting (to_make stack es)
to_make_formatting stack [] are = are
to_make_formatting stack (e ∷ rest) are = formatting_by (is_kept stack e) [] (e ∷ to_make stack rest) tt
    (entry_on e rest (to_make stack rest) are (to_make_formatting stack rest (after_entry e rest are)))

pub already_formatting : (stack : List ℕ) (es : List Entry) → AreFormatting es →
    AreFormatting (made_already stack es)
already_formatting stack [] are = are
already_formatting stack (e ∷ rest) are = formatting_by (is_kept stack e) (e ∷ rest) (made_already stack rest) are
    (already_formatting stack rest (after_entry e rest are))
