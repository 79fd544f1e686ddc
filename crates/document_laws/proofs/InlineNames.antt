-- Names of marks and of links, and what the rules of the body make of their tags.
use Rattle.std.proofs.Common.{◌≡◌, ◌||◌, [], ◌∷◌, ◌∙◌, Bool, List, None, ap, bytes_eq, codes, false, refl, subst, sym}
use Rattle.std.proofs.Common.{true, ℕ}
use Rattle.std.proofs.lemmas.Slice.Eq.{bytes_eq-Decides}
use Rattle.tree_formatting.specs.Entries.{last_named}
use Rattle.html_lexemes.specs.declared.token.Tag.{Tag}
use Rattle.tree_names.specs.Sets.{is_html, is_one_of}
use Rattle.tree_names.specs.TagSets.{formatting}
use Rattle.tree_names.specs.Groups.{tag_group}
use Rattle.tree_names.specs.declared.group.TagGroup.{TagGroup}
use Rattle.tree_names.specs.declared.group.TagGroup.TheVariants as groups
use Rattle.rules_table.specs.Actions.{adopt}
use Rattle.rules_table.specs.InBody.{in_body_start}
use Rattle.rules_table.specs.InBodyEnds.{in_body_end}
use Rattle.rules_table.specs.InBodyPhrases.{anchor_after, formatting_start, void_phrase_start}
use Rattle.rules_table.specs.Rows.{done}
use Rattle.rules_table.specs.State.{State}
use Rattle.document_laws.specs.Contents.{marks}
use Rattle.document_laws.specs.Planted.{of_html}

-- what holds of one of some names
either : (b c : Bool) (P : Type 0) → (b || c) ≡ true → (b ≡ true → P) → (c ≡ true → P) → P
either true c P e first later = first refl
either false c P e first later = later e

abbrev pub ForAll : (List ℕ → Type 0) → List (List ℕ) → Type 0
ForAll P [] = Unit {0}
ForAll P (word ∷ words) = P word × ForAll P words

pub for_one : (P : List ℕ → Type 0) (words : List (List ℕ)) (name : List ℕ) → ForAll P words →
    is_one_of words name ≡ true → P name
for_one P [] name all is = absurd (let k : false ≡ true = is in cc)
for_one P (word ∷ words) name all is = either (bytes_eq name word) (is_one_of words name) (P name) is
    (λ e. subst P (sym ((bytes_eq-Decides name word).0 e)) all.0)
    (λ e. for_one P words name all.1 e)

-- the name of an element that is listed
pub record IsListedName (name : List ℕ) : Type 0 where
  pub kept : is_one_of formatting name ≡ true
  pub plain : is_html (codes "template") (of_html name) ≡ false
  pub same : bytes_eq name name ≡ true
  pub ends : is_one_of (codes "br" ∷ []) name ≡ false
  pub closing : (t : Tag) (s : State) → in_body_end (tag_group name) t s ≡ done (adopt t.name ∷ [])

by_group : (group : TagGroup) (t : Tag) (s : State) → group ≡ groups.Formatting →
    in_body_end group t s ≡ done (adopt t.name ∷ [])
by_group group t s e = ap (λ g. in_body_end g t s) e

by_anchor : (group : TagGroup) (t : Tag) (s : State) → group ≡ groups.Anchor →
    in_body_end group t s ≡ done (adopt t.name ∷ [])
by_anchor group t s e = ap (λ g. in_body_end g t s) e

-- a mark isn't a link
pub record IsMarkName (name : List ℕ) : Type 0 where
  pub listed : IsListedName name
  pub no_link : bytes_eq name (codes "a") ≡ false
  pub group : tag_group name ≡ groups.Formatting

mark_name : (name : List ℕ) → is_one_of formatting name ≡ true → is_html (codes "template") (of_html name) ≡ false →
    bytes_eq name name ≡ true → is_one_of (codes "br" ∷ []) name ≡ false → bytes_eq name (codes "a") ≡ false →
    tag_group name ≡ groups.Formatting → IsMarkName name
mark_name name kept plain same ends no_link group = record {
  listed = record {
    kept = kept;
    plain = plain;
    same = same;
    ends = ends;
    closing = λ t s. by_group (tag_group name) t s group;
  };
  no_link = no_link;
  group = group;
}

group_b : tag_group (codes "b") ≡ groups.Formatting
unfolding tag_group
group_b = refl

group_i : tag_group (codes "i") ≡ groups.Formatting
unfolding tag_group
group_i = refl

group_em : tag_group (codes "em") ≡ groups.Formatting
unfolding tag_group
group_em = refl

group_code : tag_group (codes "code") ≡ groups.Formatting
unfolding tag_group
group_code = refl

group_strong : tag_group (codes "strong") ≡ groups.Formatting
unfolding tag_group
group_strong = refl

group_a : tag_group (codes "a") ≡ groups.Anchor
unfolding tag_group
group_a = refl

group_br : tag_group (codes "br") ≡ groups.LineBreak
unfolding tag_group
group_br = refl

pub mark_is : (name : List ℕ) → is_one_of marks name ≡ true → IsMarkName name
mark_is name is = for_one IsMarkName marks name (
  mark_name (codes "b") refl refl refl refl refl group_b,
  (
    mark_name (codes "i") refl refl refl refl refl group_i,
    (
      mark_name (codes "em") refl refl refl refl refl group_em,
      (
        mark_name (codes "code") refl refl refl refl refl group_code,
        (mark_name (codes "strong") refl refl refl refl refl group_strong, tt),
      ),
    ),
  ),
) is

pub mark_opens : (name : List ℕ) (t : Tag) (s : State) → IsMarkName name →
    in_body_start (tag_group name) t s ≡ formatting_start t
mark_opens name t s is = ap (λ g. in_body_start g t s) is.group

pub link_is : IsListedName (codes "a")
link_is = record {
  kept = refl;
  plain = refl;
  same = refl;
  ends = refl;
  closing = λ t s. by_anchor (tag_group (codes "a")) t s group_a;
}

pub link_opens : (t : Tag) (s : State) → last_named t.name s.tree.formatting ≡ None →
    in_body_start (tag_group (codes "a")) t s ≡ formatting_start t
link_opens t s none = ap (λ g. in_body_start g t s) group_a ∙ ap (λ n. anchor_after n t) none

pub break_opens : (t : Tag) (s : State) → in_body_start (tag_group (codes "br")) t s ≡ void_phrase_start t
break_opens t s = ap (λ g. in_body_start g t s) group_br
