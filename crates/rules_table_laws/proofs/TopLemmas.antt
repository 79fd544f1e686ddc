-- After a reconstruction of formatting elements the current node is the one that it was, or a formatting element.
use Rattle.std.proofs.Common.{◌≡◌, ◌⊎◌, if◌then◌else◌, [], ◌∷◌, ◌∙◌, ◌||◌, Bool, List, ap, arith, bytes_eq, codes}
use Rattle.std.proofs.Common.{false, inl, inr, refl, subst, suc, sym, true, ℕ}
use Rattle.std.proofs.lemmas.Bool.{cases_Bool}
use Rattle.std.proofs.lemmas.Slice.Eq.{bytes_eq-Decides}
use Rattle.tree_formatting.specs.Entries.{Entry, formatted, marker}
use Rattle.tree_forest.specs.Changes.{contents_number, made, made_element}
use Rattle.tree_forest.specs.Forest.{Forest, Holds, IsElement, Kind, document, element, element_of, kind_at, name_of}
use Rattle.tree_forest.specs.Forest.{nodes}
use Rattle.tree_forest.specs.Places.{Place, put_node}
use Rattle.html_lexemes.specs.declared.names.Attribute.{Attribute}
use Rattle.html_lexemes.specs.declared.names.QualName.{QualName}
use Rattle.html_lexemes.specs.declared.token.Tag.{Tag}
use Rattle.html_tree_state.specs.Building.{Building}
use Rattle.html_tree_state.specs.Formatting.{all_made_anew, made_already, name_for, reconstructed, to_make}
use Rattle.html_tree_state.specs.Insertions.{here}
use Rattle.html_tree_state.specs.Sound.{IsFormatting, IsListed, Sound}
use Rattle.tree_names.specs.ElementSets.{table_text_places}
use Rattle.tree_names.specs.Sets.{is_element_of, is_html, is_one_of}
use Rattle.tree_names.specs.TagSets.{formatting}
use Rattle.tree_predicates.specs.Attributes.{is_html_annotation}

pub record NodeLaws : Type 0 where
  pub put_stays : (place : Place) (n m : ℕ) (f : Forest) → kind_at m (put_node place n f) ≡ kind_at m f
  pub leaf_stays : (kind : Kind) (n : ℕ) (f : Forest) → Holds n f → kind_at n (made kind f) ≡ kind_at n f
  pub made_leaf : (kind : Kind) (f : Forest) → kind_at (nodes f) (made kind f) ≡ kind
  pub size_leaf : (kind : Kind) (f : Forest) → nodes (made kind f) ≡ suc (nodes f)
  pub element_there : (n : ℕ) (f : Forest) → IsElement n f → Holds n f

pub record IsSame (old new : Building) : Type 0 where
  pub stack : new.stack ≡ old.stack
  pub forest : new.forest ≡ old.forest

-- where nothing was open
pub record IsFirst (old new : Building) : Type 0 where
  pub stack : old.stack ≡ []
  pub kinds : (n : ℕ) → Holds n old.forest → kind_at n new.forest ≡ kind_at n old.forest

pub record IsTopped (old new : Building) : Type 0 where
  pub top : ℕ
  pub rest : List ℕ
  pub tag : Tag
  pub stack : new.stack ≡ top ∷ rest
  pub name : name_of top new.forest ≡ name_for tag
  pub kind : is_one_of formatting tag.name ≡ true
  pub alone : rest ≡ [] → IsFirst old new

module _ (laws : NodeLaws) where
  new_name : (name : QualName) (attributes : List Attribute) (t p : Bool) (f : Forest) →
      name_of (nodes f) (made_element name attributes t p f) ≡ name
  new_name name attributes true p f =
      let kind = element (record {
        name = name;
        attributes = attributes;
        contents = contents_number true f;
        integration_point = p;
      }) in
      let size = laws.size_leaf kind f in
      let held : Holds (nodes f) (made kind f) = omega arith in
      ap (λ k. (element_of k).name) (laws.leaf_stays document (nodes f) (made kind f) held ∙ laws.made_leaf kind f)
  new_name name attributes false p f = ap (λ k. (element_of k).name) (laws.made_leaf _ f)

  -- a new element leaves the others what they are
  element_kinds : (name : QualName) (attributes : List Attribute) (t p : Bool) (f : Forest) (n : ℕ) → Holds n f →
      kind_at n (made_element name attributes t p f) ≡ kind_at n f
  element_kinds name attributes true p f n held =
      let kind = element (record {
        name = name;
        attributes = attributes;
        contents = contents_number true f;
        integration_point = p;
      }) in
      let size = laws.size_leaf kind f in
      let holds : Holds n (made kind f) = omega arith in
      laws.leaf_stays document n (made kind f) holds ∙ laws.leaf_stays kind n f held
  element_kinds name attributes false p f n held = laws.leaf_stays _ n f held

  -- what leaves nothing open has made nothing
  emptied : (ms : List Entry) (c : Building) → (all_made_anew ms c).stack ≡ [] → IsSame c (all_made_anew ms c)
  emptied [] c e = record { stack = refl; forest = refl }
  emptied (marker ∷ ms) c e =
      let same : IsSame c (all_made_anew ms c) = emptied ms c e in
      record { stack = same.stack; forest = same.forest }
  emptied (formatted n tag ∷ ms) c e = absurd (cc)

  anew : (x : Bool) (n : ℕ) (tag : Tag) (ms : List Entry) (b c : Building) → c.stack ≡ b.stack →
      c.forest ≡ b.forest → is_one_of formatting tag.name ≡ true →
      IsSame b (all_made_anew (if x then [] else formatted n tag ∷ ms) c)
      ⊎ IsTopped b (all_made_anew (if x then [] else formatted n tag ∷ ms) c)
  anew true n tag ms b c stack forest is = inl (record { stack = stack; forest = forest })
  anew false n tag ms b c stack forest is =
      let d = all_made_anew ms c in
      let t = is_html (codes "template") (name_for tag) in
      let p = is_html_annotation (name_for tag) tag.attrs in
      inr (record {
        top = nodes d.forest;
        rest = d.stack;
        tag = tag;
        stack = refl;
        name = ap (λ k. (element_of k).name)
            (laws.put_stays (here d) (nodes d.forest) (nodes d.forest)
            (made_element (name_for tag) tag.attrs t p d.forest))
            ∙ new_name (name_for tag) tag.attrs t p d.forest;
        kind = is;
        alone = λ e.
            let empty : IsSame c d = emptied ms c e in
            record {
              stack = sym stack ∙ (sym empty.stack ∙ e);
              kinds = λ m held.
                  let same : d.forest ≡ b.forest = empty.forest ∙ forest in
                  let there : Holds m d.forest = subst (Holds m) (sym same) held in
                  laws.put_stays (here d) (nodes d.forest) m (made_element (name_for tag) tag.attrs t p d.forest)
                  ∙ (element_kinds (name_for tag) tag.attrs t p d.forest m there ∙ ap (kind_at m) same);
            };
      })

  topped : (b : Building) (entries : List Entry) →
      ((n : ℕ) (tag : Tag) → IsListed n tag entries → IsFormatting n tag b.forest) →
      IsSame b (all_made_anew (to_make b.stack entries)
      (record b { formatting = made_already b.stack entries }))
      ⊎ IsTopped b (all_made_anew (to_make b.stack entries)
      (record b { formatting = made_already b.stack entries }))
  topped b [] listed = inl (record { stack = refl; forest = refl })
  topped b (marker ∷ rest) listed = inl (record { stack = refl; forest = refl })
  topped b (formatted n tag ∷ rest) listed =
      anew _ n tag (to_make b.stack rest) b
      (record b { formatting = made_already b.stack (formatted n tag ∷ rest) }) refl refl
      (listed n tag (inl (refl, refl))).kind

  pub reconstructed_top : (b : Building) → Sound b → IsSame b (reconstructed b) ⊎ IsTopped b (reconstructed b)
  reconstructed_top b sound = topped b b.formatting sound.listed

-- a word that is not one of formatting is another
other : (word name : List ℕ) → is_one_of formatting name ≡ true → ¬ (is_one_of formatting word ≡ true) →
    bytes_eq name word ≡ false
other word name is isnt = by (cases_Bool (bytes_eq name word)) where
  by : (bytes_eq name word ≡ true) ⊎ (bytes_eq name word ≡ false) → bytes_eq name word ≡ false
  by (inl e) = absurd (isnt (subst (λ w. is_one_of formatting w ≡ true) ((bytes_eq-Decides name word).0 e) is))
  by (inr e) = e

none_of : (a b c d e f : Bool) → a ≡ false → b ≡ false → c ≡ false → d ≡ false → e ≡ false → f ≡ false →
    (a || (b || (c || (d || (e || (f || false)))))) ≡ false
none_of a b c d e f h i j k l m = cc

pub no_table_place : (tag : Tag) → is_one_of formatting tag.name ≡ true →
    is_element_of table_text_places (name_for tag) ≡ false
no_table_place tag is = none_of _ _ _ _ _ _
    (other (codes "table") tag.name is (λ e. let k : false ≡ true = e in cc))
    (other (codes "tbody") tag.name is (λ e. let k : false ≡ true = e in cc))
    (other (codes "template") tag.name is (λ e. let k : false ≡ true = e in cc))
    (other (codes "tfoot") tag.name is (λ e. let k : false ≡ true = e in cc))
    (other (codes "thead") tag.name is (λ e. let k : false ≡ true = e in cc))
    (other (codes "tr") tag.name is (λ e. let k : false ≡ true = e in cc))
