-- Characters that are inserted change neither an element nor the parent of a node, and so no place of insertion (WHATWG
-- HTML, 13.2.6.1).
use Rattle.std.proofs.Common.{◌≡◌, ◌==◌, ◌&&◌, if◌then◌else◌, ◌∙◌, [], ◌∷◌, ◌++◌, Bool, List, None, Option, Some, ap}
use Rattle.std.proofs.Common.{ap₂, arith, codes, false, inl, inr, map, refl, suc, sym, true, zero, ℕ}
use Rattle.std.proofs.lemmas.Bool.{ne_eqb}
use Rattle.tree_forest.specs.Changes.{changed, made, saying, saying_kind}
use Rattle.tree_forest.specs.Forest.{Element, Forest, Holds, Kind, comment, doctype, document, element, element_of}
use Rattle.tree_forest.specs.Forest.{instruction, is_in, kind_at, nodes, parent_from, parent_of, text}
use Rattle.tree_forest.specs.Orders.{IsIn}
use Rattle.tree_forest.specs.Places.{Place, based_on, before, trailing, below, in_front, put_before, put_node}
use Rattle.tree_forest.specs.Places.{put_words}
use Rattle.tree_forest.proofs.Nodes.{kept}
use Rattle.tree_forest.proofs.PathLemmas.{words_are}
use Rattle.tree_names.specs.ElementSets.{foster_targets}
use Rattle.tree_names.specs.Sets.{is_element_of, is_html}
use Rattle.tree_model.specs.Building.{Building}
use Rattle.tree_model.specs.Insertions.{foster_at, foster_place, here, holder, inside, said}
use Rattle.tree_model.specs.Laws.{Laws}
use Rattle.tree_model.specs.OpenElements.{current_of, first_of}
use Rattle.tree_model.specs.Sound.{Sound}
use Rattle.tree_model.proofs.PlaceLemmas.{current_there, here_there}
use Rattle.tree_model.proofs.SoundLemmas.{either}

-- a number more among others is no other
in_after : (n c : ℕ) (ns : List ℕ) → (n == c) ≡ false → is_in n (ns ++ c ∷ []) ≡ is_in n ns
in_after n c [] off = ap (λ (b : Bool). if b then true else false) off
in_after n c (m ∷ ns) off = ap (λ (b : Bool). if n == m then true else b) (in_after n c ns off)

in_before_step : (t : Bool) (n c m : ℕ) (ns more : List ℕ) → (n == c) ≡ false → is_in n more ≡ is_in n ns →
    is_in n (if t then c ∷ m ∷ ns else m ∷ more) ≡ is_in n (m ∷ ns)
in_before_step true n c m ns more off rest = ap (λ (b : Bool). if b then true else is_in n (m ∷ ns)) off
in_before_step false n c m ns more off rest = ap (λ (b : Bool). if n == m then true else b) rest

in_before : (n s c : ℕ) (ns : List ℕ) → (n == c) ≡ false → is_in n (put_before s c ns) ≡ is_in n ns
in_before n s c [] off = refl
in_before n s c (m ∷ ns) off =
    in_before_step (m == s) n c m ns (put_before s c ns) off (in_before n s c ns off)

-- the parent of a node, where another is put, where one is made, and where a text grows
parent_after : (n c p at : ℕ) (f : Forest) → (n == c) ≡ false →
    parent_from n at (changed p (trailing c) f) ≡ parent_from n at f
parent_after n c p at [] off = refl
parent_after n c zero at (x ∷ f) off =
    ap (λ (b : Bool). if b then Some at else parent_from n (suc at) f) (in_after n c x.children off)
parent_after n c (suc p) at (x ∷ f) off =
    ap (λ (found : Option ℕ). if is_in n x.children then Some at else found) (parent_after n c p (suc at) f off)

parent_before : (n s c at : ℕ) (f : Forest) → (n == c) ≡ false →
    parent_from n at (map (in_front s c) f) ≡ parent_from n at f
parent_before n s c at [] off = refl
parent_before n s c at (x ∷ f) off =
    ap₂ (λ (b : Bool) (found : Option ℕ). if b then Some at else found) (in_before n s c x.children off)
    (parent_before n s c (suc at) f off)

parent_put : (place : Place) (n c : ℕ) (f : Forest) → (n == c) ≡ false →
    parent_of n (put_node place c f) ≡ parent_of n f
parent_put (below p) n c f off = parent_after n c p 0 f off
parent_put (before s) n c f off = parent_before n s c 0 f off

parent_made : (kind : Kind) (n at : ℕ) (f : Forest) → parent_from n at (made kind f) ≡ parent_from n at f
parent_made kind n at [] = refl
parent_made kind n at (x ∷ f) =
    ap (λ (found : Option ℕ). if is_in n x.children then Some at else found) (parent_made kind n (suc at) f)

parent_saying : (cs : List ℕ) (n m at : ℕ) (f : Forest) →
    parent_from n at (changed m (saying cs) f) ≡ parent_from n at f
parent_saying cs n m at [] = refl
parent_saying cs n zero at (x ∷ f) = refl
parent_saying cs n (suc m) at (x ∷ f) =
    ap (λ (found : Option ℕ). if is_in n x.children then Some at else found) (parent_saying cs n m (suc at) f)

not_new : (n : ℕ) (f : Forest) → Holds n f → (n == nodes f) ≡ false
not_new n f held = ne_eqb n (nodes f) (λ e. absurd (omega arith))

pub parent_words : (place : Place) (cs : List ℕ) (n : ℕ) (f : Forest) → Holds n f →
    parent_of n (put_words place cs f) ≡ parent_of n f
parent_words place [] n f held = refl
parent_words place (c ∷ cs) n f held = either
    (λ new. ap (parent_of n) new ∙ parent_put place n (nodes f) (made (text (c ∷ cs)) f) (not_new n f held)
    ∙ parent_made (text (c ∷ cs)) n 0 f)
    (λ more. ap (parent_of n) more.1 ∙ parent_saying (c ∷ cs) n more.0 0 f)
    (words_are place c cs f)

-- what an element has
element_said : (cs : List ℕ) (kind : Kind) → element_of (saying_kind cs kind) ≡ element_of kind
element_said cs document = refl
element_said cs (doctype _ _ _) = refl
element_said cs (text _) = refl
element_said cs (comment _) = refl
element_said cs (instruction _ _) = refl
element_said cs (element _) = refl

pub element_words : (laws : Laws) (place : Place) (cs : List ℕ) (n : ℕ) (f : Forest) → Holds n f →
    element_of (kind_at n (put_words place cs f)) ≡ element_of (kind_at n f)
element_words laws place [] n f held = refl
element_words laws place (c ∷ cs) n f held = either
    (λ new. ap (λ g. element_of (kind_at n g)) new
    ∙ ap element_of (laws.put_stays place (nodes f) n (made (text (c ∷ cs)) f)
    ∙ laws.leaf_stays (text (c ∷ cs)) n f held))
    (λ more. ap (λ g. element_of (kind_at n g)) more.1
    ∙ kept (λ x. element_of x.kind) (saying (c ∷ cs)) more.0 n f (λ x. element_said (c ∷ cs) x.kind))
    (words_are place c cs f)

-- so each place stays
based_said : (table above : ℕ) (f g : Forest) → parent_of table g ≡ parent_of table f →
    based_on table above g ≡ based_on table above f
based_said table above f g e = ap by e where
  by : Option ℕ → Place
  by (Some p) = before table
  by None = below above

module _ (f g : Forest) (elements : (n : ℕ) → Holds n f → element_of (kind_at n g) ≡ element_of (kind_at n f))
    (parents : (n : ℕ) → Holds n f → parent_of n g ≡ parent_of n f) where
  inside_said : (n : ℕ) → Holds n f → inside n g ≡ inside n f
  inside_said n held =
      ap (λ (e : Element). below (if is_html (codes "template") e.name then holder e.contents n else n))
      (elements n held)

  foster_at_said : (n : ℕ) (above : Option ℕ) (p q : Place) → Holds n f → q ≡ p →
      foster_at n above g q ≡ foster_at n above f p
  foster_at_said n None p q held e = inside_said n held
  foster_at_said n (Some m) p q held e =
      ap (λ (x : Element). if is_html (codes "template") x.name then inside n g
      else if is_html (codes "table") x.name then based_on n m g else q) (elements n held)
      ∙ ap (λ (place : Place). if is_html (codes "template") (element_of (kind_at n f)).name then place
      else if is_html (codes "table") (element_of (kind_at n f)).name then based_on n m g else q) (inside_said n held)
      ∙ ap₂ (λ (table rest : Place). if is_html (codes "template") (element_of (kind_at n f)).name then inside n f
      else if is_html (codes "table") (element_of (kind_at n f)).name then table else rest)
      (based_said n m f g (parents n held)) e

  foster_said : (ns : List ℕ) → ((n : ℕ) → IsIn n ns → Holds n f) → foster_place g ns ≡ foster_place f ns
  foster_said [] held = refl
  foster_said (n ∷ ns) held = foster_at_said n (first_of ns) (foster_place f ns) (foster_place g ns) (held n (inl refl))
      (foster_said ns (λ m i. held m (inr i)))

  place_said : (is_on : Bool) (n : ℕ) (ns : List ℕ) → Holds n f → ((m : ℕ) → IsIn m ns → Holds m f) →
      (if is_on && is_element_of foster_targets (element_of (kind_at n g)).name then foster_place g ns else inside n g)
      ≡ (if is_on && is_element_of foster_targets (element_of (kind_at n f)).name then foster_place f ns
      else inside n f)
  place_said is_on n ns held all =
      ap (λ (x : Element). if is_on && is_element_of foster_targets x.name then foster_place g ns else inside n g)
      (elements n held)
      ∙ ap₂ (λ (p q : Place). if is_on && is_element_of foster_targets (element_of (kind_at n f)).name then p else q)
      (foster_said ns all) (inside_said n held)

module _ (laws : Laws) where
  pub here_said : (cs : List ℕ) (b : Building) → Sound b → here (said cs b) ≡ here b
  here_said cs b sound =
      let f = b.forest in
      let open_held : (n : ℕ) → IsIn n b.stack → Holds n f
      = λ n i. laws.element_there n f (sound.elements n i) in
      place_said f (put_words (here b) cs f) (λ n held. element_words laws (here b) cs n f held)
      (λ n held. parent_words (here b) cs n f held) b.fostering (current_of b.stack) b.stack
      (current_there f b.stack sound.forest open_held) open_held

  -- characters after characters
  pub said_as_one : (cs ds : List ℕ) (b : Building) → Sound b → said ds (said cs b) ≡ said (cs ++ ds) b
  said_as_one cs ds b sound =
      ap (λ (place : Place). record b { forest = put_words place ds (put_words (here b) cs b.forest) })
      (here_said cs b sound)
      ∙ ap (λ (f : Forest). record b { forest = f })
      (sym (laws.texts_as_one (here b) cs ds b.forest sound.forest (here_there laws b sound)))
