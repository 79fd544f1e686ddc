-- Where only blocks are open and nothing is listed: what tags of blocks do.
use Rattle.std.proofs.Common.{◌≡◌, ◌<◌, [], ◌∷◌, if◌then◌else◌, ◌∙◌, Bool, List, Some, ap, codes, false, refl, true, ℕ}
use Rattle.tree_forest.specs.Forest.{Forest, name_of, nodes}
use Rattle.html_lexemes.specs.declared.names.Attribute.{Attribute}
use Rattle.html_lexemes.specs.declared.names.QualName.{QualName}
use Rattle.html_lexemes.specs.declared.token.Tag.{Tag}
use Rattle.html_tree_state.specs.Building.{Building}
use Rattle.html_tree_state.specs.Insertions.{is_template}
use Rattle.html_tree_state.specs.OpenElements.{has_any, up_to}
use Rattle.html_tree_state.specs.Scopes.{has_item, implied, is_in_scope, is_item_barrier, popped, popped_to}
use Rattle.html_tree_state.specs.Scopes.{with_closed_item, with_closed_p}
use Rattle.tree_names.specs.ElementSets.{button_scope_barriers, headings, list_item_scope_barriers, scope_barriers}
use Rattle.tree_names.specs.Sets.{Elements, is_element_of, is_html}
use Rattle.tree_names.specs.Wanted.{is_implied, one}
use Rattle.tree_names.specs.Groups.{tag_group}
use Rattle.rules_table.specs.Actions.{act, at_place, close_item, close_p, imply_but, insert, pop_if, pop_to, popped_if}
use Rattle.rules_table.specs.Actions.{refuse_frameset}
use Rattle.rules_table.specs.InBody.{in_body_start}
use Rattle.rules_table.specs.InBodyBlocks.{block_start, heading_start, list_item_start}
use Rattle.rules_table.specs.InBodyBlocks as blocks
use Rattle.rules_table.specs.InBodyEnds.{block_end, heading_end, in_body_end, list_item_end, p_end}
use Rattle.rules_table.specs.Rows.{Row, done, ignored}
use Rattle.rules_table.specs.State.{State}
use Rattle.document_laws.specs.Contents.{end_of, start_of}
use Rattle.document_laws.specs.Planted.{of_html, with_new}
use Rattle.document_laws.proofs.Standing.{built, end_taken, ending, if_false, if_true, inserted_now, now, opening}
use Rattle.document_laws.proofs.Standing.{refused_now, start_taken, stepped, with_tree_now}

-- an open element: neither a paragraph nor a heading
pub record IsOuter (n : ℕ) (f : Forest) : Type 0 where
  pub word : List ℕ
  pub named : name_of n f ≡ of_html word
  pub no_paragraph : is_element_of (one (codes "p")) (of_html word) ≡ false
  pub no_heading : is_element_of headings (of_html word) ≡ false
  pub plain : is_html (codes "template") (of_html word) ≡ false
  pub held : n < nodes f

abbrev pub AreOuter : Forest → List ℕ → Type 0
AreOuter f [] = Unit {0}
AreOuter f (n ∷ ns) = IsOuter n f × AreOuter f ns

-- the current node where an item stands: a list
pub record IsList (p : ℕ) (f : Forest) : Type 0 where
  pub no_item : is_element_of (one (codes "li")) (name_of p f) ≡ false
  pub barrier : is_item_barrier (name_of p f) ≡ true

of_name : (test : QualName → Bool) (n : ℕ) (f : Forest) (word : List ℕ) (b : Bool) → name_of n f ≡ of_html word →
    test (of_html word) ≡ b → test (name_of n f) ≡ b
of_name test n f word b named is = ap test named ∙ is

outer_plain : (n : ℕ) (f : Forest) → IsOuter n f → is_template n f ≡ false
outer_plain n f outer =
    of_name (is_html (codes "template")) n f outer.word false outer.named outer.plain

-- scopes
in_part : (b : Bool) (set : Elements) (f : Forest) (ns : List ℕ) → has_any set f ns ≡ false →
    has_any set f (if b then [] else ns) ≡ false
in_part true set f ns e = refl
in_part false set f ns e = e

no_paragraph_open : (barriers : Elements) (f : Forest) (ns : List ℕ) → AreOuter f ns →
    has_any (one (codes "p")) f (up_to barriers f ns) ≡ false
no_paragraph_open barriers f [] are = refl
no_paragraph_open barriers f (n ∷ ns) are =
    let outer = are.0 in
    if_false (is_element_of (one (codes "p")) (name_of n f)) true
    (has_any (one (codes "p")) f (if is_element_of barriers (name_of n f) then [] else up_to barriers f ns))
    (of_name (is_element_of (one (codes "p"))) n f outer.word false outer.named outer.no_paragraph)
    ∙ in_part (is_element_of barriers (name_of n f)) (one (codes "p")) f (up_to barriers f ns)
    (no_paragraph_open barriers f ns are.1)

pub first_in_scope : (barriers set : Elements) (f : Forest) (n : ℕ) (ns : List ℕ) →
    is_element_of set (name_of n f) ≡ true → has_any set f (up_to barriers f (n ∷ ns)) ≡ true
first_in_scope barriers set f n ns e =
    if_true (is_element_of set (name_of n f)) true
    (has_any set f (if is_element_of barriers (name_of n f) then [] else up_to barriers f ns)) e

-- what does nothing
closed_p_same : (b : Building) (stack : List ℕ) (f : Forest) → AreOuter f stack →
    with_closed_p (built b stack [] f) ≡ built b stack [] f
unfolding built
closed_p_same b stack f are =
    let here = built b stack [] f in
    if_false (is_in_scope button_scope_barriers (one (codes "p")) here)
    (popped_to (one (codes "p")) (implied (one (codes "p")) here)) here
    (no_paragraph_open button_scope_barriers f stack are)

pub closed_p_now : (s : State) (ok : Bool) (stack : List ℕ) (f : Forest) → AreOuter f stack →
    act close_p (now s ok stack [] f) ≡ now s ok stack [] f
unfolding act
closed_p_now s ok stack f are =
    with_tree_now with_closed_p s ok stack stack [] [] f f (closed_p_same s.tree stack f are)

pop_if_same : (b : Building) (p : ℕ) (rest : List ℕ) (f : Forest) → is_element_of headings (name_of p f) ≡ false →
    popped_if headings (built b (p ∷ rest) [] f) ≡ built b (p ∷ rest) [] f
unfolding built
pop_if_same b p rest f e =
    let here = built b (p ∷ rest) [] f in
    if_false (is_element_of headings (name_of p f)) (popped here) here e

pop_if_now : (s : State) (ok : Bool) (p : ℕ) (rest : List ℕ) (f : Forest) →
    is_element_of headings (name_of p f) ≡ false →
    act (pop_if headings) (now s ok (p ∷ rest) [] f) ≡ now s ok (p ∷ rest) [] f
unfolding act
pop_if_now s ok p rest f e =
    with_tree_now (popped_if headings) s ok (p ∷ rest) (p ∷ rest) [] [] f f (pop_if_same s.tree p rest f e)

no_item_open : (p : ℕ) (rest : List ℕ) (f : Forest) → IsList p f → has_item (one (codes "li")) f (p ∷ rest) ≡ false
no_item_open p rest f list =
    if_false (is_element_of (one (codes "li")) (name_of p f)) true
    (if is_item_barrier (name_of p f) then false else has_item (one (codes "li")) f rest) list.no_item
    ∙ if_true (is_item_barrier (name_of p f)) false (has_item (one (codes "li")) f rest) list.barrier

item_same : (b : Building) (p : ℕ) (rest : List ℕ) (f : Forest) → IsList p f →
    with_closed_item (one (codes "li")) (built b (p ∷ rest) [] f) ≡ built b (p ∷ rest) [] f
unfolding built
item_same b p rest f list =
    let here = built b (p ∷ rest) [] f in
    if_false (has_item (one (codes "li")) f (p ∷ rest))
    (popped_to (one (codes "li")) (implied (one (codes "li")) here)) here (no_item_open p rest f list)

item_now : (s : State) (ok : Bool) (p : ℕ) (rest : List ℕ) (f : Forest) → IsList p f →
    act (close_item (one (codes "li"))) (now s ok (p ∷ rest) [] f) ≡ now s ok (p ∷ rest) [] f
unfolding act
item_now s ok p rest f list =
    with_tree_now (with_closed_item (one (codes "li"))) s ok (p ∷ rest) (p ∷ rest) [] [] f f
    (item_same s.tree p rest f list)

-- start tags
pub block_opens : (s : State) (ok : Bool) (p : ℕ) (rest : List ℕ) (f : Forest) (name : List ℕ)
    (attributes : List Attribute) → AreOuter f (p ∷ rest) → is_html (codes "template") (of_html name) ≡ false →
    ((t : Tag) (s : State) → in_body_start (tag_group name) t s ≡ block_start t) →
    stepped (now s ok (p ∷ rest) [] f) (start_of name attributes)
    ≡ Some (now s ok (nodes f ∷ p ∷ rest) [] (with_new p name attributes f))
block_opens s ok p rest f name attributes are plain row =
    let t = opening name attributes in
    let outer = are.0 in
    start_taken s ok p rest [] f outer.word name attributes (close_p ∷ insert at_place t ∷ []) outer.named
    (row t (now s ok (p ∷ rest) [] f))
    ∙ ap Some (ap (act (insert at_place t)) (closed_p_now s ok (p ∷ rest) f are)
    ∙ inserted_now s ok p rest [] f name attributes (outer_plain p f outer) plain)

pub heading_opens : (s : State) (ok : Bool) (p : ℕ) (rest : List ℕ) (f : Forest) (name : List ℕ)
    (attributes : List Attribute) → AreOuter f (p ∷ rest) → is_html (codes "template") (of_html name) ≡ false →
    ((t : Tag) (s : State) → in_body_start (tag_group name) t s ≡ heading_start t) →
    stepped (now s ok (p ∷ rest) [] f) (start_of name attributes)
    ≡ Some (now s ok (nodes f ∷ p ∷ rest) [] (with_new p name attributes f))
heading_opens s ok p rest f name attributes are plain row =
    let t = opening name attributes in
    let outer = are.0 in
    start_taken s ok p rest [] f outer.word name attributes (close_p ∷ pop_if headings ∷ insert at_place t ∷ [])
    outer.named (row t (now s ok (p ∷ rest) [] f))
    ∙ ap Some (ap (λ z. act (insert at_place t) (act (pop_if headings) z)) (closed_p_now s ok (p ∷ rest) f are)
    ∙ ap (act (insert at_place t)) (pop_if_now s ok p rest f
    (of_name (is_element_of headings) p f outer.word false outer.named outer.no_heading))
    ∙ inserted_now s ok p rest [] f name attributes (outer_plain p f outer) plain)

pub item_opens : (s : State) (ok : Bool) (p : ℕ) (rest : List ℕ) (f : Forest) (name : List ℕ)
    (attributes : List Attribute) → AreOuter f (p ∷ rest) → IsList p f →
    is_html (codes "template") (of_html name) ≡ false →
    ((t : Tag) (s : State) → in_body_start (tag_group name) t s ≡ list_item_start t) →
    stepped (now s ok (p ∷ rest) [] f) (start_of name attributes)
    ≡ Some (now s false (nodes f ∷ p ∷ rest) [] (with_new p name attributes f))
item_opens s ok p rest f name attributes are list plain row =
    let t = opening name attributes in
    let outer = are.0 in
    start_taken s ok p rest [] f outer.word name attributes
    (refuse_frameset ∷ close_item (one (codes "li")) ∷ close_p ∷ insert at_place t ∷ []) outer.named
    (row t (now s ok (p ∷ rest) [] f))
    ∙ ap Some (ap (λ z. act (insert at_place t) (act close_p (act (close_item (one (codes "li"))) z)))
    (refused_now s ok (p ∷ rest) [] f)
    ∙ ap (λ z. act (insert at_place t) (act close_p z)) (item_now s false p rest f list)
    ∙ ap (act (insert at_place t)) (closed_p_now s false (p ∷ rest) f are)
    ∙ inserted_now s false p rest [] f name attributes (outer_plain p f outer) plain)

-- end tags
implied_same : (b : Building) (except : Elements) (n : ℕ) (low : List ℕ) (f : Forest) →
    is_implied except (name_of n f) ≡ false → implied except (built b (n ∷ low) [] f) ≡ built b (n ∷ low) [] f
unfolding built
implied_same b except n low f e = rw e

implied_now : (s : State) (ok : Bool) (except : Elements) (n : ℕ) (low : List ℕ) (f : Forest) →
    is_implied except (name_of n f) ≡ false →
    act (imply_but except) (now s ok (n ∷ low) [] f) ≡ now s ok (n ∷ low) [] f
unfolding act
implied_now s ok except n low f e =
    with_tree_now (implied except) s ok (n ∷ low) (n ∷ low) [] [] f f (implied_same s.tree except n low f e)

popped_is : (b : Building) (set : Elements) (n : ℕ) (low : List ℕ) (f : Forest) →
    is_element_of set (name_of n f) ≡ true → popped_to set (built b (n ∷ low) [] f) ≡ built b low [] f
unfolding built
popped_is b set n low f e = rw e

popped_now : (s : State) (ok : Bool) (set : Elements) (n : ℕ) (low : List ℕ) (f : Forest) →
    is_element_of set (name_of n f) ≡ true → act (pop_to set) (now s ok (n ∷ low) [] f) ≡ now s ok low [] f
unfolding act
popped_now s ok set n low f e =
    with_tree_now (popped_to set) s ok (n ∷ low) low [] [] f f (popped_is s.tree set n low f e)

in_scope_now : (s : State) (ok : Bool) (barriers set : Elements) (n : ℕ) (low : List ℕ) (f : Forest) →
    is_element_of set (name_of n f) ≡ true →
    is_in_scope barriers set (now s ok (n ∷ low) [] f).tree ≡ true
unfolding now built
in_scope_now s ok barriers set n low f e = first_in_scope barriers set f n low e

closes_by : (s : State) (ok : Bool) (except set : Elements) (n : ℕ) (low : List ℕ) (f : Forest) (name : List ℕ) →
    name_of n f ≡ of_html name → is_implied except (of_html name) ≡ false → is_element_of set (of_html name) ≡ true →
    in_body_end (tag_group name) (ending name) (now s ok (n ∷ low) [] f)
    ≡ done (imply_but except ∷ pop_to set ∷ []) →
    stepped (now s ok (n ∷ low) [] f) (end_of name) ≡ Some (now s ok low [] f)
closes_by s ok except set n low f name named stays found row =
    end_taken s ok n low [] f name name (imply_but except ∷ pop_to set ∷ []) named row
    ∙ ap Some (ap (act (pop_to set)) (implied_now s ok except n low f
    (of_name (is_implied except) n f name false named stays))
    ∙ popped_now s ok set n low f (of_name (is_element_of set) n f name true named found))

row_if : (b : Bool) (row : Row) → b ≡ true → (if b then row else ignored) ≡ row
row_if b row e = if_true b row ignored e

pub block_closes : (s : State) (ok : Bool) (n : ℕ) (low : List ℕ) (f : Forest) (name : List ℕ) →
    name_of n f ≡ of_html name → is_implied blocks.none (of_html name) ≡ false →
    is_element_of (one name) (of_html name) ≡ true →
    ((t : Tag) (s : State) → in_body_end (tag_group name) t s ≡ block_end t s) →
    stepped (now s ok (n ∷ low) [] f) (end_of name) ≡ Some (now s ok low [] f)
block_closes s ok n low f name named stays found row =
    closes_by s ok blocks.none (one name) n low f name named stays found
    (row (ending name) (now s ok (n ∷ low) [] f)
    ∙ row_if _ (done (imply_but blocks.none ∷ pop_to (one name) ∷ []))
    (in_scope_now s ok scope_barriers (one name) n low f
    (of_name (is_element_of (one name)) n f name true named found)))

pub heading_closes : (s : State) (ok : Bool) (n : ℕ) (low : List ℕ) (f : Forest) (name : List ℕ) →
    name_of n f ≡ of_html name → is_implied blocks.none (of_html name) ≡ false →
    is_element_of headings (of_html name) ≡ true →
    ((t : Tag) (s : State) → in_body_end (tag_group name) t s ≡ heading_end s) →
    stepped (now s ok (n ∷ low) [] f) (end_of name) ≡ Some (now s ok low [] f)
heading_closes s ok n low f name named stays found row =
    closes_by s ok blocks.none headings n low f name named stays found
    (row (ending name) (now s ok (n ∷ low) [] f)
    ∙ row_if _ (done (imply_but blocks.none ∷ pop_to headings ∷ []))
    (in_scope_now s ok scope_barriers headings n low f
    (of_name (is_element_of headings) n f name true named found)))

pub item_closes : (s : State) (ok : Bool) (n : ℕ) (low : List ℕ) (f : Forest) → name_of n f ≡ of_html (codes "li") →
    ((t : Tag) (s : State) → in_body_end (tag_group (codes "li")) t s ≡ list_item_end s) →
    stepped (now s ok (n ∷ low) [] f) (end_of (codes "li")) ≡ Some (now s ok low [] f)
item_closes s ok n low f named row =
    closes_by s ok (one (codes "li")) (one (codes "li")) n low f (codes "li") named refl refl
    (row (ending (codes "li")) (now s ok (n ∷ low) [] f)
    ∙ row_if _ (done (imply_but (one (codes "li")) ∷ pop_to (one (codes "li")) ∷ []))
    (in_scope_now s ok list_item_scope_barriers (one (codes "li")) n low f
    (of_name (is_element_of (one (codes "li"))) n f (codes "li") true named refl)))

closed_p_is : (b : Building) (n : ℕ) (low : List ℕ) (f : Forest) → name_of n f ≡ of_html (codes "p") →
    with_closed_p (built b (n ∷ low) [] f) ≡ built b low [] f
unfolding built
closed_p_is b n low f named =
    let p = one (codes "p") in
    let here = built b (n ∷ low) [] f in
    let found : is_element_of p (name_of n f) ≡ true = of_name (is_element_of p) n f (codes "p") true named refl in
    if_true (is_in_scope button_scope_barriers p here) (popped_to p (implied p here)) here
    (first_in_scope button_scope_barriers p f n low found)
    ∙ ap (popped_to p) (implied_same b p n low f (of_name (is_implied p) n f (codes "p") false named refl))
    ∙ popped_is b p n low f found

closed_p_then : (s : State) (ok : Bool) (n : ℕ) (low : List ℕ) (f : Forest) → name_of n f ≡ of_html (codes "p") →
    act close_p (now s ok (n ∷ low) [] f) ≡ now s ok low [] f
unfolding act
closed_p_then s ok n low f named =
    with_tree_now with_closed_p s ok (n ∷ low) low [] [] f f (closed_p_is s.tree n low f named)

pub paragraph_closes : (s : State) (ok : Bool) (n : ℕ) (low : List ℕ) (f : Forest) → name_of n f ≡ of_html (codes "p") →
    ((t : Tag) (s : State) → in_body_end (tag_group (codes "p")) t s ≡ p_end s) →
    stepped (now s ok (n ∷ low) [] f) (end_of (codes "p")) ≡ Some (now s ok low [] f)
paragraph_closes s ok n low f named row =
    end_taken s ok n low [] f (codes "p") (codes "p") (close_p ∷ []) named
    (row (ending (codes "p")) (now s ok (n ∷ low) [] f)
    ∙ if_true _ (done (close_p ∷ [])) _ (in_scope_now s ok button_scope_barriers (one (codes "p")) n low f
    (of_name (is_element_of (one (codes "p"))) n f (codes "p") true named refl)))
    ∙ ap Some (closed_p_then s ok n low f named)
