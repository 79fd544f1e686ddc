-- Blocks rebuild: nothing is listed before and after them, and below the current node what was planted stands.
use Rattle.std.proofs.Common.{◌≡◌, ◌<◌, [], ◌∷◌, if◌then◌else◌, ◌∙◌, Bool, List, Some, ap, codes, false, refl, true, ℕ}
use Rattle.tree_forest.specs.Forest.{Forest, name_of, nodes}
use Rattle.token_grammar.specs.Items.{Item}
use Rattle.html_lexemes.specs.declared.names.Attribute.{Attribute}
use Rattle.html_tree_state.specs.Scopes.{is_item_barrier}
use Rattle.tree_names.specs.Sets.{is_element_of, is_one_of}
use Rattle.tree_names.specs.Wanted.{one}
use Rattle.rules_table.specs.State.{State}
use Rattle.document_laws.specs.Contents.{Content, IsBlocks, bullets, division, end_of, item, no_more, numbers, of_text}
use Rattle.document_laws.specs.Contents.{quote, span, start_of, tokens_and}
use Rattle.document_laws.specs.Planted.{of_html, planted, with_new}
use Rattle.document_laws.proofs.BlockNames.{Closes, IsBlockName, IsOuterName, div_block, li_closes, li_opens, ol_block}
use Rattle.document_laws.proofs.BlockNames.{ol_list, outer, outer_div, outer_li, outer_ol, outer_quote, outer_ul}
use Rattle.document_laws.proofs.BlockNames.{quote_block, text_block, ul_block, ul_list}
use Rattle.document_laws.proofs.BlockSteps.{AreOuter, IsList, IsOuter}
use Rattle.document_laws.proofs.Inlines.{Comes, Stands, inlines_come}
use Rattle.document_laws.proofs.Planting.{Keeps, element_kind, grown_keeps, in_element, keeps_on, last_held, name_kept}
use Rattle.document_laws.proofs.Planting.{new_name, planted_keeps, size_grown, still_held}
use Rattle.document_laws.proofs.Standing.{if_false, now, runs, runs_on, stepped}
use Rattle.document_laws.proofs.Sublists.{AllUnder, sub_nothing}

-- what is kept
outer_kept : (n : ℕ) (f g : Forest) → Keeps f g → IsOuter n f → IsOuter n g
outer_kept n f g keeps outer = record {
  word = outer.word;
  named = name_kept f g keeps n outer.held ∙ outer.named;
  no_paragraph = outer.no_paragraph;
  no_heading = outer.no_heading;
  plain = outer.plain;
  held = still_held n (nodes f) (nodes g) outer.held keeps.size;
}

pub are_outer_kept : (ns : List ℕ) (f g : Forest) → Keeps f g → AreOuter f ns → AreOuter g ns
are_outer_kept [] f g keeps are = tt
are_outer_kept (n ∷ ns) f g keeps are = (outer_kept n f g keeps are.0, are_outer_kept ns f g keeps are.1)

list_kept : (n : ℕ) (f g : Forest) → Keeps f g → n < nodes f → IsList n f → IsList n g
list_kept n f g keeps held list =
    let same = name_kept f g keeps n held in
    record {
      no_item = ap (is_element_of (one (codes "li"))) same ∙ list.no_item;
      barrier = ap is_item_barrier same ∙ list.barrier;
    }

all_under : (ns : List ℕ) (f : Forest) → AreOuter f ns → AllUnder (nodes f) ns
all_under [] f are = tt
all_under (n ∷ ns) f are = (are.0.held, all_under ns f are.1)

-- above the items of a list stands a list
abbrev pub IsAbove : (of_list : Bool) → ℕ → Forest → Type 0
IsAbove false p f = Unit {0}
IsAbove true p f = IsList p f

above_kept : (of_list : Bool) (p : ℕ) (f g : Forest) → Keeps f g → p < nodes f → IsAbove of_list p f →
    IsAbove of_list p g
above_kept false p f g keeps held is = tt
above_kept true p f g keeps held is = list_kept p f g keeps held is

-- what items come to
pub record Rebuilds (s : State) (ok : Bool) (p : ℕ) (rest : List ℕ) (f : Forest) (items more : List Item)
    (g : Forest) : Type 0 where
  pub flag : Bool
  pub come : runs (now s ok (p ∷ rest) [] f) items ≡ runs (now s flag (p ∷ rest) [] g) more

-- one block and those that follow it
block_comes : (s : State) (ok after_start : Bool) (p : ℕ) (rest : List ℕ) (f : Forest) (name : List ℕ)
    (attributes : List Attribute) (kids after : Content) (more : List Item) →
    is_one_of (codes "br" ∷ []) name ≡ false →
    stepped (now s ok (p ∷ rest) [] f) (start_of name attributes)
    ≡ Some (now s after_start (nodes f ∷ p ∷ rest) [] (with_new p name attributes f)) →
    Rebuilds s after_start (nodes f) (p ∷ rest) (with_new p name attributes f)
    (tokens_and kids (end_of name ∷ tokens_and after more)) (end_of name ∷ tokens_and after more)
    (planted (nodes f) kids (with_new p name attributes f)) →
    Closes name →
    ((flag : Bool) → Keeps f (planted (nodes f) kids (with_new p name attributes f)) →
    Rebuilds s flag p rest (planted (nodes f) kids (with_new p name attributes f)) (tokens_and after more) more
    (planted p (span name attributes kids after) f)) →
    Rebuilds s ok p rest f (tokens_and (span name attributes kids after) more) more
    (planted p (span name attributes kids after) f)
block_comes s ok after_start p rest f name attributes kids after more ends opened inner closes further =
    let n = nodes f in
    let g = with_new p name attributes f in
    let h = planted n kids g in
    let k = tokens_and after more in
    let first = grown_keeps p (element_kind name attributes) f in
    let second = planted_keeps kids n g in
    let named : name_of n h ≡ of_html name
    = name_kept g h second n (last_held n (nodes g) (size_grown p (element_kind name attributes) f))
    ∙ new_name p name attributes f in
    let last = further inner.flag (keeps_on f g h first second) in
    record {
      flag = last.flag;
      come = runs_on (now s ok (p ∷ rest) [] f) (now s after_start (n ∷ p ∷ rest) [] g) (start_of name attributes)
          (tokens_and kids (if is_one_of (codes "br" ∷ []) name then k else end_of name ∷ k)) opened
          ∙ ap (λ items. runs (now s after_start (n ∷ p ∷ rest) [] g) (tokens_and kids items))
          (if_false (is_one_of (codes "br" ∷ []) name) k (end_of name ∷ k) ends)
          ∙ inner.come
          ∙ runs_on (now s inner.flag (n ∷ p ∷ rest) [] h) (now s inner.flag (p ∷ rest) [] h) (end_of name) k
          (closes s inner.flag n (p ∷ rest) h named)
          ∙ last.come;
    }

-- inside a new element
inside_outer : (p : ℕ) (rest : List ℕ) (f : Forest) (name : List ℕ) (attributes : List Attribute) → IsOuterName name →
    AreOuter f (p ∷ rest) → AreOuter (with_new p name attributes f) (nodes f ∷ p ∷ rest)
inside_outer p rest f name attributes is are =
    let g = with_new p name attributes f in (
      outer (nodes f) g name is (new_name p name attributes f)
          (last_held (nodes f) (nodes g) (size_grown p (element_kind name attributes) f)),
      are_outer_kept (p ∷ rest) f g (grown_keeps p (element_kind name attributes) f) are,
    )

text_inside : (s : State) (ok : Bool) (p : ℕ) (rest : List ℕ) (f g : Forest) (items more : List Item) →
    Comes s ok p rest [] f items more g → Rebuilds s ok p rest f items more g
text_inside s ok p rest f g items more comes = record {
  flag = comes.flag;
  come = comes.come
      ∙ ap (λ left. runs (now s comes.flag (p ∷ rest) left g) more) (sub_nothing comes.left comes.sub);
}

inside_stands : (p : ℕ) (rest : List ℕ) (f : Forest) (name : List ℕ) (attributes : List Attribute) →
    IsBlockName name → AreOuter f (p ∷ rest) → Stands (nodes f) (p ∷ rest) [] (with_new p name attributes f)
inside_stands p rest f name attributes is are =
    let g = with_new p name attributes f in
    record {
      word = name;
      named = new_name p name attributes f;
      plain = is.plain;
      held = last_held (nodes f) (nodes g) (size_grown p (element_kind name attributes) f);
      below = all_under (p ∷ rest) g
          (are_outer_kept (p ∷ rest) f g (grown_keeps p (element_kind name attributes) f) are);
      are_open = tt;
    }

pub blocks_come : (of_list : Bool) (content : Content) → IsBlocks of_list content →
    (s : State) (ok : Bool) (p : ℕ) (rest : List ℕ) (f : Forest) (more : List Item) → AreOuter f (p ∷ rest) →
    IsAbove of_list p f → Rebuilds s ok p rest f (tokens_and content more) more (planted p content f)
blocks_come of_list content (no_more _) s ok p rest f more are above = record { flag = ok; come = refl }
blocks_come of_list content (of_text name kids after is inner further) s ok p rest f more are above =
    let block = text_block name is in
    let g = with_new p name [] f in
    let h = planted (nodes f) kids g in
    block_comes s ok ok p rest f name [] kids after more block.ends (block.opens s ok p rest f [] are)
    (text_inside s ok (nodes f) (p ∷ rest) g h (tokens_and kids (end_of name ∷ tokens_and after more))
    (end_of name ∷ tokens_and after more)
    (inlines_come false false kids inner s ok (nodes f) (p ∷ rest) [] g (end_of name ∷ tokens_and after more)
    (inside_stands p rest f name [] block are) tt (in_element p name [] f are.0.held)))
    block.closes
    (λ flag keeps. blocks_come false after further s flag p rest h more (are_outer_kept (p ∷ rest) f h keeps are) tt)
blocks_come of_list content (division kids after inner further) s ok p rest f more are above =
    let name = codes "div" in
    let block = div_block in
    let g = with_new p name [] f in
    let h = planted (nodes f) kids g in
    block_comes s ok ok p rest f name [] kids after more block.ends (block.opens s ok p rest f [] are)
    (blocks_come false kids inner s ok (nodes f) (p ∷ rest) g (end_of name ∷ tokens_and after more)
    (inside_outer p rest f name [] outer_div are) tt)
    block.closes
    (λ flag keeps. blocks_come false after further s flag p rest h more (are_outer_kept (p ∷ rest) f h keeps are) tt)
blocks_come of_list content (quote kids after inner further) s ok p rest f more are above =
    let name = codes "blockquote" in
    let block = quote_block in
    let g = with_new p name [] f in
    let h = planted (nodes f) kids g in
    block_comes s ok ok p rest f name [] kids after more block.ends (block.opens s ok p rest f [] are)
    (blocks_come false kids inner s ok (nodes f) (p ∷ rest) g (end_of name ∷ tokens_and after more)
    (inside_outer p rest f name [] outer_quote are) tt)
    block.closes
    (λ flag keeps. blocks_come false after further s flag p rest h more (are_outer_kept (p ∷ rest) f h keeps are) tt)
blocks_come of_list content (bullets kids after inner further) s ok p rest f more are above =
    let name = codes "ul" in
    let block = ul_block in
    let g = with_new p name [] f in
    let h = planted (nodes f) kids g in
    block_comes s ok ok p rest f name [] kids after more block.ends (block.opens s ok p rest f [] are)
    (blocks_come true kids inner s ok (nodes f) (p ∷ rest) g (end_of name ∷ tokens_and after more)
    (inside_outer p rest f name [] outer_ul are) (ul_list (nodes f) g (new_name p name [] f)))
    block.closes
    (λ flag keeps. blocks_come false after further s flag p rest h more (are_outer_kept (p ∷ rest) f h keeps are) tt)
blocks_come of_list content (numbers attributes kids after one_start inner further) s ok p rest f more are above =
    let name = codes "ol" in
    let block = ol_block in
    let g = with_new p name attributes f in
    let h = planted (nodes f) kids g in
    block_comes s ok ok p rest f name attributes kids after more block.ends (block.opens s ok p rest f attributes are)
    (blocks_come true kids inner s ok (nodes f) (p ∷ rest) g (end_of name ∷ tokens_and after more)
    (inside_outer p rest f name attributes outer_ol are) (ol_list (nodes f) g (new_name p name attributes f)))
    block.closes
    (λ flag keeps. blocks_come false after further s flag p rest h more (are_outer_kept (p ∷ rest) f h keeps are) tt)
blocks_come of_list content (item kids after inner further) s ok p rest f more are above =
    let name = codes "li" in
    let g = with_new p name [] f in
    let h = planted (nodes f) kids g in
    block_comes s ok false p rest f name [] kids after more refl (li_opens s ok p rest f [] are above)
    (blocks_come false kids inner s false (nodes f) (p ∷ rest) g (end_of name ∷ tokens_and after more)
    (inside_outer p rest f name [] outer_li are) tt)
    li_closes
    (λ flag keeps. blocks_come true after further s flag p rest h more (are_outer_kept (p ∷ rest) f h keeps are)
    (list_kept p f h keeps are.0.held above))
