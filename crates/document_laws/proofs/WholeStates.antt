-- Parts of documents, from a state in the body to a state.
use Rattle.std.proofs.Common.{◌≡◌, [], ◌∷◌, ◌∙◌, Bool, List, None, Option, Some, ap, codes, false, fold, inl, inr, sym}
use Rattle.std.proofs.Common.{true, ℕ}
use Rattle.tree_formatting.specs.Entries.{Entry}
use Rattle.tree_forest.specs.Forest.{Forest, nodes}
use Rattle.token_grammar.specs.Items.{Item}
use Rattle.tree_names.specs.Sets.{is_html, is_one_of}
use Rattle.rules_table.specs.Settling.{step, taken_tag}
use Rattle.rules_table.specs.State.{State}
use Rattle.tree_predicates.specs.declared.modes.InsertionMode.{InsertionMode}
use Rattle.tree_predicates.specs.declared.modes.InsertionMode.TheVariants.{InBody}
use Rattle.document_laws.specs.Contents.{tokens}
use Rattle.document_laws.specs.Parts.{AllUnder, BlocksRebuild, HoldBlocks, HoldsItems, InlinesRebuild, IsInBody}
use Rattle.document_laws.specs.Parts.{holders_of_blocks}
use Rattle.document_laws.specs.Planted.{planted}
use Rattle.document_laws.proofs.BlockNames.{IsOuterName, ol_list, outer, outer_body, outer_div, outer_html, outer_li}
use Rattle.document_laws.proofs.BlockNames.{outer_ol, outer_quote, outer_ul, ul_list}
use Rattle.document_laws.proofs.BlockSteps.{AreOuter}
use Rattle.document_laws.proofs.Blocks.{IsAbove, blocks_come}
use Rattle.document_laws.proofs.InlineNames.{for_one}
use Rattle.document_laws.proofs.Inlines.{inlines_come}
use Rattle.document_laws.proofs.Standing.{built, kept_if, now, runs, stepped}
use Rattle.token_grammar.specs.Items as items
use Rattle.html_lexemes.specs.declared.token.Tag.{Tag}
use Rattle.std.proofs.lemmas.Option.{none-some, option_and_then_some, same_Some}

body_of : State → InsertionMode → Option ℕ → (skips : Bool) → List ℕ → (fostering ok : Bool) → List Entry → Forest →
    State
body_of s mode context skips stack fostering ok entries f = record s {
  mode = mode;
  context = context;
  frameset_ok = ok;
  skip_lf = skips;
  tree = record s.tree { stack = stack; formatting = entries; fostering = fostering; forest = f };
}

-- a state in the body with another flag, list and forest
changed_now : (s : State) (p : ℕ) (rest : List ℕ) (ok : Bool) (entries : List Entry) (f : Forest) → IsInBody s →
    s.tree.stack ≡ p ∷ rest →
    record s { frameset_ok = ok; tree = record s.tree { formatting = entries; forest = f } }
    ≡ now s ok (p ∷ rest) entries f
unfolding body_of now built
changed_now s p rest ok entries f is stack =
    ap (λ m. body_of s m s.context s.skip_lf s.tree.stack s.tree.fostering ok entries f) is.mode
    ∙ ap (λ c. body_of s InBody c s.skip_lf s.tree.stack s.tree.fostering ok entries f) is.page
    ∙ ap (λ b. body_of s InBody None b s.tree.stack s.tree.fostering ok entries f) is.past
    ∙ ap (λ ns. body_of s InBody None false ns s.tree.fostering ok entries f) stack
    ∙ ap (λ b. body_of s InBody None false (p ∷ rest) b ok entries f) is.fostering

step_of : (s : State) (t : Tag) (b : Bool) (z : State) → kept_if b (taken_tag t s).state ≡ Some z →
    step s (items.tag t) ≡ z
step_of s t true z e = same_Some (taken_tag t s).state z e
step_of s t false z e = absurd (none-some z e)

pub one_step : (s : State) (item : Item) (z : State) → stepped s item ≡ Some z → step s item ≡ z
one_step s (items.tag t) z e = step_of s t _ z e
one_step s (items.characters cs) z e = same_Some (step s (items.characters cs)) z e
one_step s items.null_character z e = same_Some (step s items.null_character) z e
one_step s (items.comment cs) z e = same_Some (step s (items.comment cs)) z e
one_step s (items.doctype d) z e = same_Some (step s (items.doctype d)) z e
one_step s items.error z e = same_Some (step s items.error) z e
one_step s items.end_of_file z e = same_Some (step s items.end_of_file) z e

pub folds : (s : State) (items : List Item) (z : State) → runs s items ≡ Some z → fold step s items ≡ z
unfolding runs
folds s [] z e = same_Some s z e
folds s (item ∷ items) z e = option_and_then_some (λ y. runs y items) (stepped s item) z e
    (λ y f g. ap (λ x. fold step x items) (one_step s item y f) ∙ folds y items z g)

folded : (s s' z : State) (items : List Item) → s ≡ s' → runs s' items ≡ runs z [] → fold step s items ≡ z
unfolding runs
folded s s' z items e h = ap (λ x. fold step x items) e ∙ folds s' items z h

pub inlines_whole : InlinesRebuild
inlines_whole s p rest word linked after_text content is stack named plain under are free fresh inlines =
    let f = s.tree.forest in
    let entries = s.tree.formatting in
    let g = planted p content f in
    let comes = inlines_come linked after_text content inlines s s.frameset_ok p rest entries f [] (record {
      word = word;
      named = named;
      plain = sym (ap (is_html (codes "template")) named) ∙ plain;
      held = under.0;
      below = under.1;
      are_open = are;
    }) free fresh in (
      comes.flag,
      comes.left,
      comes.sub,
      folded s (now s s.frameset_ok (p ∷ rest) entries f) (now s comes.flag (p ∷ rest) comes.left g) (tokens content)
          (changed_now s p rest s.frameset_ok entries f is stack) comes.come
          ∙ sym (changed_now s p rest comes.flag comes.left g is stack),
    )

outer_word : (word : List ℕ) → is_one_of holders_of_blocks word ≡ true → IsOuterName word
outer_word word is = for_one IsOuterName holders_of_blocks word
    (outer_html, (outer_body, (outer_div, (outer_quote, (outer_ul, (outer_ol, (outer_li, tt))))))) is

all_outer : (f : Forest) (ns : List ℕ) → AllUnder (nodes f) ns → HoldBlocks f ns → AreOuter f ns
all_outer f [] under hold = tt
all_outer f (n ∷ ns) under hold =
    (outer n f hold.0.0 (outer_word hold.0.0 hold.0.2) hold.0.1 under.0, all_outer f ns under.1 hold.1)

above : (of_list : Bool) (p : ℕ) (f : Forest) → HoldsItems of_list p f → IsAbove of_list p f
above false p f holds = tt
above true p f (inl e) = ul_list p f e
above true p f (inr e) = ol_list p f e

pub blocks_whole : BlocksRebuild
blocks_whole s p rest of_list content is stack none_listed under hold items blocks =
    let f = s.tree.forest in
    let g = planted p content f in
    let comes = blocks_come of_list content blocks s s.frameset_ok p rest f [] (all_outer f (p ∷ rest) under hold)
    (above of_list p f items) in (
      comes.flag,
      folded s (now s s.frameset_ok (p ∷ rest) [] f) (now s comes.flag (p ∷ rest) [] g) (tokens content)
          (changed_now s p rest s.frameset_ok s.tree.formatting f is stack
          ∙ ap (λ es. now s s.frameset_ok (p ∷ rest) es f) none_listed) comes.come
          ∙ ap (λ es. now s comes.flag (p ∷ rest) es g) (sym none_listed)
          ∙ sym (changed_now s p rest comes.flag s.tree.formatting g is stack),
    )
