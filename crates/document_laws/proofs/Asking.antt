-- Along a document the tokenizer is asked to read the text of its title as such, and for nothing else.
use Rattle.std.proofs.Common.{◌≡◌, ◌||◌, ◌&&◌, [], ◌∷◌, if◌then◌else◌, ◌∙◌, Bool, List, None, Option, Some, ap, codes}
use Rattle.std.proofs.Common.{false, refl, subst, sym, true, ℕ}
use Rattle.std.proofs.lemmas.Option.{none-some, option_and_then_some}
use Rattle.std.specs.Option.{option_map}
use Rattle.tree_forest.specs.Forest.{page_alone}
use Rattle.token_grammar.specs.Items.{Item, end_of_file}
use Rattle.token_grammar.specs.Items as items
use Rattle.html_lexemes.specs.declared.names.Attribute.{Attribute}
use Rattle.html_lexemes.specs.declared.states.RawKind.TheVariants.{Rcdata}
use Rattle.html_lexemes.specs.declared.token.Tag.{Tag}
use Rattle.page_tree_laws.specs.KeptText.{IsAtBeginning}
use Rattle.tree_names.specs.Sets.{is_one_of}
use Rattle.rules_table.specs.Rank.{rank}
use Rattle.rules_table.specs.Settling.{Settled, given_by, settle, step, taken, taken_tag}
use Rattle.rules_table.specs.State.{Ask, State, encoding, nothing, plaintext, raw, script, start}
use Rattle.tree_predicates.specs.declared.modes.InsertionMode.TheVariants as modes
use Rattle.document_laws.specs.Asked.{AreAsked, DocumentsAsk, IsAsked, asked_by, opens_title}
use Rattle.document_laws.specs.Contents.{Content, Inline, IsBlocks, IsInline, IsInlines, end_of, ended, marks, start_of}
use Rattle.document_laws.specs.Contents.{texts_of_blocks, tokens_and}
use Rattle.document_laws.specs.Contents as kinds
use Rattle.document_laws.specs.Rebuilt.{document_tokens, head_alone, html_doctype, text_tokens, title_tokens}
use Rattle.document_laws.proofs.Documents.{documents_run}
use Rattle.document_laws.proofs.InlineNames.{for_one}
use Rattle.document_laws.proofs.Pages.{beginning_reaches, page_at, title_rule}
use Rattle.document_laws.proofs.Standing.{is_nothing, is_rcdata, kept_if, opening, runs, settled_as, stepped}
use Rattle.document_laws.proofs.WholeStates.{folds, one_step}

-- ---- one item

kept_is : (b : Bool) (s z : State) → kept_if b s ≡ Some z → b ≡ true
kept_is true s z e = refl
kept_is false s z e = absurd (none-some z e)

quiet : (ask : Ask) (b : Bool) → (is_nothing ask || (false && b)) ≡ true → ask ≡ nothing
quiet nothing b e = refl
quiet plaintext b e = absurd (let k : false ≡ true = e in cc)
quiet (raw kind) b e = absurd (let k : false ≡ true = e in cc)
quiet (script n) b e = absurd (let k : false ≡ true = e in cc)
quiet (encoding name) b e = absurd (let k : false ≡ true = e in cc)

-- no start tag of a title
abbrev NoTitleTag : Item → Type 0
NoTitleTag (items.tag t) = opens_title t.kind t.name ≡ false
NoTitleTag (items.characters cs) = Unit {0}
NoTitleTag items.null_character = Unit {0}
NoTitleTag (items.comment cs) = Unit {0}
NoTitleTag (items.doctype d) = Unit {0}
NoTitleTag items.error = Unit {0}
NoTitleTag items.end_of_file = Unit {0}

abbrev NoTitles : List Item → Type 0
NoTitles [] = Unit {0}
NoTitles (item ∷ more) = NoTitleTag item × NoTitles more

asked_of : (t : Tag) (settled : Settled) (z : State) → opens_title t.kind t.name ≡ false →
    settled_as t settled ≡ Some z → settled.ask ≡ asked_by (opens_title t.kind t.name)
asked_of t settled z untitled e =
    quiet settled.ask (is_rcdata settled.ask)
    (subst (λ b. (is_nothing settled.ask || (b && is_rcdata settled.ask)) ≡ true) untitled
    (kept_is (is_nothing settled.ask || (opens_title t.kind t.name && is_rcdata settled.ask)) settled.state z e))
    ∙ ap asked_by (sym untitled)

one_asked : (s z : State) (item : Item) → NoTitleTag item → stepped s item ≡ Some z → IsAsked s item
one_asked s z (items.tag t) untitled e = asked_of t (taken_tag t s) z untitled e
one_asked s z (items.characters cs) _ e = tt
one_asked s z items.null_character _ e = tt
one_asked s z (items.comment cs) _ e = tt
one_asked s z (items.doctype d) _ e = tt
one_asked s z items.error _ e = tt
one_asked s z items.end_of_file _ e = tt

-- the items after one
run_on : (P : Type 0) (s z : State) (item : Item) (more : List Item) → runs s (item ∷ more) ≡ Some z →
    ((y : State) → stepped s item ≡ Some y → step s item ≡ y → runs (step s item) more ≡ Some z → P) → P
unfolding runs
run_on P s z item more e k = option_and_then_some (λ y. runs y more) (stepped s item) z e
    (λ y f g. k y f (one_step s item y f)
    (subst (λ x. runs x more ≡ Some z) (sym (one_step s item y f)) g))

all_asked : (s z : State) (more : List Item) → NoTitles more → runs s more ≡ Some z → AreAsked s more
all_asked s z [] _ e = tt
all_asked s z (item ∷ more) untitled e = run_on (AreAsked s (item ∷ more)) s z item more e
    (λ y f g h. (one_asked s y item untitled.0 f, all_asked (step s item) z more untitled.1 h))

-- ---- a document has one title

ended_none : (name : List ℕ) (more : List Item) (b : Bool) → NoTitles more →
    NoTitles (if b then more else end_of name ∷ more)
ended_none name more true h = h
ended_none name more false h = (refl, h)

is_no_title : List ℕ → Type 0
is_no_title name = is_one_of (codes "title" ∷ []) name ≡ false

inline_name : (kind : Inline) (linked : Bool) (name : List ℕ) (attributes : List Attribute) (kids : Content) →
    IsInline kind linked name attributes kids → is_one_of (codes "title" ∷ []) name ≡ false
inline_name kinds.line_break linked name attributes kids h = ap (is_one_of (codes "title" ∷ [])) h.0
inline_name kinds.mark linked name attributes kids h =
    for_one (λ name. is_one_of (codes "title" ∷ []) name ≡ false) marks name (
      refl,
      (refl, (refl, (refl, (refl, tt)))),
    ) h.0
inline_name kinds.link linked name attributes kids h = ap (is_one_of (codes "title" ∷ [])) h.0

inlines_none : (linked trailing : Bool) (content : Content) → IsInlines linked trailing content → (more : List Item) →
    NoTitles more → NoTitles (tokens_and content more)
inlines_none linked trailing _ (kinds.nothing _ _) more h = h
inlines_none linked trailing _ (kinds.text _ c cs rest is) more h = (tt, inlines_none linked true rest is more h)
inlines_none linked trailing _ (kinds.inline _ _ kind name attributes kids rest is inner further) more h = (
  inline_name kind linked name attributes kids is,
  inlines_none _ false kids inner (ended name (tokens_and rest more))
      (ended_none name (tokens_and rest more) (is_one_of (codes "br" ∷ []) name)
      (inlines_none linked false rest further more h)),
)

blocks_none : (of_list : Bool) (content : Content) → IsBlocks of_list content → (more : List Item) → NoTitles more →
    NoTitles (tokens_and content more)
blocks_none of_list _ (kinds.no_more _) more h = h
blocks_none of_list _ (kinds.of_text name kids rest is inner further) more h = (
  for_one (λ name. is_one_of (codes "title" ∷ []) name ≡ false) texts_of_blocks name
      (refl, (refl, (refl, (refl, (refl, (refl, (refl, tt))))))) is,
  inlines_none false false kids inner (ended name (tokens_and rest more))
      (ended_none name (tokens_and rest more) (is_one_of (codes "br" ∷ []) name)
      (blocks_none false rest further more h)),
)
blocks_none of_list _ (kinds.division kids rest inner further) more h = (
  refl,
  blocks_none false kids inner (end_of (codes "div") ∷ tokens_and rest more)
      (refl, blocks_none false rest further more h),
)
blocks_none of_list _ (kinds.quote kids rest inner further) more h = (
  refl,
  blocks_none false kids inner (end_of (codes "blockquote") ∷ tokens_and rest more)
      (refl, blocks_none false rest further more h),
)
blocks_none of_list _ (kinds.bullets kids rest inner further) more h = (
  refl,
  blocks_none true kids inner (end_of (codes "ul") ∷ tokens_and rest more)
      (refl, blocks_none false rest further more h),
)
blocks_none of_list _ (kinds.numbers attributes kids rest one inner further) more h = (
  refl,
  blocks_none true kids inner (end_of (codes "ol") ∷ tokens_and rest more)
      (refl, blocks_none false rest further more h),
)
blocks_none of_list _ (kinds.item kids rest inner further) more h = (
  refl,
  blocks_none false kids inner (end_of (codes "li") ∷ tokens_and rest more)
      (refl, blocks_none true rest further more h),
)

-- ---- the whole document

ran : (r : Option State) (g : _) → option_map (λ (z : State). z.tree.forest) r ≡ Some g → (z : State) × (r ≡ Some z)
ran None g e = absurd (none-some g e)
ran (Some z) g e = (z, refl)

title_asks : (s : State) → (taken (start (opening (codes "title") []))
    (page_at s modes.InHead (3 ∷ 2 ∷ []) head_alone)).ask
    ≡ raw Rcdata
title_asks s = let here = page_at s modes.InHead (3 ∷ 2 ∷ []) head_alone in
    ap (λ r. (given_by r here (settle (rank (start (opening (codes "title") [])) here)
    (start (opening (codes "title") [])))).ask)
    (title_rule s)

text_none : (cs : List ℕ) (more : List Item) → NoTitles more → NoTitles (text_tokens cs more)
text_none [] more h = h
text_none (c ∷ cs) more h = (tt, h)

-- at the title
title_taken : (s : State) → (taken_tag (opening (codes "title") [])
    (page_at s modes.InHead (3 ∷ 2 ∷ []) head_alone)).ask
    ≡ raw Rcdata
unfolding page_at
title_taken s = title_asks s

runs_end : (s : State) → runs s [] ≡ Some s
unfolding runs
runs_end s = refl

at_title : (s : State) → IsAtBeginning s → s.tree.forest ≡ page_alone → s.options.drop_doctype ≡ false →
    IsAsked (step (step (step s html_doctype) (start_of (codes "html") [])) (start_of (codes "head") []))
    (start_of (codes "title") [])
at_title s is alone keeps =
    let reached = beginning_reaches s [] is alone keeps in
    let here : State = page_at reached.at modes.InHead (3 ∷ 2 ∷ []) head_alone in
    let come : step (step (step s html_doctype) (start_of (codes "html") [])) (start_of (codes "head") []) ≡ here
    = folds s (html_doctype ∷ start_of (codes "html") [] ∷ start_of (codes "head") [] ∷ []) here
    (reached.come ∙ runs_end here) in
    ap (λ z. (taken_tag (opening (codes "title") []) z).ask) come ∙ title_taken reached.at

whole_asked : (s : State) (title : Option (List ℕ)) (z : State) (within : List Item) → NoTitles within →
    IsAsked (step (step (step s html_doctype) (start_of (codes "html") [])) (start_of (codes "head") []))
    (start_of (codes "title") []) →
    runs s (html_doctype ∷ start_of (codes "html") [] ∷ start_of (codes "head") [] ∷ title_tokens title within)
    ≡ Some z →
    AreAsked s (html_doctype ∷ start_of (codes "html") [] ∷ start_of (codes "head") [] ∷ title_tokens title within)
whole_asked s None z within untitled asked e =
    all_asked s z (html_doctype ∷ start_of (codes "html") [] ∷ start_of (codes "head") [] ∷ within)
    (tt, (refl, (refl, untitled))) e
whole_asked s (Some cs) z within untitled asked e =
    let a = step s html_doctype in
    let b = step a (start_of (codes "html") []) in
    let c = step b (start_of (codes "head") []) in
    let text = text_tokens cs (end_of (codes "title") ∷ within) in
    let last = start_of (codes "title") [] ∷ text in
    let third = start_of (codes "head") [] ∷ last in
    let second = start_of (codes "html") [] ∷ third in
    run_on (AreAsked s (html_doctype ∷ second)) s z html_doctype second e (λ y f g h. (
      tt,
      run_on (AreAsked a second) a z (start_of (codes "html") []) third h (λ y f g h. (
        one_asked a y (start_of (codes "html") []) refl f,
        run_on (AreAsked b third) b z (start_of (codes "head") []) last h (λ y f g h. (
          one_asked b y (start_of (codes "head") []) refl f,
          run_on (AreAsked c last) c z (start_of (codes "title") []) text h (λ y f g h. (
            asked,
            all_asked (step c (start_of (codes "title") [])) z text
                (text_none cs (end_of (codes "title") ∷ within) (refl, untitled)) h,
          )),
        )),
      )),
    ))

pub documents_ask : DocumentsAsk
documents_ask s title content is alone keeps blocks =
    let ends : List Item = end_of (codes "body") ∷ end_of (codes "html") ∷ end_of_file ∷ [] in
    let within : List Item = end_of (codes "head") ∷ start_of (codes "body") [] ∷ tokens_and content ends in
    let untitled : NoTitles within = (refl, (refl, blocks_none false content blocks ends (refl, (refl, (tt, tt))))) in
    let r = ran (runs s (document_tokens title content)) _ (documents_run s title content is alone keeps blocks) in
    whole_asked s title r.0 within untitled (at_title s is alone keeps) r.1
