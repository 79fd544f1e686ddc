-- A written document is a page's text as it stands: it begins with `<`, and no CR stands in it.
use Rattle.std.proofs.Common.{◌≡◌, ◌&&◌, ◌==◌, [], ◌∷◌, ◌++◌, if◌then◌else◌, ◌∙◌, Bool, List, None, Option, Some, ap}
use Rattle.std.proofs.Common.{codes, false, refl, subst, sym, true, ℕ}
use Rattle.document_laws.proofs.ReadTexts.{no_first, other_way}
use Rattle.tree_forest.specs.Forest.{is_in}
use Rattle.token_grammar.specs.PageText.{page_text}
use Rattle.html_lexemes.specs.LineEnds.{begins_with_line_feed, line_feed, lines_ended}
use Rattle.html_lexemes.specs.declared.names.Attribute.{Attribute}
use Rattle.tree_serializer.specs.Escapes.{attributes_text, end_text, escaped, escaped_character, start_text}
use Rattle.document_laws.specs.Contents.{Content, HasOne, Inline, IsBlocks, IsInline, IsInlines, marks, span}
use Rattle.document_laws.specs.Contents.{texts_of_blocks}
use Rattle.document_laws.specs.Contents as kinds
use Rattle.document_laws.specs.Planted.{of_html}
use Rattle.written_document_laws.proofs.Elements.{for_one}
use Rattle.written_document_laws.specs.Documents.{AreWithout, IsTitleWithout, IsWithout, content_text, document_text}
use Rattle.written_document_laws.specs.Documents.{is_void, title_text}

-- no CR stands in a text
abbrev NoReturn : List ℕ → Type 0
NoReturn cs = is_in 13 cs ≡ false

both : (xs ys : List ℕ) → NoReturn xs → NoReturn ys → NoReturn (xs ++ ys)
both [] ys h k = k
both (x ∷ xs) ys h k =
    let parts = no_first (13 == x) (is_in 13 xs) h in
    ap (λ b. if b then true else is_in 13 (xs ++ ys)) parts.0 ∙ both xs ys parts.1 k

one_escaped : (a b d e f : Bool) (c : ℕ) → NoReturn (c ∷ []) → NoReturn (if a then codes "&amp;"
    else if b then codes "&nbsp;" else if d then codes "&lt;" else if e then codes "&gt;" else if f then codes "&quot;"
    else c ∷ [])
one_escaped true b d e f c h = refl
one_escaped false true d e f c h = refl
one_escaped false false true e f c h = refl
one_escaped false false false true f c h = refl
one_escaped false false false false true c h = refl
one_escaped false false false false false c h = h

escaped_none : (in_value : Bool) (cs : List ℕ) → NoReturn cs → NoReturn (escaped in_value cs)
escaped_none in_value [] h = refl
escaped_none in_value (c ∷ cs) h =
    let parts = no_first (13 == c) (is_in 13 cs) h in
    both (escaped_character in_value c) (escaped in_value cs)
    (one_escaped (c == 38) (c == 160) (c == 60) (c == 62) (in_value && c == 34) c
    (ap (λ b. if b then true else false) parts.0))
    (escaped_none in_value cs parts.1)

-- ---- tags

end_none : (name : List ℕ) → NoReturn name → NoReturn (end_text (of_html name))
end_none name h = both (60 ∷ 47 ∷ name) (62 ∷ []) h refl

start_none : (name : List ℕ) (attributes : List Attribute) → NoReturn name → NoReturn (attributes_text attributes) →
    NoReturn (start_text (of_html name) attributes)
start_none name attributes h k =
    both (60 ∷ (name ++ attributes_text attributes)) (62 ∷ []) (both name (attributes_text attributes) h k) refl

bare_none : (attributes : List Attribute) → attributes ≡ [] → NoReturn (attributes_text attributes)
bare_none attributes e = subst (λ xs. NoReturn (attributes_text xs)) (sym e) refl

one_none : (word : List ℕ) (attributes : List Attribute) → NoReturn word → HasOne word attributes →
    AreWithout 13 attributes → NoReturn (attributes_text attributes)
one_none word attributes h one without =
    let value : List ℕ = one.0 in
    let e : List ℕ = escaped true value in
    subst (λ xs. NoReturn (attributes_text xs)) (sym one.1)
    (both ((32 ∷ word ++ 61 ∷ 34 ∷ e) ++ 34 ∷ []) []
    (both (32 ∷ word ++ 61 ∷ 34 ∷ e) (34 ∷ [])
    (both word (61 ∷ 34 ∷ e) h (escaped_none true value (subst (AreWithout 13) one.1 without).0)) refl) refl)

within_none : (name inner : List ℕ) (void : Bool) → NoReturn name → NoReturn inner →
    NoReturn (if void then [] else inner ++ end_text (of_html name))
within_none name inner true h k = refl
within_none name inner false h k = both inner (end_text (of_html name)) k (end_none name h)

element_none : (name : List ℕ) (attributes : List Attribute) (kids rest : Content) → NoReturn name →
    NoReturn (attributes_text attributes) → NoReturn (content_text kids) → NoReturn (content_text rest) →
    NoReturn (content_text (span name attributes kids rest))
element_none name attributes kids rest h k inner further =
    let within : List ℕ = if is_void name then [] else content_text kids ++ end_text (of_html name) in
    both (start_text (of_html name) attributes) (within ++ content_text rest) (start_none name attributes h k)
    (both within (content_text rest) (within_none name (content_text kids) (is_void name) h inner) further)

-- ---- contents

inline_name : (kind : Inline) (linked : Bool) (name : List ℕ) (attributes : List Attribute) (kids : Content) →
    IsInline kind linked name attributes kids → NoReturn name
inline_name kinds.line_break linked name attributes kids h = ap (is_in 13) h.0
inline_name kinds.mark linked name attributes kids h =
    for_one NoReturn marks name (refl, (refl, (refl, (refl, (refl, tt))))) h.0
inline_name kinds.link linked name attributes kids h = ap (is_in 13) h.0

inline_attributes : (kind : Inline) (linked : Bool) (name : List ℕ) (attributes : List Attribute) (kids : Content) →
    IsInline kind linked name attributes kids → AreWithout 13 attributes → NoReturn (attributes_text attributes)
inline_attributes kinds.line_break linked name attributes kids h without = bare_none attributes h.1.0
inline_attributes kinds.mark linked name attributes kids h without = bare_none attributes h.1
inline_attributes kinds.link linked name attributes kids h without =
    one_none (codes "href") attributes refl h.1.0 without

inlines_none : (linked trailing : Bool) (content : Content) → IsInlines linked trailing content → IsWithout 13 content →
    NoReturn (content_text content)
inlines_none linked trailing _ (kinds.nothing _ _) h = refl
inlines_none linked trailing _ (kinds.text _ c cs rest is) h =
    both (escaped false (c ∷ cs)) (content_text rest) (escaped_none false (c ∷ cs) h.0)
    (inlines_none linked true rest is h.1)
inlines_none linked trailing _ (kinds.inline _ _ kind name attributes kids rest is inner further) h =
    element_none name attributes kids rest (inline_name kind linked name attributes kids is)
    (inline_attributes kind linked name attributes kids is h.0) (inlines_none _ false kids inner h.1.0)
    (inlines_none linked false rest further h.1.1)

blocks_none : (of_list : Bool) (content : Content) → IsBlocks of_list content → IsWithout 13 content →
    NoReturn (content_text content)
blocks_none of_list _ (kinds.no_more _) h = refl
blocks_none of_list _ (kinds.of_text name kids rest is inner further) h =
    element_none name [] kids rest
    (for_one NoReturn texts_of_blocks name (refl, (refl, (refl, (refl, (refl, (refl, (refl, tt))))))) is) refl
    (inlines_none false false kids inner h.1.0) (blocks_none false rest further h.1.1)
blocks_none of_list _ (kinds.division kids rest inner further) h =
    element_none (codes "div") [] kids rest refl refl (blocks_none false kids inner h.1.0)
    (blocks_none false rest further h.1.1)
blocks_none of_list _ (kinds.quote kids rest inner further) h =
    element_none (codes "blockquote") [] kids rest refl refl (blocks_none false kids inner h.1.0)
    (blocks_none false rest further h.1.1)
blocks_none of_list _ (kinds.bullets kids rest inner further) h =
    element_none (codes "ul") [] kids rest refl refl (blocks_none true kids inner h.1.0)
    (blocks_none false rest further h.1.1)
blocks_none of_list _ (kinds.numbers attributes kids rest one_start inner further) h =
    element_none (codes "ol") attributes kids rest refl (one_none (codes "start") attributes refl one_start h.0)
    (blocks_none true kids inner h.1.0) (blocks_none false rest further h.1.1)
blocks_none of_list _ (kinds.item kids rest inner further) h =
    element_none (codes "li") [] kids rest refl refl (blocks_none false kids inner h.1.0)
    (blocks_none true rest further h.1.1)

title_none : (title : Option (List ℕ)) → IsTitleWithout 13 title → NoReturn (title_text title)
title_none None h = refl
title_none (Some title) h =
    both (codes "<title>" ++ escaped false title) (codes "</title>")
    (both (codes "<title>") (escaped false title) refl (escaped_none false title h)) refl

document_none : (title : Option (List ℕ)) (content : Content) → IsTitleWithout 13 title → IsWithout 13 content →
    IsBlocks false content → NoReturn (document_text title content)
document_none title content h k blocks =
    let ends : List ℕ = content_text content ++ codes "</body></html>" in
    both (codes "<!DOCTYPE html><html><head>") (title_text title ++ (codes "</head><body>" ++ ends)) refl
    (both (title_text title) (codes "</head><body>" ++ ends) (title_none title h)
    (both (codes "</head><body>") ends refl
    (both (content_text content) (codes "</body></html>") (blocks_none false content blocks k) refl)))

-- ---- lines

no_line_ended : (cs : List ℕ) → NoReturn cs → lines_ended cs ≡ cs
no_line_ended [] h = refl
no_line_ended (c ∷ cs) h =
    let parts = no_first (13 == c) (is_in 13 cs) h in
    ap (λ b. if b then (if begins_with_line_feed cs then lines_ended cs else line_feed ∷ lines_ended cs)
    else c ∷ lines_ended cs) (other_way 13 c parts.0)
    ∙ ap (λ t. c ∷ t) (no_line_ended cs parts.1)

pub page_is : (discard : Bool) (title : Option (List ℕ)) (content : Content) → IsTitleWithout 13 title →
    IsWithout 13 content → IsBlocks false content →
    page_text discard (document_text title content) ≡ document_text title content
page_is true title content h k blocks =
    no_line_ended (document_text title content) (document_none title content h k blocks)
page_is false title content h k blocks =
    no_line_ended (document_text title content) (document_none title content h k blocks)
