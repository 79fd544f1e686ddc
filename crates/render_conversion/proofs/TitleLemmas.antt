-- Texts of trees, read node by node.
use Rattle.std.proofs.Common.{◌≡◌, ◌+◌, ◌<◌, if◌then◌else◌, [], ◌∷◌, ◌++◌, ◌∙◌, List, ap, append-nil, append_assoc}
use Rattle.std.proofs.Common.{arith, false, refl, sym, true, ℕ}
use Rattle.std.specs.Prelude.{Some}
use Rattle.tree_forest.specs.Trees.{Trees, followed_by, node, none, steps, trees}
use Rattle.tree_forest.specs.Forest.{Forest, children_at, kind_at}
use Rattle.html_render_dom.specs.Numbers.{number_of}
use Rattle.html_render_dom.specs.declared.node.Handle.{Handle}
use Rattle.render_conversion.specs.Titles.{is_title, own_text, text_of, title_of}
use Rattle.render_conversion.proofs.StepLemmas.{Law}

abbrev pub InOrder : Forest → Type 0
InOrder f = (ms ns : List ℕ) → trees f (ms ++ ns) ≡ followed_by (trees f ms) (trees f ns)

text_then : (ts us : Trees) → text_of (followed_by ts us) ≡ text_of ts ++ text_of us
text_then none us = refl
text_then (node kind kids rest) us =
    ap (λ l. own_text kind ++ (text_of kids ++ l)) (text_then rest us)
    ∙ (ap (λ l. own_text kind ++ l) (sym (append_assoc (text_of kids) (text_of rest) (text_of us)))
    ∙ sym (append_assoc (own_text kind) (text_of kids ++ text_of rest) (text_of us)))

steps_then : (ts us : Trees) → steps (followed_by ts us) ≡ steps ts + steps us
steps_then none us = omega arith
steps_then (node kind kids rest) us = let a = steps_then rest us in omega arith

-- a node is read, and its children are still to be read
pub next_text : (f : Forest) (whole old new waiting left mid later others : List ℕ) (n : Handle) (kids : List ℕ)
    → Law f → InOrder f → waiting ≡ number_of n ∷ (others ++ left) → mid ≡ others ++ left
    → kids ≡ children_at (number_of n) f → later ≡ kids ++ mid → new ≡ old ++ own_text (kind_at (number_of n) f)
    → old ++ text_of (trees f waiting) ≡ whole → new ++ text_of (trees f later) ≡ whole
next_text f whole old new waiting left mid later others n kids law order first others_put is put pushed so_far =
    let c = number_of n in
    let below = text_of (trees f (children_at c f)) in
    let trailing = text_of (trees f mid) in
    let of_later : text_of (trees f later) ≡ below ++ trailing =
    ap (λ l. text_of (trees f l)) (put ∙ ap (λ l. l ++ mid) is)
    ∙ (ap text_of (order (children_at c f) mid) ∙ text_then (trees f (children_at c f)) (trees f mid)) in
    let of_waiting : text_of (trees f waiting) ≡ own_text (kind_at c f) ++ (below ++ trailing) =
    ap (λ l. text_of (trees f l)) (first ∙ ap (λ l. c ∷ l) (sym others_put)) ∙ ap text_of (law c mid) in
    ap (λ l. l ++ text_of (trees f later)) pushed
    ∙ (ap (λ l. (old ++ own_text (kind_at c f)) ++ l) of_later
    ∙ (append_assoc old (own_text (kind_at c f)) (below ++ trailing)
    ∙ (ap (λ l. old ++ l) (sym of_waiting) ∙ so_far)))

pub fewer : (f : Forest) (waiting left mid later others : List ℕ) (n : Handle) (kids : List ℕ) → Law f → InOrder f
    → waiting ≡ number_of n ∷ (others ++ left) → mid ≡ others ++ left → kids ≡ children_at (number_of n) f
    → later ≡ kids ++ mid → steps (trees f later) < steps (trees f waiting)
fewer f waiting left mid later others n kids law order first others_put is put =
    let c = number_of n in
    let a = ap (λ l. steps (trees f l)) (put ∙ ap (λ l. l ++ mid) is) in
    let b = ap steps (order (children_at c f) mid) in
    let d = steps_then (trees f (children_at c f)) (trees f mid) in
    let e = ap (λ l. steps (trees f l)) (first ∙ ap (λ l. c ∷ l) (sym others_put)) in
    let g = ap steps (law c mid) in
    omega arith

-- a title, or the first title after what is none
pub title_here : (f : Forest) (ns : List ℕ) (n : ℕ) (rest : List ℕ) → Law f → ns ≡ n ∷ rest
    → is_title (kind_at n f) ≡ true → title_of (trees f ns) ≡ Some (text_of (trees f (children_at n f)))
title_here f ns n rest law first title =
    ap (λ l. title_of (trees f l)) first ∙ (ap title_of (law n rest)
    ∙ ap (λ b. if b then Some (text_of (trees f (children_at n f))) else title_of (trees f rest)) title)

pub title_after : (f : Forest) (ns : List ℕ) (n : ℕ) (rest : List ℕ) → Law f → ns ≡ n ∷ rest
    → is_title (kind_at n f) ≡ false → title_of (trees f ns) ≡ title_of (trees f rest)
title_after f ns n rest law first title =
    ap (λ l. title_of (trees f l)) first ∙ (ap title_of (law n rest)
    ∙ ap (λ b. if b then Some (text_of (trees f (children_at n f))) else title_of (trees f rest)) title)

pub start_text : (f : Forest) (n : ℕ) (cs kids waiting before : List ℕ) → cs ≡ [] → waiting ≡ kids ++ before
    → before ≡ [] → kids ≡ children_at n f
    → cs ++ text_of (trees f waiting) ≡ text_of (trees f (children_at n f))
start_text f n cs kids waiting before no_text pushed end is =
    ap (λ l. l ++ text_of (trees f waiting)) no_text
    ∙ ap (λ l. text_of (trees f l)) (pushed ∙ (ap (λ l. kids ++ l) end ∙ (append-nil kids ∙ is)))

pub whole_text : (f : Forest) (whole cs waiting : List ℕ) → waiting ≡ [] → trees f [] ≡ none
    → cs ++ text_of (trees f waiting) ≡ whole → cs ≡ whole
whole_text f whole cs waiting end empty h =
    sym (append-nil cs)
    ∙ (ap (λ ts. cs ++ text_of ts) (sym empty) ∙ (ap (λ l. cs ++ text_of (trees f l)) (sym end) ∙ h))
