-- Turns that are taken: nodes that are left out, closings, and texts by rules.
use Rattle.std.proofs.Common.{◌≡◌, ◌+◌, ◌<◌, ◌≤◌, ◌&&◌, if◌then◌else◌, [], ◌∷◌, ◌++◌, ◌∙◌, Bool, Err, List, Ok, OnOk}
use Rattle.std.proofs.Common.{Result, ap, append-nil, append_assoc, arith, drop, false, length, length-append, not}
use Rattle.std.proofs.Common.{refl, subst, sym, take, true, ℕ}
use Rattle.std.proofs.lemmas.List.{take-append-le}
use Rattle.tree_forest.specs.Trees.{node, trees}
use Rattle.tree_forest.specs.Forest.{Forest, Kind, children_at, kind_at}
use Rattle.html_render_dom.specs.Numbers.{number_of}
use Rattle.html_render_dom.specs.declared.node.Handle.{Handle}
use Rattle.render_values.specs.Arena.{IsFlat, flat, values_of}
use Rattle.render_values.specs.Closing.{closed, closed_at, ended_first, ending_first}
use Rattle.render_values.specs.Endings.{ended, ending}
use Rattle.render_values.specs.Values.{Values, joined, none}
use Rattle.render_values.specs.declared.closing.Condition.{Condition}
use Rattle.render_values.specs.declared.closing.Opened.{Opened}
use Rattle.render_values.specs.declared.closing.Outcome.{Outcome}
use Rattle.render_values.specs.declared.closing.Outcome.TheVariants.{Fragment, Goes, Raised, Stays}
use Rattle.render_values.specs.declared.info.Head.{Head}
use Rattle.render_values.specs.declared.node.RenderNode.{RenderNode}
use Rattle.render_values.proofs.ArenaLemmas.{flat_by, flat_is, flat_joined}
use Rattle.render_conversion.specs.Conversion.{content, inside_of, value_before, valued, values}
use Rattle.render_conversion.specs.Heads.{head_of}
use Rattle.render_conversion.specs.Meanings.{meaning}
use Rattle.render_conversion.specs.Places.{is_guarded, is_shown}
use Rattle.render_conversion.specs.Styles.{Parts, Styles, parts_of}
use Rattle.render_conversion.specs.Turns.{AreOpen, IsDone, effort, later, visits, weight}
use Rattle.render_conversion.specs.declared.options.Pages.{Pages}
use Rattle.render_conversion.specs.declared.kinds.Meaning.{Meaning}
use Rattle.render_conversion.specs.declared.options.ConversionOptions.{ConversionOptions}
use Rattle.render_conversion.specs.declared.place.Place.{Place}
use Rattle.render_conversion.specs.declared.turns.Turn.{Turn}
use Rattle.render_conversion.specs.declared.turns.Turn.TheVariants.{After, Close, Closing, Row, Table, Visit}

abbrev pub Law : Forest → Type 0
Law f = (n : ℕ) (ns : List ℕ) → trees f (n ∷ ns) ≡ node (kind_at n f) (trees f (children_at n f)) (trees f ns)

-- ---- values

ended_before : (o : Outcome) (head : Head) (inside rest : Values)
    → ended o head inside rest ≡ joined (ended o head inside none) rest
ended_before Stays head inside rest = refl
ended_before Raised head inside rest = refl
ended_before Fragment head inside rest = refl
ended_before Goes head inside rest = refl

valued_before : (m : Meaning) (guarded : Bool) (kind : Kind) (style : Parts) (at : Place → Values) (rest : Values)
    → valued m guarded kind style at rest ≡ joined (valued m guarded kind style at none) rest
valued_before m guarded kind style at rest =
    let head = head_of m.info style.itself.look kind in
    let all = inside_of m.inner style at in
    ended_before (ending m.condition guarded head all) head all rest

by_test : (b : Bool) (m : Meaning) (guarded : Bool) (kind : Kind) (style : Parts) (at : Place → Values) (rest : Values)
    → (if b then valued m guarded kind style at rest else rest)
    ≡ joined (if b then valued m guarded kind style at none else none) rest
by_test true m guarded kind style at rest = valued_before m guarded kind style at rest
by_test false m guarded kind style at rest = refl

value_split : (o : ConversionOptions) (place : Place) (m : Meaning) (kind : Kind) (style : Parts) (at : Place → Values)
    (rest : Values)
    → value_before o place m kind style at rest ≡ joined (value_before o place m kind style at none) rest
value_split o place m kind style at rest =
    by_test (is_shown o place kind && not style.itself.hidden) m (is_guarded place kind) kind style at rest

-- ---- nodes of a forest

abbrev pub meaning_at : Pages → Place → Forest → ℕ → Meaning
meaning_at pages place f n = meaning pages place (kind_at n f) (trees f (children_at n f))

-- what the children of a node have at a place
abbrev pub kids_at : ConversionOptions → Styles → Forest → ℕ → Place → Values
kids_at o styles f n = λ place. values o styles place (trees f (children_at n f))

pub values_one : (o : ConversionOptions) (styles : Styles) (f : Forest) (place : Place) (n : ℕ) → Law f
    → values o styles place (trees f (n ∷ []))
    ≡ value_before o place (meaning_at o.pages place f n) (kind_at n f) (parts_of styles (kind_at n f))
    (kids_at o styles f n) none
values_one o styles f place n law = ap (values o styles place) (law n [])

values_more : (o : ConversionOptions) (styles : Styles) (f : Forest) (place : Place) (n : ℕ) (ns : List ℕ) → Law f
    → values o styles place (trees f (n ∷ ns))
    ≡ joined (values o styles place (trees f (n ∷ []))) (values o styles place (trees f ns))
values_more o styles f place n ns law =
    ap (values o styles place) (law n ns)
    ∙ (value_split o place (meaning_at o.pages place f n) (kind_at n f) (parts_of styles (kind_at n f))
    (kids_at o styles f n) (values o styles place (trees f ns))
    ∙ ap (λ vs. joined vs (values o styles place (trees f ns))) (sym (values_one o styles f place n law)))

-- ---- turns

pub later_visits : (o : ConversionOptions) (styles : Styles) (f : Forest) (place : Place) (ns : List ℕ) (ts : List Turn)
    (xs : List RenderNode) → Law f
    → later o styles f (visits place ns ++ ts) xs
    ≡ later o styles f ts (xs ++ flat (values o styles place (trees f ns)))
later_visits o styles f place [] ts xs law = ap (later o styles f ts) (sym (append-nil xs))
later_visits o styles f place (n ∷ ns) ts xs law = refl

pub open_visits : (place : Place) (ns : List ℕ) (ts : List Turn) (xs : List RenderNode) → AreOpen xs ts
    → AreOpen xs (visits place ns ++ ts)
open_visits place [] ts xs h = h
open_visits place (n ∷ ns) ts xs h = h

effort_more : (f : Forest) (n : ℕ) (ns : List ℕ) → Law f
    → effort (trees f (n ∷ ns)) ≡ effort (trees f (n ∷ [])) + effort (trees f ns)
effort_more f n ns law =
    let a = ap effort (law n ns) in
    let b = ap effort (law n []) in
    omega arith

pub weight_visits : (f : Forest) (place : Place) (ns : List ℕ) (ts : List Turn) → Law f
    → weight f (visits place ns ++ ts) ≡ effort (trees f ns) + weight f ts
weight_visits f place [] ts law = omega arith
weight_visits f place (n ∷ ns) ts law = refl

-- the first of some nodes is visited, and then the others
row_later : (o : ConversionOptions) (styles : Styles) (f : Forest) (place : Place) (n : Handle) (others : List ℕ)
    (ts : List Turn)
    (xs : List RenderNode) → Law f
    → later o styles f (Visit n place ∷ visits place others ++ ts) xs ≡ later o styles f (Row n others place ∷ ts) xs
row_later o styles f place n others ts xs law =
    let one = flat (values o styles place (trees f (number_of n ∷ []))) in
    let more = flat (values o styles place (trees f others)) in
    later_visits o styles f place others ts (xs ++ one) law
    ∙ ap (later o styles f ts) (append_assoc xs one more
    ∙ ap (λ l. xs ++ l) (sym (ap flat (values_more o styles f place (number_of n) others law)
    ∙ flat_joined (values o styles place (trees f (number_of n ∷ []))) (values o styles place (trees f others)))))

row_weight : (f : Forest) (place : Place) (n : Handle) (others : List ℕ) (ts : List Turn) → Law f
    → weight f (Visit n place ∷ visits place others ++ ts) ≡ weight f (Row n others place ∷ ts)
row_weight f place n others ts law =
    let a = weight_visits f place others ts law in
    let b = effort_more f (number_of n) others law in
    omega arith

pub row_open : (place : Place) (others : List ℕ) (ts put : List Turn) (xs : List RenderNode)
    → put ≡ visits place others ++ ts → AreOpen xs ts → AreOpen xs put
row_open place others ts put xs e h = subst (AreOpen xs) (sym e) (open_visits place others ts xs h)

pub row_done : {A : Type 0} {E : Type 0} (r : Result A E) (o : ConversionOptions) (styles : Styles) (f : Forest)
    (n : Handle)
    (others : List ℕ) (place : Place) (ts put new : List Turn) (xs ys : List RenderNode) → Law f
    → put ≡ visits place others ++ ts → OnOk r (IsDone o styles f (Visit n place ∷ put) xs new ys)
    → OnOk r (IsDone o styles f (Row n others place ∷ ts) xs new ys)
row_done (Err e) o styles f n others place ts put new xs ys law is done = tt
row_done (Ok v) o styles f n others place ts put new xs ys law is done =
    let w : weight f (Visit n place ∷ put) ≡ weight f (Row n others place ∷ ts) =
    ap (λ l. weight f (Visit n place ∷ l)) is ∙ row_weight f place n others ts law in
    record {
      same = done.same ∙ (ap (λ l. later o styles f (Visit n place ∷ l) xs) is
          ∙ row_later o styles f place n others ts xs law);
      opened = done.opened;
      flat = done.flat;
      falls = subst (λ k. weight f new < k) w done.falls;
    }

-- ---- values that stand open

pub take_seam : (xs ys : List RenderNode) → take (length xs) (xs ++ ys) ≡ xs
take_seam [] ys = refl
take_seam (x ∷ xs) ys = ap (λ l. x ∷ l) (take_seam xs ys)

pub open_more : (xs ys : List RenderNode) (ts : List Turn) → AreOpen xs ts → AreOpen (xs ++ ys) ts
open_more xs ys [] h = tt
open_more xs ys (Visit n place ∷ ts) h = open_more xs ys ts h
open_more xs ys (Row n others place ∷ ts) h = open_more xs ys ts h
open_more xs ys (After n place ∷ ts) h = open_more xs ys ts h
open_more xs ys (Closing inner ∷ ts) h = open_more xs ys ts h
open_more xs ys (Table n ∷ ts) h = open_more xs ys ts h
open_more xs ys (Close opened ∷ ts) h =
    let e = take-append-le opened.at xs ys (below opened.at (length xs) h.0) in
    let k = length-append xs ys in
    (omega (arith, h.0), (subst IsFlat (sym e) h.1.0, subst (λ l. AreOpen l ts) (sym e) h.1.1)) where
      below : (a b : ℕ) → a < b → a ≤ b
      below a b h = omega arith

pub flat_append : (xs ys : List RenderNode) → IsFlat xs → IsFlat ys → IsFlat (xs ++ ys)
flat_append xs ys h k =
    flat_by (xs ++ ys) (joined (values_of xs) (values_of ys))
    (sym (flat_joined (values_of xs) (values_of ys) ∙ (ap (λ l. l ++ flat (values_of ys)) h ∙ ap (λ l. xs ++ l) k)))

pub closed_after : (condition : Condition) (guarded : Bool) (xs : List RenderNode) (x : RenderNode) (ys : List RenderNode)
    → closed_at (length xs) condition guarded (xs ++ x ∷ ys)
    ≡ xs ++ flat (ended (ending condition guarded x.head (values_of ys)) x.head (values_of ys) none)
closed_after condition guarded [] x ys = refl
closed_after condition guarded (z ∷ xs) x ys = ap (λ l. z ∷ l) (closed_after condition guarded xs x ys)

flat_ended : (o : Outcome) (xs : List RenderNode) → IsFlat (ended_first o xs)
flat_ended o [] = refl
flat_ended o (x ∷ xs) = flat_is (ended o x.head (values_of xs) none)

-- ---- the ways in which a turn is taken

pub close_done : (o : ConversionOptions) (styles : Styles) (f : Forest) (opened : Opened) (ts : List Turn)
    (xs ys : List RenderNode)
    → AreOpen xs (Close opened ∷ ts) → ys ≡ closed opened xs → IsDone o styles f (Close opened ∷ ts) xs ts ys
close_done o styles f opened ts xs ys h e =
    let front = take opened.at xs in
    let end =
    ended_first (ending_first opened.condition opened.guarded (drop opened.at xs)) (drop opened.at xs) in
    record {
      same = ap (later o styles f ts) e;
      opened = subst (λ l. AreOpen l ts) (sym e) (open_more front end ts h.1.1);
      flat = subst IsFlat (sym e) (flat_append front end h.1.0
          (flat_ended (ending_first opened.condition opened.guarded (drop opened.at xs)) (drop opened.at xs)));
      falls = omega arith;
    }

-- a node without a value
nothing_done : (o : ConversionOptions) (styles : Styles) (f : Forest) (n : Handle) (place : Place) (ts : List Turn)
    (xs : List RenderNode)
    → Law f → values o styles place (trees f (number_of n ∷ [])) ≡ none → AreOpen xs ts → IsFlat xs
    → IsDone o styles f (Visit n place ∷ ts) xs ts xs
nothing_done o styles f n place ts xs law nothing h k =
    let a = ap effort (law (number_of n) []) in
    record {
      same = ap (later o styles f ts) (sym (append-nil xs) ∙ ap (λ vs. xs ++ flat vs) (sym nothing));
      opened = h;
      flat = k;
      falls = omega arith;
    }

pub tested : (o : ConversionOptions) (place : Place) (m : Meaning) (kind : Kind) (style : Parts) (at : Place → Values)
    (b : Bool)
    → (is_shown o place kind && not style.itself.hidden) ≡ b
    → value_before o place m kind style at none
    ≡ (if b then valued m (is_guarded place kind) kind style at none else none)
tested o place m kind style at b e =
    ap (λ t. if t then valued m (is_guarded place kind) kind style at none else none) e

unseen : (a b : Bool) → a ≡ false → (a && not b) ≡ false
unseen true b h = cc
unseen false b h = refl

hides : (a b : Bool) → b ≡ true → (a && not b) ≡ false
hides true true h = refl
hides true false h = cc
hides false b h = refl

pub shows : (a b : Bool) → a ≡ true → b ≡ false → (a && not b) ≡ true
shows true true h k = cc
shows true false h k = refl
shows false b h k = cc

left_out : (o : ConversionOptions) (styles : Styles) (f : Forest) (n : Handle) (place : Place) (ts : List Turn)
    (xs : List RenderNode)
    → Law f
    → (is_shown o place (kind_at (number_of n) f) && not (parts_of styles (kind_at (number_of n) f)).itself.hidden)
    ≡ false → AreOpen xs ts → IsFlat xs → IsDone o styles f (Visit n place ∷ ts) xs ts xs
left_out o styles f n place ts xs law test h k =
    let c = number_of n in
    nothing_done o styles f n place ts xs law
    (values_one o styles f place c law
    ∙ tested o place (meaning_at o.pages place f c) (kind_at c f) (parts_of styles (kind_at c f))
    (kids_at o styles f c) false test) h k

pub unseen_done : (o : ConversionOptions) (styles : Styles) (f : Forest) (n : Handle) (place : Place) (ts : List Turn)
    (xs : List RenderNode) → Law f → is_shown o place (kind_at (number_of n) f) ≡ false → AreOpen xs ts → IsFlat xs
    → IsDone o styles f (Visit n place ∷ ts) xs ts xs
unseen_done o styles f n place ts xs law test h k =
    let kind = kind_at (number_of n) f in
    left_out o styles f n place ts xs law
    (unseen (is_shown o place kind) (parts_of styles kind).itself.hidden test) h k

pub hidden_done : (o : ConversionOptions) (styles : Styles) (f : Forest) (n : Handle) (place : Place) (ts : List Turn)
    (xs : List RenderNode) (style : Parts) → Law f → style ≡ parts_of styles (kind_at (number_of n) f)
    → style.itself.hidden ≡ true → AreOpen xs ts → IsFlat xs → IsDone o styles f (Visit n place ∷ ts) xs ts xs
hidden_done o styles f n place ts xs style law is test h k =
    let kind = kind_at (number_of n) f in
    left_out o styles f n place ts xs law
    (hides (is_shown o place kind) (parts_of styles kind).itself.hidden
    (sym (ap (λ (p : Parts). p.itself.hidden) is) ∙ test)) h k

-- a text after a node's children
pub after_done : (o : ConversionOptions) (styles : Styles) (f : Forest) (n : Handle) (place : Place) (ts : List Turn)
    (xs ys : List RenderNode)
    → AreOpen xs ts → IsFlat xs
    → ys ≡ xs ++ flat (content place (parts_of styles (kind_at (number_of n) f)).after)
    → IsDone o styles f (After n place ∷ ts) xs ts ys
after_done o styles f n place ts xs ys h k e =
    let text = content place (parts_of styles (kind_at (number_of n) f)).after in
    record {
      same = ap (later o styles f ts) e;
      opened = subst (λ l. AreOpen l ts) (sym e) (open_more xs (flat text) ts h);
      flat = subst IsFlat (sym e) (flat_append xs (flat text) k (flat_is text));
      falls = omega arith;
    }
