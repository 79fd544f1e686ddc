-- Turns that are taken: a node whose value begins, and a table.
use Rattle.std.proofs.Common.{◌≡◌, ◌+◌, ◌≤◌, if◌then◌else◌, [], ◌∷◌, ◌++◌, ◌∙◌, Bool, Err, List, Ok, OnOk, Result, ap}
use Rattle.std.proofs.Common.{append-nil, append_assoc, arith, false, length, length-append, refl, subst, sym, take}
use Rattle.std.proofs.Common.{true, ℕ}
use Rattle.tree_forest.specs.Trees.{trees}
use Rattle.tree_forest.specs.Forest.{Forest, children_at, kind_at}
use Rattle.html_render_dom.specs.Numbers.{number_of}
use Rattle.html_render_dom.specs.declared.node.Handle.{Handle}
use Rattle.render_values.specs.Arena.{IsFlat, flat}
use Rattle.render_values.specs.Closing.{closed}
use Rattle.render_values.specs.Endings.{ended, ending}
use Rattle.render_values.specs.Reading.{read_back}
use Rattle.render_values.specs.Values.{Values, none, value}
use Rattle.render_values.specs.declared.closing.Condition.{Condition}
use Rattle.render_values.specs.declared.closing.Condition.TheVariants.{AnyCell}
use Rattle.render_values.specs.declared.closing.Opened.{Opened}
use Rattle.render_values.specs.declared.info.Head.{Head}
use Rattle.render_values.specs.declared.node.RenderNode.{RenderNode}
use Rattle.render_values.specs.declared.style.RenderStyle.{RenderStyle}
use Rattle.std.specs.Prelude.{Option, None, Some}
use Rattle.render_values.proofs.ArenaLemmas.{flat_is, flat_joined}
use Rattle.render_conversion.specs.Conversion.{content, content_by, inside_of, valued, values}
use Rattle.render_conversion.specs.Inner.{children_in, closing, opening, place_of, table_head, table_parts, table_value}
use Rattle.render_conversion.specs.Heads.{head_of}
use Rattle.render_conversion.specs.Places.{is_guarded, is_shown}
use Rattle.render_conversion.specs.Styles.{Parts, Styles, parts_of}
use Rattle.render_conversion.specs.Turns.{AreOpen, IsDone, children_turns, closings, effort, kids_of, later, trailings}
use Rattle.render_conversion.specs.Turns.{visits, weight}
use Rattle.render_conversion.specs.declared.inner.Inner.{Inner}
use Rattle.render_conversion.specs.declared.inner.Inner.TheVariants.{Captioned, Children, Quoted, Spaced, TableParts}
use Rattle.render_conversion.specs.declared.kinds.Meaning.{Meaning}
use Rattle.render_conversion.specs.declared.options.ConversionOptions.{ConversionOptions}
use Rattle.render_conversion.specs.declared.place.Place.{Place}
use Rattle.render_conversion.specs.declared.place.Place.TheVariants.{Captions, Cells, Feet, Flow, Groups, Items}
use Rattle.render_conversion.specs.declared.place.Place.TheVariants.{Nowhere, Rows}
use Rattle.render_conversion.specs.declared.turns.Turn.{Turn}
use Rattle.render_conversion.specs.declared.turns.Turn.TheVariants.{After, Close, Closing, Table, Visit}
use Rattle.render_conversion.proofs.StepLemmas.{Law, meaning_at, kids_at, values_one, later_visits, open_visits}
use Rattle.render_conversion.proofs.StepLemmas.{weight_visits, take_seam, open_more, flat_append, closed_after}
use Rattle.render_conversion.proofs.StepLemmas.{close_done, tested, shows, after_done}
use Rattle.render_conversion.proofs.InsideLemmas.{grown, all_inside, whole_inside}

-- a node whose value begins, with texts before its children
new_flat : (xs : List RenderNode) (head : Head) (first text : Values) → IsFlat xs
    → IsFlat (((xs ++ record { head = head; below = 0 } ∷ []) ++ flat first) ++ flat text)
new_flat xs head first text h =
    flat_append ((xs ++ record { head = head; below = 0 } ∷ []) ++ flat first) (flat text)
    (flat_append (xs ++ record { head = head; below = 0 } ∷ []) (flat first)
    (flat_append xs (record { head = head; below = 0 } ∷ []) h (flat_is (value head none none))) (flat_is first))
    (flat_is text)

new_open : (xs : List RenderNode) (x : RenderNode) (first text : List RenderNode) (condition : Condition)
    (guarded : Bool) (ts : List Turn) → IsFlat xs → AreOpen xs ts
    → AreOpen (((xs ++ x ∷ []) ++ first) ++ text)
    (Close (record { at = length xs; condition = condition; guarded = guarded }) ∷ ts)
new_open xs x first text condition guarded ts h k =
    let one = length-append xs (x ∷ []) in
    let two = length-append (xs ++ x ∷ []) first in
    let all = length-append ((xs ++ x ∷ []) ++ first) text in
    let e : take (length xs) (((xs ++ x ∷ []) ++ first) ++ text) ≡ xs =
    ap (take (length xs)) (append_assoc (xs ++ x ∷ []) first text ∙ append_assoc xs (x ∷ []) (first ++ text))
    ∙ take_seam xs ((x ∷ []) ++ (first ++ text)) in
    (omega arith, (subst IsFlat (sym e) h, subst (λ l. AreOpen l ts) (sym e) k))

-- the value of a node that shows, by its meaning
of_node : (o : ConversionOptions) (styles : Styles) (f : Forest) (place : Place) (c : ℕ) (m : Meaning) (guarded : Bool)
    → Law f → is_shown o place (kind_at c f) ≡ true → (parts_of styles (kind_at c f)).itself.hidden ≡ false
    → m ≡ meaning_at o.pages place f c → guarded ≡ is_guarded place (kind_at c f)
    → values o styles place (trees f (c ∷ []))
    ≡ valued m guarded (kind_at c f) (parts_of styles (kind_at c f)) (kids_at o styles f c) none
of_node o styles f place c m guarded law seen shown means guards =
    let kind = kind_at c f in
    let s = parts_of styles kind in
    let at = kids_at o styles f c in
    values_one o styles f place c law
    ∙ (tested o place (meaning_at o.pages place f c) kind s at true
    (shows (is_shown o place kind) s.itself.hidden seen shown)
    ∙ (ap (λ (z : Meaning). valued z (is_guarded place kind) kind s at none) (sym means)
    ∙ ap (λ b. valued m b kind s at none) (sym guards)))

-- ---- turns that a node leaves

-- parts of a table
later_parts : (o : ConversionOptions) (styles : Styles) (f : Forest) (ns : List ℕ) (ts : List Turn)
    (xs : List RenderNode) → Law f
    → later o styles f (visits Groups ns ++ (visits Feet ns ++ ts)) xs
    ≡ later o styles f ts (xs ++ flat (table_parts (λ place. values o styles place (trees f ns))))
later_parts o styles f ns ts xs law =
    let groups = values o styles Groups (trees f ns) in
    let feet = values o styles Feet (trees f ns) in
    later_visits o styles f Groups ns (visits Feet ns ++ ts) xs law
    ∙ (later_visits o styles f Feet ns ts (xs ++ flat groups) law
    ∙ ap (later o styles f ts) (append_assoc xs (flat groups) (flat feet)
    ∙ ap (λ l. xs ++ l) (sym (flat_joined groups feet))))

later_children : (o : ConversionOptions) (styles : Styles) (f : Forest) (inner : Inner) (n : Handle) (ts : List Turn)
    (xs : List RenderNode) → Law f
    → later o styles f (children_turns inner n (children_at (number_of n) f) ts) xs
    ≡ later o styles f ts (xs ++ flat (children_in inner (kids_at o styles f (number_of n))))
later_children o styles f (Children place) n ts xs law =
    later_visits o styles f place (children_at (number_of n) f) ts xs law
later_children o styles f Quoted n ts xs law =
    later_visits o styles f Flow (children_at (number_of n) f) ts xs law
later_children o styles f Spaced n ts xs law =
    later_visits o styles f Flow (children_at (number_of n) f) ts xs law
later_children o styles f TableParts n ts xs law = later_parts o styles f (children_at (number_of n) f) ts xs law
later_children o styles f Captioned n ts xs law =
    let at = kids_at o styles f (number_of n) in
    let captions = at Captions in
    let table = table_value (table_parts at) in
    later_visits o styles f Captions (children_at (number_of n) f) (Table n ∷ ts) xs law
    ∙ ap (later o styles f ts) (append_assoc xs (flat captions) (flat table)
    ∙ ap (λ l. xs ++ l) (sym (flat_joined captions table)))

later_closings : (o : ConversionOptions) (styles : Styles) (f : Forest) (inner : Inner) (ts : List Turn)
    (xs : List RenderNode) → later o styles f (closings inner ++ ts) xs
    ≡ later o styles f ts (xs ++ flat (closing inner))
later_closings o styles f (Children place) ts xs = ap (later o styles f ts) (sym (append-nil xs))
later_closings o styles f Quoted ts xs = refl
later_closings o styles f Spaced ts xs = refl
later_closings o styles f TableParts ts xs = ap (later o styles f ts) (sym (append-nil xs))
later_closings o styles f Captioned ts xs = ap (later o styles f ts) (sym (append-nil xs))

-- where no text stands after the children
said_none : (place : Place) (look : RenderStyle) → content_by place look None ≡ none
said_none Nowhere look = refl
said_none Flow look = refl
said_none Items look = refl
said_none Groups look = refl
said_none Feet look = refl
said_none Captions look = refl
said_none Rows look = refl
said_none Cells look = refl

shown_none : (hidden : Bool) (place : Place) (look : RenderStyle)
    → (if hidden then none else content_by place look None) ≡ none
shown_none true place look = refl
shown_none false place look = said_none place look

later_trailings : (o : ConversionOptions) (styles : Styles) (f : Forest) (n : Handle) (place : Place)
    (text : Option (List ℕ)) (ts : List Turn) (xs : List RenderNode)
    → (parts_of styles (kind_at (number_of n) f)).after.content ≡ text
    → later o styles f (trailings n place text ++ ts) xs
    ≡ later o styles f ts (xs ++ flat (content place (parts_of styles (kind_at (number_of n) f)).after))
later_trailings o styles f n place None ts xs e =
    let p = (parts_of styles (kind_at (number_of n) f)).after in
    let says : content place p ≡ none =
    ap (λ c. if p.hidden then none else content_by place p.look c) e ∙ shown_none p.hidden place p.look in
    ap (later o styles f ts) (sym (ap (λ vs. xs ++ flat vs) says ∙ append-nil xs))
later_trailings o styles f n place (Some text) ts xs e = refl

open_children : (inner : Inner) (n : Handle) (ns : List ℕ) (ts : List Turn) (xs : List RenderNode) → AreOpen xs ts
    → AreOpen xs (children_turns inner n ns ts)
open_children (Children place) n ns ts xs h = open_visits place ns ts xs h
open_children Quoted n ns ts xs h = open_visits Flow ns ts xs h
open_children Spaced n ns ts xs h = open_visits Flow ns ts xs h
open_children TableParts n ns ts xs h =
    open_visits Groups ns (visits Feet ns ++ ts) xs (open_visits Feet ns ts xs h)
open_children Captioned n ns ts xs h = open_visits Captions ns (Table n ∷ ts) xs h

open_closings : (inner : Inner) (ts : List Turn) (xs : List RenderNode) → AreOpen xs ts
    → AreOpen xs (closings inner ++ ts)
open_closings (Children place) ts xs h = h
open_closings Quoted ts xs h = h
open_closings Spaced ts xs h = h
open_closings TableParts ts xs h = h
open_closings Captioned ts xs h = h

open_trailings : (n : Handle) (place : Place) (text : Option (List ℕ)) (ts : List Turn) (xs : List RenderNode)
    → AreOpen xs ts → AreOpen xs (trailings n place text ++ ts)
open_trailings n place None ts xs h = h
open_trailings n place (Some text) ts xs h = h

weight_children : (f : Forest) (inner : Inner) (n : Handle) (ts : List Turn) → Law f
    → weight f (children_turns inner n (children_at (number_of n) f) ts)
    ≤ (2 + (effort (kids_of n f) + (effort (kids_of n f) + effort (kids_of n f)))) + weight f ts
weight_children f (Children place) n ts law =
    let a = weight_visits f place (children_at (number_of n) f) ts law in omega arith
weight_children f Quoted n ts law =
    let a = weight_visits f Flow (children_at (number_of n) f) ts law in omega arith
weight_children f Spaced n ts law =
    let a = weight_visits f Flow (children_at (number_of n) f) ts law in omega arith
weight_children f TableParts n ts law =
    let ns = children_at (number_of n) f in
    let a = weight_visits f Groups ns (visits Feet ns ++ ts) law in
    let b = weight_visits f Feet ns ts law in
    omega arith
weight_children f Captioned n ts law =
    let a = weight_visits f Captions (children_at (number_of n) f) (Table n ∷ ts) law in omega arith

weight_closings : (f : Forest) (inner : Inner) (ts : List Turn) → weight f (closings inner ++ ts) ≤ 1 + weight f ts
weight_closings f (Children place) ts = omega arith
weight_closings f Quoted ts = omega arith
weight_closings f Spaced ts = omega arith
weight_closings f TableParts ts = omega arith
weight_closings f Captioned ts = omega arith

weight_trailings : (f : Forest) (n : Handle) (place : Place) (text : Option (List ℕ)) (ts : List Turn)
    → weight f (trailings n place text ++ ts) ≤ 1 + weight f ts
weight_trailings f n place None ts = omega arith
weight_trailings f n place (Some text) ts = omega arith

-- the turns for what stands in a node's value
abbrev left_turns : Inner → Handle → Option (List ℕ) → Forest → List Turn → List Turn
left_turns inner n text f ts =
    children_turns inner n (children_at (number_of n) f) (trailings n (place_of inner) text ++ (closings inner ++ ts))

left_later : (o : ConversionOptions) (styles : Styles) (f : Forest) (inner : Inner) (n : Handle)
    (text : Option (List ℕ)) (ts : List Turn) (xs : List RenderNode) → Law f
    → (parts_of styles (kind_at (number_of n) f)).after.content ≡ text
    → later o styles f (left_turns inner n text f ts) xs
    ≡ later o styles f ts (((xs ++ flat (children_in inner (kids_at o styles f (number_of n))))
    ++ flat (content (place_of inner) (parts_of styles (kind_at (number_of n) f)).after)) ++ flat (closing inner))
left_later o styles f inner n text ts xs law e =
    let kids = xs ++ flat (children_in inner (kids_at o styles f (number_of n))) in
    later_children o styles f inner n (trailings n (place_of inner) text ++ (closings inner ++ ts)) xs law
    ∙ (later_trailings o styles f n (place_of inner) text (closings inner ++ ts) kids e
    ∙ later_closings o styles f inner ts
    (kids ++ flat (content (place_of inner) (parts_of styles (kind_at (number_of n) f)).after)))

visit_done : (o : ConversionOptions) (styles : Styles) (f : Forest) (n : Handle) (place : Place) (m : Meaning)
    (guarded : Bool) (text : Option (List ℕ)) (ts : List Turn) (xs : List RenderNode) → Law f
    → is_shown o place (kind_at (number_of n) f) ≡ true
    → (parts_of styles (kind_at (number_of n) f)).itself.hidden ≡ false
    → m ≡ meaning_at o.pages place f (number_of n) → guarded ≡ is_guarded place (kind_at (number_of n) f)
    → (parts_of styles (kind_at (number_of n) f)).after.content ≡ text → AreOpen xs ts → IsFlat xs
    → IsDone o styles f (Visit n place ∷ ts) xs
    (left_turns m.inner n text f (Close (record { at = length xs; condition = m.condition; guarded = guarded }) ∷ ts))
    (((xs ++ record {
      head = head_of m.info (parts_of styles (kind_at (number_of n) f)).itself.look (kind_at (number_of n) f);
      below = 0;
    } ∷ []) ++ flat (opening m.inner))
    ++ flat (content (place_of m.inner) (parts_of styles (kind_at (number_of n) f)).before))
visit_done o styles f n place m guarded text ts xs law seen shown means guards texts h k =
    let c = number_of n in
    let kind = kind_at c f in
    let s = parts_of styles kind in
    let at = kids_at o styles f c in
    let head = head_of m.info s.itself.look kind in
    let first = opening m.inner in
    let before = content (place_of m.inner) s.before in
    let inside = children_in m.inner at in
    let after = content (place_of m.inner) s.after in
    let last = closing m.inner in
    let x : RenderNode = record { head = head; below = 0 } in
    let opened : Opened = record { at = length xs; condition = m.condition; guarded = guarded } in
    let start = ((xs ++ x ∷ []) ++ flat first) ++ flat before in
    let ends : closed opened (((start ++ flat inside) ++ flat after) ++ flat last)
    ≡ xs ++ flat (valued m guarded kind s at none) =
    ap (closed opened) (all_inside xs x first before inside after last
    ∙ ap (λ vs. xs ++ x ∷ flat vs) (whole_inside m.inner s at))
    ∙ (closed_after m.condition guarded xs x (flat (inside_of m.inner s at))
    ∙ ap (λ vs. xs ++ flat (ended (ending m.condition guarded head vs) head vs none))
    (read_back (inside_of m.inner s at))) in
    let a = ap effort (law c []) in
    let b = weight_children f m.inner n
    (trailings n (place_of m.inner) text ++ (closings m.inner ++ Close opened ∷ ts)) law in
    let d = weight_trailings f n (place_of m.inner) text (closings m.inner ++ Close opened ∷ ts) in
    let e = weight_closings f m.inner (Close opened ∷ ts) in
    record {
      same = left_later o styles f m.inner n text (Close opened ∷ ts) start law texts
          ∙ (ap (later o styles f ts) ends
          ∙ ap (λ vs. later o styles f ts (xs ++ flat vs))
          (sym (of_node o styles f place c m guarded law seen shown means guards)));
      opened = open_children m.inner n (children_at c f)
          (trailings n (place_of m.inner) text ++ (closings m.inner ++ Close opened ∷ ts)) start
          (open_trailings n (place_of m.inner) text (closings m.inner ++ Close opened ∷ ts) start
          (open_closings m.inner (Close opened ∷ ts) start
          (new_open xs x (flat first) (flat before) m.condition guarded ts k h)));
      flat = new_flat xs head first before k;
      falls = omega arith;
    }

-- ---- at calls that may be refused

pub visit_after : {A : Type 0} {E : Type 0} (r : Result A E) (o : ConversionOptions) (styles : Styles) (f : Forest)
    (n : Handle) (place : Place) (m : Meaning) (guarded : Bool) (at : ℕ) (ts one two more new : List Turn)
    (xs ys ws zs : List RenderNode) (style : Parts) → Law f
    → is_shown o place (kind_at (number_of n) f) ≡ true → style ≡ parts_of styles (kind_at (number_of n) f)
    → style.itself.hidden ≡ false → m ≡ meaning_at o.pages place f (number_of n)
    → guarded ≡ is_guarded place (kind_at (number_of n) f) → AreOpen xs ts → IsFlat xs → at ≡ length xs
    → ys ≡ xs ++ record { head = head_of m.info style.itself.look (kind_at (number_of n) f); below = 0 } ∷ []
    → ws ≡ ys ++ flat (opening m.inner) → zs ≡ ws ++ flat (content (place_of m.inner) style.before)
    → one ≡ Close (record { at = at; condition = m.condition; guarded = guarded }) ∷ ts
    → two ≡ closings m.inner ++ one → more ≡ trailings n (place_of m.inner) style.after.content ++ two
    → OnOk r (new ≡ children_turns m.inner n (children_at (number_of n) f) more)
    → OnOk r (IsDone o styles f (Visit n place ∷ ts) xs new zs)
visit_after (Err e) o styles f n place m guarded at ts one two more new xs ys ws zs style law seen is shown means
    guards h k size made opens says closes ends trailing done = tt
visit_after (Ok v) o styles f n place m guarded at ts one two more new xs ys ws zs style law seen is shown means
    guards h k size made opens says closes ends trailing done =
    let c = number_of n in
    let kind = kind_at c f in
    let s = parts_of styles kind in
    let opened : Opened = record { at = length xs; condition = m.condition; guarded = guarded } in
    let nodes : zs ≡ ((xs ++ record { head = head_of m.info s.itself.look kind; below = 0 } ∷ [])
    ++ flat (opening m.inner)) ++ flat (content (place_of m.inner) s.before) =
    says ∙ (ap (λ l. l ++ flat (content (place_of m.inner) style.before))
    (opens ∙ ap (λ l. l ++ flat (opening m.inner)) made)
    ∙ ap (λ (p : Parts). ((xs ++ record { head = head_of m.info p.itself.look kind; below = 0 } ∷ [])
    ++ flat (opening m.inner)) ++ flat (content (place_of m.inner) p.before)) is) in
    let turns : new ≡ left_turns m.inner n style.after.content f (Close opened ∷ ts) =
    done ∙ ap (λ l. children_turns m.inner n (children_at c f) l)
    (trailing ∙ ap (λ l. trailings n (place_of m.inner) style.after.content ++ l)
    (ends ∙ ap (λ l. closings m.inner ++ l)
    (closes ∙ ap (λ a. Close (record { at = a; condition = m.condition; guarded = guarded }) ∷ ts) size))) in
    subst (λ l. IsDone o styles f (Visit n place ∷ ts) xs new l) (sym nodes)
    (subst (λ l. IsDone o styles f (Visit n place ∷ ts) xs l
    (((xs ++ record { head = head_of m.info s.itself.look kind; below = 0 } ∷ [])
    ++ flat (opening m.inner)) ++ flat (content (place_of m.inner) s.before))) (sym turns)
    (visit_done o styles f n place m guarded style.after.content ts xs law seen
    (sym (ap (λ (p : Parts). p.itself.hidden) is) ∙ shown) means guards
    (sym (ap (λ (p : Parts). p.after.content) is)) h k))

pub after_ok : {A : Type 0} {E : Type 0} (r : Result A E) (o : ConversionOptions) (styles : Styles) (f : Forest)
    (n : Handle)
    (place : Place) (ts : List Turn) (xs ys : List RenderNode) (style : Parts) → AreOpen xs ts → IsFlat xs
    → style ≡ parts_of styles (kind_at (number_of n) f) → OnOk r (ys ≡ xs ++ flat (content place style.after))
    → OnOk r (IsDone o styles f (After n place ∷ ts) xs ts ys)
after_ok (Err e) o styles f n place ts xs ys style h k is done = tt
after_ok (Ok v) o styles f n place ts xs ys style h k is done =
    after_done o styles f n place ts xs ys h k
    (done ∙ ap (λ (p : Parts). xs ++ flat (content place p.after)) is)

pub close_by : {A : Type 0} {E : Type 0} (r : Result A E) (o : ConversionOptions) (styles : Styles) (f : Forest)
    (turn : Turn)
    (opened : Opened) (ts : List Turn) (xs ys : List RenderNode) → turn ≡ Close opened → AreOpen xs (turn ∷ ts)
    → OnOk r (ys ≡ closed opened xs) → OnOk r (IsDone o styles f (turn ∷ ts) xs ts ys)
close_by (Err e) o styles f turn opened ts xs ys is h done = tt
close_by (Ok v) o styles f turn opened ts xs ys is h done =
    subst (λ t. IsDone o styles f (t ∷ ts) xs ts ys) (sym is)
    (close_done o styles f opened ts xs ys (subst (λ t. AreOpen xs (t ∷ ts)) is h) done)

-- ---- texts after all else, and tables after their captions

pub closing_by : {A : Type 0} {E : Type 0} (r : Result A E) (o : ConversionOptions) (styles : Styles) (f : Forest)
    (turn : Turn) (inner : Inner) (ts : List Turn) (xs ys : List RenderNode) → turn ≡ Closing inner
    → AreOpen xs ts → IsFlat xs → OnOk r (ys ≡ xs ++ flat (closing inner))
    → OnOk r (IsDone o styles f (turn ∷ ts) xs ts ys)
closing_by (Err e) o styles f turn inner ts xs ys is h k done = tt
closing_by (Ok v) o styles f turn inner ts xs ys is h k done =
    subst (λ t. IsDone o styles f (t ∷ ts) xs ts ys) (sym is) (record {
      same = ap (later o styles f ts) done;
      opened = subst (λ l. AreOpen l ts) (sym done) (open_more xs (flat (closing inner)) ts h);
      flat = subst IsFlat (sym done) (flat_append xs (flat (closing inner)) k (flat_is (closing inner)));
      falls = omega arith;
    })

abbrev table_opened : List RenderNode → Opened
table_opened xs = record { at = length xs; condition = AnyCell; guarded = false }

abbrev table_node : RenderNode
table_node = record { head = table_head; below = 0 }

table_done : (o : ConversionOptions) (styles : Styles) (f : Forest) (n : Handle) (ts : List Turn)
    (xs : List RenderNode) → Law f → AreOpen xs ts → IsFlat xs
    → IsDone o styles f (Table n ∷ ts) xs
    (children_turns TableParts n (children_at (number_of n) f) (Close (table_opened xs) ∷ ts)) (xs ++ table_node ∷ [])
table_done o styles f n ts xs law h k =
    let ns = children_at (number_of n) f in
    let inside = table_parts (kids_at o styles f (number_of n)) in
    let opened = table_opened xs in
    let ends : closed opened ((xs ++ table_node ∷ []) ++ flat inside) ≡ xs ++ flat (table_value inside) =
    ap (closed opened) (grown xs table_node none inside)
    ∙ (closed_after AnyCell false xs table_node (flat inside)
    ∙ ap (λ vs. xs ++ flat (ended (ending AnyCell false table_head vs) table_head vs none)) (read_back inside)) in
    let one = length-append xs (table_node ∷ []) in
    let a = weight_visits f Groups ns (visits Feet ns ++ Close opened ∷ ts) law in
    let b = weight_visits f Feet ns (Close opened ∷ ts) law in
    record {
      same = later_parts o styles f ns (Close opened ∷ ts) (xs ++ table_node ∷ []) law
          ∙ ap (later o styles f ts) ends;
      opened = open_children TableParts n ns (Close opened ∷ ts) (xs ++ table_node ∷ []) (
        omega arith,
        (
          subst IsFlat (sym (take_seam xs (table_node ∷ []))) k,
          subst (λ l. AreOpen l ts) (sym (take_seam xs (table_node ∷ []))) h,
        ),
      );
      flat = flat_append xs (table_node ∷ []) k (flat_is (value table_head none none));
      falls = omega arith;
    }

pub table_by : {A : Type 0} {E : Type 0} (r : Result A E) (o : ConversionOptions) (styles : Styles) (f : Forest)
    (n : Handle) (at : ℕ) (ts one new : List Turn) (xs ys : List RenderNode) → Law f → AreOpen xs ts → IsFlat xs
    → at ≡ length xs → one ≡ Close (record { at = at; condition = AnyCell; guarded = false }) ∷ ts
    → ys ≡ xs ++ table_node ∷ []
    → OnOk r (new ≡ children_turns TableParts n (children_at (number_of n) f) one)
    → OnOk r (IsDone o styles f (Table n ∷ ts) xs new ys)
table_by (Err e) o styles f n at ts one new xs ys law h k size closes made done = tt
table_by (Ok v) o styles f n at ts one new xs ys law h k size closes made done =
    subst (λ l. IsDone o styles f (Table n ∷ ts) xs new l) (sym made)
    (subst (λ l. IsDone o styles f (Table n ∷ ts) xs l (xs ++ table_node ∷ []))
    (sym (done ∙ ap (λ l. children_turns TableParts n (children_at (number_of n) f) l)
    (closes ∙ ap (λ a. Close (record { at = a; condition = AnyCell; guarded = false }) ∷ ts) size)))
    (table_done o styles f n ts xs law h k))
