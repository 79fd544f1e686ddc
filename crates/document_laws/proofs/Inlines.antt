-- Inline contents rebuild: below the current node what was planted stands, and of the list of active formatting
-- elements some are left.
use Rattle.std.proofs.Common.{◌≡◌, ◌<◌, ◌||◌, [], ◌∷◌, ◌∙◌, Bool, List, None, Some, ap, bytes_eq, codes, false, inl}
use Rattle.std.proofs.Common.{refl, subst, sym, true, ℕ}
use Rattle.tree_formatting.specs.Entries.{Entry, last_named}
use Rattle.tree_formatting.specs.Pushing.{pushed}
use Rattle.tree_forest.specs.Forest.{Forest, name_of, nodes, text}
use Rattle.token_grammar.specs.Items.{Item, characters}
use Rattle.html_lexemes.specs.declared.names.Attribute.{Attribute}
use Rattle.html_tree_state.specs.Insertions.{is_template}
use Rattle.tree_names.specs.Sets.{is_html}
use Rattle.tree_names.specs.Groups.{tag_group}
use Rattle.rules_table.specs.Actions.{act, adopt, at_place, insert_formatting, insert_void, reconstruct}
use Rattle.rules_table.specs.Actions.{refuse_frameset}
use Rattle.rules_table.specs.InBody.{in_body_start}
use Rattle.rules_table.specs.InBodyPhrases.{formatting_start}
use Rattle.rules_table.specs.State.{State}
use Rattle.document_laws.specs.Contents.{Content, IsInlines, end_of, inline, line_break, link, mark, none, nothing, say}
use Rattle.document_laws.specs.Contents.{span, start_of, tokens_and}
use Rattle.document_laws.specs.Contents as kinds
use Rattle.document_laws.specs.Planted.{of_html, planted, with_new, with_text}
use Rattle.document_laws.proofs.Adopting.{adopted_now, closes}
use Rattle.document_laws.proofs.InlineNames.{IsListedName, break_opens, link_is, link_opens, mark_is, mark_opens}
use Rattle.document_laws.proofs.Planting.{Keeps, after_element, element_kind, grown_keeps, in_element, keeps_on}
use Rattle.document_laws.proofs.Planting.{last_held, last_text, name_kept, new_name, planted_keeps, size_grown}
use Rattle.document_laws.proofs.Planting.{still_held}
use Rattle.document_laws.proofs.Said.{run_said, says_one}
use Rattle.document_laws.proofs.Standing.{built, end_taken, ending, if_false, listed_now, now, opening}
use Rattle.document_laws.proofs.Standing.{reconstructed_now, refused_now, runs, runs_on, start_taken, stepped, void_now}
use Rattle.document_laws.proofs.Sublists.{AllUnder, AreOpen, IsFree, IsSub, NoLink, no_link_named, shortened}
use Rattle.document_laws.proofs.Sublists.{shortened_sub, sub_free, sub_itself, sub_open, sub_trans, under_more}
pub use Rattle.document_laws.specs.Parts.{IsFresh}

-- the current node is an element of HTML that holds what is inserted, the open ones have lesser numbers than new nodes,
-- and what is listed is open
pub record Stands (p : ℕ) (rest : List ℕ) (entries : List Entry) (f : Forest) : Type 0 where
  pub word : List ℕ
  pub named : name_of p f ≡ of_html word
  pub plain : is_html (codes "template") (of_html word) ≡ false
  pub held : p < nodes f
  pub below : AllUnder (nodes f) rest
  pub are_open : AreOpen entries (p ∷ rest)

pub stands_after : (p : ℕ) (rest : List ℕ) (entries left : List Entry) (f g : Forest) → Stands p rest entries f →
    Keeps f g → IsSub left entries → Stands p rest left g
stands_after p rest entries left f g stands keeps sub = record {
  word = stands.word;
  named = name_kept f g keeps p stands.held ∙ stands.named;
  plain = stands.plain;
  held = still_held p (nodes f) (nodes g) stands.held keeps.size;
  below = under_more (nodes f) (nodes g) rest keeps.size stands.below;
  are_open = sub_open left entries (p ∷ rest) sub stands.are_open;
}

pub no_template : (p : ℕ) (f : Forest) (word : List ℕ) → name_of p f ≡ of_html word →
    is_html (codes "template") (of_html word) ≡ false → is_template p f ≡ false
no_template p f word named plain = ap (is_html (codes "template")) named ∙ plain

-- what items come to
pub record Comes (s : State) (ok : Bool) (p : ℕ) (rest : List ℕ) (entries : List Entry) (f : Forest)
    (items more : List Item) (g : Forest) : Type 0 where
  pub flag : Bool
  pub left : List Entry
  pub sub : IsSub left entries
  pub come : runs (now s ok (p ∷ rest) entries f) items ≡ runs (now s flag (p ∷ rest) left g) more

comes_on : (s : State) (ok : Bool) (p : ℕ) (rest : List ℕ) (entries : List Entry) (f g h : Forest)
    (items middle more : List Item) → (first : Comes s ok p rest entries f items middle g) →
    Comes s first.flag p rest first.left g middle more h → Comes s ok p rest entries f items more h
comes_on s ok p rest entries f g h items middle more first second = record {
  flag = second.flag;
  left = second.left;
  sub = sub_trans second.left first.left entries second.sub first.sub;
  come = first.come ∙ second.come;
}

comes_step : (s : State) (ok after : Bool) (p : ℕ) (rest : List ℕ) (entries : List Entry) (f g : Forest) (item : Item)
    (more : List Item) → stepped (now s ok (p ∷ rest) entries f) item ≡ Some (now s after (p ∷ rest) entries g) →
    Comes s ok p rest entries f (item ∷ more) more g
comes_step s ok after p rest entries f g item more e = record {
  flag = after;
  left = entries;
  sub = sub_itself entries;
  come = runs_on (now s ok (p ∷ rest) entries f) (now s after (p ∷ rest) entries g) item more e;
}

-- a text
text_comes : (s : State) (ok : Bool) (p : ℕ) (rest : List ℕ) (entries : List Entry) (f : Forest) (c : ℕ) (cs : List ℕ)
    (more : List Item) → Stands p rest entries f → last_text p f ≡ None →
    Comes s ok p rest entries f (characters (c ∷ cs) ∷ more) more (with_text p (c ∷ cs) f)
text_comes s ok p rest entries f c cs more stands fresh =
    let said = run_said (λ b g. now s b (p ∷ rest) entries g) p (of_html stands.word)
    (says_one s p rest entries stands.word stands.are_open
    (λ g named. no_template p g stands.word named stands.plain)) c cs ok f stands.held stands.named fresh in
    comes_step s ok said.0 p rest entries f (with_text p (c ∷ cs) f) (characters (c ∷ cs)) more (ap Some said.1)

-- a line break
break_step : (s : State) (ok : Bool) (p : ℕ) (rest : List ℕ) (entries : List Entry) (f : Forest) →
    Stands p rest entries f → stepped (now s ok (p ∷ rest) entries f) (start_of (codes "br") [])
    ≡ Some (now s false (p ∷ rest) entries (with_new p (codes "br") [] f))
break_step s ok p rest entries f stands =
    let t = opening (codes "br") [] in
    start_taken s ok p rest entries f stands.word (codes "br") []
    (reconstruct ∷ insert_void at_place t ∷ refuse_frameset ∷ []) stands.named
    (break_opens t (now s ok (p ∷ rest) entries f))
    ∙ ap Some (ap (λ z. act refuse_frameset (act (insert_void at_place t) z))
    (reconstructed_now s ok (p ∷ rest) entries f stands.are_open)
    ∙ ap (act refuse_frameset) (void_now s ok p rest entries f (codes "br") []
    (no_template p f stands.word stands.named stands.plain) refl)
    ∙ refused_now s ok (p ∷ rest) entries (with_new p (codes "br") [] f))

-- a mark or a link: it opens, holds what is inside it, and is closed
open_step : (s : State) (ok : Bool) (p : ℕ) (rest : List ℕ) (entries : List Entry) (f : Forest) (name : List ℕ)
    (attributes : List Attribute) → Stands p rest entries f → IsListedName name →
    in_body_start (tag_group name) (opening name attributes) (now s ok (p ∷ rest) entries f)
    ≡ formatting_start (opening name attributes) →
    stepped (now s ok (p ∷ rest) entries f) (start_of name attributes)
    ≡ Some (now s ok (nodes f ∷ p ∷ rest) (pushed (nodes f) (opening name attributes) entries)
    (with_new p name attributes f))
open_step s ok p rest entries f name attributes stands is opens =
    let t = opening name attributes in
    start_taken s ok p rest entries f stands.word name attributes (reconstruct ∷ insert_formatting t ∷ []) stands.named
    opens
    ∙ ap Some (ap (act (insert_formatting t)) (reconstructed_now s ok (p ∷ rest) entries f stands.are_open)
    ∙ listed_now s ok p rest entries f name attributes (no_template p f stands.word stands.named stands.plain) is.plain
    is.kept)

inside_stands : (p : ℕ) (rest : List ℕ) (entries : List Entry) (f : Forest) (name : List ℕ)
    (attributes : List Attribute) → Stands p rest entries f → IsListedName name →
    Stands (nodes f) (p ∷ rest) (pushed (nodes f) (opening name attributes) entries) (with_new p name attributes f)
inside_stands p rest entries f name attributes stands is =
    let t = opening name attributes in
    let g = with_new p name attributes f in
    let keeps = grown_keeps p (element_kind name attributes) f in
    record {
      word = name;
      named = new_name p name attributes f;
      plain = is.plain;
      held = last_held (nodes f) (nodes g) (size_grown p (element_kind name attributes) f);
      below = (
        still_held p (nodes f) (nodes g) stands.held keeps.size,
        under_more (nodes f) (nodes g) rest keeps.size stands.below,
      );
      are_open = inl (
        refl,
        sub_open (shortened t entries) entries (p ∷ rest) (shortened_sub t entries)
            stands.are_open,
      );
    }

span_comes : (s : State) (ok : Bool) (p : ℕ) (rest : List ℕ) (entries : List Entry) (f h : Forest) (name : List ℕ)
    (attributes : List Attribute) (items more : List Item) → Stands p rest entries f → (is : IsListedName name) →
    in_body_start (tag_group name) (opening name attributes) (now s ok (p ∷ rest) entries f)
    ≡ formatting_start (opening name attributes) →
    Keeps (with_new p name attributes f) h →
    Comes s ok (nodes f) (p ∷ rest) (pushed (nodes f) (opening name attributes) entries) (with_new p name attributes f)
    items (end_of name ∷ more) h →
    Comes s ok p rest entries f (start_of name attributes ∷ items) more h
span_comes s ok p rest entries f h name attributes items more stands is opens keeps inner =
    let n = nodes f in
    let t = opening name attributes in
    let g = with_new p name attributes f in
    let earlier = shortened t entries in
    let named : name_of n h ≡ of_html name
    = name_kept g h keeps n (last_held n (nodes g) (size_grown p (element_kind name attributes) f))
    ∙ new_name p name attributes f in
    let closed = closes s.tree n (p ∷ rest) t inner.left earlier h
    (ap (is_html name) named ∙ ap (λ b. b || false) is.same) is.same inner.sub
    (sub_open earlier entries (p ∷ rest) (shortened_sub t entries) stands.are_open)
    (stands.held, stands.below) in
    record {
      flag = inner.flag;
      left = closed.after;
      sub = sub_trans closed.after earlier entries closed.sub (shortened_sub t entries);
      come = runs_on (now s ok (p ∷ rest) entries f) (now s ok (n ∷ p ∷ rest) (pushed n t entries) g)
          (start_of name attributes) items (open_step s ok p rest entries f name attributes stands is opens)
          ∙ inner.come
          ∙ runs_on (now s inner.flag (n ∷ p ∷ rest) inner.left h) (now s inner.flag (p ∷ rest) closed.after h)
          (end_of name) more
          (end_taken s inner.flag n (p ∷ rest) inner.left h name name (adopt name ∷ []) named
          (is.closing (ending name) (now s inner.flag (n ∷ p ∷ rest) inner.left h))
          ∙ ap Some (adopted_now s inner.flag n (p ∷ rest) name inner.left earlier h closed));
    }

pub element_comes : (s : State) (ok : Bool) (p : ℕ) (rest : List ℕ) (entries : List Entry) (f : Forest) (name : List ℕ)
    (attributes : List Attribute) (kids after : Content) (more : List Item) → Stands p rest entries f →
    (is : IsListedName name) →
    in_body_start (tag_group name) (opening name attributes) (now s ok (p ∷ rest) entries f)
    ≡ formatting_start (opening name attributes) →
    Comes s ok (nodes f) (p ∷ rest) (pushed (nodes f) (opening name attributes) entries) (with_new p name attributes f)
    (tokens_and kids (end_of name ∷ tokens_and after more)) (end_of name ∷ tokens_and after more)
    (planted (nodes f) kids (with_new p name attributes f)) →
    ((flag : Bool) (left : List Entry) → IsSub left entries →
    Stands p rest left (planted (nodes f) kids (with_new p name attributes f)) →
    Comes s flag p rest left (planted (nodes f) kids (with_new p name attributes f)) (tokens_and after more) more
    (planted p (span name attributes kids after) f)) →
    Comes s ok p rest entries f (tokens_and (span name attributes kids after) more) more
    (planted p (span name attributes kids after) f)
element_comes s ok p rest entries f name attributes kids after more stands is opens inner further =
    let g = with_new p name attributes f in
    let h = planted (nodes f) kids g in
    let k = tokens_and after more in
    let keeps = planted_keeps kids (nodes f) g in
    let first = span_comes s ok p rest entries f h name attributes (tokens_and kids (end_of name ∷ k)) k stands is opens
    keeps inner in
    let second = further first.flag first.left first.sub (stands_after p rest entries first.left f h stands
    (keeps_on f g h (grown_keeps p (element_kind name attributes) f) keeps) first.sub) in
    subst (λ items. Comes s ok p rest entries f (start_of name attributes ∷ tokens_and kids items) more
    (planted p (span name attributes kids after) f))
    (sym (if_false _ k (end_of name ∷ k) is.ends))
    (comes_on s ok p rest entries f h (planted p (span name attributes kids after) f)
    (start_of name attributes ∷ tokens_and kids (end_of name ∷ k)) k more first second)

break_comes : (s : State) (ok : Bool) (p : ℕ) (rest : List ℕ) (entries : List Entry) (f : Forest) (name : List ℕ)
    (attributes : List Attribute) (kids after : Content) (more : List Item) → Stands p rest entries f →
    name ≡ codes "br" → attributes ≡ [] → kids ≡ none →
    Comes s false p rest entries (with_new p (codes "br") [] f) (tokens_and after more) more
    (planted p after (with_new p (codes "br") [] f)) →
    Comes s ok p rest entries f (tokens_and (span name attributes kids after) more) more
    (planted p (span name attributes kids after) f)
unfolding comes_step
break_comes s ok p rest entries f name attributes kids after more stands named bare empty further =
    let g = with_new p (codes "br") [] f in
    let at_break : Comes s ok p rest entries f (tokens_and (span (codes "br") [] none after) more) more
    (planted p after g)
    = comes_on s ok p rest entries f g (planted p after g) (start_of (codes "br") [] ∷ tokens_and after more)
    (tokens_and after more) more
    (comes_step s ok false p rest entries f g (start_of (codes "br") []) (tokens_and after more)
    (break_step s ok p rest entries f stands)) further in
    subst (λ n. Comes s ok p rest entries f (tokens_and (span n attributes kids after) more) more
    (planted p (span n attributes kids after) f)) (sym named)
    (subst (λ a. Comes s ok p rest entries f (tokens_and (span (codes "br") a kids after) more) more
    (planted p (span (codes "br") a kids after) f)) (sym bare)
    (subst (λ c. Comes s ok p rest entries f (tokens_and (span (codes "br") [] c after) more) more
    (planted p (span (codes "br") [] c after) f)) (sym empty) at_break))

free_pushed : (linked : Bool) (n : ℕ) (name : List ℕ) (attributes : List Attribute) (entries : List Entry) →
    bytes_eq name (codes "a") ≡ false → IsFree linked entries →
    IsFree linked (pushed n (opening name attributes) entries)
free_pushed true n name attributes entries e free = tt
free_pushed false n name attributes entries e free = (
  e,
  sub_free false (shortened (opening name attributes) entries) entries
      (shortened_sub (opening name attributes) entries) free,
)

free_of_links : (linked : Bool) (entries : List Entry) → linked ≡ false → IsFree linked entries → NoLink entries
free_of_links true entries e free = absurd (let k : true ≡ false = e in cc)
free_of_links false entries e free = free

link_listed : (name : List ℕ) → name ≡ codes "a" → IsListedName name
link_listed name e = subst IsListedName (sym e) link_is

none_listed : (s : State) (ok : Bool) (stack : List ℕ) (entries : List Entry) (f : Forest) → NoLink entries →
    last_named (codes "a") (now s ok stack entries f).tree.formatting ≡ None
unfolding now built
none_listed s ok stack entries f free = no_link_named entries free

link_starts : (s : State) (ok : Bool) (stack : List ℕ) (entries : List Entry) (f : Forest) (name : List ℕ)
    (attributes : List Attribute) → name ≡ codes "a" → NoLink entries →
    in_body_start (tag_group name) (opening name attributes) (now s ok stack entries f)
    ≡ formatting_start (opening name attributes)
link_starts s ok stack entries f name attributes e free =
    subst (λ n. in_body_start (tag_group n) (opening n attributes) (now s ok stack entries f)
    ≡ formatting_start (opening n attributes)) (sym e)
    (link_opens (opening (codes "a") attributes) (now s ok stack entries f) (none_listed s ok stack entries f free))

pub inlines_come : (linked after_text : Bool) (content : Content) → IsInlines linked after_text content →
    (s : State) (ok : Bool) (p : ℕ) (rest : List ℕ) (entries : List Entry) (f : Forest) (more : List Item) →
    Stands p rest entries f → IsFree linked entries → IsFresh after_text p f →
    Comes s ok p rest entries f (tokens_and content more) more (planted p content f)
inlines_come linked after_text none (nothing _ _) s ok p rest entries f more stands free fresh =
    record { flag = ok; left = entries; sub = sub_itself entries; come = refl }
inlines_come linked after_text (say c cs after) (kinds.text _ _ _ _ is) s ok p rest entries f more stands free fresh =
    let first = text_comes s ok p rest entries f c cs (tokens_and after more) stands fresh in
    let g = with_text p (c ∷ cs) f in
    comes_on s ok p rest entries f g (planted p after g) (characters (c ∷ cs) ∷ tokens_and after more)
    (tokens_and after more) more first
    (inlines_come linked true after is s first.flag p rest first.left g more
    (stands_after p rest entries first.left f g stands (grown_keeps p (text (c ∷ cs)) f) first.sub)
    (sub_free linked first.left entries first.sub free) tt)
inlines_come linked after_text (span name attributes kids after) (inline _ _ line_break _ _ _ _ is inner further) s ok
    p rest entries f more stands free fresh =
    let g = with_new p (codes "br") [] f in
    break_comes s ok p rest entries f name attributes kids after more stands is.0 is.1.0 is.1.1
    (inlines_come linked false after further s false p rest entries g more
    (stands_after p rest entries entries f g stands (grown_keeps p (element_kind (codes "br") []) f)
    (sub_itself entries)) free (after_element p (codes "br") [] none f stands.held))
inlines_come linked after_text (span name attributes kids after) (inline _ _ mark _ _ _ _ is inner further) s ok p
    rest entries f more stands free fresh =
    let m = mark_is name is.0 in
    let t = opening name attributes in
    let g = with_new p name attributes f in
    let h = planted (nodes f) kids g in
    element_comes s ok p rest entries f name attributes kids after more stands m.listed
    (mark_opens name t (now s ok (p ∷ rest) entries f) m)
    (inlines_come linked false kids inner s ok (nodes f) (p ∷ rest) (pushed (nodes f) t entries) g
    (end_of name ∷ tokens_and after more) (inside_stands p rest entries f name attributes stands m.listed)
    (free_pushed linked (nodes f) name attributes entries m.no_link free)
    (in_element p name attributes f stands.held))
    (λ flag left sub here. inlines_come linked false after further s flag p rest left h more here
    (sub_free linked left entries sub free) (after_element p name attributes kids f stands.held))
inlines_come linked after_text (span name attributes kids after) (inline _ _ link _ _ _ _ is inner further) s ok p
    rest entries f more stands free fresh =
    let listed = link_listed name is.0 in
    let t = opening name attributes in
    let g = with_new p name attributes f in
    let h = planted (nodes f) kids g in
    element_comes s ok p rest entries f name attributes kids after more stands listed
    (link_starts s ok (p ∷ rest) entries f name attributes is.0 (free_of_links linked entries is.1.1 free))
    (inlines_come true false kids inner s ok (nodes f) (p ∷ rest) (pushed (nodes f) t entries) g
    (end_of name ∷ tokens_and after more) (inside_stands p rest entries f name attributes stands listed)
    tt (in_element p name attributes f stands.held))
    (λ flag left sub here. inlines_come linked false after further s flag p rest left h more here
    (sub_free linked left entries sub free) (after_element p name attributes kids f stands.held))
