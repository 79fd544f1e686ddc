-- What a serializer that writes has written of a walk.
use Rattle.std.proofs.Common.{◌≡◌, [], ◌∷◌, ◌++◌, if◌then◌else◌, ◌∙◌, Bool, List, Option, Some, ap, append-nil}
use Rattle.std.proofs.Common.{append_assoc, false, refl, subst, suc, sym, true, zero, ℕ}
use Rattle.tree_forest.specs.Forest.{Forest, Kind, comment, doctype, document, element, instruction, kind_at, nodes}
use Rattle.tree_forest.specs.Forest.{text}
use Rattle.html_lexemes.specs.declared.names.QualName.{QualName}
use Rattle.tree_serializer.specs.Calls.{Call, Reply, doctype_of, finish, instruction_of, refused, remark, start}
use Rattle.tree_serializer.specs.Calls.{text_run}
use Rattle.tree_serializer.specs.Escapes.{comment_text, doctype_text, end_text, instruction_text, start_text}
use Rattle.tree_serializer.specs.Emitted.{IsEmitted, all, cut, further, out_of_memory}
use Rattle.tree_serializer.specs.Openings.{opening_entry}
use Rattle.tree_serializer.specs.Walked.{IsWalked}
use Rattle.tree_serializer.specs.Walks.{calls_by, calls_of, calls_within, inner_of, joined, run_text, text_by}
use Rattle.tree_serializer.specs.Walks.{text_within, walk_text}
use Rattle.tree_serializer.specs.Writing.{Entry, Grows, GrowsPart, IsCut, IsSame, IsWritten, Means, Writing}
use Rattle.tree_serializer.specs.Writing.{entry_below, no_parent, outcome, unless_silent, within, writes}
use Rattle.tree_serializer.specs.declared.fault.SerializeFault.{SerializeFault}
use Rattle.tree_serializer.specs.declared.fault.SerializeFault.TheVariants.{Memory, NoParent, Write}
use Rattle.tree_serializer.specs.declared.options.TraversalScope.{TraversalScope}
use Rattle.tree_serializer.specs.declared.options.TraversalScope.TheVariants.{ChildrenOnly, IncludeNode}
use Rattle.tree_names.specs.ElementSets.{void_elements}
use Rattle.tree_names.specs.Sets.{is_element_of}
use Rattle.tree_serializer.proofs.GrowthLemmas.{grows_as, grows_as_part, grows_none, grows_on, grows_on_part}
use Rattle.tree_serializer.proofs.GrowthLemmas.{part_of_all, part_of_more}

-- a text was written, and these entries are open; or it stopped within the text
pub record HasWritten (cs : List ℕ) (es : List Entry) (s t : Writing) : Type 0 where
  pub same : IsSame s t
  pub entries : t.entries ≡ es
  pub grown : Grows cs s.contents t.contents

abbrev pub Explains : SerializeFault → Writing → Type 0
Explains Write u = u.has_failed ≡ true
Explains NoParent u = ⊥
Explains Memory u = Unit {0}

pub record HasStopped (cs : List ℕ) (s : Writing) (fault : SerializeFault) (u : Writing) : Type 0 where
  pub same : IsSame s u
  pub part : GrowsPart cs s.contents u.contents
  pub why : Explains fault u

-- calls that write a text are made to their end, with others made after them, or one of them was refused
pub data Splits (cs : List ℕ) (es : List Entry) (s : Writing) (rest : List Call) (reply : Reply) (u : Writing)
    : Type 0 where
  gone : (t : Writing) → HasWritten cs es s t → IsEmitted Means t rest reply u → Splits cs es s rest reply u
  stopped : (fault : SerializeFault) → reply ≡ refused fault → HasStopped cs s fault u → Splits cs es s rest reply u

same_itself : (s : Writing) → IsSame s s
same_itself s = record { scripting = refl; makes_parents = refl; stays = λ h. h }

same_on : (s t u : Writing) → IsSame s t → IsSame t u → IsSame s u
same_on s t u p q = record {
  scripting = q.scripting ∙ p.scripting;
  makes_parents = q.makes_parents ∙ p.makes_parents;
  stays = λ h. q.stays (p.stays h);
}

written_on : (cs ds : List ℕ) (es fs : List Entry) (s t u : Writing) → HasWritten cs es s t → HasWritten ds fs t u
    → HasWritten (cs ++ ds) fs s u
written_on cs ds es fs s t u p q = record {
  same = same_on s t u p.same q.same;
  entries = q.entries;
  grown = grows_on cs ds p.grown q.grown;
}

stopped_on : (cs ds : List ℕ) (es : List Entry) (s t : Writing) (fault : SerializeFault) (u : Writing)
    → HasWritten cs es s t → HasStopped ds t fault u → HasStopped (cs ++ ds) s fault u
stopped_on cs ds es s t fault u p q = record {
  same = same_on s t u p.same q.same;
  part = grows_on_part cs ds p.grown q.part;
  why = q.why;
}

stopped_before : (cs ds : List ℕ) (s : Writing) (fault : SerializeFault) (u : Writing) → HasStopped cs s fault u
    → HasStopped (cs ++ ds) s fault u
stopped_before cs ds s fault u p = record { same = p.same; part = part_of_more cs ds p.part; why = p.why }

stopped_nowhere : (cs : List ℕ) (s : Writing) → HasStopped cs s Memory s
stopped_nowhere cs s = record { same = same_itself s; part = part_of_all [] cs (grows_none s.contents); why = tt }

-- one part after another, whose calls are made from where the first left off
splits_on : (cs ds : List ℕ) (es fs : List Entry) (s : Writing) (between rest : List Call) (reply : Reply) (u : Writing)
    → Splits cs es s between reply u
    → ((t : Writing) → HasWritten cs es s t → IsEmitted Means t between reply u → Splits ds fs t rest reply u)
    → Splits (cs ++ ds) fs s rest reply u
splits_on cs ds es fs s between rest reply u (stopped fault is why) next =
    stopped fault is (stopped_before cs ds s fault u why)
splits_on cs ds es fs s between rest reply u (gone t w emitted) next = by (next t w emitted) where
  by : Splits ds fs t rest reply u → Splits (cs ++ ds) fs s rest reply u
  by (stopped fault is why) = stopped fault is (stopped_on cs ds es s t fault u w why)
  by (gone v x further_emitted) = gone v (written_on cs ds es fs s t v w x) further_emitted

splits_as : (cs ds : List ℕ) (es : List Entry) (s : Writing) (rest : List Call) (reply : Reply) (u : Writing) → cs ≡ ds
    → Splits cs es s rest reply u → Splits ds es s rest reply u
splits_as cs ds es s rest reply u e = subst (λ l. Splits l es s rest reply u) e

-- one call
refused_one : (s u : Writing) (call : Call) (cs : List ℕ) (es : List Entry) (fault : SerializeFault)
    → outcome s call ≡ writes cs es → Means s call (refused fault) u → HasStopped cs s fault u
refused_one s u call cs es Write e m =
    let c : IsCut (writes cs es) s u = subst (λ o. IsCut o s u) e m.1 in
    record { same = m.0; part = c.1; why = c.0 }
refused_one s u call cs es NoParent e m = absurd (apart (sym e ∙ m.0)) where
  apart : writes cs es ≡ no_parent → ⊥
  apart h = cc
refused_one s u call cs es Memory e m = subst (λ v. HasStopped cs s Memory v) (sym m) (stopped_nowhere cs s)

one_call : (s u : Writing) (call : Call) (rest : List Call) (reply : Reply) (cs : List ℕ) (es : List Entry)
    → outcome s call ≡ writes cs es → IsEmitted Means s (call ∷ rest) reply u → Splits cs es s rest reply u
one_call s u call rest reply cs es e (further _ t _ _ _ _ m emitted) =
    let w : IsWritten (writes cs es) s t = subst (λ o. IsWritten o s t) e m.1 in
    gone t (record { same = m.0; entries = w.0; grown = w.1 }) emitted
one_call s u call rest reply cs es e (cut _ _ _ _ fault m) = stopped fault refl (refused_one s u call cs es fault e m)
one_call s u call rest reply cs es e (out_of_memory _ _) = stopped Memory refl (stopped_nowhere cs s)

outcome_within : (s : Writing) (e : Entry) (outer : List Entry) (call : Call) → s.entries ≡ e ∷ outer
    → outcome s call ≡ within s.scripting e outer call
outcome_within s e outer call h =
    ap (λ es. outcome (record s { entries = es }) call) h

-- what a silent entry leaves out
unless_both : (e : Entry) (cs ds : List ℕ) → unless_silent e cs ++ unless_silent e ds ≡ unless_silent e (cs ++ ds)
unless_both e cs ds = by e.is_silent where
  by : (b : Bool) → (if b then [] else cs) ++ (if b then [] else ds) ≡ (if b then [] else cs ++ ds)
  by true = refl
  by false = refl

none_either : (b : Bool) (none : List ℕ) → none ≡ (if b then none else none)
none_either true none = refl
none_either false none = refl

unless_none : (e : Entry) → [] ≡ unless_silent e []
unless_none e = none_either e.is_silent []

-- an element's tags and what stands in it, each as far as its entry writes it
element_texts : (b void : Bool) (first inner last : List ℕ)
    → (if b then [] else first)
    ++ ((if (if b then true else void) then [] else inner) ++ (if (if b then true else void) then [] else last))
    ≡ (if b then [] else first ++ (if void then [] else inner ++ last))
element_texts true void first inner last = refl
element_texts false true first inner last = refl
element_texts false false first inner last = refl

-- what calls say within any entry: they write a text, which depends on the entry's name, and leave the entries
abbrev pub Emits : Bool → List Call → (Option QualName → List ℕ) → Type 0
Emits scripting calls cs = (e : Entry) (outer : List Entry) (s : Writing) (rest : List Call) (reply : Reply)
    (u : Writing) → s.scripting ≡ scripting → s.entries ≡ e ∷ outer → IsEmitted Means s (calls ++ rest) reply u
    → Splits (unless_silent e (cs e.name)) (e ∷ outer) s rest reply u

emits_one : (scripting : Bool) (call : Call) (cs : Option QualName → List ℕ)
    → ((e : Entry) (outer : List Entry)
    → within scripting e outer call ≡ writes (unless_silent e (cs e.name)) (e ∷ outer))
    → Emits scripting (call ∷ []) cs
emits_one scripting call cs is e outer s rest reply u same open_now emitted =
    one_call s u call rest reply (unless_silent e (cs e.name)) (e ∷ outer)
    (outcome_within s e outer call open_now ∙ ap (λ b. within b e outer call) same ∙ is e outer) emitted

emits_none : (scripting : Bool) → Emits scripting [] (λ name. [])
emits_none scripting e outer s rest reply u same open_now emitted =
    gone s (record {
      same = same_itself s;
      entries = open_now;
      grown = grows_as [] (unless_silent e []) (unless_none e) (grows_none s.contents);
    }) emitted

emits_both : (scripting : Bool) (calls more : List Call) (cs ds : Option QualName → List ℕ) → Emits scripting calls cs
    → Emits scripting more ds → Emits scripting (calls ++ more) (λ name. cs name ++ ds name)
emits_both scripting calls more cs ds first second e outer s rest reply u same open_now emitted =
    splits_as (unless_silent e (cs e.name) ++ unless_silent e (ds e.name)) (unless_silent e (cs e.name ++ ds e.name))
    (e ∷ outer) s rest reply u (unless_both e (cs e.name) (ds e.name))
    (splits_on (unless_silent e (cs e.name)) (unless_silent e (ds e.name)) (e ∷ outer) (e ∷ outer) s (more ++ rest) rest
    reply u
    (first e outer s (more ++ rest) reply u same open_now
    (subst (λ l. IsEmitted Means s l reply u) (append_assoc calls more rest) emitted))
    (λ t w. second e outer t rest reply u (w.same.scripting ∙ same) w.entries))

emits_joined : (scripting : Bool) (calls : ℕ → List Call) (cs : Option QualName → ℕ → List ℕ)
    → ((n : ℕ) → Emits scripting (calls n) (λ name. cs name n)) → (ns : List ℕ)
    → Emits scripting (joined calls ns) (λ name. joined (cs name) ns)
emits_joined scripting calls cs each [] = emits_none scripting
emits_joined scripting calls cs each (n ∷ ns) =
    emits_both scripting (calls n) (joined calls ns) (λ name. cs name n) (λ name. joined (cs name) ns) (each n)
    (emits_joined scripting calls cs each ns)

emits_element : (scripting : Bool) (name : QualName) (first : Call) (first_text : List ℕ) (inner : List Call)
    (inner_text : Option QualName → List ℕ) (e : Entry) (outer : List Entry) (s : Writing) (rest : List Call)
    (reply : Reply) (u : Writing)
    → outcome s first ≡ writes (unless_silent e first_text) (entry_below e name ∷ e ∷ outer)
    → Emits scripting inner inner_text → s.scripting ≡ scripting
    → IsEmitted Means s (first ∷ (inner ++ finish name ∷ []) ++ rest) reply u
    → Splits (unless_silent e (first_text
    ++ (if is_element_of void_elements name then [] else inner_text (Some name) ++ end_text name))) (e ∷ outer) s rest
    reply u
emits_element scripting name first first_text inner inner_text e outer s rest reply u is within_it same emitted =
    let below = entry_below e name in
    splits_as
    (unless_silent e first_text
    ++ (unless_silent below (inner_text (Some name)) ++ unless_silent below (end_text name)))
    (unless_silent e (first_text
    ++ (if is_element_of void_elements name then [] else inner_text (Some name) ++ end_text name)))
    (e ∷ outer) s rest reply u
    (element_texts e.is_silent (is_element_of void_elements name) first_text (inner_text (Some name)) (end_text name))
    (splits_on (unless_silent e first_text)
    (unless_silent below (inner_text (Some name)) ++ unless_silent below (end_text name))
    (below ∷ e ∷ outer) (e ∷ outer) s ((inner ++ finish name ∷ []) ++ rest) rest reply u
    (one_call s u first ((inner ++ finish name ∷ []) ++ rest) reply (unless_silent e first_text) (below ∷ e ∷ outer) is
    emitted)
    (λ t w emitted_in.
    splits_on (unless_silent below (inner_text (Some name))) (unless_silent below (end_text name)) (below ∷ e ∷ outer)
    (e ∷ outer) t (finish name ∷ rest) rest reply u
    (within_it below (e ∷ outer) t (finish name ∷ rest) reply u (w.same.scripting ∙ same) w.entries
    (subst (λ l. IsEmitted Means t l reply u) (append_assoc inner (finish name ∷ []) rest) emitted_in))
    (λ v x emitted_last.
    one_call v u (finish name) rest reply (unless_silent below (end_text name)) (e ∷ outer)
    (outcome_within v below (e ∷ outer) (finish name) x.entries) emitted_last)))

-- a node of any kind, by what its contents emit
emits_kind : (scripting : Bool) (kind : Kind) (inner : List Call) (inner_text : Option QualName → List ℕ)
    → Emits scripting inner inner_text
    → Emits scripting (calls_by kind inner) (λ name. text_by scripting name kind inner_text)
emits_kind scripting document inner inner_text within_it = within_it
emits_kind scripting (text cs) inner inner_text within_it =
    emits_one scripting (text_run cs) (λ name. run_text scripting name cs) (λ e outer. refl)
emits_kind scripting (comment cs) inner inner_text within_it =
    emits_one scripting (remark cs) (λ name. comment_text cs) (λ e outer. refl)
emits_kind scripting (doctype said public system) inner inner_text within_it =
    emits_one scripting (doctype_of said) (λ name. doctype_text said) (λ e outer. refl)
emits_kind scripting (instruction target cs) inner inner_text within_it =
    emits_one scripting (instruction_of target cs) (λ name. instruction_text target cs) (λ e outer. refl)
emits_kind scripting (element x) inner inner_text within_it = λ e outer s rest reply u same open_now emitted.
    emits_element scripting x.name (start x.name x.attributes) (start_text x.name x.attributes) inner inner_text e outer
    s rest reply u (outcome_within s e outer (start x.name x.attributes) open_now) within_it same emitted

pub emits_node : (scripting : Bool) (k : ℕ) (f : Forest) (n : ℕ)
    → Emits scripting (calls_within k f n) (λ name. text_within scripting k f name n)
emits_node scripting zero f n = emits_none scripting
emits_node scripting (suc k) f n =
    emits_kind scripting (kind_at n f) (joined (calls_within k f) (inner_of n f))
    (λ name. joined (text_within scripting k f name) (inner_of n f))
    (emits_joined scripting (calls_within k f) (text_within scripting k f) (emits_node scripting k f) (inner_of n f))

-- what is emitted to its end
ends : (cs : List ℕ) (es : List Entry) (s : Writing) (reply : Reply) (u : Writing) → s.entries ≡ es
    → Splits cs es s [] reply u → IsWalked cs s reply u
ends cs es s reply u now (stopped fault is why) =
    subst (λ r. IsWalked cs s r u) (sym is) (by fault why) where
      by : (fault : SerializeFault) → HasStopped cs s fault u → IsWalked cs s (refused fault) u
      by Write h = (h.same, h.why, h.part)
      by NoParent h = absurd h.why
      by Memory h = (h.same, h.part)
ends cs es s reply u now (gone t w (all _)) = (w.same, w.entries ∙ sym now, w.grown)
ends cs es s reply u now (gone t w (out_of_memory _ _)) =
    (w.same, grows_as_part (cs ++ []) cs (append-nil cs) (part_of_all cs [] w.grown))

emitted_all : (s u : Writing) (calls : List Call) (reply : Reply) → IsEmitted Means s calls reply u
    → IsEmitted Means s (calls ++ []) reply u
emitted_all s u calls reply = subst (λ l. IsEmitted Means s l reply u) (sym (append-nil calls))

unless_open : (e : Entry) (cs : List ℕ) → e.is_silent ≡ false → unless_silent e cs ≡ cs
unless_open e cs h = ap (λ b. if b then [] else cs) h

pub node_is_written : (f : Forest) (n : ℕ) (e : Entry) (outer : List Entry) (s u : Writing) (reply : Reply)
    → s.entries ≡ e ∷ outer → e.is_silent ≡ false → IsEmitted Means s (calls_within (nodes f) f n) reply u
    → IsWalked (text_within s.scripting (nodes f) f e.name n) s reply u
node_is_written f n e outer s u reply now loud emitted =
    let cs = text_within s.scripting (nodes f) f e.name n in
    ends cs (e ∷ outer) s reply u now
    (splits_as (unless_silent e cs) cs (e ∷ outer) s [] reply u (unless_open e cs loud)
    (emits_node s.scripting (nodes f) f n e outer s [] reply u refl now
    (emitted_all s u (calls_within (nodes f) f n) reply emitted)))

nodes_are_written : (f : Forest) (ns : List ℕ) (e : Entry) (outer : List Entry) (s u : Writing) (reply : Reply)
    → s.entries ≡ e ∷ outer → e.is_silent ≡ false → IsEmitted Means s (joined (calls_within (nodes f) f) ns) reply u
    → IsWalked (joined (text_within s.scripting (nodes f) f e.name) ns) s reply u
nodes_are_written f ns e outer s u reply now loud emitted =
    let cs = joined (text_within s.scripting (nodes f) f e.name) ns in
    ends cs (e ∷ outer) s reply u now
    (splits_as (unless_silent e cs) cs (e ∷ outer) s [] reply u (unless_open e cs loud)
    (emits_joined s.scripting (calls_within (nodes f) f) (text_within s.scripting (nodes f) f)
    (emits_node s.scripting (nodes f) f) ns e outer s [] reply u refl now
    (emitted_all s u (joined (calls_within (nodes f) f) ns) reply emitted)))

pub walk_is_written : (scope : TraversalScope) (n : ℕ) (f : Forest) (outer : List Entry) (s u : Writing)
    (reply : Reply) → s.entries ≡ opening_entry scope ∷ outer → IsEmitted Means s (calls_of scope n f) reply u
    → IsWalked (walk_text s.scripting scope n f) s reply u
walk_is_written IncludeNode n f outer s u reply now emitted =
    node_is_written f n (opening_entry IncludeNode) outer s u reply now refl emitted
walk_is_written (ChildrenOnly name) n f outer s u reply now emitted =
    nodes_are_written f (inner_of n f) (opening_entry (ChildrenOnly name)) outer s u reply now refl emitted
