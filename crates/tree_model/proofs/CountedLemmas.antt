-- Counts of open elements stay right.
use Rattle.std.proofs.Common.{◌≡◌, ◌==◌, ◌∙◌, if◌then◌else◌, ◌||◌, [], ◌∷◌, ◌++◌, ◌<◌, ◌+◌, Bool, List, None, Option}
use Rattle.std.proofs.Common.{Some, ap, ap₂, arith, bytes_eq, false, inl, inr, length, length-append, map, refl, sym}
use Rattle.std.proofs.Common.{true, ℕ}
use Rattle.std.proofs.lemmas.Bool.{eqb-true}
use Rattle.std.proofs.lemmas.List.{length-map, length-reverse, map-append}
use Rattle.std.proofs.lemmas.Slice.Eq.{bytes_eq-Decides}
use Rattle.tree_forest.specs.Changes.{left_out}
use Rattle.tree_forest.specs.Forest.{Forest, is_in, name_of}
use Rattle.tree_forest.specs.Orders.{AreDistinct, IsIn}
use Rattle.tree_forest.specs.Places.{put_before}
use Rattle.html_lexemes.specs.declared.names.Namespace.{Namespace}
use Rattle.html_lexemes.specs.declared.names.Namespace.TheVariants.{Html, MathMl, Other, Svg}
use Rattle.html_lexemes.specs.declared.names.QualName.{QualName}
use Rattle.tree_model.specs.Adoption.{named_before_special, replaced}
use Rattle.tree_model.specs.Building.{are_counted, stack_of}
use Rattle.tree_model.specs.Foreign.{named_foreign}
use Rattle.tree_model.specs.Scopes.{has_item, is_item_barrier}
use Rattle.tree_model.specs.OpenElements.{farther, has_any, nearer, up_to}
use Rattle.tree_model.proofs.OpenLemmas.{divided, left_out_is, left_out_none, put_before_is, put_before_none}
use Rattle.tree_names.specs.Counts.{counts_of, has_foreign, has_one, is_foreign_in}
use Rattle.tree_names.specs.ElementSets.{special_elements}
use Rattle.tree_names.specs.Sets.{Elements, is_element_of}
use Rattle.tree_names.specs.Wanted.{one}
use Rattle.tree_predicates.specs.Attributes.{in_lower_case}
use Rattle.tree_predicates.specs.Foreign.{is_of_html}

abbrev pub names_in : Forest → List ℕ → List QualName
names_in f ns = map (λ n. name_of n f) ns

pub counts_are : (counts ns : List ℕ) (f : Forest) → are_counted counts ns f ≡ true → counts ≡ counts_of (names_in f ns)
counts_are counts ns f h = (bytes_eq-Decides counts (counts_of (names_in f ns))).0 h

pub are_right : (counts ns : List ℕ) (f : Forest) → counts ≡ counts_of (names_in f ns) → are_counted counts ns f ≡ true
are_right counts ns f h = (bytes_eq-Decides counts (counts_of (names_in f ns))).1 h

-- where the names stay
pub names_stay : (f g : Forest) (ns : List ℕ) → ((n : ℕ) → IsIn n ns → name_of n g ≡ name_of n f) →
    names_in g ns ≡ names_in f ns
names_stay f g [] stay = refl
names_stay f g (n ∷ ns) stay =
    ap₂ (λ x xs. x ∷ xs) (stay n (inl refl)) (names_stay f g ns (λ m i. stay m (inr i)))

pub counted_stays : (counts ns : List ℕ) (f g : Forest) → ((n : ℕ) → IsIn n ns → name_of n g ≡ name_of n f) →
    are_counted counts ns g ≡ are_counted counts ns f
counted_stays counts ns f g stay = ap (λ names. bytes_eq counts (counts_of names)) (names_stay f g ns stay)

pub names_both : (f : Forest) (ns ms : List ℕ) → names_in f (ns ++ ms) ≡ names_in f ns ++ names_in f ms
names_both f ns ms = map-append (λ n. name_of n f) ns ms

-- an element that is taken off
pub divided_names : (n : ℕ) (ns : List ℕ) (f : Forest) → is_in n ns ≡ true →
    names_in f ns ≡ names_in f (nearer n ns) ++ name_of n f ∷ names_in f (farther n ns)
divided_names n ns f there =
    ap (names_in f) (divided n ns there) ∙ names_both f (nearer n ns) (n ∷ farther n ns)

pub left_names : (n : ℕ) (ns : List ℕ) (f : Forest) → AreDistinct ns →
    names_in f (left_out n ns) ≡ names_in f (nearer n ns) ++ names_in f (farther n ns)
left_names n ns f distinct =
    ap (names_in f) (left_out_is n ns distinct) ∙ names_both f (nearer n ns) (farther n ns)

-- an element that is put right below another
pub put_names : (n c : ℕ) (ns : List ℕ) (f : Forest) → is_in n ns ≡ true →
    names_in f (put_before n c ns)
    ≡ names_in f (nearer n ns) ++ name_of c f ∷ name_of n f ∷ names_in f (farther n ns)
put_names n c ns f there =
    ap (names_in f) (put_before_is n c ns there) ∙ names_both f (nearer n ns) (c ∷ n ∷ farther n ns)

-- an element whose place another of its name takes
replaced_name : (n m k : ℕ) (f : Forest) (b : Bool) → name_of m f ≡ name_of n f → (k == n) ≡ b →
    name_of (if b then m else k) f ≡ name_of k f
replaced_name n m k f true same is = same ∙ ap (λ j. name_of j f) (sym (eqb-true k n is))
replaced_name n m k f false same is = refl

pub replaced_names : (n m : ℕ) (ns : List ℕ) (f : Forest) → name_of m f ≡ name_of n f →
    names_in f (replaced n m ns) ≡ names_in f ns
replaced_names n m [] f same = refl
replaced_names n m (k ∷ ns) f same =
    ap₂ (λ x xs. x ∷ xs) (replaced_name n m k f (k == n) same refl) (replaced_names n m ns f same)

-- a set of which no element is open
none_by : (b u v : Bool) → (b || u) ≡ false → (u ≡ false → v ≡ false) → (if b then true else v) ≡ false
none_by true u v e h = e
none_by false u v e h = h e

pub none_open : (set : Elements) (f : Forest) (ns : List ℕ) → has_one set (names_in f ns) ≡ false → has_any set f ns ≡
    false
none_open set f [] none = refl
none_open set f (n ∷ ns) none =
    none_by (is_element_of set (name_of n f)) (has_one set (names_in f ns)) (has_any set f ns) none (none_open set f ns)

none_above : (set barriers : Elements) (f : Forest) (ns : List ℕ) (ends : Bool) →
    has_any set f (up_to barriers f ns) ≡ false → has_any set f (if ends then [] else up_to barriers f ns) ≡ false
none_above set barriers f ns true none = refl
none_above set barriers f ns false none = none

pub none_in_scope : (set barriers : Elements) (f : Forest) (ns : List ℕ) → has_one set (names_in f ns) ≡ false →
    has_any set f (up_to barriers f ns) ≡ false
none_in_scope set barriers f [] none = refl
none_in_scope set barriers f (n ∷ ns) none =
    none_by (is_element_of set (name_of n f)) (has_one set (names_in f ns))
    (has_any set f (if is_element_of barriers (name_of n f) then [] else up_to barriers f ns)) none
    (λ rest. none_above set barriers f ns (is_element_of barriers (name_of n f)) (none_in_scope set barriers f ns rest))

-- as many names as elements
stack_size : {H : Type 0} (number : H → ℕ) (f : Forest) (handles : List H) →
    length (names_in f (stack_of number handles)) ≡ length handles
stack_size number f handles = length-map (stack_of number handles) (λ n. name_of n f)
    ∙ length-reverse (map number handles) ∙ length-map handles number

-- what is counted as so many elements are open, one of them not yet
pub may_count : {H : Type 0} (number : H → ℕ) (f : Forest) (counts : List ℕ) (old : List H) (size : ℕ) →
    length old + 1 ≡ size → are_counted counts (stack_of number old) f ≡ true →
    (names : List QualName) × ((counts ≡ counts_of names) × (length names < size))
may_count number f counts old size is counted = (
  names_in f (stack_of number old),
  (counts_are counts (stack_of number old) f counted, omega (arith, is, stack_size number f old)),
)

-- an element that was put between others, or taken from between them, is counted, or no longer
module _ (f : Forest) (counts after : List ℕ) (name : QualName) (n : ℕ) (name_is : name ≡ name_of n f)
    (ns ms : List ℕ) (front back : List QualName) where
  pub counted_more : ((front back : List QualName) → counts ≡ counts_of (front ++ back) →
      after ≡ counts_of (front ++ name ∷ back)) → names_in f ns ≡ front ++ back →
      names_in f ms ≡ front ++ name_of n f ∷ back → are_counted counts ns f ≡ true → are_counted after ms f ≡ true
  counted_more more was now counted = are_right after ms f
      (more front back (counts_are counts ns f counted ∙ ap counts_of was)
      ∙ ap (λ x. counts_of (front ++ x ∷ back)) name_is ∙ ap counts_of (sym now))

  pub is_counted : names_in f ns ≡ front ++ name_of n f ∷ back → are_counted counts ns f ≡ true →
      (fs bs : List QualName) × (counts ≡ counts_of (fs ++ name ∷ bs))
  is_counted was counted = (
    front,
    back,
    counts_are counts ns f counted ∙ ap counts_of was
        ∙ ap (λ x. counts_of (front ++ x ∷ back)) (sym name_is),
  )

  pub counted_less : ((front back : List QualName) → counts ≡ counts_of (front ++ name ∷ back) →
      after ≡ counts_of (front ++ back)) → names_in f ns ≡ front ++ name_of n f ∷ back →
      names_in f ms ≡ front ++ back → are_counted counts ns f ≡ true → are_counted after ms f ≡ true
  counted_less less was now counted = are_right after ms f
      (less front back (counts_are counts ns f counted ∙ ap counts_of was
      ∙ ap (λ x. counts_of (front ++ x ∷ back)) (sym name_is)) ∙ ap counts_of (sym now))

pub replaced_counted : (n m : ℕ) (counts ns : List ℕ) (f : Forest) → name_of m f ≡ name_of n f →
    are_counted counts (replaced n m ns) f ≡ are_counted counts ns f
replaced_counted n m counts ns f same = ap (λ names. bytes_eq counts (counts_of names)) (replaced_names n m ns f same)

-- an element that isn't open
pub none_left_counted : (n : ℕ) (counts ns : List ℕ) (f : Forest) → is_in n ns ≡ false →
    are_counted counts (left_out n ns) f ≡ are_counted counts ns f
none_left_counted n counts ns f none = ap (λ ms. are_counted counts ms f) (left_out_none n ns none)

pub none_put_counted : (n c : ℕ) (counts ns : List ℕ) (f : Forest) → is_in n ns ≡ false →
    are_counted counts (put_before n c ns) f ≡ are_counted counts ns f
none_put_counted n c counts ns f none = ap (λ ms. are_counted counts ms f) (put_before_none n c ns none)

in_by : (b u : Bool) (n m : ℕ) (ns : List ℕ) → (n == m) ≡ b → (if b then true else u) ≡ true → (u ≡ true → IsIn n ns) →
    IsIn n (m ∷ ns)
in_by true u n m ns is there rest = inl (eqb-true n m is)
in_by false u n m ns is there rest = inr (rest there)

pub is_in_them : (n : ℕ) (ns : List ℕ) → is_in n ns ≡ true → IsIn n ns
is_in_them n [] there = absurd (cc)
is_in_them n (m ∷ ns) there = in_by (n == m) (is_in n ns) n m ns refl there (is_in_them n ns)

handles_in : {H : Type 0} (number : H → ℕ) (handles : List H) → length (stack_of number handles) ≡ length handles
handles_in number handles = length-reverse (map number handles) ∙ length-map handles number

pub put_size : {H : Type 0} (number : H → ℕ) (n c : ℕ) (old new : List H) →
    stack_of number new ≡ put_before n c (stack_of number old) → is_in n (stack_of number old) ≡ true →
    length new ≡ length old + 1
put_size number n c old new is there =
    let ns = stack_of number old in
    omega (
      arith,
      handles_in number old,
      handles_in number new,
      ap length is ∙ ap length (put_before_is n c ns there),
      ap length (divided n ns there),
      length-append (nearer n ns) (c ∷ n ∷ farther n ns),
      length-append (nearer n ns) (n ∷ farther n ns),
    )

-- an end tag closes no element where none of its name is open, and no item where none is
unnamed_by : (is_name is_end some : Bool) (n : ℕ) (found : Option ℕ) → (is_name || some) ≡ false →
    (some ≡ false → found ≡ None) → (if is_name then Some n else if is_end then None else found) ≡ None
unnamed_by true is_end some n found none rest = absurd (cc)
unnamed_by false true some n found none rest = refl
unnamed_by false false some n found none rest = rest none

pub none_before_special : (name : List ℕ) (f : Forest) (ns : List ℕ) → has_one (one name) (names_in f ns) ≡ false →
    named_before_special name f ns ≡ None
none_before_special name f [] none = refl
none_before_special name f (n ∷ ns) none =
    unnamed_by (is_element_of (one name) (name_of n f)) (is_element_of special_elements (name_of n f))
    (has_one (one name) (names_in f ns)) n (named_before_special name f ns) none (none_before_special name f ns)

no_item_by : (is_item is_end some found : Bool) → (is_item || some) ≡ false → (some ≡ false → found ≡ false) →
    (if is_item then true else if is_end then false else found) ≡ false
no_item_by true is_end some found none rest = none
no_item_by false true some found none rest = refl
no_item_by false false some found none rest = rest none

pub no_item : (set : Elements) (f : Forest) (ns : List ℕ) → has_one set (names_in f ns) ≡ false →
    has_item set f ns ≡ false
no_item set f [] none = refl
no_item set f (n ∷ ns) none = no_item_by (is_element_of set (name_of n f)) (is_item_barrier (name_of n f))
    (has_one set (names_in f ns)) (has_item set f ns) none (no_item set f ns)

-- the same in foreign content
unclosed_by : (is_closed some : Bool) (n : ℕ) (found : Option ℕ) → (is_closed || some) ≡ false →
    (some ≡ false → found ≡ None) → (if is_closed then Some n else found) ≡ None
unclosed_by true some n found none rest = absurd (cc)
unclosed_by false some n found none rest = rest none

unclosed_in : (tag : List ℕ) (ns : Namespace) (local : List ℕ) (some : Bool) (n : ℕ) (found : Option ℕ) →
    (is_foreign_in tag ns local || some) ≡ false → (some ≡ false → found ≡ None) →
    (if is_of_html ns then None else if bytes_eq (in_lower_case local) tag then Some n else found) ≡ None
unclosed_in tag Html local some n found none rest = refl
unclosed_in tag MathMl local some n found none rest =
    unclosed_by (bytes_eq (in_lower_case local) tag) some n found none rest
unclosed_in tag Svg local some n found none rest =
    unclosed_by (bytes_eq (in_lower_case local) tag) some n found none rest
unclosed_in tag (Other text) local some n found none rest =
    unclosed_by (bytes_eq (in_lower_case local) tag) some n found none rest

pub none_closed : (tag : List ℕ) (f : Forest) (ns : List ℕ) → has_foreign tag (names_in f ns) ≡ false →
    named_foreign tag f ns ≡ None
none_closed tag f [] none = refl
none_closed tag f (n ∷ ns) none = unclosed_in tag (name_of n f).ns (name_of n f).local (has_foreign tag (names_in f ns))
    n (named_foreign tag f ns) none (none_closed tag f ns)

-- an element isn't open where none of its name is
unopened_by : (n : ℕ) (ns : List ℕ) (f : Forest) (counts : List ℕ) (is_none is_open : Bool) →
    ((front back : List QualName) → counts ≡ counts_of (front ++ name_of n f ∷ back) → is_none ≡ false) →
    are_counted counts ns f ≡ true → is_none ≡ true → is_in n ns ≡ is_open → is_in n ns ≡ false
unopened_by n ns f counts is_none true none counted is there =
    let some = none (names_in f (nearer n ns)) (names_in f (farther n ns))
    (counts_are counts ns f counted ∙ ap counts_of (divided_names n ns f there)) in
    absurd (cc)
unopened_by n ns f counts is_none false none counted is there = there

pub unopened : (n : ℕ) (ns : List ℕ) (f : Forest) (counts : List ℕ) (is_none : Bool) →
    ((front back : List QualName) → counts ≡ counts_of (front ++ name_of n f ∷ back) → is_none ≡ false) →
    are_counted counts ns f ≡ true → is_none ≡ true → is_in n ns ≡ false
unopened n ns f counts is_none none counted is =
    unopened_by n ns f counts is_none (is_in n ns) none counted is refl
