-- The guards of a page: while the head stands; while the body may still give way to a frameset; after that; and of
-- frames.
use Rattle.std.proofs.Common.{◌≡◌, ◌==◌, ◌||◌, if◌then◌else◌, [], ◌∷◌, ◌∙◌, Bool, List, ap, bytes_eq, codes, eq-eqb}
use Rattle.std.proofs.Common.{eqb-true, false, inl, inr, refl, subst, sym, true, ℕ}
use Rattle.std.proofs.lemmas.Slice.Eq.{bytes_eq-Decides}
use Rattle.tree_forest.specs.Forest.{no_element}
use Rattle.tree_forest.specs.Orders.{IsIn}
use Rattle.html_lexemes.specs.declared.names.QualName.{QualName}
use Rattle.tree_names.specs.Sets.{html_elements, is_element_of, is_html, is_one_of}
use Rattle.tree_names.specs.TagSets.{formatting}
use Rattle.page_tree_laws.proofs.Guards.{Guard, IsGuard, base_names, is_of_templates, may_stand}
use Rattle.rules_table.specs.Actions.{in_html, out_of_text}
use Rattle.tree_predicates.specs.declared.modes.InsertionMode.{InsertionMode}
use Rattle.tree_predicates.specs.declared.modes.InsertionMode.TheVariants as modes

-- what the root, the head and a third element are called
abbrev pub titles : (root head third : ℕ) → List ℕ → ℕ → QualName
titles root head third name n = if n == root then in_html (codes "html")
    else if n == head then in_html (codes "head")
    else if n == third then in_html name else no_element.name

-- the three are nodes of their own, none of them the document
pub record AreApart (root head third : ℕ) : Type 0 where
  pub root_made : ¬ (root ≡ 0)
  pub head_made : ¬ (head ≡ 0)
  pub third_made : ¬ (third ≡ 0)
  pub head_root : ¬ (head ≡ root)
  pub third_root : ¬ (third ≡ root)
  pub third_head : ¬ (third ≡ head)

same_self : (n : ℕ) → (n == n) ≡ true
same_self n = eq-eqb n n refl

by_test : {A : Type 0} (b : Bool) (x y : A) → b ≡ false → (if b then x else y) ≡ y
by_test true x y e = absurd (let k : true ≡ false = e in cc)
by_test false x y e = refl

if_so : {A : Type 0} (b : Bool) (x y : A) → b ≡ true → (if b then x else y) ≡ x
if_so true x y e = refl
if_so false x y e = absurd (let k : false ≡ true = e in cc)

unequal : (n m : ℕ) → ¬ (n ≡ m) → (n == m) ≡ false
unequal n m apart = by (n == m) refl where
  by : (b : Bool) → (n == m) ≡ b → b ≡ false
  by true e = absurd (apart (eqb-true n m e))
  by false e = refl

pub root_title : (root head third : ℕ) (name : List ℕ) → titles root head third name root ≡ in_html (codes "html")
root_title root head third name = if_so (root == root) _ _ (same_self root)

pub head_title : (root head third : ℕ) (name : List ℕ) → AreApart root head third →
    titles root head third name head ≡ in_html (codes "head")
head_title root head third name apart =
    by_test (head == root) _ _ (unequal head root apart.head_root) ∙ if_so (head == head) _ _ (same_self head)

pub third_title : (root head third : ℕ) (name : List ℕ) → AreApart root head third →
    titles root head third name third ≡ in_html name
third_title root head third name apart =
    by_test (third == root) _ _ (unequal third root apart.third_root)
    ∙ (by_test (third == head) _ _ (unequal third head apart.third_head)
    ∙ if_so (third == third) _ _ (same_self third))

pub document_title : (root head third : ℕ) (name : List ℕ) → ¬ (root ≡ 0) → ¬ (head ≡ 0) → ¬ (third ≡ 0) →
    titles root head third name 0 ≡ no_element.name
document_title root head third name root_made head_made third_made =
    by_test (0 == root) _ _ (unequal 0 root (λ e. root_made (sym e)))
    ∙ (by_test (0 == head) _ _ (unequal 0 head (λ e. head_made (sym e)))
    ∙ by_test (0 == third) _ _ (unequal 0 third (λ e. third_made (sym e))))

-- no formatting element has a name of what stands lowest
isnt : (word name : List ℕ) (b : Bool) → bytes_eq name word ≡ b → is_one_of formatting word ≡ false →
    is_one_of formatting name ≡ true → b ≡ false
isnt word name true same none is = absurd (
    let one : name ≡ word = (bytes_eq-Decides name word).0 same in
    let other : is_one_of formatting word ≡ true = subst (λ n. is_one_of formatting n ≡ true) one is in cc)
isnt word name false same none is = refl

none_of : (a b c d e : Bool) → a ≡ false → b ≡ false → c ≡ false → d ≡ false → e ≡ false →
    (a || (b || (c || (d || (e || false))))) ≡ false
none_of a b c d e h i j k l = cc

two_of : (a b : Bool) → a ≡ false → b ≡ false → (a || (b || false)) ≡ false
two_of a b h i = cc

base_free : (name : List ℕ) → is_one_of formatting name ≡ true → is_one_of base_names name ≡ false
base_free name is = none_of _ _ _ _ _
    (isnt (codes "html") name (bytes_eq name (codes "html")) refl refl is)
    (isnt (codes "head") name (bytes_eq name (codes "head")) refl refl is)
    (isnt (codes "body") name (bytes_eq name (codes "body")) refl refl is)
    (isnt (codes "frameset") name (bytes_eq name (codes "frameset")) refl refl is)
    (isnt (codes "template") name (bytes_eq name (codes "template")) refl refl is)

abbrev pub early_names : List (List ℕ)
early_names = codes "html" ∷ codes "head" ∷ []

early_free : (name : List ℕ) → is_one_of formatting name ≡ true → is_one_of early_names name ≡ false
early_free name is = two_of _ _
    (isnt (codes "html") name (bytes_eq name (codes "html")) refl refl is)
    (isnt (codes "head") name (bytes_eq name (codes "head")) refl refl is)

-- while a frameset may take the place of the body
abbrev pub is_of_body : InsertionMode → Bool
is_of_body modes.InBody = true
is_of_body modes.AfterBody = true
is_of_body modes.AfterAfterBody = true
is_of_body _ = false

-- in a page of frames
abbrev pub is_of_frames : InsertionMode → Bool
is_of_frames modes.InFrameset = true
is_of_frames modes.AfterFrameset = true
is_of_frames modes.AfterAfterFrameset = true
is_of_frames _ = false

stand_left : (mode : InsertionMode) → may_stand mode ≡ true → may_stand (out_of_text mode) ≡ true
stand_left modes.Text is = refl
stand_left modes.InTableText is = refl
stand_left mode is = is

body_left : (mode : InsertionMode) → is_of_body mode ≡ true → is_of_body (out_of_text mode) ≡ true
body_left modes.Text is = refl
body_left modes.InTableText is = refl
body_left mode is = is

frames_left : (mode : InsertionMode) → is_of_frames mode ≡ true → is_of_frames (out_of_text mode) ≡ true
frames_left modes.Text is = absurd (let k : false ≡ true = is in cc)
frames_left modes.InTableText is = absurd (let k : false ≡ true = is in cc)
frames_left mode is = is

pub body_stands : (mode : InsertionMode) → is_of_body mode ≡ true → may_stand mode ≡ true
body_stands modes.InBody is = refl
body_stands modes.AfterBody is = refl
body_stands modes.AfterAfterBody is = refl
body_stands mode is = absurd (let k : false ≡ true = is in cc)

-- in a template in front of the body
abbrev pub stands_in_template : InsertionMode → Bool
stands_in_template modes.InTableText = true
stands_in_template mode = is_of_templates mode

template_left : (mode : InsertionMode) → stands_in_template mode ≡ true →
    stands_in_template (out_of_text mode) ≡ true
template_left modes.Text is = refl
template_left modes.InTableText is = refl
template_left mode is = is

abbrev pub template_names : List (List ℕ)
template_names = codes "html" ∷ codes "head" ∷ codes "body" ∷ codes "frameset" ∷ []

four_of : (a b c d : Bool) → a ≡ false → b ≡ false → c ≡ false → d ≡ false →
    (a || (b || (c || (d || false)))) ≡ false
four_of a b c d h i j k = cc

template_free : (name : List ℕ) → is_one_of formatting name ≡ true → is_one_of template_names name ≡ false
template_free name is = four_of _ _ _ _
    (isnt (codes "html") name (bytes_eq name (codes "html")) refl refl is)
    (isnt (codes "head") name (bytes_eq name (codes "head")) refl refl is)
    (isnt (codes "body") name (bytes_eq name (codes "body")) refl refl is)
    (isnt (codes "frameset") name (bytes_eq name (codes "frameset")) refl refl is)

-- The root's child element is the head; above it, or above the root alone, a template is open.
abbrev pub lowest_below : (in_head : Bool) → (root head : ℕ) → List ℕ
lowest_below true root head = head ∷ root ∷ []
lowest_below false root head = root ∷ []

abbrev pub template_guard : (in_head : Bool) → (root head top : ℕ) → Guard
template_guard in_head root head top = record {
  root = root;
  head = head;
  top = top;
  firsts = head ∷ [];
  lowest = lowest_below in_head root head;
  title = titles root head top (codes "template");
  barred = template_names;
  is_open = false;
  fosters = true;
  resets = true;
  allows = stands_in_template;
}

-- The root's child elements are the head and a body, which is open.
abbrev pub body_guard : (root head body : ℕ) → Guard
body_guard root head body = record {
  root = root;
  head = head;
  top = body;
  firsts = head ∷ body ∷ [];
  lowest = root ∷ [];
  title = titles root head body (codes "body");
  barred = base_names;
  is_open = false;
  fosters = false;
  resets = false;
  allows = is_of_body;
}

-- The root's child elements begin with the head and an element of a name; it may be closed, and others may follow.
abbrev pub open_guard : List ℕ → Bool → (InsertionMode → Bool) → (root head body : ℕ) → Guard
open_guard name resets allows root head body = record {
  root = root;
  head = head;
  top = body;
  firsts = head ∷ body ∷ [];
  lowest = root ∷ [];
  title = titles root head body name;
  barred = early_names;
  is_open = true;
  fosters = true;
  resets = resets;
  allows = allows;
}

abbrev pub going_guard : List ℕ → (root head body : ℕ) → Guard
going_guard name root head body = open_guard name true may_stand root head body

abbrev pub frames_guard : (root head frameset : ℕ) → Guard
frames_guard root head frameset = open_guard (codes "frameset") false is_of_frames root head frameset

two_titled : (root head body : ℕ) (name : List ℕ) → is_one_of base_names name ≡ true → AreApart root head body →
    (n : ℕ) → IsIn n (body ∷ root ∷ []) →
    is_element_of (html_elements base_names) (titles root head body name n) ≡ true
two_titled root head body name is apart n (inl e) =
    subst (λ k. is_element_of (html_elements base_names) (titles root head body name k) ≡ true) (sym e)
    (ap (is_element_of (html_elements base_names)) (third_title root head body name apart) ∙ is)
two_titled root head body name is apart n (inr (inl e)) =
    subst (λ k. is_element_of (html_elements base_names) (titles root head body name k) ≡ true) (sym e)
    (ap (is_element_of (html_elements base_names)) (root_title root head body name))
two_titled root head body name is apart n (inr (inr i)) = absurd i

pub body_guards : (root head body : ℕ) → AreApart root head body → IsGuard (body_guard root head body)
body_guards root head body apart = record {
  root_apart = apart.root_made;
  top_apart = apart.third_root;
  top_no_document = apart.third_made;
  head_apart = (apart.head_made, apart.head_root);
  head_kept = inr (inr (inr (inl refl)));
  titled = two_titled root head body (codes "body") refl apart;
  root_titled = ap (is_html (codes "html")) (root_title root head body (codes "body"));
  root_lowest = λ e. absurd (let k : false ≡ true = e in cc);
  lowest_some = λ e. absurd (let k : root ∷ [] ≡ [] = e in cc);
  template_top = λ e h. absurd (let k : false ≡ true = h in cc);
  text_left = body_left;
  formatting_free = base_free;
}

open_guards : (name : List ℕ) (resets : Bool) (allows : InsertionMode → Bool) (root head body : ℕ) →
    is_one_of base_names name ≡ true →
    ((mode : InsertionMode) → allows mode ≡ true → allows (out_of_text mode) ≡ true) →
    AreApart root head body → IsGuard (open_guard name resets allows root head body)
open_guards name resets allows root head body is left apart = record {
  root_apart = apart.root_made;
  top_apart = apart.third_root;
  top_no_document = apart.third_made;
  head_apart = (apart.head_made, apart.head_root);
  head_kept = inr (inr (inr (inl refl)));
  titled = two_titled root head body name is apart;
  root_titled = ap (is_html (codes "html")) (root_title root head body name);
  root_lowest = λ e. refl;
  lowest_some = λ e. absurd (let k : root ∷ [] ≡ [] = e in cc);
  template_top = λ e h. absurd (let k : true ≡ false = e in cc);
  text_left = left;
  formatting_free = early_free;
}

pub going_guards : (name : List ℕ) (root head body : ℕ) → is_one_of base_names name ≡ true →
    AreApart root head body → IsGuard (going_guard name root head body)
going_guards name root head body is apart =
    open_guards name true may_stand root head body is stand_left apart

pub frames_guards : (root head frameset : ℕ) → AreApart root head frameset → IsGuard (frames_guard root head frameset)
frames_guards root head frameset apart =
    open_guards (codes "frameset") false is_of_frames root head frameset refl frames_left apart

-- where the third is the head
pub titled_head : (root head : ℕ) (name : List ℕ) → ¬ (head ≡ root) →
    titles root head head name head ≡ in_html (codes "head")
titled_head root head name apart =
    by_test (head == root) _ _ (unequal head root apart) ∙ if_so (head == head) _ _ (same_self head)

template_titled : (in_head : Bool) (root head top : ℕ) → AreApart root head top → (n : ℕ) →
    IsIn n (top ∷ lowest_below in_head root head) →
    is_element_of (html_elements base_names) (titles root head top (codes "template") n) ≡ true
template_titled in_head root head top apart n (inl e) =
    subst (λ k. is_element_of (html_elements base_names) (titles root head top (codes "template") k) ≡ true) (sym e)
    (ap (is_element_of (html_elements base_names)) (third_title root head top (codes "template") apart))
template_titled true root head top apart n (inr (inl e)) =
    subst (λ k. is_element_of (html_elements base_names) (titles root head top (codes "template") k) ≡ true) (sym e)
    (ap (is_element_of (html_elements base_names)) (head_title root head top (codes "template") apart))
template_titled true root head top apart n (inr (inr (inl e))) =
    subst (λ k. is_element_of (html_elements base_names) (titles root head top (codes "template") k) ≡ true) (sym e)
    (ap (is_element_of (html_elements base_names)) (root_title root head top (codes "template")))
template_titled true root head top apart n (inr (inr (inr i))) = absurd i
template_titled false root head top apart n (inr (inl e)) =
    subst (λ k. is_element_of (html_elements base_names) (titles root head top (codes "template") k) ≡ true) (sym e)
    (ap (is_element_of (html_elements base_names)) (root_title root head top (codes "template")))
template_titled false root head top apart n (inr (inr i)) = absurd i

some_lowest : (in_head : Bool) (root head : ℕ) → ¬ (lowest_below in_head root head ≡ [])
some_lowest true root head e = absurd (let k : head ∷ root ∷ [] ≡ [] = e in cc)
some_lowest false root head e = absurd (let k : root ∷ [] ≡ [] = e in cc)

pub template_guards : (in_head : Bool) (root head top : ℕ) → AreApart root head top →
    IsGuard (template_guard in_head root head top)
template_guards in_head root head top apart = record {
  root_apart = apart.root_made;
  top_apart = apart.third_root;
  top_no_document = apart.third_made;
  head_apart = (apart.head_made, apart.head_root);
  head_kept = inr (inr (inr (inl refl)));
  titled = template_titled in_head root head top apart;
  root_titled = ap (is_html (codes "html")) (root_title root head top (codes "template"));
  root_lowest = λ e. absurd (let k : false ≡ true = e in cc);
  lowest_some = some_lowest in_head root head;
  template_top = λ e h. ap (is_html (codes "template")) (third_title root head top (codes "template") apart);
  text_left = template_left;
  formatting_free = template_free;
}
