-- The walk of the adoption agency goes on.
use Rattle.std.proofs.Common.{◌≡◌, ◌<◌, ◌==◌, ◌||◌, ◌∙◌, [], ◌∷◌, ◌++◌, if◌then◌else◌, Bool, List, None, Option, Some}
use Rattle.std.proofs.Common.{ap, arith, bytes_eq, codes, false, inl, inr, refl, subst, sym, true, ℕ}
use Rattle.std.proofs.lemmas.Bool.{cases_Bool}
use Rattle.std.proofs.lemmas.Bool.Decides.{nat_tests}
use Rattle.std.proofs.lemmas.List.{append_assoc}
use Rattle.std.proofs.lemmas.Slice.Eq.{bytes_eq-Decides}
use Rattle.tree_formatting.specs.Entries.{is_listed, tag_in, up_to_marker}
use Rattle.tree_forest.specs.Changes.{left_out}
use Rattle.tree_forest.specs.Forest.{Forest, Holds, element_of, is_in, name_of, nodes}
use Rattle.tree_forest.specs.Orders.{AreDistinct, IsIn}
use Rattle.tree_names.specs.ElementSets.{scope_barriers, special_elements}
use Rattle.tree_names.specs.Sets.{is_element_of, is_html, is_one_of}
use Rattle.tree_names.specs.TagSets.{formatting}
use Rattle.html_lexemes.specs.declared.names.Namespace.{Namespace}
use Rattle.html_lexemes.specs.declared.names.Namespace.TheVariants.{Html, MathMl, Svg, Other}
use Rattle.html_lexemes.specs.declared.names.QualName.{QualName}
use Rattle.html_lexemes.specs.declared.token.Tag.{Tag}
use Rattle.tree_model.specs.Adoption.{Walk, bookmark_by, copied, farther, furthest_block, last_special, nearer}
use Rattle.tree_model.specs.Adoption.{or_itself, replaced, stepped}
use Rattle.tree_model.specs.Building.{Building}
use Rattle.tree_model.specs.CanAdopt.{CanCopy, CanPlace, CanTakeOver, IsAncestor, is_foster_stop}
use Rattle.tree_model.specs.Formatting.{unlisted}
use Rattle.tree_model.specs.Laws.{Laws}
use Rattle.tree_model.specs.OpenElements.{first_of, up_to}
use Rattle.tree_model.specs.Scopes.{taken_off}
use Rattle.tree_model.specs.Sound.{IsFormatting, Sound}
use Rattle.tree_model.specs.Walks.{IsWalk, begun}
use Rattle.tree_model.proofs.AdoptionLemmas.{taken_off_sound, unlisted_sound}
use Rattle.tree_model.proofs.CopyLemmas.{copied_sound, copied_stays}
use Rattle.tree_model.proofs.InsertedLemmas.{not_itself}
use Rattle.tree_model.proofs.ListedAfter.{tag_listed}
use Rattle.tree_model.proofs.NearerLemmas.{in_after, in_front_part}
use Rattle.tree_model.proofs.OpenLemmas.{divided}
use Rattle.tree_model.proofs.SoundLemmas.{either}
use Rattle.tree_model.proofs.WalkLists.{handed_is_listed, in_one_more, left_out_there, listed_after_handed}
use Rattle.tree_model.proofs.WalkLists.{listed_after_without, nearer_there, not_after, not_in_front, other_way}
use Rattle.tree_model.proofs.WalkLists.{replaced_there, tag_handed, tag_without}

-- a word that is in a set, where another is not, is another
other_word : (set : List (List ℕ)) (word name : List ℕ) (b : Bool) → is_one_of set name ≡ b →
    ¬ (is_one_of set word ≡ b) → bytes_eq name word ≡ false
other_word set word name b is isnt = either
    (λ e. absurd (isnt (subst (λ w. is_one_of set w ≡ b) ((bytes_eq-Decides name word).0 e) is)))
    (λ e. e) (cases_Bool (bytes_eq name word))

neither : (a b : Bool) → a ≡ false → b ≡ false → ((a || false) || (b || false)) ≡ false
neither a b is also = cc

-- a formatting element is neither a table nor a template
stop_by : (name : List ℕ) → is_one_of formatting name ≡ true →
    (is_html (codes "template") (record { ns = Html; local = name })
    || is_html (codes "table") (record { ns = Html; local = name })) ≡ false
stop_by name is = neither (bytes_eq name (codes "template")) (bytes_eq name (codes "table"))
    (other_word formatting (codes "template") name true is (λ e. let k : false ≡ true = e in cc))
    (other_word formatting (codes "table") name true is (λ e. let k : false ≡ true = e in cc))

pub no_stop : (n : ℕ) (tag : Tag) (f : Forest) → IsFormatting n tag f → is_foster_stop n f ≡ false
no_stop n tag f is =
    ap (λ (q : QualName). is_html (codes "template") q || is_html (codes "table") q) is.name
    ∙ stop_by tag.name is.kind

-- nor is an element that is no barrier of scope
no_barrier_by : (ns : Namespace) (local : List ℕ) →
    is_element_of scope_barriers (record { ns = ns; local = local }) ≡ false →
    (is_html (codes "template") (record { ns = ns; local = local })
    || is_html (codes "table") (record { ns = ns; local = local })) ≡ false
no_barrier_by Html local is = neither (bytes_eq local (codes "template")) (bytes_eq local (codes "table"))
    (other_word scope_barriers.html (codes "template") local false is (λ e. let k : true ≡ false = e in cc))
    (other_word scope_barriers.html (codes "table") local false is (λ e. let k : true ≡ false = e in cc))
no_barrier_by MathMl local is = refl
no_barrier_by Svg local is = refl
no_barrier_by (Other text) local is = refl

pub no_barrier : (n : ℕ) (f : Forest) → is_element_of scope_barriers (name_of n f) ≡ false →
    is_foster_stop n f ≡ false
no_barrier n f is = no_barrier_by (name_of n f).ns (name_of n f).local is

plain_step : (n m k : ℕ) (f : Forest) (ms : List ℕ) (at barrier : Bool) →
    (barrier ≡ false → is_foster_stop k f ≡ false) →
    (is_in n (up_to scope_barriers f ms) ≡ true → IsIn m (nearer n ms) → is_foster_stop m f ≡ false) →
    (if at then true else is_in n (if barrier then [] else up_to scope_barriers f ms)) ≡ true →
    IsIn m (if at then [] else k ∷ nearer n ms) → is_foster_stop m f ≡ false
plain_step n m k f ms true barrier stop more there i = absurd i
plain_step n m k f ms false true stop more there i = absurd (let e : false ≡ true = there in cc)
plain_step n m k f ms false false stop more there (inl e) =
    ap (λ x. is_foster_stop x f) e ∙ stop refl
plain_step n m k f ms false false stop more there (inr i) = more there i

-- no table or template is nearer than an element that is in scope
pub plain_in_scope : (n m : ℕ) (f : Forest) (ns : List ℕ) → is_in n (up_to scope_barriers f ns) ≡ true →
    IsIn m (nearer n ns) → is_foster_stop m f ≡ false
plain_in_scope n m f [] there i = absurd i
plain_in_scope n m f (k ∷ ms) there i =
    plain_step n m k f ms (k == n) (is_element_of scope_barriers (name_of k f)) (no_barrier k f)
    (plain_in_scope n m f ms)
    (ap (λ b. if b then true else is_in n (if is_element_of scope_barriers (name_of k f) then []
    else up_to scope_barriers f ms)) (other_way k n) ∙ there) i

in_of : (n : ℕ) (ns : List ℕ) → is_in n ns ≡ true → IsIn n ns
in_of n ns there = subst (IsIn n) (sym (divided n ns there)) (in_after n (nearer n ns) (n ∷ farther n ns) (inl refl))

last_step : (m n : ℕ) (f : Forest) (ns : List ℕ) (found : Option ℕ) (is : Bool) →
    (found ≡ Some m → IsIn m ns) → or_itself found is n ≡ Some m → IsIn m (n ∷ ns)
last_step m n f ns (Some k) is more e = inr (more e)
last_step m n f ns None true more e = inl (let k : Some n ≡ Some m = e in cc)
last_step m n f ns None false more e = absurd (let k : None ≡ Some m = e in cc)

pub is_last : (m : ℕ) (f : Forest) (ns : List ℕ) → last_special f ns ≡ Some m → IsIn m ns
is_last m f [] e = absurd (let k : None ≡ Some m = e in cc)
is_last m f (n ∷ ns) e =
    last_step m n f ns (last_special f ns) (is_element_of special_elements (name_of n f)) (is_last m f ns) e

pub same_number : (n m : ℕ) → n ≡ m → (n == m) ≡ true
same_number n m e = grind (arith, nat_tests, e)

pub in_is : (n : ℕ) (ns : List ℕ) → IsIn n ns → is_in n ns ≡ true
in_is n [] i = absurd i
in_is n (m ∷ ms) (inl e) = ap (λ b. if b then true else is_in n ms) (same_number n m e)
in_is n (m ∷ ms) (inr i) = ap (λ b. if n == m then true else b) (in_is n ms i) ∙ both (n == m) where
  both : (b : Bool) → (if b then true else true) ≡ true
  both true = refl
  both false = refl

-- the walk begins
pub walk_begins : (n block : ℕ) (tag : Tag) (b : Building) → Sound b → is_in n b.stack ≡ true →
    is_in n (up_to scope_barriers b.forest b.stack) ≡ true → furthest_block n b ≡ Some block →
    tag_in n b.formatting ≡ Some tag → is_listed n (up_to_marker b.formatting) ≡ true →
    IsWalk n block tag (farther block (nearer n b.stack)) (farther n b.stack) (begun block b)
walk_begins n block tag b sound there scope found tagged listed =
    let near = nearer n b.stack in
    let block_there : IsIn block near = is_last block b.forest near found in
    let parts : near ≡ nearer block near ++ block ∷ farther block near =
    divided block near (in_is block near block_there) in
    let front = nearer block near ++ block ∷ [] in
    let cut : near ≡ front ++ farther block near =
    parts ∙ sym (append_assoc (nearer block near) (block ∷ []) (farther block near)) in
    let plain : (m : ℕ) → IsIn m near → is_foster_stop m b.forest ≡ false =
    λ m i. plain_in_scope n m b.forest b.stack scope i in
    record {
      uppers = front;
      sound = sound;
      whole = divided n b.stack there ∙ ap (λ ms. ms ++ n ∷ farther n b.stack) cut
          ∙ append_assoc front (farther block near) (n ∷ farther n b.stack);
      last_in = in_after block (nearer block near) (block ∷ []) (inl refl);
      block_in = in_after block (nearer block near) (block ∷ []) (inl refl);
      plain = λ m i. plain m (subst (IsIn m) (sym cut) (in_front_part m front (farther block near) i));
      plain_left = λ m i. plain m (subst (IsIn m) (sym cut) (in_after m front (farther block near) i));
      tagged = tagged;
      listed = listed;
    }

-- One step of it, with an element that the walk comes to.
module _ (n block m : ℕ) (tag : Tag) (left lows : List ℕ) (w : Walk) (laws : Laws)
    (walk : IsWalk n block tag (m ∷ left) lows w) where
  distinct : AreDistinct (walk.uppers ++ m ∷ (left ++ n ∷ lows))
  distinct = subst AreDistinct walk.whole walk.sound.distinct

  pub other : ¬ (n ≡ m)
  other e = not_after m walk.uppers (left ++ n ∷ lows) distinct
      (subst (λ k. IsIn k (left ++ n ∷ lows)) e (in_after n left (n ∷ lows) (inl refl)))

  pub is_open : IsIn m w.tree.stack
  is_open = subst (IsIn m) (sym walk.whole) (in_after m walk.uppers (m ∷ (left ++ n ∷ lows)) (inl refl))

  pub last_below : IsIn w.last (nearer m w.tree.stack)
  last_below = subst (IsIn w.last) (sym (ap (nearer m) walk.whole
      ∙ nearer_there m walk.uppers (left ++ n ∷ lows) distinct)) walk.last_in

  pub can_copy : (held : Tag) → tag_in m w.tree.formatting ≡ Some held → CanCopy m w.last held w.tree
  can_copy held e = record {
    is_open = is_open;
    listed = e;
    below_it = last_below;
  }

  taken_whole : left_out m w.tree.stack ≡ walk.uppers ++ (left ++ n ∷ lows)
  taken_whole = ap (left_out m) walk.whole ∙ left_out_there m walk.uppers (left ++ n ∷ lows) distinct

  taken_walk : IsWalk n block tag left lows (record w { tree = taken_off m w.tree })
  taken_walk = record {
    uppers = walk.uppers;
    sound = taken_off_sound m w.tree walk.sound;
    whole = taken_whole;
    last_in = walk.last_in;
    block_in = walk.block_in;
    plain = walk.plain;
    plain_left = λ k i. walk.plain_left k (inr i);
    tagged = walk.tagged;
    listed = walk.listed;
  }

  unlisted_walk : IsWalk n block tag left lows (record w { tree = taken_off m (unlisted m w.tree) })
  unlisted_walk = record {
    uppers = walk.uppers;
    sound = taken_off_sound m (unlisted m w.tree) (unlisted_sound m w.tree laws walk.sound);
    whole = taken_whole;
    last_in = walk.last_in;
    block_in = walk.block_in;
    plain = walk.plain;
    plain_left = λ k i. walk.plain_left k (inr i);
    tagged = tag_without n m w.tree.formatting other ∙ walk.tagged;
    listed = listed_after_without n m w.tree.formatting other ∙ walk.listed;
  }

  held_of : (k : ℕ) → IsIn k w.tree.stack → Holds k w.tree.forest
  held_of k i = laws.element_there k w.tree.forest (walk.sound.elements k i)

  front_open : (k : ℕ) → IsIn k walk.uppers → IsIn k w.tree.stack
  front_open k i = subst (IsIn k) (sym walk.whole) (in_front_part k walk.uppers (m ∷ (left ++ n ∷ lows)) i)

  left_open : (k : ℕ) → IsIn k (left ++ n ∷ lows) → IsIn k w.tree.stack
  left_open k i = subst (IsIn k) (sym walk.whole) (in_after k walk.uppers (m ∷ (left ++ n ∷ lows)) (inr i))

  not_new : ¬ (n ≡ nodes w.tree.forest)
  not_new e = not_itself n (subst (λ k. n < k) (sym e)
      (held_of n (left_open n (in_after n left (n ∷ lows) (inl refl)))))

  module _ (held : Tag) (tagged : tag_in m w.tree.formatting ≡ Some held) where
    copy_sound : Sound (copied m held w.last w.tree)
    copy_sound = copied_sound m w.last held w.tree laws walk.sound (can_copy held tagged)

    stop_stays : (k : ℕ) → IsIn k w.tree.stack → is_foster_stop k w.tree.forest ≡ false →
        is_foster_stop k (copied m held w.last w.tree).forest ≡ false
    stop_stays k i e = ap (λ kind. is_html (codes "template") (element_of kind).name
        || is_html (codes "table") (element_of kind).name)
        (copied_stays m w.last held w.tree laws walk.sound k (held_of k i)) ∙ e

    new_plain : is_foster_stop (nodes w.tree.forest) (copied m held w.last w.tree).forest ≡ false
    new_plain = no_stop (nodes w.tree.forest) held (copied m held w.last w.tree).forest
        (copy_sound.listed (nodes w.tree.forest) held
        (handed_is_listed m (nodes w.tree.forest) held w.tree.formatting tagged))

    one_more : (k : ℕ) → IsIn k (walk.uppers ++ nodes w.tree.forest ∷ []) →
        is_foster_stop k (copied m held w.last w.tree).forest ≡ false
    one_more k i = either (λ old. stop_stays k (front_open k old) (walk.plain k old))
        (λ e. ap (λ x. is_foster_stop x (copied m held w.last w.tree).forest) e ∙ new_plain)
        (in_one_more k (nodes w.tree.forest) walk.uppers i)

    copied_walk : (bookmark : Option ℕ) → IsWalk n block tag left lows (record {
      last = nodes w.tree.forest;
      bookmark = bookmark;
      tree = copied m held w.last w.tree;
    })
    copied_walk bookmark = record {
      uppers = walk.uppers ++ nodes w.tree.forest ∷ [];
      sound = copy_sound;
      whole = ap (replaced m (nodes w.tree.forest)) walk.whole
          ∙ replaced_there m (nodes w.tree.forest) walk.uppers (left ++ n ∷ lows) distinct
          ∙ sym (append_assoc walk.uppers (nodes w.tree.forest ∷ []) (left ++ n ∷ lows));
      last_in = in_after (nodes w.tree.forest) walk.uppers (nodes w.tree.forest ∷ []) (inl refl);
      block_in = in_front_part block walk.uppers (nodes w.tree.forest ∷ []) walk.block_in;
      plain = one_more;
      plain_left = λ k i. stop_stays k (left_open k (in_front_part k left (n ∷ lows) i)) (walk.plain_left k (inr i));
      tagged = tag_handed n m (nodes w.tree.forest) w.tree.formatting other not_new ∙ walk.tagged;
      listed = listed_after_handed n m (nodes w.tree.forest) w.tree.formatting other not_new ∙ walk.listed;
    }

  walk_by : (t : Option Tag) (is_late : Bool) → tag_in m w.tree.formatting ≡ t →
      IsWalk n block tag left lows (stepped t is_late block m w)
  walk_by None is_late e = taken_walk
  walk_by (Some held) true e = unlisted_walk
  walk_by (Some held) false e = copied_walk held e (bookmark_by (w.last == block) (nodes w.tree.forest) w.bookmark)

  pub walk_goes_on : (is_late : Bool) →
      IsWalk n block tag left lows (stepped (tag_in m w.tree.formatting) is_late block m w)
  walk_goes_on is_late = walk_by (tag_in m w.tree.formatting) is_late refl

-- where it ends, the last node may be placed, and the block's children taken over
module _ (n block : ℕ) (tag : Tag) (lows : List ℕ) (w : Walk) (walk : IsWalk n block tag [] lows w) where
  pub may_place : CanPlace w.last (walk.uppers ++ n ∷ []) lows w.tree
  may_place = record {
    whole = walk.whole ∙ sym (append_assoc walk.uppers (n ∷ []) lows);
    below_it = in_front_part w.last walk.uppers (n ∷ []) walk.last_in;
    plain = λ m i. either (λ old. walk.plain m old) (λ e. ap (λ x. is_foster_stop x w.tree.forest) e
        ∙ no_stop n tag w.tree.forest (walk.sound.listed n tag (tag_listed n tag w.tree.formatting walk.tagged)))
        (in_one_more m n walk.uppers i);
  }

  pub is_ancestor : IsAncestor w.last (first_of lows) w.tree
  is_ancestor = record { uppers = walk.uppers ++ n ∷ []; lows = lows; can = may_place; first = refl }

  pub may_take_over : (f : Forest) → CanTakeOver n block tag (record w.tree { forest = f })
  may_take_over f = record {
    is_open = subst (IsIn block) (sym walk.whole) (in_front_part block walk.uppers (n ∷ lows) walk.block_in);
    other = λ e. not_in_front n walk.uppers lows (subst AreDistinct walk.whole walk.sound.distinct)
        (subst (λ k. IsIn k walk.uppers) (sym e) walk.block_in);
    tagged = walk.tagged;
    listed = walk.listed;
  }
