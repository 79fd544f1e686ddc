-- An end tag of formatting, where the element that it names is the current node.
use Rattle.std.proofs.Common.{◌≡◌, ◌&&◌, [], ◌∷◌, if◌then◌else◌, ◌∙◌, Bool, List, ap, bytes_eq, false, inl, inr, not}
use Rattle.std.proofs.Common.{refl, true, ℕ}
use Rattle.tree_formatting.specs.Entries.{Entry, formatted, is_listed}
use Rattle.tree_forest.specs.Forest.{Forest, name_of}
use Rattle.html_lexemes.specs.declared.token.Tag.{Tag}
use Rattle.html_tree_state.specs.Adoption.{adoption, after_turn, is_current_unlisted, over, turn, turns}
use Rattle.html_tree_state.specs.Building.{Building}
use Rattle.html_tree_state.specs.Scopes.{popped}
use Rattle.tree_names.specs.Sets.{is_html}
use Rattle.rules_table.specs.Actions.{act, adopt}
use Rattle.rules_table.specs.State.{State}
use Rattle.document_laws.proofs.Standing.{built, if_false, if_true, now, with_tree_now}
use Rattle.document_laws.proofs.Sublists.{AllUnder, AreOpen, IsSub, itself, sub_open, unlisted_above}

both_true : (x y : Bool) → x ≡ true → y ≡ false → (x && not y) ≡ true
both_true x y e k = rw (e, k)

not_both : (x y : Bool) → y ≡ true → (x && not y) ≡ false
not_both true y e = rw e
not_both false y e = refl

-- it isn't listed
unlisted_popped : (name : List ℕ) (b : Building) (o : ℕ) (low : List ℕ) (left : List Entry) (f : Forest) →
    is_html name (name_of o f) ≡ true → is_listed o left ≡ false →
    adoption name (built b (o ∷ low) left f) ≡ built b low left f
unfolding built
unlisted_popped name b o low left f is none =
    let here = built b (o ∷ low) left f in
    if_true (is_current_unlisted name here) (popped here) (turns 8 name here)
    (both_true (is_html name (name_of o f)) (is_listed o left) is none)

-- it is listed, as the last one
one_turn : (o : ℕ) (t : Tag) (b : Building) (low : List ℕ) (left : List Entry) (f : Forest) →
    bytes_eq t.name t.name ≡ true →
    turn t.name (built b (o ∷ low) (formatted o t ∷ left) f) ≡ over (built b low left f)
unfolding built
one_turn o t b low left f same =
    let i = itself o in rw (same, i, i, i)

listed_closed : (o : ℕ) (t : Tag) (b : Building) (low : List ℕ) (left : List Entry) (f : Forest) →
    bytes_eq t.name t.name ≡ true →
    adoption t.name (built b (o ∷ low) (formatted o t ∷ left) f) ≡ built b low left f
unfolding built
listed_closed o t b low left f same =
    let here = built b (o ∷ low) (formatted o t ∷ left) f in
    if_false (is_current_unlisted t.name here) (popped here) (turns 8 t.name here)
    (not_both (is_html t.name (name_of o f)) (is_listed o (formatted o t ∷ left))
    (ap (λ x. if x then true else is_listed o left) (itself o)))
    ∙ ap (λ x. after_turn x t.name (turns 7 t.name) here) (one_turn o t b low left f same)

-- what is left of the list
pub record IsClosed (b : Building) (o : ℕ) (low : List ℕ) (name : List ℕ) (left earlier : List Entry) (f : Forest) :
    Type 0 where
  pub after : List Entry
  pub sub : IsSub after earlier
  pub is : adoption name (built b (o ∷ low) left f) ≡ built b low after f

pub closes : (b : Building) (o : ℕ) (low : List ℕ) (t : Tag) (left earlier : List Entry) (f : Forest) →
    is_html t.name (name_of o f) ≡ true → bytes_eq t.name t.name ≡ true → IsSub left (formatted o t ∷ earlier) →
    AreOpen earlier low → AllUnder o low → IsClosed b o low t.name left earlier f
closes b o low t [] earlier f is same sub are under = record {
  after = [];
  sub = tt;
  is = unlisted_popped t.name b o low [] f is refl;
}
closes b o low t (x ∷ xs) earlier f is same (inl h) are under = record {
  after = xs;
  sub = h.1;
  is = ap (λ e. adoption t.name (built b (o ∷ low) (e ∷ xs) f)) h.0 ∙ listed_closed o t b low xs f same;
}
closes b o low t (x ∷ xs) earlier f is same (inr h) are under = record {
  after = x ∷ xs;
  sub = h;
  is = unlisted_popped t.name b o low (x ∷ xs) f is
      (unlisted_above o (x ∷ xs) low (sub_open (x ∷ xs) earlier low h are) under);
}

pub adopted_now : (s : State) (ok : Bool) (o : ℕ) (low : List ℕ) (name : List ℕ) (left earlier : List Entry)
    (f : Forest) → (closed : IsClosed s.tree o low name left earlier f) →
    act (adopt name) (now s ok (o ∷ low) left f) ≡ now s ok low closed.after f
unfolding act
adopted_now s ok o low name left earlier f closed =
    with_tree_now (adoption name) s ok (o ∷ low) low left closed.after f f closed.is
