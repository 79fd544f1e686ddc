-- What a mark comes to in a `noscript` of the head, and in an element of text in front of the body.
use Rattle.std.proofs.Common.{◌≡◌, ℕ, Bool, true, false, [], ◌∷◌, inl, inr, codes, refl, ap}
use Rattle.tree_forest.specs.Forest.{Holds, name_of}
use Rattle.html_lexemes.specs.declared.token.Tag.{Tag}
use Rattle.html_tree_state.specs.OpenElements.{below_current}
use Rattle.page_tree_laws.proofs.EarlyModes.{closed, noscript_closes}
use Rattle.page_tree_laws.proofs.EarlyPhases.{Comes, noscript_here}
use Rattle.page_tree_laws.proofs.EarlyRows.{HasPlace, comment_comes, head_start_comes, html_comes, is_metadata}
use Rattle.page_tree_laws.proofs.EarlyRows.{said_comes, stays_comes}
use Rattle.page_tree_laws.proofs.Phases.{IsEarly, IsEarlyStack, IsOther, IsPhase, body_to_come, in_head, in_noscript}
use Rattle.page_tree_laws.proofs.Phases.{past_head}
use Rattle.tree_names.specs.Groups.{tag_group}
use Rattle.tree_names.specs.declared.group.TagGroup.{TagGroup}
use Rattle.tree_names.specs.declared.group.TagGroup.TheVariants as groups
use Rattle.rules_table.specs.Actions.{act, act_all, at_place, go_back, in_html, is_text, out_of_text, pop}
use Rattle.rules_table.specs.InHead.{in_head_start}
use Rattle.rules_table.specs.InHeadNoscript.{in_head_noscript_end, in_head_noscript_start, in_head_noscript_text}
use Rattle.rules_table.specs.Rows.{for_character, is_white_space}
use Rattle.rules_table.specs.State.{TreeToken, State, character, comment, doctype, end_of_file, finish, null, start}
use Rattle.rules_table.specs.Table.{row}
use Rattle.rules_table.specs.TextMode.{text_mode_end}
use Rattle.rules_table.specs.declared.target.Target.TheVariants as targets
use Rattle.tree_predicates.specs.declared.modes.InsertionMode.TheVariants as modes

-- a `noscript` that is open in the head
record IsNoscript (root head n : ℕ) (s : State) : Type 0 where
  pub mode : s.mode ≡ modes.InHeadNoscript
  pub stack : s.tree.stack ≡ n ∷ head ∷ root ∷ []
  pub other : IsOther root head n
  pub held : Holds n s.tree.forest
  pub named : name_of n s.tree.forest ≡ in_html (codes "noscript")

module _ (is_framed : Bool) (root head : ℕ) where
  stands : (n : ℕ) (s : State) → IsNoscript root head n s → IsEarlyStack root head s
  stands n s is = in_noscript n is.mode is.stack is.other is.held is.named

  in_place_of_noscript : (n : ℕ) (s : State) → IsNoscript root head n s →
      HasPlace is_framed root head targets.AtPlace s
  in_place_of_noscript n s is = record {
    node = n;
    no_document = λ e. is.other (inl e);
    no_root = λ e. is.other (inr (inl e));
    at_here = λ k. noscript_here is_framed root head s n (head ∷ root ∷ []) is.stack is.named;
    in_head = λ k. absurd (let j : targets.AtPlace ≡ targets.IntoHead = k in cc);
  }

  metadata : (group : TagGroup) (t : Tag) (n : ℕ) (s : State) → is_metadata group ≡ true → IsEarly root head s →
      IsNoscript root head n s → Comes is_framed s (in_head_start at_place group t s)
  metadata group t n s own early is = head_start_comes is_framed root head targets.AtPlace group t s own early
      (stands n s is) (ap is_text is.mode) (in_place_of_noscript n s is)

  noscript_text : (is_space : Bool) (c n : ℕ) (s : State) → IsEarly root head s → IsNoscript root head n s →
      Comes is_framed s (for_character c (in_head_noscript_text is_space))
  noscript_text true c n s early is = said_comes is_framed root head c s early (stands n s is)
  noscript_text false c n s early is = noscript_closes is_framed root head s n early is.stack

  noscript_start : (group : TagGroup) (t : Tag) (n : ℕ) (s : State) → IsEarly root head s →
      IsNoscript root head n s → Comes is_framed s (in_head_noscript_start group t s)
  noscript_start groups.Html t n s early is = html_comes is_framed root head t s early (stands n s is)
  noscript_start groups.Link t n s early is = metadata groups.Link t n s refl early is
  noscript_start groups.Meta t n s early is = metadata groups.Meta t n s refl early is
  noscript_start groups.Noframes t n s early is = metadata groups.Noframes t n s refl early is
  noscript_start groups.Style t n s early is = metadata groups.Style t n s refl early is
  noscript_start groups.Head t n s early is = stays_comes is_framed root head s early (stands n s is)
  noscript_start groups.Noscript t n s early is = stays_comes is_framed root head s early (stands n s is)
  noscript_start group t n s early is = noscript_closes is_framed root head s n early is.stack

  noscript_end : (group : TagGroup) (n : ℕ) (s : State) → IsEarly root head s → IsNoscript root head n s →
      Comes is_framed s (in_head_noscript_end group)
  noscript_end groups.Noscript n s early is = noscript_closes is_framed root head s n early is.stack
  noscript_end groups.LineBreak n s early is = noscript_closes is_framed root head s n early is.stack
  noscript_end group n s early is = stays_comes is_framed root head s early (stands n s is)

  pub noscript_row : (mark : TreeToken) (n : ℕ) (s : State) → IsEarly root head s → s.mode ≡ modes.InHeadNoscript →
      s.tree.stack ≡ n ∷ head ∷ root ∷ [] → IsOther root head n → Holds n s.tree.forest →
      name_of n s.tree.forest ≡ in_html (codes "noscript") → Comes is_framed s (row modes.InHeadNoscript mark s)
  noscript_row mark n s early m e other held named = by mark where
    is : IsNoscript root head n s
    is = record { mode = m; stack = e; other = other; held = held; named = named }

    by : (k : TreeToken) → Comes is_framed s (row modes.InHeadNoscript k s)
    by (character c) = noscript_text (is_white_space c) c n s early is
    by null = noscript_closes is_framed root head s n early e
    by (comment cs) = comment_comes is_framed root head cs s early (stands n s is)
    by (doctype d) = stays_comes is_framed root head s early (stands n s is)
    by (start t) = noscript_start (tag_group t.name) t n s early is
    by (finish t) = noscript_end (tag_group t.name) n s early is
    by end_of_file = noscript_closes is_framed root head s n early e

  -- an element of text is popped, and the mode goes back
  text_left : (s : State) → IsEarly root head s → IsEarlyStack root head (act_all (pop ∷ go_back ∷ []) s) →
      IsPhase is_framed (act_all (pop ∷ go_back ∷ []) s)
  unfolding act
  text_left s early stack =
      body_to_come root head (closed is_framed root head s _ early refl refl refl refl refl refl refl) stack

  text_end : (group : TagGroup) (s : State) → IsEarly root head s →
      IsEarlyStack root head (act_all (pop ∷ go_back ∷ []) s) → Comes is_framed s (text_mode_end group s)
  text_end groups.Script s early stack = text_left s early stack
  text_end group s early stack = text_left s early stack

  pub text_row : (mark : TreeToken) (s : State) → IsEarly root head s → IsEarlyStack root head s →
      IsEarlyStack root head (act_all (pop ∷ go_back ∷ []) s) → Comes is_framed s (row modes.Text mark s)
  text_row (character c) s early stack trailing = said_comes is_framed root head c s early stack
  text_row null s early stack trailing = stays_comes is_framed root head s early stack
  text_row (comment cs) s early stack trailing = comment_comes is_framed root head cs s early stack
  text_row (doctype d) s early stack trailing = stays_comes is_framed root head s early stack
  text_row (start t) s early stack trailing = stays_comes is_framed root head s early stack
  text_row (finish t) s early stack trailing = text_end (tag_group t.name) s early trailing
  text_row end_of_file s early stack trailing = text_left s early trailing

  -- the three stacks after it
  pub after_head_text : (n : ℕ) (s : State) → s.original ≡ modes.InHead → s.tree.stack ≡ n ∷ head ∷ root ∷ [] →
      IsEarlyStack root head (act_all (pop ∷ go_back ∷ []) s)
  unfolding act
  after_head_text n s o e = in_head (ap out_of_text o) (ap below_current e)

  pub after_noscript_text : (m n : ℕ) (s : State) → s.original ≡ modes.InHeadNoscript →
      s.tree.stack ≡ m ∷ n ∷ head ∷ root ∷ [] → IsOther root head n → Holds n s.tree.forest →
      name_of n s.tree.forest ≡ in_html (codes "noscript") → IsEarlyStack root head (act_all (pop ∷ go_back ∷ []) s)
  unfolding act
  after_noscript_text m n s o e other held named =
      in_noscript n (ap out_of_text o) (ap below_current e) other held named

  pub after_text : (n : ℕ) (s : State) → s.original ≡ modes.AfterHead → s.tree.stack ≡ n ∷ root ∷ [] →
      IsEarlyStack root head (act_all (pop ∷ go_back ∷ []) s)
  unfolding act
  after_text n s o e = past_head (ap out_of_text o) (ap below_current e)
