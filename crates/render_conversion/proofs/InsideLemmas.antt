-- All that stands in a node in the end.
use Rattle.std.proofs.Common.{◌≡◌, ◌+◌, if◌then◌else◌, [], ◌∷◌, ◌++◌, ◌∙◌, Bool, List, ap, append_assoc, false, refl}
use Rattle.std.proofs.Common.{sym, true, ℕ}
use Rattle.render_values.specs.Arena.{flat}
use Rattle.render_values.specs.Values.{Values, joined, none, value}
use Rattle.render_values.specs.declared.node.RenderNode.{RenderNode}
use Rattle.render_values.specs.declared.style.RenderStyle.{RenderStyle}
use Rattle.std.specs.Prelude.{Option, None, Some}
use Rattle.render_values.proofs.ArenaLemmas.{flat_joined}
use Rattle.render_conversion.specs.Conversion.{content, content_by, inside_of}
use Rattle.render_conversion.specs.Inner.{children_in, closing, opening, place_of}
use Rattle.render_conversion.specs.Styles.{Part, Parts}
use Rattle.render_conversion.specs.declared.inner.Inner.{Inner}
use Rattle.render_conversion.specs.declared.inner.Inner.TheVariants.{Captioned, Children, Quoted, Spaced, TableParts}
use Rattle.render_conversion.specs.declared.place.Place.{Place}
use Rattle.render_conversion.specs.declared.place.Place.TheVariants.{Flow, Groups}

-- all that stands in a node in the end
pub grown : (xs : List RenderNode) (x : RenderNode) (v w : Values)
    → (xs ++ x ∷ flat v) ++ flat w ≡ xs ++ x ∷ flat (joined v w)
grown xs x v w =
    append_assoc xs (x ∷ flat v) (flat w) ∙ ap (λ l. xs ++ x ∷ l) (sym (flat_joined v w))

abbrev five : (o a b c d : Values) → Values
five o a b c d = joined (joined (joined (joined o a) b) c) d

pub all_inside : (xs : List RenderNode) (x : RenderNode) (o a b c d : Values)
    → (((((xs ++ x ∷ []) ++ flat o) ++ flat a) ++ flat b) ++ flat c) ++ flat d ≡ xs ++ x ∷ flat (five o a b c d)
all_inside xs x o a b c d =
    ap (λ l. (((l ++ flat a) ++ flat b) ++ flat c) ++ flat d) (grown xs x none o)
    ∙ (ap (λ l. ((l ++ flat b) ++ flat c) ++ flat d) (grown xs x o a)
    ∙ (ap (λ l. (l ++ flat c) ++ flat d) (grown xs x (joined o a) b)
    ∙ (ap (λ l. l ++ flat d) (grown xs x (joined (joined o a) b) c)
    ∙ grown xs x (joined (joined (joined o a) b) c) d)))

joined_assoc : (a b c : Values) → joined (joined a b) c ≡ joined a (joined b c)
joined_assoc none b c = refl
joined_assoc (value head inside rest) b c = ap (value head inside) (joined_assoc rest b c)

joined_none : (a : Values) → joined a none ≡ a
joined_none none = refl
joined_none (value head inside rest) = ap (value head inside) (joined_none rest)

-- a table has no texts by rules
no_content_by : (look : RenderStyle) (text : Option (List ℕ)) → content_by Groups look text ≡ none
no_content_by look None = refl
no_content_by look (Some cs) = refl

no_content_if : (hidden : Bool) (look : RenderStyle) (text : Option (List ℕ))
    → (if hidden then none else content_by Groups look text) ≡ none
no_content_if true look text = refl
no_content_if false look text = no_content_by look text

no_content : (part : Part) → content Groups part ≡ none
no_content part = no_content_if part.hidden part.look part.content

between : (o a b c d : Values) → five o a b c d ≡ joined o (joined (joined a (joined b c)) d)
between o a b c d =
    ap (λ v. joined (joined v c) d) (joined_assoc o a b)
    ∙ (ap (λ v. joined v d) (joined_assoc o (joined a b) c ∙ ap (joined o) (joined_assoc a b c))
    ∙ joined_assoc o (joined a (joined b c)) d)

alone : (b : Values) (before after : Part)
    → five none (content Groups before) b (content Groups after) none ≡ b
alone b before after =
    joined_none (joined (joined (content Groups before) b) (content Groups after))
    ∙ (ap (λ v. joined (joined v b) (content Groups after)) (no_content before)
    ∙ (ap (λ v. joined b v) (no_content after) ∙ joined_none b))

pub whole_inside : (inner : Inner) (style : Parts) (at : Place → Values)
    → five (opening inner) (content (place_of inner) style.before) (children_in inner at)
    (content (place_of inner) style.after) (closing inner) ≡ inside_of inner style at
whole_inside (Children place) style at =
    joined_none (joined (joined (content place style.before) (at place)) (content place style.after))
    ∙ joined_assoc (content place style.before) (at place) (content place style.after)
whole_inside Quoted style at =
    between (opening Quoted) (content Flow style.before) (at Flow) (content Flow style.after) (closing Quoted)
whole_inside Spaced style at =
    between (opening Spaced) (content Flow style.before) (at Flow) (content Flow style.after) (closing Spaced)
whole_inside TableParts style at = alone (children_in TableParts at) style.before style.after
whole_inside Captioned style at = alone (children_in Captioned at) style.before style.after
