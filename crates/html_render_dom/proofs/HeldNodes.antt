-- What a write to one node leaves of all nodes.
use Rattle.std.proofs.Common.{◌≡◌, ℕ, List, Option, None, Some, option_map, sym, ap, ◌∙◌, slice_index_or, slice_set}
use Rattle.std.proofs.Math.Seq.{map-set_same}
use Rattle.std.proofs.lemmas.List.{map-set}
use Rattle.html_render_dom.specs.Siblings.{Links, spot_of, with_before, with_after, with_parent}
use Rattle.html_render_dom.specs.Nodes.{kind_of, kinds_in, links_in}
use Rattle.html_render_dom.specs.Numbers.{number_of}
use Rattle.html_render_dom.specs.declared.node.Handle.{Handle}
use Rattle.html_render_dom.specs.declared.node.Node.{Node as HeldNode}

abbrev links_with : (parent first last previous next : List (Option ℕ)) → Links
links_with a b c d e = record { parent = a; first = b; last = c; previous = d; next = e }

links_same : {a b c d e p q r s t : List (Option ℕ)} → a ≡ p → b ≡ q → c ≡ r → d ≡ s → e ≡ t →
    links_with a b c d e ≡ links_with p q r s t
links_same {a} {b} {c} {d} {e} {p} {q} {r} {s} {t} one two three four five = ap (λ v. links_with v b c d e) one
    ∙ ap (λ v. links_with p v c d e) two ∙ ap (λ v. links_with p q v d e) three
    ∙ ap (λ v. links_with p q r v e) four ∙ ap (λ v. links_with p q r s v) five

pub same_kinds : (xs : List HeldNode) (n : ℕ) (x y : HeldNode) → x ≡ slice_index_or xs n x → y.data ≡ x.data →
    kinds_in (slice_set xs n y) ≡ kinds_in xs
same_kinds xs n x y read is =
    map-set_same (λ v. kind_of v.data) xs n y x (ap kind_of is ∙ ap (λ v. kind_of v.data) read)

pub parent_written : (xs : List HeldNode) (n : ℕ) (o : Option Handle) (x : HeldNode) → x ≡ slice_index_or xs n x →
    links_in (slice_set xs n (record x { parent = o })) ≡ with_parent n (option_map number_of o) (links_in xs)
parent_written xs n o x read = links_same (map-set (λ v. option_map number_of v.parent) xs n (record x { parent = o }))
    (map-set_same (λ v. option_map number_of v.first) xs n (record x { parent = o }) x
    (ap (λ v. option_map number_of v.first) read))
    (map-set_same (λ v. option_map number_of v.last) xs n (record x { parent = o }) x
    (ap (λ v. option_map number_of v.last) read))
    (map-set_same (λ v. option_map number_of v.previous) xs n (record x { parent = o }) x
    (ap (λ v. option_map number_of v.previous) read))
    (map-set_same (λ v. option_map number_of v.next) xs n (record x { parent = o }) x
    (ap (λ v. option_map number_of v.next) read))

pub first_written : (xs : List HeldNode) (p : ℕ) (s o : Option Handle) (x : HeldNode) → x ≡ slice_index_or xs p x →
    s ≡ None → links_in (slice_set xs p (record x { first = o })) ≡ with_after (spot_of p (option_map number_of s))
    (option_map number_of o) (links_in xs)
first_written xs p s o x read is = links_same
    (map-set_same (λ v. option_map number_of v.parent) xs p (record x { first = o }) x
    (ap (λ v. option_map number_of v.parent) read))
    (map-set (λ v. option_map number_of v.first) xs p (record x { first = o }))
    (map-set_same (λ v. option_map number_of v.last) xs p (record x { first = o }) x
    (ap (λ v. option_map number_of v.last) read))
    (map-set_same (λ v. option_map number_of v.previous) xs p (record x { first = o }) x
    (ap (λ v. option_map number_of v.previous) read))
    (map-set_same (λ v. option_map number_of v.next) xs p (record x { first = o }) x
    (ap (λ v. option_map number_of v.next) read))
    ∙ ap (λ v. with_after (spot_of p (option_map number_of v)) (option_map number_of o) (links_in xs)) (sym is)

pub last_written : (xs : List HeldNode) (p : ℕ) (s o : Option Handle) (x : HeldNode) → x ≡ slice_index_or xs p x →
    s ≡ None → links_in (slice_set xs p (record x { last = o })) ≡ with_before (spot_of p (option_map number_of s))
    (option_map number_of o) (links_in xs)
last_written xs p s o x read is = links_same
    (map-set_same (λ v. option_map number_of v.parent) xs p (record x { last = o }) x
    (ap (λ v. option_map number_of v.parent) read))
    (map-set_same (λ v. option_map number_of v.first) xs p (record x { last = o }) x
    (ap (λ v. option_map number_of v.first) read))
    (map-set (λ v. option_map number_of v.last) xs p (record x { last = o }))
    (map-set_same (λ v. option_map number_of v.previous) xs p (record x { last = o }) x
    (ap (λ v. option_map number_of v.previous) read))
    (map-set_same (λ v. option_map number_of v.next) xs p (record x { last = o }) x
    (ap (λ v. option_map number_of v.next) read))
    ∙ ap (λ v. with_before (spot_of p (option_map number_of v)) (option_map number_of o) (links_in xs)) (sym is)

pub next_written : (xs : List HeldNode) (p : ℕ) (n : Handle) (s o : Option Handle) (x : HeldNode) → x ≡ slice_index_or
    xs (number_of n) x →
    s ≡ Some n → links_in (slice_set xs (number_of n) (record x { next = o })) ≡ with_after
    (spot_of p (option_map number_of s)) (option_map number_of o) (links_in xs)
next_written xs p n s o x read is = links_same
    (map-set_same (λ v. option_map number_of v.parent) xs (number_of n) (record x { next = o }) x
    (ap (λ v. option_map number_of v.parent) read))
    (map-set_same (λ v. option_map number_of v.first) xs (number_of n) (record x { next = o }) x
    (ap (λ v. option_map number_of v.first) read))
    (map-set_same (λ v. option_map number_of v.last) xs (number_of n) (record x { next = o }) x
    (ap (λ v. option_map number_of v.last) read))
    (map-set_same (λ v. option_map number_of v.previous) xs (number_of n) (record x { next = o }) x
    (ap (λ v. option_map number_of v.previous) read))
    (map-set (λ v. option_map number_of v.next) xs (number_of n) (record x { next = o }))
    ∙ ap (λ v. with_after (spot_of p (option_map number_of v)) (option_map number_of o) (links_in xs)) (sym is)

pub previous_written : (xs : List HeldNode) (p : ℕ) (n : Handle) (s o : Option Handle) (x : HeldNode) → x ≡
    slice_index_or xs (number_of n) x →
    s ≡ Some n → links_in (slice_set xs (number_of n) (record x { previous = o })) ≡ with_before
    (spot_of p (option_map number_of s)) (option_map number_of o) (links_in xs)
previous_written xs p n s o x read is = links_same
    (map-set_same (λ v. option_map number_of v.parent) xs (number_of n) (record x { previous = o }) x
    (ap (λ v. option_map number_of v.parent) read))
    (map-set_same (λ v. option_map number_of v.first) xs (number_of n) (record x { previous = o }) x
    (ap (λ v. option_map number_of v.first) read))
    (map-set_same (λ v. option_map number_of v.last) xs (number_of n) (record x { previous = o }) x
    (ap (λ v. option_map number_of v.last) read))
    (map-set (λ v. option_map number_of v.previous) xs (number_of n) (record x { previous = o }))
    (map-set_same (λ v. option_map number_of v.next) xs (number_of n) (record x { previous = o }) x
    (ap (λ v. option_map number_of v.next) read))
    ∙ ap (λ v. with_before (spot_of p (option_map number_of v)) (option_map number_of o) (links_in xs)) (sym is)

pub same_links : (xs : List HeldNode) (n : ℕ) (x y : HeldNode) → x ≡ slice_index_or xs n x → y.parent ≡ x.parent →
    y.first ≡ x.first → y.last ≡ x.last → y.previous ≡ x.previous → y.next ≡ x.next →
    links_in (slice_set xs n y) ≡ links_in xs
same_links xs n x y read parent first last previous next = links_same
    (map-set_same (λ v. option_map number_of v.parent) xs n y x
    (ap (option_map number_of) parent ∙ ap (λ v. option_map number_of v.parent) read))
    (map-set_same (λ v. option_map number_of v.first) xs n y x
    (ap (option_map number_of) first ∙ ap (λ v. option_map number_of v.first) read))
    (map-set_same (λ v. option_map number_of v.last) xs n y x
    (ap (option_map number_of) last ∙ ap (λ v. option_map number_of v.last) read))
    (map-set_same (λ v. option_map number_of v.previous) xs n y x
    (ap (option_map number_of) previous ∙ ap (λ v. option_map number_of v.previous) read))
    (map-set_same (λ v. option_map number_of v.next) xs n y x
    (ap (option_map number_of) next ∙ ap (λ v. option_map number_of v.next) read))
