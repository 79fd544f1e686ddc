-- Nodes that aren't there.
use Rattle.std.proofs.Common.{◌≡◌, ℕ, false, List, ◌++◌, ap, sym, ◌∙◌, append-nil}
use Rattle.std.specs.Bool.{nat_lt}
use Rattle.tree_forest.specs.Forest.{Forest, document, kind_at, nodes}
use Rattle.tree_forest.proofs.Depth.{kind_nowhere, test_false}
use Rattle.render_conversion.specs.Titles.{own_text}

-- they stand for documents
pub as_document : (n : ℕ) (f : Forest) → false ≡ nat_lt n (nodes f) → document ≡ kind_at n f
as_document n f h = sym (kind_nowhere n f (test_false n (nodes f) (sym h)))

pub no_text : (n : ℕ) (f : Forest) (cs : List ℕ) → false ≡ nat_lt n (nodes f) → cs ≡ cs ++ own_text (kind_at n f)
no_text n f cs h = sym (append-nil cs) ∙ ap (λ k. cs ++ own_text k) (as_document n f h)
