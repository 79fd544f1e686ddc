use Rattle.std.proofs.Common.{rules, string_bytes, subst, Ordering}
use Rattle.std.proofs.lemmas.Str.{IsUtf8-string_bytes}
use Rattle.std.proofs.lemmas.Fn.{always_returns_same}
use Rattle.std.specs.Ordering.{nat_cmp}
use Rattle.std.specs.Cmp.Lexicographic.{slice_cmp}
use Rattle.std.specs.List.Sorted.{IsBinarySearchResult}
use Rattle.lex_base.specs.declared.table.Reference.{Reference}
use Rattle.lex_base.proofs.Utf8Order.{order_of_bytes}
use Rattle.lex_base.proofs.table.place_of.Goals as goal

pub returns-clause-position : goal.returns-clause-position
returns-clause-position c =
    subst (λ (key : Reference → Ordering). IsBinarySearchResult key c.args.references.now c.binary_search_by.result)
    (λ i r. order_of_bytes (string_bytes r.name) c.args.name.now (IsUtf8-string_bytes r.name) c.utf8.name i)
    (c.binary_search_by.ensures.position (λ r. slice_cmp nat_cmp (string_bytes r.name) c.args.name.now)
    (always_returns_same _ _ _ (λ a r f' q. search rules)))
