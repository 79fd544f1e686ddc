-- Attributes are found equal where they are the same.
use Rattle.std.proofs.Common.{◌≡◌, ℕ, Bool, true, ◌&&◌, List, refl, ap, ap₂}
use Rattle.std.proofs.lemmas.Bool.{and_parts}
use Rattle.std.specs.Str.{bytes_eq}
use Rattle.std.specs.Bool.{Decides}
use Rattle.std.proofs.lemmas.Slice.Eq.{bytes_eq-Decides}
use Rattle.html_lexemes.specs.declared.names.Attribute.{Attribute}
use Rattle.html_lexemes.specs.declared.names.Namespace.{Namespace}
use Rattle.html_lexemes.specs.declared.names.Namespace.TheVariants.{Html, MathMl, Svg, Other}
use Rattle.html_lexemes.specs.declared.names.QualName.{QualName}
use Rattle.html_lexemes.specs.contracts.names.AttributePartialEq.TheImpl.{eq-value as attributes}
use Rattle.html_lexemes.specs.contracts.names.NamespacePartialEq.TheImpl.{eq-value as namespaces}
use Rattle.html_lexemes.specs.contracts.names.QualNamePartialEq.TheImpl.{eq-value as names}

namespace_decides : (a b : Namespace) → Decides (namespaces.it a b) (a ≡ b)
namespace_decides Html Html = (λ e. refl, λ e. refl)
namespace_decides Html MathMl = (λ e. cc, λ e. cc)
namespace_decides Html Svg = (λ e. cc, λ e. cc)
namespace_decides Html (Other u) = (λ e. cc, λ e. cc)
namespace_decides MathMl Html = (λ e. cc, λ e. cc)
namespace_decides MathMl MathMl = (λ e. refl, λ e. refl)
namespace_decides MathMl Svg = (λ e. cc, λ e. cc)
namespace_decides MathMl (Other u) = (λ e. cc, λ e. cc)
namespace_decides Svg Html = (λ e. cc, λ e. cc)
namespace_decides Svg MathMl = (λ e. cc, λ e. cc)
namespace_decides Svg Svg = (λ e. refl, λ e. refl)
namespace_decides Svg (Other u) = (λ e. cc, λ e. cc)
namespace_decides (Other t) Html = (λ e. cc, λ e. cc)
namespace_decides (Other t) MathMl = (λ e. cc, λ e. cc)
namespace_decides (Other t) Svg = (λ e. cc, λ e. cc)
namespace_decides (Other t) (Other u) =
    (λ e. ap Other ((bytes_eq-Decides t u).0 e), λ e. (bytes_eq-Decides t u).1 (let same : t ≡ u = cc in same))

both_true : (x y : Bool) → x ≡ true → y ≡ true → (x && y) ≡ true
both_true x y p q = ap₂ (λ a b. a && b) p q

make_name : Namespace → List ℕ → QualName
make_name n l = record { ns = n; local = l }

pub name_decides : (a b : QualName) → Decides (names.it a b) (a ≡ b)
unfolding make_name
name_decides a b = (
  (λ e. let p = and_parts (namespaces.it a.ns b.ns) (bytes_eq a.local b.local) e in
      ap₂ make_name ((namespace_decides a.ns b.ns).0 p.0) ((bytes_eq-Decides a.local b.local).0 p.1)),
  (λ e. both_true (namespaces.it a.ns b.ns) (bytes_eq a.local b.local)
      ((namespace_decides a.ns b.ns).1 (ap (λ n. n.ns) e))
      ((bytes_eq-Decides a.local b.local).1 (ap (λ n. n.local) e))),
)

make_attribute : QualName → List ℕ → Attribute
make_attribute n v = record { name = n; value = v }

pub attribute_decides : (a b : Attribute) → Decides (attributes.it a b) (a ≡ b)
unfolding make_attribute
attribute_decides a b = (
  (λ e. let p = and_parts (names.it a.name b.name) (bytes_eq a.value b.value) e in
      ap₂ make_attribute ((name_decides a.name b.name).0 p.0) ((bytes_eq-Decides a.value b.value).0 p.1)),
  (λ e. both_true (names.it a.name b.name) (bytes_eq a.value b.value)
      ((name_decides a.name b.name).1 (ap (λ n. n.name) e))
      ((bytes_eq-Decides a.value b.value).1 (ap (λ n. n.value) e))),
)
