-- How often elements stand in lists.
use Rattle.std.specs.Prelude.{ℕ, Bool, ◌==◌, List, count_by}
use Rattle.std.specs.List.{list_all}

-- how often an element stands in a list, where `equal` is the test of equality
abbrev pub count_of : {A : Type 0} → (A → A → Bool) → A → List A → ℕ
count_of equal a xs = count_by (λ x. equal x a) xs

-- each element of the first list stands equally often in both
abbrev pub stand_as_often : {A : Type 0} → (A → A → Bool) → List A → List A → Bool
stand_as_often equal xs ys = list_all (λ a. count_of equal a xs == count_of equal a ys) xs
