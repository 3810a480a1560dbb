-- Room among things that were made of texts. It serves the code alone.
use Rattle.std.specs.Prelude.{◌≡◌, ◌+◌, ◌≤◌, ◌++◌, ◌&&◌, ℕ, Bool, true, nat_le, nat_lt, List, [], ◌∷◌, length, if◌then◌else◌}
use Rattle.std.specs.Global.{Global}
use Rattle.std.specs.List.{sum_by, AllByRecursion}
use Rattle.std.specs.declared.rc.Rc.{Rc}
use Rattle.cc_answers.specs.declared.made.Made.{Made}

-- the texts of the things have two mebibytes at most, with those of a further thing
abbrev pub fit : {T : Type 0} → List (Made T) → ℕ → Bool
fit made size = nat_le (size + sum_by (λ it. it.size) made) 2097152

-- There is room for a further thing: there is none beside it, or there are less than eight, and they fit.
abbrev pub has_room : {T : Type 0} → List (Made T) → ℕ → Bool
has_room [] size = true
has_room (first ∷ rest) size = nat_lt (length (first ∷ rest)) 8 && fit (first ∷ rest) size

-- what is left of things where the first ones are given up, as few as have to be for there to be room for a further one
abbrev pub left_for : {T : Type 0} → ℕ → List (Made T) → List (Made T)
left_for size [] = []
left_for size (first ∷ rest) = if has_room (first ∷ rest) size then first ∷ rest else left_for size rest

-- one is kept behind the others, made of texts of so many bytes, or none is
abbrev pub IsKeptBehind : {T : Type 0} → List (Made (Rc T Global)) → T → ℕ → List (Made (Rc T Global)) → Type 0
IsKeptBehind {T} before value size behind =
    (new : List (Made (Rc T Global))) × (behind ≡ before ++ new) × (length new ≤ 1)
    × AllByRecursion (λ it. (it.value.value ≡ value) × (it.size ≡ size)) new
